-- What `::umem_verify` prints: a line for each chunk with a finding, and how many there are.
use Rattle.std.specs.Prelude.{List, [], ◌∷◌, ◌++◌, ℕ, Option, Some, None, codes, decimal, length}
use Rattle.std.specs.List.{flat_map}
use Rattle.umem_base.specs.Numbers.{hexadecimal}
use Rattle.buftag.specs.declared.finding.Finding.{Finding}
use Rattle.buftag.specs.declared.finding.Finding.TheVariants as findings
use Rattle.buftag.specs.declared.state.State.{State}
use Rattle.buftag.specs.declared.state.State.TheVariants.{Allocated, Free}
use Rattle.core_format.specs.declared.whole.Core.{Core}
use Rattle.heap_view.specs.Whatis.{name_in}
use Rattle.verify.specs.declared.line.Line.{Line}
use Rattle.verify.specs.Lines.{findings_of}
use Rattle.dcmd.specs.Columns.{line_of}

-- what a state is called
abbrev pub state_word : State → List ℕ
state_word Allocated = codes "allocated"
state_word Free = codes "free"

-- what a finding is called
abbrev pub finding_word : Finding → List ℕ
finding_word (findings.Content offset) = codes "content"
finding_word findings.Redzone = codes "redzone"
finding_word findings.SizeCode = codes "sizecode"
finding_word findings.GuardByte = codes "guard"
finding_word findings.BadTag = codes "tag"
finding_word (findings.Unconstructed offset) = codes "unconstructed"

-- the offset that a finding tells, if it tells one
abbrev pub finding_offset : Finding → Option ℕ
finding_offset (findings.Content offset) = Some offset
finding_offset findings.Redzone = None
finding_offset findings.SizeCode = None
finding_offset findings.GuardByte = None
finding_offset findings.BadTag = None
finding_offset (findings.Unconstructed offset) = Some offset

-- an offset behind a finding, where there is one
abbrev pub offset_words : Option ℕ → List (List ℕ)
offset_words None = []
offset_words (Some offset) = decimal offset ∷ []

-- the line of a chunk: where it stands, in which state it is, its cache, and what is wrong with it
abbrev pub finding_line : Core → Line → List ℕ
finding_line core line =
    line_of (hexadecimal line.address ∷ state_word line.state ∷ name_in core line.cache
    ∷ finding_word line.finding ∷ offset_words (finding_offset line.finding))

-- how many chunks were told
abbrev pub findings_count : List Line → List ℕ
findings_count lines = line_of (codes "findings" ∷ decimal (length lines) ∷ [])

-- the lines, and their number
unfoldable pub verify_text : Core → List ℕ
verify_text core = flat_map (finding_line core) (findings_of core) ++ findings_count (findings_of core)

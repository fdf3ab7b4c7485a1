-- What `::umem_contents` prints: a line for each freed buffer of which bytes were kept, the newest first.
use Rattle.std.specs.Prelude.{ℕ, List, [], ◌∷◌, codes, decimal, length, reverse}
use Rattle.std.specs.List.{flat_map}
use Rattle.hex.specs.Hex.{encode_lower}
use Rattle.umem_base.specs.Numbers.{hexadecimal}
use Rattle.case_table.specs.Addresses.{bufctl_address}
use Rattle.trans_log.specs.declared.record.Saved.{Saved}
use Rattle.core_format.specs.declared.whole.Core.{Core}
use Rattle.dcmd.specs.Columns.{line_of}

-- two hexadecimal digits a byte, or a dash where there is none
abbrev pub bytes_word : List ℕ → List ℕ
bytes_word [] = codes "-"
bytes_word (byte ∷ bytes) = encode_lower (byte ∷ bytes)

-- the line of an item: when it was freed, its bufctl, how many bytes were kept, and these
abbrev pub saved_line : Saved → List ℕ
saved_line saved =
    line_of (decimal saved.time ∷ hexadecimal (bufctl_address saved.chunk) ∷ decimal (length saved.bytes)
    ∷ bytes_word saved.bytes ∷ [])

-- the lines
unfoldable pub contents_text : Core → List ℕ
contents_text core = flat_map saved_line (reverse core.saved)

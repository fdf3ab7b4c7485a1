-- The bits by which the code tests the rows of the findings.
use Rattle.std.specs.Prelude.{ℕ, ◌==◌, Option, unwrap_or, if◌then◌else◌}
use Rattle.buftag.specs.declared.fact.Fact.{Fact}
use Rattle.buftag.specs.declared.fact.Fact.TheVariants.{Tag, Code, Guard, Low, Word, Pattern}
use Rattle.buftag.specs.declared.finding.Finding.{Finding}
use Rattle.buftag.specs.declared.finding.Finding.TheVariants.{BadTag, Content, GuardByte, Redzone, SizeCode}
use Rattle.buftag.specs.declared.kind.Kind.{Kind}
use Rattle.buftag.specs.declared.kind.Kind.TheVariants.{OfClass, Declared, Unused}

-- the bit of a kind of chunks
abbrev pub kind_bit : Kind → ℕ
kind_bit OfClass = 1
kind_bit Declared = 2
kind_bit Unused = 4

-- the bit of a fact
abbrev pub fact_bit : Fact → ℕ
fact_bit Tag = 1
fact_bit Code = 2
fact_bit Guard = 4
fact_bit Low = 8
fact_bit Word = 16
fact_bit Pattern = 32

-- what the fact of a bit is called
abbrev pub finding_of_bit : ℕ → Option ℕ → Finding
finding_of_bit bit wrong =
    if bit == fact_bit Tag then BadTag else (
    if bit == fact_bit Code then SizeCode else (
    if bit == fact_bit Guard then GuardByte else (
    if bit == fact_bit Pattern then Content (unwrap_or wrong 0) else Redzone)))

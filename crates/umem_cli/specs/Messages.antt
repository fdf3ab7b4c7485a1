-- The lines that go to the error stream.
use Rattle.std.specs.Prelude.{ℕ, List, [], ◌++◌, codes, decimal}
use Rattle.script.specs.ReasonWords.{reason_word}
use Rattle.core_format.specs.FaultWords.{fault_word}
use Rattle.dcmd.specs.declared.fault.DcmdFault.{DcmdFault}
use Rattle.dcmd.specs.FaultTexts.{fault_text}
use Rattle.umem_cli.specs.declared.refusal.Refusal.{Refusal}
use Rattle.umem_cli.specs.declared.refusal.Refusal.TheVariants.{BadCore, BadScript, CommandsFault, CommandsTooLong, CoreTooLong, NoFile, NoMemory, ReadFault}

-- the usage lines
abbrev pub usage_text : List ℕ
usage_text =
    codes "usage: umem run SCRIPT [--core FILE] [--debug LIST] [--logging LIST]\n"
    ++ (codes "usage: umem mdb CORE\n" ++ codes "usage: umem make --seed N --ops N [--debug LIST] [--logging LIST]\n")

-- what is said of something
abbrev pub about : List ℕ → List ℕ → List ℕ
about name said = codes "umem: " ++ (name ++ said)

-- what is wrong at a place that has a number
abbrev pub numbered_line : List ℕ → ℕ → List ℕ → List ℕ
numbered_line label number word = label ++ (decimal number ++ (codes ": " ++ (word ++ codes "\n")))

-- the line of a refusal, for the file of that name; want of memory has none
abbrev pub message_text : List ℕ → Refusal → List ℕ
message_text name (BadScript line reason) = about name (numbered_line (codes ": line ") line (reason_word reason))
message_text name CoreTooLong = about name (codes ": too long\n")
message_text name (BadCore offset fault) = about name (numbered_line (codes ": offset ") offset (fault_word fault))
message_text name NoFile = about name (codes ": no such file\n")
message_text name ReadFault = about name (codes ": read failed\n")
message_text name CommandsFault = about (codes "commands") (codes ": read failed\n")
message_text name CommandsTooLong = about (codes "commands") (codes ": too long\n")
message_text name NoMemory = []

-- the line of a refused line of commands, by its number
abbrev pub line_message : ℕ → DcmdFault → List ℕ
line_message number fault = numbered_line (codes "umem: line ") number (fault_text fault)

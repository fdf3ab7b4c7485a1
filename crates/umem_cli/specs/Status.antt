-- The numbers that the program exits with.
use Rattle.std.specs.Prelude.{ℕ}
use Rattle.umem_cli.specs.declared.status.Status.{Status}
use Rattle.umem_cli.specs.declared.status.Status.TheVariants.{Done, Refused, Usage, BadScript, BadCore, ReadFault, WriteFault, NoMemory, NoFile}

-- the number of a status
abbrev pub exit_number : Status → ℕ
exit_number Done = 0
exit_number Refused = 1
exit_number Usage = 2
exit_number BadScript = 3
exit_number BadCore = 4
exit_number ReadFault = 5
exit_number WriteFault = 6
exit_number NoMemory = 7
exit_number NoFile = 8

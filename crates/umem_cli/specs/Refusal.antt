-- Which refusal each fault is, and the status that it ends with.
use Rattle.umem_base.specs.declared.read_all_error.ReadAll.{ReadAll}
use Rattle.umem_base.specs.declared.read_all_error.ReadAll.TheVariants as all
use Rattle.umem_base.specs.declared.read_file_error.ReadFile.{ReadFile}
use Rattle.umem_base.specs.declared.read_file_error.ReadFile.TheVariants as read
use Rattle.script.specs.declared.reasons.Reason.TheVariants.{Limit}
use Rattle.script.specs.declared.fault.ScriptFault.{ScriptFault}
use Rattle.script.specs.declared.fault.ScriptFault.TheVariants as script
use Rattle.core_format.specs.declared.core_fault.CoreFault.{CoreFault}
use Rattle.core_format.specs.declared.core_fault.CoreFault.TheVariants as core
use Rattle.umem_cli.specs.declared.refusal.Refusal.{Refusal}
use Rattle.umem_cli.specs.declared.refusal.Refusal.TheVariants.{BadCore, BadScript, CommandsFault, CommandsTooLong, CoreTooLong, NoFile, NoMemory, ReadFault}
use Rattle.umem_cli.specs.declared.status.Status.{Status}
use Rattle.umem_cli.specs.declared.status.Status.TheVariants as status

-- why a script is not run of which the file was not read
abbrev pub refusal_of_read : ReadFile → Refusal
refusal_of_read read.Missing = NoFile
refusal_of_read read.ReadFault = ReadFault
refusal_of_read read.TooLong = BadScript 0 Limit
refusal_of_read read.NoMemory = NoMemory

-- why bytes are not run that are no script
abbrev pub refusal_of_script : ScriptFault → Refusal
refusal_of_script (script.Bad line reason) = BadScript line reason
refusal_of_script script.NoMemory = NoMemory

-- why there is no core of which the file was not read
abbrev pub refusal_of_file : ReadFile → Refusal
refusal_of_file read.Missing = NoFile
refusal_of_file read.ReadFault = ReadFault
refusal_of_file read.TooLong = CoreTooLong
refusal_of_file read.NoMemory = NoMemory

-- why bytes are no core
abbrev pub refusal_of_core : CoreFault → Refusal
refusal_of_core (core.Bad offset fault) = BadCore offset fault
refusal_of_core core.NoMemory = NoMemory

-- why there are no commands
abbrev pub refusal_of_commands : ReadAll → Refusal
refusal_of_commands all.ReadFault = CommandsFault
refusal_of_commands all.TooLong = CommandsTooLong
refusal_of_commands all.NoMemory = NoMemory

-- the status of a refusal whose line was written
abbrev pub status_of : Refusal → Status
status_of (BadScript line reason) = status.BadScript
status_of CoreTooLong = status.BadCore
status_of (BadCore offset fault) = status.BadCore
status_of NoFile = status.NoFile
status_of ReadFault = status.ReadFault
status_of CommandsFault = status.ReadFault
status_of CommandsTooLong = status.Refused
status_of NoMemory = status.NoMemory

-- What a file that was not read means for commands over a core, and what was read of it.
use Rattle.std.proofs.Common.{◌≡◌, ℕ, ◌≤◌, List, length, Option, sym, subst}
use Rattle.std.specs.Prelude.{Result, Ok, Err, IsErrAnd}
use Rattle.std.specs.Global.{Vec}
use Rattle.umem_base.specs.Folder.{Files, bytes_of, MayHave}
use Rattle.umem_base.specs.Transfer.{Are, ReadsAll, ReadsFile, CountsFault, CountsReadFault, LeavesBehind}
use Rattle.umem_base.specs.declared.read_all_error.ReadAll.{ReadAll}
use Rattle.umem_base.specs.declared.read_all_error.ReadAll.TheVariants as all
use Rattle.umem_base.specs.declared.read_file_error.ReadFile.{ReadFile}
use Rattle.umem_base.specs.declared.read_file_error.ReadFile.TheVariants as read
use Rattle.core_format.specs.declared.core_fault.CoreFault.{CoreFault}
use Rattle.core_format.specs.declared.core_fault.CoreFault.TheVariants as core
use Rattle.core_format.specs.declared.whole.Core.{Core}
use Rattle.core_format.specs.Cores.{core_of}
use Rattle.core_format.specs.Reader.{IsToldBy}
use Rattle.core_sizes.specs.declared.limits.TheConstants.{MOST_CORE_BYTES}
use Rattle.umem_cli.specs.declared.limits.TheConstants.{MOST_COMMAND_BYTES}
use Rattle.umem_cli.specs.declared.refusal.Refusal.{Refusal}
use Rattle.umem_cli.specs.Outcomes.{ReadsCommands, ReadsCore}
use Rattle.umem_cli.specs.Refusal.{refusal_of_commands, refusal_of_core, refusal_of_file}
use Rattle.umem_cli.specs.Sessions.{IsCommandsCause, IsCoreCause}

-- why there is no core of which the file was not read
pub core_not_read : (files : Files) (name : List ℕ) (before after : ℕ) (fault : ReadFile)
    → ReadsFile files name MOST_CORE_BYTES (Err fault) → CountsReadFault {T = Unit {0}} before after (Err fault) → IsCoreCause files name before after (refusal_of_file fault)
core_not_read files name before after read.Missing reads counts = (reads, counts)
core_not_read files name before after read.ReadFault reads counts = counts
core_not_read files name before after read.TooLong reads counts = (reads.0, reads.1, counts)
core_not_read files name before after read.NoMemory reads counts = (reads, counts)

core_cause : (files : Files) (name bytes : List ℕ) (before after : ℕ) (fault : CoreFault)
    → MayHave files name → Are (bytes_of files name) bytes → length bytes ≤ MOST_CORE_BYTES → after ≡ before → IsToldBy fault (core_of bytes) → IsCoreCause files name before after (refusal_of_core fault)
core_cause files name bytes before after (core.Bad offset fault) has are short same told =
    (record { file = has; bytes = bytes; read = are; short = short; bad = told }, same)
core_cause files name bytes before after core.NoMemory has are short same told = (has, same)

-- why bytes that were read are no core
pub bad_core : (files : Files) (name bytes : List ℕ) (before after : ℕ) (fault : CoreFault) (result : Result Core Refusal)
    → MayHave files name → Are (bytes_of files name) bytes → length bytes ≤ MOST_CORE_BYTES → after ≡ before → IsToldBy fault (core_of bytes)
    → IsErrAnd result (λ r. r ≡ refusal_of_core fault) → ReadsCore files name before after result
bad_core files name bytes before after fault (Ok one) has are short same told is = absurd is
bad_core files name bytes before after fault (Err why) has are short same told is =
    subst (λ (r : Refusal). IsCoreCause files name before after r) (sym is) (core_cause files name bytes before after fault has are short same told)

commands_cause : (input input_after : Option (List ℕ)) (before after : ℕ) (fault : ReadAll)
    → ReadsAll input MOST_COMMAND_BYTES (Err fault) → CountsFault {T = Unit {0}} before after (Err fault) → LeavesBehind input MOST_COMMAND_BYTES input_after (Err fault)
    → IsCommandsCause input input_after before after (refusal_of_commands fault)
commands_cause input input_after before after all.ReadFault reads counts leaves = (counts, leaves)
commands_cause input input_after before after all.TooLong reads counts leaves = (reads, counts, leaves)
commands_cause input input_after before after all.NoMemory reads counts leaves = (counts, leaves)

-- why there are no commands
pub no_commands : (input input_after : Option (List ℕ)) (before after : ℕ) (fault : ReadAll) (result : Result (Vec ℕ) Refusal)
    → ReadsAll input MOST_COMMAND_BYTES (Err fault) → CountsFault {T = Unit {0}} before after (Err fault) → LeavesBehind input MOST_COMMAND_BYTES input_after (Err fault)
    → IsErrAnd result (λ r. r ≡ refusal_of_commands fault) → ReadsCommands input input_after before after result
no_commands input input_after before after fault (Ok commands) reads counts leaves is = absurd is
no_commands input input_after before after fault (Err why) reads counts leaves is =
    subst (λ (r : Refusal). IsCommandsCause input input_after before after r) (sym is) (commands_cause input input_after before after fault reads counts leaves)

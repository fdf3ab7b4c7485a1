-- The texts of faults.
use Rattle.std.specs.Prelude.{ℕ, List, codes}
use Rattle.dcmd.specs.declared.fault.DcmdFault.{DcmdFault}
use Rattle.dcmd.specs.declared.fault.DcmdFault.TheVariants.{BadNumber, ExtraWords, NeedsAddress, TakesNoAddress, Unknown, UnknownWalker}

-- what is told of a fault
abbrev pub fault_text : DcmdFault → List ℕ
fault_text Unknown = codes "unknown dcmd"
fault_text UnknownWalker = codes "unknown walker"
fault_text BadNumber = codes "bad number"
fault_text NeedsAddress = codes "needs an address"
fault_text TakesNoAddress = codes "takes no address"
fault_text ExtraWords = codes "extra words"

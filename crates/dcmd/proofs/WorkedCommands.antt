-- Worked lines compute to their commands, or to why they are none.
use Rattle.std.proofs.Common.{◌≡◌, refl}
use Rattle.std.specs.Prelude.{codes, true, Some, None, Ok, Err}
use Rattle.dcmd.specs.declared.dcmd.Dcmd.TheVariants.{Umausers, UmemCache, WalkFreemem, WalkUmem, Whatis}
use Rattle.dcmd.specs.declared.fault.DcmdFault.TheVariants.{BadNumber, ExtraWords, NeedsAddress, TakesNoAddress, Unknown, UnknownWalker}
use Rattle.dcmd.specs.Commands.{command_of}

plain_worked : command_of (codes "::umem_cache") ≡ Ok UmemCache
plain_worked = refl

every_worked : command_of (codes "  :: umausers  -e ") ≡ Ok (Umausers true)
every_worked = refl

address_worked : command_of (codes "0x1aF::whatis") ≡ Ok (Whatis 431)
address_worked = refl

walk_worked : command_of (codes "::walk freemem") ≡ Ok (WalkFreemem None)
walk_worked = refl

cache_worked : command_of (codes "30000400 ::walk umem") ≡ Ok (WalkUmem (Some 805307392))
cache_worked = refl

unknown_worked : command_of (codes "zz::") ≡ Err Unknown
unknown_worked = refl

walker_worked : command_of (codes "zz::walk") ≡ Err UnknownWalker
walker_worked = refl

number_worked : command_of (codes "zz::umem_cache") ≡ Err BadNumber
number_worked = refl

prefix_worked : command_of (codes "0X5::whatis x") ≡ Err BadNumber
prefix_worked = refl

digits_worked : command_of (codes "0x::whatis") ≡ Err BadNumber
digits_worked = refl

needs_worked : command_of (codes "::whatis x") ≡ Err NeedsAddress
needs_worked = refl

takes_worked : command_of (codes "5::umem_cache x") ≡ Err TakesNoAddress
takes_worked = refl

extra_worked : command_of (codes "::umausers -e -e") ≡ Err ExtraWords
extra_worked = refl

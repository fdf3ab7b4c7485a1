-- Which command a line is, or why it is none.
use Rattle.std.specs.Prelude.{ℕ, Bool, true, false, nat_eq, if◌then◌else◌, List, [], ◌∷◌, codes, drop, Option, Some, None, Result, Ok, Err}
use Rattle.std.specs.List.{starts_with}
use Rattle.std.specs.Option.{ok_or, option_map}
use Rattle.std.specs.Str.{bytes_eq}
use Rattle.umem_base.specs.declared.bad_number.BadNumber.{BadNumber}
use Rattle.umem_base.specs.Lines.{words_of}
use Rattle.umem_base.specs.Numbers.{hex_of}
use Rattle.dcmd.specs.declared.dcmd.Dcmd.{Dcmd}
use Rattle.dcmd.specs.declared.dcmd.Dcmd.TheVariants as commands
use Rattle.dcmd.specs.declared.fault.DcmdFault.{DcmdFault}
use Rattle.dcmd.specs.declared.fault.DcmdFault.TheVariants as faults
use Rattle.dcmd.specs.declared.name.Name.{Name}
use Rattle.dcmd.specs.declared.name.Name.TheVariants as names
use Rattle.dcmd.specs.CommandNames.{name_among, plain_names, walk_names}

-- ---- the parts of a line

-- the bytes begin with the word
abbrev pub begins : List ℕ → List ℕ → Bool
begins word bytes = starts_with nat_eq bytes word

-- the parts with one byte more at the front of the first
abbrev pub onto_front : ℕ → Option (List ℕ × List ℕ) → Option (List ℕ × List ℕ)
onto_front byte None = None
onto_front byte (Some parts) = Some (byte ∷ parts.0, parts.1)

-- what stands before and behind the first two colons, if there are such
abbrev pub parts_of : List ℕ → Option (List ℕ × List ℕ)
parts_of [] = None
parts_of (byte ∷ bytes) =
    if begins (codes "::") (byte ∷ bytes) then Some ([], drop 1 bytes) else onto_front byte (parts_of bytes)

-- ---- the name

-- a name with the words behind it
abbrev pub Named : Type 0
Named = Name × List (List ℕ)

-- the one of some names that the first word tells, or a fault
abbrev pub first_named : List Name → DcmdFault → List (List ℕ) → Result Named DcmdFault
first_named names fault [] = Err fault
first_named names fault (word ∷ words) = ok_or (option_map (λ name. (name, words)) (name_among names word)) fault

-- the name that the words behind the colons tell; behind `walk` a walker is needed
abbrev pub named : List (List ℕ) → Result Named DcmdFault
named [] = Err faults.Unknown
named (word ∷ words) =
    if bytes_eq word (codes "walk") then first_named walk_names faults.UnknownWalker words
    else first_named plain_names faults.Unknown (word ∷ words)

-- ---- the address

-- the digits of a number, which `0x` may precede
abbrev pub digits_of : List ℕ → List ℕ
digits_of word = if begins (codes "0x") word then drop 2 word else word

-- a number that was read, as an address
abbrev pub address_read : Result ℕ BadNumber → Result (Option ℕ) DcmdFault
address_read (Ok address) = Ok (Some address)
address_read (Err fault) = Err faults.BadNumber

-- the address that the words before the colons tell; a number has no blank in it
abbrev pub address_in : List (List ℕ) → Result (Option ℕ) DcmdFault
address_in [] = Ok None
address_in (word ∷ []) = address_read (hex_of (digits_of word))
address_in (word ∷ next ∷ words) = Err faults.BadNumber

-- ---- the command

-- a command behind which no word stands
abbrev pub ended : Dcmd → List (List ℕ) → Result Dcmd DcmdFault
ended dcmd [] = Ok dcmd
ended dcmd (word ∷ words) = Err faults.ExtraWords

-- a command without an address and further words
abbrev pub alone : Dcmd → Option ℕ → List (List ℕ) → Result Dcmd DcmdFault
alone dcmd None words = ended dcmd words
alone dcmd (Some address) words = Err faults.TakesNoAddress

-- the users of memory: the large ones, or all where `-e` follows
abbrev pub users_in : List (List ℕ) → Result Dcmd DcmdFault
users_in [] = Ok (commands.Umausers false)
users_in (word ∷ words) =
    if bytes_eq word (codes "-e") then ended (commands.Umausers true) words else Err faults.ExtraWords

-- the users of memory, who have no address
abbrev pub users_at : Option ℕ → List (List ℕ) → Result Dcmd DcmdFault
users_at None words = users_in words
users_at (Some address) words = Err faults.TakesNoAddress

-- what stands at an address, which is needed
abbrev pub whatis_at : Option ℕ → List (List ℕ) → Result Dcmd DcmdFault
whatis_at None words = Err faults.NeedsAddress
whatis_at (Some address) words = ended (commands.Whatis address) words

-- the command of a name, an address and further words
abbrev pub command_at : Name → Option ℕ → List (List ℕ) → Result Dcmd DcmdFault
command_at names.UmemCache address words = alone commands.UmemCache address words
command_at names.UmemVerify address words = alone commands.UmemVerify address words
command_at names.UmemLog address words = alone commands.UmemLog address words
command_at names.UmemContents address words = alone commands.UmemContents address words
command_at names.Umausers address words = users_at address words
command_at names.Whatis address words = whatis_at address words
command_at names.Findleaks address words = alone commands.Findleaks address words
command_at names.WalkUmem address words = ended (commands.WalkUmem address) words
command_at names.WalkFreemem address words = ended (commands.WalkFreemem address) words

-- the command of a name and the words behind it, where an address was read or none stands there
abbrev pub command_addressed : Named → Result (Option ℕ) DcmdFault → Result Dcmd DcmdFault
command_addressed name (Ok address) = command_at name.0 address name.1
command_addressed name (Err fault) = Err fault

-- the command behind the words before the colons, where a name was read: the address is looked at behind the name
abbrev pub command_named : List (List ℕ) → Result Named DcmdFault → Result Dcmd DcmdFault
command_named before (Ok name) = command_addressed name (address_in before)
command_named before (Err fault) = Err fault

-- the command of the parts of a line
abbrev pub command_in : Option (List ℕ × List ℕ) → Result Dcmd DcmdFault
command_in None = Err faults.Unknown
command_in (Some parts) = command_named (words_of parts.0) (named (words_of parts.1))

-- the command that a line is, or the first fault that it has
abbrev pub command_of : List ℕ → Result Dcmd DcmdFault
command_of line = command_in (parts_of line)

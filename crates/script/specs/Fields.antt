-- What a word of a line has to be, the reason for which it is refused, and what it says.
use Rattle.std.specs.Prelude.{ℕ, ◌+◌, Bool, true, false, not, ◌&&◌, ◌||◌, ◌==◌, nat_le, nat_lt, if◌then◌else◌, List, [], ◌∷◌, length, map, Option, Some, None, unwrap_or, is_ok, is_some, position, slice_index}
use Rattle.std.specs.List.{list_all, list_any}
use Rattle.std.specs.Option.{option_map}
use Rattle.std.specs.Result.{result_unwrap_or}
use Rattle.std.specs.Str.{bytes_eq}
use Rattle.std.specs.Str.Parse.{digits_value}
use Rattle.hex.specs.Hex.{decode_of, decode_sized}
use Rattle.umem_base.specs.Cut.{cut}
use Rattle.umem_base.specs.Numbers.{is_decimal, hex_of}
use Rattle.case_table.specs.CacheName.{is_cache_name, is_reserved_name}
use Rattle.case_table.specs.declared.cache_def.CacheDef.{CacheDef}
use Rattle.case_table.specs.declared.limits.TheConstants.{CLASS_COUNT}
use Rattle.case_table.specs.declared.slab_formulas.TheConstants.{ALIGNS}
use Rattle.script.specs.declared.limits.TheConstants.{FIRST_OWN_SLOT, MOST_FRAMES, MOST_STORED}
use Rattle.script.specs.declared.reasons.Reason.{Reason}
use Rattle.script.specs.declared.reasons.Reason.TheVariants.{Thread, Slot, Unknown, Number, Range, Name}
use Rattle.script.specs.declared.tree.Header.{Header}

-- what a word may have to be
pub data Kind : Type 0 where
  thread : Kind
  slot : Kind
  cache : Kind
  decimal_in : ℕ → ℕ → Kind
  alignment : Kind
  stored : Kind
  constructor_byte : Kind
  frames : Kind
  new_name : Kind

-- the number that decimal digits spell
abbrev pub number_in : List ℕ → ℕ
number_in word = digits_value 10 word

-- decimal digits, and the place of a word in a root page
abbrev pub is_place : List ℕ → Bool
is_place digits = is_decimal digits && nat_lt (number_in digits) FIRST_OWN_SLOT

-- a dollar sign, or in version 2 a percent sign too, and the number of a root word
abbrev pub is_slot : ℕ → List ℕ → Bool
is_slot version [] = false
is_slot version (sign ∷ digits) = (sign == 36 || (sign == 37 && version == 2)) && is_place digits

-- the slot of a word: own ones are numbered behind the shared ones
abbrev pub slot_in : List ℕ → ℕ
slot_in [] = 0
slot_in (sign ∷ digits) = if sign == 37 then FIRST_OWN_SLOT + number_in digits else number_in digits

-- the number of the cache that is declared under the name, behind the size classes
abbrev pub declared_number : List CacheDef → List ℕ → Option ℕ
declared_number caches name =
    option_map (λ place. CLASS_COUNT + place) (position (λ def. bytes_eq name def.name) caches)

-- a cache is declared under the name
abbrev pub is_cache_declared : List CacheDef → List ℕ → Bool
is_cache_declared caches name = is_some (declared_number caches name)

-- the number of a cache by its name
abbrev pub cache_in : List CacheDef → List ℕ → ℕ
cache_in caches name = unwrap_or (declared_number caches name) 0

-- one of the alignments that a cache may have
abbrev pub is_alignment : ℕ → Bool
is_alignment align = list_any (λ one. one == align) ALIGNS

-- the bytes of which each is written as two hexadecimal digits
abbrev pub paired_bytes : List ℕ → List ℕ
paired_bytes word = result_unwrap_or (decode_of word) []

-- the byte that two hexadecimal digits write
abbrev pub paired_byte : List ℕ → ℕ
paired_byte word = slice_index (result_unwrap_or (decode_sized word 1) []) 0

-- the parts between the commas
abbrev pub frame_words : List ℕ → List (List ℕ)
frame_words word = cut 44 word

-- a hexadecimal number of 64 bits
abbrev pub is_frame : List ℕ → Bool
is_frame part = is_ok (hex_of part)

-- the number that hexadecimal digits spell
abbrev pub frame_in : List ℕ → ℕ
frame_in part = digits_value 16 part

-- the frames of a stack's word
abbrev pub frames_in : List ℕ → List ℕ
frames_in word = map frame_in (frame_words word)

-- a reason where something does not hold
abbrev pub unless_holds : Bool → Reason → Option Reason
unless_holds holds reason = if holds then None else Some reason

-- digits come before limits
abbrev pub number_fault : Bool → Bool → Option Reason
number_fault has_digits fits = if has_digits then unless_holds fits Range else Some Number

-- below the number of threads
abbrev pub thread_fault : ℕ → List ℕ → Option Reason
thread_fault threads word = unless_holds (nat_lt (number_in word) threads) Thread

-- a place of a word in a root page
abbrev pub place_fault : List ℕ → Option Reason
place_fault digits = unless_holds (is_place digits) Slot

-- a slot of the version
abbrev pub slot_fault : ℕ → List ℕ → Option Reason
slot_fault version word = unless_holds (is_slot version word) Slot

-- the name of a cache that is declared
abbrev pub cache_fault : List CacheDef → List ℕ → Option Reason
cache_fault caches word = unless_holds (is_cache_declared caches word) Unknown

-- decimal digits, and a number within the limits
abbrev pub decimal_fault : ℕ → ℕ → List ℕ → Option Reason
decimal_fault least most word =
    number_fault (is_decimal word) (nat_le least (number_in word) && nat_le (number_in word) most)

-- decimal digits, and one of the alignments
abbrev pub alignment_fault : List ℕ → Option Reason
alignment_fault word = number_fault (is_decimal word) (is_alignment (number_in word))

-- pairs of hexadecimal digits, and not too many
abbrev pub stored_fault : List ℕ → Option Reason
stored_fault word = number_fault (is_ok (decode_of word)) (nat_le (length (paired_bytes word)) MOST_STORED)

-- one pair of hexadecimal digits
abbrev pub constructor_fault : List ℕ → Option Reason
constructor_fault word = number_fault (is_ok (decode_sized word 1)) true

-- a hexadecimal number of 64 bits
abbrev pub frame_fault : List ℕ → Option Reason
frame_fault part = unless_holds (is_frame part) Number

-- hexadecimal numbers of 64 bits with a comma between two, and not too many
abbrev pub frames_fault : List ℕ → Option Reason
frames_fault word = number_fault (list_all is_frame (frame_words word)) (nat_le (length (frame_words word)) MOST_FRAMES)

-- a name that a cache may have, that is not reserved, and under which none is declared
abbrev pub name_fault : List CacheDef → List ℕ → Option Reason
name_fault caches word =
    unless_holds (is_cache_name word && not (is_reserved_name word) && not (is_cache_declared caches word)) Name

-- the reason for which a word is refused behind a header
abbrev pub fault_of : Header → Kind → List ℕ → Option Reason
fault_of header thread word = thread_fault header.threads word
fault_of header slot word = slot_fault header.version word
fault_of header cache word = cache_fault header.caches word
fault_of header (decimal_in least most) word = decimal_fault least most word
fault_of header alignment word = alignment_fault word
fault_of header stored word = stored_fault word
fault_of header constructor_byte word = constructor_fault word
fault_of header frames word = frames_fault word
fault_of header new_name word = name_fault header.caches word

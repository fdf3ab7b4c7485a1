-- Numbers as text: how they are printed, and which digits are read.
use Rattle.std.specs.Prelude.{ℕ, ◌-◌, ◌^◌, Bool, false, List, ◌++◌, length, replicate, Result, Ok, Err, nat_lt, ◌&&◌, if◌then◌else◌}
use Rattle.std.specs.Fmt.{digits}
use Rattle.std.specs.Char.{is_ascii_digit, is_ascii_hexdigit}
use Rattle.std.specs.List.{list_all}
use Rattle.std.specs.Str.Parse.{digits_value}
use Rattle.umem_base.specs.declared.bad_number.BadNumber.{BadNumber}
use Rattle.umem_base.specs.declared.bad_number.BadNumber.TheVariants.{NotDigits, TooLarge}

-- lower-case hexadecimal digits without leading zeros
abbrev pub hexadecimal : ℕ → List ℕ
hexadecimal n = digits 16 false n

-- the bytes with as many spaces before them as make `width` bytes
abbrev pub right_aligned : ℕ → List ℕ → List ℕ
right_aligned width bytes = replicate (width - length bytes) 32 ++ bytes

-- one decimal digit or more, and nothing else
abbrev pub is_decimal : List ℕ → Bool
is_decimal bytes = nat_lt 0 (length bytes) && list_all is_ascii_digit bytes

-- one hexadecimal digit or more, of either case, and nothing else
abbrev pub is_hex : List ℕ → Bool
is_hex bytes = nat_lt 0 (length bytes) && list_all is_ascii_hexdigit bytes

-- a number below 2 ^ 64
abbrev pub fitting : ℕ → Result ℕ BadNumber
fitting number = if nat_lt number (2 ^ 64) then Ok number else Err TooLarge

-- the number that decimal digits spell, leading zeros allowed, or why there is none
abbrev pub decimal_of : List ℕ → Result ℕ BadNumber
decimal_of bytes = if is_decimal bytes then fitting (digits_value 10 bytes) else Err NotDigits

-- the number that hexadecimal digits spell, leading zeros allowed, or why there is none
abbrev pub hex_of : List ℕ → Result ℕ BadNumber
hex_of bytes = if is_hex bytes then fitting (digits_value 16 bytes) else Err NotDigits

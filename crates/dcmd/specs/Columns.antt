-- Lines of columns. The width of a column is a least one.
use Rattle.std.specs.Prelude.{ℕ, ◌-◌, List, [], ◌∷◌, ◌++◌, length, replicate, decimal}
use Rattle.std.specs.List.{join_with_byte}
use Rattle.umem_base.specs.Numbers.{hexadecimal, right_aligned}
use Rattle.dcmd.specs.declared.column.Column.{Column}
use Rattle.dcmd.specs.declared.column.Column.TheVariants as columns

-- the bytes with as many spaces behind them as make `width` bytes
abbrev pub left_aligned : ℕ → List ℕ → List ℕ
left_aligned width bytes = bytes ++ replicate (width - length bytes) 32

-- the bytes with as many zeros before them as make `width` bytes
abbrev pub after_zeros : ℕ → List ℕ → List ℕ
after_zeros width bytes = replicate (width - length bytes) 48 ++ bytes

-- a number in decimal, right in a width
abbrev pub right_decimal : ℕ → ℕ → List ℕ
right_decimal width number = right_aligned width (decimal number)

-- a number in hexadecimal, right in a width
abbrev pub right_hexadecimal : ℕ → ℕ → List ℕ
right_hexadecimal width number = right_aligned width (hexadecimal number)

-- a number in hexadecimal, with leading zeros
abbrev pub padded_hexadecimal : ℕ → ℕ → List ℕ
padded_hexadecimal width number = after_zeros width (hexadecimal number)

-- columns with one space between two, and the end of the line
unfoldable pub line_of : List (List ℕ) → List ℕ
line_of texts = join_with_byte 32 texts ++ 10 ∷ []

-- what is printed for a column
abbrev pub column_text : Column → List ℕ
column_text (columns.Word bytes) = bytes.now
column_text (columns.Decimal value) = decimal value
column_text (columns.Hex value) = hexadecimal value
column_text (columns.LeftWord width bytes) = left_aligned width bytes.now
column_text (columns.RightDecimal width value) = right_decimal width value
column_text (columns.RightHex width value) = right_hexadecimal width value
column_text (columns.PaddedHex width value) = padded_hexadecimal width value

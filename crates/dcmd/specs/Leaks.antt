-- What `::findleaks` prints: a line for each leaked buffer, and what there is of both classes.
use Rattle.std.specs.Prelude.{◌≡◌, ℕ, List, [], ◌∷◌, ◌++◌, Option, Some, None, codes, decimal, length}
use Rattle.std.specs.List.{flat_map, sum_by}
use Rattle.umem_base.specs.Numbers.{hexadecimal}
use Rattle.case_table.specs.Addresses.{bufctl_address}
use Rattle.core_format.specs.declared.whole.Core.{Core}
use Rattle.heap_view.specs.declared.buffer.Buffer.{Buffer}
use Rattle.heap_view.specs.Buffers.{buffers_of}
use Rattle.findleaks.specs.Classes.{AreParted}
use Rattle.dcmd.specs.Columns.{line_of}
use Rattle.dcmd.specs.Names.{source_name}

-- where the bufctl of a chunk stands; a large buffer has none
abbrev pub bufctl_word : Option ℕ → List ℕ
bufctl_word None = codes "-"
bufctl_word (Some chunk) = hexadecimal (bufctl_address chunk)

-- the line of a leaked buffer
abbrev pub leak_line : Core → Buffer → List ℕ
leak_line core buffer =
    line_of (hexadecimal buffer.address ∷ source_name core buffer.cache ∷ decimal buffer.size
    ∷ bufctl_word buffer.chunk ∷ [])

-- the bytes of buffers
abbrev pub sum_of_sizes : List Buffer → ℕ
sum_of_sizes buffers = sum_by (λ (b : Buffer). b.size) buffers

-- how many buffers are reached, how many leaked, and the bytes of these
abbrev pub leaks_count : List Buffer → List Buffer → List ℕ
leaks_count reached leaked =
    line_of (codes "reached" ∷ decimal (length reached) ∷ codes "leaked" ∷ decimal (length leaked)
    ∷ codes "bytes" ∷ decimal (sum_of_sizes leaked) ∷ [])

-- what is printed of the two classes
abbrev pub leaks_text : Core → List Buffer → List Buffer → List ℕ
leaks_text core reached leaked = flat_map (leak_line core) leaked ++ leaks_count reached leaked

-- the text tells the reached and the leaked buffers of the core
pub record TellsLeaks (core : Core) (text : List ℕ) : Type 0 where
  pub reached : List Buffer
  pub leaked : List Buffer
  pub are : AreParted core (buffers_of core) reached leaked
  pub told : text ≡ leaks_text core reached leaked

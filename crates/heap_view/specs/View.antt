-- What a view keeps beside its core. Contracts see the core alone, since the rest follows from it.
use Rattle.std.specs.Prelude.{◌≡◌, ℕ, Bool, List, if◌then◌else◌}
use Rattle.std.specs.List.Sorted.{IsNonDecreasing}
use Rattle.case_table.specs.declared.slab_quantities.Geometry.{Geometry}
use Rattle.core_format.specs.declared.whole.Core.{Core}
use Rattle.core_format.specs.Chunks.{allocated_in, free_in, is_chunk_in, is_held}
use Rattle.core_format.specs.Cores.{MeetsTheRules}
use Rattle.core_format.specs.Items.{has_number}
use Rattle.heap_view.specs.declared.buffer.Buffer.{Buffer}
use Rattle.heap_view.specs.Buffers.{buffers_of, free_buffers_of}
use Rattle.heap_view.specs.Layout.{IsLaidOut, geometries_of}

-- the numbers rise, and are those that pass a test
pub record AreThose (test : ℕ → Bool) (numbers : List ℕ) : Type 0 where
  pub rise : IsNonDecreasing numbers
  pub are : (n : ℕ) → has_number numbers n ≡ test n

-- the core meets the rules, and the lists are its buffers, its free chunks, the numbers of all chunks and of those
-- that stand in a list or a magazine, and the quantities of the slabs of each cache
pub record IsView (core : Core) (buffers free : List Buffer) (chunks held : List ℕ) (geometries : List Geometry)
    : Type 0 where
  pub rules : MeetsTheRules core
  pub laid_out : IsLaidOut core
  pub buffers_are : buffers ≡ buffers_of core
  pub free_are : free ≡ free_buffers_of core
  pub chunks_are : AreThose (is_chunk_in core) chunks
  pub held_are : AreThose (is_held core) held
  pub geometries_are : geometries ≡ geometries_of core

-- the chunks that are free, or those that are allocated
abbrev pub is_in_state : Core → Bool → ℕ → Bool
is_in_state core is_free chunk = if is_free then free_in core chunk else allocated_in core chunk

-- The two classes of allocated buffers, and how many words are looked up for them.
use Rattle.std.specs.Prelude.{◌≡◌, ◌⊎◌, ℕ, ◌+◌, ◌*◌, true, false, List, [], ◌∷◌, length, Some, slice_get}
use Rattle.std.specs.List.{sum_by}
use Rattle.umem_base.specs.declared.roots.TheConstants.{ROOT_WORDS}
use Rattle.core_format.specs.declared.whole.Core.{Core}
use Rattle.heap_view.specs.declared.buffer.Buffer.{Buffer}
use Rattle.heap_view.specs.Buffers.{buffers_of}
use Rattle.heap_view.specs.Memory.{word_count}
use Rattle.heap_view.specs.Reached.{IsLeaked, IsReached}
use Rattle.findleaks.specs.Found.{Found, is_marked}

-- each of the buffers is in one of two lists, in the order of the buffers: in the first one where it is reached, and
-- in the second one where it is leaked
abbrev pub AreParted : Core → List Buffer → List Buffer → List Buffer → Type 0
AreParted core [] reached leaked = (reached ≡ []) × (leaked ≡ [])
AreParted core (buffer ∷ buffers) reached leaked =
    ((rest : List Buffer) × (reached ≡ buffer ∷ rest) × IsReached core buffer × AreParted core buffers rest leaked)
    ⊎ ((rest : List Buffer) × (leaked ≡ buffer ∷ rest) × IsLeaked core buffer × AreParted core buffers reached rest)

-- the words of all root segments, and the whole words of these buffers
abbrev pub look_ups : Core → List Buffer → ℕ
look_ups core buffers = ROOT_WORDS * (1 + length core.own) + sum_by word_count buffers

-- a buffer is marked exactly where it is reached
pub record IsSettled (core : Core) (found : Found) : Type 0 where
  pub reached : (index : ℕ) (buffer : Buffer) → slice_get (buffers_of core) index ≡ Some buffer
      → is_marked found index ≡ true → IsReached core buffer
  pub leaked : (index : ℕ) (buffer : Buffer) → slice_get (buffers_of core) index ≡ Some buffer
      → is_marked found index ≡ false → IsLeaked core buffer

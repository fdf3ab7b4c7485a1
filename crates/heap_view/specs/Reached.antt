-- Which buffers can be reached from the roots, and which are leaked.
use Rattle.std.specs.Prelude.{ℕ, List, [], ◌∷◌, Any, Contains}
use Rattle.core_format.specs.declared.whole.Core.{Core}
use Rattle.heap_view.specs.declared.buffer.Buffer.{Buffer}
use Rattle.heap_view.specs.Buffers.{buffers_of}
use Rattle.heap_view.specs.Memory.{root_words, words_in}
use Rattle.heap_view.specs.Points.{PointsTo}

-- one of the words points to the buffer
abbrev pub HasPointerTo : List ℕ → Buffer → Type 0
HasPointerTo words buffer = Any (λ word. PointsTo word buffer) words

-- a root word points to the last of the buffers before this one, each of them is allocated and has a word that
-- points to the one in front of it, and the first of them has one that points to this one
abbrev pub IsReachedBy : Core → List Buffer → Buffer → Type 0
IsReachedBy core [] buffer = HasPointerTo (root_words core) buffer
IsReachedBy core (before ∷ chain) buffer =
    Contains (buffers_of core) before × HasPointerTo (words_in core before) buffer × IsReachedBy core chain before

-- the buffer is allocated, and a chain of buffers leads to it from a root word
abbrev pub IsReached : Core → Buffer → Type 0
IsReached core buffer = Contains (buffers_of core) buffer × ((chain : List Buffer) × IsReachedBy core chain buffer)

-- the buffer is allocated, and none does
abbrev pub IsLeaked : Core → Buffer → Type 0
IsLeaked core buffer = Contains (buffers_of core) buffer × (IsReached core buffer → ⊥)

-- Chains of pointers from a buffer on, and cores with other root words.
use Rattle.std.specs.Prelude.{ℕ, List, [], ◌∷◌, Contains}
use Rattle.core_format.specs.declared.items.OwnRoot.{OwnRoot}
use Rattle.core_format.specs.declared.whole.Core.{Core}
use Rattle.heap_view.specs.declared.buffer.Buffer.{Buffer}
use Rattle.heap_view.specs.Buffers.{buffers_of}
use Rattle.heap_view.specs.Memory.{root_words, words_in}
use Rattle.heap_view.specs.Reached.{HasPointerTo}

-- a word of the start points to the last of the buffers before this one, each of them is allocated and has a word
-- that points to the one in front of it, and the first of them has one that points to this one
abbrev pub LeadsTo : Core → Buffer → List Buffer → Buffer → Type 0
LeadsTo core start [] buffer = HasPointerTo (words_in core start) buffer
LeadsTo core start (before ∷ chain) buffer =
    Contains (buffers_of core) before × HasPointerTo (words_in core before) buffer × LeadsTo core start chain before

-- the core with these root segments in place of its own
abbrev pub with_roots : Core → List ℕ → List OwnRoot → Core
with_roots core root own = record core { root = root; own = own }

-- each root word of the one core is one of the other
abbrev pub HasRootsOf : Core → Core → Type 0
HasRootsOf core other = (word : ℕ) → Contains (root_words core) word → Contains (root_words other) word

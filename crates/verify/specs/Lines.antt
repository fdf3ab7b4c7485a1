-- What is wrong with the chunks of a core.
use Rattle.std.specs.Prelude.{◌≡◌, ℕ, ◌<◌, false, List, Option, None, All, option_and_then}
use Rattle.std.specs.List.{filter_map, flat_map}
use Rattle.std.specs.Option.{option_map}
use Rattle.buftag.specs.declared.finding.Finding.{Finding}
use Rattle.buftag.specs.declared.state.State.{State}
use Rattle.core_format.specs.declared.items.SlabItem.{SlabItem}
use Rattle.core_format.specs.declared.whole.Core.{Core}
use Rattle.core_format.specs.Chunks.{chunk_address, chunk_state, core_shapes, finding_in_slab, finding_in_state, is_guarded_core}
use Rattle.heap_view.specs.Buffers.{chunks_of}
use Rattle.verify.specs.declared.line.Line.{Line}

-- what is told of a chunk of a slab that is in a state and has a finding
abbrev pub line_of : Core → SlabItem → ℕ → State → Finding → Line
line_of core slab chunk state finding = record {
  address = chunk_address (core_shapes core) slab chunk;
  state = state;
  cache = slab.cache;
  finding = finding;
}

-- what is told of a chunk of a slab in a state, where something is wrong with it
abbrev pub line_in_state : Core → SlabItem → ℕ → State → Option Line
line_in_state core slab chunk state =
    option_map (line_of core slab chunk state) (finding_in_state core chunk state)

-- the same in the state that the chunk has
abbrev pub chunk_line : Core → SlabItem → ℕ → Option Line
chunk_line core slab chunk = option_and_then (line_in_state core slab chunk) (chunk_state core chunk)

-- what is told of the chunks of a slab
abbrev pub slab_lines : Core → SlabItem → List Line
slab_lines core slab = filter_map (chunk_line core slab) (chunks_of core slab)

-- what is told of all chunks with a finding, slab by slab, and in each chunk by chunk
unfoldable pub findings_of : Core → List Line
findings_of core = flat_map (slab_lines core) core.slabs

-- the first line is of a chunk below that of the other
abbrev pub IsLineBelow : Line → Line → Type 0
IsLineBelow lower upper = lower.address < upper.address

-- the core has no guards, and none of its caches has a constructor
pub record IsUntagged (core : Core) : Type 0 where
  pub unguarded : is_guarded_core core ≡ false
  pub unmade : All (λ item. item.def.ctor ≡ None) core.caches

-- no chunk of a cache has a finding, in whatever state
abbrev pub NoneBreaks : Core → ℕ → Type 0
NoneBreaks core cache =
    (slab : SlabItem) (chunk : ℕ) (state : State) → slab.cache ≡ cache → finding_in_slab core chunk state slab ≡ None

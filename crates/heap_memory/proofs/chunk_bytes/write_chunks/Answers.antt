use Rattle.std.proofs.Common.{◌≡◌, ℕ, ◌+◌, ◌*◌, ◌≤◌, List, ap, arith, length, ◌∙◌}
use Rattle.plain_heap.specs.State.{made_chunk}
use Rattle.heap_memory.proofs.ChunkLemmas.{made_fits}
use Rattle.heap_memory.proofs.MadeLemmas.{one_chunk_more}
use Rattle.heap_memory.proofs.chunk_bytes.write_chunks.Goals as goal

pub loop-index-preserved : goal.loop-index-preserved
loop-index-preserved c = record {
  written = λ setting is.
      let kind = c.args.slab.now.kind in
      let chunk = c.args.layout.now.chunk in
      let index = c.loop-index.index in
      let content : ℕ → List ℕ = λ i. made_chunk setting kind.cache (c.args.slab.now.first + i) in
      let place : c.args.start + c.from.result ≡ c.args.start + index * chunk = ap (λ (n : ℕ). c.args.start + n) c.from.ensures in
      let fits : length (content index) ≤ chunk = omega (arith, made_fits setting kind (c.args.slab.now.first + index) c.requires.kind is, c.requires.fits) in
      one_chunk_more c.args.space.now c.loop-index.space c.write_made.new.space c.args.start index chunk c.args.layout.now.rounds content (c.args.start + c.from.result)
      place c.loop-index-test.true fits c.requires.zeros (c.loop-index.invariant.written setting is) (c.write_made.ensures.written setting is);
  sound = c.write_made.ensures.sound;
  runs = c.write_made.ensures.runs ∙ c.loop-index.invariant.runs;
}

use Rattle.std.proofs.Common.{◌≡◌, ◌∙◌, ◌+◌, ◌++◌, [], ◌∷◌, Bool, cond, ap, arith}
use Rattle.std.specs.Prelude.{not}
use Rattle.core_format.specs.Chunks.{is_held}
use Rattle.heap_view.specs.declared.buffer.Buffer.{Buffer}
use Rattle.heap_view.proofs.NumbersLemmas.{slab_more}
use Rattle.heap_view.proofs.build.put_slab.Goals as goal

pub loop-index-preserved : goal.loop-index-preserved
loop-index-preserved c =
    let core = c.args.core.now in
    let slab = c.args.slab.now in
    let index = c.loop-index.index in
    let held : c.has_number-is_held.result ≡ is_held core (slab.first + index) = c.has_number-is_held.ensures ∙ c.requires.held.are (slab.first + index) in
    let free = c.args.is_free in
    let found = c.has_number-is_held.result in
    let now = c.in_ok-put_if.ensures
    ∙ ap (λ (b : Bool). c.loop-index.out.items ++ cond b (c.chunk_buffer-buffer.result ∷ []) []) c.is_wanted.ensures
    ∙ ap (λ (b : Buffer). c.loop-index.out.items ++ cond (cond free found (not found)) (b ∷ []) []) c.chunk_buffer-buffer.ensures in
    slab_more core slab free found index _ c.loop-index.out.items _ c.args.out.now.items c.requires.slab (omega (arith, c.loop-index-test.true, c.geometry_in-geometry.ensures.shape.rounds)) (omega arith) held c.loop-index.invariant now

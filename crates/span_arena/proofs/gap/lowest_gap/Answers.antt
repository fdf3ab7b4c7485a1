use Rattle.std.proofs.Common.{◌+◌, ◌*◌, ◌<◌, get_or, refl, arith}
use Rattle.std.proofs.lemmas.Bool.{iff_false}
use Rattle.umem_base.specs.declared.pages.TheConstants.{PAGE_BYTES}
use Rattle.umem_base.specs.declared.span.Span.{Span}
use Rattle.span_arena.specs.Gap.{arena_of}
use Rattle.span_arena.proofs.ArenaLemmas.{base_le}
use Rattle.span_arena.proofs.GapLemmas.{Searched-step, IsGap-from_searched}
use Rattle.span_arena.proofs.gap.lowest_gap.Goals as goal

abbrev no_span : Span
no_span = record { base = 0; pages = 0 }

pub loop-index-preserved : goal.loop-index-preserved
loop-index-preserved c =
    let spans = c.args.spans.now in
    let full : (get_or spans c.loop-index.index no_span).base < c.loop-index.from + PAGE_BYTES * c.args.pages = omega (arith, iff_false c.fits.ensures c.if-fits.false) in
    rw c.end-from.ensures (Searched-step (arena_of c.args.base c.args.count spans) c.args.pages c.loop-index.index c.loop-index.from no_span c.requires.sound c.requires.some c.loop-index-test.true full c.loop-index.invariant)

pub returns-then-fits : goal.returns-then-fits
returns-then-fits c =
    let spans = c.args.spans.now in
    let index = c.loop-index.index in
    let a = arena_of c.args.base c.args.count spans in
    let limit = (get_or spans index no_span).base in
    let inside = c.requires.sound.inside index no_span c.loop-index-test.true in
    (refl, IsGap-from_searched a c.args.pages index c.loop-index.from limit c.requires.sound c.requires.some (c.fits.ensures.0 c.if-fits.true) (omega (arith, inside.high)) (λ k d le lt. base_le a index k no_span d c.requires.sound le lt) c.loop-index.invariant)

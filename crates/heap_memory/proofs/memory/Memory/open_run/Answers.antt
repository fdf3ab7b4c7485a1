use Rattle.std.proofs.Common.{◌≡◌, ap, subst, ◌∙◌}
use Rattle.umem_base.specs.declared.span.Span.{Span}
use Rattle.umem_base.specs.Ordered.{Gains}
use Rattle.umem_base.specs.Pages.{HasNoRun, IsLowestRun}
use Rattle.span_arena.specs.Arena.{Arena, IsFreeIn}
use Rattle.heap_memory.specs.Memory.{Memory}
use Rattle.heap_memory.specs.Pages.{HasSameSpans, IsSamePlace, OpensRun}
use Rattle.heap_memory.proofs.PagesLemmas.{free_is_unmapped, opened_memory, same_spans_memory, undone}
use Rattle.heap_memory.proofs.memory.Memory.open_run.Goals.{After-give_back}
use Rattle.heap_memory.proofs.memory.Memory.open_run.Goals as goal

pub returns-in_default-clause-opened : goal.returns-in_default-clause-opened
returns-in_default-clause-opened c =
    let none : HasNoRun (IsFreeIn c.self.inside.arena) c.args.pages = rw c.in_default.is at c.in_ok-base.ensures.lowest in
    let same : c.take.new.self ≡ c.self.inside.arena = rw c.in_default.is at c.in_ok-base.ensures.spans in (
      ap (λ (a : Arena). record { space = c.self.inside.space; arena = a }) same ∙ c.self.view_is,
      subst (λ (m : Memory). HasNoRun (IsFreeIn m.arena) c.args.pages) c.self.view_is none,
    )

pub map_run-requires-clause-free : goal.map_run-requires-clause-free
map_run-requires-clause-free c = λ mapped.
    let old : Memory = record { space = c.self.inside.space; arena = c.self.inside.arena } in
    let lowest : IsLowestRun (IsFreeIn c.self.inside.arena) c.args.pages c.in-Some.base = rw c.in-Some.is at c.in_ok-base.ensures.lowest in
    free_is_unmapped old c.in-Some.base c.args.pages c.self.invariant lowest.free mapped

-- the run is given back again
same_spans : (c : After-give_back) → HasSameSpans (record { space = c.self.inside.space; arena = c.self.inside.arena }) (record { space = c.map_run.new.space; arena = c.give_back.new.self })
same_spans c =
    let lowest : IsLowestRun (IsFreeIn c.self.inside.arena) c.args.pages c.in-Some.base = rw c.in-Some.is at c.in_ok-base.ensures.lowest in
    let gains : Gains c.self.inside.arena.spans c.take.new.self.spans (record { base = c.in-Some.base; pages = c.args.pages }) = rw c.in-Some.is at c.in_ok-base.ensures.gains in
    let spans = rw c.in-Some.is at c.in_ok-base.ensures.spans in
    let place : IsSamePlace c.self.inside.arena c.take.new.self = record { base = ap (λ (a : Arena). a.base) spans; pages = ap (λ (a : Arena). a.pages) spans } in
    let back = undone c.self.inside.arena c.take.new.self c.give_back.new.self c.in-Some.base c.args.pages c.give_back.result c.requires c.self.invariant.arena lowest.free gains place
    c.give_back.ensures.spans c.give_back.ensures.loses c.give_back.ensures.refused in
    record { space = c.in-Err.ensures.err; kept = λ span. (back.0 span).0; only = λ span. (back.0 span).1; place = back.1 }

pub invariant_of-self-in-Err : goal.invariant_of-self-in-Err
invariant_of-self-in-Err c =
    let old : Memory = record { space = c.self.inside.space; arena = c.self.inside.arena } in
    let new : Memory = record { space = c.map_run.new.space; arena = c.give_back.new.self } in
    same_spans_memory old new c.self.invariant (same_spans c) c.give_back.ensures.sound

pub returns-in-Err-clause-err : goal.returns-in-Err-clause-err
returns-in-Err-clause-err c =
    let new : Memory = record { space = c.map_run.new.space; arena = c.give_back.new.self } in
    subst (λ (m : Memory). HasSameSpans m new) c.self.view_is (same_spans c)

pub invariant_of-self-in_default-map_run : goal.invariant_of-self-in_default-map_run
invariant_of-self-in_default-map_run c =
    let old : Memory = record { space = c.self.inside.space; arena = c.self.inside.arena } in
    let new : Memory = record { space = c.map_run.new.space; arena = c.take.new.self } in
    let run : Span = record { base = c.in-Some.base; pages = c.args.pages } in
    let lowest : IsLowestRun (IsFreeIn c.self.inside.arena) c.args.pages c.in-Some.base = rw c.in-Some.is at c.in_ok-base.ensures.lowest in
    let spans = rw c.in-Some.is at c.in_ok-base.ensures.spans in
    let opens : OpensRun old new run = record {
      lowest = lowest;
      gains = rw c.in-Some.is at c.in_ok-base.ensures.gains;
      place = record { base = ap (λ (a : Arena). a.base) spans; pages = ap (λ (a : Arena). a.pages) spans };
      maps = c.in_default-map_run.ensures.ok;
    } in
    opened_memory old new run c.self.invariant opens c.map_run.ensures.sound c.take.ensures.sound

use Rattle.std.proofs.Common.{Option, None, sym, ap, ◌∙◌, subst}
use Rattle.std.specs.Prelude.{IsSome}
use Rattle.std.specs.FinMap.{insert}
use Rattle.plain_heap.specs.declared.held.Held.{Held}
use Rattle.plain_heap.specs.Live.{HeldByAddress, Live, TellsLive}
use Rattle.plain_heap.specs.State.{give_back, held_at, state_of}
use Rattle.plain_heap.proofs.LiveLemmas.{tells_given_back}
use Rattle.heap_slabs.specs.HeapSlabs.{HeapSlabs, IsTableOf}
use Rattle.heap_accounts.proofs.frees.give_back.Goals as goal

pub returns-clause-after : goal.returns-clause-after
returns-clause-after c setting entries its =
    let state = state_of setting entries in
    let old = c.args.tables.now in
    let address = c.args.address in
    let lives : IsSome (held_at state.live address) = subst (λ (o : Option Held). IsSome o) (its.are.buffers.live address) c.requires.lives in
    record {
      bytes = c.take_back-round.ensures.memory setting entries its;
      buffers = subst (λ (b : HeldByAddress). TellsLive b (give_back setting state address)) (sym (c.freed.ensures.buffers ∙ ap (λ (l : Live). insert l.buffers address None) c.take_back-round.ensures.same.0))
          (tells_given_back setting state old.live.buffers address its.are.buffers c.requires.lives);
      slabs = c.gave.ensures.gave setting state its.header (subst (λ (s : HeapSlabs). IsTableOf setting state s) (sym c.take_back-round.ensures.same.1) its.are.slabs) lives;
    }

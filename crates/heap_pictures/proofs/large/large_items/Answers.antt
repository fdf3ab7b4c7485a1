use Rattle.std.proofs.Common.{sym, ap, ◌∙◌, arith}
use Rattle.std.specs.List.{filter_map}
use Rattle.std.proofs.lemmas.List.{take_all}
use Rattle.umem_base.specs.declared.span.Span.{Span}
use Rattle.plain_heap.proofs.SeparateLemmas.{history_is_separate}
use Rattle.heap_ledger.specs.Ledger.{run_setting, run_state}
use Rattle.heap_pictures.specs.Drawn.{large_drawn}
use Rattle.heap_pictures.proofs.DrawnLargeLemmas.{drawn_large, drawn_none, drawn_some}
use Rattle.heap_pictures.proofs.large.large_items.Goals.{in-Some+in_ok-push, in_default}
use Rattle.heap_pictures.proofs.large.large_items.Goals as goal
use Rattle.std.proofs.lemmas.List.Elements.{Contains-get_or}

pub large_item-requires : goal.large_item-requires
large_item-requires c =
    let spans = c.spans-span-items.result.now in
    (c.spans-span-items.ensures.exactly _).0 (Contains-get_or spans c.loop-span.span-index (record { base = 0; pages = 0 }) c.loop-span-test.true)

pub loop-span-preserved : goal.loop-span-preserved
loop-span-preserved c =
    let state = run_state c.args.accounts.now in
    let spans = c.spans-span-items.result.now in
    let k = c.loop-span.span-index in
    let none : Span = record { base = 0; pages = 0 } in
    elim c.match-branch-2.branch [
      | in-Some+in_ok-push w ↦
          ap (λ v. v.items) w.items-is
          ∙ drawn_some (large_drawn state) spans k none c.loop-span.items.items w.push.new.self.items w.in-Some.item c.loop-span-test.true w.in_ok-push.ensures.items c.loop-span.invariant
          (sym w.in-Some.is ∙ c.in_ok-item.ensures)
      | in_default w ↦
          ap (λ v. v.items) w.items-is
          ∙ drawn_none (large_drawn state) spans k none c.loop-span.items.items c.in_ok-item.field-0 c.loop-span-test.true c.loop-span.invariant c.in_ok-item.ensures w.in_default.not-Some
    ]

pub returns : goal.returns
returns c =
    let ledger = c.args.accounts.now in
    let legal = c.history.ensures.sound in
    let spans = c.spans-span-items.result.now in
    drawn_large (run_setting ledger) (run_state ledger) (history_is_separate (run_setting ledger) ledger.entries legal.plan.header legal.legal) spans c.loop-span.items.items c.spans-span-items.ensures.rising
    c.spans-span-items.ensures.exactly (c.loop-span.invariant ∙ ap (filter_map (large_drawn (run_state ledger))) (take_all c.loop-span.span-index spans (omega (arith, c.loop-span-test.false))))

use Rattle.std.proofs.Common.{◌≡◌, ℕ, ◌<◌, ◌∙◌, ap, get_or, subst, arith}
use Rattle.std.specs.Prelude.{length, map}
use Rattle.std.specs.List.{range_with_len}
use Rattle.std.proofs.lemmas.List.{get_or_default}
use Rattle.core_rules.proofs.PieceLemmas.{made_more}
use Rattle.heap_ledger.specs.Ledger.{run_setting, run_state}
use Rattle.heap_pictures.specs.Drawn.{no_list, no_standing, slab_drawn, slab_drawn_at}
use Rattle.heap_pictures.proofs.DrawLemmas.{drawn_slabs, lists_long, one_standing}
use Rattle.heap_pictures.proofs.slabs.slab_items.Goals as goal

pub bounds-lists-index : goal.bounds-lists-index
bounds-lists-index c =
    let ledger = c.args.accounts.now in
    subst (λ (n : ℕ). c.loop-index.index < n)
    (lists_long (run_setting ledger) (run_state ledger) c.standing-standing.result.now c.args.lists.now c.standing-standing.ensures.sound c.standing-standing.ensures.exactly c.requires)
    c.loop-index-test.true

pub slab_item-requires : goal.slab_item-requires
slab_item-requires c =
    let ledger = c.args.accounts.now in
    one_standing (run_setting ledger) (run_state ledger) c.standing-standing.result.now c.standing-standing.ensures.exactly c.loop-index.index no_standing c.loop-index-test.true

pub loop-index-preserved : goal.loop-index-preserved
loop-index-preserved c =
    let ledger = c.args.accounts.now in
    let there =
    subst (λ (n : ℕ). c.loop-index.index < n)
    (lists_long (run_setting ledger) (run_state ledger) c.standing-standing.result.now c.args.lists.now c.standing-standing.ensures.sound c.standing-standing.ensures.exactly c.requires)
    c.loop-index-test.true
    in
    let list = c.index-lists-index.is ∙ get_or_default c.args.lists.now c.loop-index.index c.index-lists-index.result no_list there in
    record {
      made = made_more (slab_drawn_at (run_setting ledger) (run_state ledger) c.standing-standing.result.now c.args.lists.now) c.loop-index.index c.loop-index.items.items c.push.new.self.items _ c.in_ok-push.ensures.items
          c.loop-index.invariant.made (c.in_ok-slab_item.ensures ∙ ap (slab_drawn (run_setting ledger) (run_state ledger) (get_or c.standing-standing.result.now c.loop-index.index no_standing)) list);
      within = omega (arith, c.loop-index-test.true);
    }

pub returns : goal.returns
returns c =
    let ledger = c.args.accounts.now in
    let standing = c.standing-standing.result.now in
    let lists = c.args.lists.now in
    let all : c.loop-index.index ≡ length standing = omega (arith, c.loop-index-test.false, c.loop-index.invariant.within) in
    drawn_slabs (run_setting ledger) (run_state ledger) standing lists c.standing-standing.ensures.sound c.standing-standing.ensures.exactly c.requires c.loop-index.items.items
    (c.loop-index.invariant.made ∙ ap (λ (n : ℕ). map (slab_drawn_at (run_setting ledger) (run_state ledger) standing lists) (range_with_len 0 n)) all)

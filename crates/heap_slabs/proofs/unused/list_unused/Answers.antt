use Rattle.std.proofs.Common.{◌≡◌, ◌≢◌, ◌≤◌, ◌++◌, ◌∷◌, [], List, length, map, take, take_all, ap, sym, subst, ◌∙◌, arith, rules}
use Rattle.std.specs.Prelude.{AllPairs, filter, vec_len}
use Rattle.std.proofs.lemmas.List.{length-take}
use Rattle.heap_ledger.specs.declared.slab_at.SlabAt.{SlabAt}
use Rattle.heap_slabs.specs.declared.standing.Standing.{Standing}
use Rattle.heap_slabs.specs.Standing.{is_idle, as_slab_at}
use Rattle.heap_slabs.proofs.StandingLemmas.{no_standing}
use Rattle.heap_slabs.proofs.UnusedLemmas.{listed_apart, listed_few, sorted_in_order, unused_more, used_more}
use Rattle.heap_slabs.proofs.unused.list_unused.Goals as goal
use Rattle.heap_slabs.proofs.unused.list_unused.Goals.{then-is_idle, else-is_idle}

pub unwrap-requires : goal.unwrap-requires
unwrap-requires c =
    let few = listed_few (take c.loop-slab.slab-index c.args.slabs.now) in
    let items : length c.loop-slab.unused.items ≡ length (map as_slab_at (filter is_idle (take c.loop-slab.slab-index c.args.slabs.now))) = ap (λ (xs : List SlabAt). length xs) c.loop-slab.invariant.0 in
    let long : length c.loop-slab.unused.items ≡ vec_len c.loop-slab.unused = search rules in
    let short : length (take c.loop-slab.slab-index c.args.slabs.now) ≤ c.loop-slab.slab-index = omega (arith, length-take {A = Standing}) in
    c.push.ensures.succeeds (omega (arith, few, items, long, short, c.loop-slab-test.true, c.requires.room, c.clear.ensures.capacity, c.loop-slab.invariant.1))

pub loop-slab-preserved : goal.loop-slab-preserved
loop-slab-preserved c = elim c.if-is_idle.branch [
  | then-is_idle w ↦
      let pushed : w.push.new.self.items ≡ c.loop-slab.unused.items ++ w.as_slab_at.result ∷ [] = rw w.unwrap.ensures at w.push.ensures.items in
      rw w.unused-is (
        pushed ∙ ap (λ (xs : List SlabAt). xs ++ w.as_slab_at.result ∷ []) c.loop-slab.invariant.0
            ∙ ap (λ (x : SlabAt). map as_slab_at (filter is_idle (take c.loop-slab.slab-index c.args.slabs.now)) ++ x ∷ []) w.as_slab_at.ensures
            ∙ sym (unused_more c.args.slabs.now c.loop-slab.slab-index no_standing c.loop-slab-test.true (sym c.is_idle.ensures ∙ w.if-is_idle.true)),
        omega (arith, c.loop-slab.invariant.1, w.push.ensures.capacity),
      )
  | else-is_idle w ↦
      rw w.unused-is (
        c.loop-slab.invariant.0 ∙ sym (used_more c.args.slabs.now c.loop-slab.slab-index no_standing c.loop-slab-test.true (sym c.is_idle.ensures ∙ w.if-is_idle.false)),
        c.loop-slab.invariant.1,
      )
]

pub returns-clause-in_order : goal.returns-clause-in_order
returns-clause-in_order c =
    let all : take c.loop-slab.slab-index c.args.slabs.now ≡ c.args.slabs.now = take_all c.loop-slab.slab-index c.args.slabs.now (omega (arith, c.loop-slab-test.false)) in
    let listed : c.loop-slab.unused.items ≡ map as_slab_at (filter is_idle c.args.slabs.now) = c.loop-slab.invariant.0 ∙ ap (λ (xs : List Standing). map as_slab_at (filter is_idle xs)) all in
    sorted_in_order c.loop-slab.unused.items c.sort_unstable.new.self.items
    (subst (λ (xs : List SlabAt). AllPairs (λ (a b : SlabAt). a.base ≢ b.base) xs) (sym listed) (listed_apart c.args.slabs.now c.requires.bases)) c.sort_unstable.ensures.permutation c.sort_unstable.ensures.sorted

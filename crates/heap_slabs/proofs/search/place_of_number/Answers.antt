use Rattle.std.proofs.Common.{inl, inr}
use Rattle.heap_slabs.proofs.StandingLemmas.{below_some, no_standing, none_counted, none_of_last}
use Rattle.heap_slabs.proofs.search.place_of_number.Goals as goal
use Rattle.heap_slabs.proofs.search.place_of_number.Goals.{then-number-first-via-then-number-first, then-number-first-via-else-number-first+then-number-first-2}
use Rattle.heap_slabs.specs.declared.numbered.Numbered.{Numbered}

abbrev zero_number : Numbered
zero_number = record { first = 0; base = 0 }

pub returns-then-count-eq0 : goal.returns-then-count-eq0
returns-then-count-eq0 c = none_counted c.args.slabs.now c.args.numbers.now c.requires.slabs c.requires.numbers c.args.number c.count_numbered-count.result zero_number c.count_numbered-count.ensures c.if-count-eq0.true

pub returns-then-below-eq0 : goal.returns-then-below-eq0
returns-then-below-eq0 c =
    absurd (below_some c.args.slabs.now c.args.numbers.now c.requires.slabs c.requires.numbers c.args.number c.count_numbered-count.result zero_number c.count_numbered-count.ensures
    c.if-count-eq0.false c.count_to-below.result no_standing c.count_to-below.ensures c.if-below-eq0.true)

pub returns-then-number-first : goal.returns-then-number-first
returns-then-number-first c =
    none_of_last c.args.slabs.now c.args.numbers.now c.requires.slabs c.requires.numbers c.args.number c.count_numbered-count.result zero_number c.count_numbered-count.ensures
    c.if-count-eq0.false c.count_to-below.result no_standing c.count_to-below.ensures (elim c.then-number-first.branch [
      | then-number-first-via-then-number-first w ↦ inl w.if-number-first.true
      | then-number-first-via-else-number-first+then-number-first-2 w ↦ inr w.if-number-first-2.true
    ])

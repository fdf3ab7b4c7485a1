use Rattle.std.proofs.Common.{◌≡◌, ◌+◌, ◌-◌, ◌<◌, length, ◌∙◌, refl, arith}
use Rattle.std.specs.Prelude.{slice_index}
use Rattle.std.proofs.lemmas.List.{get_or_read}
use Rattle.slab_layer.specs.Slab.{IsSlab, slab_of}
use Rattle.slab_layer.proofs.RoundsLemmas.{get_or-consecutive}
use Rattle.slab_layer.proofs.SlabLemmas.{IsSlab-slab_of}
use Rattle.slab_layer.proofs.slab.Slab.new.Goals as goal

first_is : (c : goal.After-chunk-last) → c.chunk-first.result ≡ slice_index c.args.rounds.items 0
first_is c =
    let read = rw c.as_slice-list.ensures at c.index-list-0.is in
    c.chunk-first.ensures ∙ get_or_read c.args.rounds.items 0 c.index-list-0.result c.requires.some read 0

last_is : (c : goal.After-chunk-last) → c.chunk-last.result + 1 ≡ slice_index c.args.rounds.items 0 + length c.args.rounds.items
last_is c =
    let items = c.args.rounds.items in
    let lt : length items - 1 < length items = omega (arith, c.requires.some) in
    let read = rw c.as_slice-list.ensures at c.index-list-list.is in
    let last = c.chunk-last.ensures ∙ read ∙ get_or-consecutive items (length items - 1) c.index-list-list.result c.requires.rising lt in
    omega (arith, last, c.requires.some)

count_is : (c : goal.After-chunk-last) → c.chunk-last.result - c.chunk-first.result + 1 ≡ length c.args.rounds.items
count_is c = omega (arith, first_is c, last_is c, c.requires.some)

made : (c : goal.After-chunk-last) → IsSlab (slab_of c.args.base c.args.rounds.items)
made c = IsSlab-slab_of c.args.base c.args.rounds.items c.requires.some (omega (arith, last_is c, c.chunk-last.type_inv)) c.requires.rising

pub overflow_sub-result : goal.overflow_sub-result
overflow_sub-result c = omega (arith, first_is c, last_is c, c.requires.some)

pub overflow_add-result : goal.overflow_add-result
overflow_add-result c = omega (arith, count_is c, c.requires.fits)

pub invariant_of-result : goal.invariant_of-result
invariant_of-result c = rw (count_is c, first_is c) (made c, omega arith)

pub returns-clause-value : goal.returns-clause-value
returns-clause-value c = rw (count_is c, first_is c) refl

pub returns-clause-sound : goal.returns-clause-sound
returns-clause-sound c = rw (count_is c, first_is c) (made c)

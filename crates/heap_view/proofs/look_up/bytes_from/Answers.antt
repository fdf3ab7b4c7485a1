use Rattle.std.proofs.Common.{◌∙◌, ◌-◌, ◌≤◌, ℕ, List, Option, drop, length, ap, sym, subst}
use Rattle.std.specs.Prelude.{unwrap_or}
use Rattle.std.specs.Option.{option_map}
use Rattle.core_format.specs.declared.items.SlabItem.{SlabItem}
use Rattle.heap_view.specs.Memory.{large_bytes_from}
use Rattle.heap_view.proofs.HitsLemmas.{found_slab}
use Rattle.heap_view.proofs.look_up.bytes_from.Goals as goal

pub overflow_sub-address : goal.overflow_sub-address
overflow_sub-address c =
    (found_slab c.args.core.now c.as_slice.result.now c.args.address c.in-Some.index c.index-as_slice-index.result c.requires c.as_slice.ensures c.in-Some.ensures.slab c.in-Some.ensures.within c.index-as_slice-index.is).low

pub bytes_behind-requires : goal.bytes_behind-requires
bytes_behind-requires c =
    let found = found_slab c.args.core.now c.as_slice.result.now c.args.address c.in-Some.index c.index-as_slice-index.result c.requires c.as_slice.ensures c.in-Some.ensures.slab c.in-Some.ensures.within c.index-as_slice-index.is in
    subst (λ (bs : List ℕ). c.args.address - c.index-as_slice-index.result.base ≤ length bs) (sym c.as_slice-in-Some.ensures) found.inside

pub returns-in-Some : goal.returns-in-Some
returns-in-Some c =
    let slab = c.index-as_slice-index.result in
    let found = found_slab c.args.core.now c.as_slice.result.now c.args.address c.in-Some.index slab c.requires c.as_slice.ensures c.in-Some.ensures.slab c.in-Some.ensures.within c.index-as_slice-index.is in
    c.bytes_behind.ensures ∙ ap (drop (c.args.address - slab.base)) c.as_slice-in-Some.ensures
    ∙ ap (λ (o : Option SlabItem). unwrap_or (option_map (λ (s : SlabItem). drop (c.args.address - s.base) s.bytes) o) (large_bytes_from c.args.core.now c.args.address)) (sym found.is)

use Rattle.std.proofs.Common.{◌∙◌, ◌-◌, ◌≤◌, ℕ, List, [], Option, drop, length, ap, sym, subst}
use Rattle.std.specs.Prelude.{unwrap_or}
use Rattle.std.specs.Option.{option_map}
use Rattle.core_format.specs.declared.items.LargeItem.{LargeItem}
use Rattle.heap_view.proofs.HitsLemmas.{found_large}
use Rattle.heap_view.proofs.look_up.large_bytes_from.Goals as goal

pub overflow_sub-address : goal.overflow_sub-address
overflow_sub-address c =
    (found_large c.args.core.now c.as_slice.result.now c.args.address c.in-Some.index c.index-as_slice-index.result c.requires c.as_slice.ensures c.in-Some.ensures.large c.in-Some.ensures.within c.index-as_slice-index.is).low

pub bytes_behind-requires : goal.bytes_behind-requires
bytes_behind-requires c =
    let found = found_large c.args.core.now c.as_slice.result.now c.args.address c.in-Some.index c.index-as_slice-index.result c.requires c.as_slice.ensures c.in-Some.ensures.large c.in-Some.ensures.within c.index-as_slice-index.is in
    subst (λ (bs : List ℕ). c.args.address - c.index-as_slice-index.result.base ≤ length bs) (sym c.as_slice-in-Some.ensures) found.inside

pub returns-in-Some : goal.returns-in-Some
returns-in-Some c =
    let item = c.index-as_slice-index.result in
    let found = found_large c.args.core.now c.as_slice.result.now c.args.address c.in-Some.index item c.requires c.as_slice.ensures c.in-Some.ensures.large c.in-Some.ensures.within c.index-as_slice-index.is in
    c.bytes_behind.ensures ∙ ap (drop (c.args.address - item.base)) c.as_slice-in-Some.ensures
    ∙ ap (λ (o : Option LargeItem). unwrap_or (option_map (λ (l : LargeItem). drop (c.args.address - l.base) l.bytes) o) []) (sym found.is)

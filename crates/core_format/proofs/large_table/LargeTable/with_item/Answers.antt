use Rattle.std.proofs.Common.{◌≡◌, false, List, subst, sym}
use Rattle.std.specs.List.{list_any}
use Rattle.core_format.specs.declared.items.LargeItem.{LargeItem}
use Rattle.core_format.specs.Slabs.{meets_large}
use Rattle.core_format.proofs.IndexLemmas.{large_is_free, large_ranges-more}
use Rattle.core_format.proofs.large_table.LargeTable.with_item.Goals as goal

pub unwrap-place-requires : goal.unwrap-place-requires
unwrap-place-requires c =
    let free = subst (λ (t : List LargeItem). list_any (meets_large c.args.item.base c.args.past) t ≡ false) (sym c.self.view_is) c.requires.free in
    large_is_free c.self.inside.large.items c.self.inside.pages c.args.item.base c.args.past c.place_of.result c.self.invariant free c.place_of.ensures.none

pub invariant_of-result : goal.invariant_of-result
invariant_of-result c =
    large_ranges-more c.self.inside.large.items c.push.new.self.items c.args.item c.args.past c.self.inside.pages c.put.new.self c.self.invariant c.in_ok-put.ensures.ok c.requires.past c.in_ok-push.ensures.items

use Rattle.std.proofs.Common.{◌≡◌, ◌∙◌, List, ap, arith, get_or, length, subst}
use Rattle.std.proofs.lemmas.List.{length_push}
use Rattle.case_table.specs.declared.cache_def.CacheDef.{CacheDef}
use Rattle.heap_core.proofs.StartLemmas.{declared_stock, first_more}
use Rattle.heap_core.proofs.shelves.first_shelves.Goals as goal

pub loop-def-preserved : goal.loop-def-preserved
loop-def-preserved c =
    let shelves = c.loop-def.shelves.items in
    let more = c.in_ok-push.ensures.items in
    let caches = c.as_slice-def-items.ensures in
    let def = c.def-item.result in
    let is = subst (λ (l : List CacheDef). def ≡ get_or l c.loop-def.def-index def) caches c.def-item.is in
    record {
      count = omega (arith, ap length more, length_push shelves c.in_ok-empty_shelf.field-0, c.loop-def.invariant.count);
      those =
          first_more (record { header = c.args.header.now; guards = c.args.guards }) shelves c.push.new.self.items c.in_ok-empty_shelf.field-0 more c.loop-def.invariant.those
          (c.in_ok-empty_shelf.ensures
          ∙ declared_stock (record { header = c.args.header.now; guards = c.args.guards }) c.loop-def.def-index (length shelves) def (omega (arith, ap length caches)) c.loop-def.invariant.count is);
    }

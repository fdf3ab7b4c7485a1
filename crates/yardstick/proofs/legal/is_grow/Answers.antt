use Rattle.std.proofs.Common.{◌≡◌, ◌%◌, List, length, ap, ◌∙◌, arith}
use Rattle.std.specs.Option.{option_map}
use Rattle.case_table.specs.declared.cache_def.CacheDef.{CacheDef}
use Rattle.case_table.specs.declared.slab_quantities.Geometry.{Geometry}
use Rattle.script.specs.declared.tree.Header.{Header}
use Rattle.plain_heap.specs.Setting.{IsCache}
use Rattle.yardstick.specs.Kept.{state_kept}
use Rattle.yardstick.proofs.LegalLemmas.{tells_grow, tells_no_grow}
use Rattle.yardstick.proofs.legal.is_grow.Goals as goal

pub returns-then-is_free_run : goal.returns-then-is_free_run
returns-then-is_free_run c =
    let setting = c.args.setting.now in
    let caches = c.as_slice-declared.ensures ∙ ap (λ (header : Header). header.caches) c.header.ensures.value in
    let count = ap (λ (defs : List CacheDef). length defs) caches in
    let declared : IsCache setting.header.caches c.args.cache = omega (arith, c.if-cache-declared.false, count) in
    let page : c.args.base % 4096 ≡ 0 = omega arith in
    let follows = ap (option_map (λ entry. entry.now)) c.in-Some.is in
    let pages = c.from-pages.ensures ∙ ap (λ (geometry : Geometry). geometry.pages) c.geometry_of.ensures.value in
    let rules = rw c.header.ensures.value at c.header.ensures.rules in
    tells_grow setting (state_kept setting c.args.kept.now) c.args.cache c.args.base c.from-pages.result c.new_slab-slab.result c.in-Some.entry.now
    (option_map (λ entry. entry.now) c.args.next) c.is_free_run.result c.hands_out_from.result rules declared page follows pages c.new_slab-slab.ensures
    c.is_free_run.ensures c.if-is_free_run.true c.hands_out_from.ensures

pub returns-else-is_free_run : goal.returns-else-is_free_run
returns-else-is_free_run c =
    let setting = c.args.setting.now in
    let pages = c.from-pages.ensures ∙ ap (λ (geometry : Geometry). geometry.pages) c.geometry_of.ensures.value in
    tells_no_grow setting (state_kept setting c.args.kept.now) c.args.cache c.args.base c.from-pages.result (option_map (λ entry. entry.now) c.args.next)
    c.is_free_run.result pages c.is_free_run.ensures c.if-is_free_run.false

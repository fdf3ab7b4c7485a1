use Rattle.std.proofs.Common.{◌∙◌}
use Rattle.std.proofs.lemmas.Result.{on_ok_weaker}
use Rattle.case_table.proofs.CacheNameLemmas.{put_behind}
use Rattle.case_table.proofs.cache_name.put_class_name.Goals as goal

pub returns-else-is_err-clause-ok : goal.returns-else-is_err-clause-ok
returns-else-is_err-clause-ok c =
    let is = c.from.ensures ∙ c.class_size.ensures in
    on_ok_weaker c.put_decimal-put.result (λ put. put_behind _ c.push_slice.new.self c.args.out.now _ _ _ put c.in_ok-push_slice.ensures.ok is) c.put_decimal-put.ensures.ok

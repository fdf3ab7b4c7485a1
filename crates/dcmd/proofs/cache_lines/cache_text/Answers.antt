use Rattle.std.proofs.Common.{◌≤◌, length, subst, sym}
use Rattle.case_table.specs.declared.limits.TheConstants.{MOST_CACHES}
use Rattle.core_format.specs.declared.whole.Core.{Core}
use Rattle.dcmd.proofs.CountLemmas.{few_caches, text_is}
use Rattle.dcmd.proofs.cache_lines.cache_text.Goals as goal

pub put_caches-requires-clause-few : goal.put_caches-requires-clause-few
put_caches-requires-clause-few c = subst (λ (core : Core). length core.caches ≤ MOST_CACHES) (sym c.core-core.ensures.value) (few_caches c.args.view.now c.core-core.ensures.rules)

pub returns : goal.returns
returns c =
    text_is c.args.view.now c.core-core.result.now c.new-out.result c.push_slice.new.self c.put_caches.new.out c.new-out.ensures c.in_ok-push_slice.ensures.ok c.core-core.ensures.value c.in_ok-put_caches.ensures

use Rattle.std.proofs.Common.{◌≡◌, ◌++◌, take}
use Rattle.std.specs.List.{flat_map}
use Rattle.case_table.specs.declared.cache_def.CacheDef.{CacheDef}
use Rattle.script.specs.PlanText.{cache_words, line_text}
use Rattle.script.proofs.plan_text.put_each_cache.Given as goal

abbrev pub invariant-loop-def : goal.invariant-loop-def
invariant-loop-def l = l.out ≡ l.initial.out ++ flat_map (λ (def : CacheDef). line_text (cache_words def)) (take l.def-index l.caches)

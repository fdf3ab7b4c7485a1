use Rattle.std.proofs.Common.{◌≡◌, ◌+◌, List, None, length, ap, ◌∙◌, arith}
use Rattle.std.specs.Prelude.{is_ok}
use Rattle.std.proofs.lemmas.Map.Text.{hash_map_updates_str}
use Rattle.case_table.specs.declared.limits.TheConstants.{CLASS_COUNT}
use Rattle.case_table.specs.declared.cache_def.CacheDef.{CacheDef}
use Rattle.script.specs.Fields.{declared_number}
use Rattle.script.proofs.DeclaredLemmas.{numbers-push}
use Rattle.script.proofs.declared.Declared.push.Goals as goal

pub invariant_of-self-2 : goal.invariant_of-self-2
invariant_of-self-2 c = λ name.
    let caches = c.self.inside.caches.items in
    let found = hash_map_updates_str c.args.name.now c.self.inside.numbers c.insert.new.self _ c.in_ok-insert.ensures.updates name in
    let number : 32 + c.len.result ≡ CLASS_COUNT + length caches = omega (arith, c.len.ensures, c.self.inside.caches.ok.0) in
    let was_put = ap is_ok c.unwrap.ensures in
    let longer = rw (was_put, c.reserve.ensures.items) at c.push.ensures.items in
    let unlike : declared_number caches c.args.name.now ≡ None = ap (λ (cs : List CacheDef). declared_number cs c.args.name.now) c.self.view_is ∙ c.requires.unlike in
    numbers-push caches c.push.new.self.items c.args.def c.args.name.now name _ _ _ c.requires.named unlike number longer (c.self.invariant name) found

use Rattle.std.proofs.Common.{◌≡◌, ◌≤◌, length, ap, arith, refl, rules, tests}
use Rattle.std.specs.Option.{option_map_or}
use Rattle.trans_log.proofs.SavedLogLemmas.{entered-log}
use Rattle.trans_log.proofs.saved_log.SavedLog.enter.Goals as goal

pub invariant_of-self : goal.invariant_of-self
invariant_of-self c =
    let le : length c.args.bytes.now ≤ c.self.inside.count = omega (arith, c.requires, ap (λ v. v.count) c.self.view_is) in
    let gone : c.map_or-gone.result ≡ option_map_or (λ r. r.length) c.push_back-oldest.result 0 = search (rules, tests) in
    let cut = rw c.len.ensures.len at c.truncate_front.ensures in
    (entered-log c.self.inside.records c.push_back-oldest.new.self c.self.inside.bytes c.truncate_front.new.self c.extend_from_slice.new.self c.self.inside.count _ c.args.bytes.now c.push_back-oldest.result c.map_or-gone.result
    c.self.invariant (omega arith) le refl c.push_back-oldest.ensures.items c.push_back-oldest.ensures.value gone cut c.extend_from_slice.ensures).0

pub returns-clause-items : goal.returns-clause-items
returns-clause-items c =
    let le : length c.args.bytes.now ≤ c.self.inside.count = omega (arith, c.requires, ap (λ v. v.count) c.self.view_is) in
    let gone : c.map_or-gone.result ≡ option_map_or (λ r. r.length) c.push_back-oldest.result 0 = search (rules, tests) in
    let cut = rw c.len.ensures.len at c.truncate_front.ensures in
    rw (← c.self.view_is) (entered-log c.self.inside.records c.push_back-oldest.new.self c.self.inside.bytes c.truncate_front.new.self c.extend_from_slice.new.self c.self.inside.count _ c.args.bytes.now c.push_back-oldest.result c.map_or-gone.result
    c.self.invariant (omega arith) le refl c.push_back-oldest.ensures.items c.push_back-oldest.ensures.value gone cut c.extend_from_slice.ensures).1

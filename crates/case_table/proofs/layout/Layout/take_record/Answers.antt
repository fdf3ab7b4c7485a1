use Rattle.std.proofs.Common.{◌≡◌, ◌-◌, ℕ, List, length, take, drop, Ok, ap, subst, arith}
use Rattle.std.proofs.lemmas.List.{length-take, length-drop}
use Rattle.case_table.specs.Record.{StandAt}
use Rattle.case_table.proofs.RecordLemmas.{numbers_at-place, same_from_place, room_from_place, stand_behind}
use Rattle.case_table.proofs.layout.Layout.take_record.Goals as goal

pub returns-then-rest-length-clause-only : goal.returns-then-rest-length-clause-only
returns-then-rest-length-clause-only g c = λ values stands.
    let bytes = c.args.bytes.now in
    let at = c.args.at in
    absurd (omega (arith, c.if-rest-length.true, c.length.ensures.value, room_from_place c.args.self.now bytes at values stands, length-take (length bytes - at) (drop at bytes), length-drop at bytes))

-- what was read stands at the place
taken : (widths inside bytes values : List ℕ) (at : ℕ) → inside ≡ widths → StandAt inside (take (length bytes - at) (drop at bytes)) 0 values → StandAt widths bytes at values
taken widths inside bytes values at view stands =
    stand_behind widths bytes at values (subst (λ (ws : List ℕ). StandAt ws (take (length bytes - at) (drop at bytes)) 0 values) view stands)

pub returns-clause-numbers : goal.returns-clause-numbers
returns-clause-numbers g c =
    let bytes = c.args.bytes.now in
    let stands = taken c.args.self.now c.self.inside.widths bytes c.take_fields.new.values c.args.at c.self.view_is c.take_fields.ensures in
    numbers_at-place c.args.self.now bytes c.args.at c.take_fields.new.values stands

pub returns-clause-only : goal.returns-clause-only
returns-clause-only g c = λ values stand.
    let bytes = c.args.bytes.now in
    let stands = taken c.args.self.now c.self.inside.widths bytes c.take_fields.new.values c.args.at c.self.view_is c.take_fields.ensures in
    ap Ok (same_from_place c.args.self.now bytes c.args.at c.take_fields.new.values values stands stand)

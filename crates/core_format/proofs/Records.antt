-- A record that has room is read.
use Rattle.std.proofs.Common.{◌≡◌, ℕ, ◌+◌, ◌-◌, ◌≤◌, List, length, drop, Ok, refl, sym, ap, subst, ◌∙◌}
use Rattle.std.specs.Prelude.{sum}
use Rattle.std.proofs.lemmas.Bool.{le-leb}
use Rattle.case_table.proofs.RecordLemmas.{room_from_place}
use Rattle.case_table.specs.Record.{StandAt, numbers_at}
use Rattle.core_format.specs.Reader.{Reader, record_at}

-- a record is read where it has room
pub record_at-room : (widths : List ℕ) (here : Reader) (numbers : List ℕ) → sum widths ≤ length here.bytes - here.at → numbers_at widths (drop here.at here.bytes) ≡ numbers
    → record_at widths here ≡ Ok (numbers, record { bytes = here.bytes; at = here.at + sum widths })
record_at-room widths here numbers fits e = rw (le-leb _ _ fits, e) refl

-- what stands where reading stands is read, and reading stands behind it
pub record_at-stand : (widths : List ℕ) (here seen : Reader) (at long : ℕ) (numbers : List ℕ) → StandAt widths seen.bytes at numbers → numbers ≡ numbers_at widths (drop at seen.bytes) → seen ≡ here → at ≡ seen.at
    → long ≡ sum widths → record_at widths here ≡ Ok (numbers, record { bytes = seen.bytes; at = at + long })
record_at-stand widths here seen at long numbers stand numbers-is e at-is long-is =
    rw (← e, long-is, at-is) (record_at-room widths seen numbers (subst (λ (n : ℕ). sum widths ≤ length seen.bytes - n) at-is (room_from_place widths seen.bytes at numbers stand)) (ap (λ (n : ℕ). numbers_at widths (drop n seen.bytes)) (sym at-is) ∙ sym numbers-is))

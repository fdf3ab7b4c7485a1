-- Reading gives a value where its spelling stands, whatever stands behind.
use Rattle.std.proofs.Common.{◌≡◌, ℕ, ◌-◌, ◌≤◌, Bool, true, false, List, [], ◌∷◌, ◌++◌, length, take, drop, Result, Ok, refl, sym, ap, subst, ◌∙◌, append_assoc, arith}
use Rattle.std.specs.Prelude.{sum, map}
use Rattle.std.specs.List.{flat_map}
use Rattle.std.proofs.lemmas.List.{append-nil, drop-drop, drop_at, length-append, length-drop, map-id, map_push, take_at}
use Rattle.std.proofs.lemmas.Bool.{le-leb}
use Rattle.case_table.specs.Record.{Fit, numbers_at, spelling}
use Rattle.case_table.proofs.RecordLemmas.{length-spelling, numbers_at-spelling}
use Rattle.core_format.specs.declared.fault.Fault.{Fault}
use Rattle.core_format.specs.declared.fault.Fault.TheVariants.{Short}
use Rattle.core_format.specs.Reader.{Flaw, Reader, ◌>>=◌, bytes_at, further, record_at, rule}
use Rattle.core_format.specs.Items.{items_at}
use Rattle.core_format.proofs.SpellingLemmas.{rest}

-- the value is read, and these bytes are left
pub record Gives {A : Type 0} (r : Result (A × Reader) Flaw) (x : A) (more : List ℕ) : Type 0 where
  pub there : Reader
  pub read : r ≡ Ok (x, there)
  pub behind : rest there ≡ more

pub gives_ok : {A : Type 0} (x : A) (here : Reader) (more : List ℕ) → rest here ≡ more → Gives (Ok (x, here)) x more
gives_ok x here more e = record { there = here; read = refl; behind = e }

-- one step after the other
pub gives_then : {A B : Type 0} (r : Result (A × Reader) Flaw) (next : A × Reader → Result (B × Reader) Flaw) (x : A) (y : B) (middle more : List ℕ)
    → Gives r x middle → ((there : Reader) → rest there ≡ middle → Gives (next (x, there)) y more) → Gives (r >>= next) y more
gives_then {A} {B} r next x y middle more g f =
    let after = f g.there g.behind in
    record { there = after.there; read = ap (λ (q : Result (A × Reader) Flaw). q >>= next) g.read ∙ after.read; behind = after.behind }

-- a rule that holds
pub gives_rule : {B : Type 0} (holds : Bool) (offset : ℕ) (fault : Fault) (next : Unit {0} → Result (B × Reader) Flaw) (y : B) (more : List ℕ)
    → holds ≡ true → Gives (next tt) y more → Gives (rule holds offset fault >>= next) y more
gives_rule true offset fault next y more e g = g
gives_rule false offset fault next y more e g = absurd cc

-- rules that hold
pub gives_step : {B : Type 0} (r : Result (Unit {0}) Flaw) (next : Unit {0} → Result (B × Reader) Flaw) (y : B) (more : List ℕ)
    → r ≡ Ok tt → Gives (next tt) y more → Gives (r >>= next) y more
gives_step r next y more e g =
    record { there = g.there; read = ap (λ (q : Result (Unit {0}) Flaw). q >>= next) e ∙ g.read; behind = g.behind }

-- rules that hold, the last of them
pub kept : (holds : Bool) (offset : ℕ) (fault : Fault) → holds ≡ true → rule holds offset fault ≡ Ok tt
kept true offset fault e = refl
kept false offset fault e = absurd cc

pub kept_then : (holds : Bool) (offset : ℕ) (fault : Fault) (next : Unit {0} → Result (Unit {0}) Flaw) → holds ≡ true → next tt ≡ Ok tt → (rule holds offset fault >>= next) ≡ Ok tt
kept_then true offset fault next e f = f
kept_then false offset fault next e f = absurd cc

-- bytes that stand there have room
has_room : (here : Reader) (xs more : List ℕ) (count : ℕ) → rest here ≡ xs ++ more → length xs ≡ count → count ≤ length here.bytes - here.at
has_room here xs more count e long = omega (arith, length-append xs more, ap length e, length-drop here.at here.bytes)

past_them : (here : Reader) (xs more : List ℕ) (count : ℕ) → rest here ≡ xs ++ more → length xs ≡ count → rest (further count here) ≡ more
past_them here xs more count e long =
    sym (drop-drop count here.at here.bytes) ∙ ap (drop count) e ∙ drop_at xs more count long

-- a record that is spelled
record_gives : (widths values : List ℕ) (here : Reader) (more : List ℕ) → Fit widths values → rest here ≡ spelling widths values ++ more → Gives (record_at widths here) values more
record_gives widths values here more fit e =
    let long = length-spelling widths values fit in
    let numbers : numbers_at widths (rest here) ≡ values = ap (numbers_at widths) e ∙ numbers_at-spelling widths values more fit in
    let there = further (sum widths) here in
    gives_rule _ here.at Short (λ _. Ok (numbers_at widths (rest here), there)) values more (le-leb _ _ (has_room here (spelling widths values) more (sum widths) e long)) (record {
      there = there;
      read = ap (λ (v : List ℕ). Ok (v, there)) numbers;
      behind = past_them here (spelling widths values) more (sum widths) e long;
    })

pub gives_record : {B : Type 0} (widths values : List ℕ) (here : Reader) (next : List ℕ × Reader → Result (B × Reader) Flaw) (y : B) (middle more : List ℕ)
    → Fit widths values → rest here ≡ spelling widths values ++ middle → ((there : Reader) → rest there ≡ middle → Gives (next (values, there)) y more) → Gives (record_at widths here >>= next) y more
gives_record widths values here next y middle more fit e f = gives_then (record_at widths here) next values y middle more (record_gives widths values here middle fit e) f

-- bytes as they stand
pub bytes_give : (bytes : List ℕ) (count : ℕ) (here : Reader) (more : List ℕ) → length bytes ≡ count → rest here ≡ bytes ++ more → Gives (bytes_at count here) bytes more
bytes_give bytes count here more long e =
    let there = further count here in
    gives_rule _ here.at Short (λ _. Ok (take count (rest here), there)) bytes more (le-leb _ _ (has_room here bytes more count e long)) (record {
      there = there;
      read = ap (λ (v : List ℕ). Ok (v, there)) (ap (take count) e ∙ take_at bytes more count long);
      behind = past_them here bytes more count e long;
    })

-- room that is there
pub room_for : (here : Reader) (xs more : List ℕ) (count : ℕ) → rest here ≡ xs ++ more → length xs ≡ count → count ≤ length here.bytes - here.at
room_for here xs more count e long = has_room here xs more count e long

-- ---- items

-- items that are read as what is seen of them, each where those before it were read so
pub views_give : {A B : Type 0} (view : A → B) (spelled : A → List ℕ) (item : List B → Reader → Result (B × Reader) Flaw) (all : List A)
    → ((before : List A) (x : A) (left : List A) (here : Reader) (more : List ℕ) → all ≡ before ++ x ∷ left → rest here ≡ spelled x ++ more → Gives (item (map view before) here) (view x) more)
    → (left before : List A) (here : Reader) (more : List ℕ) → all ≡ before ++ left → rest here ≡ flat_map spelled left ++ more
    → Gives (items_at item (length left) (map view before) here) (map view all) more
unfolding items_at
views_give {A} {B} view spelled item all each [] before here more e stand =
    let same : map view before ≡ map view all = ap (map view) (sym (append-nil before) ∙ sym e) in
    record { there = here; read = ap (λ (t : List B). Ok (t, here)) same; behind = stand }
views_give {A} {B} view spelled item all each (x ∷ left) before here more e stand =
    let first : rest here ≡ spelled x ++ (flat_map spelled left ++ more) = stand ∙ append_assoc (spelled x) (flat_map spelled left) more in
    gives_then (item (map view before) here) (λ next. items_at item (length left) (map view before ++ next.0 ∷ []) next.1) (view x) (map view all) (flat_map spelled left ++ more) more
    (each before x left here (flat_map spelled left ++ more) e first) (λ there behind.
    subst (λ (b : List B). Gives (items_at item (length left) b there) (map view all) more) (map_push view before x)
    (views_give view spelled item all each left (before ++ x ∷ []) there more (e ∙ sym (append_assoc before (x ∷ []) left)) behind))

-- items that are read as they are
pub items_give : {A : Type 0} (spelled : A → List ℕ) (item : List A → Reader → Result (A × Reader) Flaw) (all : List A)
    → ((before : List A) (x : A) (left : List A) (here : Reader) (more : List ℕ) → all ≡ before ++ x ∷ left → rest here ≡ spelled x ++ more → Gives (item before here) x more)
    → (count : ℕ) (here : Reader) (more : List ℕ) → length all ≡ count → rest here ≡ flat_map spelled all ++ more → Gives (items_at item count [] here) all more
items_give {A} spelled item all each count here more long stand =
    subst (λ (n : ℕ). Gives (items_at item n [] here) all more) long
    (subst (λ (t : List A). Gives (items_at item (length all) [] here) t more) (map-id all)
    (views_give (λ (x : A). x) spelled item all (λ before x left here more e stand. subst (λ (b : List A). Gives (item b here) x more) (sym (map-id before)) (each before x left here more e stand)) all [] here more refl stand))

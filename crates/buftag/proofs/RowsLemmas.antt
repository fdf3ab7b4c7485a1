-- The table that the code tests by bits has the rows of the definition.
use Rattle.std.proofs.Common.{◌≡◌, ℕ, zero, suc, ◌<◌, ◌∙◌, Bool, true, false, ◌&&◌, cond, eqb, ltb, bit_or, List, length, slice_get, inl, inr, get_or, Option, Some, None, refl, ap, sym, arith}
use Rattle.std.specs.Option.{option_eq}
use Rattle.std.specs.List.{position, position_or_len, find}
use Rattle.std.specs.Option.{option_map}
use Rattle.std.proofs.lemmas.Bool.{ltb-true, lt-ltb}
use Rattle.std.proofs.lemmas.List.Folds.{find_at}
use Rattle.std.proofs.lemmas.Option.{slice_get_cases, slice_get-get_or}
use Rattle.case_table.specs.declared.rule.Rule.{Rule}
use Rattle.case_table.specs.Cases.{is_hit}
use Rattle.buftag.specs.declared.check.TheConstants.{RULES}
use Rattle.buftag.specs.declared.facts.Facts.{Facts}
use Rattle.buftag.specs.declared.kind.Kind.{Kind}
use Rattle.buftag.specs.declared.kind.Kind.TheVariants.{OfClass, Declared, Unused}
use Rattle.buftag.specs.declared.fact.Fact.{Fact}
use Rattle.buftag.specs.declared.fact.Fact.TheVariants.{Tag, Code, Guard, Low, Word, Pattern}
use Rattle.buftag.specs.Findings.{decides, facts_of, finding, finding_of, kind_of, rows, wrong_word}
use Rattle.buftag.specs.declared.shape.Shape.{Shape}
use Rattle.buftag.specs.declared.state.State.{State}
use Rattle.buftag.specs.Rows.{fact_bit, finding_of_bit, kind_bit}
use Rattle.buftag.proofs.ShapeLemmas.{passed_value, same_option}

-- the bits of the facts that hold
abbrev pub bits_of : Bool → Bool → Bool → Bool → Bool → Bool → ℕ
bits_of t c g l w p =
    bit_or (bit_or (bit_or (bit_or (bit_or (bit_or 0 (cond t 1 0)) (cond c 2 0)) (cond g 4 0)) (cond l 8 0)) (cond w 16 0)) (cond p 32 0)

abbrev facts_from : Bool → Bool → Bool → Bool → Bool → Bool → Facts
facts_from t c g l w p = record { tag = t; code = c; guard = g; low = l; word = w; pattern = p }

-- a test that passes for both
abbrev each : (Bool → Bool) → Bool
each test = test true && test false

each-at : (test : Bool → Bool) → each test ≡ true → (b : Bool) → test b ≡ true
each-at test e true = elim (test true) as (λ b. b && test false ≡ true → b ≡ true) [ true ↦ λ _. refl | false ↦ λ e. absurd (cc) ] e
each-at test e false = elim (test true) as (λ b. b && test false ≡ true → test false ≡ true) [ true ↦ λ e. e | false ↦ λ e. absurd (cc) ] e

-- the code's row is the definition's
abbrev same_row : Kind → Bool → Bool → Bool → Bool → Bool → Bool → Bool
same_row kind t c g l w p =
    option_eq eqb (position (is_hit (kind_bit kind) (bits_of t c g l w p)) RULES.rows)
    (position (decides kind (facts_from t c g l w p)) rows)

all_rows : (kind : Kind) → each (λ t. each (λ c. each (λ g. each (λ l. each (λ w. each (λ p. same_row kind t c g l w p)))))) ≡ true
all_rows OfClass = refl
all_rows Declared = refl
all_rows Unused = refl

-- the first row that hits is the first that decides, whatever the facts are
pub same_place : (kind : Kind) (facts : Facts) →
    position (is_hit (kind_bit kind) (bits_of facts.tag facts.code facts.guard facts.low facts.word facts.pattern)) RULES.rows ≡ position (decides kind facts) rows
same_place kind facts =
    let of_t = each-at (λ t. each (λ c. each (λ g. each (λ l. each (λ w. each (λ p. same_row kind t c g l w p)))))) (all_rows kind) facts.tag in
    let of_c = each-at (λ c. each (λ g. each (λ l. each (λ w. each (λ p. same_row kind facts.tag c g l w p))))) of_t facts.code in
    let of_g = each-at (λ g. each (λ l. each (λ w. each (λ p. same_row kind facts.tag facts.code g l w p)))) of_c facts.guard in
    let of_l = each-at (λ l. each (λ w. each (λ p. same_row kind facts.tag facts.code facts.guard l w p))) of_g facts.low in
    let of_w = each-at (λ w. each (λ p. same_row kind facts.tag facts.code facts.guard facts.low w p)) of_l facts.word in
    same_option _ _ (each-at (λ p. same_row kind facts.tag facts.code facts.guard facts.low facts.word p) of_w facts.pattern)

-- the fact of a row by its number
abbrev pub fact_at : ℕ → Fact
fact_at i = (get_or rows i (record { kind = OfClass; fact = Tag })).fact

-- the code's rows have the bits of these facts
pub fact_at-bit : (i : ℕ) (d : Rule) → i < 9 → (get_or RULES.rows i d).fact ≡ fact_bit (fact_at i)
fact_at-bit zero d h = refl
fact_at-bit (suc zero) d h = refl
fact_at-bit (suc (suc zero)) d h = refl
fact_at-bit (suc (suc (suc zero))) d h = refl
fact_at-bit (suc (suc (suc (suc zero)))) d h = refl
fact_at-bit (suc (suc (suc (suc (suc zero))))) d h = refl
fact_at-bit (suc (suc (suc (suc (suc (suc zero)))))) d h = refl
fact_at-bit (suc (suc (suc (suc (suc (suc (suc zero))))))) d h = refl
fact_at-bit (suc (suc (suc (suc (suc (suc (suc (suc zero)))))))) d h = refl
fact_at-bit (suc (suc (suc (suc (suc (suc (suc (suc (suc n))))))))) d h = absurd (omega arith)

-- the place of what is found
found : {X : Type 0} (p : X → Bool) (xs : List X) (i : ℕ) (d : X) → position p xs ≡ Some i → (i < length xs) × (find p xs ≡ Some (get_or xs i d))
found p xs i d e =
    let both = passed_value (ltb (position_or_len p xs) (length xs)) i (position_or_len p xs) e in
    let place : position_or_len p xs ≡ i = both.1 in
    let within : i < length xs = ltb-true i (length xs) (ap (λ k. ltb k (length xs)) (sym place) ∙ both.0) in
    (within, find_at p xs ∙ ap (slice_get xs) place ∙ slice_get-get_or xs i d within)

not_found : {X : Type 0} (p : X → Bool) (xs : List X) → position p xs ≡ None → find p xs ≡ None
not_found p xs e =
    let place = position_or_len p xs in
    elim (slice_get_cases xs place).1 [
      | inl w ↦ (let found : position p xs ≡ Some place = ap (λ b. cond b (Some place) None) (lt-ltb place (length xs) w.1) in absurd (cc))
      | inr w ↦ find_at p xs ∙ w.1
    ]

-- the number of the first row that decides is that of a row, and its fact is what is called
found_at : (bytes : List ℕ) (shape : Shape) (state : State) (i : ℕ)
    → position (decides (kind_of shape state) (facts_of bytes shape state)) rows ≡ Some i
    → (i < 9) × (finding bytes shape state ≡ Some (finding_of (fact_at i) bytes shape))
unfolding finding
found_at bytes shape state i e =
    let both = found (decides (kind_of shape state) (facts_of bytes shape state)) rows i (record { kind = OfClass; fact = Tag }) e in
    (both.0, ap (option_map (λ row. finding_of row.fact bytes shape)) both.1)

none_found : (bytes : List ℕ) (shape : Shape) (state : State)
    → position (decides (kind_of shape state) (facts_of bytes shape state)) rows ≡ None
    → finding bytes shape state ≡ None
unfolding finding
none_found bytes shape state e =
    ap (option_map (λ row. finding_of row.fact bytes shape)) (not_found (decides (kind_of shape state) (facts_of bytes shape state)) rows e)

-- what a fact is called, by its bit
finding_of-bit : (f : Fact) (bytes : List ℕ) (shape : Shape) → finding_of_bit (fact_bit f) (wrong_word bytes shape) ≡ finding_of f bytes shape
finding_of-bit Tag bytes shape = refl
finding_of-bit Code bytes shape = refl
finding_of-bit Guard bytes shape = refl
finding_of-bit Low bytes shape = refl
finding_of-bit Word bytes shape = refl
finding_of-bit Pattern bytes shape = refl

-- the same in the words of the code
pub found_row : (bytes : List ℕ) (shape : Shape) (state : State) (kind : Kind) (facts : Facts) (place : Option ℕ) (i : ℕ)
    → kind ≡ kind_of shape state → facts ≡ facts_of bytes shape state → place ≡ position (decides kind facts) rows → place ≡ Some i
    → (i < 9) × ((d : Rule) → finding bytes shape state ≡ Some (finding_of_bit ((get_or RULES.rows i d).fact) (wrong_word bytes shape)))
found_row bytes shape state kind facts place i k f p e =
    let found = found_at bytes shape state i (ap (λ (k : Kind). position (decides k (facts_of bytes shape state)) rows) (sym k) ∙ ap (λ (f : Facts). position (decides kind f) rows) (sym f) ∙ sym p ∙ e) in
    (found.0, λ d. found.1 ∙ ap Some (sym (finding_of-bit (fact_at i) bytes shape) ∙ ap (λ (bit : ℕ). finding_of_bit bit (wrong_word bytes shape)) (sym (fact_at-bit i d found.0))))

pub found_no_row : (bytes : List ℕ) (shape : Shape) (state : State) (kind : Kind) (facts : Facts) (place : Option ℕ)
    → kind ≡ kind_of shape state → facts ≡ facts_of bytes shape state → place ≡ position (decides kind facts) rows → place ≡ None
    → finding bytes shape state ≡ None
found_no_row bytes shape state kind facts place k f p e =
    none_found bytes shape state (ap (λ (k : Kind). position (decides k (facts_of bytes shape state)) rows) (sym k) ∙ ap (λ (f : Facts). position (decides kind f) rows) (sym f) ∙ sym p ∙ e)

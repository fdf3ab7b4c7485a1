-- What was read is spelled so, section by section.
use Rattle.std.proofs.Common.{◌≡◌, ℕ, zero, suc, ◌+◌, ◌-◌, ◌≤◌, Bool, true, false, leb, List, [], ◌∷◌, ◌++◌, length, take, drop, Result, Ok, Err, refl, sym, ap, subst, ◌∙◌, append_assoc, arith}
use Rattle.std.specs.Prelude.{sum}
use Rattle.std.specs.List.{flat_map}
use Rattle.std.proofs.lemmas.List.{append-nil, length-drop, length-take, take-append-drop, drop-drop, get_or-drop}
use Rattle.std.proofs.lemmas.Bool.{leb-true}
use Rattle.byteorder.specs.Endian.{little_bytes}
use Rattle.case_table.specs.Record.{numbers_at, spelling}
use Rattle.case_table.proofs.RecordLemmas.{IsBytes, spelling-numbers_at}
use Rattle.core_format.specs.declared.fault.Fault.{Fault}
use Rattle.core_format.specs.Reader.{Flaw, Reader, ◌>>=◌, bytes_at, further, record_at, rule}
use Rattle.core_format.specs.Items.{items_at, next_word_at, one_word, words_at}
use Rattle.core_format.proofs.ListLemmas.{ok_is}

-- where there is a value, it is so
pub When : {A : Type 0} → Result A Flaw → (A → Type 0) → Type 0
When (Ok x) P = P x
When (Err flaw) P = Unit {0}

pub when_ok : {A : Type 0} (x : A) (P : A → Type 0) → P x → When (Ok x) P
unfolding When
when_ok x P p = p

pub when_is : {A : Type 0} (P : A → Type 0) (r : Result A Flaw) (x : A) → When r P → r ≡ Ok x → P x
unfolding When
when_is P (Ok y) x p e = subst P (ok_is y x e) p
when_is P (Err flaw) x p e = absurd cc

-- a step that is a rule
pub after_rule : {A : Type 0} (P : A → Type 0) (holds : Bool) (offset : ℕ) (fault : Fault) (next : Unit {0} → Result A Flaw) → (holds ≡ true → When (next tt) P) → When (rule holds offset fault >>= next) P
unfolding When
after_rule P true offset fault next f = f refl
after_rule P false offset fault next f = tt

-- a step that gives a value
pub after : {A B : Type 0} (P : B → Type 0) (Q : A → Type 0) (r : Result A Flaw) (next : A → Result B Flaw) → When r Q → ((x : A) → Q x → When (next x) P) → When (r >>= next) P
unfolding When
after P Q (Ok x) next q f = f x q
after P Q (Err flaw) next q f = tt

-- a step that tells only whether rules hold
pub after_any : {A B : Type 0} (P : B → Type 0) (r : Result A Flaw) (next : A → Result B Flaw) → ((x : A) → When (next x) P) → When (r >>= next) P
unfolding When
after_any P (Ok x) next f = f x
after_any P (Err flaw) next f = tt

-- a rule, and the value of the step that it guards
pub after_guarded : {A B : Type 0} (P : B → Type 0) (holds : Bool) (offset : ℕ) (fault : Fault) (x : A) (next : A → Result B Flaw) → (holds ≡ true → When (next x) P) → When ((rule holds offset fault >>= λ _. Ok x) >>= next) P
unfolding When
after_guarded P true offset fault x next f = f refl
after_guarded P false offset fault x next f = tt

pub when_rule : (holds : Bool) (offset : ℕ) (fault : Fault) → When (rule holds offset fault) (λ _. holds ≡ true)
unfolding When
when_rule true offset fault = refl
when_rule false offset fault = tt

pub when_map : {A : Type 0} (P Q : A → Type 0) (r : Result A Flaw) → When r P → ((x : A) → P x → Q x) → When r Q
unfolding When
when_map P Q (Ok x) p f = f x p
when_map P Q (Err flaw) p f = tt

abbrev pub rest : Reader → List ℕ
rest here = drop here.at here.bytes

-- reading went on over these bytes
pub record Passed (here there : Reader) (bytes : List ℕ) : Type 0 where
  pub same : there.bytes ≡ here.bytes
  pub front : rest here ≡ bytes ++ rest there

pub passed_none : (here : Reader) → Passed here here []
passed_none here = record { same = refl; front = refl }

pub passed_more : (a b c : Reader) (xs ys : List ℕ) → Passed a b xs → Passed b c ys → Passed a c (xs ++ ys)
passed_more a b c xs ys p q = record {
  same = q.same ∙ p.same;
  front = p.front ∙ ap (λ (t : List ℕ). xs ++ t) q.front ∙ sym (append_assoc xs ys (rest c));
}

pub passed_as : (a b : Reader) (xs ys : List ℕ) → xs ≡ ys → Passed a b xs → Passed a b ys
passed_as a b xs ys e p = subst (λ (t : List ℕ). Passed a b t) e p

pub good_behind : (a b : Reader) (xs : List ℕ) → Passed a b xs → IsBytes a.bytes → IsBytes b.bytes
good_behind a b xs p good = subst IsBytes (sym p.same) good

-- bytes as they stand
pub bytes_passed : (count : ℕ) (here : Reader) → When (bytes_at count here) (λ out. Passed here out.1 out.0 × (length out.0 ≡ count))
bytes_passed count here = after_rule _ (leb count (length here.bytes - here.at)) here.at _ _ (λ room.
    when_ok _ _ (
      record {
        same = refl;
        front = sym (take-append-drop count (rest here)) ∙ ap (λ (t : List ℕ). take count (rest here) ++ t) (drop-drop count here.at here.bytes);
      },
      omega (arith, leb-true _ _ room, length-take count (rest here), length-drop here.at here.bytes),
    ))

good_rest : (bytes : List ℕ) (n : ℕ) → IsBytes bytes → IsBytes (drop n bytes)
good_rest bytes n good i = rw get_or-drop (good (n + i))

-- a record is spelled as it stands
pub after_record : {B : Type 0} (P : B → Type 0) (widths : List ℕ) (here : Reader) (next : List ℕ × Reader → Result B Flaw) → IsBytes here.bytes
    → (Passed here (further (sum widths) here) (spelling widths (numbers_at widths (rest here))) → When (next (numbers_at widths (rest here), further (sum widths) here)) P) → When (record_at widths here >>= next) P
after_record P widths here next good f = after_guarded P (leb (sum widths) (length here.bytes - here.at)) here.at _ (numbers_at widths (rest here), further (sum widths) here) next (λ room.
    let fits : sum widths ≤ length (rest here) = omega (arith, leb-true _ _ room, length-drop here.at here.bytes) in
    let spelled = spelling-numbers_at widths (rest here) (good_rest here.bytes here.at good) fits in
    f (record {
      same = refl;
      front = sym (take-append-drop (sum widths) (rest here)) ∙ ap (λ (t : List ℕ). t ++ drop (sum widths) (rest here)) (sym spelled) ∙ ap (λ (t : List ℕ). spelling widths (numbers_at widths (rest here)) ++ t) (drop-drop (sum widths) here.at here.bytes);
    }))

-- items, one after the other: those that were read, behind those before them
pub record Items {A : Type 0} (spelled : A → List ℕ) (count : ℕ) (before : List A) (here : Reader) (out : List A × Reader) : Type 0 where
  pub more : List A
  pub behind : out.0 ≡ before ++ more
  pub many : length more ≡ count
  pub passed : Passed here out.1 (flat_map spelled more)

pub items_passed : {A : Type 0} (spelled : A → List ℕ) (item : List A → Reader → Result (A × Reader) Flaw)
    → ((before : List A) (here : Reader) → IsBytes here.bytes → When (item before here) (λ out. Passed here out.1 (spelled out.0)))
    → (count : ℕ) (before : List A) (here : Reader) → IsBytes here.bytes → When (items_at item count before here) (Items spelled count before here)
unfolding items_at
items_passed spelled item each zero before here good = when_ok (before, here) (Items spelled zero before here) (record { more = []; behind = sym (append-nil before); many = refl; passed = passed_none here })
items_passed {A} spelled item each (suc count) before here good =
    after (Items spelled (suc count) before here) (λ next. Passed here next.1 (spelled next.0)) (item before here) (λ next. items_at item count (before ++ next.0 ∷ []) next.1) (each before here good) (λ next p.
    when_map (Items spelled count (before ++ next.0 ∷ []) next.1) (Items spelled (suc count) before here) _ (items_passed spelled item each count (before ++ next.0 ∷ []) next.1 (good_behind here next.1 (spelled next.0) p good)) (λ out i. record {
      more = next.0 ∷ i.more;
      behind = i.behind ∙ append_assoc before (next.0 ∷ []) i.more;
      many = ap suc i.many;
      passed = passed_more here next.1 out.1 (spelled next.0) (flat_map spelled i.more) p i.passed;
    }))

-- all items of a section
pub record Section {A : Type 0} (spelled : A → List ℕ) (count : ℕ) (here : Reader) (out : List A × Reader) : Type 0 where
  pub many : length out.0 ≡ count
  pub passed : Passed here out.1 (flat_map spelled out.0)

pub section_passed : {A : Type 0} (spelled : A → List ℕ) (item : List A → Reader → Result (A × Reader) Flaw)
    → ((before : List A) (here : Reader) → IsBytes here.bytes → When (item before here) (λ out. Passed here out.1 (spelled out.0)))
    → (count : ℕ) (here : Reader) → IsBytes here.bytes → When (items_at item count [] here) (Section spelled count here)
section_passed spelled item each count here good = when_map (Items spelled count [] here) (Section spelled count here) _ (items_passed spelled item each count [] here good) (λ out i. record {
  many = ap length i.behind ∙ i.many;
  passed = passed_as here out.1 _ _ (ap (flat_map spelled) (sym i.behind)) i.passed;
})

-- words of eight bytes
word_passed : (before : List ℕ) (here : Reader) → IsBytes here.bytes → When (next_word_at before here) (λ out. Passed here out.1 (little_bytes 8 out.0))
unfolding one_word
word_passed before here good = after_record _ (8 ∷ []) here _ good (λ p. when_ok _ _ (passed_as _ _ _ _ (append-nil _) p))

pub words_passed : (count : ℕ) (here : Reader) → IsBytes here.bytes → When (words_at count here) (Section (little_bytes 8) count here)
words_passed count here good = section_passed (little_bytes 8) next_word_at word_passed count here good

-- What lines say, with one line more.
use Rattle.std.proofs.Common.{◌≡◌, ℕ, suc, ◌<◌, Bool, true, false, cond, List, [], ◌∷◌, ◌++◌, map, length, drop, Option, Some, None, refl, ap, ◌∙◌, arith}
use Rattle.std.specs.Prelude.{not, codes, filter, nat_lt, ◌==◌, unwrap_or}
use Rattle.std.specs.Str.{bytes_eq}
use Rattle.std.specs.List.{list_all}
use Rattle.std.specs.Option.{option_map_or}
use Rattle.std.proofs.lemmas.Bool.{eqb-false, ltb-false}
use Rattle.std.proofs.lemmas.List.{map-append, append-nil}
use Rattle.std.proofs.lemmas.List.Elements.{filter-append}
use Rattle.umem_base.specs.Numbers.{is_decimal}
use Rattle.umem_base.specs.Lines.{words_of}
use Rattle.case_table.specs.declared.cache_def.CacheDef.{CacheDef}
use Rattle.script.specs.declared.operation.OpName.{OpName}
use Rattle.script.specs.declared.reasons.Reason.{Reason}
use Rattle.script.specs.declared.reasons.Reason.TheVariants as reasons
use Rattle.script.specs.Grammar.{fields_of, has_count, is_too_many, no_plan, nth_word, skipped, header_line, second_header, cache_line, phase_line, step_line, no_line, cache_of, cut_phases, declared_in, form_of, later_form, step_form, is_cache_line, is_phase_line, onto_phase, plan_in, said_in, said_by, turn_in}
use Rattle.script.specs.Lines.{is_line_byte, is_comment, is_kept, kept_lines}
use Rattle.script.specs.Plan.{Turn, Plan}
use Rattle.script.specs.Fields.{number_in}
use Rattle.script.specs.OpWords.{op_named}
use Rattle.script.specs.Reading.{form_fault, least_of, line_fault, onto_last, or_else, standing_fault, with_cache, with_line, with_next, with_phase, with_turn}

-- there is a part before the first phase line
cut_phases-some : (caches : List CacheDef) (lines : List (List (List ℕ))) → (first : List Turn) × (phases : List (List Turn)) × (cut_phases caches lines ≡ first ∷ phases)
cut_phases-some caches [] = ([], [], refl)
cut_phases-some caches (words ∷ lines) = go (is_cache_line words) (is_phase_line words) (cut_phases caches lines) (cut_phases-some caches lines)
  where
    go : (declares begins : Bool) (rest : List (List Turn)) → (first : List Turn) × (phases : List (List Turn)) × (rest ≡ first ∷ phases)
        → (first : List Turn) × (phases : List (List Turn)) × (cond declares rest (cond begins ([] ∷ rest) (onto_phase (turn_in caches words) rest)) ≡ first ∷ phases)
    go true begins rest h = h
    go false true rest h = ([], rest, refl)
    go false false rest h = (turn_in caches words ∷ h.0, h.1, ap (onto_phase (turn_in caches words)) h.2)

-- how many phases there are does not depend on the caches
cut_phases-length : (caches other : List CacheDef) (lines : List (List (List ℕ))) → length (cut_phases caches lines) ≡ length (cut_phases other lines)
cut_phases-length caches other [] = refl
cut_phases-length caches other (words ∷ lines) =
    go (is_cache_line words) (is_phase_line words) (cut_phases caches lines) (cut_phases other lines) (cut_phases-length caches other lines)
  where
    go : (declares begins : Bool) (xs ys : List (List Turn)) → length xs ≡ length ys
        → length (cond declares xs (cond begins ([] ∷ xs) (onto_phase (turn_in caches words) xs))) ≡ length (cond declares ys (cond begins ([] ∷ ys) (onto_phase (turn_in other words) ys)))
    go true begins xs ys h = h
    go false true xs ys h = ap suc h
    go false false [] [] h = refl
    go false false [] (y ∷ ys) h = absurd (omega arith)
    go false false (x ∷ xs) [] h = absurd (omega arith)
    go false false (x ∷ xs) (y ∷ ys) h = h

-- a cache line begins no phase and is no call
cut_phases-cache : (caches : List CacheDef) (lines : List (List (List ℕ))) (words : List (List ℕ)) → is_cache_line words ≡ true → cut_phases caches (lines ++ words ∷ []) ≡ cut_phases caches lines
cut_phases-cache caches [] words declares = rw declares refl
cut_phases-cache caches (line ∷ lines) words declares =
    ap (λ (rest : List (List Turn)). cond (is_cache_line line) rest (cond (is_phase_line line) ([] ∷ rest) (onto_phase (turn_in caches line) rest))) (cut_phases-cache caches lines words declares)

onto_phase-append : (turn : Turn) (first : List Turn) (phases more : List (List Turn)) → onto_phase turn ((first ∷ phases) ++ more) ≡ onto_phase turn (first ∷ phases) ++ more
onto_phase-append turn first phases more = refl

-- a phase line begins a phase
cut_phases-phase : (caches : List CacheDef) (lines : List (List (List ℕ))) (words : List (List ℕ)) → is_cache_line words ≡ false → is_phase_line words ≡ true
    → cut_phases caches (lines ++ words ∷ []) ≡ cut_phases caches lines ++ [] ∷ []
cut_phases-phase caches [] words other begins = rw (other, begins) refl
cut_phases-phase caches (line ∷ lines) words other begins =
    ap (λ (rest : List (List Turn)). cond (is_cache_line line) rest (cond (is_phase_line line) ([] ∷ rest) (onto_phase (turn_in caches line) rest))) (cut_phases-phase caches lines words other begins)
    ∙ go (is_cache_line line) (is_phase_line line) (cut_phases caches lines) (cut_phases-some caches lines)
  where
    go : (declares begins : Bool) (rest : List (List Turn)) → (first : List Turn) × (phases : List (List Turn)) × (rest ≡ first ∷ phases)
        → cond declares (rest ++ [] ∷ []) (cond begins ([] ∷ rest ++ [] ∷ []) (onto_phase (turn_in caches line) (rest ++ [] ∷ [])))
        ≡ cond declares rest (cond begins ([] ∷ rest) (onto_phase (turn_in caches line) rest)) ++ [] ∷ []
    go true begins rest h = refl
    go false true rest h = refl
    go false false rest h = rw h.2 refl

-- a step is a call of the last phase
cut_phases-step : (caches : List CacheDef) (lines : List (List (List ℕ))) (words : List (List ℕ)) → is_cache_line words ≡ false → is_phase_line words ≡ false
    → cut_phases caches (lines ++ words ∷ []) ≡ onto_last (turn_in caches words) (cut_phases caches lines)
cut_phases-step caches [] words other calls = rw (other, calls) refl
cut_phases-step caches (line ∷ lines) words other calls =
    ap (λ (rest : List (List Turn)). cond (is_cache_line line) rest (cond (is_phase_line line) ([] ∷ rest) (onto_phase (turn_in caches line) rest))) (cut_phases-step caches lines words other calls)
    ∙ go (is_cache_line line) (is_phase_line line) (cut_phases caches lines) (cut_phases-some caches lines)
  where
    among : (turn : Turn) (first : List Turn) (phases : List (List Turn)) → onto_phase (turn_in caches line) (onto_last turn (first ∷ phases)) ≡ onto_last turn (onto_phase (turn_in caches line) (first ∷ phases))
    among turn first [] = refl
    among turn first (next ∷ phases) = refl

    go : (declares begins : Bool) (rest : List (List Turn)) → (first : List Turn) × (phases : List (List Turn)) × (rest ≡ first ∷ phases)
        → cond declares (onto_last (turn_in caches words) rest) (cond begins ([] ∷ onto_last (turn_in caches words) rest) (onto_phase (turn_in caches line) (onto_last (turn_in caches words) rest)))
        ≡ onto_last (turn_in caches words) (cond declares rest (cond begins ([] ∷ rest) (onto_phase (turn_in caches line) rest)))
    go true begins rest h = refl
    go false true rest h = rw h.2 refl
    go false false rest h = rw h.2 (among (turn_in caches words) h.0 h.1)

-- the declared caches with one line more
declared_in-more : (lines : List (List (List ℕ))) (words : List (List ℕ)) → declared_in (lines ++ words ∷ []) ≡ declared_in lines ++ cond (is_cache_line words) (cache_of words ∷ []) []
declared_in-more lines words =
    ap (map cache_of) (filter-append is_cache_line lines (words ∷ [])) ∙ map-append cache_of (filter is_cache_line lines) (filter is_cache_line (words ∷ [])) ∙ ap (λ (more : List CacheDef). declared_in lines ++ more) (go (is_cache_line words))
  where
    go : (declares : Bool) → map cache_of (cond declares (words ∷ []) []) ≡ cond declares (cache_of words ∷ []) []
    go true = refl
    go false = refl

-- the plan of a header with these caches and phases
abbrev made : List (List ℕ) → List CacheDef → List (List Turn) → Plan
made header caches phases = record {
  header = record { version = number_in (nth_word header 1); cpus = number_in (nth_word header 3); threads = number_in (nth_word header 5); caches = caches };
  phases = phases;
}

-- behind no phase there is none with other caches either
no_phase : (xs ys : List (List Turn)) → length xs ≡ length ys → length (drop 1 xs) ≡ 0 → drop 1 ys ≡ drop 1 xs
no_phase [] [] same none = refl
no_phase [] (y ∷ ys) same none = absurd (omega arith)
no_phase (x ∷ []) [] same none = absurd (omega arith)
no_phase (x ∷ []) (y ∷ []) same none = refl
no_phase (x ∷ []) (y ∷ z ∷ ys) same none = absurd (omega arith)
no_phase (x ∷ w ∷ xs) ys same none = absurd (omega arith)

-- a plan with a cache more
plan_in-cache : (header : List (List ℕ)) (lines : List (List (List ℕ))) (words : List (List ℕ)) → is_cache_line words ≡ true → length (drop 1 (cut_phases (declared_in lines) lines)) ≡ 0
    → plan_in header (lines ++ words ∷ []) ≡ with_cache (plan_in header lines) (cache_of words)
plan_in-cache header lines words declares none =
    let caches : declared_in (lines ++ words ∷ []) ≡ declared_in lines ++ cache_of words ∷ [] =
    declared_in-more lines words ∙ ap (λ b. declared_in lines ++ cond b (cache_of words ∷ []) []) declares in
    let phases : drop 1 (cut_phases (declared_in (lines ++ words ∷ [])) (lines ++ words ∷ [])) ≡ drop 1 (cut_phases (declared_in lines) lines) =
    ap (λ (xs : List (List Turn)). drop 1 xs) (cut_phases-cache (declared_in (lines ++ words ∷ [])) lines words declares)
    ∙ no_phase (cut_phases (declared_in lines) lines) (cut_phases (declared_in (lines ++ words ∷ [])) lines) (cut_phases-length (declared_in lines) (declared_in (lines ++ words ∷ [])) lines) none in
    ap (λ (cs : List CacheDef). made header cs (drop 1 (cut_phases (declared_in (lines ++ words ∷ [])) (lines ++ words ∷ [])))) caches
    ∙ ap (made header (declared_in lines ++ cache_of words ∷ [])) phases

same_caches : (lines : List (List (List ℕ))) (words : List (List ℕ)) → is_cache_line words ≡ false → declared_in (lines ++ words ∷ []) ≡ declared_in lines
same_caches lines words other = declared_in-more lines words ∙ ap (λ b. declared_in lines ++ cond b (cache_of words ∷ []) []) other ∙ append-nil (declared_in lines)

-- a plan with a phase more
plan_in-phase : (header : List (List ℕ)) (lines : List (List (List ℕ))) (words : List (List ℕ)) → is_cache_line words ≡ false → is_phase_line words ≡ true
    → plan_in header (lines ++ words ∷ []) ≡ with_phase (plan_in header lines)
plan_in-phase header lines words other begins =
    ap (λ (cs : List CacheDef). made header cs (drop 1 (cut_phases cs (lines ++ words ∷ [])))) (same_caches lines words other)
    ∙ ap (λ (xs : List (List Turn)). made header (declared_in lines) (drop 1 xs)) (cut_phases-phase (declared_in lines) lines words other begins)
    ∙ ap (made header (declared_in lines)) (go (cut_phases (declared_in lines) lines) (cut_phases-some (declared_in lines) lines))
  where
    go : (xs : List (List Turn)) → (first : List Turn) × (phases : List (List Turn)) × (xs ≡ first ∷ phases) → drop 1 (xs ++ [] ∷ []) ≡ drop 1 xs ++ [] ∷ []
    go xs h = rw h.2 refl

-- a plan with a call more
plan_in-step : (header : List (List ℕ)) (lines : List (List (List ℕ))) (words : List (List ℕ)) → is_cache_line words ≡ false → is_phase_line words ≡ false → 0 < length (drop 1 (cut_phases (declared_in lines) lines))
    → plan_in header (lines ++ words ∷ []) ≡ with_turn (plan_in header lines) (turn_in (declared_in lines) words)
plan_in-step header lines words other calls some =
    ap (λ (cs : List CacheDef). made header cs (drop 1 (cut_phases cs (lines ++ words ∷ [])))) (same_caches lines words other)
    ∙ ap (λ (xs : List (List Turn)). made header (declared_in lines) (drop 1 xs)) (cut_phases-step (declared_in lines) lines words other calls)
    ∙ ap (made header (declared_in lines)) (go (cut_phases (declared_in lines) lines) some)
  where
    go : (xs : List (List Turn)) → 0 < length (drop 1 xs) → drop 1 (onto_last (turn_in (declared_in lines) words) xs) ≡ onto_last (turn_in (declared_in lines) words) (drop 1 xs)
    go [] h = absurd (omega arith)
    go (x ∷ []) h = absurd (omega arith)
    go (x ∷ y ∷ xs) h = refl

-- what a line that is not refused shows
standing_none : (lacks none count : Bool) (fields standing : Option Reason)
    → cond lacks (Some reasons.Header) (cond none (Some reasons.Word) (cond count (or_else fields standing) (Some reasons.Count))) ≡ None → (none ≡ false) × (standing ≡ None)
standing_none true none count fields standing h = absurd (cc h)
standing_none false true count fields standing h = absurd (cc h)
standing_none false false false fields standing h = absurd (cc h)
standing_none false false true None standing h = (refl, h)
standing_none false false true (Some reason) standing h = absurd (cc h)

in_place : (misplaced many : Bool) → cond misplaced (Some reasons.Order) (cond many (Some reasons.Limit) None) ≡ None → misplaced ≡ false
in_place true many h = absurd (cc h)
in_place false many h = refl

-- a step more
said_in-step : (header : List (List ℕ)) (word : List ℕ) (rest : List (List ℕ)) (lines : List (List (List ℕ))) → is_cache_line (word ∷ rest) ≡ false → is_phase_line (word ∷ rest) ≡ false
    → form_fault (plan_in header lines) (step_form rest) (word ∷ rest) ≡ None → Some (plan_in header (lines ++ (word ∷ rest) ∷ [])) ≡ with_line (Some (plan_in header lines)) (step_form rest) (word ∷ rest)
said_in-step header word [] lines other calls h = absurd (cc h)
said_in-step header word (name ∷ rest) lines other calls h = named (op_named name) h
  where
    named : (o : Option OpName) → form_fault (plan_in header lines) (option_map_or step_line o no_line) (word ∷ name ∷ rest) ≡ None
        → Some (plan_in header (lines ++ (word ∷ name ∷ rest) ∷ [])) ≡ with_line (Some (plan_in header lines)) (option_map_or step_line o no_line) (word ∷ name ∷ rest)
    named None k = absurd (cc k)
    named (Some op) k =
        let plan = plan_in header lines in
        let parts = standing_none false false (has_count plan.header.version (step_line op) (word ∷ name ∷ rest)) (least_of plan.header (fields_of (step_line op) (word ∷ name ∷ rest))) (standing_fault plan (step_line op)) k in
        let begun = in_place (length plan.phases == 0) (is_too_many plan (step_line op)) parts.1 in
        ap (λ (p : Plan). Some p) (plan_in-step header lines (word ∷ name ∷ rest) other calls (omega (arith, eqb-false (length plan.phases) 0 begun)))

-- what kept lines say with one more
said_in-kept : (header : List (List ℕ)) (word : List ℕ) (rest : List (List ℕ)) (lines : List (List (List ℕ))) → form_fault (plan_in header lines) (later_form word rest) (word ∷ rest) ≡ None
    → Some (plan_in header (lines ++ (word ∷ rest) ∷ [])) ≡ with_line (Some (plan_in header lines)) (later_form word rest) (word ∷ rest)
said_in-kept header word rest lines h = go (bytes_eq word (codes "umem")) (bytes_eq word (codes "cache")) (bytes_eq word (codes "phase")) (is_decimal word) refl refl h
  where
    go : (again declares begins numbered : Bool) → is_cache_line (word ∷ rest) ≡ declares → is_phase_line (word ∷ rest) ≡ begins
        → form_fault (plan_in header lines) (cond again second_header (cond declares cache_line (cond begins phase_line (cond numbered (step_form rest) no_line)))) (word ∷ rest) ≡ None
        → Some (plan_in header (lines ++ (word ∷ rest) ∷ [])) ≡ with_line (Some (plan_in header lines)) (cond again second_header (cond declares cache_line (cond begins phase_line (cond numbered (step_form rest) no_line)))) (word ∷ rest)
    go true declares begins numbered e f k = absurd (cc k)
    go false true begins numbered e f k =
        let plan = plan_in header lines in
        let parts = standing_none false false (has_count plan.header.version cache_line (word ∷ rest)) (least_of plan.header (fields_of cache_line (word ∷ rest))) (standing_fault plan cache_line) k in
        let none = in_place (nat_lt 0 (length plan.phases)) (is_too_many plan cache_line) parts.1 in
        ap (λ (p : Plan). Some p) (plan_in-cache header lines (word ∷ rest) e (omega (arith, ltb-false 0 (length plan.phases) none)))
    go false false true numbered e f k = ap (λ (p : Plan). Some p) (plan_in-phase header lines (word ∷ rest) e f)
    go false false false true e f k = said_in-step header word rest lines e f k
    go false false false false e f k = absurd (cc k)

-- what kept lines say with a line more
said_in-next : (lines : List (List (List ℕ))) (words : List (List ℕ)) → form_fault (unwrap_or (said_in lines) no_plan) (form_of (said_in lines) words) words ≡ None
    → said_in (lines ++ cond (is_kept words) (words ∷ []) []) ≡ with_line (said_in lines) (form_of (said_in lines) words) words
said_in-next [] [] h = refl
said_in-next (header ∷ lines) [] h = ap (λ (ls : List (List (List ℕ))). Some (plan_in header ls)) (append-nil lines)
said_in-next [] (word ∷ rest) h = go (is_comment word)
  where
    go : (comment : Bool) → said_in (cond (not comment) ((word ∷ rest) ∷ []) []) ≡ with_line None (cond comment skipped header_line) (word ∷ rest)
    go true = refl
    go false = refl
said_in-next (header ∷ lines) (word ∷ rest) h = go (is_comment word) h
  where
    go : (comment : Bool) → form_fault (plan_in header lines) (cond comment skipped (later_form word rest)) (word ∷ rest) ≡ None
        → said_in (header ∷ lines ++ cond (not comment) ((word ∷ rest) ∷ []) []) ≡ with_line (Some (plan_in header lines)) (cond comment skipped (later_form word rest)) (word ∷ rest)
    go true k = ap (λ (ls : List (List (List ℕ))). Some (plan_in header ls)) (append-nil lines)
    go false k = said_in-kept header word rest lines k

kept_lines-more : (lines : List (List ℕ)) (line : List ℕ) → kept_lines (lines ++ line ∷ []) ≡ kept_lines lines ++ cond (is_kept (words_of line)) (words_of line ∷ []) []
kept_lines-more lines line = ap (filter is_kept) (map-append words_of lines (line ∷ [])) ∙ filter-append is_kept (map words_of lines) (words_of line ∷ [])

none_from_line : (text : Bool) (o : Option Reason) → cond text o (Some reasons.Text) ≡ None → o ≡ None
none_from_line true o h = h
none_from_line false o h = absurd (cc h)

-- what lines say with one more that is not refused
pub said_by-next : (lines : List (List ℕ)) (line : List ℕ) → line_fault (said_by lines) line ≡ None → said_by (lines ++ line ∷ []) ≡ with_next (said_by lines) line
said_by-next lines line h =
    ap said_in (kept_lines-more lines line) ∙ said_in-next (kept_lines lines) (words_of line) (none_from_line (list_all is_line_byte line) _ h)

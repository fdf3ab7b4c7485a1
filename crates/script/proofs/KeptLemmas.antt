-- What lines say keeps the rules and limits, as long as none is refused.
use Rattle.std.proofs.Common.{◌≡◌, ◌≢◌, ℕ, suc, ◌+◌, ◌<◌, Bool, true, false, cond, List, [], ◌∷◌, ◌++◌, length, get_or, drop, Option, Some, None, Result, Ok, Err, refl, sym, ap, subst, ◌∙◌, append_assoc, length-append, arith, inl, inr, ◌⊎◌}
use Rattle.std.specs.Prelude.{not, ◌&&◌, ◌||◌, ◌==◌, codes, nat_lt, nat_le, sum_by, unwrap_or, position, is_some, AllPairs, IfOk}
use Rattle.std.specs.List.{AllByRecursion, list_all}
use Rattle.std.specs.Option.{option_map, option_map_or}
use Rattle.std.specs.Str.{bytes_eq}
use Rattle.std.proofs.lemmas.Bool.{and_parts, eqb-true, eqb-false, leb-false, ltb-true, ltb-false}
use Rattle.std.proofs.lemmas.List.{append-nil}
use Rattle.std.proofs.lemmas.List.Quantifiers.{all_pairs_push}
use Rattle.std.proofs.lemmas.List.Sums.{sum_by-cons, sum_by_push}
use Rattle.std.proofs.lemmas.Slice.Eq.{bytes_eq-Decides}
use Rattle.umem_base.specs.Cut.{onto_first}
use Rattle.umem_base.specs.Numbers.{is_decimal}
use Rattle.umem_base.specs.Lines.{lines_of, onto_word, is_blank, words_of}
use Rattle.umem_base.proofs.LinesLemmas.{blank_from_not}
use Rattle.umem_base.proofs.Lists.{position-None}
use Rattle.case_table.specs.CacheName.{is_cache_name, is_reserved_name}
use Rattle.case_table.specs.declared.cache_def.CacheDef.{CacheDef}
use Rattle.case_table.specs.declared.limits.TheConstants.{MOST_CACHE_BYTES, MOST_CPUS, MOST_DECLARED, MOST_THREADS}
use Rattle.script.specs.declared.limits.TheConstants.{MOST_BYTES, MOST_PHASES}
use Rattle.script.specs.declared.operation.OpName.{OpName}
use Rattle.script.specs.declared.operation.OpName.TheVariants.{Reap}
use Rattle.script.specs.declared.reasons.Reason.{Reason}
use Rattle.script.specs.declared.reasons.Reason.TheVariants as reasons
use Rattle.script.specs.declared.fault.ScriptFault.{ScriptFault}
use Rattle.script.specs.declared.tree.Header.{Header}
use Rattle.script.specs.declared.tree.Script.{Script}
use Rattle.script.specs.Fields.{declared_number, is_alignment, number_in, alignment_fault, constructor_fault, decimal_fault, name_fault, thread_fault}
use Rattle.script.specs.Grammar.{Reads, skipped, header_line, second_header, cache_line, phase_line, step_line, no_line, are_arguments, arguments, cache_of, call_fields, call_of, first_bad, form_of, has_count, later_form, no_plan, or_later, plan_in, plan_unless, reason_of, said_by, script_in, script_of, step_form, turn_in}
use Rattle.script.specs.Limits.{most_calls}
use Rattle.script.specs.Lines.{is_comment, is_line_byte}
use Rattle.script.specs.OpWords.{op_named}
use Rattle.script.specs.Plan.{Turn, Plan, call_count, plan_of}
use Rattle.script.specs.Reading.{form_fault, least, least_of, line_fault, onto_last, or_else, turn_by, with_cache, with_line, with_phase, with_turn}
use Rattle.script.specs.Rules.{IsDeclarable, IsPlan, IsTurn}
use Rattle.script.proofs.ReasonLemmas.{reason_behind-line_fault}
use Rattle.script.proofs.RuleLemmas.{AreWords, constructor_rule, decimal_within, frames_rule, least_none, number_none, op_rule, stack_none, unless_none}
use Rattle.script.proofs.SaidLemmas.{said_by-next}

-- what lines say keeps the rules, if they say something
abbrev KeepsRules : Option Plan → Type 0
KeepsRules None = Unit {0}
KeepsRules (Some plan) = IsPlan plan

-- ---- lists with one more

all_push : {X : Type 0} (P : X → Type 0) (xs : List X) (y : X) → AllByRecursion P xs → P y → AllByRecursion P (xs ++ y ∷ [])
all_push P [] y h k = (k, tt)
all_push P (x ∷ xs) y h k = (h.0, all_push P xs y h.1 k)

all_onto_last : (P : Turn → Type 0) (turn : Turn) (phases : List (List Turn)) → AllByRecursion (AllByRecursion P) phases → P turn → AllByRecursion (AllByRecursion P) (onto_last turn phases)
all_onto_last P turn [] h k = tt
all_onto_last P turn (phase ∷ []) h k = (all_push P phase turn h.0 k, tt)
all_onto_last P turn (phase ∷ next ∷ phases) h k = (h.0, all_onto_last P turn (next ∷ phases) h.1 k)

length-onto_last : (turn : Turn) (phases : List (List Turn)) → length (onto_last turn phases) ≡ length phases
length-onto_last turn [] = refl
length-onto_last turn (phase ∷ []) = refl
length-onto_last turn (phase ∷ next ∷ phases) = ap suc (length-onto_last turn (next ∷ phases))

sum-onto_last : (turn : Turn) (phases : List (List Turn)) → 0 < length phases → sum_by length (onto_last turn phases) ≡ sum_by length phases + 1
sum-onto_last turn [] some = absurd (omega arith)
sum-onto_last turn (phase ∷ []) some = omega (arith, length-append phase (turn ∷ []))
sum-onto_last turn (phase ∷ next ∷ phases) some =
    omega (arith, sum-onto_last turn (next ∷ phases) (omega arith), sum_by-cons length phase (onto_last turn (next ∷ phases)), sum_by-cons length phase (next ∷ phases))

none_at_all : {X : Type 0} (P : X → Type 0) (xs : List X) → length xs ≡ 0 → AllByRecursion P xs
none_at_all P [] h = tt
none_at_all P (x ∷ xs) h = absurd (omega arith)

-- ---- a line that is not refused

fine_line : (lacks none count misplaced many : Bool) (fields : Option Reason)
    → cond lacks (Some reasons.Header) (cond none (Some reasons.Word) (cond count (or_else fields (cond misplaced (Some reasons.Order) (cond many (Some reasons.Limit) None))) (Some reasons.Count))) ≡ None
    → (lacks ≡ false) × (count ≡ true) × (fields ≡ None) × (misplaced ≡ false) × (many ≡ false)
fine_line true none count misplaced many fields h = absurd (cc h)
fine_line false true count misplaced many fields h = absurd (cc h)
fine_line false false false misplaced many fields h = absurd (cc h)
fine_line false false true misplaced many (Some reason) h = absurd (cc h)
fine_line false false true true many None h = absurd (cc h)
fine_line false false true false true None h = absurd (cc h)
fine_line false false true false false None h = (refl, refl, refl, refl, refl)

-- ---- the header

no_pairs : (R : CacheDef → CacheDef → Type 0) → AllPairs R []
no_pairs R i j d ij jl = absurd (omega arith)

version_rule : (word : List ℕ) → (bytes_eq word (codes "1") || bytes_eq word (codes "2")) ≡ true → (number_in word ≡ 1) ⊎ (number_in word ≡ 2)
version_rule word h = go (bytes_eq word (codes "1")) refl (bytes_eq word (codes "2")) refl h
  where
    go : (one : Bool) → bytes_eq word (codes "1") ≡ one → (two : Bool) → bytes_eq word (codes "2") ≡ two → (one || two) ≡ true → (number_in word ≡ 1) ⊎ (number_in word ≡ 2)
    go true e two f k = inl (ap number_in ((bytes_eq-Decides word (codes "1")).0 e))
    go false e true f k = inr (ap number_in ((bytes_eq-Decides word (codes "2")).0 f))
    go false e false f k = absurd (cc k)

header_rule : (words : List (List ℕ)) → form_fault no_plan header_line words ≡ None → IsPlan (plan_in words [])
header_rule [] h = absurd (cc h)
header_rule (a ∷ []) h = absurd (cc h)
header_rule (a ∷ b ∷ []) h = absurd (cc h)
header_rule (a ∷ b ∷ d ∷ []) h = absurd (cc h)
header_rule (a ∷ b ∷ d ∷ e ∷ []) h = absurd (cc h)
header_rule (a ∷ b ∷ d ∷ e ∷ f ∷ []) h = absurd (cc h)
header_rule (a ∷ b ∷ d ∷ e ∷ f ∷ g ∷ x ∷ words) h = absurd (cc h)
header_rule (umem ∷ version ∷ cpus ∷ count ∷ threads ∷ last ∷ []) h =
    let fields = least (decimal_fault 1 MOST_CPUS count) (least (decimal_fault 1 MOST_THREADS last) None) in
    let fixed = bytes_eq umem (codes "umem") && (bytes_eq version (codes "1") || bytes_eq version (codes "2")) && bytes_eq cpus (codes "cpus") && bytes_eq threads (codes "threads") in
    let parts = fine_line (not fixed) false true false false fields h in
    let holds = blank_from_not fixed parts.0 in
    let first = and_parts (bytes_eq umem (codes "umem") && (bytes_eq version (codes "1") || bytes_eq version (codes "2")) && bytes_eq cpus (codes "cpus")) (bytes_eq threads (codes "threads")) holds in
    let second = and_parts (bytes_eq umem (codes "umem") && (bytes_eq version (codes "1") || bytes_eq version (codes "2"))) (bytes_eq cpus (codes "cpus")) first.0 in
    let third = and_parts (bytes_eq umem (codes "umem")) (bytes_eq version (codes "1") || bytes_eq version (codes "2")) second.0 in
    let numbers = least_none (decimal_fault 1 MOST_CPUS count) (least (decimal_fault 1 MOST_THREADS last) None) parts.2 in
    record {
      header = record {
        version = version_rule version third.1;
        cpus = decimal_within 1 MOST_CPUS count numbers.0;
        threads = decimal_within 1 MOST_THREADS last (least_none (decimal_fault 1 MOST_THREADS last) None numbers.1).0;
        count = omega arith;
        caches = tt;
        names = no_pairs (λ a b. a.name ≢ b.name);
      };
      turns = tt;
      phases = omega arith;
      calls = omega arith;
    }

-- ---- a cache

name_rule : (header : Header) (name : List ℕ) → name_fault header.caches name ≡ None → ((is_cache_name name && not (is_reserved_name name)) ≡ true) × (declared_number header.caches name ≡ None)
name_rule header name h =
    let parts = and_parts (is_cache_name name && not (is_reserved_name name)) (not (is_some (declared_number header.caches name))) (unless_none _ reasons.Name h) in
    (parts.0, go (declared_number header.caches name) parts.1)
  where
    go : (o : Option ℕ) → not (is_some o) ≡ true → o ≡ None
    go None k = refl
    go (Some n) k = absurd (cc k)

unlike_earlier : (caches : List CacheDef) (name : List ℕ) → declared_number caches name ≡ None → (k : ℕ) (d : CacheDef) → k < length caches → (get_or caches k d).name ≢ name
unlike_earlier caches name h k d lt same =
    let test = position-None (λ (def : CacheDef). bytes_eq name def.name) caches d (none (position (λ (def : CacheDef). bytes_eq name def.name) caches) h) k lt in
    absurd (cc (test, (bytes_eq-Decides name (get_or caches k d).name).1 (sym same)))
  where
    none : (o : Option ℕ) → option_map (λ place. 32 + place) o ≡ None → o ≡ None
    none None e = refl
    none (Some n) e = absurd (cc e)

align_rule : (word : List ℕ) → alignment_fault word ≡ None → is_alignment (number_in word) ≡ true
align_rule word h = (number_none (is_decimal word) (is_alignment (number_in word)) h).1

with_cache_rule : (plan : Plan) (def : CacheDef) → IsPlan plan → IsDeclarable plan.header.version def → declared_number plan.header.caches def.name ≡ None → length plan.phases ≡ 0 → length plan.header.caches < MOST_DECLARED → IsPlan (with_cache plan def)
with_cache_rule plan def is good unlike none few = record {
  header = record {
    version = is.header.version;
    cpus = is.header.cpus;
    threads = is.header.threads;
    count = omega (arith, length-append plan.header.caches (def ∷ []));
    caches = all_push (IsDeclarable plan.header.version) plan.header.caches def is.header.caches good;
    names = all_pairs_push (λ (a : CacheDef) (b : CacheDef). a.name ≢ b.name) plan.header.caches def is.header.names (unlike_earlier plan.header.caches def.name unlike);
  };
  turns = none_at_all _ plan.phases none;
  phases = is.phases;
  calls = is.calls;
}

cache_rule : (plan : Plan) (words : List (List ℕ)) → IsPlan plan → form_fault plan cache_line words ≡ None → IsPlan (with_cache plan (cache_of words))
cache_rule plan [] is h = absurd (cc h)
cache_rule plan (first ∷ []) is h = absurd (cc h)
cache_rule plan (first ∷ name ∷ []) is h = absurd (cc h)
cache_rule plan (first ∷ name ∷ bytes ∷ []) is h = absurd (cc h)
cache_rule plan (first ∷ name ∷ bytes ∷ align ∷ word ∷ more ∷ words) is h = absurd (cc h)
cache_rule plan (first ∷ name ∷ bytes ∷ align ∷ []) is h =
    let parts = fine_line false false true (nat_lt 0 (length plan.phases)) (nat_le MOST_DECLARED (length plan.header.caches)) (least (name_fault plan.header.caches name) (least (decimal_fault 1 MOST_CACHE_BYTES bytes) (least (alignment_fault align) None))) h in
    let named = least_none (name_fault plan.header.caches name) _ parts.2 in
    let sized = least_none (decimal_fault 1 MOST_CACHE_BYTES bytes) _ named.1 in
    let aligned = least_none (alignment_fault align) None sized.1 in
    let good = name_rule plan.header name named.0 in
    with_cache_rule plan (cache_of (first ∷ name ∷ bytes ∷ align ∷ [])) is
    (record { name = good.0; size = decimal_within 1 MOST_CACHE_BYTES bytes sized.0; align = align_rule align aligned.0; ctor = tt })
    good.1 (omega (arith, ltb-false 0 (length plan.phases) parts.3)) (leb-false MOST_DECLARED (length plan.header.caches) parts.4)
cache_rule plan (first ∷ name ∷ bytes ∷ align ∷ word ∷ []) is h =
    let parts = fine_line false false (plan.header.version == 2) (nat_lt 0 (length plan.phases)) (nat_le MOST_DECLARED (length plan.header.caches))
    (least (name_fault plan.header.caches name) (least (decimal_fault 1 MOST_CACHE_BYTES bytes) (least (alignment_fault align) (least (constructor_fault word) None)))) h in
    let named = least_none (name_fault plan.header.caches name) _ parts.2 in
    let sized = least_none (decimal_fault 1 MOST_CACHE_BYTES bytes) _ named.1 in
    let aligned = least_none (alignment_fault align) _ sized.1 in
    let built = least_none (constructor_fault word) None aligned.1 in
    let good = name_rule plan.header name named.0 in
    with_cache_rule plan (cache_of (first ∷ name ∷ bytes ∷ align ∷ word ∷ [])) is
    (record { name = good.0; size = decimal_within 1 MOST_CACHE_BYTES bytes sized.0; align = align_rule align aligned.0; ctor = (eqb-true plan.header.version 2 parts.1, constructor_rule word built.0) })
    good.1 (omega (arith, ltb-false 0 (length plan.phases) parts.3)) (leb-false MOST_DECLARED (length plan.header.caches) parts.4)

-- ---- a phase

phase_rule : (plan : Plan) (words : List (List ℕ)) → IsPlan plan → form_fault plan phase_line words ≡ None → IsPlan (with_phase plan)
phase_rule plan words is h =
    let parts = fine_line false false (has_count plan.header.version phase_line words) false (nat_le MOST_PHASES (length plan.phases)) None h in
    record {
      header = is.header;
      turns = all_push (AllByRecursion (IsTurn plan.header)) plan.phases [] is.turns tt;
      phases = omega (arith, length-append plan.phases ([] ∷ []), leb-false MOST_PHASES (length plan.phases) parts.4);
      calls = omega (arith, is.calls, sum_by_push length plan.phases []);
    }

-- ---- a step

turn_rule : (header : Header) (op : OpName) (thread : List ℕ) (words : List (List ℕ)) → thread_fault header.threads thread ≡ None → are_arguments (length (arguments op)) words ≡ true → least_of header (call_fields (arguments op) words) ≡ None → AreWords words
    → IsTurn header (turn_by header.caches op thread words)
turn_rule header op thread words t c h w =
    let stack = frames_rule header (drop (length (arguments op)) words) (stack_none header (arguments op) words c h) in
    record {
      thread = ltb-true _ _ (unless_none (nat_lt (number_in thread) header.threads) reasons.Thread t);
      op = op_rule header op words c h w;
      depth = stack.0;
      frames = stack.1;
    }

with_turn_rule : (plan : Plan) (turn : Turn) → IsPlan plan → IsTurn plan.header turn → 0 < length plan.phases → call_count plan < most_calls plan.header.version → IsPlan (with_turn plan turn)
with_turn_rule plan turn is good some few = record {
  header = is.header;
  turns = all_onto_last (IsTurn plan.header) turn plan.phases is.turns good;
  phases = omega (arith, is.phases, length-onto_last turn plan.phases);
  calls = omega (arith, sum-onto_last turn plan.phases some);
}

step_rule : (plan : Plan) (thread : List ℕ) (rest : List (List ℕ)) → IsPlan plan → AreWords rest → form_fault plan (step_form rest) (thread ∷ rest) ≡ None → KeepsRules (with_line (Some plan) (step_form rest) (thread ∷ rest))
step_rule plan thread [] is w h = absurd (cc h)
step_rule plan thread (name ∷ words) is w h = go (op_named name) refl h
  where
    go : (o : Option OpName) → op_named name ≡ o → form_fault plan (option_map_or step_line o no_line) (thread ∷ name ∷ words) ≡ None → KeepsRules (with_line (Some plan) (option_map_or step_line o no_line) (thread ∷ name ∷ words))
    go None e k = absurd (cc k)
    go (Some op) e k =
        let parts = fine_line false false (are_arguments (length (arguments op)) words) (length plan.phases == 0) (nat_le (most_calls plan.header.version) (call_count plan)) (least (thread_fault plan.header.threads thread) (least_of plan.header (call_fields (arguments op) words))) k in
        let fields = least_none (thread_fault plan.header.threads thread) (least_of plan.header (call_fields (arguments op) words)) parts.2 in
        let turn = turn_rule plan.header op thread words fields.0 parts.1 fields.1 w.1 in
        let same : turn_by plan.header.caches op thread words ≡ turn_in plan.header.caches (thread ∷ name ∷ words) =
        ap (λ (o : Option OpName). record { thread = number_in thread; call = call_of plan.header.caches (unwrap_or o Reap) words }) (sym e) in
        with_turn_rule plan (turn_in plan.header.caches (thread ∷ name ∷ words)) is (subst (IsTurn plan.header) same turn) (omega (arith, eqb-false (length plan.phases) 0 parts.3)) (leb-false _ _ parts.4)

-- ---- a line more

later_rule : (plan : Plan) (word : List ℕ) (rest : List (List ℕ)) → IsPlan plan → AreWords rest → form_fault plan (later_form word rest) (word ∷ rest) ≡ None → KeepsRules (with_line (Some plan) (later_form word rest) (word ∷ rest))
later_rule plan word rest is w h = go (bytes_eq word (codes "umem")) (bytes_eq word (codes "cache")) (bytes_eq word (codes "phase")) (is_decimal word) h
  where
    go : (again declares begins numbered : Bool) → form_fault plan (cond again second_header (cond declares cache_line (cond begins phase_line (cond numbered (step_form rest) no_line)))) (word ∷ rest) ≡ None
        → KeepsRules (with_line (Some plan) (cond again second_header (cond declares cache_line (cond begins phase_line (cond numbered (step_form rest) no_line)))) (word ∷ rest))
    go true declares begins numbered k = absurd (cc k)
    go false true begins numbered k = cache_rule plan (word ∷ rest) is k
    go false false true numbered k = phase_rule plan (word ∷ rest) is k
    go false false false true k = step_rule plan word rest is w k
    go false false false false k = absurd (cc k)

line_rule : (said : Option Plan) (words : List (List ℕ)) → KeepsRules said → AreWords words → form_fault (unwrap_or said no_plan) (form_of said words) words ≡ None → KeepsRules (with_line said (form_of said words) words)
line_rule None [] is w h = tt
line_rule (Some plan) [] is w h = is
line_rule None (word ∷ rest) is w h = go (is_comment word) h
  where
    go : (comment : Bool) → form_fault no_plan (cond comment skipped header_line) (word ∷ rest) ≡ None → KeepsRules (with_line None (cond comment skipped header_line) (word ∷ rest))
    go true k = tt
    go false k = header_rule (word ∷ rest) k
line_rule (Some plan) (word ∷ rest) is w h = go (is_comment word) h
  where
    go : (comment : Bool) → form_fault plan (cond comment skipped (later_form word rest)) (word ∷ rest) ≡ None → KeepsRules (with_line (Some plan) (cond comment skipped (later_form word rest)) (word ∷ rest))
    go true k = is
    go false k = later_rule plan word rest is w.1 k

-- no word is empty
words_of-some : (line : List ℕ) → AreWords (words_of line)
words_of-some [] = tt
words_of-some (byte ∷ line) = go (is_blank byte) line (words_of line) (words_of-some line)
  where
    onto : (next : Bool) (words : List (List ℕ)) → AreWords words → AreWords (cond next ((byte ∷ []) ∷ words) (onto_first byte words))
    onto true words h = (omega arith, h)
    onto false [] h = (omega arith, tt)
    onto false (word ∷ words) h = (omega arith, h.1)

    go : (blank : Bool) (line : List ℕ) (words : List (List ℕ)) → AreWords words → AreWords (cond blank words (onto_word byte line words))
    go true line words h = h
    go false [] words h = (omega arith, h)
    go false (next ∷ line) words h = onto (is_blank next) words h

text_none : (text : Bool) (o : Option Reason) → cond text o (Some reasons.Text) ≡ None → o ≡ None
text_none true o h = h
text_none false o h = absurd (cc h)

-- ---- all lines

good_line : (o : Option Reason) (number : ℕ) (later : Option (ℕ × Reason)) → or_later number o later ≡ None → (o ≡ None) × (later ≡ None)
good_line None number later h = (refl, h)
good_line (Some reason) number later h = absurd (cc h)

lines_rule : (before lines : List (List ℕ)) → KeepsRules (said_by before) → first_bad before lines ≡ None → KeepsRules (said_by (before ++ lines))
lines_rule before [] is h = subst (λ (ls : List (List ℕ)). KeepsRules (said_by ls)) (sym (append-nil before)) is
lines_rule before (line ∷ lines) is h =
    let parts = good_line (reason_of before line) (length before + 1) (first_bad (before ++ line ∷ []) lines) h in
    let fine : line_fault (said_by before) line ≡ None = sym (reason_behind-line_fault (said_by before) line) ∙ parts.0 in
    let next = line_rule (said_by before) (words_of line) is (words_of-some line) (text_none (list_all is_line_byte line) _ fine) in
    let more : KeepsRules (said_by (before ++ line ∷ [])) = subst KeepsRules (sym (said_by-next before line fine)) next in
    subst (λ (ls : List (List ℕ)). KeepsRules (said_by ls)) (append_assoc before (line ∷ []) lines) (lines_rule (before ++ line ∷ []) lines more parts.1)

-- what is read keeps the rules and limits
pub script_of-rules : (bytes : List ℕ) (plan : Plan) → script_of bytes ≡ Ok plan → IsPlan plan
script_of-rules bytes plan h = long (nat_lt MOST_BYTES (length bytes)) h
  where
    told : (o : Option (ℕ × Reason)) (said : Option Plan) (number : ℕ) → plan_unless o said number ≡ Ok plan → (o ≡ None) × (said ≡ Some plan)
    told (Some bad) said number k = absurd (cc k)
    told None None number k = absurd (cc k)
    told None (Some other) number k = (refl, cc)

    read : script_in (lines_of bytes) ≡ Ok plan → IsPlan plan
    read k =
        let parts = told (first_bad [] (lines_of bytes)) (said_by (lines_of bytes)) (length (lines_of bytes) + 1) k in
        subst KeepsRules parts.1 (lines_rule [] (lines_of bytes) tt parts.0)

    long : (too_long : Bool) → cond too_long (Err (0, reasons.Limit)) (script_in (lines_of bytes)) ≡ Ok plan → IsPlan plan
    long true k = absurd (cc k)
    long false k = read k

-- a script that is read keeps them
pub Reads-rules : (result : Result Script ScriptFault) (bytes : List ℕ) → Reads result (script_of bytes) → IfOk result (λ (script : Script). IsPlan (plan_of script))
Reads-rules (Ok script) bytes h = script_of-rules bytes (plan_of script) h
Reads-rules (Err fault) bytes h = tt

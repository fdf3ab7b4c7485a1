-- The text of a plan is read as the plan.
use Rattle.std.proofs.Common.{◌≡◌, ℕ, ◌+◌, ◌^◌, ◌<◌, ◌≤◌, ◌⊎◌, inl, inr, Bool, true, false, cond, List, [], ◌∷◌, ◌++◌, length, map, Option, Some, None, Ok, Err, unwrap_or, append_assoc, refl, subst, sym, ap, ◌∙◌, arith, length-append}
use Rattle.std.specs.Prelude.{not, codes, decimal, filter, find, sum_by, drop}
use Rattle.std.specs.Fmt.{digits}
use Rattle.std.specs.List.{AllByRecursion, flat_map}
use Rattle.std.proofs.lemmas.Bool.{le-ltb, lt-leb, ne_eqb}
use Rattle.std.proofs.lemmas.List.{append-nil}
use Rattle.std.proofs.lemmas.List.Concat.{flat_map-append}
use Rattle.std.proofs.lemmas.List.Sums.{sum_by-append, sum_by-cons}
use Rattle.umem_base.specs.Lines.{lines_of, words_of}
use Rattle.case_table.specs.declared.cache_def.CacheDef.{CacheDef}
use Rattle.script.specs.declared.limits.TheConstants.{MOST_BYTES}
use Rattle.script.specs.declared.operation.Op.{Op}
use Rattle.script.specs.declared.operation.Op.TheVariants as ops
use Rattle.script.specs.declared.reasons.Reason.{Reason}
use Rattle.script.specs.declared.reasons.Reason.TheVariants as reasons
use Rattle.script.specs.declared.tree.Header.{Header}
use Rattle.script.specs.Grammar.{Form, all_reasons, applies, cache_line, cache_of, cut_phases, declared_in, fields_of, first_bad, form_of, has_count, has_fault, header_line, is_cache_line, is_header, is_misplaced, is_no_line, is_phase_line, is_too_many, lacks_header, no_plan, onto_phase, or_later, phase_line, plan_unless, reason_behind, reason_of, said_by, said_in, script_in, script_of, step_line, turn_in}
use Rattle.script.specs.Limits.{most_calls}
use Rattle.script.specs.Lines.{is_kept, kept_lines}
use Rattle.script.specs.Plan.{Plan, Turn}
use Rattle.script.specs.PlanText.{HasAllCaches, HasCache, HasCaches, cache_words, header_words, phase_lines, plan_lines, spaced, text_of, turn_words}
use Rattle.script.specs.Rules.{IsDeclarable, IsHeader, IsOp, IsPlan, IsTurn}
use Rattle.script.proofs.FieldTexts.{fine-decimal, number-decimal, word-decimal}
use Rattle.script.proofs.SpacedLemmas.{IsWord, all-append, all-weaker, lines_of-text, spaced-line, words_of-spaced}
use Rattle.script.proofs.TurnTexts.{IsFineField, WritesDef, WritesTurn, declarable_at, lacks_before, name_of, no_fault, w_name, writes-def, writes-turn}

-- ---- one line

-- nothing speaks against words that have to be of a form behind lines that say a plan
pub record IsFine (plan : Plan) (form : Form) (words : List (List ℕ)) : Type 0 where
  pub text : AllByRecursion IsWord words
  pub header : lacks_header form words ≡ false
  pub known : is_no_line form ≡ false
  pub count : has_count plan.header.version form words ≡ true
  pub fields : AllByRecursion (IsFineField plan.header) (fields_of form words)
  pub order : is_misplaced plan form ≡ false
  pub limit : is_too_many plan form ≡ false

find_none : {X : Type 0} (test : X → Bool) (xs : List X) → AllByRecursion (λ x. test x ≡ false) xs → find test xs ≡ None
find_none test [] h = refl
find_none test (x ∷ xs) h = ap (λ b. cond b (Some x) (find test xs)) h.0 ∙ find_none test xs h.1

none_applies : (plan : Plan) (form : Form) (words : List (List ℕ)) → IsFine plan form words → find (applies plan form (spaced words)) all_reasons ≡ None
none_applies plan form words fine =
    let back = words_of-spaced words fine.text in
    let field = λ (reason : Reason). ap (λ (ws : List (List ℕ)). has_fault reason plan.header (fields_of form ws)) back ∙ no_fault reason plan.header (fields_of form words) fine.fields in
    find_none (applies plan form (spaced words)) all_reasons (
      ap not (spaced-line words fine.text),
      (
        ap (lacks_header form) back ∙ fine.header,
        (
          fine.known,
          (
            ap (λ (ws : List (List ℕ)). not (has_count plan.header.version form ws)) back ∙ ap not fine.count,
            (
              field reasons.Thread,
              (
                field reasons.Slot,
                (
                  field reasons.Unknown,
                  (
                    field reasons.Number,
                    (
                      field reasons.Range,
                      (
                        field reasons.Name,
                        (fine.order, (fine.limit, tt)),
                      ),
                    ),
                  ),
                ),
              ),
            ),
          ),
        ),
      ),
    )

pub no_reason : (said : Option Plan) (form : Form) (words : List (List ℕ)) → form_of said words ≡ form → IsFine (unwrap_or said no_plan) form words → reason_behind said (spaced words) ≡ None
unfolding reason_behind
no_reason said form words is fine =
    let plan : Plan = unwrap_or said no_plan in
    let formed : form_of said (words_of (spaced words)) ≡ form = ap (form_of said) (words_of-spaced words fine.text) ∙ is in
    ap (λ (f : Form). find (applies plan f (spaced words)) all_reasons) formed ∙ none_applies plan form words fine

-- ---- the lines so far

-- a line that says something
pub record IsSaid (words : List (List ℕ)) : Type 0 where
  pub text : AllByRecursion IsWord words
  pub kept : is_kept words ≡ true

pub kept_lines-spaced : (lines : List (List (List ℕ))) → AllByRecursion IsSaid lines → kept_lines (map spaced lines) ≡ lines
kept_lines-spaced [] h = refl
kept_lines-spaced (words ∷ lines) h =
    let rest : List (List (List ℕ)) = kept_lines (map spaced lines) in
    ap (λ (ws : List (List ℕ)). cond (is_kept ws) (ws ∷ rest) rest) (words_of-spaced words h.0.text) ∙ ap (λ b. cond b (words ∷ rest) rest) h.0.kept ∙ ap (λ (ls : List (List (List ℕ))). words ∷ ls) (kept_lines-spaced lines h.1)

map_push : {X Y : Type 0} (f : X → Y) (xs : List X) (x : X) → map f (xs ++ x ∷ []) ≡ map f xs ++ f x ∷ []
map_push f [] x = refl
map_push f (y ∷ xs) x = ap (λ ys. f y ∷ ys) (map_push f xs x)

-- one more line without a reason
bad_later : (before : List (List ℕ)) (line : List ℕ) (lines : List (List ℕ)) → reason_of before line ≡ None → first_bad (before ++ line ∷ []) lines ≡ None → first_bad before (line ∷ lines) ≡ None
bad_later before line lines fine later = ap (λ r. or_later (length before + 1) r (first_bad (before ++ line ∷ []) lines)) fine ∙ later

-- lines that say a plan, and one more line that nothing speaks against
pub next_fine : (said more : List (List (List ℕ))) (words : List (List ℕ)) (plan : Plan) (form : Form) → AllByRecursion IsSaid said → said_in said ≡ Some plan → form_of (Some plan) words ≡ form → IsFine plan form words
    → first_bad (map spaced (said ++ words ∷ [])) (map spaced more) ≡ None → first_bad (map spaced said) (map spaced (words ∷ more)) ≡ None
next_fine said more words plan form kept says is fine later =
    let by : said_by (map spaced said) ≡ Some plan = ap said_in (kept_lines-spaced said kept) ∙ says in
    let reason : reason_of (map spaced said) (spaced words) ≡ None = ap (λ s. reason_behind s (spaced words)) by ∙ no_reason (Some plan) form words is fine in
    bad_later (map spaced said) (spaced words) (map spaced more) reason (ap (λ (ls : List (List ℕ)). first_bad ls (map spaced more)) (sym (map_push spaced said words)) ∙ later)

-- ---- the header

is_header-1 : (cpus threads : List ℕ) → is_header (codes "umem" ∷ decimal 1 ∷ codes "cpus" ∷ cpus ∷ codes "threads" ∷ threads ∷ []) ≡ true
unfolding digits
is_header-1 cpus threads = refl

is_header-2 : (cpus threads : List ℕ) → is_header (codes "umem" ∷ decimal 2 ∷ codes "cpus" ∷ cpus ∷ codes "threads" ∷ threads ∷ []) ≡ true
unfolding digits
is_header-2 cpus threads = refl

header_formed : (header : Header) → (header.version ≡ 1) ⊎ (header.version ≡ 2) → is_header (header_words header) ≡ true
header_formed header (inl one) =
    ap (λ (v : ℕ). is_header (codes "umem" ∷ decimal v ∷ codes "cpus" ∷ decimal header.cpus ∷ codes "threads" ∷ decimal header.threads ∷ [])) one ∙ is_header-1 (decimal header.cpus) (decimal header.threads)
header_formed header (inr two) =
    ap (λ (v : ℕ). is_header (codes "umem" ∷ decimal v ∷ codes "cpus" ∷ decimal header.cpus ∷ codes "threads" ∷ decimal header.threads ∷ [])) two ∙ is_header-2 (decimal header.cpus) (decimal header.threads)

version_small : (version : ℕ) → (version ≡ 1) ⊎ (version ≡ 2) → version < 2 ^ 64
version_small version (inl one) = omega arith
version_small version (inr two) = omega arith

-- what is known of the numbers of a header
pub record HasNumbers (header : Header) : Type 0 where
  pub version : header.version < 2 ^ 64
  pub cpus : header.cpus < 2 ^ 64
  pub threads : header.threads < 2 ^ 64

has_numbers : (header : Header) → IsHeader header → HasNumbers header
has_numbers header good =
    let cpus = good.cpus.1 in
    let threads = good.threads.1 in
    record { version = version_small header.version good.version; cpus = omega arith; threads = omega arith }

header_text : (header : Header) → HasNumbers header → AllByRecursion IsWord (header_words header)
header_text header small =
    (w_name (codes "umem") refl, (word-decimal header.version small.version, (w_name (codes "cpus") refl, (word-decimal header.cpus small.cpus, (w_name (codes "threads") refl, (word-decimal header.threads small.threads, tt))))))

header_fine : (header : Header) → IsHeader header → IsFine no_plan header_line (header_words header)
header_fine header good =
    let small = has_numbers header good in
    record {
      text = header_text header small;
      header = ap not (header_formed header good.version);
      known = refl;
      count = refl;
      fields = (record { fine = fine-decimal 1 16 header.cpus good.cpus.0 good.cpus.1 small.cpus }, (record { fine = fine-decimal 1 32 header.threads good.threads.0 good.threads.1 small.threads }, tt));
      order = refl;
      limit = refl;
    }

-- ---- what the lines of a plan say

-- a cache that its line says
pub record SaysDef (def : CacheDef) : Type 0 where
  pub text : AllByRecursion IsWord (cache_words def)
  pub says : cache_of (cache_words def) ≡ def

filter_caches : (defs : List CacheDef) (lines : List (List (List ℕ))) → filter is_cache_line (map cache_words defs ++ lines) ≡ map cache_words defs ++ filter is_cache_line lines
filter_caches [] lines = refl
filter_caches (def ∷ defs) lines = ap (λ (ls : List (List (List ℕ))). cache_words def ∷ ls) (filter_caches defs lines)

filter_turns : (header : Header) (turns : List Turn) (lines : List (List (List ℕ))) → AllByRecursion (WritesTurn header) turns → filter is_cache_line (map (turn_words header.caches) turns ++ lines) ≡ filter is_cache_line lines
filter_turns header [] lines h = refl
filter_turns header (turn ∷ turns) lines h =
    let rest : List (List (List ℕ)) = filter is_cache_line (map (turn_words header.caches) turns ++ lines) in
    ap (λ b. cond b (turn_words header.caches turn ∷ rest) rest) h.0.not_cache ∙ filter_turns header turns lines h.1

filter_phases : (header : Header) (phases : List (List Turn)) → AllByRecursion (AllByRecursion (WritesTurn header)) phases → filter is_cache_line (flat_map (phase_lines header.caches) phases) ≡ []
filter_phases header [] h = refl
filter_phases header (turns ∷ phases) h = filter_turns header turns (flat_map (phase_lines header.caches) phases) h.0 ∙ filter_phases header phases h.1

says_defs : (defs : List CacheDef) → AllByRecursion SaysDef defs → map cache_of (map cache_words defs) ≡ defs
says_defs [] h = refl
says_defs (def ∷ defs) h = ap (λ d. d ∷ map cache_of (map cache_words defs)) h.0.says ∙ ap (λ (ds : List CacheDef). def ∷ ds) (says_defs defs h.1)

-- what is known of a header and phases that lines say
pub record IsSayable (plan : Plan) : Type 0 where
  pub numbers : HasNumbers plan.header
  pub defs : AllByRecursion SaysDef plan.header.caches
  pub turns : AllByRecursion (AllByRecursion (WritesTurn plan.header)) plan.phases

declared_back : (plan : Plan) → IsSayable plan → declared_in (map cache_words plan.header.caches ++ flat_map (phase_lines plan.header.caches) plan.phases) ≡ plan.header.caches
declared_back plan is =
    let caches : List CacheDef = plan.header.caches in
    let phases : List (List (List ℕ)) = flat_map (phase_lines caches) plan.phases in
    let filtered : filter is_cache_line (map cache_words caches ++ phases) ≡ map cache_words caches =
    filter_caches caches phases ∙ ap (λ (ls : List (List (List ℕ))). map cache_words caches ++ ls) (filter_phases plan.header plan.phases is.turns) ∙ append-nil (map cache_words caches) in
    ap (map cache_of) filtered ∙ says_defs caches is.defs

cut_caches : (all defs : List CacheDef) (lines : List (List (List ℕ))) → cut_phases all (map cache_words defs ++ lines) ≡ cut_phases all lines
cut_caches all [] lines = refl
cut_caches all (def ∷ defs) lines = cut_caches all defs lines

cut_turns : (header : Header) (turns first : List Turn) (later : List (List Turn)) (lines : List (List (List ℕ))) → AllByRecursion (WritesTurn header) turns → cut_phases header.caches lines ≡ first ∷ later
    → cut_phases header.caches (map (turn_words header.caches) turns ++ lines) ≡ (turns ++ first) ∷ later
cut_turns header [] first later lines h e = e
cut_turns header (turn ∷ turns) first later lines h e =
    let words : List (List ℕ) = turn_words header.caches turn in
    let rest : List (List Turn) = cut_phases header.caches (map (turn_words header.caches) turns ++ lines) in
    ap (λ b. cond b rest (cond (is_phase_line words) ([] ∷ rest) (onto_phase (turn_in header.caches words) rest))) h.0.not_cache
    ∙ ap (λ b. cond b ([] ∷ rest) (onto_phase (turn_in header.caches words) rest)) h.0.not_phase
    ∙ ap (λ (t : Turn). onto_phase t rest) h.0.says
    ∙ ap (onto_phase turn) (cut_turns header turns first later lines h.1 e)

cut_back : (header : Header) (phases : List (List Turn)) → AllByRecursion (AllByRecursion (WritesTurn header)) phases → cut_phases header.caches (flat_map (phase_lines header.caches) phases) ≡ [] ∷ phases
cut_back header [] h = refl
cut_back header (turns ∷ phases) h =
    let lines : List (List (List ℕ)) = flat_map (phase_lines header.caches) phases in
    ap (λ (ps : List (List Turn)). [] ∷ ps) (cut_turns header turns [] phases lines h.0 (cut_back header phases h.1) ∙ ap (λ (ts : List Turn). ts ∷ phases) (append-nil turns))

rebuilt : (plan : Plan) (version cpus threads : ℕ) (caches : List CacheDef) (phases : List (List Turn)) → version ≡ plan.header.version → cpus ≡ plan.header.cpus → threads ≡ plan.header.threads → caches ≡ plan.header.caches → phases ≡ plan.phases
    → Some (record { header = record { version = version; cpus = cpus; threads = threads; caches = caches }; phases = phases }) ≡ Some plan
rebuilt plan version cpus threads caches phases a b c d e = rw (a, b, c, d, e) refl

pub says-plan : (plan : Plan) → IsSayable plan → said_in (plan_lines plan) ≡ Some plan
says-plan plan is =
    let caches : List CacheDef = plan.header.caches in
    let lines : List (List (List ℕ)) = map cache_words caches ++ flat_map (phase_lines caches) plan.phases in
    let declared = declared_back plan is in
    let cut : cut_phases (declared_in lines) lines ≡ [] ∷ plan.phases =
    ap (λ (cs : List CacheDef). cut_phases cs lines) declared ∙ cut_caches caches caches (flat_map (phase_lines caches) plan.phases) ∙ cut_back plan.header plan.phases is.turns in
    rebuilt plan _ _ _ _ _ (number-decimal plan.header.version is.numbers.version) (number-decimal plan.header.cpus is.numbers.cpus) (number-decimal plan.header.threads is.numbers.threads) declared (ap (drop 1) cut)

-- ---- each line of a plan is said

said_defs : (defs : List CacheDef) → AllByRecursion SaysDef defs → AllByRecursion IsSaid (map cache_words defs)
said_defs [] h = tt
said_defs (def ∷ defs) h = (record { text = h.0.text; kept = refl }, said_defs defs h.1)

said_turns : (header : Header) (turns : List Turn) → AllByRecursion (WritesTurn header) turns → AllByRecursion IsSaid (map (turn_words header.caches) turns)
said_turns header [] h = tt
said_turns header (turn ∷ turns) h = (record { text = h.0.words; kept = h.0.kept }, said_turns header turns h.1)

said_phases : (header : Header) (phases : List (List Turn)) → AllByRecursion (AllByRecursion (WritesTurn header)) phases → AllByRecursion IsSaid (flat_map (phase_lines header.caches) phases)
said_phases header [] h = tt
said_phases header (turns ∷ phases) h = (
  record { text = (w_name (codes "phase") refl, tt); kept = refl },
  all-append IsSaid (map (turn_words header.caches) turns) (flat_map (phase_lines header.caches) phases) (said_turns header turns h.0) (said_phases header phases h.1),
)

pub said-plan : (plan : Plan) → IsSayable plan → AllByRecursion IsSaid (plan_lines plan)
said-plan plan is = (
  record { text = header_text plan.header is.numbers; kept = refl },
  all-append IsSaid (map cache_words plan.header.caches) (flat_map (phase_lines plan.header.caches) plan.phases) (said_defs plan.header.caches is.defs) (said_phases plan.header plan.phases is.turns),
)

-- ---- no line of a plan is bad

-- a header and the first of its caches
abbrev with_caches : Header → List CacheDef → Plan
with_caches header defs = record { header = record { version = header.version; cpus = header.cpus; threads = header.threads; caches = defs }; phases = [] }

-- a header and the first of its phases
abbrev with_phases : Header → List (List Turn) → Plan
with_phases header phases = record { header = header; phases = phases }

lines_push_def : (header : Header) (defs : List CacheDef) (def : CacheDef) → plan_lines (with_caches header (defs ++ def ∷ [])) ≡ plan_lines (with_caches header defs) ++ cache_words def ∷ []
lines_push_def header defs def =
    ap (λ (ls : List (List (List ℕ))). header_words header ∷ ls)
    (append-nil (map cache_words (defs ++ def ∷ [])) ∙ map_push cache_words defs def ∙ ap (λ (ls : List (List (List ℕ))). ls ++ cache_words def ∷ []) (sym (append-nil (map cache_words defs))))

def_fine : (header : Header) (done : List CacheDef) (def : CacheDef) → length done < 64 → WritesDef (with_caches header done).header def → IsFine (with_caches header done) cache_line (cache_words def)
def_fine header done def few written = record {
  text = written.words;
  header = refl;
  known = refl;
  count = written.count;
  fields = written.fields;
  order = refl;
  limit = lt-leb 64 (length done) few;
}

defs_sayable : (header : Header) (defs : List CacheDef) → HasNumbers header → AllByRecursion SaysDef defs → IsSayable (with_caches header defs)
defs_sayable header defs small says = record { numbers = record { version = small.version; cpus = small.cpus; threads = small.threads }; defs = says; turns = tt }

defs_fine : (header : Header) → IsHeader header → (done rest : List CacheDef) (more : List (List (List ℕ))) → header.caches ≡ done ++ rest → AllByRecursion SaysDef done
    → first_bad (map spaced (plan_lines (with_caches header header.caches))) (map spaced more) ≡ None → first_bad (map spaced (plan_lines (with_caches header done))) (map spaced (map cache_words rest ++ more)) ≡ None
defs_fine header good done [] more is says later =
    let whole : header.caches ≡ done = is ∙ append-nil done in
    ap (λ (ds : List CacheDef). first_bad (map spaced (plan_lines (with_caches header ds))) (map spaced more)) (sym whole) ∙ later
defs_fine header good done (def ∷ rest) more is says later =
    let all : AllByRecursion (IsDeclarable header.version) (done ++ def ∷ rest) = rw is at good.caches in
    let lacks = lacks_before header.caches done rest def good.names is in
    let written = writes-def (with_caches header done).header def (declarable_at header.version done rest def all) lacks in
    let sum = ap length is in
    let count = length-append done (def ∷ rest) in
    let most = good.count in
    let few : length done < 64 = omega (arith, sum, count, most) in
    let sayable = defs_sayable header done (has_numbers header good) says in
    let more_says = all-append SaysDef done (def ∷ []) says (record { text = written.words; says = written.says }, tt) in
    let longer : header.caches ≡ (done ++ def ∷ []) ++ rest = is ∙ sym (append_assoc done (def ∷ []) rest) in
    let ih = defs_fine header good (done ++ def ∷ []) rest more longer more_says later in
    next_fine (plan_lines (with_caches header done)) (map cache_words rest ++ more) (cache_words def) (with_caches header done) cache_line (said-plan (with_caches header done) sayable) (says-plan (with_caches header done) sayable) refl
    (def_fine header done def few written)
    (ap (λ (ls : List (List (List ℕ))). first_bad (map spaced ls) (map spaced (map cache_words rest ++ more))) (sym (lines_push_def header done def)) ∙ ih)

phases_push : (caches : List CacheDef) (before : List (List Turn)) (turns : List Turn) → flat_map (phase_lines caches) (before ++ turns ∷ []) ≡ flat_map (phase_lines caches) before ++ phase_lines caches turns
phases_push caches before turns =
    flat_map-append (phase_lines caches) before (turns ∷ []) ∙ ap (λ (ls : List (List (List ℕ))). flat_map (phase_lines caches) before ++ ls) (append-nil (phase_lines caches turns))

lines_push_phase : (header : Header) (before : List (List Turn)) → plan_lines (with_phases header (before ++ [] ∷ [])) ≡ plan_lines (with_phases header before) ++ (codes "phase" ∷ []) ∷ []
lines_push_phase header before =
    ap (λ (ls : List (List (List ℕ))). header_words header ∷ ls)
    (ap (λ (ls : List (List (List ℕ))). map cache_words header.caches ++ ls) (phases_push header.caches before [])
    ∙ sym (append_assoc (map cache_words header.caches) (flat_map (phase_lines header.caches) before) ((codes "phase" ∷ []) ∷ [])))

lines_push_turn : (header : Header) (before : List (List Turn)) (done : List Turn) (turn : Turn)
    → plan_lines (with_phases header (before ++ (done ++ turn ∷ []) ∷ [])) ≡ plan_lines (with_phases header (before ++ done ∷ [])) ++ turn_words header.caches turn ∷ []
lines_push_turn header before done turn =
    let defs : List (List (List ℕ)) = map cache_words header.caches in
    let front : List (List (List ℕ)) = flat_map (phase_lines header.caches) before in
    let last : List (List (List ℕ)) = turn_words header.caches turn ∷ [] in
    let phase : phase_lines header.caches (done ++ turn ∷ []) ≡ phase_lines header.caches done ++ last =
    ap (λ (ls : List (List (List ℕ))). (codes "phase" ∷ []) ∷ ls) (map_push (turn_words header.caches) done turn) in
    let pushed : flat_map (phase_lines header.caches) (before ++ (done ++ turn ∷ []) ∷ []) ≡ flat_map (phase_lines header.caches) (before ++ done ∷ []) ++ last =
    phases_push header.caches before (done ++ turn ∷ []) ∙ ap (λ (ls : List (List (List ℕ))). front ++ ls) phase ∙ sym (append_assoc front (phase_lines header.caches done) last)
    ∙ ap (λ (ls : List (List (List ℕ))). ls ++ last) (sym (phases_push header.caches before done)) in
    ap (λ (ls : List (List (List ℕ))). header_words header ∷ ls) (ap (λ (ls : List (List (List ℕ))). defs ++ ls) pushed ∙ sym (append_assoc defs (flat_map (phase_lines header.caches) (before ++ done ∷ [])) last))

calls_push : (before : List (List Turn)) (turns : List Turn) → sum_by length (before ++ turns ∷ []) ≡ sum_by length before + length turns
calls_push before turns = omega (arith, sum_by-append length before (turns ∷ []))

-- what is known of the phases so far
pub record AreWritten (header : Header) (phases : List (List Turn)) : Type 0 where
  pub numbers : HasNumbers header
  pub defs : AllByRecursion SaysDef header.caches
  pub turns : AllByRecursion (AllByRecursion (WritesTurn header)) phases

sayable : (header : Header) (phases : List (List Turn)) → AreWritten header phases → IsSayable (with_phases header phases)
sayable header phases h = record { numbers = h.numbers; defs = h.defs; turns = h.turns }

more_written : (header : Header) (before : List (List Turn)) (turns : List Turn) → AreWritten header before → AllByRecursion (WritesTurn header) turns → AreWritten header (before ++ turns ∷ [])
more_written header before turns h ts = record { numbers = h.numbers; defs = h.defs; turns = all-append (AllByRecursion (WritesTurn header)) before (turns ∷ []) h.turns (ts, tt) }

turn_fine : (header : Header) (before : List (List Turn)) (done : List Turn) (turn : Turn) → sum_by length before + length done < most_calls header.version → WritesTurn header turn
    → IsFine (with_phases header (before ++ done ∷ [])) (step_line (name_of turn.call.op)) (turn_words header.caches turn)
turn_fine header before done turn few written =
    let count = length-append before (done ∷ []) in
    let calls = calls_push before done in
    record {
      text = written.words;
      header = refl;
      known = refl;
      count = written.count;
      fields = written.fields;
      order = ne_eqb (length (before ++ done ∷ [])) 0 (λ e. omega (arith, count, e));
      limit = lt-leb (most_calls header.version) (sum_by length (before ++ done ∷ [])) (omega (arith, calls, few));
    }

turns_fine : (header : Header) (before : List (List Turn)) (done rest : List Turn) (more : List (List (List ℕ))) → AreWritten header before → AllByRecursion (WritesTurn header) done → AllByRecursion (WritesTurn header) rest
    → sum_by length before + length done + length rest ≤ most_calls header.version
    → first_bad (map spaced (plan_lines (with_phases header (before ++ (done ++ rest) ∷ [])))) (map spaced more) ≡ None
    → first_bad (map spaced (plan_lines (with_phases header (before ++ done ∷ [])))) (map spaced (map (turn_words header.caches) rest ++ more)) ≡ None
turns_fine header before done [] more h hd hr few later =
    ap (λ (ts : List Turn). first_bad (map spaced (plan_lines (with_phases header (before ++ ts ∷ [])))) (map spaced more)) (sym (append-nil done)) ∙ later
turns_fine header before done (turn ∷ rest) more h hd hr few later =
    let plan : Plan = with_phases header (before ++ done ∷ []) in
    let good = sayable header (before ++ done ∷ []) (more_written header before done h hd) in
    let more_done = all-append (WritesTurn header) done (turn ∷ []) hd (hr.0, tt) in
    let count = length-append done (turn ∷ []) in
    let joined : (done ++ turn ∷ []) ++ rest ≡ done ++ turn ∷ rest = append_assoc done (turn ∷ []) rest in
    let later_joined : first_bad (map spaced (plan_lines (with_phases header (before ++ ((done ++ turn ∷ []) ++ rest) ∷ [])))) (map spaced more) ≡ None =
    ap (λ (ts : List Turn). first_bad (map spaced (plan_lines (with_phases header (before ++ ts ∷ [])))) (map spaced more)) joined ∙ later in
    let below : sum_by length before + length (done ++ turn ∷ []) + length rest ≤ most_calls header.version = omega (arith, count, few) in
    let ih = turns_fine header before (done ++ turn ∷ []) rest more h more_done hr.1 below later_joined in
    let room : sum_by length before + length done < most_calls header.version = omega (arith, few) in
    next_fine (plan_lines plan) (map (turn_words header.caches) rest ++ more) (turn_words header.caches turn) plan (step_line (name_of turn.call.op)) (said-plan plan good) (says-plan plan good) (hr.0.form plan) (turn_fine header before done turn room hr.0)
    (ap (λ (ls : List (List (List ℕ))). first_bad (map spaced ls) (map spaced (map (turn_words header.caches) rest ++ more))) (sym (lines_push_turn header before done turn)) ∙ ih)

phase_fine : (header : Header) (before : List (List Turn)) → length before < 4096 → IsFine (with_phases header before) phase_line (codes "phase" ∷ [])
phase_fine header before few = record {
  text = (w_name (codes "phase") refl, tt);
  header = refl;
  known = refl;
  count = refl;
  fields = tt;
  order = refl;
  limit = lt-leb 4096 (length before) few;
}

phases_fine : (header : Header) (before rest : List (List Turn)) → AreWritten header before → AllByRecursion (AllByRecursion (WritesTurn header)) rest → length before + length rest ≤ 4096 → sum_by length before + sum_by length rest ≤ most_calls header.version
    → first_bad (map spaced (plan_lines (with_phases header before))) (map spaced (flat_map (phase_lines header.caches) rest)) ≡ None
phases_fine header before [] h hr few calls = refl
phases_fine header before (turns ∷ rest) h hr few calls =
    let plan : Plan = with_phases header before in
    let good = sayable header before h in
    let lines : List (List (List ℕ)) = flat_map (phase_lines header.caches) rest in
    let count = length-append before (turns ∷ []) in
    let pushed = calls_push before turns in
    let sum = sum_by-cons length turns rest in
    let ih = phases_fine header (before ++ turns ∷ []) rest (more_written header before turns h hr.0) hr.1 (omega (arith, count, few)) (omega (arith, pushed, sum, calls)) in
    let room : sum_by length before + length {A = Turn} [] + length turns ≤ most_calls header.version = omega (arith, sum, calls) in
    next_fine (plan_lines plan) (map (turn_words header.caches) turns ++ lines) (codes "phase" ∷ []) plan phase_line (said-plan plan good) (says-plan plan good) refl (phase_fine header before (omega (arith, few)))
    (ap (λ (ls : List (List (List ℕ))). first_bad (map spaced ls) (map spaced (map (turn_words header.caches) turns ++ lines))) (sym (lines_push_phase header before))
    ∙ turns_fine header before [] turns lines h tt hr.0 room ih)

-- ---- the law

no_bad_line : (plan : Plan) → IsPlan plan → AreWritten plan.header plan.phases → first_bad [] (map spaced (plan_lines plan)) ≡ None
no_bad_line plan is written =
    let header : Header = plan.header in
    let start : AreWritten header [] = record { numbers = written.numbers; defs = written.defs; turns = tt } in
    let phases = phases_fine header [] plan.phases start written.turns (omega (arith, is.phases)) (omega (arith, is.calls)) in
    let defs = defs_fine header is.header [] header.caches (flat_map (phase_lines header.caches) plan.phases) refl tt phases in
    bad_later [] (spaced (header_words header)) _ (no_reason None header_line (header_words header) refl (header_fine header is.header)) defs

says_declarable : (header : Header) (defs : List CacheDef) → AllByRecursion (IsDeclarable header.version) defs → AllByRecursion SaysDef defs
says_declarable header [] h = tt
says_declarable header (def ∷ defs) h =
    let alone : Header = record { version = header.version; cpus = header.cpus; threads = header.threads; caches = [] } in
    let written = writes-def alone def h.0 tt in
    (record { text = written.words; says = written.says }, says_declarable header defs h.1)

all_written : (plan : Plan) → IsPlan plan → AreWritten plan.header plan.phases
all_written plan is = record {
  numbers = has_numbers plan.header is.header;
  defs = says_declarable plan.header plan.header.caches is.header.caches;
  turns = all-weaker (AllByRecursion (IsTurn plan.header)) (AllByRecursion (WritesTurn plan.header)) (λ turns. all-weaker (IsTurn plan.header) (WritesTurn plan.header) (λ turn h. writes-turn plan.header turn is.header h) turns) plan.phases is.turns;
}

pub read-text : (plan : Plan) → IsPlan plan → length (text_of plan) ≤ MOST_BYTES → script_of (text_of plan) ≡ Ok plan
read-text plan is fits =
    let written = all_written plan is in
    let good = sayable plan.header plan.phases written in
    let said = said-plan plan good in
    let words = all-weaker IsSaid (AllByRecursion IsWord) (λ line h. h.text) (plan_lines plan) said in
    let lines : List (List ℕ) = map spaced (plan_lines plan) in
    let by : said_by lines ≡ Some plan = ap said_in (kept_lines-spaced (plan_lines plan) said) ∙ says-plan plan good in
    ap (λ b. cond b (Err (0, reasons.Limit)) (script_in (lines_of (text_of plan)))) (le-ltb MOST_BYTES (length (text_of plan)) fits)
    ∙ ap script_in (lines_of-text (plan_lines plan) words)
    ∙ ap (λ bad. plan_unless bad (said_by lines) (length lines + 1)) (no_bad_line plan is written)
    ∙ ap (λ s. plan_unless None s (length lines + 1)) by

pub same-plan : (a b : Plan) → IsPlan a → IsPlan b → length (text_of a) ≤ MOST_BYTES → text_of a ≡ text_of b → a ≡ b
same-plan a b is_a is_b fits same =
    let first = read-text a is_a fits in
    let second = read-text b is_b (subst (λ (t : List ℕ). length t ≤ MOST_BYTES) same fits) in
    let both : script_of (text_of a) ≡ script_of (text_of b) = ap script_of same in
    cc (first, second, both)

-- ---- what can be written

has_cache : (header : Header) (op : Op) → IsOp header op → HasCache header.caches op
has_cache header (ops.Alloc s n) is = tt
has_cache header (ops.Zalloc s n) is = tt
has_cache header (ops.Free s n) is = tt
has_cache header (ops.CacheAlloc s n) is = is.1
has_cache header (ops.CacheFree s n) is = is.1
has_cache header (ops.Copy to from) is = tt
has_cache header (ops.Clear s) is = tt
has_cache header (ops.Store s n bytes) is = tt
has_cache header (ops.Link s n value) is = tt
has_cache header (ops.Load to s n) is = tt
has_cache header ops.Reap is = tt

-- a plan that keeps the rules names declared caches alone
pub has_all_caches : (plan : Plan) → IsPlan plan → HasAllCaches plan
has_all_caches plan is =
    all-weaker (AllByRecursion (IsTurn plan.header)) (HasCaches plan.header.caches)
    (λ turns. all-weaker (IsTurn plan.header) (λ turn. HasCache plan.header.caches turn.call.op) (λ turn h. has_cache plan.header turn.call.op h.op) turns) plan.phases is.turns

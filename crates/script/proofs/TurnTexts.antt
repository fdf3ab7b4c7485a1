-- Written lines: each is one line of its form, is refused for no reason, and says what was written.
use Rattle.std.proofs.Common.{◌≡◌, ◌≢◌, ℕ, zero, suc, ◌+◌, ◌-◌, ◌^◌, ◌<◌, ◌≤◌, Bool, true, false, cond, List, [], ◌∷◌, ◌++◌, length, map, get_or, Option, Some, None, unwrap_or, refl, sym, ap, ◌∙◌, arith, length-append}
use Rattle.std.specs.Prelude.{◌==◌, not, nat_lt, ◌&&◌, codes, decimal, is_some, AllPairs}
use Rattle.std.specs.List.{AllByRecursion, list_all, position_or_len}
use Rattle.std.specs.Option.{option_map}
use Rattle.std.specs.Str.{bytes_eq}
use Rattle.std.proofs.lemmas.Bool.{and_from, and_parts, false_from_ne_true, lt-ltb, ltb-true, or_from}
use Rattle.std.proofs.lemmas.Bool.Decides.{nat_tests}
use Rattle.std.specs.Char.{is_ascii_digit}
use Rattle.std.specs.Int.{is_in_range}
use Rattle.std.proofs.lemmas.Slice.Eq.{bytes_eq-Decides}
use Rattle.hex.specs.Hex.{encode_lower}
use Rattle.umem_base.specs.Numbers.{is_decimal}
use Rattle.case_table.specs.CacheName.{is_cache_name, is_reserved_name}
use Rattle.case_table.specs.declared.cache_def.CacheDef.{CacheDef}
use Rattle.script.specs.declared.operation.Op.{Op}
use Rattle.script.specs.declared.operation.Op.TheVariants as ops
use Rattle.script.specs.declared.operation.OpName.{OpName}
use Rattle.script.specs.declared.operation.OpName.TheVariants as names
use Rattle.script.specs.declared.reasons.Reason.{Reason}
use Rattle.script.specs.declared.tree.Header.{Header}
use Rattle.script.specs.Fields.{Kind, alignment, cache, cache_in, decimal_in, declared_number, fault_of, is_alignment, is_cache_declared, new_name, number_in, slot, stored, thread}
use Rattle.script.specs.Grammar.{Form, cache_line, cache_of, fields_of, form_of, has_count, has_fault, is_cache_line, is_phase_line, is_refused_for, is_stack, no_line, phase_line, second_header, skipped, stack_field, stack_in, step_form, step_line, turn_in}
use Rattle.script.specs.Lines.{is_comment, is_kept}
use Rattle.script.specs.OpWords.{cache_word, op_words, slot_text}
use Rattle.script.specs.Plan.{Plan, Turn}
use Rattle.script.specs.PlanText.{cache_words, stack_words, turn_words}
use Rattle.script.specs.Rules.{AreStored, IsDeclarable, IsDeclaredCache, IsHeader, IsOp, IsSlot, IsTurn}
use Rattle.script.proofs.FieldTexts.{digits-decimal, fine-alignment, fine-constructor, fine-decimal, fine-stored, fine-thread, fits-alignment, glyph_from, holds-none, number-decimal, says-constructor, says-stored, word-decimal, word-name, word-stored, writes-frames, writes-slot}
use Rattle.script.proofs.SpacedLemmas.{IsGlyph, IsWord, all-append}

-- a field is refused for no reason
pub record IsFineField (header : Header) (field : Kind × List ℕ) : Type 0 where
  pub fine : fault_of header field.0 field.1 ≡ None

pub no_fault : (reason : Reason) (header : Header) (fields : List (Kind × List ℕ)) → AllByRecursion (IsFineField header) fields → has_fault reason header fields ≡ false
no_fault reason header [] h = refl
no_fault reason header (field ∷ fields) h =
    or_from (is_refused_for reason (fault_of header field.0 field.1)) (has_fault reason header fields) (ap (is_refused_for reason) h.0.fine) (no_fault reason header fields h.1)

-- ---- names of declared caches

-- none of the caches has the name
abbrev pub Lacks : List CacheDef → List ℕ → Type 0
Lacks caches name = AllByRecursion (λ def. def.name ≢ name) caches

named_other : (name : List ℕ) (def : CacheDef) → def.name ≢ name → bytes_eq name def.name ≡ false
named_other name def other = false_from_ne_true _ (λ same. other (sym ((bytes_eq-Decides name def.name).0 same)))

place_here : (name : List ℕ) (done rest : List CacheDef) (def : CacheDef) → Lacks done name → def.name ≡ name → position_or_len (λ d. bytes_eq name d.name) (done ++ def ∷ rest) ≡ length done
place_here name [] rest def h is = ap (λ b. cond (not b) (1 + position_or_len (λ d. bytes_eq name d.name) rest) 0) ((bytes_eq-Decides name def.name).1 (sym is))
place_here name (first ∷ done) rest def h is =
    let ih = place_here name done rest def h.1 is in
    ap (λ b. cond (not b) (1 + position_or_len (λ d. bytes_eq name d.name) (done ++ def ∷ rest)) 0) (named_other name first h.0) ∙ omega (arith, ih)

place_none : (name : List ℕ) (done : List CacheDef) → Lacks done name → position_or_len (λ d. bytes_eq name d.name) done ≡ length done
place_none name [] h = refl
place_none name (first ∷ done) h =
    let ih = place_none name done h.1 in
    ap (λ b. cond (not b) (1 + position_or_len (λ d. bytes_eq name d.name) done) 0) (named_other name first h.0) ∙ omega (arith, ih)

not_declared : (name : List ℕ) (done : List CacheDef) → Lacks done name → is_cache_declared done name ≡ false
not_declared name done h =
    let at = place_none name done h in
    let test : nat_lt (position_or_len (λ (d : CacheDef). bytes_eq name d.name) done) (length done) ≡ false = grind (arith, nat_tests) in
    ap (λ b. is_some (option_map (λ (place : ℕ). 32 + place) (cond b (Some (position_or_len (λ (d : CacheDef). bytes_eq name d.name) done)) None))) test

found_here : (name : List ℕ) (done rest : List CacheDef) (def : CacheDef) → Lacks done name → def.name ≡ name → declared_number (done ++ def ∷ rest) name ≡ Some (32 + length done)
found_here name done rest def h is =
    let at = place_here name done rest def h is in
    let longer = length-append done (def ∷ rest) in
    let test : nat_lt (length done) (length (done ++ def ∷ rest)) ≡ true = lt-ltb _ _ (omega (arith, longer)) in
    rw at (ap (λ b. option_map (λ (place : ℕ). 32 + place) (cond b (Some (length done)) None)) test)

-- distinct names: each cache lacks its name before it
pub lacks_before : (caches done rest : List CacheDef) (def : CacheDef) → AllPairs (λ (a : CacheDef) (b : CacheDef). a.name ≢ b.name) caches → caches ≡ done ++ def ∷ rest → Lacks done def.name
lacks_before caches done rest def pairs is = lacks_from done (λ i lt. go i lt)
  where
    at_end : (xs : List CacheDef) → get_or (xs ++ def ∷ rest) (length xs) def ≡ def
    at_end [] = refl
    at_end (x ∷ xs) = at_end xs

    at_front : (xs : List CacheDef) (i : ℕ) → i < length xs → get_or (xs ++ def ∷ rest) i def ≡ get_or xs i def
    at_front [] i lt = absurd (omega arith)
    at_front (x ∷ xs) zero lt = refl
    at_front (x ∷ xs) (suc i) lt = at_front xs i (omega arith)

    go : (i : ℕ) → i < length done → (get_or done i def).name ≢ def.name
    go i lt same =
        let longer = length-append done (def ∷ rest) in
        let apart = pairs i (length done) def lt (rw is (omega (arith, longer))) in
        let left : get_or caches i def ≡ get_or done i def = ap (λ (cs : List CacheDef). get_or cs i def) is ∙ at_front done i lt in
        let right : get_or caches (length done) def ≡ def = ap (λ (cs : List CacheDef). get_or cs (length done) def) is ∙ at_end done in
        apart (ap (λ (d : CacheDef). d.name) left ∙ same ∙ ap (λ (d : CacheDef). d.name) (sym right))

    lacks_from : (xs : List CacheDef) → ((i : ℕ) → i < length xs → (get_or xs i def).name ≢ def.name) → Lacks xs def.name
    lacks_from [] h = tt
    lacks_from (x ∷ xs) h = (h 0 (omega arith), lacks_from xs (λ i lt. h (suc i) (omega arith)))

-- a list cut round one of its items
pub record IsCutAt (caches : List CacheDef) (i : ℕ) : Type 0 where
  pub done : List CacheDef
  pub def : CacheDef
  pub rest : List CacheDef
  pub is : caches ≡ done ++ def ∷ rest
  pub len : length done ≡ i

cut_at : (caches : List CacheDef) (i : ℕ) → i < length caches → IsCutAt caches i
cut_at [] i lt = absurd (omega arith)
cut_at (def ∷ caches) zero lt = record { done = []; def = def; rest = caches; is = refl; len = refl }
cut_at (first ∷ caches) (suc i) lt =
    let cut = cut_at caches i (omega arith) in
    record { done = first ∷ cut.done; def = cut.def; rest = cut.rest; is = ap (λ (cs : List CacheDef). first ∷ cs) cut.is; len = ap suc cut.len }

name_at : (done rest : List CacheDef) (def : CacheDef) → get_or (map (λ d. d.name) (done ++ def ∷ rest)) (length done) [] ≡ def.name
name_at [] rest def = refl
name_at (first ∷ done) rest def = name_at done rest def

pub declarable_at : (version : ℕ) (done rest : List CacheDef) (def : CacheDef) → AllByRecursion (IsDeclarable version) (done ++ def ∷ rest) → IsDeclarable version def
declarable_at version [] rest def h = h.0
declarable_at version (first ∷ done) rest def h = declarable_at version done rest def h.1

-- what is known of the word of a declared cache
pub record WritesCache (caches : List CacheDef) (number : ℕ) (word : List ℕ) : Type 0 where
  pub is_word : IsWord word
  pub declared : is_cache_declared caches word ≡ true
  pub says : cache_in caches word ≡ number

pub writes-cache : (header : Header) (number : ℕ) → IsHeader header → IsDeclaredCache header number → WritesCache header.caches number (cache_word header.caches number)
writes-cache header number is declared =
    let place : ℕ = number - 32 in
    let low : 32 ≤ number = declared.0 in
    let high : number < 32 + length header.caches = declared.1 in
    let cut = cut_at header.caches place (omega arith) in
    let lacks = lacks_before header.caches cut.done cut.rest cut.def is.names cut.is in
    let named : cache_word header.caches number ≡ cut.def.name =
    ap (λ (cs : List CacheDef). get_or (map (λ (d : CacheDef). d.name) cs) place []) cut.is
    ∙ ap (λ i. get_or (map (λ (d : CacheDef). d.name) (cut.done ++ cut.def ∷ cut.rest)) i []) (sym cut.len) ∙ name_at cut.done cut.rest cut.def in
    let all : AllByRecursion (IsDeclarable header.version) (cut.done ++ cut.def ∷ cut.rest) = rw cut.is at is.caches in
    let formed = and_parts (is_cache_name cut.def.name) (not (is_reserved_name cut.def.name)) (declarable_at header.version cut.done cut.rest cut.def all).name in
    let found : declared_number header.caches cut.def.name ≡ Some (32 + length cut.done) = ap (λ (cs : List CacheDef). declared_number cs cut.def.name) cut.is ∙ found_here cut.def.name cut.done cut.rest cut.def lacks refl in
    let number_is : 32 + length cut.done ≡ number = omega (arith, cut.len) in
    rw named (record {
      is_word = word-name cut.def.name formed.0;
      declared = ap is_some found;
      says = ap (λ o. unwrap_or o 0) found ∙ number_is;
    })

-- ---- the fields of steps

f_slot : (header : Header) (s : ℕ) → IsSlot header s → IsFineField header (slot, slot_text s)
f_slot header s is = record { fine = (writes-slot header s is).fine }

f_size : (header : Header) (n : ℕ) → n < 2 ^ 32 → IsFineField header (decimal_in 0 4294967295, decimal n)
f_size header n lt = record { fine = fine-decimal 0 4294967295 n (omega arith) (omega arith) (omega arith) }

f_offset : (header : Header) (n : ℕ) → n ≤ 65535 → IsFineField header (decimal_in 0 65535, decimal n)
f_offset header n le = record { fine = fine-decimal 0 65535 n (omega arith) (omega arith) (omega arith) }

f_cache : (header : Header) (n : ℕ) → IsHeader header → IsDeclaredCache header n → IsFineField header (cache, cache_word header.caches n)
f_cache header n good is = record { fine = holds-none _ _ (writes-cache header n good is).declared }

f_stored : (header : Header) (bytes : List ℕ) → AreStored bytes → IsFineField header (stored, encode_lower bytes)
f_stored header bytes is = record { fine = fine-stored bytes is }

-- the operation of a step's line
abbrev pub name_of : Op → OpName
name_of (ops.Alloc s n) = names.Alloc
name_of (ops.Zalloc s n) = names.Zalloc
name_of (ops.Free s n) = names.Free
name_of (ops.CacheAlloc s n) = names.CacheAlloc
name_of (ops.CacheFree s n) = names.CacheFree
name_of (ops.Copy to from) = names.Copy
name_of (ops.Clear s) = names.Clear
name_of (ops.Store s n bytes) = names.Store
name_of (ops.Link s n value) = names.Link
name_of (ops.Load to s n) = names.Load
name_of ops.Reap = names.Reap

-- what is known of the words of an operation, with words behind them
pub record WritesOp (header : Header) (op : Op) (first : List ℕ) (tail : List (List ℕ)) : Type 0 where
  pub words : AllByRecursion IsWord (op_words header.caches op)
  pub form : step_form (op_words header.caches op ++ tail) ≡ step_line (name_of op)
  pub count : has_count header.version (step_line (name_of op)) (first ∷ (op_words header.caches op ++ tail)) ≡ true
  pub fields : AllByRecursion (IsFineField header) (fields_of (step_line (name_of op)) (first ∷ (op_words header.caches op ++ tail)))
  pub says : turn_in header.caches (first ∷ (op_words header.caches op ++ tail)) ≡ record { thread = number_in first; call = record { op = op; frames = stack_in tail } }

-- a word by a test that computes
abbrev is_glyphs : List ℕ → Bool
is_glyphs word = nat_lt 0 (length word) && list_all (is_in_range 33 126) word

pub w_name : (word : List ℕ) → is_glyphs word ≡ true → IsWord word
w_name word h =
    let parts = and_parts (nat_lt 0 (length word)) (list_all (is_in_range 33 126) word) h in
    record { some = ltb-true 0 (length word) parts.0; glyphs = glyphs word parts.1 }
  where
    glyphs : (bytes : List ℕ) → list_all (is_in_range 33 126) bytes ≡ true → AllByRecursion IsGlyph bytes
    glyphs [] h = tt
    glyphs (byte ∷ bytes) h =
        let parts = and_parts (is_in_range 33 126 byte) (list_all (is_in_range 33 126) bytes) h in
        (glyph_from byte parts.0, glyphs bytes parts.1)

w_slot : (header : Header) (s : ℕ) → IsSlot header s → IsWord (slot_text s)
w_slot header s is = (writes-slot header s is).is_word

pub writes-op : (header : Header) → IsHeader header → (op : Op) → IsOp header op → (first : List ℕ) (tail : List (List ℕ)) → IsFineField header (thread, first) → is_stack tail ≡ true
    → AllByRecursion (IsFineField header) (stack_field tail) → WritesOp header op first tail
writes-op header good (ops.Alloc s n) is first tail f stack h = record {
  words = (w_name (codes "alloc") refl, (w_slot header s is.0, (word-decimal n (omega (arith, is.1)), tt)));
  form = refl;
  count = stack;
  fields = (f, (f_slot header s is.0, (f_size header n is.1, h)));
  says = rw ((writes-slot header s is.0).says, number-decimal n (omega (arith, is.1))) refl;
}
writes-op header good (ops.Zalloc s n) is first tail f stack h = record {
  words = (w_name (codes "zalloc") refl, (w_slot header s is.0, (word-decimal n (omega (arith, is.1)), tt)));
  form = refl;
  count = stack;
  fields = (f, (f_slot header s is.0, (f_size header n is.1, h)));
  says = rw ((writes-slot header s is.0).says, number-decimal n (omega (arith, is.1))) refl;
}
writes-op header good (ops.Free s n) is first tail f stack h = record {
  words = (w_name (codes "free") refl, (w_slot header s is.0, (word-decimal n (omega (arith, is.1)), tt)));
  form = refl;
  count = stack;
  fields = (f, (f_slot header s is.0, (f_size header n is.1, h)));
  says = rw ((writes-slot header s is.0).says, number-decimal n (omega (arith, is.1))) refl;
}
writes-op header good (ops.CacheAlloc s n) is first tail f stack h =
    let named = writes-cache header n good is.1 in
    record {
      words = (w_name (codes "cache_alloc") refl, (w_slot header s is.0, (named.is_word, tt)));
      form = refl;
      count = stack;
      fields = (f, (f_slot header s is.0, (f_cache header n good is.1, h)));
      says = rw ((writes-slot header s is.0).says, named.says) refl;
    }
writes-op header good (ops.CacheFree s n) is first tail f stack h =
    let named = writes-cache header n good is.1 in
    record {
      words = (w_name (codes "cache_free") refl, (w_slot header s is.0, (named.is_word, tt)));
      form = refl;
      count = stack;
      fields = (f, (f_slot header s is.0, (f_cache header n good is.1, h)));
      says = rw ((writes-slot header s is.0).says, named.says) refl;
    }
writes-op header good (ops.Copy to from) is first tail f stack h = record {
  words = (w_name (codes "copy") refl, (w_slot header to is.0, (w_slot header from is.1, tt)));
  form = refl;
  count = stack;
  fields = (f, (f_slot header to is.0, (f_slot header from is.1, h)));
  says = rw ((writes-slot header to is.0).says, (writes-slot header from is.1).says) refl;
}
writes-op header good (ops.Clear s) is first tail f stack h = record {
  words = (w_name (codes "clear") refl, (w_slot header s is, tt));
  form = refl;
  count = stack;
  fields = (f, (f_slot header s is, h));
  says = rw ((writes-slot header s is).says) refl;
}
writes-op header good (ops.Store s n bytes) is first tail f stack h = record {
  words = (w_name (codes "store") refl, (w_slot header s is.0, (word-decimal n (omega (arith, is.1)), (word-stored bytes is.2.0 is.2.2, tt))));
  form = refl;
  count = stack;
  fields = (f, (f_slot header s is.0, (f_offset header n is.1, (f_stored header bytes is.2, h))));
  says = rw ((writes-slot header s is.0).says, number-decimal n (omega (arith, is.1)), says-stored bytes is.2.2) refl;
}
writes-op header good (ops.Link s n value) is first tail f stack h = record {
  words = (w_name (codes "link") refl, (w_slot header s is.0, (word-decimal n (omega (arith, is.1)), (w_slot header value is.2, tt))));
  form = refl;
  count = stack;
  fields = (f, (f_slot header s is.0, (f_offset header n is.1, (f_slot header value is.2, h))));
  says = rw ((writes-slot header s is.0).says, number-decimal n (omega (arith, is.1)), (writes-slot header value is.2).says) refl;
}
writes-op header good (ops.Load to s n) is first tail f stack h = record {
  words = (w_name (codes "load") refl, (w_slot header to is.0, (w_slot header s is.1, (word-decimal n (omega (arith, is.2)), tt))));
  form = refl;
  count = stack;
  fields = (f, (f_slot header to is.0, (f_slot header s is.1, (f_offset header n is.2, h))));
  says = rw ((writes-slot header to is.0).says, (writes-slot header s is.1).says, number-decimal n (omega (arith, is.2))) refl;
}
writes-op header good ops.Reap is first tail f stack h = record {
  words = (w_name (codes "reap") refl, tt);
  form = refl;
  count = stack;
  fields = (f, h);
  says = refl;
}

-- ---- stacks

pub record WritesStack (header : Header) (depth : List ℕ) : Type 0 where
  pub words : AllByRecursion IsWord (stack_words depth)
  pub is : is_stack (stack_words depth) ≡ true
  pub fields : AllByRecursion (IsFineField header) (stack_field (stack_words depth))
  pub says : stack_in (stack_words depth) ≡ depth

pub writes-stack : (header : Header) (depth : List ℕ) → length depth ≤ 64 → AllByRecursion (λ frame. frame < 2 ^ 64) depth → WritesStack header depth
writes-stack header [] le h = record { words = tt; is = refl; fields = tt; says = refl }
writes-stack header (frame ∷ depth) le h =
    let written = writes-frames frame depth le h in
    record {
      words = (w_name (codes "@") refl, (written.is_word, tt));
      is = refl;
      fields = (record { fine = written.fine }, tt);
      says = written.says;
    }

-- ---- the lines of calls

-- decimal digits are no word that has another byte
other_word : (digits word : List ℕ) → is_decimal digits ≡ true → is_decimal word ≡ false → bytes_eq digits word ≡ false
other_word digits word is other = false_from_ne_true _ (λ same. absurd (cc (is, other, ap is_decimal ((bytes_eq-Decides digits word).0 same))))

no_comment : (digits : List ℕ) → is_decimal digits ≡ true → is_comment digits ≡ false
no_comment [] h = refl
no_comment (digit ∷ digits) h =
    let all = (and_parts (nat_lt 0 (length (digit ∷ digits))) (list_all is_ascii_digit (digit ∷ digits)) h).1 in
    let first = (and_parts (is_ascii_digit digit) (list_all is_ascii_digit digits) all).0 in
    grind (arith, nat_tests)

-- what is known of the line of a call
pub record WritesTurn (header : Header) (turn : Turn) : Type 0 where
  pub words : AllByRecursion IsWord (turn_words header.caches turn)
  pub kept : is_kept (turn_words header.caches turn) ≡ true
  pub not_cache : is_cache_line (turn_words header.caches turn) ≡ false
  pub not_phase : is_phase_line (turn_words header.caches turn) ≡ false
  pub form : (plan : Plan) → form_of (Some plan) (turn_words header.caches turn) ≡ step_line (name_of turn.call.op)
  pub count : has_count header.version (step_line (name_of turn.call.op)) (turn_words header.caches turn) ≡ true
  pub fields : AllByRecursion (IsFineField header) (fields_of (step_line (name_of turn.call.op)) (turn_words header.caches turn))
  pub says : turn_in header.caches (turn_words header.caches turn) ≡ turn

step_from : (comment umem cached phase digits : Bool) (form : Form) → comment ≡ false → umem ≡ false → cached ≡ false → phase ≡ false → digits ≡ true
    → cond comment skipped (cond umem second_header (cond cached cache_line (cond phase phase_line (cond digits form no_line)))) ≡ form
step_from comment umem cached phase digits form a b c d e = rw (a, b, c, d, e) refl

pub writes-turn : (header : Header) (turn : Turn) → IsHeader header → IsTurn header turn → WritesTurn header turn
writes-turn header turn good is =
    let few = good.threads.1 in
    let below = is.thread in
    let fits : turn.thread < 2 ^ 64 = omega arith in
    let first : List ℕ = decimal turn.thread in
    let digits = digits-decimal turn.thread fits in
    let stack = writes-stack header turn.call.frames is.depth is.frames in
    let tail : List (List ℕ) = stack_words turn.call.frames in
    let f : IsFineField header (thread, first) = record { fine = fine-thread header.threads turn.thread below fits } in
    let op = writes-op header good turn.call.op is.op first tail f stack.is stack.fields in
    record {
      words = (word-decimal turn.thread fits, all-append IsWord (op_words header.caches turn.call.op) tail op.words stack.words);
      kept = ap not (no_comment first digits);
      not_cache = other_word first (codes "cache") digits refl;
      not_phase = other_word first (codes "phase") digits refl;
      form = λ plan. step_from _ _ _ _ _ _ (no_comment first digits) (other_word first (codes "umem") digits refl) (other_word first (codes "cache") digits refl) (other_word first (codes "phase") digits refl) digits ∙ op.form;
      count = op.count;
      fields = op.fields;
      says = op.says ∙ ap (λ (n : ℕ). record { thread = n; call = record { op = turn.call.op; frames = stack_in tail } }) (number-decimal turn.thread fits) ∙ ap (λ (fs : List ℕ). record { thread = turn.thread; call = record { op = turn.call.op; frames = fs } }) stack.says;
    }

-- ---- the lines of caches

-- what is known of the line that declares a cache behind others
pub record WritesDef (header : Header) (def : CacheDef) : Type 0 where
  pub words : AllByRecursion IsWord (cache_words def)
  pub count : has_count header.version cache_line (cache_words def) ≡ true
  pub fields : AllByRecursion (IsFineField header) (fields_of cache_line (cache_words def))
  pub says : cache_of (cache_words def) ≡ def

f_name : (header : Header) (def : CacheDef) → IsDeclarable header.version def → Lacks header.caches def.name → IsFineField header (new_name, def.name)
f_name header def is lacks =
    let undeclared = not_declared def.name header.caches lacks in
    record { fine = holds-none _ _ (and_from (is_cache_name def.name && not (is_reserved_name def.name)) (not (is_cache_declared header.caches def.name)) is.name (ap not undeclared)) }

f_count : (header : Header) (n : ℕ) → 1 ≤ n → n ≤ 4096 → IsFineField header (decimal_in 1 4096, decimal n)
f_count header n low high = record { fine = fine-decimal 1 4096 n low high (omega arith) }

f_align : (header : Header) (align : ℕ) → is_alignment align ≡ true → IsFineField header (alignment, decimal align)
f_align header align is = record { fine = fine-alignment align is }

writes-def-at : (header : Header) (name : List ℕ) (size align : ℕ) (ctor : Option ℕ) → IsDeclarable header.version (record { name = name; size = size; align = align; ctor = ctor })
    → Lacks header.caches name → WritesDef header (record { name = name; size = size; align = align; ctor = ctor })
writes-def-at header name size align None is lacks =
    let formed = and_parts (is_cache_name name) (not (is_reserved_name name)) is.name in
    let low = is.size.0 in
    let high = is.size.1 in
    let fits : size < 2 ^ 64 = omega arith in
    let align_fits = fits-alignment align is.align in
    record {
      words = (w_name (codes "cache") refl, (word-name name formed.0, (word-decimal size fits, (word-decimal align align_fits, tt))));
      count = refl;
      fields = (f_name header _ is lacks, (f_count header size low high, (f_align header align is.align, tt)));
      says = rw (number-decimal size fits, number-decimal align align_fits) refl;
    }
writes-def-at header name size align (Some byte) is lacks =
    let formed = and_parts (is_cache_name name) (not (is_reserved_name name)) is.name in
    let low = is.size.0 in
    let high = is.size.1 in
    let fits : size < 2 ^ 64 = omega arith in
    let align_fits = fits-alignment align is.align in
    let version = is.ctor.0 in
    let byte_fits = is.ctor.1 in
    record {
      words = (w_name (codes "cache") refl, (word-name name formed.0, (word-decimal size fits, (word-decimal align align_fits, (word-stored (byte ∷ []) (omega arith) (byte_fits, tt), tt)))));
      count = ap (λ (v : ℕ). v == 2) version;
      fields = (f_name header _ is lacks, (f_count header size low high, (f_align header align is.align, (record { fine = fine-constructor byte byte_fits }, tt))));
      says = rw (number-decimal size fits, number-decimal align align_fits, says-constructor byte byte_fits) refl;
    }

pub writes-def : (header : Header) (def : CacheDef) → IsDeclarable header.version def → Lacks header.caches def.name → WritesDef header def
writes-def header def is lacks = writes-def-at header def.name def.size def.align def.ctor is lacks

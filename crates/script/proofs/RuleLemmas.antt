-- Words that are not refused keep the rules and limits.
use Rattle.std.proofs.Common.{◌≡◌, ℕ, suc, ◌+◌, ◌/◌, ◌%◌, ◌^◌, ◌<◌, ◌≤◌, Bool, true, false, cond, List, [], ◌∷◌, map, length, drop, Option, Some, None, Result, Ok, Err, refl, subst, arith, inl, inr}
use Rattle.std.specs.Prelude.{◌&&◌, ◌||◌, ◌==◌, nat_lt, nat_le, is_ok, is_some, unwrap_or, position, slice_index}
use Rattle.std.specs.List.{AllByRecursion, list_all, position_or_len}
use Rattle.std.specs.Option.{option_map}
use Rattle.std.specs.Result.{result_unwrap_or}
use Rattle.std.specs.Str.{bytes_eq}
use Rattle.std.specs.Str.Parse.{digits_value}
use Rattle.std.proofs.lemmas.Bool.{and_parts, eqb-true, leb-true, ltb-true}
use Rattle.std.proofs.lemmas.List.{length-map}
use Rattle.hex.specs.declared.error.FromHexError.{FromHexError}
use Rattle.hex.specs.declared.error.FromHexError.TheVariants.{OddLength, InvalidStringLength}
use Rattle.hex.specs.Hex.{IsBytes, decode_of, decode_pairs, decode_sized}
use Rattle.hex.proofs.HexLemmas.{decode_of-ok}
use Rattle.umem_base.specs.declared.bad_number.BadNumber.TheVariants.{NotDigits, TooLarge}
use Rattle.umem_base.specs.Numbers.{is_decimal, is_hex}
use Rattle.case_table.specs.declared.cache_def.CacheDef.{CacheDef}
use Rattle.case_table.specs.declared.limits.TheConstants.{CLASS_COUNT}
use Rattle.script.specs.declared.limits.TheConstants.{FIRST_OWN_SLOT, MOST_FRAMES, MOST_OFFSET, MOST_STORED}
use Rattle.script.specs.declared.operation.OpName.{OpName}
use Rattle.script.specs.declared.operation.OpName.TheVariants.{Alloc, Zalloc, Free, CacheAlloc, CacheFree, Copy, Clear, Store, Link, Load, Reap}
use Rattle.script.specs.declared.reasons.Reason.{Reason}
use Rattle.script.specs.declared.reasons.Reason.TheVariants as reasons
use Rattle.script.specs.declared.tree.Header.{Header}
use Rattle.script.specs.Fields.{Kind, slot, cache, stored, declared_number, cache_in, slot_in, number_in, paired_bytes, paired_byte, frame_in, frame_words, is_frame, is_place, is_slot, unless_holds, number_fault, cache_fault, constructor_fault, decimal_fault, fault_of, frames_fault, slot_fault, stored_fault}
use Rattle.script.specs.Grammar.{are_arguments, arguments, call_fields, offset, op_in, size, stack_field, stack_in, nth_word}
use Rattle.script.specs.Reading.{least, least_of}
use Rattle.script.specs.Rules.{AreStored, IsDeclaredCache, IsOp, IsSize, IsSlot}

-- ---- no reason

pub unless_none : (holds : Bool) (reason : Reason) → unless_holds holds reason ≡ None → holds ≡ true
unless_none true reason h = refl
unless_none false reason h = absurd (cc h)

pub number_none : (has_digits fits : Bool) → number_fault has_digits fits ≡ None → (has_digits ≡ true) × (fits ≡ true)
number_none true true h = (refl, refl)
number_none true false h = absurd (cc h)
number_none false fits h = absurd (cc h)

pub least_none : (a b : Option Reason) → least a b ≡ None → (a ≡ None) × (b ≡ None)
least_none None b h = (refl, h)
least_none (Some a) None h = absurd (cc h)
least_none (Some a) (Some b) h = absurd (cc h)

pub decimal_within : (low high : ℕ) (word : List ℕ) → decimal_fault low high word ≡ None → (low ≤ number_in word) × (number_in word ≤ high)
decimal_within low high word h =
    let parts = and_parts (nat_le low (number_in word)) (nat_le (number_in word) high) (number_none (is_decimal word) (nat_le low (number_in word) && nat_le (number_in word) high) h).1 in
    (leb-true _ _ parts.0, leb-true _ _ parts.1)

-- ---- slots and caches

place_below : (digits : List ℕ) → is_place digits ≡ true → number_in digits < 512
place_below digits h = ltb-true _ _ (and_parts (is_decimal digits) (nat_lt (number_in digits) FIRST_OWN_SLOT) h).1

own_version : (sign version : ℕ) → (sign == 37) ≡ true → (sign == 36 || (sign == 37 && version == 2)) ≡ true → version ≡ 2
own_version sign version own h =
    let is : sign ≡ 37 = eqb-true sign 37 own in
    let two : (version == 2) ≡ true = subst (λ s. (s == 36 || (s == 37 && version == 2)) ≡ true) is h in
    eqb-true version 2 two

pub slot_rule : (header : Header) (word : List ℕ) → slot_fault header.version word ≡ None → IsSlot header (slot_in word)
slot_rule header [] h = absurd (cc h)
slot_rule header (sign ∷ digits) h =
    let holds = unless_none (is_slot header.version (sign ∷ digits)) reasons.Slot h in
    let parts = and_parts (sign == 36 || (sign == 37 && header.version == 2)) (is_place digits) holds in
    go (sign == 37) refl (place_below digits parts.1) parts.0
  where
    go : (own : Bool) → (sign == 37) ≡ own → number_in digits < 512 → (sign == 36 || (sign == 37 && header.version == 2)) ≡ true → IsSlot header (cond own (FIRST_OWN_SLOT + number_in digits) (number_in digits))
    go true is below named = inr (own_version sign header.version is named, omega arith)
    go false is below named = inl below

place_within : {X : Type 0} (p : X → Bool) (xs : List X) (i : ℕ) → position p xs ≡ Some i → i < length xs
place_within p xs i h = go (nat_lt (position_or_len p xs) (length xs)) refl h
  where
    go : (b : Bool) → nat_lt (position_or_len p xs) (length xs) ≡ b → cond b (Some (position_or_len p xs)) None ≡ Some i → i < length xs
    go true e k = let same : position_or_len p xs ≡ i = cc in omega (arith, ltb-true _ _ e, same)
    go false e k = absurd (cc k)

pub cache_rule : (header : Header) (word : List ℕ) → cache_fault header.caches word ≡ None → IsDeclaredCache header (cache_in header.caches word)
cache_rule header word h =
    go (position (λ (def : CacheDef). bytes_eq word def.name) header.caches) refl (unless_none (is_some (declared_number header.caches word)) reasons.Unknown h)
  where
    go : (o : Option ℕ) → position (λ (def : CacheDef). bytes_eq word def.name) header.caches ≡ o → is_some (option_map (λ place. CLASS_COUNT + place) o) ≡ true
        → IsDeclaredCache header (unwrap_or (option_map (λ place. CLASS_COUNT + place) o) 0)
    go None e k = absurd (cc k)
    go (Some place) e k =
        let within = place_within (λ (def : CacheDef). bytes_eq word def.name) header.caches place e in
        (omega arith, omega (arith, within))

-- ---- bytes and frames

bytes_below : (bytes : List ℕ) → IsBytes bytes → AllByRecursion (λ byte. byte < 256) bytes
bytes_below [] h = tt
bytes_below (byte ∷ bytes) h = (h 0, bytes_below bytes (λ i. h (suc i)))

pub stored_rule : (word : List ℕ) → 0 < length word → stored_fault word ≡ None → AreStored (paired_bytes word)
stored_rule word some h =
    let parts = number_none (is_ok (decode_of word)) (nat_le (length (paired_bytes word)) MOST_STORED) h in
    go (decode_of word) refl parts.0 parts.1
  where
    go : (r : Result (List ℕ) FromHexError) → decode_of word ≡ r → is_ok r ≡ true → nat_le (length (result_unwrap_or r [])) MOST_STORED ≡ true → AreStored (result_unwrap_or r [])
    go (Ok bytes) e ok short =
        let read = decode_of-ok word bytes e in
        (omega (arith, read.2, some), leb-true _ _ short, bytes_below bytes read.3)
    go (Err fault) e ok short = absurd (cc ok)

sized_is_read : (odd fits : Bool) (pairs : Result (List ℕ) FromHexError) (bytes : List ℕ) → cond odd (Err OddLength) (cond fits pairs (Err InvalidStringLength)) ≡ Ok bytes → cond odd (Err OddLength) pairs ≡ Ok bytes
sized_is_read true fits pairs bytes h = absurd (cc h)
sized_is_read false true pairs bytes h = h
sized_is_read false false pairs bytes h = absurd (cc h)

pub constructor_rule : (word : List ℕ) → constructor_fault word ≡ None → paired_byte word < 256
constructor_rule word h = go (decode_sized word 1) refl (number_none (is_ok (decode_sized word 1)) true h).0
  where
    go : (r : Result (List ℕ) FromHexError) → decode_sized word 1 ≡ r → is_ok r ≡ true → slice_index (result_unwrap_or r []) 0 < 256
    go (Ok bytes) e ok = (decode_of-ok word bytes (sized_is_read (length word % 2 == 1) (length word / 2 == 1) (decode_pairs 0 word) bytes e)).3 0
    go (Err fault) e ok = absurd (cc ok)

frame_below : (part : List ℕ) → is_frame part ≡ true → frame_in part < 2 ^ 64
frame_below part h = go (is_hex part) (nat_lt (digits_value 16 part) (2 ^ 64)) refl h
  where
    go : (digits fits : Bool) → nat_lt (digits_value 16 part) (2 ^ 64) ≡ fits → is_ok (cond digits (cond fits (Ok (digits_value 16 part)) (Err TooLarge)) (Err NotDigits)) ≡ true → digits_value 16 part < 2 ^ 64
    go true true e k = ltb-true _ _ e
    go true false e k = absurd (cc k)
    go false fits e k = absurd (cc k)

frames_below : (parts : List (List ℕ)) → list_all is_frame parts ≡ true → AllByRecursion (λ frame. frame < 2 ^ 64) (map frame_in parts)
frames_below [] h = tt
frames_below (part ∷ parts) h =
    let both = and_parts (is_frame part) (list_all is_frame parts) h in
    (frame_below part both.0, frames_below parts both.1)

pub frames_rule : (header : Header) (words : List (List ℕ)) → least_of header (stack_field words) ≡ None → (length (stack_in words) ≤ 64) × AllByRecursion (λ frame. frame < 2 ^ 64) (stack_in words)
frames_rule header [] h = (omega arith, tt)
frames_rule header (sign ∷ words) h =
    let word = nth_word words 0 in
    let parts = number_none (list_all is_frame (frame_words word)) (nat_le (length (frame_words word)) MOST_FRAMES) (least_none (frames_fault word) None h).0 in
    (omega (arith, length-map (frame_words word) frame_in, leb-true (length (frame_words word)) MOST_FRAMES parts.1), frames_below (frame_words word) parts.0)

-- ---- operations

abbrev pub AreWords : List (List ℕ) → Type 0
AreWords words = AllByRecursion (λ word. 0 < length word) words

one_fault : (header : Header) (k : Kind) (words : List (List ℕ)) → are_arguments 1 words ≡ true → least_of header (call_fields (k ∷ []) words) ≡ None → fault_of header k (nth_word words 0) ≡ None
one_fault header k [] c h = absurd (cc c)
one_fault header k (a ∷ words) c h = (least_none _ _ h).0

two_faults : (header : Header) (k l : Kind) (words : List (List ℕ)) → are_arguments 2 words ≡ true → least_of header (call_fields (k ∷ l ∷ []) words) ≡ None → (fault_of header k (nth_word words 0) ≡ None) × (fault_of header l (nth_word words 1) ≡ None)
two_faults header k l [] c h = absurd (cc c)
two_faults header k l (a ∷ []) c h = absurd (cc c)
two_faults header k l (a ∷ b ∷ words) c h =
    let first = least_none (fault_of header k a) _ h in
    (first.0, (least_none (fault_of header l b) _ first.1).0)

three_faults : (header : Header) (k l m : Kind) (words : List (List ℕ)) → are_arguments 3 words ≡ true → least_of header (call_fields (k ∷ l ∷ m ∷ []) words) ≡ None
    → (fault_of header k (nth_word words 0) ≡ None) × (fault_of header l (nth_word words 1) ≡ None) × (fault_of header m (nth_word words 2) ≡ None)
three_faults header k l m [] c h = absurd (cc c)
three_faults header k l m (a ∷ []) c h = absurd (cc c)
three_faults header k l m (a ∷ b ∷ []) c h = absurd (cc c)
three_faults header k l m (a ∷ b ∷ d ∷ words) c h =
    let first = least_none (fault_of header k a) _ h in
    let second = least_none (fault_of header l b) _ first.1 in
    (first.0, second.0, (least_none (fault_of header m d) _ second.1).0)

third_word : (words : List (List ℕ)) → are_arguments 3 words ≡ true → AreWords words → 0 < length (nth_word words 2)
third_word [] c w = absurd (cc c)
third_word (a ∷ []) c w = absurd (cc c)
third_word (a ∷ b ∷ []) c w = absurd (cc c)
third_word (a ∷ b ∷ d ∷ words) c w = w.1.1.0

size_rule : (word : List ℕ) → decimal_fault 0 4294967295 word ≡ None → IsSize (number_in word)
size_rule word h = omega (arith, (decimal_within 0 4294967295 word h).1)

sized_rule : (header : Header) (words : List (List ℕ)) → are_arguments 2 words ≡ true → least_of header (call_fields (slot ∷ size ∷ []) words) ≡ None → IsSlot header (slot_in (nth_word words 0)) × IsSize (number_in (nth_word words 1))
sized_rule header words c h =
    let p = two_faults header slot size words c h in
    (slot_rule header (nth_word words 0) p.0, size_rule (nth_word words 1) p.1)

cached_rule : (header : Header) (words : List (List ℕ)) → are_arguments 2 words ≡ true → least_of header (call_fields (slot ∷ cache ∷ []) words) ≡ None → IsSlot header (slot_in (nth_word words 0)) × IsDeclaredCache header (cache_in header.caches (nth_word words 1))
cached_rule header words c h =
    let p = two_faults header slot cache words c h in
    (slot_rule header (nth_word words 0) p.0, cache_rule header (nth_word words 1) p.1)

pub op_rule : (header : Header) (op : OpName) (words : List (List ℕ)) → are_arguments (length (arguments op)) words ≡ true → least_of header (call_fields (arguments op) words) ≡ None → AreWords words → IsOp header (op_in header.caches op words)
op_rule header Alloc words c h w = sized_rule header words c h
op_rule header Zalloc words c h w = sized_rule header words c h
op_rule header Free words c h w = sized_rule header words c h
op_rule header CacheAlloc words c h w = cached_rule header words c h
op_rule header CacheFree words c h w = cached_rule header words c h
op_rule header Copy words c h w =
    let p = two_faults header slot slot words c h in
    (slot_rule header (nth_word words 0) p.0, slot_rule header (nth_word words 1) p.1)
op_rule header Clear words c h w = slot_rule header (nth_word words 0) (one_fault header slot words c h)
op_rule header Store words c h w =
    let p = three_faults header slot offset stored words c h in
    (slot_rule header (nth_word words 0) p.0, (decimal_within 0 MOST_OFFSET (nth_word words 1) p.1).1, stored_rule (nth_word words 2) (third_word words c w) p.2)
op_rule header Link words c h w =
    let p = three_faults header slot offset slot words c h in
    (slot_rule header (nth_word words 0) p.0, (decimal_within 0 MOST_OFFSET (nth_word words 1) p.1).1, slot_rule header (nth_word words 2) p.2)
op_rule header Load words c h w =
    let p = three_faults header slot slot offset words c h in
    (slot_rule header (nth_word words 0) p.0, slot_rule header (nth_word words 1) p.1, (decimal_within 0 MOST_OFFSET (nth_word words 2) p.2).1)
op_rule header Reap words c h w = tt

-- the stack behind the arguments
pub stack_none : (header : Header) (kinds : List Kind) (words : List (List ℕ)) → are_arguments (length kinds) words ≡ true → least_of header (call_fields kinds words) ≡ None → least_of header (stack_field (drop (length kinds) words)) ≡ None
stack_none header [] words c h = h
stack_none header (kind ∷ kinds) [] c h = absurd (cc c)
stack_none header (kind ∷ kinds) (word ∷ words) c h = stack_none header kinds words c (least_none (fault_of header kind word) _ h).1

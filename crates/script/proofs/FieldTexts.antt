-- Written fields: each is one word, is refused for no reason, and says what was written.
use Rattle.std.proofs.Common.{◌≡◌, ℕ, zero, suc, ◌+◌, ◌-◌, ◌/◌, ◌%◌, ◌^◌, ◌<◌, ◌≤◌, inl, inr, Bool, true, false, cond, eqb, ltb, List, [], ◌∷◌, ◌++◌, length, map, slice_index, None, refl, ap, ◌∙◌, arith}
use Rattle.std.specs.Prelude.{◌==◌, nat_lt, nat_le, ◌&&◌, decimal, is_ok}
use Rattle.std.specs.Char.{digit_value, is_ascii_digit, is_ascii_hexdigit}
use Rattle.std.specs.Int.{is_in_range}
use Rattle.std.specs.List.{AllByRecursion, list_all}
use Rattle.std.specs.Result.{result_unwrap_or}
use Rattle.std.specs.Str.Parse.{AllDigits, IsNumeral, digits_value}
use Rattle.std.proofs.lemmas.Bool.{and_from, and_parts, cases_lt, lt-ltb, le-ltb, le-leb, leb-true}
use Rattle.std.proofs.lemmas.Bool.Decides.{nat_tests}
use Rattle.std.proofs.lemmas.Fmt.{decimal_is_IsNumeral, digits_is_IsNumeral}
use Rattle.hex.specs.Hex.{IsBytes, decode_of, encode_lower, encode_with, lower_digits}
use Rattle.hex.proofs.HexLemmas.{decode_of-encode_lower, decode_sized-encode_lower, length-encode_with}
use Rattle.umem_base.specs.Numbers.{hexadecimal, is_decimal, is_hex}
use Rattle.case_table.specs.CacheName.{is_cache_name}
use Rattle.case_table.proofs.CacheNameLemmas.{name_byte, named, some_letter}
use Rattle.case_table.specs.CacheName.{is_name_byte}
use Rattle.script.specs.declared.reasons.Reason.{Reason}
use Rattle.script.specs.declared.tree.Header.{Header}
use Rattle.script.specs.Fields.{alignment_fault, paired_byte, paired_bytes, constructor_fault, decimal_fault, frame_in, frame_words, frames_fault, frames_in, is_alignment, is_frame, is_place, number_fault, number_in, slot_fault, slot_in, stored_fault, thread_fault, unless_holds}
use Rattle.script.specs.OpWords.{slot_text}
use Rattle.script.specs.PlanText.{frames_word}
use Rattle.script.specs.Rules.{AreStored, IsSlot}
use Rattle.script.proofs.SpacedLemmas.{IsGlyph, IsPart, IsWord, all-append, all-map, cut-joined}

pub holds-none : (holds : Bool) (reason : Reason) → holds ≡ true → unless_holds holds reason ≡ None
holds-none holds reason h = rw h refl

number-none : (digits fits : Bool) → digits ≡ true → fits ≡ true → number_fault digits fits ≡ None
number-none digits fits a b = rw (a, b) refl

-- ---- digits

decimal_digit : (c : ℕ) → digit_value c < 10 → is_ascii_digit c ≡ true
decimal_digit c h = grind (arith, nat_tests)

hex_digit : (c : ℕ) → digit_value c < 16 → is_ascii_hexdigit c ≡ true
hex_digit c h = grind (arith, nat_tests)

digit_low : (c : ℕ) → digit_value c < 16 → 48 ≤ c
digit_low c h = grind (arith, nat_tests)

digit_high : (c : ℕ) → digit_value c < 16 → c ≤ 102
digit_high c h = grind (arith, nat_tests)

digits_pass : (radix : ℕ) (test : ℕ → Bool) → ((c : ℕ) → digit_value c < radix → test c ≡ true) → (ds : List ℕ) → AllDigits radix ds → list_all test ds ≡ true
digits_pass radix test step [] h = refl
digits_pass radix test step (d ∷ ds) h = and_from (test d) (list_all test ds) (step d h.0) (digits_pass radix test step ds h.1)

digits_glyphs : (radix : ℕ) → radix ≤ 16 → (ds : List ℕ) → AllDigits radix ds → AllByRecursion IsGlyph ds
digits_glyphs radix le [] h = tt
digits_glyphs radix le (d ∷ ds) h =
    let first : digit_value d < radix = h.0 in
    let small : digit_value d < 16 = omega arith in
    (record { low = omega (arith, digit_low d small); high = omega (arith, digit_high d small) }, digits_glyphs radix le ds h.1)

digits_parts : (ds : List ℕ) → AllDigits 16 ds → AllByRecursion (IsPart 44) ds
digits_parts [] h = tt
digits_parts (d ∷ ds) h =
    let low = digit_low d h.0 in
    let other : eqb d 44 ≡ false = grind (arith, nat_tests) in
    (record { other = other }, digits_parts ds h.1)

-- ---- decimal numbers

pub number-decimal : (n : ℕ) → n < 2 ^ 64 → number_in (decimal n) ≡ n
number-decimal n fits = (decimal_is_IsNumeral n fits).1

pub digits-decimal : (n : ℕ) → n < 2 ^ 64 → is_decimal (decimal n) ≡ true
digits-decimal n fits =
    let is = (decimal_is_IsNumeral n fits).0 in
    and_from (ltb 0 (length (decimal n))) (list_all is_ascii_digit (decimal n)) (lt-ltb 0 (length (decimal n)) is.0) (digits_pass 10 is_ascii_digit decimal_digit (decimal n) is.1)

pub word-decimal : (n : ℕ) → n < 2 ^ 64 → IsWord (decimal n)
word-decimal n fits =
    let is = (decimal_is_IsNumeral n fits).0 in
    record { some = is.0; glyphs = digits_glyphs 10 (omega arith) (decimal n) is.1 }

pub fine-decimal : (least most n : ℕ) → least ≤ n → n ≤ most → n < 2 ^ 64 → decimal_fault least most (decimal n) ≡ None
fine-decimal least most n low high fits =
    let in_limits : (nat_le least (number_in (decimal n)) && nat_le (number_in (decimal n)) most) ≡ true = rw (number-decimal n fits) (and_from (nat_le least n) (nat_le n most) (le-leb least n low) (le-leb n most high)) in
    number-none (is_decimal (decimal n)) _ (digits-decimal n fits) in_limits

pub fine-thread : (threads n : ℕ) → n < threads → n < 2 ^ 64 → thread_fault threads (decimal n) ≡ None
fine-thread threads n below fits =
    let test : nat_lt (number_in (decimal n)) threads ≡ true = rw (number-decimal n fits) (lt-ltb n threads below) in
    holds-none _ _ test

alignment_small : (align : ℕ) → is_alignment align ≡ true → align ≤ 64
alignment_small align h = grind (arith, nat_tests)

pub fits-alignment : (align : ℕ) → is_alignment align ≡ true → align < 2 ^ 64
fits-alignment align h = omega (arith, alignment_small align h)

pub fine-alignment : (align : ℕ) → is_alignment align ≡ true → alignment_fault (decimal align) ≡ None
fine-alignment align h =
    let fits = fits-alignment align h in
    let test : is_alignment (number_in (decimal align)) ≡ true = rw (number-decimal align fits) h in
    number-none (is_decimal (decimal align)) _ (digits-decimal align fits) test

-- ---- slots

place-decimal : (n : ℕ) → n < 512 → is_place (decimal n) ≡ true
place-decimal n lt =
    let fits : n < 2 ^ 64 = omega arith in
    let below : nat_lt (number_in (decimal n)) 512 ≡ true = rw (number-decimal n fits) (lt-ltb n 512 lt) in
    and_from (is_decimal (decimal n)) (nat_lt (number_in (decimal n)) 512) (digits-decimal n fits) below

sign_word : (sign n : ℕ) → 33 ≤ sign → sign ≤ 126 → n < 512 → IsWord (sign ∷ decimal n)
sign_word sign n low high lt =
    let digits = word-decimal n (omega arith) in
    record { some = omega arith; glyphs = (record { low = low; high = high }, digits.glyphs) }

-- what is known of the word of a slot
pub record WritesSlot (header : Header) (slot : ℕ) (word : List ℕ) : Type 0 where
  pub is_word : IsWord word
  pub fine : slot_fault header.version word ≡ None
  pub says : slot_in word ≡ slot

shared_slot : (header : Header) (slot : ℕ) → slot < 512 → WritesSlot header slot (36 ∷ decimal slot)
shared_slot header slot lt = record {
  is_word = sign_word 36 slot (omega arith) (omega arith) lt;
  fine = holds-none _ _ (place-decimal slot lt);
  says = number-decimal slot (omega arith);
}

own_slot : (header : Header) (slot place : ℕ) → header.version ≡ 2 → slot ≡ 512 + place → place < 512 → WritesSlot header slot (37 ∷ decimal place)
own_slot header slot place version is lt =
    let digits = number-decimal place (omega arith) in
    let second : (header.version == 2) ≡ true = rw version refl in
    record {
      is_word = sign_word 37 place (omega arith) (omega arith) lt;
      fine = holds-none _ _ (and_from (header.version == 2) (is_place (decimal place)) second (place-decimal place lt));
      says = omega (arith, digits);
    }

own_version : (header : Header) (slot : ℕ) → 512 ≤ slot → IsSlot header slot → (header.version ≡ 2) × (slot < 1024)
own_version header slot le (inl below) = absurd (omega (arith, below))
own_version header slot le (inr own) = own

pub writes-slot : (header : Header) (slot : ℕ) → IsSlot header slot → WritesSlot header slot (slot_text slot)
writes-slot header slot is = elim (cases_lt slot 512) [
  | inl below ↦
      let test : nat_lt slot 512 ≡ true = lt-ltb slot 512 below in
      let form : slot_text slot ≡ 36 ∷ decimal slot = ap (λ b. cond b (36 ∷ decimal slot) (37 ∷ decimal (slot - 512))) test in
      rw form (shared_slot header slot below)
  | inr above ↦
      let test : nat_lt slot 512 ≡ false = le-ltb slot 512 above in
      let form : slot_text slot ≡ 37 ∷ decimal (slot - 512) = ap (λ b. cond b (36 ∷ decimal slot) (37 ∷ decimal (slot - 512))) test in
      let own = own_version header slot above is in
      let below : slot < 1024 = own.1 in
      rw form (own_slot header slot (slot - 512) own.0 (omega arith) (omega arith))
]

-- ---- bytes

pub bytes-from : (xs : List ℕ) → AllByRecursion (λ byte. byte < 256) xs → IsBytes xs
bytes-from [] h zero = omega arith
bytes-from [] h (suc i) = omega arith
bytes-from (x ∷ xs) h zero = h.0
bytes-from (x ∷ xs) h (suc i) = bytes-from xs h.1 i

list_all-at : (test : ℕ → Bool) (xs : List ℕ) (i : ℕ) → list_all test xs ≡ true → i < length xs → test (slice_index xs i) ≡ true
list_all-at test [] i h lt = absurd (omega arith)
list_all-at test (x ∷ xs) zero h lt = (and_parts (test x) (list_all test xs) h).0
list_all-at test (x ∷ xs) (suc i) h lt = list_all-at test xs i (and_parts (test x) (list_all test xs) h).1 (omega arith)

pub glyph_from : (byte : ℕ) → is_in_range 33 126 byte ≡ true → IsGlyph byte
glyph_from byte h =
    let parts = and_parts (nat_le 33 byte) (nat_le byte 126) h in
    record { low = leb-true 33 byte parts.0; high = leb-true byte 126 parts.1 }

table_glyph : (place : ℕ) → place < 16 → IsGlyph (slice_index lower_digits place)
table_glyph place lt = glyph_from _ (list_all-at (is_in_range 33 126) lower_digits place refl lt)

encoded_glyphs : (xs : List ℕ) → AllByRecursion (λ byte. byte < 256) xs → AllByRecursion IsGlyph (encode_lower xs)
unfolding encode_with
encoded_glyphs [] h = tt
encoded_glyphs (x ∷ xs) h =
    let small : x < 256 = h.0 in
    (table_glyph (x / 16) (omega arith), (table_glyph (x % 16) (omega arith), encoded_glyphs xs h.1))

pub word-stored : (xs : List ℕ) → 1 ≤ length xs → AllByRecursion (λ byte. byte < 256) xs → IsWord (encode_lower xs)
word-stored xs some h = record { some = omega (arith, length-encode_with lower_digits xs); glyphs = encoded_glyphs xs h }

pub says-stored : (xs : List ℕ) → AllByRecursion (λ byte. byte < 256) xs → paired_bytes (encode_lower xs) ≡ xs
says-stored xs h = ap (λ r. result_unwrap_or r []) (decode_of-encode_lower xs (bytes-from xs h))

pub fine-stored : (xs : List ℕ) → AreStored xs → stored_fault (encode_lower xs) ≡ None
fine-stored xs stored =
    let back = decode_of-encode_lower xs (bytes-from xs stored.2) in
    let digits : is_ok (decode_of (encode_lower xs)) ≡ true = ap is_ok back in
    let short : nat_le (length (paired_bytes (encode_lower xs))) 16 ≡ true = rw (says-stored xs stored.2) (le-leb (length xs) 16 stored.1) in
    number-none _ _ digits short

pub says-constructor : (byte : ℕ) → byte < 256 → paired_byte (encode_lower (byte ∷ [])) ≡ byte
says-constructor byte lt = ap (λ r. slice_index (result_unwrap_or r []) 0) (decode_sized-encode_lower (byte ∷ []) 1 refl (bytes-from (byte ∷ []) (lt, tt)))

pub fine-constructor : (byte : ℕ) → byte < 256 → constructor_fault (encode_lower (byte ∷ [])) ≡ None
fine-constructor byte lt =
    let back = decode_sized-encode_lower (byte ∷ []) 1 refl (bytes-from (byte ∷ []) (lt, tt)) in
    number-none _ _ (ap is_ok back) refl

-- ---- frames

hex_numeral : (n : ℕ) → n < 2 ^ 64 → IsNumeral 16 (hexadecimal n) × (digits_value 16 (hexadecimal n) ≡ n)
hex_numeral n fits = digits_is_IsNumeral 16 false (omega arith) (omega arith) n (omega arith)

frame_reads : (n : ℕ) → n < 2 ^ 64 → is_frame (hexadecimal n) ≡ true
frame_reads n fits =
    let is = hex_numeral n fits in
    let bytes : List ℕ = hexadecimal n in
    let hex : is_hex bytes ≡ true = and_from (ltb 0 (length bytes)) (list_all is_ascii_hexdigit bytes) (lt-ltb 0 (length bytes) is.0.0) (digits_pass 16 is_ascii_hexdigit hex_digit bytes is.0.1) in
    let small : nat_lt (digits_value 16 bytes) (2 ^ 64) ≡ true = rw is.1 (lt-ltb n (2 ^ 64) fits) in
    rw (hex, small) refl

-- frames that can be written
abbrev pub AreFrames : List ℕ → Type 0
AreFrames frames = AllByRecursion (λ frame. frame < 2 ^ 64) frames

frame_parts : (frames : List ℕ) → AreFrames frames → AllByRecursion (AllByRecursion (IsPart 44)) (map hexadecimal frames)
frame_parts frames h = all-map (λ frame. frame < 2 ^ 64) (AllByRecursion (IsPart 44)) hexadecimal (λ frame lt. digits_parts (hexadecimal frame) (hex_numeral frame lt).0.1) frames h

frame_words_back : (frame : ℕ) (frames : List ℕ) → AreFrames (frame ∷ frames) → frame_words (frames_word (frame ∷ frames)) ≡ map hexadecimal (frame ∷ frames)
frame_words_back frame frames h = cut-joined 44 (hexadecimal frame) (map hexadecimal frames) refl (frame_parts (frame ∷ frames) h)

map_back : (frames : List ℕ) → AreFrames frames → map frame_in (map hexadecimal frames) ≡ frames
map_back [] h = refl
map_back (frame ∷ frames) h =
    ap (λ first. first ∷ map frame_in (map hexadecimal frames)) (hex_numeral frame h.0).1 ∙ ap (λ (rest : List ℕ). frame ∷ rest) (map_back frames h.1)

all_read : (frames : List ℕ) → AreFrames frames → list_all is_frame (map hexadecimal frames) ≡ true
all_read [] h = refl
all_read (frame ∷ frames) h = and_from (is_frame (hexadecimal frame)) (list_all is_frame (map hexadecimal frames)) (frame_reads frame h.0) (all_read frames h.1)

length_mapped : (frames : List ℕ) → length (map hexadecimal frames) ≡ length frames
length_mapped [] = refl
length_mapped (frame ∷ frames) = ap suc (length_mapped frames)

frames_glyphs : (frames : List ℕ) → AreFrames frames → AllByRecursion IsGlyph (frames_word frames)
frames_glyphs [] h = tt
frames_glyphs (frame ∷ []) h = digits_glyphs 16 (omega arith) (hexadecimal frame) (hex_numeral frame h.0).0.1
frames_glyphs (frame ∷ next ∷ frames) h =
    all-append IsGlyph (hexadecimal frame) (44 ∷ frames_word (next ∷ frames)) (digits_glyphs 16 (omega arith) (hexadecimal frame) (hex_numeral frame h.0).0.1)
    (record { low = omega arith; high = omega arith }, frames_glyphs (next ∷ frames) h.1)

front_some : (xs ys : List ℕ) → 0 < length xs → 0 < length (xs ++ ys)
front_some [] ys h = absurd (omega arith)
front_some (x ∷ xs) ys h = omega arith

frames_some : (frame : ℕ) (frames : List ℕ) → frame < 2 ^ 64 → 0 < length (frames_word (frame ∷ frames))
frames_some frame [] lt = (hex_numeral frame lt).0.0
frames_some frame (next ∷ frames) lt = front_some (hexadecimal frame) (44 ∷ frames_word (next ∷ frames)) (hex_numeral frame lt).0.0

-- what is known of the word of frames
pub record WritesFrames (frames : List ℕ) (word : List ℕ) : Type 0 where
  pub is_word : IsWord word
  pub fine : frames_fault word ≡ None
  pub says : frames_in word ≡ frames

pub writes-frames : (frame : ℕ) (frames : List ℕ) → length (frame ∷ frames) ≤ 64 → AreFrames (frame ∷ frames) → WritesFrames (frame ∷ frames) (frames_word (frame ∷ frames))
writes-frames frame frames le h =
    let back = frame_words_back frame frames h in
    let all : list_all is_frame (frame_words (frames_word (frame ∷ frames))) ≡ true = rw back (all_read (frame ∷ frames) h) in
    let few : nat_le (length (frame_words (frames_word (frame ∷ frames)))) 64 ≡ true = rw back (le-leb _ 64 (omega (arith, length_mapped (frame ∷ frames), le))) in
    record {
      is_word = record { some = frames_some frame frames h.0; glyphs = frames_glyphs (frame ∷ frames) h };
      fine = number-none _ _ all few;
      says = ap (map frame_in) back ∙ map_back (frame ∷ frames) h;
    }

-- ---- names

name_glyphs : (bytes : List ℕ) → list_all is_name_byte bytes ≡ true → AllByRecursion IsGlyph bytes
name_glyphs [] h = tt
name_glyphs (byte ∷ bytes) h =
    let parts = and_parts (is_name_byte byte) (list_all is_name_byte bytes) h in
    let range = name_byte byte parts.0 in
    (record { low = omega (arith, range.0); high = omega (arith, range.1) }, name_glyphs bytes parts.1)

pub word-name : (name : List ℕ) → is_cache_name name ≡ true → IsWord name
word-name name h =
    let is = named name h in
    record { some = some_letter name is.letter; glyphs = name_glyphs name is.bytes }

-- What every text gives is within the limits.
use Rattle.std.proofs.Common.{lit<, lit≤, ◌≡◌, ℕ, zero, suc, ◌*◌, ◌<◌, ◌≤◌, Bool, true, false, cond, eqb, leb, min, bit_and, bit_or, List, [], ◌∷◌, Option, Some, None, refl, arith, codes, fold}
use Rattle.std.specs.Str.{bytes_eq}
use Rattle.std.specs.Str.Parse.{digits_value}
use Rattle.std.proofs.lemmas.Bool.{leb-true}
use Rattle.std.proofs.lemmas.Nat.{or_lt}
use Rattle.umem_base.specs.Numbers.{is_decimal}
use Rattle.umem_options.specs.declared.options.Options.{Options}
use Rattle.umem_options.specs.declared.options.Logging.{Logging}
use Rattle.umem_options.specs.declared.item.DebugItem.{DebugItem}
use Rattle.umem_options.specs.declared.item.DebugItem.TheVariants as debug
use Rattle.umem_options.specs.declared.item.LoggingItem.{LoggingItem}
use Rattle.umem_options.specs.declared.item.LoggingItem.TheVariants as logging
use Rattle.umem_options.specs.declared.flags.TheConstants.DebugFlags.{AUDIT}
use Rattle.umem_options.specs.declared.limits.TheConstants.{DEFAULT_CONTENTS, DEFAULT_FRAMES, DEFAULT_LOG_BYTES, MOST_CONTENTS, MOST_FRAMES, MOST_LOG_BYTES}
use Rattle.umem_options.specs.Items.{items_of, setting_of}
use Rattle.umem_options.specs.Debug.{count_of, debug_name, debug_setting, debug_item_by, debug_item, no_options, audited, with_contents, guarded, debug_after, options_of}
use Rattle.umem_options.specs.Logging.{unit_at_end, before_unit, bytes_in, size_of, log_named, logging_item_by, logging_item, no_logging, logging_after, logging_of}
use Rattle.umem_options.specs.Flags.{bits_of, with_flag}
use Rattle.umem_options.specs.Limits.{IsOptions, IsLogging}

-- a choice has what both of its sides have
chosen : {A : Type 0} (P : A → Type 0) (b : Bool) (x y : A) → P x → P y → P (cond b x y)
chosen P true x y p q = p
chosen P false x y p q = q

-- a fold keeps what each of its steps keeps
kept : {A B : Type 0} (P : B → Type 0) (f : B → A → B) → ((b : B) (x : A) → P b → P (f b x)) → (b : B) (xs : List A) → P b → P (fold f b xs)
kept P f step b [] p = p
kept P f step b (x ∷ xs) p = kept P f step (f b x) xs (step b x p)

-- ---- debug

-- the flags are no others than the three, and audit comes only with guards
abbrev AreFlags : ℕ → Type 0
AreFlags n = (n < 8) × (eqb (bit_and n 1) 1 ≡ true → eqb (bit_and n 4) 4 ≡ true)

-- what holds of each number below eight
each_of_eight : (P : ℕ → Type 0) → P 0 → P 1 → P 2 → P 3 → P 4 → P 5 → P 6 → P 7 → (n : ℕ) → n < 8 → P n
each_of_eight P a b c d e f g h zero lt = a
each_of_eight P a b c d e f g h (suc zero) lt = b
each_of_eight P a b c d e f g h (suc (suc zero)) lt = c
each_of_eight P a b c d e f g h (suc (suc (suc zero))) lt = d
each_of_eight P a b c d e f g h (suc (suc (suc (suc zero)))) lt = e
each_of_eight P a b c d e f g h (suc (suc (suc (suc (suc zero))))) lt = f
each_of_eight P a b c d e f g h (suc (suc (suc (suc (suc (suc zero)))))) lt = g
each_of_eight P a b c d e f g h (suc (suc (suc (suc (suc (suc (suc zero))))))) lt = h
each_of_eight P a b c d e f g h (suc (suc (suc (suc (suc (suc (suc (suc n)))))))) lt = absurd (omega arith)

with_four : (n : ℕ) → n < 8 → eqb (bit_and (bit_or n 4) 4) 4 ≡ true
with_four = each_of_eight (λ n. eqb (bit_and (bit_or n 4) 4) 4 ≡ true) refl refl refl refl refl refl refl refl

with_two : (n : ℕ) → AreFlags n → AreFlags (bit_or n 2)
with_two n flags =
    let keeps : (m : ℕ) → m < 8 → (eqb (bit_and m 1) 1 ≡ true → eqb (bit_and m 4) 4 ≡ true) → eqb (bit_and (bit_or m 2) 1) 1 ≡ true → eqb (bit_and (bit_or m 2) 4) 4 ≡ true =
    each_of_eight (λ m. (eqb (bit_and m 1) 1 ≡ true → eqb (bit_and m 4) 4 ≡ true) → eqb (bit_and (bit_or m 2) 1) 1 ≡ true → eqb (bit_and (bit_or m 2) 4) 4 ≡ true)
    (λ k. k) (λ k. k) (λ k. k) (λ k. k) (λ k. k) (λ k. k) (λ k. k) (λ k. k) in
    (or_lt 3 n 2 flags.0 (lit< tt), keeps n flags.0 flags.1)

-- the counts of an item are within the limits
abbrev IsDebugItem : DebugItem → Type 0
IsDebugItem (debug.Audit frames) = frames ≤ MOST_FRAMES
IsDebugItem (debug.Contents count) = count ≤ MOST_CONTENTS
IsDebugItem debug.Guards = Unit {0}
IsDebugItem debug.Default = Unit {0}
IsDebugItem debug.Unknown = Unit {0}

count_of-le : (otherwise most : ℕ) (value : List ℕ) → otherwise ≤ most → count_of otherwise most value ≤ most
count_of-le otherwise most value le = chosen (λ n. n ≤ most) (is_decimal value) (min (digits_value 10 value) most) otherwise (omega arith) le

IsDebugItem-name : (name : List ℕ) → IsDebugItem (debug_name name)
IsDebugItem-name name =
    chosen IsDebugItem (bytes_eq name (codes "audit")) _ _ (lit≤ tt)
    (chosen IsDebugItem (bytes_eq name (codes "contents")) _ _ (lit≤ tt)
    (chosen IsDebugItem (bytes_eq name (codes "guards")) _ _ tt
    (chosen IsDebugItem (bytes_eq name (codes "default")) _ _ tt tt)))

IsDebugItem-setting : (name value : List ℕ) → IsDebugItem (debug_setting name value)
IsDebugItem-setting name value =
    chosen IsDebugItem (bytes_eq name (codes "audit")) _ _ (count_of-le DEFAULT_FRAMES MOST_FRAMES value (lit≤ tt))
    (chosen IsDebugItem (bytes_eq name (codes "contents")) _ _ (count_of-le DEFAULT_CONTENTS MOST_CONTENTS value (lit≤ tt)) tt)

IsDebugItem-by : (item : List ℕ) (setting : Option (List ℕ × List ℕ)) → IsDebugItem (debug_item_by item setting)
IsDebugItem-by item None = IsDebugItem-name item
IsDebugItem-by item (Some setting) = IsDebugItem-setting setting.0 setting.1

IsOptions-guarded : (o : Options) → bits_of o.flags < 8 → o.frames ≤ MOST_FRAMES → o.contents ≤ MOST_CONTENTS → IsOptions (guarded o)
IsOptions-guarded o flags frames contents =
    record { flags = or_lt 3 o.flags.0 4 flags (lit< tt); guarded = λ _. with_four o.flags.0 flags; frames = frames; contents = contents }

IsOptions-audited : (o : Options) (frames : ℕ) → frames ≤ MOST_FRAMES → IsOptions o → IsOptions (audited o frames)
IsOptions-audited o frames le h =
    IsOptions-guarded (record o { flags = with_flag o.flags AUDIT; frames = frames }) (or_lt 3 o.flags.0 1 h.flags (lit< tt)) le h.contents

IsOptions-with_contents : (o : Options) (count : ℕ) → count ≤ MOST_CONTENTS → IsOptions o → IsOptions (with_contents o count)
IsOptions-with_contents o count le h =
    let f = with_two o.flags.0 (h.flags, h.guarded) in
    record { flags = f.0; guarded = f.1; frames = h.frames; contents = le }

IsOptions-after : (o : Options) (item : DebugItem) → IsDebugItem item → IsOptions o → IsOptions (debug_after o item)
IsOptions-after o (debug.Audit frames) le h = IsOptions-audited o frames le h
IsOptions-after o (debug.Contents count) le h = IsOptions-with_contents o count le h
IsOptions-after o debug.Guards le h = IsOptions-guarded o h.flags h.frames h.contents
IsOptions-after o debug.Default le h =
    let p = IsOptions-with_contents (audited o DEFAULT_FRAMES) DEFAULT_CONTENTS (lit≤ tt) (IsOptions-audited o DEFAULT_FRAMES (lit≤ tt) h) in
    IsOptions-guarded (with_contents (audited o DEFAULT_FRAMES) DEFAULT_CONTENTS) p.flags p.frames p.contents
IsOptions-after o debug.Unknown le h = h

pub IsOptions-options_of : (text : List ℕ) → IsOptions (options_of text)
unfolding options_of
IsOptions-options_of text =
    kept IsOptions (λ o item. debug_after o (debug_item item))
    (λ o item h. IsOptions-after o (debug_item item) (IsDebugItem-by item (setting_of item)) h) no_options (items_of text)
    (record { flags = lit< tt; guarded = λ audit. absurd cc; frames = lit≤ tt; contents = lit≤ tt })

-- ---- logging

-- the size of an item is within the limit
abbrev IsLoggingItem : LoggingItem → Type 0
IsLoggingItem (logging.Transaction size) = size ≤ MOST_LOG_BYTES
IsLoggingItem (logging.Contents size) = size ≤ MOST_LOG_BYTES
IsLoggingItem (logging.Fail size) = size ≤ MOST_LOG_BYTES
IsLoggingItem logging.Unknown = Unit {0}

bytes_in-le : (count unit : ℕ) → bytes_in count unit ≤ MOST_LOG_BYTES
bytes_in-le count unit = le_if (count * unit) (leb (count * unit) MOST_LOG_BYTES) refl
  where
    le_if : (size : ℕ) (b : Bool) → leb size MOST_LOG_BYTES ≡ b → cond b size 0 ≤ MOST_LOG_BYTES
    le_if size true e = leb-true size MOST_LOG_BYTES e
    le_if size false e = lit≤ tt

size_of-le : (value : List ℕ) → size_of value ≤ MOST_LOG_BYTES
size_of-le value =
    chosen (λ n. n ≤ MOST_LOG_BYTES) (is_decimal (before_unit value)) (bytes_in (digits_value 10 (before_unit value)) (unit_at_end value)) 0
    (bytes_in-le (digits_value 10 (before_unit value)) (unit_at_end value)) (lit≤ tt)

IsLoggingItem-named : (name : List ℕ) (size : ℕ) → size ≤ MOST_LOG_BYTES → IsLoggingItem (log_named name size)
IsLoggingItem-named name size le =
    chosen IsLoggingItem (bytes_eq name (codes "transaction")) _ _ le
    (chosen IsLoggingItem (bytes_eq name (codes "contents")) _ _ le
    (chosen IsLoggingItem (bytes_eq name (codes "fail")) _ _ le tt))

IsLoggingItem-by : (item : List ℕ) (setting : Option (List ℕ × List ℕ)) → IsLoggingItem (logging_item_by item setting)
IsLoggingItem-by item None = IsLoggingItem-named item DEFAULT_LOG_BYTES (lit≤ tt)
IsLoggingItem-by item (Some setting) = IsLoggingItem-named setting.0 (size_of setting.1) (size_of-le setting.1)

IsLogging-after : (l : Logging) (item : LoggingItem) → IsLoggingItem item → IsLogging l → IsLogging (logging_after l item)
IsLogging-after l (logging.Transaction size) le h = record { transaction = le; contents = h.contents; fail = h.fail }
IsLogging-after l (logging.Contents size) le h = record { transaction = h.transaction; contents = le; fail = h.fail }
IsLogging-after l (logging.Fail size) le h = record { transaction = h.transaction; contents = h.contents; fail = le }
IsLogging-after l logging.Unknown le h = h

pub IsLogging-logging_of : (text : List ℕ) → IsLogging (logging_of text)
unfolding logging_of
IsLogging-logging_of text =
    kept IsLogging (λ l item. logging_after l (logging_item item))
    (λ l item h. IsLogging-after l (logging_item item) (IsLoggingItem-by item (setting_of item)) h) no_logging (items_of text)
    (record { transaction = lit≤ tt; contents = lit≤ tt; fail = lit≤ tt })

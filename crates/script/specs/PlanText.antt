-- The text of a plan: its lines, and the words of each.
use Rattle.std.specs.Prelude.{◌≡◌, ℕ, ◌+◌, ◌<◌, ◌≤◌, List, [], ◌∷◌, ◌++◌, length, map, take, Option, Some, None, codes, decimal}
use Rattle.std.specs.List.{AllByRecursion, flat_map, join_with_byte}
use Rattle.hex.specs.Hex.{encode_lower}
use Rattle.umem_base.specs.Numbers.{hexadecimal}
use Rattle.case_table.specs.declared.cache_def.CacheDef.{CacheDef}
use Rattle.case_table.specs.declared.limits.TheConstants.{CLASS_COUNT}
use Rattle.script.specs.declared.limits.TheConstants.{MOST_BYTES}
use Rattle.script.specs.declared.operation.Op.{Op}
use Rattle.script.specs.declared.operation.Op.TheVariants.{CacheAlloc, CacheFree}
use Rattle.script.specs.declared.operation.OpName.{OpName}
use Rattle.script.specs.declared.text_word.TextWord.{TextWord}
use Rattle.script.specs.declared.text_word.TextWord.TheVariants as text_words
use Rattle.script.specs.declared.tree.Header.{Header}
use Rattle.script.specs.declared.tree.Step.{Step}
use Rattle.script.specs.OpWords.{cache_word, op_word, op_words, slot_text}
use Rattle.script.specs.Plan.{Turn, Plan, turn_of}

-- ---- words

-- words with one space between two
abbrev pub spaced : List (List ℕ) → List ℕ
spaced words = join_with_byte 32 words

-- hexadecimal numbers with one comma between two
abbrev pub frames_word : List ℕ → List ℕ
frames_word frames = join_with_byte 44 (map hexadecimal frames)

-- the word that is written for a part of a line
abbrev pub word_text : TextWord → List ℕ
word_text (text_words.Bytes bytes) = bytes.now
word_text (text_words.Slot slot) = slot_text slot
word_text (text_words.Number number) = decimal number
word_text (text_words.Hex bytes) = encode_lower bytes.now
word_text (text_words.Frames frames) = frames_word frames.now

-- a text still begins with what it was
abbrev pub IsFront : List ℕ → List ℕ → Type 0
IsFront old new = take (length old) new ≡ old

-- the words of an operation on a slot and a declared cache
abbrev pub cached_words : List CacheDef → OpName → ℕ → ℕ → List (List ℕ)
cached_words caches name slot cache = op_word name ∷ slot_text slot ∷ cache_word caches cache ∷ []

-- ---- lines

-- the words of the header
abbrev pub header_words : Header → List (List ℕ)
header_words header =
    codes "umem" ∷ decimal header.version ∷ codes "cpus" ∷ decimal header.cpus
    ∷ codes "threads" ∷ decimal header.threads ∷ []

-- the word of a constructor byte, where there is one
abbrev pub constructor_words : Option ℕ → List (List ℕ)
constructor_words None = []
constructor_words (Some byte) = encode_lower (byte ∷ []) ∷ []

-- the words that declare a cache
abbrev pub cache_words : CacheDef → List (List ℕ)
cache_words def = codes "cache" ∷ def.name ∷ decimal def.size ∷ decimal def.align ∷ constructor_words def.ctor

-- the words behind the arguments of a call
abbrev pub stack_words : List ℕ → List (List ℕ)
stack_words [] = []
stack_words (frame ∷ frames) = codes "@" ∷ frames_word (frame ∷ frames) ∷ []

-- the words of a call of a thread
abbrev pub turn_words : List CacheDef → Turn → List (List ℕ)
turn_words caches turn = decimal turn.thread ∷ (op_words caches turn.call.op ++ stack_words turn.call.frames)

-- the lines of a phase
abbrev pub phase_lines : List CacheDef → List Turn → List (List (List ℕ))
phase_lines caches turns = (codes "phase" ∷ []) ∷ map (turn_words caches) turns

-- the lines of a plan
abbrev pub plan_lines : Plan → List (List (List ℕ))
plan_lines plan =
    header_words plan.header
    ∷ (map cache_words plan.header.caches ++ flat_map (phase_lines plan.header.caches) plan.phases)

-- a line of words, with its end
abbrev pub line_text : List (List ℕ) → List ℕ
line_text words = spaced words ++ 10 ∷ []

-- the text of a step
abbrev pub step_text : List CacheDef → Step → List ℕ
step_text caches step = line_text (turn_words caches (turn_of step))

-- the text of a phase
abbrev pub phase_text : List CacheDef → List Turn → List ℕ
phase_text caches turns = flat_map line_text (phase_lines caches turns)

-- the text of a plan
abbrev pub text_of : Plan → List ℕ
text_of plan = flat_map line_text (plan_lines plan)

-- the text is not too long for a script file
abbrev pub HasShortText : Plan → Type 0
HasShortText plan = length (text_of plan) ≤ MOST_BYTES

-- ---- what can be written

-- the cache of an operation is declared, where it has one
abbrev pub HasCache : List CacheDef → Op → Type 0
HasCache caches (CacheAlloc slot cache) = (CLASS_COUNT ≤ cache) × (cache < CLASS_COUNT + length caches)
HasCache caches (CacheFree slot cache) = (CLASS_COUNT ≤ cache) × (cache < CLASS_COUNT + length caches)
HasCache caches op = Unit {0}

-- the cache of each call is declared
abbrev pub HasCaches : List CacheDef → List Turn → Type 0
HasCaches caches turns = AllByRecursion (λ turn. HasCache caches turn.call.op) turns

-- each cache that the calls of a plan name is declared
abbrev pub HasAllCaches : Plan → Type 0
HasAllCaches plan = AllByRecursion (HasCaches plan.header.caches) plan.phases

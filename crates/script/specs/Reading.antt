-- What the parts of the reader give.
use Rattle.std.specs.Prelude.{◌≡◌, ℕ, List, [], ◌∷◌, ◌++◌, map, length, sum_by, codes, drop, unwrap_or, find, IfNone, true, false, Bool, ◌&&◌, ◌||◌, Option, Some, None, Result, Ok, Err, ⊤, nat_le, if◌then◌else◌}
use Rattle.std.specs.Global.{Vec}
use Rattle.std.specs.List.{list_all}
use Rattle.std.specs.Str.{bytes_eq}
use Rattle.std.specs.Borrow.{Bor}
use Rattle.umem_base.specs.BoundedVec.{BoundedVec}
use Rattle.umem_base.specs.Lines.{words_of}
use Rattle.script.specs.declared.fault.ScriptFault.{ScriptFault}
use Rattle.script.specs.declared.fault.ScriptFault.TheVariants as faults
use Rattle.script.specs.declared.line_fault.LineFault.{LineFault}
use Rattle.script.specs.declared.line_fault.LineFault.TheVariants.{NoMemory, Refused}
use Rattle.case_table.specs.declared.limits.TheConstants.{MOST_CACHE_BYTES}
use Rattle.case_table.specs.declared.cache_def.CacheDef.{CacheDef}
use Rattle.script.specs.declared.operation.Op.{Op}
use Rattle.script.specs.declared.operation.OpName.{OpName}
use Rattle.script.specs.declared.operation.OpName.TheVariants as names
use Rattle.script.specs.declared.reasons.Reason.{Reason}
use Rattle.script.specs.declared.reasons.Reason.TheVariants as reasons
use Rattle.script.specs.declared.tree.Header.{Header}
use Rattle.script.specs.declared.tree.Script.{Script}
use Rattle.script.specs.declared.tree.Step.{Step}
use Rattle.script.specs.Fields.{Kind, cache_fault, slot, cache, stored, fault_of, number_in, slot_in, cache_in, paired_bytes, thread_fault, decimal_fault, alignment_fault, constructor_fault, name_fault, frames_fault, frame_words, is_frame}
use Rattle.script.specs.Grammar.{Form, later_form, step_form, is_stack, is_constructor, are_cache_words, size, offset, constructor_in, nth_word, is_header, header_line, cache_line, phase_line, step_line, arguments, are_arguments, call_fields, fields_of, has_count, stack_in, call_of, form_of, no_plan, lacks_header, is_no_line, is_misplaced, is_too_many, cache_of, turn_in, plan_in, rank_of}
use Rattle.script.specs.Lines.{is_line_byte}
use Rattle.script.specs.OpWords.{op_word}
use Rattle.script.specs.Plan.{Call, Turn, Plan, plan_of, turn_of, turns_of}

-- the answer for words with this reason, or else this value; want of memory is free
abbrev pub Gives : {X Y : Type 0} → (X → Y) → Result X LineFault → Option Reason → Y → Type 0
Gives view (Ok x) fault value = (fault ≡ None) × (view x ≡ value)
Gives view (Err (Refused reason)) fault value = fault ≡ Some reason
Gives view (Err NoMemory) fault value = ⊤

-- of two reasons the one that stands first in the table
abbrev pub lesser : Reason → Reason → Reason
lesser a b = if nat_le (rank_of a) (rank_of b) then a else b

-- want of memory, or else the lesser of two reasons
abbrev pub first_fault : LineFault → LineFault → LineFault
first_fault NoMemory b = NoMemory
first_fault (Refused a) NoMemory = NoMemory
first_fault (Refused a) (Refused b) = Refused (lesser a b)

-- each of two values by its own view
abbrev pub beside : {X Y V W : Type 0} → (X → V) → (Y → W) → X × Y → V × W
beside v w p = (v p.0, w p.1)

-- the value as it is
abbrev pub itself : {X : Type 0} → X → X
itself x = x

-- the frames of a stack
abbrev pub frames_of : BoundedVec ℕ → List ℕ
frames_of stack = stack.items

-- two values, or the first fault
abbrev pub both : {X Y : Type 0} → Result X LineFault → Result Y LineFault → Result (X × Y) LineFault
both (Ok x) (Ok y) = Ok (x, y)
both (Ok x) (Err e) = Err e
both (Err e) (Ok y) = Err e
both (Err e) (Err f) = Err (first_fault e f)

-- the lesser of the reasons that there are
abbrev pub least : Option Reason → Option Reason → Option Reason
least None b = b
least (Some a) None = Some a
least (Some a) (Some b) = Some (lesser a b)

-- a call behind those of the last phase
abbrev pub onto_last : Turn → List (List Turn) → List (List Turn)
onto_last turn [] = []
onto_last turn (phase ∷ []) = (phase ++ turn ∷ []) ∷ []
onto_last turn (phase ∷ next ∷ phases) = phase ∷ onto_last turn (next ∷ phases)

-- the phases that ended, and the one that has begun
abbrev pub phases_in : List (BoundedVec Step) → Option (Vec Step) → List (List Turn)
phases_in ended None = map turns_of ended
phases_in ended (Some steps) = map turns_of ended ++ map turn_of steps.items ∷ []

-- the calls of the phases are counted, and none has ended before one has begun
pub record ArePhases (ended : List (BoundedVec Step)) (begun : Option (Vec Step)) (calls : ℕ) : Type 0 where
  pub counted : calls ≡ sum_by length (phases_in ended begun)
  pub first : IfNone begun (ended ≡ [])

-- the first of two reasons that there is
abbrev pub or_else : Option Reason → Option Reason → Option Reason
or_else None b = b
or_else (Some a) b = Some a

-- the least reason for which one of the words is refused
abbrev pub least_of : Header → List (Kind × List ℕ) → Option Reason
least_of header [] = None
least_of header (field ∷ fields) = least (fault_of header field.0 field.1) (least_of header fields)

-- the reason for which the word of a stack is refused
abbrev pub stack_fault : List (List ℕ) → Option Reason
stack_fault [] = None
stack_fault (sign ∷ words) = frames_fault (nth_word words 0)

-- the reason of the words behind an operation
abbrev pub call_fault : Header → List Kind → List (List ℕ) → Option Reason
call_fault header kinds words =
    if are_arguments (length kinds) words then least_of header (call_fields kinds words) else Some reasons.Count

-- the reason of a line at a wrong place, or one too many
abbrev pub standing_fault : Plan → Form → Option Reason
standing_fault plan form =
    if is_misplaced plan form then Some reasons.Order
    else if is_too_many plan form then Some reasons.Limit
    else None

-- the reason of a line of such a form, if it holds no byte that no line may hold
abbrev pub form_fault : Plan → Form → List (List ℕ) → Option Reason
form_fault plan form words =
    if lacks_header form words then Some reasons.Header
    else if is_no_line form then Some reasons.Word
    else if has_count plan.header.version form words
    then or_else (least_of plan.header (fields_of form words)) (standing_fault plan form)
    else Some reasons.Count

-- a call as the reader holds it, without the room of its stack
abbrev pub held_call : Op × BoundedVec ℕ → Call
held_call p = record { op = p.0; frames = p.1.items }

-- the words of a stack of which the frames' word is this
abbrev pub told_stack : Option (Bor (List ℕ)) → List (List ℕ)
told_stack None = []
told_stack (Some word) = codes "@" ∷ word.now ∷ []

-- a plan with one cache more
abbrev pub with_cache : Plan → CacheDef → Plan
with_cache plan def = record {
  header = record plan.header { caches = plan.header.caches ++ def ∷ [] };
  phases = plan.phases;
}

-- a plan with a phase more
abbrev pub with_phase : Plan → Plan
with_phase plan = record { header = plan.header; phases = plan.phases ++ [] ∷ [] }

-- a plan with a call more
abbrev pub with_turn : Plan → Turn → Plan
with_turn plan turn = record { header = plan.header; phases = onto_last turn plan.phases }

-- what lines say with one more of such a form
abbrev pub with_line : Option Plan → Form → List (List ℕ) → Option Plan
with_line said header_line words = Some (plan_in words [])
with_line (Some plan) cache_line words = Some (with_cache plan (cache_of words))
with_line (Some plan) phase_line words = Some (with_phase plan)
with_line (Some plan) (step_line op) words = Some (with_turn plan (turn_in plan.header.caches words))
with_line said form words = said

-- the arguments of operations, with the frames of the stack behind them
abbrev pub sized_in : List (List ℕ) → ℕ × (ℕ × List ℕ)
sized_in words = (slot_in (nth_word words 0), (number_in (nth_word words 1), stack_in (drop 2 words)))

-- a slot and a declared cache
abbrev pub cached_in : List CacheDef → List (List ℕ) → ℕ × (ℕ × List ℕ)
cached_in caches words = (slot_in (nth_word words 0), (cache_in caches (nth_word words 1), stack_in (drop 2 words)))

-- two slots
abbrev pub slots_in : List (List ℕ) → ℕ × (ℕ × List ℕ)
slots_in words = (slot_in (nth_word words 0), (slot_in (nth_word words 1), stack_in (drop 2 words)))

-- one slot
abbrev pub lone_slot_in : List (List ℕ) → ℕ × List ℕ
lone_slot_in words = (slot_in (nth_word words 0), stack_in (drop 1 words))

-- the bytes that are written, and the frames behind them
abbrev pub stored_behind : List (List ℕ) → List ℕ × List ℕ
stored_behind words = (paired_bytes (nth_word words 0), stack_in (drop 1 words))

-- a slot, an offset and the bytes that are written there
abbrev pub stored_in : List (List ℕ) → ℕ × (ℕ × (List ℕ × List ℕ))
stored_in words =
    (slot_in (nth_word words 0), (number_in (nth_word words 1), stored_behind (drop 2 words)))

-- a slot, an offset and the slot of the word that is written there
abbrev pub linked_in : List (List ℕ) → ℕ × (ℕ × (ℕ × List ℕ))
linked_in words =
    (slot_in (nth_word words 0), (number_in (nth_word words 1), (slot_in (nth_word words 2), stack_in (drop 3 words))))

-- two slots and an offset
abbrev pub loaded_in : List (List ℕ) → ℕ × (ℕ × (ℕ × List ℕ))
loaded_in words =
    (slot_in (nth_word words 0), (slot_in (nth_word words 1), (number_in (nth_word words 2), stack_in (drop 3 words))))

-- the reason of a step's words behind the name of its operation
abbrev pub turn_fault : Header → OpName → List ℕ → List (List ℕ) → Option Reason
turn_fault header op thread words = least (thread_fault header.threads thread) (call_fault header (arguments op) words)

-- the call that a thread makes
abbrev pub turn_by : List CacheDef → OpName → List ℕ → List (List ℕ) → Turn
turn_by caches op thread words = record { thread = number_in thread; call = call_of caches op words }

-- the word of a constructor, where there is one
abbrev pub option_words : Option (Bor (List ℕ)) → List (List ℕ)
option_words None = []
option_words (Some word) = word.now ∷ []

-- the reason for which a stack with too many frames is refused, of which these words are not read yet
abbrev pub too_many_fault : List ℕ → Reason
too_many_fault word = if list_all is_frame (frame_words word) then reasons.Range else reasons.Number

-- the byte of a constructor, where there is one
abbrev pub option_fault : List (List ℕ) → Option Reason
option_fault [] = None
option_fault (word ∷ words) = constructor_fault word

-- what the words of a cache say
abbrev pub def_in : List ℕ → List ℕ → List ℕ → List (List ℕ) → List ℕ × (ℕ × (ℕ × Option ℕ))
def_in name bytes align words = (name, (number_in bytes, (number_in align, constructor_in words)))

-- the reason of the words of a cache
abbrev pub def_fault : Header → List ℕ → List ℕ → List ℕ → List (List ℕ) → Option Reason
def_fault header name bytes align words =
    least (name_fault header.caches name)
    (least (decimal_fault 1 MOST_CACHE_BYTES bytes) (least (alignment_fault align) (option_fault words)))

-- the reason of a line behind lines that say this, or nothing yet
abbrev pub line_fault : Option Plan → List ℕ → Option Reason
line_fault said line =
    if list_all is_line_byte line
    then form_fault (unwrap_or said no_plan) (form_of said (words_of line)) (words_of line)
    else Some reasons.Text

-- what lines say with one more
abbrev pub with_next : Option Plan → List ℕ → Option Plan
with_next said line = with_line said (form_of said (words_of line)) (words_of line)

-- the operation that is called so, if it neither allocates nor frees
abbrev pub other_op_named : List ℕ → Option OpName
other_op_named word =
    find (λ name. bytes_eq word (op_word name))
    (names.Copy ∷ names.Clear ∷ names.Store ∷ names.Link ∷ names.Load ∷ names.Reap ∷ [])

-- the words are a header's, of this version with these words of the CPUs and the threads
pub record IsHeaderOf (told : ℕ) (cpu_word thread_word : List ℕ) (words : List (List ℕ)) : Type 0 where
  pub fixed : is_header words ≡ true
  pub version : told ≡ number_in (nth_word words 1)
  pub cpus : nth_word words 3 ≡ cpu_word
  pub threads : nth_word words 5 ≡ thread_word

-- a fault with the number of its line
abbrev pub at_line : ℕ → LineFault → ScriptFault
at_line line NoMemory = faults.NoMemory
at_line line (Refused reason) = faults.Bad line reason

-- the script of a plan; want of memory is free
abbrev pub IsScriptOf : Result Script ScriptFault → Plan → Type 0
IsScriptOf (Ok script) plan = plan_of script ≡ plan
IsScriptOf (Err (faults.Bad line reason)) plan = ⊥
IsScriptOf (Err faults.NoMemory) plan = ⊤

-- ---- answers

-- words that are no stack, or the word of the frames
abbrev pub SplitsStack : Option (Option (Bor (List ℕ))) → List (List ℕ) → Type 0
SplitsStack None words = is_stack words ≡ false
SplitsStack (Some frames) words = words ≡ told_stack frames

-- words that are not one argument, or it and the word of the frames
abbrev pub SplitsOne : Option (Bor (List ℕ) × Option (Bor (List ℕ))) → List (List ℕ) → Type 0
SplitsOne None words = are_arguments 1 words ≡ false
SplitsOne (Some a) words = words ≡ a.0.now ∷ told_stack a.1

-- the same for two arguments
abbrev pub SplitsTwo : Option (Bor (List ℕ) × Bor (List ℕ) × Option (Bor (List ℕ))) → List (List ℕ) → Type 0
SplitsTwo None words = are_arguments 2 words ≡ false
SplitsTwo (Some a) words = words ≡ a.0.now ∷ a.1.now ∷ told_stack a.2

-- the same for three arguments
abbrev pub SplitsThree : Option (Bor (List ℕ) × Bor (List ℕ) × Bor (List ℕ) × Option (Bor (List ℕ)))
    → List (List ℕ) → Type 0
SplitsThree None words = are_arguments 3 words ≡ false
SplitsThree (Some a) words = words ≡ a.0.now ∷ a.1.now ∷ a.2.now ∷ told_stack a.3

-- words that are no constructor's, or its word where there is one
abbrev pub SplitsConstructor : Option (Option (Bor (List ℕ))) → ℕ → List (List ℕ) → Type 0
SplitsConstructor None version words = is_constructor version words ≡ false
SplitsConstructor (Some word) version words =
    (words ≡ option_words word) × (is_constructor version (option_words word) ≡ true)

-- words that declare no cache, or those of a cache
abbrev pub SplitsCache : Option (Bor (List ℕ) × Bor (List ℕ) × Bor (List ℕ) × Option (Bor (List ℕ))) → ℕ
    → List (List ℕ) → Type 0
SplitsCache None version words = are_cache_words version words ≡ false
SplitsCache (Some a) version words =
    (words ≡ a.0.now ∷ a.1.now ∷ a.2.now ∷ option_words a.3) × (is_constructor version (option_words a.3) ≡ true)

-- words that are no header's, or what stands in a header
abbrev pub SplitsHeader : Option (ℕ × Bor (List ℕ) × Bor (List ℕ)) → List (List ℕ) → Type 0
SplitsHeader None words = is_header words ≡ false
SplitsHeader (Some h) words = IsHeaderOf h.0 h.1.now h.2.now words

-- the words of a header that stand in their places in either version
abbrev pub are_fixed : List ℕ → List ℕ → List ℕ → Bool
are_fixed umem cpus threads =
    bytes_eq umem (codes "umem") && (bytes_eq cpus (codes "cpus") && bytes_eq threads (codes "threads"))

-- the word of a version
abbrev pub is_version : List ℕ → Bool
is_version word = bytes_eq word (codes "1") || bytes_eq word (codes "2")

-- a word that is no version, or its number
abbrev pub ReadsVersion : Option ℕ → List ℕ → Type 0
ReadsVersion None word = is_version word ≡ false
ReadsVersion (Some version) word = (is_version word ≡ true) × (version ≡ number_in word)

-- the answer for the name of a declared cache
abbrev pub GivesCache : Result ℕ LineFault → List CacheDef → List ℕ → Type 0
GivesCache result caches name = Gives itself result (cache_fault caches name) (cache_in caches name)

-- the answer for a slot and a size
abbrev pub GivesSized : Result (ℕ × (ℕ × BoundedVec ℕ)) LineFault → Header → List (List ℕ) → Type 0
GivesSized result header words =
    Gives (beside itself (beside itself frames_of)) result (call_fault header (slot ∷ size ∷ []) words) (sized_in words)

-- the answer for a slot and a declared cache
abbrev pub GivesCached : Result (ℕ × (ℕ × BoundedVec ℕ)) LineFault → Header → List (List ℕ) → Type 0
GivesCached result header words =
    Gives (beside itself (beside itself frames_of)) result (call_fault header (slot ∷ cache ∷ []) words)
    (cached_in header.caches words)

-- the answer for two slots
abbrev pub GivesSlots : Result (ℕ × (ℕ × BoundedVec ℕ)) LineFault → Header → List (List ℕ) → Type 0
GivesSlots result header words =
    Gives (beside itself (beside itself frames_of)) result (call_fault header (slot ∷ slot ∷ []) words) (slots_in words)

-- the answer for one slot
abbrev pub GivesLoneSlot : Result (ℕ × BoundedVec ℕ) LineFault → Header → List (List ℕ) → Type 0
GivesLoneSlot result header words =
    Gives (beside itself frames_of) result (call_fault header (slot ∷ []) words) (lone_slot_in words)

-- the answer for a slot, an offset and bytes
abbrev pub GivesStored : Result (ℕ × (ℕ × (List ℕ × BoundedVec ℕ))) LineFault → Header → List (List ℕ) → Type 0
GivesStored result header words =
    Gives (beside itself (beside itself (beside itself frames_of))) result
    (call_fault header (slot ∷ offset ∷ stored ∷ []) words) (stored_in words)

-- the answer for a slot, an offset and a slot
abbrev pub GivesLinked : Result (ℕ × (ℕ × (ℕ × BoundedVec ℕ))) LineFault → Header → List (List ℕ) → Type 0
GivesLinked result header words =
    Gives (beside itself (beside itself (beside itself frames_of))) result
    (call_fault header (slot ∷ offset ∷ slot ∷ []) words) (linked_in words)

-- the answer for two slots and an offset
abbrev pub GivesLoaded : Result (ℕ × (ℕ × (ℕ × BoundedVec ℕ))) LineFault → Header → List (List ℕ) → Type 0
GivesLoaded result header words =
    Gives (beside itself (beside itself (beside itself frames_of))) result
    (call_fault header (slot ∷ slot ∷ offset ∷ []) words) (loaded_in words)

-- the answer for the stack of an operation without arguments
abbrev pub GivesStack : Result (BoundedVec ℕ) LineFault → Header → List (List ℕ) → Type 0
GivesStack result header words = Gives frames_of result (call_fault header [] words) (stack_in words)

-- the answer for what stands behind an operation
abbrev pub GivesCall : Result (Op × BoundedVec ℕ) LineFault → Header → OpName → List (List ℕ) → Type 0
GivesCall result header op words =
    Gives held_call result (call_fault header (arguments op) words) (call_of header.caches op words)

-- the answer for a step
abbrev pub GivesTurn : Result Step LineFault → Header → OpName → List ℕ → List (List ℕ) → Type 0
GivesTurn result header op thread words =
    Gives turn_of result (turn_fault header op thread words) (turn_by header.caches op thread words)

-- the answer for a cache
abbrev pub GivesDef : Result CacheDef LineFault → Header → List ℕ → List ℕ → List ℕ → List (List ℕ) → Type 0
GivesDef result header name bytes align words =
    Gives itself result (def_fault header name bytes align words) (cache_of ([] ∷ name ∷ bytes ∷ align ∷ words))

-- the answer for the words of a cache
abbrev pub GivesDefWords : Result (List ℕ × (ℕ × (ℕ × Option ℕ))) LineFault → Header → List ℕ → List ℕ → List ℕ
    → List (List ℕ) → Type 0
GivesDefWords result header name bytes align words =
    Gives (beside itself (beside itself (beside itself itself))) result (def_fault header name bytes align words)
    (def_in name bytes align words)

-- the answer for the first line that is not skipped
abbrev pub GivesHeader : Result Plan LineFault → List (List ℕ) → Type 0
GivesHeader result words = Gives itself result (form_fault no_plan header_line words) (plan_in words [])

-- the answer for a line of such a form behind the header
abbrev pub TakesForm : Result (Unit {0}) LineFault → Plan → Plan → Form → List (List ℕ) → Type 0
TakesForm result old new form words =
    Gives (λ _. Some new) result (form_fault old form words) (with_line (Some old) form words)

-- the answer for a line behind the header, by its first word and the others
abbrev pub TakesLater : Result (Unit {0}) LineFault → Plan → Plan → List ℕ → List (List ℕ) → Type 0
TakesLater result old new first rest = TakesForm result old new (later_form first rest) (first ∷ rest)

-- the answer for a step's line, by the thread's word and the others
abbrev pub TakesStep : Result (Unit {0}) LineFault → Plan → Plan → List ℕ → List (List ℕ) → Type 0
TakesStep result old new thread rest = TakesForm result old new (step_form rest) (thread ∷ rest)

-- the answer for the words behind the first one of a cache's line
abbrev pub TakesCache : Result (Unit {0}) LineFault → Plan → Plan → List (List ℕ) → Type 0
TakesCache result old new words =
    Gives (λ _. new) result (form_fault old cache_line ([] ∷ words)) (with_cache old (cache_of ([] ∷ words)))

-- the answer for the words behind the first one of a phase's line
abbrev pub TakesPhase : Result (Unit {0}) LineFault → Plan → Plan → List (List ℕ) → Type 0
TakesPhase result old new words = Gives (λ _. new) result (form_fault old phase_line ([] ∷ words)) (with_phase old)

-- the answer for a call of a thread
abbrev pub TakesCall : Result (Unit {0}) LineFault → Plan → Plan → OpName → List ℕ → List (List ℕ) → Type 0
TakesCall result old new op thread words =
    Gives (λ _. new) result (or_else (turn_fault old.header op thread words) (standing_fault old (step_line op)))
    (with_turn old (turn_by old.header.caches op thread words))

-- the answer for a line
abbrev pub TakesLine : Result (Unit {0}) LineFault → Option Plan → Option Plan → List ℕ → Type 0
TakesLine result old new line = Gives (λ _. new) result (line_fault old line) (with_next old line)

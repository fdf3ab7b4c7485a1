-- Which bytes are a script, and of other bytes the first bad line and its reason.
use Rattle.std.specs.Prelude.{◌≡◌, ℕ, zero, suc, ◌+◌, Bool, true, false, not, ◌&&◌, ◌||◌, ◌==◌, nat_le, nat_lt, if◌then◌else◌, List, [], ◌∷◌, ◌++◌, length, map, drop, filter, find, codes, Option, Some, None, unwrap_or, Result, Ok, Err, ⊤, slice_index_or}
use Rattle.std.specs.List.{list_all, list_any, zip}
use Rattle.std.specs.Option.{option_map_or, ok_or}
use Rattle.std.specs.Str.{bytes_eq}
use Rattle.umem_base.specs.Numbers.{is_decimal}
use Rattle.umem_base.specs.Lines.{lines_of, words_of}
use Rattle.case_table.specs.declared.cache_def.CacheDef.{CacheDef}
use Rattle.case_table.specs.declared.limits.TheConstants.{MOST_CACHE_BYTES, MOST_CPUS, MOST_DECLARED, MOST_THREADS}
use Rattle.script.specs.declared.fault.ScriptFault.{ScriptFault}
use Rattle.script.specs.declared.fault.ScriptFault.TheVariants.{Bad, NoMemory}
use Rattle.script.specs.declared.limits.TheConstants.{MOST_BYTES, MOST_OFFSET, MOST_PHASES}
use Rattle.script.specs.declared.operation.Op.{Op}
use Rattle.script.specs.declared.operation.Op.TheVariants as ops
use Rattle.script.specs.declared.operation.OpName.{OpName}
use Rattle.script.specs.declared.operation.OpName.TheVariants.{Alloc, Zalloc, Free, CacheAlloc, CacheFree, Copy, Clear, Store, Link, Load, Reap}
use Rattle.script.specs.declared.reasons.Reason.{Reason}
use Rattle.script.specs.declared.reasons.Reason.TheVariants as reasons
use Rattle.script.specs.declared.tree.Header.{Header}
use Rattle.script.specs.declared.tree.Script.{Script}
use Rattle.script.specs.Fields.{Kind, thread, slot, cache, decimal_in, alignment, stored, constructor_byte, frames, new_name, number_in, slot_in, cache_in, paired_bytes, paired_byte, frames_in, fault_of}
use Rattle.script.specs.Limits.{most_calls}
use Rattle.script.specs.Lines.{is_line_byte, is_comment, kept_lines}
use Rattle.script.specs.OpWords.{op_named}
use Rattle.script.specs.Plan.{Call, Turn, Plan, plan_of, call_count}

-- ---- the forms of lines

abbrev pub size : Kind
size = decimal_in 0 4294967295

abbrev pub offset : Kind
offset = decimal_in 0 MOST_OFFSET

-- what has to stand behind an operation
abbrev pub arguments : OpName → List Kind
arguments Alloc = slot ∷ size ∷ []
arguments Zalloc = slot ∷ size ∷ []
arguments Free = slot ∷ size ∷ []
arguments CacheAlloc = slot ∷ cache ∷ []
arguments CacheFree = slot ∷ cache ∷ []
arguments Copy = slot ∷ slot ∷ []
arguments Clear = slot ∷ []
arguments Store = slot ∷ offset ∷ stored ∷ []
arguments Link = slot ∷ offset ∷ slot ∷ []
arguments Load = slot ∷ slot ∷ offset ∷ []
arguments Reap = []

-- what a line has to be
pub data Form : Type 0 where
  skipped : Form
  header_line : Form
  second_header : Form
  cache_line : Form
  phase_line : Form
  step_line : OpName → Form
  no_line : Form

-- behind the number of a thread an operation has to stand
abbrev pub step_form : List (List ℕ) → Form
step_form [] = no_line
step_form (name ∷ words) = option_map_or step_line (op_named name) no_line

-- behind the header the first word of a line tells what it is
abbrev pub later_form : List ℕ → List (List ℕ) → Form
later_form first rest =
    if bytes_eq first (codes "umem") then second_header
    else if bytes_eq first (codes "cache") then cache_line
    else if bytes_eq first (codes "phase") then phase_line
    else if is_decimal first then step_form rest
    else no_line

-- the first line that is not skipped has to be the header
abbrev pub kept_form : Option Plan → List ℕ → List (List ℕ) → Form
kept_form None first rest = header_line
kept_form (Some plan) first rest = later_form first rest

-- what a line of these words has to be behind lines that say this, or nothing yet
abbrev pub form_of : Option Plan → List (List ℕ) → Form
form_of said [] = skipped
form_of said (first ∷ rest) = if is_comment first then skipped else kept_form said first rest

abbrev pub nth_word : List (List ℕ) → ℕ → List ℕ
nth_word words place = slice_index_or words place []

-- six words, of which four stand in their places
abbrev pub is_header : List (List ℕ) → Bool
is_header (umem ∷ version ∷ cpus ∷ c ∷ threads ∷ t ∷ []) =
    bytes_eq umem (codes "umem") && (bytes_eq version (codes "1") || bytes_eq version (codes "2"))
    && bytes_eq cpus (codes "cpus") && bytes_eq threads (codes "threads")
is_header words = false

-- nothing, or an at sign and one word
abbrev pub is_stack : List (List ℕ) → Bool
is_stack [] = true
is_stack (sign ∷ []) = false
is_stack (sign ∷ word ∷ []) = bytes_eq sign (codes "@")
is_stack (sign ∷ word ∷ more ∷ words) = false

-- so many words, and no more but a stack
abbrev pub are_arguments : ℕ → List (List ℕ) → Bool
are_arguments zero words = is_stack words
are_arguments (suc count) [] = false
are_arguments (suc count) (word ∷ words) = are_arguments count words

-- nothing, or in version 2 one word
abbrev pub is_constructor : ℕ → List (List ℕ) → Bool
is_constructor version [] = true
is_constructor version (word ∷ []) = version == 2
is_constructor version (word ∷ more ∷ words) = false

-- three words, and no more but that of a constructor
abbrev pub are_cache_words : ℕ → List (List ℕ) → Bool
are_cache_words version [] = false
are_cache_words version (name ∷ []) = false
are_cache_words version (name ∷ bytes ∷ []) = false
are_cache_words version (name ∷ bytes ∷ align ∷ words) = is_constructor version words

abbrev pub is_end : List (List ℕ) → Bool
is_end [] = true
is_end (word ∷ words) = false

-- the number of words fits what the line has to be
abbrev pub has_count : ℕ → Form → List (List ℕ) → Bool
has_count version cache_line words = are_cache_words version (drop 1 words)
has_count version phase_line words = is_end (drop 1 words)
has_count version (step_line op) words = are_arguments (length (arguments op)) (drop 2 words)
has_count version form words = true

-- the word of a stack
abbrev pub stack_field : List (List ℕ) → List (Kind × List ℕ)
stack_field [] = []
stack_field (sign ∷ words) = (frames, nth_word words 0) ∷ []

-- the words behind an operation, with what they have to be
abbrev pub call_fields : List Kind → List (List ℕ) → List (Kind × List ℕ)
call_fields [] words = stack_field words
call_fields (kind ∷ kinds) [] = []
call_fields (kind ∷ kinds) (word ∷ words) = (kind, word) ∷ call_fields kinds words

-- the words of a line, with what they have to be
abbrev pub fields_of : Form → List (List ℕ) → List (Kind × List ℕ)
fields_of header_line words =
    (decimal_in 1 MOST_CPUS, nth_word words 3) ∷ (decimal_in 1 MOST_THREADS, nth_word words 5) ∷ []
fields_of cache_line words =
    zip (new_name ∷ decimal_in 1 MOST_CACHE_BYTES ∷ alignment ∷ constructor_byte ∷ []) (drop 1 words)
fields_of (step_line op) words = (thread, nth_word words 0) ∷ call_fields (arguments op) (drop 2 words)
fields_of form words = []

-- ---- what lines say

-- the constructor byte, where there is one
abbrev pub constructor_in : List (List ℕ) → Option ℕ
constructor_in [] = None
constructor_in (word ∷ words) = Some (paired_byte word)

abbrev pub cache_of : List (List ℕ) → CacheDef
cache_of words = record {
  name = nth_word words 1;
  size = number_in (nth_word words 2);
  align = number_in (nth_word words 3);
  ctor = constructor_in (drop 4 words);
}

-- an operation on these arguments
abbrev pub op_in : List CacheDef → OpName → List (List ℕ) → Op
op_in caches Alloc words = ops.Alloc (slot_in (nth_word words 0)) (number_in (nth_word words 1))
op_in caches Zalloc words = ops.Zalloc (slot_in (nth_word words 0)) (number_in (nth_word words 1))
op_in caches Free words = ops.Free (slot_in (nth_word words 0)) (number_in (nth_word words 1))
op_in caches CacheAlloc words = ops.CacheAlloc (slot_in (nth_word words 0)) (cache_in caches (nth_word words 1))
op_in caches CacheFree words = ops.CacheFree (slot_in (nth_word words 0)) (cache_in caches (nth_word words 1))
op_in caches Copy words = ops.Copy (slot_in (nth_word words 0)) (slot_in (nth_word words 1))
op_in caches Clear words = ops.Clear (slot_in (nth_word words 0))
op_in caches Store words =
    ops.Store (slot_in (nth_word words 0)) (number_in (nth_word words 1)) (paired_bytes (nth_word words 2))
op_in caches Link words =
    ops.Link (slot_in (nth_word words 0)) (number_in (nth_word words 1)) (slot_in (nth_word words 2))
op_in caches Load words =
    ops.Load (slot_in (nth_word words 0)) (slot_in (nth_word words 1)) (number_in (nth_word words 2))
op_in caches Reap words = ops.Reap

-- the frames behind the arguments
abbrev pub stack_in : List (List ℕ) → List ℕ
stack_in [] = []
stack_in (sign ∷ words) = frames_in (nth_word words 0)

-- the call of an operation
abbrev pub call_of : List CacheDef → OpName → List (List ℕ) → Call
call_of caches op words = record { op = op_in caches op words; frames = stack_in (drop (length (arguments op)) words) }

-- the call of a step's line
abbrev pub turn_in : List CacheDef → List (List ℕ) → Turn
turn_in caches words = record {
  thread = number_in (nth_word words 0);
  call = call_of caches (unwrap_or (op_named (nth_word words 1)) Reap) (drop 2 words);
}

abbrev pub is_cache_line : List (List ℕ) → Bool
is_cache_line words = bytes_eq (nth_word words 0) (codes "cache")

abbrev pub is_phase_line : List (List ℕ) → Bool
is_phase_line words = bytes_eq (nth_word words 0) (codes "phase")

-- the caches that lines declare
abbrev pub declared_in : List (List (List ℕ)) → List CacheDef
declared_in lines = map cache_of (filter is_cache_line lines)

-- a call before those of the first phase
abbrev pub onto_phase : Turn → List (List Turn) → List (List Turn)
onto_phase turn [] = (turn ∷ []) ∷ []
onto_phase turn (phase ∷ phases) = (turn ∷ phase) ∷ phases

-- the calls before, between and behind the phase lines
abbrev pub cut_phases : List CacheDef → List (List (List ℕ)) → List (List Turn)
cut_phases caches [] = [] ∷ []
cut_phases caches (words ∷ lines) =
    if is_cache_line words then cut_phases caches lines
    else if is_phase_line words then [] ∷ cut_phases caches lines
    else onto_phase (turn_in caches words) (cut_phases caches lines)

-- what a header and the lines behind it say
abbrev pub plan_in : List (List ℕ) → List (List (List ℕ)) → Plan
plan_in header lines = record {
  header = record {
    version = number_in (nth_word header 1);
    cpus = number_in (nth_word header 3);
    threads = number_in (nth_word header 5);
    caches = declared_in lines;
  };
  phases = drop 1 (cut_phases (declared_in lines) lines);
}

-- what lines say of which none is skipped, from the header on
abbrev pub said_in : List (List (List ℕ)) → Option Plan
said_in [] = None
said_in (header ∷ lines) = Some (plan_in header lines)

-- what lines say, if a header is among them
abbrev pub said_by : List (List ℕ) → Option Plan
said_by lines = said_in (kept_lines lines)

-- ---- the reasons

-- the place of a reason in the table
abbrev pub rank_of : Reason → ℕ
rank_of reasons.Text = 0
rank_of reasons.Header = 1
rank_of reasons.Word = 2
rank_of reasons.Count = 3
rank_of reasons.Thread = 4
rank_of reasons.Slot = 5
rank_of reasons.Unknown = 6
rank_of reasons.Number = 7
rank_of reasons.Range = 8
rank_of reasons.Name = 9
rank_of reasons.Order = 10
rank_of reasons.Limit = 11

-- the table
abbrev pub all_reasons : List Reason
all_reasons =
    reasons.Text ∷ reasons.Header ∷ reasons.Word ∷ reasons.Count ∷ reasons.Thread ∷ reasons.Slot
    ∷ reasons.Unknown ∷ reasons.Number ∷ reasons.Range ∷ reasons.Name ∷ reasons.Order ∷ reasons.Limit ∷ []

-- a word is refused for the reason
abbrev pub is_refused_for : Reason → Option Reason → Bool
is_refused_for reason None = false
is_refused_for reason (Some other) = rank_of other == rank_of reason

-- one of the fields is refused for the reason
abbrev pub has_fault : Reason → Header → List (Kind × List ℕ) → Bool
has_fault reason header fields = list_any (λ field. is_refused_for reason (fault_of header field.0 field.1)) fields

abbrev pub lacks_header : Form → List (List ℕ) → Bool
lacks_header header_line words = not (is_header words)
lacks_header form words = false

abbrev pub is_no_line : Form → Bool
is_no_line no_line = true
is_no_line form = false

-- a cache behind a phase line, a step before the first one, or a second header
abbrev pub is_misplaced : Plan → Form → Bool
is_misplaced plan cache_line = nat_lt 0 (length plan.phases)
is_misplaced plan (step_line op) = length plan.phases == 0
is_misplaced plan second_header = true
is_misplaced plan form = false

-- a cache, a phase or a call behind as many as there may be
abbrev pub is_too_many : Plan → Form → Bool
is_too_many plan cache_line = nat_le MOST_DECLARED (length plan.header.caches)
is_too_many plan phase_line = nat_le MOST_PHASES (length plan.phases)
is_too_many plan (step_line op) = nat_le (most_calls plan.header.version) (call_count plan)
is_too_many plan form = false

-- the reason applies to a line that has to be of the form, behind lines that say this plan
abbrev pub applies : Plan → Form → List ℕ → Reason → Bool
applies plan form line reasons.Text = not (list_all is_line_byte line)
applies plan form line reasons.Header = lacks_header form (words_of line)
applies plan form line reasons.Word = is_no_line form
applies plan form line reasons.Count = not (has_count plan.header.version form (words_of line))
applies plan form line reasons.Thread = has_fault reasons.Thread plan.header (fields_of form (words_of line))
applies plan form line reasons.Slot = has_fault reasons.Slot plan.header (fields_of form (words_of line))
applies plan form line reasons.Unknown = has_fault reasons.Unknown plan.header (fields_of form (words_of line))
applies plan form line reasons.Number = has_fault reasons.Number plan.header (fields_of form (words_of line))
applies plan form line reasons.Range = has_fault reasons.Range plan.header (fields_of form (words_of line))
applies plan form line reasons.Name = has_fault reasons.Name plan.header (fields_of form (words_of line))
applies plan form line reasons.Order = is_misplaced plan form
applies plan form line reasons.Limit = is_too_many plan form

abbrev pub no_plan : Plan
no_plan = record { header = record { version = 0; cpus = 0; threads = 0; caches = [] }; phases = [] }

-- the first reason of the table that applies to a line behind lines that say this, or nothing yet
unfoldable pub reason_behind : Option Plan → List ℕ → Option Reason
reason_behind said line = find (applies (unwrap_or said no_plan) (form_of said (words_of line)) line) all_reasons

-- the first reason of the table that applies to a line behind these lines
abbrev pub reason_of : List (List ℕ) → List ℕ → Option Reason
reason_of before line = reason_behind (said_by before) line

-- ---- scripts

-- the line of that number, where it is bad, and else the first bad one of those behind it
abbrev pub or_later : ℕ → Option Reason → Option (ℕ × Reason) → Option (ℕ × Reason)
or_later number None later = later
or_later number (Some reason) later = Some (number, reason)

-- the first bad line of those behind some lines
abbrev pub first_bad : List (List ℕ) → List (List ℕ) → Option (ℕ × Reason)
first_bad before [] = None
first_bad before (line ∷ lines) =
    or_later (length before + 1) (reason_of before line) (first_bad (before ++ line ∷ []) lines)

-- the first bad line, or the plan that the lines say, or at the line behind the last that there is no header
abbrev pub plan_unless : Option (ℕ × Reason) → Option Plan → ℕ → Result Plan (ℕ × Reason)
plan_unless (Some bad) said number = Err bad
plan_unless None said number = ok_or said (number, reasons.Header)

-- what lines are: a plan, or a bad line
abbrev pub script_in : List (List ℕ) → Result Plan (ℕ × Reason)
script_in lines = plan_unless (first_bad [] lines) (said_by lines) (length lines + 1)

-- what bytes are: a plan, or a bad line and its reason
abbrev pub script_of : List ℕ → Result Plan (ℕ × Reason)
script_of bytes = if nat_lt MOST_BYTES (length bytes) then Err (0, reasons.Limit) else script_in (lines_of bytes)

-- an answer for bytes that are this; want of memory is free
abbrev pub Reads : Result Script ScriptFault → Result Plan (ℕ × Reason) → Type 0
Reads (Ok script) said = said ≡ Ok (plan_of script)
Reads (Err (Bad line reason)) said = said ≡ Err (line, reason)
Reads (Err NoMemory) said = ⊤

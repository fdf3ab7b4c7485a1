-- The table of reasons, and the least reason for which a word is refused.
use Rattle.std.proofs.Common.{◌≡◌, ℕ, Bool, true, false, cond, List, [], ◌∷◌, Option, Some, None, refl, ap, ◌∙◌}
use Rattle.std.specs.Prelude.{not, ◌||◌, is_ok, unwrap_or}
use Rattle.std.specs.List.{list_all}
use Rattle.hex.specs.Hex.{decode_sized}
use Rattle.umem_base.specs.Lines.{words_of}
use Rattle.script.specs.declared.reasons.Reason.{Reason}
use Rattle.script.specs.declared.reasons.Reason.TheVariants as reasons
use Rattle.script.specs.declared.tree.Header.{Header}
use Rattle.script.specs.Fields.{Kind, thread, slot, cache, decimal_in, alignment, stored, constructor_byte, frames, new_name, fault_of, number_fault, unless_holds}
use Rattle.script.specs.Grammar.{fields_of, form_of, has_count, has_fault, is_no_line, is_refused_for, lacks_header, no_plan, reason_behind}
use Rattle.script.specs.Lines.{is_line_byte}
use Rattle.script.specs.Plan.{Plan}
use Rattle.script.specs.Reading.{least, least_of, line_fault, or_else, standing_fault}

-- the rows of the table that speak of words
abbrev pub rows : Bool → Bool → Bool → Bool → Bool → Bool → Option Reason → Option Reason
rows t s u n g m rest =
    cond t (Some reasons.Thread) (cond s (Some reasons.Slot) (cond u (Some reasons.Unknown) (cond n (Some reasons.Number) (cond g (Some reasons.Range) (cond m (Some reasons.Name) rest)))))

rows-rest : (t s u n g m : Bool) (rest : Option Reason) → rows t s u n g m rest ≡ or_else (rows t s u n g m None) rest
rows-rest true s u n g m rest = refl
rows-rest false true u n g m rest = refl
rows-rest false false true n g m rest = refl
rows-rest false false false true g m rest = refl
rows-rest false false false false true m rest = refl
rows-rest false false false false false true rest = refl
rows-rest false false false false false false rest = refl

-- a reason that speaks of a word
abbrev IsWordReason : Option Reason → Type 0
IsWordReason None = Unit {0}
IsWordReason (Some reasons.Text) = ⊥
IsWordReason (Some reasons.Header) = ⊥
IsWordReason (Some reasons.Word) = ⊥
IsWordReason (Some reasons.Count) = ⊥
IsWordReason (Some reasons.Thread) = Unit {0}
IsWordReason (Some reasons.Slot) = Unit {0}
IsWordReason (Some reasons.Unknown) = Unit {0}
IsWordReason (Some reasons.Number) = Unit {0}
IsWordReason (Some reasons.Range) = Unit {0}
IsWordReason (Some reasons.Name) = Unit {0}
IsWordReason (Some reasons.Order) = ⊥
IsWordReason (Some reasons.Limit) = ⊥

unless_holds-word : (holds : Bool) (reason : Reason) → IsWordReason (Some reason) → IsWordReason (unless_holds holds reason)
unless_holds-word true reason h = tt
unless_holds-word false reason h = h

number_fault-word : (has_digits fits : Bool) → IsWordReason (number_fault has_digits fits)
number_fault-word true true = tt
number_fault-word true false = tt
number_fault-word false fits = tt

fault_of-word : (header : Header) (kind : Kind) (word : List ℕ) → IsWordReason (fault_of header kind word)
fault_of-word header thread word = unless_holds-word _ reasons.Thread tt
fault_of-word header slot word = unless_holds-word _ reasons.Slot tt
fault_of-word header cache word = unless_holds-word _ reasons.Unknown tt
fault_of-word header (decimal_in low high) word = number_fault-word _ _
fault_of-word header alignment word = number_fault-word _ _
fault_of-word header stored word = number_fault-word _ _
fault_of-word header constructor_byte word = number_fault-word (is_ok (decode_sized word 1)) true
fault_of-word header frames word = number_fault-word _ _
fault_of-word header new_name word = unless_holds-word _ reasons.Name tt

-- one word more
rows-more : (o : Option Reason) → IsWordReason o → (t s u n g m : Bool) → rows (is_refused_for reasons.Thread o || t) (is_refused_for reasons.Slot o || s) (is_refused_for reasons.Unknown o || u) (is_refused_for reasons.Number o || n) (is_refused_for reasons.Range o || g) (is_refused_for reasons.Name o || m) None ≡ least o (rows t s u n g m None)
rows-more None h t s u n g m = refl
rows-more (Some reasons.Thread) h true s u n g m = refl
rows-more (Some reasons.Thread) h false true u n g m = refl
rows-more (Some reasons.Thread) h false false true n g m = refl
rows-more (Some reasons.Thread) h false false false true g m = refl
rows-more (Some reasons.Thread) h false false false false true m = refl
rows-more (Some reasons.Thread) h false false false false false true = refl
rows-more (Some reasons.Thread) h false false false false false false = refl
rows-more (Some reasons.Slot) h true s u n g m = refl
rows-more (Some reasons.Slot) h false true u n g m = refl
rows-more (Some reasons.Slot) h false false true n g m = refl
rows-more (Some reasons.Slot) h false false false true g m = refl
rows-more (Some reasons.Slot) h false false false false true m = refl
rows-more (Some reasons.Slot) h false false false false false true = refl
rows-more (Some reasons.Slot) h false false false false false false = refl
rows-more (Some reasons.Unknown) h true s u n g m = refl
rows-more (Some reasons.Unknown) h false true u n g m = refl
rows-more (Some reasons.Unknown) h false false true n g m = refl
rows-more (Some reasons.Unknown) h false false false true g m = refl
rows-more (Some reasons.Unknown) h false false false false true m = refl
rows-more (Some reasons.Unknown) h false false false false false true = refl
rows-more (Some reasons.Unknown) h false false false false false false = refl
rows-more (Some reasons.Number) h true s u n g m = refl
rows-more (Some reasons.Number) h false true u n g m = refl
rows-more (Some reasons.Number) h false false true n g m = refl
rows-more (Some reasons.Number) h false false false true g m = refl
rows-more (Some reasons.Number) h false false false false true m = refl
rows-more (Some reasons.Number) h false false false false false true = refl
rows-more (Some reasons.Number) h false false false false false false = refl
rows-more (Some reasons.Range) h true s u n g m = refl
rows-more (Some reasons.Range) h false true u n g m = refl
rows-more (Some reasons.Range) h false false true n g m = refl
rows-more (Some reasons.Range) h false false false true g m = refl
rows-more (Some reasons.Range) h false false false false true m = refl
rows-more (Some reasons.Range) h false false false false false true = refl
rows-more (Some reasons.Range) h false false false false false false = refl
rows-more (Some reasons.Name) h true s u n g m = refl
rows-more (Some reasons.Name) h false true u n g m = refl
rows-more (Some reasons.Name) h false false true n g m = refl
rows-more (Some reasons.Name) h false false false true g m = refl
rows-more (Some reasons.Name) h false false false false true m = refl
rows-more (Some reasons.Name) h false false false false false true = refl
rows-more (Some reasons.Name) h false false false false false false = refl
rows-more (Some reasons.Text) h t s u n g m = absurd h
rows-more (Some reasons.Header) h t s u n g m = absurd h
rows-more (Some reasons.Word) h t s u n g m = absurd h
rows-more (Some reasons.Count) h t s u n g m = absurd h
rows-more (Some reasons.Order) h t s u n g m = absurd h
rows-more (Some reasons.Limit) h t s u n g m = absurd h

-- the first row that hits is the least reason
rows-least : (header : Header) (fields : List (Kind × List ℕ)) → rows (has_fault reasons.Thread header fields) (has_fault reasons.Slot header fields) (has_fault reasons.Unknown header fields) (has_fault reasons.Number header fields) (has_fault reasons.Range header fields) (has_fault reasons.Name header fields) None ≡ least_of header fields
rows-least header [] = refl
rows-least header (field ∷ fields) =
    rows-more (fault_of header field.0 field.1) (fault_of-word header field.0 field.1) (has_fault reasons.Thread header fields) (has_fault reasons.Slot header fields) (has_fault reasons.Unknown header fields) (has_fault reasons.Number header fields) (has_fault reasons.Range header fields) (has_fault reasons.Name header fields)
    ∙ ap (λ (o : Option Reason). least (fault_of header field.0 field.1) o) (rows-least header fields)

-- the rows before and behind
ladder : (text lacks none count : Bool) (inner outer : Option Reason) → inner ≡ outer
    → cond (not text) (Some reasons.Text) (cond lacks (Some reasons.Header) (cond none (Some reasons.Word) (cond (not count) (Some reasons.Count) inner)))
    ≡ cond text (cond lacks (Some reasons.Header) (cond none (Some reasons.Word) (cond count outer (Some reasons.Count)))) (Some reasons.Text)
ladder false lacks none count inner outer e = refl
ladder true true none count inner outer e = refl
ladder true false true count inner outer e = refl
ladder true false false false inner outer e = refl
ladder true false false true inner outer e = e

-- the first reason of the table, by the form of the line
pub reason_behind-line_fault : (said : Option Plan) (line : List ℕ) → reason_behind said line ≡ line_fault said line
unfolding reason_behind
reason_behind-line_fault said line =
    let plan = unwrap_or said no_plan in
    let form = form_of said (words_of line) in
    let fields = fields_of form (words_of line) in
    let inner = rows-rest (has_fault reasons.Thread plan.header fields) (has_fault reasons.Slot plan.header fields) (has_fault reasons.Unknown plan.header fields) (has_fault reasons.Number plan.header fields) (has_fault reasons.Range plan.header fields) (has_fault reasons.Name plan.header fields) (standing_fault plan form) ∙ ap (λ (o : Option Reason). or_else o (standing_fault plan form)) (rows-least plan.header fields) in
    ladder (list_all is_line_byte line) (lacks_header form (words_of line)) (is_no_line form) (has_count plan.header.version form (words_of line)) _ _ inner

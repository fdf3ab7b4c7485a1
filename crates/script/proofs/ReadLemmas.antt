-- The lines that were read, and those that are left.
use Rattle.std.proofs.Common.{◌≡◌, ℕ, zero, suc, ◌+◌, ◌<◌, ◌≤◌, add-one, List, [], ◌∷◌, ◌++◌, length, take, drop, Option, Some, None, Result, Ok, Err, refl, sym, ap, subst, ◌∙◌, arith, length-append}
use Rattle.std.specs.Option.{ok_or}
use Rattle.std.proofs.lemmas.Bool.{le-ltb}
use Rattle.umem_base.specs.Lines.{lines_of}
use Rattle.script.specs.declared.fault.ScriptFault.{ScriptFault}
use Rattle.script.specs.declared.fault.ScriptFault.TheVariants as faults
use Rattle.script.specs.declared.limits.TheConstants.{MOST_BYTES}
use Rattle.script.specs.declared.line_fault.LineFault.{LineFault}
use Rattle.script.specs.declared.line_fault.LineFault.TheVariants.{NoMemory, Refused}
use Rattle.script.specs.declared.tree.Script.{Script}
use Rattle.script.specs.declared.reasons.Reason.{Reason}
use Rattle.script.specs.declared.reasons.Reason.TheVariants.{Header}
use Rattle.script.specs.Grammar.{Reads, script_of, first_bad, or_later, plan_unless, said_by, script_in}
use Rattle.script.specs.Plan.{Plan}
use Rattle.script.specs.Reading.{Gives, IsScriptOf, at_line, line_fault, with_next}
use Rattle.script.proofs.ReasonLemmas.{reason_behind-line_fault}
use Rattle.script.proofs.SaidLemmas.{said_by-next}

-- so many lines were read, of which none is bad, and they say this
pub record IsRead (bytes rest : List ℕ) (said : Option Plan) (number : ℕ) : Type 0 where
  pub behind : lines_of rest ≡ drop number (lines_of bytes)
  pub good : first_bad [] (lines_of bytes) ≡ first_bad (take number (lines_of bytes)) (drop number (lines_of bytes))
  pub told : said ≡ said_by (take number (lines_of bytes))
  pub counted : length (take number (lines_of bytes)) ≡ number
  pub short : number + length rest ≤ length bytes

pub IsRead-none : (bytes : List ℕ) → IsRead bytes bytes None 0
IsRead-none bytes = record { behind = refl; good = refl; told = refl; counted = refl; short = omega arith }

-- one line more
drop-cons-next : (xs : List (List ℕ)) (n : ℕ) (y : List ℕ) (ys : List (List ℕ)) → y ∷ ys ≡ drop n xs → (take (suc n) xs ≡ take n xs ++ y ∷ []) × (drop (suc n) xs ≡ ys)
drop-cons-next [] zero y ys h = absurd (cc h)
drop-cons-next [] (suc n) y ys h = absurd (cc h)
drop-cons-next (x ∷ xs) zero y ys h =
    let first : y ≡ x = cc in
    let others : ys ≡ xs = cc in
    (ap (λ z. z ∷ []) (sym first), sym others)
drop-cons-next (x ∷ xs) (suc n) y ys h =
    let parts = drop-cons-next xs n y ys h in
    (ap (λ (zs : List (List ℕ)). x ∷ zs) parts.0, parts.1)

take-drop-nil : (xs : List (List ℕ)) (n : ℕ) → [] ≡ drop n xs → take n xs ≡ xs
take-drop-nil [] zero h = refl
take-drop-nil [] (suc n) h = refl
take-drop-nil (x ∷ xs) zero h = absurd (cc h)
take-drop-nil (x ∷ xs) (suc n) h = ap (λ (zs : List (List ℕ)). x ∷ zs) (take-drop-nil xs n h)

-- the first bad line is this one or one of those behind it
first_bad-next : (before : List (List ℕ)) (line : List ℕ) (lines : List (List ℕ)) (o : Option Reason) → line_fault (said_by before) line ≡ o
    → first_bad before (line ∷ lines) ≡ or_later (length before + 1) o (first_bad (before ++ line ∷ []) lines)
first_bad-next before line lines o h = ap (λ (r : Option Reason). or_later (length before + 1) r (first_bad (before ++ line ∷ []) lines)) (reason_behind-line_fault (said_by before) line ∙ h)

pub IsRead-next : (bytes rest behind line : List ℕ) (said new : Option Plan) (number : ℕ) → IsRead bytes rest said number → lines_of rest ≡ line ∷ lines_of behind → length behind < length rest
    → line_fault said line ≡ None → new ≡ with_next said line → IsRead bytes behind new (number + 1)
IsRead-next bytes rest behind line said new number read splits shorter good next =
    let lines = lines_of bytes in
    let parts = drop-cons-next lines number line (lines_of behind) (sym splits ∙ read.behind) in
    let fine : line_fault (said_by (take number lines)) line ≡ None = subst (λ (s : Option Plan). line_fault s line ≡ None) read.told good in
    let here : drop number lines ≡ line ∷ lines_of behind = sym read.behind ∙ splits in
    let told : said_by (take (suc number) lines) ≡ with_next (said_by (take number lines)) line = ap said_by parts.0 ∙ said_by-next (take number lines) line fine in
    rw add-one (record {
      behind = sym parts.1;
      good = read.good ∙ ap (first_bad (take number lines)) here ∙ first_bad-next (take number lines) line (lines_of behind) None fine
          ∙ ap (λ (before : List (List ℕ)). first_bad before (lines_of behind)) (sym parts.0) ∙ ap (first_bad (take (suc number) lines)) (sym parts.1);
      told = next ∙ ap (λ (s : Option Plan). with_next s line) read.told ∙ sym told;
      counted = omega (arith, ap length parts.0, length-append (take number lines) (line ∷ []), read.counted);
      short = omega (arith, read.short, shorter);
    })

-- a line that is refused
pub IsRead-bad : (bytes rest behind line : List ℕ) (said : Option Plan) (number : ℕ) (reason : Reason) → IsRead bytes rest said number → lines_of rest ≡ line ∷ lines_of behind
    → line_fault said line ≡ Some reason → script_in (lines_of bytes) ≡ Err (number + 1, reason)
IsRead-bad bytes rest behind line said number reason read splits refused =
    let lines = lines_of bytes in
    let bad : line_fault (said_by (take number lines)) line ≡ Some reason = subst (λ (s : Option Plan). line_fault s line ≡ Some reason) read.told refused in
    let here : drop number lines ≡ line ∷ lines_of behind = sym read.behind ∙ splits in
    let first : first_bad [] lines ≡ Some (length (take number lines) + 1, reason) = read.good ∙ ap (first_bad (take number lines)) here ∙ first_bad-next (take number lines) line (lines_of behind) (Some reason) bad in
    ap (λ (o : Option (ℕ × Reason)). plan_unless o (said_by lines) (length lines + 1)) first ∙ ap (λ n. Err (n + 1, reason)) read.counted

-- no line is left
pub IsRead-all : (bytes rest : List ℕ) (said : Option Plan) (number : ℕ) → IsRead bytes rest said number → length rest ≡ 0 → script_in (lines_of bytes) ≡ ok_or said (number + 1, Header)
IsRead-all bytes (byte ∷ rest) said number read ended = absurd (omega arith)
IsRead-all bytes [] said number read ended =
    let lines = lines_of bytes in
    let all = take-drop-nil lines number read.behind in
    let none : first_bad [] lines ≡ None = read.good ∙ ap (first_bad (take number lines)) (sym read.behind) in
    let count : length lines ≡ number = ap length (sym all) ∙ read.counted in
    let told : said_by lines ≡ said = ap said_by (sym all) ∙ sym read.told in
    ap (λ (o : Option (ℕ × Reason)). plan_unless o (said_by lines) (length lines + 1)) none ∙ ap (λ (s : Option Plan). ok_or s (length lines + 1, Header)) told ∙ ap (λ n. ok_or said (n + 1, Header)) count

-- bytes within the limit are what their lines are
pub script_of-within : (bytes : List ℕ) → length bytes ≤ MOST_BYTES → script_of bytes ≡ script_in (lines_of bytes)
script_of-within bytes within = rw (le-ltb MOST_BYTES (length bytes) within) refl

-- the answer at a line that is refused
pub Reads-bad : {X V : Type 0} (v : X → V) (fault : LineFault) (o : Option Reason) (next : V) (number : ℕ) (result : ScriptFault) (said : Result Plan (ℕ × Reason)) → Gives {X = X} v (Err fault) o next → result ≡ at_line number fault
    → ((reason : Reason) → o ≡ Some reason → said ≡ Err (number, reason)) → Reads (Err result) said
Reads-bad v NoMemory o next number result said h is_result bad = rw is_result tt
Reads-bad v (Refused reason) o next number result said h is_result bad = rw is_result (bad reason h)

-- the answer behind the last line
pub Reads-script : (result : Result Script ScriptFault) (plan : Plan) (said : Result Plan (ℕ × Reason)) → IsScriptOf result plan → said ≡ Ok plan → Reads result said
Reads-script (Ok script) plan said h is_said = is_said ∙ ap (λ (p : Plan). Ok p) (sym h)
Reads-script (Err (faults.Bad line reason)) plan said h is_said = absurd h
Reads-script (Err faults.NoMemory) plan said h is_said = tt

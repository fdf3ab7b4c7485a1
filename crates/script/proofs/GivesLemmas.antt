-- Several words that are read one beside another.
use Rattle.std.proofs.Common.{◌≡◌, ℕ, Bool, true, false, cond, List, [], ◌∷◌, length, Option, Some, None, Result, Ok, Err, refl, sym, ap, ◌∙◌}
use Rattle.script.specs.declared.line_fault.LineFault.{LineFault}
use Rattle.script.specs.declared.line_fault.LineFault.TheVariants.{NoMemory, Refused}
use Rattle.script.specs.declared.reasons.Reason.{Reason}
use Rattle.script.specs.declared.tree.Header.{Header}
use Rattle.std.specs.Borrow.{Bor}
use Rattle.umem_base.specs.BoundedVec.{BoundedVec}
use Rattle.std.specs.Prelude.{not, ◌&&◌, nat_lt, is_some, unwrap_or}
use Rattle.std.specs.Option.{option_map_or}
use Rattle.case_table.specs.CacheName.{is_cache_name, is_reserved_name}
use Rattle.script.specs.declared.operation.OpName.{OpName}
use Rattle.script.specs.declared.operation.OpName.TheVariants.{Reap}
use Rattle.script.specs.declared.reasons.Reason.TheVariants as reasons
use Rattle.script.specs.OpWords.{op_named}
use Rattle.script.specs.Plan.{Plan}
use Rattle.script.specs.Fields.{Kind, declared_number, fault_of, frames_fault, number_in, unless_holds}
use Rattle.script.specs.Grammar.{arguments, are_arguments, call_fields, call_of, is_stack, no_line, stack_field, step_form, step_line}
use Rattle.script.specs.Reading.{Gives, beside, both, call_fault, def_fault, form_fault, frames_of, itself, least, least_of, or_else, stack_fault, told_stack, standing_fault, turn_by, turn_fault, with_line, with_turn}

-- both values, or the lesser reason
pub Gives-both : {X Y V W : Type 0} (v : X → V) (w : Y → W) (a : Result X LineFault) (b : Result Y LineFault) (f g : Option Reason) (x : V) (y : W) → Gives v a f x → Gives w b g y
    → Gives (beside v w) (both a b) (least f g) (x, y)
Gives-both v w (Ok a) (Ok b) f g x y h k = rw (h.0, k.0, h.1, k.1) (refl, refl)
Gives-both v w (Ok a) (Err (Refused r)) f g x y h k = rw (h.0, k) refl
Gives-both v w (Ok a) (Err NoMemory) f g x y h k = tt
Gives-both v w (Err (Refused r)) (Ok b) f g x y h k = rw (h, k.0) refl
Gives-both v w (Err NoMemory) (Ok b) f g x y h k = tt
Gives-both v w (Err (Refused r)) (Err (Refused s)) f g x y h k = rw (h, k) refl
Gives-both v w (Err (Refused r)) (Err NoMemory) f g x y h k = tt
Gives-both v w (Err NoMemory) (Err e) f g x y h k = tt

pub least-none : (a : Option Reason) → least a None ≡ a
least-none None = refl
least-none (Some a) = refl

-- what a stack's words are is a stack
told_stack-is_stack : (frames : Option (Bor (List ℕ))) → is_stack (told_stack frames) ≡ true
told_stack-is_stack None = refl
told_stack-is_stack (Some word) = refl

-- the reason of a stack's words
told_stack-least_of : (header : Header) (frames : Option (Bor (List ℕ))) → least_of header (stack_field (told_stack frames)) ≡ stack_fault (told_stack frames)
told_stack-least_of header None = refl
told_stack-least_of header (Some word) = least-none (frames_fault word.now)

call_fault-one : (header : Header) (k : Kind) (a : List ℕ) (frames : Option (Bor (List ℕ))) → call_fault header (k ∷ []) (a ∷ told_stack frames) ≡ least (fault_of header k a) (stack_fault (told_stack frames))
call_fault-one header k a frames = rw (told_stack-is_stack frames, told_stack-least_of header frames) refl

call_fault-two : (header : Header) (k l : Kind) (a b : List ℕ) (frames : Option (Bor (List ℕ)))
    → call_fault header (k ∷ l ∷ []) (a ∷ b ∷ told_stack frames) ≡ least (fault_of header k a) (least (fault_of header l b) (stack_fault (told_stack frames)))
call_fault-two header k l a b frames = rw (told_stack-is_stack frames, told_stack-least_of header frames) refl

call_fault-three : (header : Header) (k l m : Kind) (a b d : List ℕ) (frames : Option (Bor (List ℕ)))
    → call_fault header (k ∷ l ∷ m ∷ []) (a ∷ b ∷ d ∷ told_stack frames) ≡ least (fault_of header k a) (least (fault_of header l b) (least (fault_of header m d) (stack_fault (told_stack frames))))
call_fault-three header k l m a b d frames = rw (told_stack-is_stack frames, told_stack-least_of header frames) refl

-- one argument and the stack
pub Gives-one : {X V : Type 0} (v : X → V) (header : Header) (k : Kind) (a : List ℕ) (frames : Option (Bor (List ℕ))) (first : Result X LineFault) (stack : Result (BoundedVec ℕ) LineFault) (result : Result (X × BoundedVec ℕ) LineFault) (x : V) (z : List ℕ)
    → Gives v first (fault_of header k a) x → Gives frames_of stack (stack_fault (told_stack frames)) z → result ≡ both first stack
    → Gives (beside v frames_of) result (call_fault header (k ∷ []) (a ∷ told_stack frames)) (x, z)
Gives-one v header k a frames first stack result x z h i outer =
    rw (outer, call_fault-one header k a frames) (Gives-both v frames_of first stack _ _ x z h i)

-- two arguments and the stack
pub Gives-two : {X Y V W : Type 0} (v : X → V) (w : Y → W) (header : Header) (k l : Kind) (a b : List ℕ) (frames : Option (Bor (List ℕ))) (first : Result X LineFault) (second : Result Y LineFault) (stack : Result (BoundedVec ℕ) LineFault)
    (behind : Result (Y × BoundedVec ℕ) LineFault) (result : Result (X × (Y × BoundedVec ℕ)) LineFault) (x : V) (y : W) (z : List ℕ)
    → Gives v first (fault_of header k a) x → Gives w second (fault_of header l b) y → Gives frames_of stack (stack_fault (told_stack frames)) z → behind ≡ both second stack → result ≡ both first behind
    → Gives (beside v (beside w frames_of)) result (call_fault header (k ∷ l ∷ []) (a ∷ b ∷ told_stack frames)) (x, (y, z))
Gives-two v w header k l a b frames first second stack behind result x y z h i j inner outer =
    rw (outer, inner, call_fault-two header k l a b frames) (Gives-both v (beside w frames_of) first (both second stack) _ _ x (y, z) h (Gives-both w frames_of second stack _ _ y z i j))

-- three arguments and the stack
pub Gives-three : {X Y Z V W U : Type 0} (v : X → V) (w : Y → W) (u : Z → U) (header : Header) (k l m : Kind) (a b d : List ℕ) (frames : Option (Bor (List ℕ))) (first : Result X LineFault) (second : Result Y LineFault) (third : Result Z LineFault)
    (stack : Result (BoundedVec ℕ) LineFault) (last : Result (Z × BoundedVec ℕ) LineFault) (behind : Result (Y × (Z × BoundedVec ℕ)) LineFault) (result : Result (X × (Y × (Z × BoundedVec ℕ))) LineFault) (x : V) (y : W) (t : U) (z : List ℕ)
    → Gives v first (fault_of header k a) x → Gives w second (fault_of header l b) y → Gives u third (fault_of header m d) t → Gives frames_of stack (stack_fault (told_stack frames)) z
    → last ≡ both third stack → behind ≡ both second last → result ≡ both first behind
    → Gives (beside v (beside w (beside u frames_of))) result (call_fault header (k ∷ l ∷ m ∷ []) (a ∷ b ∷ d ∷ told_stack frames)) (x, (y, (t, z)))
Gives-three v w u header k l m a b d frames first second third stack last behind result x y t z h i j s innermost inner outer =
    rw (outer, inner, innermost, call_fault-three header k l m a b d frames)
    (Gives-both v (beside w (beside u frames_of)) first (both second (both third stack)) _ _ x (y, (t, z)) h
    (Gives-both w (beside u frames_of) second (both third stack) _ _ y (t, z) i (Gives-both u frames_of third stack _ _ t z j s)))

-- the words of a step, of which too few or too many come before the thread
form_fault-step : (plan : Plan) (op : OpName) (thread name : List ℕ) (words rest : List (List ℕ)) → rest ≡ name ∷ words → op_named name ≡ Some op
    → form_fault plan (step_form rest) (thread ∷ rest) ≡ or_else (turn_fault plan.header op thread words) (standing_fault plan (step_line op))
form_fault-step plan op thread name words rest is_rest named =
    ap (λ (r : List (List ℕ)). form_fault plan (step_form r) (thread ∷ r)) is_rest ∙ ap (λ (o : Option OpName). form_fault plan (option_map_or step_line o no_line) (thread ∷ name ∷ words)) named
    ∙ go (are_arguments (length (arguments op)) words) (nat_lt (number_in thread) plan.header.threads) (least_of plan.header (call_fields (arguments op) words)) (standing_fault plan (step_line op))
  where
    go : (count below : Bool) (fields standing : Option Reason) → cond count (or_else (least (unless_holds below reasons.Thread) fields) standing) (Some reasons.Count)
        ≡ or_else (least (unless_holds below reasons.Thread) (cond count fields (Some reasons.Count))) standing
    go true below fields standing = refl
    go false true fields standing = refl
    go false false fields standing = refl

-- the call of a step
with_line-step : (plan : Plan) (op : OpName) (thread name : List ℕ) (words rest : List (List ℕ)) → rest ≡ name ∷ words → op_named name ≡ Some op
    → with_line (Some plan) (step_form rest) (thread ∷ rest) ≡ Some (with_turn plan (turn_by plan.header.caches op thread words))
with_line-step plan op thread name words rest is_rest named =
    ap (λ (r : List (List ℕ)). with_line (Some plan) (step_form r) (thread ∷ r)) is_rest ∙ ap (λ (o : Option OpName). with_line (Some plan) (option_map_or step_line o no_line) (thread ∷ name ∷ words)) named
    ∙ ap (λ (o : Option OpName). Some (with_turn plan (record { thread = number_in thread; call = call_of plan.header.caches (unwrap_or o Reap) words }))) named

-- a step of a named operation
pub Gives-step : (plan new : Plan) (result : Result (Unit {0}) LineFault) (op : OpName) (thread name : List ℕ) (words rest : List (List ℕ)) → rest ≡ name ∷ words → op_named name ≡ Some op
    → Gives (λ _. new) result (or_else (turn_fault plan.header op thread words) (standing_fault plan (step_line op))) (with_turn plan (turn_by plan.header.caches op thread words))
    → Gives (λ _. Some new) result (form_fault plan (step_form rest) (thread ∷ rest)) (with_line (Some plan) (step_form rest) (thread ∷ rest))
Gives-step plan new (Ok x) op thread name words rest is_rest named h =
    (form_fault-step plan op thread name words rest is_rest named ∙ h.0, ap (λ (p : Plan). Some p) h.1 ∙ sym (with_line-step plan op thread name words rest is_rest named))
Gives-step plan new (Err (Refused r)) op thread name words rest is_rest named h = form_fault-step plan op thread name words rest is_rest named ∙ h
Gives-step plan new (Err NoMemory) op thread name words rest is_rest named h = tt

-- four words one beside another
pub Gives-def : {X Y Z W : Type 0} (a : Result X LineFault) (b : Result Y LineFault) (d : Result Z LineFault) (e : Result W LineFault) (last : Result (Z × W) LineFault) (behind : Result (Y × (Z × W)) LineFault) (result : Result (X × (Y × (Z × W))) LineFault)
    (f g h k : Option Reason) (x : X) (y : Y) (z : Z) (w : W) → Gives itself a f x → Gives itself b g y → Gives itself d h z → Gives itself e k w → last ≡ both d e → behind ≡ both b last → result ≡ both a behind
    → Gives (beside itself (beside itself (beside itself itself))) result (least f (least g (least h k))) (x, (y, (z, w)))
Gives-def a b d e last behind result f g h k x y z w i j l m innermost inner outer =
    rw (outer, inner, innermost)
    (Gives-both itself (beside itself (beside itself itself)) a (both b (both d e)) f (least g (least h k)) x (y, (z, w)) i
    (Gives-both itself (beside itself itself) b (both d e) g (least h k) y (z, w) j (Gives-both itself itself d e h k z w l m)))

none_from_least : (a b : Option Reason) → least a b ≡ None → a ≡ None
none_from_least None b h = refl
none_from_least (Some a) None h = absurd (cc h)
none_from_least (Some a) (Some b) h = absurd (cc h)

none_from_name : (named reserved : Bool) (o : Option ℕ) → unless_holds (named && not reserved && not (is_some o)) reasons.Name ≡ None → o ≡ None
none_from_name named reserved None h = refl
none_from_name true true (Some n) h = absurd (cc h)
none_from_name true false (Some n) h = absurd (cc h)
none_from_name false reserved (Some n) h = absurd (cc h)

-- a cache that is not refused has a name that none had
pub unlike_from_def : (header : Header) (name bytes align : List ℕ) (words : List (List ℕ)) → def_fault header name bytes align words ≡ None → declared_number header.caches name ≡ None
unlike_from_def header name bytes align words h =
    none_from_name (is_cache_name name) (is_reserved_name name) (declared_number header.caches name) (none_from_least _ _ h)

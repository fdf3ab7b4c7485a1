-- Calls that are drawn one by one, and the rules that they keep.
use Rattle.std.proofs.Common.{◌≡◌, ℕ, zero, suc, ◌+◌, ◌-◌, ◌/◌, ◌%◌, ◌<◌, ◌≤◌, inl, inr, Bool, true, false, cond, eqb, List, [], ◌∷◌, ◌++◌, length, map, get_or, set, refl, sym, ap, ◌∙◌, append_assoc, arith}
use Rattle.std.specs.Prelude.{◌==◌}
use Rattle.std.specs.List.{AllByRecursion}
use Rattle.std.proofs.Common.{get_or-set_other, get_or-set_same}
use Rattle.std.proofs.lemmas.Bool.{cases_eq, eq-eqb, ne_eqb}
use Rattle.umem_base.specs.BoundedVec.{BoundedVec}
use Rattle.case_table.specs.declared.cache_def.CacheDef.{CacheDef}
use Rattle.script.specs.declared.operation.Op.{Op}
use Rattle.script.specs.declared.operation.Op.TheVariants.{Alloc, Free}
use Rattle.script.specs.declared.tree.Step.{Step}
use Rattle.script.specs.Generated.{draw_of, drawn_op, drawn_size, drawn_slot, drawn_turns, draws, made_header, made_plan, made_turn, next_state, size_behind, size_held}
use Rattle.script.specs.Plan.{Plan, Turn, plan_of, turn_of, turns_of}
use Rattle.script.specs.Rules.{IsOp, IsPlan, IsTurn}

-- ---- one draw more

map_push : {X Y : Type 0} (f : X → Y) (xs : List X) (x : X) → map f (xs ++ x ∷ []) ≡ map f xs ++ f x ∷ []
map_push f [] x = refl
map_push f (y ∷ xs) x = ap (λ ys. f y ∷ ys) (map_push f xs x)

-- the calls of the draws that are left follow those that were made
pub turns_more : (before : List ℕ) (state next draw ops i held : ℕ) (old new : List Step) (step : Step) (op : Op) (whole : List Turn) → i < ops → map turn_of old ++ drawn_turns before (draws state (ops - i)) ≡ whole
    → next ≡ next_state state → draw ≡ draw_of next → held ≡ size_held before (drawn_slot draw) → op ≡ drawn_op held draw → turn_of step ≡ made_turn op → new ≡ old ++ step ∷ []
    → map turn_of new ++ drawn_turns (draw ∷ before) (draws next (ops - (i + 1))) ≡ whole
turns_more before state next draw ops i held old new step op whole lt so_far is_next is_draw is_held is_op is_turn longer =
    let left : ℕ = ops - (i + 1) in
    let count : ops - i ≡ suc left = omega arith in
    let drawn : draw ≡ draw_of (next_state state) = is_draw ∙ ap draw_of is_next in
    let turn : turn_of step ≡ made_turn (drawn_op (size_held before (drawn_slot draw)) draw) = is_turn ∙ ap made_turn (is_op ∙ ap (λ h. drawn_op h draw) is_held) in
    let later : List Turn = drawn_turns (draw ∷ before) (draws next left) in
    let first : drawn_turns before (draws state (ops - i)) ≡ turn_of step ∷ later =
    ap (λ n. drawn_turns before (draws state n)) count ∙ ap (λ n. drawn_turns before (draw_of n ∷ draws n left)) (sym is_next)
    ∙ ap (λ d. drawn_turns before (d ∷ draws next left)) (sym is_draw) ∙ ap (λ (t : Turn). t ∷ later) (sym turn) in
    ap (λ (steps : List Step). map turn_of steps ++ later) longer ∙ ap (λ (ts : List Turn). ts ++ later) (map_push turn_of old step) ∙ append_assoc (map turn_of old) (turn_of step ∷ []) later
    ∙ ap (λ (ts : List Turn). map turn_of old ++ ts) (sym first) ∙ so_far

-- the sizes in the slots
pub sizes_more : (before old new : List ℕ) (draw held : ℕ) → length old ≡ 64 → ((k : ℕ) → k < 64 → get_or old k 0 ≡ size_held before (1 + k)) → held ≡ get_or old (draw % 64) 0 → new ≡ set old (draw % 64) (size_behind held draw)
    → (k : ℕ) → k < 64 → get_or new k 0 ≡ size_held (draw ∷ before) (1 + k)
sizes_more before old new draw held len so_far is_held is_new k lt = elim (cases_eq k (draw % 64)) [
  | inl same ↦
      let test : eqb (1 + draw % 64) (1 + k) ≡ true = eq-eqb (1 + draw % 64) (1 + k) (omega (arith, same)) in
      let inside : draw % 64 < length old = omega (arith, len) in
      let here : get_or new k 0 ≡ size_behind held draw = ap (λ (xs : List ℕ). get_or xs k 0) is_new ∙ ap (λ i. get_or (set old (draw % 64) (size_behind held draw)) i 0) same ∙ get_or-set_same old (draw % 64) (size_behind held draw) 0 inside in
      let stood : held ≡ size_held before (1 + k) = is_held ∙ ap (λ i. get_or old i 0) (sym same) ∙ so_far k lt in
      here ∙ ap (λ h. size_behind h draw) stood ∙ ap (λ b. cond b (size_behind (size_held before (1 + k)) draw) (size_held before (1 + k))) (sym test)
  | inr other ↦
      let test : eqb (1 + draw % 64) (1 + k) ≡ false = ne_eqb (1 + draw % 64) (1 + k) (λ e. other (omega (arith, e))) in
      ap (λ (xs : List ℕ). get_or xs k 0) is_new ∙ get_or-set_other old (draw % 64) k (size_behind held draw) 0 other ∙ so_far k lt
      ∙ ap (λ b. cond b (size_behind (size_held before (1 + k)) draw) (size_held before (1 + k))) (sym test)
]

-- ---- the rules

drawn_small : (draw : ℕ) → drawn_size draw ≤ 512
drawn_small draw = let below : draw / 64 % 512 < 512 = omega arith in omega arith

behind_small : (held draw : ℕ) → held ≤ 512 → size_behind held draw ≤ 512
behind_small held draw le = go (held == 0)
  where
    go : (b : Bool) → cond b (drawn_size draw) 0 ≤ 512
    go true = drawn_small draw
    go false = omega arith

held_small : (before : List ℕ) (slot : ℕ) → size_held before slot ≤ 512
held_small [] slot = omega arith
held_small (draw ∷ before) slot = go (drawn_slot draw == slot) (held_small before slot)
  where
    go : (b : Bool) → size_held before slot ≤ 512 → cond b (size_behind (size_held before slot) draw) (size_held before slot) ≤ 512
    go true le = behind_small (size_held before slot) draw le
    go false le = le

op_keeps : (held draw : ℕ) → held ≤ 512 → IsOp made_header (drawn_op held draw)
op_keeps held draw le = go (held == 0)
  where
    slot_below : drawn_slot draw < 512
    slot_below = let below : draw % 64 < 64 = omega arith in omega arith

    go : (b : Bool) → IsOp made_header (cond b (Alloc (drawn_slot draw) (drawn_size draw)) (Free (drawn_slot draw) held))
    go true = let small = drawn_small draw in (inl slot_below, omega arith)
    go false = (inl slot_below, omega arith)

turns_keep : (before later : List ℕ) → AllByRecursion (IsTurn made_header) (drawn_turns before later)
turns_keep before [] = tt
turns_keep before (draw ∷ later) =
    (record { thread = omega arith; op = op_keeps (size_held before (drawn_slot draw)) draw (held_small before (drawn_slot draw)); depth = omega arith; frames = tt }, turns_keep (draw ∷ before) later)

length_turns : (before later : List ℕ) → length (drawn_turns before later) ≡ length later
length_turns before [] = refl
length_turns before (draw ∷ later) = ap suc (length_turns (draw ∷ before) later)

length_draws : (state count : ℕ) → length (draws state count) ≡ count
length_draws state zero = refl
length_draws state (suc count) = ap suc (length_draws (next_state state) count)

-- a plan of draws keeps the rules and limits
pub made_keeps : (seed ops : ℕ) → ops ≤ 65536 → IsPlan (made_plan seed ops)
made_keeps seed ops le = record {
  header = record {
    version = inl refl;
    cpus = (omega arith, omega arith);
    threads = (omega arith, omega arith);
    count = omega arith;
    caches = tt;
    names = λ i j d lt below. absurd (omega arith);
  };
  turns = (turns_keep [] (draws seed ops), tt);
  phases = omega arith;
  calls = omega (arith, length_turns [] (draws seed ops), length_draws seed ops);
}

-- the script that holds the steps of draws
pub made_is : (caches : List CacheDef) (phases : List (BoundedVec Step)) (phase : BoundedVec Step) (steps : List Step) (seed ops : ℕ) → caches ≡ [] → phases ≡ phase ∷ [] → phase.items ≡ steps
    → map turn_of steps ≡ drawn_turns [] (draws seed ops) → plan_of (record { header = record { version = 1; cpus = 1; threads = 1; caches = caches }; phases = phases }) ≡ made_plan seed ops
made_is caches phases phase steps seed ops a b d e =
    let with_caches : List CacheDef → Plan = λ cs. record { header = record { version = 1; cpus = 1; threads = 1; caches = cs }; phases = map turns_of phases } in
    let with_phases : List (List Turn) → Plan = λ ps. record { header = made_header; phases = ps } in
    ap with_caches a ∙ ap (λ (ps : List (BoundedVec Step)). with_phases (map turns_of ps)) b ∙ ap (λ (items : List Step). with_phases (map turn_of items ∷ [])) d ∙ ap (λ (turns : List Turn). with_phases (turns ∷ [])) e

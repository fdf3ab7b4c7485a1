-- A hash map of buffers as a finite map, and when it tells what a history left.
use Rattle.std.proofs.Common.{◌≡◌, ℕ, Bool, true, false, cond, eqb, List, [], ◌∷◌, Option, Some, None, refl, sym, ap, subst, ◌∙◌, arith}
use Rattle.std.specs.Prelude.{Contains, nat_eq, not, ◌||◌, find, option_map, IsSome, is_some}
use Rattle.std.specs.Ordering.{nat_cmp, is_eq}
use Rattle.std.specs.Map.{lookup}
use Rattle.std.specs.FinMap.{empty, find as find_entry, get, get-empty, insert, from_entries, get-from_entries, get-insert, same_map}
use Rattle.std.proofs.lemmas.Cmp.{nat_cmp_total}
use Rattle.std.proofs.lemmas.Map.Lookups.{exact_unsigned}
use Rattle.std.proofs.lemmas.Bool.{eqb-true, eqb-false, false≢true}
use Rattle.std.proofs.lemmas.Bool.Decides.{nat_tests}
use Rattle.umem_base.specs.Ordered.{left_out_by}
use Rattle.umem_base.proofs.Lists.{Contains-here, Contains-there}
use Rattle.plain_heap.specs.declared.held.Held.{Held}
use Rattle.plain_heap.specs.declared.reply.Reply.{Reply}
use Rattle.plain_heap.specs.Live.{HeldByAddress, TellsLive, live_at, live_in}
use Rattle.plain_heap.specs.Replies.{free_answer}
use Rattle.plain_heap.specs.Setting.{Setting}
use Rattle.plain_heap.specs.State.{LiveBuffer, State, fate_of, give_back, hand_out, held_at, start_state, was_given}

same_test : (a b : ℕ) → is_eq (nat_cmp a b) ≡ eqb a b
same_test a b = grind (arith, nat_tests)

turned : (a b : ℕ) → eqb a b ≡ eqb b a
turned a b = grind (arith, nat_tests)

found : {X : Type 0} (entries : List (ℕ × X)) (q : ℕ) → find_entry nat_cmp q entries ≡ lookup (nat_eq q) entries
found [] q = refl
found (e ∷ entries) q = rw (same_test q e.0) (ap (cond (eqb q e.0) (Some e.1)) (found entries q))

-- what the finite map has at a key
pub live_get : {X : Type 0} (entries : List (ℕ × X)) (q : ℕ) → get (from_entries {R = nat_cmp} entries) q ≡ lookup (nat_eq q) entries
live_get entries q = get-from_entries nat_cmp_total entries q ∙ found entries q

-- entries that differ at one key
pub live_set : {X : Type 0} (old new : List (ℕ × X)) (key : ℕ) (value : X) → ((q : ℕ) → lookup (nat_eq q) new ≡ cond (nat_eq key q) (Some value) (lookup (nat_eq q) old))
    → from_entries {R = nat_cmp} new ≡ insert (from_entries {R = nat_cmp} old) key value
live_set old new key value h =
    same_map nat_cmp_total exact_unsigned _ _ (λ q.
    live_get new q ∙ h q ∙ ap (cond (eqb key q) (Some value)) (sym (live_get old q))
    ∙ ap (λ b. cond b (Some value) (get (from_entries {R = nat_cmp} old) q)) (turned key q ∙ sym (same_test q key))
    ∙ sym (get-insert nat_cmp_total (from_entries {R = nat_cmp} old) key value q))

-- ---- what the map tells

-- what the map has at a key, after another was put there
map_with : (buffers : HeldByAddress) (key : ℕ) (value : Option Held) (q : ℕ) → get (insert buffers key value) q ≡ cond (eqb key q) (Some value) (get buffers q)
map_with buffers key value q =
    get-insert nat_cmp_total buffers key value q
    ∙ ap (λ (b : Bool). cond b (Some value) (get buffers q)) (same_test q key ∙ turned q key)

-- the buffer that was found, if one was
abbrev held_of : Option LiveBuffer → Option Held
held_of found = option_map (λ (buffer : LiveBuffer). buffer.held) found

handed_live : (here : Bool) (there : Option (Option Held)) (rest : Option LiveBuffer) (buffer : LiveBuffer)
    → live_in there ≡ held_of rest → live_in (cond here (Some (Some buffer.held)) there) ≡ held_of (cond here (Some buffer) rest)
handed_live true there rest buffer same = refl
handed_live false there rest buffer same = same

handed_given : (here : Bool) (there : Option (Option Held)) (rest : Bool) (held : Held)
    → is_some there ≡ rest → is_some (cond here (Some (Some held)) there) ≡ (here || rest)
handed_given true there rest held same = refl
handed_given false there rest held same = same

-- the map tells of a buffer that was handed out
pub tells_handed : (setting : Setting) (state : State) (buffers : HeldByAddress) (address : ℕ) (held : Held) (zero : Bool)
    → TellsLive buffers state → TellsLive (insert buffers address (Some held)) (hand_out setting state address held zero)
tells_handed setting state buffers address held zero tells = record {
  live = λ q.
      ap live_in (map_with buffers address (Some held) q)
      ∙ handed_live (eqb address q) (get buffers q) (find (λ (b : LiveBuffer). eqb b.address q) state.live) (record { address = address; held = held }) (tells.live q);
  given = λ q.
      ap is_some (map_with buffers address (Some held) q)
      ∙ handed_given (eqb address q) (get buffers q) (was_given state q) held (tells.given q);
}

-- ---- a buffer less

held_either : (first : Bool) (one other : List LiveBuffer) (q : ℕ) → held_at (cond first one other) q ≡ cond first (held_at one q) (held_at other q)
held_either true one other q = refl
held_either false one other q = refl

less_by : (gone here freed : Bool) (buffer : LiveBuffer) (kept rest : Option LiveBuffer)
    → (gone ≡ true → here ≡ freed) → (gone ≡ false → here ≡ true → freed ≡ false) → held_of kept ≡ cond freed None (held_of rest)
    → cond (not gone) (held_of (cond here (Some buffer) kept)) (held_of kept) ≡ cond freed None (held_of (cond here (Some buffer) rest))
less_by true true true buffer kept rest same apart less = less
less_by true false false buffer kept rest same apart less = less
less_by true true false buffer kept rest same apart less = absurd (false≢true (sym (same refl)))
less_by true false true buffer kept rest same apart less = absurd (false≢true (same refl))
less_by false true true buffer kept rest same apart less = absurd (false≢true (sym (apart refl refl)))
less_by false true false buffer kept rest same apart less = refl
less_by false false true buffer kept rest same apart less = less
less_by false false false buffer kept rest same apart less = less

not_true : (b : Bool) → (b ≡ true → ⊥) → b ≡ false
not_true true never = absurd (never refl)
not_true false never = refl

none_either : (b : Bool) → held_of None ≡ cond b None (held_of None)
none_either true = refl
none_either false = refl

-- what lives once the buffer at an address does not
pub held_without : (live : List LiveBuffer) (freed q : ℕ) → held_at (left_out_by (λ (b : LiveBuffer). b.address) live freed) q ≡ cond (eqb freed q) None (held_at live q)
held_without [] freed q = none_either (eqb freed q)
held_without (b ∷ live) freed q =
    let left = left_out_by (λ (b : LiveBuffer). b.address) live freed in
    held_either (not (eqb b.address freed)) (b ∷ left) left q
    ∙ less_by (eqb b.address freed) (eqb b.address q) (eqb freed q) b (find (λ (b : LiveBuffer). eqb b.address q) left) (find (λ (b : LiveBuffer). eqb b.address q) live)
    (λ gone. ap (λ (k : ℕ). eqb k q) (eqb-true b.address freed gone))
    (λ stays here. not_true (eqb freed q) (λ freed_here. eqb-false b.address freed stays (eqb-true b.address q here ∙ sym (eqb-true freed q freed_here))))
    (held_without live freed q)

freed_live : (here : Bool) (there : Option (Option Held)) (rest : Option Held) → live_in there ≡ rest → live_in (cond here (Some None) there) ≡ cond here None rest
freed_live true there rest same = refl
freed_live false there rest same = same

freed_given : (here : Bool) (there : Option (Option Held)) (rest : Bool) → is_some there ≡ rest → (here ≡ true → rest ≡ true) → is_some (cond here (Some None) there) ≡ rest
freed_given true there rest same was = sym (was refl)
freed_given false there rest same was = same

some_there : (there : Option (Option Held)) → IsSome (live_in there) → is_some there ≡ true
some_there None lives = lives
some_there (Some held) lives = refl

-- the map tells of a buffer that was given back
pub tells_given_back : (setting : Setting) (state : State) (buffers : HeldByAddress) (address : ℕ)
    → TellsLive buffers state → IsSome (live_at buffers address) → TellsLive (insert buffers address None) (give_back setting state address)
tells_given_back setting state buffers address tells lives = record {
  live = λ q.
      ap live_in (map_with buffers address None q)
      ∙ freed_live (eqb address q) (get buffers q) (held_at state.live q) (tells.live q)
      ∙ sym (held_without state.live address q);
  given = λ q.
      let was : was_given state address ≡ true = sym (tells.given address) ∙ some_there (get buffers address) lives in
      ap is_some (map_with buffers address None q)
      ∙ freed_given (eqb address q) (get buffers q) (was_given state q) (tells.given q) (λ here. subst (λ (k : ℕ). was_given state k ≡ true) (eqb-true address q here) was);
}

-- ---- what is answered by the map

pub answered_alike : (state : State) (buffers : HeldByAddress) (word : ℕ) (refusal : Held → Option Reply) (has_finding : Bool) → TellsLive buffers state
    → free_answer word (live_at buffers word) (is_some (get buffers word)) refusal has_finding ≡ free_answer word (held_at state.live word) (was_given state word) refusal has_finding
answered_alike state buffers word refusal has_finding tells =
    ap (λ (held : Option Held). free_answer word held (is_some (get buffers word)) refusal has_finding) (tells.live word)
    ∙ ap (λ (given : Bool). free_answer word (held_at state.live word) given refusal has_finding) (tells.given word)

fate_by : (there : Option (Option Held)) (given : Bool) (held : Option Held) → live_in there ≡ held → is_some there ≡ given → there ≡ cond given (Some held) None
fate_by None true held live was = absurd (false≢true was)
fate_by None false held live was = refl
fate_by (Some there) true held live was = ap Some live
fate_by (Some there) false held live was = absurd (false≢true (sym was))

-- the map has the fate of each address
pub tells_fate : (state : State) (buffers : HeldByAddress) (address : ℕ) → TellsLive buffers state → get buffers address ≡ fate_of state address
tells_fate state buffers address tells = fate_by (get buffers address) (was_given state address) (held_at state.live address) (tells.live address) (tells.given address)

-- an empty map tells that nothing was handed out
pub tells_start : TellsLive (empty {R = nat_cmp}) start_state
tells_start = record {
  live = λ q. ap live_in (get-empty nat_cmp q);
  given = λ q. ap is_some (get-empty nat_cmp q);
}

-- the buffer that is found at an address lives
pub held_lives : (live : List LiveBuffer) (at : ℕ) (held : Held) → held_at live at ≡ Some held → Contains live (record { address = at; held = held })
held_lives [] at held h = absurd (cc h)
held_lives (first ∷ live) at held h = go (eqb first.address at) refl h (λ later. held_lives live at held later)
  where
    go : (b : Bool) → eqb first.address at ≡ b → option_map (λ (buffer : LiveBuffer). buffer.held) (cond b (Some first) (find (λ buffer. eqb buffer.address at) live)) ≡ Some held
        → (held_at live at ≡ Some held → Contains live (record { address = at; held = held })) → Contains (first ∷ live) (record { address = at; held = held })
    go true is there rest =
        let here : first.held ≡ held = cc in
        let same : first.address ≡ at = eqb-true first.address at is in
        let whole : first ≡ record { address = at; held = held } = grind arith in
        subst (λ (b : LiveBuffer). Contains (first ∷ live) b) whole (Contains-here first live)
    go false is there rest = Contains-there first (record { address = at; held = held }) live (rest there)

-- Bytes are a core or have a fault; chunks are free or allocated.
use Rattle.std.proofs.Common.{◌≡◌, ℕ, ◌+◌, ◌-◌, ◌*◌, Bool, true, false, ◌&&◌, cond, List, Option, Some, None, Result, Ok, Err, refl, ap, ◌∙◌, arith, inl, inr, ◌⊎◌}
use Rattle.std.specs.Prelude.{not}
use Rattle.buftag.specs.declared.state.State.{State}
use Rattle.buftag.specs.declared.state.State.TheVariants.{Allocated, Free}
use Rattle.core_format.specs.declared.whole.Core.{Core}
use Rattle.core_format.specs.Cores.{IsCore, core_of, first_flaw}
use Rattle.core_format.specs.Reader.{Flaw}

abbrev told : Result Core Flaw → Option Flaw
told (Ok core) = None
told (Err flaw) = Some flaw

told_is : (bytes : List ℕ) → first_flaw bytes ≡ told (core_of bytes)
told_is bytes = by_result (core_of bytes)
  where
    by_result : (r : Result Core Flaw) → elim r [ Ok core ↦ None | Err flaw ↦ Some flaw ] ≡ told r
    by_result (Ok core) = refl
    by_result (Err flaw) = refl

one_of : (r : Result Core Flaw) → ((core : Core) × (r ≡ Ok core)) ⊎ ((flaw : Flaw) × (told r ≡ Some flaw))
one_of (Ok core) = inl (core, refl)
one_of (Err flaw) = inr (flaw, refl)

pub core_or_fault : (bytes : List ℕ) → ((core : Core) × IsCore bytes core) ⊎ ((flaw : Flaw) × (first_flaw bytes ≡ Some flaw))
core_or_fault bytes = elim (one_of (core_of bytes)) [ inl c ↦ inl (c.0, c.1) | inr f ↦ inr (f.0, told_is bytes ∙ f.1) ]

pub no_fault : (bytes : List ℕ) (core : Core) → IsCore bytes core → first_flaw bytes ≡ None
no_fault bytes core e = told_is bytes ∙ ap told e

ok_same : (a b : Core) (r : Result Core Flaw) → r ≡ Ok a → r ≡ Ok b → a ≡ b
ok_same a b r p q = cc

pub one_core : (bytes : List ℕ) (a b : Core) → IsCore bytes a → IsCore bytes b → a ≡ b
one_core bytes a b p q = ok_same a b (core_of bytes) p q

abbrev state : Bool → Bool → Option State
state has held = cond has (Some (cond held Free Allocated)) None

pub state-free : (has held : Bool) → state has held ≡ Some Free → (has && held) ≡ true
state-free true true e = refl
state-free true false e = absurd cc
state-free false held e = absurd cc

pub state-allocated : (has held : Bool) → state has held ≡ Some Allocated → (has && not held) ≡ true
state-allocated true true e = absurd cc
state-allocated true false e = refl
state-allocated false held e = absurd cc

pub free-state : (has held : Bool) → (has && held) ≡ true → state has held ≡ Some Free
free-state true true e = refl
free-state true false e = absurd cc
free-state false held e = absurd cc

pub allocated-state : (has held : Bool) → (has && not held) ≡ true → state has held ≡ Some Allocated
allocated-state true true e = absurd cc
allocated-state true false e = refl
allocated-state false held e = absurd cc

pub none-state : (has held : Bool) → has ≡ false → state has held ≡ None
none-state true held e = absurd cc
none-state false held e = refl

pub follows : (base colour first index chunk : ℕ) → base + (colour + (first + index - first) * chunk) ≡ base + (colour + index * chunk)
follows base colour first index chunk = ap (λ (n : ℕ). base + (colour + n * chunk)) (omega arith)

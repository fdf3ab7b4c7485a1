-- What a call asks for tells the kind of its commit.
use Rattle.std.proofs.Common.{◌≡◌, ℕ, Bool, true, false, cond, eqb, Option, Some, None, refl, sym, ap, ◌∙◌, subst}
use Rattle.std.specs.Prelude.{◌&&◌, is_none, is_some, not}
use Rattle.case_table.specs.Sizes.{class_for}
use Rattle.script.specs.declared.operation.Op.{Op}
use Rattle.script.specs.declared.operation.Op.TheVariants.{Alloc, Zalloc, Free, CacheAlloc, CacheFree, Copy, Clear, Store, Link, Load, Reap}
use Rattle.heap_accounts.specs.declared.asked.Asked.{Asked}
use Rattle.heap_accounts.specs.declared.asked.Asked.TheVariants as asked
use Rattle.heap_accounts.specs.declared.large_request.LargeRequest.{LargeRequest}
use Rattle.heap_accounts.specs.Asked.{asked_of_size}
use Rattle.heap_accounts.specs.Laws.{CallsAreOfTheKindAsked, IsOfKindAsked}

-- what an allocation asks for, by whether its size is zero and by its class
abbrev told_by : Bool → Option ℕ → Asked
told_by none None = cond none asked.Plain asked.Large
told_by none (Some class) = cond none asked.Plain (asked.Chunk class)

size_told : (size : ℕ) (class : Option ℕ) → asked_of_size size class ≡ told_by (eqb size 0) class
size_told size None = refl
size_told size (Some class) = refl

-- whole pages are asked for, by the same
abbrev is_large_by : ℕ → ℕ → Bool → Option ℕ → Bool
is_large_by slot size none class =
    is_some (cond {A = Option LargeRequest} (not none && is_none class) (Some (record { slot = slot; size = size })) None)

module _ (slot size : ℕ) where
  large_told : eqb size 0 ≡ false → class_for size ≡ None → is_large_by slot size (eqb size 0) (class_for size) ≡ true
  large_told some none = ap (λ (z : Bool). is_large_by slot size z (class_for size)) some ∙ ap (is_large_by slot size false) none

  alloc_told : (none : Bool) (class : Option ℕ) → eqb size 0 ≡ none → class_for size ≡ class → IsOfKindAsked (Alloc slot size) (told_by none class)
  alloc_told true None zeroth its = zeroth
  alloc_told true (Some class) zeroth its = zeroth
  alloc_told false None some its = large_told some its
  alloc_told false (Some class) some its = (ap is_some its, its)

  zalloc_told : (none : Bool) (class : Option ℕ) → eqb size 0 ≡ none → class_for size ≡ class → IsOfKindAsked (Zalloc slot size) (told_by none class)
  zalloc_told true None zeroth its = zeroth
  zalloc_told true (Some class) zeroth its = zeroth
  zalloc_told false None some its = large_told some its
  zalloc_told false (Some class) some its = (ap is_some its, its)

pub asked_kind : CallsAreOfTheKindAsked
asked_kind (Alloc slot size) =
    subst (IsOfKindAsked (Alloc slot size)) (sym (size_told size (class_for size))) (alloc_told slot size (eqb size 0) (class_for size) refl refl)
asked_kind (Zalloc slot size) =
    subst (IsOfKindAsked (Zalloc slot size)) (sym (size_told size (class_for size))) (zalloc_told slot size (eqb size 0) (class_for size) refl refl)
asked_kind (Free slot size) = refl
asked_kind (CacheAlloc slot cache) = (refl, refl)
asked_kind (CacheFree slot cache) = refl
asked_kind (Copy to from) = refl
asked_kind (Clear slot) = refl
asked_kind (Store slot offset stored) = refl
asked_kind (Link slot offset value) = refl
asked_kind (Load to slot offset) = refl
asked_kind Reap = refl

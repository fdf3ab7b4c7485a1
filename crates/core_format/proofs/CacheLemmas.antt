-- A cache that keeps the rules has a shape.
use Rattle.std.proofs.Common.{◌≡◌, ℕ, ◌+◌, ◌<◌, ◌≤◌, Bool, true, false, Result, Ok, refl, arith, inl, inr, ◌⊎◌}
use Rattle.std.proofs.lemmas.Bool.{cases_lt}
use Rattle.std.proofs.lemmas.Bool.Decides.{nat_tests}
use Rattle.case_table.specs.Geometry.{IsCacheShape}
use Rattle.case_table.specs.Sizes.{size_of}
use Rattle.case_table.proofs.SizesLemmas.{size_of-small, size_of-some}
use Rattle.core_format.specs.declared.fault.Fault.{Fault}
use Rattle.core_format.specs.declared.fault.Fault.TheVariants.{BadCache}
use Rattle.core_format.specs.declared.cache_numbers.CacheNumbers.{CacheNumbers}
use Rattle.core_format.specs.Reader.{Flaw, ◌>>=◌, rule}
use Rattle.core_format.specs.Caches.{is_align_of, is_ctor_of, is_size_of, number_rules}

-- a rule that holds
pub rule-holds : {A : Type 0} (holds : Bool) (offset : ℕ) (fault : Fault) (next : Unit {0} → Result A Flaw) (x : A) → (rule holds offset fault >>= next) ≡ Ok x → (holds ≡ true) × (next tt ≡ Ok x)
rule-holds true offset fault next x e = (refl, e)
rule-holds false offset fault next x e = absurd cc

size-bounds : (cache size : ℕ) → is_size_of cache size ≡ true → (0 < size) × (size ≤ 4096)
size-bounds cache size e =
    elim (cases_lt cache 32) [
      | inl lt ↦
          let same : size ≡ size_of cache = grind (arith, nat_tests) in
          (omega (arith, size_of-some cache lt), omega (arith, size_of-small cache))
      | inr le ↦ grind (arith, nat_tests)
    ]

align-is : (cache align : ℕ) → is_align_of cache align ≡ true → (align ≡ 8) ⊎ ((align ≡ 16) ⊎ ((align ≡ 32) ⊎ (align ≡ 64)))
align-is cache align e = grind (arith, nat_tests)

-- numbers that keep the rules are those of a cache
pub shape_from_rules : (cache : ℕ) (numbers : CacheNumbers) (start : ℕ) → number_rules cache numbers start ≡ Ok tt → IsCacheShape numbers.size numbers.align
unfolding number_rules
shape_from_rules cache numbers start e =
    let size = rule-holds (is_size_of cache numbers.size) (start + 32) BadCache (λ _. rule (is_align_of cache numbers.align) (start + 36) BadCache >>= λ _. rule (is_ctor_of cache numbers.ctor) (start + 44) BadCache) tt e in
    let align = rule-holds (is_align_of cache numbers.align) (start + 36) BadCache (λ _. rule (is_ctor_of cache numbers.ctor) (start + 44) BadCache) tt size.1 in
    let bounds = size-bounds cache numbers.size size.0 in
    let aligned = align-is cache numbers.align align.0 in
    record { some = bounds.0; fits = bounds.1; aligned = grind (arith, nat_tests) }

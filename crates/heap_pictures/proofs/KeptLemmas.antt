-- Items of a log: each keeps a rule, and their times rise.
use Rattle.std.proofs.Common.{◌≡◌, ℕ, zero, suc, ◌<◌, ◌≤◌, List, [], ◌∷◌, Option, Some, None, drop, refl, arith}
use Rattle.std.specs.Prelude.{All, AllPairs}
use Rattle.std.specs.List.{cons_option}
use Rattle.std.proofs.lemmas.List.Elements.{All-cons}
use Rattle.std.proofs.lemmas.List.Kept.{AllPairs-cons}

module _ {T : Type 0} (time : T → ℕ) (P : T → Type 0) where
  -- each item keeps the rule, none is from before a time, and their times rise
  pub record AreKept (from : ℕ) (items : List T) : Type 0 where
    pub keep : All P items
    pub later : All (λ t. from ≤ time t) items
    pub rise : AllPairs (λ a b. time a < time b) items

  pub none_kept : (from : ℕ) → AreKept from []
  none_kept from = record {
    keep = λ k d lt. absurd (omega arith);
    later = λ k d lt. absurd (omega arith);
    rise = λ i j d less lt. absurd (omega arith);
  }

  pub kept_from : (from later : ℕ) (items : List T) → from ≤ later → AreKept later items → AreKept from items
  kept_from from later items le are = record {
    keep = are.keep;
    later = λ k d lt. let its = are.later k d lt in omega (arith, its, le);
    rise = are.rise;
  }

  -- with one more in front, if there is one, of that time
  pub one_more : (from : ℕ) (o : Option T) (items : List T) → ((t : T) → o ≡ Some t → P t × (time t ≡ from))
      → AreKept (suc from) items → AreKept from (cons_option o items)
  one_more from None items each are = kept_from from (suc from) items (omega arith) are
  one_more from (Some t) items each are =
      let its = each t refl in
      let now : time t ≡ from = its.1 in
      record {
        keep = All-cons P t items its.0 are.keep;
        later = All-cons (λ (x : T). from ≤ time x) t items (omega (arith, now))
            (λ k d lt. let past = are.later k d lt in omega (arith, past));
        rise = AllPairs-cons (λ (a b : T). time a < time b) t items
            (λ k d lt. let past = are.later k d lt in omega (arith, past, now)) are.rise;
      }

  -- without the first ones
  pub last_kept : (count from : ℕ) (items : List T) → AreKept from items → AreKept from (drop count items)
  last_kept zero from items are = are
  last_kept (suc count) from [] are = are
  last_kept (suc count) from (first ∷ items) are =
      last_kept count from items
      (record {
        keep = λ k d lt. are.keep (suc k) d (omega arith);
        later = λ k d lt. are.later (suc k) d (omega arith);
        rise = λ i j d less lt. are.rise (suc i) (suc j) d (omega arith) (omega arith);
      })

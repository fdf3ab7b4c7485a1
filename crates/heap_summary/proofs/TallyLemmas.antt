-- Sums over one entry more.
use Rattle.std.proofs.Common.{◌≡◌, ℕ, ◌+◌, Bool, cond, List, [], ◌∷◌, ◌++◌}
use Rattle.std.specs.Prelude.{count_by}
use Rattle.std.proofs.lemmas.List.Sums.{fold-append, sum_by_push}
use Rattle.case_table.specs.declared.cache_def.CacheDef.{CacheDef}
use Rattle.plain_heap.specs.declared.entry.Entry.{Entry}
use Rattle.heap_summary.specs.declared.change.Change.{Change}
use Rattle.heap_summary.specs.declared.tally.Tally.{Tally}
use Rattle.heap_summary.specs.Changes.{bytes_back, bytes_out, change_of, gives_back, hands_out}
use Rattle.heap_summary.specs.Tallies.{tally_of}

-- a test as a number
abbrev pub one_where : Bool → ℕ
one_where test = cond test 1 0

-- how many pass a test, with one item more
count_by_push : {X : Type 0} (p : X → Bool) (xs : List X) (y : X) → count_by p (xs ++ y ∷ []) ≡ count_by p xs + one_where (p y)
count_by_push p xs y = fold-append (λ n x. n + cond (p x) 1 0) 0 xs (y ∷ [])

-- the sums with one change more are these
pub record IsMore (before after : Tally) (change : Change) : Type 0 where
  pub allocs : after.allocs ≡ before.allocs + one_where (hands_out change)
  pub frees : after.frees ≡ before.frees + one_where (gives_back change)
  pub handed : after.handed ≡ before.handed + bytes_out change
  pub back : after.back ≡ before.back + bytes_back change

-- the sums over one entry more
pub tally_push : (caches : List CacheDef) (entries : List Entry) (entry : Entry) → IsMore (tally_of caches entries) (tally_of caches (entries ++ entry ∷ [])) (change_of caches entry.body)
tally_push caches entries entry = record {
  allocs = count_by_push (λ (e : Entry). hands_out (change_of caches e.body)) entries entry;
  frees = count_by_push (λ (e : Entry). gives_back (change_of caches e.body)) entries entry;
  handed = sum_by_push (λ (e : Entry). bytes_out (change_of caches e.body)) entries entry;
  back = sum_by_push (λ (e : Entry). bytes_back (change_of caches e.body)) entries entry;
}

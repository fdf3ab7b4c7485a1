-- What is known of a run and of a core that tells it, said of the state and the core alone; and lists whose items take
-- pages of their own.
use Rattle.std.proofs.Common.{◌≡◌, ℕ, suc, ◌+◌, ◌*◌, ◌<◌, ◌≤◌, List, [], ◌∷◌, length, get_or, arith}
use Rattle.std.specs.Prelude.{All, AllPairs}
use Rattle.std.specs.List.{range_with_len}
use Rattle.std.proofs.lemmas.List.Elements.{All-map}
use Rattle.std.proofs.lemmas.List.FromFn.{length-map-range_with_len}
use Rattle.umem_base.specs.declared.pages.TheConstants.{PAGE_BYTES}
use Rattle.core_format.specs.declared.whole.Core.{Core}
use Rattle.core_format.specs.Chunks.{core_shapes}
use Rattle.core_format.specs.Slabs.{shape_at}
use Rattle.core_rules.specs.HeaderRules.{AreByteValues}
use Rattle.plain_heap.specs.Bytes.{Bytes, bytes_from}
use Rattle.plain_heap.specs.Setting.{Setting}
use Rattle.plain_heap.specs.State.{State, next_chunk, start_state}
use Rattle.plain_heap.proofs.RisingLemmas.{all_rising}
use Rattle.plain_heap.proofs.SeparateLemmas.{history_in_place}
use Rattle.heap_ledger.specs.Ledger.{IsLedger, Ledger, run_setting, run_state}
use Rattle.heap_accounts.specs.FreeChunks.{ArePlacesOf}
use Rattle.heap_accounts.specs.Places.{Places, cache_count}
use Rattle.heap_accounts.proofs.FreeRoundLemmas.{IsGood}
use Rattle.heap_pictures.specs.Items.{grows_by_cache, list_in}
use Rattle.heap_pictures.specs.Laws.{CanBePictured}
use Rattle.heap_pictures.specs.Pictures.{AreLargeItems, AreSlabItems, TellsPlaces}
use Rattle.heap_pictures.proofs.ShapeLemmas.{caches_counted, shape_in_setting, shape_told}

-- ---- what is known

-- a core tells what a legal history left, and the stocks are those of its free chunks
pub record IsTold (setting : Setting) (state : State) (stocks : Places) (core : Core) : Type 0 where
  pub good : IsGood setting state
  pub stocked : ArePlacesOf setting state stocks
  pub version : core.version ≡ setting.header.version
  pub next : core.next_chunk ≡ next_chunk setting state
  pub count : length core.caches ≡ cache_count setting
  pub shapes : (cache : ℕ) → cache < cache_count setting
      → shape_at (core_shapes core) cache ≡ shape_in_setting setting cache
  pub slabs : AreSlabItems setting state (list_in stocks) core.slabs
  pub large : AreLargeItems state core.large

-- what a legal history leaves is in place, and its chunks rise
pub good_run : (ledger : Ledger) → IsLedger ledger → IsGood (run_setting ledger) (run_state ledger)
good_run ledger is = record {
  header = is.plan.header;
  places = history_in_place (run_setting ledger) ledger.entries is.plan.header is.legal;
  rising =
      all_rising (run_setting ledger) ledger.entries start_state
      (record { apart = λ i j d less lt. absurd (omega arith); below = λ k d lt. absurd (omega arith) });
}

-- so it is with a core that tells a run
pub is_told : (ledger : Ledger) (places : Places) (core : Core) → CanBePictured ledger places
    → TellsPlaces ledger places core → IsTold (run_setting ledger) (run_state ledger) places core
is_told ledger places core can tells =
    let setting = run_setting ledger in
    record {
      good = good_run ledger can.legal;
      stocked = can.places;
      version = tells.tells.numbers.version;
      next = tells.tells.numbers.next_chunk;
      count = caches_counted setting (grows_by_cache setting (run_state ledger)) core.caches tells.tells.caches;
      shapes = λ cache lt. shape_told ledger core cache tells.tells.caches tells.tells.numbers.flags lt;
      slabs = tells.tells.slabs;
      large = tells.tells.large;
    }

-- ---- pages of their own

-- Items that begin a page or more apart, between two addresses, are no more than the pages between them.
pub few_by_pages : {X : Type 0} (key : X → ℕ) (xs : List X) (low high : ℕ) → low ≤ high
    → AllPairs (λ a b. key a + PAGE_BYTES ≤ key b) xs → All (λ a. low ≤ key a) xs
    → All (λ a. key a + PAGE_BYTES ≤ high) xs
    → low + PAGE_BYTES * length xs ≤ high
few_by_pages key [] low high fits apart from to = omega arith
few_by_pages key (x ∷ xs) low high fits apart from to =
    let first : low ≤ key x = from 0 x (omega arith) in
    let last : key x + PAGE_BYTES ≤ high = to 0 x (omega arith) in
    let rest =
    few_by_pages key xs (key x + PAGE_BYTES) high last
    (λ i j d less lt. apart (suc i) (suc j) d (omega arith) (omega arith))
    (λ k d lt. apart 0 (suc k) d (omega arith) (omega arith)) (λ k d lt. to (suc k) d (omega arith))
    in
    omega (arith, first, rest)

-- rising numbers of a range are no more than the range has
pub few_in_range : (first count : ℕ) (xs : List ℕ) → AllPairs (λ a b. a < b) xs → All (λ a. first ≤ a) xs
    → All (λ a. a < first + count) xs → length xs ≤ count
few_in_range first count xs rising low high =
    let many =
    few_by_pages (λ a. PAGE_BYTES * a) xs (PAGE_BYTES * first) (PAGE_BYTES * (first + count)) (omega arith)
    (λ i j d less lt. omega (arith, rising i j d less lt)) (λ k d lt. omega (arith, low k d lt))
    (λ k d lt. omega (arith, high k d lt))
    in
    omega (arith, many)

-- ---- bytes

pub bytes_counted : (bytes : Bytes) (at count : ℕ) → length (bytes_from bytes at count) ≡ count
bytes_counted bytes at count = length-map-range_with_len (λ k. bytes (at + k)) 0 count

pub bytes_are_small : (bytes : Bytes) (at count : ℕ) → ((address : ℕ) → bytes address < 256)
    → AreByteValues (bytes_from bytes at count)
bytes_are_small bytes at count small =
    All-map (λ byte. byte < 256) (λ k. bytes (at + k)) (range_with_len 0 count)
    (λ k d lt. small (at + get_or (range_with_len 0 count) k d))

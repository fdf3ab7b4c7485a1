-- A heap before and after an allocation from a cache.
use Rattle.std.proofs.Common.{◌≡◌, ℕ, ◌^◌, ◌<◌, ◌≤◌, List, length, set, get_or, sym, ap, ◌∙◌, subst, arith}
use Rattle.std.proofs.lemmas.List.{get_or-map, length-map, map-set}
use Rattle.std.proofs.Math.Seq.{map-set_same}
use Rattle.shelf.specs.Shelf.{Shelf}
use Rattle.shelf.specs.Stock.{Stock, empty_stock}
use Rattle.plain_heap.specs.declared.reply.Reply.{Reply}
use Rattle.plain_heap.specs.State.{next_chunk}
use Rattle.heap_ledger.specs.Ledger.{IsLedger, Ledger, run_setting, run_state}
use Rattle.heap_accounts.specs.declared.turn.Turn.{Turn}
use Rattle.heap_accounts.specs.declared.turn.Turn.TheVariants.{Behind, Made}
use Rattle.heap_accounts.specs.FreeChunks.{ArePlacesOf, IsStockOf}
use Rattle.heap_accounts.specs.Places.{cache_count, stock_at, with_stock}
use Rattle.heap_accounts.specs.Placed.{IsPlaced}
use Rattle.heap_accounts.proofs.HoldLemmas.{places_hold}
use Rattle.heap_accounts.proofs.PlacedLemmas.{placed_grow}
use Rattle.heap_core.specs.ChunkCalls.{GivesChunk, IsChunkDue, IsAskedOf, PerformsChunk}
use Rattle.heap_core.specs.Heap.{IsHeap, run_places}
use Rattle.heap_core.specs.Performs.{PerformsCall}
use Rattle.heap_core.proofs.AskedLemmas.{cache_is, is_known}

module _ (ledger : Ledger) (shelves : List Shelf) (is : IsHeap ledger shelves) where
  -- the places are those of the free chunks
  pub its_places : ArePlacesOf (run_setting ledger) (run_state ledger) (run_places ledger)
  its_places =
      places_hold (run_setting ledger) ledger.entries is.legal.plan.header (record { legal = is.legal.legal; tidy = is.legal.tidy; placed = is.placed }) is.few

  pub shelves_are : length shelves ≡ cache_count (run_setting ledger)
  shelves_are = sym (length-map shelves (λ (s : Shelf). s.stock)) ∙ ap length is.are ∙ its_places.count

  -- the stock of a shelf
  pub stock_is : (cache : ℕ) (shelf : Shelf) → cache < length shelves → shelf ≡ get_or shelves cache shelf → shelf.stock ≡ stock_at (run_places ledger) cache
  stock_is cache shelf within at =
      ap (λ (s : Shelf). s.stock) at ∙ sym (get_or-map (λ (s : Shelf). s.stock) shelves cache shelf (empty_stock 0 0) within)
      ∙ ap (λ (p : List Stock). get_or p cache (empty_stock 0 0)) is.are

  module _ (thread number cache : ℕ) (asked : IsChunkDue ledger thread number cache) where
    pub cache_within : cache < length shelves
    cache_within = omega (arith, shelves_are, is_known ledger thread number cache asked is.legal)

    pub asked_of : (shelf : Shelf) → shelf ≡ get_or shelves cache shelf → IsAskedOf ledger thread number shelf.stock
    asked_of shelf at =
        let known : cache < cache_count (run_setting ledger) = omega (arith, shelves_are, cache_within) in
        let there = stock_is cache shelf cache_within at in
        record {
          legal = is.legal;
          cache = cache;
          asked = asked;
          known = known;
          there = there;
          its = subst (IsStockOf (run_setting ledger) (run_state ledger) cache) (sym there) (its_places.each cache known);
        }

    -- a shelf that kept its stock
    pub heap_kept : (was shelf : Shelf) (new : Ledger) → was ≡ get_or shelves cache was → new ≡ ledger → shelf.stock ≡ was.stock → IsHeap new (set shelves cache shelf)
    heap_kept was shelf new at same kept =
        subst (λ (l : Ledger). IsHeap l (set shelves cache shelf)) (sym same) (record {
          legal = is.legal;
          placed = is.placed;
          few = is.few;
          are = map-set_same (λ (s : Shelf). s.stock) shelves cache shelf was (kept ∙ ap (λ (s : Shelf). s.stock) at) ∙ is.are;
        })

    -- the shelf has the stock that the call leaves
    pub heap_after : (shelf : Shelf) (new : Ledger) (answer : Reply) → IsLedger new → next_chunk (run_setting new) (run_state new) ≤ 2 ^ 32 → PerformsChunk ledger new thread number shelf.stock answer → IsHeap new (set shelves cache shelf)
    heap_after shelf new answer legal few performs =
        let same = cache_is ledger thread number cache asked performs.cache performs.asked in
        record {
          legal = legal;
          placed = placed_now new answer performs.performed;
          few = few;
          are =
              map-set (λ (s : Shelf). s.stock) shelves cache shelf ∙ ap (λ (p : List Stock). set p cache shelf.stock) is.are
              ∙ ap (λ c. with_stock (run_places ledger) c shelf.stock) (sym same) ∙ sym performs.places;
        }
      where
        placed_now : (new : Ledger) (answer : Reply) → PerformsCall ledger new thread number answer → IsPlaced (run_setting new) new.entries
        placed_now new answer does =
            subst (λ (l : Ledger). IsPlaced (run_setting l) l.entries) (sym does.made)
            (placed_grow (run_setting ledger) ledger.entries (length ledger.entries) thread does.inner does.call answer is.legal.legal is.placed does.performed)

    pub turn_heap : (shelf : Shelf) (new : Ledger) (turn : Turn) → IsLedger new → next_chunk (run_setting new) (run_state new) ≤ 2 ^ 32 → GivesChunk ledger new thread number shelf.stock turn → IsHeap new (set shelves cache shelf)
    turn_heap shelf new Behind legal few gives = absurd gives
    turn_heap shelf new (Made answer) legal few gives = heap_after shelf new answer legal few gives

-- A core that tells a run and its places keeps the rules of magazines and depots.
use Rattle.std.proofs.Common.{◌≡◌, ℕ, ◌*◌, ◌/◌, ◌%◌, ◌<◌, true, List, length, get_or, sym, ap, ◌∙◌, subst, arith}
use Rattle.std.specs.Prelude.{Contains}
use Rattle.std.proofs.lemmas.List.{get_or-map, length-map}
use Rattle.std.proofs.lemmas.List.Elements.{Contains-append_left, Contains-append_right, Contains-get_or}
use Rattle.std.proofs.lemmas.List.FromFn.{get_or-map-range_with_len, length-map-range_with_len}
use Rattle.std.proofs.lemmas.Nat.{div_below, mod_below}
use Rattle.core_format.specs.declared.items.CpuPlace.{CpuPlace}
use Rattle.core_format.specs.declared.items.DepotItem.{DepotItem}
use Rattle.core_format.specs.declared.whole.Core.{Core}
use Rattle.core_format.specs.Chunks.{core_shapes}
use Rattle.core_format.specs.Magazines.{is_chunk_of}
use Rattle.core_rules.specs.PlaceRules.{AreRoundsOf, KeepsDepotRules, KeepsPlaceRules, KeepsPlacesRules, magazine_size}
use Rattle.shelf.specs.Stock.{FitsCpu, empty_cpu, empty_stock, magazine_rounds}
use Rattle.plain_heap.specs.Setting.{Setting}
use Rattle.plain_heap.specs.State.{State}
use Rattle.heap_ledger.specs.Ledger.{Ledger, run_setting, run_state}
use Rattle.heap_accounts.specs.Places.{Places, cache_count, stock_at}
use Rattle.heap_pictures.specs.Items.{place_item}
use Rattle.heap_pictures.specs.Laws.{CanBePictured}
use Rattle.heap_pictures.specs.Pictures.{TellsPlaces}
use Rattle.heap_pictures.proofs.HeldLemmas.{AreTold, are_told, depot_in, depot_of, held_in, is_round_of, place_in}
use Rattle.heap_pictures.proofs.OnceLemmas.{rounds_once, rounds_unlisted}
use Rattle.heap_pictures.proofs.PieceLemmas.{All-standing, in_whole}

module _ (setting : Setting) (state : State) (places : Places) (core : Core)
    (told : AreTold setting state places core) where
  -- there is a stock for each cache of the core
  stocks_many : length places ≡ length core.caches
  stocks_many = told.stocks.count ∙ sym told.count

  -- rounds that stand in magazines of a cache's stock are rounds of the cache
  are_rounds : (cache : ℕ) (rounds : List ℕ)
      → ((chunk : ℕ) → Contains rounds chunk → Contains (magazine_rounds (stock_at places cache)) chunk)
      → AreRoundsOf core cache rounds
  are_rounds cache rounds held =
      All-standing (λ (chunk : ℕ). is_chunk_of (core_shapes core) core.slabs cache chunk ≡ true) rounds (λ chunk there.
      is_round_of setting state places core told cache chunk (held_in (stock_at places cache) chunk (held chunk there)))

  -- its magazines have the size that the core has for them
  size_is : (cache : ℕ) → cache < cache_count setting → (stock_at places cache).size ≡ magazine_size core cache
  size_is cache known = (told.stocks.each cache known).size ∙ sym (told.magazine cache known)

  -- the magazines of a CPU for a cache
  keeps_place : (index : ℕ) → index < setting.header.cpus * length places
      → KeepsPlaceRules core index (place_item places index)
  keeps_place index lt =
      let caches = length places in
      let cache = index % caches in
      let cpu = index / caches in
      let stock = stock_at places cache in
      let some : 0 < caches = omega (arith, told.stocks.count) in
      let below : cache < caches = mod_below index caches some in
      let known : cache < cache_count setting = omega (arith, below, told.stocks.count) in
      let its = told.stocks.each cache known in
      let held = get_or stock.cpus cpu empty_cpu in
      let cpu_lt : cpu < length stock.cpus =
      omega (arith, div_below index caches setting.header.cpus some lt, its.cpus) in
      let fits : FitsCpu stock.size held = its.sound.cpus cpu empty_cpu cpu_lt in
      let size = size_is cache known in
      record {
        cpu = ap (λ (n : ℕ). index / n) stocks_many;
        cache = ap (λ (n : ℕ). index % n) stocks_many;
        loaded = record {
          fits = omega (arith, fits.loaded, size);
          own =
              are_rounds cache held.loaded
              (λ chunk there. place_in places index chunk (Contains-append_left held.loaded held.previous chunk there));
        };
        previous = record {
          fits = omega (arith, fits.previous, size);
          own =
              are_rounds cache held.previous
              (λ chunk there. place_in places index chunk
              (Contains-append_right held.loaded held.previous chunk there));
        };
      }

  -- the depot of a cache
  keeps_depot : (cache : ℕ) → cache < length places → KeepsDepotRules core cache (depot_of (stock_at places cache))
  keeps_depot cache lt =
      let stock = stock_at places cache in
      let known : cache < cache_count setting = omega (arith, lt, told.stocks.count) in
      let sound = (told.stocks.each cache known).sound in
      record {
        few = omega (arith, sound.few);
        full = λ k d less. record {
          full = sound.filled k d less ∙ size_is cache known;
          own = are_rounds cache (get_or stock.depot k d) (λ chunk there.
              depot_in stock chunk
              (in_whole (λ (rounds : List ℕ). rounds) stock.depot (get_or stock.depot k d) chunk
              (Contains-get_or stock.depot k d less) there));
        };
      }

  -- all of them
  pub keep_places : KeepsPlacesRules core
  keep_places =
      let many = setting.header.cpus * length places in
      let long : length core.cpu_places ≡ many =
      ap length told.cpu_places ∙ length-map-range_with_len (place_item places) 0 many in
      let depots : length core.depots ≡ length places = ap length told.depots ∙ length-map places depot_of in
      record {
        many = long ∙ ap (λ (n : ℕ). n * length places) (sym told.cpus) ∙ ap (λ (n : ℕ). core.cpus * n) stocks_many;
        places = λ index d lt.
            let within : index < many = omega (arith, lt, long) in
            let its : get_or core.cpu_places index d ≡ place_item places index =
            ap (λ (l : List CpuPlace). get_or l index d) told.cpu_places
            ∙ get_or-map-range_with_len (place_item places) 0 many index index d within (omega arith) in
            subst (KeepsPlaceRules core index) (sym its) (keeps_place index within);
        many_depots = depots ∙ stocks_many;
        depots = λ cache d lt.
            let within : cache < length places = omega (arith, lt, depots) in
            let its : get_or core.depots cache d ≡ depot_of (stock_at places cache) =
            ap (λ (l : List DepotItem). get_or l cache d) told.depots
            ∙ get_or-map depot_of places cache (empty_stock 0 0) d within in
            subst (KeepsDepotRules core cache) (sym its) (keeps_depot cache within);
        unlisted = rounds_unlisted setting state places core told;
        once = rounds_once setting state places core told;
      }

-- a core that tells a run and its places keeps the rules of places
pub keeps_places : (ledger : Ledger) (places : Places) (core : Core) → CanBePictured ledger places
    → TellsPlaces ledger places core → KeepsPlacesRules core
keeps_places ledger places core can tells =
    keep_places (run_setting ledger) (run_state ledger) places core
    (are_told ledger places core can.legal can.places tells)

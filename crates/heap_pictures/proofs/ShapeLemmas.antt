-- The caches of a core that tells a run, and what their slabs are like.
use Rattle.std.proofs.Common.{◌≡◌, ℕ, ◌<◌, List, length, get_or, map, sym, ap, subst, ◌∙◌, arith}
use Rattle.std.proofs.lemmas.List.{get_or-map}
use Rattle.std.proofs.lemmas.List.FromFn.{get_or-map-range_with_len, length-map-range_with_len}
use Rattle.umem_options.specs.Flags.{has_flag}
use Rattle.umem_options.specs.declared.flags.DebugFlags.{DebugFlags}
use Rattle.umem_options.specs.declared.flags.TheConstants.DebugFlags.{GUARDS}
use Rattle.core_format.specs.declared.cache_shape.CacheShape.{CacheShape}
use Rattle.core_format.specs.declared.items.CacheItem.{CacheItem}
use Rattle.core_format.specs.declared.whole.Core.{Core}
use Rattle.core_format.specs.Caches.{shape_of}
use Rattle.core_format.specs.Chunks.{core_shapes, is_guarded_core}
use Rattle.core_format.specs.Slabs.{no_shape, shape_at}
use Rattle.core_rules.specs.Pieces.{cache_item, cache_items_of}
use Rattle.plain_heap.specs.Setting.{Setting, cache_def_in, geometry_in}
use Rattle.heap_ledger.specs.Ledger.{Ledger, run_setting, run_state}
use Rattle.heap_accounts.specs.Places.{cache_count}
use Rattle.heap_pictures.specs.Items.{grows_by_cache}

-- ---- as many caches as the setting has

pub caches_counted : (setting : Setting) (grows : List ℕ) (caches : List CacheItem)
    → caches ≡ cache_items_of setting.header.caches grows → length caches ≡ cache_count setting
caches_counted setting grows caches same =
    ap length same ∙ length-map-range_with_len (cache_item setting.header.caches grows) 0 (cache_count setting)

-- ---- guards

-- guards are on in the core where they are in the run
pub guards_told : (ledger : Ledger) (core : Core) → core.flags ≡ ledger.options.flags
    → is_guarded_core core ≡ (run_setting ledger).guards
guards_told ledger core same = ap (λ (flags : DebugFlags). has_flag flags GUARDS) same

-- ---- shapes

-- what the slabs of a cache of a setting are like
abbrev pub shape_in_setting : Setting → ℕ → CacheShape
shape_in_setting setting cache = record {
  align = (cache_def_in setting cache).align;
  chunk = (geometry_in setting cache).chunk;
  pages = (geometry_in setting cache).pages;
  rounds = (geometry_in setting cache).rounds;
  leftover = (geometry_in setting cache).leftover;
  magazine = (geometry_in setting cache).magazine;
}

-- the cache of a number, where caches are those of a setting
pub cache_told : (setting : Setting) (grows : List ℕ) (caches : List CacheItem) (cache : ℕ) (d : CacheItem)
    → caches ≡ cache_items_of setting.header.caches grows → cache < cache_count setting
    → get_or caches cache d ≡ cache_item setting.header.caches grows cache
cache_told setting grows caches cache d same lt =
    ap (λ (items : List CacheItem). get_or items cache d) same
    ∙ get_or-map-range_with_len (cache_item setting.header.caches grows) 0 (cache_count setting) cache cache d lt
    (omega arith)

-- its shape is that of the setting
shape_of_told : (setting : Setting) (grows : List ℕ) (caches : List CacheItem) (cache : ℕ)
    → caches ≡ cache_items_of setting.header.caches grows → cache < cache_count setting
    → shape_at (map (shape_of setting.guards) caches) cache ≡ shape_in_setting setting cache
shape_of_told setting grows caches cache same lt =
    let d : CacheItem = cache_item setting.header.caches grows cache in
    let within : cache < length caches = omega (arith, caches_counted setting grows caches same) in
    get_or-map (shape_of setting.guards) caches cache d no_shape within
    ∙ ap (shape_of setting.guards) (cache_told setting grows caches cache d same lt)

-- so it is in a core that tells a run
pub shape_told : (ledger : Ledger) (core : Core) (cache : ℕ)
    → core.caches ≡ cache_items_of ledger.plan.header.caches (grows_by_cache (run_setting ledger) (run_state ledger))
    → core.flags ≡ ledger.options.flags
    → cache < cache_count (run_setting ledger)
    → shape_at (core_shapes core) cache ≡ shape_in_setting (run_setting ledger) cache
shape_told ledger core cache caches flags lt =
    let setting = run_setting ledger in
    subst (λ guards. shape_at (map (shape_of guards) core.caches) cache ≡ shape_in_setting setting cache)
    (sym (guards_told ledger core flags))
    (shape_of_told setting (grows_by_cache setting (run_state ledger)) core.caches cache caches lt)

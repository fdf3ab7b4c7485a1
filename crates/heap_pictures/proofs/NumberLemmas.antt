-- A core that tells a run keeps the rules of its numbers, of its root segments and of what its version has.
use Rattle.std.proofs.Common.{◌≡◌, ℕ, zero, suc, ◌+◌, ◌-◌, ◌*◌, ◌/◌, ◌^◌, ◌<◌, ◌≤◌, ◌⊎◌, inl, inr, Bool, true, false, not, ◌||◌, cond, eqb, leb, ltb, List, [], ◌∷◌, length, get_or, map, Option, Some, None, refl, sym, ap, ◌∙◌, subst, arith}
use Rattle.std.specs.Prelude.{All}
use Rattle.std.specs.Int as int
use Rattle.std.specs.Int.{from_le_bytes}
use Rattle.std.specs.List.{AllByRecursion, range_with_len}
use Rattle.std.proofs.lemmas.Bool.{and_from, le-leb}
use Rattle.std.proofs.lemmas.List.{length-drop}
use Rattle.std.proofs.lemmas.List.Elements.{All-map, All-nil, All-same}
use Rattle.std.proofs.lemmas.List.FromFn.{length-map-range_with_len}
use Rattle.std.proofs.lemmas.Nat.{div_below}
use Rattle.std.proofs.Math.Nat.{mul-le-mul_left}
use Rattle.std.proofs.Math.ListN.{drop_of_length-le}
use Rattle.umem_base.specs.Roots.{own_root}
use Rattle.umem_base.specs.declared.roots.TheConstants.{ROOT_WORDS, SHARED_ROOT}
use Rattle.umem_options.specs.Capacity.{contents_capacity, contents_count, fail_capacity, transaction_capacity}
use Rattle.umem_options.specs.Flags.{bits_of, has_audit, has_guards}
use Rattle.umem_options.specs.Limits.{IsLogging, IsOptions}
use Rattle.umem_options.specs.declared.flags.DebugFlags.{DebugFlags}
use Rattle.umem_options.specs.declared.limits.TheConstants.{MOST_FAILS, MOST_SAVED, MOST_TRANSACTIONS}
use Rattle.umem_options.specs.declared.options.Logging.{Logging}
use Rattle.umem_options.specs.declared.options.Options.{Options}
use Rattle.trans_log.specs.Last.{last_of}
use Rattle.trans_log.specs.declared.record.Saved.{Saved}
use Rattle.case_table.specs.CacheDef.{class_def}
use Rattle.case_table.specs.declared.cache_def.CacheDef.{CacheDef}
use Rattle.case_table.specs.declared.limits.TheConstants.{CLASS_COUNT, MOST_CACHES}
use Rattle.core_format.specs.Header.{has_contents_log, has_known_flags}
use Rattle.core_format.specs.declared.items.CacheItem.{CacheItem}
use Rattle.core_format.specs.declared.items.OwnRoot.{OwnRoot}
use Rattle.core_format.specs.declared.whole.Core.{Core}
use Rattle.core_rules.specs.HeaderRules.{IsOfFirstVersion, IsOfSecondVersion, IsSegment, IsVersion, KeepsNumberRules, KeepsSegmentRules, KeepsVersionRules}
use Rattle.core_rules.specs.Pieces.{cache_item}
use Rattle.script.specs.Rules.{IsConstructor, IsDeclarable, IsHeader}
use Rattle.script.specs.declared.tree.Header.{Header}
use Rattle.plain_heap.specs.Bytes.{Bytes, word_at}
use Rattle.plain_heap.specs.Setting.{def_of}
use Rattle.heap_ledger.specs.Ledger.{Ledger, run_setting, run_state}
use Rattle.heap_logs.specs.Fails.{fails_of}
use Rattle.heap_logs.specs.Transactions.{transactions_of}
use Rattle.heap_logs.specs.Saved.{saved_items}
use Rattle.heap_accounts.specs.Places.{Places, cache_count}
use Rattle.heap_pictures.specs.Items.{grows_by_cache, own_item, page_words}
use Rattle.heap_pictures.specs.Laws.{CanBePictured}
use Rattle.heap_pictures.specs.Pictures.{TellsPlaces}
use Rattle.heap_pictures.proofs.ByteLemmas.{AreBytes, are_bytes}
use Rattle.heap_pictures.proofs.ShapeLemmas.{caches_counted}

-- ---- flags

-- where one test implies another, one fails or the other passes
implied : (a b : Bool) → (a ≡ true → b ≡ true) → (not a || b) ≡ true
implied true b h = h refl
implied false b h = refl

known_flags : (options : Options) → IsOptions options → has_known_flags (bits_of options.flags) ≡ true
known_flags options is =
    and_from (leb (bits_of options.flags) 7) (not (has_audit options) || has_guards options) (le-leb (bits_of options.flags) 7 (omega (arith, is.flags))) (implied (has_audit options) (has_guards options) is.guarded)

-- ---- capacities

-- a quotient by more is no more
quotient : (n k extra most : ℕ) → 0 < k → n < (most + 1) * k → n / (k + extra) ≤ most
quotient n k extra most some small =
    let grows : (most + 1) * k ≤ (most + 1) * (k + extra) = mul-le-mul_left (most + 1) (omega arith) in
    let below = div_below n (k + extra) (most + 1) (omega arith) (omega (arith, small, grows)) in
    omega (arith, below)

pub transactions_fit : (logging : Logging) (options : Options) → IsLogging logging → transaction_capacity logging options ≤ MOST_TRANSACTIONS
transactions_fit logging options is = by_audit (has_audit options)
  where
    by_audit : (b : Bool) → cond b (logging.transaction / (64 + 8 * options.frames)) 0 ≤ MOST_TRANSACTIONS
    by_audit true = quotient logging.transaction 64 (8 * options.frames) MOST_TRANSACTIONS (omega arith) (omega (arith, is.transaction))
    by_audit false = omega arith

pub fails_fit : (logging : Logging) → IsLogging logging → fail_capacity logging ≤ MOST_FAILS
fails_fit logging is = omega (arith, is.fail)

-- a contents log has its bound, and none is without audit
contents_fit : (logging : Logging) (options : Options) → IsLogging logging → has_contents_log (bits_of options.flags) (contents_capacity logging options) ≡ true
contents_fit logging options is = by_audit (has_audit options) refl
  where
    by_audit : (b : Bool) → has_audit options ≡ b → has_contents_log (bits_of options.flags) (cond b (logging.contents / (24 + contents_count options)) 0) ≡ true
    by_audit true on =
        let capacity = logging.contents / (24 + contents_count options) in
        and_from (leb capacity MOST_SAVED) (eqb capacity 0 || has_audit options) (le-leb capacity MOST_SAVED (quotient logging.contents 24 (contents_count options) MOST_SAVED (omega arith) (omega (arith, is.contents))))
        (or_on (eqb capacity 0) (has_audit options) on)
      where
        or_on : (a b : Bool) → b ≡ true → (a || b) ≡ true
        or_on true b on = refl
        or_on false b on = on
    by_audit false off = refl

-- ---- the last items

pub last_none : {X : Type 0} (xs : List X) → last_of 0 xs ≡ []
last_none xs = drop_of_length-le xs (omega arith)

pub last_few : {X : Type 0} (capacity : ℕ) (xs : List X) → length (last_of capacity xs) ≤ capacity
last_few capacity xs = omega (arith, length-drop (length xs - capacity) xs)

-- ---- words

eight_small : (a b c d e f g h : ℕ) → a < 256 → b < 256 → c < 256 → d < 256 → e < 256 → f < 256 → g < 256 → h < 256 → from_le_bytes int.w64 (a ∷ b ∷ c ∷ d ∷ e ∷ f ∷ g ∷ h ∷ []) < 2 ^ 64
eight_small a b c d e f g h pa pb pc pd pe pf pg ph = omega arith

word_small : (bytes : Bytes) (at : ℕ) → AreBytes bytes → word_at bytes at < 2 ^ 64
word_small bytes at are =
    eight_small (bytes at) (bytes (at + 1)) (bytes (at + 2)) (bytes (at + 3)) (bytes (at + 4)) (bytes (at + 5)) (bytes (at + 6)) (bytes (at + 7))
    (are at) (are (at + 1)) (are (at + 2)) (are (at + 3)) (are (at + 4)) (are (at + 5)) (are (at + 6)) (are (at + 7))

-- the words of a root page are a segment
root_segment : (bytes : Bytes) (base : ℕ) → AreBytes bytes → IsSegment (page_words bytes base)
root_segment bytes base are = record {
  many = length-map-range_with_len (λ word. word_at bytes (base + 8 * word)) 0 ROOT_WORDS;
  fit = All-map (λ (w : ℕ). w < 2 ^ 64) (λ word. word_at bytes (base + 8 * word)) (range_with_len 0 ROOT_WORDS)
      (λ k d lt. word_small bytes (base + 8 * get_or (range_with_len 0 ROOT_WORDS) k d) are);
}

-- ---- constructors

-- in version 1 no cache has a constructor
no_ctor : (header : Header) (cache : ℕ) → IsHeader header → header.version ≡ 1 → (def_of header.caches cache).ctor ≡ None
no_ctor header cache is one = by_test (ltb cache CLASS_COUNT)
  where
    unconstructed : (version : ℕ) (ctor : Option ℕ) → version ≡ 1 → IsConstructor version ctor → ctor ≡ None
    unconstructed version None one is = refl
    unconstructed version (Some byte) one is = absurd (omega (arith, is.0, one))

    declared : (defs : List CacheDef) (i : ℕ) (d : CacheDef) → AllByRecursion (IsDeclarable header.version) defs → d.ctor ≡ None → (get_or defs i d).ctor ≡ None
    declared [] i d are none = none
    declared (def ∷ defs) zero d are none = unconstructed header.version def.ctor one are.0.ctor
    declared (def ∷ defs) (suc i) d are none = declared defs i d are.1 none

    by_test : (b : Bool) → (cond b (class_def cache) (get_or header.caches (cache - CLASS_COUNT) (class_def 0))).ctor ≡ None
    by_test true = refl
    by_test false = declared header.caches (cache - CLASS_COUNT) (class_def 0) is.caches refl

-- ---- the rules

module _ (ledger : Ledger) (places : Places) (core : Core) (can : CanBePictured ledger places) (tells : TellsPlaces ledger places core) where
  header_is : IsHeader ledger.plan.header
  header_is = can.legal.plan.header

  -- the numbers at the head
  pub keeps_numbers : KeepsNumberRules core
  keeps_numbers =
      let told = tells.tells.numbers in
      record {
        version = subst IsVersion (sym told.version) header_is.version;
        flags = ap (λ (flags : DebugFlags). has_known_flags (bits_of flags)) told.flags ∙ known_flags ledger.options can.options;
        frames = omega (arith, told.frames, can.options.frames);
        contents = omega (arith, told.contents, can.options.contents);
        some_cpus = omega (arith, told.cpus, header_is.cpus.0);
        cpus = omega (arith, told.cpus, header_is.cpus.1);
        trans_capacity = omega (arith, told.trans_capacity, transactions_fit ledger.logging ledger.options can.logging);
        fail_capacity = omega (arith, told.fail_capacity, fails_fit ledger.logging can.logging);
        next_chunk = omega (arith, told.next_chunk, can.chunks);
        entries = omega (arith, told.entries, can.entries);
      }

  -- in version 2 each thread has a root page
  own_told : ledger.plan.header.version ≡ 2 → core.own ≡ map (own_item (run_state ledger).bytes) (range_with_len 0 ledger.plan.header.threads)
  own_told two =
      tells.tells.roots.own ∙ ap (λ v. cond (eqb v 2) (map (own_item (run_state ledger).bytes) (range_with_len 0 ledger.plan.header.threads)) []) two

  first_version : ledger.plan.header.version ≡ 1 → IsOfFirstVersion core
  first_version one =
      let its = tells.tells in
      let grows = grows_by_cache (run_setting ledger) (run_state ledger) in
      record {
        own = its.roots.own ∙ ap (λ v. cond (eqb v 2) (map (own_item (run_state ledger).bytes) (range_with_len 0 ledger.plan.header.threads)) []) one;
        contents_capacity = its.numbers.contents_capacity ∙ ap (λ v. cond (eqb v 2) (contents_capacity ledger.logging ledger.options) 0) one;
        saved = its.logs.saved ∙ ap (λ v. last_of (cond (eqb v 2) (contents_capacity ledger.logging ledger.options) 0) (saved_items ledger.options (run_setting ledger) ledger.entries)) one
            ∙ last_none (saved_items ledger.options (run_setting ledger) ledger.entries);
        ctors = All-same (λ (item : CacheItem). item.def.ctor ≡ None) core.caches (map (cache_item ledger.plan.header.caches grows) (range_with_len 0 (cache_count (run_setting ledger)))) its.caches
            (All-map (λ (item : CacheItem). item.def.ctor ≡ None) (cache_item ledger.plan.header.caches grows) (range_with_len 0 (cache_count (run_setting ledger)))
            (λ k d lt. no_ctor ledger.plan.header (get_or (range_with_len 0 (cache_count (run_setting ledger))) k d) header_is one));
      }

  second_version : ledger.plan.header.version ≡ 2 → IsOfSecondVersion core
  second_version two =
      let its = tells.tells in
      let count : length core.own ≡ ledger.plan.header.threads = ap length (own_told two) ∙ length-map-range_with_len (own_item (run_state ledger).bytes) 0 ledger.plan.header.threads in
      let capacity : core.contents_capacity ≡ contents_capacity ledger.logging ledger.options = its.numbers.contents_capacity ∙ ap (λ v. cond (eqb v 2) (contents_capacity ledger.logging ledger.options) 0) two in
      record {
        some_threads = omega (arith, count, header_is.threads.0);
        threads = omega (arith, count, header_is.threads.1);
        contents_capacity = ap (λ (flags : DebugFlags). has_contents_log (bits_of flags) core.contents_capacity) its.numbers.flags
            ∙ ap (has_contents_log (bits_of ledger.options.flags)) capacity ∙ contents_fit ledger.logging ledger.options can.logging;
        saved = subst (λ (items : List Saved). length items ≤ core.contents_capacity) (sym its.logs.saved) (subst (λ c. length (last_of c (saved_items ledger.options (run_setting ledger) ledger.entries)) ≤ core.contents_capacity) its.numbers.contents_capacity
            (last_few core.contents_capacity (saved_items ledger.options (run_setting ledger) ledger.entries)));
      }

  -- what its version has
  pub keeps_version : KeepsVersionRules core
  keeps_version = record {
    first = λ one. first_version (sym tells.tells.numbers.version ∙ one);
    second = λ two. second_version (sym tells.tells.numbers.version ∙ two);
  }

  own_segments : (ledger.plan.header.version ≡ 1) ⊎ (ledger.plan.header.version ≡ 2) → All (λ own. IsSegment own.words) core.own
  own_segments (inl one) = All-same (λ (own : OwnRoot). IsSegment own.words) core.own [] (first_version one).own (All-nil (λ (own : OwnRoot). IsSegment own.words))
  own_segments (inr two) =
      let bytes = (run_state ledger).bytes in
      let threads = range_with_len 0 ledger.plan.header.threads in
      All-same (λ (own : OwnRoot). IsSegment own.words) core.own (map (own_item bytes) threads) (own_told two)
      (All-map (λ (own : OwnRoot). IsSegment own.words) (own_item bytes) threads (λ k d lt. root_segment bytes (own_root (get_or threads k d)) (are_bytes ledger can.legal)))

  -- its segments are words
  pub keeps_segments : KeepsSegmentRules core
  keeps_segments = record {
    root = subst IsSegment (sym tells.tells.roots.root) (root_segment (run_state ledger).bytes SHARED_ROOT (are_bytes ledger can.legal));
    own = own_segments header_is.version;
  }

  -- ---- counts

  count_is : length core.caches ≡ CLASS_COUNT + length ledger.plan.header.caches
  count_is = caches_counted (run_setting ledger) (grows_by_cache (run_setting ledger) (run_state ledger)) core.caches tells.tells.caches

  pub classes_there : CLASS_COUNT ≤ length core.caches
  classes_there = omega (arith, count_is)

  pub caches_few : length core.caches ≤ MOST_CACHES
  caches_few = omega (arith, count_is, header_is.count)

  pub trans_few : length core.trans ≤ core.trans_capacity
  trans_few =
      let its = transactions_of ledger.options (run_setting ledger) ledger.entries in
      omega (arith, ap length tells.tells.logs.trans, last_few (transaction_capacity ledger.logging ledger.options) its, tells.tells.numbers.trans_capacity)

  pub fails_few : length core.fails ≤ core.fail_capacity
  fails_few =
      let its = fails_of ledger.plan.header.caches ledger.entries in
      omega (arith, ap length tells.tells.logs.fails, last_few (fail_capacity ledger.logging) its, tells.tells.numbers.fail_capacity)

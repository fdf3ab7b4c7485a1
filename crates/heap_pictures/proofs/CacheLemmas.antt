-- A core that tells a run keeps the rules of caches.
use Rattle.std.proofs.Common.{◌≡◌, ℕ, ◌+◌, ◌-◌, ◌^◌, ◌<◌, ◌≤◌, inl, inr, Bool, true, false, not, cond, eqb, List, [], ◌∷◌, length, drop, get_or, Option, Some, None, refl, sym, ap, ◌∙◌, subst, arith}
use Rattle.std.specs.Prelude.{All, AllPairs, count_by, sum_by}
use Rattle.std.proofs.lemmas.Bool.{and_parts, cases_lt}
use Rattle.std.proofs.lemmas.List.{get_or-drop, get_or_past, length-drop}
use Rattle.std.proofs.lemmas.List.Elements.{All-from_recursion}
use Rattle.std.proofs.lemmas.List.FromFn.{get_or-map-range_with_len}
use Rattle.std.proofs.lemmas.List.Sums.{sum_by-cons}
use Rattle.case_table.specs.CacheDef.{class_def}
use Rattle.case_table.specs.CacheName.{is_cache_name, is_reserved_name}
use Rattle.case_table.specs.Geometry.{geometry_of}
use Rattle.case_table.specs.declared.cache_def.CacheDef.{CacheDef}
use Rattle.case_table.specs.declared.limits.TheConstants.{CLASS_COUNT}
use Rattle.core_format.specs.declared.items.CacheItem.{CacheItem}
use Rattle.core_format.specs.declared.whole.Core.{Core}
use Rattle.core_rules.specs.CacheRules.{AreNamedApart, IsByteIfAny, IsClass, IsDeclared, KeepsCacheRules}
use Rattle.core_rules.specs.Pieces.{cache_item}
use Rattle.script.specs.Rules.{IsConstructor, IsDeclarable, IsHeader}
use Rattle.plain_heap.specs.Setting.{Setting, cache_def_in, geometry_in}
use Rattle.plain_heap.specs.State.{State, grows_of, next_chunk}
use Rattle.plain_heap.proofs.SettingLemmas.{def_of-class, def_of-declared, geometry_in-sound}
use Rattle.heap_ledger.specs.Ledger.{Ledger, run_setting, run_state}
use Rattle.heap_accounts.specs.Places.{Places, cache_count}
use Rattle.heap_pictures.specs.Items.{grows_by_cache}
use Rattle.heap_pictures.specs.Laws.{CanBePictured}
use Rattle.heap_pictures.specs.Pictures.{TellsPlaces}
use Rattle.heap_pictures.proofs.ShapeLemmas.{cache_told, caches_counted}

-- ---- how many slabs a cache made

-- a slab of any cache number has some rounds: a number past the caches is taken for the first class
rounds_some : (setting : Setting) (cache : ℕ) → IsHeader setting.header → 1 ≤ (geometry_in setting cache).rounds
rounds_some setting cache header = elim (cases_lt cache (cache_count setting)) [
  | inl lt ↦
      let many = (geometry_in-sound setting cache header lt).rounds_many in
      omega (arith, many)
  | inr past ↦
      let caches = setting.header.caches in
      let first : cache_def_in setting cache ≡ cache_def_in setting 0 =
      def_of-declared caches cache (omega (arith, past)) ∙ get_or_past caches (cache - 32) (class_def 0) (omega (arith, past)) ∙ sym (def_of-class caches 0 (omega arith)) in
      let many = (geometry_in-sound setting 0 header (omega arith)).rounds_many in
      subst (λ (def : CacheDef). 1 ≤ (geometry_of def.size def.align setting.guards).rounds) (sym first) (omega (arith, many))
]

one_at_most : (b : Bool) → cond {A = ℕ} b 1 0 ≤ 1
one_at_most true = omega arith
one_at_most false = omega arith

-- each slab that was made has a chunk at least
counted_below : (rounds : ℕ → ℕ) (p : ℕ → Bool) (grown : List ℕ) → ((cache : ℕ) → 1 ≤ rounds cache) → count_by p grown ≤ sum_by rounds grown
counted_below rounds p [] some = omega arith
counted_below rounds p (cache ∷ grown) some =
    let count = sum_by-cons (λ (x : ℕ). cond {A = ℕ} (p x) 1 0) cache grown in
    let sum = sum_by-cons rounds cache grown in
    omega (arith, count, sum, one_at_most (p cache), some cache, counted_below rounds p grown some)

grows_below : (setting : Setting) (state : State) (cache : ℕ) → IsHeader setting.header → grows_of state cache ≤ next_chunk setting state
grows_below setting state cache header =
    counted_below (λ c. (geometry_in setting c).rounds) (λ grown. eqb grown cache) state.grown (λ c. rounds_some setting c header)

-- ---- declared caches

false_of_not : (b : Bool) → not b ≡ true → b ≡ false
false_of_not true e = absurd (cc e)
false_of_not false e = refl

ctor_is_byte : (version : ℕ) (ctor : Option ℕ) → IsConstructor version ctor → IsByteIfAny ctor
ctor_is_byte version None is = tt
ctor_is_byte version (Some byte) is = is.1

-- what a script may declare, a core may
declared_of : (version : ℕ) (item : CacheItem) → IsDeclarable version item.def → IsDeclared item
declared_of version item is =
    let named = and_parts (is_cache_name item.def.name) (not (is_reserved_name item.def.name)) is.name in
    record {
      named = named.0;
      free = false_of_not (is_reserved_name item.def.name) named.1;
      some = is.size.0;
      fits = is.size.1;
      aligned = is.align;
      ctor = ctor_is_byte version item.def.ctor is.ctor;
    }

-- ---- the rules

module _ (ledger : Ledger) (places : Places) (core : Core) (can : CanBePictured ledger places) (tells : TellsPlaces ledger places core) where
  defs : List CacheDef
  defs = ledger.plan.header.caches

  grows : List ℕ
  grows = grows_by_cache (run_setting ledger) (run_state ledger)

  count_is : length core.caches ≡ CLASS_COUNT + length ledger.plan.header.caches
  count_is = caches_counted (run_setting ledger) (grows_by_cache (run_setting ledger) (run_state ledger)) core.caches tells.tells.caches

  told : (cache : ℕ) (d : CacheItem) → cache < cache_count (run_setting ledger) → get_or core.caches cache d ≡ cache_item ledger.plan.header.caches (grows_by_cache (run_setting ledger) (run_state ledger)) cache
  told cache d lt = cache_told (run_setting ledger) (grows_by_cache (run_setting ledger) (run_state ledger)) core.caches cache d tells.tells.caches lt

  -- the size classes come first
  classes_told : (class : ℕ) (d : CacheItem) → class < CLASS_COUNT → IsClass class (get_or core.caches class d)
  classes_told class d lt =
      let is : (get_or core.caches class d).def ≡ class_def class = ap (λ (item : CacheItem). item.def) (told class d (omega (arith, lt))) ∙ def_of-class ledger.plan.header.caches class lt in
      record {
        name = ap (λ (def : CacheDef). def.name) is;
        size = ap (λ (def : CacheDef). def.size) is;
        align = ap (λ (def : CacheDef). def.align) is;
        ctor = ap (λ (def : CacheDef). def.ctor) is;
      }

  -- and behind them stand the declared caches
  behind_classes : (k : ℕ) (d : CacheItem) → k < length ledger.plan.header.caches → (get_or (drop CLASS_COUNT core.caches) k d).def ≡ get_or ledger.plan.header.caches k (class_def 0)
  behind_classes k d lt =
      let back : (32 + k) - 32 ≡ k = omega arith in
      ap (λ (item : CacheItem). item.def) (get_or-drop 32 core.caches k d ∙ told (32 + k) d (omega (arith, lt)))
      ∙ def_of-declared ledger.plan.header.caches (32 + k) (omega arith) ∙ ap (λ n. get_or ledger.plan.header.caches n (class_def 0)) back

  declared_few : (k : ℕ) → k < length (drop CLASS_COUNT core.caches) → k < length ledger.plan.header.caches
  declared_few k lt = omega (arith, length-drop 32 core.caches, count_is, lt)

  all_declared : All IsDeclared (drop CLASS_COUNT core.caches)
  all_declared k d lt =
      let header = can.legal.plan.header in
      let less = declared_few k lt in
      let its = All-from_recursion (IsDeclarable ledger.plan.header.version) ledger.plan.header.caches header.caches k (class_def 0) less in
      declared_of ledger.plan.header.version (get_or (drop CLASS_COUNT core.caches) k d) (subst (IsDeclarable ledger.plan.header.version) (sym (behind_classes k d less)) its)

  named_apart : AllPairs AreNamedApart (drop CLASS_COUNT core.caches)
  named_apart i j d less lt same =
      let below = declared_few j lt in
      let one = behind_classes i d (omega (arith, less, below)) in
      let other = behind_classes j d below in
      can.legal.plan.header.names i j (class_def 0) less below (ap (λ (def : CacheDef). def.name) (sym one) ∙ same ∙ ap (λ (def : CacheDef). def.name) other)

  grows_small : All (λ item. item.grows < 2 ^ 32) core.caches
  grows_small k d lt =
      let setting = run_setting ledger in
      let state = run_state ledger in
      let less : k < cache_count setting = omega (arith, count_is, lt) in
      let is : (get_or core.caches k d).grows ≡ grows_of state k =
      ap (λ (item : CacheItem). item.grows) (told k d less) ∙ get_or-map-range_with_len (grows_of state) 0 (cache_count setting) k k 0 less (omega arith) in
      omega (arith, is, grows_below setting state k can.legal.plan.header, can.chunks)

  -- its caches
  pub keeps_caches : KeepsCacheRules core
  keeps_caches = record {
    classes = classes_told;
    declared = all_declared;
    apart = named_apart;
    grows = grows_small;
  }

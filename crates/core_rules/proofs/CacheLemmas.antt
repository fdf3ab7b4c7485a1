-- The caches are read where the rules hold.
use Rattle.std.proofs.Common.{◌≡◌, ℕ, zero, suc, ◌+◌, ◌-◌, ◌<◌, ◌≤◌, Bool, true, false, cond, leb, ltb, List, [], ◌∷◌, ◌++◌, length, take, drop, get_or, Option, Some, None, Ok, refl, sym, ap, subst, ◌∙◌, arith, inl, inr, ◌⊎◌}
use Rattle.std.specs.Prelude.{All, not, nat_eq, ◌==◌, ◌^◌, ◌≢◌}
use Rattle.std.specs.Cmp.Lexicographic.{pointwise, same_text}
use Rattle.std.specs.List.{flat_map, list_all, position_or_len}
use Rattle.std.proofs.lemmas.Bool.{and_from, and_parts, cases_lt, eq-eqb, eqb-true, false_from_ne_true, le-leb, le-ltb, lt-ltb, ne_eqb, not_from_false}
use Rattle.std.proofs.lemmas.List.{drop_at, get_or-drop, get_or_append_left, length-append, length-drop, take_at}
use Rattle.std.proofs.lemmas.List.Sums.{position_or_len_is}
use Rattle.case_table.specs.CacheName.{class_name, is_cache_name, is_name_byte, is_reserved_name}
use Rattle.case_table.specs.Record.{Fit, spelling}
use Rattle.case_table.specs.Sizes.{size_of}
use Rattle.case_table.proofs.CacheNameLemmas.{class_name-formed, class_name-reserved, name_byte, named}
use Rattle.case_table.proofs.GeometryLemmas.{align_cases}
use Rattle.case_table.proofs.RecordLemmas.{length-spelling}
use Rattle.case_table.proofs.SizesLemmas.{size_of-small}
use Rattle.core_format.specs.declared.items.CacheItem.{CacheItem}
use Rattle.core_format.specs.declared.limits.TheConstants.{NAME_PADDING, NO_CTOR}
use Rattle.core_format.specs.declared.whole.Core.{Core}
use Rattle.core_format.specs.Caches.{cache_bytes, cache_item_at, cache_numbers, cache_numbers_at, ctor_of, first_numbers_at, is_align_of, is_ctor_of, is_name_behind, is_padded, is_size_of, is_unused, is_zero, later_numbers_at, number_rules, padded_length, padded_name}
use Rattle.core_format.specs.Items.{items_at}
use Rattle.core_format.specs.Reader.{Reader, bytes_at}
use Rattle.core_format.specs.Spelling.{ctor_number, header_of_core, spelled_cache, spelled_name}
use Rattle.core_format.proofs.SpellingLemmas.{rest}
use Rattle.core_rules.specs.CacheRules.{AreNamedApart, IsByteIfAny, IsClass, IsDeclared, KeepsCacheRules}
use Rattle.core_rules.specs.Rules.{KeepsTheRules}
use Rattle.core_rules.proofs.BeforeLemmas.{item_so, split_bound, split_is}
use Rattle.core_rules.proofs.GivesLemmas.{Gives, bytes_give, gives_ok, gives_record, gives_rule, gives_step, gives_then, items_give, kept, kept_then, room_for}
use Rattle.core_rules.proofs.LogLemmas.{record_front}

-- ---- names in their fields

zero_at : (xs : List ℕ) (i : ℕ) → list_all is_zero xs ≡ true → get_or xs i 0 ≡ 0
zero_at [] i e = refl
zero_at (x ∷ xs) zero e = eqb-true x 0 (and_parts (is_zero x) (list_all is_zero xs) e).0
zero_at (x ∷ xs) (suc i) e = zero_at xs i (and_parts (is_zero x) (list_all is_zero xs) e).1

pub zeros-drop : (n : ℕ) (xs : List ℕ) → list_all is_zero xs ≡ true → list_all is_zero (drop n xs) ≡ true
zeros-drop zero xs a = a
zeros-drop (suc n) [] a = refl
zeros-drop (suc n) (x ∷ xs) a = zeros-drop n xs (and_parts (is_zero x) (list_all is_zero xs) a).1

-- a name that fits its field, with no zero in it
pub record IsFieldName (name : List ℕ) : Type 0 where
  pub short : length name ≤ 31
  pub some : All (λ byte. 0 < byte) name

abbrev padding : List ℕ → List ℕ
padding name = drop (length name) NAME_PADDING

field_long : (name : List ℕ) → length name ≤ 31 → length (spelled_name name) ≡ 32
field_long name short = omega (arith, length-append name (padding name), length-drop (length name) NAME_PADDING)

-- the first zero of the field stands behind the name
padded_at : (name : List ℕ) → IsFieldName name → padded_length (spelled_name name) ≡ length name
padded_at name is =
    let field = spelled_name name in
    let zeros : list_all is_zero (padding name) ≡ true = zeros-drop (length name) NAME_PADDING refl in
    let long = field_long name is.short in
    let before : (k : ℕ) → k < length name → is_zero (get_or field k 0) ≡ false =
    λ k lt. ap is_zero (get_or_append_left name (padding name) 0 k lt) ∙ ne_eqb (get_or name k 0) 0 (λ same. omega (arith, is.some k 0 lt)) in
    let here : is_zero (get_or field (length name) 0) ≡ true = ap is_zero (behind_at name (padding name)) ∙ eq-eqb (get_or (padding name) 0 0) 0 (zero_at (padding name) 0 zeros) in
    let place : position_or_len is_zero field ≡ length name = position_or_len_is is_zero field (length name) 0 (omega (arith, long, is.short)) before (λ lt. here) in
    rw (place, lt-ltb (length name) (length field) (omega (arith, long, is.short))) refl
  where
    behind_at : (xs ys : List ℕ) → get_or (xs ++ ys) (length xs) 0 ≡ get_or ys 0 0
    behind_at [] ys = refl
    behind_at (x ∷ xs) ys = behind_at xs ys

name_is : (name : List ℕ) → IsFieldName name → padded_name (spelled_name name) ≡ name
name_is name is = ap (λ (n : ℕ). take n (spelled_name name)) (padded_at name is) ∙ take_at name (padding name) (length name) refl

name_padded : (name : List ℕ) → IsFieldName name → is_padded (spelled_name name) ≡ true
name_padded name is =
    ap (λ (n : ℕ). list_all is_zero (drop n (spelled_name name))) (padded_at name is) ∙ ap (list_all is_zero) (drop_at name (padding name) (length name) refl) ∙ zeros-drop (length name) NAME_PADDING refl

-- a formed name is such a one
pub all_at : (p : ℕ → Bool) (xs : List ℕ) → list_all p xs ≡ true → All (λ x. p x ≡ true) xs
all_at p [] e k d lt = absurd (omega arith)
all_at p (x ∷ xs) e zero d lt = (and_parts (p x) (list_all p xs) e).0
all_at p (x ∷ xs) e (suc k) d lt = all_at p xs (and_parts (p x) (list_all p xs) e).1 k d (omega arith)

pub field_name : (name : List ℕ) → is_cache_name name ≡ true → IsFieldName name
field_name name formed =
    let is = named name formed in
    record { short = is.short; some = λ k d lt. omega (arith, (name_byte (get_or name k d) (all_at is_name_byte name is.bytes k d lt)).0) }

-- ---- the rules of a cache

-- what the tests of a cache's fields say
pub record PassesAt (cache : ℕ) (x : CacheItem) (before : List CacheItem) : Type 0 where
  pub formed : is_cache_name x.def.name ≡ true
  pub name : is_name_behind before x.def.name ≡ true
  pub size : is_size_of cache x.def.size ≡ true
  pub align : is_align_of cache x.def.align ≡ true
  pub ctor : is_ctor_of cache (ctor_number x.def.ctor) ≡ true
  pub byte : IsByteIfAny x.def.ctor
  pub size_small : x.def.size ≤ 4096
  pub align_small : x.def.align ≤ 64

same_pointwise : (xs : List ℕ) → pointwise nat_eq xs xs ≡ true
same_pointwise [] = refl
same_pointwise (x ∷ xs) = and_from _ _ (eq-eqb x x refl) (same_pointwise xs)

class_passes : (class : ℕ) (x : CacheItem) (before : List CacheItem) → length before ≡ class → class < 32 → IsClass class x → PassesAt class x before
class_passes class x before long lt is =
    let first : ltb class 32 ≡ true = lt-ltb class 32 lt in
    record {
      formed = rw is.name (class_name-formed class lt);
      name = rw (long, first, is.name) (same_pointwise (class_name class));
      size = rw (first, is.size) (eq-eqb (size_of class) (size_of class) refl);
      align = rw (first, is.align) refl;
      ctor = rw (first, is.ctor) refl;
      byte = subst IsByteIfAny (sym is.ctor) tt;
      size_small = rw is.size (size_of-small class);
      align_small = rw is.align (omega arith);
    }

align_passes : (align : ℕ) → (align ≡ 8) ⊎ ((align ≡ 16) ⊎ ((align ≡ 32) ⊎ (align ≡ 64))) → (is_align_of 32 align ≡ true) × (align ≤ 64)
align_passes align (inl e) = (rw e refl, omega (arith, e))
align_passes align (inr (inl e)) = (rw e refl, omega (arith, e))
align_passes align (inr (inr (inl e))) = (rw e refl, omega (arith, e))
align_passes align (inr (inr (inr e))) = (rw e refl, omega (arith, e))

ctor_passes : (ctor : Option ℕ) → IsByteIfAny ctor → leb (ctor_number ctor) NO_CTOR ≡ true
ctor_passes None byte = refl
ctor_passes (Some byte) small = le-leb _ _ (omega (arith, small))

all_pass : {X : Type 0} (p : X → Bool) (xs : List X) → All (λ x. p x ≡ true) xs → list_all p xs ≡ true
all_pass p [] all = refl
all_pass p (x ∷ xs) all = and_from _ _ (all 0 x (omega arith)) (all_pass p xs (λ k d lt. all (suc k) d (omega arith)))

unused : (name : List ℕ) (before : List CacheItem) → All (λ y. y.def.name ≢ name) before → is_unused before name ≡ true
unused name before other = all_pass (λ item. not (pointwise nat_eq item.def.name name)) before (λ k d lt. not_from_false _ (false_from_ne_true _ (λ e. other k d lt (same_text _ _ (sym e)))))

declared_passes : (cache : ℕ) (x : CacheItem) (before : List CacheItem) → length before ≡ cache → 32 ≤ cache → IsDeclared x → All (λ y. y.def.name ≢ x.def.name) before → PassesAt cache x before
declared_passes cache x before long ge is other =
    let first : ltb cache 32 ≡ false = le-ltb cache 32 ge in
    let align = align_passes x.def.align (align_cases x.def.align is.aligned) in
    record {
      formed = is.named;
      name = rw (long, first) (and_from _ _ (and_from _ _ is.named (not_from_false _ is.free)) (unused x.def.name before other));
      size = rw first (and_from _ _ (le-leb _ _ is.some) (le-leb _ _ is.fits));
      align = rw first align.0;
      ctor = rw first (ctor_passes x.def.ctor is.ctor);
      byte = is.ctor;
      size_small = is.fits;
      align_small = align.1;
    }

-- a reserved name is not one that is not
reserved_apart : (name other : List ℕ) → is_reserved_name name ≡ true → is_reserved_name other ≡ false → name ≡ other → ⊥
reserved_apart name other reserved free same = true_is_false (sym reserved ∙ ap is_reserved_name same ∙ free)
  where
    true_is_false : true ≡ false → ⊥
    true_is_false e = absurd cc

pub passes : (core : Core) (before : List CacheItem) (x : CacheItem) (left : List CacheItem) → KeepsCacheRules core → core.caches ≡ before ++ x ∷ left → PassesAt (length before) x before
passes core before x left rules e =
    let n = length before in
    let caches = core.caches in
    let bound = split_bound caches before left x e in
    let is : get_or caches n x ≡ x = split_is caches before left x x e in
    elim (cases_lt n 32) [
      | inl lt ↦ class_passes n x before refl lt (subst (IsClass n) is (rules.classes n x lt))
      | inr ge ↦
          let at : (k : ℕ) (d : CacheItem) → 32 ≤ k → get_or (drop 32 caches) (k - 32) d ≡ get_or caches k d =
          λ k d le. get_or-drop 32 caches (k - 32) d ∙ ap (λ (m : ℕ). get_or caches m d) (sym (back k le)) in
          let declared : IsDeclared x = subst IsDeclared (at n x ge ∙ is) (rules.declared (n - 32) x (omega (arith, length-drop 32 caches, bound))) in
          declared_passes n x before refl ge declared (λ k d lt same.
          let own : get_or caches k d ≡ get_or before k d = ap (λ (t : List CacheItem). get_or t k d) e ∙ get_or_append_left before (x ∷ left) d k lt in
          elim (cases_lt k 32) [
            | inl low ↦ reserved_apart (get_or before k d).def.name x.def.name (ap is_reserved_name (ap (λ (y : CacheItem). y.def.name) (sym own) ∙ (rules.classes k d low).name) ∙ class_name-reserved k) declared.free same
            | inr high ↦
                let pair : AreNamedApart (get_or (drop 32 caches) (k - 32) d) (get_or (drop 32 caches) (n - 32) d) = rules.apart (k - 32) (n - 32) d (omega (arith, lt)) (omega (arith, length-drop 32 caches, bound)) in
                pair (ap (λ (y : CacheItem). y.def.name) (at k d high ∙ own) ∙ same ∙ ap (λ (y : CacheItem). y.def.name) (sym (at n d ge ∙ split_is caches before left x d e)))
          ])
    ]
  where
    back : (k : ℕ) → 32 ≤ k → k ≡ 32 + (k - 32)
    back k le = omega arith

number_rules_hold : (cache : ℕ) (x : CacheItem) (before : List CacheItem) (start : ℕ) → PassesAt cache x before
    → number_rules cache (cache_numbers x.def.size x.def.align x.grows (ctor_number x.def.ctor)) start ≡ Ok tt
unfolding number_rules
number_rules_hold cache x before start passes =
    kept_then (is_size_of cache x.def.size) _ _ _ passes.size (
    kept_then (is_align_of cache x.def.align) _ _ _ passes.align (
    kept (is_ctor_of cache (ctor_number x.def.ctor)) _ _ passes.ctor))

-- ---- the numbers of a cache

ctor_small : (ctor : Option ℕ) → IsByteIfAny ctor → ctor_number ctor ≤ 256
ctor_small None byte = omega arith
ctor_small (Some byte) small = omega (arith, small)

ctor_is : (ctor : Option ℕ) → IsByteIfAny ctor → ctor_of (ctor_number ctor) ≡ ctor
ctor_is None byte = refl
ctor_is (Some byte) small = rw (lt-ltb byte 256 small) refl

-- the numbers as they are spelled
abbrev numbers_of : Bool → CacheItem → List ℕ
numbers_of first x = cond first (spelling (4 ∷ 4 ∷ 4 ∷ []) (x.def.size ∷ x.def.align ∷ x.grows ∷ [])) (spelling (4 ∷ 4 ∷ 4 ∷ 4 ∷ []) (x.def.size ∷ x.def.align ∷ x.grows ∷ ctor_number x.def.ctor ∷ []))

record NumbersFit (x : CacheItem) : Type 0 where
  pub first : Fit (4 ∷ 4 ∷ 4 ∷ []) (x.def.size ∷ x.def.align ∷ x.grows ∷ [])
  pub later : Fit (4 ∷ 4 ∷ 4 ∷ 4 ∷ []) (x.def.size ∷ x.def.align ∷ x.grows ∷ ctor_number x.def.ctor ∷ [])

numbers_fit : (cache : ℕ) (x : CacheItem) (before : List CacheItem) → PassesAt cache x before → x.grows < 2 ^ 32 → NumbersFit x
numbers_fit cache x before p grows = record {
  first = (omega (arith, p.size_small), (omega (arith, p.align_small), (grows, tt)));
  later = (omega (arith, p.size_small), (omega (arith, p.align_small), (grows, (omega (arith, ctor_small x.def.ctor p.byte), tt))));
}

numbers_long : (first : Bool) (x : CacheItem) → NumbersFit x → 32 + length (numbers_of first x) ≡ cond first 44 48
numbers_long true x fit = omega (arith, length-spelling (4 ∷ 4 ∷ 4 ∷ []) (x.def.size ∷ x.def.align ∷ x.grows ∷ []) fit.first)
numbers_long false x fit = omega (arith, length-spelling (4 ∷ 4 ∷ 4 ∷ 4 ∷ []) (x.def.size ∷ x.def.align ∷ x.grows ∷ ctor_number x.def.ctor ∷ []) fit.later)

numbers_give : (first : Bool) (x : CacheItem) (here : Reader) (more : List ℕ) → NumbersFit x → (first ≡ true → x.def.ctor ≡ None) → rest here ≡ numbers_of first x ++ more
    → Gives (cond first (first_numbers_at here) (later_numbers_at here)) (cache_numbers x.def.size x.def.align x.grows (ctor_number x.def.ctor)) more
unfolding first_numbers_at later_numbers_at
numbers_give true x here more fit none stand =
    let same : ctor_number x.def.ctor ≡ NO_CTOR = ap ctor_number (none refl) in
    gives_record (4 ∷ 4 ∷ 4 ∷ []) (x.def.size ∷ x.def.align ∷ x.grows ∷ []) here _ _ more more fit.first stand (λ there behind.
    subst (λ (n : ℕ). Gives (Ok (cache_numbers x.def.size x.def.align x.grows NO_CTOR, there)) (cache_numbers x.def.size x.def.align x.grows n) more) (sym same) (gives_ok (cache_numbers x.def.size x.def.align x.grows NO_CTOR) there more behind))
numbers_give false x here more fit none stand =
    let numbers = cache_numbers x.def.size x.def.align x.grows (ctor_number x.def.ctor) in
    gives_record (4 ∷ 4 ∷ 4 ∷ 4 ∷ []) (x.def.size ∷ x.def.align ∷ x.grows ∷ ctor_number x.def.ctor ∷ []) here _ numbers more more fit.later stand (λ there behind.
    gives_ok numbers there more behind)

-- ---- a cache

item_is : (x : CacheItem) (field : List ℕ) (ctor : Option ℕ) (there : Reader) (more : List ℕ) → field ≡ x.def.name → ctor ≡ x.def.ctor → rest there ≡ more
    → Gives (Ok (record { def = record { name = field; size = x.def.size; align = x.def.align; ctor = ctor }; grows = x.grows }, there)) x more
item_is x field ctor there more e f stand = rw (e, f) (gives_ok x there more stand)

cache_gives : (core : Core) (before : List CacheItem) (x : CacheItem) (here : Reader) (more : List ℕ) → PassesAt (length before) x before → x.grows < 2 ^ 32 → ((core.version == 1) ≡ true → x.def.ctor ≡ None)
    → rest here ≡ spelled_cache core.version x ++ more → Gives (cache_item_at (header_of_core core) before here) x more
unfolding cache_item_at
cache_gives core before x here more p grows none stand =
    let h = header_of_core core in
    let first = core.version == 1 in
    let name = x.def.name in
    let numbers = cache_numbers x.def.size x.def.align x.grows (ctor_number x.def.ctor) in
    let is = field_name name p.formed in
    let fit = numbers_fit (length before) x before p grows in
    let long : length (spelled_cache core.version x) ≡ cache_bytes h = omega (arith, length-append (spelled_name name) (numbers_of first x), field_long name is.short, numbers_long first x fit) in
    gives_rule (leb (cache_bytes h) (length here.bytes - here.at)) _ _ _ _ _ (le-leb _ _ (room_for here (spelled_cache core.version x) more (cache_bytes h) stand long)) (
    gives_then (bytes_at 32 here) _ (spelled_name name) x (numbers_of first x ++ more) more
    (bytes_give (spelled_name name) 32 here (numbers_of first x ++ more) (field_long name is.short) (record_front here (spelled_name name) (numbers_of first x) more stand)) (λ there behind.
    gives_then (cache_numbers_at h there) _ numbers x more more (numbers_give first x there more fit none behind) (λ past end.
    gives_rule (is_padded (spelled_name name)) _ _ _ _ _ (name_padded name is) (
    gives_rule (is_name_behind before (padded_name (spelled_name name))) _ _ _ _ _ (ap (is_name_behind before) (name_is name is) ∙ p.name) (
    gives_step (number_rules (length before) numbers here.at) _ _ _ (number_rules_hold (length before) x before here.at p) (
    item_is x (padded_name (spelled_name name)) (ctor_of (ctor_number x.def.ctor)) past more (name_is name is) (ctor_is x.def.ctor p.byte) end))))))

pub caches_give : (core : Core) (here : Reader) (more : List ℕ) → KeepsTheRules core → rest here ≡ flat_map (spelled_cache core.version) core.caches ++ more
    → Gives (items_at (cache_item_at (header_of_core core)) (length core.caches) [] here) core.caches more
caches_give core here more rules stand =
    items_give (spelled_cache core.version) (cache_item_at (header_of_core core)) core.caches (λ before x left here more e stand.
    cache_gives core before x here more (passes core before x left rules.caches e) (item_so (λ item. item.grows < 2 ^ 32) core.caches before x left rules.caches.grows e)
    (λ one. item_so (λ item. item.def.ctor ≡ None) core.caches before x left (rules.version.first (eqb-true core.version 1 one)).ctors e) stand) (length core.caches) here more refl stand

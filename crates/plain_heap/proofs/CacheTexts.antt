-- Caches are known by their names, and the names end before a space.
use Rattle.std.proofs.Common.{◌≡◌, ℕ, ◌-◌, ◌<◌, ◌≤◌, inl, inr, Bool, true, false, List, [], ◌∷◌, refl, sym, ap, ◌∙◌, subst, arith}
use Rattle.std.specs.Prelude.{not}
use Rattle.std.specs.List.{AllByRecursion, list_all}
use Rattle.std.proofs.lemmas.Bool.{and_parts, cases_lt, cases_order, false≢true}
use Rattle.std.proofs.lemmas.List.Elements.{All-from_recursion}
use Rattle.case_table.specs.declared.cache_def.CacheDef.{CacheDef}
use Rattle.case_table.specs.CacheDef.{class_def}
use Rattle.case_table.specs.CacheName.{class_name, is_cache_name, is_name_byte, is_reserved_name}
use Rattle.case_table.proofs.CacheNameLemmas.{class_name-apart, class_name-formed, class_name-reserved, name_byte, named}
use Rattle.script.specs.declared.tree.Header.{Header}
use Rattle.script.specs.Rules.{IsDeclarable, IsHeader}
use Rattle.plain_heap.specs.Setting.{IsCache, def_of}
use Rattle.plain_heap.proofs.SettingLemmas.{def_of-class, def_of-declared}

-- a byte that may stand in a name
abbrev pub IsNameByte : ℕ → Type 0
IsNameByte byte = 48 ≤ byte

pub space_in_no_name : IsNameByte 32 → ⊥
space_in_no_name h = omega arith

bytes_of : (bytes : List ℕ) → list_all is_name_byte bytes ≡ true → AllByRecursion IsNameByte bytes
bytes_of [] h = tt
bytes_of (byte ∷ bytes) h =
    let both = and_parts (is_name_byte byte) (list_all is_name_byte bytes) h in
    ((name_byte byte both.0).0, bytes_of bytes both.1)

-- what is known of a declared cache
declared_at : (header : Header) (cache : ℕ) → IsHeader header → 32 ≤ cache → IsCache header.caches cache → IsDeclarable header.version (def_of header.caches cache)
declared_at header cache is le there =
    let at = All-from_recursion (IsDeclarable header.version) header.caches is.caches (cache - 32) (class_def 0) (omega arith) in
    subst (λ (def : CacheDef). IsDeclarable header.version def) (sym (def_of-declared header.caches cache le)) at

declared_name : (header : Header) (cache : ℕ) → IsHeader header → 32 ≤ cache → IsCache header.caches cache
    → (is_cache_name (def_of header.caches cache).name ≡ true) × (is_reserved_name (def_of header.caches cache).name ≡ false)
declared_name header cache is le there =
    let name = (def_of header.caches cache).name in
    let both = and_parts (is_cache_name name) (not (is_reserved_name name)) (declared_at header cache is le there).name in
    (both.0, unreserved (is_reserved_name name) both.1)
  where
    unreserved : (b : Bool) → not b ≡ true → b ≡ false
    unreserved true h = absurd (false≢true h)
    unreserved false h = refl

-- the bytes of a cache's name
pub name_of_bytes : (header : Header) (cache : ℕ) → IsHeader header → IsCache header.caches cache → AllByRecursion IsNameByte (def_of header.caches cache).name
name_of_bytes header cache is there = elim (cases_lt cache 32) [
  | inl lt ↦
      subst (λ (def : CacheDef). AllByRecursion IsNameByte def.name) (sym (def_of-class header.caches cache lt))
      (bytes_of (class_name cache) (named (class_name cache) (class_name-formed cache lt)).bytes)
  | inr le ↦
      let name = (def_of header.caches cache).name in bytes_of name (named name (declared_name header cache is le there).0).bytes
]

class_is_named : (caches : List CacheDef) (cache : ℕ) → cache < 32 → (def_of caches cache).name ≡ class_name cache
class_is_named caches cache lt = ap (λ (def : CacheDef). def.name) (def_of-class caches cache lt)

-- a class and a declared cache are not called the same
class_apart : (header : Header) (class cache : ℕ) → IsHeader header → class < 32 → 32 ≤ cache → IsCache header.caches cache
    → (def_of header.caches class).name ≡ (def_of header.caches cache).name → ⊥
class_apart header class cache is lt le there same =
    let reserved : is_reserved_name (def_of header.caches cache).name ≡ true =
    ap is_reserved_name (sym same ∙ class_is_named header.caches class lt) ∙ class_name-reserved class in
    false≢true (sym (declared_name header cache is le there).1 ∙ reserved)

declared_apart : (header : Header) (i j : ℕ) → IsHeader header → 32 ≤ i → i < j → IsCache header.caches j
    → (def_of header.caches i).name ≡ (def_of header.caches j).name → ⊥
declared_apart header i j is le lt there same =
    let low : 32 ≤ j = omega arith in
    let apart = is.names (i - 32) (j - 32) (class_def 0) (omega arith) (omega arith) in
    apart (ap (λ (def : CacheDef). def.name) (sym (def_of-declared header.caches i le)) ∙ same ∙ ap (λ (def : CacheDef). def.name) (def_of-declared header.caches j low))

-- no two caches are called the same
pub names_apart : (header : Header) (i j : ℕ) → IsHeader header → IsCache header.caches i → IsCache header.caches j
    → (def_of header.caches i).name ≡ (def_of header.caches j).name → i ≡ j
names_apart header i j is i_is j_is same = elim (cases_lt i 32) [
  | inl i_class ↦ elim (cases_lt j 32) [
    | inl j_class ↦ class_name-apart i j i_class j_class (sym (class_is_named header.caches i i_class) ∙ same ∙ class_is_named header.caches j j_class)
    | inr j_own ↦ absurd (class_apart header i j is i_class j_own j_is same)
  ]
  | inr i_own ↦ elim (cases_lt j 32) [
    | inl j_class ↦ absurd (class_apart header j i is j_class i_own i_is (sym same))
    | inr j_own ↦ elim (cases_order i j) [
      | inl e ↦ e
      | inr apart ↦ elim apart [
        | inl lt ↦ absurd (declared_apart header i j is i_own lt j_is same)
        | inr gt ↦ absurd (declared_apart header j i is j_own gt i_is (sym same))
      ]
    ]
  ]
]

-- Lists that are kept in order by a number of each item, its key.
use Rattle.std.specs.Prelude.{◌≡◌, ◌≢◌, ℕ, ◌<◌, ◌≤◌, ◌⊎◌, List, [], ◌∷◌, length, filter, not, Option, Some, None, AllPairs, Contains, nat_lt, slice_index_or, ◌==◌, if◌then◌else◌}

-- the list with one item more, at its place: behind all whose key is not above its own
abbrev pub put_by : {X : Type 0} → (X → ℕ) → List X → X → List X
put_by key [] item = item ∷ []
put_by key (first ∷ items) item =
    if nat_lt (key item) (key first) then item ∷ first ∷ items
    else first ∷ put_by key items item

-- the list without the items of that key
abbrev pub left_out_by : {X : Type 0} → (X → ℕ) → List X → ℕ → List X
left_out_by key items value = filter (λ item. not (key item == value)) items

-- an index that splits a list: the items before it satisfy the one bound, those from it on the other
pub record SplitsBy {X : Type 0} (IsBefore IsBehind : X → Type 0) (items : List X) (index : ℕ) : Type 0 where
  pub within : index ≤ length items
  pub before : (k : ℕ) (d : X) → k < index → IsBefore (slice_index_or items k d)
  pub behind : (k : ℕ) (d : X) → index ≤ k → k < length items → IsBehind (slice_index_or items k d)

-- the keys rise, and two may be the same
abbrev pub IsOrderedBy : {X : Type 0} → (X → ℕ) → List X → Type 0
IsOrderedBy key items = AllPairs (λ first second. key first ≤ key second) items

-- the new items are the old ones and this one
pub record Gains {X : Type 0} (old new : List X) (item : X) : Type 0 where
  pub gained : Contains new item
  pub kept : (x : X) → Contains old x → Contains new x
  pub only : (x : X) → Contains new x → Contains old x ⊎ (x ≡ item)

-- the new items are the old ones but for this one, which was the only one of its key
pub record Loses {X : Type 0} (key : X → ℕ) (old new : List X) (item : X) : Type 0 where
  pub had : Contains old item
  pub gone : (x : X) → Contains new x → key x ≢ key item
  pub kept : (x : X) → Contains old x → key x ≢ key item → Contains new x
  pub only : (x : X) → Contains new x → Contains old x
  pub alone : (x : X) → Contains old x → key x ≡ key item → x ≡ item

-- a list with one item more at its front, by its newest item
abbrev pub split_behind : {X : Type 0} → X → Option (List X × X) → Option (List X × X)
split_behind first None = Some ([], first)
split_behind first (Some rest) = Some (first ∷ rest.0, rest.1)

-- all items but the newest, which is the last, and that one
abbrev pub split_newest : {X : Type 0} → List X → Option (List X × X)
split_newest [] = None
split_newest (first ∷ items) = split_behind first (split_newest items)

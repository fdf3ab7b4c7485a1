-- Lines of columns, and texts that grow line by line.
use Rattle.std.proofs.Common.{◌≡◌, ℕ, List, [], ◌∷◌, ◌++◌, map, append_assoc, refl, ap, sym, ◌∙◌}
use Rattle.std.specs.List.{flat_map, join_with_byte}
use Rattle.std.proofs.lemmas.List.Folds.{flat_map-map}
use Rattle.dcmd.specs.declared.cache_lines.TheConstants.{CACHE_HEADING}
use Rattle.dcmd.specs.declared.transactions.TheConstants.{LOG_HEADING}
use Rattle.dcmd.specs.CacheLines.{cache_heading}
use Rattle.dcmd.specs.Columns.{line_of}
use Rattle.dcmd.specs.Transactions.{log_heading}

-- parts with a byte between two are the first, and each other one behind the byte
joined_behind : (byte : ℕ) (first : List ℕ) (more : List (List ℕ)) → join_with_byte byte (first ∷ more) ≡ first ++ flat_map (λ (part : List ℕ). byte ∷ part) more
joined_behind byte first [] = append_nil first
  where
    append_nil : (xs : List ℕ) → xs ≡ xs ++ []
    append_nil [] = refl
    append_nil (x ∷ xs) = ap (λ (t : List ℕ). x ∷ t) (append_nil xs)
joined_behind byte first (next ∷ more) = ap (λ (t : List ℕ). first ++ byte ∷ t) (joined_behind byte next more)

-- a column, more columns behind a space each, and the end of the line
pub line_put : {A : Type 0} (view : A → List ℕ) (old one two new first : List ℕ) (more : List A) → one ≡ old ++ first → two ≡ one ++ flat_map (λ x. 32 ∷ view x) more → new ≡ two ++ 10 ∷ []
    → new ≡ old ++ line_of (first ∷ map view more)
unfolding line_of
line_put {A} view old one two new first more one-is two-is new-is =
    let behind : List ℕ = flat_map (λ (x : A). 32 ∷ view x) more in
    let joined : join_with_byte 32 (first ∷ map view more) ≡ first ++ behind = joined_behind 32 first (map view more) ∙ ap (λ (t : List ℕ). first ++ t) (flat_map-map (λ (part : List ℕ). 32 ∷ part) view more) in
    new-is ∙ ap (λ (t : List ℕ). t ++ 10 ∷ []) (two-is ∙ ap (λ (t : List ℕ). t ++ behind) one-is ∙ append_assoc old first behind)
    ∙ append_assoc old (first ++ behind) (10 ∷ []) ∙ ap (λ (t : List ℕ). old ++ (t ++ 10 ∷ [])) (sym joined)

-- ---- headings

-- the constants that are printed are the words in their widths
pub cache_heading_is : CACHE_HEADING.now ≡ cache_heading
unfolding line_of
cache_heading_is = refl

pub log_heading_is : LOG_HEADING.now ≡ log_heading
unfolding line_of
log_heading_is = refl

-- three parts, one after the other
pub three_put : (old one two new a b c : List ℕ) → one ≡ old ++ a → two ≡ one ++ b → new ≡ two ++ c → new ≡ old ++ (a ++ b ++ c)
three_put old one two new a b c first second third =
    third ∙ ap (λ (t : List ℕ). t ++ c) (second ∙ ap (λ (t : List ℕ). t ++ b) first ∙ append_assoc old a b)
    ∙ append_assoc old (a ++ b) c

-- A stack with too many frames.
use Rattle.std.proofs.Common.{◌≡◌, ℕ, ◌+◌, ◌<◌, Bool, true, false, cond, List, [], ◌∷◌, ◌++◌, length, map, ◌&&◌, Some, None, refl, sym, ap, ◌∙◌, arith}
use Rattle.std.specs.Prelude.{nat_le, ◌==◌}
use Rattle.std.specs.List.{list_all}
use Rattle.std.proofs.lemmas.Bool.{lt-leb}
use Rattle.std.proofs.lemmas.List.{length-append, length-map}
use Rattle.umem_base.specs.Cut.{cut, onto_first}
use Rattle.script.specs.declared.limits.TheConstants.{MOST_FRAMES}
use Rattle.script.specs.declared.reasons.Reason.{Reason}
use Rattle.script.specs.declared.reasons.Reason.TheVariants as reasons
use Rattle.script.specs.Fields.{frame_fault, frame_in, frame_words, frames_fault, is_frame, number_fault}
use Rattle.script.specs.Reading.{too_many_fault}
use Rattle.script.proofs.RuleLemmas.{unless_none}

-- there is always a part
cut-some : (separator : ℕ) (bytes : List ℕ) → 0 < length (cut separator bytes)
cut-some separator [] = omega arith
cut-some separator (byte ∷ bytes) = go (byte == separator) (cut separator bytes)
  where
    onto : (parts : List (List ℕ)) → 0 < length (onto_first byte parts)
    onto [] = omega arith
    onto (part ∷ parts) = omega arith

    go : (ends : Bool) (parts : List (List ℕ)) → 0 < length (cond ends ([] ∷ parts) (onto_first byte parts))
    go true parts = omega arith
    go false parts = onto parts

-- as many frames as there may be stand before a comma
pub frames_fault-long : (word rest part behind kept : List ℕ) (reason : Reason) → kept ++ map frame_in (frame_words rest) ≡ map frame_in (frame_words word) → list_all is_frame (frame_words rest) ≡ list_all is_frame (frame_words word)
    → frame_words rest ≡ part ∷ frame_words behind → frame_fault part ≡ None → length kept + 1 ≡ MOST_FRAMES → reason ≡ too_many_fault behind → frames_fault word ≡ Some reason
frames_fault-long word rest part behind kept reason frames are parts fine full told =
    rw (told, all, many) (go (list_all is_frame (frame_words behind)))
  where
    go : (b : Bool) → number_fault b false ≡ Some (cond b reasons.Range reasons.Number)
    go true = refl
    go false = refl

    all : list_all is_frame (frame_words word) ≡ list_all is_frame (frame_words behind)
    all = sym are ∙ ap (list_all is_frame) parts ∙ ap (λ (b : Bool). b && list_all is_frame (frame_words behind)) (unless_none (is_frame part) reasons.Number fine)

    count : length kept + length (frame_words rest) ≡ length (frame_words word)
    count = omega (arith, ap length frames, length-append kept (map frame_in (frame_words rest)), length-map (frame_words rest) frame_in, length-map (frame_words word) frame_in)

    many : nat_le (length (frame_words word)) MOST_FRAMES ≡ false
    many = lt-leb (length (frame_words word)) MOST_FRAMES (omega (arith, count, full, ap length parts, cut-some 44 behind))

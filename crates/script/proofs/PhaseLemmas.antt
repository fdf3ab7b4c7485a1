-- The phases that lines tell, one line more at a time.
use Rattle.std.proofs.Common.{◌≡◌, List, [], ◌∷◌, ◌++◌, map, Option, Some, refl, ap}
use Rattle.std.specs.Global.{Vec}
use Rattle.std.proofs.lemmas.List.{map-append}
use Rattle.umem_base.specs.BoundedVec.{BoundedVec}
use Rattle.script.specs.declared.tree.Step.{Step}
use Rattle.script.specs.Plan.{Turn, turn_of, turns_of}
use Rattle.script.specs.Reading.{onto_last, phases_in}

-- the last phase is at the end
pub onto_last-push : (turn : Turn) (phases : List (List Turn)) (last : List Turn) → onto_last turn (phases ++ last ∷ []) ≡ phases ++ (last ++ turn ∷ []) ∷ []
onto_last-push turn [] last = refl
onto_last-push turn (phase ∷ []) last = refl
onto_last-push turn (phase ∷ next ∷ phases) last = ap (λ (ps : List (List Turn)). phase ∷ ps) (onto_last-push turn (next ∷ phases) last)

-- the reader's phases with one call more
pub phases_in-push : (ended : List (BoundedVec Step)) (begun : Option (Vec Step)) (steps : Vec Step) (items : List Step) (step : Step) (phases : List (List Turn)) → begun ≡ Some steps → phases_in ended begun ≡ phases
    → items ≡ steps.items ++ step ∷ [] → map turns_of ended ++ map turn_of items ∷ [] ≡ onto_last (turn_of step) phases
phases_in-push ended begun steps items step phases is_begun view longer =
    rw (longer, map-append turn_of steps.items (step ∷ []), ← view, is_begun, onto_last-push) refl

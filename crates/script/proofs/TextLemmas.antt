-- The parts of a text, joined.
use Rattle.std.proofs.Common.{◌≡◌, ℕ, zero, suc, ◌<◌, List, [], ◌∷◌, ◌++◌, length, map, get_or, append_assoc, refl, sym, ap, ◌∙◌, arith}
use Rattle.std.specs.Prelude.{codes}
use Rattle.std.specs.List.{AllByRecursion, flat_map}
use Rattle.std.proofs.lemmas.List.Concat.{flat_map-append}
use Rattle.std.proofs.lemmas.List.Folds.{flat_map-map}
use Rattle.umem_base.specs.BoundedVec.{BoundedVec}
use Rattle.case_table.specs.declared.cache_def.CacheDef.{CacheDef}
use Rattle.script.specs.declared.tree.Script.{Script}
use Rattle.script.specs.declared.tree.Step.{Step}
use Rattle.script.specs.Plan.{Turn, plan_of, turn_of, turns_of}
use Rattle.script.specs.PlanText.{cache_words, header_words, line_text, phase_lines, phase_text, text_of, turn_words}

-- what holds of each item as it is seen, at one of them
pub each_mapped : {A B : Type 0} (P : B → Type 0) (f : A → B) (xs : List A) (i : ℕ) (x : A) → AllByRecursion P (map f xs) → i < length xs → x ≡ get_or xs i x → P (f x)
each_mapped P f [] i x h lt is = absurd (omega arith)
each_mapped P f (y ∷ xs) zero x h lt is = rw is h.0
each_mapped P f (y ∷ xs) (suc i) x h lt is = each_mapped P f xs i x h.1 (omega arith) is

pub flat_map-flat_map : {A B C : Type 0} (f : B → List C) (g : A → List B) (xs : List A) → flat_map f (flat_map g xs) ≡ flat_map (λ x. flat_map f (g x)) xs
flat_map-flat_map f g [] = refl
flat_map-flat_map f g (x ∷ xs) = flat_map-append f (g x) (flat_map g xs) ∙ ap (λ rest. flat_map f (g x) ++ rest) (flat_map-flat_map f g xs)

-- the line of a phase, and the lines of its calls
pub phase_put : (old middle new : List ℕ) (caches : List CacheDef) (steps : List Step) → middle ≡ old ++ codes "phase\n" → new ≡ middle ++ flat_map (λ step. line_text (turn_words caches (turn_of step))) steps
    → new ≡ old ++ phase_text caches (map turn_of steps)
phase_put old middle new caches steps before after =
    let rest : List ℕ = flat_map (λ (step : Step). line_text (turn_words caches (turn_of step))) steps in
    let same : flat_map line_text (map (turn_words caches) (map turn_of steps)) ≡ rest =
    flat_map-map line_text (turn_words caches) (map turn_of steps) ∙ flat_map-map (λ (turn : Turn). line_text (turn_words caches turn)) turn_of steps in
    after ∙ ap (λ (t : List ℕ). t ++ rest) before ∙ append_assoc old (codes "phase\n") rest ∙ ap (λ (t : List ℕ). old ++ (codes "phase\n" ++ t)) (sym same)

-- header, caches and phases
pub text_put : (script : Script) (caches : List CacheDef) (phases : List (BoundedVec Step)) (start first second third : List ℕ) → start ≡ [] → caches ≡ script.header.caches → phases ≡ script.phases
    → first ≡ start ++ line_text (header_words script.header) → second ≡ first ++ flat_map (λ def. line_text (cache_words def)) caches → third ≡ second ++ flat_map (λ phase. phase_text caches (turns_of phase)) phases
    → third ≡ text_of (plan_of script)
text_put script caches phases start first second third empty is_caches is_phases put_header put_caches put_phases =
    let head : List ℕ = line_text (header_words script.header) in
    let defs : List ℕ = flat_map (λ (def : CacheDef). line_text (cache_words def)) script.header.caches in
    let calls : List ℕ = flat_map (λ (phase : BoundedVec Step). phase_text script.header.caches (turns_of phase)) script.phases in
    let whole : flat_map line_text (map cache_words script.header.caches ++ flat_map (phase_lines script.header.caches) (map turns_of script.phases)) ≡ defs ++ calls =
    flat_map-append line_text (map cache_words script.header.caches) (flat_map (phase_lines script.header.caches) (map turns_of script.phases))
    ∙ ap (λ (t : List ℕ). t ++ flat_map line_text (flat_map (phase_lines script.header.caches) (map turns_of script.phases))) (flat_map-map line_text cache_words script.header.caches)
    ∙ ap (λ (t : List ℕ). defs ++ t) (flat_map-flat_map line_text (phase_lines script.header.caches) (map turns_of script.phases) ∙ flat_map-map (phase_text script.header.caches) turns_of script.phases) in
    let a : first ≡ head = put_header ∙ ap (λ (t : List ℕ). t ++ head) empty in
    let b : second ≡ head ++ defs = put_caches ∙ ap (λ (t : List ℕ). t ++ flat_map (λ (def : CacheDef). line_text (cache_words def)) caches) a ∙ ap (λ (cs : List CacheDef). head ++ flat_map (λ (def : CacheDef). line_text (cache_words def)) cs) is_caches in
    let d : third ≡ (head ++ defs) ++ calls =
    put_phases ∙ ap (λ (t : List ℕ). t ++ flat_map (λ (phase : BoundedVec Step). phase_text caches (turns_of phase)) phases) b
    ∙ ap (λ (cs : List CacheDef). (head ++ defs) ++ flat_map (λ (phase : BoundedVec Step). phase_text cs (turns_of phase)) phases) is_caches
    ∙ ap (λ (ps : List (BoundedVec Step)). (head ++ defs) ++ flat_map (λ (phase : BoundedVec Step). phase_text script.header.caches (turns_of phase)) ps) is_phases in
    d ∙ append_assoc head defs calls ∙ ap (λ (t : List ℕ). head ++ t) (sym whole)

-- Steps of a walk by hand over facts and over an `Option` (`Rattle.std.proofs.raw_atomic.Walks` has the walk's frame).
use mathlib.Core.Path.{◌≡◌, refl, ap, ◌∙◌}
use mathlib.Core.List.{List, [], ◌∷◌, append-nil}
use seplogic.Ra.Ura.{Ura}
use mir.Val.{Val, of_list}
use base.Logic.{SProp, ent, sep, emp, ex, via, emp∗, mono_l}
use types.Logic.{Logic, sem}
use types.Kit.{Item, Goal, Seq, Step, step, prop, ‵, raw, some, ◌⊛◌, ◌$◌, ◌∵◌, !, qed, move, drop, pick, split, by, use0, use1, fsplit, fpick, feq_l, show, done}
use types.Match.{live}
use contract.Monad.{fact, fact_i}
use denote.RattleType.{RattleType}
use denote.Laws.{Is, Tells, shows}
use denote.Steps.{heard, facts, only}
use Rattle.std.proofs.Common.{Option, None, Some, ◌⊎◌, inl, inr, subst}
use Rattle.std.specs.contracts.option.Option as OP

-- ---- a fact is put into the context; it is shown where it is the goal's first part, or the whole goal
module _ {M : Type 1} {𝓤 : Ura M} {𝓛 : Logic 𝓤} {K : Type 0} {Γ : List (Item 𝓤)} where
  pub noted : K → {G : Goal 𝓤 𝓛.H} (φ : Type 0) → φ → Step K 𝓛 (raw (fact 𝓤 φ) ∷ Γ) G Γ G
  noted t φ x = step (λ s. use0 𝓛 (raw (fact 𝓤 φ)) (fact_i 𝓤 φ (emp 𝓤) x) $ s)

  pub told : K → {φ : Type 0} {Q : SProp 𝓤} → φ → Step K 𝓛 Γ (prop Q) Γ (prop (sep 𝓤 (fact 𝓤 φ) Q))
  told t {φ} {Q} x = step (λ s. record { prf = via 𝓤 Q s.prf (via 𝓤 (sep 𝓤 (emp 𝓤) Q) (emp∗ 𝓤 Q) (mono_l 𝓤 Q (fact_i 𝓤 φ (emp 𝓤) x))) })

  pub told_last : K → {φ : Type 0} → φ → Seq K 𝓛 Γ (prop (fact 𝓤 φ))
  told_last t {φ} x = record { prf = fact_i 𝓤 φ _ x }

-- ---- an `Option` of plain data
module _ {M : Type 1} {𝓤 : Ura M} (𝓛 : Logic 𝓤) (X : RattleType) where
  none_out : (us : List Val) → ent 𝓤 (sem 𝓛 ((OP.the_row X).own_val None us)) (fact 𝓤 (us ≡ live 0 (of_list []) ∷ []))
  none_out us =
      qed 𝓛 (‵ ((OP.the_row X).own_val None us) ∷ []) ∵ fpick ! (λ vs. fsplit ! $ feq_l ! (λ e. fpick ! (λ vss. fsplit ! $ feq_l ! (λ e'.
      by ! (fact_i 𝓤 (us ≡ live 0 (of_list []) ∷ []) _ (e ∙ ap (λ (xs : List Val). live 0 (of_list xs) ∷ []) e'))))))

  some_out : (x : X.Denot) (us : List Val) → ent 𝓤 (sem 𝓛 ((OP.the_row X).own_val (Some x) us)) (ex 𝓤 (λ (vs : List Val). sep 𝓤 (fact 𝓤 (us ≡ live 1 (of_list vs) ∷ [])) (sem 𝓛 (X.own_val x vs))))
  some_out x us =
      qed 𝓛 (‵ ((OP.the_row X).own_val (Some x) us) ∷ []) ∵ fpick ! (λ vs. fsplit ! $ feq_l ! (λ e. fpick ! (λ vss. fsplit ! $ feq_l ! (λ e'. fsplit ! $ move ! (1 ∷ []) $ drop ! $
      show ! (λ (ws : List Val). sep 𝓤 (fact 𝓤 (us ≡ live 1 (of_list ws) ∷ [])) (sem 𝓛 (X.own_val x ws))) vss.0 $
      noted ! (us ≡ live 1 (of_list vss.0) ∷ []) (e ∙ ap (λ (xs : List Val). live 1 (of_list xs) ∷ []) (e' ∙ append-nil vss.0)) $ done !))))

  module _ (val : X.Denot → Val) (tells : Tells X (Is X) (λ x. val x ∷ [])) where
    -- which of the two there is, with its machine value
    abbrev pub Seen : Option X.Denot → Val → Type 0
    Seen o v = ((o ≡ None) × (v ≡ live 0 (of_list []))) ⊎ ((x : X.Denot) × (o ≡ Some x) × (v ≡ live 1 (of_list (val x ∷ []))) × Is X x (val x ∷ []))

    pub seen : (o : Option X.Denot) (v : Val) → ent 𝓤 (sem 𝓛 ((OP.the_row X).own_val o (v ∷ []))) (fact 𝓤 (Seen o v))
    seen None v =
        qed 𝓛 (‵ ((OP.the_row X).own_val None (v ∷ [])) ∷ []) ∵ use1 𝓛 (raw (fact 𝓤 (v ∷ [] ≡ live 0 (of_list []) ∷ []))) (none_out (v ∷ [])) $
        heard ! _ (λ e. by ! (fact_i 𝓤 (Seen None v) _ (inl (refl, ap only e))))
    seen (Some x) v =
        qed 𝓛 (‵ ((OP.the_row X).own_val (Some x) (v ∷ [])) ∷ []) ∵
        use1 𝓛 (some (λ (vs : List Val). raw (fact 𝓤 (v ∷ [] ≡ live 1 (of_list vs) ∷ [])) ⊛ ‵ (X.own_val x vs))) (some_out x (v ∷ [])) $ pick ! (λ vs. split ! $
        heard ! _ (λ e. facts ! X (Is X) (shows 𝓛 X) x vs (λ is.
        let one : vs ≡ val x ∷ [] = tells x vs is in
        by ! (fact_i 𝓤 (Seen (Some x) v) _ (inr (x, refl, ap only e ∙ ap (λ (us : List Val). live 1 (of_list us)) one, subst (λ (us : List Val). Is X x us) one is))))))

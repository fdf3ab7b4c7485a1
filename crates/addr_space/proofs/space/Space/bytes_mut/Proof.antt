-- By hand, since no `LendsIf` of a slice is proved by itself: the space is lent as `&` to find the place, and then for good to `bytes_mut_at`.
use Rattle.std.proofs.Common.{◌≡◌, ℕ, ◌<◌, List, [], ◌∷◌, Option, None, Some, refl, ap, subst, lit<, inl, inr, length, MutBor}
use Rattle.std.specs.Prelude.{MatchOption, slice_index}
use Rattle.std.specs.List.{HoldsAt}
use Rattle.std.proofs.raw_atomic.Walks.{proved}
use Rattle.std.proofs.VecSteps.Element.{Some-of, none_of}
use Rattle.std.proofs.VecSteps.Shapes.{arm_body}
use Rattle.std.specs.contracts.option.Option as OP
use base.Fraction.{full_share}
use base.Logic.{id⊢}
use base.Fml.{Lft, ftrue, flft, fres, flent}
use mir.Syntax as syntax
use mir.Syntax.{named}
use mir.Val.{Val, WT, vptr, of_list}
use contract.BorrowLft.{⊑_static}
use contract.Monad.{fact}
use contract.Running.{tables}
use prog.Wp.{Wp, after_seq}
use types.Kit.{‵, raw, ◌⊛◌, some, later, any_q, at_ret, post, ◌$◌, ◌∵◌, !, qed, move, keep, drop, use0, use1, use2, split, join, fsplit, fsplit3, fjoin, fjoin3, feq_i, pick, await, rewrite, suffices, frame}
use types.Match.{live, vrt, in_variant}
use types.Mut.{open_ref, close_ref}
use types.Part.{whole, agg}
use types.Run.{enter, of_opd, lit, addr, stop, fld, no_more, and_then, first, switches_on, exec, returns}
use types.Tokens.{lft_new, lft_end, lent_back}
use types.ByLocal.{alloc_all, pass_all, free_all, look_at, get, get_in, get_tag, through, sets, sets_last, lands_as, env}
use denote.Builtin.{u64, usize, u8}
use denote.Exit.{yes, no}
use denote.Follow.{follows_by}
use denote.Laws.{Is, Tells, shows}
use denote.Lend.{lends_shr}
use denote.Memory.{mem, part_at}
use denote.Plain.{uint_vals, uint_Tells, uint_Makes}
use denote.RattleType.{RattleType, owns}
use denote.Ref.{MutRef, ShrRef, Bor, shr_vals, mut_vals, mut_Tells}
use denote.Signature.{plain, mut_ref_to}
use denote.Slice.{MutSlice, slice_val}
use denote.Steps.{nothing, owned, heard, peeks, only}
use denote.Struct.Laws.{makes}
use denote.Struct.Loose.{loose_lawful}
use denote.Triple.Call.{calls_at}
use denote.Triple.Clauses.{lasts}
use denote.Triple.Spec.{triple_of}
use denote.Triple.Table.{framed}
use denote.Triple.Walked.{Stays, walk_of, stay_dropped, Goes-dropped, Goes-spent_ref, ends_at}
use Rattle.addr_space.specs.MappedRun.{HoldsRange}
use Rattle.addr_space.specs.Space.{Space, runs_of, HasBytes, Writes, IsInRun, IsSound, with_bytes}
use Rattle.addr_space.specs.SpaceLoan.{LendsBytes}
use Rattle.addr_space.specs.declared.place.Place.{Place}
use Rattle.addr_space.specs.contracts.place.Place as P
use Rattle.addr_space.specs.contracts.space.Space.{the_row as R}
use Rattle.addr_space.specs.contracts.space.Space.bytes_mut as f
use Rattle.addr_space.specs.contracts.space.Space.place_of as g
use Rattle.addr_space.specs.contracts.space.Space.bytes_mut_at as h
use Rattle.addr_space.proofs.place.Place.TheLaws as place
use Rattle.addr_space.proofs.space.Space.TheLaws.{the_row_laws}
use Rattle.addr_space.proofs.space.Space.place_of.Met.{met as finds}
use Rattle.addr_space.proofs.space.Space.bytes_mut_at.Met.{met as lends}
use Rattle.addr_space.proofs.space.Space.bytes_mut.Code as code
use Rattle.addr_space.proofs.space.Space.bytes_mut.Statement.{statement}
use Rattle.addr_space.proofs.SpaceLoanLemmas.{noted, told, told_last, Seen, seen}

abbrev stayed : Stays f.ended.signature.params f.ended.kept
stayed = (stay_dropped (mut_ref_to (0 ∷ []) tt (plain (λ _. R))) no, (stay_dropped (plain (λ _. u64)) yes, (stay_dropped (plain (λ _. usize)) yes, tt)))

abbrev Lent : Lft → RattleType
Lent κ = MutSlice (named 0) κ u8

abbrev val : Place → Val
val = place.the_told.val

abbrev tells : Tells P.the_row (Is P.the_row) (λ p. val p ∷ [])
tells = place.the_told.tells

-- what `place_of` ensures, and the parts of what `bytes_mut_at` ensures
abbrev Finds : Space → ℕ → ℕ → Option Place → Type 0
Finds ms at count o = MatchOption o (0 < count → IsInRun (runs_of ms) at count → ⊥) (λ p. (0 < count) × (p.index < length ms) × HoldsAt (HoldsRange at p.from count) ms p.index)

abbrev WritesAt : Space → ℕ → ℕ → Type 0
WritesAt ms at count = (bytes : List ℕ) → length bytes ≡ count → Writes ms (with_bytes ms at bytes) at count (λ k. slice_index bytes k)

abbrev SoundAt : Space → ℕ → Type 0
SoundAt ms at = (bytes : List ℕ) → IsSound (with_bytes ms at bytes)

abbrev ReadsAt : Space → ℕ → ℕ → List ℕ → Type 0
ReadsAt ms at count part = HasBytes ms at count (λ k. slice_index part k)

pub bytes_mut_spec : {M : Type 1} → statement M
unfolding follows_by
bytes_mut_spec 𝓤 𝓛 𝓜 𝓡 wired =
    let c = f.clauses 𝓛 𝓜.mem 𝓡.returns in
    let W = walk_of 𝓛 f.ended stayed c in
    let 𝓣 = tables 𝓤 𝓛.H 𝓜 𝓡 𝓡.env in
    proved 𝓛 f.ended stayed c 𝓜 𝓡
    (Goes-spent_ref 𝓛 1 (0 ∷ []) tt (plain (λ _. R)), (Goes-dropped 𝓛 1 (plain (λ _. u64)) yes (λ κs x w. refl), (Goes-dropped 𝓛 1 (plain (λ _. usize)) yes (λ κs x w. refl), tt)))
    f.Key.name code.function (code.unfolded 𝓤 𝓛.H 𝓜 𝓡 wired)
    (λ κs. (mut_vals, (uint_vals syntax.w64, (uint_vals syntax.w64, tt)))) (λ κs. (mut_Tells (named 0) κs.0 R, (uint_Tells syntax.w64, (uint_Tells syntax.w64, tt)))) (λ κs qs bounds a _ are.
    let κ = κs.0 in let q = qs.0 in let r = a.0 in let ms = r.now in let at = a.1.0 in let count = a.1.1.0 in let b = r.ref_ptr.0 in let o = r.ref_ptr.1 in
    let y : W.Ghost = ((κs, qs, bounds, a, (mut_vals r, (uint_vals syntax.w64 at, (uint_vals syntax.w64 count, tt)))), tt) in
    let En = λ (l : ℕ → ℕ). env (code.function).locals l in
    let Arm = λ (l : ℕ → ℕ). any_q (after_seq 𝓤 𝓛.H (Wp 𝓤 𝓛.H 𝓣.C 𝓣.Λ (En l) code.Mir.t-4 (post 𝓤 𝓛.H (at_ret (En l) (W.post y)))) (post 𝓤 𝓛.H (at_ret (En l) (W.post y)))) in
    qed 𝓛 (((‵ (flft κ q) ⊛ ‵ ftrue) ⊛ ‵ (owns (MutRef (named 0) κ R ∷ u64 ∷ usize ∷ []) a y.0.4)) ∷ ‵ ftrue ∷ []) ∵
    split ! $ split ! $ move ! (2 ∷ []) $ fsplit ! $ keep ! (0 ∷ 2 ∷ []) $
    enter ! _ _ _ _ _ $ alloc_all ! (λ l. pass_all ! refl ((tt, tt), ((tt, record { fits = are.1.0.1 }), ((tt, record { fits = are.1.1.0.1 }), tt))) $
    -- [the reference; the token of κ]
    sets ! (addr ! (through ! refl (stop !))) refl (tt, tt) $
    fsplit3 ! $ drop ! $ open_ref ! tt (mem R) $ lft_new ! tt (λ α. move ! (1 ∷ 0 ∷ []) $
    let s : Bor R.Denot = record { ref_ptr = (b, o); now = ms } in
    use2 𝓛 (later ((‵ ((ShrRef (named 0) (α ∷ []) R).own_val s (vptr b o ∷ [])) ⊛ ‵ (flent (α ∷ []) (part_at R full_share ms b o))) ⊛ ‵ (flft (α ∷ []) full_share)))
    (lends_shr 𝓛 R (named 0) (α ∷ []) full_share ms b o [] (the_row_laws.shares 𝓛 ms) ((α ∷ [], full_share) ∷ []) (⊑_static (α ∷ [])) (λ x m. m)) $ await ! tt $ split ! $ split ! $
    -- [the `&`; its way back; the token of α; the open borrow; both halves of the name]
    let G = triple_of 𝓛 g.signature (g.spec 𝓛 𝓜.mem 𝓡.returns) in
    let z : G.Ghost = (((α ∷ [], tt), (full_share, tt), tt, (s, (at, (count, tt))), (shr_vals s, (uint_vals syntax.w64 at, (uint_vals syntax.w64 count, tt)))), tt) in
    nothing ! $ owned ! usize _ (uint_Makes 𝓛 syntax.w64) count _ (refl, are.1.1.0.1) $ join ! $ owned ! u64 _ (uint_Makes 𝓛 syntax.w64) at _ (refl, are.1.0.1) $ join ! $ move ! (1 ∷ 0 ∷ []) $ join ! $
    nothing ! $ move ! (3 ∷ 0 ∷ []) $ join ! $ join ! $ nothing ! $ move ! (1 ∷ 0 ∷ []) $ use2 𝓛 (raw (G.pre z)) (id⊢ 𝓤 _) $
    calls_at ! (framed 𝓤 𝓛.H 𝓜 𝓣) G (finds 𝓤 𝓛 𝓜 𝓡 (code.calls-addr_space::space::Space::place_of 𝓡.env wired)) z
    (and_then ! (get ! refl) (and_then ! (get ! refl) (and_then ! (get ! refl) (no_more !)))) (λ v.
    use1 𝓛 (later (some (λ (found : Option Place). ((‵ (flft (α ∷ []) full_share) ⊛ ‵ ftrue) ⊛ ‵ ((OP.the_row P.the_row).own_val found (v ∷ []))) ⊛
    some (λ (ws : Unit {0} × (Unit {0} × (Unit {0} × Unit {0}))). ‵ (lasts g.ended z.0.0 z.0.3 ws) ⊛ raw (fact 𝓤 (Finds ms at count found)) ⊛ raw (fact 𝓤 (IsSound ms)))))) (id⊢ 𝓤 _) $
    await ! tt $ pick ! (λ found. split ! $ split ! $ split ! $
    lft_end ! tt $ move ! (0 ∷ 4 ∷ []) $ lent_back ! tt $ move ! (0 ∷ 4 ∷ 5 ∷ 6 ∷ []) $ close_ref ! tt (mem R) ms $ feq_i ! (List Val) (mut_vals r) (mut_vals r) refl $ fjoin3 ! $
    -- [the reference; the token of κ; nothing; what was found; what is ensured of it]
    move ! (4 ∷ []) $ pick ! (λ ws. split ! $ drop ! $ split ! $ heard ! _ (λ is_place. heard ! _ (λ was_sound. move ! (3 ∷ []) $
    use1 𝓛 (raw (fact 𝓤 (Seen 𝓛 P.the_row val tells found v))) (seen 𝓛 P.the_row val tells found v) $ heard ! _ (λ is. elim is [
      | inl is_none ↦
          let none = subst (Finds ms at count) is_none.0 is_place in
          let fits : WT (live 0 (of_list [])) = (record { fits = lit< tt }, tt) in
          lands_as ! is_none.1 refl (tt, fits) $
          first ! $ switches_on ! (get_tag ! (vrt ! refl (fld ! refl (stop !))) (whole !)) $ exec ! 𝓣.C 𝓣.Λ (En l) (arm_body 1 code.Mir.s-3) (Arm l) $
          sets_last ! (agg ! (and_then ! (lit ! tt) (no_more !))) refl (tt, fits) $ exec ! 𝓣.C 𝓣.Λ (En l) code.Mir.t-4 (at_ret (En l) (W.post y)) $ sets ! (of_opd ! (get ! refl)) refl (tt, fits) $
          returns ! (look_at ! 0 refl) $ free_all ! refl $ fsplit3 ! $ keep ! (1 ∷ 3 ∷ []) $
          -- [a half of the name; the token of κ]
          use1 𝓛 (‵ (fres r.ghost_name (R.coded.code ms))) (𝓛.names.obs-res r.ghost_name (R.coded.code ms)) $ move ! (1 ∷ []) $
          use0 𝓛 (‵ ((OP.the_row (Lent κ)).own_val None (live 0 (of_list []) ∷ []))) (none_of 𝓛 (Lent κ)) $
          suffices ! _ (ends_at 𝓛 f.ended stayed c y (live 0 (of_list [])) None (tt, (tt, (tt, tt))) (tt, (tt, (tt, tt)))) $
          nothing ! $ nothing ! $ fjoin ! $ nothing ! $ fjoin ! $ nothing ! $ fjoin ! $ join ! $ nothing ! $ move ! (2 ∷ 0 ∷ []) $ join ! $ join ! $ frame ! $ frame ! $
          told ! (λ some in_run. absurd (none some in_run)) $ told ! tt $ told ! was_sound $ told ! tt $ told ! none $ told_last ! tt
      | inr is_some ↦
          let p = is_some.0 in let found = subst (Finds ms at count) is_some.1 is_place in let in_type = (loose_lawful P.the_type place.the_loose 𝓛).typed p _ is_some.3 in
          lands_as ! is_some.2 refl (tt, (record { fits = lit< tt }, (in_type.0.1, tt))) $
          first ! $ switches_on ! (get_tag ! (vrt ! refl (fld ! refl (stop !))) (whole !)) $ exec ! 𝓣.C 𝓣.Λ (En l) (arm_body 0 code.Mir.s-3) (Arm l) $
          sets ! (of_opd ! (get_in ! (vrt ! refl (fld ! refl (stop !))) (in_variant ! 1 0 refl refl (whole !)))) refl in_type.0 $ sets ! (addr ! (through ! refl (stop !))) refl (tt, tt) $
          -- [the reference; the token of κ; nothing]
          let H = triple_of 𝓛 h.signature (h.spec 𝓛 𝓜.mem 𝓡.returns) in
          let z' : H.Ghost = ((κs, qs, bounds, (r, (p, (at, (count, tt)))), (mut_vals r, (val p ∷ [], (uint_vals syntax.w64 at, (uint_vals syntax.w64 count, tt))))), tt) in
          nothing ! $ owned ! usize _ (uint_Makes 𝓛 syntax.w64) count _ (refl, are.1.1.0.1) $ join ! $ owned ! u64 _ (uint_Makes 𝓛 syntax.w64) at _ (refl, are.1.0.1) $ join ! $
          owned ! P.the_row _ (makes P.the_type place.the_plain 𝓛) p _ is_some.3 $ join ! $ move ! (1 ∷ 0 ∷ []) $ join ! $ move ! (1 ∷ 2 ∷ []) $ join ! $ join ! $
          noted ! (HoldsAt (HoldsRange at p.from count) ms p.index) found.2 $ noted ! (p.index < length ms) found.1 $ join ! $ noted ! (0 < count) found.0 $ join ! $
          move ! (1 ∷ 0 ∷ []) $ use2 𝓛 (raw (H.pre z')) (id⊢ 𝓤 _) $
          calls_at ! (framed 𝓤 𝓛.H 𝓜 𝓣) H (lends 𝓤 𝓛 𝓜 𝓡 (code.calls-addr_space::space::Space::bytes_mut_at 𝓡.env wired)) z'
          (and_then ! (get ! refl) (and_then ! (get ! refl) (and_then ! (get ! refl) (and_then ! (get ! refl) (no_more !))))) (λ v'.
          use1 𝓛 (later (some (λ (w : MutBor (List ℕ)). ((‵ (flft κ q) ⊛ ‵ ftrue) ⊛ ‵ ((Lent κ).own_val w (v' ∷ []))) ⊛
          some (λ (ws : Unit {0} × (Unit {0} × (Unit {0} × (Unit {0} × Unit {0})))). ‵ (lasts h.ended z'.0.0 z'.0.3 ws) ⊛ ‵ (LendsBytes r at w) ⊛
          raw (fact 𝓤 (WritesAt ms at count)) ⊛ raw (fact 𝓤 (SoundAt ms at)) ⊛ raw (fact 𝓤 (IsInRun (runs_of ms) at count)) ⊛ raw (fact 𝓤 (length w.now ≡ count)) ⊛ raw (fact 𝓤 (ReadsAt ms at count w.now)))))) (id⊢ 𝓤 _) $
          await ! tt $ pick ! (λ w. split ! $ split ! $ split ! $ move ! (2 ∷ []) $ peeks ! (Lent κ) (Is (Lent κ)) (shows 𝓛 (Lent κ)) w (v' ∷ []) (λ is_slice.
          let sv = slice_val w.ref_ptr (length w.now) in let is_sv : v' ≡ sv = ap only is_slice.0.0 in
          let fits : WT sv = (tt, (record { fits = is_slice.0.1.0 }, tt)) in let some_fits : WT (live 1 (of_list (sv ∷ []))) = (record { fits = lit< tt }, (fits, tt)) in
          lands_as ! is_sv refl (tt, fits) $
          sets_last ! (agg ! (and_then ! (lit ! tt) (and_then ! (get ! refl) (no_more !)))) refl (tt, some_fits) $ exec ! 𝓣.C 𝓣.Λ (En l) code.Mir.t-4 (at_ret (En l) (W.post y)) $
          sets ! (of_opd ! (get ! refl)) refl (tt, some_fits) $ returns ! (look_at ! 0 refl) $ free_all ! refl $
          -- [what the slice owns; the token of κ; nothing; what is ensured of it]
          move ! (3 ∷ []) $ pick ! (λ ws. split ! $ drop ! $ split ! $ move ! (1 ∷ []) $ split ! $ heard ! _ (λ writes. split ! $ heard ! _ (λ sound. split ! $ heard ! _ (λ inside. split ! $ heard ! _ (λ len. heard ! _ (λ bytes.
          move ! (1 ∷ 2 ∷ 0 ∷ []) $ keep ! (0 ∷ 1 ∷ 2 ∷ []) $ rewrite ! 0 (λ (u : Val). ‵ ((Lent κ).own_val w (u ∷ []))) is_sv refl $
          use1 𝓛 (‵ ((OP.the_row (Lent κ)).own_val (Some w) (live 1 (of_list (sv ∷ [])) ∷ []))) (Some-of 𝓛 (Lent κ) w sv) $
          suffices ! _ (ends_at 𝓛 f.ended stayed c y (live 1 (of_list (sv ∷ []))) (Some w) (tt, (tt, (tt, tt))) (tt, (tt, (tt, tt)))) $
          nothing ! $ nothing ! $ fjoin ! $ nothing ! $ fjoin ! $ nothing ! $ fjoin ! $ join ! $ nothing ! $ move ! (2 ∷ 0 ∷ []) $ join ! $ join ! $ frame ! $ frame ! $
          told ! (λ _ _. writes) $ told ! sound $ told ! was_sound $ told ! (found.0, inside) $ told ! tt $ told_last ! (len, bytes))))))))))
    ])))))))))

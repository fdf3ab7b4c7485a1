-- How the acts of a journal grow while a call is entered.
use Rattle.std.proofs.Common.{◌≡◌, ℕ, ◌+◌, ◌-◌, List, [], ◌∷◌, ◌++◌, Option, None, replicate, sym, ap, ◌∙◌, arith}
use Rattle.std.proofs.lemmas.List.{append-nil, append_assoc, replicate_more}
use Rattle.umem_base.specs.BoundedVec.{BoundedVec}
use Rattle.trans_log.specs.SavedLog.{SavedLog}
use Rattle.heap_logs.specs.declared.act.Act.{Act}
use Rattle.heap_books.specs.Journal.{Journal, with_act}

-- lists with room are one where their items and their spare are
bounded : (one other : BoundedVec (Option Act)) → one.items ≡ other.items → one.spare ≡ other.spare → one ≡ other
bounded one other items spare =
    let make : List (Option Act) → ℕ → BoundedVec (Option Act) = λ xs n. record { items = xs; spare = n } in
    ap (λ xs. make xs one.spare) items ∙ ap (make other.items) spare

pub no_acts : (items : List (Option Act)) → items ≡ items ++ replicate 0 None
no_acts items = sym (append-nil items)

-- one inner entry more
pub acts_on : (old now next : List (Option Act)) (count : ℕ) → now ≡ old ++ replicate count None → next ≡ now ++ None ∷ [] → next ≡ old ++ replicate (count + 1) None
acts_on old now next count is more =
    let none : Option Act = None in
    more ∙ ap (λ (l : List (Option Act)). l ++ none ∷ []) is ∙ append_assoc old (replicate count none) (none ∷ [])
    ∙ ap (λ (l : List (Option Act)). old ++ l) (replicate_more count none)

-- the act of the call behind the inner entries
pub entered : (journal : Journal) (old now next : BoundedVec (Option Act)) (saved was : SavedLog) (piece bytes : List ℕ) (count inner : ℕ) (act : Option Act) → count ≡ inner
    → now.items ≡ old.items ++ replicate count None → now.spare + count ≡ old.spare → next.items ≡ now.items ++ act ∷ [] → next.spare + 1 ≡ now.spare
    → saved ≡ was → piece ≡ bytes → record { acts = old; saved = was; piece = bytes } ≡ journal
    → record { acts = next; saved = saved; piece = piece } ≡ with_act journal inner act
entered journal old now next saved was piece bytes count inner act same is spare more less save part view =
    let none : Option Act = None in
    let make : BoundedVec (Option Act) → SavedLog → List ℕ → Journal = λ a s p. record { acts = a; saved = s; piece = p } in
    let items : next.items ≡ old.items ++ (replicate inner none ++ act ∷ []) =
    more ∙ ap (λ (l : List (Option Act)). l ++ act ∷ []) (is ∙ ap (λ n. old.items ++ replicate n none) same) ∙ append_assoc old.items (replicate inner none) (act ∷ []) in
    let left : next.spare ≡ old.spare - (inner + 1) = omega (arith, same, spare, less) in
    let its : next ≡ (with_act (make old was bytes) inner act).acts = bounded next (with_act (make old was bytes) inner act).acts items left in
    ap (λ a. make a saved piece) its ∙ ap (λ s. make (with_act (make old was bytes) inner act).acts s piece) save
    ∙ ap (make (with_act (make old was bytes) inner act).acts was) part ∙ ap (λ j. with_act j inner act) view

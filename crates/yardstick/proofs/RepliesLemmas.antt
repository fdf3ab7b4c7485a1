-- The tests tell which answers are allowed.
use Rattle.std.proofs.Common.{◌≡◌, ℕ, zero, suc, ◌<◌, Bool, true, false, Option, refl, sym, ap, subst, ◌∙◌}
use Rattle.std.specs.Bool.{Decides}
use Rattle.std.proofs.lemmas.Bool.{false≢true}
use Rattle.umem_base.specs.Pages.{pages_for}
use Rattle.case_table.specs.Sizes.{class_for}
use Rattle.buftag.specs.declared.finding.Finding.{Finding}
use Rattle.buftag.specs.declared.state.State.TheVariants as chunk_state
use Rattle.script.specs.declared.operation.Op.{Op}
use Rattle.script.specs.Rules.{IsHeader}
use Rattle.plain_heap.specs.declared.held.Held.{Held}
use Rattle.plain_heap.specs.declared.reply.Reply.{Reply}
use Rattle.plain_heap.specs.declared.reply.Reply.TheVariants as reply
use Rattle.plain_heap.specs.declared.reply.Report.{Report}
use Rattle.plain_heap.specs.declared.reply.Report.TheVariants.{Clean}
use Rattle.plain_heap.specs.Frees.{refusal_of}
use Rattle.plain_heap.specs.Replies.{IsAllocReply, IsChoice, IsLargeReply, IsSomeReply, finding_at, free_answer_in, report_at, report_of}
use Rattle.plain_heap.specs.Setting.{Setting}
use Rattle.plain_heap.specs.State.{State, word_of_slot}
use Rattle.yardstick.specs.Tests.{is_choice, is_free_run}
use Rattle.yardstick.proofs.LegalLemmas.{tells_choice, tells_free_run}

-- a test of an equation tells another of the same two things
pub tells_same : {X : Type 0} (same : Bool) (x given due : X) → given ≡ due → Decides same (x ≡ given) → Decides same (x ≡ due)
tells_same same x given due is told = (λ h. told.0 h ∙ is, λ h. told.1 (h ∙ sym is))

-- ---- choices of a cache

-- the address is a choice, so that the report decides
pub tells_chosen : (setting : Setting) (state : State) (cache address : ℕ) (found : Option Finding) (report due : Report) (choice same : Bool) → IsHeader setting.header
    → choice ≡ is_choice setting state cache address → choice ≡ true → found ≡ finding_at setting state address chunk_state.Free → due ≡ report_of found
    → Decides same (report ≡ due) → Decides same (IsChoice setting state cache address × (report ≡ report_at setting state address))
tells_chosen setting state cache address found report due choice same header tested is finding its told =
    let chosen = (tells_choice setting state cache address header).0 (sym tested ∙ is) in
    let at : due ≡ report_at setting state address = its ∙ ap report_of finding in
    (λ h. (chosen, told.0 h ∙ at), λ both. told.1 (both.1 ∙ sym at))

-- it is none
pub tells_unchosen : (setting : Setting) (state : State) (cache address : ℕ) (report : Report) (choice : Bool) → IsHeader setting.header
    → choice ≡ is_choice setting state cache address → choice ≡ false → Decides choice (IsChoice setting state cache address × (report ≡ report_at setting state address))
tells_unchosen setting state cache address report choice header tested is =
    (λ h. absurd (false≢true (sym is ∙ h)), λ both. tested ∙ (tells_choice setting state cache address header).1 both.0)

-- ---- allocations

-- the pages that are handed out
pub tells_large_at : (setting : Setting) (state : State) (size pages address : ℕ) (found : Report) (free : Bool) → found ≡ Clean → pages ≡ pages_for size
    → free ≡ is_free_run setting state pages address → Decides free (IsLargeReply setting state size (reply.At address found))
tells_large_at setting state size pages address found free clean count is =
    let run = tells_free_run setting state (pages_for size) address in
    let same = is ∙ ap (λ n. is_free_run setting state n address) count in
    (λ h. (run.0 (sym same ∙ h), clean), λ both. same ∙ run.1 both.0)

-- an allocation of some bytes goes by its class
pub goes_by_class : (setting : Setting) (state : State) (size : ℕ) (class : Option ℕ) (answer : Reply) (is : Bool) → (size ≡ 0 → ⊥) → class ≡ class_for size
    → Decides is (IsSomeReply setting state size class answer) → Decides is (IsAllocReply setting state size answer)
goes_by_class setting state zero class answer is some served told = absurd (some refl)
goes_by_class setting state (suc size) class answer is some served told =
    subst (λ c. Decides is (IsSomeReply setting state (suc size) c answer)) served told

-- ---- frees

-- the answer that is due, by what is asked of a live buffer
pub due_of_free : (setting : Setting) (state : State) (thread slot word : ℕ) (op : Op) (refusal : Held → Option Reply) (due : Reply) → word ≡ word_of_slot state thread slot
    → refusal_of op ≡ refusal → due ≡ free_answer_in setting state word (refusal_of op) → due ≡ free_answer_in setting state (word_of_slot state thread slot) refusal
due_of_free setting state thread slot word op refusal due there asked is =
    is ∙ ap (λ w. free_answer_in setting state w (refusal_of op)) there ∙ ap (λ (r : Held → Option Reply). free_answer_in setting state (word_of_slot state thread slot) r) asked

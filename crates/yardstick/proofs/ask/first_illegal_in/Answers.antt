use Rattle.std.proofs.Common.{◌≡◌, false, true, length, ap, arith, rules}
use Rattle.plain_heap.specs.State.{State}
use Rattle.yardstick.specs.Kept.{state_kept}
use Rattle.yardstick.proofs.LegalLemmas.{is_first, legal_all, legal_more}
use Rattle.yardstick.proofs.StepsLemmas.{grown_more, state_more}
use Rattle.yardstick.proofs.ask.first_illegal_in.Goals as goal

pub loop-n-init : goal.loop-n-init
loop-n-init c =
    let start = c.start-kept.ensures c.args.setting.now in
    record { few = omega (arith, ap (λ (state : State). length state.grown) start); state = start; legal = λ k entry lt there. absurd (omega arith) }

pub returns-then-not-branch : goal.returns-then-not-branch
returns-then-not-branch c =
    let fails : c.in_ok-is_legal_entry.field-0 ≡ false = search rules in
    is_first c.args.setting.now c.args.entries.now c.loop-n.n c.in_ok-is_legal_entry.field-0 c.loop-n-test.true fails c.in_ok-is_legal_entry.ensures c.loop-n.invariant.legal

pub loop-n-preserved : goal.loop-n-preserved
loop-n-preserved c =
    let setting = c.args.setting.now in
    let entries = c.args.entries.now in
    let old = state_kept setting c.loop-n.kept in
    let new = state_kept setting c.after_entry.new.self in
    let n = c.loop-n.n in
    let entry = c.index-entries-n.result in
    let holds : c.in_ok-is_legal_entry.field-0 ≡ true = search rules in
    record {
      few = grown_more setting old new entry n c.loop-n.invariant.few c.in_ok-after_entry.ensures;
      state = state_more setting entries n entry old new c.loop-n-test.true c.index-entries-n.is c.loop-n.invariant.state c.in_ok-after_entry.ensures;
      legal = legal_more setting entries n c.in_ok-is_legal_entry.field-0 holds c.in_ok-is_legal_entry.ensures c.loop-n.invariant.legal;
    }

pub returns : goal.returns
returns c = legal_all c.args.setting.now c.args.entries.now c.loop-n.n c.loop-n-test.false c.loop-n.invariant.legal

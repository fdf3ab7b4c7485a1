use Rattle.std.proofs.Common.{◌≡◌, rules}
use Rattle.std.specs.Bool.{Decides}
use Rattle.yardstick.specs.Kept.{state_kept}
use Rattle.yardstick.proofs.RepliesLemmas.{tells_chosen, tells_unchosen}
use Rattle.yardstick.proofs.replies.is_chosen.Goals as goal

pub returns-then-is_choice : goal.returns-then-is_choice
returns-then-is_choice c =
    let setting = c.args.setting.now in
    let told : Decides c.eq.result (c.args.report ≡ c.report_of.result) = search rules in
    tells_chosen setting (state_kept setting c.args.kept.now) c.args.cache c.args.address c.in_ok-found.found c.args.report c.report_of.result c.is_choice.result
    c.eq.result c.settled.ensures c.is_choice.ensures c.if-is_choice.true c.in_ok-found.ensures c.report_of.ensures told

pub returns-else-is_choice : goal.returns-else-is_choice
returns-else-is_choice c =
    let setting = c.args.setting.now in
    tells_unchosen setting (state_kept setting c.args.kept.now) c.args.cache c.args.address c.args.report c.is_choice.result c.settled.ensures c.is_choice.ensures
    c.if-is_choice.false

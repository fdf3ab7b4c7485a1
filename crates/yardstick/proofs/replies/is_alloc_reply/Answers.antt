use Rattle.std.proofs.Common.{Some, ap, ◌∙◌}
use Rattle.std.specs.Bool.{Decides}
use Rattle.std.proofs.lemmas.Result.{IfOk-weaker}
use Rattle.case_table.specs.Sizes.{class_for}
use Rattle.plain_heap.specs.Replies.{IsAllocReply, IsCacheReply}
use Rattle.yardstick.specs.Kept.{state_kept}
use Rattle.yardstick.proofs.RepliesLemmas.{goes_by_class}
use Rattle.yardstick.proofs.replies.is_alloc_reply.Goals as goal

pub returns-in-Some : goal.returns-in-Some
returns-in-Some c =
    let setting = c.args.setting.now in
    let state = state_kept setting c.args.kept.now in
    let answer = c.args.reply.now in
    let served = c.in-Some.ensures.value ∙ ap class_for c.from.ensures in
    IfOk-weaker c.is_cache_reply.result (λ is. Decides is (IsCacheReply setting state c.in-Some.class answer)) (λ is. Decides is (IsAllocReply setting state c.args.size answer))
    (λ is told. goes_by_class setting state c.args.size (Some c.in-Some.class) answer is c.if-size-eq0.false served told)
    c.is_cache_reply.ensures

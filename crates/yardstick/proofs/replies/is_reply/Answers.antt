use Rattle.std.proofs.Common.{ap, inl, inr, ◌∙◌}
use Rattle.plain_heap.specs.Frees.{refusal_of}
use Rattle.plain_heap.specs.Replies.{free_answer_in, load_answer, refusal_by_cache, refusal_by_size, store_answer}
use Rattle.plain_heap.specs.State.{word_of_slot}
use Rattle.yardstick.specs.Kept.{state_kept}
use Rattle.yardstick.proofs.RepliesLemmas.{due_of_free, tells_same}
use Rattle.yardstick.proofs.replies.is_reply.Goals as goal

pub returns-in-CacheAlloc : goal.returns-in-CacheAlloc
returns-in-CacheAlloc c = rw c.in-CacheAlloc.is c.is_cache_reply.ensures

pub returns-in-Link : goal.returns-in-Link
returns-in-Link c =
    let setting = c.args.setting.now in
    let state = state_kept setting c.args.kept.now in
    let is = c.store_answer-due-in-Link.ensures ∙ ap (λ word. store_answer setting state word c.in-Link.offset 8) c.slot_word-word-in-Link.ensures in
    rw c.in-Link.is (tells_same c.is_due-in-Link.result c.args.reply.now c.store_answer-due-in-Link.result
    (store_answer setting state (word_of_slot state c.args.thread c.in-Link.slot) c.in-Link.offset 8) is c.is_due-in-Link.ensures)

pub returns-in-Load : goal.returns-in-Load
returns-in-Load c =
    let setting = c.args.setting.now in
    let state = state_kept setting c.args.kept.now in
    let is = c.load_answer-due.ensures ∙ ap (λ word. load_answer setting state word c.in-Load.offset) c.slot_word-word-in-Load.ensures in
    rw c.in-Load.is (tells_same c.is_due-in-Load.result c.args.reply.now c.load_answer-due.result
    (load_answer setting state (word_of_slot state c.args.thread c.in-Load.slot) c.in-Load.offset) is c.is_due-in-Load.ensures)

pub returns-in_ok-due-in-Free : goal.returns-in_ok-due-in-Free
returns-in_ok-due-in-Free c =
    let setting = c.args.setting.now in
    let state = state_kept setting c.args.kept.now in
    let word = c.slot_word-word-in-Free in
    let due = c.in_ok-due-in-Free in
    elim c.in-Free.is [
      | inl free ↦
          let is = due_of_free setting state c.args.thread c.in-Free.slot word.result c.args.op.now (refusal_by_size free.0) due.due word.ensures (ap refusal_of free.1) due.ensures in
          rw free.1 (tells_same c.is_due-in-Free.result c.args.reply.now due.due
          (free_answer_in setting state (word_of_slot state c.args.thread c.in-Free.slot) (refusal_by_size free.0)) is c.is_due-in-Free.ensures)
      | inr free ↦
          let is = due_of_free setting state c.args.thread c.in-Free.slot word.result c.args.op.now (refusal_by_cache free.0) due.due word.ensures (ap refusal_of free.1) due.ensures in
          rw free.1 (tells_same c.is_due-in-Free.result c.args.reply.now due.due
          (free_answer_in setting state (word_of_slot state c.args.thread c.in-Free.slot) (refusal_by_cache free.0)) is c.is_due-in-Free.ensures)
    ]

pub returns-in-Alloc : goal.returns-in-Alloc
returns-in-Alloc c = elim c.in-Alloc.is [ inl is ↦ rw is.1 c.is_alloc_reply.ensures | inr is ↦ rw is.1 c.is_alloc_reply.ensures ]

use Rattle.std.proofs.Common.{◌≡◌, ◌+◌, ◌∷◌, length, ap, sym, ◌∙◌, refl, rules, arith}
use Rattle.trans_log.specs.SavedLog.{bytes_in_all}
use Rattle.trans_log.proofs.SavedLogLemmas.{bytes_in_all-cons, saved_by-read}
use Rattle.trans_log.proofs.saved_log.read_items.Goals as goal

pub loop-record-preserved : goal.loop-record-preserved
loop-record-preserved c =
    let rest : c.loop-record.record-iterator ≡ c.in-Some.record.now ∷ c.next.new.self = search rules in
    let whole : bytes_in_all (c.in-Some.record.now ∷ c.next.new.self) + c.loop-record.start ≡ length c.args.front.now + length c.args.back.now =
    ap (λ rs. bytes_in_all rs + c.loop-record.start) (sym rest) ∙ c.loop-record.invariant.within in
    let room : c.loop-record.items.spare ≡ length (c.in-Some.record.now ∷ c.next.new.self) = c.loop-record.invariant.room ∙ ap length rest in
    let left = rw rest at c.loop-record.invariant.read in
    record {
      can_next = tt;
      is_finite = tt;
      within = omega (arith, whole, bytes_in_all-cons c.in-Some.record.now c.next.new.self);
      room = omega (arith, c.push.ensures.spare, room);
      read = saved_by-read c.loop-record.start (c.loop-record.start + c.in-Some.record.now.length) c.in-Some.record.now c.next.new.self _ c.in_ok-joined.field-0 _ _ _ _ refl c.in_ok-joined.ensures refl c.push.ensures.items left;
    }

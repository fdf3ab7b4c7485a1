use Rattle.std.proofs.Common.{not, eqb, rules}
use Rattle.std.proofs.lemmas.Fn.{filter_same}
use Rattle.plain_heap.specs.State.{LiveBuffer}
use Rattle.yardstick.specs.Kept.{state_kept}
use Rattle.yardstick.proofs.StepsLemmas.{left_out_after}
use Rattle.yardstick.proofs.kept.Kept.give_back.Goals as goal

pub returns : goal.returns
returns c =
    let setting = c.args.setting.now in
    let written = c.write_freed.new.self in
    let left = filter_same _ (λ (buffer : LiveBuffer). not (eqb buffer.address c.args.address)) _ (λ x b f' h. search rules) c.write_freed.new.self.live.items c.retain.new.self.items c.retain.ensures.filtered in
    left_out_after setting (state_kept setting c.args.self.now) (state_kept setting written) c.retain.new.self.items c.args.address c.in_ok-write_freed.ensures left

use Rattle.std.proofs.Common.{ap}
use Rattle.std.specs.Option.{option_map}
use Rattle.yardstick.specs.Kept.{state_kept}
use Rattle.yardstick.proofs.LegalLemmas.{tells_shrink}
use Rattle.yardstick.proofs.legal.is_shrink.Goals as goal

pub returns-then-is_reaping : goal.returns-then-is_reaping
returns-then-is_reaping c =
    let setting = c.args.setting.now in
    tells_shrink setting (state_kept setting c.args.kept.now) c.args.cache c.args.base c.in-Some.entry.now (option_map (λ entry. entry.now) c.args.next)
    c.is_reaping.result c.has_unused.result (ap (option_map (λ entry. entry.now)) c.in-Some.is) c.is_reaping.ensures c.if-is_reaping.true c.has_unused.ensures

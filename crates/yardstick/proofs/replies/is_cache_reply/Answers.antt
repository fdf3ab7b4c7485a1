use Rattle.std.proofs.lemmas.Bool.Decides.{Decides-at}
use Rattle.yardstick.specs.Kept.{state_kept}
use Rattle.yardstick.specs.Tests.{is_cache_full}
use Rattle.yardstick.proofs.LegalLemmas.{tells_full}
use Rattle.yardstick.proofs.replies.is_cache_reply.Goals as goal

pub returns-in-At : goal.returns-in-At
returns-in-At c = rw c.in-At.is c.is_chosen.ensures

pub returns-in-NoSpace : goal.returns-in-NoSpace
returns-in-NoSpace c =
    let setting = c.args.setting.now in
    let state = state_kept setting c.args.kept.now in
    rw c.in-NoSpace.is (Decides-at c.is_cache_full.result (is_cache_full setting state c.args.cache) c.is_cache_full.ensures
    (tells_full setting state c.args.cache c.settled.ensures))

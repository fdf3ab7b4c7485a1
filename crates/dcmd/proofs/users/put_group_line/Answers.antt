use Rattle.std.specs.Prelude.{◌∷◌, ◌++◌, [], codes}
use Rattle.std.proofs.lemmas.Result.{on_ok_weaker}
use Rattle.dcmd.specs.Users.{number_and}
use Rattle.dcmd.proofs.LineLemmas.{three_put}
use Rattle.dcmd.proofs.users.put_group_line.Goals as goal

pub returns : goal.returns
returns c =
    let group = c.args.group.now in
    let total = number_and group.total (codes " bytes for ") in
    let count = number_and group.count (codes " allocations with data size ") in
    let size = number_and group.size (codes ":" ++ 10 ∷ []) in
    on_ok_weaker c.put_number_and-3.result (λ put. three_put c.args.out.now c.put_number_and.new.out c.put_number_and-2.new.out c.put_number_and-3.new.out total count size c.in_ok-put_number_and.ensures c.in_ok-put_number_and-2.ensures put) c.put_number_and-3.ensures

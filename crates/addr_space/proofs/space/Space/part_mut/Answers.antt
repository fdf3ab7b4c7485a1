use Rattle.std.proofs.Common.{◌<◌, ◌≤◌, ◌+◌, length, refl, ap, ◌∙◌, arith}
use Rattle.std.specs.List.{slice_range}
use Rattle.std.proofs.lemmas.List.{get_or_default}
use Rattle.std.proofs.lemmas.List.Edits.{length-between}
use Rattle.addr_space.specs.MappedRun.{MappedRun}
use Rattle.addr_space.proofs.SpaceLemmas.{IsSpace-with_part_at, set-with_part_at}
use Rattle.addr_space.proofs.space.Space.part_mut.Goals as goal

pub invariant_of-self-lent : goal.invariant_of-self-lent
invariant_of-self-lent c =
    λ w. let ms = c.self.inside.runs.items in
    let within : c.args.index < length ms = rw c.self.view_is c.requires.within in
    rw (set-with_part_at ms c.args.index c.args.from w c.index_mut-run.result.now within c.index_mut-run.ensures.value) (IsSpace-with_part_at ms c.args.index c.args.from w c.self.invariant)

pub returns : goal.returns
returns c =
    let ms = c.self.inside.runs.items in
    let within : c.args.index < length ms = rw c.self.view_is c.requires.within in
    let inside : c.args.from + c.args.count ≤ length c.index_mut-run.result.now.bytes = rw (c.index_mut-run.ensures.value, c.self.view_is) (c.requires.part c.index_mut-run.result.now) in
    rw (← c.self.view_is) (
      (refl, λ w. set-with_part_at ms c.args.index c.args.from w c.index_mut-run.result.now within c.index_mut-run.ensures.value),
      record {
        writes_back = tt;
        value = λ d. c.part_mut.ensures.value ∙ ap (λ (m : MappedRun). slice_range m.bytes c.args.from (c.args.from + c.args.count)) (c.index_mut-run.ensures.value ∙ get_or_default ms c.args.index c.index_mut-run.result.now d within);
        len = ap length c.part_mut.ensures.value ∙ length-between c.index_mut-run.result.now.bytes c.args.from (c.args.from + c.args.count) inside ∙ omega arith;
      },
    )

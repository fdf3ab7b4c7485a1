use Rattle.std.specs.Int as int
use Rattle.std.proofs.Common.{◌*◌, ◌%◌, ◌≡◌, ℕ, List, ap, length, get_or, ◌∙◌, arith}
use Rattle.std.specs.Int.{to_le_bytes}
use Rattle.umem_base.proofs.WordsLemmas.{repeated_at}
use Rattle.addr_space.specs.Space.{IsMappedRange}
use Rattle.addr_space.proofs.SpaceLemmas.{IsMappedRange-place, IsSound-writes, run_below, Writes-with_part_at, Writes-same}
use Rattle.addr_space.proofs.space.Space.fill.Goals as goal

pub overflow_mul-count : goal.overflow_mul-count
overflow_mul-count c =
    let below = run_below c.self.inside.runs.items c.args.at (8 * c.args.words) c.self.invariant (rw (← c.self.view_is) at c.requires) in
    omega arith

pub returns-in-Some-clause-filled : goal.returns-in-Some-clause-filled
returns-in-Some-clause-filled c =
    let ms = c.self.inside.runs.items in
    let place = rw (← c.self.view_is) at c.in-Some.ensures.found in
    let len : length c.fill_words.new.bytes ≡ 8 * c.args.words = c.fill_words.auto.bytes ∙ c.part_mut-part.ensures.len in
    rw (← c.self.view_is) (Writes-same ms _ c.args.at (8 * c.args.words) (λ k. get_or c.fill_words.new.bytes k 0) (λ k. get_or (to_le_bytes int.w64 c.args.value) (k % 8) 0)
    (Writes-with_part_at ms c.in-Some.place.index c.in-Some.place.from c.args.at (8 * c.args.words) c.fill_words.new.bytes c.self.invariant place.1 place.2 len)
    (λ k lt. ap (λ (bs : List ℕ). get_or bs k 0) c.fill_words.ensures ∙ repeated_at (length c.part_mut-part.result.now) c.args.value k (omega arith)))

pub returns-in-Some-clause-sound : goal.returns-in-Some-clause-sound
returns-in-Some-clause-sound c =
    let ms = c.self.inside.runs.items in
    let place = rw (← c.self.view_is) at c.in-Some.ensures.found in
    let mapped : IsMappedRange c.args.self.now c.args.at (8 * c.args.words) = rw (← c.self.view_is) (IsMappedRange-place ms c.in-Some.place.index c.in-Some.place.from c.args.at (8 * c.args.words) c.self.invariant place.1 place.2) in
    IsSound-writes _ _ c.args.at (8 * c.args.words) (λ k. get_or (to_le_bytes int.w64 c.args.value) (k % 8) 0) c.in-Some.ensures.sound mapped (returns-in-Some-clause-filled c)

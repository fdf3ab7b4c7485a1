use Rattle.umem_base.specs.declared.span.Span.{Span}
use Rattle.std.proofs.Common.{rules}
use Rattle.std.proofs.lemmas.List.Sorted.{answers_always}
use Rattle.span_arena.proofs.ArenaLemmas.{found_by_base}
use Rattle.span_arena.proofs.arena.index_of.Goals as goal

pub returns : goal.returns
returns c =
    let position = c.binary_search_by_key.ensures.position (λ (s : Span). s.base) (answers_always _ _ _ (λ f a r g called. search rules)) in
    rw c.ok.ensures.value (found_by_base c.args.spans.now c.args.base c.binary_search_by_key.result c.requires c.binary_search_by_key.ensures.bound position)

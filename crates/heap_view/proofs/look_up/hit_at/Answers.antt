use Rattle.std.proofs.Common.{◌∙◌, length, List, sym, ap}
use Rattle.core_format.specs.declared.items.OwnRoot.{OwnRoot}
use Rattle.heap_view.proofs.HitsLemmas.{arena_hit, own_hit, root_hit}
use Rattle.heap_view.proofs.look_up.hit_at.Goals as goal

pub returns-then-is_in_pages : goal.returns-then-is_in_pages
returns-then-is_in_pages c = root_hit c.args.core.now c.args.address c.word_in_page.result (sym c.is_in_pages.ensures ∙ c.if-is_in_pages.true) c.word_in_page.ensures

pub returns-then-is_in_pages-2 : goal.returns-then-is_in_pages-2
returns-then-is_in_pages-2 c =
    own_hit c.args.core.now c.args.address (length c.as_slice.result.now) c.word_in_page-then-is_in_pages-2.result (sym c.is_in_pages.ensures ∙ c.if-is_in_pages.false) (ap (λ (xs : List OwnRoot). length xs) c.as_slice.ensures)
    (sym c.is_in_pages-2.ensures ∙ c.if-is_in_pages-2.true) c.word_in_page-then-is_in_pages-2.ensures

pub returns : goal.returns
returns c =
    arena_hit c.args.core.now c.args.address (length c.as_slice.result.now) c.hit_in_arena.result (sym c.is_in_pages.ensures ∙ c.if-is_in_pages.false) (ap (λ (xs : List OwnRoot). length xs) c.as_slice.ensures)
    (sym c.is_in_pages-2.ensures ∙ c.if-is_in_pages-2.false) c.hit_in_arena.ensures

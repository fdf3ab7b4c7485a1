use Rattle.std.proofs.Common.{◌≡◌, ◌+◌, ◌-◌, length}
use Rattle.core_format.specs.Items.{items_at}
use Rattle.core_format.specs.PageBytes.{large_page_at}
use Rattle.core_format.proofs.read_pages.large_pages.Given as goal

abbrev pub invariant-loop : goal.invariant-loop
invariant-loop l = record {
  read : items_at (large_page_at l.large) (l.count - l.counter) l.pages.items l.reader ≡ items_at (large_page_at l.large) l.count l.fn.before.items l.fn.reader;
  many : length l.pages.items ≡ length l.fn.before.items + l.counter;
}

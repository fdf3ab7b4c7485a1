use Rattle.core_format.proofs.CacheLemmas.{shape_from_rules}
use Rattle.core_format.proofs.read_caches.cache.Goals as goal

pub returns-clause-shape : goal.returns-clause-shape
returns-clause-shape c = rw c.cache_item_of.ensures (shape_from_rules _ c.in_ok-numbers.numbers _ c.in_ok-check_numbers.ensures)

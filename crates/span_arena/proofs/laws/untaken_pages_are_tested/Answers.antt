use Rattle.span_arena.proofs.UntakenLemmas.{is_untaken-tells, is_untaken-from, is_untaken-put_by}
use Rattle.span_arena.proofs.laws.untaken_pages_are_tested.Goals as goal

pub returns-clause-tested : goal.returns-clause-tested
returns-clause-tested c = λ spans address. (is_untaken-tells spans address, is_untaken-from spans address)

pub returns-clause-one_more : goal.returns-clause-one_more
returns-clause-one_more c = is_untaken-put_by

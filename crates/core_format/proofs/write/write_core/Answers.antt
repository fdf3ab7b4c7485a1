use Rattle.std.proofs.Common.{ℕ, List, [], ◌++◌, sym, subst}
use Rattle.core_format.specs.Spelling.{spelled_front, spelled_middle, spelled_pages, spelled_records}
use Rattle.core_format.specs.Cores.{IsCore}
use Rattle.core_format.proofs.CoreLemmas.{read_again}
use Rattle.core_format.proofs.PutLemmas.{put_pair}
use Rattle.core_format.proofs.write.write_core.Goals as goal

pub returns-clause-spelled : goal.returns-clause-spelled
returns-clause-spelled c = put_pair [] (c.put_records.new.out.items) (c.put_pages.new.out.items) (spelled_front c.args.core.now ++ spelled_middle c.args.core.now ++ spelled_records c.args.core.now) (spelled_pages c.args.core.now.slabs c.args.core.now.large) (put_pair [] (c.put_middle.new.out.items) (c.put_records.new.out.items) (spelled_front c.args.core.now ++ spelled_middle c.args.core.now) (spelled_records c.args.core.now) (put_pair [] (c.put_front.new.out.items) (c.put_middle.new.out.items) (spelled_front c.args.core.now) (spelled_middle c.args.core.now) (rw c.new-out.ensures.items at c.in_ok-put_front.ensures) (c.in_ok-put_middle.ensures)) (c.in_ok-put_records.ensures)) (rw (c.as_slice.ensures, c.as_slice-2.ensures) at c.in_ok-put_pages.ensures)

pub returns-clause-again : goal.returns-clause-again
returns-clause-again c = λ meets. subst (λ (bytes : List ℕ). IsCore bytes c.args.core.now) (sym (returns-clause-spelled c)) (read_again c.args.core.now meets)

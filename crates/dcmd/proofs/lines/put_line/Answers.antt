use Rattle.std.proofs.lemmas.Result.{on_ok_weaker}
use Rattle.dcmd.specs.Columns.{column_text}
use Rattle.dcmd.proofs.LineLemmas.{line_put}
use Rattle.dcmd.proofs.lines.put_line.Goals as goal

pub returns : goal.returns
returns c =
    on_ok_weaker c.push_slice.result (λ put. line_put column_text c.args.out.now c.put_column.new.out c.put_behind.new.out c.push_slice.new.self (column_text c.args.first) c.args.more.now c.in_ok-put_column.ensures c.in_ok-put_behind.ensures put) c.push_slice.ensures.ok

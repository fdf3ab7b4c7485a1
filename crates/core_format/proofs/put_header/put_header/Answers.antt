use Rattle.std.proofs.Common.{◌++◌}
use Rattle.core_format.proofs.PutLemmas.{put_last, put_pair}
use Rattle.std.proofs.Common.{[], ◌∷◌, length}
use Rattle.case_table.specs.Record.{spelling}
use Rattle.core_format.specs.declared.read_header.TheConstants.{MAGIC}
use Rattle.core_format.proofs.put_header.put_header.Goals as goal

pub returns : goal.returns
returns c = put_last c.put_logs.result c.args.out.now.items (c.put_sizes.new.out.items) (c.put_logs.new.out.items) (spelling (8 ∷ 4 ∷ 4 ∷ 4 ∷ 4 ∷ []) (MAGIC ∷ c.args.core.now.version ∷ c.args.core.now.flags.0 ∷ c.args.core.now.frames ∷ c.args.core.now.contents ∷ []) ++ spelling (4 ∷ 4 ∷ 4 ∷ 4 ∷ 4 ∷ []) (c.args.core.now.cpus ∷ length c.args.core.now.caches ∷ length c.args.core.now.slabs ∷ length c.args.core.now.large ∷ length c.args.core.now.audits ∷ [])) (spelling (4 ∷ 4 ∷ 4 ∷ 4 ∷ 4 ∷ 8 ∷ []) (c.args.core.now.trans_capacity ∷ length c.args.core.now.trans ∷ c.args.core.now.fail_capacity ∷ length c.args.core.now.fails ∷ c.args.core.now.next_chunk ∷ c.args.core.now.entries ∷ [])) (put_pair c.args.out.now.items (c.put_options.new.out.items) (c.put_sizes.new.out.items) (spelling (8 ∷ 4 ∷ 4 ∷ 4 ∷ 4 ∷ []) (MAGIC ∷ c.args.core.now.version ∷ c.args.core.now.flags.0 ∷ c.args.core.now.frames ∷ c.args.core.now.contents ∷ [])) (spelling (4 ∷ 4 ∷ 4 ∷ 4 ∷ 4 ∷ []) (c.args.core.now.cpus ∷ length c.args.core.now.caches ∷ length c.args.core.now.slabs ∷ length c.args.core.now.large ∷ length c.args.core.now.audits ∷ [])) (c.in_ok-put_options.ensures) (c.in_ok-put_sizes.ensures)) (c.put_logs.ensures)

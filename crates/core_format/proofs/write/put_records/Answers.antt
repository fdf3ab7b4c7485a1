use Rattle.std.proofs.Common.{◌++◌}
use Rattle.std.specs.List.{flat_map}
use Rattle.core_format.specs.Spelling.{spelled_audit, spelled_fail, spelled_saved, spelled_trans}
use Rattle.core_format.proofs.PutLemmas.{put_last, put_pair}
use Rattle.core_format.proofs.write.put_records.Goals as goal

pub returns : goal.returns
returns c = put_last c.put_all-4.result c.args.out.now.items (c.put_all-3.new.out.items) (c.put_all-4.new.out.items) (flat_map spelled_audit c.args.core.now.audits ++ flat_map spelled_trans c.args.core.now.trans ++ flat_map spelled_fail c.args.core.now.fails) (flat_map spelled_saved c.args.core.now.saved) (put_pair c.args.out.now.items (c.put_all-2.new.out.items) (c.put_all-3.new.out.items) (flat_map spelled_audit c.args.core.now.audits ++ flat_map spelled_trans c.args.core.now.trans) (flat_map spelled_fail c.args.core.now.fails) (put_pair c.args.out.now.items (c.put_all.new.out.items) (c.put_all-2.new.out.items) (flat_map spelled_audit c.args.core.now.audits) (flat_map spelled_trans c.args.core.now.trans) (rw c.as_slice.ensures at c.in_ok-put_all.ensures) (rw c.as_slice-2.ensures at c.in_ok-put_all-2.ensures)) (rw c.as_slice-3.ensures at c.in_ok-put_all-3.ensures)) (rw c.as_slice-4.ensures at c.put_all-4.ensures)

use Rattle.std.proofs.Common.{◌++◌}
use Rattle.std.specs.List.{flat_map}
use Rattle.core_format.specs.Spelling.{spelled_depot, spelled_large, spelled_place, spelled_slab}
use Rattle.core_format.proofs.PutLemmas.{put_last, put_pair}
use Rattle.core_format.proofs.write.put_middle.Goals as goal

pub returns : goal.returns
returns c = put_last c.put_all-4.result c.args.out.now.items (c.put_all-3.new.out.items) (c.put_all-4.new.out.items) (flat_map spelled_slab c.args.core.now.slabs ++ flat_map spelled_large c.args.core.now.large ++ flat_map spelled_place c.args.core.now.cpu_places) (flat_map spelled_depot c.args.core.now.depots) (put_pair c.args.out.now.items (c.put_all-2.new.out.items) (c.put_all-3.new.out.items) (flat_map spelled_slab c.args.core.now.slabs ++ flat_map spelled_large c.args.core.now.large) (flat_map spelled_place c.args.core.now.cpu_places) (put_pair c.args.out.now.items (c.put_all.new.out.items) (c.put_all-2.new.out.items) (flat_map spelled_slab c.args.core.now.slabs) (flat_map spelled_large c.args.core.now.large) (rw c.as_slice.ensures at c.in_ok-put_all.ensures) (rw c.as_slice-2.ensures at c.in_ok-put_all-2.ensures)) (rw c.as_slice-3.ensures at c.in_ok-put_all-3.ensures)) (rw c.as_slice-4.ensures at c.put_all-4.ensures)

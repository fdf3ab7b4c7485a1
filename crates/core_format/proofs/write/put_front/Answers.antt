use Rattle.std.proofs.Common.{◌++◌}
use Rattle.std.specs.List.{flat_map}
use Rattle.core_format.specs.Spelling.{header_of_core, second_of_core, spelled_cache, spelled_header, spelled_own, spelled_second, spelled_words}
use Rattle.core_format.proofs.PutLemmas.{put_last, put_pair}
use Rattle.core_format.proofs.write.put_front.Goals as goal

pub returns : goal.returns
returns c = put_last c.put_caches.result c.args.out.now.items (c.put_all-2.new.out.items) (c.put_caches.new.out.items) (spelled_header (header_of_core c.args.core.now) ++ spelled_second c.args.core.now.version (second_of_core c.args.core.now) ++ spelled_words c.args.core.now.root ++ flat_map spelled_own c.args.core.now.own) (flat_map (spelled_cache c.args.core.now.version) c.args.core.now.caches) (put_pair c.args.out.now.items (c.put_all.new.out.items) (c.put_all-2.new.out.items) (spelled_header (header_of_core c.args.core.now) ++ spelled_second c.args.core.now.version (second_of_core c.args.core.now) ++ spelled_words c.args.core.now.root) (flat_map spelled_own c.args.core.now.own) (put_pair c.args.out.now.items (c.put_second.new.out.items) (c.put_all.new.out.items) (spelled_header (header_of_core c.args.core.now) ++ spelled_second c.args.core.now.version (second_of_core c.args.core.now)) (spelled_words c.args.core.now.root) (put_pair c.args.out.now.items (c.put_header.new.out.items) (c.put_second.new.out.items) (spelled_header (header_of_core c.args.core.now)) (spelled_second c.args.core.now.version (second_of_core c.args.core.now)) (c.in_ok-put_header.ensures) (c.in_ok-put_second.ensures)) (rw c.as_slice.ensures at c.in_ok-put_all.ensures)) (rw c.as_slice-2.ensures at c.in_ok-put_all-2.ensures)) (rw c.as_slice-3.ensures at c.put_caches.ensures)

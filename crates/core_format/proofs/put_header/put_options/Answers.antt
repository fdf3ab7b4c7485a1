use Rattle.std.proofs.Common.{◌++◌}
use Rattle.byteorder.specs.Endian.{little_bytes}
use Rattle.core_format.specs.declared.read_header.TheConstants.{MAGIC}
use Rattle.core_format.proofs.PutLemmas.{put_last, put_pair}
use Rattle.core_format.proofs.put_header.put_options.Goals as goal

pub returns : goal.returns
returns c =
    let core = c.args.core.now in
    let a = little_bytes 8 MAGIC in
    let b = little_bytes 4 core.version ++ little_bytes 4 core.flags.0 in
    let d = little_bytes 4 core.frames ++ little_bytes 4 core.contents in
    let out = c.args.out.now.items in
    let two = put_pair out c.put.new.out.items c.put_two.new.out.items a b c.in_ok-put.ensures (rw c.flag_bits-flags.ensures at c.in_ok-put_two.ensures) in
    put_last c.put_two-2.result out c.put_two.new.out.items c.put_two-2.new.out.items (a ++ b) d two c.put_two-2.ensures

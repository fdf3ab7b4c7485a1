use Rattle.std.proofs.Common.{◌++◌}
use Rattle.byteorder.specs.Endian.{little_bytes}
use Rattle.core_format.specs.Spelling.{spelled_count, spelled_words}
use Rattle.core_format.proofs.PutLemmas.{put_last, put_pair}
use Rattle.core_format.proofs.put_items.TransSpell.put.Goals as goal

pub returns : goal.returns
returns c =
    let t = c.args.self.now in
    let a = little_bytes 4 t.kind ++ little_bytes 4 t.cpu in
    let b = little_bytes 4 t.thread ++ little_bytes 4 t.chunk in
    let d = little_bytes 8 t.address ++ little_bytes 8 t.time in
    let out = c.args.out.now.items in
    let two = put_pair out c.put_two.new.out.items c.put_two-2.new.out.items a b c.in_ok-put_two.ensures c.in_ok-put_two-2.ensures in
    let three = put_pair out c.put_two-2.new.out.items c.put_two-3.new.out.items (a ++ b) d two c.in_ok-put_two-3.ensures in
    put_last c.put_words.result out c.put_two-3.new.out.items c.put_words.new.out.items ((a ++ b) ++ d) (spelled_count t.stack ++ spelled_words t.stack) three (rw c.as_slice.ensures at c.put_words.ensures)

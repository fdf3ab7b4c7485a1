use Rattle.yardstick.proofs.FreeChunkLemmas.{free_bufctl, free_content, free_mark, free_past, free_redzone}
use Rattle.yardstick.proofs.chunks.free_byte.Goals as goal

pub returns-then-place-content : goal.returns-then-place-content
returns-then-place-content c =
    free_content c.args.shape.now c.from-content.result c.args.place c.to_le_bytes.result c.from-content.ensures c.if-place-content.true c.to_le_bytes.ensures

pub returns-then-behind-lt8 : goal.returns-then-behind-lt8
returns-then-behind-lt8 c =
    free_redzone c.args.shape.now c.from-content.result c.args.place c.to_le_bytes-then-behind-lt8.result c.from-content.ensures c.if-place-content.false
    c.if-behind-lt8.true c.to_le_bytes-then-behind-lt8.ensures

pub returns-then-behind-lt16 : goal.returns-then-behind-lt16
returns-then-behind-lt16 c =
    free_bufctl c.args.shape.now c.from-content.result c.args.place c.to_le_bytes-then-behind-lt16.result c.from-content.ensures c.if-place-content.false
    c.if-behind-lt8.false c.if-behind-lt16.true c.to_le_bytes-then-behind-lt16.ensures

pub returns-then-behind-lt24 : goal.returns-then-behind-lt24
returns-then-behind-lt24 c =
    free_mark c.args.shape.now c.from-content.result c.args.place c.to_le_bytes-then-behind-lt24.result c.from-content.ensures c.if-place-content.false
    c.if-behind-lt16.false c.to_le_bytes-then-behind-lt24.ensures

pub returns-else-behind-lt24 : goal.returns-else-behind-lt24
returns-else-behind-lt24 c =
    free_past c.args.shape.now c.from-content.result c.args.place c.from-content.ensures c.if-place-content.false c.if-behind-lt24.false

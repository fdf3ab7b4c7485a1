use Rattle.buftag.proofs.WrittenLemmas.{finding-free_chunk}
use Rattle.buftag.proofs.write.write_free.Goals as goal

pub returns-clause-written : goal.returns-clause-written
returns-clause-written c = rw (c.fill_words.ensures, c.write_word.ensures, c.write_bufctl.ensures.written, c.split_at_mut-content.ensures.front_len)

pub returns-clause-whole : goal.returns-clause-whole
returns-clause-whole c =
    rw (c.fill_words.ensures, c.write_word.ensures, c.write_bufctl.ensures.written, c.split_at_mut-content.ensures.front_len)
    (finding-free_chunk c.args.shape.now c.write_bufctl.ensures.fits)

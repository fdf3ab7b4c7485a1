use Rattle.std.proofs.Common.{sym, subst}
use Rattle.std.specs.Str.{IsUtf8}
use Rattle.umem_cli.proofs.words.strings_of.Goals as goal

pub string_of-requires : goal.string_of-requires
string_of-requires c = subst IsUtf8 (sym c.word-item.is) (c.requires c.loop-word.word-index c.word-item.result c.loop-word-test.true)

-- The texts of the record that the code fills from the matches of a parse.
use Rattle.std.specs.Prelude.{ℕ, List, Option, option_map}
use Rattle.std.specs.Borrow.{Bor}
use Rattle.umem_words.specs.declared.told.Told.{Told as Given}
use Rattle.umem_words.specs.Told.{Told}

-- a text that may be left out
abbrev pub text_told : Option (Bor (List ℕ)) → Option (List ℕ)
text_told text = option_map (λ s. s.now) text

-- the texts behind the references
abbrev pub told_texts : Given → Told
told_texts t = record {
  mode = text_told t.mode;
  file = text_told t.file;
  core = text_told t.core;
  debug = text_told t.debug;
  logging = text_told t.logging;
  seed = text_told t.seed;
  ops = text_told t.ops;
}

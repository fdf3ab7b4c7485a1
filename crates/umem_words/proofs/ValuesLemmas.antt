-- What an empty text means.
use Rattle.std.proofs.Common.{◌≡◌, [], refl}
use Rattle.umem_options.specs.Debug.{no_options, options_of}
use Rattle.umem_options.specs.Logging.{no_logging, logging_of}

-- it switches nothing on
pub no_text_no_options : options_of [] ≡ no_options
unfolding options_of
no_text_no_options = refl

-- it asks for no log
pub no_text_no_logging : logging_of [] ≡ no_logging
unfolding logging_of
no_text_no_logging = refl

-- What the values of the options mean.
use Rattle.std.specs.Prelude.{ℕ, ◌-◌, ◌^◌, ◌==◌, ◌&&◌, ◌||◌, Bool, not, List, length, slice_index, Option, Some, None, nat_le, option_and_then, if◌then◌else◌}
use Rattle.std.specs.Str.Parse.{digits_value}
use Rattle.umem_base.specs.Numbers.{is_decimal}
use Rattle.umem_options.specs.declared.options.Options.{Options}
use Rattle.umem_options.specs.declared.options.Logging.{Logging}
use Rattle.umem_options.specs.Debug.{no_options, options_of}
use Rattle.umem_options.specs.Logging.{no_logging, logging_of}
use Rattle.umem_words.specs.declared.limits.TheConstants.{MOST_OPS}

-- decimal digits without a leading zero: zero itself is `0`
abbrev pub is_number : List ℕ → Bool
is_number text = is_decimal text && (length text == 1 || not (slice_index text 0 == 48))

-- the number that a text spells, where it is at most `most`
abbrev pub number_up_to : ℕ → List ℕ → Option ℕ
number_up_to most text =
    if is_number text && nat_le (digits_value 10 text) most then Some (digits_value 10 text) else None

-- the seed of a generated script, below 2 ^ 64
abbrev pub seed_given : Option (List ℕ) → Option ℕ
seed_given text = option_and_then (number_up_to (2 ^ 64 - 1)) text

-- how many operations a generated script has
abbrev pub ops_given : Option (List ℕ) → Option ℕ
ops_given text = option_and_then (number_up_to MOST_OPS) text

-- the options; where the text is left out none is on
abbrev pub options_given : Option (List ℕ) → Options
options_given None = no_options
options_given (Some text) = options_of text

-- the sizes of the logs; where the text is left out there is no log
abbrev pub logging_given : Option (List ℕ) → Logging
logging_given None = no_logging
logging_given (Some text) = logging_of text

-- What the text of UMEM_LOGGING means.
use Rattle.std.specs.Prelude.{ℕ, ◌-◌, ◌*◌, ◌^◌, ◌==◌, ◌||◌, List, length, take, slice_index, codes, fold, Option, Some, None, nat_le, if◌then◌else◌}
use Rattle.std.specs.Str.{bytes_eq}
use Rattle.std.specs.Str.Parse.{digits_value}
use Rattle.umem_base.specs.Numbers.{is_decimal}
use Rattle.umem_options.specs.declared.limits.TheConstants.{DEFAULT_LOG_BYTES, MOST_LOG_BYTES}
use Rattle.umem_options.specs.declared.options.Logging.{Logging}
use Rattle.umem_options.specs.declared.item.LoggingItem.{LoggingItem}
use Rattle.umem_options.specs.declared.item.LoggingItem.TheVariants.{Transaction, Contents, Fail, Unknown}
use Rattle.umem_options.specs.Items.{items_of, setting_of}

-- how many bytes a letter stands for: k, m, g and t in either case, and 1 for any other byte
abbrev pub unit_of : ℕ → ℕ
unit_of letter =
    if letter == 75 || letter == 107 then 1024 else (
    if letter == 77 || letter == 109 then 1024 ^ 2 else (
    if letter == 71 || letter == 103 then 1024 ^ 3 else (
    if letter == 84 || letter == 116 then 1024 ^ 4 else 1)))

-- the unit at the end of a value
abbrev pub unit_at_end : List ℕ → ℕ
unit_at_end value = unit_of (slice_index value (length value - 1))

-- what stands before it
abbrev pub before_unit : List ℕ → List ℕ
before_unit value = if unit_at_end value == 1 then value else take (length value - 1) value

-- so many units, but 0 where that is too much
abbrev pub bytes_in : ℕ → ℕ → ℕ
bytes_in count unit = if nat_le (count * unit) MOST_LOG_BYTES then count * unit else 0

-- the bytes that a value gives: digits, and at most one letter behind them; 0 for any other value
abbrev pub size_of : List ℕ → ℕ
size_of value =
    if is_decimal (before_unit value) then bytes_in (digits_value 10 (before_unit value)) (unit_at_end value) else 0

-- the log of that name, with its size
abbrev pub log_named : List ℕ → ℕ → LoggingItem
log_named name size =
    if bytes_eq name (codes "transaction") then Transaction size else (
    if bytes_eq name (codes "contents") then Contents size else (
    if bytes_eq name (codes "fail") then Fail size else Unknown))

-- an item that is cut at its first `=`, where it has one: a name alone asks for 64 KiB
abbrev pub logging_item_by : List ℕ → Option (List ℕ × List ℕ) → LoggingItem
logging_item_by item None = log_named item DEFAULT_LOG_BYTES
logging_item_by item (Some setting) = log_named setting.0 (size_of setting.1)

-- what an item means
abbrev pub logging_item : List ℕ → LoggingItem
logging_item item = logging_item_by item (setting_of item)

-- every log is disabled
abbrev pub no_logging : Logging
no_logging = record { transaction = 0; contents = 0; fail = 0 }

-- what an item makes of the sizes
abbrev pub logging_after : Logging → LoggingItem → Logging
logging_after l (Transaction size) = record l { transaction = size }
logging_after l (Contents size) = record l { contents = size }
logging_after l (Fail size) = record l { fail = size }
logging_after l Unknown = l

-- what a text means: its items from left to right
unfoldable pub logging_of : List ℕ → Logging
logging_of text = fold (λ l item. logging_after l (logging_item item)) no_logging (items_of text)

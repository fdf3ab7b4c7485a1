-- What the text of UMEM_DEBUG means.
use Rattle.std.specs.Prelude.{ℕ, List, codes, min, fold, Option, Some, None, if◌then◌else◌}
use Rattle.std.specs.Str.{bytes_eq}
use Rattle.std.specs.Str.Parse.{digits_value}
use Rattle.umem_base.specs.Numbers.{is_decimal}
use Rattle.umem_options.specs.declared.flags.TheConstants.DebugFlags.{AUDIT, CONTENTS, GUARDS}
use Rattle.umem_options.specs.declared.limits.TheConstants.{DEFAULT_CONTENTS, DEFAULT_FRAMES, MOST_CONTENTS, MOST_FRAMES}
use Rattle.umem_options.specs.declared.options.Options.{Options}
use Rattle.umem_options.specs.declared.item.DebugItem.{DebugItem}
use Rattle.umem_options.specs.declared.item.DebugItem.TheVariants.{Audit, Contents, Guards, Default, Unknown}
use Rattle.umem_options.specs.Flags.{with_flag}
use Rattle.umem_options.specs.Items.{items_of, setting_of}

-- the count that a value gives: its digits, but no more than `most`, and `otherwise` where it is no number
abbrev pub count_of : ℕ → ℕ → List ℕ → ℕ
count_of otherwise most value = if is_decimal value then min (digits_value 10 value) most else otherwise

-- an item that is a name alone
abbrev pub debug_name : List ℕ → DebugItem
debug_name name =
    if bytes_eq name (codes "audit") then Audit DEFAULT_FRAMES else (
    if bytes_eq name (codes "contents") then Contents DEFAULT_CONTENTS else (
    if bytes_eq name (codes "guards") then Guards else (
    if bytes_eq name (codes "default") then Default else Unknown)))

-- an item NAME=VALUE
abbrev pub debug_setting : List ℕ → List ℕ → DebugItem
debug_setting name value =
    if bytes_eq name (codes "audit") then Audit (count_of DEFAULT_FRAMES MOST_FRAMES value) else (
    if bytes_eq name (codes "contents") then Contents (count_of DEFAULT_CONTENTS MOST_CONTENTS value) else Unknown)

-- an item that is cut at its first `=`, where it has one
abbrev pub debug_item_by : List ℕ → Option (List ℕ × List ℕ) → DebugItem
debug_item_by item None = debug_name item
debug_item_by item (Some setting) = debug_setting setting.0 setting.1

-- what an item means
abbrev pub debug_item : List ℕ → DebugItem
debug_item item = debug_item_by item (setting_of item)

-- no flag is set, and the counts are those that a text need not give
abbrev pub no_options : Options
no_options = record { flags = record { 0 = 0 }; frames = DEFAULT_FRAMES; contents = DEFAULT_CONTENTS }

-- the options with guards
abbrev pub guarded : Options → Options
guarded o = record o { flags = with_flag o.flags GUARDS }

-- the options with audit, which comes with the guards
abbrev pub audited : Options → ℕ → Options
audited o frames = guarded (record o { flags = with_flag o.flags AUDIT; frames = frames })

-- the options with a count of contents
abbrev pub with_contents : Options → ℕ → Options
with_contents o count = record o { flags = with_flag o.flags CONTENTS; contents = count }

-- what an item makes of the options
abbrev pub debug_after : Options → DebugItem → Options
debug_after o (Audit frames) = audited o frames
debug_after o (Contents count) = with_contents o count
debug_after o Guards = guarded o
debug_after o Default = guarded (with_contents (audited o DEFAULT_FRAMES) DEFAULT_CONTENTS)
debug_after o Unknown = o

-- what a text means: its items from left to right
unfoldable pub options_of : List ℕ → Options
options_of text = fold (λ o item. debug_after o (debug_item item)) no_options (items_of text)

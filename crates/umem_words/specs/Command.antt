-- The one simple command that the words of a command line are read with.
use Rattle.std.specs.Prelude.{ℕ, List, [], ◌∷◌, Some, true, codes}
use Rattle.clap.specs.Words.{App, Rule, new_app, new_rule}

-- the first word that stands alone, which is needed
abbrev pub mode_rule : Rule
mode_rule = record (new_rule (codes "mode")) { required = true }

-- the second one, which may be left out
abbrev pub file_rule : Rule
file_rule = new_rule (codes "file")

-- an option of that name, with one value, which is used at most once and may be left out
abbrev pub option_rule : List ℕ → Rule
option_rule name = record (new_rule name) { long = Some name }

-- a command with these arguments, whose words have no program's name in front, and which answers no call for help
abbrev pub command_with : List Rule → App
command_with rules = record (new_app (codes "umem")) {
  top = record (new_app (codes "umem")).top { rules = rules; no_binary_name = true; disable_help_flag = true };
}

-- the command: a mode, a file, and five options
abbrev pub command : App
command = command_with (mode_rule
    ∷ file_rule
    ∷ option_rule (codes "core")
    ∷ option_rule (codes "debug")
    ∷ option_rule (codes "logging")
    ∷ option_rule (codes "seed")
    ∷ option_rule (codes "ops")
    ∷ [])

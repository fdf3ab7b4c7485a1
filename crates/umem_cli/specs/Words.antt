-- Words of a command line: as the system gives them they are any bytes, and a command is text.
use Rattle.std.specs.Prelude.{◌≡◌, ℕ, List, Option, All, IfSome, slice_get}
use Rattle.std.specs.Str.{IsUtf8}

-- each word is text, in UTF-8
abbrev pub AreText : List (List ℕ) → Type 0
AreText words = All IsUtf8 words

-- a device that tells its words has this one at the index, or none where they end
abbrev pub IsWordAt : Option (List (List ℕ)) → ℕ → Option (List ℕ) → Type 0
IsWordAt told index word = IfSome told (λ words. word ≡ slice_get words index)

-- these are the words of the device, where it tells them
abbrev pub AreTold : Option (List (List ℕ)) → List (List ℕ) → Type 0
AreTold told given = IfSome told (λ words. given ≡ words)

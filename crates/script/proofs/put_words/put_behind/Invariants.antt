use Rattle.std.proofs.Common.{◌≡◌, ◌∷◌, ◌++◌, take}
use Rattle.std.specs.List.{flat_map}
use Rattle.script.specs.PlanText.{word_text}
use Rattle.script.specs.declared.text_word.TextWord.{TextWord}
use Rattle.script.proofs.put_words.put_behind.Given as goal

abbrev pub invariant-loop-word : goal.invariant-loop-word
invariant-loop-word l = l.out ≡ l.initial.out ++ flat_map (λ (word : TextWord). 32 ∷ word_text word) (take l.word-index l.words)

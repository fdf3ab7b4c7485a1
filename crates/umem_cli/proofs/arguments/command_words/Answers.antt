use Rattle.std.proofs.Common.{refl, sym, ◌∙◌, inl, inr}
use Rattle.umem_cli.proofs.arguments.command_words.Goals as goal

pub returns-then-not-are_text-clause-refused : goal.returns-then-not-are_text-clause-refused
returns-then-not-are_text-clause-refused g c =
    rw (c.in-Ok.is, ← c.as_slice.ensures.value) (inl ((λ text. cc (c.if-not-are_text.ensures.1 text)), c.refuse_words.ensures))

pub strings_of-requires : goal.strings_of-requires
strings_of-requires g c = rw (c.as_slice-2.ensures.value, ← c.as_slice.ensures.value) (c.if-not-are_text.ensures.0 refl)

pub returns-in-Ok-strings_of-clause-words : goal.returns-in-Ok-strings_of-clause-words
returns-in-Ok-strings_of-clause-words g c =
    rw (c.in-Ok.is, ← c.as_slice.ensures.value) (
      c.if-not-are_text.ensures.0 refl,
      c.in-Ok-strings_of.ensures ∙ c.as_slice-2.ensures.value ∙ sym c.as_slice.ensures.value,
    )

pub returns-clause-refused : goal.returns-clause-refused
returns-clause-refused g c =
    rw (c.in-Ok.is, ← c.as_slice.ensures.value) (inr (c.if-not-are_text.ensures.0 refl, refl, refl))

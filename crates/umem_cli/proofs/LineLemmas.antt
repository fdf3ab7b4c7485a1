-- What is written for a line of commands.
use Rattle.std.proofs.Common.{◌≡◌, inl, inr, ℕ, Bool, true, false, List, [], ◌∷◌, Option, Some, None, refl, ap, ◌∙◌}
use Rattle.std.specs.Prelude.{Ok, Err, is_some, not}
use Rattle.std.specs.Borrow.{Bor}
use Rattle.umem_base.specs.Lines.{SplitsWord, words_of}
use Rattle.core_format.specs.declared.whole.Core.{Core}
use Rattle.dcmd.specs.declared.dcmd.Dcmd.{Dcmd}
use Rattle.dcmd.specs.declared.fault.DcmdFault.{DcmdFault}
use Rattle.dcmd.specs.Commands.{command_of}
use Rattle.umem_cli.specs.declared.status.Status.{Status}
use Rattle.umem_cli.specs.declared.status.Status.TheVariants.{WriteFault}
use Rattle.umem_cli.specs.Messages.{line_message}
use Rattle.umem_cli.specs.Outcomes.{EndsAnswer, EndsLine, TellsAnswerSo}
use Rattle.umem_cli.specs.Pieces.{for_err, for_out}
use Rattle.umem_cli.specs.Sessions.{AnswersLine}
use Rattle.umem_cli.specs.Streams.{Outputs, Store, Stream, Takes, TakesFront}
use Rattle.umem_cli.proofs.EndsLemmas.{delivers_nothing}

-- the line has a word
pub record HasWord (line : List ℕ) : Type 0 where
  pub word : List ℕ
  pub words : List (List ℕ)
  pub are : words_of line ≡ word ∷ words

pub no_word : (line : List ℕ) (split : Option (Bor (List ℕ) × Bor (List ℕ))) (none : Bool) → is_some split ≡ not none → none ≡ true → SplitsWord split line → words_of line ≡ []
no_word line None none tells is splits = splits
no_word line (Some parts) none tells is splits = absurd (cc (tells ∙ ap not is))

pub some_word : (line : List ℕ) (split : Option (Bor (List ℕ) × Bor (List ℕ))) (none : Bool) → is_some split ≡ not none → none ≡ false → SplitsWord split line → HasWord line
some_word line None none tells is splits = absurd (cc (tells ∙ ap not is))
some_word line (Some parts) none tells is splits = record { word = parts.0.now; words = words_of parts.1.now; are = splits }

-- a line without a word
pub skipped : (core : Core) (number : ℕ) (line : List ℕ) (both : Outputs) → words_of line ≡ [] → EndsLine core number line both both (Ok false)
skipped core number line both none = ((for_out [], rw none refl, delivers_nothing both), rw none refl)

answers_so : (core : Core) (number : ℕ) (line : List ℕ) (dcmd : Dcmd) (Goes : List ℕ → Type 0) → HasWord line → command_of line ≡ Ok dcmd → (told : TellsAnswerSo core dcmd Goes) → AnswersLine core number line (for_out told.0)
answers_so core number line dcmd Goes has is told = rw (has.are, is) (told.0, told.1, refl)

-- an answer that was written
pub answer_written : (core : Core) (number : ℕ) (line : List ℕ) (dcmd : Dcmd) (before after : Outputs) → HasWord line → command_of line ≡ Ok dcmd → EndsAnswer core dcmd before.out after.out (Ok tt) → after.err ≡ before.err → after.store ≡ before.store
    → EndsLine core number line before after (Ok false)
answer_written core number line dcmd before after has is told same store =
    ((for_out told.0, answers_so core number line dcmd (Takes before.out after.out) has is told, (told.2, same, store)), rw (has.are, is) refl)

-- each part of the outputs is the same
pub same_outputs : (before after : Outputs) → after.out ≡ before.out → after.err ≡ before.err → after.store ≡ before.store → after ≡ before
same_outputs before after out err store =
    ap (λ (s : Stream). let all : Outputs = record { out = s; err = after.err; store = after.store } in all) out
    ∙ ap (λ (s : Stream). let all : Outputs = record { out = before.out; err = s; store = after.store } in all) err
    ∙ ap (λ (s : Store). let all : Outputs = record { out = before.out; err = before.err; store = s } in all) store

-- an answer that was not written
pub answer_stopped : (core : Core) (number : ℕ) (line : List ℕ) (dcmd : Dcmd) (before after : Outputs) (end : Status) → HasWord line → command_of line ≡ Ok dcmd → EndsAnswer core dcmd before.out after.out (Err end) → after.err ≡ before.err → after.store ≡ before.store
    → EndsLine core number line before after (Err end)
answer_stopped core number line dcmd before after end has is (inl short) same store = inl (short.0, (dcmd, is), same_outputs before after short.1 same store)
answer_stopped core number line dcmd before after end has is (inr failed) same store =
    inr (failed.0, (for_out failed.1.0, answers_so core number line dcmd (TakesFront before.out after.out) has is failed.1, (failed.1.2, same, store)))

-- a refused line that was told
pub refusal_written : (core : Core) (number : ℕ) (line : List ℕ) (fault : DcmdFault) (before after : Outputs) → HasWord line → command_of line ≡ Err fault → after.out ≡ before.out → Takes before.err after.err (line_message number fault) → after.store ≡ before.store
    → EndsLine core number line before after (Ok true)
refusal_written core number line fault before after has is same told store =
    ((for_err (line_message number fault), rw (has.are, is) refl, (same, told, store)), rw (has.are, is) refl)

-- a refused line that was not told whole
pub refusal_stopped : (core : Core) (number : ℕ) (line : List ℕ) (fault : DcmdFault) (before after : Outputs) → HasWord line → command_of line ≡ Err fault → after.out ≡ before.out → TakesFront before.err after.err (line_message number fault) → after.store ≡ before.store
    → EndsLine core number line before after (Err WriteFault)
refusal_stopped core number line fault before after has is same front store =
    inr (refl, (for_err (line_message number fault), rw (has.are, is) refl, (same, front, store)))

-- Lines of commands, one behind the other.
use Rattle.std.proofs.Common.{◌≡◌, inl, inr, ℕ, suc, ◌+◌, Bool, true, false, List, [], ◌∷◌, ◌++◌, length, refl, sym, ap, subst, ◌∙◌, arith}
use Rattle.std.specs.Prelude.{◌||◌, Result, Ok, Err}
use Rattle.std.specs.List.{list_any}
use Rattle.std.proofs.lemmas.List.{append-nil, append_assoc, length_push}
use Rattle.std.proofs.lemmas.List.Folds.{list_any-append}
use Rattle.umem_base.specs.Lines.{lines_of, words_of}
use Rattle.core_format.specs.declared.whole.Core.{Core}
use Rattle.dcmd.specs.declared.dcmd.Dcmd.{Dcmd}
use Rattle.dcmd.specs.declared.fault.DcmdFault.{DcmdFault}
use Rattle.dcmd.specs.Commands.{command_of}
use Rattle.umem_cli.specs.declared.status.Status.{Status}
use Rattle.umem_cli.specs.declared.status.Status.TheVariants.{NoMemory}
use Rattle.umem_cli.specs.Outcomes.{EndsLine}
use Rattle.umem_cli.specs.Pieces.{Delivers, GivesOut, Piece, Wanted, for_err, for_file, for_out}
use Rattle.umem_cli.specs.Sessions.{AnswersCommand, AnswersLine, AnswersLines, AnswersWords, IsAnswered, answered, is_refused}
use Rattle.umem_cli.specs.Streams.{Outputs}
use Rattle.umem_cli.proofs.EndsLemmas.{AreForStreams, IsForStream, delivers_more, fails_behind}

-- a line more
answers_more : (core : Core) (number next : ℕ) (lines : List (List ℕ)) (line : List ℕ) (pieces : List Piece) (piece : Piece) → next ≡ number + length lines
    → AnswersLines core number lines pieces → AnswersLine core next line piece → AnswersLines core number (lines ++ line ∷ []) (pieces ++ piece ∷ [])
answers_more core number next [] line [] piece e are one =
    let same : next ≡ number = omega arith in
    (subst (λ (n : ℕ). AnswersLine core n line piece) same one, tt)
answers_more core number next [] line (first ∷ pieces) piece e are one = absurd are
answers_more core number next (front ∷ lines) line [] piece e are one = absurd are
answers_more core number next (front ∷ lines) line (first ∷ pieces) piece e are one =
    (are.0, answers_more core (suc number) next lines line pieces piece (omega arith) are.1 one)

-- the lines that are left, after one of them
lines_more : (all front rest : List (List ℕ)) (line : List ℕ) (behind : List (List ℕ)) → all ≡ front ++ rest → rest ≡ line ∷ behind → all ≡ (front ++ line ∷ []) ++ behind
lines_more all front rest line behind split next = split ∙ ap (λ l. front ++ l) next ∙ sym (append_assoc front (line ∷ []) behind)

or_false : (b : Bool) → (b || false) ≡ b
or_false true = refl
or_false false = refl

-- a line of the front was refused, or this one
refused_more : (front : List (List ℕ)) (line : List ℕ) (refused refuses : Bool) → refused ≡ list_any is_refused front → refuses ≡ is_refused line → (refused || refuses) ≡ list_any is_refused (front ++ line ∷ [])
refused_more front line refused refuses before now =
    ap (λ b. b || refuses) before ∙ ap (λ b. list_any is_refused front || b) (now ∙ sym (or_false (is_refused line))) ∙ sym (list_any-append is_refused front (line ∷ []))

-- the lines up to the rest were answered
pub record SoFar (core : Core) (commands rest : List ℕ) (number : ℕ) (refused : Bool) (before now : Outputs) : Type 0 where
  pub front : List (List ℕ)
  pub pieces : List Piece
  pub split : lines_of commands ≡ front ++ lines_of rest
  pub answers : AnswersLines core 1 front pieces
  pub delivers : Delivers before now pieces
  pub refuses : refused ≡ list_any is_refused front
  pub count : number ≡ length front

pub so_far_none : (core : Core) (commands : List ℕ) (both : Outputs) → SoFar core commands commands 0 false both both
so_far_none core commands both = record { front = []; pieces = []; split = refl; answers = tt; delivers = refl; refuses = refl; count = refl }

pub so_far_more : (core : Core) (commands rest line behind : List ℕ) (number : ℕ) (refused refuses both : Bool) (before between after : Outputs) → both ≡ (refused || refuses)
    → SoFar core commands rest number refused before between → lines_of rest ≡ line ∷ lines_of behind → EndsLine core (number + 1) line between after (Ok refuses)
    → SoFar core commands behind (number + 1) both before after
so_far_more core commands rest line behind number refused refuses both before between after e so split ends = record {
  front = so.front ++ line ∷ [];
  pieces = so.pieces ++ ends.0.0 ∷ [];
  split = lines_more (lines_of commands) so.front (lines_of rest) line (lines_of behind) so.split split;
  answers = answers_more core 1 (number + 1) so.front line so.pieces ends.0.0 (omega (arith, so.count)) so.answers ends.0.1;
  delivers = delivers_more before between after so.pieces ends.0.0 so.delivers ends.0.2;
  refuses = e ∙ refused_more so.front line refused refuses so.refuses ends.1;
  count = omega (arith, so.count, length_push so.front line);
}

pub or_then : (refused refuses : Bool) → refused ≡ true → refused ≡ (refused || refuses)
or_then true refuses is = refl
or_then false refuses is = absurd (cc is)

pub or_else : (refused refuses : Bool) → refused ≡ false → refuses ≡ (refused || refuses)
or_else true refuses is = absurd (cc is)
or_else false refuses is = refl

-- all lines were answered
pub all_so_far : (core : Core) (commands rest : List ℕ) (number : ℕ) (refused : Bool) (before now : Outputs) (status : Status) → length rest ≡ 0 → status ≡ answered refused
    → SoFar core commands rest number refused before now → GivesOut (IsAnswered core (lines_of commands)) before now status
all_so_far core commands (byte ∷ rest) number refused before now status ended is so = absurd (omega (arith, ended))
all_so_far core commands [] number refused before now status ended is so =
    let all : lines_of commands ≡ so.front = so.split ∙ append-nil so.front in (
      record { pieces = so.pieces; status = answered refused },
      inl (record {
        pieces = subst (λ (l : List (List ℕ)). AnswersLines core 1 l so.pieces) (sym all) so.answers;
        status = ap answered (so.refuses ∙ ap (list_any is_refused) (sym all));
      }),
      inl (is, so.delivers),
    )

-- a line was not answered whole
pub stopped_so_far : (core : Core) (commands rest line behind : List ℕ) (number : ℕ) (refused : Bool) (before between after : Outputs) (end : Status)
    → SoFar core commands rest number refused before between → lines_of rest ≡ line ∷ lines_of behind → EndsLine core (number + 1) line between after (Err end)
    → GivesOut (IsAnswered core (lines_of commands)) before after end
stopped_so_far core commands rest line behind number refused before between after end so split (inl short) = (
  record { pieces = so.pieces; status = NoMemory },
  inr (record { first = so.front; more = lines_of rest; whole = so.split; pieces = so.answers; status = refl }),
  inl (short.0, subst (λ (s : Outputs). Delivers before s so.pieces) (sym short.2) so.delivers),
)
stopped_so_far core commands rest line behind number refused before between after end so split (inr failed) =
    let piece = failed.1.0 in (
      record { pieces = so.pieces ++ piece ∷ []; status = NoMemory },
      inr (record {
        first = so.front ++ line ∷ [];
        more = lines_of behind;
        whole = lines_more (lines_of commands) so.front (lines_of rest) line (lines_of behind) so.split split;
        pieces = answers_more core 1 (number + 1) so.front line so.pieces piece (omega (arith, so.count)) so.answers failed.1.1;
        status = refl;
      }),
      inr (failed.0, fails_behind before between after so.pieces piece so.delivers failed.1.2),
    )

-- ---- answers are for the streams alone

command_for_stream : (core : Core) (number : ℕ) (command : Result Dcmd DcmdFault) (piece : Piece) → AnswersCommand core number command piece → IsForStream piece
command_for_stream core number (Ok dcmd) piece is = subst IsForStream (sym is.2) tt
command_for_stream core number (Err fault) piece is = subst IsForStream (sym is) tt

words_for_stream : (core : Core) (number : ℕ) (words : List (List ℕ)) (command : Result Dcmd DcmdFault) (piece : Piece) → AnswersWords core number words command piece → IsForStream piece
words_for_stream core number [] command piece is = subst IsForStream (sym is) tt
words_for_stream core number (word ∷ words) command piece is = command_for_stream core number command piece is

lines_for_streams : (core : Core) (number : ℕ) (lines : List (List ℕ)) (pieces : List Piece) → AnswersLines core number lines pieces → AreForStreams pieces
lines_for_streams core number [] [] are = tt
lines_for_streams core number [] (piece ∷ pieces) are = absurd are
lines_for_streams core number (line ∷ lines) [] are = absurd are
lines_for_streams core number (line ∷ lines) (piece ∷ pieces) are =
    (words_for_stream core number (words_of line) (command_of line) piece are.0, lines_for_streams core (suc number) lines pieces are.1)

-- the pieces that lines of commands want are for the streams
pub answered_for_streams : (core : Core) (lines : List (List ℕ)) (wanted : Wanted) → IsAnswered core lines wanted → AreForStreams wanted.pieces
answered_for_streams core lines wanted (inl all) = lines_for_streams core 1 lines wanted.pieces all.pieces
answered_for_streams core lines wanted (inr front) = lines_for_streams core 1 front.first wanted.pieces front.pieces

-- How the command is built, and what its parse tells.
use Rattle.std.proofs.Common.{◌≡◌, ◌∙◌, ℕ, true, false, List, [], ◌∷◌, Some, None, inl, inr, refl, sym, ap, ap₂, subst}
use Rattle.clap.specs.declared.builder.arg.Arg.{Arg}
use Rattle.clap.specs.declared.builder.command.Command.{Command}
use Rattle.clap.specs.declared.builder.command.Command.TheViews.{out-Command}
use Rattle.clap.specs.declared.error.Error.{Error}
use Rattle.clap.specs.declared.error.kind.ErrorKind.{ErrorKind}
use Rattle.clap.specs.declared.error.kind.ErrorKind.TheVariants.{OutOfMemory}
use Rattle.clap.specs.declared.parser.matches.ArgMatches.{ArgMatches}
use Rattle.clap.specs.Simple.{app_of_fields, on_top}
use Rattle.clap.specs.Words.{AddsArg, App, HasKind, HasMatchesOf, IsAmong, Kinds, Rule, app_of, fault_of, found_of, is_simple, is_simple_and_free, kind_of, matches_of, rows_of, rule_of, with_rule}
use Rattle.clap.proofs.OnLiterals.{clap_on_literals}
use Rattle.umem_words.specs.Command.{command}
use Rattle.umem_words.specs.Told.{told, told_in, where_none}

-- ---- the command

-- words without the program's name
pub nameless : (old new : Command) (a : App) → out-Command new ≡ record (out-Command old) { no_binary_name = true }
    → app_of old ≡ a
    → app_of new ≡ on_top (λ s. record s { no_binary_name = true }) a
nameless old new a e is = ap app_of_fields e ∙ ap (on_top (λ s. record s { no_binary_name = true })) is

-- no answer to a call for help
pub helpless : (old new : Command) (a : App) → out-Command new ≡ record
    (out-Command old) { disable_help_flag = true } → app_of old ≡ a
    → app_of new ≡ on_top (λ s. record s { disable_help_flag = true }) a
helpless old new a e is = ap app_of_fields e ∙ ap (on_top (λ s. record s { disable_help_flag = true })) is

-- one more argument
pub added : (old new : Command) (arg : Arg) (a : App) (rule : Rule) → AddsArg old arg new → arg.global ≡ false
    → rule_of arg ≡ rule
    → app_of old ≡ a → app_of new ≡ with_rule a rule
added old new arg a rule adds own is before = adds.shape own ∙ ap₂ with_rule before is

-- ---- its parse

command_is_simple : is_simple command ≡ true
unfolding clap_on_literals
command_is_simple = refl

command_is_free : is_simple_and_free command ≡ true
unfolding clap_on_literals
command_is_free = refl

-- where no kind of fault comes, the value is there
none_there : {A : Type 0} (kinds : Kinds) (x : A) → kinds ≡ [] → where_none kinds x ≡ Some x
none_there kinds x e = ap (λ k. where_none k x) e

-- where one comes, it is not
some_there : {A : Type 0} (kind : ErrorKind) (kinds : Kinds) (x : A) → IsAmong kind kinds → None ≡ where_none kinds x
some_there kind [] x bad = absurd bad
some_there kind (k ∷ ks) x among = refl

pub told_ok : (a : App) (words : List (List ℕ)) (m : ArgMatches) → a ≡ command → HasMatchesOf a words m
    → (is_simple_and_free a ≡ true → fault_of a words ≡ []) → Some (told_in (rows_of (found_of m))) ≡ told words
told_ok a words m is has free =
    let rows : rows_of (found_of m) ≡ matches_of command words = (has (ap is_simple is ∙ command_is_simple)).0 ∙ ap
    (λ b. matches_of b words) is in
    let none : fault_of command words ≡ [] = ap (λ b. fault_of b words) (sym is) ∙ free (ap is_simple_and_free is
    ∙ command_is_free) in
    ap (λ r. Some (told_in r)) rows ∙ sym (none_there (fault_of command words) (told_in
    (matches_of command words)) none)

pub told_err : (a : App) (words : List (List ℕ)) (e : Error) → a ≡ command → (is_simple_and_free a ≡ true → HasKind
    (fault_of a words) e)
    → (kind_of e ≡ OutOfMemory → ⊥) → None ≡ told words
told_err a words e is fails other =
    let kinds : HasKind (fault_of command words) e = subst (λ b. HasKind (fault_of b words) e) is (fails
    (ap is_simple_and_free is ∙ command_is_free)) in
    elim kinds [
      | inl memory ↦ absurd (other memory)
      | inr among ↦ some_there (kind_of e) (fault_of command words) (told_in (matches_of command words)) among
    ]

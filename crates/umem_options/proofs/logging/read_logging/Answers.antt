use Rattle.std.proofs.Common.{rules, tests, eqb, sym, subst}
use Rattle.std.proofs.lemmas.Iterator.Consumers.{fold_from_yields_List}
use Rattle.std.proofs.lemmas.Iterator.Splits.{YieldsList-from_slice_split}
use Rattle.umem_options.specs.Logging.{logging_item, logging_after, logging_of}
use Rattle.umem_options.specs.Limits.{IsLogging}
use Rattle.umem_options.proofs.LimitsLemmas.{IsLogging-logging_of}
use Rattle.umem_options.proofs.logging.read_logging.Goals as goal

pub returns-clause-logging : goal.returns-clause-logging
unfolding logging_of
returns-clause-logging c =
    rw (← c.no_logging.ensures) (fold_from_yields_List _ (λ l item. logging_after l (logging_item item)) c.no_logging.result c.fold.result c.fold.ensures.ran
    (YieldsList-from_slice_split _ (λ byte. eqb byte 44) c.args.text.now c.split.ensures.rest c.split.ensures.done c.split.ensures.closure (λ x r q k. search (rules, tests)))
    (λ l item r q k. search (rules, tests)))

pub returns-clause-limits : goal.returns-clause-limits
returns-clause-limits c = subst IsLogging (sym (returns-clause-logging c)) (IsLogging-logging_of c.args.text.now)

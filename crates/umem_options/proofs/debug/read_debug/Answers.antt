use Rattle.std.proofs.Common.{rules, tests, eqb, sym, subst}
use Rattle.std.proofs.lemmas.Iterator.Consumers.{fold_from_yields_List}
use Rattle.std.proofs.lemmas.Iterator.Splits.{YieldsList-from_slice_split}
use Rattle.umem_options.specs.Debug.{debug_item, debug_after, options_of}
use Rattle.umem_options.specs.Limits.{IsOptions}
use Rattle.umem_options.proofs.LimitsLemmas.{IsOptions-options_of}
use Rattle.umem_options.proofs.debug.read_debug.Goals as goal

pub returns-clause-options : goal.returns-clause-options
unfolding options_of
returns-clause-options c =
    rw (← c.no_options.ensures) (fold_from_yields_List _ (λ o item. debug_after o (debug_item item)) c.no_options.result c.fold.result c.fold.ensures.ran
    (YieldsList-from_slice_split _ (λ byte. eqb byte 44) c.args.text.now c.split.ensures.rest c.split.ensures.done c.split.ensures.closure (λ x r q k. search (rules, tests)))
    (λ o item r q k. search (rules, tests)))

pub returns-clause-limits : goal.returns-clause-limits
returns-clause-limits c = subst IsOptions (sym (returns-clause-options c)) (IsOptions-options_of c.args.text.now)

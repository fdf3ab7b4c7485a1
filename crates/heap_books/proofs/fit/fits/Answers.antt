use Rattle.std.proofs.Common.{◌≡◌, ◌↔◌, Bool, true, subst}
use Rattle.std.proofs.lemmas.Result.{IfOk-weaker}
use Rattle.heap_ledger.specs.Ledger.{run_setting, run_state}
use Rattle.heap_books.specs.Fit.{AreCpuPlacesFor, AreDepotsFor, AreListsFor, FitRun, numbers_in}
use Rattle.heap_books.specs.Tests.{StandOnceIn}
use Rattle.heap_books.proofs.InListsLemmas.{in_lists_fit}
use Rattle.heap_books.proofs.OnceLemmas.{fit_told}
use Rattle.heap_books.proofs.RunLemmas.{good_run}
use Rattle.heap_books.proofs.fit.fits.Goals as goal

pub stand_once_in-requires : goal.stand_once_in-requires
stand_once_in-requires c =
    let ledger = c.args.accounts.now in
    (in_lists_fit (run_setting ledger) (run_state ledger) c.args.others.now (good_run ledger c.history.ensures.sound)
    c.requires).once

pub returns : goal.returns
returns c =
    let ledger = c.args.accounts.now in
    let setting = run_setting ledger in
    let state = run_state ledger in
    let places = c.args.places.now in
    let others = c.args.others.now in
    let cpus = subst (AreCpuPlacesFor setting state) c.as_slice-2.ensures (c.are_places.ensures.0 c.if-not-are_places.false) in
    let depots = subst (AreDepotsFor setting state) c.as_slice-3.ensures (c.are_depots.ensures.0 c.if-not-are_depots.false) in
    let lists = subst (AreListsFor setting state) c.as_slice-4.ensures (c.are_lists.ensures.0 c.if-not-are_lists.false) in
    let fit = in_lists_fit setting state others (good_run ledger c.history.ensures.sound) c.requires in
    IfOk-weaker c.stand_once_in.result
    (λ (r : Bool). (r ≡ true) ↔ StandOnceIn (numbers_in places) (numbers_in others))
    (λ (r : Bool). (r ≡ true) ↔ FitRun setting state places)
    (λ r stand. fit_told setting state places others r cpus depots lists fit stand) c.stand_once_in.ensures

use Rattle.std.proofs.Common.{sym, subst, length}
use Rattle.heap_view.specs.Buffers.{buffers_of}
use Rattle.findleaks.specs.Found.{IsConsistent}
use Rattle.findleaks.proofs.FoundLemmas.{on_ok, place_within, with_found_is_consistent, with_word-none, with_word-some}
use Rattle.findleaks.proofs.follow.follow_word.Goals as goal

pub returns-in-Some-clause-found : goal.returns-in-Some-clause-found
returns-in-Some-clause-found g c =
    rw (with_word-some (buffers_of c.args.view.now) c.args.found.now c.args.word c.in-Some.index (sym c.in-Some.ensures)) c.mark.ensures

pub returns-in-Some-clause-consistent : goal.returns-in-Some-clause-consistent
returns-in-Some-clause-consistent g c =
    let buffers = buffers_of c.args.view.now in
    on_ok c.mark.result _ (IsConsistent (length buffers) c.mark.new.self)
    (λ e. subst (IsConsistent (length buffers)) (sym e) (with_found_is_consistent c.args.found.now (length buffers) c.in-Some.index c.requires (place_within buffers c.args.word c.in-Some.index (sym c.in-Some.ensures))))
    c.mark.ensures

pub returns-in-None-clause-found : goal.returns-in-None-clause-found
returns-in-None-clause-found g c = sym (with_word-none (buffers_of c.args.view.now) c.args.found.now c.args.word (sym c.in-None.ensures))

use Rattle.std.proofs.Common.{refl, inl, inr, subst, ◌∙◌}
use Rattle.umem_cli.specs.Messages.{message_text}
use Rattle.umem_cli.specs.Pieces.{refused}
use Rattle.umem_cli.specs.Refusal.{status_of}
use Rattle.umem_cli.specs.Streams.{Store, outputs, streams}
use Rattle.umem_cli.specs.Transcripts.{with_core}
use Rattle.umem_cli.specs.Histories.{ledger_made}
use Rattle.umem_cli.specs.Outcomes.{GivesPrinted}
use Rattle.umem_cli.proofs.EndsLemmas.{same_store, says_err}
use Rattle.umem_cli.proofs.PrintedLemmas.{printed_keeps}
use Rattle.umem_cli.proofs.script_run.run_script.Goals as goal

pub returns-in-Err-clause-given : goal.returns-in-Err-clause-given
returns-in-Err-clause-given g c =
    let why = c.in-Err.why in
    let name = c.args.job.now.file in
    let out = c.args.out.now in
    let err = c.args.err.now in
    let store : Store = record { files = g.F.Folder.files c.args.files.now; faults = g.F.Folder.write_faults c.args.files.now } in
    let left : Store = record { files = g.F.Folder.files c.printed_in.new.files; faults = g.F.Folder.write_faults c.printed_in.new.files } in
    let before = outputs (streams (g.O.Sink.taken out) (g.O.Sink.faults out) (g.E.Sink.taken err) (g.E.Sink.faults err)) store in
    let after = outputs (streams (g.O.Sink.taken out) (g.O.Sink.faults out) (g.E.Sink.taken c.refuse.new.err) (g.E.Sink.faults c.refuse.new.err)) left in
    (refused name why, inr (record { why = why; cause = c.in-Err.ensures.outcome; wants = refl }), says_err before after (message_text name why) (status_of why) c.refuse.result c.refuse.ensures refl (same_store left store c.printed_in.ensures.files c.printed_in.ensures.write_faults))

pub returns-clause-given : goal.returns-clause-given
returns-clause-given g c =
    let out = c.args.out.now in
    let err = c.args.err.now in
    let later = c.give_out.new.out in
    let store : Store = record { files = g.F.Folder.files c.args.files.now; faults = g.F.Folder.write_faults c.args.files.now } in
    let read : Store = record { files = g.F.Folder.files c.printed_in.new.files; faults = g.F.Folder.write_faults c.printed_in.new.files } in
    let left : Store = record { files = g.F.Folder.files c.give_out.new.files; faults = g.F.Folder.write_faults c.give_out.new.files } in
    let both = streams (g.O.Sink.taken out) (g.O.Sink.faults out) (g.E.Sink.taken err) (g.E.Sink.faults err) in
    let after = outputs (streams (g.O.Sink.taken later) (g.O.Sink.faults later) (g.E.Sink.taken err) (g.E.Sink.faults err)) left in
    let its = c.in-Ok.printed in
    let gives = subst (λ (s : Store). GivesPrinted its (outputs both s) after c.give_out.result) (same_store read store c.printed_in.ensures.files c.printed_in.ensures.write_faults) c.give_out.ensures.given in
    let made = c.in-Ok.ensures.outcome in
    (with_core its, inl (record { its = its; is = made.0; reads = c.give_out.ensures.read_faults ∙ made.1; wants = refl }), gives)

pub returns-clause-files : goal.returns-clause-files
returns-clause-files g c =
    let out = c.args.out.now in
    let err = c.args.err.now in
    let later = c.give_out.new.out in
    let store : Store = record { files = g.F.Folder.files c.args.files.now; faults = g.F.Folder.write_faults c.args.files.now } in
    let read : Store = record { files = g.F.Folder.files c.printed_in.new.files; faults = g.F.Folder.write_faults c.printed_in.new.files } in
    let left : Store = record { files = g.F.Folder.files c.give_out.new.files; faults = g.F.Folder.write_faults c.give_out.new.files } in
    let both = streams (g.O.Sink.taken out) (g.O.Sink.faults out) (g.E.Sink.taken err) (g.E.Sink.faults err) in
    let after = outputs (streams (g.O.Sink.taken later) (g.O.Sink.faults later) (g.E.Sink.taken err) (g.E.Sink.faults err)) left in
    let its = c.in-Ok.printed in
    let gives = subst (λ (s : Store). GivesPrinted its (outputs both s) after c.give_out.result) (same_store read store c.printed_in.ensures.files c.printed_in.ensures.write_faults) c.give_out.ensures.given in
    let made = c.in-Ok.ensures.outcome in
    (printed_keeps (ledger_made c.args.job.now made.0.plan made.0.is.history) c.args.job.now.core its (outputs both store) after c.give_out.result made.0.is.core gives).0

pub returns-clause-write_faults : goal.returns-clause-write_faults
returns-clause-write_faults g c =
    let out = c.args.out.now in
    let err = c.args.err.now in
    let later = c.give_out.new.out in
    let store : Store = record { files = g.F.Folder.files c.args.files.now; faults = g.F.Folder.write_faults c.args.files.now } in
    let read : Store = record { files = g.F.Folder.files c.printed_in.new.files; faults = g.F.Folder.write_faults c.printed_in.new.files } in
    let left : Store = record { files = g.F.Folder.files c.give_out.new.files; faults = g.F.Folder.write_faults c.give_out.new.files } in
    let both = streams (g.O.Sink.taken out) (g.O.Sink.faults out) (g.E.Sink.taken err) (g.E.Sink.faults err) in
    let after = outputs (streams (g.O.Sink.taken later) (g.O.Sink.faults later) (g.E.Sink.taken err) (g.E.Sink.faults err)) left in
    let its = c.in-Ok.printed in
    let gives = subst (λ (s : Store). GivesPrinted its (outputs both s) after c.give_out.result) (same_store read store c.printed_in.ensures.files c.printed_in.ensures.write_faults) c.give_out.ensures.given in
    let made = c.in-Ok.ensures.outcome in
    (printed_keeps (ledger_made c.args.job.now made.0.plan made.0.is.history) c.args.job.now.core its (outputs both store) after c.give_out.result made.0.is.core gives).1

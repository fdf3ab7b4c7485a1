use Rattle.std.proofs.Common.{ℕ, List, refl, inl, inr, subst}
use Rattle.umem_base.specs.Lines.{lines_of}
use Rattle.umem_cli.specs.Messages.{message_text}
use Rattle.umem_cli.specs.Pieces.{refused}
use Rattle.umem_cli.specs.Refusal.{status_of}
use Rattle.umem_cli.specs.Sessions.{IsAnswered}
use Rattle.umem_cli.specs.Streams.{Store, outputs, streams}
use Rattle.umem_cli.proofs.EndsLemmas.{ends_beside_same, same_store, says_err}
use Rattle.umem_cli.proofs.SessionLemmas.{answered_for_streams}
use Rattle.umem_cli.proofs.session.diagnose.Goals as goal

pub returns-in-Err-clause-given : goal.returns-in-Err-clause-given
returns-in-Err-clause-given g c =
    let why = c.in-Err.why in
    let name = c.args.name.now in
    let out = c.args.out.now in
    let err = c.args.err.now in
    let store : Store = record { files = g.F.Folder.files c.args.files.now; faults = g.F.Folder.write_faults c.args.files.now } in
    let left : Store = record { files = g.F.Folder.files c.view_of.new.files; faults = g.F.Folder.write_faults c.view_of.new.files } in
    let before = outputs (streams (g.O.Sink.taken out) (g.O.Sink.faults out) (g.E.Sink.taken err) (g.E.Sink.faults err)) store in
    let after = outputs (streams (g.O.Sink.taken out) (g.O.Sink.faults out) (g.E.Sink.taken c.refuse.new.err) (g.E.Sink.faults c.refuse.new.err)) left in (
      refused name why,
      inl (record { why = why; cause = c.in-Err.ensures.outcome; input = (refl, refl); wants = refl }),
      says_err before after (message_text name why) (status_of why) c.refuse.result c.refuse.ensures refl (same_store left store c.view_of.ensures.files c.view_of.ensures.write_faults),
    )

pub returns-in-Err-commands_of-clause-given : goal.returns-in-Err-commands_of-clause-given
returns-in-Err-commands_of-clause-given g c =
    let why = c.in-Err-commands_of.why in
    let name = c.args.name.now in
    let out = c.args.out.now in
    let err = c.args.err.now in
    let told = c.refuse-in-Err-commands_of in
    let store : Store = record { files = g.F.Folder.files c.args.files.now; faults = g.F.Folder.write_faults c.args.files.now } in
    let left : Store = record { files = g.F.Folder.files c.view_of.new.files; faults = g.F.Folder.write_faults c.view_of.new.files } in
    let before = outputs (streams (g.O.Sink.taken out) (g.O.Sink.faults out) (g.E.Sink.taken err) (g.E.Sink.faults err)) store in
    let after = outputs (streams (g.O.Sink.taken out) (g.O.Sink.faults out) (g.E.Sink.taken told.new.err) (g.E.Sink.faults told.new.err)) left in
    let core = c.in-Ok.ensures.outcome in (
      refused name why,
      inr (inl (record { core = c.in-Ok.view; is = core.0; reads = core.1; why = why; cause = c.in-Err-commands_of.ensures; wants = refl })),
      says_err before after (message_text name why) (status_of why) told.result told.ensures refl (same_store left store c.view_of.ensures.files c.view_of.ensures.write_faults),
    )

pub returns-clause-given : goal.returns-clause-given
returns-clause-given g c =
    let out = c.args.out.now in
    let err = c.args.err.now in
    let told = c.answer_commands in
    let store : Store = record { files = g.F.Folder.files c.args.files.now; faults = g.F.Folder.write_faults c.args.files.now } in
    let left : Store = record { files = g.F.Folder.files c.view_of.new.files; faults = g.F.Folder.write_faults c.view_of.new.files } in
    let before = streams (g.O.Sink.taken out) (g.O.Sink.faults out) (g.E.Sink.taken err) (g.E.Sink.faults err) in
    let after = streams (g.O.Sink.taken told.new.out) (g.O.Sink.faults told.new.out) (g.E.Sink.taken told.new.err) (g.E.Sink.faults told.new.err) in
    let core = c.in-Ok.ensures.outcome in
    let read = c.in-Ok-commands_of.ensures in
    let commands = c.in-Ok-commands_of.commands.items in
    let ends = told.ensures in
    let is = subst (λ (l : List ℕ). IsAnswered c.in-Ok.view (lines_of l) ends.0) c.deref.ensures.value ends.1 in (
      ends.0,
      inr (inr (record { core = c.in-Ok.view; is = core.0; reads = core.1; commands = commands; read = read.0; short = read.1; input_faults = read.2; input = read.3; wants = is })),
      ends_beside_same before after store left ends.0 told.result (same_store left store c.view_of.ensures.files c.view_of.ensures.write_faults) (answered_for_streams c.in-Ok.view (lines_of commands) ends.0 is) ends.2,
    )

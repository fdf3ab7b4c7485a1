use Rattle.std.proofs.Common.{ℕ, List, refl, subst}
use Rattle.std.specs.Prelude.{Err, Some}
use Rattle.umem_base.specs.Folder.{Sets}
use Rattle.umem_base.specs.Transfer.{WritesFile}
use Rattle.umem_cli.specs.Streams.{Store, Takes, outputs, streams}
use Rattle.umem_cli.proofs.PrintedLemmas.{gives_core, gives_front, gives_text, leaves_front, written}
use Rattle.umem_cli.proofs.script_run.give_out.Goals as goal

pub returns-in_default-clause-given : goal.returns-in_default-clause-given
returns-in_default-clause-given g c =
    let out = c.args.out.now in
    let err = c.args.err.now in
    let later = c.write_whole.new.to in
    let store : Store = record { files = g.F.Folder.files c.args.files.now; faults = g.F.Folder.write_faults c.args.files.now } in
    let left : Store = store in
    let before = outputs (streams (g.O.Sink.taken out) (g.O.Sink.faults out) (g.E.Sink.taken err) (g.E.Sink.faults err)) store in
    let after = outputs (streams (g.O.Sink.taken later) (g.O.Sink.faults later) (g.E.Sink.taken err) (g.E.Sink.faults err)) left in
    let takes = subst (λ (l : List ℕ). Takes before.out after.out l) c.as_slice.ensures (written before.out after.out c.as_slice.result.now c.write_whole.result c.is_err.result c.is_err.ensures.value c.if-is_err.false c.write_whole.ensures.taken c.write_whole.ensures.cause) in
    gives_text c.args.printed.now before after c.in_default.is takes refl refl

pub returns-in-Ok-clause-given : goal.returns-in-Ok-clause-given
returns-in-Ok-clause-given g c =
    let out = c.args.out.now in
    let err = c.args.err.now in
    let later = c.write_whole.new.to in
    let store : Store = record { files = g.F.Folder.files c.args.files.now; faults = g.F.Folder.write_faults c.args.files.now } in
    let left : Store = record { files = g.F.Folder.files c.write_file.new.files; faults = g.F.Folder.write_faults c.write_file.new.files } in
    let before = outputs (streams (g.O.Sink.taken out) (g.O.Sink.faults out) (g.E.Sink.taken err) (g.E.Sink.faults err)) store in
    let after = outputs (streams (g.O.Sink.taken later) (g.O.Sink.faults later) (g.E.Sink.taken err) (g.E.Sink.faults err)) left in
    let takes = subst (λ (l : List ℕ). Takes before.out after.out l) c.as_slice.ensures (written before.out after.out c.as_slice.result.now c.write_whole.result c.is_err.result c.is_err.ensures.value c.if-is_err.false c.write_whole.ensures.taken c.write_whole.ensures.cause) in
    let sets = subst (λ (l : List ℕ). Sets store.files left.files c.in-Some.core.name (Some l)) c.deref.ensures.value c.in-Ok.ensures.written in
    gives_core c.args.printed.now before after c.in-Some.core c.in-Some.is takes refl (sets, c.in-Ok.ensures.cause)

pub returns-in-Err-clause-given : goal.returns-in-Err-clause-given
returns-in-Err-clause-given g c =
    let out = c.args.out.now in
    let err = c.args.err.now in
    let later = c.write_whole.new.to in
    let store : Store = record { files = g.F.Folder.files c.args.files.now; faults = g.F.Folder.write_faults c.args.files.now } in
    let left : Store = record { files = g.F.Folder.files c.write_file.new.files; faults = g.F.Folder.write_faults c.write_file.new.files } in
    let before = outputs (streams (g.O.Sink.taken out) (g.O.Sink.faults out) (g.E.Sink.taken err) (g.E.Sink.faults err)) store in
    let after = outputs (streams (g.O.Sink.taken later) (g.O.Sink.faults later) (g.E.Sink.taken err) (g.E.Sink.faults err)) left in
    let takes = subst (λ (l : List ℕ). Takes before.out after.out l) c.as_slice.ensures (written before.out after.out c.as_slice.result.now c.write_whole.result c.is_err.result c.is_err.ensures.value c.if-is_err.false c.write_whole.ensures.taken c.write_whole.ensures.cause) in
    let writes = subst (λ (l : List ℕ). WritesFile store.files left.files c.in-Some.core.name l (Err c.in-Err.field-0)) c.deref.ensures.value c.in-Err.ensures.written in
    gives_front c.args.printed.now before after c.in-Some.core c.in-Some.is takes refl (leaves_front store left c.in-Some.core.name c.in-Some.core.bytes.items c.in-Err.field-0 writes, c.in-Err.ensures.cause)

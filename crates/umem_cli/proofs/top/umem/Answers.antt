use Rattle.std.proofs.Common.{map, refl, rules}
use Rattle.std.specs.Global.{Global}
use Rattle.std.specs.String.{string_bytes}
use Rattle.umem_cli.specs.declared.status.Status.TheVariants.{NoMemory}
use Rattle.umem_cli.specs.Asked.{make, mdb, none, run, job_to_run, task_of}
use Rattle.umem_cli.specs.Streams.{streams}
use Rattle.umem_cli.specs.World.{without_input, world}
use Rattle.umem_cli.proofs.PromiseLemmas.{given_for, make_given, make_read, mdb_given, mdb_read, none_read, run_given, run_read, short_given, usage_given, whole_given}
use Rattle.umem_cli.specs.Promise.{core_file}
use Rattle.umem_cli.proofs.PrintedLemmas.{same_faults, same_files}
use Rattle.umem_cli.proofs.top.umem.Goals as goal

pub returns-in-Err-clause-given : goal.returns-in-Err-clause-given
returns-in-Err-clause-given g c =
    let words = map (string_bytes {Z = Global}) c.args.words.now in
    let before = world (g.F.Folder.files c.args.files.now) (g.F.Folder.read_faults c.args.files.now) (g.F.Folder.write_faults c.args.files.now) (g.S.Source.left c.args.input.now) (g.S.Source.faults c.args.input.now)
    (streams (g.O.Sink.taken c.args.out.now) (g.O.Sink.faults c.args.out.now) (g.E.Sink.taken c.args.err.now) (g.E.Sink.faults c.args.err.now)) in
    short_given (task_of words) before

pub returns-in-Err-clause-whole : goal.returns-in-Err-clause-whole
returns-in-Err-clause-whole g c =
    let words = map (string_bytes {Z = Global}) c.args.words.now in
    let before = world (g.F.Folder.files c.args.files.now) (g.F.Folder.read_faults c.args.files.now) (g.F.Folder.write_faults c.args.files.now) (g.S.Source.left c.args.input.now) (g.S.Source.faults c.args.input.now)
    (streams (g.O.Sink.taken c.args.out.now) (g.O.Sink.faults c.args.out.now) (g.E.Sink.taken c.args.err.now) (g.E.Sink.faults c.args.err.now)) in
    whole_given (task_of words) before before NoMemory (short_given (task_of words) before)

pub returns-in_default-clause-given : goal.returns-in_default-clause-given
returns-in_default-clause-given g c =
    let words = map (string_bytes {Z = Global}) c.args.words.now in
    let before = world (g.F.Folder.files c.args.files.now) (g.F.Folder.read_faults c.args.files.now) (g.F.Folder.write_faults c.args.files.now) (g.S.Source.left c.args.input.now) (g.S.Source.faults c.args.input.now)
    (streams (g.O.Sink.taken c.args.out.now) (g.O.Sink.faults c.args.out.now) (g.E.Sink.taken c.args.err.now) (g.E.Sink.faults c.args.err.now)) in
    let after = world (g.F.Folder.files c.args.files.now) (g.F.Folder.read_faults c.args.files.now) (g.F.Folder.write_faults c.args.files.now) (g.S.Source.left c.args.input.now) (g.S.Source.faults c.args.input.now)
    (streams (g.O.Sink.taken c.args.out.now) (g.O.Sink.faults c.args.out.now) (g.E.Sink.taken c.refuse_words.new.err) (g.E.Sink.faults c.refuse_words.new.err)) in
    given_for words none before after c.refuse_words.result (none_read words c.in-Ok.asked c.in-Ok.ensures.job c.in_default.is) (usage_given before after c.refuse_words.result (refl, refl) refl refl refl c.refuse_words.ensures)

pub returns-in-Run-clause-given : goal.returns-in-Run-clause-given
returns-in-Run-clause-given g c =
    let words = map (string_bytes {Z = Global}) c.args.words.now in
    let before = world (g.F.Folder.files c.args.files.now) (g.F.Folder.read_faults c.args.files.now) (g.F.Folder.write_faults c.args.files.now) (g.S.Source.left c.args.input.now) (g.S.Source.faults c.args.input.now)
    (streams (g.O.Sink.taken c.args.out.now) (g.O.Sink.faults c.args.out.now) (g.E.Sink.taken c.args.err.now) (g.E.Sink.faults c.args.err.now)) in
    let after = world (g.F.Folder.files c.run_script.new.files) (g.F.Folder.read_faults c.run_script.new.files) (g.F.Folder.write_faults c.run_script.new.files) (g.S.Source.left c.args.input.now) (g.S.Source.faults c.args.input.now)
    (streams (g.O.Sink.taken c.run_script.new.out) (g.O.Sink.faults c.run_script.new.out) (g.E.Sink.taken c.run_script.new.err) (g.E.Sink.faults c.run_script.new.err)) in
    let job = c.in-Run.job in
    let b = without_input (g.F.Folder.files c.args.files.now) (g.F.Folder.read_faults c.args.files.now) (g.F.Folder.write_faults c.args.files.now)
    (streams (g.O.Sink.taken c.args.out.now) (g.O.Sink.faults c.args.out.now) (g.E.Sink.taken c.args.err.now) (g.E.Sink.faults c.args.err.now)) in
    let a = without_input (g.F.Folder.files c.run_script.new.files) (g.F.Folder.read_faults c.run_script.new.files) (g.F.Folder.write_faults c.run_script.new.files)
    (streams (g.O.Sink.taken c.run_script.new.out) (g.O.Sink.faults c.run_script.new.out) (g.E.Sink.taken c.run_script.new.err) (g.E.Sink.faults c.run_script.new.err)) in
    let asks = run_read words c.in-Ok.asked c.in-Ok.ensures.job c.in-Some.asked c.in-Some.is job c.in-Run.is in
    given_for words (run (job_to_run job)) before after c.run_script.result asks
    (run_given (job_to_run job) before after b a c.run_script.result refl refl refl refl refl (refl, refl) c.run_script.ensures.given)

pub returns-in-Run-clause-whole : goal.returns-in-Run-clause-whole
returns-in-Run-clause-whole g c =
    let words = map (string_bytes {Z = Global}) c.args.words.now in
    let before = world (g.F.Folder.files c.args.files.now) (g.F.Folder.read_faults c.args.files.now) (g.F.Folder.write_faults c.args.files.now) (g.S.Source.left c.args.input.now) (g.S.Source.faults c.args.input.now)
    (streams (g.O.Sink.taken c.args.out.now) (g.O.Sink.faults c.args.out.now) (g.E.Sink.taken c.args.err.now) (g.E.Sink.faults c.args.err.now)) in
    let after = world (g.F.Folder.files c.run_script.new.files) (g.F.Folder.read_faults c.run_script.new.files) (g.F.Folder.write_faults c.run_script.new.files) (g.S.Source.left c.args.input.now) (g.S.Source.faults c.args.input.now)
    (streams (g.O.Sink.taken c.run_script.new.out) (g.O.Sink.faults c.run_script.new.out) (g.E.Sink.taken c.run_script.new.err) (g.E.Sink.faults c.run_script.new.err)) in
    let job = c.in-Run.job in
    let b = without_input (g.F.Folder.files c.args.files.now) (g.F.Folder.read_faults c.args.files.now) (g.F.Folder.write_faults c.args.files.now)
    (streams (g.O.Sink.taken c.args.out.now) (g.O.Sink.faults c.args.out.now) (g.E.Sink.taken c.args.err.now) (g.E.Sink.faults c.args.err.now)) in
    let a = without_input (g.F.Folder.files c.run_script.new.files) (g.F.Folder.read_faults c.run_script.new.files) (g.F.Folder.write_faults c.run_script.new.files)
    (streams (g.O.Sink.taken c.run_script.new.out) (g.O.Sink.faults c.run_script.new.out) (g.E.Sink.taken c.run_script.new.err) (g.E.Sink.faults c.run_script.new.err)) in
    let asks = run_read words c.in-Ok.asked c.in-Ok.ensures.job c.in-Some.asked c.in-Some.is job c.in-Run.is in
    whole_given (task_of words) before after c.run_script.result (
    given_for words (run (job_to_run job)) before after c.run_script.result asks
    (run_given (job_to_run job) before after b a c.run_script.result refl refl refl refl refl (refl, refl) c.run_script.ensures.given))

pub returns-in-Mdb-clause-given : goal.returns-in-Mdb-clause-given
returns-in-Mdb-clause-given g c =
    let words = map (string_bytes {Z = Global}) c.args.words.now in
    let before = world (g.F.Folder.files c.args.files.now) (g.F.Folder.read_faults c.args.files.now) (g.F.Folder.write_faults c.args.files.now) (g.S.Source.left c.args.input.now) (g.S.Source.faults c.args.input.now)
    (streams (g.O.Sink.taken c.args.out.now) (g.O.Sink.faults c.args.out.now) (g.E.Sink.taken c.args.err.now) (g.E.Sink.faults c.args.err.now)) in
    let after = world (g.F.Folder.files c.diagnose.new.files) (g.F.Folder.read_faults c.diagnose.new.files) (g.F.Folder.write_faults c.diagnose.new.files) (g.S.Source.left c.diagnose.new.input) (g.S.Source.faults c.diagnose.new.input)
    (streams (g.O.Sink.taken c.diagnose.new.out) (g.O.Sink.faults c.diagnose.new.out) (g.E.Sink.taken c.diagnose.new.err) (g.E.Sink.faults c.diagnose.new.err)) in
    let asks = mdb_read words c.in-Ok.asked c.in-Ok.ensures.job c.in-Some.asked c.in-Some.is c.in-Mdb.job c.in-Mdb.is in
    given_for words (mdb c.in-Mdb.job.core) before after c.diagnose.result asks (mdb_given c.in-Mdb.job.core before after c.diagnose.result c.diagnose.ensures.given)

pub returns-in-Mdb-clause-whole : goal.returns-in-Mdb-clause-whole
returns-in-Mdb-clause-whole g c =
    let words = map (string_bytes {Z = Global}) c.args.words.now in
    let before = world (g.F.Folder.files c.args.files.now) (g.F.Folder.read_faults c.args.files.now) (g.F.Folder.write_faults c.args.files.now) (g.S.Source.left c.args.input.now) (g.S.Source.faults c.args.input.now)
    (streams (g.O.Sink.taken c.args.out.now) (g.O.Sink.faults c.args.out.now) (g.E.Sink.taken c.args.err.now) (g.E.Sink.faults c.args.err.now)) in
    let after = world (g.F.Folder.files c.diagnose.new.files) (g.F.Folder.read_faults c.diagnose.new.files) (g.F.Folder.write_faults c.diagnose.new.files) (g.S.Source.left c.diagnose.new.input) (g.S.Source.faults c.diagnose.new.input)
    (streams (g.O.Sink.taken c.diagnose.new.out) (g.O.Sink.faults c.diagnose.new.out) (g.E.Sink.taken c.diagnose.new.err) (g.E.Sink.faults c.diagnose.new.err)) in
    let asks = mdb_read words c.in-Ok.asked c.in-Ok.ensures.job c.in-Some.asked c.in-Some.is c.in-Mdb.job c.in-Mdb.is in
    whole_given (task_of words) before after c.diagnose.result (given_for words (mdb c.in-Mdb.job.core) before after c.diagnose.result asks (mdb_given c.in-Mdb.job.core before after c.diagnose.result c.diagnose.ensures.given))

pub returns-in-Make-clause-given : goal.returns-in-Make-clause-given
returns-in-Make-clause-given g c =
    let words = map (string_bytes {Z = Global}) c.args.words.now in
    let before = world (g.F.Folder.files c.args.files.now) (g.F.Folder.read_faults c.args.files.now) (g.F.Folder.write_faults c.args.files.now) (g.S.Source.left c.args.input.now) (g.S.Source.faults c.args.input.now)
    (streams (g.O.Sink.taken c.args.out.now) (g.O.Sink.faults c.args.out.now) (g.E.Sink.taken c.args.err.now) (g.E.Sink.faults c.args.err.now)) in
    let after = world (g.F.Folder.files c.args.files.now) (g.F.Folder.read_faults c.args.files.now) (g.F.Folder.write_faults c.args.files.now) (g.S.Source.left c.args.input.now) (g.S.Source.faults c.args.input.now)
    (streams (g.O.Sink.taken c.make.new.out) (g.O.Sink.faults c.make.new.out) (g.E.Sink.taken c.args.err.now) (g.E.Sink.faults c.args.err.now)) in
    let job = c.in-Make.job in
    given_for words (make job.seed job.ops job.options) before after c.make.result (make_read words c.in-Ok.asked c.in-Ok.ensures.job c.in-Some.asked c.in-Some.is job c.in-Make.is)
    (make_given job.seed job.ops job.options before after c.make.result (refl, refl) refl refl refl c.make.ensures)

pub returns-in-Make-clause-whole : goal.returns-in-Make-clause-whole
returns-in-Make-clause-whole g c =
    let words = map (string_bytes {Z = Global}) c.args.words.now in
    let before = world (g.F.Folder.files c.args.files.now) (g.F.Folder.read_faults c.args.files.now) (g.F.Folder.write_faults c.args.files.now) (g.S.Source.left c.args.input.now) (g.S.Source.faults c.args.input.now)
    (streams (g.O.Sink.taken c.args.out.now) (g.O.Sink.faults c.args.out.now) (g.E.Sink.taken c.args.err.now) (g.E.Sink.faults c.args.err.now)) in
    let after = world (g.F.Folder.files c.args.files.now) (g.F.Folder.read_faults c.args.files.now) (g.F.Folder.write_faults c.args.files.now) (g.S.Source.left c.args.input.now) (g.S.Source.faults c.args.input.now)
    (streams (g.O.Sink.taken c.make.new.out) (g.O.Sink.faults c.make.new.out) (g.E.Sink.taken c.args.err.now) (g.E.Sink.faults c.args.err.now)) in
    let job = c.in-Make.job in
    whole_given (task_of words) before after c.make.result (given_for words (make job.seed job.ops job.options) before after c.make.result (make_read words c.in-Ok.asked c.in-Ok.ensures.job c.in-Some.asked c.in-Some.is job c.in-Make.is)
    (make_given job.seed job.ops job.options before after c.make.result (refl, refl) refl refl refl c.make.ensures))

pub returns-in-Err-clause-files : goal.returns-in-Err-clause-files
returns-in-Err-clause-files g c = same_files (core_file (task_of (map (string_bytes {Z = Global}) c.args.words.now))) (g.F.Folder.files c.args.files.now) (g.F.Folder.files c.args.files.now) refl

pub returns-in-Err-clause-write_faults : goal.returns-in-Err-clause-write_faults
returns-in-Err-clause-write_faults g c = same_faults (core_file (task_of (map (string_bytes {Z = Global}) c.args.words.now))) (g.F.Folder.write_faults c.args.files.now) (g.F.Folder.write_faults c.args.files.now) refl

use Rattle.std.proofs.Common.{◌≡◌, List, subst, sym}
use Rattle.umem_options.specs.Flags.{has_guards}
use Rattle.script.specs.Plan.{plan_of}
use Rattle.plain_heap.specs.declared.entry.Entry.{Entry}
use Rattle.plain_heap.specs.Answers.{setting_for}
use Rattle.plain_heap.specs.Legal.{IsLegal}
use Rattle.heap_summary.specs.Sums.{summary_of}
use Rattle.umem_cli.proofs.TranscriptLemmas.{made_is}
use Rattle.umem_cli.proofs.make.made_text.Goals as goal

pub returns : goal.returns
returns c =
    let job = c.args.job.now in
    let guards = has_guards job.options in
    let its = c.in_ok-heap.ensures.history in
    made_is guards job.seed job.ops (plan_of c.in_ok-script.script) c.in_ok-heap.heap.entries c.put_summary.new.out c.in_ok-text.text c.summary_of.result c.in_ok-script.ensures.plan its c.in_ok-text.ensures
    (subst (λ (e : List Entry). c.summary_of.result ≡ summary_of (setting_for guards (plan_of c.in_ok-script.script)) e) c.history.ensures.entries
    (c.summary_of.ensures guards (subst (λ (e : List Entry). IsLegal (setting_for guards (plan_of c.in_ok-script.script)) e) (sym c.history.ensures.entries) its.answers.legal))) c.in_ok-put_summary.ensures.ok

pub summary_of-requires-clause-legal : goal.summary_of-requires-clause-legal
summary_of-requires-clause-legal c =
    let guards = has_guards c.args.job.now.options in
    record {
      guards = guards;
      legal = subst (λ (e : List Entry). IsLegal (setting_for guards (plan_of c.in_ok-script.script)) e) (sym c.history.ensures.entries) c.in_ok-heap.ensures.history.answers.legal;
    }

pub script_text-requires : goal.script_text-requires
script_text-requires c =
    c.plans_have_their_caches.ensures (plan_of c.in_ok-script.script) c.in_ok-script.ensures.rules

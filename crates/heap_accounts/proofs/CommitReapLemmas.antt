-- Commits of reaps.
use Rattle.std.proofs.Common.{◌≡◌, ℕ, ◌+◌, true, List, [], ◌∷◌, ◌++◌, length, Option, Some, refl, sym, ap, ◌∙◌, subst, arith, length-append}
use Rattle.std.specs.Prelude.{IfSome}
use Rattle.std.proofs.lemmas.Bool.{false≢true}
use Rattle.std.proofs.lemmas.List.{append-nil, append_assoc}
use Rattle.script.specs.declared.operation.Op.{Op}
use Rattle.script.specs.declared.operation.Op.TheVariants.{Alloc, Zalloc, Free, CacheAlloc, CacheFree, Copy, Clear, Store, Link, Load, Reap}
use Rattle.script.specs.Plan.{Call, Plan, Turn}
use Rattle.plain_heap.specs.declared.entry.Body.TheVariants as body
use Rattle.plain_heap.specs.declared.entry.Entry.{Entry}
use Rattle.plain_heap.specs.declared.reply.Reply.TheVariants as reply
use Rattle.plain_heap.specs.Calls.{Follows, due_call, next_call, next_in, turns_made}
use Rattle.plain_heap.specs.State.{State, after_call}
use Rattle.plain_heap.proofs.EntryLemmas.{follows_grow}
use Rattle.heap_ledger.specs.declared.slab_at.SlabAt.{SlabAt}
use Rattle.heap_ledger.specs.Commits.{AreReaped, after_shrinks}
use Rattle.heap_ledger.specs.Ledger.{Commits, IsLedger, KeepsLegal, Ledger, MayCommit, after_commit, entry, inner_entries, run_setting, run_state, shrunk}
use Rattle.heap_ledger.proofs.CommitLemmas.{made_append, one_call, shrinks_are_inner}
use Rattle.heap_ledger.proofs.MayCommitLemmas.{reaps_may, reaps_step}
use Rattle.heap_accounts.specs.declared.tables.Tables.{Tables}
use Rattle.heap_accounts.specs.Accounts.{AreAccounts}
use Rattle.heap_accounts.specs.Kinds.{is_reap_call}
use Rattle.heap_accounts.specs.Reaps.{PerformsReap}
use Rattle.heap_accounts.specs.Tables.{AreTablesOf}
use Rattle.heap_accounts.proofs.AccountsLemmas.{due_is_next, of_run}
use Rattle.heap_accounts.proofs.CloseLemmas.{grown_still}

-- ---- which call it is

is_reap_op : (op : Op) → is_reap_call op ≡ true → op ≡ Reap
is_reap_op (Alloc slot size) is = absurd (false≢true is)
is_reap_op (Zalloc slot size) is = absurd (false≢true is)
is_reap_op (Free slot size) is = absurd (false≢true is)
is_reap_op (CacheAlloc slot cache) is = absurd (false≢true is)
is_reap_op (CacheFree slot cache) is = absurd (false≢true is)
is_reap_op (Copy to from) is = absurd (false≢true is)
is_reap_op (Clear slot) is = absurd (false≢true is)
is_reap_op (Store slot offset stored) is = absurd (false≢true is)
is_reap_op (Link slot offset value) is = absurd (false≢true is)
is_reap_op (Load to slot offset) is = absurd (false≢true is)
is_reap_op Reap is = refl

-- ---- shrinks follow the plan, and no call is one of them

shrinks_follow : (plan : Plan) (entries : List Entry) (number thread : ℕ) (slabs : List SlabAt) → Follows plan entries → Follows plan (entries ++ inner_entries number thread (shrunk slabs))
shrinks_follow plan entries number thread [] follows = subst (Follows plan) (sym (append-nil entries)) follows
shrinks_follow plan entries number thread (slab ∷ slabs) follows =
    let one = entry number thread (body.Shrink slab.cache slab.base) in
    let longer = follows_grow plan entries one follows tt in
    subst (Follows plan) (append_assoc entries (one ∷ []) (inner_entries (number + 1) thread (shrunk slabs))) (shrinks_follow plan (entries ++ one ∷ []) (number + 1) thread slabs longer)

no_calls : (number thread : ℕ) (slabs : List SlabAt) → turns_made (inner_entries number thread (shrunk slabs)) ≡ []
no_calls number thread [] = refl
no_calls number thread (slab ∷ slabs) = no_calls (number + 1) thread slabs

-- ---- commits

module _ (ledger : Ledger) (thread number : ℕ) (call : Call) (due : due_call ledger.plan ledger.entries thread number ≡ Some call) (tables : Tables) (is : AreAccounts ledger tables)
    (kind : is_reap_call call.op ≡ true) (next : Tables) (done : PerformsReap tables next) where
  are_reaped : AreReaped (run_setting ledger) (run_state ledger) next.slabs.reaped
  are_reaped = done.reaped (run_setting ledger) ledger.entries (of_run ledger tables is)

  pub may_reap : MayCommit ledger thread (shrunk next.slabs.reaped) reply.Ok
  may_reap = reaps_may ledger thread call next.slabs.reaped is.legal (due_is_next ledger thread number call due) (is_reap_op call.op kind) are_reaped

  follows_on : Follows ledger.plan (after_commit ledger thread (shrunk next.slabs.reaped) call reply.Ok).entries
  follows_on =
      let inner = inner_entries (length ledger.entries) thread (shrunk next.slabs.reaped) in
      let last = entry (length ledger.entries + length (shrunk next.slabs.reaped)) thread (body.Call call.op call.frames reply.Ok) in
      let turns : turns_made (ledger.entries ++ inner) ≡ turns_made ledger.entries =
      made_append ledger.entries inner ∙ ap (λ (made : List Turn). turns_made ledger.entries ++ made) (no_calls (length ledger.entries) thread next.slabs.reaped) ∙ append-nil (turns_made ledger.entries) in
      let still : next_call ledger.plan (ledger.entries ++ inner) thread ≡ Some call =
      ap (λ (made : List Turn). next_in [] ledger.plan.phases made thread) turns ∙ due_is_next ledger thread number call due in
      let so_far = shrinks_follow ledger.plan ledger.entries (length ledger.entries) thread next.slabs.reaped is.legal.follows in
      subst (Follows ledger.plan) (append_assoc ledger.entries inner (last ∷ [])) (follows_grow ledger.plan (ledger.entries ++ inner) last so_far still)

  keeps : KeepsLegal ledger thread (shrunk next.slabs.reaped) reply.Ok call
  keeps = subst (λ (o : Option Call). IfSome o (KeepsLegal ledger thread (shrunk next.slabs.reaped) reply.Ok)) (due_is_next ledger thread number call due) may_reap

  is_ledger : IsLedger (after_commit ledger thread (shrunk next.slabs.reaped) call reply.Ok)
  is_ledger = record { plan = is.legal.plan; legal = keeps.legal; follows = follows_on; tidy = keeps.tidy }

  -- a reap changes no more than its shrinks did
  step : run_state (after_commit ledger thread (shrunk next.slabs.reaped) call reply.Ok) ≡ after_shrinks (run_state ledger) next.slabs.reaped
  step =
      reaps_step ledger thread call next.slabs.reaped reply.Ok
      ∙ ap (λ (op : Op). after_call (run_setting ledger) (after_shrinks (run_state ledger) next.slabs.reaped) thread op reply.Ok) (is_reap_op call.op kind)

  module _ (new : Ledger) (commits : Commits ledger new thread (shrunk next.slabs.reaped) reply.Ok) where
    made : new ≡ after_commit ledger thread (shrunk next.slabs.reaped) call reply.Ok
    made =
        subst (λ (o : Option Call). IfSome o (λ c. new ≡ after_commit ledger thread (shrunk next.slabs.reaped) c reply.Ok)) (due_is_next ledger thread number call due) commits

    pub stand_reaped : AreAccounts new next
    stand_reaped =
        let setting = run_setting ledger in
        let more = ap length (one_call ledger thread (shrunk next.slabs.reaped) call reply.Ok (shrinks_are_inner next.slabs.reaped)) in
        let longer = length-append (turns_made ledger.entries) (record { thread = thread; call = call } ∷ []) in
        let same : length (run_state (after_commit ledger thread (shrunk next.slabs.reaped) call reply.Ok)).grown ≡ length (run_state ledger).grown =
        ap length (ap (λ (s : State). s.grown) step ∙ grown_still (run_state ledger) next.slabs.reaped) in
        subst (λ (l : Ledger). AreAccounts l next) (sym made) (record {
          legal = is_ledger;
          are = subst (λ (s : State). AreTablesOf setting s next) (sym step) (done.after setting ledger.entries (of_run ledger tables is));
          room = omega (arith, is.room, done.room, more, longer);
          grown = omega (arith, is.grown, same, more, longer);
        })

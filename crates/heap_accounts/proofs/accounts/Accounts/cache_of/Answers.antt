use Rattle.std.proofs.Common.{◌≡◌, ℕ, Option, Some, None, subst, ap, sym, ◌∙◌}
use Rattle.std.specs.Prelude.{MatchOption, option_map}
use Rattle.plain_heap.specs.State.{HeapSlab, state_of}
use Rattle.heap_ledger.specs.Ledger.{Ledger, run_setting, run_state}
use Rattle.heap_slabs.specs.declared.placed.Placed.{Placed}
use Rattle.heap_slabs.specs.Chunks.{HasNoChunk, IsNumberedAs}
use Rattle.heap_accounts.specs.Places.{slab_with_number}
use Rattle.heap_accounts.proofs.FewLemmas.{cache_told}
use Rattle.heap_accounts.proofs.accounts.Accounts.cache_of.Goals as goal

pub returns-in_err-placed : goal.returns-in_err-placed
returns-in_err-placed c =
    let ledger = c.self.inside.ledger in
    let told = c.chunk.ensures.numbered (run_setting ledger) (run_state ledger) c.self.invariant.legal.plan.header c.self.invariant.are.slabs in
    let answer = subst (λ (o : Option Placed). MatchOption o (HasNoChunk c.args.chunk (run_setting ledger) (run_state ledger)) (λ placed. IsNumberedAs c.args.chunk placed (run_setting ledger) (run_state ledger))) c.in_err-placed.was told in
    c.from_residual.ensures
    ∙ subst (λ (l : Ledger). None ≡ option_map (λ (s : HeapSlab). s.cache) (slab_with_number (run_setting l) (run_state l).slabs c.args.chunk)) c.self.view_is
    (cache_told (run_setting ledger) ledger.entries c.args.chunk None answer)

pub returns : goal.returns
returns c =
    let ledger = c.self.inside.ledger in
    let told = c.chunk.ensures.numbered (run_setting ledger) (run_state ledger) c.self.invariant.legal.plan.header c.self.invariant.are.slabs in
    let answer = subst (λ (o : Option Placed). MatchOption o (HasNoChunk c.args.chunk (run_setting ledger) (run_state ledger)) (λ placed. IsNumberedAs c.args.chunk placed (run_setting ledger) (run_state ledger))) c.in_ok-placed.was told in
    subst (λ (l : Ledger). Some c.in_ok-placed.placed.cache ≡ option_map (λ (s : HeapSlab). s.cache) (slab_with_number (run_setting l) (run_state l).slabs c.args.chunk)) c.self.view_is
    (cache_told (run_setting ledger) ledger.entries c.args.chunk (Some c.in_ok-placed.placed) answer)

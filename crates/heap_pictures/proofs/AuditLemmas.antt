-- The audits of a run keep the rules of cores.
use Rattle.std.proofs.Common.{◌≡◌, ℕ, suc, ◌+◌, ◌<◌, ◌≤◌, true, eqb, List, [], ◌∷◌, Option, Some, None, reverse, refl, sym, ap, ◌∙◌, subst, arith}
use Rattle.std.specs.Prelude.{All, AllPairs, Contains, filter_map, find, option_map}
use Rattle.std.specs.List.{flat_map, range_with_len}
use Rattle.std.proofs.lemmas.Bool.{eqb-true}
use Rattle.std.proofs.lemmas.List.Elements.{All-contains}
use Rattle.std.proofs.lemmas.List.FromFn.{get_or-range_with_len, length-range_with_len}
use Rattle.std.proofs.lemmas.List.Sorted.{Contains-permutation, IsPermutation-reverse, IsPermutation-sym}
use Rattle.umem_base.proofs.Lists.{Contains-here, Contains-there}
use Rattle.trans_log.specs.declared.record.Trans.{Trans}
use Rattle.core_format.specs.declared.items.AuditItem.{AuditItem}
use Rattle.core_format.specs.declared.whole.Core.{Core}
use Rattle.core_format.specs.Chunks.{is_chunk_in}
use Rattle.core_rules.specs.LogRules.{KeepsAuditRules, KeepsTransRules}
use Rattle.plain_heap.proofs.PairsLemmas.{AllPairs-append}
use Rattle.plain_heap.proofs.SlabOfChunk.{find_found}
use Rattle.heap_ledger.specs.Ledger.{Ledger, run_setting, run_state}
use Rattle.heap_logs.specs.declared.chunk_range.ChunkRange.{ChunkRange}
use Rattle.heap_logs.specs.Audits.{audit_record, chunks_in, chunks_of_slab, last_audit, standing_chunks}
use Rattle.heap_logs.specs.Laws.{StandsBelow}
use Rattle.heap_logs.specs.Transactions.{transactions_of}
use Rattle.heap_logs.proofs.ChunkLemmas.{rise}
use Rattle.heap_accounts.proofs.SlabLemmas.{Contains-from_mapped, from_range}
use Rattle.heap_accounts.specs.Places.{Places}
use Rattle.heap_pictures.specs.Laws.{CanBePictured}
use Rattle.heap_pictures.specs.Pictures.{TellsPlaces}
use Rattle.heap_pictures.proofs.HeldLemmas.{are_told, is_there}
use Rattle.heap_pictures.proofs.KeptLemmas.{AreKept, kept_from, none_kept, one_more}
use Rattle.heap_pictures.proofs.PieceLemmas.{All-standing, in_piece}
use Rattle.heap_pictures.proofs.TransLemmas.{all_trans}

-- ---- what is kept of rising numbers

-- where each number gives an item of its own, the items rise
pub by_number : {T : Type 0} (key : T → ℕ) (P : T → Type 0) (g : ℕ → Option T) (ns : List ℕ) (from : ℕ)
    → AllPairs (λ a b. a < b) ns → All (λ n. from ≤ n) ns
    → ((n : ℕ) (t : T) → Contains ns n → g n ≡ Some t → P t × (key t ≡ n)) → AreKept key P from (filter_map g ns)
by_number key P g [] from rising low each = none_kept key P from
by_number key P g (n ∷ ns) from rising low each =
    let here : from ≤ n = low 0 n (omega arith) in
    let rest = by_number key P g ns (suc n) (λ i j d less lt. rising (suc i) (suc j) d (omega arith) (omega arith))
    (λ k d lt. let past = rising 0 (suc k) d (omega arith) (omega arith) in omega (arith, past))
    (λ m t there same. each m t (Contains-there n m ns there) same) in
    kept_from key P from n (filter_map g (n ∷ ns)) here
    (one_more key P n (g n) (filter_map g ns) (λ t same. each n t (Contains-here n ns) same) rest)

-- ---- the chunks of the slabs that stand

range_rises : (first count : ℕ) → AllPairs (λ a b. a < b) (range_with_len first count)
range_rises first count i j d less lt =
    let many = length-range_with_len first count in
    let one = get_or-range_with_len first count i d (omega (arith, many, lt, less)) in
    let other = get_or-range_with_len first count j d (omega (arith, many, lt)) in
    omega (arith, one, other, less)

pub chunks_rise : (standing : List ChunkRange) → AllPairs StandsBelow standing
    → AllPairs (λ a b. a < b) (flat_map chunks_in standing)
chunks_rise [] apart = λ i j d less lt. absurd (omega arith)
chunks_rise (range ∷ standing) apart =
    let rest = chunks_rise standing (λ i j d less lt. apart (suc i) (suc j) d (omega arith) (omega arith)) in
    let past : All (StandsBelow range) standing = λ k d lt. apart 0 (suc k) d (omega arith) (omega arith) in
    AllPairs-append (λ (a b : ℕ). a < b) (chunks_in range) (flat_map chunks_in standing)
    (range_rises range.first range.count) rest
    (All-standing (λ (a : ℕ). All (λ (b : ℕ). a < b) (flat_map chunks_in standing)) (chunks_in range)
    (λ a here. All-standing (λ (b : ℕ). a < b) (flat_map chunks_in standing) (λ b there. above a b past here there)))
  where
    above : (a b : ℕ) → All (StandsBelow range) standing → Contains (chunks_in range) a
        → Contains (flat_map chunks_in standing) b → a < b
    above a b past here there =
        let own = from_range range.first range.count a here in
        let piece = in_piece chunks_in standing b there in
        let its = from_range piece.0.first piece.0.count b piece.2 in
        let below : range.first + range.count ≤ piece.0.first =
        All-contains (StandsBelow range) standing piece.0 past piece.1 in
        omega (arith, own.1, own.2, its.2, below)

-- ---- audits

module _ (ledger : Ledger) (places : Places) (core : Core) (can : CanBePictured ledger places)
    (tells : TellsPlaces ledger places core) where
  -- a chunk of a slab that stands is one of the core
  chunk_there : (chunk : ℕ)
      → Contains (flat_map chunks_in (standing_chunks (run_setting ledger) (run_state ledger))) chunk
      → is_chunk_in core chunk ≡ true
  chunk_there chunk held =
      let setting = run_setting ledger in
      let state = run_state ledger in
      let piece = in_piece chunks_in (standing_chunks setting state) chunk held in
      let from = Contains-from_mapped (chunks_of_slab setting) (reverse state.slabs) piece.0 piece.1 in
      let slab = from.item in
      let stands = Contains-permutation (reverse state.slabs) state.slabs slab
      (IsPermutation-sym state.slabs (reverse state.slabs) (IsPermutation-reverse state.slabs)) from.there in
      let there : Contains (chunks_in (chunks_of_slab setting slab)) chunk =
      subst (λ (r : ChunkRange). Contains (chunks_in r) chunk) (sym from.is) piece.2 in
      let at = from_range slab.first (chunks_of_slab setting slab).count chunk there in
      let told = are_told ledger places core can.legal can.places tells in
      let own = is_there setting state places core told slab at.0 (record { stands = stands; within = at.1 }) in
      subst (λ (n : ℕ). is_chunk_in core n ≡ true) (sym at.2) own

  -- an audit of a chunk that is there keeps the rules, as its transaction does
  one_audit : (t : Trans) → is_chunk_in core t.chunk ≡ true → KeepsTransRules core t
      → KeepsAuditRules core (audit_record t)
  one_audit t there keeps = record {
    chunk = there;
    thread = keeps.thread;
    time = keeps.time;
    depth = keeps.depth;
    frames = keeps.frames;
  }

  pub audit_keeps : (chunk : ℕ) (audit : AuditItem)
      → Contains (flat_map chunks_in (standing_chunks (run_setting ledger) (run_state ledger))) chunk
      → last_audit (transactions_of ledger.options (run_setting ledger) ledger.entries) chunk ≡ Some audit
      → KeepsAuditRules core audit × (audit.chunk ≡ chunk)
  audit_keeps chunk audit held same =
      by_last (find (λ (t : Trans). eqb t.chunk chunk) (reverse all)) refl same
    where
      all : List Trans
      all = transactions_of ledger.options (run_setting ledger) ledger.entries

      by_last : (o : Option Trans) → find (λ (t : Trans). eqb t.chunk chunk) (reverse all) ≡ o
          → option_map audit_record o ≡ Some audit → KeepsAuditRules core audit × (audit.chunk ≡ chunk)
      by_last None is here = absurd (cc here)
      by_last (Some t) is here =
          let found = find_found (λ (t : Trans). eqb t.chunk chunk) (reverse all) t is in
          let stands = Contains-permutation (reverse all) all t
          (IsPermutation-sym all (reverse all) (IsPermutation-reverse all)) found.0 in
          let keeps = All-contains (KeepsTransRules core) all t
          (all_trans ledger places core can tells).keep stands in
          let its : t.chunk ≡ chunk = eqb-true t.chunk chunk found.1 in
          let there = subst (λ (n : ℕ). is_chunk_in core n ≡ true) (sym its) (chunk_there chunk held) in
          let it : audit_record t ≡ audit = cc in
          (subst (KeepsAuditRules core) it (one_audit t there keeps), sym (ap (λ (a : AuditItem). a.chunk) it) ∙ its)

  -- the chunks of the slabs that stand after the run rise
  pub run_chunks_rise :
      AllPairs (λ a b. a < b) (flat_map chunks_in (standing_chunks (run_setting ledger) (run_state ledger)))
  run_chunks_rise =
      chunks_rise (standing_chunks (run_setting ledger) (run_state ledger))
      (rise (run_setting ledger) ledger.entries).apart

  -- the audits keep the rules, and their chunks rise
  pub log_audits : AreKept (λ (audit : AuditItem). audit.chunk) (KeepsAuditRules core) 0 core.audits
  log_audits =
      let all = transactions_of ledger.options (run_setting ledger) ledger.entries in
      let chunks = flat_map chunks_in (standing_chunks (run_setting ledger) (run_state ledger)) in
      subst (AreKept (λ (audit : AuditItem). audit.chunk) (KeepsAuditRules core) 0) (sym tells.tells.logs.audits)
      (by_number (λ (audit : AuditItem). audit.chunk) (KeepsAuditRules core) (last_audit all) chunks 0 run_chunks_rise
      (λ k d lt. omega arith) (λ n t there same. audit_keeps n t there same))

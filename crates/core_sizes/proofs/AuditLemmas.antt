-- How many bytes the audits of a run have: those of chunks that stand apart, so no more than one a transaction.
use Rattle.std.proofs.Common.{◌≡◌, ◌≢◌, ℕ, ◌*◌, ◌≤◌, Bool, eqb, List, [], ◌∷◌, Option, Some, None, length, get_or, map, reverse, refl, sym, ap, ◌∙◌, subst, arith}
use Rattle.std.specs.Prelude.{All, AllPairs, Contains, find, option_map}
use Rattle.std.specs.List.{flat_map}
use Rattle.std.proofs.lemmas.Bool.Decides.{Decides-eqb}
use Rattle.std.proofs.lemmas.Cmp.{nat_eq_equiv}
use Rattle.std.proofs.lemmas.List.{length-append, length-map, get_or-map}
use Rattle.std.proofs.lemmas.List.Elements.{All-contains}
use Rattle.std.proofs.lemmas.List.Sorted.{Contains-permutation, IsPermutation-reverse, IsPermutation-sym}
use Rattle.std.proofs.lemmas.Map.Made.{IsDistinct-from_AllPairs, is_member-Decides, length-le_from_is_member}
use Rattle.umem_options.specs.Limits.{IsOptions}
use Rattle.trans_log.specs.declared.record.Trans.{Trans}
use Rattle.case_table.specs.Record.{spelling}
use Rattle.core_format.specs.declared.items.AuditItem.{AuditItem}
use Rattle.core_format.specs.declared.whole.Core.{Core}
use Rattle.core_format.specs.Logs.{audit_widths}
use Rattle.core_format.specs.Spelling.{spelled_audit, spelled_words}
use Rattle.plain_heap.proofs.PairsLemmas.{AllPairs-map}
use Rattle.plain_heap.proofs.SlabOfChunk.{find_found}
use Rattle.heap_view.specs.Layout.{IsAuditBelow}
use Rattle.heap_view.proofs.LayoutLemmas.{laid_out}
use Rattle.heap_ledger.specs.Ledger.{IsLedger, Ledger, run_setting, run_state}
use Rattle.heap_logs.specs.Audits.{audit_record, chunks_in, last_audit, standing_chunks}
use Rattle.heap_logs.specs.Transactions.{transactions_of}
use Rattle.heap_accounts.proofs.SlabLemmas.{Contains-from_mapped}
use Rattle.heap_pictures.specs.Pictures.{Pictures}
use Rattle.core_sizes.proofs.LengthLemmas.{items_long, numbers_long, record_long}
use Rattle.core_sizes.proofs.TransLemmas.{IsShallow, all_made, transactions_few, transactions_shallow}

-- one of 20 bytes and 32 frames a call
abbrev pub most_audits : ℕ
most_audits = 131072 * 276

-- ---- where an audit is from

-- the audit is what is kept of one of the transactions
record IsFrom (transactions : List Trans) (audit : AuditItem) : Type 0 where
  its : Trans
  there : Contains transactions its
  is : audit_record its ≡ audit

last_from : (transactions : List Trans) (chunk : ℕ) (audit : AuditItem)
    → last_audit transactions chunk ≡ Some audit → IsFrom transactions audit
last_from transactions chunk audit e = by_found (find test (reverse transactions)) refl e
  where
    test : Trans → Bool
    test t = eqb t.chunk chunk

    by_found : (o : Option Trans) → find test (reverse transactions) ≡ o → option_map audit_record o ≡ Some audit
        → IsFrom transactions audit
    by_found None found same = absurd (cc same)
    by_found (Some t) found same =
        let back = reverse transactions in
        let moved = IsPermutation-sym transactions back (IsPermutation-reverse transactions) in
        let one = find_found test back t found in
        record { its = t; there = Contains-permutation back transactions t moved one.0; is = cc }

-- ---- how many there are

abbrev audit_chunk : AuditItem → ℕ
audit_chunk audit = audit.chunk

abbrev trans_chunk : Trans → ℕ
trans_chunk t = t.chunk

-- the chunk of an audit is that of a transaction
chunk_there : (transactions : List Trans) (audits : List AuditItem) → All (IsFrom transactions) audits
    → (q : ℕ) → Contains (map audit_chunk audits) q → Contains (map trans_chunk transactions) q
chunk_there transactions audits from q has =
    let of = Contains-from_mapped audit_chunk audits q has in
    let one = All-contains (IsFrom transactions) audits of.item from of.there in
    let at = one.there in
    let same : one.its.chunk ≡ q = ap audit_chunk one.is ∙ of.is in (
      at.0,
      omega (arith, at.1, length-map transactions trans_chunk),
      get_or-map trans_chunk transactions at.0 one.its q at.1 ∙ ap trans_chunk at.2 ∙ same,
    )

-- audits that rise by chunk are no more than the transactions that they are from
rising_few : (transactions : List Trans) (audits : List AuditItem) → AllPairs IsAuditBelow audits
    → All (IsFrom transactions) audits → length audits ≤ length transactions
rising_few transactions audits rise from =
    let xs = map audit_chunk audits in
    let ys = map trans_chunk transactions in
    let apart : AllPairs (λ a b. a ≢ b) xs = AllPairs-map (λ a b. a ≢ b) audit_chunk audits (λ i j d less lt.
    let low = rise i j d less lt in
    λ same. absurd (omega (arith, low, same))) in
    let distinct = IsDistinct-from_AllPairs Decides-eqb xs apart in
    let few : length xs ≤ length ys = length-le_from_is_member nat_eq_equiv xs ys distinct (λ q is.
    let there = chunk_there transactions audits from q ((is_member-Decides Decides-eqb xs q).0 is) in
    (is_member-Decides Decides-eqb ys q).1 there) in
    omega (arith, few, length-map audits audit_chunk, length-map transactions trans_chunk)

-- ---- those of a run

module _ (ledger : Ledger) (legal : IsLedger ledger) (within : IsOptions ledger.options) (core : Core)
    (is : Pictures ledger core) where
  abbrev run_transactions : List Trans
  run_transactions = transactions_of ledger.options (run_setting ledger) ledger.entries

  audits_from : All (IsFrom run_transactions) core.audits
  audits_from =
      let chunks = flat_map chunks_in (standing_chunks (run_setting ledger) (run_state ledger)) in
      subst (All (IsFrom run_transactions)) (sym is.tells.logs.audits)
      (all_made (IsFrom run_transactions) (last_audit run_transactions) chunks (last_from run_transactions))

  item_long : (audit : AuditItem) → IsFrom run_transactions audit → length (spelled_audit audit) ≤ 276
  item_long audit from =
      let shallows = transactions_shallow ledger legal within in
      let shallow = All-contains IsShallow run_transactions from.its shallows from.there in
      let few : length audit.stack ≤ 32 = subst (λ (a : AuditItem). length a.stack ≤ 32) from.is shallow in
      let fields = audit.chunk ∷ audit.thread ∷ audit.time ∷ length audit.stack ∷ [] in
      let head : length (spelling audit_widths fields) ≡ 20 = record_long audit_widths fields refl in
      let joined = length-append (spelling audit_widths fields) (spelled_words audit.stack) in
      omega (arith, head, few, numbers_long 8 audit.stack, joined)

  pub audits_long : length (flat_map spelled_audit core.audits) ≤ most_audits
  audits_long =
      let laid = laid_out core is.rules in
      let few = rising_few run_transactions core.audits laid.audits_rise audits_from in
      let each = items_long spelled_audit 276 core.audits (λ k d lt.
      item_long (get_or core.audits k d) (audits_from k d lt)) in
      omega (arith, few, each, transactions_few ledger legal within)

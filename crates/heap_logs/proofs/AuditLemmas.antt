-- The table of last transactions, and the audits that it tells.
use Rattle.std.proofs.Common.{◌≡◌, ℕ, zero, suc, ◌+◌, ◌<◌, ◌≤◌, Bool, true, false, cond, eqb, List, [], ◌∷◌, ◌++◌, length, map, reverse, take, get_or, Option, Some, None, refl, sym, ap, ◌∙◌, subst, arith, inl, inr}
use Rattle.std.specs.Prelude.{filter_map, find, flat_map, nat_eq, option_map, slice_get, zip}
use Rattle.std.specs.List.{cons_option}
use Rattle.std.specs.Map.{lookup}
use Rattle.std.specs.Option.{option_and_then}
use Rattle.std.proofs.lemmas.Bool.Decides.{eqb_tells}
use Rattle.std.proofs.lemmas.List.{reverse-append, take_all}
use Rattle.umem_options.specs.declared.options.Options.{Options}
use Rattle.umem_options.specs.Flags.{has_audit}
use Rattle.trans_log.specs.declared.record.Trans.{Trans}
use Rattle.core_format.specs.declared.items.AuditItem.{AuditItem}
use Rattle.plain_heap.specs.declared.entry.Entry.{Entry}
use Rattle.heap_logs.specs.declared.act.Act.{Act}
use Rattle.heap_logs.specs.declared.chunk_range.ChunkRange.{ChunkRange}
use Rattle.heap_logs.specs.Audits.{audit_record, audits_by, chunks_in, last_audit, last_transaction}
use Rattle.heap_logs.specs.LastActs.{TellsLast, told_by, transaction_at}
use Rattle.heap_logs.specs.Transactions.{transaction_of, transactions_by}
use Rattle.heap_logs.proofs.PassedLemmas.{kept_none, kept_some}

-- ---- the last transaction of a chunk

-- with one transaction more
last_more : (transactions : List Trans) (last : Trans) (chunk : ℕ) → last_transaction (transactions ++ last ∷ []) chunk ≡ cond (eqb last.chunk chunk) (Some last) (last_transaction transactions chunk)
last_more transactions last chunk = ap (find (λ (t : Trans). eqb t.chunk chunk)) (reverse-append transactions (last ∷ []))

-- before the first entry an empty table tells all
pub tells_none : (options : Options) (cpus : ℕ) (acted : List (Entry × Option Act)) → TellsLast options cpus acted [] []
tells_none options cpus acted chunk = refl

-- an entry that is no transaction changes nothing
pub tells_on : (options : Options) (cpus : ℕ) (acted : List (Entry × Option Act)) (table : List (ℕ × ℕ)) (i : ℕ) (x : Entry × Option Act) → slice_get acted i ≡ Some x
    → option_map (λ (t : Trans). t.chunk) (transaction_of options cpus x) ≡ None → TellsLast options cpus acted (take i acted) table → TellsLast options cpus acted (take (i + 1) acted) table
tells_on options cpus acted table i x at none tells chunk =
    tells chunk ∙ ap (λ (ts : List Trans). last_transaction ts chunk) (sym (kept_none (transaction_of options cpus) acted i x at (none_of (transaction_of options cpus x) none)))
  where
    none_of : (o : Option Trans) → option_map (λ (t : Trans). t.chunk) o ≡ None → o ≡ None
    none_of None same = refl
    none_of (Some t) same = absurd (cc same)

put : (options : Options) (cpus : ℕ) (acted : List (Entry × Option Act)) (old new : List (ℕ × ℕ)) (i key : ℕ) (x : Entry × Option Act) (last : Trans) → slice_get acted i ≡ Some x
    → transaction_of options cpus x ≡ Some last → last.chunk ≡ key → ((q : ℕ) → lookup (nat_eq q) new ≡ cond (nat_eq key q) (Some i) (lookup (nat_eq q) old))
    → TellsLast options cpus acted (take i acted) old → TellsLast options cpus acted (take (i + 1) acted) new
put options cpus acted old new i key x last at some its updates tells chunk =
    ap (option_and_then (transaction_at options cpus acted)) (updates chunk) ∙ by_key (eqb key chunk) refl
    ∙ sym (ap (λ (ts : List Trans). last_transaction ts chunk) (kept_some (transaction_of options cpus) acted i x last at some)
    ∙ last_more (filter_map (transaction_of options cpus) (take i acted)) last chunk
    ∙ ap (λ k. cond (eqb k chunk) (Some last) (last_transaction (filter_map (transaction_of options cpus) (take i acted)) chunk)) its)
  where
    by_key : (b : Bool) → eqb key chunk ≡ b
        → option_and_then (transaction_at options cpus acted) (cond (eqb key chunk) (Some i) (lookup (nat_eq chunk) old))
        ≡ cond (eqb key chunk) (Some last) (last_transaction (filter_map (transaction_of options cpus) (take i acted)) chunk)
    by_key true same = rw same (ap (option_and_then (transaction_of options cpus)) at ∙ some)
    by_key false apart = rw apart (tells chunk)

-- a transaction is put into the table
pub tells_more : (options : Options) (cpus : ℕ) (acted : List (Entry × Option Act)) (old new : List (ℕ × ℕ)) (i key : ℕ) (x : Entry × Option Act) → slice_get acted i ≡ Some x
    → option_map (λ (t : Trans). t.chunk) (transaction_of options cpus x) ≡ Some key → ((q : ℕ) → lookup (nat_eq q) new ≡ cond (nat_eq key q) (Some i) (lookup (nat_eq q) old))
    → TellsLast options cpus acted (take i acted) old → TellsLast options cpus acted (take (i + 1) acted) new
tells_more options cpus acted old new i key x at some updates tells =
    let last = some_of (transaction_of options cpus x) some in put options cpus acted old new i key x last.0 at last.1 last.2 updates tells
  where
    some_of : (o : Option Trans) → option_map (λ (t : Trans). t.chunk) o ≡ Some key → (last : Trans) × (o ≡ Some last) × (last.chunk ≡ key)
    some_of None same = absurd (cc same)
    some_of (Some t) same = (t, refl, cc)

-- ---- audits

pub filter_same : {X Y : Type 0} (f g : X → Option Y) (xs : List X) → ((x : X) → f x ≡ g x) → filter_map f xs ≡ filter_map g xs
filter_same f g [] same = refl
filter_same f g (x ∷ xs) same = rw (same x) (ap (cons_option (g x)) (filter_same f g xs same))

-- what the table tells are the audits of the transactions
pub audits_told : (options : Options) (cpus : ℕ) (acted : List (Entry × Option Act)) (table : List (ℕ × ℕ)) (chunks : List ℕ) → TellsLast options cpus acted acted table
    → filter_map (λ chunk. option_map audit_record (told_by options cpus acted table chunk)) chunks ≡ filter_map (last_audit (filter_map (transaction_of options cpus) acted)) chunks
audits_told options cpus acted table chunks tells =
    filter_same (λ chunk. option_map audit_record (told_by options cpus acted table chunk)) (last_audit (filter_map (transaction_of options cpus) acted)) chunks (λ chunk. ap (option_map audit_record) (tells chunk))

-- without transactions there are no audits
pub no_audits : (chunks : List ℕ) → filter_map (last_audit []) chunks ≡ []
no_audits [] = refl
no_audits (chunk ∷ chunks) = no_audits chunks

-- where the table leads to an entry, its transaction is told
pub told_some : (options : Options) (cpus : ℕ) (acted : List (Entry × Option Act)) (table : List (ℕ × ℕ)) (chunk index : ℕ) (o : Option (Entry × Option Act)) → Some index ≡ lookup (nat_eq chunk) table
    → slice_get acted index ≡ o → told_by options cpus acted table chunk ≡ option_and_then (transaction_of options cpus) o
told_some options cpus acted table chunk index o is at =
    ap (option_and_then (transaction_at options cpus acted)) (sym is) ∙ ap (option_and_then (transaction_of options cpus)) at

pub without_audit : (options : Options) (cpus : ℕ) (entries : List Entry) (acts : List (Option Act)) (standing : List ChunkRange) → has_audit options ≡ false
    → audits_by (transactions_by options cpus entries acts) standing ≡ []
without_audit options cpus entries acts standing off =
    ap (λ (b : Bool). filter_map (last_audit (cond b (filter_map (transaction_of options cpus) (zip entries acts)) [])) (flat_map chunks_in standing)) off ∙ no_audits (flat_map chunks_in standing)

pub with_audit : (options : Options) (cpus : ℕ) (entries : List Entry) (acts : List (Option Act)) (standing : List ChunkRange) (table : List (ℕ × ℕ)) (i : ℕ) (items : List AuditItem) → has_audit options ≡ true
    → length standing ≤ i → TellsLast options cpus (zip entries acts) (zip entries acts) table
    → items ≡ filter_map (λ chunk. option_map audit_record (told_by options cpus (zip entries acts) table chunk)) (flat_map chunks_in (take i standing))
    → items ≡ audits_by (transactions_by options cpus entries acts) standing
with_audit options cpus entries acts standing table i items on all tells are =
    are ∙ ap (λ (l : List ChunkRange). filter_map (λ chunk. option_map audit_record (told_by options cpus (zip entries acts) table chunk)) (flat_map chunks_in l)) (take_all i standing all)
    ∙ audits_told options cpus (zip entries acts) table (flat_map chunks_in standing) tells
    ∙ ap (λ (b : Bool). filter_map (last_audit (cond b (filter_map (transaction_of options cpus) (zip entries acts)) [])) (flat_map chunks_in standing)) (sym on)

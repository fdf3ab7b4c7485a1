-- The audits and the logs are read where the rules hold.
use Rattle.std.proofs.Common.{◌≡◌, ℕ, ◌<◌, ◌≤◌, Bool, true, false, cond, ◌&&◌, leb, ltb, List, [], ◌∷◌, ◌++◌, length, refl, sym, ap, subst, ◌∙◌, append_assoc, arith, inl, inr, ◌⊎◌}
use Rattle.std.specs.Prelude.{All, map, ◌||◌, ◌==◌, ◌^◌}
use Rattle.std.specs.List.{flat_map, list_any}
use Rattle.std.specs.Option.{option_map}
use Rattle.std.proofs.lemmas.Bool.{and_parts, le-leb, lt-ltb, ltb-true}
use Rattle.std.proofs.lemmas.List.{append-nil}
use Rattle.std.proofs.lemmas.List.Folds.{Any-from_list_any}
use Rattle.byteorder.specs.Endian.{little_bytes}
use Rattle.case_table.specs.declared.limits.TheConstants.{MOST_CACHE_BYTES, MOST_THREADS}
use Rattle.case_table.specs.Record.{spelling}
use Rattle.core_format.specs.declared.items.AuditItem.{AuditItem}
use Rattle.core_format.specs.declared.items.SlabItem.{SlabItem}
use Rattle.core_format.specs.declared.whole.Core.{Core}
use Rattle.trans_log.specs.declared.record.Fail.{Fail}
use Rattle.trans_log.specs.declared.record.Saved.{Saved}
use Rattle.trans_log.specs.declared.record.Trans.{Trans}
use Rattle.core_format.specs.Chunks.{core_shapes}
use Rattle.core_format.specs.Items.{is_above, items_at, last_of_list, next_word_at, one_word, words_at}
use Rattle.core_format.specs.Logs.{audit_item_at, audit_widths, fail_item_at, fail_widths, is_in_arena, kept_bytes, saved_item_at, saved_widths, trans_item_at, trans_widths}
use Rattle.core_format.specs.Reader.{Reader, bytes_at}
use Rattle.core_format.specs.Slabs.{holds_chunk, past_chunks}
use Rattle.core_format.specs.Spelling.{header_of_core, spelled_audit, spelled_fail, spelled_saved, spelled_trans, spelled_words}
use Rattle.core_format.proofs.SpellingLemmas.{rest}
use Rattle.umem_base.specs.Roots.{arena_end, arena_pages}
use Rattle.umem_base.specs.declared.arena.TheConstants.{ARENA_BASE}
use Rattle.umem_options.specs.Flags.{has_flag}
use Rattle.umem_options.specs.declared.flags.TheConstants.DebugFlags.{CONTENTS}
use Rattle.core_rules.specs.HeaderRules.{AreWords, KeepsNumberRules}
use Rattle.core_rules.specs.LogRules.{KeepsAuditRules, KeepsFailRules, KeepsSavedRules, KeepsTransRules}
use Rattle.core_rules.specs.Rules.{KeepsTheRules}
use Rattle.core_rules.specs.SlabRules.{KeepsSlabRules}
use Rattle.core_rules.proofs.BeforeLemmas.{above_so, any_view, earlier_so, item_so}
use Rattle.core_rules.proofs.GivesLemmas.{Gives, bytes_give, gives_ok, gives_record, gives_rule, gives_then, items_give}

-- what the readers of these sections are told of a slab: all but its bytes
abbrev pub bare_slab : SlabItem → SlabItem
bare_slab slab = record { base = slab.base; cache = slab.cache; colour = slab.colour; first = slab.first; free = slab.free; bytes = [] }

pub both_true : (a b : Bool) → a ≡ true → b ≡ true → (a && b) ≡ true
both_true a b p q = rw (p, q) refl

-- a chunk of a slab has a number that was given
pub chunk_given : (core : Core) (chunk : ℕ) → All (KeepsSlabRules core) core.slabs → list_any (holds_chunk (core_shapes core) chunk) core.slabs ≡ true → chunk < core.next_chunk
chunk_given core chunk slabs has =
    let some = Any-from_list_any (holds_chunk (core_shapes core) chunk) core.slabs has in
    let slab = some.1 in
    let parts = and_parts (leb slab.first chunk) (ltb chunk (past_chunks (core_shapes core) slab)) some.4 in
    let rules : KeepsSlabRules core slab = subst (KeepsSlabRules core) some.3 (slabs some.0 slab some.2) in
    omega (arith, ltb-true _ _ parts.1, rules.numbers)

-- ---- words

word_gives : (word : ℕ) (here : Reader) (more : List ℕ) → word < 2 ^ 64 → rest here ≡ little_bytes 8 word ++ more → Gives (one_word here) word more
unfolding one_word
word_gives word here more fits stand =
    gives_record (8 ∷ []) (word ∷ []) here _ word more more (fits, tt) (stand ∙ ap (λ (t : List ℕ). t ++ more) (sym (append-nil (little_bytes 8 word)))) (λ there behind. gives_ok word there more behind)

pub words_give : (words : List ℕ) (count : ℕ) (here : Reader) (more : List ℕ) → AreWords words → length words ≡ count → rest here ≡ spelled_words words ++ more → Gives (words_at count here) words more
words_give words count here more fit long stand =
    items_give (little_bytes 8) next_word_at words (λ before x left here more e stand. word_gives x here more (item_so (λ word. word < 2 ^ 64) words before x left fit e) stand) count here more long stand

-- ---- fails

fail_gives : (core : Core) (before : List Fail) (x : Fail) (here : Reader) (more : List ℕ) → KeepsFailRules core x → core.entries < 2 ^ 64 → length core.caches ≤ 96 → All (λ y. y.time < x.time) before
    → rest here ≡ spelled_fail x ++ more → Gives (fail_item_at (header_of_core core) before here) x more
unfolding fail_item_at
fail_gives core before x here more rules entries caches rise stand =
    gives_record fail_widths (x.thread ∷ x.cache ∷ x.size ∷ x.time ∷ []) here _ x more more (omega (arith, rules.thread), (omega (arith, rules.cache), (omega (arith, rules.fits), (omega (arith, rules.time), tt)))) stand (λ there behind.
    gives_rule (ltb x.thread MOST_THREADS) _ _ _ _ _ (lt-ltb _ _ rules.thread) (
    gives_rule (ltb x.cache (length core.caches)) _ _ _ _ _ (lt-ltb _ _ rules.cache) (
    gives_rule (leb 1 x.size && leb x.size MOST_CACHE_BYTES) _ _ _ _ _ (both_true _ _ (le-leb _ _ rules.some) (le-leb _ _ rules.fits)) (
    gives_rule (ltb x.time core.entries) _ _ _ _ _ (lt-ltb _ _ rules.time) (
    gives_rule (is_above (option_map (λ f. f.time) (last_of_list before)) x.time) _ _ _ _ _ (above_so (λ (f : Fail). f.time) x.time before rise) (
    gives_ok x there more behind))))))

pub fails_give : (core : Core) (here : Reader) (more : List ℕ) → KeepsTheRules core → rest here ≡ flat_map spelled_fail core.fails ++ more
    → Gives (items_at (fail_item_at (header_of_core core)) (length core.fails) [] here) core.fails more
fails_give core here more rules stand =
    items_give spelled_fail (fail_item_at (header_of_core core)) core.fails (λ before x left here more e stand.
    fail_gives core before x here more (item_so (KeepsFailRules core) core.fails before x left rules.logs.fails e) rules.numbers.entries rules.counts.caches
    (earlier_so (λ y z. y.time < z.time) core.fails before x left rules.logs.fails_rise e) stand) (length core.fails) here more refl stand

-- ---- transactions

kind_is : (kind : ℕ) → (kind ≡ 1) ⊎ (kind ≡ 2) → ((kind == 1) || (kind == 2)) ≡ true
kind_is kind (inl e) = rw e refl
kind_is kind (inr e) = rw e refl

kind_small : (kind : ℕ) → (kind ≡ 1) ⊎ (kind ≡ 2) → kind < 2 ^ 32
kind_small kind (inl e) = omega (arith, e)
kind_small kind (inr e) = omega (arith, e)

cond_few : (first : Bool) → cond first 1024 4096 ≤ 4096
cond_few true = omega arith
cond_few false = omega arith

-- the arena has not many pages
pub pages_few : (version : ℕ) → arena_pages version ≤ 4096
pages_few version = cond_few (version == 1)

-- an address of the arena fits
address_small : (version address : ℕ) → is_in_arena version address ≡ true → address < 2 ^ 64
address_small version address e =
    let parts = and_parts (leb ARENA_BASE address) (ltb address (arena_end version)) e in
    omega (arith, ltb-true _ _ parts.1, pages_few version)

-- a record and what follows it stand in front
pub record_front : (here : Reader) (xs ys more : List ℕ) → rest here ≡ (xs ++ ys) ++ more → rest here ≡ xs ++ (ys ++ more)
record_front here xs ys more e = e ∙ append_assoc xs ys more

trans_gives : (core : Core) (before : List Trans) (x : Trans) (here : Reader) (more : List ℕ) → KeepsTransRules core x → KeepsNumberRules core → All (λ y. y.time < x.time) before
    → rest here ≡ spelled_trans x ++ more → Gives (trans_item_at (header_of_core core) before here) x more
unfolding trans_item_at
trans_gives core before x here more rules numbers rise stand =
    gives_record trans_widths (x.kind ∷ x.cpu ∷ x.thread ∷ x.chunk ∷ x.address ∷ x.time ∷ length x.stack ∷ []) here _ x (spelled_words x.stack ++ more) more
    (kind_small x.kind rules.kind, (omega (arith, rules.cpu, numbers.cpus), (omega (arith, rules.thread), (omega (arith, rules.chunk, numbers.next_chunk), (address_small core.version x.address rules.address, (omega (arith, rules.time, numbers.entries), (omega (arith, rules.depth, numbers.frames), tt)))))))
    (record_front here (spelling trans_widths (x.kind ∷ x.cpu ∷ x.thread ∷ x.chunk ∷ x.address ∷ x.time ∷ length x.stack ∷ [])) (spelled_words x.stack) more stand) (λ there behind.
    gives_rule ((x.kind == 1) || (x.kind == 2)) _ _ _ _ _ (kind_is x.kind rules.kind) (
    gives_rule (ltb x.cpu core.cpus) _ _ _ _ _ (lt-ltb _ _ rules.cpu) (
    gives_rule (ltb x.thread MOST_THREADS) _ _ _ _ _ (lt-ltb _ _ rules.thread) (
    gives_rule (ltb x.chunk core.next_chunk) _ _ _ _ _ (lt-ltb _ _ rules.chunk) (
    gives_rule (is_in_arena core.version x.address) _ _ _ _ _ rules.address (
    gives_rule (ltb x.time core.entries) _ _ _ _ _ (lt-ltb _ _ rules.time) (
    gives_rule (is_above (option_map (λ t. t.time) (last_of_list before)) x.time) _ _ _ _ _ (above_so (λ (t : Trans). t.time) x.time before rise) (
    gives_rule (leb (length x.stack) core.frames) _ _ _ _ _ (le-leb _ _ rules.depth) (
    gives_then (words_at (length x.stack) there) _ x.stack x more more (words_give x.stack (length x.stack) there more rules.frames refl behind) (λ past end.
    gives_ok x past more end))))))))))

pub trans_give : (core : Core) (here : Reader) (more : List ℕ) → KeepsTheRules core → rest here ≡ flat_map spelled_trans core.trans ++ more
    → Gives (items_at (trans_item_at (header_of_core core)) (length core.trans) [] here) core.trans more
trans_give core here more rules stand =
    items_give spelled_trans (trans_item_at (header_of_core core)) core.trans (λ before x left here more e stand.
    trans_gives core before x here more (item_so (KeepsTransRules core) core.trans before x left rules.logs.trans e) rules.numbers
    (earlier_so (λ y z. y.time < z.time) core.trans before x left rules.logs.trans_rise e) stand) (length core.trans) here more refl stand

-- ---- saved bytes

kept_small : (flag : Bool) (contents : ℕ) → contents ≤ 4096 → cond flag contents 256 ≤ 4096
kept_small true contents le = le
kept_small false contents le = omega arith

saved_gives : (core : Core) (before : List Saved) (x : Saved) (here : Reader) (more : List ℕ) → KeepsSavedRules core x → KeepsNumberRules core → All (λ y. y.time < x.time) before
    → rest here ≡ spelled_saved x ++ more → Gives (saved_item_at (header_of_core core) before here) x more
unfolding saved_item_at
saved_gives core before x here more rules numbers rise stand =
    gives_record saved_widths (x.time ∷ x.chunk ∷ length x.bytes ∷ []) here _ x (x.bytes ++ more) more
    (omega (arith, rules.time, numbers.entries), (omega (arith, rules.chunk, numbers.next_chunk), (omega (arith, rules.kept, kept_small (has_flag core.flags CONTENTS) core.contents numbers.contents), tt)))
    (record_front here (spelling saved_widths (x.time ∷ x.chunk ∷ length x.bytes ∷ [])) x.bytes more stand) (λ there behind.
    gives_rule (ltb x.time core.entries) _ _ _ _ _ (lt-ltb _ _ rules.time) (
    gives_rule (is_above (option_map (λ s. s.time) (last_of_list before)) x.time) _ _ _ _ _ (above_so (λ (s : Saved). s.time) x.time before rise) (
    gives_rule (ltb x.chunk core.next_chunk) _ _ _ _ _ (lt-ltb _ _ rules.chunk) (
    gives_rule (leb (length x.bytes) (kept_bytes (header_of_core core))) _ _ _ _ _ (le-leb _ _ rules.kept) (
    gives_then (bytes_at (length x.bytes) there) _ x.bytes x more more (bytes_give x.bytes (length x.bytes) there more refl behind) (λ past end.
    gives_ok x past more end))))))

pub saved_give : (core : Core) (here : Reader) (more : List ℕ) → KeepsTheRules core → rest here ≡ flat_map spelled_saved core.saved ++ more
    → Gives (items_at (saved_item_at (header_of_core core)) (length core.saved) [] here) core.saved more
saved_give core here more rules stand =
    items_give spelled_saved (saved_item_at (header_of_core core)) core.saved (λ before x left here more e stand.
    saved_gives core before x here more (item_so (KeepsSavedRules core) core.saved before x left rules.logs.saved e) rules.numbers
    (earlier_so (λ y z. y.time < z.time) core.saved before x left rules.logs.saved_rise e) stand) (length core.saved) here more refl stand

-- ---- audits

audit_gives : (core : Core) (before : List AuditItem) (x : AuditItem) (here : Reader) (more : List ℕ) → KeepsAuditRules core x → KeepsNumberRules core → All (KeepsSlabRules core) core.slabs
    → All (λ y. y.chunk < x.chunk) before → rest here ≡ spelled_audit x ++ more → Gives (audit_item_at (header_of_core core) (core_shapes core) (map bare_slab core.slabs) before here) x more
unfolding audit_item_at
audit_gives core before x here more rules numbers slabs rise stand =
    gives_record audit_widths (x.chunk ∷ x.thread ∷ x.time ∷ length x.stack ∷ []) here _ x (spelled_words x.stack ++ more) more
    (omega (arith, chunk_given core x.chunk slabs rules.chunk, numbers.next_chunk), (omega (arith, rules.thread), (omega (arith, rules.time, numbers.entries), (omega (arith, rules.depth, numbers.frames), tt))))
    (record_front here (spelling audit_widths (x.chunk ∷ x.thread ∷ x.time ∷ length x.stack ∷ [])) (spelled_words x.stack) more stand) (λ there behind.
    gives_rule (list_any (holds_chunk (core_shapes core) x.chunk) (map bare_slab core.slabs)) _ _ _ _ _ (any_view bare_slab (holds_chunk (core_shapes core) x.chunk) core.slabs ∙ rules.chunk) (
    gives_rule (is_above (option_map (λ a. a.chunk) (last_of_list before)) x.chunk) _ _ _ _ _ (above_so (λ (a : AuditItem). a.chunk) x.chunk before rise) (
    gives_rule (ltb x.thread MOST_THREADS) _ _ _ _ _ (lt-ltb _ _ rules.thread) (
    gives_rule (ltb x.time core.entries) _ _ _ _ _ (lt-ltb _ _ rules.time) (
    gives_rule (leb (length x.stack) core.frames) _ _ _ _ _ (le-leb _ _ rules.depth) (
    gives_then (words_at (length x.stack) there) _ x.stack x more more (words_give x.stack (length x.stack) there more rules.frames refl behind) (λ past end.
    gives_ok x past more end)))))))

pub audits_give : (core : Core) (here : Reader) (more : List ℕ) → KeepsTheRules core → rest here ≡ flat_map spelled_audit core.audits ++ more
    → Gives (items_at (audit_item_at (header_of_core core) (core_shapes core) (map bare_slab core.slabs)) (length core.audits) [] here) core.audits more
audits_give core here more rules stand =
    items_give spelled_audit (audit_item_at (header_of_core core) (core_shapes core) (map bare_slab core.slabs)) core.audits (λ before x left here more e stand.
    audit_gives core before x here more (item_so (KeepsAuditRules core) core.audits before x left rules.logs.audits e) rules.numbers rules.slabs.each
    (earlier_so (λ y z. y.chunk < z.chunk) core.audits before x left rules.logs.audits_rise e) stand) (length core.audits) here more refl stand

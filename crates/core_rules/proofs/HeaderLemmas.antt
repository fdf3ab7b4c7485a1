-- The headers and the root segments are read where the rules hold.
use Rattle.std.proofs.Common.{◌≡◌, ℕ, ◌-◌, ◌*◌, ◌≤◌, Bool, true, false, cond, leb, List, [], ◌∷◌, ◌++◌, length, Ok, refl, sym, subst, ◌∙◌, arith, inl, inr}
use Rattle.std.specs.Prelude.{All, not, ◌||◌, ◌==◌}
use Rattle.std.specs.List.{flat_map}
use Rattle.std.proofs.lemmas.Bool.{and_from, and_parts, eq-eqb, eqb-true, le-leb, leb-true}
use Rattle.std.proofs.lemmas.List.{length-append}
use Rattle.byteorder.specs.Endian.{little_bytes}
use Rattle.byteorder.specs.Numbers.{length-bytes_low_first}
use Rattle.umem_base.specs.Roots.{arena_pages}
use Rattle.umem_options.specs.declared.flags.TheConstants.DebugFlags.{AUDIT, GUARDS}
use Rattle.umem_options.specs.declared.limits.TheConstants.{MOST_CONTENTS, MOST_FAILS, MOST_FRAMES, MOST_SAVED, MOST_TRANSACTIONS}
use Rattle.case_table.specs.Record.{Fit, spelling}
use Rattle.case_table.specs.declared.limits.TheConstants.{CLASS_COUNT, MOST_CACHES, MOST_CPUS, MOST_THREADS}
use Rattle.core_format.specs.declared.header.Header.{Header}
use Rattle.core_format.specs.declared.header.SecondHeader.{SecondHeader}
use Rattle.core_format.specs.declared.items.OwnRoot.{OwnRoot}
use Rattle.core_format.specs.declared.limits.TheConstants.{ALL_FLAGS, MOST_AUDITS}
use Rattle.core_format.specs.declared.read_header.TheConstants.{MAGIC}
use Rattle.core_format.specs.declared.whole.Core.{Core}
use Rattle.core_format.specs.Header.{has_audits, has_bit, has_contents_log, has_known_flags, header_at, header_rules, header_widths, headers_at, is_core_version, is_count, no_second, second_header_at, second_widths}
use Rattle.core_format.specs.Items.{items_at}
use Rattle.core_format.specs.Reader.{Reader}
use Rattle.core_format.specs.Segments.{one_own_root, own_root_at, segment_at}
use Rattle.core_format.specs.Spelling.{header_of_core, second_of_core, spelled_header, spelled_own, spelled_second, spelled_words}
use Rattle.core_format.proofs.SpellingLemmas.{rest}
use Rattle.core_rules.specs.HeaderRules.{IsOfFirstVersion, IsOfSecondVersion, IsSegment, IsVersion}
use Rattle.core_rules.specs.Rules.{KeepsTheRules}
use Rattle.core_rules.proofs.BeforeLemmas.{item_so}
use Rattle.core_rules.proofs.GivesLemmas.{Gives, gives_ok, gives_record, gives_rule, gives_step, gives_then, items_give, kept, kept_then, room_for}
use Rattle.core_rules.proofs.LogLemmas.{pages_few, words_give}

-- ---- the first header

version_is : (version : ℕ) → IsVersion version → is_core_version version ≡ true
version_is version (inl e) = rw e refl
version_is version (inr e) = rw e refl

version_small : (version : ℕ) → IsVersion version → version ≤ 2
version_small version (inl e) = omega (arith, e)
version_small version (inr e) = omega (arith, e)

header_rules_hold : (core : Core) (start : ℕ) → KeepsTheRules core → header_rules (header_of_core core) start ≡ Ok tt
unfolding header_rules
header_rules_hold core start rules =
    let numbers = rules.numbers in
    let counts = rules.counts in
    kept_then (is_core_version core.version) _ _ _ (version_is core.version numbers.version) (
    kept_then (has_known_flags core.flags.0) _ _ _ numbers.flags (
    kept_then (leb core.frames MOST_FRAMES) _ _ _ (le-leb _ _ numbers.frames) (
    kept_then (leb core.contents MOST_CONTENTS) _ _ _ (le-leb _ _ numbers.contents) (
    kept_then (is_count 1 core.cpus MOST_CPUS) _ _ _ (and_from _ _ (le-leb _ _ numbers.some_cpus) (le-leb _ _ numbers.cpus)) (
    kept_then (is_count CLASS_COUNT (length core.caches) MOST_CACHES) _ _ _ (and_from _ _ (le-leb _ _ counts.classes) (le-leb _ _ counts.caches)) (
    kept_then (leb (length core.slabs) (arena_pages core.version)) _ _ _ (le-leb _ _ counts.slabs) (
    kept_then (leb (length core.large) (arena_pages core.version)) _ _ _ (le-leb _ _ counts.large) (
    kept_then (has_audits core.flags.0 (length core.audits)) _ _ _ counts.audits (
    kept_then (leb core.trans_capacity MOST_TRANSACTIONS) _ _ _ (le-leb _ _ numbers.trans_capacity) (
    kept_then (leb (length core.trans) core.trans_capacity) _ _ _ (le-leb _ _ counts.trans) (
    kept_then (leb core.fail_capacity MOST_FAILS) _ _ _ (le-leb _ _ numbers.fail_capacity) (
    kept (leb (length core.fails) core.fail_capacity) _ _ (le-leb _ _ counts.fails)))))))))))))

-- the header's numbers
abbrev header_numbers : Header → List ℕ
header_numbers h =
    MAGIC ∷ h.version ∷ h.flags ∷ h.frames ∷ h.contents ∷ h.cpus ∷ h.caches ∷ h.slabs ∷ h.large ∷ h.audits ∷ h.trans_capacity ∷ h.trans ∷ h.fail_capacity ∷ h.fails ∷ h.next_chunk ∷ h.entries ∷ []

header_fits : (core : Core) → KeepsTheRules core → Fit header_widths (header_numbers (header_of_core core))
header_fits core rules =
    let numbers = rules.numbers in
    let counts = rules.counts in
    let few = pages_few core.version in
    let flags = leb-true _ _ (and_parts (leb core.flags.0 ALL_FLAGS) (not (has_bit core.flags.0 AUDIT) || has_bit core.flags.0 GUARDS) numbers.flags).0 in
    let audits = leb-true _ _ (and_parts (leb (length core.audits) MOST_AUDITS) ((length core.audits == 0) || has_bit core.flags.0 AUDIT) counts.audits).0 in
    (omega arith, (omega (arith, version_small core.version numbers.version), (omega (arith, flags), (omega (arith, numbers.frames), (omega (arith, numbers.contents), (omega (arith, numbers.cpus), (omega (arith, counts.caches), (omega (arith, counts.slabs, few), (omega (arith, counts.large, few), (omega (arith, audits), (omega (arith, numbers.trans_capacity), (omega (arith, counts.trans, numbers.trans_capacity), (omega (arith, numbers.fail_capacity), (omega (arith, counts.fails, numbers.fail_capacity), (numbers.next_chunk, (numbers.entries, tt))))))))))))))))

header_gives : (core : Core) (here : Reader) (more : List ℕ) → KeepsTheRules core → rest here ≡ spelled_header (header_of_core core) ++ more → Gives (header_at here) (header_of_core core) more
unfolding header_at
header_gives core here more rules stand =
    let h = header_of_core core in
    gives_record header_widths (header_numbers h) here _ h more more (header_fits core rules) stand (λ there behind.
    gives_step (header_rules h here.at) _ _ _ (header_rules_hold core here.at rules) (
    gives_ok h there more behind))

-- ---- the second one

abbrev second_numbers : SecondHeader → List ℕ
second_numbers s = s.threads ∷ s.contents_capacity ∷ s.saved ∷ []

second_record_gives : (core : Core) (here : Reader) (more : List ℕ) → IsOfSecondVersion core → rest here ≡ spelling second_widths (second_numbers (second_of_core core)) ++ more
    → Gives (second_header_at (header_of_core core) here) (second_of_core core) more
unfolding second_header_at
second_record_gives core here more is stand =
    let s = second_of_core core in
    let capacity = leb-true _ _ (and_parts (leb core.contents_capacity MOST_SAVED) ((core.contents_capacity == 0) || has_bit core.flags.0 AUDIT) is.contents_capacity).0 in
    gives_record second_widths (second_numbers s) here _ s more more (omega (arith, is.threads), (omega (arith, capacity), (omega (arith, is.saved, capacity), tt))) stand (λ there behind.
    gives_rule (is_count 1 (length core.own) MOST_THREADS) _ _ _ _ _ (and_from _ _ (le-leb _ _ is.some_threads) (le-leb _ _ is.threads)) (
    gives_rule (has_contents_log core.flags.0 core.contents_capacity) _ _ _ _ _ is.contents_capacity (
    gives_rule (leb (length core.saved) core.contents_capacity) _ _ _ _ _ (le-leb _ _ is.saved) (
    gives_ok s there more behind))))

no_second_of : (core : Core) → IsOfFirstVersion core → second_of_core core ≡ no_second
no_second_of core is = rw (is.own, is.contents_capacity, is.saved) refl

second_gives : (first : Bool) (core : Core) (here : Reader) (more : List ℕ) → (first ≡ true → IsOfFirstVersion core) → (first ≡ false → IsOfSecondVersion core)
    → rest here ≡ cond first [] (spelling second_widths (second_numbers (second_of_core core))) ++ more → Gives (cond first (Ok (no_second, here)) (second_header_at (header_of_core core) here)) (second_of_core core) more
second_gives true core here more yes_first yes_second stand =
    subst (λ (s : SecondHeader). Gives (Ok (no_second, here)) s more) (sym (no_second_of core (yes_first refl))) (gives_ok no_second here more stand)
second_gives false core here more yes_first yes_second stand = second_record_gives core here more (yes_second refl) stand

second_version : (version : ℕ) → IsVersion version → (version == 1) ≡ false → version ≡ 2
second_version version (inl one) e = absurd (true_is_false (sym (eq-eqb version 1 one) ∙ e))
  where
    true_is_false : true ≡ false → ⊥
    true_is_false e = absurd cc
second_version version (inr two) e = two

pub headers_give : (core : Core) (here : Reader) (more : List ℕ) → KeepsTheRules core → rest here ≡ spelled_header (header_of_core core) ++ (spelled_second core.version (second_of_core core) ++ more)
    → Gives (headers_at here) (header_of_core core, second_of_core core) more
unfolding headers_at
headers_give core here more rules stand =
    let h = header_of_core core in
    let s = second_of_core core in
    let first = core.version == 1 in
    let both : Header × SecondHeader = (h, s) in
    gives_then (header_at here) _ h both (spelled_second core.version s ++ more) more (header_gives core here (spelled_second core.version s ++ more) rules stand) (λ there behind.
    gives_then (cond first (Ok (no_second, there)) (second_header_at h there)) _ s both more more
    (second_gives first core there more (λ e. rules.version.first (eqb-true core.version 1 e)) (λ e. rules.version.second (second_version core.version rules.numbers.version e)) behind) (λ past end.
    gives_ok both past more end))

-- ---- segments

pub words_long : (words : List ℕ) → length (spelled_words words) ≡ 8 * length words
words_long [] = refl
words_long (word ∷ words) = omega (arith, length-append (little_bytes 8 word) (spelled_words words), length-bytes_low_first 0 8 word, words_long words)

pub segment_gives : (words : List ℕ) (here : Reader) (more : List ℕ) → IsSegment words → rest here ≡ spelled_words words ++ more → Gives (segment_at here) words more
unfolding segment_at
segment_gives words here more is stand =
    gives_rule (leb 4096 (length here.bytes - here.at)) _ _ _ _ _ (le-leb _ _ (room_for here (spelled_words words) more 4096 stand (omega (arith, words_long words, is.many)))) (
    words_give words 512 here more is.fit is.many stand)

own_gives : (x : OwnRoot) (here : Reader) (more : List ℕ) → IsSegment x.words → rest here ≡ spelled_own x ++ more → Gives (one_own_root here) x more
unfolding one_own_root
own_gives x here more is stand =
    gives_then (segment_at here) _ x.words x more more (segment_gives x.words here more is stand) (λ there behind. gives_ok x there more behind)

pub owns_give : (core : Core) (here : Reader) (more : List ℕ) → All (λ own. IsSegment own.words) core.own → rest here ≡ flat_map spelled_own core.own ++ more
    → Gives (items_at own_root_at (length core.own) [] here) core.own more
owns_give core here more all stand =
    items_give spelled_own own_root_at core.own (λ before x left here more e stand. own_gives x here more (item_so (λ own. IsSegment own.words) core.own before x left all e) stand) (length core.own) here more refl stand

-- A core that keeps the rules is read from the bytes that it is spelled as.
use Rattle.std.proofs.Common.{◌≡◌, ℕ, ◌*◌, true, List, [], ◌++◌, length, Ok, refl, sym, ap, ◌∙◌, arith}
use Rattle.std.specs.Prelude.{map, Result, ◌==◌}
use Rattle.std.specs.List.{flat_map}
use Rattle.std.proofs.lemmas.Bool.{eq-eqb}
use Rattle.std.proofs.lemmas.List.{append-nil, length-drop}
use Rattle.core_format.specs.declared.fault.Fault.TheVariants.{TrailingBytes}
use Rattle.core_format.specs.declared.items.LargeItem.{LargeItem}
use Rattle.core_format.specs.declared.items.SlabItem.{SlabItem}
use Rattle.core_format.specs.declared.parts.Front.{Front}
use Rattle.core_format.specs.declared.parts.Middle.{Middle}
use Rattle.core_format.specs.declared.parts.Records.{Records}
use Rattle.core_format.specs.declared.whole.Core.{Core}
use Rattle.core_format.specs.Caches.{cache_item_at}
use Rattle.core_format.specs.Chunks.{core_shapes}
use Rattle.core_format.specs.Cores.{IsCore, core_of, front_at, middle_at, records_at}
use Rattle.core_format.specs.Header.{headers_at}
use Rattle.core_format.specs.Items.{items_at}
use Rattle.core_format.specs.Logs.{audit_item_at, fail_item_at, saved_item_at, trans_item_at}
use Rattle.core_format.specs.Magazines.{cpu_place_at, depot_item_at, place_rounds}
use Rattle.core_format.specs.PageBytes.{pages_at}
use Rattle.core_format.specs.Reader.{Flaw, Reader, ◌>>=◌, left, rule}
use Rattle.core_format.specs.Segments.{own_root_at, segment_at}
use Rattle.core_format.specs.Slabs.{large_item_at, slab_item_at}
use Rattle.core_format.specs.Spelling.{header_of_core, second_of_core, spelled_audit, spelled_cache, spelled_core, spelled_depot, spelled_fail, spelled_front, spelled_header, spelled_large, spelled_middle, spelled_own, spelled_pages, spelled_place, spelled_records, spelled_saved, spelled_second, spelled_slab, spelled_trans, spelled_words}
use Rattle.core_format.proofs.SpellingLemmas.{rest}
use Rattle.core_rules.specs.Rules.{KeepsTheRules}
use Rattle.core_rules.proofs.CacheLemmas.{caches_give}
use Rattle.core_rules.proofs.GivesLemmas.{Gives, gives_ok, gives_then}
use Rattle.core_rules.proofs.HeaderLemmas.{headers_give, owns_give, segment_gives}
use Rattle.core_rules.proofs.LogLemmas.{audits_give, bare_slab, fails_give, record_front, saved_give, trans_give}
use Rattle.core_rules.proofs.PageLemmas.{pages_give}
use Rattle.core_rules.proofs.PlaceLemmas.{depots_give, places_give}
use Rattle.core_rules.proofs.SlabLemmas.{bare_large, large_give, slabs_give}

-- ---- the parts

abbrev front_of : Core → Front
front_of core = record { header = header_of_core core; second = second_of_core core; root = core.root; own = core.own; caches = core.caches }

front_gives : (core : Core) (here : Reader) (more : List ℕ) → KeepsTheRules core → rest here ≡ spelled_front core ++ more → Gives (front_at here) (front_of core) more
unfolding front_at
front_gives core here more rules stand =
    let h = header_of_core core in
    let s = second_of_core core in
    let front = front_of core in
    let caches = flat_map (spelled_cache core.version) core.caches in
    let own = flat_map spelled_own core.own in
    let root = spelled_words core.root in
    let second = spelled_second core.version s in
    let before_caches = record_front here (spelled_header h ++ second ++ root ++ own) caches more stand in
    let before_own = record_front here (spelled_header h ++ second ++ root) own (caches ++ more) before_caches in
    let before_root = record_front here (spelled_header h ++ second) root (own ++ (caches ++ more)) before_own in
    let before_second = record_front here (spelled_header h) second (root ++ (own ++ (caches ++ more))) before_root in
    gives_then (headers_at here) _ (h, s) front (root ++ (own ++ (caches ++ more))) more (headers_give core here (root ++ (own ++ (caches ++ more))) rules before_second) (λ there behind.
    gives_then (segment_at there) _ core.root front (own ++ (caches ++ more)) more (segment_gives core.root there (own ++ (caches ++ more)) rules.segments.root behind) (λ past end.
    gives_then (items_at own_root_at (length core.own) [] past) _ core.own front (caches ++ more) more (owns_give core past (caches ++ more) rules.segments.own end) (λ beyond stop.
    gives_then (items_at (cache_item_at h) (length core.caches) [] beyond) _ core.caches front more more (caches_give core beyond more rules stop) (λ final last.
    gives_ok front final more last))))

-- four parts one behind the other
four_fronts : (here : Reader) (a b c d more : List ℕ) → rest here ≡ (a ++ b ++ c ++ d) ++ more → rest here ≡ a ++ (b ++ (c ++ (d ++ more)))
four_fronts here a b c d more stand =
    record_front here a b (c ++ (d ++ more)) (record_front here (a ++ b) c (d ++ more) (record_front here (a ++ b ++ c) d more stand))

abbrev middle_of : Core → Middle
middle_of core = record { table = record { shapes = core_shapes core; slabs = map bare_slab core.slabs }; large = map bare_large core.large; cpu_places = core.cpu_places; depots = core.depots }

middle_gives : (core : Core) (here : Reader) (more : List ℕ) → KeepsTheRules core → rest here ≡ spelled_middle core ++ more → Gives (middle_at (header_of_core core) (core_shapes core) here) (middle_of core) more
unfolding middle_at
middle_gives core here more rules stand =
    let h = header_of_core core in
    let shapes = core_shapes core in
    let slabs = map bare_slab core.slabs in
    let middle = middle_of core in
    let depots = flat_map spelled_depot core.depots in
    let places = flat_map spelled_place core.cpu_places in
    let large = flat_map spelled_large core.large in
    let first = flat_map spelled_slab core.slabs in
    gives_then (items_at (slab_item_at h shapes) (length core.slabs) [] here) _ slabs middle (large ++ (places ++ (depots ++ more))) more (slabs_give core here (large ++ (places ++ (depots ++ more))) rules (four_fronts here first large places depots more stand)) (λ there behind.
    gives_then (items_at (large_item_at h shapes slabs) (length core.large) [] there) _ (map bare_large core.large) middle (places ++ (depots ++ more)) more (large_give core there (places ++ (depots ++ more)) rules behind) (λ past end.
    gives_then (items_at (cpu_place_at (length core.caches) shapes slabs) (core.cpus * length core.caches) [] past) _ core.cpu_places middle (depots ++ more) more (places_give core (core.cpus * length core.caches) past (depots ++ more) rules rules.places.many end) (λ beyond stop.
    gives_then (items_at (depot_item_at shapes slabs (flat_map place_rounds core.cpu_places)) (length core.caches) [] beyond) _ core.depots middle more more (depots_give core (length core.caches) beyond more rules rules.places.many_depots stop) (λ final last.
    gives_ok middle final more last))))

abbrev records_of : Core → Records
records_of core = record { audits = core.audits; trans = core.trans; fails = core.fails; saved = core.saved }

records_give : (core : Core) (here : Reader) (more : List ℕ) → KeepsTheRules core → rest here ≡ spelled_records core ++ more
    → Gives (records_at (header_of_core core) (second_of_core core) (core_shapes core) (map bare_slab core.slabs) here) (records_of core) more
unfolding records_at
records_give core here more rules stand =
    let h = header_of_core core in
    let records = records_of core in
    let saved = flat_map spelled_saved core.saved in
    let fails = flat_map spelled_fail core.fails in
    let trans = flat_map spelled_trans core.trans in
    let audits = flat_map spelled_audit core.audits in
    gives_then (items_at (audit_item_at h (core_shapes core) (map bare_slab core.slabs)) (length core.audits) [] here) _ core.audits records (trans ++ (fails ++ (saved ++ more))) more (audits_give core here (trans ++ (fails ++ (saved ++ more))) rules (four_fronts here audits trans fails saved more stand)) (λ there behind.
    gives_then (items_at (trans_item_at h) (length core.trans) [] there) _ core.trans records (fails ++ (saved ++ more)) more (trans_give core there (fails ++ (saved ++ more)) rules behind) (λ past end.
    gives_then (items_at (fail_item_at h) (length core.fails) [] past) _ core.fails records (saved ++ more) more (fails_give core past (saved ++ more) rules end) (λ beyond stop.
    gives_then (items_at (saved_item_at h) (length core.saved) [] beyond) _ core.saved records more more (saved_give core beyond more rules stop) (λ final last.
    gives_ok records final more last))))

-- ---- the whole

-- a step whose value is known
step_is : {A B : Type 0} (r : Result A Flaw) (next : A → Result B Flaw) (x : A) (y : B) → r ≡ Ok x → next x ≡ Ok y → (r >>= next) ≡ Ok y
step_is {A} {B} r next x y e f = ap (λ (q : Result A Flaw). q >>= next) e ∙ f

-- where nothing is left, no bytes trail
none_left : (here : Reader) → rest here ≡ [] → (left here == 0) ≡ true
none_left here e = eq-eqb (left here) 0 (omega (arith, ap length e, length-drop here.at here.bytes))

ended : {B : Type 0} (here : Reader) (y : B) → rest here ≡ [] → (rule (left here == 0) here.at TrailingBytes >>= λ _. Ok y) ≡ Ok y
ended {B} here y e = rw (none_left here e) refl

pub rules_are_read : (core : Core) → KeepsTheRules core → IsCore (spelled_core core) core
unfolding core_of
rules_are_read core rules =
    let start : Reader = record { bytes = spelled_core core; at = 0 } in
    let shapes = core_shapes core in
    let pages = spelled_pages core.slabs core.large in
    let whole = four_fronts start (spelled_front core) (spelled_middle core) (spelled_records core) pages [] (sym (append-nil (spelled_core core))) in
    let front = front_gives core start (spelled_middle core ++ (spelled_records core ++ (pages ++ []))) rules whole in
    let middle = middle_gives core front.there (spelled_records core ++ (pages ++ [])) rules front.behind in
    let records = records_give core middle.there (pages ++ []) rules middle.behind in
    let page_bytes = pages_give core records.there [] rules.slabs.each rules.large.each records.behind in
    let f : Front × Reader = (front_of core, front.there) in
    let m : Middle × Reader = (middle_of core, middle.there) in
    let r : Records × Reader = (records_of core, records.there) in
    let p : (List SlabItem × List LargeItem) × Reader = ((core.slabs, core.large), page_bytes.there) in
    step_is (front_at start) _ f core front.read (
    step_is (middle_at (header_of_core core) shapes front.there) _ m core middle.read (
    step_is (records_at (header_of_core core) (second_of_core core) shapes (map bare_slab core.slabs) middle.there) _ r core records.read (
    step_is (pages_at shapes (map bare_large core.large) (map bare_slab core.slabs) [] [] records.there) _ p core page_bytes.read (
    ended page_bytes.there core page_bytes.behind))))

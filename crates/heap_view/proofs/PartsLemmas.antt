-- The parts that a core that meets the rules, a section and an item were read from.
use Rattle.std.proofs.Common.{◌≡◌, ℕ, ◌+◌, ◌*◌, eqb, leb, List, [], length, Result, Ok, ap}
use Rattle.std.specs.List.{flat_map, list_any}
use Rattle.core_format.specs.declared.cache_numbers.CacheNumbers.{CacheNumbers}
use Rattle.trans_log.specs.declared.record.Fail.{Fail}
use Rattle.trans_log.specs.declared.record.Saved.{Saved}
use Rattle.trans_log.specs.declared.record.Trans.{Trans}
use Rattle.core_format.specs.declared.cache_shape.CacheShape.{CacheShape}
use Rattle.core_format.specs.declared.fault.Fault.TheVariants.{BadCache, BadLength, TrailingBytes}
use Rattle.core_format.specs.declared.header.Header.{Header}
use Rattle.core_format.specs.declared.header.SecondHeader.{SecondHeader}
use Rattle.core_format.specs.declared.items.AuditItem.{AuditItem}
use Rattle.core_format.specs.declared.items.CacheItem.{CacheItem}
use Rattle.core_format.specs.declared.items.CpuPlace.{CpuPlace}
use Rattle.core_format.specs.declared.items.DepotItem.{DepotItem}
use Rattle.core_format.specs.declared.items.LargeItem.{LargeItem}
use Rattle.core_format.specs.declared.items.OwnRoot.{OwnRoot}
use Rattle.core_format.specs.declared.items.SlabItem.{SlabItem}
use Rattle.core_format.specs.declared.parts.Front.{Front}
use Rattle.core_format.specs.declared.parts.Middle.{Middle}
use Rattle.core_format.specs.declared.parts.Records.{Records}
use Rattle.core_format.specs.declared.whole.Core.{Core}
use Rattle.core_format.specs.Caches.{cache_bytes, cache_item_at, cache_item_of, cache_numbers_at, is_name_behind, is_padded, number_rules, padded_name, shapes_of}
use Rattle.core_format.specs.Cores.{MeetsTheRules, core_of, core_of_parts, front_at, middle_at, records_at}
use Rattle.core_format.specs.Header.{headers_at}
use Rattle.core_format.specs.Items.{items_at, last_of_list}
use Rattle.core_format.specs.Logs.{audit_item_at, fail_item_at, saved_item_at, trans_item_at}
use Rattle.core_format.specs.Magazines.{cpu_place_at, depot_item_at, place_rounds}
use Rattle.core_format.specs.PageBytes.{pages_at}
use Rattle.core_format.specs.Reader.{Flaw, Reader, ◌>>=◌, bytes_at, left, room, rule}
use Rattle.core_format.specs.Segments.{own_root_at, segment_at}
use Rattle.core_format.specs.Slabs.{first_rules, large_item_at, listed_at, meets_chunks, past_chunks, shape_at, slab_head_at, slab_item_at, slab_rules}
use Rattle.core_format.proofs.CacheLemmas.{rule-holds}
use Rattle.core_format.proofs.ListLemmas.{bind_ok, ok_is}

-- ---- a core

-- the sections of a core, each as it was read
pub record Parts (core : Core) : Type 0 where
  pub start : Reader
  pub front : Front × Reader
  pub front_read : front_at start ≡ Ok front
  pub middle : Middle × Reader
  pub middle_read : middle_at front.0.header (shapes_of front.0.header front.0.caches) front.1 ≡ Ok middle
  pub records : Records × Reader
  pub records_read : records_at front.0.header front.0.second middle.0.table.shapes middle.0.table.slabs middle.1 ≡ Ok records
  pub pages : (List SlabItem × List LargeItem) × Reader
  pub pages_read : pages_at middle.0.table.shapes middle.0.large middle.0.table.slabs [] [] records.1 ≡ Ok pages
  pub is : core_of_parts front.0 middle.0.cpu_places middle.0.depots records.0 pages.0.0 pages.0.1 ≡ core

pub parts_of : (core : Core) → MeetsTheRules core → Parts core
unfolding core_of
parts_of core met =
    let start : Reader = record { bytes = met.0; at = 0 } in
    let k1 : Front × Reader → Result Core Flaw = λ front. middle_at front.0.header (shapes_of front.0.header front.0.caches) front.1 >>= λ middle.
    records_at front.0.header front.0.second middle.0.table.shapes middle.0.table.slabs middle.1 >>= λ records.
    pages_at middle.0.table.shapes middle.0.large middle.0.table.slabs [] [] records.1 >>= λ pages.
    rule (eqb (left pages.1) 0) pages.1.at TrailingBytes >>= λ _. Ok (core_of_parts front.0 middle.0.cpu_places middle.0.depots records.0 pages.0.0 pages.0.1) in
    let front = bind_ok (front_at start) k1 core met.2 in
    let f : Front = front.0.0 in
    let k2 : Middle × Reader → Result Core Flaw = λ middle. records_at f.header f.second middle.0.table.shapes middle.0.table.slabs middle.1 >>= λ records.
    pages_at middle.0.table.shapes middle.0.large middle.0.table.slabs [] [] records.1 >>= λ pages.
    rule (eqb (left pages.1) 0) pages.1.at TrailingBytes >>= λ _. Ok (core_of_parts f middle.0.cpu_places middle.0.depots records.0 pages.0.0 pages.0.1) in
    let middle = bind_ok (middle_at f.header (shapes_of f.header f.caches) front.0.1) k2 core front.2 in
    let m : Middle = middle.0.0 in
    let k3 : Records × Reader → Result Core Flaw = λ records. pages_at m.table.shapes m.large m.table.slabs [] [] records.1 >>= λ pages.
    rule (eqb (left pages.1) 0) pages.1.at TrailingBytes >>= λ _. Ok (core_of_parts f m.cpu_places m.depots records.0 pages.0.0 pages.0.1) in
    let records = bind_ok (records_at f.header f.second m.table.shapes m.table.slabs middle.0.1) k3 core middle.2 in
    let r : Records = records.0.0 in
    let k4 : (List SlabItem × List LargeItem) × Reader → Result Core Flaw = λ pages. rule (eqb (left pages.1) 0) pages.1.at TrailingBytes >>= λ _. Ok (core_of_parts f m.cpu_places m.depots r pages.0.0 pages.0.1) in
    let pages = bind_ok (pages_at m.table.shapes m.large m.table.slabs [] [] records.0.1) k4 core records.2 in
    let whole : Core = core_of_parts f m.cpu_places m.depots r pages.0.0.0 pages.0.0.1 in
    let ended = rule-holds (eqb (left pages.0.1) 0) pages.0.1.at TrailingBytes (λ _. Ok whole) core pages.2 in
    record {
      start = start;
      front = front.0;
      front_read = front.1;
      middle = middle.0;
      middle_read = middle.1;
      records = records.0;
      records_read = records.1;
      pages = pages.0;
      pages_read = pages.1;
      is = ok_is whole core ended.1;
    }

-- ---- its sections

-- the headers, the root segments and the caches
pub record FrontParts (here : Reader) (front : Front × Reader) : Type 0 where
  pub heads : (Header × SecondHeader) × Reader
  pub heads_read : headers_at here ≡ Ok heads
  pub root : List ℕ × Reader
  pub root_read : segment_at heads.1 ≡ Ok root
  pub own : List OwnRoot × Reader
  pub own_read : items_at own_root_at heads.0.1.threads [] root.1 ≡ Ok own
  pub caches : List CacheItem × Reader
  pub caches_read : items_at (cache_item_at heads.0.0) heads.0.0.caches [] own.1 ≡ Ok caches
  pub is : (record { header = heads.0.0; second = heads.0.1; root = root.0; own = own.0; caches = caches.0 }, caches.1) ≡ front

pub front_parts_of : (here : Reader) (front : Front × Reader) → front_at here ≡ Ok front → FrontParts here front
unfolding front_at
front_parts_of here front e =
    let heads = bind_ok _ _ front e in
    let root = bind_ok _ _ front heads.2 in
    let own = bind_ok _ _ front root.2 in
    let caches = bind_ok _ _ front own.2 in
    record {
      heads = heads.0;
      heads_read = heads.1;
      root = root.0;
      root_read = root.1;
      own = own.0;
      own_read = own.1;
      caches = caches.0;
      caches_read = caches.1;
      is = ok_is _ front caches.2;
    }

-- the slabs, the large buffers and the magazines
pub record MiddleParts (h : Header) (shapes : List CacheShape) (here : Reader) (middle : Middle × Reader) : Type 0 where
  pub slabs : List SlabItem × Reader
  pub slabs_read : items_at (slab_item_at h shapes) h.slabs [] here ≡ Ok slabs
  pub large : List LargeItem × Reader
  pub large_read : items_at (large_item_at h shapes slabs.0) h.large [] slabs.1 ≡ Ok large
  pub places : List CpuPlace × Reader
  pub places_read : items_at (cpu_place_at h.caches shapes slabs.0) (h.cpus * h.caches) [] large.1 ≡ Ok places
  pub depots : List DepotItem × Reader
  pub depots_read : items_at (depot_item_at shapes slabs.0 (flat_map place_rounds places.0)) h.caches [] places.1 ≡ Ok depots
  pub is : (record { table = record { shapes = shapes; slabs = slabs.0 }; large = large.0; cpu_places = places.0; depots = depots.0 }, depots.1) ≡ middle

pub middle_parts_of : (h : Header) (shapes : List CacheShape) (here : Reader) (middle : Middle × Reader) → middle_at h shapes here ≡ Ok middle → MiddleParts h shapes here middle
unfolding middle_at
middle_parts_of h shapes here middle e =
    let slabs = bind_ok _ _ middle e in
    let large = bind_ok _ _ middle slabs.2 in
    let places = bind_ok _ _ middle large.2 in
    let depots = bind_ok _ _ middle places.2 in
    record {
      slabs = slabs.0;
      slabs_read = slabs.1;
      large = large.0;
      large_read = large.1;
      places = places.0;
      places_read = places.1;
      depots = depots.0;
      depots_read = depots.1;
      is = ok_is _ middle depots.2;
    }

-- the audits, which stand before the logs
pub record RecordsParts (h : Header) (shapes : List CacheShape) (slabs : List SlabItem) (here : Reader) (records : Records × Reader) : Type 0 where
  pub audits : List AuditItem × Reader
  pub audits_read : items_at (audit_item_at h shapes slabs) h.audits [] here ≡ Ok audits
  pub audits_are : audits.0 ≡ records.0.audits

pub records_parts_of : (h : Header) (second : SecondHeader) (shapes : List CacheShape) (slabs : List SlabItem) (here : Reader) (records : Records × Reader) → records_at h second shapes slabs here ≡ Ok records
    → RecordsParts h shapes slabs here records
unfolding records_at
records_parts_of h second shapes slabs here records e =
    let last : List AuditItem → List Trans → List Fail → List Saved × Reader → Result (Records × Reader) Flaw = λ audits trans fails saved.
    Ok (record { audits = audits; trans = trans; fails = fails; saved = saved.0 }, saved.1) in
    let k1 : List AuditItem × Reader → Result (Records × Reader) Flaw = λ audits. items_at (trans_item_at h) h.trans [] audits.1 >>= λ trans.
    items_at (fail_item_at h) h.fails [] trans.1 >>= λ fails. items_at (saved_item_at h) second.saved [] fails.1 >>= last audits.0 trans.0 fails.0 in
    let audits = bind_ok (items_at (audit_item_at h shapes slabs) h.audits [] here) k1 records e in
    let owned : List AuditItem = audits.0.0 in
    let k2 : List Trans × Reader → Result (Records × Reader) Flaw = λ trans. items_at (fail_item_at h) h.fails [] trans.1 >>= λ fails. items_at (saved_item_at h) second.saved [] fails.1 >>= last owned trans.0 fails.0 in
    let trans = bind_ok (items_at (trans_item_at h) h.trans [] audits.0.1) k2 records audits.2 in
    let ts : List Trans = trans.0.0 in
    let k3 : List Fail × Reader → Result (Records × Reader) Flaw = λ fails. items_at (saved_item_at h) second.saved [] fails.1 >>= last owned ts fails.0 in
    let fails = bind_ok (items_at (fail_item_at h) h.fails [] trans.0.1) k3 records trans.2 in
    let fs : List Fail = fails.0.0 in
    let saved = bind_ok (items_at (saved_item_at h) second.saved [] fails.0.1) (last owned ts fs) records fails.2 in
    let made : Records × Reader = (record { audits = owned; trans = ts; fails = fs; saved = saved.0.0 }, saved.0.1) in
    record { audits = audits.0; audits_read = audits.1; audits_are = ap (λ (r : Records × Reader). r.0.audits) (ok_is made records saved.2) }

-- ---- their items

-- the fields of a slab, which keep the rules, and its list
pub record SlabParts (h : Header) (shapes : List CacheShape) (before : List SlabItem) (here : Reader) (slab : SlabItem × Reader) : Type 0 where
  pub fields : SlabItem
  pub free : List ℕ
  pub rules : slab_rules h shapes (last_of_list before) fields here.at ≡ Ok tt
  pub numbers : first_rules h (past_chunks shapes fields) (list_any (meets_chunks shapes fields.first (past_chunks shapes fields)) before) (here.at + 16) ≡ Ok tt
  pub is : record fields { free = free } ≡ slab.0

pub slab_parts_of : (h : Header) (shapes : List CacheShape) (before : List SlabItem) (here : Reader) (slab : SlabItem × Reader) → slab_item_at h shapes before here ≡ Ok slab → SlabParts h shapes before here slab
unfolding slab_item_at
slab_parts_of h shapes before here slab e =
    let k1 : (SlabItem × ℕ) × Reader → Result (SlabItem × Reader) Flaw = λ head.
    slab_rules h shapes (last_of_list before) head.0.0 here.at >>= λ _.
    first_rules h (past_chunks shapes head.0.0) (list_any (meets_chunks shapes head.0.0.first (past_chunks shapes head.0.0)) before) (here.at + 16) >>= λ _.
    rule (leb head.0.1 (shape_at shapes head.0.0.cache).rounds) (here.at + 20) BadLength >>= λ _.
    items_at (listed_at head.0.0.first (past_chunks shapes head.0.0)) head.0.1 [] head.1 >>= λ free. Ok (record head.0.0 { free = free.0 }, free.1) in
    let head = bind_ok (slab_head_at here) k1 slab e in
    let fields : SlabItem = head.0.0.0 in
    let many : ℕ = head.0.0.1 in
    let after : Reader = head.0.1 in
    let past = past_chunks shapes fields in
    let meets = list_any (meets_chunks shapes fields.first past) before in
    let read : Result (List ℕ × Reader) Flaw = items_at (listed_at fields.first past) many [] after in
    let k5 : List ℕ × Reader → Result (SlabItem × Reader) Flaw = λ free. Ok (record fields { free = free.0 }, free.1) in
    let k4 : Unit {0} → Result (SlabItem × Reader) Flaw = λ _. read >>= k5 in
    let k3 : Unit {0} → Result (SlabItem × Reader) Flaw = λ _. rule (leb many (shape_at shapes fields.cache).rounds) (here.at + 20) BadLength >>= k4 in
    let k2 : Unit {0} → Result (SlabItem × Reader) Flaw = λ _. first_rules h past meets (here.at + 16) >>= k3 in
    let rules = bind_ok (slab_rules h shapes (last_of_list before) fields here.at) k2 slab head.2 in
    let first = bind_ok (first_rules h past meets (here.at + 16)) k3 slab rules.2 in
    let count = rule-holds (leb many (shape_at shapes fields.cache).rounds) (here.at + 20) BadLength k4 slab first.2 in
    let listed = bind_ok read k5 slab count.1 in
    let made : SlabItem × Reader = (record fields { free = listed.0.0 }, listed.0.1) in
    record {
      fields = fields;
      free = listed.0.0;
      rules = rules.1;
      numbers = first.1;
      is = ap (λ (s : SlabItem × Reader). s.0) (ok_is made slab listed.2);
    }

-- the name and the numbers of a cache, which keep the rules
pub record CacheParts (before : List CacheItem) (here : Reader) (item : CacheItem × Reader) : Type 0 where
  pub name : List ℕ
  pub numbers : CacheNumbers
  pub rules : number_rules (length before) numbers here.at ≡ Ok tt
  pub is : cache_item_of name numbers ≡ item.0

pub cache_parts_of : (h : Header) (before : List CacheItem) (here : Reader) (item : CacheItem × Reader) → cache_item_at h before here ≡ Ok item → CacheParts before here item
unfolding cache_item_at
cache_parts_of h before here item e =
    let make : List ℕ → CacheNumbers → CacheItem = λ name numbers. cache_item_of name numbers in
    let k2 : List ℕ × Reader → Result (CacheItem × Reader) Flaw = λ field.
    cache_numbers_at h field.1 >>= λ numbers.
    rule (is_padded field.0) here.at BadCache >>= λ _.
    rule (is_name_behind before (padded_name field.0)) here.at BadCache >>= λ _.
    number_rules (length before) numbers.0 here.at >>= λ _. Ok (make (padded_name field.0) numbers.0, numbers.1) in
    let fits = bind_ok (room (cache_bytes h) here) (λ _. bytes_at 32 here >>= k2) item e in
    let field = bind_ok (bytes_at 32 here) k2 item fits.2 in
    let name : List ℕ = field.0.0 in
    let after : Reader = field.0.1 in
    let k3 : CacheNumbers × Reader → Result (CacheItem × Reader) Flaw = λ numbers.
    rule (is_padded name) here.at BadCache >>= λ _.
    rule (is_name_behind before (padded_name name)) here.at BadCache >>= λ _.
    number_rules (length before) numbers.0 here.at >>= λ _. Ok (make (padded_name name) numbers.0, numbers.1) in
    let numbers = bind_ok (cache_numbers_at h after) k3 item field.2 in
    let told : CacheNumbers = numbers.0.0 in
    let behind : Reader = numbers.0.1 in
    let k6 : Unit {0} → Result (CacheItem × Reader) Flaw = λ _. Ok (make (padded_name name) told, behind) in
    let k5 : Unit {0} → Result (CacheItem × Reader) Flaw = λ _. number_rules (length before) told here.at >>= k6 in
    let k4 : Unit {0} → Result (CacheItem × Reader) Flaw = λ _. rule (is_name_behind before (padded_name name)) here.at BadCache >>= k5 in
    let padded = rule-holds (is_padded name) here.at BadCache k4 item numbers.2 in
    let named = rule-holds (is_name_behind before (padded_name name)) here.at BadCache k5 item padded.1 in
    let rules = bind_ok (number_rules (length before) told here.at) k6 item named.1 in
    let made : CacheItem × Reader = (make (padded_name name) told, behind) in
    record {
      name = padded_name name;
      numbers = told;
      rules = rules.1;
      is = ap (λ (i : CacheItem × Reader). i.0) (ok_is made item rules.2);
    }

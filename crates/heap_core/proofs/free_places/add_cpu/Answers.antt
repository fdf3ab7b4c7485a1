use Rattle.std.proofs.Common.{◌≡◌, ◌<◌, length, map, ap, ◌∙◌, subst, arith}
use Rattle.std.specs.List.{range_with_len}
use Rattle.std.proofs.lemmas.List.{length-map}
use Rattle.std.proofs.lemmas.List.Elements.{All-get_or}
use Rattle.shelf.specs.Shelf.{Shelf}
use Rattle.shelf.specs.Stock.{Stock, empty_stock}
use Rattle.heap_core.specs.Shelves.{stocks_of}
use Rattle.heap_core.proofs.ReadLemmas.{places_more, places_of_cpu}
use Rattle.heap_core.proofs.ShelvesLemmas.{stock_there}
use Rattle.heap_pictures.specs.Items.{place_item}
use Rattle.heap_core.proofs.free_places.add_cpu.Goals as goal

pub loop-cache-init : goal.loop-cache-init
loop-cache-init c =
    let stocks = stocks_of c.args.shelves.now in
    c.requires.before ∙ ap (λ n. map (place_item stocks) (range_with_len 0 n)) (omega arith)

pub cpu_place-requires : goal.cpu_place-requires
cpu_place-requires c =
    let shelves = c.args.shelves.now in
    let within : c.loop-cache.cache < length shelves = omega arith in
    let there = stock_there shelves c.loop-cache.cache c.index-shelves-cache.result within c.index-shelves-cache.is in
    let counted = length-map shelves (λ (s : Shelf). s.stock) in
    let known : c.loop-cache.cache < length (stocks_of shelves) = omega (arith, within, counted) in
    subst (λ (s : Stock). c.args.cpu < length s.cpus) there
    (All-get_or (λ (s : Stock). c.args.cpu < length s.cpus) (stocks_of shelves) c.loop-cache.cache (empty_stock 0 0) known
    c.requires.cpus)

pub loop-cache-preserved : goal.loop-cache-preserved
loop-cache-preserved c =
    let shelves = c.args.shelves.now in
    let within : c.loop-cache.cache < length shelves = omega arith in
    let there = stock_there shelves c.loop-cache.cache c.index-shelves-cache.result within c.index-shelves-cache.is in
    let counted = length-map shelves (λ (s : Shelf). s.stock) in
    let turn = c.loop-cache in
    let stock = c.index-shelves-cache.result.stock in
    let known : turn.cache < length (stocks_of shelves) = omega (arith, within, counted) in
    places_more (stocks_of shelves) c.args.cpu turn.cache stock turn.places.items c.push.new.self.items
    c.in_ok-cpu_place.field-0 known there turn.invariant c.in_ok-cpu_place.ensures c.in_ok-push.ensures.items

pub returns : goal.returns
returns c =
    let shelves = c.args.shelves.now in
    let counted = length-map shelves (λ (s : Shelf). s.stock) in
    let turn = c.loop-cache in
    let all : turn.cache ≡ length (stocks_of shelves) = omega (arith, counted) in
    places_of_cpu (stocks_of shelves) c.args.cpu turn.cache turn.places.items all turn.invariant

use Rattle.std.proofs.Common.{ℕ, ◌*◌, ◌<◌, refl, sym, ap, ◌∙◌, subst}
use Rattle.umem_base.specs.declared.pages.TheConstants.{PAGE_BYTES}
use Rattle.case_table.specs.declared.slab_quantities.Geometry.{Geometry}
use Rattle.plain_heap.specs.Bytes.{bytes_from}
use Rattle.plain_heap.proofs.PlacesLemmas.{is_cache_of}
use Rattle.plain_heap.proofs.SeparateLemmas.{history_in_place}
use Rattle.heap_ledger.specs.Ledger.{run_setting, run_state}
use Rattle.heap_slabs.specs.declared.standing.Standing.{Standing}
use Rattle.heap_accounts.specs.Places.{cache_count}
use Rattle.heap_pictures.proofs.slabs.slab_item.Goals as goal

pub quantities-pages-requires : goal.quantities-pages-requires
quantities-pages-requires c =
    let ledger = c.args.accounts.now in
    let setting = run_setting ledger in
    let legal = c.history.ensures.sound in
    subst (λ (s : Standing). s.cache < cache_count setting) (sym c.requires.is)
    (is_cache_of setting (run_state ledger).live (run_state ledger).slabs legal.plan.header (history_in_place setting ledger.entries legal.plan.header legal.legal) c.requires.slab c.requires.stands)

pub returns : goal.returns
returns c =
    let ledger = c.args.accounts.now in
    let slab = c.args.slab.now in
    let pages = c.from.ensures ∙ ap (λ (g : Geometry). g.pages) c.quantities-pages.ensures in
    let bytes =
    c.new-2.ensures ∙ c.in_ok-bytes.ensures.items ∙ c.span_bytes.ensures
    ∙ ap (λ (n : ℕ). bytes_from (run_state ledger).bytes slab.base (PAGE_BYTES * n)) pages
    in
    rw (c.new.ensures, c.in_ok-free.ensures.items, c.as_slice.ensures, bytes) refl

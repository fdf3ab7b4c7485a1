use Rattle.std.proofs.Common.{◌≡◌, ◌∙◌, ◌-◌, ◌/◌, ◌%◌, List, get_or, refl, ap, sym, arith, inl, inr}
use Rattle.core_format.specs.declared.items.CacheItem.{CacheItem}
use Rattle.heap_view.specs.Buffers.{buffer_bytes}
use Rattle.heap_view.proofs.BuffersLemmas.{bytes_are}
use Rattle.heap_view.proofs.HitsLemmas.{hit_before, hit_between, hit_inside}
use Rattle.heap_view.proofs.look_up.hit_in_slab.Goals.{else-index-from-via-else-index-from, else-index-from-via-then-index-from+else-offset-size}
use Rattle.heap_view.proofs.look_up.hit_in_slab.Goals as goal

pub returns-then-place-colour : goal.returns-then-place-colour
returns-then-place-colour c =
    hit_before c.args.core.now c.args.slab.now c.args.geometry.now c.args.address c.requires.slab c.requires.shape c.requires.from (omega (arith, c.if-place-colour.true, c.from-colour.ensures))

pub returns-then-offset-size : goal.returns-then-offset-size
returns-then-offset-size c =
    let core = c.args.core.now in
    let slab = c.args.slab.now in
    let item = c.index-as_slice-slab.result in
    let size : c.from-size.result ≡ buffer_bytes core slab.cache = c.from-size.ensures ∙ ap (λ (xs : List CacheItem). (get_or xs slab.cache item).def.size) c.as_slice.ensures ∙ sym (bytes_are core slab.cache item c.requires.slab.of_cache) in
    hit_inside core slab c.args.geometry.now c.args.address ((c.args.address - slab.base - c.from-colour.result) / c.from-chunk_bytes.result) ((c.args.address - slab.base - c.from-colour.result) % c.from-chunk_bytes.result)
    c.requires.slab c.requires.shape c.requires.from (omega (arith, c.if-place-colour.false, c.from-colour.ensures))
    (rw (c.from-colour.ensures, c.from-chunk_bytes.ensures) refl) (rw (c.from-colour.ensures, c.from-chunk_bytes.ensures) refl)
    (rw c.from.ensures at c.if-index-from.true) (rw size at c.if-offset-size.true)

pub returns-else-index-from : goal.returns-else-index-from
returns-else-index-from c =
    let core = c.args.core.now in
    let slab = c.args.slab.now in
    let item = c.index-as_slice-slab.result in
    let size : c.from-size.result ≡ buffer_bytes core slab.cache = c.from-size.ensures ∙ ap (λ (xs : List CacheItem). (get_or xs slab.cache item).def.size) c.as_slice.ensures ∙ sym (bytes_are core slab.cache item c.requires.slab.of_cache) in
    hit_between core slab c.args.geometry.now c.args.address ((c.args.address - slab.base - c.from-colour.result) / c.from-chunk_bytes.result) ((c.args.address - slab.base - c.from-colour.result) % c.from-chunk_bytes.result)
    c.requires.slab c.requires.shape c.requires.from (omega (arith, c.if-place-colour.false, c.from-colour.ensures))
    (rw (c.from-colour.ensures, c.from-chunk_bytes.ensures) refl) (rw (c.from-colour.ensures, c.from-chunk_bytes.ensures) refl)
    (elim c.else-index-from.branch [
      | else-index-from-via-then-index-from+else-offset-size w ↦ inr (rw size at w.if-offset-size.false)
      | else-index-from-via-else-index-from w ↦ inl (rw c.from.ensures at w.if-index-from.false)
    ])

use Rattle.std.proofs.Common.{◌≡◌, ℕ, ◌+◌, ◌<◌, ◌≤◌, length, ◌∙◌, sym, arith}
use Rattle.std.specs.Prelude.{Contains}
use Rattle.umem_base.specs.Ordered.{SplitsBy, put_by}
use Rattle.umem_base.proofs.OrderedLemmas.{SplitsBy-weaker, insert-put_by, none_where_SplitsBy, length-put_by}
use Rattle.slab_layer.specs.Slab.{HasChunk, IsSlab, Slab}
use Rattle.slab_layer.proofs.SlabLemmas.{IsSlab-put_by, room_for_one, with_chunk-own}
use Rattle.slab_layer.proofs.slab.Slab.put.Goals as goal

-- the slab as it was
abbrev was : goal.After-insert → Slab
was c = record { base = c.self.inside.base; first = c.self.inside.first; count = c.self.inside.count; list = c.self.inside.list.items }

place : (c : goal.After-insert) → SplitsBy (λ (x : ℕ). x < c.args.round) (λ x. c.args.round < x) (was c).list c.in-Some.place
place c = rw (c.chunk-chunk.ensures, c.as_slice.ensures) at c.in-Some.ensures

own : (c : goal.After-insert) → HasChunk c.args.round (was c)
own c = grind arith

absent : (c : goal.After-insert) → Contains (was c).list c.args.round → ⊥
absent c = none_where_SplitsBy (λ (x : ℕ). x < c.args.round) (λ x. c.args.round < x) (was c).list c.in-Some.place c.args.round (place c) (λ h. omega arith) (λ h. omega arith)

put : (c : goal.After-insert) → c.insert.new.self.items ≡ put_by (λ number. number) (was c).list c.args.round
put c =
    let behind = SplitsBy-weaker (λ (x : ℕ). x < c.args.round) (λ (x : ℕ). x ≤ c.args.round) (λ (x : ℕ). c.args.round < x) (λ (x : ℕ). c.args.round < x) (was c).list c.in-Some.place (λ x h. omega arith) (λ x h. h) (place c) in
    c.insert.ensures.items ∙ insert-put_by (λ number. number) (was c).list c.in-Some.place c.args.round behind

sound : (c : goal.After-insert) → IsSlab (record (was c) { list = c.insert.new.self.items })
sound c = rw (put c) (IsSlab-put_by (was c) c.args.round c.self.invariant.0 (own c) (absent c))

pub insert-requires-clause-room : goal.insert-requires-clause-room
insert-requires-clause-room c =
    let s : Slab = record { base = c.self.inside.base; first = c.self.inside.first; count = c.self.inside.count; list = c.self.inside.list.items } in
    let own : HasChunk c.args.round s = grind arith in
    let place = rw (c.chunk-chunk.ensures, c.as_slice.ensures) at c.in-Some.ensures in
    let absent : Contains s.list c.args.round → ⊥ = none_where_SplitsBy (λ (x : ℕ). x < c.args.round) (λ x. c.args.round < x) s.list c.in-Some.place c.args.round place (λ h. omega arith) (λ h. omega arith) in
    omega (arith, c.self.invariant.1, room_for_one s c.args.round c.self.invariant.0 own absent)

pub invariant_of-self : goal.invariant_of-self
invariant_of-self c =
    let longer : length c.insert.new.self.items ≡ length (was c).list + 1 = rw (put c) (length-put_by (λ number. number) (was c).list c.args.round) in
    (sound c, omega (arith, c.self.invariant.1, c.insert.ensures.spare))

pub returns-clause-own : goal.returns-clause-own
returns-clause-own c = rw (← c.self.view_is) (own c)

pub returns-clause-missing : goal.returns-clause-missing
returns-clause-missing c = rw (← c.self.view_is) (absent c)

pub returns-clause-ok : goal.returns-clause-ok
returns-clause-ok c = rw (← c.self.view_is, put c) (sym (with_chunk-own (was c) c.args.round (own c)))

pub returns-clause-sound : goal.returns-clause-sound
returns-clause-sound c = sound c

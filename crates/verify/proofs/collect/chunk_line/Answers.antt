use Rattle.std.proofs.Common.{◌≡◌, ◌∙◌, ◌+◌, ℕ, Option, Some, None, ap, subst, sym, arith}
use Rattle.std.proofs.lemmas.List.Elements.{All-contains}
use Rattle.buftag.specs.declared.finding.Finding.{Finding}
use Rattle.core_format.specs.declared.whole.Core.{Core}
use Rattle.core_format.specs.Chunks.{core_shapes, finding_in_slab}
use Rattle.heap_view.specs.Layout.{IsSoundSlab}
use Rattle.heap_view.proofs.NumbersLemmas.{is_chunk}
use Rattle.verify.specs.declared.line.Line.{Line}
use Rattle.verify.specs.Lines.{NoneBreaks}
use Rattle.verify.proofs.LineLemmas.{chunk_address-is, chunk_line-is, holds_from, none_told}
use Rattle.verify.proofs.collect.chunk_line.Goals as goal

pub overflow_add-chunk : goal.overflow_add-chunk
overflow_add-chunk c =
    let sound = All-contains (IsSoundSlab c.args.view.now) c.args.view.now.slabs c.args.slab.now c.core-core.ensures.laid_out.slabs c.requires.slab in
    omega (arith, sound.numbered, c.requires.shape.rounds, c.requires.within, ap (λ (core : Core). core.next_chunk) c.core-core.ensures.value)

pub state_of-state-requires : goal.state_of-state-requires
state_of-state-requires c =
    let slab = c.args.slab.now in
    is_chunk c.args.view.now slab (slab.first + c.args.index) c.requires.slab (omega arith) (omega (arith, c.requires.within, c.requires.shape.rounds))

pub returns-then-not-can_break : goal.returns-then-not-can_break
returns-then-not-can_break c =
    let core = c.args.view.now in
    let slab = c.args.slab.now in
    let chunk = slab.first + c.args.index in
    let breaks : NoneBreaks c.core-core.result.now slab.cache = c.can_break.ensures (search (c.if-not-can_break.true)) in
    let none : NoneBreaks core slab.cache = subst (λ (k : Core). NoneBreaks k slab.cache) c.core-core.ensures.value breaks in
    let holds = holds_from (core_shapes core) chunk slab (omega arith) (omega (arith, c.requires.within, c.requires.shape.rounds)) in
    sym (none_told core slab chunk c.core-core.ensures.laid_out c.requires.slab holds none)

pub returns-in_err-finding : goal.returns-in_err-finding
returns-in_err-finding c =
    let core = c.args.view.now in
    let slab = c.args.slab.now in
    let chunk = slab.first + c.args.index in
    let state = c.state_of-state.result in
    let none : Option Finding = None in
    let found : none ≡ finding_in_slab core chunk state slab = c.in_err-finding.ensures ∙ ap (λ (k : Core). finding_in_slab k chunk state slab) c.core-core.ensures.value in
    let holds = holds_from (core_shapes core) chunk slab (omega arith) (omega (arith, c.requires.within, c.requires.shape.rounds)) in
    c.from_residual.ensures ∙ sym (chunk_line-is core slab chunk state none c.core-core.ensures.laid_out c.requires.slab holds c.state_of-state.ensures found)

pub returns : goal.returns
returns c =
    let core = c.args.view.now in
    let slab = c.args.slab.now in
    let chunk = slab.first + c.args.index in
    let state = c.state_of-state.result in
    let told : Option Finding = Some c.in_ok-finding.finding in
    let found : told ≡ finding_in_slab core chunk state slab = c.in_ok-finding.ensures ∙ ap (λ (k : Core). finding_in_slab k chunk state slab) c.core-core.ensures.value in
    let holds = holds_from (core_shapes core) chunk slab (omega arith) (omega (arith, c.requires.within, c.requires.shape.rounds)) in
    let line : ℕ → Line = λ address. record { address = address; state = state; cache = slab.cache; finding = c.in_ok-finding.finding } in
    ap (λ (address : ℕ). Some (line address)) (chunk_address-is core slab c.args.index c.args.geometry.now.chunk c.from.result c.from.ensures c.requires.shape.chunk)
    ∙ sym (chunk_line-is core slab chunk state told c.core-core.ensures.laid_out c.requires.slab holds c.state_of-state.ensures found)

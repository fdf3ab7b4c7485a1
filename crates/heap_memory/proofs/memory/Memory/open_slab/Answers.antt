use Rattle.std.proofs.Common.{◌≡◌, ℕ, ◌+◌, ◌*◌, ◌≤◌, None, ap, arith, refl, subst, sym, ◌∙◌}
use Rattle.umem_base.specs.declared.pages.TheConstants.{PAGE_BYTES}
use Rattle.umem_base.specs.declared.span.Span.{Span}
use Rattle.umem_base.specs.Pages.{HasNoRun, IsLowestRun}
use Rattle.case_table.specs.declared.slab_quantities.Geometry.{Geometry}
use Rattle.addr_space.specs.Space.{HasBytes, IsInRun, runs_of}
use Rattle.span_arena.specs.Arena.{IsFreeIn}
use Rattle.plain_heap.specs.Setting.{geometry_in}
use Rattle.plain_heap.specs.State.{IsFreePage, made_chunk}
use Rattle.heap_memory.specs.Memory.{Memory}
use Rattle.heap_memory.specs.Pages.{OpensRun, OpensLowest}
use Rattle.heap_memory.specs.States.{Keeps}
use Rattle.heap_memory.proofs.MadeLemmas.{chunks_in_pages, grown, inside_opened, next_geometry, next_start, on_err, zeros_opened}
use Rattle.heap_memory.proofs.PagesLemmas.{kept, lowest_in_state, no_run_in_state}
use Rattle.heap_memory.proofs.WriteLemmas.{still_memory}
use Rattle.heap_memory.proofs.memory.Memory.open_slab.Goals as goal

pub returns-in_err-base-clause-err : goal.returns-in_err-base-clause-err
returns-in_err-base-clause-err c =
    on_err c.from_residual.result (Keeps c.args.self.now c.open_run.new.self)
    (λ setting state header is. kept setting state c.args.self.now c.open_run.new.self is c.in_err-base.ensures.err)

pub returns-in_default-clause-lowest : goal.returns-in_default-clause-lowest
returns-in_default-clause-lowest c = λ setting state header is next.
    let none : OpensLowest c.args.self.now c.open_run.new.self c.from.result None = rw c.in_default.is at c.in_ok-base.ensures.opened in
    let pages : c.from.result ≡ (geometry_in setting c.args.slab.now.kind.cache).pages =
    c.from.ensures ∙ ap (λ (g : Geometry). g.pages) (c.geometry-layout.ensures.value ∙ next_geometry setting state c.args.slab.now next) in
    subst (HasNoRun (IsFreePage setting state)) pages (no_run_in_state setting state c.args.self.now is c.from.result none.1)

pub write_chunks-requires-clause-inside : goal.write_chunks-requires-clause-inside
write_chunks-requires-clause-inside c =
    let run : Span = record { base = c.in-Some.base; pages = c.from.result } in
    let opens : OpensRun c.args.self.now c.open_run.new.self run = rw c.in-Some.is at c.in_ok-base.ensures.opened in
    let layout = c.geometry-layout.result in
    let start = c.in-Some.base + c.from-2.result in
    let high : start + layout.rounds * layout.chunk ≤ c.in-Some.base + PAGE_BYTES * c.from.result =
    subst (λ (pages : ℕ). start + layout.rounds * layout.chunk ≤ c.in-Some.base + PAGE_BYTES * pages) (sym c.from.ensures)
    (chunks_in_pages c.in-Some.base c.colour.result start (layout.rounds * layout.chunk) layout.pages layout.leftover (ap (λ (n : ℕ). c.in-Some.base + n) c.from-2.ensures)
    c.colour.ensures.within c.geometry-layout.ensures.sound.filled) in
    subst (λ (m : Memory). IsInRun (runs_of m.space) start (layout.rounds * layout.chunk)) (sym c.self.view_is)
    (inside_opened c.args.self.now c.open_run.new.self run start (layout.rounds * layout.chunk) opens (omega arith) high)

pub write_chunks-requires-clause-zeros : goal.write_chunks-requires-clause-zeros
write_chunks-requires-clause-zeros c =
    let run : Span = record { base = c.in-Some.base; pages = c.from.result } in
    let opens : OpensRun c.args.self.now c.open_run.new.self run = rw c.in-Some.is at c.in_ok-base.ensures.opened in
    let layout = c.geometry-layout.result in
    let start = c.in-Some.base + c.from-2.result in
    let high : start + layout.rounds * layout.chunk ≤ c.in-Some.base + PAGE_BYTES * c.from.result =
    subst (λ (pages : ℕ). start + layout.rounds * layout.chunk ≤ c.in-Some.base + PAGE_BYTES * pages) (sym c.from.ensures)
    (chunks_in_pages c.in-Some.base c.colour.result start (layout.rounds * layout.chunk) layout.pages layout.leftover (ap (λ (n : ℕ). c.in-Some.base + n) c.from-2.ensures)
    c.colour.ensures.within c.geometry-layout.ensures.sound.filled) in
    subst (λ (m : Memory). HasBytes m.space start (layout.rounds * layout.chunk) (λ _. 0)) (sym c.self.view_is)
    (zeros_opened c.args.self.now c.open_run.new.self run start (layout.rounds * layout.chunk) opens (omega arith) high)

pub invariant_of-self : goal.invariant_of-self
invariant_of-self c = still_memory c.self.inside.space c.write_chunks.new.space c.self.inside.arena c.self.invariant c.write_chunks.ensures.sound c.write_chunks.ensures.runs

pub returns-clause-lowest : goal.returns-clause-lowest
returns-clause-lowest c = λ setting state header is next.
    let run : Span = record { base = c.in-Some.base; pages = c.from.result } in
    let opens : OpensRun c.args.self.now c.open_run.new.self run = rw c.in-Some.is at c.in_ok-base.ensures.opened in
    let pages : c.from.result ≡ (geometry_in setting c.args.slab.now.kind.cache).pages =
    c.from.ensures ∙ ap (λ (g : Geometry). g.pages) (c.geometry-layout.ensures.value ∙ next_geometry setting state c.args.slab.now next) in
    subst (λ (n : ℕ). IsLowestRun (IsFreePage setting state) n c.in-Some.base) pages (lowest_in_state setting state c.args.self.now is c.from.result c.in-Some.base opens.lowest)

pub returns-clause-opened : goal.returns-clause-opened
returns-clause-opened c = λ setting state header is next.
    let slab = c.args.slab.now in
    let layout = c.geometry-layout.result in
    let between : Memory = record { space = c.self.inside.space; arena = c.self.inside.arena } in
    let new : Memory = record { space = c.write_chunks.new.space; arena = c.self.inside.arena } in
    let run : Span = record { base = c.in-Some.base; pages = c.from.result } in
    let opens : OpensRun c.args.self.now c.open_run.new.self run = rw c.in-Some.is at c.in_ok-base.ensures.opened in
    let opened : OpensRun c.args.self.now between run = subst (λ (m : Memory). OpensRun c.args.self.now m run) (sym c.self.view_is) opens in
    let its : layout ≡ geometry_in setting slab.kind.cache = c.geometry-layout.ensures.value ∙ next_geometry setting state slab next in
    let is_run : run ≡ record { base = c.in-Some.base; pages = (geometry_in setting slab.kind.cache).pages } =
    ap (λ (pages : ℕ). record { base = c.in-Some.base; pages = pages }) (c.from.ensures ∙ ap (λ (g : Geometry). g.pages) its) in
    grown setting state c.args.self.now between new slab.kind.cache c.in-Some.base (c.in-Some.base + c.from-2.result) (layout.rounds * layout.chunk) layout.chunk
    (λ index. made_chunk setting slab.kind.cache (slab.first + index)) run header is opened is_run (c.write_chunks.ensures.written setting next.kind) refl
    (next_start setting state slab layout c.in-Some.base c.from-2.result next its (c.from-2.ensures ∙ c.colour.ensures.value))
    (ap (λ (g : Geometry). g.chunk) its) (ap (λ (g : Geometry). g.rounds * layout.chunk) its)
    (λ index. ap (λ (first : ℕ). made_chunk setting slab.kind.cache (first + index)) next.first)

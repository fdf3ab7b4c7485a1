-- What the formulas of a slab's quantities give.
use Rattle.std.proofs.Common.{◌≡◌, ℕ, ◌+◌, ◌-◌, ◌*◌, ◌/◌, ◌%◌, ◌<◌, ◌≤◌, Bool, true, false, refl, sym, ap, subst, ◌∙◌, arith, inl, inr, ◌⊎◌}
use Rattle.std.proofs.lemmas.Bool.{cases_lt}
use Rattle.std.proofs.lemmas.Bool.Decides.{nat_tests}
use Rattle.std.proofs.lemmas.Nat.{le-div, mul-mod_second}
use Rattle.std.proofs.Math.Nat.{div-add-mod', mod-lt, mul-div-le, mul-le-mul_left, mul-le-mul_right, mul-mod_right, mul_comm, add-mod, zero-mod}
use Rattle.umem_base.specs.declared.pages.TheConstants.{PAGE_BYTES}
use Rattle.case_table.specs.declared.slab_quantities.Geometry.{Geometry}
use Rattle.case_table.specs.Geometry.{IsAlign, IsCacheShape, IsSlabGeometry, tag_of, round_up, content_of, chunk_of, pages_of, rounds_per_slab, leftover_of, magazine_of, geometry_of, colour_of, KeepsChunksApart}

-- the four alignments
pub align_cases : (align : ℕ) → IsAlign align → (align ≡ 8) ⊎ ((align ≡ 16) ⊎ ((align ≡ 32) ⊎ (align ≡ 64)))
align_cases align h = grind (arith, nat_tests)

-- what rounding up to 8, 16, 32 or 64 gives
pub record IsRounded (n step up : ℕ) : Type 0 where
  pub not_below : n ≤ up
  pub near : up < n + step
  pub whole : up % step ≡ 0
  pub words : up % 8 ≡ 0
  pub small : n ≤ 4120 → up ≤ 4160

abbrev RoundsTo : ℕ → ℕ → Type 0
RoundsTo n step = IsRounded n step (round_up n step)

rounded8 : (n : ℕ) → RoundsTo n 8
rounded8 n = record { not_below = omega arith; near = omega arith; whole = omega arith; words = omega arith; small = λ h. omega arith }

rounded16 : (n : ℕ) → RoundsTo n 16
rounded16 n = record { not_below = omega arith; near = omega arith; whole = omega arith; words = omega arith; small = λ h. omega arith }

rounded32 : (n : ℕ) → RoundsTo n 32
rounded32 n = record { not_below = omega arith; near = omega arith; whole = omega arith; words = omega arith; small = λ h. omega arith }

rounded64 : (n : ℕ) → RoundsTo n 64
rounded64 n = record { not_below = omega arith; near = omega arith; whole = omega arith; words = omega arith; small = λ h. omega arith }

pub rounded : (n align : ℕ) → IsAlign align → IsRounded n align (round_up n align)
rounded n align h = elim (align_cases align h) [
  | inl e ↦ subst (RoundsTo n) (sym e) (rounded8 n)
  | inr rest ↦ elim rest [
    | inl e ↦ subst (RoundsTo n) (sym e) (rounded16 n)
    | inr last ↦ elim last [
      | inl e ↦ subst (RoundsTo n) (sym e) (rounded32 n)
      | inr e ↦ subst (RoundsTo n) (sym e) (rounded64 n)
    ]
  ]
]

align_in_words : (align : ℕ) → IsAlign align → align % 8 ≡ 0
align_in_words align h = let cases = align_cases align h in omega arith

pub align_bounds : (align : ℕ) → IsAlign align → (8 ≤ align) × (align ≤ 64)
align_bounds align h = let cases = align_cases align h in (omega arith, omega arith)

-- what a slab of chunks of so many bytes has
pub record IsSlab (chunk : ℕ) : Type 0 where
  pub pages_some : 1 ≤ pages_of chunk
  pub pages_small : pages_of chunk ≤ 9
  pub rounds_many : 8 ≤ rounds_per_slab chunk
  pub rounds_small : rounds_per_slab chunk ≤ 512
  pub filled : rounds_per_slab chunk * chunk + leftover_of chunk ≡ pages_of chunk * PAGE_BYTES
  pub leftover_small : leftover_of chunk < chunk

few_rounds : (chunk rounds : ℕ) → 8 ≤ chunk → rounds * chunk ≤ pages_of chunk * 4096 → rounds ≤ 512
few_rounds chunk rounds low fits = elim (cases_lt 512 rounds) [
  | inl many ↦
      let top : 513 * chunk ≤ rounds * chunk = mul-le-mul_right chunk (omega arith) in
      absurd (omega arith)
  | inr few ↦ few
]

pub slab_of : (chunk : ℕ) → 8 ≤ chunk → chunk ≤ 4160 → IsSlab chunk
slab_of chunk low high =
    let positive : 0 < chunk = omega arith in
    let whole = div-add-mod' (pages_of chunk * PAGE_BYTES) chunk in
    let rest = mod-lt (pages_of chunk * PAGE_BYTES) positive in
    let fits : 8 * chunk ≤ pages_of chunk * PAGE_BYTES = omega arith in
    record {
      pages_some = omega arith;
      pages_small = omega arith;
      rounds_many = le-div 8 (pages_of chunk * PAGE_BYTES) chunk (omega arith) fits;
      rounds_small = few_rounds chunk (rounds_per_slab chunk) low (omega arith);
      filled = omega arith;
      leftover_small = omega arith;
    }

pub magazine_bounds : (chunk : ℕ) → (3 ≤ magazine_of chunk) × (magazine_of chunk ≤ 15)
magazine_bounds chunk = (grind (arith, nat_tests), grind (arith, nat_tests))

tag_bounds : (guards : Bool) → tag_of guards ≤ 24
tag_bounds true = omega arith
tag_bounds false = omega arith

pub geometry_is_sound : (size align : ℕ) (guards : Bool) → IsCacheShape size align → IsSlabGeometry size align guards (geometry_of size align guards)
unfolding geometry_of
geometry_is_sound size align guards shape =
    let content = rounded8 size in
    let chunk = rounded (content_of size + tag_of guards) align shape.aligned in
    let tag = tag_bounds guards in
    let bounds = align_bounds align shape.aligned in
    let some = shape.some in
    let fits = shape.fits in
    let content_small : content_of size ≤ 4096 = omega (arith, content.near, content.words) in
    let chunk_some : 8 ≤ chunk_of size align guards = omega (arith, content.not_below, content.words, chunk.not_below) in
    let chunk_small : chunk_of size align guards ≤ 4160 = chunk.small (omega arith) in
    let slab = slab_of (chunk_of size align guards) chunk_some chunk_small in
    let magazine = magazine_bounds (chunk_of size align guards) in
    record {
      align_some = bounds.0;
      align_small = bounds.1;
      content_holds = content.not_below;
      content_words = content.words;
      content_small = content_small;
      tag_fits = chunk.not_below;
      chunk_words = chunk.words;
      chunk_aligned = chunk.whole;
      chunk_some = chunk_some;
      chunk_small = chunk_small;
      pages_some = slab.pages_some;
      pages_small = slab.pages_small;
      rounds_many = slab.rounds_many;
      rounds_small = slab.rounds_small;
      filled = slab.filled;
      leftover_small = slab.leftover_small;
      magazine_some = magazine.0;
      magazine_small = magazine.1;
    }

abbrev pub IsGeometry : Geometry → Geometry → Type 0
IsGeometry g h = g ≡ h

-- a geometry whose quantities are the formulas' is the one that they define
pub geometry_of-parts : (size align : ℕ) (guards : Bool) (content chunk pages magazine : ℕ) → content ≡ content_of size → chunk ≡ chunk_of size align guards
    → pages ≡ pages_of (chunk_of size align guards) → magazine ≡ magazine_of (chunk_of size align guards)
    → IsGeometry (record { content = content; chunk = chunk; pages = pages; rounds = pages * 4096 / chunk; leftover = pages * 4096 - pages * 4096 / chunk * chunk; magazine = magazine }) (geometry_of size align guards)
unfolding geometry_of
geometry_of-parts size align guards content chunk pages magazine e1 e2 e3 e4 = rw (e1, e2, e3, e4) refl

-- ---- where chunks stand

whole_times : (i n step : ℕ) → n % step ≡ 0 → i * n % step ≡ 0
whole_times i n step h = sym (mul-mod_second i n step) ∙ ap (λ (r : ℕ). i * r % step) h ∙ omega arith

whole_sum : (m n step : ℕ) → m % step ≡ 0 → n % step ≡ 0 → (m + n) % step ≡ 0
whole_sum m n step hm hn = add-mod m n step ∙ rw (hm, hn) (zero-mod step)

colour_small : (align leftover made : ℕ) → colour_of align leftover made ≤ leftover
colour_small align leftover made =
    let places = leftover / align in
    let turn : made % (places + 1) < places + 1 = mod-lt made (omega arith) in
    let top : align * (made % (places + 1)) ≤ align * places = mul-le-mul_left align (omega arith) in
    omega (arith, mul-div-le leftover align)

pub chunks_stand : (size align : ℕ) (guards : Bool) (made : ℕ) → IsCacheShape size align → KeepsChunksApart align made (geometry_of size align guards)
chunks_stand size align guards made shape =
    let g = geometry_of size align guards in
    let sound = geometry_is_sound size align guards shape in
    let colour = colour_of align g.leftover made in
    let small : colour ≤ g.leftover = colour_small align g.leftover made in
    let at_align : colour % align ≡ 0 = mul-mod_right align (made % (g.leftover / align + 1)) in
    let align_words : align % 8 ≡ 0 = align_in_words align shape.aligned in
    let at_word : colour % 8 ≡ 0 = ap (λ (n : ℕ). n % 8) (mul_comm align (made % (g.leftover / align + 1))) ∙ whole_times (made % (g.leftover / align + 1)) align 8 align_words in
    record {
      inside = λ i lt.
          let up : (i + 1) * g.chunk ≤ g.rounds * g.chunk = mul-le-mul_right g.chunk (omega arith) in
          omega (arith, sound.filled);
      aligned = λ i. whole_sum colour (i * g.chunk) align at_align (whole_times i g.chunk align sound.chunk_aligned);
      in_words = λ i. whole_sum colour (i * g.chunk) 8 at_word (whole_times i g.chunk 8 sound.chunk_words);
      apart = λ i j lt.
          let up : (i + 1) * g.chunk ≤ j * g.chunk = mul-le-mul_right g.chunk (omega arith) in
          omega arith;
    }

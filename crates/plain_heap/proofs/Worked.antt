-- A worked history with guards, whose state computes: a slab is made, a chunk of it is handed out, its end is written
-- to, and its free has a finding.
use Rattle.std.proofs.Common.{◌≡◌, ℕ, List, [], ◌∷◌, take, true, false, refl}
use Rattle.case_table.specs.Geometry.{geometry_of}
use Rattle.case_table.specs.Sizes.{class_for, class_sizes, size_of}
use Rattle.buftag.specs.Findings.{facts_of, finding}
use Rattle.script.specs.declared.operation.Op.TheVariants as op
use Rattle.plain_heap.specs.declared.entry.Body.TheVariants.{Call, Grow, Shrink}
use Rattle.plain_heap.specs.declared.entry.Entry.{Entry}
use Rattle.plain_heap.specs.declared.reply.Reply.TheVariants as reply
use Rattle.plain_heap.specs.declared.reply.Report.TheVariants as report
use Rattle.plain_heap.specs.Replies.{free_answer_in, refusal_by_size, report_at}
use Rattle.plain_heap.specs.Setting.{Setting}
use Rattle.plain_heap.specs.State.{State, chunk_start, is_mapped, state_of, word_of_slot}

-- one CPU, one thread, no declared cache, and guards
abbrev pub guarded : Setting
guarded = record { header = record { version = 1; cpus = 1; threads = 1; caches = [] }; guards = true }

-- a slab is made at the arena's base, 24 bytes are handed out there, the byte behind them is overwritten, and the
-- free is refused
abbrev pub damaged : List Entry
damaged =
    record { number = 0; thread = 0; body = Grow 2 1048576 }
    ∷ record { number = 1; thread = 0; body = Call (op.Alloc 1 24) [] (reply.At 1048576 report.Clean) }
    ∷ record { number = 2; thread = 0; body = Call (op.Store 1 24 (65 ∷ [])) [] reply.Ok }
    ∷ record { number = 3; thread = 0; body = Call (op.Free 1 24) [] reply.Redzone } ∷ []

-- what the first so many of them leave
abbrev pub after_first : ℕ → State
after_first n = state_of guarded (take n damaged)

pub fresh_chunks_are_clean : report_at guarded (after_first 1) 1048576 ≡ report.Clean
unfolding geometry_of class_for class_sizes size_of facts_of finding
fresh_chunks_are_clean = refl

pub the_slot_has_the_address : word_of_slot (after_first 2) 0 1 ≡ 1048576
unfolding geometry_of class_for class_sizes size_of facts_of finding
the_slot_has_the_address = refl

pub the_free_is_refused : free_answer_in guarded (after_first 3) 1048576 (refusal_by_size 24) ≡ reply.Redzone
unfolding geometry_of class_for class_sizes size_of facts_of finding
the_free_is_refused = refl

-- ---- a store into a freed chunk

-- 24 bytes are handed out, copied to another slot, and freed; a byte of them is written, and they are handed out again
abbrev pub reused : List Entry
reused =
    record { number = 0; thread = 0; body = Grow 2 1048576 }
    ∷ record { number = 1; thread = 0; body = Call (op.Alloc 1 24) [] (reply.At 1048576 report.Clean) }
    ∷ record { number = 2; thread = 0; body = Call (op.Copy 2 1) [] reply.Ok }
    ∷ record { number = 3; thread = 0; body = Call (op.Free 1 24) [] reply.Ok }
    ∷ record { number = 4; thread = 0; body = Call (op.Store 2 8 (65 ∷ [])) [] reply.Ok }
    ∷ record { number = 5; thread = 0; body = Call (op.Alloc 3 24) [] (reply.At 1048576 (report.Modified 8)) }
    ∷ record { number = 6; thread = 0; body = Call (op.Free 3 24) [] reply.Ok }
    ∷ record { number = 7; thread = 0; body = Call (op.Free 2 24) [] reply.Dup } ∷ []

-- what the first so many of them leave
abbrev pub after_reuse : ℕ → State
after_reuse n = state_of guarded (take n reused)

pub the_free_is_made : free_answer_in guarded (after_reuse 3) 1048576 (refusal_by_size 24) ≡ reply.Ok
unfolding geometry_of class_for class_sizes size_of facts_of finding
the_free_is_made = refl

pub the_store_is_reported : report_at guarded (after_reuse 5) 1048576 ≡ report.Modified 8
unfolding geometry_of class_for class_sizes size_of facts_of finding
the_store_is_reported = refl

pub the_second_free_is_told : free_answer_in guarded (after_reuse 7) (word_of_slot (after_reuse 7) 0 2) (refusal_by_size 24) ≡ reply.Dup
unfolding geometry_of class_for class_sizes size_of facts_of finding
the_second_free_is_told = refl

-- ---- a second slab

-- the second slab of a cache has the next colour, its chunks come behind those of the first, and it is gone once it was
-- given back
abbrev pub two_slabs : List Entry
two_slabs =
    record { number = 0; thread = 0; body = Grow 2 1048576 } ∷ record { number = 1; thread = 0; body = Grow 2 1052672 }
    ∷ record { number = 2; thread = 0; body = Shrink 2 1048576 } ∷ []

-- what the first so many of them leave
abbrev pub after_slabs : ℕ → State
after_slabs n = state_of guarded (take n two_slabs)

pub the_second_slab : (after_slabs 3).slabs ≡ record { cache = 2; base = 1052672; made = 1; first = 85 } ∷ []
unfolding geometry_of class_for class_sizes size_of
the_second_slab = refl

pub its_first_chunk : chunk_start guarded (record { cache = 2; base = 1052672; made = 1; first = 85 }) 0 ≡ 1052680
unfolding geometry_of class_for class_sizes size_of
its_first_chunk = refl

pub its_page_stays : is_mapped guarded (after_slabs 3) 1052672 ≡ true
unfolding geometry_of class_for class_sizes size_of
its_page_stays = refl

pub the_first_page_goes : is_mapped guarded (after_slabs 3) 1048576 ≡ false
unfolding geometry_of class_for class_sizes size_of
the_first_page_goes = refl

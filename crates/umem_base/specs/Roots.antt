-- Where the arena of a heap lies, and its root pages: one that all threads share, and one for each thread.
use Rattle.std.specs.Prelude.{ℕ, ◌+◌, ◌*◌, ◌==◌, if◌then◌else◌}
use Rattle.umem_base.specs.declared.arena.TheConstants.{ARENA_BASE, FIRST_ARENA_PAGES, LATER_ARENA_PAGES}
use Rattle.umem_base.specs.declared.pages.TheConstants.{PAGE_BYTES}
use Rattle.umem_base.specs.declared.roots.TheConstants.{OWN_ROOTS}

-- how many pages the arena has in a version
abbrev pub arena_pages : ℕ → ℕ
arena_pages version = if version == 1 then FIRST_ARENA_PAGES else LATER_ARENA_PAGES

-- the address past the arena
abbrev pub arena_end : ℕ → ℕ
arena_end version = ARENA_BASE + PAGE_BYTES * arena_pages version

-- the address of a thread's own root page
abbrev pub own_root : ℕ → ℕ
own_root thread = OWN_ROOTS + PAGE_BYTES * thread

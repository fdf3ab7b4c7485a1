-- The constants of this crate as numbers.
use Rattle.std.specs.Prelude.{◌≡◌}
use Rattle.umem_base.specs.declared.arena.TheConstants.{ARENA_BASE, FIRST_ARENA_PAGES, LATER_ARENA_PAGES}
use Rattle.umem_base.specs.declared.pages.TheConstants.{PAGE_BYTES}
use Rattle.umem_base.specs.declared.roots.TheConstants.{LAST_SLOT, OWN_ROOTS, ROOT_WORDS, SHARED_ROOT}

-- the bytes of a page, where the arena begins and how many pages it has, and where the root words stand
pub record AreNumbersOfMemory : Type 0 where
  pub page : PAGE_BYTES ≡ 4096
  pub arena : ARENA_BASE ≡ 1048576
  pub first_pages : FIRST_ARENA_PAGES ≡ 1024
  pub later_pages : LATER_ARENA_PAGES ≡ 4096
  pub shared_root : SHARED_ROOT ≡ 4096
  pub own_roots : OWN_ROOTS ≡ 8192
  pub root_words : ROOT_WORDS ≡ 512
  pub last_slot : LAST_SLOT ≡ 511

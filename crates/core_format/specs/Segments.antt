-- The root segments: the shared one, and in version 2 one of each thread.
use Rattle.std.specs.Prelude.{ℕ, List, Result, Ok}
use Rattle.umem_base.specs.declared.pages.TheConstants.{PAGE_BYTES}
use Rattle.umem_base.specs.declared.roots.TheConstants.{ROOT_WORDS}
use Rattle.core_format.specs.declared.items.OwnRoot.{OwnRoot}
use Rattle.core_format.specs.Reader.{Flaw, Reader, ◌>>=◌, room}
use Rattle.core_format.specs.Items.{words_at}

-- a segment, which is a record of 4,096 bytes
unfoldable pub segment_at : Reader → Result (List ℕ × Reader) Flaw
segment_at here = do
  _ ← room PAGE_BYTES here
  words_at ROOT_WORDS here

-- the own segment of a thread
unfoldable pub one_own_root : Reader → Result (OwnRoot × Reader) Flaw
one_own_root here = do
  words ← segment_at here
  Ok (record { words = words.0 }, words.1)

-- the own segment of the next thread
abbrev pub own_root_at : List OwnRoot → Reader → Result (OwnRoot × Reader) Flaw
own_root_at before here = one_own_root here

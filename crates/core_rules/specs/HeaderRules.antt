-- The rules of a core's numbers, of its lists' lengths, of its root segments, and of what its version has.
use Rattle.std.specs.Prelude.{◌≡◌, ◌⊎◌, ℕ, ◌^◌, ◌<◌, ◌≤◌, All, IsTrue, List, [], None, length}
use Rattle.umem_base.specs.Roots.{arena_pages}
use Rattle.umem_base.specs.declared.roots.TheConstants.{ROOT_WORDS}
use Rattle.umem_options.specs.Flags.{bits_of}
use Rattle.umem_options.specs.declared.limits.TheConstants.{MOST_CONTENTS, MOST_FAILS, MOST_FRAMES, MOST_TRANSACTIONS}
use Rattle.case_table.specs.declared.limits.TheConstants.{CLASS_COUNT, MOST_CACHES, MOST_CPUS, MOST_THREADS}
use Rattle.core_format.specs.declared.whole.Core.{Core}
use Rattle.core_format.specs.Header.{has_audits, has_contents_log, has_known_flags}

-- each is a word of eight bytes
abbrev pub AreWords : List ℕ → Type 0
AreWords words = All (λ word. word < 2 ^ 64) words

-- each is a byte
abbrev pub AreByteValues : List ℕ → Type 0
AreByteValues bytes = All (λ byte. byte < 256) bytes

-- there is such a version
abbrev pub IsVersion : ℕ → Type 0
IsVersion version = (version ≡ 1) ⊎ (version ≡ 2)

-- the numbers at the head of a core have their bounds
pub record KeepsNumberRules (core : Core) : Type 0 where
  pub version : IsVersion core.version
  pub flags : IsTrue (has_known_flags (bits_of core.flags))
  pub frames : core.frames ≤ MOST_FRAMES
  pub contents : core.contents ≤ MOST_CONTENTS
  pub some_cpus : 1 ≤ core.cpus
  pub cpus : core.cpus ≤ MOST_CPUS
  pub trans_capacity : core.trans_capacity ≤ MOST_TRANSACTIONS
  pub fail_capacity : core.fail_capacity ≤ MOST_FAILS
  pub next_chunk : core.next_chunk < 2 ^ 32
  pub entries : core.entries < 2 ^ 64

-- the lists have no more items than they may
pub record KeepsCountRules (core : Core) : Type 0 where
  pub classes : CLASS_COUNT ≤ length core.caches
  pub caches : length core.caches ≤ MOST_CACHES
  pub slabs : length core.slabs ≤ arena_pages core.version
  pub large : length core.large ≤ arena_pages core.version
  pub audits : IsTrue (has_audits (bits_of core.flags) (length core.audits))
  pub trans : length core.trans ≤ core.trans_capacity
  pub fails : length core.fails ≤ core.fail_capacity

-- a segment has 512 words
pub record IsSegment (words : List ℕ) : Type 0 where
  pub many : length words ≡ ROOT_WORDS
  pub fit : AreWords words

-- so have the shared one and that of each thread
pub record KeepsSegmentRules (core : Core) : Type 0 where
  pub root : IsSegment core.root
  pub own : All (λ own. IsSegment own.words) core.own

-- a core of version 1 has no own segment, no contents log and no constructor
pub record IsOfFirstVersion (core : Core) : Type 0 where
  pub own : core.own ≡ []
  pub contents_capacity : core.contents_capacity ≡ 0
  pub saved : core.saved ≡ []
  pub ctors : All (λ item. item.def.ctor ≡ None) core.caches

-- a core of version 2 has an own segment for each thread, and may have a contents log
pub record IsOfSecondVersion (core : Core) : Type 0 where
  pub some_threads : 1 ≤ length core.own
  pub threads : length core.own ≤ MOST_THREADS
  pub contents_capacity : IsTrue (has_contents_log (bits_of core.flags) core.contents_capacity)
  pub saved : length core.saved ≤ core.contents_capacity

-- a core has what its version has
pub record KeepsVersionRules (core : Core) : Type 0 where
  pub first : core.version ≡ 1 → IsOfFirstVersion core
  pub second : core.version ≡ 2 → IsOfSecondVersion core

-- The first record of a core, and its second one.
use Rattle.std.specs.Prelude.{ℕ, ◌+◌, Bool, not, ◌&&◌, ◌||◌, ◌≤◌, ◌==◌, if◌then◌else◌, List, [], ◌∷◌, Result, Ok, nat_le, bit_and, slice_index}
use Rattle.core_format.specs.declared.header.Header.{Header}
use Rattle.core_format.specs.declared.header.SecondHeader.{SecondHeader}
use Rattle.core_format.specs.declared.limits.TheConstants.{ALL_FLAGS, MOST_AUDITS}
use Rattle.umem_options.specs.Flags.{bits_of}
use Rattle.umem_options.specs.declared.flags.DebugFlags.{DebugFlags}
use Rattle.umem_options.specs.declared.flags.TheConstants.DebugFlags.{AUDIT, GUARDS}
use Rattle.umem_options.specs.declared.limits.TheConstants.{MOST_CONTENTS, MOST_FAILS, MOST_FRAMES, MOST_SAVED, MOST_TRANSACTIONS}
use Rattle.case_table.specs.declared.limits.TheConstants.{CLASS_COUNT, MOST_CACHES, MOST_CPUS, MOST_THREADS}
use Rattle.umem_base.specs.Roots.{arena_pages}
use Rattle.core_format.specs.declared.fault.Fault.TheVariants.{BadMagic, BadVersion, BadFlags, BadLength}
use Rattle.core_format.specs.declared.read_header.TheConstants.{MAGIC}
use Rattle.core_format.specs.Reader.{Flaw, Reader, ◌>>=◌, record_at, rule}

-- the widths of the header's fields
abbrev pub header_widths : List ℕ
header_widths = 8 ∷ 4 ∷ 4 ∷ 4 ∷ 4 ∷ 4 ∷ 4 ∷ 4 ∷ 4 ∷ 4 ∷ 4 ∷ 4 ∷ 4 ∷ 4 ∷ 4 ∷ 8 ∷ []

-- what its numbers say
abbrev pub header_of : List ℕ → Header
header_of v = record {
  version = slice_index v 1;
  flags = slice_index v 2;
  frames = slice_index v 3;
  contents = slice_index v 4;
  cpus = slice_index v 5;
  caches = slice_index v 6;
  slabs = slice_index v 7;
  large = slice_index v 8;
  audits = slice_index v 9;
  trans_capacity = slice_index v 10;
  trans = slice_index v 11;
  fail_capacity = slice_index v 12;
  fails = slice_index v 13;
  next_chunk = slice_index v 14;
  entries = slice_index v 15;
}

-- there is such a version
abbrev pub is_core_version : ℕ → Bool
is_core_version version = version == 1 || version == 2

-- the flag is among those of a header
abbrev pub has_bit : ℕ → DebugFlags → Bool
has_bit bits flag = bit_and bits (bits_of flag) == bits_of flag

-- no flag but the three, and audit comes with guards
abbrev pub has_known_flags : ℕ → Bool
has_known_flags flags = nat_le flags ALL_FLAGS && (not (has_bit flags AUDIT) || has_bit flags GUARDS)

-- the number of items has these bounds
abbrev pub is_count : ℕ → ℕ → ℕ → Bool
is_count least count most = nat_le least count && nat_le count most

-- there may be so many audits, of which there are none without that flag
abbrev pub has_audits : ℕ → ℕ → Bool
has_audits flags audits = nat_le audits MOST_AUDITS && (audits == 0 || has_bit flags AUDIT)

-- the rules of the fields behind the magic, in a header that begins at that offset
unfoldable pub header_rules : Header → ℕ → Result (Unit {0}) Flaw
header_rules h start = do
  _ ← rule (is_core_version h.version) (start + 8) BadVersion
  _ ← rule (has_known_flags h.flags) (start + 12) BadFlags
  _ ← rule (nat_le h.frames MOST_FRAMES) (start + 16) BadLength
  _ ← rule (nat_le h.contents MOST_CONTENTS) (start + 20) BadLength
  _ ← rule (is_count 1 h.cpus MOST_CPUS) (start + 24) BadLength
  _ ← rule (is_count CLASS_COUNT h.caches MOST_CACHES) (start + 28) BadLength
  _ ← rule (nat_le h.slabs (arena_pages h.version)) (start + 32) BadLength
  _ ← rule (nat_le h.large (arena_pages h.version)) (start + 36) BadLength
  _ ← rule (has_audits h.flags h.audits) (start + 40) BadLength
  _ ← rule (nat_le h.trans_capacity MOST_TRANSACTIONS) (start + 44) BadLength
  _ ← rule (nat_le h.trans h.trans_capacity) (start + 48) BadLength
  _ ← rule (nat_le h.fail_capacity MOST_FAILS) (start + 52) BadLength
  rule (nat_le h.fails h.fail_capacity) (start + 56) BadLength

-- the header, which is a record of 72 bytes
unfoldable pub header_at : Reader → Result (Header × Reader) Flaw
header_at here = do
  fields ← record_at header_widths here
  _ ← rule (slice_index fields.0 0 == MAGIC) here.at BadMagic
  _ ← header_rules (header_of fields.0) here.at
  Ok (header_of fields.0, fields.1)

-- bounds that the rules give
pub record HasFewCaches (h : Header) : Type 0 where
  pub cpus : h.cpus ≤ MOST_CPUS
  pub some : CLASS_COUNT ≤ h.caches
  pub caches : h.caches ≤ MOST_CACHES
  pub flags : h.flags ≤ ALL_FLAGS

-- the widths of the second record's fields
abbrev pub second_widths : List ℕ
second_widths = 4 ∷ 4 ∷ 4 ∷ []

-- what its numbers say
abbrev pub second_of : List ℕ → SecondHeader
second_of v = record { threads = slice_index v 0; contents_capacity = slice_index v 1; saved = slice_index v 2 }

-- what a core of version 1 has of the second record
abbrev pub no_second : SecondHeader
no_second = record { threads = 0; contents_capacity = 0; saved = 0 }

-- the contents log needs audit
abbrev pub has_contents_log : ℕ → ℕ → Bool
has_contents_log flags capacity = nat_le capacity MOST_SAVED && (capacity == 0 || has_bit flags AUDIT)

-- the second record of a core of version 2
unfoldable pub second_header_at : Header → Reader → Result (SecondHeader × Reader) Flaw
second_header_at h here = do
  fields ← record_at second_widths here
  let s = second_of fields.0
  _ ← rule (is_count 1 s.threads MOST_THREADS) here.at BadLength
  _ ← rule (has_contents_log h.flags s.contents_capacity) (here.at + 4) BadLength
  _ ← rule (nat_le s.saved s.contents_capacity) (here.at + 8) BadLength
  Ok (s, fields.1)

-- both records of the header
unfoldable pub headers_at : Reader → Result ((Header × SecondHeader) × Reader) Flaw
headers_at here = do
  first ← header_at here
  second ← if first.0.version == 1 then Ok (no_second, first.1) else second_header_at first.0 first.1
  Ok ((first.0, second.0), second.1)

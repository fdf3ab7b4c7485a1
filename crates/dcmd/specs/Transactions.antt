-- What `::umem_log` prints: a heading, and a line for each transaction, the newest first.
use Rattle.std.specs.Prelude.{ℕ, List, [], ◌∷◌, ◌++◌, codes, reverse}
use Rattle.std.specs.List.{flat_map}
use Rattle.umem_base.specs.Numbers.{right_aligned}
use Rattle.case_table.specs.Addresses.{bufctl_address}
use Rattle.trans_log.specs.declared.record.Trans.{Trans}
use Rattle.core_format.specs.declared.whole.Core.{Core}
use Rattle.dcmd.specs.Columns.{line_of, right_decimal, right_hexadecimal}

-- the words over the columns, each placed as its column is
abbrev pub log_heading : List ℕ
log_heading =
    line_of (right_aligned 3 (codes "CPU") ∷ right_aligned 8 (codes "ADDR") ∷ right_aligned 8 (codes "BUFADDR")
    ∷ right_aligned 9 (codes "TIMESTAMP") ∷ right_aligned 6 (codes "THREAD") ∷ [])

-- the line of a transaction
abbrev pub trans_line : Trans → List ℕ
trans_line trans =
    line_of (right_decimal 3 trans.cpu ∷ right_hexadecimal 8 (bufctl_address trans.chunk)
    ∷ right_hexadecimal 8 trans.address ∷ right_decimal 9 trans.time ∷ right_decimal 6 trans.thread ∷ [])

-- the heading and the lines
unfoldable pub log_text : Core → List ℕ
log_text core = log_heading ++ flat_map trans_line (reverse core.trans)

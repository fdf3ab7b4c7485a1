use Rattle.std.proofs.Common.{◌≡◌, ◌+◌, ◌++◌, length, drop}
use Rattle.trans_log.specs.SavedLog.{bytes_in_all, saved_by}
use Rattle.trans_log.proofs.saved_log.read_items.Given as goal

abbrev pub invariant-loop-record : goal.invariant-loop-record
invariant-loop-record l =
    record {
      can_next : (goal.iterator-loop-record).can_next l.record-iterator;
      is_finite : (goal.iterator-loop-record).is_finite l.record-iterator;
      within : bytes_in_all l.record-iterator + l.start ≡ length l.front + length l.back;
      room : l.items.spare ≡ length l.record-iterator;
      read : l.items.items ++ saved_by l.record-iterator (drop l.start (l.front ++ l.back)) ≡ saved_by l.records.items (l.front ++ l.back);
    }

-- The words of reasons.
use Rattle.std.specs.Prelude.{ℕ, List, codes}
use Rattle.script.specs.declared.reasons.Reason.{Reason}
use Rattle.script.specs.declared.reasons.Reason.TheVariants as reasons

-- what each reason is called
abbrev pub reason_word : Reason → List ℕ
reason_word reasons.Text = codes "text"
reason_word reasons.Header = codes "header"
reason_word reasons.Word = codes "word"
reason_word reasons.Count = codes "count"
reason_word reasons.Thread = codes "thread"
reason_word reasons.Slot = codes "slot"
reason_word reasons.Unknown = codes "unknown"
reason_word reasons.Number = codes "number"
reason_word reasons.Range = codes "range"
reason_word reasons.Name = codes "name"
reason_word reasons.Order = codes "order"
reason_word reasons.Limit = codes "limit"

use Rattle.std.proofs.Common.{◌∙◌, ap, sym}
use Rattle.core_format.specs.Reader.{Reader}
use Rattle.core_format.proofs.Records.{record_at-stand}
use Rattle.core_format.proofs.reader.Reader.take_record.Goals as goal

pub returns-in-Ok-clause-numbers : goal.returns-in-Ok-clause-numbers
returns-in-Ok-clause-numbers g c =
    record_at-stand c.args.layout.now c.args.self.now (record { bytes = c.self.inside.bytes.now; at = c.self.inside.at }) c.args.at c.length.result c.in-Ok.numbers c.in-Ok.ensures.found c.in-Ok.ensures.numbers c.self.view_is (c.requires ∙ ap (λ (r : Reader). r.at) (sym c.self.view_is)) c.length.ensures.value

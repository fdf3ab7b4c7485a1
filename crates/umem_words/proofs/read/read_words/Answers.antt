use Rattle.std.proofs.Common.{IfSome, subst, sym}
use Rattle.std.proofs.lemmas.Result.{IfOk-weaker}
use Rattle.umem_words.specs.Limits.{IsJob}
use Rattle.umem_words.specs.Texts.{told_texts}
use Rattle.umem_words.proofs.LimitsLemmas.{told_keeps}
use Rattle.umem_words.proofs.read.read_words.Goals as goal

pub returns-in-Some-clause-limits : goal.returns-in-Some-clause-limits
returns-in-Some-clause-limits c = IfOk-weaker c.job_told.result _ _
    (λ job same. subst (λ j. IfSome j IsJob) (sym same) (told_keeps (told_texts c.in-Some.told))) c.job_told.ensures

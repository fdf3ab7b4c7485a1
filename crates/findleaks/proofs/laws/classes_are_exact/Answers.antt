use Rattle.findleaks.proofs.ClassesLemmas.{as_many, both_apart, has_leaked, has_reached}
use Rattle.findleaks.proofs.laws.classes_are_exact.Goals as goal

pub returns-clause-reached : goal.returns-clause-reached
returns-clause-reached c = has_reached

pub returns-clause-leaked : goal.returns-clause-leaked
returns-clause-leaked c = has_leaked

pub returns-clause-each : goal.returns-clause-each
returns-clause-each c = as_many

pub returns-clause-reached_rise : goal.returns-clause-reached_rise
returns-clause-reached_rise c = λ core buffers reached leaked parted apart. (both_apart core buffers reached leaked parted apart).0

pub returns-clause-leaked_rise : goal.returns-clause-leaked_rise
returns-clause-leaked_rise c = λ core buffers reached leaked parted apart. (both_apart core buffers reached leaked parted apart).1

use Rattle.case_table.proofs.CacheNameLemmas.{class_name-formed, class_name-reserved, class_name-apart}
use Rattle.case_table.proofs.laws.classes_are_known_by_their_names.Goals as goal

pub returns-clause-formed : goal.returns-clause-formed
returns-clause-formed c = class_name-formed

pub returns-clause-reserved : goal.returns-clause-reserved
returns-clause-reserved c = class_name-reserved

pub returns-clause-apart : goal.returns-clause-apart
returns-clause-apart c = class_name-apart

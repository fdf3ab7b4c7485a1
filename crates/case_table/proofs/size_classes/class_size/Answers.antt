use Rattle.std.proofs.Common.{rules}
use Rattle.case_table.specs.Sizes.{class_sizes, size_of}
use Rattle.case_table.proofs.size_classes.class_size.Goals as goal

pub returns : goal.returns
unfolding class_sizes size_of
returns c = search rules

use Rattle.std.proofs.Common.{refl}
use Rattle.case_table.specs.Sizes.{class_sizes, size_of}
use Rattle.buftag.proofs.ShapeLemmas.{IsShape-class}
use Rattle.buftag.proofs.shape.Shape.of_class.Goals as goal

pub returns-clause-value : goal.returns-clause-value
unfolding size_of class_sizes
returns-clause-value c = refl

pub returns-clause-sound : goal.returns-clause-sound
unfolding size_of class_sizes
returns-clause-sound c = IsShape-class _ c.args.class c.args.bufctl c.requires refl

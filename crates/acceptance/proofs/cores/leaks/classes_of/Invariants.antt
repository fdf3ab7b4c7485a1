use Rattle.acceptance.proofs.cores.leaks.classes_of.Given as goal

abbrev pub ghosts-counted_classes : goal.ghosts-counted_classes
ghosts-counted_classes a = record { name = a.blank.name; parts = a.blank.parts }

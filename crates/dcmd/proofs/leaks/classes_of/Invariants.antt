-- the counter of look-ups is named by its blank
use Rattle.dcmd.proofs.leaks.classes_of.Given as goal

abbrev pub ghosts-counted_classes : goal.ghosts-counted_classes
ghosts-counted_classes a = record { name = a.blank.name; parts = a.blank.parts }

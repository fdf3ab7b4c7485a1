-- the counter of look-ups is named by its blank
use Rattle.view_bench.proofs.asked.reached_often.Given as goal

abbrev pub ghosts-reached_counted : goal.ghosts-reached_counted
ghosts-reached_counted a = record { name = a.blank.name; parts = a.blank.parts }

use Rattle.machine_tests.proofs.run.told.Given as goal

abbrev pub ghosts-run_design : goal.ghosts-run_design
ghosts-run_design a = record { name = a.blank.name; parts = a.blank.parts }

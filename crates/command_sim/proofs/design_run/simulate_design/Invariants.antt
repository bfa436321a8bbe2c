use Rattle.command_sim.proofs.design_run.simulate_design.Given as goal

abbrev pub ghosts-run_open : goal.ghosts-run_open
ghosts-run_open g a = record { name = a.blank.name; parts = a.blank.parts }

use Rattle.std.proofs.Common.{ℕ, ◌≤◌, sym, ap, subst}
use Rattle.cov_words.specs.SeenCommand.{seen_sim}
use Rattle.command_ending.specs.Ending.{line_at}
use Rattle.sim_answer.specs.Simulation.{Simulation}
use Rattle.sim_frame.specs.Asked.{seen}
use Rattle.cov_program.specs.Words.{simulation_of}
use Rattle.cov_program.proofs.ProgramLemmas.{sim_leaves, sim_not_words}
use Rattle.cov_program.proofs.program.run_sim.Goals as goal

pub simulate-requires : goal.simulate-requires
simulate-requires g c = subst (λ (n : ℕ). n ≤ 64) (sym (ap (λ (s : Simulation). s.count_bits) c.asked_of-simulation.ensures)) c.requires

pub returns-clause-leaves : goal.returns-clause-leaves
returns-clause-leaves g c =
    sim_leaves (seen c.asked_of-simulation.result) (simulation_of (seen_sim c.args.asked.now)) _ _ _ _ c.asked_of-simulation.ensures
    c.simulate.ensures.leaves

pub returns-clause-sparing : goal.returns-clause-sparing
returns-clause-sparing g c = rw c.asked_of-simulation.ensures at c.simulate.ensures.sparing

pub returns-clause-words : goal.returns-clause-words
returns-clause-words g c =
    let leaves = rw c.asked_of-simulation.ensures at c.simulate.ensures.leaves in
    sim_not_words (simulation_of (seen_sim c.args.asked.now)) _ (line_at c.simulate.result) leaves.line

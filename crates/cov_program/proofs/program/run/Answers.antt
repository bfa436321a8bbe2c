use Rattle.std.proofs.Common.{map, string_bytes, sym, ap, ◌∙◌, Some, subst}
use Rattle.command_ending.specs.Ending.{status_at}
use Rattle.command_ending.specs.declared.status.Status.TheVariants.{BadWords}
use Rattle.cov_words.specs.SeenCommand.{seen_cover, seen_sim}
use Rattle.cov_program.specs.Tasks.{IsInRange, seen}
use Rattle.cov_program.specs.Words.{checking, covering, simulating, simulation_of, task_of}
use Rattle.cov_program.specs.declared.task.Task.{Task}
use Rattle.cov_program.proofs.ProgramLemmas.{check_spares, leaves_task, leaves_words, spares_nothing, words_are_no_line, words_spare}
use Rattle.cov_program.proofs.program.run.Goals as goal

pub returns-in-Some-Check-clause-leaves : goal.returns-in-Some-Check-clause-leaves
returns-in-Some-Check-clause-leaves g c =
    leaves_task (map string_bytes c.args.words.now) (Some (checking c.in-Some-Check.names)) _ _ _ _
    (ap (λ (t : Task). Some (seen t)) (sym c.in-Some-Check.field-0-is) ∙ c.in-Some-Check.ensures.asks) c.run_check.ensures.leaves

pub returns-in-Some-Cover-clause-leaves : goal.returns-in-Some-Cover-clause-leaves
returns-in-Some-Cover-clause-leaves g c =
    leaves_task (map string_bytes c.args.words.now) (Some (covering (seen_cover c.in-Some-Cover.asked))) _ _ _ _
    (ap (λ (t : Task). Some (seen t)) (sym c.in-Some-Cover.field-0-is) ∙ c.in-Some-Cover.ensures.asks) c.run_cover.ensures.leaves

pub run_sim-requires : goal.run_sim-requires
run_sim-requires g c = subst IsInRange c.in-Some-Sim.field-0-is c.in-Some-Sim.ensures.range

pub returns-in-Some-Sim-clause-leaves : goal.returns-in-Some-Sim-clause-leaves
returns-in-Some-Sim-clause-leaves g c =
    leaves_task (map string_bytes c.args.words.now) (Some (simulating (simulation_of (seen_sim c.in-Some-Sim.asked)))) _ _ _ _
    (ap (λ (t : Task). Some (seen t)) (sym c.in-Some-Sim.field-0-is) ∙ c.in-Some-Sim.ensures.asks) c.run_sim.ensures.leaves

pub returns-in-Some-Sim-clause-sparing : goal.returns-in-Some-Sim-clause-sparing
returns-in-Some-Sim-clause-sparing g c =
    words_spare (map string_bytes c.args.words.now) (Some (simulating (simulation_of (seen_sim c.in-Some-Sim.asked))))
    (status_at c.run_sim.result) (g.F.Files.rest c.run_sim.new.files) (g.F.Files.held c.args.files.now)
    (ap (λ (t : Task). Some (seen t)) (sym c.in-Some-Sim.field-0-is) ∙ c.in-Some-Sim.ensures.asks) c.run_sim.ensures.sparing

pub returns-in-None-clause-leaves : goal.returns-in-None-clause-leaves
returns-in-None-clause-leaves g c =
    leaves_words (map string_bytes c.args.words.now) (g.F.Files.held c.args.files.now) (g.F.Files.faults c.args.files.now) (g.O.Sink.written c.args.out.now)
    (g.O.Sink.faults c.args.out.now) c.in-None.ensures.asks

pub returns-in-Some-Check-clause-sparing : goal.returns-in-Some-Check-clause-sparing
returns-in-Some-Check-clause-sparing g c =
    words_spare (map string_bytes c.args.words.now) (Some (checking c.in-Some-Check.names)) (status_at c.run_check.result)
    (g.F.Files.rest c.run_check.new.files)
    (g.F.Files.held c.args.files.now)
    (ap (λ (t : Task). Some (seen t)) (sym c.in-Some-Check.field-0-is) ∙ c.in-Some-Check.ensures.asks)
    (check_spares c.in-Some-Check.names (status_at c.run_check.result) (g.F.Files.rest c.run_check.new.files) (g.F.Files.held c.args.files.now))

pub returns-in-Some-Cover-clause-sparing : goal.returns-in-Some-Cover-clause-sparing
returns-in-Some-Cover-clause-sparing g c =
    words_spare (map string_bytes c.args.words.now) (Some (covering (seen_cover c.in-Some-Cover.asked)))
    (status_at c.run_cover.result) (g.F.Files.rest c.run_cover.new.files) (g.F.Files.held c.args.files.now)
    (ap (λ (t : Task). Some (seen t)) (sym c.in-Some-Cover.field-0-is) ∙ c.in-Some-Cover.ensures.asks) c.run_cover.ensures.sparing

pub returns-in-None-clause-sparing : goal.returns-in-None-clause-sparing
returns-in-None-clause-sparing g c = spares_nothing (task_of (map string_bytes c.args.words.now)) BadWords _ (g.F.Files.held c.args.files.now) words_are_no_line

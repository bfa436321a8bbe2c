use Rattle.std.proofs.Common.{List, ℕ, Bor, get_or, [], ◌∙◌}
use Rattle.command_ending.specs.Stops.{wants_memory}
use Rattle.command_check.proofs.DesignLemmas.{unread_stops}
use Rattle.command_ending.proofs.NamesLemmas.{seen, seen_around, seen_within}
use Rattle.command_check.proofs.reading.read_designs.Goals as goal

pub returns-then-is_err-clause-err : goal.returns-then-is_err-clause-err
returns-then-is_err-clause-err g c = wants_memory (c.in-Ok.ensures.ok_quiet ∙ c.names.invariant.faults)

pub returns-in-Err-clause-err : goal.returns-in-Err-clause-err
returns-in-Err-clause-err g c =
    let none : Bor (List ℕ) = record { ref_ptr = (0, 0); now = [] } in
    let unread = rw (c.names.invariant.held, c.names.invariant.faults) at c.in-Err.ensures.err in
    unread_stops (g.F.Files.held c.args.files.now) (g.F.Files.faults c.args.files.now) (g.F.Files.faults c.read_design.new.files) (seen c.args.names.now) _ _
    c.names.texts
    (get_or c.args.names.now c.names.name-index none).now c.names.left c.in-Err.ending
    (seen_around c.args.names.now c.names.name-index none c.names-test.true) c.names.invariant.hold c.names.invariant.left
    (seen_within c.args.names.now c.names.name-index none c.names-test.true) unread

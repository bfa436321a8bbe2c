use Rattle.std.proofs.Common.{ℕ, ◌+◌, List, [], drop, get_or, Bor, ◌∙◌}
use Rattle.std.specs.Prelude.{option_copied}
use Rattle.command_ending.proofs.NamesLemmas.{seen, seen_from, seen_within}
use Rattle.command_cover.proofs.SparingLemmas.{spares_one}
use Rattle.cover_answer.specs.Gathering.{keeps}
use Rattle.cover_gather.proofs.StepLemmas.{added_first, refused_first}
use Rattle.cover_gather.proofs.reading.add_files.Goals as goal

pub returns-in-Err-clause-err : goal.returns-in-Err-clause-err
returns-in-Err-clause-err g c =
    let told = g.F.Files.held c.args.files.now in
    let other : Bor (List ℕ) = record { ref_ptr = (0, 0); now = [] } in
    let refused = rw (c.names.invariant.held, c.names.invariant.faults) at c.in-Err.ensures.err in
    let name = (get_or c.args.names.now c.names.name-index other).now in
    let rest = seen (drop (c.names.name-index + 1) c.args.names.now) in
    let first = rw (seen_from c.args.names.now c.names.name-index other c.names-test.true) at c.names.invariant.outcome in
    refused_first (keeps (option_copied c.args.filter)) c.args.ranks told c.names.tally c.args.tally.now name rest (seen c.args.names.now) _ _ c.in-Err.ending
    (seen_within c.args.names.now c.names.name-index other c.names-test.true) first refused

pub names-preserved : goal.names-preserved
names-preserved g c =
    let told = g.F.Files.held c.args.files.now in
    let other : Bor (List ℕ) = record { ref_ptr = (0, 0); now = [] } in
    let read = rw c.names.invariant.held at c.in-Ok.ensures.ok in
    let name = (get_or c.args.names.now c.names.name-index other).now in
    let rest = seen (drop (c.names.name-index + 1) c.args.names.now) in
    let first = rw (seen_from c.args.names.now c.names.name-index other c.names-test.true) at c.names.invariant.outcome in
    record {
      outcome = added_first (keeps (option_copied c.args.filter)) c.args.ranks told c.names.tally c.add_file.new.tally c.args.tally.now name rest
          (seen c.args.names.now) read first;
      held = c.in-Ok.ensures.held ∙ c.names.invariant.held;
      faults = c.in-Ok.ensures.ok_quiet ∙ c.names.invariant.faults;
    }

pub returns-in-Err-clause-sparing : goal.returns-in-Err-clause-sparing
returns-in-Err-clause-sparing g c =
    let other : Bor (List ℕ) = record { ref_ptr = (0, 0); now = [] } in
    let few = rw c.names.invariant.held at c.in-Err.ensures.sparing in
    λ bad. spares_one (g.F.Files.held c.args.files.now) (seen c.args.names.now) (get_or c.args.names.now c.names.name-index other).now _ _
    (seen_within c.args.names.now c.names.name-index other c.names-test.true) (few bad)

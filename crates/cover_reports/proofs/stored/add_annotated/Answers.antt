use Rattle.std.proofs.Common.{◌<◌, length, refl, ap, ◌∙◌, arith}
use Rattle.cov_report.specs.Reports.{files_annotated, ordered, text_options}
use Rattle.command_ending.specs.Stops.{wants_memory}
use Rattle.cover_reports.specs.Sources.{names_in}
use Rattle.cover_reports.proofs.StoreLemmas.{name_added, source_passed, source_refused, store_added}
use Rattle.cover_reports.proofs.stored.add_annotated.Goals as goal

pub returns-in-Err-clause-err : goal.returns-in-Err-clause-err
returns-in-Err-clause-err g c = wants_memory refl

pub returns-in-Err-add_store-clause-err : goal.returns-in-Err-add_store-clause-err
returns-in-Err-add_store-clause-err g c =
    let within : c.sources.file < length (files_annotated c.args.report.now) =
    omega (arith, c.sources-test.true, c.in-Ok.ensures, c.len.ensures, ap length c.annotated_files.ensures) in
    let refused = rw (c.sources.invariant.held, c.sources.invariant.faults) at c.in-Err-add_store.ensures.err in
    source_refused (g.F.Files.held c.args.files.now) (ordered c.args.report.now) (files_annotated c.args.report.now) c.sources.file c.sources.left 67108864 _ _
    c.in-Err-add_store.ending within c.sources.invariant.outcome refused

pub sources-preserved : goal.sources-preserved
sources-preserved g c =
    let told = g.F.Files.held c.args.files.now in
    let files = files_annotated c.args.report.now in
    let counts = ordered c.args.report.now in
    let options = text_options c.args.report.now in
    let within : c.sources.file < length files =
    omega (arith, c.sources-test.true, c.in-Ok.ensures, c.len.ensures, ap length c.annotated_files.ensures) in
    let made = rw c.sources.invariant.held at c.in-Ok-add_store.ensures.ok in
    record {
      left = omega (arith, c.in-Ok-add_store.ensures.within, c.sources.invariant.left);
      outcome = source_passed told options counts c.args.folder.now files c.sources.file c.sources.left c.in-Ok-add_store.rest 67108864
          c.sources.stores.items _ within made c.sources.invariant.outcome;
      stored = store_added told options counts c.args.folder.now files c.sources.file c.sources.left c.in-Ok-add_store.rest
          c.args.stores.now.items c.sources.stores.items _ within made c.sources.invariant.stored;
      names = name_added c.args.folder.now files c.sources.file (names_in c.args.stores.now.items) (names_in c.sources.stores.items) _
          within c.in-Ok-add_store.ensures.names c.sources.invariant.names;
      held = c.in-Ok-add_store.ensures.held ∙ c.sources.invariant.held;
      faults = c.in-Ok-add_store.ensures.ok_quiet ∙ c.sources.invariant.faults;
    }

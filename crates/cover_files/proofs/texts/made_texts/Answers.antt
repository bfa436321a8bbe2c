use Rattle.std.proofs.Common.{◌∙◌}
use Rattle.cov_words.specs.SeenCommand.{seen_cover}
use Rattle.command_ending.specs.Stops.{wants_memory}
use Rattle.cover_files.proofs.CoverLemmas.{cover_answers, few_files, read_spares, unread_spares, unread_stops, unreported_stops}
use Rattle.cover_files.proofs.texts.made_texts.Goals as goal

pub returns-in-Ok-printed-clause-ok : goal.returns-in-Ok-printed-clause-ok
returns-in-Ok-printed-clause-ok g c =
    cover_answers (seen_cover c.args.asked.now) (g.F.Files.held c.args.files.now) c.in-Ok.gathered.merged c.in-Ok.gathered.covers
    c.in-Ok-printed.ensures.0 c.in-Ok-printed.text c.in-Ok-reports.total c.in-Ok-reports.stores.items
    (few_files (seen_cover c.args.asked.now) c.args.names.now c.requires.names c.requires.few)
    (rw c.requires.names at c.in-Ok.ensures.ok) c.in-Ok-reports.ensures.total
    (rw c.in-Ok.ensures.held at c.in-Ok-reports.ensures.stores) (rw c.in-Ok.ensures.held at c.in-Ok-reports.ensures.sound) c.in-Ok-printed.ensures.1
    (rw c.requires.names at c.in-Ok-printed.ensures.2)

pub returns-in-Ok-reports-clause-err : goal.returns-in-Ok-reports-clause-err
returns-in-Ok-reports-clause-err g c = wants_memory (c.in-Ok-reports.ensures.ok_quiet ∙ c.in-Ok.ensures.ok_quiet)

pub returns-in-Ok-clause-err : goal.returns-in-Ok-clause-err
returns-in-Ok-clause-err g c =
    unreported_stops (seen_cover c.args.asked.now) (g.F.Files.held c.args.files.now) c.in-Ok.gathered.merged c.in-Ok.gathered.covers _ _ c.in-Err-reports.ending
    (few_files (seen_cover c.args.asked.now) c.args.names.now c.requires.names c.requires.few)
    (rw c.requires.names at c.in-Ok.ensures.ok) (rw (c.in-Ok.ensures.held, c.in-Ok.ensures.ok_quiet) at c.in-Err-reports.ensures.err)

pub returns-in-Ok-clause-sparing : goal.returns-in-Ok-clause-sparing
returns-in-Ok-clause-sparing g c =
    read_spares (seen_cover c.args.asked.now) (g.F.Files.held c.args.files.now) c.in-Ok.gathered.merged c.in-Ok.gathered.covers _ _
    (rw c.requires.names at c.in-Ok.ensures.ok)

pub returns-clause-err : goal.returns-clause-err
returns-clause-err g c =
    unread_stops (seen_cover c.args.asked.now) (g.F.Files.held c.args.files.now) _ _ c.in-Err.ending
    (few_files (seen_cover c.args.asked.now) c.args.names.now c.requires.names c.requires.few) (rw c.requires.names at c.in-Err.ensures.err)

pub returns-clause-sparing : goal.returns-clause-sparing
returns-clause-sparing g c =
    unread_spares (seen_cover c.args.asked.now) (g.F.Files.held c.args.files.now) _ _ c.in-Err.ending _
    (rw c.requires.names at c.in-Err.ensures.err) (rw c.requires.names at c.in-Err.ensures.sparing)

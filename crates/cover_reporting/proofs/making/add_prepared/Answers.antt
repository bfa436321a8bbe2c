use Rattle.std.proofs.Common.{refl}
use Rattle.cov_words.specs.SeenCommand.{seen_cover}
use Rattle.report_text.specs.Info.{info_text}
use Rattle.cov_report.specs.Reports.{ordered}
use Rattle.command_ending.specs.Stops.{wants_memory}
use Rattle.cover_reports.specs.Sources.{names_in}
use Rattle.cover_reporting.proofs.NameLemmas.{info_named, sources_named}
use Rattle.cover_reporting.proofs.StoreLemmas.{stores_made}
use Rattle.cover_reporting.proofs.making.add_prepared.Goals as goal

pub returns-in-Ok-add_sources-clause-stores : goal.returns-in-Ok-add_sources-clause-stores
returns-in-Ok-add_sources-clause-stores g c =
    stores_made (g.F.Files.held c.args.files.now) (seen_cover c.args.asked.now) c.args.report.now.options (ordered c.args.report.now)
    c.args.stores.now.items c.add_texts.new.stores.items c.add_sources.new.stores.items c.requires.options c.in-Ok.ensures.stores c.in-Ok-add_sources.ensures.ok

pub returns-in-Ok-add_sources-clause-names : goal.returns-in-Ok-add_sources-clause-names
returns-in-Ok-add_sources-clause-names g c =
    λ before. sources_named (seen_cover c.args.asked.now) c.args.report.now.options (ordered c.args.report.now)
    (names_in c.add_texts.new.stores.items) (names_in c.add_sources.new.stores.items) c.requires.options c.requires.names c.in-Ok-add_sources.ensures.names
    (info_named (seen_cover c.args.asked.now)
    (info_text (ordered c.args.report.now)) c.args.stores.now.items c.add_texts.new.stores.items c.in-Ok.ensures.stores before)

pub returns-in-Err-clause-err : goal.returns-in-Err-clause-err
returns-in-Err-clause-err g c = wants_memory refl

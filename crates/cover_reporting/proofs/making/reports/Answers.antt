use Rattle.std.proofs.Common.{refl}
use Rattle.std.proofs.lemmas.List.Elements.{All-contains}
use Rattle.cov_dat.specs.DataText.{lines_text}
use Rattle.cov_words.specs.SeenCommand.{seen_cover}
use Rattle.command_ending.specs.Stops.{wants_memory}
use Rattle.cover_answer.specs.CoverPromise.{MayStore}
use Rattle.cover_answer.specs.Reports.{in_key_order}
use Rattle.cover_reports.specs.Sources.{names_in}
use Rattle.cover_reporting.proofs.NameLemmas.{merged_named}
use Rattle.cover_reporting.proofs.making.reports.Goals as goal

pub returns-in-Ok-add_reports-clause-names : goal.returns-in-Ok-add_reports-clause-names
returns-in-Ok-add_reports-clause-names g c =
    λ name there. All-contains (MayStore (seen_cover c.args.asked.now)) (names_in c.add_reports.new.stores.items) name
    (c.in-Ok-add_reports.ensures.names
    (merged_named (seen_cover c.args.asked.now) (lines_text (in_key_order c.args.merged.now)) c.new-stores.result.items c.add_merged.new.stores.items
    c.new-stores.ensures.items c.in-Ok.ensures)) there

pub returns-in-Err-clause-err : goal.returns-in-Err-clause-err
returns-in-Err-clause-err g c = wants_memory refl

use Rattle.std.proofs.Common.{[], get_or, ◌∙◌}
use Rattle.cov_report.specs.Reports.{files_annotated, ordered, text_options}
use Rattle.command_ending.specs.Stops.{wants_memory}
use Rattle.cover_reports.proofs.GoodNames.{name_at, utf8_at}
use Rattle.cover_reports.proofs.StoreLemmas.{names_pushed, stored_told}
use Rattle.cover_reports.proofs.stored.add_store.Goals as goal

pub text_of-name-requires : goal.text_of-name-requires
text_of-name-requires g c =
    utf8_at (files_annotated c.args.report.now) c.as_slice.result.now c.args.file c.index-as_slice-file.result c.as_slice-2.result.now
    (c.as_slice.ensures ∙ c.annotated_files.ensures) c.requires.number c.requires.names (c.as_slice-2.ensures ∙ c.index-as_slice-file.is)

pub returns-in-Ok-put_store-clause-ok : goal.returns-in-Ok-put_store-clause-ok
returns-in-Ok-put_store-clause-ok g c =
    let files = files_annotated c.args.report.now in
    stored_told (g.F.Files.held c.args.files.now) (text_options c.args.report.now) (ordered c.args.report.now) c.args.folder.now (get_or files c.args.file [])
    c.text_of-name.result.now c.args.left c.in-Ok.text c.in-Ok.rest c.args.stores.now.items c.put_store.new.stores.items
    (name_at files c.as_slice.result.now c.args.file c.index-as_slice-file.result c.text_of-name.result.now (c.as_slice.ensures
    ∙ c.annotated_files.ensures) c.requires.number
    (c.text_of-name.ensures ∙ c.as_slice-2.ensures ∙ c.index-as_slice-file.is))
    c.in-Ok.ensures.ok c.in-Ok-put_store.ensures

pub returns-in-Ok-put_store-clause-names : goal.returns-in-Ok-put_store-clause-names
returns-in-Ok-put_store-clause-names g c =
    let files = files_annotated c.args.report.now in
    names_pushed (get_or files c.args.file []) c.text_of-name.result.now c.args.folder.now c.in-Ok.text c.args.stores.now.items c.put_store.new.stores.items
    (name_at files c.as_slice.result.now c.args.file c.index-as_slice-file.result c.text_of-name.result.now (c.as_slice.ensures
    ∙ c.annotated_files.ensures) c.requires.number
    (c.text_of-name.ensures ∙ c.as_slice-2.ensures ∙ c.index-as_slice-file.is))
    c.in-Ok-put_store.ensures

pub returns-in-Err-put_store-clause-err : goal.returns-in-Err-put_store-clause-err
returns-in-Err-put_store-clause-err g c = wants_memory c.in-Ok.ensures.ok_quiet

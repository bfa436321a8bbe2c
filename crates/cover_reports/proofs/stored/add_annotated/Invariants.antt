use Rattle.std.proofs.Common.{◌≡◌, ◌≤◌, ◌++◌, drop, map}
use Rattle.std.specs.Prelude.{IfSome}
use Rattle.cov_types.specs.Limits.{most}
use Rattle.cov_types.specs.declared.limit.LimitName.TheVariants.{SourceBytes}
use Rattle.cov_report.specs.Reports.{files_annotated, ordered, text_options}
use Rattle.cover_answer.specs.Reports.{stored_name}
use Rattle.cover_reports.specs.Sources.{names_in, refused_from, store_of}
use Rattle.cover_reports.proofs.stored.add_annotated.Given as goal

abbrev pub invariant-sources : goal.invariant-sources
invariant-sources g l = record {
  left : l.left ≤ most SourceBytes;
  outcome : IfSome (g.F.Files.held l.initial.files) (λ held. refused_from held (ordered l.report) l.left (drop l.file (files_annotated l.report))
      ≡ refused_from held (ordered l.report) (most SourceBytes) (files_annotated l.report));
  stored : IfSome (g.F.Files.held l.initial.files) (λ held.
      l.stores.items ++ map (store_of held (text_options l.report) (ordered l.report) l.folder) (drop l.file (files_annotated l.report))
      ≡ l.initial.stores.items ++ map (store_of held (text_options l.report) (ordered l.report) l.folder) (files_annotated l.report));
  names : names_in l.stores.items ++ map (stored_name l.folder) (drop l.file (files_annotated l.report))
      ≡ names_in l.initial.stores.items ++ map (stored_name l.folder) (files_annotated l.report);
  held : g.F.Files.held l.files ≡ g.F.Files.held l.initial.files;
  faults : g.F.Files.faults l.files ≡ g.F.Files.faults l.initial.files;
}

use Rattle.std.proofs.Common.{◌≡◌, ◌++◌, ◌<◌, ℕ, [], drop, filter, get_or, length, map}
use Rattle.report_text.specs.Tables.{seen_tables}
use Rattle.cov_report.specs.Choosing.{is_chosen, StandsAt}
use Rattle.cov_report.proofs.choosing.choose.Given as goal

abbrev pub invariant-tables : goal.invariant-tables
invariant-tables l = record {
  so_far : l.names ++ map (λ t. t.name) (filter (is_chosen l.options.all l.options.min) (seen_tables (drop l.place l.tables)))
      ≡ map (λ t. t.name) (filter (is_chosen l.options.all l.options.min) (seen_tables l.tables));
  stands : (i : ℕ) → i < length l.names → StandsAt l.tables (get_or l.places.items i 0) (get_or l.names i []);
  len : length l.places.items ≡ length l.names;
}

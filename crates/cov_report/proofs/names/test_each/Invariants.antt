use Rattle.std.proofs.Common.{◌≡◌, drop}
use Rattle.report_text.specs.FileNames.{bad_file_name}
use Rattle.cov_report.proofs.names.test_each.Given as goal

abbrev pub invariant-names : goal.invariant-names
invariant-names l = bad_file_name (drop l.name-index l.names) ≡ bad_file_name l.names

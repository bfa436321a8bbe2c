use Rattle.std.proofs.Common.{◌≡◌, List, ℕ, Bor, drop, is_some, take}
use Rattle.std.specs.BTreeMap.{get}
use Rattle.std.specs.List.{list_any}
use Rattle.std.specs.Str.{bytes_eq}
use Rattle.report_text.specs.FileNames.{base_name, same_base_behind, same_base_name}
use Rattle.cov_report.specs.Names.{by_bytes}
use Rattle.cov_report.proofs.names.test_bases.Given as goal

abbrev pub invariant-names : goal.invariant-names
invariant-names l = record {
  so_far : same_base_behind (take l.place l.names) (drop l.place l.names) ≡ same_base_name l.names;
  has : (base : Bor (List ℕ)) → is_some (get by_bytes l.bases base) ≡ list_any (λ other. bytes_eq (base_name other) base.now) (take l.place l.names);
}

use Rattle.std.proofs.Common.{◌≡◌, ◌==◌, ◌&&◌, not, nat_le, drop}
use Rattle.std.specs.List.{list_all}
use Rattle.cov_report.proofs.names.is_name.Given as goal

abbrev pub invariant-bytes : goal.invariant-bytes
invariant-bytes l = list_all (λ b. nat_le 32 b && not (b == 127)) (drop l.byte-index l.name) ≡ list_all (λ b. nat_le 32 b && not (b == 127)) l.name

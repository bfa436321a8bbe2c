use Rattle.std.proofs.Common.{◌≡◌, ℕ, ◌<◌, ◌≤◌, Bool, true, false, length, sym, arith}
use Rattle.std.proofs.lemmas.List.Sums.{position_or_len_is}
use Rattle.memchr.specs.Find.{is_byte}
use Rattle.cov_port.proofs.LineLemmas.{misses}
use Rattle.cov_port.proofs.bytes.place_of.Goals as goal

pub returns-in-Some-clause-place : goal.returns-in-Some-clause-place
returns-in-Some-clause-place c =
    let found = c.in-Some.ensures in
    let high = found.0.high in
    sym (position_or_len_is (is_byte c.args.byte) c.args.bytes.now c.in-Some.at 0 (omega arith)
    (λ k below. misses _ (found.0.before k (omega arith) below)) (λ within. found.1))

pub returns-in-None-clause-place : goal.returns-in-None-clause-place
returns-in-None-clause-place c =
    let none = c.in-None.ensures in
    sym (position_or_len_is (is_byte c.args.byte) c.args.bytes.now (length c.args.bytes.now) 0 (omega arith)
    (λ k below. misses _ (none k (omega arith) below)) (λ within. absurd (omega arith)))

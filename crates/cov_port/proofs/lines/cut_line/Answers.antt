use Rattle.std.proofs.Common.{◌+◌, arith, add-one}
use Rattle.std.proofs.Math.Seq.{drop-length}
use Rattle.std.proofs.lemmas.List.{take_rest}
use Rattle.cov_port.proofs.LineLemmas.{lines_of-none, lines_of-some}
use Rattle.cov_port.proofs.lines.cut_line.Goals as goal

pub returns-in-Some-clause-lines : goal.returns-in-Some-clause-lines
returns-in-Some-clause-lines c = let found = c.in-Some.ensures in
    rw (take_rest c.args.text.now (c.in-Some.at + 1), add-one)
    (lines_of-some c.args.text.now c.in-Some.at found.0.high found.1 (λ k below. found.0.before k (omega arith) below))

pub returns-in-None-clause-lines : goal.returns-in-None-clause-lines
returns-in-None-clause-lines c = let none = c.in-None.ensures in
    rw (take_rest c.args.text.now _, drop-length c.args.text.now) (lines_of-none c.args.text.now c.requires (λ k below. none k (omega arith) below))

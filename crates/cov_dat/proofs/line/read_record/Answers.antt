use Rattle.std.proofs.Common.{◌≡◌, ◌+◌, ◌-◌, length, drop, arith}
use Rattle.std.proofs.lemmas.List.{length-drop, take_rest}
use Rattle.cov_dat.specs.Taking.{IsFront}
use Rattle.cov_dat.proofs.line.read_record.Goals as goal

pub returns-in-Some-read_count-clause-place : goal.returns-in-Some-read_count-clause-place
returns-in-Some-read_count-clause-place c =
    let front : IsFront (drop 3 c.args.line.now) c.in-Some.key.now = rw take_rest at c.in-Some.ensures.front in
    let less = front.less in
    let more : 3 + length c.in-Some.key.now - 3 ≡ length c.in-Some.key.now = omega arith in
    record {
      within = omega (arith, length-drop 3 c.args.line.now);
      same = rw more front.same;
    }

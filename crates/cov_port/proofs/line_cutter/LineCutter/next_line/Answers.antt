use Rattle.std.proofs.Common.{◌≡◌, Err, ap}
use Rattle.cov_port.specs.Cutting.{Cutter, left_of}
use Rattle.cov_port.specs.declared.line_step.CutFault.TheVariants.{TooLong}
use Rattle.cov_port.proofs.GivenLemmas.{line_told, long_told, rest_told}
use Rattle.cov_port.proofs.line_cutter.LineCutter.next_line.Goals as goal

pub returns-in-Ok-Some-clause-line : goal.returns-in-Ok-Some-clause-line
returns-in-Ok-Some-clause-line g c =
    let found = c.in-Ok-Some.ensures in
    line_told (left_of c.args.self.now (g.F.Files.rest c.args.files.now)) c.seek.new.self c.give.new.self (g.F.Files.rest c.seek.new.files) c.in-Ok-Some.at
    found.left found.within (rw c.in-Ok-Some.field-0-is at found.feed) (ap (λ (cutter : Cutter). cutter.ahead) c.give.ensures)
    (ap (λ (cutter : Cutter). cutter.line) c.give.ensures)

pub returns-in-Ok-None-clause-line : goal.returns-in-Ok-None-clause-line
returns-in-Ok-None-clause-line g c =
    let rest = c.in-Ok-None.ensures in
    let ends = rw c.in-Ok-None.field-0-is at rest.ends in
    rest_told (left_of c.args.self.now (g.F.Files.rest c.args.files.now)) c.seek.new.self c.give_rest.new.self (g.F.Files.rest c.seek.new.files)
    c.give_rest.result
    rest.left ends.0 ends.1 ends.2 (ap (λ (cutter : Cutter). cutter.ahead) c.give_rest.ensures.value)
    (ap (λ (cutter : Cutter). cutter.line) c.give_rest.ensures.value) c.give_rest.ensures.step

pub returns-in-Err-clause-long : goal.returns-in-Err-clause-long
returns-in-Err-clause-long g c is none =
    let same : c.in-Err.fault ≡ TooLong = cc in
    let long = c.in-Err.ensures.long (ap Err same) in
    long_told (left_of c.args.self.now (g.F.Files.rest c.args.files.now)) c.seek.new.self (g.F.Files.rest c.seek.new.files)
    (c.in-Err.ensures.long_left (ap Err same)) long.0 long.1

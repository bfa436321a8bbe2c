use Rattle.std.proofs.Common.{◌≡◌, ◌<◌, length, ap, arith, true, ◌∙◌, sym}
use Rattle.cov_port.specs.Cutting.{has_no_feed, left_of}
use Rattle.cov_port.proofs.CutLemmas.{all_ahead}
use Rattle.cov_port.proofs.line_cutter.LineCutter.seek.Goals as goal

pub returns-in-Ok-eq0-clause-ends : goal.returns-in-Ok-eq0-clause-ends
returns-in-Ok-eq0-clause-ends g c =
    let last = all_ahead c.in-Ok-eq0.field-0 (left_of c.args.self.now (g.F.Files.rest c.args.files.now)) c.fillings.self c.fill.new.self.ahead
    (g.F.Files.rest c.fillings.files) (g.F.Files.rest c.fill.new.files) c.in-Ok-eq0.field-0-test c.fillings.invariant.left c.in-Ok-eq0.ensures.ok in (
      ap has_no_feed (last.0 ∙ sym c.ahead.ensures.value)
          ∙ c.in_default.ensures.none,
      omega (arith, ap length last.0, ap length c.ahead-clear.ensures.value),
      last.1,
    )

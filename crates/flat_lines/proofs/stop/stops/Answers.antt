use Rattle.std.proofs.Common.{ap, ◌∙◌}
use Rattle.std.specs.Option.{option_copied}
use Rattle.flat_lines.proofs.Stopping.{arm_stops, arm_goes_on}
use Rattle.flat_lines.proofs.stop.stops.Goals as goal

pub returns-in-Some : goal.returns-in-Some
returns-in-Some c = λ a same. arm_stops a c.in-Some.body.now c.has_stop.result (same ∙ ap option_copied c.in-Some.is) c.has_stop.ensures

pub returns-in-None : goal.returns-in-None
returns-in-None c = λ a same. arm_goes_on a (same ∙ ap option_copied c.in-None.is)

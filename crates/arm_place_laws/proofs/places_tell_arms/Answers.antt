use Rattle.arm_place_laws.proofs.SourceArms.{places_tell}
use Rattle.arm_place_laws.proofs.places_tell_arms.Goals as goal

pub returns : goal.returns
returns c = places_tell

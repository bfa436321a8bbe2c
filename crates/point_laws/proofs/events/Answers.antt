use Rattle.point_laws.proofs.Names.{walk_names_arms}
use Rattle.point_laws.proofs.PointEvents.{events_tell, bits_tell}
use Rattle.point_laws.proofs.TableEvents.{tables_tell_events}
use Rattle.point_laws.proofs.events.Goals as goal

pub returns : goal.returns
returns c = record { named = walk_names_arms; arms = events_tell; bits = bits_tell; one = tables_tell_events }

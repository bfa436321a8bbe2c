use Rattle.sim_frame.specs.RunEnds.{all_put, part_put}
use Rattle.sim_frame.proofs.end_room.EndRoom.end_with.Goals as goal

pub returns-in-Ok : goal.returns-in-Ok
returns-in-Ok g c = all_put c.in-Ok.ensures.cause.kept c.in-Ok.ensures.put

pub returns : goal.returns
returns g c = part_put c.in-Err.ensures.cause.failed c.in-Err.ensures.part

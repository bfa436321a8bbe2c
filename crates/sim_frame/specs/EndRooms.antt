-- What the end of a run needs.
use Rattle.std.specs.Prelude.{◌≡◌, []}
use Rattle.design_tree.specs.declared.instrumented.Instrumented.{Instrumented}
use Rattle.data_image.specs.PointText.{empty, room_of}
use Rattle.sim_answer.specs.Simulation.{Simulation}
use Rattle.sim_frame.specs.declared.end_room.EndRoom.{EndRoom}

-- Nothing is kept as yet, and there is room for the data file of the design's points, which is to have this name.
pub record IsEndRoomFor (x : Instrumented) (asked : Simulation) (room : EndRoom) : Type 0 where
  pub output : room.output ≡ []
  pub text : room.text ≡ empty (room_of x.points)
  pub data_name : room.data ≡ asked.data_name

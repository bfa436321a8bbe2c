use Rattle.design_meaning.proofs.StateKeeps.{all_keep_state}
use Rattle.flat_design.proofs.RoomLaws.{room_for_each}
use Rattle.flat_design.proofs.RunWithin.{runs_within}
use Rattle.flat_design.proofs.UpdateLaws.{updates_stand}
use Rattle.flat_design.proofs.WordLaws.{words_keep_states}
use Rattle.flat_design.proofs.laws.runs_stand.Goals as goal

pub returns-clause-room : goal.returns-clause-room
returns-clause-room c = room_for_each

pub returns-clause-within : goal.returns-clause-within
returns-clause-within c = runs_within

pub returns-clause-updates : goal.returns-clause-updates
returns-clause-updates c = updates_stand

pub returns-clause-parts : goal.returns-clause-parts
returns-clause-parts c d s ps h = all_keep_state d ps s h

pub returns-clause-words : goal.returns-clause-words
returns-clause-words c = words_keep_states

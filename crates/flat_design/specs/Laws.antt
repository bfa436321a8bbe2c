-- Laws for callers of `run_process` and `apply`: that there is room, and that states stay states of the design.
use Rattle.std.specs.Prelude.{ℕ, ◌<◌, ◌^◌, List, length, slice_set, All}
use Rattle.design_tree.specs.declared.design.Design.{Design}
use Rattle.circuit_run.specs.States.{State, held}
use Rattle.circuit_run.specs.Writes.{Part, all_written}
use Rattle.design_meaning.specs.States.{IsStateOf}
use Rattle.design_meaning.specs.Steps.{run_of}
use Rattle.design_meaning.specs.Processes.{process_of}
use Rattle.design_meaning.specs.RunLaws.{after}
use Rattle.design_meaning.specs.Valid.{IsValidDesign}
use Rattle.flat_design.specs.Effects.{HasRoom, IsWithin, empty, room_of, room_of_all}

-- with the room for one run of each process there is room for one of any
abbrev pub RoomForEach : Type 0
RoomForEach = (d : Design) (p : ℕ) → p < length d.processes → HasRoom (empty (room_of_all d)) (room_of d (process_of d p))

-- a run leaves no more than the room of its process
abbrev pub RunsWithin : Type 0
RunsWithin = (d : Design) (p : ℕ) (s : State) → IsValidDesign d → IsStateOf d s → p < length d.processes
    → IsWithin (run_of (process_of d p) s) (room_of d (process_of d p))

-- what a run leaves for later is for variables of the state that it leaves
abbrev pub UpdatesStand : Type 0
UpdatesStand = (d : Design) (p : ℕ) (s : State) → IsValidDesign d → IsStateOf d s → p < length d.processes
    → All (λ part. part.var < length (after d p s)) (run_of (process_of d p) s).updates

-- written parts leave a state of the design
abbrev pub PartsKeepStates : Type 0
PartsKeepStates = (d : Design) (s : State) (ps : List Part) → IsStateOf d s → IsStateOf d (all_written s ps)

-- and so does a word that fits
abbrev pub WordsKeepStates : Type 0
WordsKeepStates = (d : Design) (s : State) (v w n : ℕ) → IsStateOf d s → v < length s → n < 2 ^ (held s v).width
    → IsStateOf d (slice_set s v (record (held s v) { words = slice_set (held s v).words w n }))

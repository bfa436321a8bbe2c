-- The events of the arms of flat statements in preorder (this project's own): the yes arm of an `if` and what is in it, then
-- the no arm; the listed arms of a `case`, then its default, or what is done where no item matches.
use Rattle.std.specs.Prelude.{◌≡◌, ℕ, ◌+◌, Bool, true, false, List, [], ◌∷◌, ◌++◌, Option, Some, None, slice_get}
use Rattle.std.specs.List.{flat_map}
use Rattle.cov_types.specs.declared.place.Place.{Place}
use Rattle.cov_types.specs.declared.kind.ProcessKind.{ProcessKind}
use Rattle.cov_types.specs.declared.kind.ProcessKind.TheVariants as kind
use Rattle.elab_types.specs.declared.arm.ArmRow.{ArmRow}
use Rattle.elab_types.specs.declared.flat_source.FlatProcess.{FlatProcess}
use Rattle.elab_types.specs.declared.flat_statement.FlatStmt.{FlatStmt, fold-FlatStmt}
use Rattle.elab_types.specs.declared.flat_statement.FlatKind.TheOpen as k
use Rattle.source_meaning.specs.Events.{Event, Arm, body, yes_arm, no_arm, case_arm, unwritten, covered}
use Rattle.flat_source_meaning.specs.SourceArms.{event_of_row}
use Rattle.typed_drive_laws.specs.FormedBodies.{is_default}

-- an arm of a `case`: whether it is a default, and its event before those inside
pub record ArmEvents : Type 0 where
  pub is_default : Bool
  pub entered : List Event

-- the events of an arm that isn't the default, and of the default or what is there in its place
abbrev pub unless_default : Bool → List Event → List Event
unless_default true entered = []
unless_default false entered = entered

abbrev pub listed : List ArmEvents → List Event
listed [] = []
listed (a ∷ arms) = unless_default a.is_default a.entered ++ listed arms

abbrev pub default_or : Bool → List Event → List Event → List Event
default_or true entered others = entered
default_or false entered others = others

module _ (scope : ℕ) where
  -- an arm of a place is entered
  abbrev pub entering : Place → Arm → Event
  entering p which = record { scope = scope; place = p; arm = which }

  abbrev pub default_of : Place → List ArmEvents → List Event
  default_of p [] = entering p unwritten ∷ []
  default_of p (a ∷ arms) = default_or a.is_default a.entered (default_of p arms)

  -- those of a statement at a place, by its kind
  abbrev pub kind_events : k.FlatKind-F (Place → List Event) ArmEvents (List Event) → Place → List Event
  kind_events (k.Block stmts last) p = flat_map (λ es. es) stmts
  kind_events (k.If on first None) p = entering p yes_arm ∷ first ++ entering p no_arm ∷ []
  kind_events (k.If on first (Some second)) p = entering p yes_arm ∷ first ++ entering p no_arm ∷ second
  kind_events (k.Case wild on arms) p = listed arms ++ default_of p arms
  kind_events _ p = []

  abbrev pub arm_events : k.FlatArm-F (Place → List Event) ArmEvents (List Event) → ArmEvents
  arm_events a = record { is_default = is_default a.items; entered = entering a.place case_arm ∷ a.body }

  -- those of a statement
  abbrev pub events : FlatStmt → List Event
  events = fold-FlatStmt (Place → List Event) ArmEvents (List Event) kind_events arm_events (λ s. s.what s.place)

-- those of a process, by its kind
abbrev pub events_of_kind : ProcessKind → ℕ → Place → FlatStmt → List Event
events_of_kind kind.Assign scope p st = entering scope p unwritten ∷ []
events_of_kind kind.Cover scope p st = entering scope p covered ∷ []
events_of_kind _ scope p st = entering scope p body ∷ events scope st

abbrev pub process_events : FlatProcess → List Event
process_events p = events_of_kind p.kind p.scope p.place p.body

-- the event that a number stands for: that of its row, and none past the last row
abbrev pub of_row : Option ArmRow → List Event
of_row (Some row) = event_of_row row ∷ []
of_row None = []

abbrev pub events_at : List ArmRow → ℕ → List Event
events_at rows k = of_row (slice_get rows k)

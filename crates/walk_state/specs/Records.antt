-- What of a walk is recorded.
use Rattle.std.specs.Prelude.{◌≡◌, Bool, true, false, List, [], ◌∷◌, map}
use Rattle.std.specs.List.{filter, flat_map}
use Rattle.scope_meaning.specs.Visits.{Visit, Visits, Entry, enters, sees, connects, has_constant, has_row}
use Rattle.scope_meaning.specs.ScopeTrees.{seen_constant}
use Rattle.walk_state.specs.declared.record.Entered.{Entered}
use Rattle.walk_state.specs.declared.record.Record.{Record}
use Rattle.walk_state.specs.declared.record.Record.TheVariants as its

-- a scope that is entered
abbrev pub entry_seen : Entered → Entry
entry_seen e = record { number = e.number; parent = e.parent; path = e.path; module_number = e.in_module; home = e.home }

-- the visits that a record stands for
abbrev pub visits_of : Record → Visits
visits_of (its.Enters e) = enters (entry_seen e) ∷ []
visits_of (its.HasConstants scope constants) = map (has_constant scope) (map seen_constant constants)
visits_of (its.HasRow scope item inner) = has_row scope item inner ∷ []

-- scopes, constants and rows are recorded
abbrev pub is_recorded : Visit → Bool
is_recorded (sees spot) = false
is_recorded (connects making) = false
is_recorded _ = true

-- the records are those of these visits
abbrev pub AreRecorded : Visits → List Record → Type 0
AreRecorded done records = filter is_recorded done ≡ flat_map visits_of records

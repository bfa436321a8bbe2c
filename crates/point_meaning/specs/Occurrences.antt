-- How often a point occurs in a run: its events and its toggles, taken from the whole run.
use Rattle.std.specs.Prelude.{ℕ, ◌+◌, ◌==◌, ◌&&◌, Bool, false, List, length, map, filter, codes}
use Rattle.std.specs.List.{flat_map, range_with_len}
use Rattle.std.specs.Str.{bytes_eq}
use Rattle.cov_types.specs.declared.place.Place.{Place}
use Rattle.circuit_run.specs.States.{State, Bit}
use Rattle.circuit_run.specs.Runs.{Run, all_notes}
use Rattle.circuit_run.specs.Lists.{total, numbered}
use Rattle.circuit_run.specs.Counting.{settled_states, changes}
use Rattle.source_meaning.specs.Events.{Event}
use Rattle.source_meaning.specs.Events as event
use Rattle.cov_points.specs.declared.options.CoverOptions.{CoverOptions}
use Rattle.cov_points.specs.declared.point.PointKind.{PointKind}
use Rattle.cov_points.specs.declared.point.PointKind.TheVariants as kind
use Rattle.cov_points.specs.KeyText.{kind_text}
use Rattle.point_meaning.specs.Source.{Source, Variable, scope_at}
use Rattle.point_meaning.specs.Bits.{bit_comment, has_toggles}
use Rattle.point_meaning.specs.Candidates.{Identity}

-- what is counted of a run: its trace of events and its settled states, both in order of time
pub record Counted : Type 0 where
  pub trace : List Event
  pub settled : List State

-- both of a run of a source
abbrev pub counted_of : Run Event → Counted
counted_of r = record { trace = all_notes r; settled = settled_states r }

-- two kinds are one
abbrev pub is_same_kind : PointKind → PointKind → Bool
is_same_kind a b = bytes_eq (kind_text a) (kind_text b)

-- two places are one
abbrev pub is_same_place : Place → Place → Bool
is_same_place p q = p.file == q.file && p.line == q.line && p.column == q.column

-- something at this place in this scope belongs to the point
abbrev pub is_at : Source → Identity → ℕ → Place → Bool
is_at source point scope place =
    is_same_place place point.place && bytes_eq (scope_at source scope).module_text point.module_text

-- an arm of this type and comment belongs to the point
abbrev pub is_one_of : Identity → PointKind → List ℕ → Bool
is_one_of point k comment = is_same_kind k point.kind && bytes_eq comment point.comment

-- what was entered is the arm of the point; a cover is told by its place, and what has no arm in the text is none
abbrev pub is_arm_of : Identity → event.Arm → Bool
is_arm_of point event.body = is_one_of point kind.Line (codes "block")
is_arm_of point event.case_arm = is_one_of point kind.Line (codes "case")
is_arm_of point event.yes_arm = is_one_of point kind.Branch (codes "if")
is_arm_of point event.no_arm = is_one_of point kind.Branch (codes "else")
is_arm_of point event.covered = is_same_kind kind.User point.kind
is_arm_of point event.unwritten = false

-- the event belongs to the point: its scope, its place and its arm do
abbrev pub is_event_of : Source → Identity → Event → Bool
is_event_of source point e = is_arm_of point e.arm && is_at source point e.scope e.place

-- the bits of a variable, by word and place
abbrev pub bits_in : Variable → List (ℕ × ℕ)
bits_in v = flat_map (λ word. map (λ bit. (word, bit)) (range_with_len 0 v.width)) (range_with_len 0 v.words)

-- a bit of a variable belongs to the point
abbrev pub is_bit_of : Source → CoverOptions → Identity → Variable → ℕ × ℕ → Bool
is_bit_of source options point v b =
    has_toggles options v && is_one_of point kind.Toggle (bit_comment v b.0 b.1) && is_at source point v.scope v.place

-- the bits of a point in all scopes
abbrev pub bits_of : Source → CoverOptions → Identity → List Bit
bits_of source options point =
    flat_map (λ v. map (λ b. record { var = v.0; word = b.0; place = b.1 }) (filter (is_bit_of source options point v.1) (bits_in v.1)))
    (numbered 0 source.variables)

-- how often an arm of the point is entered
abbrev pub event_count : Source → Identity → Counted → ℕ
event_count source point run = length (filter (is_event_of source point) run.trace)

-- how often a bit of the point changes
abbrev pub toggle_count : Source → CoverOptions → Identity → Counted → ℕ
toggle_count source options point run = total (map (changes run.settled) (bits_of source options point))

-- the occurrences of a point: its events and toggles, of which it has one sort alone
abbrev pub occurrences : Source → CoverOptions → Identity → Counted → ℕ
occurrences source options point run = event_count source point run + toggle_count source options point run

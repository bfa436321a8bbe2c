-- The relation between a source and the bytes that a build of it stores.
use Rattle.std.specs.Prelude.{◌≡◌, ℕ, ◌^◌, ◌≤◌, List, map, length, Contains, All}
use Rattle.cov_types.specs.Limits.{most}
use Rattle.cov_types.specs.declared.limit.LimitName.TheVariants.{CvdBytes}
use Rattle.cov_points.specs.declared.point.Point.{Point}
use Rattle.cov_points.specs.KeyText.{key_text}
use Rattle.circuit_run.specs.Runs.{Run, printed}
use Rattle.circuit_run.specs.Ends.{run_end}
use Rattle.source_meaning.specs.Events.{Event}
use Rattle.design_tree.specs.declared.instrumented.PointRow.{PointRow}
use Rattle.design_tree.specs.declared.instrumented.Instrumented.{Instrumented}
use Rattle.design_meaning.specs.Circuit.{circuit_of}
use Rattle.design_meaning.specs.Runs.{row_count}
use Rattle.design_meaning.specs.States.{var_of}
use Rattle.design_meaning.specs.FlowFaults.{Flows}
use Rattle.design_meaning.specs.SettledLaws.{IsRow}
use Rattle.cvd_text.specs.Spelling.{Cvd}
use Rattle.point_meaning.specs.Points.{identity_in, ArePoints}
use Rattle.point_meaning.specs.Occurrences.{counted_of, occurrences}
use Rattle.build_meaning.specs.Given.{Given}
use Rattle.circuit_law.specs.OnlyRuns.{IsOnlyRun}

-- ---- inputs and outputs

-- the width of a variable of the design
abbrev pub width_of : Instrumented → ℕ → ℕ
width_of x v = (var_of x.design v).width

-- the inputs of the design, each with its name and width
abbrev pub inputs_of : Instrumented → List (List ℕ × ℕ)
inputs_of x = map (λ i. (i.name, width_of x i.var)) x.design.inputs

-- the widths of its outputs
abbrev pub outputs_of : Instrumented → List ℕ
outputs_of x = map (width_of x) x.design.outputs

-- ---- runs

-- the counters at the end of a run give each of the points its occurrences in a run of the source
abbrev pub CountsPoints : Given → List Point → Instrumented → Run Event → Run ℕ → Type 0
CountsPoints given points x r counting = (p : Point) (row : PointRow) → Contains points p → Contains x.points row
    → row.key ≡ key_text given.names p
    → row_count x counting row ≡ occurrences given.source given.options (identity_in p) (counted_of r)

-- On these rows the source has exactly one run, and so has the design, which prints what the source's run prints, ends as it
-- does, and counts its points.
pub record RunsAsSource (given : Given) (points : List Point) (x : Instrumented) (rows : List (List ℕ)) : Type 0 where
  pub of_source : Run Event
  pub only : IsOnlyRun given.circuit rows of_source
  pub counting : Run ℕ
  pub alone : IsOnlyRun (circuit_of x.design) rows counting
  pub prints : printed x.design.outputs counting ≡ printed given.circuit.outputs of_source
  pub ends : run_end counting ≡ run_end of_source
  pub counted : CountsPoints given points x of_source counting

-- The bytes are the text of a valid design with counters that flows and has the source's inputs and outputs; its keys are
-- those of the source's points, each once (in byte order, as in each design); and it runs as the source does on all rows of
-- its inputs.
pub record IsBuilt (given : Given) (bytes : List ℕ) : Type 0 where
  pub short : length bytes ≤ most CvdBytes
  pub design : Instrumented
  pub spelled : Cvd design bytes
  pub flows : Flows design.design
  pub inputs : inputs_of design ≡ given.inputs
  pub outputs : outputs_of design ≡ given.outputs
  pub points : List Point
  pub of_source : ArePoints given.source given.options points
  pub keys : map (λ row. row.key) design.points ≡ map (key_text given.names) points
  pub runs : (rows : List (List ℕ)) → All (IsRow design.design) rows → length rows ≤ 2 ^ 32 → RunsAsSource given points design rows

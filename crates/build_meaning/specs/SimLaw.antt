-- What simulating a built design gives: the printed run and the data file of the source's run.
use Rattle.std.specs.Prelude.{◌≡◌, ℕ, ◌^◌, ◌≤◌, List, All, length}
use Rattle.cov_dat.specs.DataText.{count_map, data_text}
use Rattle.circuit_run.specs.Runs.{Run, printed}
use Rattle.circuit_run.specs.Ends.{End, run_end}
use Rattle.source_meaning.specs.Events.{Event}
use Rattle.design_tree.specs.declared.instrumented.Instrumented.{Instrumented}
use Rattle.design_meaning.specs.SettledLaws.{IsRow}
use Rattle.design_meaning.specs.Runs.{IsRun, point_counts}
use Rattle.cvd_text.specs.Spelling.{Cvd}
use Rattle.cvd_text.specs.Laws.{OneDesign}
use Rattle.point_meaning.specs.Occurrences.{counted_of}
use Rattle.point_meaning.specs.RunData.{IsRunData}
use Rattle.build_meaning.specs.Given.{Given}
use Rattle.build_meaning.specs.Built.{IsBuilt}
use Rattle.circuit_law.specs.OnlyRuns.{IsOnlyRun}

-- The text, the end and the data file, with counts in so many bits, are those of the one run of the source on these rows.
pub record AreOfSource (given : Given) (rows : List (List ℕ)) (width : ℕ) (text : List ℕ) (end : End) (data_file : List ℕ) : Type 0 where
  pub run : Run Event
  pub only : IsOnlyRun given.circuit rows run
  pub printed_run : text ≡ printed given.circuit.outputs run
  pub ends : end ≡ run_end run
  pub counted : IsRunData given.source given.options given.names width (counted_of run) data_file

-- What a counted run of a built design prints, how it ends, and its data file are those of the source's one run, for all rows
-- and all numbers of bits. That a text has one design is a premise; it is a law of design files.
abbrev pub BuiltRunsAsSource : Type 0
BuiltRunsAsSource = OneDesign → (given : Given) (bytes : List ℕ) (x : Instrumented) (rows : List (List ℕ)) (width : ℕ)
    (text : List ℕ) (end : End) (counts : List ℕ)
    → IsBuilt given bytes → Cvd x bytes → All (IsRow x.design) rows → length rows ≤ 2 ^ 32 → IsRun x rows text end counts
    → AreOfSource given rows width text end (data_text (count_map (point_counts x width counts)))

-- The build of some files: what is given is what the walk through their design says.
use Rattle.std.specs.Prelude.{◌≡◌, ℕ, List}
use Rattle.vlog_tree.specs.declared.module.SourceFile.{SourceFile}
use Rattle.cov_points.specs.declared.options.CoverOptions.{CoverOptions}
use Rattle.point_meaning.specs.FromWalk.{AreGiven}
use Rattle.build_meaning.specs.Given.{Given}
use Rattle.build_meaning.specs.Built.{IsBuilt}

-- a source of points, a circuit, inputs and outputs that the files' design has, and the names and options of the build
pub record IsGivenOf (files : List SourceFile) (top clock : List ℕ) (names : List (List ℕ)) (options : CoverOptions) (given : Given) : Type 0 where
  pub of_walk : AreGiven files top clock given.source given.circuit given.inputs given.outputs
  pub its_names : given.names ≡ names
  pub its_options : given.options ≡ options

-- The bytes are a build of the files.
abbrev pub IsBuildOf : List SourceFile → List ℕ → List ℕ → List (List ℕ) → CoverOptions → List ℕ → Type 0
IsBuildOf files top clock names options bytes = (given : Given) × IsGivenOf files top clock names options given × IsBuilt given bytes

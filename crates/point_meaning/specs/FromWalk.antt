-- The source of points that the walk through a design gives: its scopes, its variables and the copies of its arms.
use Rattle.std.specs.Prelude.{◌≡◌, ℕ, List, [], map, slice_get, unwrap_or}
use Rattle.std.specs.List.{filter_map}
use Rattle.vlog_tree.specs.declared.module.SourceFile.{SourceFile}
use Rattle.circuit_run.specs.Circuits.{Circuit}
use Rattle.source_meaning.specs.Events.{Event}
use Rattle.elab_types.specs.declared.flat_source.FlatVar.{FlatVar}
use Rattle.elab_types.specs.declared.flat_source.FlatSource.{FlatSource}
use Rattle.elab_types.specs.declared.scope.ScopeTree.{ScopeTree}
use Rattle.scope_meaning.specs.Visits.{Entry}
use Rattle.scope_meaning.specs.ScopeTrees.{entry_of, constants_in, text_of, IsTreeOf}
use Rattle.flat_source_meaning.specs.FlatSources.{IsFlatSource}
use Rattle.flat_source_meaning.specs.Variables as walk
use Rattle.flat_source_meaning.specs.Processes.{Process, AreProcesses}
use Rattle.flat_source_meaning.specs.SourceCircuit.{IsSource, circuit_of_tree}
use Rattle.flat_source_meaning.specs.FlatProcesses.{Numbered, HaveArms}
use Rattle.scope_meaning.specs.Constants.{option_of}
use Rattle.point_meaning.specs.Arms.{point_arm}
use Rattle.point_meaning.specs.Source.{Source, Scope, Copy}
use Rattle.point_meaning.specs.Flat.{variable_of, IsSourceOf}

-- a scope that the walk enters: its path, and the text of its module
abbrev pub scope_entered : walk.Source → Entry → Scope
scope_entered w e = record { path = e.path; module_text = text_of (slice_get w.design e.module_number) (constants_in e.home w.vs) }

-- a copy of an arm as points see it
abbrev pub copy_of : Numbered → Copy
copy_of a = record { scope = a.scope; arm = point_arm a.arm }

-- what points rest on, of files and the walk through their design
abbrev pub source_of : List SourceFile → walk.Source → List Numbered → Source
source_of files w arms = record {
  files = files;
  scopes = map (scope_entered w) (filter_map entry_of w.vs);
  variables = map variable_of w.vars;
  copies = map copy_of arms;
}

-- What the walk through the design of some files says: its processes, and the copies of their arms.
pub record Elaboration (files : List SourceFile) (top clock : List ℕ) : Type 0 where
  pub w : walk.Source
  pub walked : IsSource files top clock w
  pub all : List Process
  pub found : AreProcesses w w.vs all
  pub arms : List Numbered
  pub have : HaveArms 0 all arms

-- The source of points is that of the files' design.
pub record IsPointSource (files : List SourceFile) (top clock : List ℕ) (source : Source) : Type 0 where
  pub elaborated : Elaboration files top clock
  pub same : source ≡ source_of files elaborated.w elaborated.arms

-- ---- what a build is given

-- the name and width of the variable of a number
abbrev pub name_and_width : List FlatVar → ℕ → List ℕ × ℕ
name_and_width vars n = unwrap_or (option_of (λ v. (v.name, v.width)) (slice_get vars n)) ([], 0)

-- its width
abbrev pub width_at : List FlatVar → ℕ → ℕ
width_at vars n = (name_and_width vars n).1

-- What a build is given: the source of points, the circuit, the inputs with their names and widths, and the widths of the
-- outputs are those of one walk through the files' design.
pub record AreGiven (files : List SourceFile) (top clock : List ℕ) (source : Source) (circuit : Circuit Event)
    (inputs : List (List ℕ × ℕ)) (outputs : List ℕ) : Type 0 where
  pub elaborated : Elaboration files top clock
  pub points : source ≡ source_of files elaborated.w elaborated.arms
  pub runs : circuit ≡ circuit_of_tree elaborated.w elaborated.walked.walk.top_module.ports elaborated.all
  pub its_inputs : inputs ≡ map (name_and_width elaborated.w.vars) circuit.inputs
  pub its_outputs : outputs ≡ map (width_at elaborated.w.vars) circuit.outputs

-- What the tree and the flat source of some files say of points is what the walk says.
abbrev pub RowsAreOfTheWalk : Type 0
RowsAreOfTheWalk = (files : List SourceFile) (top clock : List ℕ) (tree : ScopeTree) (flat : FlatSource) (source : Source)
    → IsTreeOf files top tree → IsFlatSource files top clock flat → IsPointSource files top clock source → IsSourceOf files tree flat source

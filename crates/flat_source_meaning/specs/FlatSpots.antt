-- The places at which a flat source can be refused, and what is read and written there.
use Rattle.std.specs.Prelude.{◌≡◌, Bool, true, false, List, [], ◌∷◌, ◌++◌, map, Option, Some, None}
use Rattle.std.specs.List.{flat_map}
use Rattle.vlog_tree.specs.declared.expression.Expr.{Expr}
use Rattle.vlog_tree.specs.declared.statement.Stmt.{Stmt}
use Rattle.vlog_tree.specs.declared.statement.StmtKind.TheOpen as o
use Rattle.vlog_tree.specs.declared.statement.CaseArm.{out-CaseArm}
use Rattle.vlog_tree.specs.declared.item.Item.{Item}
use Rattle.vlog_tree.specs.declared.item.ItemKind.TheOpen as i
use Rattle.vlog_tree.specs.declared.module.Port.{Port}
use Rattle.cov_types.specs.declared.kind.ProcessKind.{ProcessKind}
use Rattle.cov_types.specs.declared.kind.ProcessKind.TheVariants as kind
use Rattle.scope_meaning.specs.Scope.{Here, At}
use Rattle.vlog_tree.specs.Trees.{Layer, layer, StmtLayer}
use Rattle.scope_meaning.specs.Visits.{Visits, Visit, sees, connects, a_port, an_item, Making}
use Rattle.elab_types.specs.declared.flat_source.FlatVar.{FlatVar}
use Rattle.flat_source_meaning.specs.Environments.{Inside, outside_loops, inside_pass}
use Rattle.flat_source_meaning.specs.ProcessLoops.{ProcessLoop}
use Rattle.flat_source_meaning.specs.Processes.{always_kind}
use Rattle.flat_source_meaning.specs.Copies.{Copy, IsCopied}

-- a port, an item, an instance, or a copy of a statement in a process of a kind
pub data FlatSpot : Type 0 where
  at_port : Here → At → Port → FlatSpot
  at_item : Here → At → Item → FlatSpot
  at_instance : Making → FlatSpot
  at_copy : ProcessKind → Copy → FlatSpot

-- the spot of a visit itself
abbrev pub own_spots : Visit → List FlatSpot
own_spots (sees (a_port here at p)) = at_port here at p ∷ []
own_spots (sees (an_item here at a)) = at_item here at a ∷ []
own_spots (connects m) = at_instance m ∷ []
own_spots _ = []

-- a process with statements: its kind and its body
abbrev pub body_of : Layer → Option (ProcessKind × Stmt)
body_of (i.Initial body) = Some (kind.Initial, body)
body_of (i.Always clock body) = Some (always_kind clock, body)
body_of _ = None

-- the body of a process, with its kind and where it stands
pub record Body : Type 0 where
  pub kind : ProcessKind
  pub inside : Inside
  pub stmt : Stmt

-- it, where it stands
abbrev pub with_body : Inside → Option (ProcessKind × Stmt) → Option Body
with_body inside (Some b) = Some (record { kind = b.0; inside = inside; stmt = b.1 })
with_body inside None = None

-- the process with statements at a visit
abbrev pub body_at : List FlatVar → Visit → Option Body
body_at vars (sees (an_item here at a)) = with_body (outside_loops vars here at) (body_of (layer a))
body_at vars _ = None

-- The spots of some visits, in order; they may end in a process.
pub data AreSpots (vars : List FlatVar) : Visits → List FlatSpot → Bool → Type 0 where
  none : AreSpots vars [] [] true
  without_process : {v : Visit} {vs : Visits} {spots : List FlatSpot} {whole : Bool}
      → body_at vars v ≡ None → AreSpots vars vs spots whole → AreSpots vars (v ∷ vs) (own_spots v ++ spots) whole
  with_process : {v : Visit} {vs : Visits} {b : Body} {cs : List Copy} {spots : List FlatSpot} {whole : Bool}
      → body_at vars v ≡ Some b → IsCopied b.inside b.stmt cs true → AreSpots vars vs spots whole
      → AreSpots vars (v ∷ vs) (own_spots v ++ map (at_copy b.kind) cs ++ spots) whole
  ends_in_process : {v : Visit} {vs : Visits} {b : Body} {cs : List Copy}
      → body_at vars v ≡ Some b → IsCopied b.inside b.stmt cs false → AreSpots vars (v ∷ vs) (own_spots v ++ map (at_copy b.kind) cs) false

-- ---- what stands at a spot

-- an expression and where its names are looked up
abbrev pub Read : Type 0
Read = Inside × Expr

-- the head of a loop: its test and step stand inside it
abbrev pub head_reads : Inside → ProcessLoop → List Read
head_reads inside l = (inside, l.from) ∷ (inside_pass inside l.name 0, l.test) ∷ (inside_pass inside l.name 0, l.step) ∷ []

-- what is read by a statement itself, but for the heads of loops
abbrev pub read_by : StmtLayer → List Expr
read_by (o.If test first other) = test ∷ []
read_by (o.Case wild on arms) = on ∷ flat_map (λ arm. (out-CaseArm arm).items) arms
read_by (o.Set target value) = value ∷ []
read_by (o.Later target value) = value ∷ []
read_by (o.Show text values) = values
read_by _ = []

-- the targets of a statement itself
abbrev pub written_by : StmtLayer → List Expr
written_by (o.Set target value) = target ∷ []
written_by (o.Later target value) = target ∷ []
written_by _ = []

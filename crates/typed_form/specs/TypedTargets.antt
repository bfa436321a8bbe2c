-- The typed form of a target (this project's own): its targets, the highest part first.
use Rattle.std.specs.Prelude.{ℕ, true, false, List, [], ◌∷◌, ◌++◌}
use Rattle.elab_types.specs.declared.flat_source.FlatVar.{FlatVar}
use Rattle.elab_types.specs.declared.flat_expression.FlatExpr.{FlatExpr}
use Rattle.elab_types.specs.declared.flat_expression.FlatExpr.TheVariants as e
use Rattle.elab_types.specs.declared.flat_expression.FlatSelect.{FlatSelect}
use Rattle.elab_types.specs.declared.flat_expression.FlatSelect.TheVariants as select
use Rattle.design_tree.specs.declared.typed.Index.{Index}
use Rattle.design_tree.specs.declared.typed.Typed.{Typed}
use Rattle.design_tree.specs.declared.step.Target.{Target}
use Rattle.design_tree.specs.declared.step.Target.TheVariants as target
use Rattle.typed_form.specs.TypedExpressions.{IsVariable, IsTypedAlone, IsPosition, index, signed}

mutual
  -- a name, a word of a memory, bits of either, or several in braces
  pub data AreTargets (vars : List FlatVar) : FlatExpr → List Target → Type 0 where
    whole : {k : ℕ} {v : FlatVar} → IsVariable vars k false v → AreTargets vars (e.Var k) (target.Whole k ∷ [])
    word : {k : ℕ} {v : FlatVar} {i : FlatExpr} {a : Typed}
        → IsVariable vars k true v → IsTypedAlone vars i a
        → AreTargets vars (e.Select (e.Var k) (select.At i)) (target.Word k (index v.word_low (signed vars i) a) ∷ [])
    part : {k w : ℕ} {v : FlatVar} {s : FlatSelect} {at : Index}
        → IsVariable vars k false v → IsPosition vars v.low s w at → AreTargets vars (e.Select (e.Var k) s) (target.Part k w at ∷ [])
    word_part : {w : ℕ} (k : ℕ) {v : FlatVar} (i : FlatExpr) {s : FlatSelect} {a : Typed} {at : Index}
        → IsVariable vars k true v → IsTypedAlone vars i a → IsPosition vars v.low s w at
        → AreTargets vars (e.Select (e.Select (e.Var k) (select.At i)) s) (target.WordPart k (index v.word_low (signed vars i) a) w at ∷ [])
    join : {parts : List FlatExpr} {ts : List Target} → AreTargetsOfAll vars parts ts → AreTargets vars (e.Join parts) ts

  -- those of several targets, the first ones highest
  pub data AreTargetsOfAll (vars : List FlatVar) : List FlatExpr → List Target → Type 0 where
    none : AreTargetsOfAll vars [] []
    more : {of : FlatExpr} {rest : List FlatExpr} {ts us : List Target}
        → AreTargets vars of ts → AreTargetsOfAll vars rest us → AreTargetsOfAll vars (of ∷ rest) (ts ++ us)

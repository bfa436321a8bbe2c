-- The value of a constant, from what reading its copy gives.
use Rattle.std.proofs.Common.{◌≡◌, ◌∙◌, sym, ap, subst, Bool, true, false, not, ◌||◌, Option, Some, None, Result, Ok, Err, List}
use Rattle.vlog_tree.specs.declared.expression.Expr.{Expr}
use Rattle.elab_types.specs.declared.flat_source.FlatVar.{FlatVar}
use Rattle.elab_types.specs.declared.flat_expression.FlatExpr.{FlatExpr}
use Rattle.source_meaning.specs.Meaning.{Meaning}
use Rattle.scope_meaning.specs.Constants.{Wrong, Read, is_wrong, read}
use Rattle.flat_meaning.specs.Expressions.{meaning}
use Rattle.elab_constants.specs.declared.fault.ConstantFault.{ConstantFault}
use Rattle.elab_constants.specs.declared.fault.ConstantFault.TheVariants.{NotConstant, BadSelect, WidthPast128, NoMemory}
use Rattle.elab_constants.specs.declared.sized.SizedTerm.{SizedTerm}
use Rattle.elab_constants.specs.Faults.{first_wrong}
use Rattle.elab_constants.specs.Sized.{IsSized}
use Rattle.elab_constants.specs.Reads.{Reads, IsFault}
use Rattle.elab_constants.proofs.Faults.{first, none_some}
use Rattle.lower_meaning.specs.Constants.{nameless, said, is_right}
use Rattle.lower_meaning.proofs.RightLaws.{right}
use Rattle.flat_constants.specs.declared.value.FixedValue.{FixedValue}
use Rattle.flat_constants.specs.Values.{IsValue, GivesValue, GivesTerm, IsRightAs}

calm : (b : Bool) → not b ≡ true → b ≡ false
calm true h = sym h
calm false h = cc

-- where nothing is wrong there is no first thing that is
no_first : (n s w : Bool) → ((n || s) || w) ≡ false → first n s w ≡ None
no_first true s w h = cc
no_first false true w h = cc
no_first false false true h = cc
no_first false false false h = cc

none_wrong : (w : Wrong) → is_wrong w ≡ false → first_wrong w ≡ None
none_wrong w h = no_first w.name w.select w.wide h

-- no fault is told of what is right
no_fault : (m : Meaning) (w : Wrong) (f : ConstantFault) → is_wrong w ≡ false → IsFault w f → GivesTerm m (Err f)
no_fault m w NoMemory h k = tt
no_fault m w NotConstant h k = none_some NotConstant (sym (none_wrong w h) ∙ k)
no_fault m w BadSelect h k = none_some BadSelect (sym (none_wrong w h) ∙ k)
no_fault m w WidthPast128 h k = none_some WidthPast128 (sym (none_wrong w h) ∙ k)

-- what reading gives of what is right
pub term_given : (y : Expr) (m : Meaning) (r : Result SizedTerm ConstantFault) → IsRightAs y m → Reads (read nameless y) r → GivesTerm m r
term_given y m (Ok t) h k = let P : Meaning → Type 0 = λ z. IsSized z t in subst P h.means k.1
term_given y m (Err f) h k = no_fault m (read nameless y).wrong f h.right k

-- a fault of reading is one of the value
pub fault_given : (m : Meaning) (f : ConstantFault) → GivesTerm m (Err f) → GivesValue m (Err f)
fault_given m NoMemory h = tt
fault_given m NotConstant h = h
fault_given m BadSelect h = h
fault_given m WidthPast128 h = h

pub of_err : (m : Meaning) (x : Result SizedTerm ConstantFault) (f : ConstantFault) → x ≡ Err f → GivesTerm m x → GivesValue m (Err f)
of_err m x f i h = let P : Result SizedTerm ConstantFault → Type 0 = GivesTerm m in fault_given m f (subst P i h)

pub of_ok : (m : Meaning) (x : Result SizedTerm ConstantFault) (t : SizedTerm) (v : FixedValue) → x ≡ Ok t → ((n : Meaning) → IsSized n t → IsValue n v)
    → GivesTerm m x → IsValue m v
of_ok m x t v i make h = let P : Result SizedTerm ConstantFault → Type 0 = GivesTerm m in make m (subst P i h)

-- the copy of a constant is one, and means what it means
pub right_copy : (vars : List FlatVar) (a : FlatExpr) (y : Expr) → read nameless y ≡ said a → is_right a ≡ true → IsRightAs y (meaning vars a)
right_copy vars a y e h =
    let w = calm (is_wrong (said a).wrong) h in
    record { right = ap (λ r. is_wrong r.wrong) e ∙ w; means = ap (λ r. r.meaning) e ∙ (right vars a w).means }

-- What reading an expression of the head of a loop gives.
use Rattle.std.proofs.Common.{◌≡◌, ap, refl, subst, Bool, true, false, ◌||◌, not, cond, Option, Some, None, Ok}
use Rattle.vlog_tree.specs.declared.expression.Expr.{Expr}
use Rattle.source_meaning.specs.Meaning.{Meaning}
use Rattle.source_meaning.specs.Environment.{Environment}
use Rattle.scope_meaning.specs.Constants.{read}
use Rattle.flat_source_meaning.specs.FixedParts.{is_constant}
use Rattle.elab_constants.specs.declared.fault.ConstantFault.{ConstantFault}
use Rattle.elab_constants.specs.declared.fault.ConstantFault.TheVariants.{NotConstant, BadSelect, WidthPast128}
use Rattle.elab_constants.specs.declared.sized.SizedTerm.{SizedTerm}
use Rattle.elab_constants.specs.Faults.{first_wrong}
use Rattle.elab_constants.specs.Sized.{IsSized}
use Rattle.elab_constants.specs.Reads.{Reads}
use Rattle.flat_passes.specs.Says.{Says, IsTerm}
use Rattle.flat_passes.proofs.Readings.{read_means}

abbrev first : Bool → Bool → Bool → Option ConstantFault
first n s w = cond n (Some NotConstant) (cond s (Some BadSelect) (cond w (Some WidthPast128) None))

right : (n s w : Bool) → first n s w ≡ None → ((n || s) || w) ≡ false
right true s w e = cc
right false true w e = cc
right false false true e = cc
right false false false e = refl

wrong : (n s w : Bool) (f : ConstantFault) → first n s w ≡ Some f → ((n || s) || w) ≡ true
wrong true s w f e = refl
wrong false true w f e = refl
wrong false false true f e = refl
wrong false false false f e = cc

pub term_there : (env : Environment) (e : Expr) (t : SizedTerm) → Reads (read env e) (Ok t) → IsTerm env e (Some t)
term_there env e t h =
    let w = (read env e).wrong in
    (ap not (right w.name w.select w.wide h.0), subst (λ (m : Meaning). IsSized m t) (read_means env e) h.1)

pub not_there : (env : Environment) (e : Expr) (f : ConstantFault) → first_wrong (read env e).wrong ≡ Some f → is_constant env e ≡ false
not_there env e f h =
    let w = (read env e).wrong in
    ap not (wrong w.name w.select w.wide f h)

pub says_some : {A : Type 0} (is_one : Bool) (a : A) (o : Option A) (b : A) → o ≡ Some b → Says is_one a o → (is_one ≡ true) × (b ≡ a)
says_some {A} is_one a o b e h = subst (λ (x : Option A). Says is_one a x) e h

pub says_none : {A : Type 0} (is_one : Bool) (a : A) (o : Option A) → o ≡ None → Says is_one a o → is_one ≡ false
says_none {A} is_one a o e h = subst (λ (x : Option A). Says is_one a x) e h

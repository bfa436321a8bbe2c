-- What copying gives, by what copying the parts gives.
use Rattle.std.proofs.Common.{◌≡◌, ◌∙◌, sym, ap, refl, subst, ℕ, Bool, true, false, ◌||◌, List, [], ◌∷◌, ◌++◌, Result, Ok, Err}
use Rattle.std.specs.Global.{Vec}
use Rattle.vlog_tree.specs.declared.expression.Expr.{Expr}
use Rattle.vlog_tree.specs.declared.expression.Expr.TheVariants as e
use Rattle.elab_types.specs.declared.flat_source.FlatVar.{FlatVar}
use Rattle.elab_types.specs.declared.flat_expression.FlatExpr.{FlatExpr}
use Rattle.elab_types.specs.declared.flat_expression.FlatExpr.TheVariants as f
use Rattle.source_meaning.specs.Environment.{Named, variable, constant, unknown, Environment}
use Rattle.flat_meaning.specs.Expressions.{looked_up}
use Rattle.flat_meaning.specs.FlatForm.{IsFlat, of_variable, of_constant, AreFlat, no_exprs, more_exprs}
use Rattle.flat_expressions.specs.declared.fault.CopyFault.{CopyFault}
use Rattle.flat_expressions.specs.declared.fault.CopyFault.TheVariants as fault
use Rattle.flat_expressions.specs.declared.resolved.Resolved.TheVariants as is
use Rattle.flat_expressions.specs.Resolved.{IsResolved}
use Rattle.flat_expressions.specs.Copies.{is_unknown, lacks, Copied, Makes, MakesList, both}

-- ---- one part

pub made : {A : Type 0} (R : A → Type 0) (l : Bool) (y : A) (r : Result A CopyFault) → R y → Makes y r → Copied R l r
made R l y (Ok z) h m = subst R (sym m) h
made R l y (Err fault.NoMemory) h m = tt
made R l y (Err fault.Unknown) h m = absurd m

pub made_list : {A : Type 0} (R : List A → Type 0) (l : Bool) (ys : List A) (r : Result (Vec A) CopyFault) → R ys → MakesList ys r
    → Copied (λ (v : Vec A). R v.items) l r
made_list R l ys (Ok v) h m = subst R (sym m) h
made_list R l ys (Err fault.NoMemory) h m = tt
made_list R l ys (Err fault.Unknown) h m = absurd m

pub one_made : {A C : Type 0} (P : A → Type 0) (R : C → Type 0) (l : Bool) (of : Result A CopyFault) (x : A) (y : C) (r : Result C CopyFault)
    → of ≡ Ok x → Copied P l of → (P x → R y) → Makes y r → Copied R l r
one_made P R l of x y r e h k m = made R l y r (k (subst (Copied P l) e h)) m

-- a fault of another thing
failed : {A C : Type 0} (P : A → Type 0) (R : C → Type 0) (l m : Bool) (g : CopyFault) → (l ≡ true → m ≡ true) → Copied P l (Err g) → Copied R m (Err g)
failed P R l m fault.NoMemory k h = tt
failed P R l m fault.Unknown k h = k h

pub one_fails : {A C : Type 0} (P : A → Type 0) (R : C → Type 0) (l : Bool) (of : Result A CopyFault) (g : CopyFault)
    → of ≡ Err g → Copied P l of → Copied R l (Err g)
one_fails P R l of g e h = failed P R l l g (λ k. k) (subst (Copied P l) e h)

-- ---- two parts

left : (a b : Bool) → a ≡ true → (a || b) ≡ true
left true b e = refl
left false b e = cc

right : (a b : Bool) → b ≡ true → (a || b) ≡ true
right true b e = refl
right false b e = e

abbrev Two : {A B : Type 0} → (A → Type 0) → (B → Type 0) → A × B → Type 0
Two P Q p = P p.0 × Q p.1

pub both_copied : {A B : Type 0} (P : A → Type 0) (Q : B → Type 0) (l m : Bool) (a : Result A CopyFault) (b : Result B CopyFault)
    → Copied P l a → Copied Q m b → Copied (Two P Q) (l || m) (both a b)
both_copied P Q l m (Ok a) (Ok b) h k = (h, k)
both_copied P Q l m (Ok a) (Err g) h k = failed Q (Two P Q) m (l || m) g (right l m) k
both_copied P Q l m (Err g) (Ok b) h k = failed P (Two P Q) l (l || m) g (left l m) h
both_copied P Q l m (Err g) (Err f) h k = failed P (Two P Q) l (l || m) g (left l m) h

pub two_made : {A B C : Type 0} (P : A → Type 0) (Q : B → Type 0) (R : C → Type 0) (l m : Bool) (one : Result A CopyFault) (other : Result B CopyFault)
    (all : Result (A × B) CopyFault) (x : A) (x' : B) (y : C) (r : Result C CopyFault)
    → all ≡ both one other → all ≡ Ok (x, x') → Copied P l one → Copied Q m other → (P x → Q x' → R y) → Makes y r → Copied R (l || m) r
two_made P Q R l m one other all x x' y r e s h k f g =
    let p : Two P Q (x, x') = subst (Copied (Two P Q) (l || m)) (sym e ∙ s) (both_copied P Q l m one other h k) in
    made R (l || m) y r (f p.0 p.1) g

pub two_fail : {A B C : Type 0} (P : A → Type 0) (Q : B → Type 0) (R : C → Type 0) (l m : Bool) (one : Result A CopyFault) (other : Result B CopyFault)
    (all : Result (A × B) CopyFault) (g : CopyFault)
    → all ≡ both one other → all ≡ Err g → Copied P l one → Copied Q m other → Copied R (l || m) (Err g)
two_fail P Q R l m one other all g e s h k =
    failed (Two P Q) R (l || m) (l || m) g (λ x. x) (subst (Copied (Two P Q) (l || m)) (sym e ∙ s) (both_copied P Q l m one other h k))

-- ---- three parts

pub three_made : {A B D C : Type 0} (P : A → Type 0) (Q : B → Type 0) (S : D → Type 0) (R : C → Type 0) (l m n : Bool)
    (one : Result A CopyFault) (other : Result B CopyFault) (third : Result D CopyFault) (first : Result (A × B) CopyFault)
    (all : Result ((A × B) × D) CopyFault) (x : A × B) (x' : D) (y : C) (r : Result C CopyFault)
    → first ≡ both one other → all ≡ both first third → all ≡ Ok (x, x') → Copied P l one → Copied Q m other → Copied S n third
    → (P x.0 → Q x.1 → S x' → R y) → Makes y r → Copied R (l || m || n) r
three_made P Q S R l m n one other third first all x x' y r e d s h k j f g =
    two_made (Two P Q) S R (l || m) n first third all x x' y r d s (subst (Copied (Two P Q) (l || m)) (sym e) (both_copied P Q l m one other h k)) j
    (λ p q. f p.0 p.1 q) g

pub three_fail : {A B D C : Type 0} (P : A → Type 0) (Q : B → Type 0) (S : D → Type 0) (R : C → Type 0) (l m n : Bool)
    (one : Result A CopyFault) (other : Result B CopyFault) (third : Result D CopyFault) (first : Result (A × B) CopyFault)
    (all : Result ((A × B) × D) CopyFault) (g : CopyFault)
    → first ≡ both one other → all ≡ both first third → all ≡ Err g → Copied P l one → Copied Q m other → Copied S n third
    → Copied R (l || m || n) (Err g)
three_fail P Q S R l m n one other third first all g e d s h k j =
    two_fail (Two P Q) S R (l || m) n first third all g d s (subst (Copied (Two P Q) (l || m)) (sym e) (both_copied P Q l m one other h k)) j

-- ---- a name

pub as_variable : (vars : List FlatVar) (env : Environment) (name : List ℕ) (n : ℕ) → IsResolved vars (env.look name) (is.Variable n)
    → IsFlat vars env (e.Name name) (f.Var n)
as_variable vars env name n h = by (env.look name) refl h
  where
    by : (x : Named) → env.look name ≡ x → IsResolved vars x (is.Variable n) → IsFlat vars env (e.Name name) (f.Var n)
    by (variable v) e k = of_variable e k
    by (constant w sg x) e k = absurd k
    by unknown e k = absurd k

pub as_constant : (vars : List FlatVar) (env : Environment) (name : List ℕ) (w x : ℕ) (sg : Bool)
    → IsResolved vars (env.look name) (is.Constant w sg x) → IsFlat vars env (e.Name name) (f.Number w sg x 0)
as_constant vars env name w x sg h = by (env.look name) refl h
  where
    by : (y : Named) → env.look name ≡ y → IsResolved vars y (is.Constant w sg x) → IsFlat vars env (e.Name name) (f.Number w sg x 0)
    by (variable v) e k = absurd k
    by (constant v tg y) e k =
        of_constant (e ∙ ap (λ a. constant a tg y) (sym k.0) ∙ ap (λ b. constant w b y) (sym k.1) ∙ ap (constant w sg) (sym k.2))
    by unknown e k = absurd k

pub as_nothing : (vars : List FlatVar) (env : Environment) (name : List ℕ) → IsResolved vars (env.look name) is.Nothing → lacks env (name ∷ []) ≡ true
as_nothing vars env name h = by (env.look name) refl h
  where
    by : (y : Named) → env.look name ≡ y → IsResolved vars y is.Nothing → (is_unknown (env.look name) || false) ≡ true
    by (variable v) e k = absurd k
    by (constant v tg y) e k = absurd k
    by unknown e k = ap (λ (y : Named). is_unknown y || false) e

-- ---- a list

pub flat_more : (vars : List FlatVar) (env : Environment) (p : Expr) (x : FlatExpr) {ps : List Expr} {xs : List FlatExpr} → AreFlat vars env ps xs
    → IsFlat vars env p x → AreFlat vars env (ps ++ p ∷ []) (xs ++ x ∷ [])
flat_more vars env p x no_exprs k = more_exprs k no_exprs
flat_more vars env p x (more_exprs h hs) k = more_exprs h (flat_more vars env p x hs k)

pub part_more : (vars : List FlatVar) (env : Environment) (ps : List Expr) (p : Expr) (l m : Bool) (so_far : Result (Vec FlatExpr) CopyFault)
    (part : Result FlatExpr CopyFault) (all : Result (Vec FlatExpr × FlatExpr) CopyFault) (v : Vec FlatExpr) (x : FlatExpr)
    (r : Result (Vec FlatExpr) CopyFault) → all ≡ both so_far part → all ≡ Ok (v, x)
    → Copied (λ (w : Vec FlatExpr). AreFlat vars env ps w.items) l so_far → Copied (IsFlat vars env p) m part → MakesList (v.items ++ x ∷ []) r
    → Copied (λ (w : Vec FlatExpr). AreFlat vars env (ps ++ p ∷ []) w.items) (l || m) r
part_more vars env ps p l m so_far part all v x r e s h k g =
    let P : Vec FlatExpr → Type 0 = λ w. AreFlat vars env ps w.items in
    let q : Two P (IsFlat vars env p) (v, x) =
    subst (Copied (Two P (IsFlat vars env p)) (l || m)) (sym e ∙ s) (both_copied P (IsFlat vars env p) l m so_far part h k) in
    made_list (AreFlat vars env (ps ++ p ∷ [])) (l || m) (v.items ++ x ∷ []) r (flat_more vars env p x q.0 q.1) g

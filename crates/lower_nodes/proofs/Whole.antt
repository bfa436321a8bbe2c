-- What reading an expression gives, from what reading its parts gives.
use Rattle.std.proofs.Common.{◌≡◌, ◌∙◌, sym, subst, Bool, true, ◌&&◌, List, [], ◌∷◌, ◌++◌, map, Result, Ok, Err}
use Rattle.std.specs.Prelude.{IfOk}
use Rattle.std.specs.declared.alloc.AllocError.{AllocError}
use Rattle.vlog_tree.specs.declared.operator.UnaryOp.{UnaryOp}
use Rattle.vlog_tree.specs.declared.operator.BinaryOp.{BinaryOp}
use Rattle.vlog_tree.specs.declared.operator.UnaryOp.TheVariants.{Plus, Minus, Complement}
use Rattle.design_tree.specs.declared.operator.TypedUnary.TheVariants as one
use Rattle.elab_types.specs.declared.flat_source.FlatVar.{FlatVar}
use Rattle.elab_types.specs.declared.flat_expression.FlatExpr.{FlatExpr}
use Rattle.elab_types.specs.declared.flat_expression.FlatExpr.TheVariants as e
use Rattle.flat_meaning.specs.Faults.{check, all_selects, all_sizes}
use Rattle.lower_forms.specs.declared.sized.SizedForm.{SizedForm}
use Rattle.lower_meaning.specs.SoundExpressions.{has_some}
use Rattle.lower_nodes.specs.declared.fault.ExpressionFault.{ExpressionFault}
use Rattle.lower_nodes.specs.declared.fault.ExpressionFault.TheVariants.{BadSelect, WidthPast128, NoMemory}
use Rattle.lower_nodes.specs.declared.braces.Parts.{Parts}
use Rattle.lower_nodes.specs.Faults.{both, kept}
use Rattle.lower_nodes.specs.Operators.{IsWaiting, IsReduced, IsBinary, IsChoice, IsSigned, sign_call}
use Rattle.lower_nodes.specs.Joins.{ArePartsOf, Gathers, IsJoining, IsJoined, IsWith}
use Rattle.lower_nodes.specs.Reads.{Gives, IsForm, Lowers, MakesForm}
use Rattle.lower_nodes.proofs.Flags.{Flags, fails, reads, gives_both}
use Rattle.lower_nodes.proofs.NodeFlags.{unary_flags, binary_flags, choose_flags, call_flags, join_flags}
use Rattle.lower_nodes.proofs.Unaries.{plus_form, minus_form, complement_form, reduced_form}
use Rattle.lower_nodes.proofs.Binaries.{binary_form, choice_form}
use Rattle.lower_nodes.proofs.Others.{signed_form, join_reads, join_wide, gather_reads}

abbrev pub Reading : Type 0
Reading = Result SizedForm ExpressionFault

abbrev pub Two : Type 0
Two = SizedForm × SizedForm

abbrev pub Three : Type 0
Three = SizedForm × (SizedForm × SizedForm)

-- a fault of joining
pub joined_err : (parts : Parts) (f : ExpressionFault) → IsJoining parts (Err f) → IsJoined parts (Err f)
joined_err parts NoMemory h = tt
joined_err parts BadSelect h = absurd h
joined_err parts WidthPast128 h = h

module _ (vars : List FlatVar) where
  -- a form that is made of parts, of which nothing is refused
  made_reads : {A : Type 0} (P : A → Type 0) (a : FlatExpr) (s z : Bool) (x : A) (m : Result SizedForm AllocError) (r : Reading) → Flags vars a s z
      → Gives s z P (Ok x) → MakesForm vars a m → r ≡ kept m → Lowers vars a r
  made_reads P a s z x (Ok t) r g h k i = let Q : Reading → Type 0 = Lowers vars a in subst Q (sym i) (reads vars P a s z x t g h k)
  made_reads P a s z x (Err f) r g h k i = let Q : Reading → Type 0 = Lowers vars a in subst Q (sym i) tt

  -- ---- one part

  pub unary_reads : (op : UnaryOp) (a : FlatExpr) (x : Reading) (of : SizedForm) (m : Result SizedForm AllocError) (r : Reading) → x ≡ Ok of → Lowers vars a x
      → (IsForm vars a of → MakesForm vars (e.Unary op a) m) → r ≡ kept m → Lowers vars (e.Unary op a) r
  unary_reads op a x of m r i h k j =
      let Q : Reading → Type 0 = Lowers vars a in
      let g = subst Q i h in
      made_reads (IsForm vars a) (e.Unary op a) (check vars a).selects (check vars a).sizes of m r (unary_flags vars op a) g (k g.2) j

  pub unary_fails : (op : UnaryOp) (a : FlatExpr) (x : Reading) (f : ExpressionFault) → x ≡ Err f → Lowers vars a x → Lowers vars (e.Unary op a) (Err f)
  unary_fails op a x f i h =
      let Q : Reading → Type 0 = Lowers vars a in
      fails vars (IsForm vars a) (IsForm vars (e.Unary op a)) (e.Unary op a) (check vars a).selects (check vars a).sizes f (unary_flags vars op a)
      (subst Q i h)

  call_made : (s : Bool) (a : FlatExpr) (of : SizedForm) (m : Result SizedForm AllocError) → IsForm vars a of → IfOk m (λ t. IsSigned s of t)
      → MakesForm vars (e.Call (sign_call s) a) m
  call_made s a of (Ok t) h k = signed_form vars s a of t h k
  call_made s a of (Err f) h k = tt

  pub call_reads : (s : Bool) (a : FlatExpr) (x : Reading) (of : SizedForm) (m : Result SizedForm AllocError) (r : Reading) → x ≡ Ok of → Lowers vars a x
      → IfOk m (λ t. IsSigned s of t) → r ≡ kept m → Lowers vars (e.Call (sign_call s) a) r
  call_reads s a x of m r i h k j =
      let Q : Reading → Type 0 = Lowers vars a in
      let g = subst Q i h in
      made_reads (IsForm vars a) (e.Call (sign_call s) a) (check vars a).selects (check vars a).sizes of m r (call_flags vars (sign_call s) a) g
      (call_made s a of m g.2 k) j

  pub call_fails : (s : Bool) (a : FlatExpr) (x : Reading) (f : ExpressionFault) → x ≡ Err f → Lowers vars a x → Lowers vars (e.Call (sign_call s) a) (Err f)
  call_fails s a x f i h =
      let Q : Reading → Type 0 = Lowers vars a in
      fails vars (IsForm vars a) (IsForm vars (e.Call (sign_call s) a)) (e.Call (sign_call s) a) (check vars a).selects (check vars a).sizes f
      (call_flags vars (sign_call s) a) (subst Q i h)

  plus_ok : (a : FlatExpr) (x : SizedForm) → IsForm vars a x → MakesForm vars (e.Unary Plus a) (Ok x)
  plus_ok a x h = plus_form vars a x h

  -- the form of an operator that is known
  pub plus_made : (op : UnaryOp) (a : FlatExpr) (x : SizedForm) → op ≡ Plus → IsForm vars a x → MakesForm vars (e.Unary op a) (Ok x)
  plus_made op a x i h =
      let Q : UnaryOp → Type 0 = λ o. MakesForm vars (e.Unary o a) (Ok x) in
      subst Q (sym i) (plus_ok a x h)

  pub minus_made : (op : UnaryOp) (a : FlatExpr) (x : SizedForm) (m : Result SizedForm AllocError) → op ≡ Minus → IsForm vars a x
      → IfOk m (λ t. IsWaiting one.Neg x t) → MakesForm vars (e.Unary op a) m
  minus_made op a x (Ok t) i h k =
      let Q : UnaryOp → Type 0 = λ o. IsForm vars (e.Unary o a) t in
      subst Q (sym i) (minus_form vars a x t h k)
  minus_made op a x (Err f) i h k = tt

  pub complement_made : (op : UnaryOp) (a : FlatExpr) (x : SizedForm) (m : Result SizedForm AllocError) → op ≡ Complement → IsForm vars a x
      → IfOk m (λ t. IsWaiting one.Not x t) → MakesForm vars (e.Unary op a) m
  complement_made op a x (Ok t) i h k =
      let Q : UnaryOp → Type 0 = λ o. IsForm vars (e.Unary o a) t in
      subst Q (sym i) (complement_form vars a x t h k)
  complement_made op a x (Err f) i h k = tt

  pub reduced_made : (op : UnaryOp) (a : FlatExpr) (x : SizedForm) (m : Result SizedForm AllocError) → (op ≡ Plus → ⊥) → (op ≡ Minus → ⊥)
      → (op ≡ Complement → ⊥) → IsForm vars a x → IfOk m (λ t. IsReduced op x t) → MakesForm vars (e.Unary op a) m
  reduced_made op a x (Ok t) p q r h k = reduced_form vars op a x t p q r h k
  reduced_made op a x (Err f) p q r h k = tt

  -- ---- two parts

  abbrev AreTwo : FlatExpr → FlatExpr → Two → Type 0
  AreTwo a b p = IsForm vars a p.0 × IsForm vars b p.1

  abbrev GiveTwo : FlatExpr → FlatExpr → Result Two ExpressionFault → Type 0
  GiveTwo a b = Gives ((check vars a).selects && (check vars b).selects) ((check vars a).sizes && (check vars b).sizes) (AreTwo a b)

  two : (a b : FlatExpr) (x y : Reading) (all z : Result Two ExpressionFault) → all ≡ both x y → all ≡ z → Lowers vars a x → Lowers vars b y → GiveTwo a b z
  two a b x y all z i j h k =
      let c = check vars a in
      let d = check vars b in
      let Q : Result Two ExpressionFault → Type 0 = GiveTwo a b in
      subst Q (sym i ∙ j) (gives_both (IsForm vars a) (IsForm vars b) c.selects c.sizes d.selects d.sizes x y h k)

  binary_made : (op : BinaryOp) (a b : FlatExpr) (p : Two) (m : Result SizedForm AllocError) → AreTwo a b p → IfOk m (λ t. IsBinary op p.0 p.1 t)
      → MakesForm vars (e.Binary op a b) m
  binary_made op a b p (Ok t) h k = binary_form vars op a b p.0 p.1 t h.0 h.1 k
  binary_made op a b p (Err f) h k = tt

  pub binary_reads : (op : BinaryOp) (a b : FlatExpr) (x y : Reading) (all : Result Two ExpressionFault) (p : Two) (m : Result SizedForm AllocError)
      (r : Reading)
      → all ≡ both x y → all ≡ Ok p → Lowers vars a x → Lowers vars b y → IfOk m (λ t. IsBinary op p.0 p.1 t) → r ≡ kept m → Lowers vars (e.Binary op a b) r
  binary_reads op a b x y all p m r i j h k make l =
      let g = two a b x y all (Ok p) i j h k in
      made_reads (AreTwo a b) (e.Binary op a b) ((check vars a).selects && (check vars b).selects) ((check vars a).sizes && (check vars b).sizes) p m r
      (binary_flags vars op a b) g (binary_made op a b p m g.2 make) l

  pub binary_fails : (op : BinaryOp) (a b : FlatExpr) (x y : Reading) (all : Result Two ExpressionFault) (f : ExpressionFault)
      → all ≡ both x y → all ≡ Err f → Lowers vars a x → Lowers vars b y → Lowers vars (e.Binary op a b) (Err f)
  binary_fails op a b x y all f i j h k =
      fails vars (AreTwo a b) (IsForm vars (e.Binary op a b)) (e.Binary op a b) ((check vars a).selects && (check vars b).selects)
      ((check vars a).sizes && (check vars b).sizes) f (binary_flags vars op a b) (two a b x y all (Err f) i j h k)

  -- ---- three parts

  abbrev AreThree : FlatExpr → FlatExpr → FlatExpr → Three → Type 0
  AreThree on a b p = IsForm vars on p.0 × AreTwo a b p.1

  abbrev GiveThree : FlatExpr → FlatExpr → FlatExpr → Result Three ExpressionFault → Type 0
  GiveThree on a b = Gives ((check vars on).selects && ((check vars a).selects && (check vars b).selects))
      ((check vars on).sizes && ((check vars a).sizes && (check vars b).sizes)) (AreThree on a b)

  three : (on a b : FlatExpr) (w x y : Reading) (arms : Result Two ExpressionFault) (all z : Result Three ExpressionFault) → arms ≡ both x y
      → all ≡ both w arms
      → all ≡ z → Lowers vars on w → Lowers vars a x → Lowers vars b y → GiveThree on a b z
  three on a b w x y arms all z i j l g h k =
      let t = check vars on in
      let c = check vars a in
      let d = check vars b in
      let Q : Result Three ExpressionFault → Type 0 = GiveThree on a b in
      let s : Result Two ExpressionFault → Type 0 = GiveTwo a b in
      subst Q (sym j ∙ l)
      (gives_both (IsForm vars on) (AreTwo a b) t.selects t.sizes (c.selects && d.selects) (c.sizes && d.sizes) w arms g
      (subst s (sym i) (gives_both (IsForm vars a) (IsForm vars b) c.selects c.sizes d.selects d.sizes x y h k)))

  choice_made : (on a b : FlatExpr) (p : Three) (m : Result SizedForm AllocError) → AreThree on a b p → IfOk m (λ t. IsChoice p.0 p.1.0 p.1.1 t)
      → MakesForm vars (e.Choose on a b) m
  choice_made on a b p (Ok t) h k = choice_form vars on a b p.0 p.1.0 p.1.1 t h.0 h.1.0 h.1.1 k
  choice_made on a b p (Err f) h k = tt

  pub choice_reads : (on a b : FlatExpr) (w x y : Reading) (arms : Result Two ExpressionFault) (all : Result Three ExpressionFault) (p : Three)
      (m : Result SizedForm AllocError) (r : Reading) → arms ≡ both x y → all ≡ both w arms → all ≡ Ok p
      → Lowers vars on w → Lowers vars a x → Lowers vars b y → IfOk m (λ t. IsChoice p.0 p.1.0 p.1.1 t) → r ≡ kept m → Lowers vars (e.Choose on a b) r
  choice_reads on a b w x y arms all p m r i j l g h k make q =
      let all_three = three on a b w x y arms all (Ok p) i j l g h k in
      made_reads (AreThree on a b) (e.Choose on a b) ((check vars on).selects && ((check vars a).selects && (check vars b).selects))
      ((check vars on).sizes && ((check vars a).sizes && (check vars b).sizes)) p m r
      (choose_flags vars on a b) all_three (choice_made on a b p m all_three.2 make) q

  pub choice_fails : (on a b : FlatExpr) (w x y : Reading) (arms : Result Two ExpressionFault) (all : Result Three ExpressionFault) (f : ExpressionFault)
      → arms ≡ both x y → all ≡ both w arms → all ≡ Err f → Lowers vars on w → Lowers vars a x → Lowers vars b y → Lowers vars (e.Choose on a b) (Err f)
  choice_fails on a b w x y arms all f i j l g h k =
      fails vars (AreThree on a b) (IsForm vars (e.Choose on a b)) (e.Choose on a b)
      ((check vars on).selects && ((check vars a).selects && (check vars b).selects))
      ((check vars on).sizes && ((check vars a).sizes && (check vars b).sizes)) f (choose_flags vars on a b) (three on a b w x y arms all (Err f) i j l g h k)

  -- ---- many parts

  pub join_gives : (ps : List FlatExpr) (x : Result Parts ExpressionFault) (parts : Parts) (r : Reading) → x ≡ Ok parts → has_some ps ≡ true
      → Gathers vars ps x
      → IsJoined parts r → Lowers vars (e.Join ps) r
  join_gives ps x parts r i h g k =
      let Q : Result Parts ExpressionFault → Type 0 = Gathers vars ps in
      by_result r (subst Q i g) k
    where
      by_result : (r : Reading) → Gathers vars ps (Ok parts) → IsJoined parts r → Lowers vars (e.Join ps) r
      by_result (Ok y) g k = join_reads vars ps parts k.0 k.1 y g k.2 k.3
      by_result (Err NoMemory) g k = tt
      by_result (Err BadSelect) g k = absurd k
      by_result (Err WidthPast128) g k = join_wide vars ps parts h g k

  pub join_fails : (ps : List FlatExpr) (x : Result Parts ExpressionFault) (f : ExpressionFault) → x ≡ Err f → Gathers vars ps x
      → Lowers vars (e.Join ps) (Err f)
  join_fails ps x f i g =
      let Q : Result Parts ExpressionFault → Type 0 = Gathers vars ps in
      fails vars (ArePartsOf vars ps) (IsForm vars (e.Join ps)) (e.Join ps) (all_selects (map (check vars) ps)) (all_sizes (map (check vars) ps)) f
      (join_flags vars ps) (subst Q i g)

  pub gather_gives : (ps : List FlatExpr) (p : FlatExpr) (x : Result Parts ExpressionFault) (y : Reading) (all : Result (Parts × SizedForm) ExpressionFault)
      (q : Parts × SizedForm) (m : Result Parts AllocError) (r : Result Parts ExpressionFault) → all ≡ both x y → all ≡ Ok q → Gathers vars ps x
      → Lowers vars p y
      → IfOk m (λ after. IsWith q.0 q.1 after) → r ≡ kept m → Gathers vars (ps ++ p ∷ []) r
  gather_gives ps p x y all q (Ok after) r i j g h k l =
      let Q : Result Parts ExpressionFault → Type 0 = Gathers vars (ps ++ p ∷ []) in
      subst Q (sym l) (gather_reads vars ps p x y all q after i j g h k)
  gather_gives ps p x y all q (Err f) r i j g h k l =
      let Q : Result Parts ExpressionFault → Type 0 = Gathers vars (ps ++ p ∷ []) in
      subst Q (sym l) tt

-- What reading the parts of an expression gives for the whole.
use Rattle.std.proofs.Common.{◌≡◌, ◌∙◌, sym, ap, refl, subst, ℕ, ◌≤◌, Bool, true, false, ◌||◌, ◌&&◌, not, List, [], ◌∷◌, ◌++◌, Some, None, Result, Ok, Err, pos}
use Rattle.std.proofs.Common.{int_le, rules}
use Rattle.std.proofs.lemmas.List.{map-append}
use Rattle.vlog_tree.specs.declared.operator.UnaryOp.{UnaryOp}
use Rattle.vlog_tree.specs.declared.operator.BinaryOp.{BinaryOp}
use Rattle.vlog_tree.specs.declared.expression.Expr.TheOpen as o
use Rattle.source_meaning.specs.Environment.{Environment}
use Rattle.source_meaning.specs.Operators.{unary_of, binary_of, chosen}
use Rattle.source_meaning.specs.Meaning.{Meaning, fixed_integer}
use Rattle.scope_meaning.specs.Constants.{Wrong, Read, is_wrong, is_low, either_wrong, any_wrong, meanings, node}
use Rattle.elab_constants.specs.declared.fault.ConstantFault.{ConstantFault}
use Rattle.elab_constants.specs.declared.fault.ConstantFault.TheVariants.{NotConstant, BadSelect, WidthPast128}
use Rattle.elab_constants.specs.declared.sized.SizedTerm.{SizedTerm}
use Rattle.elab_constants.specs.declared.joined.Joined.{Joined}
use Rattle.elab_constants.specs.Faults.{both, first_wrong}
use Rattle.elab_constants.specs.Sized.{IsSized, MakesSized}
use Rattle.elab_constants.specs.Reads.{Gives, Reads, Gathers, IsJoined, IsCount, count_wrong}
use Rattle.elab_constants.proofs.Faults.{first, none_some, or_assoc, or_false, gives_both, gives_made, fault_moves, any_wrong_more}

abbrev pub Reading : Type 0
Reading = Result SizedTerm ConstantFault

-- two expressions, and three
pub two_give : (a b : Read) (x y : Reading) → Reads a x → Reads b y
    → Gives (λ (p : SizedTerm × SizedTerm). IsSized a.meaning p.0 × IsSized b.meaning p.1) (either_wrong a.wrong b.wrong) (both x y)
two_give a b x y h k = gives_both (IsSized a.meaning) (IsSized b.meaning) a.wrong b.wrong x y h k

pub three_give : (t a b : Read) (x y z : Reading) → Reads t x → Reads a y → Reads b z
    → Gives (λ (p : SizedTerm × (SizedTerm × SizedTerm)). IsSized t.meaning p.0 × (IsSized a.meaning p.1.0 × IsSized b.meaning p.1.1))
    (either_wrong t.wrong (either_wrong a.wrong b.wrong)) (both x (both y z))
three_give t a b x y z g h k =
    gives_both (IsSized t.meaning) (λ (p : SizedTerm × SizedTerm). IsSized a.meaning p.0 × IsSized b.meaning p.1) t.wrong (either_wrong a.wrong b.wrong) x
    (both y z) g
    (two_give a b y z h k)

-- ---- nothing is wrong

no_name : (n s w : Bool) → first n s w ≡ None → n ≡ false
no_name true s w e = none_some NotConstant (sym e)
no_name false s w e = refl

no_select : (n s w : Bool) → first n s w ≡ None → s ≡ false
no_select true s w e = none_some NotConstant (sym e)
no_select false true w e = none_some BadSelect (sym e)
no_select false false w e = refl

no_size : (n s w : Bool) → first n s w ≡ None → w ≡ false
no_size true s w e = none_some NotConstant (sym e)
no_size false true w e = none_some BadSelect (sym e)
no_size false false true e = none_some WidthPast128 (sym e)
no_size false false false e = refl

first_is : (a b c d e f : Bool) → a ≡ d → b ≡ e → c ≡ f → first a b c ≡ first d e f
first_is a b c d e f h k l = ap (λ x. first x b c) h ∙ ap (λ x. first d x c) k ∙ ap (λ x. first d e x) l

is_right : (n s w : Bool) → first n s w ≡ None → (n || s || w) ≡ false
is_right true s w e = none_some NotConstant (sym e)
is_right false true w e = none_some BadSelect (sym e)
is_right false false true e = none_some WidthPast128 (sym e)
is_right false false false e = refl

-- ---- counts

above_low : (k : ℕ) → 1 ≤ k → int_le (pos 1) (pos k) ≡ true
above_low k h = search (rules)

not_low : (b : Bool) (z : Bool) → z ≡ true → (b && not z) ≡ false
not_low true true e = refl
not_low true false e = sym e
not_low false z e = refl

-- a count of at least 1 has nothing wrong in it
pub count_calm : (r : Read) (k : ℕ) → first_wrong r.wrong ≡ None → 1 ≤ k → fixed_integer r.meaning ≡ pos k → first_wrong (count_wrong r) ≡ None
count_calm r k e h z =
    let low : is_low r ≡ false = not_low (not (is_wrong r.wrong)) (int_le (pos 1) (fixed_integer r.meaning)) (ap (int_le (pos 1)) z ∙ above_low k h) in
    first_is r.wrong.name (r.wrong.select || is_low r) r.wrong.wide r.wrong.name r.wrong.select r.wrong.wide refl
    (ap (λ b. r.wrong.select || b) low ∙ or_none r.wrong.select) refl ∙ e
  where
    or_none : (a : Bool) → (a || false) ≡ a
    or_none true = refl
    or_none false = refl

-- the count, where it is one
pub count_reads : (r : Read) (x : Reading) (t : SizedTerm) (k : ℕ) → x ≡ Ok t → Reads r x
    → ((m : Meaning) → IsSized m t → (1 ≤ k) × (fixed_integer m ≡ pos k)) → Gives (IsCount r.meaning) (count_wrong r) (Ok k)
count_reads r x t k e h c = by_ok (subst (Gives (IsSized r.meaning) r.wrong) e h)
  where
    by_ok : Gives (IsSized r.meaning) r.wrong (Ok t) → Gives (IsCount r.meaning) (count_wrong r) (Ok k)
    by_ok p = let is = c r.meaning p.1 in (count_calm r k p.0 is.0 is.1, is)

-- ---- operators

pub unary_reads : (op : UnaryOp) (env : Environment) (a : Read) (x : Reading) (t : SizedTerm) (r : Reading) → x ≡ Ok t → Reads a x
    → ((m : Meaning) → IsSized m t → MakesSized (unary_of op m) r) → Reads (node env (o.Unary op a)) r
unary_reads op env a x t r e h k = by_ok (subst (Gives (IsSized a.meaning) a.wrong) e h)
  where
    by_ok : Gives (IsSized a.meaning) a.wrong (Ok t) → Reads (node env (o.Unary op a)) r
    by_ok p = gives_made a.wrong (unary_of op a.meaning) r p.0 (k a.meaning p.1)

abbrev Both : Type 0
Both = SizedTerm × SizedTerm

pub binary_reads : (op : BinaryOp) (env : Environment) (a b : Read) (x y : Reading) (all : Result Both ConstantFault) (p : Both) (r : Reading)
    → all ≡ both x y → all ≡ Ok p → Reads a x → Reads b y
    → ((m n : Meaning) → IsSized m p.0 → IsSized n p.1 → MakesSized (binary_of op m n) r) → Reads (node env (o.Binary op a b)) r
binary_reads op env a b x y all p r e f h k make =
    by_ok (subst (Gives (λ (q : Both). IsSized a.meaning q.0 × IsSized b.meaning q.1) (either_wrong a.wrong b.wrong)) (sym e ∙ f) (two_give a b x y h k))
  where
    by_ok : Gives (λ (q : Both). IsSized a.meaning q.0 × IsSized b.meaning q.1) (either_wrong a.wrong b.wrong) (Ok p) → Reads (node env (o.Binary op a b)) r
    by_ok q = gives_made (either_wrong a.wrong b.wrong) (binary_of op a.meaning b.meaning) r q.0 (make a.meaning b.meaning q.1.0 q.1.1)

abbrev Three : Type 0
Three = SizedTerm × (SizedTerm × SizedTerm)

abbrev AreThree : Read → Read → Read → Three → Type 0
AreThree t a b p = IsSized t.meaning p.0 × (IsSized a.meaning p.1.0 × IsSized b.meaning p.1.1)

abbrev wrong_of_three : Read → Read → Read → Wrong
wrong_of_three t a b = either_wrong t.wrong (either_wrong a.wrong b.wrong)

three_are : (t a b : Read) (x y z : Reading) (arms : Result Both ConstantFault) (all r : Result Three ConstantFault)
    → arms ≡ both y z → all ≡ both x arms → all ≡ r → Reads t x → Reads a y → Reads b z → Gives (AreThree t a b) (wrong_of_three t a b) r
three_are t a b x y z arms all r e f g ht ha hb =
    subst (Gives (AreThree t a b) (wrong_of_three t a b)) (ap (both x) (sym e) ∙ sym f ∙ g) (three_give t a b x y z ht ha hb)

pub choice_fails : (env : Environment) (t a b : Read) (x y z : Reading) (arms : Result Both ConstantFault) (all : Result Three ConstantFault)
    (f : ConstantFault)
    → arms ≡ both y z → all ≡ both x arms → all ≡ Err f → Reads t x → Reads a y → Reads b z → Reads (node env (o.Choose t a b)) (Err f)
choice_fails env t a b x y z arms all f e g h ht ha hb = three_are t a b x y z arms all (Err f) e g h ht ha hb

pub choice_reads : (env : Environment) (t a b : Read) (x y z : Reading) (arms : Result Both ConstantFault) (all : Result Three ConstantFault) (p : Three)
    (r : SizedTerm)
    → arms ≡ both y z → all ≡ both x arms → all ≡ Ok p → Reads t x → Reads a y → Reads b z
    → ((l m n : Meaning) → IsSized l p.0 → IsSized m p.1.0 → IsSized n p.1.1 → IsSized (chosen l m n) r) → Reads (node env (o.Choose t a b)) (Ok r)
choice_reads env t a b x y z arms all p r e g h ht ha hb make = by_ok (three_are t a b x y z arms all (Ok p) e g h ht ha hb)
  where
    by_ok : Gives (AreThree t a b) (wrong_of_three t a b) (Ok p) → Reads (node env (o.Choose t a b)) (Ok r)
    by_ok q = (q.0, make t.meaning a.meaning b.meaning q.1.0 q.1.1.0 q.1.1.1)

-- ---- parts

abbrev Parts : Type 0
Parts = Result Joined ConstantFault

abbrev ArePart : List Read → Read → Joined × SizedTerm → Type 0
ArePart rs r p = IsJoined (meanings rs) p.0 × IsSized r.meaning p.1

gathered : (rs : List Read) (r : Read) (x : Parts) (y : Reading) (all z : Result (Joined × SizedTerm) ConstantFault) → all ≡ both x y → all ≡ z
    → Gathers rs x → Reads r y → Gives (ArePart rs r) (any_wrong (rs ++ r ∷ [])) z
gathered rs r x y all z e f h k =
    subst (λ w. Gives (ArePart rs r) w z) (sym (any_wrong_more rs r))
    (subst (Gives (ArePart rs r) (either_wrong (any_wrong rs) r.wrong)) (sym e ∙ f)
    (gives_both (IsJoined (meanings rs)) (IsSized r.meaning) (any_wrong rs) r.wrong x y h k))

pub gather_fails : (rs : List Read) (r : Read) (x : Parts) (y : Reading) (all : Result (Joined × SizedTerm) ConstantFault) (f : ConstantFault)
    → all ≡ both x y → all ≡ Err f → Gathers rs x → Reads r y → Gathers (rs ++ r ∷ []) (Err f)
gather_fails rs r x y all f e g h k = gathered rs r x y all (Err f) e g h k

pub gather_reads : (rs : List Read) (r : Read) (x : Parts) (y : Reading) (all : Result (Joined × SizedTerm) ConstantFault) (p : Joined × SizedTerm) (j : Joined)
    → all ≡ both x y → all ≡ Ok p → Gathers rs x → Reads r y
    → ((ms : List Meaning) (m : Meaning) → IsJoined ms p.0 → IsSized m p.1 → IsJoined (ms ++ m ∷ []) j) → Gathers (rs ++ r ∷ []) (Ok j)
gather_reads rs r x y all p j e g h k make = by_ok (gathered rs r x y all (Ok p) e g h k)
  where
    by_ok : Gives (ArePart rs r) (any_wrong (rs ++ r ∷ [])) (Ok p) → Gathers (rs ++ r ∷ []) (Ok j)
    by_ok q = (q.0, subst (λ ms. IsJoined ms j) (sym (map-append (λ (a : Read). a.meaning) rs (r ∷ []))) (make (meanings rs) r.meaning q.1.0 q.1.1))

-- ---- replications

widen : (f : ConstantFault) (n s w b : Bool) → first n s w ≡ Some f → first n s (w || b) ≡ Some f
widen f true s w b e = e
widen f false true w b e = e
widen f false false true b e = e
widen f false false false b e = none_some f e

or_comm : (a b : Bool) → (a || b) ≡ (b || a)
or_comm true true = refl
or_comm true false = refl
or_comm false true = refl
or_comm false false = refl

or_swap : (a b c : Bool) → ((a || b) || c) ≡ ((a || c) || b)
or_swap a b c = sym (or_assoc a b c) ∙ ap (λ x. a || x) (or_comm b c) ∙ or_assoc a c b

same_first : (v : Wrong) (r : Read) (wide : Bool) (f : ConstantFault) → first_wrong (either_wrong (count_wrong r) v) ≡ Some f
    → first_wrong (either_wrong (either_wrong r.wrong v) (record { name = false; select = is_low r; wide = wide })) ≡ Some f
same_first v r wide f h =
    let c = r.wrong in
    first_is _ _ _ (c.name || v.name) ((c.select || is_low r) || v.select) ((c.wide || v.wide) || wide)
    (or_false (c.name || v.name)) (or_swap c.select v.select (is_low r)) refl
    ∙ widen f (c.name || v.name) ((c.select || is_low r) || v.select) (c.wide || v.wide) wide h

pub repeat_fails : (env : Environment) (r : Read) (rs : List Read) (x : Result ℕ ConstantFault) (y : Parts) (all : Result (ℕ × Joined) ConstantFault)
    (f : ConstantFault)
    → all ≡ both x y → all ≡ Err f → Gives (IsCount r.meaning) (count_wrong r) x → Gathers rs y → Reads (node env (o.Repeat r rs)) (Err f)
repeat_fails env r rs x y all f e g h k =
    fault_moves (either_wrong (count_wrong r) (any_wrong rs)) (node env (o.Repeat r rs)).wrong f (same_first (any_wrong rs) r _)
    (subst (Gives (λ (p : ℕ × Joined). IsCount r.meaning p.0 × IsJoined (meanings rs) p.1) (either_wrong (count_wrong r) (any_wrong rs))) (sym e ∙ g)
    (gives_both (IsCount r.meaning) (IsJoined (meanings rs)) (count_wrong r) (any_wrong rs) x y h k))

pub repeat_reads : (env : Environment) (r : Read) (rs : List Read) (x : Result ℕ ConstantFault) (y : Parts) (all : Result (ℕ × Joined) ConstantFault)
    (p : ℕ × Joined) (z : Reading)
    → all ≡ both x y → all ≡ Ok p → Gives (IsCount r.meaning) (count_wrong r) x → Gathers rs y
    → (IsCount r.meaning p.0 → IsJoined (meanings rs) p.1 → first_wrong (either_wrong (count_wrong r) (any_wrong rs)) ≡ None
    → Reads (node env (o.Repeat r rs)) z)
    → Reads (node env (o.Repeat r rs)) z
repeat_reads env r rs x y all p z e g h k make =
    by_ok (subst (Gives (λ (q : ℕ × Joined). IsCount r.meaning q.0 × IsJoined (meanings rs) q.1) (either_wrong (count_wrong r) (any_wrong rs))) (sym e ∙ g)
    (gives_both (IsCount r.meaning) (IsJoined (meanings rs)) (count_wrong r) (any_wrong rs) x y h k))
  where
    by_ok : Gives (λ (q : ℕ × Joined). IsCount r.meaning q.0 × IsJoined (meanings rs) q.1) (either_wrong (count_wrong r) (any_wrong rs)) (Ok p)
        → Reads (node env (o.Repeat r rs)) z
    by_ok q = make q.1.0 q.1.1 q.0

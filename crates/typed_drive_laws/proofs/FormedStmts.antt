-- The flat forms of a body whose copies of statements have constants are well formed: by induction on how they are flat forms.
use Rattle.std.proofs.Common.{◌≡◌, ◌∙◌, sym, ap, refl, subst, ℕ, Bool, true, false, not, ◌&&◌, List, [], ◌∷◌, ◌++◌, map, Option, Some, None, append-nil}
use Rattle.std.specs.List.{list_all, flat_map, AllByRecursion}
use Rattle.cov_types.specs.declared.place.Place.{Place}
use Rattle.vlog_tree.specs.declared.expression.Expr.{Expr}
use Rattle.vlog_tree.specs.declared.statement.Stmt.{Stmt, out-roll-Stmt}
use Rattle.vlog_tree.specs.declared.statement.StmtKind.{StmtKind, out-StmtKind}
use Rattle.vlog_tree.specs.declared.statement.StmtKind.TheVariants as s
use Rattle.vlog_tree.specs.declared.statement.StmtKind.TheOpen as o
use Rattle.vlog_tree.specs.declared.statement.CaseArm.{CaseArm, out-CaseArm, out-roll-CaseArm}
use Rattle.vlog_tree.specs.Trees.{StmtLayer, stmt, case_arm, stmt_layer}
use Rattle.vlog_tree.specs.Inside.{inner_of, case_body}
use Rattle.elab_types.specs.declared.flat_source.FlatVar.{FlatVar}
use Rattle.elab_types.specs.declared.flat_expression.FlatExpr.{FlatExpr}
use Rattle.elab_types.specs.declared.flat_statement.FlatStmt.{FlatStmt}
use Rattle.elab_types.specs.declared.flat_statement.FlatArm.{FlatArm}
use Rattle.source_meaning.specs.Environment.{Environment}
use Rattle.source_meaning.specs.Statements.{values_of}
use Rattle.scope_meaning.proofs.WalkLaws.{never}
use Rattle.flat_meaning.specs.FlatTrees.{flat_arm}
use Rattle.flat_meaning.specs.FlatForm as form
use Rattle.flat_meaning.specs.FlatForm.{IsFlatStmt, AreFlat, AreFlatStmts, AreFlatArms, AreFlatPasses}
use Rattle.flat_source_meaning.specs.SourceArms.{Arm}
use Rattle.flat_source_meaning.specs.ArmCopies as a
use Rattle.flat_source_meaning.specs.ArmCopies.{HasArms, AllHaveArms, PassesHaveArms, CasesHaveArms}
use Rattle.flat_source_meaning.specs.Environments.{Inside, inside_pass}
use Rattle.flat_source_meaning.specs.FixedParts.{has_constants}
use Rattle.flat_source_meaning.specs.ProcessLoops.{ProcessLoop, process_loops, passes}
use Rattle.flat_source_meaning.specs.Copies.{Copy, is_no_loop, IsCopied, plain, loop, AreCopied, goes_on, ArePassesCopied, turn}
use Rattle.flat_source_meaning.specs.FlatSpots.{read_by, written_by}
use Rattle.flat_source_meaning.proofs.SpotLaws.{clash, same_loop}
use Rattle.design_meaning.proofs.ListLaws.{all_append, left_true, right_true, and_from}
use Rattle.typed_drive_laws.specs.FixedParts as flat
use Rattle.typed_drive_laws.specs.FormedBodies.{FormedArm, is_default, one_default, is_formed}
use Rattle.typed_drive_laws.proofs.Formed as formed
use Rattle.typed_drive_laws.proofs.FlatFixed.{flat_fixed}

abbrev pub Arms : Type 0
Arms = List Arm

-- ---- lists of facts

pub facts_left : {A : Type 0} (P : A → Type 0) (xs ys : List A) → AllByRecursion P (xs ++ ys) → AllByRecursion P xs
facts_left P [] ys h = tt
facts_left P (x ∷ xs) ys h = (h.0, facts_left P xs ys h.1)

pub facts_right : {A : Type 0} (P : A → Type 0) (xs ys : List A) → AllByRecursion P (xs ++ ys) → AllByRecursion P ys
facts_right P [] ys h = h
facts_right P (x ∷ xs) ys h = facts_right P xs ys h.1

-- ---- what a copy of a statement reads and writes

-- what a statement itself reads and writes has constants where it has to, by its layer
abbrev pub constants_in : Environment → StmtLayer → Bool
constants_in env l = list_all (has_constants env) (read_by l ++ written_by l)

-- A copy has constants where it stands.
abbrev pub IsCalmCopy : Copy → Type 0
IsCalmCopy c = constants_in c.inside.env (stmt_layer c.stmt) ≡ true

layer_of : (p : Place) (what : StmtKind) → stmt_layer (stmt p what) ≡ out-StmtKind what
layer_of p what = ap (λ x. out-StmtKind x.what) (out-roll-Stmt (record { place = p; what = what }))

items_of : (p : Place) (items : List Expr) (body : Stmt) → (out-CaseArm (case_arm p items body)).items ≡ items
items_of p items body = ap (λ x. x.items) (out-roll-CaseArm (record { place = p; items = items; body = body }))

body_of : (p : Place) (items : List Expr) (body : Stmt) → case_body (case_arm p items body) ≡ body
body_of p items body = ap (λ x. x.body) (out-roll-CaseArm (record { place = p; items = items; body = body }))

-- a statement that is no loop: its own expressions, and the copies inside
record Inner (inside : Inside) (l : StmtLayer) : Type 0 where
  own : constants_in inside.env l ≡ true
  copies : List Copy
  copied : AreCopied inside (inner_of l) copies true
  calm : AllByRecursion IsCalmCopy copies

inner : {inside : Inside} {st : Stmt} {cs : List Copy} (l : StmtLayer) → stmt_layer st ≡ l → is_no_loop l ≡ true → IsCopied inside st cs true
    → AllByRecursion IsCalmCopy cs → Inner inside l
inner {inside} l e n (plain {cs = ds} f x) calm = record {
  own = ap (constants_in inside.env) (sym e) ∙ calm.0;
  copies = ds;
  copied = subst (λ z. AreCopied inside (inner_of z) ds true) e x;
  calm = calm.1;
}
inner {inside} {st} l e n (loop {l = k} f x) calm = clash (stmt_layer st) k (ap is_no_loop e ∙ n) f

-- the first of some statements, and the others
record Front (inside : Inside) (first : Stmt) (rest : List Stmt) : Type 0 where
  copies : List Copy
  copied : IsCopied inside first copies true
  calm : AllByRecursion IsCalmCopy copies
  behind : List Copy
  others : AreCopied inside rest behind true
  calm_others : AllByRecursion IsCalmCopy behind

front : {inside : Inside} {first : Stmt} {rest : List Stmt} {cs : List Copy} → AreCopied inside (first ∷ rest) cs true → AllByRecursion IsCalmCopy cs
    → Front inside first rest
front (goes_on {cs = xs} {ds = ys} c more) calm = record {
  copies = xs;
  copied = c;
  calm = facts_left IsCalmCopy xs ys calm;
  behind = ys;
  others = more;
  calm_others = facts_right IsCalmCopy xs ys calm;
}

-- a loop: the copies in its passes
record Turns (inside : Inside) (k : ProcessLoop) : Type 0 where
  copies : List Copy
  copied : ArePassesCopied inside k (passes inside.env k) copies true
  calm : AllByRecursion IsCalmCopy copies

turns : {inside : Inside} {st : Stmt} {cs : List Copy} (l : StmtLayer) (k : ProcessLoop) → stmt_layer st ≡ l → process_loops l ≡ k ∷ []
    → IsCopied inside st cs true → AllByRecursion IsCalmCopy cs → Turns inside k
turns {inside} {st} l k e n (plain f x) calm = clash (stmt_layer st) k f (ap process_loops e ∙ n)
turns {inside} {st} l k e n (loop {l = j} {cs = ds} f x) calm = record {
  copies = ds;
  copied = subst (λ z. ArePassesCopied inside z (passes inside.env z) ds true) (same_loop j k (sym f ∙ ap process_loops e ∙ n)) x;
  calm = calm.1;
}

-- ---- the arms of a statement, by its layer

block_arms : {env : Environment} {st : Stmt} {body : List Stmt} {last : Place} {arms : Arms} → HasArms env st (o.Block body last) arms
    → (xs : Arms) × AllHaveArms env body xs
block_arms (a.single e) = never e
block_arms (a.block {arms = xs} x) = (xs, x)

if_arms : {env : Environment} {st first : Stmt} {test : Expr} {arms : Arms} → HasArms env st (o.If test first None) arms
    → (xs : Arms) × HasArms env first (stmt_layer first) xs
if_arms (a.single e) = never e
if_arms (a.if_alone {arms = xs} x) = (xs, x)

else_arms : {env : Environment} {st first other : Stmt} {test : Expr} {arms : Arms} → HasArms env st (o.If test first (Some other)) arms
    → (xs : Arms) × (ys : Arms) × HasArms env first (stmt_layer first) xs × HasArms env other (stmt_layer other) ys
else_arms (a.single e) = never e
else_arms (a.if_else {arms = xs} {others = ys} x y) = (xs, ys, x, y)

choice_arms : {env : Environment} {st : Stmt} {wild : Bool} {on : Expr} {all : List CaseArm} {arms : Arms} → HasArms env st (o.Case wild on all) arms
    → (xs : Arms) × (d : Option Arms) × CasesHaveArms env all xs d
choice_arms (a.single e) = never e
choice_arms (a.case {arms = xs} {default = d} x) = (xs, d, x)

for_arms : {env : Environment} {st : Stmt} {name step_name : List ℕ} {from test step : Expr} {body : Stmt} {arms : Arms}
    → HasArms env st (o.For name from test step_name step body) arms → (xs : Arms) × PassesHaveArms env name (values_of env name from test step) body xs
for_arms (a.single e) = never e
for_arms (a.for {arms = xs} x) = (xs, x)

abbrev is_empty : List Expr → Bool
is_empty [] = true
is_empty (x ∷ xs) = false

module _ (vars : List FlatVar) where
  abbrev is_well : FlatStmt → Bool
  is_well = is_formed (flat.has_constants vars)

  abbrev arm_of : FlatArm → FormedArm
  arm_of = formed.arms (flat.has_constants vars)

  abbrev defaults : List FlatArm → List Bool
  defaults arms = map (λ x. x.is_default) (map arm_of arms)

  abbrev all_well : List FlatArm → Bool
  all_well arms = list_all (λ x. x.formed) (map arm_of arms)

  same_default : {env : Environment} {es : List Expr} {items : List FlatExpr} → AreFlat vars env es items → is_default items ≡ is_empty es
  same_default form.no_exprs = refl
  same_default (form.more_exprs d ds) = refl

  default_is : {env : Environment} (p : Place) {es : List Expr} {items : List FlatExpr} (body : Stmt) (one : FlatStmt) (b : Bool) → AreFlat vars env es items
      → is_empty (out-CaseArm (case_arm p es body)).items ≡ b → (arm_of (flat_arm p items one)).is_default ≡ b
  default_is p {es} {items} body one b d h =
      ap (λ x. x.is_default) (formed.of-arm (flat.has_constants vars) p items one) ∙ same_default d ∙ sym (ap is_empty (items_of p es body)) ∙ h

  -- without a default, and with one at most
  no_default : {env : Environment} {all : List CaseArm} {arms : List FlatArm} {xs : Arms} {d : Option Arms} → AreFlatArms vars env all arms
      → CasesHaveArms env all xs d → d ≡ None → list_all not (defaults arms) ≡ true
  no_default form.no_arms a.no_arms e = refl
  no_default (form.more_arms {p = p} {items = es} {flat_items = items} {body = body} {one = one} {others = others} di db ds)
      (a.listed {item = item} {items = rest} q x xs) e =
      and_from (not (arm_of (flat_arm p items one)).is_default) (list_all not (defaults others))
      (ap not (default_is p body one false di (ap is_empty q))) (no_default ds xs e)
  no_default (form.more_arms di db ds) (a.default_arm q x xs) e = never (ap is_none e)
    where
      is_none : Option Arms → Bool
      is_none None = true
      is_none (Some arms) = false

  one_of : {env : Environment} {all : List CaseArm} {arms : List FlatArm} {xs : Arms} {d : Option Arms} → AreFlatArms vars env all arms
      → CasesHaveArms env all xs d → one_default (defaults arms) ≡ true
  one_of form.no_arms a.no_arms = refl
  one_of (form.more_arms {p = p} {items = es} {flat_items = items} {body = body} {one = one} {others = others} di db ds)
      (a.listed {item = item} {items = rest} q x xs) =
      ap (λ b. one_default (b ∷ defaults others)) (default_is p body one false di (ap is_empty q)) ∙ one_of ds xs
  one_of (form.more_arms {p = p} {items = es} {flat_items = items} {body = body} {one = one} {others = others} di db ds) (a.default_arm q x xs) =
      ap (λ b. one_default (b ∷ defaults others)) (default_is p body one true di (ap is_empty q)) ∙ no_default ds xs refl

  -- the first of some arms, and the others
  arm_has : {env : Environment} {c : CaseArm} {all : List CaseArm} {arms : Arms} {d : Option Arms} → CasesHaveArms env (c ∷ all) arms d
      → (xs : Arms) × (ys : Arms) × (e : Option Arms) × HasArms env (case_body c) (stmt_layer (case_body c)) xs × CasesHaveArms env all ys e
  arm_has (a.listed {arms = xs} {others = ys} {default = e} q x rest) = (xs, ys, e, x, rest)
  arm_has (a.default_arm {arms = xs} {others = ys} q x rest) = (xs, ys, None, x, rest)

  written_well : {env : Environment} {target value : Expr} {b w : FlatExpr} → form.IsFlat vars env target b → form.IsFlat vars env value w
      → list_all (has_constants env) (value ∷ target ∷ []) ≡ true → (flat.has_constants vars b && flat.has_constants vars w) ≡ true
  written_well {env} {target} {value} {b} {w} d e own =
      let rest = has_constants env target && true in
      and_from (flat.has_constants vars b) (flat.has_constants vars w)
      ((flat_fixed vars d).fixes (left_true (has_constants env target) true (right_true (has_constants env value) rest own)))
      ((flat_fixed vars e).fixes (left_true (has_constants env value) rest own))

  items_well : {env : Environment} {es : List Expr} {items : List FlatExpr} → AreFlat vars env es items → list_all (has_constants env) es ≡ true
      → list_all (flat.has_constants vars) items ≡ true
  items_well form.no_exprs own = refl
  items_well {env} (form.more_exprs {of = e} {a = b} {rest = rest} {others = others} d ds) own =
      let more = list_all (has_constants env) rest in
      and_from (flat.has_constants vars b) (list_all (flat.has_constants vars) others)
      ((flat_fixed vars d).fixes (left_true (has_constants env e) more own)) (items_well ds (right_true (has_constants env e) more own))

  mutual
    pub formed_stmt : {inside : Inside} {st : Stmt} {fl : FlatStmt} {cs : List Copy} {arms : Arms} → IsFlatStmt vars inside.env st fl
        → IsCopied inside st cs true → AllByRecursion IsCalmCopy cs → HasArms inside.env st (stmt_layer st) arms → is_well fl ≡ true
    formed_stmt (form.empty {p = p}) c calm h = formed.of-Empty (flat.has_constants vars) p
    formed_stmt {inside} {arms = xs} (form.block {p = p} {last = last} {body = body} {flat = fl} ds) c calm h =
        let e = layer_of p (s.Block body last) ∙ s.outs-Block body last in
        let k = inner (o.Block body last) e refl c calm in
        let x = block_arms (subst (λ l. HasArms inside.env (stmt p (s.Block body last)) l xs) e h) in
        formed.of-Block (flat.has_constants vars) p fl last ∙ formed_all ds k.copied k.calm x.1
    formed_stmt {inside} {arms = xs} (form.if_alone {p = p} {test = test} {a = on} {first = first} {one = one} dt d) c calm h =
        let e = layer_of p (s.If test first None) ∙ s.outs-If test first None in
        let k = inner (o.If test first None) e refl c calm in
        let c1 = front k.copied k.calm in
        let x = if_arms (subst (λ l. HasArms inside.env (stmt p (s.If test first None)) l xs) e h) in
        formed.of-If (flat.has_constants vars) p on one
        ∙ and_from (flat.has_constants vars on && is_well one) true
        (and_from (flat.has_constants vars on) (is_well one) ((flat_fixed vars dt).fixes (left_true (has_constants inside.env test) true k.own))
        (formed_stmt d c1.copied c1.calm x.1)) refl
    formed_stmt {inside} {arms = xs} (form.if_else {p = p} {test = test} {a = on} {first = first} {second = second} {one = one} {two = two} dt d e) c calm h =
        let q = layer_of p (s.If test first (Some second)) ∙ s.outs-If test first (Some second) in
        let k = inner (o.If test first (Some second)) q refl c calm in
        let c1 = front k.copied k.calm in
        let c2 = front c1.others c1.calm_others in
        let x = else_arms (subst (λ l. HasArms inside.env (stmt p (s.If test first (Some second))) l xs) q h) in
        formed.of-If-else (flat.has_constants vars) p on one two
        ∙ and_from (flat.has_constants vars on && is_well one) (is_well two)
        (and_from (flat.has_constants vars on) (is_well one) ((flat_fixed vars dt).fixes (left_true (has_constants inside.env test) true k.own))
        (formed_stmt d c1.copied c1.calm x.2)) (formed_stmt e c2.copied c2.calm x.3)
    formed_stmt {inside} {arms = xs} (form.case {p = p} {wild = wild} {on = on} {a = b} {arms = all} {flat = fl} dt ds) c calm h =
        let e = layer_of p (s.Case wild on all) ∙ s.outs-Case wild on all in
        let k = inner (o.Case wild on all) e refl c calm in
        let x = choice_arms (subst (λ l. HasArms inside.env (stmt p (s.Case wild on all)) l xs) e h) in
        let items = flat_map (λ arm. (out-CaseArm arm).items) all in
        let own = ap (list_all (has_constants inside.env)) (sym (append-nil (on ∷ items))) ∙ k.own in
        formed.of-Case (flat.has_constants vars) p wild b fl
        ∙ and_from (flat.has_constants vars b && one_default (defaults fl)) (all_well fl)
        (and_from (flat.has_constants vars b) (one_default (defaults fl))
        ((flat_fixed vars dt).fixes (left_true (has_constants inside.env on) (list_all (has_constants inside.env) items) own)) (one_of ds x.2))
        (formed_arms ds k.copied k.calm (right_true (has_constants inside.env on) (list_all (has_constants inside.env) items) own) x.2)
    formed_stmt {inside} {arms = xs}
        (form.loop {p = p} {name = name} {step_name = step_name} {from = from} {test = test} {step = step} {body = body} {values = values}
        {flat = fl} q ds) c calm h =
        let e = layer_of p (s.For name from test step_name step body) ∙ s.outs-For name from test step_name step body in
        let head : ProcessLoop = record { name = name; from = from; test = test; step_name = step_name; step = step; body = body } in
        let k = turns (o.For name from test step_name step body) head e refl c calm in
        let x = for_arms (subst (λ l. HasArms inside.env (stmt p (s.For name from test step_name step body)) l xs) e h) in
        formed.of-Block (flat.has_constants vars) p fl p
        ∙ formed_passes {k = head} ds (subst (λ ns. ArePassesCopied inside head ns k.copies true) q k.copied) k.calm
        (subst (λ ns. PassesHaveArms inside.env name ns body x.0) q x.1)
    formed_stmt {inside} {arms = xs} (form.set {p = p} {target = target} {value = value} {a = b} {b = w} d e) c calm h =
        let k = inner (o.Set target value) (layer_of p (s.Set target value) ∙ s.outs-Set target value) refl c calm in
        formed.of-Set (flat.has_constants vars) p b w ∙ written_well d e k.own
    formed_stmt {inside} {arms = xs} (form.later {p = p} {target = target} {value = value} {a = b} {b = w} d e) c calm h =
        let k = inner (o.Later target value) (layer_of p (s.Later target value) ∙ s.outs-Later target value) refl c calm in
        formed.of-Later (flat.has_constants vars) p b w ∙ written_well d e k.own
    formed_stmt {inside} {arms = xs} (form.show {p = p} {text = text} {values = values} {flat = fl} ds) c calm h =
        let k = inner (o.Show text values) (layer_of p (s.Show text values) ∙ s.outs-Show text values) refl c calm in
        formed.of-Show (flat.has_constants vars) p text fl
        ∙ items_well ds (ap (list_all (has_constants inside.env)) (sym (append-nil values)) ∙ k.own)
    formed_stmt (form.finish {p = p}) c calm h = formed.of-Finish (flat.has_constants vars) p
    formed_stmt (form.stop {p = p}) c calm h = formed.of-Stop (flat.has_constants vars) p

    formed_all : {inside : Inside} {body : List Stmt} {fl : List FlatStmt} {cs : List Copy} {arms : Arms} → AreFlatStmts vars inside.env body fl
        → AreCopied inside body cs true → AllByRecursion IsCalmCopy cs → AllHaveArms inside.env body arms → list_all (λ x. x) (map is_well fl) ≡ true
    formed_all form.no_stmts c calm h = refl
    formed_all (form.more_stmts {one = one} {others = others} d ds) (goes_on {cs = xs} {ds = ys} c more) calm (a.more_stmts h hs) =
        and_from (is_well one) (list_all (λ x. x) (map is_well others)) (formed_stmt d c (facts_left IsCalmCopy xs ys calm) h)
        (formed_all ds more (facts_right IsCalmCopy xs ys calm) hs)

    formed_passes : {inside : Inside} {k : ProcessLoop} {ns : List ℕ} {fl : List FlatStmt} {cs : List Copy} {arms : Arms}
        → AreFlatPasses vars inside.env k.name ns k.body fl → ArePassesCopied inside k ns cs true → AllByRecursion IsCalmCopy cs
        → PassesHaveArms inside.env k.name ns k.body arms → list_all (λ x. x) (map is_well fl) ≡ true
    formed_passes form.no_passes c calm h = refl
    formed_passes {inside} {k} (form.more_passes {one = one} {others = others} d ds) (turn {n = n} {cs = xs} {ds = ys} c more) calm (a.turn h hs) =
        and_from (is_well one) (list_all (λ x. x) (map is_well others))
        (formed_stmt {inside = inside_pass inside k.name n} d c (facts_left IsCalmCopy xs ys calm) h)
        (formed_passes {k = k} ds more (facts_right IsCalmCopy xs ys calm) hs)

    formed_arms : {inside : Inside} {all : List CaseArm} {fl : List FlatArm} {cs : List Copy} {arms : Arms} {d : Option Arms}
        → AreFlatArms vars inside.env all fl → AreCopied inside (map case_body all) cs true → AllByRecursion IsCalmCopy cs
        → list_all (has_constants inside.env) (flat_map (λ arm. (out-CaseArm arm).items) all) ≡ true → CasesHaveArms inside.env all arms d
        → all_well fl ≡ true
    formed_arms form.no_arms c calm own h = refl
    formed_arms {inside} (form.more_arms {p = p} {items = es} {flat_items = items} {body = body} {one = one} {rest = rest} {others = others} di db ds)
        (goes_on {cs = xs} {ds = ys} c more) calm own h =
        let arm_items = (out-CaseArm (case_arm p es body)).items in
        let others_items = flat_map (λ arm. (out-CaseArm arm).items) rest in
        let both = sym (all_append (has_constants inside.env) arm_items others_items) ∙ own in
        let here = left_true (list_all (has_constants inside.env) arm_items) (list_all (has_constants inside.env) others_items) both in
        let of_body = subst (λ z. IsCopied inside z xs true) (body_of p es body) c in
        let x = arm_has h in
        and_from (arm_of (flat_arm p items one)).formed (all_well others)
        (ap (λ z. z.formed) (formed.of-arm (flat.has_constants vars) p items one)
        ∙ and_from (list_all (flat.has_constants vars) items) (is_well one)
        (items_well di (ap (list_all (has_constants inside.env)) (sym (items_of p es body)) ∙ here))
        (formed_stmt db of_body (facts_left IsCalmCopy xs ys calm) (subst (λ z. HasArms inside.env z (stmt_layer z) x.0) (body_of p es body) x.3)))
        (formed_arms ds more (facts_right IsCalmCopy xs ys calm)
        (right_true (list_all (has_constants inside.env) arm_items) (list_all (has_constants inside.env) others_items) both) x.4)

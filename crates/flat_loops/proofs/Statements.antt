-- The names of loops in a statement, by what it is.
use Rattle.std.proofs.Common.{◌≡◌, ◌∙◌, sym, ap, refl, subst, ℕ, ◌+◌, ◌<◌, Bool, List, [], ◌∷◌, ◌++◌, length, take, get_or, map, append_assoc}
use Rattle.std.proofs.Common.{Option, Some, None, Result, Ok, Err}
use Rattle.std.specs.Prelude.{IfOk}
use Rattle.std.specs.List.{flat_map}
use Rattle.std.proofs.lemmas.List.{take_more}
use Rattle.std.proofs.lemmas.List.Concat.{flat_map-append}
use Rattle.cov_types.specs.declared.no_memory.NoMemory.{NoMemory}
use Rattle.cov_types.specs.declared.place.Place.{Place}
use Rattle.vlog_tree.specs.declared.expression.Expr.{Expr}
use Rattle.vlog_tree.specs.declared.statement.Stmt.{Stmt, out-Stmt, fold_out-Stmt}
use Rattle.vlog_tree.specs.declared.statement.StmtKind.{StmtKind, fold-StmtKind, fold-roll-StmtKind}
use Rattle.vlog_tree.specs.declared.statement.StmtKind.TheVariants as v
use Rattle.vlog_tree.specs.declared.statement.StmtKind.TheOpen as o
use Rattle.vlog_tree.specs.declared.statement.CaseArm.{CaseArm, out-CaseArm, fold-CaseArm, fold_out-CaseArm}
use Rattle.flat_source_meaning.specs.Names.{NameList}
use Rattle.flat_source_meaning.specs.Variables.{loop_names, head_names}
use Rattle.flat_loops.specs.Others.{names_of_other}

abbrev N : Type 0
N = NameList

abbrev Names : Type 0
Names = Result N NoMemory

abbrev says : StmtKind → N
says = fold-StmtKind N N N head_names (λ arm. arm.body) (λ stmt. stmt.what)

of_stmt : (a : Stmt) → loop_names a ≡ says (out-Stmt a).what
of_stmt a = fold_out-Stmt N N N head_names (λ arm. arm.body) (λ stmt. stmt.what) a

by_kind : (a : Stmt) (k : StmtKind) (ns before : N) (r : Names) → (out-Stmt a).what ≡ k → says k ≡ ns → IfOk r (λ all. all ≡ before ++ ns)
    → IfOk r (λ all. all ≡ before ++ loop_names a)
by_kind a k ns before r is said h = subst (λ (l : N). IfOk r (λ all. all ≡ before ++ l)) (sym (of_stmt a ∙ ap says is ∙ said)) h

flat-made : {X : Type 0} (f : X → N) (xs : List X) → flat_map (λ (ns : N). ns) (map f xs) ≡ flat_map f xs
flat-made f [] = refl
flat-made f (x ∷ xs) = ap (λ l. f x ++ l) (flat-made f xs)

pub in_Block : (body slice : List Stmt) (last : Place) (a : Stmt) (before : N) (r : Names) → (out-Stmt a).what ≡ v.Block body last → slice ≡ body
    → IfOk r (λ all. all ≡ before ++ flat_map loop_names slice) → IfOk r (λ all. all ≡ before ++ loop_names a)
in_Block body slice last a before r is same h =
    by_kind a (v.Block body last) (flat_map loop_names body) before r is
    (ap says (sym (v.rolls-Block body last)) ∙ fold-roll-StmtKind N N N head_names (λ arm. arm.body) (λ stmt. stmt.what) (o.Block body last)
    ∙ flat-made loop_names body)
    (subst (λ (l : List Stmt). IfOk r (λ all. all ≡ before ++ flat_map loop_names l)) same h)

says-If : (test : Expr) (first : Stmt) (other : Option Stmt) → says (v.If test first other) ≡ loop_names first ++ names_of_other other
says-If test first (Some b) =
    ap says (sym (v.rolls-If test first (Some b))) ∙ fold-roll-StmtKind N N N head_names (λ arm. arm.body) (λ stmt. stmt.what) (o.If test first (Some b))
says-If test first None =
    ap says (sym (v.rolls-If test first None)) ∙ fold-roll-StmtKind N N N head_names (λ arm. arm.body) (λ stmt. stmt.what) (o.If test first None)

pub in_If : (test : Expr) (first first' : Stmt) (other : Option Stmt) (a : Stmt) (before mid : N) (r : Names) → (out-Stmt a).what ≡ v.If test first other
    → first' ≡ first → mid ≡ before ++ loop_names first' → IfOk r (λ all. all ≡ mid ++ names_of_other other)
    → IfOk r (λ all. all ≡ before ++ loop_names a)
in_If test first first' other a before mid r is same m h =
    by_kind a (v.If test first other) (loop_names first ++ names_of_other other) before r is (says-If test first other)
    (subst (λ (l : N). IfOk r (λ all. all ≡ l))
    (ap (λ l. l ++ names_of_other other) (m ∙ ap (λ x. before ++ loop_names x) same)
    ∙ append_assoc before (loop_names first) (names_of_other other)) h)

abbrev arm_says : CaseArm → N
arm_says = fold-CaseArm N N N head_names (λ arm. arm.body) (λ stmt. stmt.what)

abbrev pub in_arm : CaseArm → N
in_arm arm = loop_names (out-CaseArm arm).body

arm_is : (arm : CaseArm) → arm_says arm ≡ in_arm arm
arm_is arm = fold_out-CaseArm N N N head_names (λ arm. arm.body) (λ stmt. stmt.what) arm

arms_are : (arms : List CaseArm) → flat_map (λ (ns : N). ns) (map arm_says arms) ≡ flat_map in_arm arms
arms_are [] = refl
arms_are (a ∷ arms) = ap (λ ns. ns ++ flat_map (λ (ns : N). ns) (map arm_says arms)) (arm_is a) ∙ ap (λ ns. in_arm a ++ ns) (arms_are arms)

pub in_Case : (wild : Bool) (on : Expr) (arms slice : List CaseArm) (a : Stmt) (before : N) (r : Names) → (out-Stmt a).what ≡ v.Case wild on arms
    → slice ≡ arms → IfOk r (λ all. all ≡ before ++ flat_map in_arm slice) → IfOk r (λ all. all ≡ before ++ loop_names a)
in_Case wild on arms slice a before r is same h =
    by_kind a (v.Case wild on arms) (flat_map in_arm arms) before r is
    (ap says (sym (v.rolls-Case wild on arms)) ∙ fold-roll-StmtKind N N N head_names (λ arm. arm.body) (λ stmt. stmt.what) (o.Case wild on arms)
    ∙ arms_are arms)
    (subst (λ (l : List CaseArm). IfOk r (λ all. all ≡ before ++ flat_map in_arm l)) same h)

pub in_For : (name name' : List ℕ) (from test : Expr) (step_name step_name' : List ℕ) (step : Expr) (body body' a : Stmt) (before mid : N) (r : Names)
    → (out-Stmt a).what ≡ v.For name from test step_name step body → name' ≡ name → step_name' ≡ step_name → body' ≡ body
    → mid ≡ before ++ name' ∷ step_name' ∷ [] → IfOk r (λ all. all ≡ mid ++ loop_names body') → IfOk r (λ all. all ≡ before ++ loop_names a)
in_For name name' from test step_name step_name' step body body' a before mid r is n s same m h =
    by_kind a (v.For name from test step_name step body) (name ∷ step_name ∷ loop_names body) before r is
    (ap says (sym (v.rolls-For name from test step_name step body))
    ∙ fold-roll-StmtKind N N N head_names (λ arm. arm.body) (λ stmt. stmt.what) (o.For name from test step_name step body))
    (subst (λ (l : N). IfOk r (λ all. all ≡ l))
    (ap (λ l. l ++ loop_names body') (m ∙ ap (λ x. before ++ x ∷ step_name' ∷ []) n ∙ ap (λ x. before ++ name ∷ x ∷ []) s)
    ∙ append_assoc before (name ∷ step_name ∷ []) (loop_names body')
    ∙ ap (λ x. before ++ name ∷ step_name ∷ loop_names x) same) h)

nothing : (before : N) → before ≡ before ++ []
nothing [] = refl
nothing (n ∷ ns) = ap (λ l. n ∷ l) (nothing ns)

-- a statement with no statement in it
single : (a : Stmt) (k : StmtKind) (before : N) → (out-Stmt a).what ≡ k → says k ≡ [] → before ≡ before ++ loop_names a
single a k before is said = nothing before ∙ sym (ap (λ l. before ++ l) (of_stmt a ∙ ap says is ∙ said))

pub in_Empty : (a : Stmt) (before : N) → (out-Stmt a).what ≡ v.Empty → before ≡ before ++ loop_names a
in_Empty a before is =
    single a v.Empty before is (ap says (sym v.rolls-Empty) ∙ fold-roll-StmtKind N N N head_names (λ arm. arm.body) (λ stmt. stmt.what) o.Empty)

pub in_Finish : (a : Stmt) (before : N) → (out-Stmt a).what ≡ v.Finish → before ≡ before ++ loop_names a
in_Finish a before is =
    single a v.Finish before is (ap says (sym v.rolls-Finish) ∙ fold-roll-StmtKind N N N head_names (λ arm. arm.body) (λ stmt. stmt.what) o.Finish)

pub in_Stop : (a : Stmt) (before : N) → (out-Stmt a).what ≡ v.Stop → before ≡ before ++ loop_names a
in_Stop a before is =
    single a v.Stop before is (ap says (sym v.rolls-Stop) ∙ fold-roll-StmtKind N N N head_names (λ arm. arm.body) (λ stmt. stmt.what) o.Stop)

pub in_Set : (target value : Expr) (a : Stmt) (before : N) → (out-Stmt a).what ≡ v.Set target value → before ≡ before ++ loop_names a
in_Set target value a before is =
    single a (v.Set target value) before is
    (ap says (sym (v.rolls-Set target value)) ∙ fold-roll-StmtKind N N N head_names (λ arm. arm.body) (λ stmt. stmt.what) (o.Set target value))

pub in_Later : (target value : Expr) (a : Stmt) (before : N) → (out-Stmt a).what ≡ v.Later target value → before ≡ before ++ loop_names a
in_Later target value a before is =
    single a (v.Later target value) before is
    (ap says (sym (v.rolls-Later target value)) ∙ fold-roll-StmtKind N N N head_names (λ arm. arm.body) (λ stmt. stmt.what) (o.Later target value))

pub in_Show : (text : Option (List ℕ)) (values : List Expr) (a : Stmt) (before : N) → (out-Stmt a).what ≡ v.Show text values
    → before ≡ before ++ loop_names a
in_Show text values a before is =
    single a (v.Show text values) before is
    (ap says (sym (v.rolls-Show text values)) ∙ fold-roll-StmtKind N N N head_names (λ arm. arm.body) (λ stmt. stmt.what) (o.Show text values))

-- ---- one of a list more

pub more : {X : Type 0} (f : X → N) (xs : List X) (i : ℕ) (x : X) (before all after : N) → i < length xs → x ≡ get_or xs i x
    → all ≡ before ++ flat_map f (take i xs) → after ≡ all ++ f x → after ≡ before ++ flat_map f (take (i + 1) xs)
more {X} f xs i x before all after lt is h e =
    e ∙ ap (λ l. l ++ f x) h ∙ append_assoc before (flat_map f (take i xs)) (f x)
    ∙ ap (λ l. before ++ l) (alone (take i xs))
    ∙ ap (λ ys. before ++ flat_map f ys) (sym (take_more xs i x lt ∙ ap (λ (y : X). take i xs ++ y ∷ []) (sym is)))
  where
    alone : (ys : List X) → flat_map f ys ++ f x ≡ flat_map f (ys ++ x ∷ [])
    alone ys = sym (flat_map-append f ys (x ∷ []) ∙ ap (λ l. flat_map f ys ++ l) (sym (nothing (f x))))

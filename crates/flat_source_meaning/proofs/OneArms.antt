-- A process has one list of copies of arms.
use Rattle.std.proofs.Common.{◌≡◌, ◌∙◌, sym, ap, ap₂, refl, subst, ℕ, Bool, true, false, List, [], ◌∷◌, ◌++◌, Option, Some}
use Rattle.vlog_tree.specs.declared.statement.Stmt.{Stmt}
use Rattle.vlog_tree.specs.declared.statement.CaseArm.{CaseArm}
use Rattle.vlog_tree.specs.Trees.{StmtLayer, first_token}
use Rattle.scope_meaning.proofs.WalkLaws.{never}
use Rattle.source_meaning.specs.Environment.{Environment}
use Rattle.flat_source_meaning.specs.SourceArms.{Arm, if_arm, else_arm, unwritten_else, case_arm_of, body_arm}
use Rattle.flat_source_meaning.specs.ArmCopies as a
use Rattle.flat_source_meaning.specs.ArmCopies.{or_no_match, HasArms, AllHaveArms, PassesHaveArms, CasesHaveArms}
use Rattle.flat_source_meaning.specs.Processes.{Process}
use Rattle.flat_source_meaning.specs.FlatProcesses.{HasProcessArms, initially_has, always_has, assigns_has, covers_has, with_numbers, HaveArms, none, more}
use Rattle.flat_source_meaning.specs.FlatSources.{OneListOfCopies}

abbrev Arms : Type 0
Arms = List Arm

joined : {A : Type 0} {xs ys us vs : List A} → xs ≡ ys → us ≡ vs → xs ++ us ≡ ys ++ vs
joined e f = ap₂ (λ x y. x ++ y) e f

is_empty : {A : Type 0} → List A → Bool
is_empty [] = true
is_empty (x ∷ xs) = false

no_list : {A : Type 0} {B : Type 0} (xs : List B) (x : B) (rest : List B) → xs ≡ x ∷ rest → xs ≡ [] → A
unfolding is_empty
no_list xs x rest e f = never (ap is_empty (sym e ∙ f))

mutual
  pub one : {env : Environment} {s : Stmt} {l : StmtLayer} {xs ys : Arms} → HasArms env s l xs → HasArms env s l ys → xs ≡ ys
  one (a.single e) (a.single f) = refl
  one (a.single e) (a.block y) = never e
  one (a.single e) (a.if_alone y) = never e
  one (a.single e) (a.if_else y z) = never e
  one (a.single e) (a.case y) = never e
  one (a.single e) (a.for y) = never e
  one (a.block x) (a.single f) = never f
  one (a.block x) (a.block y) = all x y
  one (a.if_alone x) (a.single f) = never f
  one {s = s} (a.if_alone {first = first} x) (a.if_alone y) = ap (λ (z : Arms). if_arm (first_token s) first ∷ z
      ++ unwritten_else (first_token s) ∷ []) (one x y)
  one (a.if_else x z) (a.single f) = never f
  one {s = s} (a.if_else {first = first} {other = other} x z) (a.if_else y u) =
      ap₂ (λ (p : Arms) (q : Arms). if_arm (first_token s) first ∷ p ++ else_arm (first_token s) other ∷ q) (one x y) (one z u)
  one (a.case x) (a.single f) = never f
  one {s = s} (a.case x) (a.case y) = let q = cases x y in joined q.0 (ap (or_no_match (first_token s)) q.1)
  one (a.for x) (a.single f) = never f
  one (a.for x) (a.for y) = passes x y

  pub all : {env : Environment} {ss : List Stmt} {xs ys : Arms} → AllHaveArms env ss xs → AllHaveArms env ss ys → xs ≡ ys
  all a.no_stmts a.no_stmts = refl
  all (a.more_stmts x xs) (a.more_stmts y ys) = joined (one x y) (all xs ys)

  pub passes : {env : Environment} {name : List ℕ} {ns : List ℕ} {s : Stmt} {xs ys : Arms} → PassesHaveArms env name ns s xs
      → PassesHaveArms env name ns s ys → xs ≡ ys
  passes a.over a.over = refl
  passes (a.turn x xs) (a.turn y ys) = joined (one x y) (passes xs ys)

  pub cases : {env : Environment} {cs : List CaseArm} {xs ys : Arms} {d e : Option Arms} → CasesHaveArms env cs xs d → CasesHaveArms env cs ys e
      → (xs ≡ ys) × (d ≡ e)
  cases a.no_arms a.no_arms = (refl, refl)
  cases (a.listed {a = c} p x xs) (a.listed q y ys) = let r = cases xs ys in (joined (ap (λ (z : Arms). case_arm_of c ∷ z) (one x y)) r.0, r.1)
  cases (a.listed p x xs) (a.default_arm q y ys) = no_list _ _ _ p q
  cases (a.default_arm p x xs) (a.listed q y ys) = no_list _ _ _ q p
  cases (a.default_arm {a = c} p x xs) (a.default_arm q y ys) = let r = cases xs ys in (r.0, ap (λ (z : Arms). Some (case_arm_of c ∷ z)) (one x y))

of_process : {p : Process} {xs ys : Arms} → HasProcessArms p xs → HasProcessArms p ys → xs ≡ ys
of_process (initially_has {p = p} {st = st} x) (initially_has y) = ap (λ (z : Arms). body_arm p st ∷ z) (one x y)
of_process (always_has {p = p} {st = st} x) (always_has y) = ap (λ (z : Arms). body_arm p st ∷ z) (one x y)
of_process assigns_has assigns_has = refl
of_process covers_has covers_has = refl

pub one_list_of_copies : OneListOfCopies
one_list_of_copies k [] xs ys none none = refl
one_list_of_copies k (p ∷ ps) xs ys (more {n = n} {rest = us} x e x_rest) (more {n = m} {rest = vs} y f y_rest) =
    joined (ap (with_numbers k p) (of_process x y))
    (one_list_of_copies n ps us vs x_rest (subst (λ (z : ℕ). HaveArms z ps vs) (f ∙ sym e) y_rest))

-- The copies of arms of a source are arms that its files have.
use Rattle.std.proofs.Common.{◌≡◌, sym, ap, refl, subst, ℕ, zero, ◌⊎◌, inl, inr, List, [], ◌∷◌, ◌++◌, map}
use Rattle.std.proofs.Common.{Option, Some, None, Contains, arith}
use Rattle.std.proofs.lemmas.List.Elements.{Contains-append_cases, Contains-append_left, Contains-append_right}
use Rattle.cov_types.specs.declared.place.Place.{Place}
use Rattle.vlog_tree.specs.declared.statement.Stmt.{Stmt}
use Rattle.vlog_tree.specs.declared.statement.StmtKind.TheOpen as o
use Rattle.vlog_tree.specs.declared.statement.CaseArm.{CaseArm}
use Rattle.vlog_tree.specs.Trees.{StmtLayer, stmt_layer, first_token}
use Rattle.vlog_tree.specs.Inside.{itself, deeper, inner_of, case_body}
use Rattle.elab_types.specs.declared.arm.ArmComment.TheVariants as c
use Rattle.source_meaning.specs.Environment.{Environment}
use Rattle.flat_source_meaning.specs.SourceArms.{Arm, case_arm_of, if_arm, else_arm, unwritten_else, no_arm, arms_at, own_arms, IsArmInside}
use Rattle.flat_source_meaning.specs.ArmCopies as a
use Rattle.flat_source_meaning.specs.ArmCopies.{or_no_match, HasArms, AllHaveArms, PassesHaveArms, CasesHaveArms}
use Rattle.arm_place_laws.proofs.StatementArms.{nothing_in, one_of, IsArmInAny}

-- an arm that is written is one of the files; what is none has no point
abbrev pub IsNothing : Arm → Type 0
IsNothing x = x.comment ≡ c.Nothing

-- ---- the copies of arms of a statement

abbrev Copied : Stmt → Arm → Type 0
Copied st x = IsNothing x ⊎ IsArmInside st x

-- an arm inside a statement right inside this one
deeper_arm : {a b : Stmt} {x : Arm} → Contains (inner_of (stmt_layer a)) b → IsArmInside b x → IsArmInside a x
deeper_arm there (c, inner, own) = (c, deeper there inner, own)

-- an arm of the statement itself
own_arm : {a : Stmt} {x : Arm} → Contains (own_arms a) x → IsArmInside a x
own_arm {a} own = (a, itself, own)

either : {a b : Stmt} {x : Arm} → Contains (inner_of (stmt_layer a)) b → Copied b x → Copied a x
either there (inl nothing) = inl nothing
either there (inr found) = inr (deeper_arm there found)

here : {X : Type 0} (x : X) (xs : List X) → Contains (x ∷ xs) x
here x xs = Contains-append_left (x ∷ []) xs x (zero, omega arith, refl)

there : {X : Type 0} (y : X) (xs : List X) (x : X) → Contains xs x → Contains (y ∷ xs) x
there y xs x found = Contains-append_right (y ∷ []) xs x found

in_map : {X Y : Type 0} (f : X → Y) (xs : List X) (x : X) → Contains xs x → Contains (map f xs) (f x)
in_map f [] x found = absurd (nothing_in found)
in_map f (y ∷ ys) x found = elim (one_of y ys x found) [
  | inl first ↦ subst (λ z. Contains (f y ∷ map f ys) (f z)) first (here (f y) (map f ys))
  | inr more ↦ there (f y) (map f ys) (f x) (in_map f ys x more)
]

-- what is said of an arm by a statement of this layer
abbrev At : Stmt → StmtLayer → Arm → Type 0
At a l x = IsNothing x ⊎ Contains (arms_at (first_token a) l) x ⊎ IsArmInAny (inner_of l) x

at_layer : (a : Stmt) (l : StmtLayer) (x : Arm) → stmt_layer a ≡ l → At a l x → Copied a x
at_layer a l x e (inl nothing) = inl nothing
at_layer a l x e (inr (inl own)) = inr (own_arm (subst (λ l. Contains (arms_at (first_token a) l) x) (sym e) own))
at_layer a l x e (inr (inr inner)) =
    inr (deeper_arm (subst (λ l. Contains (inner_of l) inner.statement) (sym e) inner.listed) inner.inside)

in_any : {bs : List Stmt} {b : Stmt} {x : Arm} → Contains bs b → Copied b x → IsNothing x ⊎ IsArmInAny bs x
in_any found (inl nothing) = inl nothing
in_any {b = b} found (inr own) = inr (record { statement = b; listed = found; inside = own })

inner : (a : Stmt) (l : StmtLayer) {x : Arm} → IsNothing x ⊎ IsArmInAny (inner_of l) x → At a l x
inner a l (inl nothing) = inl nothing
inner a l (inr found) = inr (inr found)

-- the arms of a `case` that are listed, and those of its default
abbrev OfCase : List CaseArm → Arm → Type 0
OfCase all x = IsNothing x ⊎ Contains (map case_arm_of all) x ⊎ IsArmInAny (map case_body all) x

later_arm : (c : CaseArm) (all : List CaseArm) (x : Arm) → OfCase all x → OfCase (c ∷ all) x
later_arm c all x (inl nothing) = inl nothing
later_arm c all x (inr (inl own)) = inr (inl (there (case_arm_of c) (map case_arm_of all) x own))
later_arm c all x (inr (inr found)) =
    inr (inr (record { statement = found.statement; listed = there (case_body c) (map case_body all) found.statement found.listed; inside = found.inside }))

first_case : (c : CaseArm) (all : List CaseArm) (x : Arm) → case_arm_of c ≡ x → OfCase (c ∷ all) x
first_case c all x e = inr (inl (subst (λ y. Contains (case_arm_of c ∷ map case_arm_of all) y) e (here (case_arm_of c) (map case_arm_of all))))

in_body : (c : CaseArm) (all : List CaseArm) (x : Arm) → Copied (case_body c) x → OfCase (c ∷ all) x
in_body c all x (inl nothing) = inl nothing
in_body c all x (inr own) = inr (inr (record { statement = case_body c; listed = here (case_body c) (map case_body all); inside = own }))

abbrev OfDefault : List CaseArm → Option (List Arm) → Type 0
OfDefault all None = Unit {0}
OfDefault all (Some arms) = (x : Arm) → Contains arms x → OfCase all x

later_default : (c : CaseArm) (all : List CaseArm) (default : Option (List Arm)) → OfDefault all default → OfDefault (c ∷ all) default
later_default c all None k = tt
later_default c all (Some arms) k = λ x found. later_arm c all x (k x found)

no_match : (p : Place) (all : List CaseArm) (default : Option (List Arm)) (x : Arm) → OfDefault all default → Contains (or_no_match p default) x → OfCase all x
no_match p all (Some arms) x k found = k x found
no_match p all None x k found = elim (one_of (no_arm p) [] x found) [
  | inl first ↦ inl (sym (ap (λ y. y.comment) first))
  | inr none ↦ absurd (nothing_in none)
]

later_any : (b : Stmt) (bs : List Stmt) (x : Arm) → IsNothing x ⊎ IsArmInAny bs x → IsNothing x ⊎ IsArmInAny (b ∷ bs) x
later_any b bs x (inl nothing) = inl nothing
later_any b bs x (inr found) =
    inr (record { statement = found.statement; listed = there b bs found.statement found.listed; inside = found.inside })

mutual
  copied : {env : Environment} {st : Stmt} {l : StmtLayer} {arms : List Arm} → HasArms env st l arms → (x : Arm) → Contains arms x → At st l x
  copied (a.single is) x found = absurd (nothing_in found)
  copied {st = st} (a.block {last = last} {body = body} all) x found = inner st (o.Block body last) (all_copied all x found)
  copied {st = st} (a.if_alone {test = test} {first = first} {arms = arms} d) x found =
      let head = if_arm (first_token st) first in
      let tail = unwritten_else (first_token st) in
      elim (one_of head (arms ++ tail ∷ []) x found) [
        | inl e ↦ inr (inl (subst (λ y. Contains (head ∷ tail ∷ []) y) e (here head (tail ∷ []))))
        | inr more ↦ elim (Contains-append_cases arms (tail ∷ []) x more) [
          | inl within ↦ inner st (o.If test first None) (in_any (here first []) (at_layer first (stmt_layer first) x refl (copied d x within)))
          | inr last ↦ inr (inl (there head (tail ∷ []) x last))
        ]
      ]
  copied {st = st} (a.if_else {test = test} {first = first} {other = other} {arms = arms} {others = others} d f) x found =
      let head = if_arm (first_token st) first in
      let tail = else_arm (first_token st) other in
      elim (one_of head (arms ++ tail ∷ others) x found) [
        | inl e ↦ inr (inl (subst (λ y. Contains (head ∷ tail ∷ []) y) e (here head (tail ∷ []))))
        | inr more ↦ elim (Contains-append_cases arms (tail ∷ others) x more) [
          | inl within ↦ inner st (o.If test first (Some other)) (in_any (here first (other ∷ []))
              (at_layer first (stmt_layer first) x refl (copied d x within)))
          | inr last ↦ elim (one_of tail others x last) [
            | inl e ↦ inr (inl (subst (λ y. Contains (head ∷ tail ∷ []) y) e (there head (tail ∷ []) tail (here tail []))))
            | inr within ↦ inner st (o.If test first (Some other)) (in_any (there first (other ∷ []) other (here other []))
                (at_layer other (stmt_layer other) x refl (copied f x within)))
          ]
        ]
      ]
  copied {st = st} (a.case {all = all} {arms = arms} {default = default} d) x found =
      let both = cases_copied d in
      elim (Contains-append_cases arms (or_no_match (first_token st) default) x found) [
        | inl within ↦ both.0 x within
        | inr last ↦ no_match (first_token st) all default x both.1 last
      ]
  copied {st = st} (a.for {name = name} {step_name = step_name} {from = from} {test = test} {step = step} {body = body} d) x found =
      inner st (o.For name from test step_name step body) (passes_copied d x found)

  all_copied : {env : Environment} {body : List Stmt} {arms : List Arm} → AllHaveArms env body arms → (x : Arm) → Contains arms x
      → IsNothing x ⊎ IsArmInAny body x
  all_copied a.no_stmts x found = absurd (nothing_in found)
  all_copied (a.more_stmts {a = st} {all = all} {arms = arms} {others = others} d ds) x found = elim (Contains-append_cases arms others x found) [
    | inl first ↦ in_any (here st all) (at_layer st (stmt_layer st) x refl (copied d x first))
    | inr more ↦ later_any st all x (all_copied ds x more)
  ]

  passes_copied : {env : Environment} {name ns : List ℕ} {body : Stmt} {arms : List Arm} → PassesHaveArms env name ns body arms → (x : Arm) → Contains arms x
      → IsNothing x ⊎ IsArmInAny (body ∷ []) x
  passes_copied a.over x found = absurd (nothing_in found)
  passes_copied (a.turn {body = body} {arms = arms} {others = others} d ds) x found = elim (Contains-append_cases arms others x found) [
    | inl first ↦ in_any (here body []) (at_layer body (stmt_layer body) x refl (copied d x first))
    | inr more ↦ passes_copied ds x more
  ]

  cases_copied : {env : Environment} {all : List CaseArm} {arms : List Arm} {default : Option (List Arm)} → CasesHaveArms env all arms default
      → ((x : Arm) → Contains arms x → OfCase all x) × OfDefault all default
  cases_copied a.no_arms = (λ x found. absurd (nothing_in found), tt)
  cases_copied (a.listed {a = c} {all = all} {arms = arms} {others = others} {default = default} e d ds) =
      let rest = cases_copied ds in (
        λ x found. elim (one_of (case_arm_of c) (arms ++ others) x found) [
          | inl first ↦ first_case c all x first
          | inr more ↦ elim (Contains-append_cases arms others x more) [
            | inl within ↦ in_body c all x (at_layer (case_body c) (stmt_layer (case_body c)) x refl (copied d x within))
            | inr later ↦ later_arm c all x (rest.0 x later)
          ]
        ],
        later_default c all default rest.1,
      )
  cases_copied (a.default_arm {a = c} {all = all} {arms = arms} {others = others} e d ds) =
      let rest = cases_copied ds in (
        λ x found. later_arm c all x (rest.0 x found),
        λ x found. elim (one_of (case_arm_of c) arms x found) [
          | inl first ↦ first_case c all x first
          | inr within ↦ in_body c all x (at_layer (case_body c) (stmt_layer (case_body c)) x refl (copied d x within))
        ],
      )

-- the copies of arms of a statement are written in it, or have no point
pub statement_arms : {env : Environment} {st : Stmt} {arms : List Arm} → HasArms env st (stmt_layer st) arms → (x : Arm) → Contains arms x
    → IsNothing x ⊎ IsArmInside st x
statement_arms {st = st} d x found = at_layer st (stmt_layer st) x refl (copied d x found)

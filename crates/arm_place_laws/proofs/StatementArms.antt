-- The arms of a statement that is read from tokens are told by their places.
use Rattle.std.proofs.Common.{◌≡◌, ◌∙◌, sym, ap, refl, subst, zero, suc, ◌≤◌, ◌⊎◌, inl, inr, Bool, true, false, List, [], ◌∷◌, map, length}
use Rattle.std.proofs.Common.{Some, None, Contains, arith}
use Rattle.std.proofs.lemmas.List.Elements.{Contains-append_cases}
use Rattle.cov_types.specs.declared.place.Place.{Place}
use Rattle.vlog_tokens.specs.declared.token.Token.{Token}
use Rattle.vlog_tokens.specs.declared.token.TokenKind.TheVariants as k
use Rattle.vlog_tree.specs.declared.expression.Expr.{Expr}
use Rattle.vlog_tree.specs.declared.statement.Stmt.{Stmt, out-roll-Stmt}
use Rattle.vlog_tree.specs.declared.statement.StmtKind.{StmtKind, out-StmtKind}
use Rattle.vlog_tree.specs.declared.statement.StmtKind.TheVariants as s
use Rattle.vlog_tree.specs.declared.statement.CaseArm.{CaseArm, out-roll-CaseArm}
use Rattle.vlog_tree.specs.Trees.{stmt, case_arm, StmtLayer, stmt_layer, first_token}
use Rattle.vlog_tree.specs.Inside.{IsInside, itself, deeper, inner_of, case_body}
use Rattle.vlog_grammar.specs.Tokens.{Tokens, at}
use Rattle.vlog_grammar.specs.Statements.{IsStmt, empty, block, if_alone, if_else, case, casez, for, set, later, show, finish, stop, AreStmts, no_stmts}
use Rattle.vlog_grammar.specs.Statements.{more_stmts, AreArms, last_arm, more_arms, last_default, more_after_default, IsArm, listed, IsDefault}
use Rattle.vlog_grammar.specs.Statements.{default_colon, default_plain}
use Rattle.vlog_laws.proofs.Shorter.{shorter_expr}
use Rattle.vlog_laws.proofs.ShorterStatements.{shorter_stmt, shorter_stmts, shorter_arm, shorter_arms, shorter_default, shorter_head, shorter_block_name}
use Rattle.vlog_laws.proofs.ShorterStatements.{shorter_items}
use Rattle.elab_types.specs.declared.arm.ArmComment.TheVariants as c
use Rattle.flat_source_meaning.specs.SourceArms.{Arm, entered, if_arm, else_arm, unwritten_else, case_arm_of, arms_at, own_arms, IsArmInside}
use Rattle.source_meaning.specs.Events as event
use Rattle.scope_meaning.proofs.WalkLaws.{never}
use Rattle.arm_place_laws.proofs.Ends.{IsEnd, next, OnePlace}
use Rattle.arm_place_laws.proofs.Past.{past_expr, past_head, past_block_name, past_stmt, past_items, past_arm, past_default}
use Rattle.arm_place_laws.proofs.Told.{AreTold, none_there, fewer, both, at_token}

-- ---- lists

pub nothing_in : {X : Type 0} {x : X} → Contains [] x → ⊥
nothing_in found = omega (arith, found.1)

pub one_of : {X : Type 0} (y : X) (ys : List X) (x : X) → Contains (y ∷ ys) x → (y ≡ x) ⊎ Contains ys x
one_of y ys x found = elim (Contains-append_cases (y ∷ []) ys x found) [
  | inl first ↦ inl (only first)
  | inr more ↦ inr more
]
  where
    only : Contains (y ∷ []) x → y ≡ x
    only (zero, lt, e) = e
    only (suc n, lt, e) = absurd (omega (arith, lt))

-- ---- the arms in some statements

pub record IsArmInAny (bs : List Stmt) (x : Arm) : Type 0 where
  pub statement : Stmt
  pub listed : Contains bs statement
  pub inside : IsArmInside statement x

pub none_in_any : {x : Arm} → IsArmInAny [] x → ⊥
none_in_any found = nothing_in found.listed

pub first_or_rest : {b : Stmt} {bs : List Stmt} {x : Arm} → IsArmInAny (b ∷ bs) x → IsArmInside b x ⊎ IsArmInAny bs x
first_or_rest {b} {bs} {x} found = elim (one_of b bs found.statement found.listed) [
  | inl same ↦ inl (subst (λ a. IsArmInside a x) (sym same) found.inside)
  | inr more ↦ inr (record { statement = found.statement; listed = more; inside = found.inside })
]

-- the arms of a statement by its layer
abbrev pub ByLayer : Place → StmtLayer → Arm → Type 0
ByLayer p l x = Contains (arms_at p l) x ⊎ IsArmInAny (inner_of l) x

own_or_inner : {a b : Stmt} {x : Arm} → IsInside a b → Contains (own_arms b) x → ByLayer (first_token a) (stmt_layer a) x
own_or_inner itself own = inl own
own_or_inner (deeper {b = b} there inside) own = inr (record { statement = b; listed = there; inside = (_, inside, own) })

layer_of : (p : Place) (what : StmtKind) → stmt_layer (stmt p what) ≡ out-StmtKind what
layer_of p what = ap (λ x. out-StmtKind x.what) (out-roll-Stmt (record { place = p; what = what }))

token_of : (p : Place) (what : StmtKind) → first_token (stmt p what) ≡ p
token_of p what = ap (λ x. x.place) (out-roll-Stmt (record { place = p; what = what }))

by_layer : (p : Place) (what : StmtKind) {l : StmtLayer} → out-StmtKind what ≡ l → (x : Arm) → IsArmInside (stmt p what) x → ByLayer p l x
by_layer p what {l} e x (b, inside, own) =
    subst (λ l. ByLayer p l x) (layer_of p what ∙ e) (subst (λ q. ByLayer q (stmt_layer (stmt p what)) x) (token_of p what) (own_or_inner inside own))

-- ---- the arms of a `case`

abbrev pub ArmsOf : List CaseArm → Arm → Type 0
ArmsOf arms x = Contains (map case_arm_of arms) x ⊎ IsArmInAny (map case_body arms) x

abbrev pub ArmOf : CaseArm → Arm → Type 0
ArmOf a x = (case_arm_of a ≡ x) ⊎ IsArmInside (case_body a) x

arm_or_rest : (a : CaseArm) (arms : List CaseArm) (x : Arm) → ArmsOf (a ∷ arms) x → ArmOf a x ⊎ ArmsOf arms x
arm_or_rest a arms x (inl own) = elim (one_of (case_arm_of a) (map case_arm_of arms) x own) [
  | inl first ↦ inl (inl first)
  | inr more ↦ inr (inl more)
]
arm_or_rest a arms x (inr inner) = elim (first_or_rest inner) [
  | inl first ↦ inl (inr first)
  | inr more ↦ inr (inr more)
]

no_arms : (x : Arm) → ArmsOf [] x → ⊥
no_arms x (inl own) = nothing_in own
no_arms x (inr inner) = none_in_any inner

case_arm_at : (p : Place) (items : List Expr) (body : Stmt) → (case_arm_of (case_arm p items body)).place ≡ p
case_arm_at p items body = ap (λ a. a.place) (out-roll-CaseArm (record { place = p; items = items; body = body }))

body_at : (p : Place) (items : List Expr) (body : Stmt) → case_body (case_arm p items body) ≡ body
body_at p items body = ap (λ a. a.body) (out-roll-CaseArm (record { place = p; items = items; body = body }))

-- ---- the two arms of an `if`

two_arms : (x y : Arm) (a b : Arm) → a.comment ≡ c.If → b.comment ≡ c.Else → Contains (a ∷ b ∷ []) x → Contains (a ∷ b ∷ []) y
    → entered x.comment ≡ entered y.comment → x ≡ y
two_arms x y a b first second found other e = elim (one_of a (b ∷ []) x found) [
  | inl e1 ↦ elim (one_of a (b ∷ []) y other) [
    | inl e2 ↦ sym e1 ∙ e2
    | inr r2 ↦ absurd (apart (sym (ap entered first) ∙ ap (λ z. entered z.comment) e1 ∙ e ∙ sym (ap (λ z. entered z.comment) (last r2)) ∙ ap entered second))
  ]
  | inr r1 ↦ elim (one_of a (b ∷ []) y other) [
    | inl e2 ↦ absurd (apart (sym (ap entered first) ∙ ap (λ z. entered z.comment) e2 ∙ sym e
        ∙ sym (ap (λ z. entered z.comment) (last r1)) ∙ ap entered second))
    | inr r2 ↦ sym (last r1) ∙ last r2
  ]
]
  where
    is_yes : event.Arm → Bool
    is_yes event.yes_arm = true
    is_yes _ = false

    apart : event.yes_arm ≡ event.no_arm → ⊥
    apart e = never (sym (ap is_yes e))

    last : {z : Arm} → Contains (b ∷ []) z → b ≡ z
    last {z} found = elim (one_of b [] z found) [
      | inl same ↦ same
      | inr none ↦ absurd (nothing_in none)
    ]

-- ---- by the grammar

no_own : (p : Place) (l : StmtLayer) → arms_at p l ≡ [] → inner_of l ≡ [] → (x : Arm) → ByLayer p l x → ⊥
no_own p l e f x (inl own) = nothing_in (subst (λ xs. Contains xs x) e own)
no_own p l e f x (inr inner) = none_in_any (subst (λ bs. IsArmInAny bs x) f inner)

inner_alone : (p : Place) (what : StmtKind) {l : StmtLayer} → out-StmtKind what ≡ l → arms_at p l ≡ [] → (x : Arm) → IsArmInside (stmt p what) x
    → IsArmInAny (inner_of l) x
inner_alone p what {l} e f x found = elim (by_layer p what e x found) [
  | inl own ↦ absurd (nothing_in (subst (λ xs. Contains xs x) f own))
  | inr inner ↦ inner
]

at_if : (p : Place) (first : Stmt) (b : Arm) → b.place ≡ p → (x : Arm) → Contains (if_arm p first ∷ b ∷ []) x → x.place ≡ p
at_if p first b e x found = elim (one_of (if_arm p first) (b ∷ []) x found) [
  | inl same ↦ sym (ap (λ z. z.place) same)
  | inr more ↦ elim (one_of b [] x more) [
    | inl same ↦ sym (ap (λ z. z.place) same) ∙ e
    | inr none ↦ absurd (nothing_in none)
  ]
]

alone : {a : Stmt} {x : Arm} → IsArmInAny (a ∷ []) x → IsArmInside a x
alone found = elim (first_or_rest found) [
  | inl first ↦ first
  | inr none ↦ absurd (none_in_any none)
]

in_one : {all ts us : Tokens} {a : Stmt} → AreTold all ts us (IsArmInside a) → AreTold all ts us (IsArmInAny (a ∷ []))
in_one told = fewer (omega arith) (omega arith) (λ x found. alone found) told

only_arm : (a : CaseArm) (x : Arm) → ArmsOf (a ∷ []) x → ArmOf a x
only_arm a x found = elim (arm_or_rest a [] x found) [
  | inl first ↦ first
  | inr none ↦ absurd (no_arms x none)
]

module _ {all : Tokens} (one : OnePlace all) where
  -- a statement without statements in it
  plain : {ts us : Tokens} (p : Place) (what : StmtKind) {l : StmtLayer} → out-StmtKind what ≡ l → arms_at p l ≡ [] → inner_of l ≡ []
      → AreTold all ts us (IsArmInside (stmt p what))
  plain p what {l} e f g = none_there (λ x found. no_own p l f g x (by_layer p what e x found))

  -- one whose arms stand at its first token, with other statements behind that
  headed : {us vs ws : Tokens} {t : Token} (what : StmtKind) {l : StmtLayer} → out-StmtKind what ≡ l → IsEnd (t ∷ us) all
      → length vs ≤ length us → length ws ≤ length vs
      → ((x : Arm) → Contains (arms_at t.place l) x → x.place ≡ t.place)
      → ((x y : Arm) → Contains (arms_at t.place l) x → Contains (arms_at t.place l) y → entered x.comment ≡ entered y.comment → x ≡ y)
      → AreTold all vs ws (IsArmInAny (inner_of l)) → AreTold all (t ∷ us) ws (IsArmInside (stmt t.place what))
  headed {us} {vs} {ws} {t} what {l} e end apart low placed told inner =
      fewer (omega arith) (omega arith) (by_layer t.place what e)
      (both {P = Contains (arms_at t.place l)} {Q = IsArmInAny (inner_of l)} one apart low (omega arith) (at_token end placed told) inner)

  -- an arm of a `case`, at its first token, and the arms in its statement
  with_body : {us vs ws : Tokens} {t : Token} (items : List Expr) (body : Stmt) → IsEnd (t ∷ us) all → length vs ≤ length us → length ws ≤ length vs
      → AreTold all vs ws (IsArmInside body) → AreTold all (t ∷ us) ws (ArmOf (case_arm t.place items body))
  with_body {us} {vs} {ws} {t} items body end apart low inner =
      let a = case_arm t.place items body in
      both {P = λ x. case_arm_of a ≡ x} {Q = IsArmInside (case_body a)} one apart low (omega arith)
      (at_token end (λ x e. sym (ap (λ z. z.place) e) ∙ case_arm_at t.place items body) (λ x y e f g. sym e ∙ f))
      (subst (λ b. AreTold all vs ws (IsArmInside b)) (sym (body_at t.place items body)) inner)

  mutual
    pub stmt_told : {ts us : Tokens} {a : Stmt} → IsStmt ts a us → IsEnd ts all → AreTold all ts us (IsArmInside a)
    stmt_told (empty {p = p}) end = plain p s.Empty s.outs-Empty refl refl
    stmt_told (block {us = us} {p = p} {q = q} {body = body} label parts) end =
        fewer (omega arith) (omega (arith, shorter_block_name label)) (inner_alone p (s.Block body q) (s.outs-Block body q) refl)
        (stmts_told parts (past_block_name label (next end)))
    stmt_told (if_alone {vs = vs} {ws = ws} {p = p} {test = test} {first = first} on done none) end =
        headed {vs = vs} {ws = ws} (s.If test first None) (s.outs-If test first None) end (omega (arith, shorter_expr on)) (omega (arith, shorter_stmt done))
        (at_if p first (unwritten_else p) refl) (λ x y found other. two_arms x y (if_arm p first) (unwritten_else p) refl refl found other)
        (in_one (stmt_told done (next (past_expr on (next (next end))))))
    stmt_told (if_else {vs = vs} {ws = ws} {xs = xs} {p = p} {o = o} {test = test} {first = first} {second = second} on done other) end =
        let behind = next (past_expr on (next (next end))) in
        headed {vs = vs} {ws = xs} (s.If test first (Some second)) (s.outs-If test first (Some second)) end (omega (arith, shorter_expr on))
        (omega (arith, shorter_stmt done, shorter_stmt other))
        (at_if p first (else_arm p second) refl) (λ x y found also. two_arms x y (if_arm p first) (else_arm p second) refl refl found also)
        (fewer (omega arith) (omega arith) (λ x found. first_or_rest found)
        (both {us = at o k.Else ∷ ws} one (omega arith) (omega (arith, shorter_stmt other)) (omega (arith, shorter_stmt done)) (stmt_told done behind)
        (in_one (stmt_told other (next (past_stmt done behind))))))
    stmt_told (case {p = p} {on = on} {arms = arms} test list) end =
        fewer (omega arith) (omega (arith, shorter_expr test)) (by_layer p (s.Case false on arms) (s.outs-Case false on arms))
        (arms_told list (next (past_expr test (next (next end)))))
    stmt_told (casez {p = p} {on = on} {arms = arms} test list) end =
        fewer (omega arith) (omega (arith, shorter_expr test)) (by_layer p (s.Case true on arms) (s.outs-Case true on arms))
        (arms_told list (next (past_expr test (next (next end)))))
    stmt_told (for {p = p} {name = name} {step_name = step_name} {from = from} {test = test} {step = step} {body = body} head turned) end =
        fewer (omega arith) (omega (arith, shorter_head head))
        (inner_alone p (s.For name from test step_name step body) (s.outs-For name from test step_name step body) refl)
        (in_one (stmt_told turned (past_head head (next end))))
    stmt_told (set {t = t} {target = target} {value = value} left right) end = plain t.place (s.Set target value) (s.outs-Set target value) refl refl
    stmt_told (later {t = t} {target = target} {value = value} left right) end = plain t.place (s.Later target value) (s.outs-Later target value) refl refl
    stmt_told (show {p = p} {text = text} {values = values} word shown) end = plain p (s.Show text values) (s.outs-Show text values) refl refl
    stmt_told (finish {p = p} word ending) end = plain p s.Finish s.outs-Finish refl refl
    stmt_told (stop {p = p} word ending) end = plain p s.Stop s.outs-Stop refl refl

    stmts_told : {ts us : Tokens} {list : List Stmt} → AreStmts ts list us → IsEnd ts all → AreTold all ts us (IsArmInAny list)
    stmts_told no_stmts end = none_there (λ x found. none_in_any found)
    stmts_told (more_stmts first rest) end =
        fewer (omega arith) (omega arith) (λ x found. first_or_rest found)
        (both one (omega arith) (omega (arith, shorter_stmts rest)) (omega (arith, shorter_stmt first)) (stmt_told first end)
        (stmts_told rest (past_stmt first end)))

    arms_told : {wild seen : Bool} {ts us : Tokens} {list : List CaseArm} → AreArms wild seen ts list us → IsEnd ts all → AreTold all ts us (ArmsOf list)
    arms_told (last_arm {a = a} first) end = fewer (omega arith) (omega arith) (λ x found. only_arm a x found) (arm_told first end)
    arms_told (more_arms {a = a} {all = others} first rest) end =
        fewer (omega arith) (omega arith) (λ x found. arm_or_rest a others x found)
        (both one (omega arith) (omega (arith, shorter_arms rest)) (omega (arith, shorter_arm first)) (arm_told first end)
        (arms_told rest (past_arm first end)))
    arms_told (last_default {a = a} first) end = fewer (omega arith) (omega arith) (λ x found. only_arm a x found) (default_told first end)
    arms_told (more_after_default {a = a} {all = others} first rest) end =
        fewer (omega arith) (omega arith) (λ x found. arm_or_rest a others x found)
        (both one (omega arith) (omega (arith, shorter_arms rest)) (omega (arith, shorter_default first)) (default_told first end)
        (arms_told rest (past_default first end)))

    arm_told : {wild : Bool} {ts us : Tokens} {a : CaseArm} → IsArm wild ts a us → IsEnd ts all → AreTold all ts us (ArmOf a)
    arm_told (listed {items = items} {body = body} values done) end =
        with_body items body end (omega (arith, shorter_items values)) (omega (arith, shorter_stmt done)) (stmt_told done (next (past_items values end)))

    default_told : {ts us : Tokens} {a : CaseArm} → IsDefault ts a us → IsEnd ts all → AreTold all ts us (ArmOf a)
    default_told (default_colon {body = body} done) end =
        with_body [] body end (omega arith) (omega (arith, shorter_stmt done)) (stmt_told done (next (next end)))
    default_told (default_plain {body = body} done) end =
        with_body [] body end (omega arith) (omega (arith, shorter_stmt done)) (stmt_told done (next end))

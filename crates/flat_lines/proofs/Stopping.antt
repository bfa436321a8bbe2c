-- Whether a `$stop` belongs directly to a statement, by what the statement is.
use Rattle.std.proofs.Common.{◌≡◌, ◌↔◌, ◌⊎◌, inl, inr, ℕ, ◌+◌, ◌<◌, ◌≤◌, Bool, true, false, List, [], ◌∷◌, ◌++◌, length, take, get_or, Option, Some, None}
use Rattle.std.proofs.Common.{refl, subst, sym, ap, ◌∙◌, arith}
use Rattle.std.specs.Prelude.{Contains}
use Rattle.std.proofs.lemmas.List.{take_more, take_all}
use Rattle.std.proofs.lemmas.List.Elements.{Contains-push, Contains-push_cases, Contains-get_or}
use Rattle.vlog_tree.specs.declared.expression.Expr.{Expr}
use Rattle.cov_types.specs.declared.place.Place.{Place}
use Rattle.vlog_tree.specs.declared.statement.Stmt.{Stmt, out-Stmt}
use Rattle.vlog_tree.specs.declared.statement.StmtKind.{StmtKind, roll-StmtKind, roll-out-StmtKind}
use Rattle.vlog_tree.specs.declared.statement.StmtKind.TheOpen as o
use Rattle.vlog_tree.specs.declared.statement.StmtKind.TheVariants as s
use Rattle.vlog_tree.specs.Trees.{StmtLayer, stmt_layer}
use Rattle.vlog_tree.specs.Inside.{IsDirectlyIn, parts_of}
use Rattle.vlog_tree.specs.Inside.IsDirectlyIn.{itself, deeper}
use Rattle.flat_source_meaning.specs.SourceArms.{Arm, is_stop, Stops}
use Rattle.flat_lines.specs.Lines.{StopsIn, StopsAmong}
use Rattle.flat_lines.proofs.Direct.{cases}

own_or_part : (a : Stmt) → StopsIn a → (is_stop (stmt_layer a) ≡ true) ⊎ StopsAmong (parts_of (stmt_layer a))
own_or_part a h = elim (cases h.1) [
  | inl e ↦ inl (subst (λ (d : Stmt). is_stop (stmt_layer d) ≡ true) (sym e) h.2)
  | inr d ↦ inr (d.0, d.1, (h.0, d.2, h.2))
]

of_part : (a : Stmt) → StopsAmong (parts_of (stmt_layer a)) → StopsIn a
of_part a h = (h.2.0, deeper h.1 h.2.1, h.2.2)

none_among : StopsAmong [] → ⊥
none_among h = omega (arith, h.1.1)

pub stop_stops : (a : Stmt) → stmt_layer a ≡ o.Stop → StopsIn a ↔ (true ≡ true)
stop_stops a e = (λ h. refl, λ t. (a, itself, ap is_stop e))

pub block_stops : (a : Stmt) (body slice : List Stmt) (last : Place) (b : Bool) → stmt_layer a ≡ o.Block body last → slice ≡ body
    → StopsAmong slice ↔ (b ≡ true) → StopsIn a ↔ (b ≡ true)
block_stops a body slice last b e same any = (
  λ h. any.0 (elim (own_or_part a h) [
    | inl w ↦ cc (ap is_stop e, w)
    | inr m ↦ subst StopsAmong (ap parts_of e ∙ sym same) m
  ]),
  λ is. of_part a (subst StopsAmong (same ∙ sym (ap parts_of e)) (any.1 is)),
)

the_part : (b : Stmt) → StopsAmong (b ∷ []) → StopsIn b
the_part b h = elim (Contains-push_cases [] b h.0 h.1) [
  | inl none ↦ absurd (omega (arith, none.1))
  | inr e ↦ subst StopsIn (sym e) h.2
]

pub loop_stops : (a : Stmt) (name step_name : List ℕ) (from test step : Expr) (body part : Stmt) (b : Bool)
    → stmt_layer a ≡ o.For name from test step_name step body → part ≡ body → StopsIn part ↔ (b ≡ true) → StopsIn a ↔ (b ≡ true)
loop_stops a name step_name from test step body part b e same any = (
  λ h. any.0 (subst StopsIn (sym same) (elim (own_or_part a h) [
    | inl w ↦ cc (ap is_stop e, w)
    | inr m ↦ the_part body (subst StopsAmong (ap parts_of e) m)
  ])),
  λ is. of_part a (subst StopsAmong (sym (ap parts_of e)) (body, Contains-push [] body, subst StopsIn same (any.1 is))),
)

other_layer : (l : StmtLayer) (k : StmtKind) → roll-StmtKind l ≡ k → (k ≡ s.Stop → ⊥) → ((body : List Stmt) (last : Place) → k ≡ s.Block body last → ⊥)
    → ((name : List ℕ) (from test : Expr) (step_name : List ℕ) (step : Expr) (body : Stmt) → k ≡ s.For name from test step_name step body → ⊥)
    → (parts_of l ≡ []) × (is_stop l ≡ false)
other_layer o.Stop k e no_stop no_block no_loop = absurd (no_stop (sym e ∙ s.rolls-Stop))
other_layer (o.Block body last) k e no_stop no_block no_loop = absurd (no_block body last (sym e ∙ s.rolls-Block body last))
other_layer (o.For name from test step_name step body) k e no_stop no_block no_loop =
    absurd (no_loop name from test step_name step body (sym e ∙ s.rolls-For name from test step_name step body))
other_layer o.Empty k e no_stop no_block no_loop = (refl, refl)
other_layer (o.If test first other) k e no_stop no_block no_loop = (refl, refl)
other_layer (o.Case wild on arms) k e no_stop no_block no_loop = (refl, refl)
other_layer (o.Set target value) k e no_stop no_block no_loop = (refl, refl)
other_layer (o.Later target value) k e no_stop no_block no_loop = (refl, refl)
other_layer (o.Show text values) k e no_stop no_block no_loop = (refl, refl)
other_layer o.Finish k e no_stop no_block no_loop = (refl, refl)

pub other_goes_on : (a : Stmt) → ((out-Stmt a).what ≡ s.Stop → ⊥) → ((body : List Stmt) (last : Place) → (out-Stmt a).what ≡ s.Block body last → ⊥)
    → ((name : List ℕ) (from test : Expr) (step_name : List ℕ) (step : Expr) (body : Stmt) → (out-Stmt a).what ≡ s.For name from test step_name step body → ⊥)
    → StopsIn a ↔ (false ≡ true)
other_goes_on a no_stop no_block no_loop =
    let is = other_layer (stmt_layer a) (out-Stmt a).what (roll-out-StmtKind (out-Stmt a).what) no_stop no_block no_loop in
    (λ h. elim (own_or_part a h) [ inl w ↦ sym is.1 ∙ w | inr m ↦ absurd (none_among (subst StopsAmong is.0 m)) ], λ e. cc e)

-- none of the statements so far
pub none_before : StopsAmong [] → ⊥
none_before = none_among

pub one_goes_on : (parts : List Stmt) (k : ℕ) (part : Stmt) (b : Bool) → k < length parts → part ≡ get_or parts k part → b ≡ false
    → (StopsIn part ↔ (b ≡ true)) → (StopsAmong (take k parts) → ⊥) → StopsAmong (take (k + 1) parts) → ⊥
one_goes_on parts k part b lt is goes_on any none h =
    let before = take_more parts k part lt ∙ ap (λ (d : Stmt). take k parts ++ d ∷ []) (sym is) in
    let among = subst StopsAmong before h in
    elim (Contains-push_cases (take k parts) part among.0 among.1) [
      | inl c ↦ none (among.0, c, among.2)
      | inr e ↦ cc (goes_on, any.0 (subst StopsIn (sym e) among.2))
    ]

pub one_stops : (parts : List Stmt) (k : ℕ) (part : Stmt) → k < length parts → part ≡ get_or parts k part → StopsIn part → StopsAmong parts
one_stops parts k part lt is h = (part, subst (Contains parts) (sym is) (Contains-get_or parts k part lt), h)

pub none_stops : (parts : List Stmt) (k : ℕ) → length parts ≤ k → (StopsAmong (take k parts) → ⊥) → StopsAmong parts ↔ (false ≡ true)
none_stops parts k le none = (λ h. absurd (none (subst StopsAmong (sym (take_all k parts le)) h)), λ e. cc e)

-- ---- of an arm

the_body : Stmt → Option Stmt → Stmt
the_body d (Some b) = b
the_body d None = d

pub arm_stops : (a : Arm) (body : Stmt) (b : Bool) → a.body ≡ Some body → StopsIn body ↔ (b ≡ true) → Stops a ↔ (b ≡ true)
unfolding the_body
arm_stops a body b some any = (
  λ h. any.0 (h.1, subst (λ (d : Stmt). IsDirectlyIn d h.1) (ap (the_body body) (sym h.2 ∙ some)) h.3, h.4),
  λ is. let w = any.1 is in (body, w.0, some, w.1, w.2),
)

pub arm_goes_on : (a : Arm) → a.body ≡ None → Stops a ↔ (false ≡ true)
arm_goes_on a none = (λ h. cc (none, h.2), λ e. cc e)

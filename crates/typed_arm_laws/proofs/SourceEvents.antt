-- The events of a flat statement are those of the copies of arms of its source statement: by induction on how it is the flat
-- form.
use Rattle.std.proofs.Common.{
  ◌≡◌,
  ◌∙◌,
  sym,
  ap,
  ap₂,
  refl,
  subst,
  ℕ,
  Bool,
  true,
  false,
  if◌then◌else◌,
  List,
  [],
  ◌∷◌,
  ◌++◌,
  map,
  Option,
  Some,
  None,
  append-nil,
}
use Rattle.std.proofs.lemmas.List.{map-append}
use Rattle.std.specs.List.{flat_map}
use Rattle.cov_types.specs.declared.place.Place.{Place}
use Rattle.vlog_tree.specs.declared.expression.Expr.{Expr}
use Rattle.vlog_tree.specs.declared.statement.Stmt.{Stmt, out-Stmt, out-roll-Stmt}
use Rattle.vlog_tree.specs.declared.statement.StmtKind.{StmtKind, out-StmtKind}
use Rattle.vlog_tree.specs.declared.statement.StmtKind.TheVariants as s
use Rattle.vlog_tree.specs.declared.statement.StmtKind.TheOpen as o
use Rattle.vlog_tree.specs.declared.statement.CaseArm.{CaseArm, out-CaseArm, out-roll-CaseArm}
use Rattle.vlog_tree.specs.Trees.{StmtLayer, stmt, case_arm, stmt_layer, first_token}
use Rattle.elab_types.specs.declared.flat_source.FlatVar.{FlatVar}
use Rattle.elab_types.specs.declared.flat_expression.FlatExpr.{FlatExpr}
use Rattle.elab_types.specs.declared.flat_statement.FlatStmt.{FlatStmt}
use Rattle.elab_types.specs.declared.flat_statement.FlatArm.{FlatArm}
use Rattle.source_meaning.specs.Events.{Event, yes_arm}
use Rattle.source_meaning.specs.Events as event
use Rattle.source_meaning.specs.Environment.{Environment}
use Rattle.source_meaning.specs.Statements.{values_of}
use Rattle.scope_meaning.proofs.WalkLaws.{never}
use Rattle.flat_meaning.specs.FlatTrees.{flat_arm}
use Rattle.flat_meaning.specs.FlatForm as form
use Rattle.flat_meaning.specs.FlatForm.{IsFlatStmt, AreFlat, AreFlatStmts, AreFlatArms, AreFlatPasses}
use Rattle.flat_source_meaning.specs.SourceArms.{Arm, if_arm, else_arm, unwritten_else, case_arm_of, event_of}
use Rattle.flat_source_meaning.specs.ArmCopies as a
use Rattle.flat_source_meaning.specs.ArmCopies.{or_no_match, HasArms, AllHaveArms, PassesHaveArms, CasesHaveArms}
use Rattle.typed_drive_laws.specs.FormedBodies.{is_default}
use Rattle.typed_arm_laws.specs.FlatArms.{ArmEvents, unless_default, listed, default_or, entering, default_of, events}
use Rattle.typed_arm_laws.proofs.EventsOf as of

abbrev Arms : Type 0
Arms = List Arm

layer_of : (p : Place) (what : StmtKind) → stmt_layer (stmt p what) ≡ out-StmtKind what
layer_of p what = ap (λ x. out-StmtKind x.what) (out-roll-Stmt (record { place = p; what = what }))

token_of : (p : Place) (what : StmtKind) → first_token (stmt p what) ≡ p
token_of p what = ap (λ x. x.place) (out-roll-Stmt (record { place = p; what = what }))

abbrev is_empty : List Expr → Bool
is_empty [] = true
is_empty (x ∷ xs) = false

-- a statement without arms
no_arms_in : {env : Environment} {st : Stmt} {l : StmtLayer} {xs : Arms} → HasArms env st l xs → a.is_single l ≡ true → xs ≡ []
no_arms_in (a.single e) h = refl
no_arms_in (a.block x) h = never h
no_arms_in (a.if_alone x) h = never h
no_arms_in (a.if_else x y) h = never h
no_arms_in (a.case x) h = never h
no_arms_in (a.for x) h = never h

module _ (vars : List FlatVar) where
  -- the events of arms
  abbrev told : ℕ → Arms → List Event
  told scope = map (event_of scope)

  -- those of the default of a `case`, or of what is there in its place
  abbrev told_default : ℕ → Place → Option Arms → List Event
  told_default scope p d = told scope (or_no_match p d)

  single : {env : Environment} {st : Stmt} {xs : Arms} {es : List Event} (l : StmtLayer) → stmt_layer st ≡ l → a.is_single l ≡ true
      → HasArms env st (stmt_layer st) xs → es ≡ [] → es ≡ told env.scope xs
  single {env} {st} {xs} l e n h q = q ∙ sym (ap (told env.scope) (no_arms_in h (ap a.is_single e ∙ n)))

  same_default : {env : Environment} {es : List Expr} {items : List FlatExpr} → AreFlat vars env es items → is_default items ≡ is_empty es
  same_default form.no_exprs = refl
  same_default (form.more_exprs d ds) = refl

  -- an arm of a `case`: its parts, and the event of the source's
  arm_is : {env : Environment} (scope : ℕ) (p : Place) {es : List Expr} {items : List FlatExpr} (st : Stmt) (one : FlatStmt) (b : Bool) (xs : Arms)
      → AreFlat vars env es items → is_empty (out-CaseArm (case_arm p es st)).items ≡ b → events scope one ≡ told scope xs
      → of.arms scope (flat_arm p items one) ≡ record { is_default = b; entered = told scope (case_arm_of (case_arm p es st) ∷ xs) }
  arm_is scope p {es} {items} st one b xs d h e =
      of.of-arm scope p items one
      ∙ ap (λ x. record { is_default = x; entered = entering scope p event.case_arm ∷ events scope one })
      (same_default d ∙ sym (ap (λ x. is_empty x.items) (out-roll-CaseArm (record { place = p; items = es; body = st }))) ∙ h)
      ∙ ap₂ (λ q es. record { is_default = b; entered = entering scope q event.case_arm ∷ es })
      (sym (ap (λ x. x.place) (out-roll-CaseArm (record { place = p; items = es; body = st })))) e

  -- the arms of an arm's body
  body_arms : {env : Environment} {xs : Arms} (p : Place) (es : List Expr) (st : Stmt)
      → HasArms env (out-CaseArm (case_arm p es st)).body (stmt_layer (out-CaseArm (case_arm p es st)).body) xs → HasArms env st (stmt_layer st) xs
  body_arms {env} {xs} p es st h =
      subst (λ z. HasArms env z (stmt_layer z) xs) (ap (λ x. x.body) (out-roll-CaseArm (record { place = p; items = es; body = st }))) h

  -- the arms of a loop are those of its passes
  arms_of_loop : {env : Environment} {st : Stmt} {name step_name : List ℕ} {from test step : Expr} {body : Stmt} {xs : Arms}
      → HasArms env st (o.For name from test step_name step body) xs → PassesHaveArms env name (values_of env name from test step) body xs
  arms_of_loop (a.single e) = never e
  arms_of_loop (a.for h) = h

  -- what the arms of a statement come to, from what those inside come to
  of_block : {env : Environment} {st : Stmt} {body : List Stmt} {last : Place} {xs : Arms} (fl : List FlatStmt)
      → ((ys : Arms) → AllHaveArms env body ys → flat_map (λ es. es) (map (events env.scope) fl) ≡ told env.scope ys)
      → HasArms env st (o.Block body last) xs → flat_map (λ es. es) (map (events env.scope) fl) ≡ told env.scope xs
  of_block fl known (a.single e) = never e
  of_block fl known (a.block {arms = xs} h) = known xs h

  of_if : {env : Environment} {st first : Stmt} {test : Expr} {xs : Arms} (p : Place) (one : FlatStmt) → first_token st ≡ p
      → ((ys : Arms) → HasArms env first (stmt_layer first) ys → events env.scope one ≡ told env.scope ys) → HasArms env st (o.If test first None) xs
      → entering env.scope p yes_arm ∷ events env.scope one ++ entering env.scope p event.no_arm ∷ [] ≡ told env.scope xs
  of_if p one e known (a.single q) = never q
  of_if {env} {st} {first} p one e known (a.if_alone {arms = xs} h) =
      ap₂ (λ q es. entering env.scope q yes_arm ∷ es ++ entering env.scope q event.no_arm ∷ []) (sym e) (known xs h)
      ∙ ap (λ es. entering env.scope (first_token st) yes_arm ∷ es) (sym (map-append (event_of env.scope) xs (unwritten_else (first_token st) ∷ [])))

  of_else : {env : Environment} {st first other : Stmt} {test : Expr} {xs : Arms} (p : Place) (one two : FlatStmt) → first_token st ≡ p
      → ((ys : Arms) → HasArms env first (stmt_layer first) ys → events env.scope one ≡ told env.scope ys)
      → ((ys : Arms) → HasArms env other (stmt_layer other) ys → events env.scope two ≡ told env.scope ys)
      → HasArms env st (o.If test first (Some other)) xs
      → entering env.scope p yes_arm ∷ events env.scope one ++ entering env.scope p event.no_arm ∷ events env.scope two ≡ told env.scope xs
  of_else p one two e known others (a.single q) = never q
  of_else {env} {st} {first} {other} p one two e known others (a.if_else {arms = xs} {others = ys} h g) =
      ap (λ q. entering env.scope q yes_arm ∷ events env.scope one ++ entering env.scope q event.no_arm ∷ events env.scope two) (sym e)
      ∙ ap₂ (λ es fs. entering env.scope (first_token st) yes_arm ∷ es ++ entering env.scope (first_token st) event.no_arm ∷ fs) (known xs h) (others ys g)
      ∙ ap (λ es. entering env.scope (first_token st) yes_arm ∷ es) (sym (map-append (event_of env.scope) xs (else_arm (first_token st) other ∷ ys)))

  of_case : {env : Environment} {st : Stmt} {wild : Bool} {on : Expr} {all : List CaseArm} {xs : Arms} (p : Place) (fl : List FlatArm) → first_token st ≡ p
      → ((ys : Arms) (d : Option Arms) → CasesHaveArms env all ys d → listed (map (of.arms env.scope) fl) ≡ told env.scope ys)
      → ((q : Place) (ys : Arms) (d : Option Arms) → CasesHaveArms env all ys d
      → default_of env.scope q (map (of.arms env.scope) fl) ≡ told_default env.scope q d)
      → HasArms env st (o.Case wild on all) xs
      → listed (map (of.arms env.scope) fl) ++ default_of env.scope p (map (of.arms env.scope) fl) ≡ told env.scope xs
  of_case p fl e known rest (a.single q) = never q
  of_case {env} {st} p fl e known rest (a.case {arms = xs} {default = d} h) =
      ap (λ q. listed (map (of.arms env.scope) fl) ++ default_of env.scope q (map (of.arms env.scope) fl)) (sym e)
      ∙ ap₂ ◌++◌ (known xs d h) (rest (first_token st) xs d h)
      ∙ sym (map-append (event_of env.scope) xs (or_no_match (first_token st) d))

  mutual
    pub same_events : {env : Environment} {st : Stmt} {fl : FlatStmt} {xs : Arms} → IsFlatStmt vars env st fl → HasArms env st (stmt_layer st) xs
        → events env.scope fl ≡ told env.scope xs
    same_events {env} {xs = xs} (form.empty {p = p}) h = single o.Empty (layer_of p s.Empty ∙ s.outs-Empty) refl h (of.of-Empty env.scope p)
    same_events {env} {xs = xs} (form.block {p = p} {last = last} {body = body} {flat = fl} ds) h =
        of.of-Block env.scope p fl last
        ∙ of_block {last = last} fl (λ ys k. of_all ds k)
        (subst (λ l. HasArms env (stmt p (s.Block body last)) l xs) (layer_of p (s.Block body last) ∙ s.outs-Block body last) h)
    same_events {env} {xs = xs} (form.if_alone {p = p} {test = test} {a = on} {first = first} {one = one} dt d) h =
        of.of-If env.scope p on one
        ∙ of_if p one (token_of p (s.If test first None)) (λ ys k. same_events d k)
        (subst (λ l. HasArms env (stmt p (s.If test first None)) l xs) (layer_of p (s.If test first None) ∙ s.outs-If test first None) h)
    same_events {env} {xs = xs} (form.if_else {p = p} {test = test} {a = on} {first = first} {second = second} {one = one} {two = two} dt d e) h =
        of.of-If-else env.scope p on one two
        ∙ of_else p one two (token_of p (s.If test first (Some second))) (λ ys k. same_events d k) (λ ys k. same_events e k)
        (subst (λ l. HasArms env (stmt p (s.If test first (Some second))) l xs)
        (layer_of p (s.If test first (Some second)) ∙ s.outs-If test first (Some second)) h)
    same_events {env} {xs = xs} (form.case {p = p} {wild = wild} {on = on} {a = b} {arms = all} {flat = fl} dt ds) h =
        of.of-Case env.scope p wild b fl
        ∙ of_case p fl (token_of p (s.Case wild on all)) (λ ys d k. of_listed ds k) (λ q ys d k. of_default q ds k)
        (subst (λ l. HasArms env (stmt p (s.Case wild on all)) l xs) (layer_of p (s.Case wild on all) ∙ s.outs-Case wild on all) h)
    same_events {env} {xs = xs} (form.loop {p = p} {name = name} {step_name = step_name} {from = from} {test = test} {step = step} {body = body}
        {flat = fl} q ds) h =
        of.of-Block env.scope p fl p
        ∙ of_passes ds (subst (λ ns. PassesHaveArms env name ns body xs) q
        (arms_of_loop (subst (λ l. HasArms env (stmt p (s.For name from test step_name step body)) l xs)
        (layer_of p (s.For name from test step_name step body) ∙ s.outs-For name from test step_name step body) h)))
    same_events {env} {xs = xs} (form.set {p = p} {target = target} {value = value} {a = b} {b = w} d e) h =
        single (o.Set target value) (layer_of p (s.Set target value) ∙ s.outs-Set target value) refl h (of.of-Set env.scope p b w)
    same_events {env} {xs = xs} (form.later {p = p} {target = target} {value = value} {a = b} {b = w} d e) h =
        single (o.Later target value) (layer_of p (s.Later target value) ∙ s.outs-Later target value) refl h (of.of-Later env.scope p b w)
    same_events {env} {xs = xs} (form.show {p = p} {text = text} {values = values} {flat = fl} ds) h =
        single (o.Show text values) (layer_of p (s.Show text values) ∙ s.outs-Show text values) refl h (of.of-Show env.scope p text fl)
    same_events {env} {xs = xs} (form.finish {p = p}) h = single o.Finish (layer_of p s.Finish ∙ s.outs-Finish) refl h (of.of-Finish env.scope p)
    same_events {env} {xs = xs} (form.stop {p = p}) h = single o.Stop (layer_of p s.Stop ∙ s.outs-Stop) refl h (of.of-Stop env.scope p)

    of_all : {env : Environment} {body : List Stmt} {fl : List FlatStmt} {xs : Arms} → AreFlatStmts vars env body fl → AllHaveArms env body xs
        → flat_map (λ es. es) (map (events env.scope) fl) ≡ told env.scope xs
    of_all form.no_stmts a.no_stmts = refl
    of_all {env} (form.more_stmts d ds) (a.more_stmts {arms = xs} {others = ys} h hs) =
        ap₂ ◌++◌ (same_events d h) (of_all ds hs) ∙ sym (map-append (event_of env.scope) xs ys)

    of_passes : {env : Environment} {name : List ℕ} {ns : List ℕ} {body : Stmt} {fl : List FlatStmt} {xs : Arms} → AreFlatPasses vars env name ns body fl
        → PassesHaveArms env name ns body xs → flat_map (λ es. es) (map (events env.scope) fl) ≡ told env.scope xs
    of_passes form.no_passes a.over = refl
    of_passes {env} (form.more_passes d ds) (a.turn {arms = xs} {others = ys} h hs) =
        ap₂ ◌++◌ (same_events d h) (of_passes ds hs) ∙ sym (map-append (event_of env.scope) xs ys)

    -- the listed arms, and the default
    of_listed : {env : Environment} {all : List CaseArm} {fl : List FlatArm} {xs : Arms} {d : Option Arms} → AreFlatArms vars env all fl
        → CasesHaveArms env all xs d → listed (map (of.arms env.scope) fl) ≡ told env.scope xs
    of_listed form.no_arms a.no_arms = refl
    of_listed {env} (form.more_arms {p = p} {items = es} {body = st} {one = one} {others = others} di db ds) (a.listed {arms = xs} {others = ys} q h hs) =
        ap (λ (x : ArmEvents). unless_default x.is_default x.entered ++ listed (map (of.arms env.scope) others))
        (arm_is env.scope p st one false xs di (ap is_empty q) (same_events db (body_arms p es st h)))
        ∙ ap (λ fs. told env.scope (case_arm_of (case_arm p es st) ∷ xs) ++ fs) (of_listed ds hs)
        ∙ sym (map-append (event_of env.scope) (case_arm_of (case_arm p es st) ∷ xs) ys)
    of_listed {env} (form.more_arms {p = p} {items = es} {body = st} {one = one} {others = others} di db ds) (a.default_arm {arms = xs} q h hs) =
        ap (λ (x : ArmEvents). unless_default x.is_default x.entered ++ listed (map (of.arms env.scope) others))
        (arm_is env.scope p st one true xs di (ap is_empty q) (same_events db (body_arms p es st h)))
        ∙ of_listed ds hs

    of_default : {env : Environment} {all : List CaseArm} {fl : List FlatArm} {xs : Arms} {d : Option Arms} (p : Place) → AreFlatArms vars env all fl
        → CasesHaveArms env all xs d → default_of env.scope p (map (of.arms env.scope) fl) ≡ told_default env.scope p d
    of_default p form.no_arms a.no_arms = refl
    of_default {env} here (form.more_arms {p = p} {items = es} {body = st} {one = one} {others = others} di db ds) (a.listed {arms = xs} q h hs) =
        ap (λ (x : ArmEvents). default_or x.is_default x.entered (default_of env.scope here (map (of.arms env.scope) others)))
        (arm_is env.scope p st one false xs di (ap is_empty q) (same_events db (body_arms p es st h)))
        ∙ of_default here ds hs
    of_default {env} here (form.more_arms {p = p} {items = es} {body = st} {one = one} {others = others} di db ds) (a.default_arm {arms = xs} q h hs) =
        ap (λ (x : ArmEvents). default_or x.is_default x.entered (default_of env.scope here (map (of.arms env.scope) others)))
        (arm_is env.scope p st one true xs di (ap is_empty q) (same_events db (body_arms p es st h)))

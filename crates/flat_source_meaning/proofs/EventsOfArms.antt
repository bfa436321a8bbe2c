-- The events of a run of a process are those of its copies of arms.
use Rattle.std.proofs.Common.{◌≡◌, inl, inr, ◌∙◌, sym, ap, refl, subst, ℕ, Bool, true, false, if◌then◌else◌, List, [], ◌∷◌, ◌++◌, map, Option, Some, None}
use Rattle.std.specs.List.{find}
use Rattle.cov_types.specs.declared.place.Place.{Place}
use Rattle.vlog_tree.specs.declared.expression.Expr.{Expr}
use Rattle.vlog_tree.specs.declared.statement.Stmt.{Stmt, out-Stmt, fold_out-Stmt}
use Rattle.vlog_tree.specs.declared.statement.StmtKind.{StmtKind, roll-StmtKind, roll-out-StmtKind, fold-roll-StmtKind}
use Rattle.vlog_tree.specs.declared.statement.StmtKind.TheOpen as o
use Rattle.vlog_tree.specs.declared.statement.CaseArm.{CaseArm, out-CaseArm, fold_out-CaseArm}
use Rattle.vlog_tree.specs.Trees.{StmtLayer, stmt_layer, first_token}
use Rattle.circuit_run.specs.States.{State}
use Rattle.circuit_run.specs.Outcomes.{Outcome, in_turn}
use Rattle.source_meaning.specs.Events.{Event, case_arm}
use Rattle.source_meaning.specs.Meaning.{holds}
use Rattle.source_meaning.specs.Environment.{Environment, in_pass}
use Rattle.source_meaning.specs.Expressions.{meaning}
use Rattle.source_meaning.specs.Cases.{Choice, is_default, is_chosen, or_else}
use Rattle.source_meaning.specs.Acts.{arm_runs, choice_runs}
use Rattle.source_meaning.specs.Statements.{Does, statement, choice, placed, does}
use Rattle.source_meaning.proofs.StatementEquations.{kinds, choices}
use Rattle.scope_meaning.proofs.WalkLaws.{never}
use Rattle.flat_source_meaning.specs.SourceArms.{Arm, event_of, else_arm, unwritten_else, case_arm_of, no_arm}
use Rattle.flat_source_meaning.specs.ArmCopies as a
use Rattle.flat_source_meaning.specs.ArmCopies.{is_single, or_no_match, HasArms, AllHaveArms, PassesHaveArms, CasesHaveArms}
use Rattle.flat_source_meaning.specs.FlatProcesses.{initially_has, always_has, assigns_has, covers_has}
use Rattle.flat_source_meaning.specs.ArmEvents.{IsEventOfSome, AreEventsOf, none, more, EventsAreOfArms}

abbrev Arms : Type 0
Arms = List Arm

-- ---- what a statement does, by its layer

abbrev lower : StmtLayer → o.StmtKind-F (Place → Does) (Environment → Choice) Does
lower o.Empty = o.Empty
lower (o.Block body last) = o.Block (map does body) last
lower (o.If test first None) = o.If test (does first) None
lower (o.If test first (Some other)) = o.If test (does first) (Some (does other))
lower (o.Case wild on all) = o.Case wild on (map choices all)
lower (o.For name from test step_name step body) = o.For name from test step_name step (does body)
lower (o.Set target e) = o.Set target e
lower (o.Later target e) = o.Later target e
lower (o.Show text values) = o.Show text values
lower o.Finish = o.Finish
lower o.Stop = o.Stop

rolled : (l : StmtLayer) → kinds (roll-StmtKind l) ≡ statement (lower l)
rolled o.Empty = fold-roll-StmtKind (Place → Does) (Environment → Choice) Does statement choice placed o.Empty
rolled (o.Block body last) = fold-roll-StmtKind (Place → Does) (Environment → Choice) Does statement choice placed (o.Block body last)
rolled (o.If test first None) = fold-roll-StmtKind (Place → Does) (Environment → Choice) Does statement choice placed (o.If test first None)
rolled (o.If test first (Some other)) = fold-roll-StmtKind (Place → Does) (Environment → Choice) Does statement choice placed (o.If test first (Some other))
rolled (o.Case wild on all) = fold-roll-StmtKind (Place → Does) (Environment → Choice) Does statement choice placed (o.Case wild on all)
rolled (o.For name from test step_name step body) = fold-roll-StmtKind (Place → Does) (Environment
    → Choice) Does statement choice placed (o.For name from test step_name step body)
rolled (o.Set target e) = fold-roll-StmtKind (Place → Does) (Environment → Choice) Does statement choice placed (o.Set target e)
rolled (o.Later target e) = fold-roll-StmtKind (Place → Does) (Environment → Choice) Does statement choice placed (o.Later target e)
rolled (o.Show text values) = fold-roll-StmtKind (Place → Does) (Environment → Choice) Does statement choice placed (o.Show text values)
rolled o.Finish = fold-roll-StmtKind (Place → Does) (Environment → Choice) Does statement choice placed o.Finish
rolled o.Stop = fold-roll-StmtKind (Place → Does) (Environment → Choice) Does statement choice placed o.Stop

does_is : (s : Stmt) → does s ≡ statement (lower (stmt_layer s)) (first_token s)
does_is s =
    fold_out-Stmt (Place → Does) (Environment → Choice) Does statement choice placed s
    ∙ ap (λ (w : StmtKind). kinds w (first_token s)) (sym (roll-out-StmtKind (out-Stmt s).what))
    ∙ ap (λ (f : Place → Does). f (first_token s)) (rolled (stmt_layer s))

choice_is : (c : CaseArm) → choices c ≡ choice (record { place = (out-CaseArm c).place; items = (out-CaseArm c).items; body = does (out-CaseArm c).body })
choice_is c = fold_out-CaseArm (Place → Does) (Environment → Choice) Does statement choice placed c

-- ---- events of more arms

left : (scope : ℕ) (xs ys : Arms) (e : Event) → IsEventOfSome scope xs e → IsEventOfSome scope (xs ++ ys) e
left scope [] ys e x = absurd x
left scope (b ∷ xs) ys e (inl q) = inl q
left scope (b ∷ xs) ys e (inr x) = inr (left scope xs ys e x)

right : (scope : ℕ) (xs ys : Arms) (e : Event) → IsEventOfSome scope ys e → IsEventOfSome scope (xs ++ ys) e
right scope [] ys e x = x
right scope (b ∷ xs) ys e x = inr (right scope xs ys e x)

wider : {scope : ℕ} {xs ys : Arms} {es : List Event} → ((e : Event) → IsEventOfSome scope xs e → IsEventOfSome scope ys e) → AreEventsOf scope xs es
    → AreEventsOf scope ys es
wider f none = none
wider f (more {e = e} x k) = more (f e x) (wider f k)

both : {scope : ℕ} {xs : Arms} {es fs : List Event} → AreEventsOf scope xs es → AreEventsOf scope xs fs → AreEventsOf scope xs (es ++ fs)
both none k = k
both (more x j) k = more x (both j k)

branch : {scope : ℕ} {xs : Arms} (b : Bool) (x y : Outcome Event) → AreEventsOf scope xs x.notes → AreEventsOf scope xs y.notes
    → AreEventsOf scope xs (if b then x else y).notes
branch true x y j k = j
branch false x y j k = k

-- ---- choices of a `case`

-- what a choice notes are events of the arms
abbrev Noted : ℕ → Arms → State → Choice → Type 0
Noted scope arms s c = AreEventsOf scope arms (arm_runs scope c.place case_arm c.body s).notes

data AllNoted (scope : ℕ) (arms : Arms) (s : State) : List Choice → Type 0 where
  no_choices : AllNoted scope arms s []
  more_choices : {c : Choice} {cs : List Choice} → Noted scope arms s c → AllNoted scope arms s cs → AllNoted scope arms s (c ∷ cs)

abbrev NotedOr : ℕ → Arms → State → Type 0 → Option Choice → Type 0
NotedOr scope arms s P (Some c) = Noted scope arms s c
NotedOr scope arms s P None = P

either : (scope : ℕ) (arms : Arms) (s : State) (b : Bool) (c : Choice) (other : Option Choice) → Noted scope arms s c → NotedOr scope arms s (Unit {0}) other
    → NotedOr scope arms s (Unit {0}) (if b then Some c else other)
either scope arms s true c other x y = x
either scope arms s false c other x y = y

found : {scope : ℕ} {arms : Arms} {s : State} (f : Choice → Bool) (cs : List Choice) → AllNoted scope arms s cs → NotedOr scope arms s (Unit {0}) (find f cs)
found f [] no_choices = tt
found {scope} {arms} {s} f (c ∷ cs) (more_choices x k) = either scope arms s (f c) c (find f cs) x (found f cs k)

-- a choice among them, or nothing where there is none
chosen : (scope : ℕ) (arms : Arms) (s : State) (P : Type 0) (p : Place) (first second : Option Choice)
    → NotedOr scope arms s (Unit {0}) first → NotedOr scope arms s P second
    → (P → AreEventsOf scope arms (choice_runs scope p None s).notes) → AreEventsOf scope arms (choice_runs scope p (or_else first second) s).notes
chosen scope arms s P p (Some c) second x y otherwise = x
chosen scope arms s P p None (Some c) x y otherwise = y
chosen scope arms s P p None None x y otherwise = otherwise y

abbrev choices_in : Environment → List CaseArm → List Choice
choices_in env all = map (λ c. c env) (map choices all)

-- a listed arm is no default
listed_is_none : (env : Environment) (c : CaseArm) (item : Expr) (items : List Expr) → (out-CaseArm c).items ≡ item ∷ items → is_default (choices c env) ≡ false
listed_is_none env c item items e =
    ap (λ (f : Environment → Choice). is_default (f env)) (choice_is c)
    ∙ ap (λ (xs : List Expr). is_default (record { place = (out-CaseArm c).place; items = map (meaning env) xs; body = does (out-CaseArm c).body env })) e

default_is_one : (env : Environment) (c : CaseArm) → (out-CaseArm c).items ≡ [] → is_default (choices c env) ≡ true
default_is_one env c e =
    ap (λ (f : Environment → Choice). is_default (f env)) (choice_is c)
    ∙ ap (λ (xs : List Expr). is_default (record { place = (out-CaseArm c).place; items = map (meaning env) xs; body = does (out-CaseArm c).body env })) e

-- whether there is a default among them
abbrev HasNone : Option Arms → Type 0
HasNone None = Unit {0}
HasNone (Some arms) = ⊥

-- the default among choices, if the arms have one
default_found : {scope : ℕ} {env : Environment} {all : List CaseArm} {xs total : Arms} {d : Option Arms} {s : State}
    → CasesHaveArms env all xs d → AllNoted scope total s (choices_in env all) → NotedOr scope total s (HasNone d) (find is_default (choices_in env all))
default_found a.no_arms k = tt
default_found {scope} {env} {total = total} {s = s} (a.listed {a = c} {item = item} {items = items} {all = all} {default = d} e x xs) (more_choices y k) =
    subst (λ (b : Bool). NotedOr scope total s (HasNone d) (if b then Some (choices c env) else find is_default (choices_in env all)))
    (sym (listed_is_none env c item items e)) (default_found xs k)
default_found {scope} {env} {total = total} {s = s} (a.default_arm {a = c} {all = all} {arms = arms} e x xs) (more_choices y k) =
    subst (λ (b : Bool). NotedOr scope total s (HasNone (Some (case_arm_of c ∷ arms)))
    (if b then Some (choices c env) else find is_default (choices_in env all))) (sym (default_is_one env c e)) y

-- where there is none, nothing matches
no_default : (scope : ℕ) (p : Place) (xs : Arms) (d : Option Arms) (s : State) → HasNone d
    → AreEventsOf scope (xs ++ or_no_match p d) (choice_runs scope p None s).notes
no_default scope p xs None s t = more (right scope xs (no_arm p ∷ []) (event_of scope (no_arm p)) (inl refl)) none
no_default scope p xs (Some arms) s t = absurd t

-- the event of an arm of the default
abbrev InDefault : ℕ → Option Arms → Event → Type 0
InDefault scope None e = ⊥
InDefault scope (Some arms) e = IsEventOfSome scope arms e

inner_default : (scope : ℕ) (p : Place) (d : Option Arms) (e : Event) → InDefault scope d e → IsEventOfSome scope (or_no_match p d) e
inner_default scope p None e x = absurd x
inner_default scope p (Some arms) e x = x

shifted : (scope : ℕ) (xs ys rest : Arms) (e : Event) → IsEventOfSome scope (ys ++ rest) e → IsEventOfSome scope ((xs ++ ys) ++ rest) e
shifted scope [] ys rest e x = x
shifted scope (b ∷ xs) ys rest e x = inr (shifted scope xs ys rest e x)

all_wider : {scope : ℕ} {xs ys : Arms} {s : State} {cs : List Choice} → ((e : Event) → IsEventOfSome scope xs e → IsEventOfSome scope ys e)
    → AllNoted scope xs s cs → AllNoted scope ys s cs
all_wider f no_choices = no_choices
all_wider f (more_choices x k) = more_choices (wider f x) (all_wider f k)

-- ---- statements

nothing : {scope : ℕ} {arms : Arms} (env : Environment) (l : StmtLayer) (p : Place) (s : State) → is_single l ≡ true
    → AreEventsOf scope arms (statement (lower l) p env s).notes
nothing env o.Empty p s e = none
nothing env (o.Block body last) p s e = never e
nothing env (o.If test first None) p s e = never e
nothing env (o.If test first (Some other)) p s e = never e
nothing env (o.Case wild on all) p s e = never e
nothing env (o.For name from test step_name step body) p s e = never e
nothing env (o.Set target x) p s e = none
nothing env (o.Later target x) p s e = none
nothing env (o.Show text values) p s e = none
nothing env o.Finish p s e = none
nothing env o.Stop p s e = none

along : (env : Environment) (arms : Arms) (st : Stmt) (s : State) → AreEventsOf env.scope arms (statement (lower (stmt_layer st)) (first_token st) env s).notes
    → AreEventsOf env.scope arms (does st env s).notes
along env arms st s x = subst (λ (f : Does). AreEventsOf env.scope arms (f env s).notes) (sym (does_is st)) x

mutual
  of_layer : {env : Environment} {st : Stmt} {l : StmtLayer} {arms : Arms} → HasArms env st l arms → (s : State)
      → AreEventsOf env.scope arms (statement (lower l) (first_token st) env s).notes
  of_layer {env} {st} {l} (a.single e) s = nothing env l (first_token st) s e
  of_layer (a.block x) s = of_all x s
  of_layer {env} {st} (a.if_alone {test = test} {first = first} {arms = arms} x) s =
      let p : Place = first_token st in
      branch (holds (meaning env test) s) _ _
      (more (inl refl) (wider (λ e y. inr (left env.scope arms (unwritten_else p ∷ []) e y)) (along env arms first s (of_layer x s))))
      (more (inr (right env.scope arms (unwritten_else p ∷ []) (event_of env.scope (unwritten_else p)) (inl refl))) none)
  of_layer {env} {st} (a.if_else {test = test} {first = first} {other = other} {arms = arms} {others = others} x y) s =
      let p : Place = first_token st in
      branch (holds (meaning env test) s) _ _
      (more (inl refl) (wider (λ e z. inr (left env.scope arms (else_arm p other ∷ others) e z)) (along env arms first s (of_layer x s))))
      (more (inr (right env.scope arms (else_arm p other ∷ others) (event_of env.scope (else_arm p other)) (inl refl)))
      (wider (λ e z. inr (right env.scope arms (else_arm p other ∷ others) e (inr z))) (along env others other s (of_layer y s))))
  of_layer {env} {st} (a.case {on = on} {all = all} {arms = arms} {default = d} x) s =
      let p : Place = first_token st in
      let k : AllNoted env.scope (arms ++ or_no_match p d) s (choices_in env all) = of_cases (or_no_match p d) x (inner_default env.scope p d) s in
      chosen env.scope (arms ++ or_no_match p d) s (HasNone d) p (find (is_chosen (meaning env on) (choices_in env all) s) (choices_in env all))
      (find is_default (choices_in env all))
      (found (is_chosen (meaning env on) (choices_in env all) s) (choices_in env all) k) (default_found x k) (no_default env.scope p arms d s)
  of_layer (a.for x) s = of_passes x s

  of_all : {env : Environment} {body : List Stmt} {arms : Arms} → AllHaveArms env body arms → (s : State)
      → AreEventsOf env.scope arms (in_turn (map (λ act. act env) (map does body)) s).notes
  of_all a.no_stmts s = none
  of_all {env} (a.more_stmts {a = st} {arms = arms} {others = others} x xs) s =
      both (wider (λ e y. left env.scope arms others e y) (along env arms st s (of_layer x s)))
      (wider (λ e y. right env.scope arms others e y) (of_all xs (does st env s).state))

  of_passes : {env : Environment} {name : List ℕ} {ns : List ℕ} {body : Stmt} {arms : Arms} → PassesHaveArms env name ns body arms → (s : State)
      → AreEventsOf env.scope arms (in_turn (map (λ n. does body (in_pass env name n)) ns) s).notes
  of_passes a.over s = none
  of_passes {env} {name} (a.turn {n = n} {body = body} {arms = arms} {others = others} x xs) s =
      both (wider (λ e y. left env.scope arms others e y) (along (in_pass env name n) arms body s (of_layer x s)))
      (wider (λ e y. right env.scope arms others e y) (of_passes xs (does body (in_pass env name n) s).state))

  -- the choices of a `case`, among the arms listed, those of the default, and what else `total` has
  of_cases : {env : Environment} {all : List CaseArm} {xs : Arms} {d : Option Arms} (rest : Arms) → CasesHaveArms env all xs d
      → ((e : Event) → InDefault env.scope d e → IsEventOfSome env.scope rest e) → (s : State) → AllNoted env.scope (xs ++ rest) s (choices_in env all)
  of_cases rest a.no_arms f s = no_choices
  of_cases {env} rest (a.listed {a = c} {arms = arms} {others = others} e x xs) f s =
      more_choices
      (subst (λ (g : Environment → Choice). Noted env.scope ((case_arm_of c ∷ arms ++ others) ++ rest) s (g env)) (sym (choice_is c))
      (more (inl refl) (wider (λ e y. inr (left env.scope (arms
      ++ others) rest e (left env.scope arms others e y))) (along env arms (out-CaseArm c).body s (of_layer x s)))))
      (all_wider (λ e y. inr (shifted env.scope arms others rest e y)) (of_cases rest xs f s))
  of_cases {env} rest (a.default_arm {a = c} {arms = arms} {others = others} e x xs) f s =
      more_choices
      (subst (λ (g : Environment → Choice). Noted env.scope (others ++ rest) s (g env)) (sym (choice_is c))
      (wider {xs = case_arm_of c ∷ arms} (λ e y. right env.scope others rest e (f e y))
      (more (inl refl) (wider (λ e y. inr y) (along env arms (out-CaseArm c).body s (of_layer x s))))))
      (of_cases rest xs (λ e y. absurd y) s)

-- ---- processes

pub events_are_of_arms : EventsAreOfArms
events_are_of_arms p arms (initially_has {env = env} {st = st} {arms = inner} x) s =
    more (inl refl) (wider (λ e y. inr y) (along env inner st s (of_layer x s)))
events_are_of_arms p arms (always_has {env = env} {st = st} {arms = inner} x) s = more (inl refl) (wider (λ e y. inr y) (along env inner st s (of_layer x s)))
events_are_of_arms p arms assigns_has s = more (inl refl) none
events_are_of_arms p arms (covers_has {env} {word} {label} {test}) s = branch (holds (meaning env test) s) _ _ (more (inl refl) none) none

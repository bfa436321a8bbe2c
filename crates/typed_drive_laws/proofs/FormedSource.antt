-- The bodies of the flat source of some files are well formed, since no rule refuses a spot of the walk.
use Rattle.std.proofs.Common.{◌≡◌, ◌∙◌, sym, ap, ap₂, refl, subst, ℕ, suc, arith, Bool, true, false, ◌&&◌, List, [], ◌∷◌}
use Rattle.std.proofs.Common.{◌++◌, map, Option, Some, None, inl, inr, if◌then◌else◌, append-nil}
use Rattle.std.specs.Prelude.{Contains}
use Rattle.std.proofs.lemmas.Bool.{cases_Bool}
use Rattle.std.specs.List.{list_all, filter_map, cons_option, AllByRecursion, AllZip}
use Rattle.cov_types.specs.declared.place.Place.{Place}
use Rattle.cov_types.specs.declared.kind.ProcessKind.{ProcessKind}
use Rattle.cov_types.specs.declared.kind.ProcessKind.TheVariants as kind
use Rattle.vlog_tree.specs.declared.expression.Expr.{Expr, Expr-F, out-Expr, roll-Expr, roll-out-Expr, fold-roll-Expr}
use Rattle.vlog_tree.specs.declared.expression.Expr.TheVariants as e
use Rattle.vlog_tree.specs.declared.expression.Expr.TheOpen as o
use Rattle.vlog_tree.specs.declared.expression.Select.{Select}
use Rattle.vlog_tree.specs.declared.statement.Stmt.{Stmt}
use Rattle.vlog_tree.specs.declared.item.WireName.{WireName}
use Rattle.vlog_tree.specs.declared.item.AssignPart.{AssignPart}
use Rattle.vlog_tree.specs.declared.item.ItemKind.TheOpen as i
use Rattle.vlog_tree.specs.declared.module.Port.{Port}
use Rattle.vlog_tree.specs.Trees.{Layer, layer, stmt_layer, item_place}
use Rattle.elab_types.specs.declared.flat_source.FlatVar.{FlatVar}
use Rattle.elab_types.specs.declared.flat_source.FlatProcess.{FlatProcess}
use Rattle.circuit_run.specs.Kinds.{is_cover}
use Rattle.source_meaning.specs.Environment.{Environment}
use Rattle.scope_meaning.specs.Constants.{option_of}
use Rattle.scope_meaning.specs.Scope.{Here, At}
use Rattle.scope_meaning.specs.Visits.{Visits, Visit, sees, an_item, Making}
use Rattle.scope_meaning.proofs.WalkLaws.{never, none_some, same}
use Rattle.flat_meaning.specs.FlatForm.{IsFlatStmt}
use Rattle.flat_meaning.specs.FlatTrees.{flat_stmt}
use Rattle.elab_types.specs.declared.flat_statement.FlatStmt.{FlatStmt}
use Rattle.elab_types.specs.declared.flat_statement.FlatKind.TheVariants as k
use Rattle.flat_meaning.proofs.FlatTargets as named
use Rattle.flat_source_meaning.specs.FixedParts.{Checked, CheckedSelect, node, part, has_constants}
use Rattle.flat_source_meaning.specs.Environments.{Inside, environment, outside_loops, ports_of}
use Rattle.flat_source_meaning.specs.Joins.{Join, joins_of, lone_name, handed_name, is_input}
use Rattle.flat_source_meaning.specs.Clocks.{Keeps}
use Rattle.flat_source_meaning.specs.Clocks as keeping
use Rattle.flat_source_meaning.specs.Copies.{Copy, IsCopied}
use Rattle.flat_source_meaning.specs.Variables.{Source}
use Rattle.flat_source_meaning.specs.Processes.{Process, initially, always, assigns, covers, always_kind}
use Rattle.flat_source_meaning.specs.Processes.{wire_process, item_processes, by_direction, connection}
use Rattle.flat_source_meaning.specs.Processes.{HasProcesses, of_item, of_instance, of_other, AreProcesses, none, more}
use Rattle.flat_source_meaning.specs.FlatSpots.{FlatSpot, at_item, at_copy, own_spots, Body, body_at, body_of, with_body}
use Rattle.flat_source_meaning.specs.FlatSpots.{Read, AreSpots, without_process, with_process}
use Rattle.flat_source_meaning.specs.FlatSpots as spots
use Rattle.flat_source_meaning.specs.FlatNames.{item_reads, item_targets, reads, other_connections, targets as targets_at, unless_handed}
use Rattle.flat_source_meaning.specs.FlatRefusals.{NoRule, not_constant}
use Rattle.flat_source_meaning.specs.FlatProcesses.{flat_process, cover_stmt, IsFlatProcess, initially_flat, always_flat, assigns_flat, covers_flat}
use Rattle.flat_source_meaning.specs.FlatProcesses.{HasProcessArms, initially_has, always_has, assigns_has, covers_has, Numbered, HaveArms}
use Rattle.flat_source_meaning.specs.FlatProcesses as arms
use Rattle.flat_source_meaning.specs.ArmCopies.{HasArms}
use Rattle.flat_source_meaning.specs.SourceArms.{Arm}
use Rattle.design_meaning.proofs.ListLaws.{all_append, all_map, left_true, right_true, and_from}
use Rattle.typed_drive_laws.specs.FixedParts as flat
use Rattle.typed_drive_laws.specs.FormedBodies.{IsFormed, is_formed}
use Rattle.typed_drive_laws.specs.DriveLaws.{FlatBodiesAreFormed}
use Rattle.typed_drive_laws.proofs.Formed as formed
use Rattle.typed_drive_laws.proofs.FlatFixed.{flat_fixed}
use Rattle.typed_drive_laws.proofs.FormedStmts.{IsCalmCopy, formed_stmt, facts_left, facts_right}
use Rattle.typed_drive_laws.proofs.Connected.{AtItem, AtInstance, connected, facts_both}

-- ---- one spot

abbrev read_fixed : Read → Bool
read_fixed r = has_constants r.0.env r.1

-- all pass a test of which none fails it
none_fails : (rs : List Read) → ((r : Read) → Contains rs r → read_fixed r ≡ false → ⊥) → list_all read_fixed rs ≡ true
none_fails [] h = refl
none_fails (r ∷ rs) h =
    and_from (read_fixed r) (list_all read_fixed rs)
    (elim (cases_Bool (read_fixed r)) [ inl y ↦ y | inr n ↦ absurd (h r (0, omega arith, refl) n) ])
    (none_fails rs (λ x c. h x (suc c.0, omega (arith, c.1), c.2)))

-- the expressions of a spot have constants
spot_fixed : (w : Source) (spot : FlatSpot) → NoRule w spot → list_all read_fixed (reads w spot ++ other_connections w spot ++ targets_at w spot) ≡ true
spot_fixed w spot n = none_fails (reads w spot ++ other_connections w spot ++ targets_at w spot) (λ r c f. n not_constant (inl (r, c, f)))

-- a name alone has no part that has to be a constant
lone_fixed : (env : Environment) (l : Expr-F Expr Select) (name : List ℕ) → lone_name l ≡ Some name → has_constants env (roll-Expr l) ≡ true
lone_fixed env (o.Name x) name h = ap (λ c. c.fixed) (fold-roll-Expr Checked CheckedSelect (node env) part (o.Name x))
lone_fixed env _ name h = none_some name h

name_fixed : (env : Environment) (name : List ℕ) → has_constants env (e.Name name) ≡ true
name_fixed env name = ap (has_constants env) (sym (e.rolls-Name name)) ∙ ap (λ c. c.fixed) (fold-roll-Expr Checked CheckedSelect (node env) part (o.Name name))

expr_fixed : (env : Environment) (a : Expr) (name : List ℕ) → lone_name (out-Expr a) ≡ Some name → has_constants env a ≡ true
expr_fixed env a name h = ap (has_constants env) (sym (roll-out-Expr a)) ∙ lone_fixed env (out-Expr a) name h

-- ---- connections

-- the name of an input that is connected by one
handed_alone : (b : Bool) (port : Port) (l : Option (List ℕ)) (x : Port × List ℕ) → (if b then option_of (λ n. (port, n)) l else None) ≡ Some x
    → (name : List ℕ) × (l ≡ Some name)
handed_alone true port (Some name) x q = (name, refl)
handed_alone true port None x q = none_some x q
handed_alone false port l x q = none_some x q

join_fixed : (env : Environment) (j : Join) (rest : List Expr) (x : Option (Port × List ℕ)) → handed_name j ≡ x
    → list_all (has_constants env) (cons_option (unless_handed x j.expr) rest) ≡ true
    → (has_constants env j.expr ≡ true) × (list_all (has_constants env) rest ≡ true)
join_fixed env j rest (Some x) q h =
    let lone = handed_alone (is_input j) j.port (lone_name (out-Expr j.expr)) x q in
    (expr_fixed env j.expr lone.0 lone.1, h)
join_fixed env j rest None q h =
    (left_true (has_constants env j.expr) (list_all (has_constants env) rest) h, right_true (has_constants env j.expr) (list_all (has_constants env) rest) h)

-- all connections have constants where those have that aren't inputs connected by a name alone
joins_fixed : (env : Environment) (js : List Join) → list_all (has_constants env) (filter_map (λ j. unless_handed (handed_name j) j.expr) js) ≡ true
    → list_all (λ j. has_constants env j.expr) js ≡ true
joins_fixed env [] h = refl
joins_fixed env (j ∷ js) h =
    let k = join_fixed env j (filter_map (λ x. unless_handed (handed_name x) x.expr) js) (handed_name j) refl h in
    and_from (has_constants env j.expr) (list_all (λ x. has_constants env x.expr) js) k.0 (joins_fixed env js k.1)

-- those of a list that are kept
kept : {A : Type 0} {P : A → Type 0} (test : A → Bool) {xs ys : List A} → Keeps P xs ys → list_all test xs ≡ true → list_all test ys ≡ true
kept test keeping.none h = refl
kept test (keeping.keep {x = x} {xs = xs} {ys = ys} p ks) h =
    and_from (test x) (list_all test ys) (left_true (test x) (list_all test xs) h) (kept test ks (right_true (test x) (list_all test xs) h))
kept test (keeping.leave {x = x} {xs = xs} p ks) h = kept test ks (right_true (test x) (list_all test xs) h)

-- ---- one item

-- what an item reads and writes has constants where it stands
record ItemFixed (w : Source) (here : Here) (at : At) (l : Layer) : Type 0 where
  reads : list_all (has_constants (environment w.vars here at)) (item_reads l) ≡ true
  joined : list_all (λ j. has_constants (environment w.vars here at) j.expr) (joins_of w.design l) ≡ true
  written : list_all (has_constants (environment w.vars here at)) (item_targets w.design l) ≡ true

item_fixed : (w : Source) (here : Here) (at : At) (a : _) → NoRule w (at_item here at a) → ItemFixed w here at (layer a)
item_fixed w here at a n =
    let spot = at_item here at a in
    let place : Expr → Read = λ x. (outside_loops w.vars here at, x) in
    let all = spot_fixed w spot n in
    let three = sym (all_append read_fixed (reads w spot ++ other_connections w spot) (targets_at w spot)) ∙ all in
    let two = sym (all_append read_fixed (reads w spot) (other_connections w spot))
    ∙ left_true (list_all read_fixed (reads w spot ++ other_connections w spot)) (list_all read_fixed (targets_at w spot)) three in
    let others = filter_map (λ j. unless_handed (handed_name j) j.expr) (joins_of w.design (layer a)) in
    record {
      reads = sym (all_map read_fixed place (item_reads (layer a)))
          ∙ left_true (list_all read_fixed (reads w spot)) (list_all read_fixed (other_connections w spot)) two;
      joined = joins_fixed (environment w.vars here at) (joins_of w.design (layer a)) (sym (all_map read_fixed place others)
          ∙ right_true (list_all read_fixed (reads w spot)) (list_all read_fixed (other_connections w spot)) two);
      written = sym (all_map read_fixed place (item_targets w.design (layer a)))
          ∙ right_true (list_all read_fixed (reads w spot ++ other_connections w spot)) (list_all read_fixed (targets_at w spot)) three;
    }

copy_fixed : (w : Source) (kind : ProcessKind) (c : Copy) → NoRule w (at_copy kind c) → IsCalmCopy c
copy_fixed w kind c n =
    let l = stmt_layer c.stmt in
    let place : Expr → Read = λ x. (c.inside, x) in
    let all = sym (all_append read_fixed (map place (spots.read_by l) ++ []) (map place (spots.written_by l))) ∙ spot_fixed w (at_copy kind c) n in
    let read = list_all read_fixed (map place (spots.read_by l) ++ []) in
    let written = list_all read_fixed (map place (spots.written_by l)) in
    all_append (has_constants c.inside.env) (spots.read_by l) (spots.written_by l)
    ∙ and_from (list_all (has_constants c.inside.env) (spots.read_by l)) (list_all (has_constants c.inside.env) (spots.written_by l))
    (sym (all_map read_fixed place (spots.read_by l)) ∙ ap (list_all read_fixed) (sym (append-nil (map place (spots.read_by l)))) ∙ left_true read written all)
    (sym (all_map read_fixed place (spots.written_by l)) ∙ right_true read written all)

copies_fixed : (w : Source) (kind : ProcessKind) (cs : List Copy) → AllByRecursion (NoRule w) (map (at_copy kind) cs) → AllByRecursion IsCalmCopy cs
copies_fixed w kind [] h = tt
copies_fixed w kind (c ∷ cs) h = (copy_fixed w kind c h.0, copies_fixed w kind cs h.1)

-- ---- processes

-- A body's copies have constants where they stand.
record CalmBody (env : Environment) (st : Stmt) : Type 0 where
  inside : Inside
  here : inside.env ≡ env
  copies : List Copy
  copied : IsCopied inside st copies true
  calm : AllByRecursion IsCalmCopy copies

-- A process has constants where it has to.
abbrev CalmProcess : Process → Type 0
CalmProcess (initially env p st) = CalmBody env st
CalmProcess (always clock env p st) = CalmBody env st
CalmProcess (assigns target_env env p target e) = (has_constants target_env target ≡ true) × (has_constants env e ≡ true)
CalmProcess (covers env p word label test) = has_constants env test ≡ true

-- the assignments of an item
wire_calm : (env : Environment) (p : Place) (name : List ℕ) (v : Option Expr) (others : List Expr) (rest : List Process)
    → list_all (has_constants env) (cons_option v others) ≡ true → (list_all (has_constants env) others ≡ true → AllByRecursion CalmProcess rest)
    → AllByRecursion CalmProcess (cons_option (option_of (assigns env env p (e.Name name)) v) rest)
wire_calm env p name (Some x) others rest h k = (
  (name_fixed env name, left_true (has_constants env x) (list_all (has_constants env) others) h),
  k (right_true (has_constants env x) (list_all (has_constants env) others) h),
)
wire_calm env p name None others rest h k = k h

wires_calm : (env : Environment) (p : Place) (ws : List WireName) → list_all (has_constants env) (filter_map (λ x. x.value) ws) ≡ true
    → AllByRecursion CalmProcess (filter_map (wire_process env p) ws)
wires_calm env p [] h = tt
wires_calm env p (x ∷ ws) h =
    wire_calm env p x.name.name x.value (filter_map (λ y. y.value) ws) (filter_map (wire_process env p) ws) h (wires_calm env p ws)

assigns_calm : (env : Environment) (p : Place) (parts : List AssignPart) → list_all (has_constants env) (map (λ x. x.value) parts) ≡ true
    → list_all (has_constants env) (map (λ x. x.target) parts) ≡ true → AllByRecursion CalmProcess (map (λ x. assigns env env p x.target x.value) parts)
assigns_calm env p [] h k = tt
assigns_calm env p (x ∷ parts) h k =
    let values = list_all (has_constants env) (map (λ y. y.value) parts) in
    let written = list_all (has_constants env) (map (λ y. y.target) parts) in (
      (left_true (has_constants env x.target) written k, left_true (has_constants env x.value) values h),
      assigns_calm env p parts (right_true (has_constants env x.value) values h) (right_true (has_constants env x.target) written k),
    )

item_calm : (w : Source) (here : Here) (at : At) (p : Place) (l : Layer) → ItemFixed w here at l
    → ((kind : ProcessKind) (st : Stmt) → body_of l ≡ Some (kind, st) → CalmBody (environment w.vars here at) st)
    → AllByRecursion CalmProcess (item_processes (environment w.vars here at) p l)
item_calm w here at p (i.Wire signed range names) f h = wires_calm (environment w.vars here at) p names f.reads
item_calm w here at p (i.Assign parts) f h = assigns_calm (environment w.vars here at) p parts f.reads f.written
item_calm w here at p (i.Initial body) f h = (h kind.Initial body refl, tt)
item_calm w here at p (i.Always clock body) f h = (h (always_kind clock) body refl, tt)
item_calm w here at p (i.Cover word label clock test) f h = (left_true (has_constants (environment w.vars here at) test) true f.reads, tt)
item_calm w here at p _ f h = tt

-- a connection
direction_calm : (b : Bool) (inner outer : Environment) (p : Place) (name : List ℕ) (x : Expr) → has_constants outer x ≡ true
    → CalmProcess (by_direction b inner outer p (e.Name name) x)
direction_calm true inner outer p name x h = (name_fixed inner name, h)
direction_calm false inner outer p name x h = (h, name_fixed inner name)

connections_calm : (vars : List FlatVar) (m : Making) (js : List Join) → list_all (λ j. has_constants (environment vars m.here m.at) j.expr) js ≡ true
    → AllByRecursion CalmProcess (map (connection vars m) js)
connections_calm vars m [] h = tt
connections_calm vars m (j ∷ js) h =
    let env = environment vars m.here m.at in
    let others = list_all (λ x. has_constants env x.expr) js in (
      direction_calm (is_input j) (ports_of vars m.here.number m.makes) env m.place j.port.name j.expr (left_true (has_constants env j.expr) others h),
      connections_calm vars m js (right_true (has_constants env j.expr) others h),
    )

-- ---- the visits of a walk

-- the spots of a visit are calm, those of its body among them, and those of the visits behind it
record CalmVisit (w : Source) (v : Visit) (vs : Visits) : Type 0 where
  own : AllByRecursion (NoRule w) (own_spots v)
  bodies : (b : Body) → body_at w.vars v ≡ Some b → (cs : List Copy) × IsCopied b.inside b.stmt cs true × AllByRecursion (NoRule w) (map (at_copy b.kind) cs)
  others : List FlatSpot
  behind : AreSpots w.vars vs others true
  calm : AllByRecursion (NoRule w) others

calm_visit : (w : Source) {v : Visit} {vs : Visits} {all : List FlatSpot} → AreSpots w.vars (v ∷ vs) all true → AllByRecursion (NoRule w) all → CalmVisit w v vs
calm_visit w {v} (without_process {spots = rest} q s) h = record {
  own = facts_left (NoRule w) (own_spots v) rest h;
  bodies = λ b e. none_some b (sym q ∙ e);
  others = rest;
  behind = s;
  calm = facts_right (NoRule w) (own_spots v) rest h;
}
calm_visit w {v} (with_process {b = a} {cs = cs} {spots = rest} q c s) h =
    let front = facts_left (NoRule w) (own_spots v ++ map (at_copy a.kind) cs) rest h in
    record {
      own = facts_left (NoRule w) (own_spots v) (map (at_copy a.kind) cs) front;
      bodies = λ b e.
          subst (λ (x : Body). (ds : List Copy) × IsCopied x.inside x.stmt ds true × AllByRecursion (NoRule w) (map (at_copy x.kind) ds)) (same a b (sym q ∙ e))
          (cs, c, facts_right (NoRule w) (own_spots v) (map (at_copy a.kind) cs) front);
      others = rest;
      behind = s;
      calm = facts_right (NoRule w) (own_spots v ++ map (at_copy a.kind) cs) rest h;
    }

abbrev join_test : Source → Here → At → Join → Bool
join_test w here at j = has_constants (environment w.vars here at) j.expr

item_joined : (w : Source) (v : Visit) → AllByRecursion (NoRule w) (own_spots v) → AtItem w.design (join_test w) v
item_joined w (sees (an_item here at a)) h = (item_fixed w here at a h.0).joined
item_joined w _ h = tt

items_joined : (w : Source) (vs : Visits) (all : List FlatSpot) → AreSpots w.vars vs all true → AllByRecursion (NoRule w) all
    → AllByRecursion (AtItem w.design (join_test w)) vs
items_joined w [] all s h = tt
items_joined w (v ∷ vs) all s h =
    let c = calm_visit w s h in
    (item_joined w v c.own, items_joined w vs c.others c.behind c.calm)

visit_calm : (w : Source) {v : Visit} {vs : Visits} {ps : List Process} → HasProcesses w v ps → CalmVisit w v vs → AtInstance w.design (join_test w) v
    → AllByRecursion CalmProcess ps
visit_calm w (of_item {here = here} {at = at} {a = a}) c j =
    item_calm w here at (item_place a) (layer a) (item_fixed w here at a c.own.0)
    (λ kind st q.
    let b : Body = record { kind = kind; inside = outside_loops w.vars here at; stmt = st } in
    let x = c.bodies b (ap (with_body (outside_loops w.vars here at)) q) in
    record { inside = outside_loops w.vars here at; here = refl; copies = x.0; copied = x.1; calm = copies_fixed w kind x.0 x.2 })
visit_calm w (of_instance {m = m} {js = js} ks) c j = connections_calm w.vars m js (kept (join_test w m.here m.at) ks j)
visit_calm w (of_other q) c j = tt

all_calm : (w : Source) {vs : Visits} {ps : List Process} {all : List FlatSpot} → AreProcesses w vs ps → AreSpots w.vars vs all true
    → AllByRecursion (NoRule w) all → AllByRecursion (AtInstance w.design (join_test w)) vs → AllByRecursion CalmProcess ps
all_calm w none s h j = tt
all_calm w (more {ps = ps} {qs = qs} d ds) s h j =
    let c = calm_visit w s h in
    facts_both CalmProcess ps qs (visit_calm w d c j.0) (all_calm w ds c.behind c.calm j.1)

-- ---- flat processes

never_covers : (clock : Option (List ℕ)) → is_cover (always_kind clock) ≡ false
never_covers None = refl
never_covers (Some name) = refl

module _ (vars : List FlatVar) where
  body_formed : {env : Environment} {st : Stmt} {fl : FlatStmt} {xs : List Arm} → IsFlatStmt vars env st fl → CalmBody env st
      → HasArms env st (stmt_layer st) xs → is_formed (flat.has_constants vars) fl ≡ true
  body_formed {st = st} {fl = fl} {xs = xs} d b x =
      formed_stmt vars {inside = b.inside} (subst (λ env. IsFlatStmt vars env st fl) (sym b.here) d) b.copied b.calm
      (subst (λ env. HasArms env st (stmt_layer st) xs) (sym b.here) x)

  formed_process : {p : Process} {q : FlatProcess} {xs : List Arm} → IsFlatProcess vars p q → CalmProcess p → HasProcessArms p xs → IsFormed vars q
  formed_process (initially_flat d) c (initially_has x) = record { body = body_formed d c x; idle = λ q. never (ap is_cover q) }
  formed_process (always_flat {clock = clock} d) c (always_has x) =
      record { body = body_formed d c x; idle = λ q. never (sym (never_covers clock) ∙ ap is_cover q) }
  formed_process (assigns_flat {p = p} {a = a} {b = b} d f) c assigns_has = record {
    body = formed.of-Set (flat.has_constants vars) p a b
        ∙ and_from (flat.has_constants vars a) (flat.has_constants vars b) ((flat_fixed vars d).fixes c.0) ((flat_fixed vars f).fixes c.1);
    idle = λ q. never (ap is_cover q);
  }
  formed_process (covers_flat {p = p} {a = a} d) c covers_has =
      let nothing = flat_stmt p k.Empty in
      record {
        body = formed.of-If-else (flat.has_constants vars) p a nothing nothing
            ∙ and_from (flat.has_constants vars a && is_formed (flat.has_constants vars) nothing) (is_formed (flat.has_constants vars) nothing)
            (and_from (flat.has_constants vars a) (is_formed (flat.has_constants vars) nothing) ((flat_fixed vars d).fixes c)
            (formed.of-Empty (flat.has_constants vars) p)) (formed.of-Empty (flat.has_constants vars) p);
        idle = λ q. named.of-If-else vars p a nothing nothing ∙ ap₂ ◌++◌ (named.of-Empty vars p) (named.of-Empty vars p);
      }

  all_formed : {k : ℕ} (ps : List Process) (qs : List FlatProcess) {xs : List Numbered} → AllZip (IsFlatProcess vars) ps qs → AllByRecursion CalmProcess ps
      → HaveArms k ps xs → AllByRecursion (IsFormed vars) qs
  all_formed [] [] z c arms.none = tt
  all_formed [] (q ∷ qs) z c arms.none = absurd z
  all_formed (p ∷ ps) [] z c (arms.more x e xs) = absurd z
  all_formed (p ∷ ps) (q ∷ qs) z c (arms.more x e xs) = (formed_process z.0 c.0 x, all_formed ps qs z.1 c.1 xs)

-- the law
pub flat_bodies_are_formed : FlatBodiesAreFormed
flat_bodies_are_formed files top clock flat h =
    let w = h.w in
    let joined = connected w.design (join_test w) h.source.walk.walked (items_joined w w.vs h.calm.spots h.calm.whole h.calm.calm) in
    let calm = all_calm w h.flat_of.found h.calm.whole h.calm.calm joined in
    subst (λ vars. AllByRecursion (IsFormed vars) flat.processes) (sym h.flat_of.variables)
    (all_formed w.vars h.flat_of.all flat.processes h.flat_of.processes calm h.flat_of.have)

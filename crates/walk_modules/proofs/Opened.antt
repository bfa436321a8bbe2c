-- How the walk goes through the header and ports of a module.
use Rattle.std.proofs.Common.{◌≡◌, ℕ, Bool, true, false, List, [], ◌∷◌, ◌++◌, map, cond, if◌then◌else◌, Option, Some, None, refl, subst, sym, ap, ◌∙◌}
use Rattle.std.proofs.Common.{append-nil}
use Rattle.std.specs.Borrow.{Bor}
use Rattle.std.specs.List.{filter, flat_map}
use Rattle.vlog_tree.specs.declared.item.Item.{Item}
use Rattle.vlog_tree.specs.declared.module.Port.{Port}
use Rattle.vlog_tree.specs.declared.module.Module.{Module}
use Rattle.vlog_tree.specs.Trees.{layer}
use Rattle.elab_types.specs.declared.elab_fault.ElabFault.{ElabFault}
use Rattle.elab_types.specs.declared.scope.Constant.{Constant as ConstantRow}
use Rattle.scope_meaning.specs.Constants.{Constant}
use Rattle.scope_meaning.specs.Scope.{Here, At, Frame, frames}
use Rattle.scope_meaning.specs.Overrides.{has_header}
use Rattle.scope_meaning.specs.Heads.{declared_constants}
use Rattle.scope_meaning.specs.Visits.{Visit, Visits, sees, an_item, a_port, has_constant, past, with_next, body_scope}
use Rattle.scope_meaning.specs.ScopeRules.{refusal}
use Rattle.scope_meaning.specs.ScopeTrees.{seen_constant}
use Rattle.elab_modules.specs.Above.{AreAbove}
use Rattle.elab_names.specs.Frames.{AreFrames}
use Rattle.elab_overrides.specs.declared.given.Givens.{Givens}
use Rattle.elab_overrides.specs.Given.{AreGiven}
use Rattle.walk_laws.specs.Rest.{Task, a_header, some_ports, some_items, Rest}
use Rattle.walk_laws.specs.Stands.{AreCalm}
use Rattle.walk_laws.proofs.Standings.{goes_on_to}
use Rattle.walk_laws.proofs.Modules.{past_parameter, behind_header, past_port, behind_ports}
use Rattle.walk_state.specs.declared.left.Left.{Left}
use Rattle.walk_state.specs.declared.left.Left.TheVariants as left
use Rattle.walk_state.specs.declared.record.Record.{Record}
use Rattle.walk_state.specs.declared.record.Record.TheVariants as its
use Rattle.walk_state.specs.declared.place.ScopePlace.{ScopePlace}
use Rattle.walk_state.specs.declared.walk.Walk.{Walk}
use Rattle.walk_state.specs.Records.{visits_of, is_recorded, AreRecorded}
use Rattle.walk_state.specs.Standing.{IsAt, AreLeft, AreBelow, items, below, header, ports, IsOnWay, IsTaken}
use Rattle.walk_moves.proofs.Moving.{recorded-more, calm-constants, with}
use Rattle.walk_modules.specs.Openings.{past_the, IsOpening}

recorded-constants : (n : ℕ) (cs : List Constant) → filter is_recorded (map (has_constant n) cs) ≡ map (has_constant n) cs
recorded-constants n [] = refl
recorded-constants n (c ∷ cs) = ap (λ (us : Visits). has_constant n c ∷ us) (recorded-constants n cs)

-- The walk goes on in the scope of the module.
opened : {design : List Module} {top : List ℕ} {done : Visits} {here : Here} {place by : At} {m : Module} {tasks under : List Task} {w : Walk}
    (vs : Visits) (more : List Record) (there : Here) (to : At) (new : List Task) (scope : ScopePlace) (lefts : List Left) (records : List Record)
    → IsOpening design top done here place by m tasks under w
    → AreCalm design vs → AreRecorded vs more
    → ((ws : Visits) (whole : Bool) → Rest design new (with_next to w.next) ws whole → Rest design tasks (with_next place w.next) (vs ++ ws) whole)
    → IsAt there to scope → AreFrames (frames there to) w.names.items → there.above ≡ here.above → AreLeft design there to lefts new
    → records ≡ w.records ++ more
    → IsOnWay design top (with w scope lefts records)
opened {design} {done = done} {w = w} vs more there to new scope lefts records s calm recorded step at names same left e = record {
  done = done ++ vs;
  here = there;
  place = to;
  tasks = new;
  standing = record {
    stands = goes_on_to vs s.stands calm step;
    scope = at;
    names = names;
    above = subst (λ (names : List (List ℕ)). AreAbove design names w.above) (sym same) s.above;
    left = left;
    records = recorded-more done vs w.records more records s.records recorded e;
  };
}

-- A parameter of the header has its constants.
pub parameter_past : {design : List Module} {top : List ℕ} {done : Visits} {here : Here} {place : At} {a : Item} {under : List Task} {w : Walk}
    (m : Bor Module) (rest : Bor (List Item)) (cs : List ConstantRow) (lefts : List Left) (records : List Record)
    → IsOpening design top done here place (past place a (map seen_constant cs)) m.now (a_header here m.now (a ∷ rest.now) ∷ under) under w
    → IsTaken design here (with_next place w.next) a → declared_constants here (with_next place w.next) (layer a) ≡ Some (map seen_constant cs)
    → records ≡ w.records ++ its.HasConstants w.here.number cs ∷ [] → lefts ≡ left.Header m rest ∷ w.left
    → IsOnWay design top (with w w.here lefts records)
parameter_past {design} {here = here} {place = place} {a = a} {under = under} {w = w} m rest cs lefts records s taken values noted pushed =
    let n : ℕ = here.number in
    let known : List Constant = map seen_constant cs in
    let to : At = past place a known in
    opened (sees (an_item here (with_next place w.next) a) ∷ map (has_constant n) known) (its.HasConstants w.here.number cs ∷ []) here to
    (a_header here m.now rest.now ∷ under) w.here lefts records s
    (ap (λ (o : Option ElabFault). o ∷ map (refusal design) (map (has_constant n) known)) taken
    ∙ ap (λ (os : List (Option ElabFault)). None ∷ os) (calm-constants design n known))
    (recorded-constants n known ∙ sym (append-nil (map (has_constant n) known)) ∙ ap (λ (k : ℕ). map (has_constant k) known ++ []) (sym s.scope.number))
    (λ ws whole r. past_parameter values r)
    s.scope s.names refl
    (subst (λ (ls : List Left). AreLeft design here to ls (a_header here m.now rest.now ∷ under)) (sym pushed) (header s.left))
    noted

-- No parameter is left in it, and the ports come.
pub header_past : {design : List Module} {top : List ℕ} {done : Visits} {here : Here} {place : At} {under : List Task} {w : Walk}
    (m : Bor Module) (all : Bor (List Port)) (lefts : List Left)
    → IsOpening design top done here place place m.now (a_header here m.now [] ∷ under) under w → all.now ≡ m.now.ports → lefts ≡ left.Ports m all ∷ w.left
    → IsOnWay design top (with w w.here lefts w.records)
header_past {design} {here = here} {place = place} {under = under} {w = w} m all lefts s same pushed =
    opened [] [] here place (some_ports here m.now m.now.ports ∷ under) w.here lefts w.records s refl refl (λ ws whole r. behind_header r)
    s.scope s.names refl
    (subst (λ (ls : List Left). AreLeft design here place ls (some_ports here m.now m.now.ports ∷ under)) (sym pushed)
    (subst (λ (ps : List Port). AreLeft design here place (left.Ports m all ∷ w.left) (some_ports here m.now ps ∷ under)) same (ports s.left)))
    (sym (append-nil w.records))

-- A port is seen.
pub port_past : {design : List Module} {top : List ℕ} {done : Visits} {here : Here} {place : At} {p : Port} {under : List Task} {w : Walk}
    (m : Bor Module) (rest : Bor (List Port)) (lefts : List Left)
    → IsOpening design top done here place (past_the place p) m.now (some_ports here m.now (p ∷ rest.now) ∷ under) under w
    → refusal design (sees (a_port here (with_next place w.next) p)) ≡ None → lefts ≡ left.Ports m rest ∷ w.left
    → IsOnWay design top (with w w.here lefts w.records)
port_past {design} {here = here} {place = place} {p = p} {under = under} {w = w} m rest lefts s calm pushed =
    opened (sees (a_port here (with_next place w.next) p) ∷ []) [] here (past_the place p) (some_ports here m.now rest.now ∷ under) w.here lefts w.records s
    (ap (λ (o : Option ElabFault). o ∷ []) calm) refl (λ ws whole r. past_port r)
    s.scope s.names refl
    (subst (λ (ls : List Left). AreLeft design here (past_the place p) ls (some_ports here m.now rest.now ∷ under)) (sym pushed) (ports s.left))
    (sym (append-nil w.records))

-- No port is left, and the items come.
body_frames : (here : Here) (at : At) (b : Bool) → frames here at ≡ frames (if b then record here { given = [] } else here) at
body_frames here at true = refl
body_frames here at false = refl

body_above : (here : Here) (b : Bool) → (if b then record here { given = [] } else here).above ≡ here.above
body_above here true = refl
body_above here false = refl

pub ports_past : {design : List Module} {top : List ℕ} {done : Visits} {here : Here} {place : At} {under : List Task} {w : Walk}
    (m : Bor Module) (all : Bor (List Item)) (scope : ScopePlace) (lefts : List Left)
    → IsOpening design top done here place place m.now (some_ports here m.now [] ∷ under) under w
    → IsAt (body_scope here m.now) (record place { item = 0 }) scope → all.now ≡ m.now.items → lefts ≡ left.Items all ∷ w.left
    → IsOnWay design top (with w scope lefts w.records)
ports_past {design} {here = here} {place = place} {under = under} {w = w} m all scope lefts s is same pushed =
    let body : Here = body_scope here m.now in
    let to : At = record place { item = 0 } in
    opened [] [] body to (some_items body m.now.items ∷ under) scope lefts w.records s refl refl (λ ws whole r. behind_ports r)
    is (subst (λ (fs : List Frame). AreFrames fs w.names.items) (body_frames here place (has_header m.now)) s.names) (body_above here (has_header m.now))
    (subst (λ (ls : List Left). AreLeft design body to ls (some_items body m.now.items ∷ under)) (sym pushed)
    (subst (λ (rows : List Item). AreLeft design body to (left.Items all ∷ w.left) (some_items body rows ∷ under)) same (below (items s.left))))
    (sym (append-nil w.records))

first_in : {here : Here} {at : At} {p : ScopePlace} → IsAt here at p → IsAt here (record at { item = 0 }) (record p { item = 0 })
first_in is = record {
  number = is.number;
  path = is.path;
  its_module = is.its_module;
  home = is.home;
  given = is.given;
  earlier = is.earlier;
  item = refl;
  construct = is.construct;
}

first_behind : {here : Here} {at : At} {p : ScopePlace} (given : Givens) → IsAt here at p → AreGiven [] given
    → IsAt (record here { given = [] }) (record at { item = 0 }) (record p { item = 0; given = given })
first_behind given is none = record {
  number = is.number;
  path = is.path;
  its_module = is.its_module;
  home = is.home;
  given = none;
  earlier = is.earlier;
  item = refl;
  construct = is.construct;
}

-- The first item of a module without a header has the values that are given to it,
pub first_of_all : {here : Here} {at : At} {p : ScopePlace} (m : Module) → IsAt here at p → has_header m ≡ false
    → IsAt (body_scope here m) (record at { item = 0 }) (record p { item = 0 })
first_of_all {here} {at} {p} m is e =
    subst (λ (b : Bool). IsAt (if b then record here { given = [] } else here) (record at { item = 0 }) (record p { item = 0 })) (sym e) (first_in is)

-- that of one with a header none.
pub first_of_rest : {here : Here} {at : At} {p : ScopePlace} (m : Module) (given : Givens) → IsAt here at p → AreGiven [] given → has_header m ≡ true
    → IsAt (body_scope here m) (record at { item = 0 }) (record p { item = 0; given = given })
first_of_rest {here} {at} {p} m given is none e =
    subst (λ (b : Bool). IsAt (if b then record here { given = [] } else here) (record at { item = 0 }) (record p { item = 0; given = given })) (sym e)
    (first_behind given is none)

-- Where a walk stands in the ports of a module, and what they make of it.
use Rattle.std.proofs.Common.{◌≡◌, ℕ, Bool, true, false, cond, List, [], ◌∷◌, ◌++◌, Option, Some, None, refl, subst, sym, ap, ◌∙◌}
use Rattle.std.specs.List.{find}
use Rattle.std.specs.Borrow.{Bor}
use Rattle.vlog_tree.specs.declared.module.Module.{Module}
use Rattle.vlog_tree.specs.declared.module.Port.{Port}
use Rattle.elab_types.specs.declared.elab_fault.ElabFault.{ElabFault}
use Rattle.elab_types.specs.declared.elab_fault.ElabFault.TheVariants as fault
use Rattle.scope_meaning.specs.Scope.{Here, At, frames}
use Rattle.scope_meaning.specs.Standing.{Standing, standing_port}
use Rattle.scope_meaning.specs.ScopeRules.{ScopeRule, duplicate, not_constant, bad_select, bad_range, width_past_128, bad_genvar, unknown_module, bad_override}
use Rattle.scope_meaning.specs.ScopeRules.{recursive, refuses, refusal, refusal_at, first_of}
use Rattle.scope_meaning.specs.ScopeTrees.{IsFirstRefusal}
use Rattle.scope_meaning.specs.Visits.{Visits, sees, a_port, with_next, ports_seen}
use Rattle.elab_overrides.specs.declared.given.Givens.{Givens}
use Rattle.elab_overrides.specs.Given.{AreGiven}
use Rattle.elab_overrides.specs.Overrides.{AreAmong}
use Rattle.elab_modules.specs.Above.{AreAbove}
use Rattle.elab_names.specs.Frames.{AreFrames}
use Rattle.elab_faults.specs.Judged.{IsRefusal}
use Rattle.elab_blocks.specs.Duplicates.{is_duplicate}
use Rattle.walk_laws.specs.Rest.{Task, some_ports, Rest}
use Rattle.walk_laws.specs.Stands.{Stands}
use Rattle.walk_laws.proofs.Standings.{refused_there}
use Rattle.walk_laws.proofs.Modules.{at_port}
use Rattle.walk_state.specs.declared.left.Left.{Left}
use Rattle.walk_state.specs.declared.left.Left.TheVariants as left
use Rattle.walk_state.specs.declared.place.ScopePlace.{ScopePlace}
use Rattle.walk_state.specs.declared.walk.Walk.{Walk}
use Rattle.walk_state.specs.Records.{AreRecorded}
use Rattle.walk_state.specs.Standing.{IsAt, AreLeft, ports, below, IsStanding}
use Rattle.walk_modules.specs.Openings.{past_the, IsOpening}
use Rattle.walk_steps.specs.Steps.{IsRefused}
use Rattle.walk_steps.proofs.Refusals.{is_refused}
use Rattle.walk_headers.specs.Headers.{IsNamed}

-- Ports are left first.
pub record AtPorts (design : List Module) (top : List ℕ) (done : Visits) (here : Here) (at : At) (m : Module) (its : List Port) (w : Walk) : Type 0 where
  pub under : List Task
  pub opening : IsOpening design top done here at at m (some_ports here m its ∷ under) under w

ports_left : {design : List Module} {top : List ℕ} {done : Visits} {here : Here} {at : At} {m : Bor Module} {its : Bor (List Port)} {tasks : List Task}
    (w : Walk)
    → AreLeft design here at (left.Ports m its ∷ w.left) tasks → Stands design top done tasks (with_next at w.next) → IsAt here at w.here
    → AreFrames (frames here at) w.names.items → AreAbove design here.above w.above → AreRecorded done w.records
    → AtPorts design top done here at m.now its.now w
ports_left w (ports {tasks = under} lefts) s scope names above records = record {
  under = under;
  opening = record { stands = s; scope = scope; names = names; above = above; left = lefts; records = records };
}
ports_left w (below x) s scope names above records = elim x [ ]

pub of_ports : {design : List Module} {top : List ℕ} {done : Visits} {here : Here} {at : At} {m : Bor Module} {its : Bor (List Port)} {tasks : List Task}
    (w : Walk)
    → IsStanding design top done here at tasks (record w { left = left.Ports m its ∷ w.left }) → AtPorts design top done here at m.now its.now w
of_ports w s = ports_left w s.left s.stands s.scope s.names s.above s.records

-- these ports
pub at_ports : {design : List Module} {top : List ℕ} {done : Visits} {here : Here} {at : At} {m : Module} {its : List Port} {w : Walk} (rows : List Port)
    → (h : AtPorts design top done here at m its w) → its ≡ rows → IsOpening design top done here at at m (some_ports here m rows ∷ h.under) h.under w
at_ports {design} {top} {done} {here} {at} {m} {w = w} rows h same =
    subst (λ (ps : List Port). IsOpening design top done here at at m (some_ports here m ps ∷ h.under) h.under w) same h.opening

-- The code stands behind a port.
pub named : {design : List Module} {top : List ℕ} {done : Visits} {here : Here} {at : At} {m : Module} {p : Port} {rest : List Port}
    {under : List Task} {w : Walk}
    (new : ScopePlace) (bad : Bool)
    → IsOpening design top done here at at m (some_ports here m (p ∷ rest) ∷ under) under w
    → bad ≡ is_duplicate at.earlier (p.name ∷ []) → bad ≡ false
    → AreAmong (at.earlier ++ p.name ∷ []) new.earlier → new.item ≡ w.here.item → new.construct ≡ w.here.construct
    → new.number ≡ w.here.number → new.path ≡ w.here.path → new.in_module ≡ w.here.in_module → new.home ≡ w.here.home → new.given ≡ w.here.given
    → IsNamed design top done here at m p rest under (record w { here = new })
named {here = here} {at = at} {w = w} new bad o is_bad ok among next construct number path its_module home given = record {
  opening = record {
    stands = o.stands;
    scope = record {
      number = number ∙ o.scope.number;
      path = path ∙ o.scope.path;
      its_module = its_module ∙ o.scope.its_module;
      home = home ∙ o.scope.home;
      given = subst (λ (g : Givens). AreGiven here.given g) (sym given) o.scope.given;
      earlier = among;
      item = next ∙ o.scope.item;
      construct = construct ∙ o.scope.construct;
    };
    names = o.names;
    above = o.above;
    left = o.left;
    records = o.records;
  };
  single = sym is_bad ∙ ok;
}

-- A fault of a port is the first refusal.
one_port : {design : List Module} {here : Here} {m : Module} (at : At) (p : Port) (rest : List Port) {under : List Task}
    → Rest design (some_ports here m (p ∷ rest) ∷ under) at (sees (a_port here at p) ∷ ports_seen here (past_the at p) rest) false
unfolding ports_seen
one_port at p rest = at_port

pub port_refused : {design : List Module} {top : List ℕ} {done : Visits} {here : Here} {m : Module} {p : Port} {rest : List Port}
    {under : List Task} (at : At) (next : ℕ)
    → Stands design top done (some_ports here m (p ∷ rest) ∷ under) (with_next at next)
    → (g : ElabFault) → refusal design (sees (a_port here (with_next at next) p)) ≡ Some g → IsFirstRefusal design top g
port_refused {here = here} {p = p} {rest = rest} at next s g h =
    refused_there [] (sees (a_port here (with_next at next) p))
    (ports_seen here (past_the (with_next at next) p) rest) s refl (one_port (with_next at next) p rest) h

pub fault_refused : {design : List Module} {top : List ℕ} {done : Visits} {here : Here} {m : Module} {p : Port} {rest : List Port}
    {under : List Task} (at : At) (next : ℕ) (f : ElabFault)
    → Stands design top done (some_ports here m (p ∷ rest) ∷ under) (with_next at next)
    → IsRefusal (refusal_at design (standing_port here (with_next at next) p)) f → IsRefused design top f
fault_refused at next f s h = is_refused f (port_refused at next s) h

-- A name stands twice.
pub twice : {design : List Module} {top : List ℕ} {done : Visits} {here : Here} {at : At} {m : Module} {p : Port} {rest : List Port}
    {under : List Task} {w : Walk}
    {bad : Bool}
    → IsOpening design top done here at at m (some_ports here m (p ∷ rest) ∷ under) under w
    → bad ≡ is_duplicate at.earlier (p.name ∷ []) → bad ≡ true → IsFirstRefusal design top (fault.Duplicate p.place)
twice {design} {here = here} {at = at} {p = p} {w = w} o is_bad holds =
    let x : Standing = standing_port here (with_next at w.next) p in
    let others : List ScopeRule =
    not_constant ∷ bad_select ∷ bad_range ∷ width_past_128 ∷ bad_genvar ∷ unknown_module ∷ bad_override ∷ recursive ∷ [] in
    port_refused at w.next o.stands (fault.Duplicate p.place)
    (ap (λ (b : Bool). first_of x (cond b (Some duplicate) (find (refuses design x) others))) (sym is_bad ∙ holds))

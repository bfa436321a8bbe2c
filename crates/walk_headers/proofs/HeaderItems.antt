-- Where a walk stands in the header of a module, and what its items make of it.
use Rattle.std.proofs.Common.{◌≡◌, ℕ, ◌+◌, Bool, true, false, cond, List, [], ◌∷◌, ◌++◌, map, Option, Some, None, refl, subst, sym, ap, ◌∙◌, append-nil}
use Rattle.std.specs.List.{find}
use Rattle.std.specs.Borrow.{Bor}
use Rattle.std.specs.Global.{Vec}
use Rattle.vlog_tree.specs.declared.item.Item.{Item, out-Item}
use Rattle.vlog_tree.specs.declared.item.ItemKind.{ItemKind, out-ItemKind, out-roll-ItemKind}
use Rattle.vlog_tree.specs.declared.item.ItemKind.TheVariants as v
use Rattle.vlog_tree.specs.declared.item.ItemKind.TheOpen as i
use Rattle.vlog_tree.specs.declared.item.ParamForm.{ParamForm}
use Rattle.vlog_tree.specs.declared.item.ParamName.{ParamName}
use Rattle.vlog_tree.specs.declared.module.Module.{Module}
use Rattle.vlog_tree.specs.Trees.{Layer, layer, item_place}
use Rattle.elab_types.specs.declared.elab_fault.ElabFault.{ElabFault}
use Rattle.elab_types.specs.declared.elab_fault.ElabFault.TheVariants as fault
use Rattle.elab_types.specs.declared.scope.Constant.{Constant as ConstantRow}
use Rattle.scope_meaning.specs.Constants.{Constant}
use Rattle.scope_meaning.specs.Declared.{names_of, count, constructs}
use Rattle.scope_meaning.specs.Heads.{declared_constants, constants_of}
use Rattle.scope_meaning.specs.Scope.{Here, At, Frame, frames}
use Rattle.scope_meaning.specs.Standing.{Standing, standing, standing_item}
use Rattle.scope_meaning.specs.ScopeRules.{ScopeRule, duplicate, not_constant, bad_select, bad_range, width_past_128, bad_genvar, unknown_module, bad_override}
use Rattle.scope_meaning.specs.ScopeRules.{recursive, refuses, refusal, refusal_at, first_of}
use Rattle.scope_meaning.specs.ScopeTrees.{IsFirstRefusal, seen_constant}
use Rattle.scope_meaning.specs.Visits.{Visits, sees, an_item, past, with_next, body_scope}
use Rattle.elab_overrides.specs.declared.given.Givens.{Givens}
use Rattle.elab_overrides.specs.Given.{AreGiven}
use Rattle.elab_overrides.specs.Overrides.{AreAmong}
use Rattle.elab_modules.specs.Above.{AreAbove}
use Rattle.elab_names.specs.declared.scope_names.ScopeNames.{ScopeNames}
use Rattle.elab_names.specs.Frames.{AreFrames}
use Rattle.elab_faults.specs.Judged.{IsRefusal}
use Rattle.elab_blocks.specs.Duplicates.{is_duplicate}
use Rattle.elab_parameters.specs.Declarations.{knowing}
use Rattle.walk_laws.specs.Rest.{Task, a_header}
use Rattle.walk_laws.specs.Stands.{Stands}
use Rattle.walk_laws.proofs.Standings.{refused_there}
use Rattle.walk_laws.proofs.Modules.{at_parameter}
use Rattle.walk_state.specs.declared.left.Left.{Left}
use Rattle.walk_state.specs.declared.left.Left.TheVariants as left
use Rattle.walk_state.specs.declared.place.ScopePlace.{ScopePlace}
use Rattle.walk_state.specs.declared.walk.Walk.{Walk}
use Rattle.walk_state.specs.Records.{AreRecorded}
use Rattle.walk_state.specs.Standing.{IsAt, AreLeft, header, below, IsStanding, IsTaken}
use Rattle.walk_modules.specs.Openings.{IsOpening}
use Rattle.walk_steps.specs.Steps.{IsRefused}
use Rattle.walk_steps.proofs.Refusals.{is_refused}
use Rattle.walk_headers.specs.Headers.{IsBegun}

-- A header, or its rest, is left first.
pub record AtHeader (design : List Module) (top : List ℕ) (done : Visits) (here : Here) (at : At) (m : Module) (its : List Item) (w : Walk) : Type 0 where
  pub under : List Task
  pub opening : IsOpening design top done here at at m (a_header here m its ∷ under) under w

header_left : {design : List Module} {top : List ℕ} {done : Visits} {here : Here} {at : At} {m : Bor Module} {its : Bor (List Item)} {tasks : List Task}
    (w : Walk)
    → AreLeft design here at (left.Header m its ∷ w.left) tasks → Stands design top done tasks (with_next at w.next) → IsAt here at w.here
    → AreFrames (frames here at) w.names.items → AreAbove design here.above w.above → AreRecorded done w.records
    → AtHeader design top done here at m.now its.now w
header_left w (header {tasks = under} lefts) s scope names above records = record {
  under = under;
  opening = record { stands = s; scope = scope; names = names; above = above; left = lefts; records = records };
}
header_left w (below x) s scope names above records = elim x [ ]

pub of_header : {design : List Module} {top : List ℕ} {done : Visits} {here : Here} {at : At} {m : Bor Module} {its : Bor (List Item)} {tasks : List Task}
    (w : Walk)
    → IsStanding design top done here at tasks (record w { left = left.Header m its ∷ w.left }) → AtHeader design top done here at m.now its.now w
of_header w s = header_left w s.left s.stands s.scope s.names s.above s.records

-- where these are its items
pub at_items : {design : List Module} {top : List ℕ} {done : Visits} {here : Here} {at : At} {m : Module} {its : List Item} {w : Walk} (items : List Item)
    → (h : AtHeader design top done here at m its w) → its ≡ items → IsOpening design top done here at at m (a_header here m items ∷ h.under) h.under w
at_items {design} {top} {done} {here} {at} {m} {w = w} items h same =
    subst (λ (rows : List Item). IsOpening design top done here at at m (a_header here m rows ∷ h.under) h.under w) same h.opening

-- The code stands behind an item.
pub begun : {design : List Module} {top : List ℕ} {done : Visits} {here : Here} {at : At} {m : Module} {a : Item} {rest : List Item}
    {under : List Task} {w : Walk}
    (new : ScopePlace) (bad : Bool)
    → IsOpening design top done here at at m (a_header here m (a ∷ rest) ∷ under) under w
    → bad ≡ is_duplicate at.earlier (names_of a) → bad ≡ false
    → AreAmong (at.earlier ++ names_of a) new.earlier → new.item ≡ w.here.item + count a → new.construct ≡ w.here.construct + constructs a
    → new.number ≡ w.here.number → new.path ≡ w.here.path → new.in_module ≡ w.here.in_module → new.home ≡ w.here.home → new.given ≡ w.here.given
    → IsBegun design top done here at m a rest under (record w { here = new })
begun {here = here} {at = at} {a = a} {w = w} new bad o is_bad ok among next construct number path its_module home given = record {
  opening = record {
    stands = o.stands;
    scope = record {
      number = number ∙ o.scope.number;
      path = path ∙ o.scope.path;
      its_module = its_module ∙ o.scope.its_module;
      home = home ∙ o.scope.home;
      given = subst (λ (g : Givens). AreGiven here.given g) (sym given) o.scope.given;
      earlier = among;
      item = next ∙ ap (λ (k : ℕ). k + count a) o.scope.item;
      construct = construct ∙ ap (λ (k : ℕ). k + constructs a) o.scope.construct;
    };
    names = subst (λ (cs : List Constant).
        AreFrames (record { number = here.number; declared = here.declared; genvar = here.genvar; known = cs } ∷ here.outer) w.names.items)
        (sym (append-nil at.known)) o.names;
    above = o.above;
    left = o.left;
    records = o.records;
  };
  single = sym is_bad ∙ ok;
}

-- ---- what is refused

-- A fault of an item of a header is the first refusal.
pub parameter_refused : {design : List Module} {top : List ℕ} {done : Visits} {here : Here} {m : Module} {a : Item} {rest : List Item}
    {under : List Task} (at : At) (next : ℕ)
    → Stands design top done (a_header here m (a ∷ rest) ∷ under) (with_next at next)
    → (g : ElabFault) → refusal design (sees (an_item here (with_next at next) a)) ≡ Some g → IsFirstRefusal design top g
parameter_refused {here = here} {a = a} at next s g h = refused_there [] (sees (an_item here (with_next at next) a)) [] s refl at_parameter h

pub refused_by : {design : List Module} {top : List ℕ} {done : Visits} {here : Here} {m : Module} {a : Item} {rest : List Item}
    {under : List Task} {l : Layer} (at : At) (next : ℕ) (f : ElabFault)
    → Stands design top done (a_header here m (a ∷ rest) ∷ under) (with_next at next) → layer a ≡ l
    → IsRefusal (refusal_at design (standing_item here (with_next at next) (item_place a) (names_of a) l)) f → IsRefused design top f
refused_by {design} {here = here} {a = a} at next f s e h =
    is_refused f (parameter_refused at next s)
    (subst (λ (k : Layer). IsRefusal (refusal_at design (standing_item here (with_next at next) (item_place a) (names_of a) k)) f) (sym e) h)

-- A name stands twice.
pub twice : {design : List Module} {top : List ℕ} {done : Visits} {here : Here} {at : At} {m : Module} {a : Item} {rest : List Item}
    {under : List Task} {w : Walk}
    {bad : Bool}
    → IsOpening design top done here at at m (a_header here m (a ∷ rest) ∷ under) under w
    → bad ≡ is_duplicate at.earlier (names_of a) → bad ≡ true → IsFirstRefusal design top (fault.Duplicate (item_place a))
twice {design} {here = here} {at = at} {a = a} {w = w} o is_bad holds =
    let x : Standing = standing (an_item here (with_next at w.next) a) in
    let others : List ScopeRule =
    not_constant ∷ bad_select ∷ bad_range ∷ width_past_128 ∷ bad_genvar ∷ unknown_module ∷ bad_override ∷ recursive ∷ [] in
    parameter_refused at w.next o.stands (fault.Duplicate (item_place a))
    (ap (λ (b : Bool). first_of x (cond b (Some duplicate) (find (refuses design x) others))) (sym is_bad ∙ holds))

-- ---- a declaration of parameters

pub layer-parameter : (a : Item) (is_local : Bool) (form : ParamForm) (names : List ParamName) → (out-Item a).what ≡ v.Parameter is_local form names
    → layer a ≡ i.Parameter is_local form names
layer-parameter a is_local form names e =
    ap out-ItemKind (e ∙ sym (v.rolls-Parameter is_local form names)) ∙ out-roll-ItemKind (i.Parameter is_local form names)

-- Names behind an item that makes none known are those before it.
pub names_before : {design : List Module} {top : List ℕ} {done : Visits} {here : Here} {at : At} {m : Module} {a : Item} {rest : List Item}
    {under : List Task} {w : Walk} → IsBegun design top done here at m a rest under w → AreFrames (frames here at) w.names.items
names_before {here = here} {at = at} {w = w} b =
    subst (λ (cs : List Constant). AreFrames (record { number = here.number; declared = here.declared; genvar = here.genvar; known = cs } ∷ here.outer)
    w.names.items) (append-nil at.known) b.opening.names

-- The code stands behind its constants.
pub declared : {design : List Module} {top : List ℕ} {done : Visits} {here : Here} {at : At} {m : Module} {a : Item} {rest : List Item}
    {under : List Task} {w : Walk} (names : Vec ScopeNames) (cs : List ConstantRow)
    → IsBegun design top done here at m a rest under w → AreFrames (frames here (knowing at cs)) names.items
    → IsOpening design top done here at (past at a (map seen_constant cs)) m (a_header here m (a ∷ rest) ∷ under) under (record w { names = names })
declared names cs b are = record {
  stands = b.opening.stands;
  scope = record {
    number = b.opening.scope.number;
    path = b.opening.scope.path;
    its_module = b.opening.scope.its_module;
    home = b.opening.scope.home;
    given = b.opening.scope.given;
    earlier = b.opening.scope.earlier;
    item = b.opening.scope.item;
    construct = b.opening.scope.construct;
  };
  names = are;
  above = b.opening.above;
  left = b.opening.left;
  records = b.opening.records;
}

-- Its constants by its layer.
pub its_constants : (here : Here) (at : At) (a : Item) {is_local : Bool} {form : ParamForm} {names : List ParamName} {cs : List Constant}
    → layer a ≡ i.Parameter is_local form names → constants_of here at is_local form names ≡ Some cs → declared_constants here at (layer a) ≡ Some cs
its_constants here at a e h = ap (declared_constants here at) e ∙ h

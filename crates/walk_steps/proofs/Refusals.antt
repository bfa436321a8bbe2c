-- What refuses a place of the walk refuses the design.
use Rattle.std.proofs.Common.{◌≡◌, ℕ, Bool, false, List, [], ◌∷◌, ◌++◌, Option, Some, refl, subst, sym, ap, ◌∙◌, ℤ}
use Rattle.cov_types.specs.declared.place.Place.{Place}
use Rattle.vlog_tree.specs.declared.item.Item.{Item}
use Rattle.vlog_tree.specs.declared.module.Module.{Module}
use Rattle.vlog_tree.specs.Trees.{Layer, layer, item_place}
use Rattle.elab_types.specs.declared.elab_fault.ElabFault.{ElabFault}
use Rattle.elab_types.specs.declared.elab_fault.ElabFault.TheVariants as fault
use Rattle.scope_meaning.specs.Declared.{names_of, is_region}
use Rattle.scope_meaning.specs.Scope.{Here, At}
use Rattle.scope_meaning.specs.Heads.{GenLoop}
use Rattle.scope_meaning.specs.Visits.{Visits, sees, an_item, with_next}
use Rattle.scope_meaning.specs.Standing.{standing_item}
use Rattle.scope_meaning.specs.ScopeRules.{refusal, refusal_at}
use Rattle.scope_meaning.specs.ScopeTrees.{IsFirstRefusal}
use Rattle.elab_faults.specs.Judged.{IsRefusal}
use Rattle.walk_laws.specs.Rest.{Task, some_items, a_turn_of, a_step_of}
use Rattle.walk_laws.specs.Stands.{Stands}
use Rattle.walk_laws.proofs.Standings.{refused_there}
use Rattle.walk_laws.proofs.Steps.{at_item, at_turn, at_step_of, test_seen, step_seen}
use Rattle.walk_steps.specs.Steps.{IsRefused}

-- A fault of a place, which is the first refusal where it is one, want of memory aside.
pub is_refused : {design : List Module} {top : List ℕ} {refused : Option ElabFault} (f : ElabFault)
    → ((g : ElabFault) → refused ≡ Some g → IsFirstRefusal design top g) → IsRefusal refused f → IsRefused design top f
is_refused fault.NoMemory first h = tt
is_refused (fault.Duplicate p) first h = first (fault.Duplicate p) h
is_refused (fault.NoTop p) first h = first (fault.NoTop p) h
is_refused (fault.NotConstant p) first h = first (fault.NotConstant p) h
is_refused (fault.BadSelect p) first h = first (fault.BadSelect p) h
is_refused (fault.BadRange p) first h = first (fault.BadRange p) h
is_refused (fault.WidthPast128 p) first h = first (fault.WidthPast128 p) h
is_refused (fault.BadGenvar p) first h = first (fault.BadGenvar p) h
is_refused (fault.UnknownModule p) first h = first (fault.UnknownModule p) h
is_refused (fault.BadOverride p) first h = first (fault.BadOverride p) h
is_refused (fault.Recursive p) first h = first (fault.Recursive p) h
is_refused (fault.Limit l) first h = first (fault.Limit l) h

-- At an item that is no region,
pub item_refused : {design : List Module} {top : List ℕ} {done : Visits} {here : Here} {a : Item} {rest : List Item} {under : List Task} (at : At) (next : ℕ)
    → Stands design top done (some_items here (a ∷ rest) ∷ under) (with_next at next) → is_region (layer a) ≡ false
    → (g : ElabFault) → refusal design (sees (an_item here (with_next at next) a)) ≡ Some g → IsFirstRefusal design top g
item_refused {here = here} {a = a} at next s e g h = refused_there [] (sees (an_item here (with_next at next) a)) [] s refl (at_item e) h

-- also where it is seen by its layer,
pub refused_by : {design : List Module} {top : List ℕ} {done : Visits} {here : Here} {a : Item} {rest : List Item} {under : List Task} {l : Layer}
    (at : At) (next : ℕ) (f : ElabFault)
    → Stands design top done (some_items here (a ∷ rest) ∷ under) (with_next at next) → layer a ≡ l → is_region l ≡ false
    → IsRefusal (refusal_at design (standing_item here (with_next at next) (item_place a) (names_of a) l)) f → IsRefused design top f
refused_by {design} {here = here} {a = a} {l = l} at next f s e plain h =
    is_refused f (item_refused at next s (ap is_region e ∙ plain))
    (subst (λ (k : Layer). IsRefusal (refusal_at design (standing_item here (with_next at next) (item_place a) (names_of a) k)) f) (sym e) h)

-- at the test of a turn,
pub turn_refused : {design : List Module} {top : List ℕ} {done : Visits} {here : Here} {at place : At} {a : Item} {l : GenLoop} {n : ℤ} {under : List Task}
    → Stands design top done (a_turn_of here place a l n ∷ under) at
    → (g : ElabFault) → refusal design (test_seen here place a l n) ≡ Some g → IsFirstRefusal design top g
turn_refused {here = here} {place = place} {a = a} {l = l} {n = n} s g h = refused_there [] (test_seen here place a l n) [] s refl at_turn h

-- and at its step.
pub step_refused : {design : List Module} {top : List ℕ} {done : Visits} {here : Here} {at place : At} {a : Item} {l : GenLoop} {n : ℤ} {under : List Task}
    → Stands design top done (a_step_of here place a l n ∷ under) at
    → (g : ElabFault) → refusal design (step_seen here place a l n) ≡ Some g → IsFirstRefusal design top g
step_refused {here = here} {place = place} {a = a} {l = l} {n = n} s g h = refused_there [] (step_seen here place a l n) [] s refl at_step_of h

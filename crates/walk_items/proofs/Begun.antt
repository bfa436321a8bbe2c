-- What beginning an item makes of the state of a walk, and what it refuses.
use Rattle.std.proofs.Common.{◌≡◌, ℕ, ◌+◌, Bool, true, false, cond, List, [], ◌∷◌, ◌++◌, Option, Some, None, refl, subst, sym, ap, ◌∙◌, append-nil}
use Rattle.std.specs.List.{find}
use Rattle.vlog_tree.specs.declared.item.Item.{Item}
use Rattle.vlog_tree.specs.declared.item.ItemKind.TheOpen as i
use Rattle.vlog_tree.specs.declared.module.Module.{Module}
use Rattle.vlog_tree.specs.Trees.{Layer, layer, item_place}
use Rattle.elab_types.specs.declared.elab_fault.ElabFault.TheVariants as fault
use Rattle.scope_meaning.specs.Constants.{Constant}
use Rattle.scope_meaning.specs.Declared.{names_of, count, constructs, is_region, is_plain}
use Rattle.scope_meaning.specs.Scope.{Here, At, frames}
use Rattle.scope_meaning.specs.Visits.{Visits, an_item, past, with_next}
use Rattle.scope_meaning.specs.Standing.{Standing, standing}
use Rattle.scope_meaning.specs.ScopeRules.{ScopeRule, duplicate, not_constant, bad_select, bad_range, width_past_128, bad_genvar, unknown_module, bad_override}
use Rattle.scope_meaning.specs.ScopeRules.{recursive, refuses, first_of}
use Rattle.scope_meaning.specs.ScopeTrees.{IsFirstRefusal}
use Rattle.elab_names.specs.Frames.{AreFrames}
use Rattle.elab_overrides.specs.declared.given.Givens.{Givens}
use Rattle.elab_overrides.specs.Given.{AreGiven}
use Rattle.elab_overrides.specs.Overrides.{AreAmong}
use Rattle.elab_blocks.specs.Duplicates.{is_duplicate}
use Rattle.elab_places.specs.Places.{has_nothing}
use Rattle.walk_laws.specs.Rest.{Task, some_items}
use Rattle.walk_state.specs.declared.place.ScopePlace.{ScopePlace}
use Rattle.walk_state.specs.declared.walk.Walk.{Walk}
use Rattle.walk_state.specs.Standing.{IsMidway, IsAt}
use Rattle.walk_steps.specs.Steps.{IsBegun}
use Rattle.walk_steps.proofs.Refusals.{item_refused}

-- The code stands behind it.
pub begun : {design : List Module} {top : List ℕ} {done : Visits} {here : Here} {at : At} {a : Item} {rest : List Item} {under : List Task} {w : Walk}
    (new : ScopePlace) (bad : Bool)
    → IsMidway design top done here at at (some_items here (a ∷ rest) ∷ under) (some_items here rest ∷ under) w
    → bad ≡ is_duplicate at.earlier (names_of a) → bad ≡ false
    → AreAmong (at.earlier ++ names_of a) new.earlier → new.item ≡ w.here.item + count a → new.construct ≡ w.here.construct + constructs a
    → new.number ≡ w.here.number → new.path ≡ w.here.path → new.in_module ≡ w.here.in_module → new.home ≡ w.here.home → new.given ≡ w.here.given
    → IsBegun design top done here at a rest under (record w { here = new })
begun {here = here} {at = at} {a = a} {w = w} new bad m is_bad ok among next construct number path its_module home given = record {
  midway = record {
    stands = m.stands;
    scope = record {
      number = number ∙ m.scope.number;
      path = path ∙ m.scope.path;
      its_module = its_module ∙ m.scope.its_module;
      home = home ∙ m.scope.home;
      given = subst (λ (g : Givens). AreGiven here.given g) (sym given) m.scope.given;
      earlier = among;
      item = next ∙ ap (λ (k : ℕ). k + count a) m.scope.item;
      construct = construct ∙ ap (λ (k : ℕ). k + constructs a) m.scope.construct;
    };
    names = subst (λ (cs : List Constant).
        AreFrames (record { number = here.number; declared = here.declared; genvar = here.genvar; known = cs } ∷ here.outer) w.names.items)
        (sym (append-nil at.known)) m.names;
    above = m.above;
    left = m.left;
    records = m.records;
  };
  single = sym is_bad ∙ ok;
}

-- A name stands twice.
pub twice : {design : List Module} {top : List ℕ} {done : Visits} {here : Here} {at : At} {a : Item} {rest : List Item} {under : List Task} {w : Walk}
    {bad : Bool}
    → IsMidway design top done here at at (some_items here (a ∷ rest) ∷ under) (some_items here rest ∷ under) w → is_region (layer a) ≡ false
    → bad ≡ is_duplicate at.earlier (names_of a) → bad ≡ true → IsFirstRefusal design top (fault.Duplicate (item_place a))
twice {design} {here = here} {at = at} {a = a} {w = w} m plain is_bad holds =
    let x : Standing = standing (an_item here (with_next at w.next) a) in
    let others : List ScopeRule =
    not_constant ∷ bad_select ∷ bad_range ∷ width_past_128 ∷ bad_genvar ∷ unknown_module ∷ bad_override ∷ recursive ∷ [] in
    item_refused at w.next m.stands plain (fault.Duplicate (item_place a))
    (ap (λ (b : Bool). first_of x (cond b (Some duplicate) (find (refuses design x) others))) (sym is_bad ∙ holds))

-- Where nothing can be refused but names, an item makes no scope and no constant.
pub plain_where_quiet : (l : Layer) → has_nothing l ≡ true → is_plain l ≡ true
plain_where_quiet (i.Parameter is_local form names) e = e
plain_where_quiet (i.Instances of params made) e = e
plain_where_quiet (i.Generate rows) e = e
plain_where_quiet (i.Loop name from test step_name step block places body) e = e
plain_where_quiet (i.Choose arms last) e = e
plain_where_quiet (i.Wire signed range names) e = refl
plain_where_quiet (i.Reg signed range names) e = refl
plain_where_quiet (i.Integer names) e = refl
plain_where_quiet (i.Genvar names) e = refl
plain_where_quiet (i.Assign parts) e = refl
plain_where_quiet (i.Initial body) e = refl
plain_where_quiet (i.Always clock body) e = refl
plain_where_quiet (i.Cover word label clock test) e = refl

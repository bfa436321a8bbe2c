-- What is seen and judged at the place of an item that is begun.
use Rattle.std.proofs.Common.{◌≡◌, ℕ, Bool, true, false, cond, List, [], ◌∷◌, ◌++◌, Option, Some, None, refl, subst, sym, ap, ◌∙◌, append-nil}
use Rattle.std.specs.List.{find}
use Rattle.vlog_tree.specs.declared.item.Item.{Item}
use Rattle.vlog_tree.specs.declared.module.Module.{Module}
use Rattle.vlog_tree.specs.Trees.{Layer, layer, item_place}
use Rattle.scope_meaning.specs.Constants.{Constant}
use Rattle.scope_meaning.specs.Declared.{names_of}
use Rattle.scope_meaning.specs.Scope.{Here, At, frames}
use Rattle.scope_meaning.specs.Visits.{Visits, past, with_next}
use Rattle.scope_meaning.specs.Standing.{Standing, standing_item}
use Rattle.scope_meaning.specs.ScopeRules.{ScopeRule, duplicate, not_constant, bad_select, bad_range, width_past_128, bad_genvar, unknown_module, bad_override}
use Rattle.scope_meaning.specs.ScopeRules.{recursive, refuses, refusal_at, first_of}
use Rattle.elab_names.specs.declared.scope_names.ScopeNames.{ScopeNames}
use Rattle.elab_names.specs.Frames.{AreFrames}
use Rattle.walk_laws.specs.Rest.{Task}
use Rattle.walk_state.specs.declared.walk.Walk.{Walk}
use Rattle.walk_state.specs.Standing.{IsMidway, IsTaken}

-- Names behind an item that makes none known are those before it.
pub names_before : {design : List Module} {top : List ℕ} {done : Visits} {here : Here} {at : At} {tasks under : List Task} {w : Walk} (place : At) (a : Item)
    → IsMidway design top done here at (past place a []) tasks under w → (ss : List ScopeNames) → ss ≡ w.names.items → AreFrames (frames here place) ss
names_before {here = here} place a m ss same =
    subst (λ (cs : List Constant). AreFrames (record { number = here.number; declared = here.declared; genvar = here.genvar; known = cs } ∷ here.outer) ss)
    (append-nil place.known) (subst (AreFrames (record { number = here.number; declared = here.declared; genvar = here.genvar; known = place.known ++ [] }
    ∷ here.outer)) (sym same) m.names)

-- Nothing refuses an item that is seen by its layer.
pub taken_by : (design : List Module) (here : Here) (at : At) (a : Item) {l : Layer}
    → layer a ≡ l → refusal_at design (standing_item here at (item_place a) (names_of a) l) ≡ None → IsTaken design here at a
taken_by design here at a {l} e h =
    subst (λ (k : Layer). refusal_at design (standing_item here at (item_place a) (names_of a) k) ≡ None) (sym e) h

-- where no rule refuses a place, the last one doesn't
last_rule : (x : Standing) (b c d e f g h i j : Bool)
    → first_of x (cond b (Some duplicate) (cond c (Some not_constant) (cond d (Some bad_select) (cond e (Some bad_range) (cond f (Some width_past_128)
    (cond g (Some bad_genvar) (cond h (Some unknown_module) (cond i (Some bad_override) (cond j (Some recursive) None))))))))) ≡ None → j ≡ false
last_rule x true c d e f g h i j n = cc
last_rule x false true d e f g h i j n = cc
last_rule x false false true e f g h i j n = cc
last_rule x false false false true f g h i j n = cc
last_rule x false false false false true g h i j n = cc
last_rule x false false false false false true h i j n = cc
last_rule x false false false false false false true i j n = cc
last_rule x false false false false false false false true j n = cc
last_rule x false false false false false false false false true n = cc
last_rule x false false false false false false false false false n = refl

pub never_recursive : (design : List Module) (x : Standing) → refusal_at design x ≡ None → refuses design x recursive ≡ false
never_recursive design x n =
    last_rule x (refuses design x duplicate) (refuses design x not_constant) (refuses design x bad_select) (refuses design x bad_range)
    (refuses design x width_past_128) (refuses design x bad_genvar) (refuses design x unknown_module) (refuses design x bad_override)
    (refuses design x recursive) n

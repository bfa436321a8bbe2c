-- The state of a walk where constants of an item are known.
use Rattle.std.proofs.Common.{◌≡◌, ℕ, List, [], ◌∷◌, ◌++◌}
use Rattle.std.specs.Global.{Vec}
use Rattle.vlog_tree.specs.declared.item.Item.{Item}
use Rattle.vlog_tree.specs.declared.module.Module.{Module}
use Rattle.scope_meaning.specs.Constants.{Constant}
use Rattle.scope_meaning.specs.Scope.{Here, At, frames}
use Rattle.scope_meaning.specs.Visits.{Visits, past}
use Rattle.elab_names.specs.declared.scope_names.ScopeNames.{ScopeNames}
use Rattle.elab_names.specs.Frames.{AreFrames}
use Rattle.walk_laws.specs.Rest.{Task, some_items}
use Rattle.walk_state.specs.declared.walk.Walk.{Walk}
use Rattle.walk_state.specs.Standing.{IsMidway}
use Rattle.walk_steps.specs.Steps.{IsBegun}

pub knows : {design : List Module} {top : List ℕ} {done : Visits} {here : Here} {at : At} {a : Item} {rest : List Item} {under : List Task} {w : Walk}
    (cs : List Constant) (names : Vec ScopeNames)
    → IsBegun design top done here at a rest under w → AreFrames (frames here (record at { known = at.known ++ cs })) names.items
    → IsMidway design top done here at (past at a cs) (some_items here (a ∷ rest) ∷ under) (some_items here rest ∷ under) (record w { names = names })
knows cs names b are =
    let m = b.midway in
    record {
      stands = m.stands;
      scope = record {
        number = m.scope.number;
        path = m.scope.path;
        its_module = m.scope.its_module;
        home = m.scope.home;
        given = m.scope.given;
        earlier = m.scope.earlier;
        item = m.scope.item;
        construct = m.scope.construct;
      };
      names = are;
      above = m.above;
      left = m.left;
      records = m.records;
    }

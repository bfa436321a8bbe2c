-- Where a walk stands before the items of a scope.
use Rattle.std.proofs.Common.{◌≡◌, ℕ, List, [], ◌∷◌, refl, subst, sym, append-nil}
use Rattle.std.specs.Borrow.{Bor}
use Rattle.vlog_tree.specs.declared.item.Item.{Item}
use Rattle.vlog_tree.specs.declared.module.Module.{Module}
use Rattle.scope_meaning.specs.Scope.{Here, At}
use Rattle.scope_meaning.specs.Visits.{Visits, with_next}
use Rattle.walk_laws.specs.Rest.{Task, some_items}
use Rattle.walk_laws.specs.Stands.{Stands}
use Rattle.walk_laws.proofs.Steps.{behind_items}
use Rattle.walk_state.specs.declared.left.Left.{Left}
use Rattle.walk_state.specs.declared.left.Left.TheVariants as left
use Rattle.walk_state.specs.declared.walk.Walk.{Walk}
use Rattle.walk_state.specs.Standing.{AreLeft, AreBelow, below, items, IsStanding, IsMidway, IsOnWay}
use Rattle.walk_moves.proofs.Moving.{moved}

-- Items are left first.
pub record AtItems (design : List Module) (top : List ℕ) (done : Visits) (here : Here) (at : At) (its : List Item) (w : Walk) : Type 0 where
  pub under : List Task
  pub stands : Stands design top done (some_items here its ∷ under) (with_next at w.next)
  pub left : AreBelow design here w.left under

items_left : {design : List Module} {top : List ℕ} {done : Visits} {here : Here} {at : At} {its : Bor (List Item)} {tasks : List Task} (w : Walk)
    → AreLeft design here at (left.Items its ∷ w.left) tasks → Stands design top done tasks (with_next at w.next)
    → AtItems design top done here at its.now w
items_left w (below (items {tasks = under} lefts)) s = record { under = under; stands = s; left = lefts }

pub of_items : {design : List Module} {top : List ℕ} {done : Visits} {here : Here} {at : At} {its : Bor (List Item)} {tasks : List Task} (w : Walk)
    → IsStanding design top done here at tasks (record w { left = left.Items its ∷ w.left }) → AtItems design top done here at its.now w
of_items w s = items_left w s.left s.stands

-- With none of them left, the walk goes on with what is under them;
pub items_past : {design : List Module} {top : List ℕ} {done : Visits} {here : Here} {at : At} {its : Bor (List Item)} {tasks : List Task} (w : Walk)
    → IsStanding design top done here at tasks (record w { left = left.Items its ∷ w.left }) → its.now ≡ [] → IsOnWay design top w
items_past {design} {top} {done} {here} {at} w s none =
    let i = of_items w s in
    let stands = subst (λ (rows : List Item). Stands design top done (some_items here rows ∷ i.under) (with_next at w.next)) none i.stands in
    let m : IsMidway design top done here at at (some_items here [] ∷ i.under) i.under w =
    record { stands = stands; scope = s.scope; names = s.names; above = s.above; left = i.left; records = s.records } in
    moved [] [] at i.under w.here w.left w.records m refl refl (λ ws whole r. behind_items r) s.scope s.names (below i.left) (sym (append-nil w.records))

-- else it is at the first of them, and the others are left.
pub at_first : {design : List Module} {top : List ℕ} {done : Visits} {here : Here} {at : At} {its rest : Bor (List Item)} {tasks : List Task} {a : Item}
    {lefts : List Left} (w : Walk)
    → (s : IsStanding design top done here at tasks (record w { left = left.Items its ∷ w.left })) → its.now ≡ a ∷ rest.now → lefts ≡ left.Items rest ∷ w.left
    → IsMidway design top done here at at (some_items here (a ∷ rest.now) ∷ (of_items w s).under) (some_items here rest.now ∷ (of_items w s).under)
    (record w { left = lefts })
at_first {design} {top} {done} {here} {at} {rest = rest} w s first pushed =
    let i = of_items w s in record {
      stands = subst (λ (rows : List Item). Stands design top done (some_items here rows ∷ i.under) (with_next at w.next)) first i.stands;
      scope = s.scope;
      names = s.names;
      above = s.above;
      left = subst (λ (ls : List Left). AreBelow design here ls (some_items here rest.now ∷ i.under)) (sym pushed) (items i.left);
      records = s.records;
    }

-- The scopes of a walk through a design are numbered in its order.
use Rattle.std.proofs.Common.{◌≡◌, ℕ, ◌+◌, ◌<◌, ◌≤◌, Bool, true, false, cond, List, [], ◌∷◌, ◌++◌, Option, Some, None, refl, arith, ℤ}
use Rattle.cov_types.specs.declared.place.Place.{Place}
use Rattle.vlog_tree.specs.declared.item.Item.{Item}
use Rattle.vlog_tree.specs.declared.item.Instance.{Instance}
use Rattle.vlog_tree.specs.declared.module.Module.{Module}
use Rattle.vlog_tree.specs.Trees.{Layer}
use Rattle.scope_meaning.specs.Constants.{Constant}
use Rattle.scope_meaning.specs.Scope.{Here, At, Given}
use Rattle.scope_meaning.specs.Overrides.{has_header}
use Rattle.scope_meaning.specs.Heads.{GenLoop}
use Rattle.scope_meaning.specs.Visits.{Visits, body_scope, module_scope}
use Rattle.scope_meaning.specs.ScopeTrees.{IsWalkOf}
use Rattle.scope_meaning.specs.Walk.{AreHeader, no_more, ends_at, header, AreWalked, no_items, ends_before, goes_on, ends_inside, IsWalked, comes_to, plain}
use Rattle.scope_meaning.specs.Walk.{parameters, region, instances, loop, choice, no_choice, ArePasses, ends_at_test, last_test, pass, ends_in_block}
use Rattle.scope_meaning.specs.Walk.{ends_at_step, IsBlock, block, AreMade, none_left, made, ends_in, IsModule, entered_module, ends_in_header}
use Rattle.walk_numbers.specs.Numbers.{AreNumbered, no_visit, a_scope, a_place, an_instance, a_row}
use Rattle.walk_numbers.proofs.Pieces.{onward, behind, its_constants, its_ports, a_block}

headers : {here : Here} {at to : At} {items : List Item} {vs : Visits} {whole : Bool} → AreHeader here at items vs to whole → here.number < at.next
    → AreNumbered at.next vs to.next
headers no_more h = no_visit
headers ends_at h = a_place no_visit
headers (header {cs = cs} e x) h = a_place (behind (its_constants cs h) (headers x h))

body-number : (here : Here) (m : Module) → (body_scope here m).number ≡ here.number
body-number here m = by (has_header m)
  where
    by : (b : Bool) → (cond b (record here { given = [] }) here).number ≡ here.number
    by true = refl
    by false = refl

mutual
  walked : {design : List Module} {here : Here} {at : At} {items : List Item} {vs : Visits} {to : At} {whole : Bool}
      → AreWalked design here at items vs to whole → here.number < at.next → AreNumbered at.next vs to.next
  walked no_items h = no_visit
  walked ends_before h = no_visit
  walked (goes_on x xs) h = let one = item x h in let up = onward one in behind one (walked xs (omega arith))
  walked (ends_inside x) h = item x h

  item : {design : List Module} {here : Here} {at : At} {a : Item} {l : Layer} {vs : Visits} {to : At} {whole : Bool}
      → IsWalked design here at a l vs to whole → here.number < at.next → AreNumbered at.next vs to.next
  item (comes_to e) h = a_place no_visit
  item (plain e) h = a_place (a_row h no_visit)
  item (parameters {cs = cs} e) h = a_place (a_row h (its_constants cs h))
  item (region x) h = walked x h
  item (instances e x) h = a_place (makes x h)
  item (loop e x) h = a_place (passes x h)
  item (choice e x) h = a_place (blocks x h)
  item (no_choice e) h = a_place no_visit

  passes : {design : List Module} {here : Here} {p : Place} {l : GenLoop} {at : At} {n : ℤ} {vs : Visits} {next : ℕ} {whole : Bool}
      → ArePasses design here p l at n vs next whole → here.number < at.next → AreNumbered at.next vs next
  passes ends_at_test h = a_place no_visit
  passes (last_test e) h = a_place no_visit
  passes (pass e x s r) h = let one = blocks x h in let up = onward one in a_place (behind one (a_place (passes r (omega arith))))
  passes (ends_in_block e x) h = a_place (blocks x h)
  passes (ends_at_step e x) h = a_place (behind (blocks x h) (a_place no_visit))

  blocks : {design : List Module} {here : Here} {at : At} {name : List ℕ} {genvar : Option Constant} {first : ℕ} {items : List Item} {vs : Visits}
      {next : ℕ} {whole : Bool}
      → IsBlock design here at name genvar first items vs next whole → here.number < at.next → AreNumbered at.next vs next
  blocks {here = here} {at = at} {name = name} {genvar = genvar} (block x) h = behind (a_block here at name genvar h) (walked x (omega arith))

  makes : {design : List Module} {here : Here} {at : At} {p : Place} {number : ℕ} {m : Module} {given : List Given} {n : ℕ} {all : List Instance}
      {vs : Visits} {next : ℕ} {whole : Bool}
      → AreMade design here at p number m given n all vs next whole → here.number < n → AreNumbered n vs next
  makes none_left h = no_visit
  makes (made x xs) h = let one = modules x in let up = onward one in a_row h (an_instance (behind one (makes xs (omega arith))))
  makes (ends_in x) h = a_row h (an_instance (modules x))

  modules : {design : List Module} {n : ℕ} {parent : Option ℕ} {path : List ℕ} {above : List (List ℕ)} {given : List Given} {number : ℕ} {m : Module}
      {vs : Visits} {next : ℕ} {whole : Bool}
      → IsModule design n parent path above given number m vs next whole → AreNumbered n vs next
  modules {n = n} {path = path} {above = above} {given = given} {number = number} {m = m} (entered_module {by = by} x xs) =
      let scope : Here = module_scope n path above given number m in
      let front = headers x (omega arith) in
      let up = onward front in
      let same = body-number scope m in
      a_scope refl (behind (behind front (its_ports scope by m.ports)) (walked xs (omega arith)))
  modules (ends_in_header x) = a_scope refl (headers x (omega arith))

-- The first scope has the number 0, and each other one that of the one before it and one more.
pub numbered : {design : List Module} {top : List ℕ} {vs : Visits} {whole : Bool} → (w : IsWalkOf design top vs whole) → AreNumbered 0 vs w.next
numbered w = modules w.walked

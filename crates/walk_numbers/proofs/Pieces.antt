-- Visits that are numbered, one behind the other.
use Rattle.std.proofs.Common.{◌≡◌, ℕ, ◌+◌, ◌<◌, ◌≤◌, List, [], ◌∷◌, ◌++◌, map, Option, Some, None, refl, arith}
use Rattle.vlog_tree.specs.declared.module.Port.{Port}
use Rattle.scope_meaning.specs.Constants.{Constant}
use Rattle.scope_meaning.specs.Scope.{Here, At}
use Rattle.scope_meaning.specs.Visits.{Visits, Visit, has_constant, entered, genvar_visit, ports_seen, sees, a_port}
use Rattle.walk_numbers.specs.Numbers.{AreNumbered, no_visit, a_scope, a_place, an_instance, a_constant, a_row}

-- Numbers never fall.
pub onward : {n m : ℕ} {vs : Visits} → AreNumbered n vs m → n ≤ m
onward no_visit = omega arith
onward (a_scope e x) = let h = onward x in omega arith
onward (a_place x) = onward x
onward (an_instance x) = onward x
onward (a_constant k x) = onward x
onward (a_row k x) = onward x

pub behind : {n m k : ℕ} {vs ws : Visits} → AreNumbered n vs m → AreNumbered m ws k → AreNumbered n (vs ++ ws) k
behind no_visit y = y
behind (a_scope e x) y = a_scope e (behind x y)
behind (a_place x) y = a_place (behind x y)
behind (an_instance x) y = an_instance (behind x y)
behind (a_constant k x) y = a_constant k (behind x y)
behind (a_row k x) y = a_row k (behind x y)

pub its_constants : {n k : ℕ} (cs : List Constant) → k < n → AreNumbered n (map (has_constant k) cs) n
its_constants [] h = no_visit
its_constants (c ∷ cs) h = a_constant h (its_constants cs h)

-- the ports of a module
ports-end : (here : Here) (at : At) → ports_seen here at [] ≡ []
unfolding ports_seen
ports-end here at = refl

pub its_ports : {n : ℕ} (here : Here) (at : At) (ports : List Port) → AreNumbered n (ports_seen here at ports) n
unfolding ports_seen
its_ports here at [] = no_visit
its_ports here at (p ∷ ps) = a_place (its_ports here (record at { earlier = at.earlier ++ p.name ∷ [] }) ps)

-- a generate block that is entered
genvars : (n k : ℕ) (genvar : Option Constant) → k < n → AreNumbered n (genvar_visit k genvar) n
genvars n k None h = no_visit
genvars n k (Some c) h = a_constant h no_visit

pub a_block : (here : Here) (at : At) (name : List ℕ) (genvar : Option Constant) → here.number < at.next
    → AreNumbered at.next (entered here at name genvar) (at.next + 1)
a_block here at name genvar h = a_row h (a_scope refl (genvars (at.next + 1) at.next genvar (omega arith)))

-- What a walk through a design may come to where some things are left to do.
use Rattle.std.specs.Prelude.{◌≡◌, ℕ, ◌+◌, Bool, true, false, List, [], ◌∷◌, ◌++◌, Some, ℤ}
use Rattle.cov_types.specs.declared.place.Place.{Place}
use Rattle.vlog_tree.specs.declared.item.Item.{Item}
use Rattle.vlog_tree.specs.declared.item.Instance.{Instance}
use Rattle.vlog_tree.specs.declared.module.Port.{Port}
use Rattle.vlog_tree.specs.declared.module.Module.{Module}
use Rattle.vlog_tree.specs.Trees.{item_place}
use Rattle.scope_meaning.specs.Scope.{Here, At, Given}
use Rattle.scope_meaning.specs.Heads.{GenLoop, names_in_pass, genvar_value}
use Rattle.scope_meaning.specs.Visits.{Visits, sees, a_turn, past, with_next, ports_seen, past_header, body_scope}
use Rattle.scope_meaning.specs.Walk.{AreHeader, AreWalked, ArePasses, AreMade}

-- What can be left to do: the rest of the header of a module, of its ports, or of the items of a scope; of an item at a
-- place, the passes of a generate loop from a value of its genvar on, or behind the block of a pass, and instances; and
-- behind a scope, the place at which the scope around it goes on.
pub data Task : Type 0 where
  a_header : Here → Module → List Item → Task
  some_ports : Here → Module → List Port → Task
  some_items : Here → List Item → Task
  a_turn_of : Here → At → Item → GenLoop → ℤ → Task
  a_step_of : Here → At → Item → GenLoop → ℤ → Task
  some_instances : Here → At → Item → ℕ → Module → List Given → List Instance → Task
  an_end : At → Task

-- The rest of the ports of a module, and its items.
pub data AreOpened (design : List Module) (here : Here) (m : Module) (at : At) : List Port → Visits → At → Bool → Type 0 where
  opened : {ports : List Port} {vs : Visits} {to : At} {whole : Bool}
      → AreWalked design (body_scope here m) (past_header at ports) m.items vs to whole
      → AreOpened design here m at ports (ports_seen here at ports ++ vs) to whole

-- The rest of the header of a module, its ports and its items.
pub data IsOpened (design : List Module) (here : Here) (m : Module) (at : At) : List Item → Visits → At → Bool → Type 0 where
  header_whole : {items : List Item} {vs ws : Visits} {by to : At} {whole : Bool}
      → AreHeader here at items vs by true → AreOpened design here m by m.ports ws to whole
      → IsOpened design here m at items (vs ++ ws) to whole
  header_cut : {items : List Item} {vs : Visits} {by : At} → AreHeader here at items vs by false → IsOpened design here m at items vs by false

-- The passes of a generate loop behind the block of one.
pub data IsStepped (design : List Module) (here : Here) (p : Place) (l : GenLoop) (at : At) (n : ℤ) : Visits → ℕ → Bool → Type 0 where
  at_step : IsStepped design here p l at n (sees (a_turn p (names_in_pass here at l.name n) l.step) ∷ []) at.next false
  past_step : {k : ℤ} {vs : Visits} {next : ℕ} {whole : Bool}
      → genvar_value (names_in_pass here at l.name n) l.step ≡ Some k → ArePasses design here p l at k vs next whole
      → IsStepped design here p l at n (sees (a_turn p (names_in_pass here at l.name n) l.step) ∷ vs) next whole

-- A scope ends, and the next has its number at the place where the scope around goes on.
pub data IsEnded (at outer : At) : Visits → At → Bool → Type 0 where
  ended : IsEnded at outer [] (with_next outer at.next) true

-- what a walk has behind a place, up to a place with the number of the next scope
pub data Numbered (place : ℕ → At) (walk : Visits → ℕ → Bool → Type 0) : Visits → At → Bool → Type 0 where
  numbered : {vs : Visits} {next : ℕ} {whole : Bool} → walk vs next whole → Numbered place walk vs (place next) whole

-- the place behind an item that makes scopes, by the number of the next scope
abbrev pub behind : At → Item → ℕ → At
behind at a = with_next (past at a [])

-- what a walk has in one task, from a place on
abbrev pub Piece : List Module → Task → At → Visits → At → Bool → Type 0
Piece design (a_header here m items) at = IsOpened design here m at items
Piece design (some_ports here m ports) at = AreOpened design here m at ports
Piece design (some_items here items) at = AreWalked design here at items
Piece design (a_turn_of here place a l n) at = Numbered (behind place a) (ArePasses design here (item_place a) l (with_next place at.next) n)
Piece design (a_step_of here place a l n) at = Numbered (behind place a) (IsStepped design here (item_place a) l (with_next place at.next) n)
Piece design (some_instances here place a number m given made) at =
    Numbered (behind place a) (AreMade design here place (item_place a) number m given at.next made)
Piece design (an_end outer) at = IsEnded at outer

-- What a walk may come to from a place on where these tasks are left, the first of them first: a front of the first, or all
-- of it and what follows. With nothing left it has ended.
pub data Rest (design : List Module) : List Task → At → Visits → Bool → Type 0 where
  at_end : {at : At} → Rest design [] at [] true
  cut : {t : Task} {left : List Task} {at : At} {vs : Visits} (to : At) → Piece design t at vs to false → Rest design (t ∷ left) at vs false
  followed : {t : Task} {left : List Task} {at to : At} (vs : Visits) {ws : Visits} {whole : Bool}
      → Piece design t at vs to true → Rest design left to ws whole → Rest design (t ∷ left) at (vs ++ ws) whole

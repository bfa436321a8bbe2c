-- The walk through a design (IEEE 1364-2005, 12): the items of a scope in text order; at an instance the parameters,
-- ports and items of its module; at a generate construct its chosen blocks. A walk may end before an item or behind what
-- it comes to, so that it reaches each place whatever stands behind it; the `Bool` says whether it is whole.
use Rattle.std.specs.Prelude.{◌≡◌, ℕ, ◌+◌, Bool, true, false, List, [], ◌∷◌, ◌++◌, map, Option, Some, None, ℤ}
use Rattle.cov_types.specs.declared.place.Place.{Place}
use Rattle.vlog_tree.specs.declared.expression.Expr.{Expr}
use Rattle.vlog_tree.specs.declared.item.NamePlace.{NamePlace}
use Rattle.vlog_tree.specs.declared.item.BlockPlaces.{BlockPlaces}
use Rattle.vlog_tree.specs.declared.item.ParamForm.{ParamForm}
use Rattle.vlog_tree.specs.declared.item.ParamName.{ParamName}
use Rattle.vlog_tree.specs.declared.item.Conns.{Conns}
use Rattle.vlog_tree.specs.declared.item.Instance.{Instance}
use Rattle.vlog_tree.specs.declared.item.Item.{Item}
use Rattle.vlog_tree.specs.declared.item.ItemKind.TheOpen as i
use Rattle.vlog_tree.specs.declared.item.GenArm.{GenArm}
use Rattle.vlog_tree.specs.declared.item.GenBody.{GenBody, out-GenBody}
use Rattle.vlog_tree.specs.declared.module.Module.{Module}
use Rattle.vlog_tree.specs.Trees.{Layer, layer, item_place}
use Rattle.scope_meaning.specs.Constants.{Constant}
use Rattle.scope_meaning.specs.Declared.{is_plain, is_region}
use Rattle.scope_meaning.specs.Scope.{Here, At, Given, genvar_constant}
use Rattle.scope_meaning.specs.Overrides.{givens}
use Rattle.scope_meaning.specs.BlockNames.{inside, pass_name, block_name}
use Rattle.scope_meaning.specs.Heads.{names_here, names_in_pass, module_named, constants_of, declared_constants}
use Rattle.scope_meaning.specs.Heads.{test_of, genvar_value, GenLoop, gen_loop, choice_from}
use Rattle.scope_meaning.specs.Visits.{Visits, sees, has_constant, has_row, an_item, a_turn, past, with_next, entered, module_entered}
use Rattle.scope_meaning.specs.Visits.{ports_seen, past_header, module_scope, body_scope, block_scope, names_declared, made_at, start}

-- the parameters of a module's header
pub data AreHeader : Here → At → List Item → Visits → At → Bool → Type 0 where
  no_more : {here : Here} {at : At} → AreHeader here at [] [] at true
  ends_at : {here : Here} {at : At} {a : Item} {items : List Item} → AreHeader here at (a ∷ items) (sees (an_item here at a) ∷ []) at false
  header : {here : Here} {at to : At} {a : Item} {items : List Item} {cs : List Constant} {vs : Visits} {whole : Bool}
      → declared_constants here at (layer a) ≡ Some cs → AreHeader here (past at a cs) items vs to whole
      → AreHeader here at (a ∷ items) (sees (an_item here at a) ∷ map (has_constant here.number) cs ++ vs) to whole

mutual
  -- the items of a scope, from one place to another
  pub data AreWalked (design : List Module) : Here → At → List Item → Visits → At → Bool → Type 0 where
    no_items : {here : Here} {at : At} → AreWalked design here at [] [] at true
    ends_before : {here : Here} {at : At} {items : List Item} → AreWalked design here at items [] at false
    goes_on : {here : Here} {at by to : At} {a : Item} {items : List Item} {vs ws : Visits} {whole : Bool}
        → IsWalked design here at a (layer a) vs by true → AreWalked design here by items ws to whole
        → AreWalked design here at (a ∷ items) (vs ++ ws) to whole
    ends_inside : {here : Here} {at to : At} {a : Item} {items : List Item} {vs : Visits}
        → IsWalked design here at a (layer a) vs to false → AreWalked design here at (a ∷ items) vs to false

  -- one item, by its layer
  pub data IsWalked (design : List Module) : Here → At → Item → Layer → Visits → At → Bool → Type 0 where
    -- The walk comes to a place and may end there.
    comes_to : {here : Here} {at : At} {a : Item} {l : Layer} → is_region l ≡ false → IsWalked design here at a l (sees (an_item here at a) ∷ []) at false
    -- An item that makes no scope and no constant is one row,
    plain : {here : Here} {at : At} {a : Item} {l : Layer} → is_plain l ≡ true
        → IsWalked design here at a l (sees (an_item here at a) ∷ has_row here.number at.item None ∷ []) (past at a []) true
    -- and so is a declaration of parameters, which has their constants.
    parameters : {here : Here} {at : At} {a : Item} {is_local : Bool} {form : ParamForm} {names : List ParamName} {cs : List Constant}
        → constants_of here at is_local form names ≡ Some cs
        → IsWalked design here at a (i.Parameter is_local form names)
        (sees (an_item here at a) ∷ has_row here.number at.item None ∷ map (has_constant here.number) cs) (past at a cs) true
    -- The items of a `generate` region belong to the scope around it.
    region : {here : Here} {at to : At} {a : Item} {items : List Item} {vs : Visits} {whole : Bool}
        → AreWalked design here (record at { item = at.item + 1 }) items vs to whole
        → IsWalked design here at a (i.Generate items) vs to whole
    -- Instances make the scopes of their module.
    instances : {here : Here} {at : At} {a : Item} {of : List ℕ} {params : Conns} {made : List Instance} {number next : ℕ} {m : Module}
        {vs : Visits} {whole : Bool}
        → module_named design of ≡ Some (number, m)
        → AreMade design here at (item_place a) number m (givens (names_here here at) m params) at.next made vs next whole
        → IsWalked design here at a (i.Instances of params made) (sees (an_item here at a) ∷ vs) (with_next (past at a []) next) whole
    -- A generate loop makes its block once per pass.
    loop : {here : Here} {at : At} {a : Item} {name step_name : List ℕ} {from test step : Expr} {label : NamePlace} {places : BlockPlaces}
        {body : List Item} {n : ℤ} {next : ℕ} {vs : Visits} {whole : Bool}
        → genvar_value (names_here here at) from ≡ Some n
        → ArePasses design here (item_place a) (gen_loop name from test step_name step label places body) at n vs next whole
        → IsWalked design here at a (i.Loop name from test step_name step label places body) (sees (an_item here at a) ∷ vs)
        (with_next (past at a []) next) whole
    -- A generate `if` makes the block of its chosen arm,
    choice : {here : Here} {at : At} {a : Item} {arms : List GenArm} {last : Option GenBody} {first next : ℕ} {body : GenBody}
        {vs : Visits} {whole : Bool}
        → choice_from (names_here here at) (at.item + 1) arms last ≡ Some (Some (first, body))
        → IsBlock design here at (block_name (names_declared here) (at.construct + 1) (out-GenBody body).name) None first (out-GenBody body).items vs next whole
        → IsWalked design here at a (i.Choose arms last) (sees (an_item here at a) ∷ vs) (with_next (past at a []) next) whole
    -- or nothing.
    no_choice : {here : Here} {at : At} {a : Item} {arms : List GenArm} {last : Option GenBody}
        → choice_from (names_here here at) (at.item + 1) arms last ≡ Some None
        → IsWalked design here at a (i.Choose arms last) (sees (an_item here at a) ∷ []) (past at a []) true

  -- the passes of a generate loop, its genvar having a value
  pub data ArePasses (design : List Module) : Here → Place → GenLoop → At → ℤ → Visits → ℕ → Bool → Type 0 where
    ends_at_test : {here : Here} {p : Place} {l : GenLoop} {at : At} {n : ℤ}
        → ArePasses design here p l at n (sees (a_turn p (names_in_pass here at l.name n) l.test) ∷ []) at.next false
    last_test : {here : Here} {p : Place} {l : GenLoop} {at : At} {n : ℤ} → test_of (names_in_pass here at l.name n) l.test ≡ Some false
        → ArePasses design here p l at n (sees (a_turn p (names_in_pass here at l.name n) l.test) ∷ []) at.next true
    pass : {here : Here} {p : Place} {l : GenLoop} {at : At} {n k : ℤ} {by next : ℕ} {vs ws : Visits} {whole : Bool}
        → test_of (names_in_pass here at l.name n) l.test ≡ Some true
        → IsBlock design here at (pass_name l.block.name n) (Some (genvar_constant l.name n)) (at.item + 1) l.body vs by true
        → genvar_value (names_in_pass here at l.name n) l.step ≡ Some k → ArePasses design here p l (with_next at by) k ws next whole
        → ArePasses design here p l at n
        (sees (a_turn p (names_in_pass here at l.name n) l.test) ∷ vs ++ sees (a_turn p (names_in_pass here at l.name n) l.step) ∷ ws) next whole
    ends_in_block : {here : Here} {p : Place} {l : GenLoop} {at : At} {n : ℤ} {next : ℕ} {vs : Visits}
        → test_of (names_in_pass here at l.name n) l.test ≡ Some true
        → IsBlock design here at (pass_name l.block.name n) (Some (genvar_constant l.name n)) (at.item + 1) l.body vs next false
        → ArePasses design here p l at n (sees (a_turn p (names_in_pass here at l.name n) l.test) ∷ vs) next false
    ends_at_step : {here : Here} {p : Place} {l : GenLoop} {at : At} {n : ℤ} {next : ℕ} {vs : Visits}
        → test_of (names_in_pass here at l.name n) l.test ≡ Some true
        → IsBlock design here at (pass_name l.block.name n) (Some (genvar_constant l.name n)) (at.item + 1) l.body vs next true
        → ArePasses design here p l at n
        (sees (a_turn p (names_in_pass here at l.name n) l.test) ∷ vs ++ sees (a_turn p (names_in_pass here at l.name n) l.step) ∷ []) next false

  -- a generate block, entered at a place; a genvar's value is its first constant
  pub data IsBlock (design : List Module) : Here → At → List ℕ → Option Constant → ℕ → List Item → Visits → ℕ → Bool → Type 0 where
    block : {here : Here} {at to : At} {name : List ℕ} {genvar : Option Constant} {first : ℕ} {items : List Item} {vs : Visits} {whole : Bool}
        → AreWalked design (block_scope here at name genvar items) (start at.next first) items vs to whole
        → IsBlock design here at name genvar first items (entered here at name genvar ++ vs) to.next whole

  -- instances of a module, one after the other; the next scope has this number before them and that one behind them
  pub data AreMade (design : List Module) : Here → At → Place → ℕ → Module → List Given → ℕ → List Instance → Visits → ℕ → Bool → Type 0 where
    none_left : {here : Here} {at : At} {p : Place} {number : ℕ} {m : Module} {given : List Given} {n : ℕ}
        → AreMade design here at p number m given n [] [] n true
    made : {here : Here} {at : At} {p : Place} {number : ℕ} {m : Module} {given : List Given} {n by next : ℕ} {a : Instance} {more : List Instance}
        {vs ws : Visits} {whole : Bool}
        → IsModule design n (Some here.number) (inside here.path a.name.name) here.above given number m vs by true
        → AreMade design here at p number m given by more ws next whole
        → AreMade design here at p number m given n (a ∷ more) (made_at here at p n m a ++ vs ++ ws) next whole
    ends_in : {here : Here} {at : At} {p : Place} {number : ℕ} {m : Module} {given : List Given} {n next : ℕ} {a : Instance} {more : List Instance}
        {vs : Visits}
        → IsModule design n (Some here.number) (inside here.path a.name.name) here.above given number m vs next false
        → AreMade design here at p number m given n (a ∷ more) (made_at here at p n m a ++ vs) next false

  -- a module with these values for its parameters, as the scope of a number
  pub data IsModule (design : List Module) : ℕ → Option ℕ → List ℕ → List (List ℕ) → List Given → ℕ → Module → Visits → ℕ → Bool → Type 0 where
    entered_module : {n number : ℕ} {parent : Option ℕ} {path : List ℕ} {above : List (List ℕ)} {given : List Given} {m : Module} {by to : At}
        {vs ws : Visits} {whole : Bool}
        → AreHeader (module_scope n path above given number m) (start n 0) m.params vs by true
        → AreWalked design (body_scope (module_scope n path above given number m) m) (past_header by m.ports) m.items ws to whole
        → IsModule design n parent path above given number m
        (module_entered n parent path number m ++ vs ++ ports_seen (module_scope n path above given number m) by m.ports ++ ws) to.next whole
    ends_in_header : {n number : ℕ} {parent : Option ℕ} {path : List ℕ} {above : List (List ℕ)} {given : List Given} {m : Module} {by : At} {vs : Visits}
        → AreHeader (module_scope n path above given number m) (start n 0) m.params vs by false
        → IsModule design n parent path above given number m (module_entered n parent path number m ++ vs) by.next false

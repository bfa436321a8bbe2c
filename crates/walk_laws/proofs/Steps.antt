-- How a walk goes on from one place to the next in a scope: what follows from what is left behind a step follows, with the
-- visits of the step in front, from what was left before it.
use Rattle.std.proofs.Common.{◌≡◌, ℕ, ◌+◌, Bool, true, false, List, [], ◌∷◌, ◌++◌, Option, Some, None, subst, sym, ap, ◌∙◌, ℤ, append_assoc}
use Rattle.cov_types.specs.declared.place.Place.{Place}
use Rattle.vlog_tree.specs.declared.expression.Expr.{Expr}
use Rattle.vlog_tree.specs.declared.item.NamePlace.{NamePlace}
use Rattle.vlog_tree.specs.declared.item.BlockPlaces.{BlockPlaces}
use Rattle.vlog_tree.specs.declared.item.Conns.{Conns}
use Rattle.vlog_tree.specs.declared.item.Instance.{Instance}
use Rattle.vlog_tree.specs.declared.item.Item.{Item}
use Rattle.vlog_tree.specs.declared.item.ItemKind.TheOpen as i
use Rattle.vlog_tree.specs.declared.item.GenArm.{GenArm}
use Rattle.vlog_tree.specs.declared.item.GenBody.{GenBody, out-GenBody}
use Rattle.vlog_tree.specs.declared.module.Module.{Module}
use Rattle.vlog_tree.specs.Trees.{Layer, layer, item_place}
use Rattle.scope_meaning.specs.Constants.{Constant}
use Rattle.scope_meaning.specs.Declared.{is_region}
use Rattle.scope_meaning.specs.Scope.{Here, At, genvar_constant}
use Rattle.scope_meaning.specs.Overrides.{givens}
use Rattle.scope_meaning.specs.BlockNames.{pass_name, block_name}
use Rattle.scope_meaning.specs.Heads.{GenLoop, gen_loop, names_here, names_in_pass, module_named, choice_from, test_of, genvar_value}
use Rattle.scope_meaning.specs.Visits.{Visit, Visits, sees, an_item, a_turn, past, with_next, entered, block_scope, names_declared, start}
use Rattle.scope_meaning.specs.Walk.{AreWalked, no_items, ends_before, goes_on, ends_inside, IsWalked, comes_to, region, instances, loop, choice}
use Rattle.scope_meaning.specs.Walk.{AreMade, ArePasses, ends_at_test, last_test, pass, ends_in_block, ends_at_step, IsBlock, block}
use Rattle.walk_laws.specs.Rest.{Task, some_items, a_turn_of, a_step_of, some_instances, an_end, IsStepped, at_step, past_step, ended}
use Rattle.walk_laws.specs.Rest.{Numbered, numbered, behind, Piece, Rest, cut, followed}
use Rattle.walk_laws.proofs.Thens.{Cut, Then, opens, two_in_front, one_task, two_tasks, of_numbered, ended_behind}

-- ---- items

-- No item is left.
pub behind_items : {design : List Module} {here : Here} {at : At} {left : List Task} {ws : Visits} {w : Bool}
    → Rest design left at ws w → Rest design (some_items here [] ∷ left) at ws w
behind_items r = followed [] no_items r

-- The walk may end before an item,
pub before_items : {design : List Module} {here : Here} {at : At} {items : List Item} {left : List Task}
    → Rest design (some_items here items ∷ left) at [] false
before_items {at = at} = cut at ends_before

-- and at one.
pub at_item : {design : List Module} {here : Here} {at : At} {a : Item} {items : List Item} {left : List Task}
    → is_region (layer a) ≡ false → Rest design (some_items here (a ∷ items) ∷ left) at (sees (an_item here at a) ∷ []) false
at_item {at = at} e = cut at (ends_inside (comes_to e))

-- An item is walked whole.
pub past_item : {design : List Module} {here : Here} {at by : At} {a : Item} {items : List Item} {left : List Task} {vs ws : Visits} {w : Bool}
    → IsWalked design here at a (layer a) vs by true → Rest design (some_items here items ∷ left) by ws w
    → Rest design (some_items here (a ∷ items) ∷ left) at (vs ++ ws) w
past_item {vs = vs} x r = one_task vs (λ us to w y. goes_on x y) r

-- The items of a region come before those behind it.
pub into_region : {design : List Module} {here : Here} {at : At} {a : Item} {inner items : List Item} {left : List Task} {ws : Visits} {w : Bool}
    → layer a ≡ i.Generate inner → Rest design (some_items here inner ∷ some_items here items ∷ left) (record at { item = at.item + 1 }) ws w
    → Rest design (some_items here (a ∷ items) ∷ left) at ws w
into_region {design} {here} {at} {a} {inner} {items} e r =
    let in_it : (vs : Visits) (to : At) (w : Bool) → AreWalked design here (record at { item = at.item + 1 }) inner vs to w
    → IsWalked design here at a (layer a) vs to w = λ vs to w x. subst (λ (l : Layer). IsWalked design here at a l vs to w) (sym e) (region x) in
    two_tasks {one = AreWalked design here (record at { item = at.item + 1 }) inner} (some_items here items) []
    (λ vs to x. (to, ends_inside (in_it vs to false x)))
    (λ vs us by to w x y. goes_on (in_it vs by true x) y) (opens r)

-- What an item makes comes between it and the items behind it.
pub into_item : {design : List Module} {here : Here} {at : At} {a : Item} {items : List Item} {left : List Task} {ws : Visits} {w : Bool}
    {new : Visits → ℕ → Bool → Type 0}
    → ((vs : Visits) (next : ℕ) (whole : Bool) → new vs next whole
    → IsWalked design here at a (layer a) (sees (an_item here at a) ∷ vs) (behind at a next) whole)
    → Then (Numbered (behind at a) new) (Rest design (some_items here items ∷ left)) ws w
    → Rest design (some_items here (a ∷ items) ∷ left) at (sees (an_item here at a) ∷ ws) w
into_item {design} {here} {at} {a} {items} {new = new} f r =
    let made : (vs : Visits) (to : At) (w : Bool) → Numbered (behind at a) new vs to w
    → IsWalked design here at a (layer a) (sees (an_item here at a) ∷ vs) to w =
    of_numbered (behind at a) new (λ vs to w. IsWalked design here at a (layer a) (sees (an_item here at a) ∷ vs) to w) f in
    two_tasks {one = Numbered (behind at a) new} (some_items here items) (sees (an_item here at a) ∷ [])
    (λ vs to x. (to, ends_inside (made vs to false x)))
    (λ vs us by to w x y. goes_on (made vs by true x) y) r

-- Its instances,
pub into_instances : {design : List Module} {here : Here} {at : At} {a : Item} {items : List Item} {left : List Task} {ws : Visits} {w : Bool}
    {of : List ℕ} {params : Conns} {made : List Instance} {number : ℕ} {m : Module}
    → layer a ≡ i.Instances of params made → module_named design of ≡ Some (number, m)
    → Rest design (some_instances here at a number m (givens (names_here here at) m params) made ∷ some_items here items ∷ left) at ws w
    → Rest design (some_items here (a ∷ items) ∷ left) at (sees (an_item here at a) ∷ ws) w
into_instances {design} {here} {at} {a} {items} {left} {of = of} {params = params} {made = made} {number = number} {m = m} e found r =
    into_item {new = AreMade design here at (item_place a) number m (givens (names_here here at) m params) at.next made}
    (λ vs next w x. subst (λ (l : Layer). IsWalked design here at a l (sees (an_item here at a) ∷ vs) (behind at a next) w) (sym e)
    (instances found x)) (opens r)

-- the passes of a generate loop,
pub into_loop : {design : List Module} {here : Here} {at : At} {a : Item} {items : List Item} {left : List Task} {ws : Visits} {w : Bool}
    {name step_name : List ℕ} {from test step : Expr} {label : NamePlace} {places : BlockPlaces} {body : List Item} {n : ℤ}
    → layer a ≡ i.Loop name from test step_name step label places body → genvar_value (names_here here at) from ≡ Some n
    → Rest design (a_turn_of here at a (gen_loop name from test step_name step label places body) n ∷ some_items here items ∷ left) at ws w
    → Rest design (some_items here (a ∷ items) ∷ left) at (sees (an_item here at a) ∷ ws) w
into_loop {design} {here} {at} {a} {items} {left} {name = name} {step_name = step_name} {from = from} {test = test} {step = step} {label = label}
    {places = places}
    {body = body} {n = n} e value r =
    into_item {new = ArePasses design here (item_place a) (gen_loop name from test step_name step label places body) at n}
    (λ vs next w x. subst (λ (l : Layer). IsWalked design here at a l (sees (an_item here at a) ∷ vs) (behind at a next) w) (sym e) (loop value x)) (opens r)

-- A scope ends.
pub behind_scope : {design : List Module} {at outer : At} {left : List Task} {ws : Visits} {w : Bool}
    → Rest design left (with_next outer at.next) ws w → Rest design (an_end outer ∷ left) at ws w
behind_scope r = followed [] ended r

-- A generate block is entered.
pub into_block : {design : List Module} {here : Here} {at outer : At} {name : List ℕ} {genvar : Option Constant} {first : ℕ} {items : List Item}
    {left : List Task}
    {ws : Visits} {w : Bool}
    → Rest design (some_items (block_scope here at name genvar items) items ∷ an_end outer ∷ left) (start at.next first) ws w
    → Then (Numbered (with_next outer) (IsBlock design here at name genvar first items)) (Rest design left) (entered here at name genvar ++ ws) w
into_block {design} {here} {at} {outer} {name} {genvar} {first} {items} {left} r =
    two_in_front {piece = Numbered (with_next outer) (IsBlock design here at name genvar first items)}
    {one = AreWalked design (block_scope here at name genvar items) (start at.next first) items}
    (λ by. Piece design (an_end outer) by) {next = Rest design (an_end outer ∷ left)} {rest = Rest design left} (entered here at name genvar)
    (λ by us w x. opens x)
    (λ vs to x. (with_next outer to.next, numbered (block x)))
    (λ vs us by to w x y. ended_behind (IsBlock design here at name genvar first items) (entered here at name genvar) vs by outer (block x) us to w y) (opens r)

-- and the block of the chosen arm of a generate `if`.
pub into_choice : {design : List Module} {here : Here} {at : At} {a : Item} {items : List Item} {left : List Task} {ws : Visits} {w : Bool}
    {arms : List GenArm} {last : Option GenBody} {first : ℕ} {body : GenBody} {name : List ℕ}
    → layer a ≡ i.Choose arms last → choice_from (names_here here at) (at.item + 1) arms last ≡ Some (Some (first, body))
    → name ≡ block_name (names_declared here) (at.construct + 1) (out-GenBody body).name
    → Rest design (some_items (block_scope here at name None (out-GenBody body).items) (out-GenBody body).items ∷ an_end (past at a [])
    ∷ some_items here items ∷ left)
    (start at.next first) ws w
    → Rest design (some_items here (a ∷ items) ∷ left) at (sees (an_item here at a) ∷ (entered here at name None ++ ws)) w
into_choice {design} {here} {at} {a} {items} {left} {ws} {w} {arms = arms} {last = last} {first = first} {body = body} {name = name} e chosen named r =
    into_item {new = IsBlock design here at name None first (out-GenBody body).items}
    (λ vs next w x. subst (λ (l : Layer). IsWalked design here at a l (sees (an_item here at a) ∷ vs) (behind at a next) w) (sym e)
    (choice chosen (subst (λ (n : List ℕ). IsBlock design here at n None first (out-GenBody body).items vs next w) named x)))
    (into_block {outer = past at a []} r)

-- ---- passes of a generate loop

-- a turn is seen at the test, or the step, of a loop
abbrev pub test_seen : Here → At → Item → GenLoop → ℤ → Visit
test_seen here place a l n = sees (a_turn (item_place a) (names_in_pass here place l.name n) l.test)

abbrev pub step_seen : Here → At → Item → GenLoop → ℤ → Visit
step_seen here place a l n = sees (a_turn (item_place a) (names_in_pass here place l.name n) l.step)

-- The walk may end at the test of a turn,
pub at_turn : {design : List Module} {here : Here} {at place : At} {a : Item} {l : GenLoop} {n : ℤ} {left : List Task}
    → Rest design (a_turn_of here place a l n ∷ left) at (test_seen here place a l n ∷ []) false
at_turn {at = at} {place = place} {a = a} = cut (behind place a at.next) (numbered ends_at_test)

-- and at its step.
pub at_step_of : {design : List Module} {here : Here} {at place : At} {a : Item} {l : GenLoop} {n : ℤ} {left : List Task}
    → Rest design (a_step_of here place a l n ∷ left) at (step_seen here place a l n ∷ []) false
at_step_of {at = at} {place = place} {a = a} = cut (behind place a at.next) (numbered at_step)

-- The test fails, and the loop ends;
pub past_loop : {design : List Module} {here : Here} {at place : At} {a : Item} {l : GenLoop} {n : ℤ} {left : List Task} {ws : Visits} {w : Bool}
    → test_of (names_in_pass here place l.name n) l.test ≡ Some false → Rest design left (behind place a at.next) ws w
    → Rest design (a_turn_of here place a l n ∷ left) at (test_seen here place a l n ∷ ws) w
past_loop {here = here} {place = place} {a = a} {l = l} {n = n} e r = followed (test_seen here place a l n ∷ []) (numbered (last_test e)) r

-- it holds, and the block of a pass is entered;
abbrev IsPassBlock : List Module → Here → GenLoop → ℤ → List ℕ → At → Visits → ℕ → Bool → Type 0
IsPassBlock design here l n name at = IsBlock design here at name (Some (genvar_constant l.name n)) (at.item + 1) l.body

its_block : {design : List Module} {here : Here} {at : At} (l : GenLoop) (n : ℤ) {name : List ℕ} {vs : Visits} {next : ℕ} {w : Bool}
    → name ≡ pass_name l.block.name n → IsPassBlock design here l n name at vs next w → IsPassBlock design here l n (pass_name l.block.name n) at vs next w
its_block {design} {here} {at} l n {name} {vs} {next} {w} named b = subst (λ (m : List ℕ). IsPassBlock design here l n m at vs next w) named b

pass_cut : {design : List Module} {here : Here} (place at : At) (a : Item) (l : GenLoop) (n : ℤ) {name : List ℕ} {vs : Visits} {to : At}
    → test_of (names_in_pass here place l.name n) l.test ≡ Some true → name ≡ pass_name l.block.name n
    → Numbered (behind place a) (IsPassBlock design here l n name (with_next place at.next)) vs to false
    → Cut (Piece design (a_turn_of here place a l n) at) (test_seen here place a l n ∷ vs)
pass_cut place at a l n e named (numbered {next = next} b) = (behind place a next, numbered (ends_in_block e (its_block l n named b)))

pass_stepped : {design : List Module} {here : Here} {at : At} {p : Place} (l : GenLoop) (n : ℤ) {k : ℕ} {vs : Visits}
    → test_of (names_in_pass here at l.name n) l.test ≡ Some true → IsPassBlock design here l n (pass_name l.block.name n) at vs k true
    → {us : Visits} {next : ℕ} {w : Bool} → IsStepped design here p l (with_next at k) n us next w
    → ArePasses design here p l at n (sees (a_turn p (names_in_pass here at l.name n) l.test) ∷ (vs ++ us)) next w
pass_stepped l n e b at_step = ends_at_step e b
pass_stepped l n e b (past_step f r) = pass e b f r

pass_whole : {design : List Module} {here : Here} (place at : At) (a : Item) (l : GenLoop) (n : ℤ) {name : List ℕ} {vs us : Visits} {by to : At} {w : Bool}
    → test_of (names_in_pass here place l.name n) l.test ≡ Some true → name ≡ pass_name l.block.name n
    → Numbered (behind place a) (IsPassBlock design here l n name (with_next place at.next)) vs by true
    → Piece design (a_step_of here place a l n) by us to w
    → Piece design (a_turn_of here place a l n) at (test_seen here place a l n ∷ (vs ++ us)) to w
pass_whole place at a l n e named (numbered b) (numbered s) = numbered (pass_stepped l n e (its_block l n named b) s)

pub into_pass : {design : List Module} {here : Here} {at place : At} {a : Item} {l : GenLoop} {n : ℤ} {left : List Task} {ws : Visits} {w : Bool}
    {name : List ℕ}
    → test_of (names_in_pass here place l.name n) l.test ≡ Some true → name ≡ pass_name l.block.name n
    → Rest design
    (some_items (block_scope here (with_next place at.next) name (Some (genvar_constant l.name n)) l.body) l.body
    ∷ an_end (past place a []) ∷ a_step_of here place a l n ∷ left)
    (start at.next (place.item + 1)) ws w
    → Rest design (a_turn_of here place a l n ∷ left) at
    (test_seen here place a l n ∷ (entered here (with_next place at.next) name (Some (genvar_constant l.name n)) ++ ws)) w
into_pass {design} {here} {at} {place} {a} {l} {n} {name = name} e named r =
    two_tasks {one = Numbered (behind place a) (IsPassBlock design here l n name (with_next place at.next))} (a_step_of here place a l n)
    (test_seen here place a l n ∷ [])
    (λ vs to x. pass_cut place at a l n e named x)
    (λ vs us by to w x y. pass_whole place at a l n e named x y)
    (into_block {at = with_next place at.next} {outer = past place a []} r)

-- the step is made, and the next turn comes.
pub past_step_of : {design : List Module} {here : Here} {at place : At} {a : Item} {l : GenLoop} {n k : ℤ} {left : List Task} {ws : Visits} {w : Bool}
    → genvar_value (names_in_pass here place l.name n) l.step ≡ Some k → Rest design (a_turn_of here place a l k ∷ left) at ws w
    → Rest design (a_step_of here place a l n ∷ left) at (step_seen here place a l n ∷ ws) w
past_step_of {design} {here} {at} {place} {a} {l} {n} {k} e r =
    one_task (step_seen here place a l n ∷ [])
    (of_numbered (behind place a) (ArePasses design here (item_place a) l (with_next place at.next) k)
    (λ vs to w. Piece design (a_step_of here place a l n) at (step_seen here place a l n ∷ vs) to w)
    (λ vs next w x. numbered (past_step e x))) r

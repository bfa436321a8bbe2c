-- How a walk goes on in the instances and modules of a design, and where it begins and ends.
use Rattle.std.proofs.Common.{◌≡◌, ℕ, Bool, true, false, List, [], ◌∷◌, ◌++◌, map, Option, Some, None, subst, sym, ap, ◌∙◌, append_assoc, append-nil}
use Rattle.vlog_tree.specs.declared.item.Instance.{Instance}
use Rattle.vlog_tree.specs.declared.item.Item.{Item}
use Rattle.vlog_tree.specs.declared.module.Port.{Port}
use Rattle.vlog_tree.specs.declared.module.Module.{Module}
use Rattle.vlog_tree.specs.Trees.{layer, item_place}
use Rattle.scope_meaning.specs.Constants.{Constant}
use Rattle.scope_meaning.specs.Scope.{Here, At, Given}
use Rattle.scope_meaning.specs.BlockNames.{inside}
use Rattle.scope_meaning.specs.Heads.{module_named, declared_constants}
use Rattle.scope_meaning.specs.Visits.{Visits, sees, has_constant, an_item, a_port, past, with_next, made_at, module_entered, module_scope}
use Rattle.scope_meaning.specs.Visits.{body_scope, ports_seen, past_header, start}
use Rattle.scope_meaning.specs.Walk.{AreHeader, no_more, ends_at, header, AreWalked, ends_before, AreMade, none_left, made, ends_in, IsModule}
use Rattle.scope_meaning.specs.Walk.{entered_module, ends_in_header}
use Rattle.scope_meaning.specs.ScopeTrees.{IsWalkOf}
use Rattle.walk_laws.specs.Rest.{Task, a_header, some_ports, some_items, some_instances, an_end, AreOpened, opened, IsOpened, header_whole, header_cut}
use Rattle.walk_laws.specs.Rest.{Numbered, numbered, behind, Piece, Rest, cut, followed, at_end}
use Rattle.walk_laws.proofs.Thens.{Cut, Then, opens, two_in_front, one_task, two_tasks, ended_behind}

-- ---- the header and ports of a module

-- The walk may end at a parameter of a header.
pub at_parameter : {design : List Module} {here : Here} {m : Module} {at : At} {a : Item} {items : List Item} {left : List Task}
    → Rest design (a_header here m (a ∷ items) ∷ left) at (sees (an_item here at a) ∷ []) false
at_parameter {at = at} = cut at (header_cut ends_at)

-- One is walked whole.
with_parameter : {design : List Module} {here : Here} {m : Module} {at : At} {a : Item} {items : List Item} {cs : List Constant}
    → declared_constants here at (layer a) ≡ Some cs
    → (vs : Visits) (to : At) (w : Bool) → IsOpened design here m (past at a cs) items vs to w
    → IsOpened design here m at (a ∷ items) ((sees (an_item here at a) ∷ map (has_constant here.number) cs) ++ vs) to w
with_parameter {design} {here} {m} {at} {a} {items} {cs} e vs to w (header_whole {vs = us} {ws = zs} h o) =
    let front : Visits = sees (an_item here at a) ∷ map (has_constant here.number) cs in
    subst (λ (v : Visits). IsOpened design here m at (a ∷ items) v to w) (append_assoc front us zs) (header_whole (header e h) o)
with_parameter e vs to w (header_cut h) = header_cut (header e h)

pub past_parameter : {design : List Module} {here : Here} {m : Module} {at : At} {a : Item} {items : List Item} {cs : List Constant}
    {left : List Task} {ws : Visits} {w : Bool}
    → declared_constants here at (layer a) ≡ Some cs → Rest design (a_header here m items ∷ left) (past at a cs) ws w
    → Rest design (a_header here m (a ∷ items) ∷ left) at (sees (an_item here at a) ∷ (map (has_constant here.number) cs ++ ws)) w
past_parameter {here = here} {at = at} {a = a} {cs = cs} e r =
    one_task (sees (an_item here at a) ∷ map (has_constant here.number) cs) (with_parameter e) r

-- No parameter is left, and the ports come.
pub behind_header : {design : List Module} {here : Here} {m : Module} {at : At} {left : List Task} {ws : Visits} {w : Bool}
    → Rest design (some_ports here m m.ports ∷ left) at ws w → Rest design (a_header here m [] ∷ left) at ws w
behind_header r = one_task [] (λ vs to w o. header_whole no_more o) r

-- The walk may end behind a port, and so at one.
pub at_port : {design : List Module} {here : Here} {m : Module} {at : At} {ports : List Port} {left : List Task}
    → Rest design (some_ports here m ports ∷ left) at (ports_seen here at ports) false
at_port {design} {here} {m} {at} {ports} {left} =
    subst (λ (vs : Visits). Rest design (some_ports here m ports ∷ left) at vs false) (append-nil (ports_seen here at ports)) (cut
    (past_header at ports) (opened ends_before))

-- A port is seen.
with_port : {design : List Module} {here : Here} {m : Module} {at : At} {p : Port} {ports : List Port}
    → (vs : Visits) (to : At) (w : Bool) → AreOpened design here m (record at { earlier = at.earlier ++ p.name ∷ [] }) ports vs to w
    → AreOpened design here m at (p ∷ ports) (sees (a_port here at p) ∷ vs) to w
unfolding ports_seen
with_port {design} {here} {m} {at} {p} {ports} vs to w (opened {vs = us} x) =
    opened (subst (λ (names : List (List ℕ)). AreWalked design (body_scope here m) (record at { item = 0; earlier = names }) m.items us to w)
    (append_assoc at.earlier (p.name ∷ []) (map (λ (q : Port). q.name) ports)) x)

pub past_port : {design : List Module} {here : Here} {m : Module} {at : At} {p : Port} {ports : List Port} {left : List Task} {ws : Visits} {w : Bool}
    → Rest design (some_ports here m ports ∷ left) (record at { earlier = at.earlier ++ p.name ∷ [] }) ws w
    → Rest design (some_ports here m (p ∷ ports) ∷ left) at (sees (a_port here at p) ∷ ws) w
past_port {here = here} {at = at} {p = p} r = one_task (sees (a_port here at p) ∷ []) with_port r

-- No port is left, and the items of the module come.
without_ports : {design : List Module} {here : Here} {m : Module} {at : At}
    → (vs : Visits) (to : At) (w : Bool) → AreWalked design (body_scope here m) (record at { item = 0 }) m.items vs to w → AreOpened design here m at [] vs to w
unfolding ports_seen
without_ports {design} {here} {m} {at} vs to w x =
    opened (subst (λ (names : List (List ℕ)). AreWalked design (body_scope here m) (record at { item = 0; earlier = names }) m.items vs to w)
    (sym (append-nil at.earlier)) x)

pub behind_ports : {design : List Module} {here : Here} {m : Module} {at : At} {left : List Task} {ws : Visits} {w : Bool}
    → Rest design (some_items (body_scope here m) m.items ∷ left) (record at { item = 0 }) ws w → Rest design (some_ports here m [] ∷ left) at ws w
behind_ports r = one_task [] without_ports r

-- The walk may end in a header or behind it, wherever it stands.
pub in_header : {design : List Module} {here : Here} {m : Module} {at : At} (items : List Item) {left : List Task}
    → (after : Visits) × Rest design (a_header here m items ∷ left) at after false
in_header {design} {here} {m} {at} [] = (ports_seen here at m.ports ++ [], cut (past_header at m.ports) (header_whole no_more (opened ends_before)))
in_header {design} {here} {m} {at} (a ∷ items) = (sees (an_item here at a) ∷ [], cut at (header_cut ends_at))

-- ---- modules and instances

-- a module is entered
of_ports : {design : List Module} {n number : ℕ} {parent : Option ℕ} {path : List ℕ} {above : List (List ℕ)} {given : List Given} {m : Module}
    {by : At} {vs ws : Visits} {to : At} {w : Bool}
    → AreHeader (module_scope n path above given number m) (start n 0) m.params vs by true
    → AreOpened design (module_scope n path above given number m) m by m.ports ws to w
    → IsModule design n parent path above given number m (module_entered n parent path number m ++ (vs ++ ws)) to.next w
of_ports {design} {n} {number} {parent} {path} {above} {given} {m} {by} {vs = vs} {w = w} h (opened {vs = ws} {to = to} x) =
    subst (λ (us : Visits). IsModule design n parent path above given number m (module_entered n parent path number m ++ us) to.next w)
    (append_assoc vs (ports_seen (module_scope n path above given number m) by m.ports) ws) (entered_module h x)

of_module : {design : List Module} {n number : ℕ} {parent : Option ℕ} {path : List ℕ} {above : List (List ℕ)} {given : List Given} {m : Module}
    {vs : Visits} {to : At} {w : Bool}
    → IsOpened design (module_scope n path above given number m) m (start n 0) m.params vs to w
    → IsModule design n parent path above given number m (module_entered n parent path number m ++ vs) to.next w
of_module (header_whole h o) = of_ports h o
of_module (header_cut h) = ends_in_header h

into_module : {design : List Module} {n number : ℕ} {parent : Option ℕ} {path : List ℕ} {above : List (List ℕ)} {given : List Given} {m : Module} (outer : At)
    {left : List Task} {ws : Visits} {w : Bool}
    → Rest design (a_header (module_scope n path above given number m) m m.params ∷ an_end outer ∷ left) (start n 0) ws w
    → Then (Numbered (with_next outer) (IsModule design n parent path above given number m)) (Rest design left) (module_entered n parent path number m ++ ws) w
into_module {design} {n} {number} {parent} {path} {above} {given} {m} outer {left} r =
    let scope : Here = module_scope n path above given number m in
    two_in_front {piece = Numbered (with_next outer) (IsModule design n parent path above given number m)}
    {one = IsOpened design scope m (start n 0) m.params}
    (λ by. Piece design (an_end outer) by) {next = Rest design (an_end outer ∷ left)} {rest = Rest design left} (module_entered n parent path number m)
    (λ by us w x. opens x)
    (λ vs to x. (with_next outer to.next, numbered (of_module x)))
    (λ vs us by to w x y. ended_behind (IsModule design n parent path above given number m) (module_entered n parent path number m) vs by outer
    (of_module x) us to w y)
    (opens r)

-- No instance of an item is left.
pub behind_instances : {design : List Module} {here : Here} {at place : At} {a : Item} {number : ℕ} {m : Module} {given : List Given}
    {left : List Task} {ws : Visits} {w : Bool}
    → Rest design left (behind place a at.next) ws w → Rest design (some_instances here place a number m given [] ∷ left) at ws w
behind_instances r = followed [] (numbered none_left) r

-- An instance makes the scope of its module.
abbrev IsInstance : List Module → Here → ℕ → Module → List Given → Instance → At → Visits → ℕ → Bool → Type 0
IsInstance design here number m given one at =
    IsModule design at.next (Some here.number) (inside here.path one.name.name) here.above given number m

instance_cut : {design : List Module} {here : Here} (at : At) {place : At} (a : Item) {number : ℕ} {m : Module} {given : List Given} {one : Instance}
    {more : List Instance} {vs : Visits} {to : At}
    → Numbered (behind place a) (IsInstance design here number m given one at) vs to false
    → Cut (Piece design (some_instances here place a number m given (one ∷ more)) at) (made_at here place (item_place a) at.next m one ++ vs)
instance_cut at {place} a (numbered {next = next} x) = (behind place a next, numbered (ends_in x))

instance_whole : {design : List Module} {here : Here} (at : At) {place : At} (a : Item) {number : ℕ} {m : Module} {given : List Given} {one : Instance}
    {more : List Instance} {vs us : Visits} {by to : At} {w : Bool}
    → Numbered (behind place a) (IsInstance design here number m given one at) vs by true
    → Piece design (some_instances here place a number m given more) by us to w
    → Piece design (some_instances here place a number m given (one ∷ more)) at (made_at here place (item_place a) at.next m one ++ (vs ++ us)) to w
instance_whole at a (numbered x) (numbered y) = numbered (made x y)

pub into_instance : {design : List Module} {here : Here} {at place : At} {a : Item} {number : ℕ} {m : Module} {given : List Given} {one : Instance}
    {more : List Instance}
    {left : List Task} {ws : Visits} {w : Bool}
    → Rest design
    (a_header (module_scope at.next (inside here.path one.name.name) here.above given number m) m m.params
    ∷ an_end (past place a []) ∷ some_instances here place a number m given more ∷ left)
    (start at.next 0) ws w
    → Rest design (some_instances here place a number m given (one ∷ more) ∷ left) at
    (made_at here place (item_place a) at.next m one
    ++ (module_entered at.next (Some here.number) (inside here.path one.name.name) number m ++ ws)) w
into_instance {design} {here} {at} {place} {a} {number} {m} {given} {one} {more} r =
    two_tasks {one = Numbered (behind place a) (IsInstance design here number m given one at)} (some_instances here place a number m given more)
    (made_at here place (item_place a) at.next m one)
    (λ vs to x. instance_cut at a x)
    (λ vs us by to w x y. instance_whole at a x y)
    (into_module (past place a []) r)

-- ---- the whole walk

-- It begins with the top.
pub begins : {design : List Module} {top : List ℕ} {number : ℕ} {m : Module} {ws : Visits} {w : Bool}
    → module_named design top ≡ Some (number, m) → Rest design (a_header (module_scope 0 top [] [] number m) m m.params ∷ []) (start 0 0) ws w
    → IsWalkOf design top (module_entered 0 None top number m ++ ws) w
begins {number = number} {m = m} found (cut to p) = record { number = number; top_module = m; next = to.next; found = found; walked = of_module p }
begins {design} {top} {number} {m} found (followed {to = to} vs p at_end) =
    record {
      number = number;
      top_module = m;
      next = to.next;
      found = found;
      walked = subst (λ (us : Visits). IsModule design 0 None top [] [] number m (module_entered 0 None top number m ++ us) to.next true)
          (sym (append-nil vs)) (of_module p);
    }

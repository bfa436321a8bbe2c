-- How the state of a walk follows from the one before it.
use Rattle.std.proofs.Common.{◌≡◌, ℕ, ◌+◌, Bool, true, false, List, [], ◌∷◌, ◌++◌, map, cond, Option, Some, None, refl, subst, sym, ap, ◌∙◌, ℤ}
use Rattle.std.proofs.Common.{append_assoc, append-nil}
use Rattle.std.specs.List.{filter, flat_map}
use Rattle.std.specs.Borrow.{Bor}
use Rattle.std.specs.Global.{Box}
use Rattle.std.proofs.lemmas.Grind.{flat_map-append}
use Rattle.std.proofs.lemmas.List.Elements.{filter-append}
use Rattle.vlog_tree.specs.declared.item.Item.{Item}
use Rattle.vlog_tree.specs.declared.item.ItemKind.TheOpen as i
use Rattle.vlog_tree.specs.declared.item.Instance.{Instance}
use Rattle.vlog_tree.specs.declared.item.ParamForm.{ParamForm}
use Rattle.vlog_tree.specs.declared.item.ParamName.{ParamName}
use Rattle.vlog_tree.specs.declared.item.GenArm.{GenArm}
use Rattle.vlog_tree.specs.declared.item.GenBody.{GenBody}
use Rattle.vlog_tree.specs.declared.module.Module.{Module}
use Rattle.vlog_tree.specs.Trees.{Layer, layer}
use Rattle.elab_types.specs.declared.elab_fault.ElabFault.{ElabFault}
use Rattle.elab_types.specs.declared.scope.Constant.{Constant as ConstantRow}
use Rattle.scope_meaning.specs.Constants.{Constant}
use Rattle.scope_meaning.specs.Declared.{is_plain, is_in}
use Rattle.scope_meaning.specs.Scope.{Here, At, Given, frames}
use Rattle.scope_meaning.specs.Overrides.{givens}
use Rattle.scope_meaning.specs.Heads.{GenLoop, module_named, names_here, names_in_pass, genvar_value, test_of, choice_from, constants_of}
use Rattle.scope_meaning.specs.Visits.{Visit, Visits, sees, an_item, has_row, has_constant, past, with_next}
use Rattle.scope_meaning.specs.Walk.{IsWalked, plain, parameters, no_choice}
use Rattle.scope_meaning.specs.ScopeRules.{refusal}
use Rattle.scope_meaning.specs.ScopeTrees.{seen_constant}
use Rattle.elab_names.specs.Frames.{AreFrames}
use Rattle.walk_laws.specs.Rest.{Task, some_items, a_turn_of, a_step_of, some_instances, Rest}
use Rattle.walk_laws.specs.Stands.{AreCalm}
use Rattle.walk_laws.proofs.Thens.{opens, closes}
use Rattle.walk_laws.proofs.Standings.{goes_on_to}
use Rattle.walk_laws.proofs.Steps.{past_item, into_region, into_instances, into_loop, test_seen, step_seen, past_loop, past_step_of}
use Rattle.walk_laws.proofs.Modules.{behind_instances}
use Rattle.walk_state.specs.declared.left.Left.{Left}
use Rattle.walk_state.specs.declared.left.Left.TheVariants as left
use Rattle.walk_state.specs.declared.left.LoopPasses.{LoopPasses}
use Rattle.walk_state.specs.declared.left.MadeBy.{MadeBy}
use Rattle.walk_state.specs.declared.record.Record.{Record}
use Rattle.walk_state.specs.declared.record.Record.TheVariants as its
use Rattle.walk_state.specs.declared.place.ScopePlace.{ScopePlace}
use Rattle.walk_state.specs.declared.walk.Walk.{Walk}
use Rattle.walk_state.specs.Records.{visits_of, is_recorded, AreRecorded}
use Rattle.walk_state.specs.Standing.{IsAt, IsLoop, AreLeft, items as items_first, below, turn, instances, IsOnWay, IsMidway, IsTaken}

-- More records are those of more visits.
pub recorded-more : (done vs : Visits) (records more new : List Record)
    → AreRecorded done records → AreRecorded vs more → new ≡ records ++ more → AreRecorded (done ++ vs) new
recorded-more done vs records more new d m e =
    filter-append is_recorded done vs
    ∙ ap (λ (us : Visits). us ++ filter is_recorded vs) d
    ∙ ap (λ (us : Visits). flat_map visits_of records ++ us) m
    ∙ sym (flat_map-append visits_of records more)
    ∙ ap (flat_map visits_of) (sym e)

-- Constants are recorded as they are, and never refused.
recorded-constants : (n : ℕ) (cs : List Constant) → filter is_recorded (map (has_constant n) cs) ≡ map (has_constant n) cs
recorded-constants n [] = refl
recorded-constants n (c ∷ cs) = ap (λ (us : Visits). has_constant n c ∷ us) (recorded-constants n cs)

pub calm-constants : (design : List Module) (n : ℕ) (cs : List Constant) → AreCalm design (map (has_constant n) cs)
calm-constants design n [] = refl
calm-constants design n (c ∷ cs) = ap (λ (os : List (Option ElabFault)). None ∷ os) (calm-constants design n cs)

-- the state where its scope, what is left and its records are others
abbrev pub with : Walk → ScopePlace → List Left → List Record → Walk
with w scope left records = record w { here = scope; left = left; records = records }

-- The walk goes on in its scope.
pub moved : {design : List Module} {top : List ℕ} {done : Visits} {here : Here} {place by : At} {tasks under : List Task} {w : Walk}
    (vs : Visits) (more : List Record) (to : At) (new : List Task) (scope : ScopePlace) (left : List Left) (records : List Record)
    → IsMidway design top done here place by tasks under w
    → AreCalm design vs → AreRecorded vs more
    → ((ws : Visits) (whole : Bool) → Rest design new (with_next to w.next) ws whole → Rest design tasks (with_next place w.next) (vs ++ ws) whole)
    → IsAt here to scope → AreFrames (frames here to) w.names.items → AreLeft design here to left new → records ≡ w.records ++ more
    → IsOnWay design top (with w scope left records)
moved {design} {top} {done} {here} {w = w} vs more to new scope left records m calm recorded step at names lefts e = record {
  done = done ++ vs;
  here = here;
  place = to;
  tasks = new;
  standing = record {
    stands = goes_on_to vs m.stands calm step;
    scope = at;
    names = names;
    above = m.above;
    left = lefts;
    records = recorded-more done vs w.records more records m.records recorded e;
  };
}

-- An item is one row
pub past_row : {design : List Module} {top : List ℕ} {done : Visits} {here : Here} {place : At} {a : Item} {items : List Item} {under : List Task} {w : Walk}
    (item : ℕ) (records : List Record)
    → IsMidway design top done here place (past place a []) (some_items here (a ∷ items) ∷ under) (some_items here items ∷ under) w
    → item ≡ place.item → IsTaken design here (with_next place w.next) a → is_plain (layer a) ≡ true
    → records ≡ w.records ++ its.HasRow w.here.number item None ∷ []
    → IsOnWay design top (with w w.here w.left records)
past_row {design} {here = here} {place = place} {a = a} {items = items} {under = under} {w = w} item records m e taken is_plain pushed =
    moved (sees (an_item here (with_next place w.next) a) ∷ has_row here.number place.item None ∷ []) (its.HasRow w.here.number item None ∷ [])
    (past place a []) (some_items here items ∷ under) w.here w.left records m
    (ap (λ (o : Option ElabFault). o ∷ None ∷ []) taken)
    (ap (λ (k : ℕ). has_row here.number k None ∷ []) (sym e) ∙ ap (λ (k : ℕ). has_row k item None ∷ []) (sym m.scope.number))
    (λ ws whole r. past_item (plain is_plain) r)
    m.scope m.names (below m.left) pushed

-- and the constants that it declares.
two_more : (records row old : List Record) (r s : Record) → row ≡ old ++ r ∷ [] → records ≡ row ++ s ∷ [] → records ≡ old ++ (r ∷ s ∷ [])
two_more records row old r s e f = f ∙ ap (λ (rs : List Record). rs ++ s ∷ []) e ∙ append_assoc old (r ∷ []) (s ∷ [])

pub past_constants : {design : List Module} {top : List ℕ} {done : Visits} {here : Here} {place : At} {a : Item} {items : List Item} {under : List Task}
    {w : Walk}
    {is_local : Bool} {form : ParamForm} {names : List ParamName} (cs : List ConstantRow) (item : ℕ) (row records : List Record)
    → IsMidway design top done here place (past place a (map seen_constant cs)) (some_items here (a ∷ items) ∷ under) (some_items here items ∷ under) w
    → item ≡ place.item → IsTaken design here (with_next place w.next) a → layer a ≡ i.Parameter is_local form names
    → constants_of here (with_next place w.next) is_local form names ≡ Some (map seen_constant cs)
    → row ≡ w.records ++ its.HasRow w.here.number item None ∷ [] → records ≡ row ++ its.HasConstants w.here.number cs ∷ []
    → IsOnWay design top (with w w.here w.left records)
past_constants {design} {here = here} {place = place} {a = a} {items = items} {under = under} {w = w} {is_local = is_local} {form = form} {names = names} cs
    item row records m e taken l values pushed noted =
    let n : ℕ = here.number in
    let known : List Constant = map seen_constant cs in
    let at : At = with_next place w.next in
    let vs : Visits = sees (an_item here at a) ∷ has_row n place.item None ∷ map (has_constant n) known in
    moved vs (its.HasRow w.here.number item None ∷ its.HasConstants w.here.number cs ∷ [])
    (past place a known) (some_items here items ∷ under) w.here w.left records m
    (ap (λ (o : Option ElabFault). o ∷ None ∷ map (refusal design) (map (has_constant n) known)) taken
    ∙ ap (λ (os : List (Option ElabFault)). None ∷ None ∷ os) (calm-constants design n known))
    (ap (λ (us : Visits). has_row n place.item None ∷ us) (recorded-constants n known)
    ∙ ap (λ (k : ℕ). has_row n k None ∷ map (has_constant n) known) (sym e)
    ∙ ap (λ (us : Visits). has_row n item None ∷ us) (sym (append-nil (map (has_constant n) known)))
    ∙ ap (λ (k : ℕ). has_row k item None ∷ (map (has_constant k) known ++ [])) (sym m.scope.number))
    (λ ws whole r. past_item (subst (λ (k : Layer). IsWalked design here at a k vs (past at a known) true) (sym l) (parameters values)) r)
    m.scope m.names (below m.left) (two_more records row w.records (its.HasRow w.here.number item None) (its.HasConstants w.here.number cs) pushed noted)

-- a place is the same where the next scope has another number
pub same_at : {here : Here} {at : At} {p : ScopePlace} (n : ℕ) → IsAt here at p → IsAt here (with_next at n) p
same_at n x = record {
  number = x.number;
  path = x.path;
  its_module = x.its_module;
  home = x.home;
  given = x.given;
  earlier = x.earlier;
  item = x.item;
  construct = x.construct;
}

-- Something that belongs to an item is left to do first.
pub begun : {design : List Module} {top : List ℕ} {done : Visits} {here : Here} {place by : At} {tasks under : List Task} {w : Walk}
    (v : Visit) (to : At) (t : Task) (frame : Left) (left : List Left)
    → IsMidway design top done here place by tasks under w → refusal design v ≡ None → is_recorded v ≡ false
    → ((ws : Visits) (whole : Bool) → Rest design (t ∷ under) (with_next to w.next) ws whole → Rest design tasks (with_next place w.next) (v ∷ ws) whole)
    → IsAt here to w.here → AreFrames (frames here to) w.names.items → AreLeft design here to (frame ∷ w.left) (t ∷ under) → left ≡ frame ∷ w.left
    → IsOnWay design top (with w w.here left w.records)
begun {design} {here = here} {under = under} {w = w} v to t frame left m calm unrecorded step at names lefts e =
    moved (v ∷ []) [] to (t ∷ under) w.here left w.records m
    (ap (λ (o : Option ElabFault). o ∷ []) calm)
    (ap (λ (b : Bool). cond b (v ∷ []) []) unrecorded)
    step at names (subst (λ (ls : List Left). AreLeft design here to ls (t ∷ under)) (sym e) lefts) (sym (append-nil w.records))

-- Instances are,
pub begun_instances : {design : List Module} {top : List ℕ} {done : Visits} {here : Here} {place : At} {a : Item} {rest : List Item} {under : List Task}
    {w : Walk}
    (by : Box MadeBy) (made : Bor (List Instance)) (lefts : List Left) (of : List ℕ)
    → IsMidway design top done here place (past place a []) (some_items here (a ∷ rest) ∷ under) (some_items here rest ∷ under) w
    → IsTaken design here (with_next place w.next) a → layer a ≡ i.Instances of by.value.params.now made.now
    → module_named design of ≡ Some (by.value.number, by.value.of.now) → of ≡ by.value.of.now.name → is_in of here.above ≡ false
    → by.value.item ≡ place.item → lefts ≡ left.Instances by made ∷ w.left
    → IsOnWay design top (with w w.here lefts w.records)
begun_instances {design} {here = here} {place = place} {a = a} {rest = rest} {under = under} {w = w} by made lefts of m taken l found same fresh item e =
    let at : At = with_next place w.next in
    let t : Task = some_instances here at a by.value.number by.value.of.now (givens (names_here here at) by.value.of.now by.value.params.now) made.now in
    begun (sees (an_item here at a)) (past at a []) t (left.Instances by made) lefts m taken refl
    (λ ws whole r. into_instances {at = at} l found (closes {at = at} (opens r)))
    (same_at w.next m.scope) m.names
    (instances item (subst (λ (n : List ℕ). module_named design n ≡ Some (by.value.number, by.value.of.now)) same found)
    (subst (λ (n : List ℕ). is_in n here.above ≡ false) same fresh) m.left)
    e

same_loop : {place : At} {a : Item} {l : GenLoop} {p : LoopPasses} (n : ℕ) → IsLoop place a l p → IsLoop (with_next place n) a l p
same_loop n x = record { first = x.first; item = x.item; name = x.name; test = x.test; step = x.step; block = x.block; body = x.body }

-- the passes of a generate loop,
pub begun_loop : {design : List Module} {top : List ℕ} {done : Visits} {here : Here} {place : At} {a : Item} {rest : List Item} {under : List Task} {w : Walk}
    {l : GenLoop} (passes : Box LoopPasses) (value : ℤ) (lefts : List Left)
    → IsMidway design top done here place (past place a []) (some_items here (a ∷ rest) ∷ under) (some_items here rest ∷ under) w
    → IsTaken design here (with_next place w.next) a → layer a ≡ i.Loop l.name l.from l.test l.step_name l.step l.block l.places l.body
    → genvar_value (names_here here place) l.from ≡ Some value → IsLoop place a l passes.value → lefts ≡ left.Turn passes value ∷ w.left
    → IsOnWay design top (with w w.here lefts w.records)
begun_loop {here = here} {place = place} {a = a} {w = w} {l = l} passes value lefts m taken e first is_loop pushed =
    let at : At = with_next place w.next in
    begun (sees (an_item here at a)) (past at a []) (a_turn_of here at a l value) (left.Turn passes value) lefts m taken refl
    (λ ws whole r. into_loop {at = at} e first (closes {at = at} (opens r)))
    (same_at w.next m.scope) m.names (turn (same_loop w.next is_loop) m.left) pushed

-- and the next of them.
pub begun_turn : {design : List Module} {top : List ℕ} {done : Visits} {here : Here} {place : At} {a : Item} {l : GenLoop} {n : ℤ} {under : List Task}
    {w : Walk}
    (passes : Box LoopPasses) (value : ℤ) (lefts : List Left)
    → IsMidway design top done here (past place a []) (past place a []) (a_step_of here place a l n ∷ under) under w
    → refusal design (step_seen here place a l n) ≡ None → genvar_value (names_in_pass here place l.name n) l.step ≡ Some value
    → IsLoop place a l passes.value → lefts ≡ left.Turn passes value ∷ w.left
    → IsOnWay design top (with w w.here lefts w.records)
begun_turn {here = here} {place = place} {a = a} {l = l} {n = n} {w = w} passes value lefts m calm next is_loop pushed =
    begun (step_seen here place a l n) (past place a []) (a_turn_of here place a l value) (left.Turn passes value) lefts m calm refl
    (λ ws whole r. past_step_of next r)
    m.scope m.names (turn is_loop m.left) pushed

-- Nothing more of it is left: a generate loop ends at a test,
pub ended_loop : {design : List Module} {top : List ℕ} {done : Visits} {here : Here} {place : At} {a : Item} {l : GenLoop} {n : ℤ} {under : List Task}
    {w : Walk}
    → IsMidway design top done here (past place a []) (past place a []) (a_turn_of here place a l n ∷ under) under w
    → refusal design (test_seen here place a l n) ≡ None → test_of (names_in_pass here place l.name n) l.test ≡ Some false
    → IsOnWay design top w
ended_loop {here = here} {place = place} {a = a} {l = l} {n = n} {under = under} {w = w} m calm fails =
    moved (test_seen here place a l n ∷ []) [] (past place a []) under w.here w.left w.records m
    (ap (λ (o : Option ElabFault). o ∷ []) calm) refl
    (λ ws whole r. past_loop fails r)
    m.scope m.names (below m.left) (sym (append-nil w.records))

-- a generate `if` chooses nothing,
pub ended_choice : {design : List Module} {top : List ℕ} {done : Visits} {here : Here} {place : At} {a : Item} {rest : List Item} {under : List Task} {w : Walk}
    {arms : List GenArm} {last : Option GenBody}
    → IsMidway design top done here place (past place a []) (some_items here (a ∷ rest) ∷ under) (some_items here rest ∷ under) w
    → IsTaken design here (with_next place w.next) a → layer a ≡ i.Choose arms last
    → choice_from (names_here here place) (place.item + 1) arms last ≡ Some None
    → IsOnWay design top w
ended_choice {design} {here = here} {place = place} {a = a} {rest = rest} {under = under} {w = w} m taken l chosen =
    let at : At = with_next place w.next in
    moved (sees (an_item here at a) ∷ []) [] (past place a []) (some_items here rest ∷ under) w.here w.left w.records m
    (ap (λ (o : Option ElabFault). o ∷ []) taken) refl
    (λ ws whole r. past_item (subst (λ (k : Layer). IsWalked design here at a k (sees (an_item here at a) ∷ []) (past at a []) true) (sym l)
    (no_choice chosen)) r)
    m.scope m.names (below m.left) (sym (append-nil w.records))

-- or no instance is left.
pub ended_instances : {design : List Module} {top : List ℕ} {done : Visits} {here : Here} {place : At} {a : Item} {number : ℕ} {m : Module} {given : List Given}
    {under : List Task} {w : Walk}
    → IsMidway design top done here (past place a []) (past place a []) (some_instances here place a number m given [] ∷ under) under w
    → IsOnWay design top w
ended_instances {place = place} {a = a} {under = under} {w = w} m =
    moved [] [] (past place a []) under w.here w.left w.records m refl refl
    (λ ws whole r. behind_instances r)
    m.scope m.names (below m.left) (sym (append-nil w.records))

-- The items of a region come first.
pub begun_region : {design : List Module} {top : List ℕ} {done : Visits} {here : Here} {place : At} {a : Item} {rest : List Item} {under : List Task}
    {w : Walk}
    (inner : Bor (List Item)) (item : ℕ) (lefts : List Left)
    → IsMidway design top done here place place (some_items here (a ∷ rest) ∷ under) (some_items here rest ∷ under) w
    → layer a ≡ i.Generate inner.now → item ≡ w.here.item + 1 → lefts ≡ left.Items inner ∷ w.left
    → IsOnWay design top (with w (record w.here { item = item }) lefts w.records)
begun_region {design} {here = here} {place = place} {rest = rest} {under = under} {w = w} inner item lefts m l more pushed =
    let to : At = record place { item = place.item + 1 } in
    let new : List Task = some_items here inner.now ∷ some_items here rest ∷ under in
    let is : IsAt here to (record w.here { item = item }) = record {
      number = m.scope.number;
      path = m.scope.path;
      its_module = m.scope.its_module;
      home = m.scope.home;
      given = m.scope.given;
      earlier = m.scope.earlier;
      item = more ∙ ap (λ (k : ℕ). k + 1) m.scope.item;
      construct = m.scope.construct;
    } in
    moved [] [] to new (record w.here { item = item }) lefts w.records m refl refl (λ ws whole r. into_region l r) is m.names
    (subst (λ (ls : List Left). AreLeft design here to ls new) (sym pushed) (below (items_first m.left))) (sym (append-nil w.records))

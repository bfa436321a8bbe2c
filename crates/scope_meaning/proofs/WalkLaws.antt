-- Every walk through a design is a front of the whole one.
use Rattle.std.proofs.Common.{◌≡◌, ℕ, ◌+◌, Bool, true, false, List, [], ◌∷◌, ◌++◌, map, Option, Some, None, refl, subst, ap, sym, ◌∙◌, ℤ, append_assoc}
use Rattle.std.proofs.Common.{append-nil}
use Rattle.vlog_tree.specs.declared.item.Item.{Item}
use Rattle.vlog_tree.specs.declared.item.Instance.{Instance}
use Rattle.vlog_tree.specs.declared.item.GenBody.{GenBody, out-GenBody}
use Rattle.vlog_tree.specs.declared.module.Module.{Module}
use Rattle.cov_types.specs.declared.place.Place.{Place}
use Rattle.vlog_tree.specs.Trees.{Layer, item_place}
use Rattle.scope_meaning.specs.Constants.{Constant}
use Rattle.scope_meaning.specs.Scope.{Here, At, Given}
use Rattle.scope_meaning.specs.Overrides.{givens}
use Rattle.scope_meaning.specs.BlockNames.{block_name}
use Rattle.scope_meaning.specs.Heads.{GenLoop, gen_loop, names_here, names_in_pass}
use Rattle.scope_meaning.specs.Visits.{Visits, Visit, sees, an_item, a_turn, entered, made_at, module_entered, has_row, has_constant, past, with_next}
use Rattle.scope_meaning.specs.Visits.{module_scope, body_scope, past_header, ports_seen, names_declared}
use Rattle.scope_meaning.specs.ScopeTrees.{IsWalkOf, WalksAgree}
use Rattle.scope_meaning.specs.Walk.{AreHeader, no_more, ends_at, header, AreWalked, no_items, ends_before, goes_on, ends_inside, IsWalked, comes_to, plain}
use Rattle.scope_meaning.specs.Walk.{parameters, region, instances, loop, choice, no_choice, ArePasses, ends_at_test, last_test, pass, ends_in_block}
use Rattle.scope_meaning.specs.Walk.{ends_at_step, IsBlock, block, AreMade, none_left, made, ends_in, IsModule, entered_module, ends_in_header}

-- the second is the first, or where it isn't whole a front of it
abbrev pub Front : {X : Type 0} → Visits → Visits → X → X → Bool → Type 0
Front vs ws x y true = (vs ≡ ws) × (x ≡ y)
Front vs ws x y false = (rest : Visits) × (vs ≡ ws ++ rest)

is_true : Bool → Type 0
is_true true = Unit {0}
is_true false = ⊥

pub never : {A : Type 0} → false ≡ true → A
unfolding is_true
never e = absurd (subst is_true (sym e) tt)

or : {A : Type 0} → A → Option A → A
or a (Some b) = b
or a None = a

pub same : {A : Type 0} (a b : A) → Some a ≡ Some b → a ≡ b
unfolding or
same a b e = ap (or a) e

is_some_of : {A : Type 0} → Option A → Bool
is_some_of (Some a) = true
is_some_of None = false

pub none_some : {A B : Type 0} (a : A) → None ≡ Some a → B
unfolding is_some_of
none_some a e = never (ap is_some_of e)

-- both pieces of a walk
append : {X : Type 0} (vs ws us zs : Visits) (x y : X) (w : Bool) → vs ≡ ws → Front us zs x y w → Front (vs ++ us) (ws ++ zs) x y w
append vs ws us zs x y true e f = (ap (λ a. a ++ us) e ∙ ap (λ a. ws ++ a) f.0, f.1)
append vs ws us zs x y false e f = (f.0, ap (λ a. a ++ us) e ∙ ap (λ a. ws ++ a) f.1 ∙ sym (append_assoc ws zs f.0))

pub shorter : {X : Type 0} (vs ws us : Visits) (x y : X) → Front vs ws x y false → (rest : Visits) × (vs ++ us ≡ ws ++ rest)
shorter vs ws us x y f = (f.0 ++ us, ap (λ a. a ++ us) f.1 ∙ append_assoc ws f.0 us)

-- behind the same visits, and with what is behind the walk read another way
behind : {X Y : Type 0} (h : X → Y) (vs us zs : Visits) (x y : X) (w : Bool) → Front us zs x y w → Front (vs ++ us) (vs ++ zs) (h x) (h y) w
behind h vs us zs x y true f = (ap (λ a. vs ++ a) f.0, ap h f.1)
behind h vs us zs x y false f = (f.0, ap (λ a. vs ++ a) f.1 ∙ sym (append_assoc vs zs f.0))

pub headers : {here : Here} {at : At} {items : List Item} {vs : Visits} {to : At} → AreHeader here at items vs to true
    → {ws : Visits} {by : At} {w : Bool} → AreHeader here at items ws by w → Front vs ws to by w
headers no_more no_more = (refl, refl)
headers (header e h) ends_at = (_, refl)
headers {here} {at} {items = a ∷ items} (header {to = to} {cs = cs} {vs = vs} e h) {w = w} (header {to = by} {cs = ds} {vs = ws} f k) =
    let d : ds ≡ cs = sym (same _ _ (sym e ∙ f)) in
    let r : Front vs ws to by w = headers h (subst (λ (c : List Constant). AreHeader here (past at a c) items ws by w) d k) in
    append (sees (an_item here at a) ∷ map (has_constant here.number) cs) (sees (an_item here at a) ∷ map (has_constant here.number) ds) vs ws to by w
    (ap (λ (c : List Constant). sees (an_item here at a) ∷ map (has_constant here.number) c) (sym d)) r

mutual
  pub walked : {design : List Module} {here : Here} {at : At} {items : List Item} {vs : Visits} {to : At} → AreWalked design here at items vs to true
      → {ws : Visits} {by : At} {w : Bool} → AreWalked design here at items ws by w → Front vs ws to by w
  walked no_items no_items = (refl, refl)
  walked no_items ends_before = ([], refl)
  walked (goes_on x xs) ends_before = (_, refl)
  walked {design} {here} (goes_on {by = mid} {items = items} {vs = vs} {ws = us} x xs) {w = w} (goes_on {by = mid'} {to = by} {vs = vs'} {ws = us'} y ys) =
      let f : Front vs vs' mid mid' true = one x y in
      append vs vs' us us' _ _ w f.0 (walked xs (subst (λ (m : At). AreWalked design here m items us' by w) (sym f.1) ys))
  walked (goes_on {by = mid} {vs = vs} {ws = us} x xs) (ends_inside {to = by} {vs = vs'} y) = shorter vs vs' us mid by (one x y)

  pub one : {design : List Module} {here : Here} {at : At} {a : Item} {l : Layer} {vs : Visits} {to : At} → IsWalked design here at a l vs to true
      → {ws : Visits} {by : At} {w : Bool} → IsWalked design here at a l ws by w → Front vs ws to by w
  one (plain e) (comes_to f) = (_, refl)
  one (plain e) (plain f) = (refl, refl)
  one (plain e) (parameters f) = never e
  one (plain e) (region y) = never e
  one (plain e) (instances f y) = never e
  one (plain e) (loop f y) = never e
  one (plain e) (choice f y) = never e
  one (plain e) (no_choice f) = never e
  one (parameters e) (comes_to f) = (_, refl)
  one (parameters e) (plain f) = never f
  one {here = here} {at = at} {a = a} (parameters {cs = cs} e) (parameters {cs = ds} f) =
      let d : cs ≡ ds = same _ _ (sym e ∙ f) in
      (ap (λ (c : List Constant). sees (an_item here at a) ∷ has_row here.number at.item None ∷ map (has_constant here.number) c) d, ap (past at a) d)
  one (region x) (comes_to f) = never (sym f)
  one (region x) (plain f) = never f
  one (region x) (region y) = walked x y
  one (instances e x) (comes_to f) = (_, refl)
  one (instances e x) (plain f) = never f
  one {design} {here} {at} {a} (instances {params = params} {made = all} {next = n} {m = m} {vs = vs} e x) {w = w}
      (instances {number = number'} {next = n'} {m = m'} {vs = ws} f y) =
      let q : (number', m') ≡ (_, m) = same _ _ (sym f ∙ e) in
      behind (with_next (past at a [])) (sees (an_item here at a) ∷ []) vs ws n n' w
      (makes x (subst (λ (k : ℕ × Module). AreMade design here at (item_place a) k.0 k.1 (givens (names_here here at) k.1 params) at.next all ws n' w) q y))
  one (loop e x) (comes_to f) = (_, refl)
  one (loop e x) (plain f) = never f
  one {design} {here} {at} {a} (loop {name = name} {step_name = step_name} {from = from} {test = test} {step = step} {label = label} {places = places}
      {body = body} {n = n} {next = k} {vs = vs} e x)
      {w = w} (loop {n = n'} {next = k'} {vs = ws} f y) =
      behind (with_next (past at a [])) (sees (an_item here at a) ∷ []) vs ws k k' w
      (passes x (subst (λ (z : ℤ). ArePasses design here (item_place a) (gen_loop name from test step_name step label places body) at z ws k' w)
      (same _ _ (sym f ∙ e)) y))
  one (choice e x) (comes_to f) = (_, refl)
  one (choice e x) (plain f) = never f
  one {design} {here} {at} {a} (choice {first = first} {next = k} {body = body} {vs = vs} e x) {w = w}
      (choice {first = first'} {next = k'} {body = body'} {vs = ws} f y) =
      let q : (first', body') ≡ (first, body) = same _ _ (same _ _ (sym f ∙ e)) in
      behind (with_next (past at a [])) (sees (an_item here at a) ∷ []) vs ws k k' w
      (blocks x (subst (λ (z : ℕ × GenBody). IsBlock design here at (block_name (names_declared here) (at.construct + 1) (out-GenBody z.1).name) None z.0
      (out-GenBody z.1).items ws k' w) q y))
  one (choice e x) (no_choice f) = none_some _ (same _ _ (sym f ∙ e))
  one (no_choice e) (comes_to f) = ([], refl)
  one (no_choice e) (plain f) = never f
  one (no_choice e) (choice f y) = none_some _ (same _ _ (sym e ∙ f))
  one (no_choice e) (no_choice f) = (refl, refl)

  pub passes : {design : List Module} {here : Here} {p : Place} {l : GenLoop} {at : At} {n : ℤ} {vs : Visits} {next : ℕ}
      → ArePasses design here p l at n vs next true
      → {ws : Visits} {k : ℕ} {w : Bool} → ArePasses design here p l at n ws k w → Front vs ws next k w
  passes (last_test e) ends_at_test = ([], refl)
  passes (last_test e) (last_test f) = (refl, refl)
  passes (last_test e) (pass f x s r) = never (same _ _ (sym e ∙ f))
  passes (last_test e) (ends_in_block f x) = never (same _ _ (sym e ∙ f))
  passes (last_test e) (ends_at_step f x) = never (same _ _ (sym e ∙ f))
  passes (pass e x s r) ends_at_test = (_, refl)
  passes (pass e x s r) (last_test f) = never (same _ _ (sym f ∙ e))
  passes {design} {here} {p} {l} {at} {n} (pass {k = k} {by = by} {next = next} {vs = vs} {ws = us} e x s r) {w = w}
      (pass {k = k'} {by = by'} {next = next'} {vs = vs'} {ws = us'} f y t q) =
      let b : Front vs vs' by by' true = blocks x y in
      let test : Visit = sees (a_turn p (names_in_pass here at l.name n) l.test) in
      let step : Visit = sees (a_turn p (names_in_pass here at l.name n) l.step) in
      let z : ArePasses design here p l (with_next at by) k us' next' w =
      subst (λ (m : ℕ). ArePasses design here p l (with_next at m) k us' next' w) (sym b.1)
      (subst (λ (m : ℤ). ArePasses design here p l (with_next at by') m us' next' w) (same _ _ (sym t ∙ s)) q) in
      append (test ∷ vs) (test ∷ vs') (step ∷ us) (step ∷ us') next next' w (ap (λ (a : Visits). test ∷ a) b.0)
      (behind (λ (a : ℕ). a) (step ∷ []) us us' next next' w (passes r z))
  passes {design} {here} {p} {l} {at} {n} (pass {by = by} {vs = vs} {ws = us} e x s r) (ends_in_block {next = next'} {vs = vs'} f y) =
      let b : Front vs vs' by next' false = blocks x y in
      let test : Visit = sees (a_turn p (names_in_pass here at l.name n) l.test) in
      let step : Visit = sees (a_turn p (names_in_pass here at l.name n) l.step) in
      shorter (test ∷ vs) (test ∷ vs') (step ∷ us) by next' (b.0, ap (λ (a : Visits). test ∷ a) b.1)
  passes {design} {here} {p} {l} {at} {n} (pass {by = by} {vs = vs} {ws = us} e x s r) (ends_at_step {next = next'} {vs = vs'} f y) =
      let b : Front vs vs' by next' true = blocks x y in
      let test : Visit = sees (a_turn p (names_in_pass here at l.name n) l.test) in
      let step : Visit = sees (a_turn p (names_in_pass here at l.name n) l.step) in
      append (test ∷ vs) (test ∷ vs') (step ∷ us) (step ∷ []) by next' false (ap (λ (a : Visits). test ∷ a) b.0) (us, refl)

  pub blocks : {design : List Module} {here : Here} {at : At} {name : List ℕ} {genvar : Option Constant} {first : ℕ} {items : List Item} {vs : Visits}
      {next : ℕ}
      → IsBlock design here at name genvar first items vs next true
      → {ws : Visits} {k : ℕ} {w : Bool} → IsBlock design here at name genvar first items ws k w → Front vs ws next k w
  blocks {here = here} {at = at} {name = name} {genvar = genvar} (block {to = to} {vs = vs} x) {w = w} (block {to = by} {vs = ws} y) =
      behind (λ (a : At). a.next) (entered here at name genvar) vs ws to by w (walked x y)

  pub makes : {design : List Module} {here : Here} {at : At} {p : Place} {number : ℕ} {m : Module} {given : List Given} {n : ℕ} {all : List Instance}
      {vs : Visits} {next : ℕ}
      → AreMade design here at p number m given n all vs next true
      → {ws : Visits} {k : ℕ} {w : Bool} → AreMade design here at p number m given n all ws k w → Front vs ws next k w
  makes none_left none_left = (refl, refl)
  makes {design} {here} {at} {p} {number} {m} {given} {n} (made {by = by} {next = next} {a = a} {more = more} {vs = vs} {ws = us} x xs) {w = w}
      (made {by = by'} {next = next'} {vs = vs'} {ws = us'} y ys) =
      let b : Front vs vs' by by' true = modules x y in
      behind (λ (c : ℕ). c) (made_at here at p n m a) (vs ++ us) (vs' ++ us') next next' w
      (append vs vs' us us' next next' w b.0 (makes xs (subst (λ (c : ℕ). AreMade design here at p number m given c more us' next' w) (sym b.1) ys)))
  makes {here = here} {at = at} {p = p} {m = m} {n = n} (made {by = by} {next = next} {a = a} {vs = vs} {ws = us} x xs) (ends_in {next = next'} {vs = vs'} y) =
      behind (λ (c : ℕ). c) (made_at here at p n m a) (vs ++ us) vs' by next' false (shorter vs vs' us by next' (modules x y))

  pub modules : {design : List Module} {n : ℕ} {parent : Option ℕ} {path : List ℕ} {above : List (List ℕ)} {given : List Given} {number : ℕ} {m : Module}
      {vs : Visits} {next : ℕ}
      → IsModule design n parent path above given number m vs next true
      → {ws : Visits} {k : ℕ} {w : Bool} → IsModule design n parent path above given number m ws k w → Front vs ws next k w
  modules {design} {n} {parent} {path} {above} {given} {number} {m} (entered_module {by = by} {to = to} {vs = vs} {ws = us} h x)
      {w = w} (entered_module {by = by'} {to = to'} {vs = vs'} {ws = us'} i y) =
      let scope : Here = module_scope n path above given number m in
      let b : Front vs vs' by by' true = headers h i in
      let e : Visits = module_entered n parent path number m in
      let f : Front us us' to to' w =
      walked x (subst (λ (c : At). AreWalked design (body_scope scope m) (past_header c m.ports) m.items us' to' w) (sym b.1) y) in
      append (e ++ vs ++ ports_seen scope by m.ports) (e ++ vs' ++ ports_seen scope by' m.ports) us us' to.next to'.next w
      (ap (λ (a : Visits). e ++ a ++ ports_seen scope by m.ports) b.0 ∙ ap (λ (c : At). e ++ vs' ++ ports_seen scope c m.ports) b.1)
      (behind (λ (c : At). c.next) [] us us' to to' w f)
  modules {design} {n} {parent} {path} {above} {given} {number} {m} (entered_module {by = by} {to = to} {vs = vs} {ws = us} h x)
      (ends_in_header {by = by'} {vs = vs'} i) =
      let scope : Here = module_scope n path above given number m in
      let e : Visits = module_entered n parent path number m in
      let f : (rest : Visits) × (vs ++ (ports_seen scope by m.ports ++ us) ≡ vs' ++ rest) = shorter vs vs' (ports_seen scope by m.ports
      ++ us) by by' (headers h i) in
      (f.0, ap (λ (a : Visits). e ++ a) (append_assoc vs (ports_seen scope by m.ports) us ∙ f.1))

-- Every walk through a design is a front of the whole one.
pub walks_agree : WalksAgree
walks_agree design top vs ws whole x y =
    let q : (y.number, y.top_module) ≡ (x.number, x.top_module) = same _ _ (sym y.found ∙ x.found) in
    front_of whole (modules x.walked (subst (λ (k : ℕ × Module). IsModule design 0 None top [] [] k.0 k.1 ws y.next whole) q y.walked))
  where
    front_of : (w : Bool) → Front vs ws x.next y.next w → (rest : Visits) × (vs ≡ ws ++ rest)
    front_of true f = ([], f.0 ∙ sym (append-nil ws))
    front_of false f = f

-- A design has one whole walk.
pub same_walk : {design : List Module} {top : List ℕ} {vs ws : Visits} → IsWalkOf design top vs true → IsWalkOf design top ws true → vs ≡ ws
same_walk {design} {top} {vs} {ws} x y =
    let q : (y.number, y.top_module) ≡ (x.number, x.top_module) = same _ _ (sym y.found ∙ x.found) in
    let f : Front vs ws x.next y.next true =
    modules x.walked (subst (λ (k : ℕ × Module). IsModule design 0 None top [] [] k.0 k.1 ws y.next true) q y.walked) in
    f.0

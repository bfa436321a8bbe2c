-- Of two walks through a design one is a front of the other, also where neither is whole.
use Rattle.std.proofs.Common.{◌≡◌, ◌⊎◌, inl, inr, ℕ, ◌+◌, Bool, true, false, List, [], ◌∷◌, ◌++◌, map, Option, None, refl, subst, ap, sym, ◌∙◌, ℤ, append_assoc}
use Rattle.vlog_tree.specs.declared.item.Item.{Item}
use Rattle.vlog_tree.specs.declared.item.Instance.{Instance}
use Rattle.vlog_tree.specs.declared.item.GenBody.{GenBody, out-GenBody}
use Rattle.vlog_tree.specs.declared.module.Module.{Module}
use Rattle.cov_types.specs.declared.place.Place.{Place}
use Rattle.vlog_tree.specs.Trees.{Layer, item_place}
use Rattle.scope_meaning.specs.Constants.{Constant}
use Rattle.scope_meaning.specs.Scope.{Here, At, Given}
use Rattle.scope_meaning.specs.Overrides.{givens}
use Rattle.scope_meaning.specs.BlockNames.{block_name}
use Rattle.scope_meaning.specs.Heads.{GenLoop, gen_loop, names_here, names_in_pass}
use Rattle.scope_meaning.specs.Visits.{Visits, Visit, sees, an_item, a_turn, entered, made_at, module_entered, has_constant, past, with_next, module_scope}
use Rattle.scope_meaning.specs.Visits.{body_scope, past_header, ports_seen, names_declared}
use Rattle.scope_meaning.specs.Walk.{AreHeader, ends_at, header, AreWalked, ends_before, goes_on, ends_inside, IsWalked, comes_to, region, instances, loop}
use Rattle.scope_meaning.specs.Walk.{choice, ArePasses, ends_at_test, pass, ends_in_block, ends_at_step, IsBlock, block, AreMade, made, ends_in, IsModule}
use Rattle.scope_meaning.specs.Walk.{entered_module, ends_in_header}
use Rattle.scope_meaning.specs.ScopeTrees.{IsWalkOf}
use Rattle.scope_meaning.proofs.WalkLaws.{walks_agree, Front, never, same, shorter, headers, one, blocks, modules}

-- one is a front of the other
abbrev pub Meet : Visits → Visits → Type 0
Meet vs ws = ((rest : Visits) × (vs ≡ ws ++ rest)) ⊎ ((rest : Visits) × (ws ≡ vs ++ rest))

after : (ps qs us zs : Visits) → ps ≡ qs → Meet us zs → Meet (ps ++ us) (qs ++ zs)
after ps qs us zs e (inl f) = inl (f.0, ap (λ a. a ++ us) e ∙ ap (λ a. qs ++ a) f.1 ∙ sym (append_assoc qs zs f.0))
after ps qs us zs e (inr f) = inr (f.0, ap (λ a. a ++ zs) (sym e) ∙ ap (λ a. ps ++ a) f.1 ∙ sym (append_assoc ps us f.0))

cut_headers : {here : Here} {at : At} {items : List Item} {vs : Visits} {to : At} → AreHeader here at items vs to false
    → {ws : Visits} {by : At} → AreHeader here at items ws by false → Meet vs ws
cut_headers ends_at ends_at = inl ([], refl)
cut_headers ends_at (header f k) = inr (_, refl)
cut_headers (header e h) ends_at = inl (_, refl)
cut_headers {here} {at} {items = a ∷ items} (header {cs = cs} {vs = vs} e h) (header {to = by} {cs = ds} {vs = ws} f k) =
    let g : ds ≡ cs = same _ _ (sym f ∙ e) in
    after (sees (an_item here at a) ∷ map (has_constant here.number) cs) (sees (an_item here at a) ∷ map (has_constant here.number) ds) vs ws
    (ap (λ (c : List Constant). sees (an_item here at a) ∷ map (has_constant here.number) c) (sym g))
    (cut_headers h (subst (λ (c : List Constant). AreHeader here (past at a c) items ws by false) g k))

mutual
  cut_walked : {design : List Module} {here : Here} {at : At} {items : List Item} {vs : Visits} {to : At} → AreWalked design here at items vs to false
      → {ws : Visits} {by : At} → AreWalked design here at items ws by false → Meet vs ws
  cut_walked ends_before {ws} d = inr (ws, refl)
  cut_walked (goes_on x xs) ends_before = inl (_, refl)
  cut_walked {design} {here} (goes_on {by = mid} {items = items} {vs = vs} {ws = us} x xs) (goes_on {by = mid'} {to = by} {vs = vs'} {ws = us'} y ys) =
      let f : Front vs vs' mid mid' true = one x y in
      after vs vs' us us' f.0 (cut_walked xs (subst (λ (m : At). AreWalked design here m items us' by false) (sym f.1) ys))
  cut_walked (goes_on {by = mid} {vs = vs} {ws = us} x xs) (ends_inside {to = by} {vs = vs'} y) = inl (shorter vs vs' us mid by (one x y))
  cut_walked (ends_inside x) ends_before = inl (_, refl)
  cut_walked (ends_inside {to = to} {vs = vs} x) (goes_on {by = mid} {vs = vs'} {ws = us} y ys) = inr (shorter vs' vs us mid to (one y x))
  cut_walked (ends_inside x) (ends_inside y) = cut_one x y

  cut_one : {design : List Module} {here : Here} {at : At} {a : Item} {l : Layer} {vs : Visits} {to : At} → IsWalked design here at a l vs to false
      → {ws : Visits} {by : At} → IsWalked design here at a l ws by false → Meet vs ws
  cut_one (comes_to e) (comes_to f) = inl ([], refl)
  cut_one (comes_to e) (region y) = never (sym e)
  cut_one (comes_to e) (instances f y) = inr (_, refl)
  cut_one (comes_to e) (loop f y) = inr (_, refl)
  cut_one (comes_to e) (choice f y) = inr (_, refl)
  cut_one (region x) (comes_to f) = never (sym f)
  cut_one (region x) (region y) = cut_walked x y
  cut_one (instances e x) (comes_to f) = inl (_, refl)
  cut_one {design} {here} {at} {a} (instances {params = params} {made = all} {m = m} {vs = vs} e x)
      (instances {number = number'} {next = n'} {m = m'} {vs = ws} f y) =
      let q : (number', m') ≡ (_, m) = same _ _ (sym f ∙ e) in
      after (sees (an_item here at a) ∷ []) (sees (an_item here at a) ∷ []) vs ws refl
      (cut_makes x (subst (λ (k : ℕ × Module). AreMade design here at (item_place a) k.0 k.1 (givens (names_here here at) k.1 params) at.next all ws n'
      false) q y))
  cut_one (loop e x) (comes_to f) = inl (_, refl)
  cut_one {design} {here} {at} {a}
      (loop {name = name} {step_name = step_name} {from = from} {test = test} {step = step} {label = label} {places = places} {body = body} {vs = vs} e x)
      (loop {n = n'} {next = k'} {vs = ws} f y) =
      after (sees (an_item here at a) ∷ []) (sees (an_item here at a) ∷ []) vs ws refl
      (cut_passes x (subst (λ (z : ℤ). ArePasses design here (item_place a) (gen_loop name from test step_name step label places body) at z ws k' false)
      (same _ _ (sym f ∙ e)) y))
  cut_one (choice e x) (comes_to f) = inl (_, refl)
  cut_one {design} {here} {at} {a} (choice {first = first} {body = body} {vs = vs} e x) (choice {first = first'} {next = k'} {body = body'} {vs = ws} f y) =
      let q : (first', body') ≡ (first, body) = same _ _ (same _ _ (sym f ∙ e)) in
      after (sees (an_item here at a) ∷ []) (sees (an_item here at a) ∷ []) vs ws refl
      (cut_blocks x (subst (λ (z : ℕ × GenBody). IsBlock design here at (block_name (names_declared here) (at.construct + 1) (out-GenBody z.1).name) None z.0
      (out-GenBody z.1).items ws k' false) q y))

  cut_passes : {design : List Module} {here : Here} {p : Place} {l : GenLoop} {at : At} {n : ℤ} {vs : Visits} {next : ℕ}
      → ArePasses design here p l at n vs next false
      → {ws : Visits} {k : ℕ} → ArePasses design here p l at n ws k false → Meet vs ws
  cut_passes ends_at_test ends_at_test = inl ([], refl)
  cut_passes ends_at_test (pass f y t q) = inr (_, refl)
  cut_passes ends_at_test (ends_in_block f y) = inr (_, refl)
  cut_passes ends_at_test (ends_at_step f y) = inr (_, refl)
  cut_passes (pass e x s r) ends_at_test = inl (_, refl)
  cut_passes {design} {here} {p} {l} {at} {n} (pass {k = k} {by = by} {vs = vs} {ws = us} e x s r)
      (pass {k = k'} {by = by'} {next = next'} {vs = vs'} {ws = us'} f y t q) =
      let b : Front vs vs' by by' true = blocks x y in
      let test : Visit = sees (a_turn p (names_in_pass here at l.name n) l.test) in
      let step : Visit = sees (a_turn p (names_in_pass here at l.name n) l.step) in
      let z : ArePasses design here p l (with_next at by) k us' next' false =
      subst (λ (m : ℕ). ArePasses design here p l (with_next at m) k us' next' false) (sym b.1)
      (subst (λ (m : ℤ). ArePasses design here p l (with_next at by') m us' next' false) (same _ _ (sym t ∙ s)) q) in
      after (test ∷ vs) (test ∷ vs') (step ∷ us) (step ∷ us') (ap (λ (a : Visits). test ∷ a) b.0) (after (step ∷ []) (step ∷ []) us us' refl (cut_passes r z))
  cut_passes {design} {here} {p} {l} {at} {n} (pass {by = by} {vs = vs} {ws = us} e x s r) (ends_in_block {next = next'} {vs = vs'} f y) =
      let b : Front vs vs' by next' false = blocks x y in
      let test : Visit = sees (a_turn p (names_in_pass here at l.name n) l.test) in
      let step : Visit = sees (a_turn p (names_in_pass here at l.name n) l.step) in
      inl (shorter (test ∷ vs) (test ∷ vs') (step ∷ us) by next' (b.0, ap (λ (a : Visits). test ∷ a) b.1))
  cut_passes {design} {here} {p} {l} {at} {n} (pass {by = by} {vs = vs} {ws = us} e x s r) (ends_at_step {next = next'} {vs = vs'} f y) =
      let b : Front vs vs' by next' true = blocks x y in
      let test : Visit = sees (a_turn p (names_in_pass here at l.name n) l.test) in
      let step : Visit = sees (a_turn p (names_in_pass here at l.name n) l.step) in
      after (test ∷ vs) (test ∷ vs') (step ∷ us) (step ∷ []) (ap (λ (a : Visits). test ∷ a) b.0) (inl (us, refl))
  cut_passes (ends_in_block e x) ends_at_test = inl (_, refl)
  cut_passes {design} {here} {p} {l} {at} {n} (ends_in_block {next = next} {vs = vs} e x) (pass {by = by} {vs = vs'} {ws = us} f y t q) =
      let b : Front vs' vs by next false = blocks y x in
      let test : Visit = sees (a_turn p (names_in_pass here at l.name n) l.test) in
      let step : Visit = sees (a_turn p (names_in_pass here at l.name n) l.step) in
      inr (shorter (test ∷ vs') (test ∷ vs) (step ∷ us) by next (b.0, ap (λ (a : Visits). test ∷ a) b.1))
  cut_passes {design} {here} {p} {l} {at} {n} (ends_in_block {vs = vs} e x) (ends_in_block {vs = vs'} f y) =
      let test : Visit = sees (a_turn p (names_in_pass here at l.name n) l.test) in
      after (test ∷ []) (test ∷ []) vs vs' refl (cut_blocks x y)
  cut_passes {design} {here} {p} {l} {at} {n} (ends_in_block {next = next} {vs = vs} e x) (ends_at_step {next = next'} {vs = vs'} f y) =
      let b : Front vs' vs next' next false = blocks y x in
      let test : Visit = sees (a_turn p (names_in_pass here at l.name n) l.test) in
      let step : Visit = sees (a_turn p (names_in_pass here at l.name n) l.step) in
      inr (shorter (test ∷ vs') (test ∷ vs) (step ∷ []) next' next (b.0, ap (λ (a : Visits). test ∷ a) b.1))
  cut_passes (ends_at_step e x) ends_at_test = inl (_, refl)
  cut_passes {design} {here} {p} {l} {at} {n} (ends_at_step {next = next} {vs = vs} e x) (pass {by = by} {vs = vs'} {ws = us} f y t q) =
      let b : Front vs vs' next by true = blocks x y in
      let test : Visit = sees (a_turn p (names_in_pass here at l.name n) l.test) in
      let step : Visit = sees (a_turn p (names_in_pass here at l.name n) l.step) in
      after (test ∷ vs) (test ∷ vs') (step ∷ []) (step ∷ us) (ap (λ (a : Visits). test ∷ a) b.0) (inr (us, refl))
  cut_passes {design} {here} {p} {l} {at} {n} (ends_at_step {next = next} {vs = vs} e x) (ends_in_block {next = next'} {vs = vs'} f y) =
      let b : Front vs vs' next next' false = blocks x y in
      let test : Visit = sees (a_turn p (names_in_pass here at l.name n) l.test) in
      let step : Visit = sees (a_turn p (names_in_pass here at l.name n) l.step) in
      inl (shorter (test ∷ vs) (test ∷ vs') (step ∷ []) next next' (b.0, ap (λ (a : Visits). test ∷ a) b.1))
  cut_passes {design} {here} {p} {l} {at} {n} (ends_at_step {next = next} {vs = vs} e x) (ends_at_step {next = next'} {vs = vs'} f y) =
      let b : Front vs vs' next next' true = blocks x y in
      let test : Visit = sees (a_turn p (names_in_pass here at l.name n) l.test) in
      let step : Visit = sees (a_turn p (names_in_pass here at l.name n) l.step) in
      after (test ∷ vs) (test ∷ vs') (step ∷ []) (step ∷ []) (ap (λ (a : Visits). test ∷ a) b.0) (inl ([], refl))

  cut_blocks : {design : List Module} {here : Here} {at : At} {name : List ℕ} {genvar : Option Constant} {first : ℕ} {items : List Item} {vs : Visits}
      {next : ℕ}
      → IsBlock design here at name genvar first items vs next false
      → {ws : Visits} {k : ℕ} → IsBlock design here at name genvar first items ws k false → Meet vs ws
  cut_blocks {here = here} {at = at} {name = name} {genvar = genvar} (block {vs = vs} x) (block {vs = ws} y) =
      after (entered here at name genvar) (entered here at name genvar) vs ws refl (cut_walked x y)

  cut_makes : {design : List Module} {here : Here} {at : At} {p : Place} {number : ℕ} {m : Module} {given : List Given} {n : ℕ} {all : List Instance}
      {vs : Visits} {next : ℕ}
      → AreMade design here at p number m given n all vs next false
      → {ws : Visits} {k : ℕ} → AreMade design here at p number m given n all ws k false → Meet vs ws
  cut_makes {design} {here} {at} {p} {number} {m} {given} {n} (made {by = by} {a = a} {more = more} {vs = vs} {ws = us} x xs)
      (made {by = by'} {next = next'} {vs = vs'} {ws = us'} y ys) =
      let b : Front vs vs' by by' true = modules x y in
      after (made_at here at p n m a) (made_at here at p n m a) (vs ++ us) (vs' ++ us') refl
      (after vs vs' us us' b.0 (cut_makes xs (subst (λ (c : ℕ). AreMade design here at p number m given c more us' next' false) (sym b.1) ys)))
  cut_makes {here = here} {at = at} {p = p} {m = m} {n = n} (made {by = by} {a = a} {vs = vs} {ws = us} x xs) (ends_in {next = next'} {vs = vs'} y) =
      after (made_at here at p n m a) (made_at here at p n m a) (vs ++ us) vs' refl (inl (shorter vs vs' us by next' (modules x y)))
  cut_makes {here = here} {at = at} {p = p} {m = m} {n = n} (ends_in {next = next} {a = a} {vs = vs} x) (made {by = by} {vs = vs'} {ws = us} y ys) =
      after (made_at here at p n m a) (made_at here at p n m a) vs (vs' ++ us) refl (inr (shorter vs' vs us by next (modules y x)))
  cut_makes {here = here} {at = at} {p = p} {m = m} {n = n} (ends_in {a = a} {vs = vs} x) (ends_in {vs = vs'} y) =
      after (made_at here at p n m a) (made_at here at p n m a) vs vs' refl (cut_modules x y)

  cut_modules : {design : List Module} {n : ℕ} {parent : Option ℕ} {path : List ℕ} {above : List (List ℕ)} {given : List Given} {number : ℕ} {m : Module}
      {vs : Visits} {next : ℕ}
      → IsModule design n parent path above given number m vs next false
      → {ws : Visits} {k : ℕ} → IsModule design n parent path above given number m ws k false → Meet vs ws
  cut_modules {design} {n} {parent} {path} {above} {given} {number} {m} (entered_module {by = by} {vs = vs} {ws = us} h x)
      (entered_module {by = by'} {to = to'} {vs = vs'} {ws = us'} i y) =
      let scope : Here = module_scope n path above given number m in
      let b : Front vs vs' by by' true = headers h i in
      let e : Visits = module_entered n parent path number m in
      after (e ++ vs ++ ports_seen scope by m.ports) (e ++ vs' ++ ports_seen scope by' m.ports) us us'
      (ap (λ (a : Visits). e ++ a ++ ports_seen scope by m.ports) b.0 ∙ ap (λ (c : At). e ++ vs' ++ ports_seen scope c m.ports) b.1)
      (cut_walked x (subst (λ (c : At). AreWalked design (body_scope scope m) (past_header c m.ports) m.items us' to' false) (sym b.1) y))
  cut_modules {design} {n} {parent} {path} {above} {given} {number} {m} (entered_module {by = by} {vs = vs} {ws = us} h x)
      (ends_in_header {by = by'} {vs = vs'} i) =
      let scope : Here = module_scope n path above given number m in
      let e : Visits = module_entered n parent path number m in
      let f : (rest : Visits) × (vs ++ (ports_seen scope by m.ports ++ us) ≡ vs' ++ rest) = shorter vs vs' (ports_seen scope by m.ports
      ++ us) by by' (headers h i) in
      inl (f.0, ap (λ (a : Visits). e ++ a) (append_assoc vs (ports_seen scope by m.ports) us ∙ f.1))
  cut_modules {design} {n} {parent} {path} {above} {given} {number} {m} (ends_in_header {by = by'} {vs = vs'} i)
      (entered_module {by = by} {vs = vs} {ws = us} h x) =
      let scope : Here = module_scope n path above given number m in
      let e : Visits = module_entered n parent path number m in
      let f : (rest : Visits) × (vs ++ (ports_seen scope by m.ports ++ us) ≡ vs' ++ rest) = shorter vs vs' (ports_seen scope by m.ports
      ++ us) by by' (headers h i) in
      inr (f.0, ap (λ (a : Visits). e ++ a) (append_assoc vs (ports_seen scope by m.ports) us ∙ f.1))
  cut_modules {n = n} {parent = parent} {path = path} {number = number} {m = m} (ends_in_header {vs = vs} h) (ends_in_header {vs = vs'} i) =
      after (module_entered n parent path number m) (module_entered n parent path number m) vs vs' refl (cut_headers h i)

-- of two walks of one design one is a front of the other
pub one_is_front : {design : List Module} {top : List ℕ} {vs ws : Visits} {v w : Bool} → IsWalkOf design top vs v → IsWalkOf design top ws w → Meet vs ws
one_is_front {design} {top} {vs} {ws} {v = true} {w = w} x y = inl (walks_agree design top vs ws w x y)
one_is_front {design} {top} {vs} {ws} {v = false} {w = true} x y = inr (walks_agree design top ws vs false y x)
one_is_front {design} {top} {vs} {ws} {v = false} {w = false} x y =
    let q : (y.number, y.top_module) ≡ (x.number, x.top_module) = same _ _ (sym y.found ∙ x.found) in
    cut_modules x.walked (subst (λ (k : ℕ × Module). IsModule design 0 None top [] [] k.0 k.1 ws y.next false) q y.walked)

-- The items on a walk through a design stand in its modules.
use Rattle.std.proofs.Common.{◌≡◌, sym, ap, refl, subst, ℕ, zero, ◌⊎◌, inl, inr, Bool, true, false, if◌then◌else◌, List, [], ◌∷◌, ◌++◌, map}
use Rattle.std.proofs.Common.{Option, Some, None, Contains, ℤ, ◌+◌, arith}
use Rattle.std.specs.List.{flat_map, AllByRecursion}
use Rattle.std.specs.Str.{bytes_eq}
use Rattle.std.proofs.lemmas.List.Elements.{Contains-append_left, Contains-append_right}
use Rattle.cov_types.specs.declared.place.Place.{Place}
use Rattle.vlog_tree.specs.declared.item.Item.{Item}
use Rattle.vlog_tree.specs.declared.item.Instance.{Instance}
use Rattle.vlog_tree.specs.declared.item.GenArm.{GenArm, out-GenArm}
use Rattle.vlog_tree.specs.declared.item.GenBody.{GenBody, out-GenBody}
use Rattle.vlog_tree.specs.declared.item.ItemKind.TheOpen as i
use Rattle.vlog_tree.specs.declared.module.Port.{Port}
use Rattle.vlog_tree.specs.declared.module.Module.{Module}
use Rattle.vlog_tree.specs.Trees.{Layer, layer, option_list}
use Rattle.vlog_tree.specs.Inside.{IsAmong, listed, deeper, items_in, bodies_of}
use Rattle.scope_meaning.specs.Constants.{Constant, Names, and_then}
use Rattle.scope_meaning.specs.Scope.{Here, At, Given}
use Rattle.scope_meaning.specs.Heads.{GenLoop, Choice, module_from, choice_from, last_body, test_of}
use Rattle.scope_meaning.specs.Declared.{count_body}
use Rattle.scope_meaning.proofs.WalkLaws.{same}
use Rattle.scope_meaning.specs.Visits.{Visits, Visit, sees, has_constant, an_item, ports_seen, genvar_visit, module_scope}
use Rattle.scope_meaning.specs.ScopeTrees.{IsWalkOf}
use Rattle.scope_meaning.specs.Walk.{AreHeader, no_more, ends_at, header, AreWalked, no_items, ends_before, goes_on, ends_inside, IsWalked, comes_to, plain}
use Rattle.scope_meaning.specs.Walk.{parameters, region, instances, loop, choice, no_choice, ArePasses, ends_at_test, last_test, pass, ends_in_block}
use Rattle.scope_meaning.specs.Walk.{ends_at_step, IsBlock, block, AreMade, none_left, made, ends_in, IsModule, entered_module, ends_in_header}
use Rattle.arm_place_laws.proofs.StatementArms.{one_of}

-- an item stands in a module of the design
pub record IsItemOf (design : List Module) (a : Item) : Type 0 where
  pub its_module : Module
  pub there : Contains design its_module
  pub among : Contains its_module.params a ⊎ IsAmong its_module.items a

-- what a visit sees of items is of the design
abbrev pub IsOf : List Module → Visit → Type 0
IsOf design (sees (an_item here at a)) = IsItemOf design a
IsOf design _ = Unit {0}

abbrev pub AreOf : List Module → Visits → Type 0
AreOf design = AllByRecursion (IsOf design)

-- all of some items are
abbrev Known : List Module → List Item → Type 0
Known design items = (a : Item) → IsAmong items a → IsItemOf design a

both : (design : List Module) (vs ws : Visits) → AreOf design vs → AreOf design ws → AreOf design (vs ++ ws)
both design [] ws h k = k
both design (v ∷ vs) ws h k = (h.0, both design vs ws h.1 k)

constants_of : (design : List Module) (n : ℕ) (cs : List Constant) → AreOf design (map (has_constant n) cs)
constants_of design n [] = tt
constants_of design n (c ∷ cs) = (tt, constants_of design n cs)

ports_of : (design : List Module) (here : Here) (at : At) (ps : List Port) → AreOf design (ports_seen here at ps)
unfolding ports_seen
ports_of design here at [] = tt
ports_of design here at (p ∷ ps) = (tt, ports_of design here _ ps)

genvar_of : (design : List Module) (n : ℕ) (c : Option Constant) → AreOf design (genvar_visit n c)
genvar_of design n None = tt
genvar_of design n (Some c) = (tt, tt)

header_of : {design : List Module} {here : Here} {at to : At} {items : List Item} {vs : Visits} {whole : Bool} → AreHeader here at items vs to whole
    → ((a : Item) → Contains items a → IsItemOf design a) → AreOf design vs
header_of no_more k = tt
header_of (ends_at {a = a} {items = items}) k = (k a (Contains-append_left (a ∷ []) items a (zero, omega arith, refl)), tt)
header_of {design} {here} (header {a = a} {items = items} {cs = cs} {vs = vs} e d) k = (
  k a (Contains-append_left (a ∷ []) items a (zero, omega arith, refl)),
  both design (map (has_constant here.number) cs) vs (constants_of design here.number cs)
      (header_of d (λ b found. k b (Contains-append_right (a ∷ []) items b found))),
)

-- ---- what is known of an item and of those inside it

first_known : {design : List Module} (a : Item) (items : List Item) → Known design (a ∷ items) → IsItemOf design a
first_known a items k = k a (listed (Contains-append_left (a ∷ []) items a (zero, omega arith, refl)))

rest_known : {design : List Module} (a : Item) (items : List Item) → Known design (a ∷ items) → Known design items
rest_known a items k b (listed found) = k b (listed (Contains-append_right (a ∷ []) items b found))
rest_known a items k b (deeper {b = c} found inner) = k b (deeper (Contains-append_right (a ∷ []) items c found) inner)

inner_known : {design : List Module} (a : Item) (items : List Item) → Known design (a ∷ items) → Known design (items_in (layer a))
inner_known a items k b found = k b (deeper (Contains-append_left (a ∷ []) items a (zero, omega arith, refl)) found)

-- the items of a body are among those of all bodies
of_body : (f : GenBody → List Item) (bodies : List GenBody) (b : GenBody) (a : Item) → Contains bodies b → Contains (f b) a
    → Contains (flat_map f bodies) a
of_body f [] b a found there = absurd (omega (arith, found.1))
of_body f (c ∷ bodies) b a found there = elim (one_of c bodies b found) [
  | inl first ↦ Contains-append_left (f c) (flat_map f bodies) a (subst (λ d. Contains (f d) a) (sym first) there)
  | inr more ↦ Contains-append_right (f c) (flat_map f bodies) a (of_body f bodies b a more there)
]

last_chosen : (n k : ℕ) (last : Option GenBody) (body : GenBody) → Some (last_body n last) ≡ Some (Some (k, body)) → Contains (option_list last) body
last_chosen n k None body e = absurd (cc)
last_chosen n k (Some b) body e = (zero, omega arith, ap (λ p. p.1) (same (n, b) (k, body) (same (Some (n, b)) (Some (k, body)) e)))

first_or_later : (n k : ℕ) (b body : GenBody) (test : Option Bool) (rest : Choice)
    → and_then test (λ holds. if holds then Some (Some (n, b)) else rest) ≡ Some (Some (k, body)) → (b ≡ body) ⊎ (rest ≡ Some (Some (k, body)))
first_or_later n k b body None rest e = absurd (cc)
first_or_later n k b body (Some true) rest e = inl (ap (λ p. p.1) (same (n, b) (k, body) (same (Some (n, b)) (Some (k, body)) e)))
first_or_later n k b body (Some false) rest e = inr e

chosen : (names : Names) (n k : ℕ) (arms : List GenArm) (last : Option GenBody) (body : GenBody) → choice_from names n arms last ≡ Some (Some (k, body))
    → Contains (bodies_of arms last) body
unfolding choice_from
chosen names n k [] last body e = last_chosen n k last body e
chosen names n k (arm ∷ arms) last body e =
    let b = (out-GenArm arm).body in
    elim (first_or_later n k b body (test_of names (out-GenArm arm).test) (choice_from names (n + count_body b) arms last) e) [
      | inl first ↦ Contains-append_left (b ∷ []) (bodies_of arms last) body (zero, omega arith, first)
      | inr later ↦ Contains-append_right (b ∷ []) (bodies_of arms last) body (chosen names (n + count_body b) k arms last body later)
    ]

this_or_later : (n k : ℕ) (m found : Module) (b : Bool) (rest : Option (ℕ × Module)) → (if b then Some (n, m) else rest) ≡ Some (k, found)
    → (m ≡ found) ⊎ (rest ≡ Some (k, found))
this_or_later n k m found true rest e = inl (ap (λ p. p.1) (same (n, m) (k, found) e))
this_or_later n k m found false rest e = inr e

module_there : (n k : ℕ) (design : List Module) (name : List ℕ) (m : Module) → module_from n design name ≡ Some (k, m) → Contains design m
unfolding module_from
module_there n k [] name m e = absurd (cc)
module_there n k (d ∷ ds) name m e = elim (this_or_later n k d m (bytes_eq name d.name) (module_from (n + 1) ds name) e) [
  | inl first ↦ Contains-append_left (d ∷ []) ds m (zero, omega arith, first)
  | inr later ↦ Contains-append_right (d ∷ []) ds m (module_there (n + 1) k ds name m later)
]

its_params : {design : List Module} (m : Module) → Contains design m → (a : Item) → Contains m.params a → IsItemOf design a
its_params m there a found = record { its_module = m; there = there; among = inl found }

its_items : {design : List Module} (m : Module) → Contains design m → Known design m.items
its_items m there a found = record { its_module = m; there = there; among = inr found }

body_known : {design : List Module} (arms : List GenArm) (last : Option GenBody) (body : GenBody) → Contains (bodies_of arms last) body
    → Known design (items_in (i.Choose arms last)) → Known design (out-GenBody body).items
body_known arms last body there k a (listed found) = k a (listed (of_body (λ b. (out-GenBody b).items) (bodies_of arms last) body a there found))
body_known arms last body there k a (deeper {b = c} found inner) =
    k a (deeper (of_body (λ b. (out-GenBody b).items) (bodies_of arms last) body c there found) inner)

mutual
  walked : {design : List Module} {here : Here} {at to : At} {items : List Item} {vs : Visits} {whole : Bool} → AreWalked design here at items vs to whole
      → Known design items → AreOf design vs
  walked no_items k = tt
  walked ends_before k = tt
  walked {design} (goes_on {a = a} {items = items} {vs = vs} {ws = ws} d ds) k =
      both design vs ws (item d refl (first_known a items k) (inner_known a items k)) (walked ds (rest_known a items k))
  walked (ends_inside {a = a} {items = items} d) k = item d refl (first_known a items k) (inner_known a items k)

  item : {design : List Module} {here : Here} {at to : At} {a : Item} {l : Layer} {vs : Visits} {whole : Bool} → IsWalked design here at a l vs to whole
      → layer a ≡ l → IsItemOf design a → Known design (items_in (layer a)) → AreOf design vs
  item (comes_to no_region) e own k = (own, tt)
  item (plain is_plain) e own k = (own, (tt, tt))
  item {design} {here} (parameters {cs = cs} q) e own k = (own, (tt, constants_of design here.number cs))
  item {design} (region d) e own k = walked d (subst (λ l. Known design (items_in l)) e k)
  item (instances {of = of} {number = number} {m = m} q d) e own k = (own, makes d (module_there 0 number _ of m q))
  item {design} (loop q d) e own k = (own, passes d (subst (λ l. Known design (items_in l)) e k))
  item {design} {here} {at} (choice {arms = arms} {last = last} {first = first} {body = body} q d) e own k =
      (own, blocks d (body_known arms last body (chosen _ _ first arms last body q) (subst (λ l. Known design (items_in l)) e k)))
  item (no_choice q) e own k = (own, tt)

  passes : {design : List Module} {here : Here} {p : Place} {l : GenLoop} {at : At} {n : ℤ} {next : ℕ} {vs : Visits} {whole : Bool}
      → ArePasses design here p l at n vs next whole → Known design l.body → AreOf design vs
  passes ends_at_test k = (tt, tt)
  passes (last_test q) k = (tt, tt)
  passes {design} (pass {vs = vs} {ws = ws} q d s r) k = (tt, both design vs _ (blocks d k) (tt, passes r k))
  passes (ends_in_block q d) k = (tt, blocks d k)
  passes {design} (ends_at_step {vs = vs} q d) k = (tt, both design vs _ (blocks d k) (tt, tt))

  blocks : {design : List Module} {here : Here} {at : At} {name : List ℕ} {genvar : Option Constant} {first next : ℕ} {items : List Item} {vs : Visits}
      {whole : Bool} → IsBlock design here at name genvar first items vs next whole → Known design items → AreOf design vs
  blocks {design} {at = at} {genvar = genvar} (block {vs = vs} d) k =
      (tt, (tt, both design (genvar_visit at.next genvar) vs (genvar_of design at.next genvar) (walked d k)))

  makes : {design : List Module} {here : Here} {at : At} {p : Place} {number n next : ℕ} {m : Module} {given : List Given} {xs : List Instance} {vs : Visits}
      {whole : Bool} → AreMade design here at p number m given n xs vs next whole → Contains design m → AreOf design vs
  makes none_left there = tt
  makes {design} (made {vs = vs} {ws = ws} d ds) there = (tt, (tt, both design vs ws (modules d there) (makes ds there)))
  makes (ends_in d) there = (tt, (tt, modules d there))

  modules : {design : List Module} {n number next : ℕ} {parent : Option ℕ} {path : List ℕ} {above : List (List ℕ)} {given : List Given} {m : Module}
      {vs : Visits} {whole : Bool} → IsModule design n parent path above given number m vs next whole → Contains design m → AreOf design vs
  modules {design} {n} {number} {path = path} {above = above} {given = given} {m = m} (entered_module {by = by} {vs = vs} {ws = ws} d ds) there =
      let here : Here = module_scope n path above given number m in
      let ports = ports_seen here by m.ports in (
        tt,
        both design (vs ++ ports) ws (both design vs ports (header_of d (its_params m there)) (ports_of design here by m.ports))
            (walked ds (its_items m there)),
      )
  modules {m = m} (ends_in_header d) there = (tt, header_of d (its_params m there))

pub seen : {design : List Module} {top : List ℕ} {vs : Visits} {whole : Bool} → IsWalkOf design top vs whole → AreOf design vs
seen {design} {top} w = modules w.walked (module_there 0 w.number design top w.top_module w.found)

-- The connections of each instance on a walk stand at its item: what holds of all connections of items holds of those of
-- instances.
use Rattle.std.proofs.Common.{◌≡◌, ◌∙◌, sym, ap, refl, ℕ, Bool, true, List, [], ◌∷◌, ◌++◌, map, Option, Some, None, ℤ}
use Rattle.std.specs.List.{list_all, flat_map, AllByRecursion}
use Rattle.cov_types.specs.declared.place.Place.{Place}
use Rattle.vlog_tree.specs.declared.item.Item.{Item}
use Rattle.vlog_tree.specs.declared.item.Instance.{Instance}
use Rattle.vlog_tree.specs.declared.module.Port.{Port}
use Rattle.vlog_tree.specs.declared.module.Module.{Module}
use Rattle.vlog_tree.specs.Trees.{Layer, layer}
use Rattle.scope_meaning.specs.Constants.{Constant}
use Rattle.scope_meaning.specs.Scope.{Here, At, Given}
use Rattle.scope_meaning.specs.Heads.{GenLoop}
use Rattle.scope_meaning.specs.Visits.{Visits, Visit, sees, connects, has_constant, an_item, ports_seen, genvar_visit, module_scope}
use Rattle.scope_meaning.specs.Walk.{AreHeader, no_more, ends_at, header, AreWalked, no_items, goes_on, IsWalked, plain}
use Rattle.scope_meaning.specs.Walk.{parameters, region, instances, loop, choice, no_choice, ArePasses, last_test, pass}
use Rattle.scope_meaning.specs.Walk.{IsBlock, block, AreMade, none_left, made, IsModule, entered_module}
use Rattle.flat_source_meaning.specs.Joins.{Join, joins, joins_of, of_module}
use Rattle.design_meaning.proofs.ListLaws.{all_append, left_true, right_true}
use Rattle.typed_drive_laws.proofs.FormedStmts.{facts_left, facts_right}

pub facts_both : {A : Type 0} (P : A → Type 0) (xs ys : List A) → AllByRecursion P xs → AllByRecursion P ys → AllByRecursion P (xs ++ ys)
facts_both P [] ys h k = k
facts_both P (x ∷ xs) ys h k = (h.0, facts_both P xs ys h.1 k)

module _ (design : List Module) (test : Here → At → Join → Bool) where
  -- all connections at an item pass the test
  abbrev pub AtItem : Visit → Type 0
  AtItem (sees (an_item here at a)) = list_all (test here at) (joins_of design (layer a)) ≡ true
  AtItem _ = Unit {0}

  -- all connections of an instance do
  abbrev pub AtInstance : Visit → Type 0
  AtInstance (connects m) = list_all (test m.here m.at) (joins m.of m.ports) ≡ true
  AtInstance _ = Unit {0}

  abbrev Items : Visits → Type 0
  Items = AllByRecursion AtItem

  abbrev Instances : Visits → Type 0
  Instances = AllByRecursion AtInstance

  constants_in : (n : ℕ) (cs : List Constant) → Instances (map (has_constant n) cs)
  constants_in n [] = tt
  constants_in n (c ∷ cs) = (tt, constants_in n cs)

  ports_in : (here : Here) (at : At) (ps : List Port) → Instances (ports_seen here at ps)
  unfolding ports_seen
  ports_in here at [] = tt
  ports_in here at (p ∷ ps) = (tt, ports_in here _ ps)

  genvar_in : (n : ℕ) (c : Option Constant) → Instances (genvar_visit n c)
  genvar_in n None = tt
  genvar_in n (Some c) = (tt, tt)

  header_in : {here : Here} {at to : At} {items : List Item} {vs : Visits} {whole : Bool} → AreHeader here at items vs to whole → whole ≡ true → Instances vs
  header_in no_more e = tt
  header_in {here} (header {cs = cs} {vs = vs} q d) e =
      (tt, facts_both AtInstance (map (has_constant here.number) cs) vs (constants_in here.number cs) (header_in d e))
  header_in ends_at e = (tt, tt)

  -- the connections of the instances of an item
  abbrev MadeWell : Here → At → Module → List Instance → Type 0
  MadeWell here at m all = list_all (test here at) (flat_map (λ x. joins m x.ports) all) ≡ true

  mutual
    walked : {here : Here} {at to : At} {items : List Item} {vs : Visits} → AreWalked design here at items vs to true → Items vs → Instances vs
    walked no_items h = tt
    walked (goes_on {vs = vs} {ws = ws} d ds) h = facts_both AtInstance vs ws (item_walked d refl (facts_left AtItem vs ws h))
        (walked ds (facts_right AtItem vs ws h))

    item_walked : {here : Here} {at to : At} {a : Item} {l : Layer} {vs : Visits} → IsWalked design here at a l vs to true → layer a ≡ l → Items vs
        → Instances vs
    item_walked (plain n) e h = (tt, (tt, tt))
    item_walked {here} (parameters {cs = cs} q) e h = (tt, (tt, constants_in here.number cs))
    item_walked (region d) e h = walked d h
    item_walked {here} {at} (instances {made = all} {m = m} {vs = vs} q d) e h = (
      tt,
      all_made d (sym (ap (λ x. list_all (test here at) (of_module x (λ m. flat_map (λ x. joins m x.ports) all))) q)
          ∙ sym (ap (λ l. list_all (test here at) (joins_of design l)) e) ∙ h.0) h.1,
    )
    item_walked (loop q d) e h = (tt, all_passes d h.1)
    item_walked (choice q d) e h = (tt, in_block d h.1)
    item_walked (no_choice q) e h = (tt, tt)

    all_passes : {here : Here} {p : Place} {l : GenLoop} {at : At} {n : ℤ} {vs : Visits} {next : ℕ} → ArePasses design here p l at n vs next true
        → Items vs → Instances vs
    all_passes (last_test q) h = (tt, tt)
    all_passes (pass {vs = vs} {ws = ws} q d r ds) h =
        (tt, facts_both AtInstance vs _ (in_block d (facts_left AtItem vs _ h.1)) (tt, all_passes ds (facts_right AtItem vs _ h.1).1))

    in_block : {here : Here} {at : At} {name : List ℕ} {genvar : Option Constant} {first next : ℕ} {items : List Item} {vs : Visits}
        → IsBlock design here at name genvar first items vs next true → Items vs → Instances vs
    in_block {at = at} {genvar = genvar} (block {vs = vs} d) h = (
      tt,
      (
        tt,
        facts_both AtInstance (genvar_visit at.next genvar) vs (genvar_in at.next genvar)
            (walked d (facts_right AtItem (genvar_visit at.next genvar) vs h.1.1)),
      ),
    )

    all_made : {here : Here} {at : At} {p : Place} {number n next : ℕ} {m : Module} {given : List Given} {xs : List Instance} {vs : Visits}
        → AreMade design here at p number m given n xs vs next true → MadeWell here at m xs → Items vs → Instances vs
    all_made none_left w h = tt
    all_made {here} {at} {m = m} (made {a = a} {more = more} {vs = vs} {ws = ws} d ds) w h =
        let both = sym (all_append (test here at) (joins m a.ports) (flat_map (λ x. joins m x.ports) more)) ∙ w in
        let first = list_all (test here at) (joins m a.ports) in
        let others = list_all (test here at) (flat_map (λ x. joins m x.ports) more) in (
          tt,
          (
            left_true first others both,
            facts_both AtInstance vs ws (in_module d (facts_left AtItem vs ws h.1.1))
                (all_made ds (right_true first others both) (facts_right AtItem vs ws h.1.1)),
          ),
        )

    in_module : {n number next : ℕ} {parent : Option ℕ} {path : List ℕ} {above : List (List ℕ)} {given : List Given} {m : Module} {vs : Visits}
        → IsModule design n parent path above given number m vs next true → Items vs → Instances vs
    in_module (entered_module {n = n} {number = number} {path = path} {above = above} {given = given} {m = m} {by = by} {vs = vs} {ws = ws} d ds) h =
        let ports = ports_seen (module_scope n path above given number m) by m.ports in (
          tt,
          facts_both AtInstance (vs ++ ports) ws
              (facts_both AtInstance vs ports (header_in d refl) (ports_in (module_scope n path above given number m) by m.ports))
              (walked ds (facts_right AtItem (vs ++ ports) ws h.1)),
        )

  -- on a whole walk
  pub connected : {n number next : ℕ} {parent : Option ℕ} {path : List ℕ} {above : List (List ℕ)} {given : List Given} {m : Module} {vs : Visits}
      → IsModule design n parent path above given number m vs next true → Items vs → Instances vs
  connected d h = in_module d h

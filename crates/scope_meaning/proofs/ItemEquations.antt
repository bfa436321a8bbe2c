-- What items declare, node by node.
use Rattle.std.proofs.Common.{◌≡◌, ℕ, ◌++◌, Bool, false, List, [], ◌∷◌, map, Option, refl, subst, ap, sym, ◌∙◌}
use Rattle.std.specs.List.{flat_map}
use Rattle.cov_types.specs.declared.place.Place.{Place}
use Rattle.vlog_tree.specs.declared.item.ParamForm.{ParamForm}
use Rattle.vlog_tree.specs.declared.item.ParamName.{ParamName}
use Rattle.vlog_tree.specs.declared.item.Item.{Item, out-roll-Item, fold-roll-Item}
use Rattle.vlog_tree.specs.declared.item.ItemKind.{ItemKind, out-ItemKind, fold-ItemKind, fold-roll-ItemKind}
use Rattle.vlog_tree.specs.declared.item.ItemKind.TheVariants as i
use Rattle.vlog_tree.specs.declared.item.ItemKind.TheOpen as o
use Rattle.vlog_tree.specs.Trees.{item, layer, Layer}
use Rattle.vlog_tree.specs.declared.expression.Expr.{Expr}
use Rattle.vlog_tree.specs.declared.expression.RangeExpr.{RangeExpr}
use Rattle.vlog_tree.specs.declared.item.AssignPart.{AssignPart}
use Rattle.vlog_tree.specs.declared.item.BlockPlaces.{BlockPlaces}
use Rattle.vlog_tree.specs.declared.item.NamePlace.{NamePlace}
use Rattle.vlog_tree.specs.declared.item.WireName.{WireName}
use Rattle.scope_meaning.specs.Declared.{Declared, declare, wire, genvar, scope_name, declares, kind_declares, block_names}
use Rattle.vlog_tree.specs.declared.module.Module.{Module}
use Rattle.scope_meaning.specs.Scope.{Here, At}
use Rattle.scope_meaning.specs.Visits.{Visits}
use Rattle.scope_meaning.specs.Walk.{IsWalked}
use Rattle.scope_meaning.specs.Overrides.{parameters_of, kind_parameters}

Names : Type 0
Names = List (List ℕ)

-- the names that a declaration of parameters declares by `parameter`
pub parameters-Parameter : (p : Place) (form : ParamForm) (names : List ParamName)
    → parameters_of (item p (i.Parameter false form names)) ≡ map (λ n. n.name.name) names
unfolding Names
parameters-Parameter p form names =
    fold-roll-Item Names Names Names Names kind_parameters (λ arm. []) (λ body. []) (λ a. a.what) (record { place = p; what = i.Parameter false form names })
    ∙ ap (fold-ItemKind Names Names Names Names kind_parameters (λ arm. []) (λ body. []) (λ a. a.what)) (sym (i.rolls-Parameter false form names))
    ∙ fold-roll-ItemKind Names Names Names Names kind_parameters (λ arm. []) (λ body. []) (λ a. a.what) (o.Parameter false form names)

-- what an item declares, by its kind
abbrev pub kind_says : ItemKind → List Declared
kind_says = fold-ItemKind (List Declared) (List (List ℕ)) (List (List ℕ)) (List Declared) kind_declares (λ arm. arm.body) (λ body. block_names body.name)
    (λ a. a.what)

pub declares-item : (p : Place) (what : ItemKind) → declares (item p what) ≡ kind_says what
declares-item p what =
    fold-roll-Item (List Declared) (List (List ℕ)) (List (List ℕ)) (List Declared) kind_declares (λ arm. arm.body) (λ body. block_names body.name)
    (λ a. a.what) (record { place = p; what = what })

pub says-Wire : (signed : Bool) (range : Option RangeExpr) (names : List WireName)
    → kind_says (i.Wire signed range names) ≡ map (λ w. declare wire w.name.name) names
says-Wire signed range names = ap kind_says (sym (i.rolls-Wire signed range names)) ∙
    fold-roll-ItemKind (List Declared) (List (List ℕ)) (List (List ℕ)) (List Declared) kind_declares (λ arm. arm.body) (λ body. block_names body.name)
    (λ a. a.what) (o.Wire signed range names)

pub says-Genvar : (names : List NamePlace) → kind_says (i.Genvar names) ≡ map (λ n. declare genvar n.name) names
says-Genvar names = ap kind_says (sym (i.rolls-Genvar names)) ∙
    fold-roll-ItemKind (List Declared) (List (List ℕ)) (List (List ℕ)) (List Declared) kind_declares (λ arm. arm.body) (λ body. block_names body.name)
    (λ a. a.what) (o.Genvar names)

pub says-Assign : (parts : List AssignPart) → kind_says (i.Assign parts) ≡ []
says-Assign parts = ap kind_says (sym (i.rolls-Assign parts)) ∙
    fold-roll-ItemKind (List Declared) (List (List ℕ)) (List (List ℕ)) (List Declared) kind_declares (λ arm. arm.body) (λ body. block_names body.name)
    (λ a. a.what) (o.Assign parts)

pub says-Generate : (items : List Item) → kind_says (i.Generate items) ≡ flat_map declares items
says-Generate items = ap kind_says (sym (i.rolls-Generate items)) ∙
    fold-roll-ItemKind (List Declared) (List (List ℕ)) (List (List ℕ)) (List Declared) kind_declares (λ arm. arm.body) (λ body. block_names body.name)
    (λ a. a.what) (o.Generate items) ∙ flat_map-map items
  where
    flat_map-map : (xs : List Item) → flat_map (λ (ds : List Declared). ds) (map declares xs) ≡ flat_map declares xs
    flat_map-map [] = refl
    flat_map-map (x ∷ xs) = ap (λ ds. declares x ++ ds) (flat_map-map xs)

pub says-Loop : (name : List ℕ) (from test : Expr) (step_name : List ℕ) (step : Expr) (block : NamePlace) (places : BlockPlaces) (body : List Item)
    → kind_says (i.Loop name from test step_name step block places body) ≡ declare scope_name block.name ∷ []
says-Loop name from test step_name step block places body =
    ap kind_says (sym (i.rolls-Loop name from test step_name step block places body)) ∙
    fold-roll-ItemKind (List Declared) (List (List ℕ)) (List (List ℕ)) (List Declared) kind_declares (λ arm. arm.body) (λ body. block_names body.name)
    (λ a. a.what) (o.Loop name from test step_name step block places body)

-- the layer of an item that is made of a place and a kind
pub layer-item : (p : Place) (what : ItemKind) → layer (item p what) ≡ out-ItemKind what
layer-item p what = ap (λ x. out-ItemKind x.what) (out-roll-Item (record { place = p; what = what }))

-- a walk through an item whose layer is this one
pub by_layer : {design : List Module} {here : Here} {at to : At} {a : Item} {l : Layer} {vs : Visits} {whole : Bool}
    → layer a ≡ l → IsWalked design here at a l vs to whole → IsWalked design here at a (layer a) vs to whole
by_layer {design} {here} {at} {to} {a} {l} {vs} {whole} e d = subst (λ (x : Layer). IsWalked design here at a x vs to whole) (sym e) d

-- What an item is, by its layer.
use Rattle.std.proofs.Common.{◌≡◌, ℕ, false, List, refl, sym, ap, ◌∙◌}
use Rattle.std.proofs.lemmas.Bool.{false≢true}
use Rattle.vlog_tree.specs.declared.expression.Expr.{Expr}
use Rattle.vlog_tree.specs.declared.item.BlockPlaces.{BlockPlaces}
use Rattle.vlog_tree.specs.declared.item.NamePlace.{NamePlace}
use Rattle.vlog_tree.specs.declared.item.Item.{Item, out-Item}
use Rattle.vlog_tree.specs.declared.item.ItemKind.{ItemKind, out-ItemKind, roll-ItemKind, roll-out-ItemKind}
use Rattle.vlog_tree.specs.declared.item.ItemKind.TheOpen as i
use Rattle.vlog_tree.specs.declared.item.ItemKind.TheVariants as kind
use Rattle.vlog_tree.specs.Trees.{Layer, layer}
use Rattle.scope_meaning.specs.Declared.{is_region}

-- what is made of a layer, and is no region, has no region's layer
no_region : (l : Layer) (k : ItemKind) → roll-ItemKind l ≡ k → ((items : List Item) → k ≡ kind.Generate items → ⊥) → is_region l ≡ false
no_region (i.Generate items) k e never = absurd (never items (sym e ∙ kind.rolls-Generate items))
no_region (i.Wire signed range names) k e never = refl
no_region (i.Reg signed range names) k e never = refl
no_region (i.Integer names) k e never = refl
no_region (i.Genvar names) k e never = refl
no_region (i.Parameter is_local form names) k e never = refl
no_region (i.Assign parts) k e never = refl
no_region (i.Initial body) k e never = refl
no_region (i.Always clock body) k e never = refl
no_region (i.Cover word label clock test) k e never = refl
no_region (i.Instances of params made) k e never = refl
no_region (i.Loop name from test step_name step block places body) k e never = refl
no_region (i.Choose arms last) k e never = refl

-- An item whose kind is no region is none.
pub is_no_region : (a : Item) → ((items : List Item) → (out-Item a).what ≡ kind.Generate items → ⊥) → is_region (layer a) ≡ false
is_no_region a never = no_region (layer a) (out-Item a).what (roll-out-ItemKind (out-Item a).what) never

-- and one whose kind is a region is one.
pub region_there : (a : Item) (items : List Item) → (out-Item a).what ≡ kind.Generate items → is_region (layer a) ≡ false → ⊥
region_there a items e none = false≢true (sym none ∙ ap is_region (ap out-ItemKind e ∙ kind.outs-Generate items))

-- A generate loop is one with the same names and items.
pub same_loop : (a : Item) (name other step_name other_step : List ℕ) (from test step : Expr) (block : NamePlace) (places : BlockPlaces)
    (body items : List Item)
    → layer a ≡ i.Loop name from test step_name step block places body → other ≡ name → other_step ≡ step_name → items ≡ body
    → layer a ≡ i.Loop other from test other_step step block places items
same_loop a name other step_name other_step from test step block places body items e same same_step same_body =
    e ∙ ap (λ (n : List ℕ). i.Loop n from test step_name step block places body) (sym same)
    ∙ ap (λ (n : List ℕ). i.Loop other from test n step block places body) (sym same_step)
    ∙ ap (λ (rows : List Item). i.Loop other from test other_step step block places rows) (sym same_body)

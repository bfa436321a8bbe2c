-- The names that an item declares by `parameter`, by what it is.
use Rattle.std.proofs.Common.{◌≡◌, ◌∙◌, sym, ap, refl, ℕ, ◌++◌, List, [], ◌∷◌, map, Result, subst}
use Rattle.std.specs.Prelude.{IfOk}
use Rattle.cov_types.specs.declared.no_memory.NoMemory.{NoMemory}
use Rattle.std.specs.List.{flat_map}
use Rattle.vlog_tree.specs.declared.item.Item.{Item, out-Item, fold_out-Item}
use Rattle.vlog_tree.specs.declared.item.ItemKind.{ItemKind, fold-ItemKind, fold-roll-ItemKind}
use Rattle.vlog_tree.specs.declared.item.ItemKind.TheVariants as i
use Rattle.vlog_tree.specs.declared.item.ItemKind.TheOpen as o
use Rattle.scope_meaning.specs.Overrides.{parameters_of, kind_parameters}

abbrev Names : Type 0
Names = List (List ℕ)

abbrev says : ItemKind → Names
says = fold-ItemKind Names Names Names Names kind_parameters (λ arm. []) (λ body. []) (λ a. a.what)

of_item : (a : Item) → parameters_of a ≡ says (out-Item a).what
of_item a = fold_out-Item Names Names Names Names kind_parameters (λ arm. []) (λ body. []) (λ a. a.what) a

flat_map-map : (f : Item → Names) (items : List Item) → flat_map (λ (ns : Names). ns) (map f items) ≡ flat_map f items
flat_map-map f [] = refl
flat_map-map f (a ∷ items) = ap (λ ns. f a ++ ns) (flat_map-map f items)

says-Generate : (items : List Item) → says (i.Generate items) ≡ flat_map parameters_of items
says-Generate items =
    ap says (sym (i.rolls-Generate items))
    ∙ fold-roll-ItemKind Names Names Names Names kind_parameters (λ arm. []) (λ body. []) (λ a. a.what) (o.Generate items)
    ∙ flat_map-map parameters_of items

-- the names of a region are those of its items
pub in_region : (a : Item) (items slice : List Item) (before : Names) (r : Result Names NoMemory) → (out-Item a).what ≡ i.Generate items → slice ≡ items
    → IfOk r (λ all. all ≡ before ++ flat_map parameters_of slice) → IfOk r (λ all. all ≡ before ++ parameters_of a)
in_region a items slice before r is same =
    let e : flat_map parameters_of slice ≡ parameters_of a = ap (flat_map parameters_of) same ∙ sym (of_item a ∙ ap says is ∙ says-Generate items) in
    subst (λ (ns : Names). IfOk r (λ all. all ≡ before ++ ns)) e

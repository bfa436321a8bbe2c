-- The variables of an item, by what it is.
use Rattle.std.proofs.Common.{◌≡◌, ◌∙◌, sym, ap, refl, subst, ℕ, ◌+◌, ◌<◌, Bool, List, [], ◌∷◌, ◌++◌, length, take, get_or, map, Option, Result}
use Rattle.std.specs.Prelude.{IfOk}
use Rattle.std.proofs.lemmas.List.{take_more, map-append}
use Rattle.cov_types.specs.declared.no_memory.NoMemory.{NoMemory}
use Rattle.vlog_tree.specs.declared.expression.RangeExpr.{RangeExpr}
use Rattle.vlog_tree.specs.declared.item.NamePlace.{NamePlace}
use Rattle.vlog_tree.specs.declared.item.WireName.{WireName}
use Rattle.vlog_tree.specs.declared.item.RegName.{RegName}
use Rattle.vlog_tree.specs.declared.item.Item.{Item, out-Item}
use Rattle.vlog_tree.specs.declared.item.ItemKind.{ItemKind, out-ItemKind}
use Rattle.vlog_tree.specs.declared.item.ItemKind.TheVariants as i
use Rattle.vlog_tree.specs.declared.item.ItemKind.TheOpen as o
use Rattle.vlog_tree.specs.Trees.{Layer, layer}
use Rattle.cov_types.specs.declared.kind.VarKind.TheVariants as kind
use Rattle.elab_types.specs.declared.flat_source.FlatVar.{FlatVar}
use Rattle.scope_meaning.specs.Constants.{Names}
use Rattle.flat_source_meaning.specs.Variables.{declared_variables, variable, span_or_scalar, reg_variable, integer_variable}

abbrev Vars : Type 0
Vars = Result (List FlatVar) NoMemory

-- one more of a list
pub more : {X : Type 0} (f : X → FlatVar) (xs : List X) (k : ℕ) (x : X) (old new : List FlatVar) (v : FlatVar) → k < length xs → x ≡ get_or xs k x
    → old ≡ map f (take k xs) → v ≡ f x → new ≡ old ++ v ∷ [] → new ≡ map f (take (k + 1) xs)
more {X} f xs k x old new v lt is h e n =
    n ∙ ap (λ l. l ++ v ∷ []) h ∙ ap (λ w. map f (take k xs) ++ w ∷ []) e ∙ sym (map-append f (take k xs) (x ∷ []))
    ∙ ap (map f) (sym (take_more xs k x lt ∙ ap (λ (y : X). take k xs ++ y ∷ []) (sym is)))

by_layer : (known : Names) (scope : ℕ) (a : Item) (l : Layer) (vs : List FlatVar) (r : Vars) → layer a ≡ l → declared_variables known scope l ≡ vs
    → IfOk r (λ all. all ≡ vs) → IfOk r (λ all. all ≡ declared_variables known scope (layer a))
by_layer known scope a l vs r h e k =
    subst (λ (ws : List FlatVar). IfOk r (λ all. all ≡ ws)) (sym (ap (declared_variables known scope) h ∙ e)) k

pub in_Wire : (known : Names) (scope : ℕ) (signed : Bool) (range : Option RangeExpr) (names slice : List WireName) (a : Item) (r : Vars)
    → (out-Item a).what ≡ i.Wire signed range names → slice ≡ names
    → IfOk r (λ all. all ≡ map (λ w. variable scope kind.Wire signed (span_or_scalar known range) w.name 0) slice)
    → IfOk r (λ all. all ≡ declared_variables known scope (layer a))
in_Wire known scope signed range names slice a r is same k =
    by_layer known scope a (o.Wire signed range names) _ r (ap out-ItemKind is ∙ i.outs-Wire signed range names) refl
    (subst (λ (l : List WireName). IfOk r (λ all. all ≡ map (λ w. variable scope kind.Wire signed (span_or_scalar known range) w.name 0) l)) same k)

pub in_Reg : (known : Names) (scope : ℕ) (signed : Bool) (range : Option RangeExpr) (names slice : List RegName) (a : Item) (r : Vars)
    → (out-Item a).what ≡ i.Reg signed range names → slice ≡ names
    → IfOk r (λ all. all ≡ map (reg_variable known scope signed (span_or_scalar known range)) slice)
    → IfOk r (λ all. all ≡ declared_variables known scope (layer a))
in_Reg known scope signed range names slice a r is same k =
    by_layer known scope a (o.Reg signed range names) _ r (ap out-ItemKind is ∙ i.outs-Reg signed range names) refl
    (subst (λ (l : List RegName). IfOk r (λ all. all ≡ map (reg_variable known scope signed (span_or_scalar known range)) l)) same k)

pub in_Integer : (known : Names) (scope : ℕ) (names slice : List NamePlace) (a : Item) (r : Vars) → (out-Item a).what ≡ i.Integer names → slice ≡ names
    → IfOk r (λ all. all ≡ map (integer_variable scope) slice) → IfOk r (λ all. all ≡ declared_variables known scope (layer a))
in_Integer known scope names slice a r is same k =
    by_layer known scope a (o.Integer names) _ r (ap out-ItemKind is ∙ i.outs-Integer names) refl
    (subst (λ (l : List NamePlace). IfOk r (λ all. all ≡ map (integer_variable scope) l)) same k)

-- What the walk knows of instances that nothing refuses.
use Rattle.std.proofs.Common.{◌≡◌, ℕ, Bool, true, false, cond, ◌||◌, List, [], ◌∷◌, Option, Some, None, zero-add, refl, subst, sym, ap, ◌∙◌}
use Rattle.std.specs.Prelude.{slice_get}
use Rattle.std.specs.Borrow.{Bor}
use Rattle.std.specs.Global.{Box}
use Rattle.vlog_tree.specs.declared.item.Item.{Item}
use Rattle.vlog_tree.specs.declared.item.ItemKind.TheOpen as i
use Rattle.vlog_tree.specs.declared.item.Conns.{Conns}
use Rattle.vlog_tree.specs.declared.item.Instance.{Instance}
use Rattle.vlog_tree.specs.declared.module.Module.{Module}
use Rattle.vlog_tree.specs.Trees.{layer, item_place}
use Rattle.scope_meaning.specs.Declared.{is_in, names_of}
use Rattle.scope_meaning.specs.Heads.{module_named}
use Rattle.scope_meaning.specs.Scope.{Here, At}
use Rattle.scope_meaning.specs.Standing.{standing_item}
use Rattle.scope_meaning.specs.ScopeRules.{refusal_at}
use Rattle.walk_state.specs.declared.left.MadeBy.{MadeBy}
use Rattle.walk_steps.proofs.Places.{never_recursive}
use Rattle.elab_modules.proofs.Names.{named-at}
use Rattle.walk_makes.specs.Made.{IsMadeBy}

or_false : (b : Bool) → (b || false) ≡ false → b ≡ false
or_false true e = e
or_false false e = refl

-- The module is none of those around.
pub is_fresh : (design : List Module) (here : Here) (at : At) (a : Item) (of : List ℕ) (params : Conns) (made : List Instance)
    → refusal_at design (standing_item here at (item_place a) (names_of a) (i.Instances of params made)) ≡ None → is_in of here.above ≡ false
is_fresh design here at a of params made e =
    or_false (is_in of here.above) (never_recursive design (standing_item here at (item_place a) (names_of a) (i.Instances of params made)) e)

-- a module that is found has the name that it was found by
pub named_so : (design : List Module) (name : List ℕ) {number : ℕ} {m : Module} → module_named design name ≡ Some (number, m) → name ≡ m.name
named_so design name {number} {m} found = (named-at 0 design name (number, m) found).name

-- the module at the number of a module that is found is that one
out : Module → Option Module → Module
out m (Some n) = n
out m None = m

pub module_is : (design : List Module) (name : List ℕ) (number : ℕ) (m n : Module) → Some n ≡ slice_get design number
    → module_named design name ≡ Some (number, m) → n ≡ m
unfolding out
module_is design name number m n at found =
    let r = named-at 0 design name (number, m) found in
    ap (out n) (at ∙ ap (slice_get design) (r.number ∙ zero-add r.behind) ∙ r.stands)

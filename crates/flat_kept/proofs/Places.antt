-- The constants that are seen from a place.
use Rattle.std.proofs.Common.{◌≡◌, ◌∙◌, sym, ap, refl, subst, ℕ, Bool, List, [], ◌∷◌, Option, Some, None, Result, Ok, Err, Bor}
use Rattle.std.specs.Prelude.{OnOk}
use Rattle.std.specs.List.{filter}
use Rattle.cov_types.specs.declared.no_memory.NoMemory.{NoMemory}
use Rattle.cov_types.specs.declared.place.Place.{Place}
use Rattle.vlog_tree.specs.declared.item.Conns.{Conns}
use Rattle.vlog_tree.specs.declared.item.Item.{Item}
use Rattle.vlog_tree.specs.declared.module.Module.{Module}
use Rattle.vlog_tree.specs.declared.module.Port.{Port}
use Rattle.vlog_tree.specs.Trees.{layer}
use Rattle.source_meaning.specs.Environment.{Named, constant, Environment}
use Rattle.elab_types.specs.declared.flat_source.FlatVar.{FlatVar}
use Rattle.scope_meaning.specs.Constants.{Constant, Names, stands_for, constants}
use Rattle.scope_meaning.specs.Heads.{names_here}
use Rattle.scope_meaning.specs.Scope.{Here, At, frames, Meant, a_constant, a_genvar, a_variable, no_value, constant_in, meaning_of}
use Rattle.scope_meaning.specs.Visits.{Visits, Visit, enters, sees, connects, has_constant, has_row, a_port, an_item, a_turn}
use Rattle.flat_source_meaning.specs.Variables.{variables_at, port_variable, declared_variables}
use Rattle.elab_constants.specs.declared.names.ConstantValue.{ConstantValue}
use Rattle.elab_names.specs.Frames.{IsValue}
use Rattle.flat_scopes.specs.declared.place.PlaceInScope.{PlaceInScope}
use Rattle.flat_scopes.specs.declared.scope.NameMeaning.{NameMeaning}
use Rattle.flat_scopes.specs.declared.scope.NameMeaning.TheVariants as means
use Rattle.flat_scopes.specs.declared.scope.SeenScope.{SeenScope}
use Rattle.flat_scopes.specs.Frames.{AreFramesAt, Means}
use Rattle.flat_scopes.specs.Meanings.{meaning_by}
use Rattle.flat_scopes.proofs.Places.{means_at}
use Rattle.flat_spots.specs.declared.spot.Spot.{Spot}
use Rattle.flat_spots.specs.declared.spot.Spot.TheVariants as spot
use Rattle.flat_spots.specs.Spots.{IsPlaceOf, IsSpotOf}
use Rattle.flat_kept.specs.declared.names.PlaceNames.{PlaceNames}
use Rattle.flat_kept.specs.declared.kept.KeptVariables.{KeptVariables}
use Rattle.flat_kept.specs.Names.{stands, environment_at}
use Rattle.flat_kept.specs.Kept.{IsMore}
use Rattle.flat_kept.proofs.Steps.{no_more}

same_constant : (c : Constant) (v : ConstantValue) → IsValue c v → constant v.value.width v.signed v.value.bits ≡ constant c.width c.signed c.bits
same_constant c v h =
    ap (λ w. constant w v.signed v.value.bits) h.width ∙ ap (λ s. constant c.width s v.value.bits) h.signed ∙ ap (constant c.width c.signed) h.bits

same_stand : (m : Option Meant) (c : Option NameMeaning) → Means m c → stands c ≡ stands_for (constant_in m)
same_stand None None h = refl
same_stand None (Some (means.Constant v)) h = absurd h
same_stand None (Some means.Genvar) h = absurd h
same_stand None (Some (means.Variable s k)) h = absurd h
same_stand None (Some means.NoValue) h = absurd h
same_stand (Some (a_constant c)) None h = absurd h
same_stand (Some (a_constant c)) (Some (means.Constant v)) h = same_constant c v h
same_stand (Some (a_constant c)) (Some means.Genvar) h = absurd h
same_stand (Some (a_constant c)) (Some (means.Variable s k)) h = absurd h
same_stand (Some (a_constant c)) (Some means.NoValue) h = absurd h
same_stand (Some a_genvar) None h = absurd h
same_stand (Some a_genvar) (Some (means.Constant v)) h = absurd h
same_stand (Some a_genvar) (Some means.Genvar) h = refl
same_stand (Some a_genvar) (Some (means.Variable s k)) h = absurd h
same_stand (Some a_genvar) (Some means.NoValue) h = absurd h
same_stand (Some (a_variable n d)) None h = absurd h
same_stand (Some (a_variable n d)) (Some (means.Constant v)) h = absurd h
same_stand (Some (a_variable n d)) (Some means.Genvar) h = absurd h
same_stand (Some (a_variable n d)) (Some (means.Variable s k)) h = refl
same_stand (Some (a_variable n d)) (Some means.NoValue) h = absurd h
same_stand (Some no_value) None h = absurd h
same_stand (Some no_value) (Some (means.Constant v)) h = absurd h
same_stand (Some no_value) (Some means.Genvar) h = absurd h
same_stand (Some no_value) (Some (means.Variable s k)) h = absurd h
same_stand (Some no_value) (Some means.NoValue) h = refl

pub environments : (scopes : List SeenScope) (at : PlaceInScope) (p : PlaceNames) → p.scopes.now.scopes.items ≡ scopes → p.at ≡ at
    → (here : Here) (place : At) → AreFramesAt scopes at (frames here place) → environment_at p ≡ constants (names_here here place)
environments scopes at p es ea here place seen = λ j. record { scope = 0; look = λ name. look_is name j }
  where
    look_is : (name : List ℕ) → stands (meaning_by p.scopes.now.scopes.items p.at name) ≡ stands_for (constant_in (meaning_of (frames here place) name))
    look_is name =
        ap (λ (s : List SeenScope). stands (meaning_by s p.at name)) es
        ∙ ap (λ (a : PlaceInScope). stands (meaning_by scopes a name)) ea
        ∙ same_stand (meaning_of (frames here place) name) (meaning_by scopes at name) (means_at scopes at name _ refl seen)

-- ---- the variables of a spot

pub made_same : (r : Result Unit NoMemory) (f : FlatVar → Bool) (xs ys : List FlatVar) (old new : KeptVariables) → xs ≡ ys
    → OnOk r (IsMore (filter f xs) old new) → OnOk r (IsMore (filter f ys) old new)
made_same r f xs ys old new e h = subst (λ (zs : List FlatVar). OnOk r (IsMore (filter f zs) old new)) e h

module _ (scopes : List SeenScope) (f : FlatVar → Bool) (r : Result Unit NoMemory) (at : PlaceInScope) (p : PlaceNames) (old new : KeptVariables)
    (env : (here : Here) (place : At) → AreFramesAt scopes at (frames here place) → environment_at p ≡ constants (names_here here place)) where
  port_at : (q : Bor Port) → ((known : Names) → environment_at p ≡ constants known → OnOk r (IsMore (filter f (port_variable known at.scope q.now ∷ [])) old new))
      → (v : Visit) → IsSpotOf scopes v (spot.Port at q) → OnOk r (IsMore (filter f (variables_at v)) old new)
  port_at q said (enters e) is = absurd is
  port_at q said (has_constant k c) is = absurd is
  port_at q said (has_row k i o) is = absurd is
  port_at q said (connects m) is = absurd is
  port_at q said (sees (a_turn pl names e)) is = absurd is
  port_at q said (sees (an_item here pl a)) is = absurd is
  port_at q said (sees (a_port here pl x)) is =
      made_same r f _ _ old new
      (ap (λ k. port_variable (names_here here pl) k q.now ∷ []) is.0.number ∙ ap (λ (y : Port). port_variable (names_here here pl) here.number y ∷ []) is.1)
      (said (names_here here pl) (env here pl is.0.seen))

  pub port_spot : (s : Spot) (q : Bor Port) → s ≡ spot.Port at q
      → ((known : Names) → environment_at p ≡ constants known → OnOk r (IsMore (filter f (port_variable known at.scope q.now ∷ [])) old new))
      → (v : Visit) → IsSpotOf scopes v s → OnOk r (IsMore (filter f (variables_at v)) old new)
  port_spot s q is said v h = port_at q said v (subst (IsSpotOf scopes v) is h)

  item_at : (q : Bor Item)
      → ((known : Names) → environment_at p ≡ constants known → OnOk r (IsMore (filter f (declared_variables known at.scope (layer q.now))) old new))
      → (v : Visit) → IsSpotOf scopes v (spot.Item at q) → OnOk r (IsMore (filter f (variables_at v)) old new)
  item_at q said (enters e) is = absurd is
  item_at q said (has_constant k c) is = absurd is
  item_at q said (has_row k i o) is = absurd is
  item_at q said (connects m) is = absurd is
  item_at q said (sees (a_turn pl names e)) is = absurd is
  item_at q said (sees (a_port here pl x)) is = absurd is
  item_at q said (sees (an_item here pl a)) is =
      made_same r f _ _ old new
      (ap (λ k. declared_variables (names_here here pl) k (layer q.now)) is.0.number
      ∙ ap (λ (y : Item). declared_variables (names_here here pl) here.number (layer y)) is.1)
      (said (names_here here pl) (env here pl is.0.seen))

  pub item_spot : (s : Spot) (q : Bor Item) → s ≡ spot.Item at q
      → ((known : Names) → environment_at p ≡ constants known → OnOk r (IsMore (filter f (declared_variables known at.scope (layer q.now))) old new))
      → (v : Visit) → IsSpotOf scopes v s → OnOk r (IsMore (filter f (variables_at v)) old new)
  item_spot s q is said v h = item_at q said v (subst (IsSpotOf scopes v) is h)

instance_at : (scopes : List SeenScope) (f : FlatVar → Bool) (kept : KeptVariables) (at : PlaceInScope) (place : Place) (makes : ℕ) (of : Bor Module)
    (ports : Bor Conns) (v : Visit) → IsSpotOf scopes v (spot.Instance at place makes of ports) → IsMore (filter f (variables_at v)) kept kept
instance_at scopes f kept at place makes of ports (enters e) is = absurd is
instance_at scopes f kept at place makes of ports (has_constant k c) is = absurd is
instance_at scopes f kept at place makes of ports (has_row k i o) is = absurd is
instance_at scopes f kept at place makes of ports (sees (a_turn pl names e)) is = absurd is
instance_at scopes f kept at place makes of ports (sees (a_port here pl x)) is = absurd is
instance_at scopes f kept at place makes of ports (sees (an_item here pl a)) is = absurd is
instance_at scopes f kept at place makes of ports (connects m) is = no_more kept

pub instance_spot : (scopes : List SeenScope) (f : FlatVar → Bool) (kept : KeptVariables) (at : PlaceInScope) (place : Place) (makes : ℕ) (of : Bor Module)
    (ports : Bor Conns) (s : Spot) → s ≡ spot.Instance at place makes of ports → (v : Visit) → IsSpotOf scopes v s → IsMore (filter f (variables_at v)) kept kept
instance_spot scopes f kept at place makes of ports s is v h = instance_at scopes f kept at place makes of ports v (subst (IsSpotOf scopes v) is h)

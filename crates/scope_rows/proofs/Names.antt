-- Where no name of a module stands twice, each module is found by its name.
use Rattle.std.proofs.Common.{◌≡◌, ◌∙◌, ap, sym, refl, subst, ℕ, zero, suc, ◌+◌, Bool, true, false, cond, ◌||◌, List, [], ◌∷◌, Option, Some, None, arith}
use Rattle.std.specs.Prelude.{slice_get}
use Rattle.std.specs.Str.{bytes_eq}
use Rattle.std.proofs.lemmas.Slice.Eq.{bytes_eq-Decides}
use Rattle.cov_types.specs.declared.place.Place.{Place}
use Rattle.vlog_tree.specs.declared.module.Module.{Module}
use Rattle.scope_meaning.specs.Declared.{is_in}
use Rattle.scope_meaning.specs.Overrides.{parameters}
use Rattle.scope_meaning.specs.Heads.{module_from, module_named}
use Rattle.scope_meaning.specs.ScopeTrees.{second_name}
use Rattle.elab_overrides.specs.Overrides.{AreParameters}
use Rattle.elab_modules.specs.declared.find.FoundModule.{FoundModule}
use Rattle.elab_modules.specs.Modules.{IsFound}

second-more : (before : List (List ℕ)) (m : Module) (ms : List Module)
    → second_name before (m ∷ ms) ≡ cond (is_in m.name before) (Some m.place) (second_name (m.name ∷ before) ms)
unfolding second_name
second-more before m ms = refl

from-more : (n : ℕ) (m : Module) (ms : List Module) (name : List ℕ)
    → module_from n (m ∷ ms) name ≡ cond (bytes_eq name m.name) (Some (n, m)) (module_from (n + 1) ms name)
unfolding module_from
from-more n m ms name = refl

record IsFresh (before : List (List ℕ)) (m : Module) (ms : List Module) : Type 0 where
  new : is_in m.name before ≡ false
  others : second_name (m.name ∷ before) ms ≡ None

fresh : (before : List (List ℕ)) (m : Module) (ms : List Module) → second_name before (m ∷ ms) ≡ None → IsFresh before m ms
fresh before m ms h = by (is_in m.name before) refl (sym (second-more before m ms) ∙ h)
  where
    by : (b : Bool) → is_in m.name before ≡ b → cond (is_in m.name before) (Some m.place) (second_name (m.name ∷ before) ms) ≡ None → IsFresh before m ms
    by true e k = let s : Some m.place ≡ None = ap (λ b. cond b (Some m.place) (second_name (m.name ∷ before) ms)) (sym e) ∙ k in cc
    by false e k = record { new = e; others = ap (λ b. cond b (Some m.place) (second_name (m.name ∷ before) ms)) (sym e) ∙ k }

apart : (a b : Bool) → (a || b) ≡ false → (a ≡ false) × (b ≡ false)
apart true b h = cc
apart false b h = (refl, h)

-- A name that stands further on stands nowhere before.
not_before : (before : List (List ℕ)) (ms : List Module) (n : ℕ) (m : Module) → second_name before ms ≡ None → slice_get ms n ≡ Some m
    → is_in m.name before ≡ false
not_before before [] n m h e = cc
not_before before (x ∷ ms) zero m h e =
    let same : Some x ≡ Some m = e in
    ap (λ (o : Option Module). named o) (sym same) ∙ (fresh before x ms h).new
  where
    named : Option Module → Bool
    named (Some y) = is_in y.name before
    named None = false
not_before before (x ∷ ms) (suc n) m h e =
    (apart (bytes_eq m.name x.name) (is_in m.name before) (not_before (x.name ∷ before) ms n m (fresh before x ms h).others e)).1

abbrev the : Module → Option Module → Module
the m (Some x) = x
the m None = m

by_name : (k : ℕ) (before : List (List ℕ)) (ms : List Module) (n : ℕ) (m : Module) → second_name before ms ≡ None → slice_get ms n ≡ Some m
    → module_from k ms m.name ≡ Some (k + n, m)
by_name k before [] n m h e = cc
by_name k before (x ∷ ms) zero m h e =
    let same : x ≡ m = ap (the m) e in
    from-more k x ms m.name
    ∙ ap (λ b. cond b (Some (k, x)) (module_from (k + 1) ms m.name)) ((bytes_eq-Decides m.name x.name).1 (ap (λ (y : Module). y.name) (sym same)))
    ∙ ap (λ (y : Module). Some (k, y)) same ∙ ap (λ j. Some (j, m)) (omega arith)
by_name k before (x ∷ ms) (suc n) m h e =
    let rest = (fresh before x ms h).others in
    from-more k x ms m.name
    ∙ ap (λ b. cond b (Some (k, x)) (module_from (k + 1) ms m.name))
    (apart (bytes_eq m.name x.name) (is_in m.name before) (not_before (x.name ∷ before) ms n m rest e)).0
    ∙ by_name (k + 1) (x.name ∷ before) ms n m rest e ∙ ap (λ j. Some (j, m)) (omega arith)

pub module_by_name : (design : List Module) (n : ℕ) (m : Module) → second_name [] design ≡ None → slice_get design n ≡ Some m
    → module_named design m.name ≡ Some (n, m)
module_by_name design n m h e = by_name 0 [] design n m h e ∙ ap (λ j. Some (j, m)) (omega arith)

-- its parameters, where it is found by its name
pub its_parameters : (design : List Module) (n : ℕ) (m : Module) (name : List ℕ) (f : FoundModule) → second_name [] design ≡ None → slice_get design n ≡ Some m
    → name ≡ m.name → IsFound (module_named design name) (Some f) → AreParameters (parameters m) f.parameters.now
its_parameters design n m name f single there same h =
    (subst (λ (p : Option (ℕ × Module)). IsFound p (Some f)) (ap (module_named design) same ∙ module_by_name design n m single there) h).2

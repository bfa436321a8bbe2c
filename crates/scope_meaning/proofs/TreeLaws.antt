-- A design with a tree is refused nowhere, and one without has one first fault.
use Rattle.std.proofs.Common.{◌≡◌, ◌<◌, inl, inr, ℕ, Bool, true, false, cond, List, [], ◌∷◌, ◌++◌, map, Option, Some, None, refl, subst, ap, sym, ◌∙◌, arith}
use Rattle.std.proofs.Common.{append_assoc}
use Rattle.std.proofs.lemmas.Bool.{ltb-true}
use Rattle.std.specs.List.{find}
use Rattle.elab_types.specs.declared.elab_fault.ElabFault.{ElabFault}
use Rattle.vlog_tree.specs.declared.module.Module.{Module}
use Rattle.scope_meaning.specs.Visits.{Visits, Visit}
use Rattle.scope_meaning.specs.Standing.{Standing, standing}
use Rattle.scope_meaning.specs.ScopeRules.{ScopeRule, duplicate, not_constant, bad_select, bad_range, width_past_128, bad_genvar, unknown_module, bad_override}
use Rattle.scope_meaning.specs.ScopeRules.{recursive, rules, refuses, refusal, first_of, memory_fault, has_large_memory, Refuses, by_rule, by_memory, by_scopes}
use Rattle.scope_meaning.specs.ScopeTrees.{modules, IsSomeRefusal, IsFirstRefusal, early_fault, later_or, TreeExcludesFault, OneFirstFault}
use Rattle.scope_meaning.proofs.WalkLaws.{walks_agree, none_some, same}
use Rattle.scope_meaning.proofs.CutWalks.{Meet, one_is_front}

cond_none : {A : Type 0} (b : Bool) (a : A) (o : Option A) → cond b (Some a) o ≡ None → o ≡ None
cond_none true a o e = none_some a (sym e)
cond_none false a o e = e

-- where the first that passes a test is none, none of them passes it
none_passes : (test : ScopeRule → Bool) (ys zs : List ScopeRule) (r : ScopeRule) → find test (ys ++ r ∷ zs) ≡ None → test r ≡ true → ⊥
none_passes test [] zs r e t = none_some r (sym (subst (λ (b : Bool). cond b (Some r) (find test zs) ≡ None) t e))
none_passes test (y ∷ ys) zs r e t = none_passes test ys zs r (cond_none (test y) y (find test (ys ++ r ∷ zs)) e) t

no_rule : (test : ScopeRule → Bool) → find test rules ≡ None → (r : ScopeRule) → test r ≡ true → ⊥
no_rule test e duplicate t = none_passes test ([])
    (not_constant ∷ bad_select ∷ bad_range ∷ width_past_128 ∷ bad_genvar ∷ unknown_module ∷ bad_override ∷ recursive ∷ []) duplicate e t
no_rule test e not_constant t = none_passes test (duplicate ∷ [])
    (bad_select ∷ bad_range ∷ width_past_128 ∷ bad_genvar ∷ unknown_module ∷ bad_override ∷ recursive ∷ []) not_constant e t
no_rule test e bad_select t = none_passes test (duplicate ∷ not_constant ∷ [])
    (bad_range ∷ width_past_128 ∷ bad_genvar ∷ unknown_module ∷ bad_override ∷ recursive ∷ []) bad_select e t
no_rule test e bad_range t = none_passes test (duplicate ∷ not_constant ∷ bad_select ∷ [])
    (width_past_128 ∷ bad_genvar ∷ unknown_module ∷ bad_override ∷ recursive ∷ []) bad_range e t
no_rule test e width_past_128 t = none_passes test (duplicate ∷ not_constant ∷ bad_select ∷ bad_range ∷ [])
    (bad_genvar ∷ unknown_module ∷ bad_override ∷ recursive ∷ []) width_past_128 e t
no_rule test e bad_genvar t = none_passes test (duplicate ∷ not_constant ∷ bad_select ∷ bad_range ∷ width_past_128 ∷ [])
    (unknown_module ∷ bad_override ∷ recursive ∷ []) bad_genvar e t
no_rule test e unknown_module t = none_passes test (duplicate ∷ not_constant ∷ bad_select ∷ bad_range ∷ width_past_128 ∷ bad_genvar ∷ [])
    (bad_override ∷ recursive ∷ []) unknown_module e t
no_rule test e bad_override t = none_passes test (duplicate ∷ not_constant ∷ bad_select ∷ bad_range ∷ width_past_128 ∷ bad_genvar ∷ unknown_module ∷ [])
    (recursive ∷ []) bad_override e t
no_rule test e recursive t = none_passes test
    (duplicate ∷ not_constant ∷ bad_select ∷ bad_range ∷ width_past_128 ∷ bad_genvar ∷ unknown_module ∷ bad_override ∷ []) ([]) recursive e t

head_of : {A : Type 0} → A → List A → A
head_of d [] = d
head_of d (x ∷ xs) = x

tail_of : {A : Type 0} → List A → List A
tail_of [] = []
tail_of (x ∷ xs) = xs

calm_at : (f : Visit → Option ElabFault) (before after : Visits) (v : Visit) → map f (before ++ v ∷ after) ≡ map (λ x. None) (before ++ v ∷ after) → f v ≡ None
unfolding head_of tail_of
calm_at f [] after v e = ap (head_of None) e
calm_at f (x ∷ before) after v e = calm_at f before after v (ap tail_of e)

no_first : (x : Standing) (o : Option ScopeRule) → first_of x o ≡ None → o ≡ None
no_first x (Some r) e = none_some _ (sym e)
no_first x None e = refl

no_memory : (x : Standing) (o : Option ScopeRule) → first_of x o ≡ None → has_large_memory x ≡ true → ⊥
no_memory x (Some r) e t = none_some _ (sym e)
no_memory x None e t = none_some _ (sym (subst (λ (b : Bool). memory_fault b ≡ None) t e))

past_scopes : (b : Bool) (found : ElabFault) → cond b None (Some found) ≡ None → b ≡ true
past_scopes true found e = refl
past_scopes false found e = none_some found (sym e)

refused : (design : List Module) (v : Visit) (found : ElabFault) → Refuses design v found → refusal design v ≡ None → ⊥
refused design v found (by_rule {spot} rule t) e = no_rule (refuses design (standing spot)) (no_first (standing spot) _ e) rule t
refused design v found (by_memory {spot} t) e = no_memory (standing spot) _ e t
refused design v found (by_scopes {entry} h) e = let b : entry.number < 65536 = ltb-true entry.number 65536 (past_scopes _ _ e) in omega (arith, b, h)

pub tree_excludes_fault : TreeExcludesFault
tree_excludes_fault files top tree found t f =
    let later : IsSomeRefusal (modules files) top found = subst (later_or (IsSomeRefusal (modules files) top found) found) t.early f in
    let agree : (rest : Visits) × (t.vs ≡ (later.before ++ later.at ∷ later.after) ++ rest) = walks_agree (modules files) top t.vs (later.before
    ++ later.at ∷ later.after) later.whole t.walk later.walk in
    let whole : t.vs ≡ later.before ++ later.at ∷ (later.after ++ agree.0) = agree.1 ∙ append_assoc later.before (later.at ∷ later.after) agree.0 in
    refused (modules files) later.at found later.refused
    (calm_at (refusal (modules files)) later.before (later.after ++ agree.0) later.at (subst (λ (vs : Visits). map (refusal (modules files)) vs
    ≡ map (λ x. None) vs) whole t.calm))

-- the first of a list with a fault is one
first_is_one : (f : Visit → Option ElabFault) (b1 b2 : Visits) (a1 a2 : Visit) (c1 c2 : Visits) (x y : ElabFault)
    → b1 ++ a1 ∷ c1 ≡ b2 ++ a2 ∷ c2 → map f b1 ≡ map (λ v. None) b1 → map f b2 ≡ map (λ v. None) b2 → f a1 ≡ Some x → f a2 ≡ Some y → x ≡ y
unfolding head_of tail_of
first_is_one f [] [] a1 a2 c1 c2 x y e m n p q = same _ _ (sym p ∙ ap f (ap (head_of a1) e) ∙ q)
first_is_one f [] (z ∷ b2) a1 a2 c1 c2 x y e m n p q = none_some x (sym (ap (head_of None) n) ∙ sym (ap f (ap (head_of a1) e)) ∙ p)
first_is_one f (z ∷ b1) [] a1 a2 c1 c2 x y e m n p q = none_some y (sym (ap (head_of None) m) ∙ ap f (ap (head_of z) e) ∙ q)
first_is_one f (z ∷ b1) (z' ∷ b2) a1 a2 c1 c2 x y e m n p q = first_is_one f b1 b2 a1 a2 c1 c2 x y (ap tail_of e) (ap tail_of m) (ap tail_of n) p q

one_refusal : (design : List Module) (top : List ℕ) (found other : ElabFault) → IsFirstRefusal design top found → IsFirstRefusal design top other
    → found ≡ other
one_refusal design top found other a b = by_front (one_is_front a.walk b.walk)
  where
    by_front : Meet (a.before ++ a.at ∷ a.after) (b.before ++ b.at ∷ b.after) → found ≡ other
    by_front (inl g) = first_is_one (refusal design) a.before b.before a.at b.at a.after (b.after ++ g.0) found other
        (g.1 ∙ append_assoc b.before (b.at ∷ b.after) g.0) a.calm b.calm a.refused b.refused
    by_front (inr g) = sym (first_is_one (refusal design) b.before a.before b.at a.at b.after (a.after ++ g.0) other found
        (g.1 ∙ append_assoc a.before (a.at ∷ a.after) g.0) b.calm a.calm b.refused a.refused)

by_early : (early : Option ElabFault) (later other_later : Type 0) (found other : ElabFault) → (later → other_later → found ≡ other)
    → later_or later found early → later_or other_later other early → found ≡ other
by_early (Some x) later other_later found other h a b = a ∙ sym b
by_early None later other_later found other h a b = h a b

pub one_first_fault : OneFirstFault
one_first_fault files top found other a b =
    by_early (early_fault (modules files) top) (IsFirstRefusal (modules files) top found) (IsFirstRefusal (modules files) top other) found other
    (one_refusal (modules files) top found other) a b

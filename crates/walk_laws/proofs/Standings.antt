-- How a place of a walk follows from the one before it, and what a refusal or the end there says.
use Rattle.std.proofs.Common.{◌≡◌, ℕ, Bool, true, false, List, [], ◌∷◌, ◌++◌, map, Option, Some, None, refl, subst, sym, ap, ◌∙◌, append_assoc, append-nil}
use Rattle.elab_types.specs.declared.elab_fault.ElabFault.{ElabFault}
use Rattle.vlog_tree.specs.declared.module.Module.{Module}
use Rattle.scope_meaning.specs.Scope.{At}
use Rattle.scope_meaning.specs.Visits.{Visit, Visits}
use Rattle.scope_meaning.specs.ScopeRules.{refusal}
use Rattle.scope_meaning.specs.ScopeTrees.{IsWalkOf, IsFirstRefusal}
use Rattle.walk_laws.specs.Rest.{Task, Rest, at_end}
use Rattle.walk_laws.specs.Stands.{AreCalm, Stands}

map-append : {A B : Type 0} (f : A → B) (xs ys : List A) → map f (xs ++ ys) ≡ map f xs ++ map f ys
map-append f [] ys = refl
map-append f (x ∷ xs) ys = ap (λ zs. f x ∷ zs) (map-append f xs ys)

pub calm-append : (design : List Module) (vs ws : Visits) → AreCalm design vs → AreCalm design ws → AreCalm design (vs ++ ws)
calm-append design vs ws v w =
    map-append (refusal design) vs ws
    ∙ ap (λ (zs : List (Option ElabFault)). zs ++ map (refusal design) ws) v
    ∙ ap (λ (zs : List (Option ElabFault)). map (λ x. None) vs ++ zs) w
    ∙ sym (map-append (λ (x : Visit). None) vs ws)

-- The walk goes on.
pub goes_on_to : {design : List Module} {top : List ℕ} {done : Visits} {left : List Task} {at : At} (vs : Visits) {new : List Task} {by : At}
    → Stands design top done left at → AreCalm design vs
    → ((ws : Visits) (w : Bool) → Rest design new by ws w → Rest design left at (vs ++ ws) w)
    → Stands design top (done ++ vs) new by
goes_on_to {design} {top} {done} vs s calm step = record {
  calm = calm-append design done vs s.calm calm;
  onward = λ ws w r. subst (λ (us : Visits). IsWalkOf design top us w) (sym (append_assoc done vs ws)) (s.onward (vs ++ ws) w (step ws w r));
}

-- Something is refused there, behind visits in which nothing is.
pub refused_there : {design : List Module} {top : List ℕ} {done : Visits} {left : List Task} {at : At} {found : ElabFault} (before : Visits)
    (v : Visit) (after : Visits)
    → Stands design top done left at → AreCalm design before → Rest design left at (before ++ v ∷ after) false → refusal design v ≡ Some found
    → IsFirstRefusal design top found
refused_there {design} {top} {done} before v after s calm r e = record {
  before = done ++ before;
  at = v;
  after = after;
  whole = false;
  walk = subst (λ (us : Visits). IsWalkOf design top us false) (sym (append_assoc done before (v ∷ after))) (s.onward (before ++ v ∷ after) false r);
  calm = calm-append design done before s.calm calm;
  refused = e;
}

-- Nothing is left.
pub walked_whole : {design : List Module} {top : List ℕ} {done : Visits} {at : At} → Stands design top done [] at → IsWalkOf design top done true
walked_whole {design} {top} {done} s = subst (λ (us : Visits). IsWalkOf design top us true) (append-nil done) (s.onward [] true at_end)

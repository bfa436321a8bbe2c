-- What names mean at places, and places among more scopes.
use Rattle.std.proofs.Common.{
  ◌≡◌,
  ◌∙◌,
  sym,
  ap,
  refl,
  subst,
  ℕ,
  zero,
  suc,
  ◌<◌,
  ◌≤◌,
  cond,
  nat_lt,
  true,
  false,
  Bool,
  arith,
  ltb-true,
  lt-ltb,
  List,
  [],
  ◌∷◌,
  ◌++◌,
  length,
  slice_get,
  Option,
  Some,
  None,
}
use Rattle.std.specs.List.{find}
use Rattle.std.specs.Str.{bytes_eq}
use Rattle.scope_meaning.specs.Declared.{Declared}
use Rattle.scope_meaning.specs.Scope.{Frame, Meant, meaning_of, genvar_of, in_frame}
use Rattle.flat_scopes.specs.declared.place.PlaceInScope.{PlaceInScope}
use Rattle.flat_scopes.specs.declared.scope.NameMeaning.{NameMeaning}
use Rattle.flat_scopes.specs.declared.scope.SeenScope.{SeenScope}
use Rattle.flat_scopes.specs.Said.{said, or_outside}
use Rattle.flat_scopes.specs.Meanings.{outside_by, in_scope, where_found, look_up, meaning_by}
use Rattle.flat_scopes.specs.Frames.{IsFrameAt, AreFramesAt, seen_from, AreOutside, nothing, around, Means}
use Rattle.flat_scopes.proofs.Meanings.{scope_means}

-- ---- how many scopes are looked through doesn't matter, where they are enough

same_outside : (f g : PlaceInScope → Option NameMeaning) (n : ℕ) (outer : Option PlaceInScope) → ((at : PlaceInScope) → at.scope < n → f at ≡ g at)
    → outside_by f n outer ≡ outside_by g n outer
same_outside f g n None h = refl
same_outside f g n (Some at) h = by (nat_lt at.scope n) refl
  where
    by : (b : Bool) → nat_lt at.scope n ≡ b → cond (nat_lt at.scope n) (f at) None ≡ cond (nat_lt at.scope n) (g at) None
    by true e = ap (λ b. cond b (f at) None) e ∙ h at (ltb-true at.scope n e) ∙ sym (ap (λ b. cond b (g at) None) e)
    by false e = ap (λ b. cond b (f at) None) e ∙ sym (ap (λ b. cond b (g at) None) e)

same_found : (f g : PlaceInScope → Option NameMeaning) (at : PlaceInScope) (name : List ℕ) (s : Option SeenScope)
    → ((o : PlaceInScope) → o.scope < at.scope → f o ≡ g o) → where_found f at name s ≡ where_found g at name s
same_found f g at name None h = refl
same_found f g at name (Some s) h = ap (or_outside (said s at name)) (same_outside f g at.scope s.outer h)

pub enough : (n m : ℕ) (scopes : List SeenScope) (at : PlaceInScope) (name : List ℕ) → at.scope < n → at.scope < m
    → look_up n scopes at name ≡ look_up m scopes at name
enough zero m scopes at name lt gt = absurd (omega arith)
enough (suc n) zero scopes at name lt gt = absurd (omega arith)
enough (suc n) (suc m) scopes at name lt gt =
    same_found (λ o. look_up n scopes o name) (λ o. look_up m scopes o name) at name (slice_get scopes at.scope)
    (λ o below. enough n m scopes o name (omega arith) (omega arith))

-- what a name means is what it means in the scope, and outside it
pub unfolded : (scopes : List SeenScope) (at : PlaceInScope) (name : List ℕ)
    → where_found (λ outer. meaning_by scopes outer name) at name (slice_get scopes at.scope) ≡ meaning_by scopes at name
unfolded scopes at name =
    same_found (λ o. meaning_by scopes o name) (λ o. look_up at.scope scopes o name) at name (slice_get scopes at.scope)
    (λ o below. enough (suc o.scope) at.scope scopes o name (omega arith) below)

-- ---- the code's steps

pub in_some : (scopes : List SeenScope) (at : PlaceInScope) (name : List ℕ) (s : SeenScope) (r : Option NameMeaning) → Some s ≡ slice_get scopes at.scope
    → r ≡ in_scope (λ outer. meaning_by scopes outer name) at name s → r ≡ meaning_by scopes at name
in_some scopes at name s r here e = e ∙ ap (where_found (λ outer. meaning_by scopes outer name) at name) here ∙ unfolded scopes at name

pub in_none : (scopes : List SeenScope) (at : PlaceInScope) (name : List ℕ) → None ≡ slice_get scopes at.scope → None ≡ meaning_by scopes at name
in_none scopes at name here = ap (where_found (λ outer. meaning_by scopes outer name) at name) here ∙ unfolded scopes at name

pub within : (f : PlaceInScope → Option NameMeaning) (n : ℕ) (outer : Option PlaceInScope) (at : PlaceInScope) (r : Option NameMeaning) → outer ≡ Some at
    → at.scope < n → r ≡ f at → r ≡ outside_by f n outer
within f n outer at r e lt k = k ∙ sym (ap (outside_by f n) e ∙ ap (λ b. cond b (f at) None) (lt-ltb at.scope n lt))

pub beyond : (f : PlaceInScope → Option NameMeaning) (n : ℕ) (outer : Option PlaceInScope) (at : PlaceInScope) → outer ≡ Some at → n ≤ at.scope
    → None ≡ outside_by f n outer
beyond f n outer at e ge = sym (ap (outside_by f n) e ∙ by (nat_lt at.scope n) refl)
  where
    by : (b : Bool) → nat_lt at.scope n ≡ b → cond (nat_lt at.scope n) (f at) None ≡ None
    by true h = let lt : at.scope < n = ltb-true at.scope n h in absurd (omega arith)
    by false h = ap (λ b. cond b (f at) None) h

pub where_said : (f : PlaceInScope → Option NameMeaning) (at : PlaceInScope) (name : List ℕ) (s : SeenScope) (said_here : Option NameMeaning)
    (m : NameMeaning) → said_here ≡ said s at name → said_here ≡ Some m → Some m ≡ in_scope f at name s
where_said f at name s said_here m e is = sym (ap (λ x. or_outside x (outside_by f at.scope s.outer)) (sym e ∙ is))

pub where_unsaid : (f : PlaceInScope → Option NameMeaning) (at : PlaceInScope) (name : List ℕ) (s : SeenScope) (said_here r : Option NameMeaning)
    → said_here ≡ said s at name → said_here ≡ None → r ≡ outside_by f at.scope s.outer → r ≡ in_scope f at name s
where_unsaid f at name s said_here r e is k = k ∙ sym (ap (λ x. or_outside x (outside_by f at.scope s.outer)) (sym e ∙ is))

-- ---- what names mean at places

-- a scope that is there is the one of its number
found_is : (f : PlaceInScope → Option NameMeaning) (at : PlaceInScope) (name : List ℕ) (found : Option SeenScope) (s : SeenScope) → found ≡ Some s
    → where_found f at name found ≡ in_scope f at name s
found_is f at name found s e = ap (where_found f at name) e

mutual
  unfolding meaning_of

  pub means_by : (n : ℕ) (scopes : List SeenScope) (name : List ℕ) {at : PlaceInScope} {fs : List Frame} → at.scope < n → AreFramesAt scopes at fs
      → Means (meaning_of fs name) (look_up n scopes at name)
  means_by zero scopes name {at} lt (seen_from there is are) = absurd (omega arith)
  means_by (suc n) scopes name {at} lt (seen_from {f = f} {fs = fs} {s = s} there is are) =
      subst (Means (meaning_of (f ∷ fs) name))
      (sym (found_is (λ o. look_up n scopes o name) at name (slice_get scopes at.scope) s there))
      (scope_means f s at name (meaning_of fs name) (outside_by (λ o. look_up n scopes o name) at.scope s.outer) is
      (λ _. means_outside n scopes name at.scope (omega arith) are))

  means_outside : (n : ℕ) (scopes : List SeenScope) (name : List ℕ) (k : ℕ) {outer : Option PlaceInScope} {fs : List Frame} → k ≤ n
      → AreOutside scopes k outer fs → Means (meaning_of fs name) (outside_by (λ o. look_up n scopes o name) k outer)
  means_outside n scopes name k le nothing = tt
  means_outside n scopes name k le (around {at = o} {fs = fs} lt are) =
      subst (λ b. Means (meaning_of fs name) (cond b (look_up n scopes o name) None)) (sym (lt-ltb o.scope k lt)) (means_by n scopes name (omega arith) are)

-- what the code says of a name is what it means at a place
pub means_at : (scopes : List SeenScope) (at : PlaceInScope) (name : List ℕ) (r : Option NameMeaning) → r ≡ meaning_by scopes at name
    → {fs : List Frame} → AreFramesAt scopes at fs → Means (meaning_of fs name) r
means_at scopes at name r e {fs} are = subst (Means (meaning_of fs name)) (sym e) (means_by (suc at.scope) scopes name (omega arith) are)

-- ---- one scope more

get_before : (scopes : List SeenScope) (more : SeenScope) (n : ℕ) (s : SeenScope) → slice_get scopes n ≡ Some s → slice_get (scopes ++ more ∷ []) n ≡ Some s
get_before [] more n s e = cc
get_before (x ∷ xs) more zero s e = e
get_before (x ∷ xs) more (suc n) s e = get_before xs more n s e

get_last : (scopes : List SeenScope) (s : SeenScope) → slice_get (scopes ++ s ∷ []) (length scopes) ≡ Some s
get_last [] s = refl
get_last (x ∷ xs) s = get_last xs s

mutual
  pub places_stay : (scopes : List SeenScope) (more : SeenScope) {at : PlaceInScope} {fs : List Frame} → AreFramesAt scopes at fs
      → AreFramesAt (scopes ++ more ∷ []) at fs
  places_stay scopes more {at} (seen_from {s = s} there is are) = seen_from (get_before scopes more at.scope s there) is (outsides_stay scopes more are)

  pub outsides_stay : (scopes : List SeenScope) (more : SeenScope) {n : ℕ} {outer : Option PlaceInScope} {fs : List Frame}
      → AreOutside scopes n outer fs → AreOutside (scopes ++ more ∷ []) n outer fs
  outsides_stay scopes more nothing = nothing
  outsides_stay scopes more (around lt are) = around lt (places_stay scopes more are)

pub entered : (scopes new : List SeenScope) (s : SeenScope) (outer : Option PlaceInScope) (f : Frame) (fs : List Frame) → new ≡ scopes ++ s ∷ []
    → s.outer ≡ outer → f.number ≡ length scopes → IsFrameAt f s (record { scope = f.number; known = 0 }) → AreOutside scopes f.number outer fs
    → AreFramesAt new (record { scope = f.number; known = 0 }) (f ∷ fs)
entered scopes new s outer f fs e o n is are =
    subst (λ (l : List SeenScope). AreFramesAt l (record { scope = f.number; known = 0 }) (f ∷ fs)) (sym e)
    (seen_from (ap (slice_get (scopes ++ s ∷ [])) n ∙ get_last scopes s) is
    (outsides_stay scopes s (subst (λ (x : Option PlaceInScope). AreOutside scopes f.number x fs) (sym o) are)))

-- Scopes of which one has one more constant.
use Rattle.std.proofs.Common.{◌≡◌, ◌≢◌, ◌∙◌, sym, ap, refl, subst, inl, inr, ℕ, zero, suc, ◌+◌, ◌<◌, ◌≤◌, ◌==◌, Bool, true, false, cond, nat_lt, lt-ltb, le-ltb}
use Rattle.std.proofs.Common.{List, [], ◌∷◌, ◌++◌, length, set, get_or, slice_get, Option, Some, None, arith}
use Rattle.std.specs.Prelude.{◌⊎◌}
use Rattle.std.specs.List.{find}
use Rattle.std.specs.Option.{option_or}
use Rattle.std.specs.Str.{bytes_eq}
use Rattle.std.proofs.lemmas.Bool.Decides.{eqb_tells}
use Rattle.std.proofs.lemmas.List.Folds.{find-append}
use Rattle.scope_meaning.specs.Constants.{Constant, option_of}
use Rattle.scope_meaning.specs.Declared.{Declared}
use Rattle.scope_meaning.specs.Scope.{Frame}
use Rattle.elab_constants.specs.declared.names.ConstantValue.{ConstantValue}
use Rattle.elab_names.specs.Frames.{IsValue, IsValueIn, IsGenvar}
use Rattle.name_table.specs.declared.table.NameTable.{NameTable}
use Rattle.name_table.specs.Tables.{value_of, only}
use Rattle.flat_declared.specs.declared.declared.DeclaredKind.{DeclaredKind}
use Rattle.flat_declared.specs.Kinds.{kind_seen}
use Rattle.flat_scopes.specs.declared.place.PlaceInScope.{PlaceInScope}
use Rattle.flat_scopes.specs.declared.scope.KnownConstant.{KnownConstant}
use Rattle.flat_scopes.specs.declared.scope.SeenScope.{SeenScope}
use Rattle.flat_scopes.specs.Said.{visible}
use Rattle.flat_scopes.specs.Frames.{IsFrameAt, behind_all, HasOneMore, IsLast, AreFramesAt, seen_from, AreOutside, nothing, around}

-- ---- what is counted

counted_more : (o : Option KnownConstant) (name q : List ℕ) (count : ℕ) (value : ConstantValue) (c : KnownConstant)
    → ((d : KnownConstant) → o ≡ Some d → d.before < count) → option_or o (only name (behind_all count value) q) ≡ Some c → c.before < count + 1
counted_more (Some d) name q count value c h e =
    let same : d ≡ c = cc in
    let lt : c.before < count = subst (λ (x : KnownConstant). x.before < count) same (h d refl) in
    omega arith
counted_more None name q count value c h e = by (bytes_eq q name) e
  where
    by : (b : Bool) → cond b (Some (behind_all count value)) None ≡ Some c → c.before < count + 1
    by true k = let same : behind_all count value ≡ c = cc in subst (λ (x : KnownConstant). x.before < count + 1) same (omega arith)
    by false k = cc

counted : (name : List ℕ) (value : ConstantValue) (old new : SeenScope) → HasOneMore name value old new
    → ((q : List ℕ) (c : KnownConstant) → value_of old.known q ≡ Some c → c.before < old.count)
    → (q : List ℕ) (c : KnownConstant) → value_of new.known q ≡ Some c → c.before < new.count
counted name value old new more h q c e =
    subst (λ k. c.before < k) (sym more.count) (counted_more (value_of old.known q) name q old.count value c (h q) (sym (more.known q) ∙ e))

-- ---- places before

visible_before : (o : Option KnownConstant) (name q : List ℕ) (count k : ℕ) (value : ConstantValue) → k ≤ count
    → visible k (option_or o (only name (behind_all count value) q)) ≡ visible k o
visible_before (Some d) name q count k value le = refl
visible_before None name q count k value le = by (bytes_eq q name)
  where
    by : (b : Bool) → visible k (cond b (Some (behind_all count value)) None) ≡ None
    by true = ap (λ b. cond b (Some value) None) (le-ltb count k le)
    by false = refl

frame_stays : (name : List ℕ) (value : ConstantValue) (old new : SeenScope) (f : Frame) (at : PlaceInScope) → HasOneMore name value old new
    → IsFrameAt f old at → IsFrameAt f new at
frame_stays name value old new f at more is = record {
  number = is.number;
  within = let le = is.within in let e = more.count in omega arith;
  counted = counted name value old new more is.counted;
  declared = λ q. ap (λ (t : NameTable DeclaredKind). value_of t q) more.declared ∙ is.declared q;
  genvar = subst (IsGenvar f.genvar) (sym more.genvar) is.genvar;
  known = λ q.
      subst (IsValueIn (find (λ (c : Constant). bytes_eq q c.name) f.known))
      (sym (ap (visible at.known) (more.known q) ∙ visible_before (value_of old.known q) name q old.count at.known value is.within)) (is.known q);
}

-- ---- the place behind the constant

value_more : (a : Option Constant) (o : Option KnownConstant) (b : Bool) (c : Constant) (value : ConstantValue) (k : ℕ)
    → ((d : KnownConstant) → o ≡ Some d → d.before < k) → IsValueIn a (visible k o) → IsValue c value
    → IsValueIn (option_or a (cond b (Some c) None)) (visible (k + 1) (option_or o (cond b (Some (behind_all k value)) None)))
value_more a (Some d) b c value k h is v = by a (subst (IsValueIn a) (ap (λ t. cond t (Some d.value) None) (lt-ltb d.before k (h d refl))) is)
  where
    later : visible (k + 1) (Some d) ≡ Some d.value
    later = let lt = h d refl in ap (λ t. cond t (Some d.value) None) (lt-ltb d.before (k + 1) (omega arith))

    by : (x : Option Constant) → IsValueIn x (Some d.value) → IsValueIn (option_or x (cond b (Some c) None)) (visible (k + 1) (Some d))
    by (Some y) p = subst (IsValueIn (Some y)) (sym later) p
    by None p = absurd p
value_more None None true c value k h is v =
    subst (IsValueIn (Some c)) (sym (ap (λ t. cond t (Some value) None) (lt-ltb k (k + 1) (omega arith)))) v
value_more None None false c value k h is v = tt
value_more (Some y) None b c value k h is v = absurd is

frame_more : (name : List ℕ) (value : ConstantValue) (old new : SeenScope) (f : Frame) (scope k : ℕ) (c : Constant) → HasOneMore name value old new
    → IsFrameAt f old (record { scope = scope; known = k }) → old.count ≡ k → c.name ≡ name → IsValue c value
    → IsFrameAt (record f { known = f.known ++ c ∷ [] }) new (record { scope = scope; known = k + 1 })
frame_more name value old new f scope k c more is last named v = record {
  number = is.number;
  within = let e = more.count in omega arith;
  counted = counted name value old new more is.counted;
  declared = λ q. ap (λ (t : NameTable DeclaredKind). value_of t q) more.declared ∙ is.declared q;
  genvar = subst (IsGenvar f.genvar) (sym more.genvar) is.genvar;
  known = λ q.
      subst (λ (a : Option Constant). IsValueIn a (visible (k + 1) (value_of new.known q)))
      (sym (find-append (λ (d : Constant). bytes_eq q d.name) f.known (c ∷ [])))
      (subst (λ (o : Option KnownConstant). IsValueIn (option_or (find (λ (d : Constant). bytes_eq q d.name) f.known) (cond (bytes_eq q c.name) (Some c) None))
      (visible (k + 1) o))
      (sym (more.known q ∙ ap (λ n. option_or (value_of old.known q) (only name (behind_all n value) q)) last
      ∙ ap (λ m. option_or (value_of old.known q) (cond (bytes_eq q m) (Some (behind_all k value)) None)) (sym named)))
      (value_more (find (λ (d : Constant). bytes_eq q d.name) f.known) (value_of old.known q) (bytes_eq q c.name) c value k
      (λ d e. subst (λ n. d.before < n) last (is.counted q d e)) (is.known q) v));
}

-- ---- among all scopes

get_set : {X : Type 0} (xs : List X) (n : ℕ) (x : X) → n < length xs → slice_get (set xs n x) n ≡ Some x
get_set [] n x lt = absurd (omega arith)
get_set (y ∷ xs) zero x lt = refl
get_set (y ∷ xs) (suc n) x lt = get_set xs n x (omega arith)

get_other : {X : Type 0} (xs : List X) (n k : ℕ) (x : X) → k ≢ n → slice_get (set xs n x) k ≡ slice_get xs k
get_other [] n k x ne = refl
get_other (y ∷ xs) zero zero x ne = absurd (ne refl)
get_other (y ∷ xs) zero (suc k) x ne = refl
get_other (y ∷ xs) (suc n) zero x ne = refl
get_other (y ∷ xs) (suc n) (suc k) x ne = get_other xs n k x (λ e. ne (ap suc e))

same_scope : (x y : SeenScope) → Some x ≡ Some y → x ≡ y
same_scope x y e = cc

-- a place where the scopes outside it are known
place_stays : (name : List ℕ) (value : ConstantValue) (scopes : List SeenScope) (n : ℕ) (old new : SeenScope) → n < length scopes
    → slice_get scopes n ≡ Some old → HasOneMore name value old new → (at : PlaceInScope) (f : Frame) (fs : List Frame) (s : SeenScope)
    → slice_get scopes at.scope ≡ Some s → IsFrameAt f s at → AreOutside (set scopes n new) at.scope s.outer fs
    → (((at.scope == n) ≡ true) × (at.scope ≡ n)) ⊎ (((at.scope == n) ≡ false) × (at.scope ≢ n)) → AreFramesAt (set scopes n new) at (f ∷ fs)
place_stays name value scopes n old new lt here more at f fs s there is outside (inl p) =
    let same : s ≡ old = same_scope s old (sym there ∙ ap (slice_get scopes) p.1 ∙ here) in
    seen_from (ap (slice_get (set scopes n new)) p.1 ∙ get_set scopes n new lt)
    (frame_stays name value old new f at more (subst (λ (x : SeenScope). IsFrameAt f x at) same is))
    (subst (λ (o : Option PlaceInScope). AreOutside (set scopes n new) at.scope o fs) (ap (λ (x : SeenScope). x.outer) same ∙ sym more.outer) outside)
place_stays name value scopes n old new lt here more at f fs s there is outside (inr p) =
    seen_from (get_other scopes n at.scope new p.1 ∙ there) is outside

mutual
  pub places_stay : (name : List ℕ) (value : ConstantValue) (scopes : List SeenScope) (n : ℕ) (old new : SeenScope) → n < length scopes
      → slice_get scopes n ≡ Some old → HasOneMore name value old new → {at : PlaceInScope} {fs : List Frame} → AreFramesAt scopes at fs
      → AreFramesAt (set scopes n new) at fs
  places_stay name value scopes n old new lt here more {at} (seen_from {f = f} {fs = fs} {s = s} there is are) =
      place_stays name value scopes n old new lt here more at f fs s there is (outsides_stay name value scopes n old new lt here more are)
      (eqb_tells at.scope n)

  pub outsides_stay : (name : List ℕ) (value : ConstantValue) (scopes : List SeenScope) (n : ℕ) (old new : SeenScope) → n < length scopes
      → slice_get scopes n ≡ Some old → HasOneMore name value old new → {k : ℕ} {outer : Option PlaceInScope} {fs : List Frame}
      → AreOutside scopes k outer fs → AreOutside (set scopes n new) k outer fs
  outsides_stay name value scopes n old new lt here more nothing = nothing
  outsides_stay name value scopes n old new lt here more (around below are) = around below (places_stay name value scopes n old new lt here more are)

pub place_more : (name : List ℕ) (value : ConstantValue) (scopes : List SeenScope) (n : ℕ) (old new : SeenScope) (f : Frame) (fs : List Frame) (k : ℕ)
    (c : Constant) → n < length scopes → slice_get scopes n ≡ Some old → HasOneMore name value old new
    → AreFramesAt scopes (record { scope = n; known = k }) (f ∷ fs) → IsLast scopes n k → c.name ≡ name → IsValue c value
    → AreFramesAt (set scopes n new) (record { scope = n; known = k + 1 }) (record f { known = f.known ++ c ∷ [] } ∷ fs)
place_more name value scopes n old new f fs k c lt here more (seen_from {s = s} there is are) last named v =
    let same : s ≡ old = same_scope s old (sym there ∙ here) in
    seen_from (get_set scopes n new lt)
    (frame_more name value old new f n k c more (subst (λ (x : SeenScope). IsFrameAt f x (record { scope = n; known = k })) same is) (last old here) named v)
    (subst (λ (o : Option PlaceInScope). AreOutside (set scopes n new) n o fs) (ap (λ (x : SeenScope). x.outer) same ∙ sym more.outer)
    (outsides_stay name value scopes n old new lt here more are))

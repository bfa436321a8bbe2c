-- What a map of the gathered values of keys has as entries.
use Rattle.std.proofs.Common.{◌≡◌, Bool, true, false, cond, ◌&&◌, ◌||◌, List, [], ◌∷◌, map, Option, None, Some, option_map, Ordering, refl, sym, ap, ◌∙◌, subst}
use Rattle.std.proofs.Common.{T}
use Rattle.std.specs.declared.cmp.Ordering.TheVariants.{Less, Equal, Greater}
use Rattle.std.specs.List.{AllByRecursion, list_any}
use Rattle.std.specs.List.Sorted.{IsStrictlySortedBy}
use Rattle.std.specs.Map.{lookup, keys_of}
use Rattle.std.specs.Ordering.{eq_by_cmp, is_eq, is_lt}
use Rattle.std.specs.Cmp.{IsTotalOrder}
use Rattle.std.specs.BTreeMap.{is_at}
use Rattle.std.specs.FinMap.{IsAntisymmetric}
use Rattle.std.specs.FinMap.Entries.{find, is_sorted, below_all, is_sorted-put, find-put, same_entries}
use Rattle.report_text.specs.Items.{placed, in_order}

both : (a b : Bool) → T a → T b → T (a && b)
both true b p q = q
both false b p q = p

first : (a b : Bool) → T (a && b) → T a
first true b p = tt
first false b p = p

second : (a b : Bool) → T (a && b) → T b
second true b p = p
second false b p = absurd p

tied : (o : Ordering) → is_eq o ≡ true → o ≡ Equal
tied Less e = absurd (subst T (sym e) tt)
tied Equal e = refl
tied Greater e = absurd (subst T (sym e) tt)

-- whether a key stands in a map of keys alone
abbrev stands : Bool → Option (Unit {0})
stands true = Some tt
stands false = None

stands_either : (a b : Bool) → cond a (Some tt) (stands b) ≡ stands (a || b)
stands_either true b = refl
stands_either false b = refl

module _ {K : Type 0} (R : K → K → Ordering) where
  -- what std's two words for a look-up give is the same
  find-lookup : {X : Type 0} (q : K) (es : List (K × X)) → find R q es ≡ lookup (is_at (R q)) es
  find-lookup q [] = refl
  find-lookup q (e ∷ es) = ap (cond (eq_by_cmp R q e.0) (Some e.1)) (find-lookup q es)

  below_all-from_sorted : {X : Type 0} (k : K) (es : List (K × X)) → AllByRecursion (λ y. R k y ≡ Less) (keys_of es) → T (below_all R k es)
  below_all-from_sorted k [] a = tt
  below_all-from_sorted k (e ∷ es) a = both _ _ (subst (λ r. T (is_lt r)) (sym a.0) tt) (below_all-from_sorted k es a.1)

  is_sorted-from_sorted : {X : Type 0} (es : List (K × X)) → IsStrictlySortedBy R (keys_of es) → T (is_sorted R es)
  unfolding IsStrictlySortedBy
  is_sorted-from_sorted [] s = tt
  is_sorted-from_sorted (e ∷ es) s = both _ _ (below_all-from_sorted e.0 es s.0) (is_sorted-from_sorted es s.1)

  -- the keys with a value each
  abbrev valued : {X Y : Type 0} → (K → X) → List (K × Y) → List (K × X)
  valued f es = map (λ e. (e.0, f e.0)) es

  below_all-valued : {X Y : Type 0} (f : K → X) (k : K) (es : List (K × Y)) → T (below_all R k es) → T (below_all R k (valued f es))
  below_all-valued f k [] b = tt
  below_all-valued f k (e ∷ es) b = both _ _ (first _ _ b) (below_all-valued f k es (second _ _ b))

  is_sorted-valued : {X Y : Type 0} (f : K → X) (es : List (K × Y)) → T (is_sorted R es) → T (is_sorted R (valued f es))
  is_sorted-valued f [] s = tt
  is_sorted-valued f (e ∷ es) s = both _ _ (below_all-valued f e.0 es (first _ _ s)) (is_sorted-valued f es (second _ _ s))

  module _ (o : IsTotalOrder R) (same : IsAntisymmetric R) where
    is_sorted-placed : (ks : List K) → T (is_sorted R (placed R ks))
    is_sorted-placed [] = tt
    is_sorted-placed (k ∷ ks) = is_sorted-put R o k tt (placed R ks) (is_sorted-placed ks)

    find-placed : (q : K) (ks : List K) → find R q (placed R ks) ≡ stands (list_any (eq_by_cmp R q) ks)
    find-placed q [] = refl
    find-placed q (k ∷ ks) =
        find-put R o q k tt (placed R ks) ∙ ap (λ (w : Option (Unit {0})). cond (eq_by_cmp R q k) (Some tt) w) (find-placed q ks)
        ∙ stands_either (eq_by_cmp R q k) (list_any (eq_by_cmp R q) ks)

    -- the value at a key that stands there
    find-valued : {X : Type 0} (f : K → X) (q : K) (es : List (K × Unit {0})) → find R q (valued f es) ≡ option_map (λ _. f q) (find R q es)
    find-valued f q [] = refl
    find-valued f q (e ∷ es) =
        elim (eq_by_cmp R q e.0) as (λ b. eq_by_cmp R q e.0 ≡ b
        → cond b (Some (f e.0)) (find R q (valued f es)) ≡ option_map (λ _. f q) (cond b (Some e.1) (find R q es))) [
          | true ↦ λ t. ap (λ (k : K). Some (f k)) (sym (same q e.0 (tied (R q e.0) t)))
          | false ↦ λ t. find-valued f q es
        ] refl

    map-valued : {X : Type 0} (f : K → X) (es : List (K × Unit {0})) → valued f es ≡ map (λ k. (k, f k)) (map (λ e. e.0) es)
    map-valued f [] = refl
    map-valued {X = X} f (e ∷ es) = ap (λ (ws : List (K × X)). (e.0, f e.0) ∷ ws) (map-valued f es)

    chosen : {X : Type 0} (b : Bool) (x : X) → option_map (λ _. x) (stands b) ≡ cond b (Some x) None
    chosen true x = refl
    chosen false x = refl

    -- a map that has at each of some keys its value, and no other keys, has as entries the keys in order with their values
    pub gathers_each : {X : Type 0} (es : List (K × X)) (ks : List K) (f : K → X) → IsStrictlySortedBy R (keys_of es)
        → ((q : K) → lookup (is_at (R q)) es ≡ cond (list_any (eq_by_cmp R q) ks) (Some (f q)) None)
        → es ≡ map (λ k. (k, f k)) (in_order R ks)
    gathers_each es ks f sorted has =
        same_entries R o same es (valued f (placed R ks)) (is_sorted-from_sorted es sorted) (is_sorted-valued f (placed R ks) (is_sorted-placed ks))
        (λ q. find-lookup q es ∙ has q ∙ sym (find-valued f q (placed R ks) ∙ ap (option_map (λ _. f q)) (find-placed q ks)
        ∙ chosen (list_any (eq_by_cmp R q) ks) (f q)))
        ∙ map-valued f (placed R ks)

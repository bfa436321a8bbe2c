use Rattle.std.proofs.Common.{
  ◌≡◌,
  ℕ,
  zero,
  suc,
  ◌+◌,
  ◌≤◌,
  Bool,
  true,
  false,
  ◌&&◌,
  List,
  [],
  ◌∷◌,
  length,
  drop,
  slice_get,
  Some,
  Ordering,
  refl,
  sym,
  ap,
  ◌∙◌,
  subst,
  arith,
  T,
}
use Rattle.std.proofs.lemmas.Bool.{true≢false}
use Rattle.std.specs.declared.cmp.Ordering.TheVariants.{Less, Equal, Greater}
use Rattle.std.specs.Ordering.{nat_cmp, is_lt, is_ge}
use Rattle.std.specs.Cmp.Lexicographic.{slice_cmp, nat_list_cmp_total}
use Rattle.std.specs.FinMap.{entries, entries_sorted, get-entries, get-from_entries, is_sorted, slice_cmp-IsAntisymmetric, nat_cmp-IsAntisymmetric}
use Rattle.std.specs.FinMap.Entries.{below_all, same_entries}
use Rattle.cov_dat.specs.Merging.{Counts}
use Rattle.cov_dat.specs.DataText.{count_map}
use Rattle.cov_dat.proofs.SortLemmas.{drop_step}

-- the order of bytes
abbrev order : List ℕ → List ℕ → Ordering
order = slice_cmp nat_cmp

-- two tests that hold, hold together
both : (a b : Bool) → a ≡ true → b ≡ true → (a && b) ≡ true
both true b p q = q
both false b p q = absurd (true≢false (sym p))

-- and then each holds
first : (a b : Bool) → (a && b) ≡ true → a ≡ true
first true b p = refl
first false b p = p

-- the other one too
second : (a b : Bool) → (a && b) ≡ true → b ≡ true
second true b p = p
second false b p = absurd (true≢false (sym p))

-- a test for `Less` tells it
less : (o : Ordering) → is_lt o ≡ true → o ≡ Less
less Less p = refl
less Equal p = absurd (true≢false (sym p))
less Greater p = absurd (true≢false (sym p))

-- what isn't at least another is below it
pub below : (o : Ordering) → is_ge o ≡ false → o ≡ Less
below Less p = refl
below Equal p = absurd (true≢false p)
below Greater p = absurd (true≢false p)

-- what is below a key that is below all is below all
below-further : (x y : List ℕ) (es : Counts) → order x y ≡ Less → below_all order y es ≡ true → below_all order x es ≡ true
below-further x y [] under all = refl
below-further x y (e ∷ es) under all =
    both (is_lt (order x e.0)) (below_all order x es)
    (ap is_lt (nat_list_cmp_total.trans x y e.0 under (less (order y e.0) (first (is_lt (order y e.0)) (below_all order y es) all))))
    (below-further x y es under (second (is_lt (order y e.0)) (below_all order y es) all))

-- a lower key in front of ascending ones ascends
sorted-cons : (e f : List ℕ × ℕ) (es : Counts) → order e.0 f.0 ≡ Less → is_sorted order (f ∷ es) ≡ true → is_sorted order (e ∷ f ∷ es) ≡ true
sorted-cons e f es under sorted =
    both (below_all order e.0 (f ∷ es)) (is_sorted order (f ∷ es))
    (both (is_lt (order e.0 f.0)) (below_all order e.0 es) (ap is_lt under)
    (below-further e.0 f.0 es under (first (below_all order f.0 es) (is_sorted order es) sorted)))
    sorted

-- at most one entry ascends
pub sorted-last : (es : Counts) (n : ℕ) → length es ≤ n + 1 → is_sorted order (drop n es) ≡ true
sorted-last [] zero few = refl
sorted-last [] (suc n) few = refl
sorted-last (e ∷ []) zero few = refl
sorted-last (e ∷ f ∷ es) zero few = absurd (omega arith)
sorted-last (e ∷ es) (suc n) few = sorted-last es n (omega arith)

-- one entry more from behind
pub sorted-step : (es : Counts) (n : ℕ) (e f : List ℕ × ℕ) → slice_get es n ≡ Some e → slice_get es (suc n) ≡ Some f → order e.0 f.0 ≡ Less
    → is_sorted order (drop (suc n) es) ≡ true → is_sorted order (drop n es) ≡ true
sorted-step es n e f at after under sorted =
    let rest = drop_step es (suc n) f after in
    ap (is_sorted order) (drop_step es n e at ∙ ap (λ (xs : Counts). e ∷ xs) rest)
    ∙ sorted-cons e f (drop (suc (suc n)) es) under (sym (ap (is_sorted order) rest) ∙ sorted)

-- entries that ascend are the entries of their map
pub entries-sorted : (es : Counts) → is_sorted order es ≡ true → entries (count_map es) ≡ es
entries-sorted es sorted =
    same_entries order nat_list_cmp_total (slice_cmp-IsAntisymmetric nat_cmp-IsAntisymmetric) (entries (count_map es)) es (entries_sorted (count_map es))
    (subst T (sym sorted) tt)
    (λ q. sym (get-entries (count_map es) q) ∙ get-from_entries nat_list_cmp_total es q)

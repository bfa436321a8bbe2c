-- Which lines have items, and that they ascend.
use Rattle.std.proofs.Common.{◌≡◌, ℕ, zero, suc, ◌+◌, ◌<◌, ◌≤◌, ◌==◌, Bool, true, false, cond, ◌||◌, ◌&&◌, T, List, []}
use Rattle.std.proofs.Common.{◌∷◌, ◌++◌, length, map, Option, None, Some, refl, sym, ◌∙◌, ap, subst, arith, ◌-◌, ◌≢◌, inl, inr}
use Rattle.std.specs.Prelude.{codes, nat_le, nat_lt, filter, option_and_then, option_to_list}
use Rattle.std.specs.List.{AllByRecursion, after_first, before_first, list_any, flat_map, range_with_len, slice_split}
use Rattle.std.specs.Option.{option_map, option_map_or}
use Rattle.std.specs.Ordering.{nat_cmp, is_lt}
use Rattle.std.specs.declared.cmp.Ordering.TheVariants.{Less, Equal, Greater}
use Rattle.std.specs.FinMap.{nat_cmp-IsAntisymmetric}
use Rattle.std.specs.FinMap.Entries.{put, is_sorted, below_all, by_order, is_sorted-put}
use Rattle.std.proofs.lemmas.Bool.{leb-true, lt-ltb, ltb-true, ne_eqb}
use Rattle.std.proofs.lemmas.Bool.Decides.{eqb_tells}
use Rattle.std.proofs.lemmas.Cmp.{nat_cmp_total}
use Rattle.std.proofs.lemmas.List.Folds.{list_any-append}
use Rattle.cov_dat.specs.Merging.{Counts}
use Rattle.cov_dat.specs.KeyFields.{field}
use Rattle.cov_port.specs.Decimal.{decimal_of}
use Rattle.cov_port.specs.LineReading.{all_there, if_positive, line_number, run_between, run_of}
use Rattle.cov_types.specs.declared.line_range.LineRange.{LineRange}
use Rattle.report_text.specs.Items.{Point, lines_of_range, runs_in, runs_or_none, placed, in_order, points_of, lines_of_point, line_of, items_of, lines_in}
use Rattle.report_text.specs.Annotation.{points_at}

-- whether a number is among some
abbrev pub is_among : ℕ → List ℕ → Bool
is_among n ms = list_any (λ m. m == n) ms

-- ---- an ordered list has the same members

twice : (b r : Bool) → (b || r) ≡ (b || (b || r))
twice true r = refl
twice false r = refl

turned : (a b r : Bool) → (a || (b || r)) ≡ (b || (a || r))
turned true true r = refl
turned true false r = refl
turned false b r = refl

any_put : (n k : ℕ) (es : List (ℕ × Unit {0})) → is_among n (map (λ e. e.0) (put nat_cmp k tt es)) ≡ ((k == n) || is_among n (map (λ e. e.0) es))
any_put n k [] = refl
any_put n k (e ∷ es) =
    elim (nat_cmp k e.0) as (λ o. nat_cmp k e.0 ≡ o → is_among n (map (λ e. e.0) (by_order o ((k, tt) ∷ e ∷ es) ((e.0, tt) ∷ es) (e ∷ put nat_cmp k tt es)))
    ≡ ((k == n) || ((e.0 == n) || is_among n (map (λ e. e.0) es)))) [
      | Less ↦ λ is. refl
      | Equal ↦ λ is. subst (λ (j : ℕ). ((j == n) || is_among n (map (λ e. e.0) es)) ≡ ((k == n) || ((j == n) || is_among n (map (λ e. e.0) es))))
          (nat_cmp-IsAntisymmetric k e.0 is) (twice (k == n) _)
      | Greater ↦ λ is. ap (λ (b : Bool). (e.0 == n) || b) (any_put n k es) ∙ turned (e.0 == n) (k == n) _
    ] refl

any_in_order : (n : ℕ) (ks : List ℕ) → is_among n (in_order nat_cmp ks) ≡ is_among n ks
any_in_order n [] = refl
any_in_order n (k ∷ ks) = any_put n k (placed nat_cmp ks) ∙ ap (λ (b : Bool). (k == n) || b) (any_in_order n ks)

any_flat : {A : Type 0} (p : ℕ → Bool) (f : A → List ℕ) (xs : List A) → list_any p (flat_map f xs) ≡ list_any (λ x. list_any p (f x)) xs
any_flat p f [] = refl
any_flat p f (x ∷ xs) = list_any-append p (f x) (flat_map f xs) ∙ ap (λ (b : Bool). list_any p (f x) || b) (any_flat p f xs)

some_kept : {A : Type 0} (p : A → Bool) (xs : List A) → nat_lt 0 (length (filter p xs)) ≡ list_any p xs
some_kept p [] = refl
some_kept p (x ∷ xs) =
    elim (p x) as (λ b. nat_lt 0 (length (cond b (x ∷ filter p xs) (filter p xs))) ≡ (b || list_any p xs)) [
      | true ↦ lt-ltb 0 (suc (length (filter p xs))) (omega arith)
      | false ↦ some_kept p xs
    ]

-- a line has items where it is one of the lines
pub has_items : (counts : Counts) (file : List ℕ) (n : ℕ) → nat_lt 0 (length (items_of counts file n)) ≡ is_among n (lines_in counts file)
has_items counts file n =
    some_kept (λ p. is_among n (lines_of_point p)) (points_of counts file)
    ∙ sym (any_in_order n (flat_map lines_of_point (points_of counts file)) ∙ any_flat (λ m. m == n) lines_of_point (points_of counts file))

-- ---- a line without items is no point's own

own_is_one : (own : Option ℕ) (n : ℕ) (more : List ℕ) → is_among n (option_to_list own ++ more) ≡ false → option_map_or (λ m. m == n) own false ≡ false
own_is_one None n more none = refl
own_is_one (Some m) n more none = elim (m == n) as (λ b. (b || is_among n more) ≡ false → b ≡ false) [ true ↦ λ e. e | false ↦ λ e. refl ] none

no_own : (n : ℕ) (ps : List Point) → list_any (λ p. is_among n (lines_of_point p)) ps ≡ false
    → filter (λ p. option_map_or (λ m. m == n) (line_of p) (nat_lt 1 0)) ps ≡ []
no_own n [] none = refl
no_own n (p ∷ ps) none =
    elim (is_among n (lines_of_point p)) as (λ b. is_among n (lines_of_point p) ≡ b → (b || list_any (λ p. is_among n (lines_of_point p)) ps) ≡ false
    → filter (λ p. option_map_or (λ m. m == n) (line_of p) (nat_lt 1 0)) (p ∷ ps) ≡ []) [
      | true ↦ λ is e. absurd (cc)
      | false ↦ λ is e. rw (own_is_one (line_of p) n _ is) (no_own n ps e)
    ] refl none

pub no_points : (counts : Counts) (file : List ℕ) (n : ℕ) → is_among n (lines_in counts file) ≡ false → points_at counts file n ≡ []
no_points counts file n none =
    no_own n (points_of counts file)
    (sym (any_in_order n (flat_map lines_of_point (points_of counts file)) ∙ any_flat (λ m. m == n) lines_of_point (points_of counts file)) ∙ none)

-- ---- no line has the number 0

-- numbers none of which is 0
abbrev pub HasNoZero : List ℕ → Type 0
HasNoZero ms = list_any (λ m. m == 0) ms ≡ false

positive : (n : ℕ) → 1 ≤ n → (n == 0) ≡ false
positive n above = ne_eqb n 0 (λ e. omega arith)

no_zero_line : (own : Option ℕ) → HasNoZero (option_to_list (if_positive own))
no_zero_line None = refl
no_zero_line (Some n) = elim (nat_le 1 n) as (λ b. nat_le 1 n ≡ b → HasNoZero (option_to_list (cond b (Some n) None))) [
  | true ↦ λ is. rw (positive n (leb-true 1 n is)) refl
  | false ↦ λ is. refl
] refl

no_zero_range : (from n : ℕ) → 1 ≤ from → HasNoZero (range_with_len from n)
no_zero_range from zero above = refl
no_zero_range from (suc n) above = rw (positive from above) (no_zero_range (from + 1) n (omega arith))

-- the runs of a list, if it is one, hold no 0
abbrev pub RunsHaveNoZero : Option (List LineRange) → Type 0
RunsHaveNoZero runs = HasNoZero (flat_map lines_of_range (option_map_or (λ rs. rs) runs []))

abbrev pub RunHasNoZero : Option LineRange → Type 0
RunHasNoZero None = Unit {0}
RunHasNoZero (Some r) = 1 ≤ r.from

no_zero_between : (from to : Option ℕ) → RunHasNoZero (run_between (if_positive from) to)
no_zero_between None to = tt
no_zero_between (Some n) None = elim (nat_le 1 n) as (λ b. RunHasNoZero (run_between (cond b (Some n) None) None)) [ true ↦ tt | false ↦ tt ]
no_zero_between (Some n) (Some m) = elim (nat_le 1 n) as (λ b. nat_le 1 n ≡ b → RunHasNoZero (run_between (cond b (Some n) None) (Some m))) [
  | true ↦ λ is. elim (nat_le n m) as (λ c. RunHasNoZero (cond c (Some (record { from = n; to = m })) None)) [ true ↦ leb-true 1 n is | false ↦ tt ]
  | false ↦ λ is. tt
] refl

no_zero_run : (text : List ℕ) → RunHasNoZero (run_of text)
no_zero_run text = elim (list_any (λ b. b == 45) text) as (λ b. RunHasNoZero (cond b
    (run_between (line_number (before_first (λ b. b == 45) text)) (line_number (after_first (λ b. b == 45) text)))
    (run_between (line_number text) (line_number text)))) [
      | true ↦ no_zero_between (decimal_of (before_first (λ b. b == 45) text) 4194304) (line_number (after_first (λ b. b == 45) text))
      | false ↦ no_zero_between (decimal_of text 4194304) (line_number text)
    ]

no_zero_more : (r : LineRange) (more : Option (List LineRange)) → 1 ≤ r.from → RunsHaveNoZero more → RunsHaveNoZero (option_map (λ rs. r ∷ rs) more)
no_zero_more r None above none = refl
no_zero_more r (Some rs) above none =
    list_any-append (λ m. m == 0) (lines_of_range r) (flat_map lines_of_range rs)
    ∙ rw (no_zero_range r.from (r.to + 1 - r.from) above) none

no_zero_there : (runs : List (Option LineRange)) → AllByRecursion RunHasNoZero runs → RunsHaveNoZero (all_there runs)
no_zero_there [] all = refl
no_zero_there (None ∷ runs) all = refl
no_zero_there (Some r ∷ runs) all = no_zero_more r (all_there runs) all.0 (no_zero_there runs all.1)

no_zero_all : (texts : List (List ℕ)) → AllByRecursion RunHasNoZero (map run_of texts)
no_zero_all [] = tt
no_zero_all (t ∷ ts) = (no_zero_run t, no_zero_all ts)

no_zero_list : (text : Option (List ℕ)) → RunsHaveNoZero (runs_or_none text)
no_zero_list None = refl
no_zero_list (Some text) = no_zero_there (map run_of (slice_split (λ b. b == 44) text)) (no_zero_all (slice_split (λ b. b == 44) text))

no_zero_own : (text : Option (List ℕ)) → HasNoZero (option_to_list (option_and_then line_number text))
no_zero_own None = refl
no_zero_own (Some text) = no_zero_line (decimal_of text 4194304)

no_zero_point : (p : Point) → HasNoZero (lines_of_point p)
no_zero_point p = list_any-append (λ m. m == 0) (option_to_list (line_of p)) (flat_map lines_of_range (option_map_or (λ rs. rs) (runs_in p) []))
    ∙ rw (no_zero_own (field p.0 (codes "l"))) (no_zero_list (field p.0 (codes "S")))

no_zero_points : (ps : List Point) → list_any (λ p. list_any (λ m. m == 0) (lines_of_point p)) ps ≡ false
no_zero_points [] = refl
no_zero_points (p ∷ ps) = rw (no_zero_point p) (no_zero_points ps)

no_zero : (counts : Counts) (file : List ℕ) → HasNoZero (lines_in counts file)
no_zero counts file =
    any_in_order 0 (flat_map lines_of_point (points_of counts file))
    ∙ any_flat (λ m. m == 0) lines_of_point (points_of counts file)
    ∙ no_zero_points (points_of counts file)

-- ---- lines ascend

-- numbers that ascend from a number on
abbrev pub Rises : ℕ → List ℕ → Type 0
Rises n [] = Unit {0}
Rises n (m ∷ ms) = (n ≤ m) × Rises (m + 1) ms

placed_sorted : (ks : List ℕ) → T (is_sorted nat_cmp (placed nat_cmp ks))
placed_sorted [] = tt
placed_sorted (k ∷ ks) = is_sorted-put nat_cmp nat_cmp_total k tt (placed nat_cmp ks) (placed_sorted ks)

left_of : (a b : Bool) → T (a && b) → T a
left_of true b h = tt
left_of false b h = absurd h

right_of : (a b : Bool) → T (a && b) → T b
right_of true b h = h
right_of false b h = absurd h

is_below : (x y : ℕ) → T (is_lt (nat_cmp x y)) → x + 1 ≤ y
is_below x y h =
    elim (nat_lt x y) as (λ b. nat_lt x y ≡ b → T (is_lt (cond b Less (cond (x == y) Equal Greater))) → x + 1 ≤ y) [
      | true ↦ λ is t. let below : x < y = ltb-true x y is in omega arith
      | false ↦ λ is t. elim (x == y) as (λ c. T (is_lt (cond c Equal Greater)) → x + 1 ≤ y) [ true ↦ λ u. absurd u | false ↦ λ u. absurd u ] t
    ] refl h

sorted_rises : (x : ℕ) (es : List (ℕ × Unit {0})) → T (below_all nat_cmp x es) → T (is_sorted nat_cmp es) → Rises (x + 1) (map (λ e. e.0) es)
sorted_rises x [] below sorted = tt
sorted_rises x (e ∷ es) below sorted = (is_below x e.0 (left_of _ _ below), sorted_rises e.0 es (left_of _ _ sorted) (right_of _ _ sorted))

rises_all : (es : List (ℕ × Unit {0})) → T (is_sorted nat_cmp es) → Rises 0 (map (λ e. e.0) es)
rises_all [] sorted = tt
rises_all (e ∷ es) sorted = (omega arith, sorted_rises e.0 es (left_of _ _ sorted) (right_of _ _ sorted))

lines_ascend : (counts : Counts) (file : List ℕ) → Rises 0 (lines_in counts file)
lines_ascend counts file =
    rises_all (placed nat_cmp (flat_map lines_of_point (points_of counts file)))
    (placed_sorted (flat_map lines_of_point (points_of counts file)))

from_one : (ms : List ℕ) → HasNoZero ms → Rises 0 ms → Rises 1 ms
from_one [] none rises = tt
from_one (m ∷ ms) none rises = elim (eqb_tells m 0) [
  | inl t ↦ absurd (let is : (m == 0) ≡ true = t.0 in let no : true ≡ false = (rw is at none) in cc)
  | inr t ↦ (let apart : m ≢ 0 = t.1 in omega arith, rises.1)
]

-- the lines of a file ascend from 1 on
pub lines_rise : (counts : Counts) (file : List ℕ) → Rises 1 (lines_in counts file)
lines_rise counts file = from_one (lines_in counts file) (no_zero counts file) (lines_ascend counts file)

pub is_other : (m n : ℕ) → n < m → (m == n) ≡ false
is_other m n below = ne_eqb m n (λ e. omega arith)

-- of numbers that ascend from a number on none is below it
pub none_below : (k n : ℕ) (ms : List ℕ) → Rises k ms → n < k → is_among n ms ≡ false
none_below k n [] rises below = refl
none_below k n (m ∷ ms) rises below = rw (is_other m n (omega (arith, rises.0))) (none_below (m + 1) n ms rises.1 (omega (arith, rises.0)))

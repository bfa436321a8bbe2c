-- The lines of outputs, toggle entries and points hold exactly where these are valid.
use Rattle.std.proofs.Common.{◌≡◌, ℕ, ◌<◌, ◌≤◌, Bool, true, List, [], ◌∷◌, ◌++◌, length, refl, sym, ◌∙◌, eqb}
use Rattle.std.specs.Prelude.{◌&&◌, nat_le, nat_lt, All}
use Rattle.std.specs.List.{list_all, AllByRecursion}
use Rattle.cov_types.specs.Key.{IsKey}
use Rattle.cov_port.specs.KeyTest.{is_key_text}
use Rattle.cov_port.proofs.KeyLemmas.{key_from_completes, completes_from_key}
use Rattle.design_tree.specs.declared.design.Design.{Design}
use Rattle.design_tree.specs.declared.instrumented.Instrumented.{Instrumented}
use Rattle.design_tree.specs.declared.instrumented.PointRow.{PointRow}
use Rattle.design_tree.specs.declared.instrumented.ToggleEntry.{ToggleEntry}
use Rattle.design_meaning.proofs.Listed.{by_recursion, by_index}
use Rattle.design_meaning.specs.Counters.{toggle_bit}
use Rattle.design_meaning.specs.Names.{IsBefore}
use Rattle.design_meaning.specs.States.{var_of, IsBitOf}
use Rattle.design_meaning.specs.Valid.{toggle_place, AreToggles, ArePoints}
use Rattle.design_meaning.specs.ValidVariables.{AreOutputs}
use Rattle.design_meaning.specs.WellTyped.{is_var, is_plain_var}
use Rattle.cvd_text.specs.Lines.{Line}
use Rattle.cvd_text.specs.Sections.{output_line, toggle_line, point_line, has_bit, is_below, are_below, lines_behind}
use Rattle.spelling_laws.proofs.Fitting.{first_true, second_true, both_true}
use Rattle.cvd_valid_laws.proofs.Ascending.{all_map, and_true, Pairs, pairs_of, behind_pairs, all_pairs, pairs_all, rows_told, rows_stand, Last}
use Rattle.cvd_valid_laws.proofs.Standing.{holds_all, le_of, of_le}
use Rattle.cvd_valid_laws.proofs.Things.{lt_of, of_lt, eq_of, of_eq, below_told, below_stands}

-- ---- lists of tests

pub list_told : {X : Type 0} (p : X → Bool) (xs : List X) → list_all p xs ≡ true → AllByRecursion (λ x. p x ≡ true) xs
list_told p [] e = tt
list_told p (x ∷ xs) e = (first_true (p x) (list_all p xs) e, list_told p xs (second_true (p x) (list_all p xs) e))

pub list_stands : {X : Type 0} (p : X → Bool) (xs : List X) → AllByRecursion (λ x. p x ≡ true) xs → list_all p xs ≡ true
list_stands p [] h = refl
list_stands p (x ∷ xs) h = both_true (p x) (list_all p xs) h.0 (list_stands p xs h.1)

-- all of a list, by a test
pub all_told : {X : Type 0} (p : X → Bool) (P : X → Type 0) (xs : List X) → ((x : X) → p x ≡ true → P x) → AllByRecursion (λ x. p x ≡ true) xs → All P xs
all_told p P xs f h = by_index P xs (all_map (λ x. p x ≡ true) P xs f h)

pub all_stands : {X : Type 0} (p : X → Bool) (P : X → Type 0) (xs : List X) → ((x : X) → P x → p x ≡ true) → All P xs → AllByRecursion (λ x. p x ≡ true) xs
all_stands p P xs f h = all_map P (λ x. p x ≡ true) xs f (by_recursion P xs h)

pub both_lists : {X : Type 0} (p q : X → Bool) (xs : List X) → AllByRecursion (λ x. p x ≡ true) xs → AllByRecursion (λ x. q x ≡ true) xs
    → AllByRecursion (λ x. (p x && q x) ≡ true) xs
both_lists p q [] g h = tt
both_lists p q (x ∷ xs) g h = (both_true (p x) (q x) g.0 h.0, both_lists p q xs g.1 h.1)

-- ---- lines that ask for nothing of the last

module _ {A : Type 0} (row : List A → A → Line) (own : A → Bool) (r : A → A → Bool)
    (says : (before : List A) (x : A) → (row before x).holds ≡ (own x && list_all (λ u. r u x) before)) where
  abbrev no_last : List A → A → Bool
  no_last before x = true

  says_more : (before : List A) (x : A) → (row before x).holds ≡ ((own x && list_all (λ u. r u x) before) && no_last before x)
  says_more before x = says before x ∙ sym (and_true (own x && list_all (λ u. r u x) before))

  pub record Given (xs : List A) : Type 0 where
    pub each : AllByRecursion (λ x. own x ≡ true) xs
    pub pairs : Pairs r xs

  pub given_told : (xs : List A) → holds_all (lines_behind row [] xs) ≡ true → Given xs
  given_told xs e = let h = rows_told row own r no_last says_more [] xs e in record { each = h.each; pairs = pairs_of r [] xs h.order }

  nothing_more : (before xs : List A) → Last row own r no_last says_more before xs
  nothing_more before [] = tt
  nothing_more before (x ∷ xs) = (refl, nothing_more (before ++ x ∷ []) xs)

  pub given_stands : (xs : List A) → Given xs → holds_all (lines_behind row [] xs) ≡ true
  given_stands xs g =
      rows_stand row own r no_last says_more [] xs (record { each = g.each; order = behind_pairs r xs g.pairs; ends = nothing_more [] xs })

-- ---- outputs

module _ (d : Design) where
  plain_var : (v : ℕ) → is_plain_var d v ≡ true → (v < length d.vars) × ((var_of d v).words ≡ 1)
  plain_var v e = (
    lt_of v (length d.vars) (first_true (is_var d v) (eqb (var_of d v).words 1) e),
    eq_of (var_of d v).words 1
        (second_true (is_var d v) (eqb (var_of d v).words 1) e),
  )

  pub plain_told : (v : ℕ) → is_plain_var d v ≡ true → (v < length d.vars) × ((var_of d v).words ≡ 1)
  plain_told = plain_var

  pub plain_stands : (v : ℕ) → v < length d.vars → (var_of d v).words ≡ 1 → is_plain_var d v ≡ true
  plain_stands v lt e = both_true (is_var d v) (eqb (var_of d v).words 1) (of_lt v (length d.vars) lt) (of_eq (var_of d v).words 1 e)

  pub outputs_told : holds_all (lines_behind (output_line d) [] d.outputs) ≡ true → AreOutputs d
  outputs_told e =
      let g = given_told (output_line d) (is_plain_var d) (λ u v. nat_lt u v) (λ before v. refl) d.outputs e in
      record {
        ascend = all_pairs (λ u v. nat_lt u v) (λ m n. m < n) (λ m n h. lt_of m n h) d.outputs g.pairs;
        stand = all_told (is_plain_var d) (λ v. v < length d.vars) d.outputs (λ v h. (plain_var v h).0) g.each;
        single = all_told (is_plain_var d) (λ v. (var_of d v).words ≡ 1) d.outputs (λ v h. (plain_var v h).1) g.each;
      }

  pub outputs_stand : AreOutputs d → holds_all (lines_behind (output_line d) [] d.outputs) ≡ true
  outputs_stand h =
      given_stands (output_line d) (is_plain_var d) (λ u v. nat_lt u v) (λ before v. refl) d.outputs (record {
        each = both_lists (is_var d) (λ v. eqb (var_of d v).words 1) d.outputs
            (all_stands (is_var d) (λ v. v < length d.vars) d.outputs (λ v lt. of_lt v (length d.vars) lt) h.stand)
            (all_stands (λ v. eqb (var_of d v).words 1) (λ v. (var_of d v).words ≡ 1) d.outputs (λ v e. of_eq (var_of d v).words 1 e) h.single);
        pairs = pairs_all (λ u v. nat_lt u v) (λ m n. m < n) (λ m n lt. of_lt m n lt) d.outputs h.ascend;
      })

-- ---- toggle entries

module _ (x : Instrumented) where
  abbrev in_range : ToggleEntry → Bool
  in_range t = nat_lt t.counter x.counters

  abbrev is_toggle : ToggleEntry → Bool
  is_toggle t = has_bit x.design t && in_range t

  abbrev toggle_below : ToggleEntry → ToggleEntry → Bool
  toggle_below u t = is_below (toggle_place u) (toggle_place t)

  bit_told : (t : ToggleEntry) → has_bit x.design t ≡ true → IsBitOf x.design (toggle_bit t)
  bit_told t e =
      let v = var_of x.design t.var in
      let a = is_var x.design t.var in
      let b = nat_lt t.word v.words in
      let c = nat_lt t.bit v.width in
      let front = first_true (a && b) c e in
      record {
        of_variable = lt_of t.var (length x.design.vars) (first_true a b front);
        of_word = lt_of t.word v.words (second_true a b front);
        in_width = lt_of t.bit v.width (second_true (a && b) c e);
      }

  bit_stands : (t : ToggleEntry) → IsBitOf x.design (toggle_bit t) → has_bit x.design t ≡ true
  bit_stands t h =
      let v = var_of x.design t.var in
      let a = is_var x.design t.var in
      let b = nat_lt t.word v.words in
      both_true (a && b) (nat_lt t.bit v.width)
      (both_true a b (of_lt t.var (length x.design.vars) h.of_variable) (of_lt t.word v.words h.of_word)) (of_lt t.bit v.width h.in_width)

  pub toggles_told : holds_all (lines_behind (toggle_line x.design x.counters) [] x.toggles) ≡ true → AreToggles x
  toggles_told e =
      let g = given_told (toggle_line x.design x.counters) is_toggle toggle_below (λ before t. refl) x.toggles e in
      record {
        ascend = all_pairs toggle_below (λ a b. IsBefore (toggle_place a) (toggle_place b)) (λ a b h. below_told (toggle_place a) (toggle_place b) h)
            x.toggles g.pairs;
        bits = all_told is_toggle (λ t. IsBitOf x.design (toggle_bit t)) x.toggles (λ t h. bit_told t (first_true (has_bit x.design t) (in_range t) h)) g.each;
        counters = all_told is_toggle (λ t. t.counter < x.counters) x.toggles
            (λ t h. lt_of t.counter x.counters (second_true (has_bit x.design t) (in_range t) h)) g.each;
      }

  pub toggles_stand : AreToggles x → holds_all (lines_behind (toggle_line x.design x.counters) [] x.toggles) ≡ true
  toggles_stand h =
      given_stands (toggle_line x.design x.counters) is_toggle toggle_below (λ before t. refl) x.toggles (record {
        each = both_lists (has_bit x.design) in_range x.toggles
            (all_stands (has_bit x.design) (λ t. IsBitOf x.design (toggle_bit t)) x.toggles (λ t b. bit_stands t b) h.bits)
            (all_stands in_range (λ t. t.counter < x.counters) x.toggles (λ t lt. of_lt t.counter x.counters lt) h.counters);
        pairs = pairs_all toggle_below (λ a b. IsBefore (toggle_place a) (toggle_place b)) (λ a b e. below_stands (toggle_place a) (toggle_place b) e)
            x.toggles h.ascend;
      })

  -- ---- points

  abbrev counters_in : List ℕ → Type 0
  counters_in ks = All (λ c. c < x.counters) ks

  abbrev short : PointRow → Bool
  short r = nat_le (length r.key) 65000

  abbrev plus_in : PointRow → Bool
  plus_in r = are_below x.counters r.plus

  abbrev minus_in : PointRow → Bool
  minus_in r = are_below x.counters r.minus

  abbrev keyed : PointRow → Bool
  keyed r = is_key_text r.key

  abbrev is_point : PointRow → Bool
  is_point r = plus_in r && minus_in r && keyed r && short r

  abbrev point_below : PointRow → PointRow → Bool
  point_below q r = is_below q.key r.key

  below_in : (ks : List ℕ) → are_below x.counters ks ≡ true → counters_in ks
  below_in ks e = all_told (λ k. nat_lt k x.counters) (λ c. c < x.counters) ks (λ k h. lt_of k x.counters h) (list_told (λ k. nat_lt k x.counters) ks e)

  in_below : (ks : List ℕ) → counters_in ks → are_below x.counters ks ≡ true
  in_below ks h = list_stands (λ k. nat_lt k x.counters) ks (all_stands (λ k. nat_lt k x.counters) (λ c. c < x.counters) ks (λ k lt. of_lt k x.counters lt) h)

  pub points_told : holds_all (lines_behind (point_line x.counters) [] x.points) ≡ true → ArePoints x
  points_told e =
      let g = given_told (point_line x.counters) is_point point_below (λ before r. refl) x.points e in
      record {
        ascend = all_pairs point_below (λ a b. IsBefore a.key b.key) (λ a b h. below_told a.key b.key h) x.points g.pairs;
        keys = all_told is_point (λ r. IsKey r.key) x.points
            (λ r h. key_from_completes r.key (second_true (plus_in r && minus_in r) (keyed r) (first_true (plus_in r && minus_in r && keyed r) (short r) h)))
            g.each;
        short = all_told is_point (λ r. length r.key ≤ 65000) x.points
            (λ r h. le_of (length r.key) 65000 (second_true (plus_in r && minus_in r && keyed r) (short r) h)) g.each;
        plus = all_told is_point (λ r. counters_in r.plus) x.points
            (λ r h. below_in r.plus (first_true (plus_in r) (minus_in r) (first_true (plus_in r && minus_in r) (keyed r)
            (first_true (plus_in r && minus_in r && keyed r) (short r) h)))) g.each;
        minus = all_told is_point (λ r. counters_in r.minus) x.points
            (λ r h. below_in r.minus (second_true (plus_in r) (minus_in r) (first_true (plus_in r && minus_in r) (keyed r)
            (first_true (plus_in r && minus_in r && keyed r) (short r) h)))) g.each;
      }

  pub points_stand : ArePoints x → holds_all (lines_behind (point_line x.counters) [] x.points) ≡ true
  points_stand h =
      given_stands (point_line x.counters) is_point point_below (λ before r. refl) x.points (record {
        each = both_lists (λ r. plus_in r && minus_in r && keyed r) short x.points
            (both_lists (λ r. plus_in r && minus_in r) keyed x.points
            (both_lists plus_in minus_in x.points (all_stands plus_in (λ r. counters_in r.plus) x.points (λ r c. in_below r.plus c) h.plus)
            (all_stands minus_in (λ r. counters_in r.minus) x.points (λ r c. in_below r.minus c) h.minus))
            (all_stands keyed (λ r. IsKey r.key) x.points (λ r key. completes_from_key r.key key) h.keys))
            (all_stands short (λ r. length r.key ≤ 65000) x.points (λ r le. of_le (length r.key) 65000 le) h.short);
        pairs = pairs_all point_below (λ a b. IsBefore a.key b.key) (λ a b e. below_stands a.key b.key e) x.points h.ascend;
      })

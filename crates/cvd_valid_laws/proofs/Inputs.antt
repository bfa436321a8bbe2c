-- The lines of inputs hold exactly where these are valid.
use Rattle.std.proofs.Common.{◌≡◌, ℕ, zero, suc, ◌+◌, ◌<◌, Bool, true, false, not, List, [], ◌∷◌, ◌++◌, map, length, refl, sym, ◌∙◌, ap, subst, arith, eqb}
use Rattle.std.proofs.Common.{append_assoc}
use Rattle.std.specs.Prelude.{◌&&◌, ◌||◌, ◌≢◌, nat_lt, IsTrue}
use Rattle.std.specs.List.{list_all, AllByRecursion}
use Rattle.std.specs.Cmp.Lexicographic.{bytes_decides, same_text}
use Rattle.std.specs.Str.{bytes_eq}
use Rattle.std.proofs.lemmas.Bool.{true≢false}
use Rattle.cov_types.specs.declared.kind.VarKind.TheVariants as var_kind
use Rattle.design_tree.specs.declared.design.Design.{Design}
use Rattle.design_tree.specs.declared.design.Input.{Input}
use Rattle.design_meaning.proofs.Listed.{by_recursion, by_index}
use Rattle.design_meaning.specs.Circuit.{input_vars}
use Rattle.design_meaning.specs.Names.{is_name}
use Rattle.design_meaning.specs.States.{var_of}
use Rattle.design_meaning.specs.ValidVariables.{AreInputs}
use Rattle.design_meaning.specs.WellTyped.{is_plain_var}
use Rattle.cvd_text.specs.Sections.{input_line, input_numbers, same_numbers, lines_behind}
use Rattle.cvd_text.specs.Targets.{same_kind}
use Rattle.spelling_laws.proofs.Fitting.{first_true, second_true, both_true}
use Rattle.cvd_valid_laws.proofs.Ascending.{all_map, Pairs, pairs_of, behind_pairs, all_pairs, pairs_all, rows_told, rows_stand, Last}
use Rattle.cvd_valid_laws.proofs.Entries.{all_told, all_stands, both_lists, plain_told, plain_stands}
use Rattle.cvd_valid_laws.proofs.InputLists.{In, asc_same, asc_of, in_of, of_in, numbers_ascend, number_in, in_numbers}
use Rattle.cvd_valid_laws.proofs.Processes.{kind_is, is_kind}
use Rattle.cvd_valid_laws.proofs.Standing.{holds_all}
use Rattle.cvd_valid_laws.proofs.Things.{lt_of, of_lt, eq_of, of_eq}

-- ---- lists of images

module _ {X Y : Type 0} (f : X → Y) where
  all_over : (P : Y → Type 0) (xs : List X) → AllByRecursion (λ x. P (f x)) xs → AllByRecursion P (map f xs)
  all_over P [] h = tt
  all_over P (x ∷ xs) h = (h.0, all_over P xs h.1)

  over_all : (P : Y → Type 0) (xs : List X) → AllByRecursion P (map f xs) → AllByRecursion (λ x. P (f x)) xs
  over_all P [] h = tt
  over_all P (x ∷ xs) h = (h.0, over_all P xs h.1)

  pairs_over : (r : Y → Y → Bool) (xs : List X) → Pairs (λ a b. r (f a) (f b)) xs → Pairs r (map f xs)
  pairs_over r [] p = tt
  pairs_over r (x ∷ xs) p = (all_over (λ y. r (f x) y ≡ true) xs p.0, pairs_over r xs p.1)

  over_pairs : (r : Y → Y → Bool) (xs : List X) → Pairs r (map f xs) → Pairs (λ a b. r (f a) (f b)) xs
  over_pairs r [] p = tt
  over_pairs r (x ∷ xs) p = (over_all (λ y. r (f x) y ≡ true) xs p.0, over_pairs r xs p.1)

module _ {A : Type 0} (r q : A → A → Bool) where
  first_pairs : (xs : List A) → Pairs (λ a b. r a b && q a b) xs → Pairs r xs
  first_pairs [] p = tt
  first_pairs (x ∷ xs) p =
      (all_map (λ y. (r x y && q x y) ≡ true) (λ y. r x y ≡ true) xs (λ y e. first_true (r x y) (q x y) e) p.0, first_pairs xs p.1)

  second_pairs : (xs : List A) → Pairs (λ a b. r a b && q a b) xs → Pairs q xs
  second_pairs [] p = tt
  second_pairs (x ∷ xs) p =
      (all_map (λ y. (r x y && q x y) ≡ true) (λ y. q x y ≡ true) xs (λ y e. second_true (r x y) (q x y) e) p.0, second_pairs xs p.1)

  both_pairs : (xs : List A) → Pairs r xs → Pairs q xs → Pairs (λ a b. r a b && q a b) xs
  both_pairs [] p s = tt
  both_pairs (x ∷ xs) p s = (both_lists (r x) (q x) xs p.0 s.0, both_pairs xs p.1 s.1)

-- ---- numbers

same_told : (xs ys : List ℕ) → same_numbers xs ys ≡ true → xs ≡ ys
same_told xs ys e = same_text xs ys (sym e)

same_all : (xs : List ℕ) → same_numbers xs xs ≡ true
same_all [] = refl
same_all (x ∷ xs) = both_true (eqb x x) (same_numbers xs xs) (of_eq x x refl) (same_all xs)

same_stands : (xs ys : List ℕ) → xs ≡ ys → same_numbers xs ys ≡ true
same_stands xs ys e = subst (λ l. same_numbers xs l ≡ true) e (same_all xs)

no_length : (xs : List ℕ) → eqb (length xs) 0 ≡ true → [] ≡ xs
no_length [] e = refl
no_length (x ∷ xs) e = let l = eq_of (length (x ∷ xs)) 0 e in absurd (omega arith)

or_second : (a b : Bool) → a ≡ false → (a || b) ≡ true → b ≡ true
or_second true b e f = absurd (true≢false e)
or_second false b e f = f

or_left : (a b : Bool) → a ≡ true → (a || b) ≡ true
or_left true b e = refl
or_left false b e = absurd (true≢false (sym e))

or_right : (a b : Bool) → b ≡ true → (a || b) ≡ true
or_right true b e = refl
or_right false b e = e

not_less : (m n : ℕ) → m ≡ n → nat_lt m n ≡ false
not_less m n e = by (nat_lt m n) refl
  where
    by : (b : Bool) → nat_lt m n ≡ b → nat_lt m n ≡ false
    by true h = let l = lt_of m n h in absurd (omega arith)
    by false h = h

not_told : (b : Bool) → not b ≡ true → b ≡ true → ⊥
not_told true e f = true≢false (sym e)
not_told false e f = true≢false (sym f)

not_stands : (b : Bool) → (b ≡ true → ⊥) → not b ≡ true
not_stands true f = absurd (f refl)
not_stands false f = refl

module _ (d : Design) where
  abbrev count : ℕ
  count = length d.inputs

  abbrev numbers : List ℕ
  numbers = input_numbers d.vars

  abbrev var_in : Input → ℕ
  var_in i = i.var

  abbrev plain : Input → Bool
  plain i = is_plain_var d i.var

  abbrev of_kind : Input → Bool
  of_kind i = same_kind (var_of d i.var).kind var_kind.Input

  abbrev named : Input → Bool
  named i = is_name i.name

  abbrev own : Input → Bool
  own i = plain i && of_kind i && named i

  abbrev lower : Input → Input → Bool
  lower j i = nat_lt j.var i.var

  abbrev other : Input → Input → Bool
  other j i = not (bytes_eq j.name i.name)

  abbrev before_input : Input → Input → Bool
  before_input j i = lower j i && other j i

  abbrev last : List Input → Input → Bool
  last before i = nat_lt (length before + 1) count || same_numbers (map var_in (before ++ i ∷ [])) numbers

  says : (before : List Input) (i : Input) → (input_line d count before i).holds ≡ ((own i && list_all (λ j. before_input j i) before) && last before i)
  says before i = refl

  abbrev Ends : List Input → List Input → Type 0
  Ends = Last (input_line d count) own before_input last says

  joined_length : (before : List Input) (i : Input) → length (before ++ i ∷ []) ≡ length before + 1
  joined_length [] i = omega arith
  joined_length (b ∷ before) i = let more = joined_length before i in omega arith

  ends_told : (before : List Input) (i : Input) (xs : List Input) → length before + length (i ∷ xs) ≡ count → Ends before (i ∷ xs)
      → same_numbers (map var_in (before ++ i ∷ xs)) numbers ≡ true
  ends_told before i [] c h = or_second (nat_lt (length before + 1) count) _ (not_less (length before + 1) count (omega (arith, c))) h.0
  ends_told before i (j ∷ xs) c h =
      ap (λ l. same_numbers (map var_in l) numbers) (sym (append_assoc before (i ∷ []) (j ∷ xs)))
      ∙ ends_told (before ++ i ∷ []) j xs (let l = joined_length before i in omega (arith, c)) h.1

  ends_stand : (before xs : List Input) → length before + length xs ≡ count → same_numbers (map var_in (before ++ xs)) numbers ≡ true → Ends before xs
  ends_stand before [] c e = tt
  ends_stand before (i ∷ []) c e = (or_right (nat_lt (length before + 1) count) _ e, tt)
  ends_stand before (i ∷ j ∷ xs) c e = (
    or_left (nat_lt (length before + 1) count) _ (of_lt (length before + 1) count (omega (arith, c))),
    ends_stand (before ++ i ∷ []) (j ∷ xs) (let l = joined_length before i in omega (arith, c))
        (ap (λ l. same_numbers (map var_in l) numbers) (append_assoc before (i ∷ []) (j ∷ xs)) ∙ e),
  )

  abbrev pub heads : Bool
  heads = nat_lt 0 count || eqb (length numbers) 0

  same_list : heads ≡ true → Ends [] d.inputs → input_vars d ≡ numbers
  same_list h e = by d.inputs refl
    where
      by : (xs : List Input) → d.inputs ≡ xs → input_vars d ≡ numbers
      by [] same =
          ap (map var_in) same
          ∙ no_length numbers (or_second (nat_lt 0 count) (eqb (length numbers) 0) (ap (λ (l : List Input). nat_lt 0 (length l)) same) h)
      by (i ∷ xs) same =
          ap (map var_in) same
          ∙ same_told (map var_in (i ∷ xs)) numbers
          (ends_told [] i xs (let l = ap (λ (l : List Input). length l) same in omega arith) (subst (λ l. Ends [] l) same e))

  pub inputs_told : heads ≡ true → holds_all (lines_behind (input_line d count) [] d.inputs) ≡ true → AreInputs d
  inputs_told head e =
      let h = rows_told (input_line d count) own before_input last says [] d.inputs e in
      let pairs = pairs_of before_input [] d.inputs h.order in
      let same = same_list head h.ends in
      let plains = all_map (λ i. own i ≡ true) (λ i. plain i ≡ true) d.inputs
      (λ i o. first_true (plain i) (of_kind i) (first_true (plain i && of_kind i) (named i) o)) h.each in
      record {
        ascend = all_pairs (λ m n. nat_lt m n) (λ m n. m < n) (λ m n l. lt_of m n l) (input_vars d)
            (pairs_over var_in (λ m n. nat_lt m n) d.inputs (first_pairs lower other d.inputs pairs));
        stand = by_index (λ v. v < length d.vars) (input_vars d) (all_over var_in (λ v. v < length d.vars) d.inputs
            (all_map (λ i. plain i ≡ true) (λ (i : Input). i.var < length d.vars) d.inputs (λ i p. (plain_told d i.var p).0) plains));
        single = by_index (λ v. (var_of d v).words ≡ 1) (input_vars d) (all_over var_in (λ v. (var_of d v).words ≡ 1) d.inputs
            (all_map (λ i. plain i ≡ true) (λ (i : Input). (var_of d i.var).words ≡ 1) d.inputs (λ i p. (plain_told d i.var p).1) plains));
        only_inputs = by_index (λ v. (var_of d v).kind ≡ var_kind.Input) (input_vars d) (all_over var_in (λ v. (var_of d v).kind ≡ var_kind.Input) d.inputs
            (all_map (λ i. own i ≡ true) (λ (i : Input). (var_of d i.var).kind ≡ var_kind.Input) d.inputs
            (λ i o. kind_is _ _ (second_true (plain i) (of_kind i) (first_true (plain i && of_kind i) (named i) o))) h.each));
        all_inputs = λ v lt kind. of_in (input_vars d) v
            (subst (λ l. In l v) (sym same) (subst (In numbers) (omega arith) (number_in 0 d.vars v lt kind)));
        names = all_told own (λ i. IsTrue (is_name i.name)) d.inputs (λ i o. second_true (plain i && of_kind i) (named i) o) h.each;
        differ = all_pairs other (λ a b. a.name ≢ b.name)
            (λ a b o e. not_told (bytes_eq a.name b.name) o ((bytes_decides a.name b.name).1 e)) d.inputs (second_pairs lower other d.inputs pairs);
      }

  same_valid : AreInputs d → input_vars d ≡ numbers
  same_valid h =
      asc_same (input_vars d) numbers (asc_of (input_vars d) h.ascend) (numbers_ascend 0 d.vars) there back
    where
      there : (v : ℕ) → In (input_vars d) v → In numbers v
      there v i =
          let c = of_in (input_vars d) v i in
          let lt = subst (λ u. u < length d.vars) c.2 (h.stand c.0 v c.1) in
          let kind = subst (λ u. (var_of d u).kind ≡ var_kind.Input) c.2 (h.only_inputs c.0 v c.1) in
          subst (In numbers) (omega arith) (number_in 0 d.vars v lt kind)

      back : (v : ℕ) → In numbers v → In (input_vars d) v
      back v i =
          let n = in_numbers 0 d.vars v i in
          let same : n.place ≡ v = omega (arith, n.is) in
          in_of (input_vars d) v (h.all_inputs v (subst (λ u. u < length d.vars) same n.within) (subst (λ u. (var_of d u).kind ≡ var_kind.Input) same n.input))

  pub head_stands : AreInputs d → heads ≡ true
  head_stands h = by (nat_lt 0 count) refl
    where
      map_length : (xs : List Input) → length (map var_in xs) ≡ length xs
      map_length [] = refl
      map_length (x ∷ xs) = let more = map_length xs in omega arith

      by : (b : Bool) → nat_lt 0 count ≡ b → heads ≡ true
      by true e = or_left (nat_lt 0 count) (eqb (length numbers) 0) e
      by false e =
          or_right (nat_lt 0 count) (eqb (length numbers) 0)
          (of_eq (length numbers) 0 (sym (ap (λ (l : List ℕ). length l) (same_valid h)) ∙ map_length d.inputs ∙ none count e))
        where
          none : (n : ℕ) → nat_lt 0 n ≡ false → n ≡ 0
          none zero e = refl
          none (suc n) e = absurd (true≢false (sym (of_lt 0 (suc n) (omega arith)) ∙ e))

  pub inputs_stand : AreInputs d → holds_all (lines_behind (input_line d count) [] d.inputs) ≡ true
  inputs_stand h =
      let stand = over_all var_in (λ v. v < length d.vars) d.inputs (by_recursion (λ v. v < length d.vars) (input_vars d) h.stand) in
      let single = over_all var_in (λ v. (var_of d v).words ≡ 1) d.inputs (by_recursion (λ v. (var_of d v).words ≡ 1) (input_vars d) h.single) in
      let kinds = over_all var_in (λ v. (var_of d v).kind ≡ var_kind.Input) d.inputs
      (by_recursion (λ v. (var_of d v).kind ≡ var_kind.Input) (input_vars d) h.only_inputs) in
      rows_stand (input_line d count) own before_input last says [] d.inputs (record {
        each = both_lists (λ i. plain i && of_kind i) named d.inputs
            (both_lists plain of_kind d.inputs (plains d.inputs stand single)
            (all_map (λ (i : Input). (var_of d i.var).kind ≡ var_kind.Input) (λ i. of_kind i ≡ true) d.inputs (λ i e. is_kind _ _ e) kinds))
            (all_stands named (λ i. IsTrue (is_name i.name)) d.inputs (λ i e. e) h.names);
        order = behind_pairs before_input d.inputs (both_pairs lower other d.inputs
            (over_pairs var_in (λ m n. nat_lt m n) d.inputs (pairs_all (λ m n. nat_lt m n) (λ m n. m < n) (λ m n lt. of_lt m n lt) (input_vars d) h.ascend))
            (pairs_all other (λ a b. a.name ≢ b.name) (λ a b ne. not_stands (bytes_eq a.name b.name) (λ e. ne ((bytes_decides a.name b.name).0 e))) d.inputs
            h.differ));
        ends = ends_stand [] d.inputs (omega arith) (same_stands (input_vars d) numbers (same_valid h));
      })
    where
      plains : (xs : List Input) → AllByRecursion (λ (i : Input). i.var < length d.vars) xs → AllByRecursion (λ (i : Input). (var_of d i.var).words ≡ 1) xs
          → AllByRecursion (λ i. plain i ≡ true) xs
      plains [] a b = tt
      plains (i ∷ xs) a b = (plain_stands d i.var a.0 b.0, plains xs a.1 b.1)

-- Inputs that ascend are all input variables where they are as many.
use Rattle.std.proofs.Common.{◌≡◌, ℕ, ◌+◌, ◌≤◌, ◌<◌, Bool, true, false, cond, List, [], ◌∷◌, length, refl, sym, ◌∙◌, ap, subst, arith, map}
use Rattle.std.specs.Prelude.{◌||◌, ◌==◌, nat_lt, filter, count_by}
use Rattle.std.specs.List.{list_all}
use Rattle.std.proofs.lemmas.Bool.{true≢false}
use Rattle.std.proofs.lemmas.List.Recursion.{is_count_by}
use Rattle.std.proofs.lemmas.Bool.Decides.{nat_tests}
use Rattle.spelling_laws.proofs.Fitting.{both_true, first_true, second_true}
use Rattle.cov_types.specs.declared.kind.VarKind.TheVariants as kind
use Rattle.cov_types.specs.declared.var.Var.{Var}
use Rattle.circuit_run.specs.Lists.{numbered}
use Rattle.cvd_text.specs.Sections.{input_numbers}
use Rattle.cvd_text.specs.Targets.{same_kind}
use Rattle.cvd_inputs.specs.Names.{ascends, is_among}

-- numbers among others, both ascending: there are at most as many, and where there are as many they are the same
pub record AtMost (ms ns : List ℕ) : Type 0 where
  pub few : length ms ≤ length ns
  pub whole : length ms ≡ length ns → ms ≡ ns

less : (m n : ℕ) → nat_lt m n ≡ true → m < n
less m n h = grind (arith, nat_tests)

same_number : (m n : ℕ) → (m == n) ≡ true → m ≡ n
same_number m n e = grind arith

-- what is above a number is none of those that it is below
not_first : (n : ℕ) (ns : List ℕ) (m : ℕ) → nat_lt n m ≡ true → is_among (n ∷ ns) m ≡ true → is_among ns m ≡ true
not_first n ns m above h = by (n == m) refl h
  where
    by : (t : Bool) → (n == m) ≡ t → (t || is_among ns m) ≡ true → is_among ns m ≡ true
    by true e k = absurd (omega (arith, less n m above, same_number n m e))
    by false e k = k

all_behind : (n : ℕ) (ns ms : List ℕ) → list_all (λ m. nat_lt n m) ms ≡ true → list_all (is_among (n ∷ ns)) ms ≡ true → list_all (is_among ns) ms ≡ true
all_behind n ns [] above h = refl
all_behind n ns (m ∷ ms) above h =
    both_true (is_among ns m) _ (not_first n ns m (first_true (nat_lt n m) _ above) (first_true (is_among (n ∷ ns) m) _ h))
    (all_behind n ns ms (second_true (nat_lt n m) _ above) (second_true (is_among (n ∷ ns) m) _ h))

less_among : (n m : ℕ) (ns : List ℕ) → list_all (λ k. nat_lt n k) ns ≡ true → is_among ns m ≡ true → nat_lt n m ≡ true
less_among n m [] h e = absurd (true≢false (sym e))
less_among n m (k ∷ ns) h e = by (k == m) refl e (less_among n m ns (second_true (nat_lt n k) _ h))
  where
    by : (t : Bool) → (k == m) ≡ t → (t || is_among ns m) ≡ true → (is_among ns m ≡ true → nat_lt n m ≡ true) → nat_lt n m ≡ true
    by true e k2 later = ap (nat_lt n) (sym (same_number k m e)) ∙ first_true (nat_lt n k) _ h
    by false e k2 later = later k2

passes : (a b : ℕ) (ms : List ℕ) → nat_lt a b ≡ true → list_all (λ m. nat_lt b m) ms ≡ true → list_all (λ m. nat_lt a m) ms ≡ true
passes a b [] h e = refl
passes a b (m ∷ ms) h e =
    both_true (nat_lt a m) _ (through a b m h (first_true (nat_lt b m) _ e)) (passes a b ms h (second_true (nat_lt b m) _ e))
  where
    through : (a b c : ℕ) → nat_lt a b ≡ true → nat_lt b c ≡ true → nat_lt a c ≡ true
    through a b c h k = grind (arith, nat_tests)

abbrev pub Shorter : List ℕ → List ℕ → Type 0
Shorter ms ns = ascends ms ≡ true → ascends ns ≡ true → list_all (is_among ns) ms ≡ true → AtMost ms ns

module _ (m : ℕ) (ms : List ℕ) (n : ℕ) (ns : List ℕ) (a : ascends (m ∷ ms) ≡ true) (b : ascends (n ∷ ns) ≡ true)
    (h : list_all (is_among (n ∷ ns)) (m ∷ ms) ≡ true) where
  tails : Shorter ms ns → (n == m) ≡ true → AtMost ms ns
  tails later e =
      let same = same_number n m e in
      let above = subst (λ k. list_all (λ j. nat_lt k j) ms ≡ true) (sym same) (first_true (list_all (λ j. nat_lt m j) ms) _ a) in
      later (second_true (list_all (λ j. nat_lt m j) ms) _ a) (second_true (list_all (λ j. nat_lt n j) ns) _ b)
      (all_behind n ns ms above (second_true (is_among (n ∷ ns) m) _ h))

  behind : Shorter (m ∷ ms) ns → is_among ns m ≡ true → AtMost (m ∷ ms) ns
  behind later e =
      let above = less_among n m ns (first_true (list_all (λ j. nat_lt n j) ns) _ b) e in
      let all = both_true (nat_lt n m) _ above (passes n m ms above (first_true (list_all (λ j. nat_lt m j) ms) _ a)) in
      later a (second_true (list_all (λ j. nat_lt n j) ns) _ b) (all_behind n ns (m ∷ ms) all h)

  step : Shorter ms ns → Shorter (m ∷ ms) ns → AtMost (m ∷ ms) (n ∷ ns)
  step one two = by (n == m) refl (first_true (is_among (n ∷ ns) m) _ h)
    where
      by : (t : Bool) → (n == m) ≡ t → (t || is_among ns m) ≡ true → AtMost (m ∷ ms) (n ∷ ns)
      by true e k =
          let r = tails one e in
          record {
            few = omega (arith, r.few);
            whole = λ q. ap (λ x. x ∷ ms) (sym (same_number n m e)) ∙ ap (λ l. n ∷ l) (r.whole (omega (arith, q)));
          }
      by false e k = let r = behind two k in record { few = omega (arith, r.few); whole = λ q. absurd (omega (arith, r.few, q)) }

pub at_most : (ns ms : List ℕ) → Shorter ms ns
at_most [] [] a b h = record { few = omega arith; whole = λ e. refl }
at_most (n ∷ ns) [] a b h = record { few = omega arith; whole = λ e. absurd (omega (arith, e)) }
at_most [] (m ∷ ms) a b h = absurd (true≢false (sym h))
at_most (n ∷ ns) (m ∷ ms) a b h = step m ms n ns a b h (at_most ns ms) (at_most ns (m ∷ ms))

-- how many inputs there are, from any number on
abbrev counts : List Var → ℕ
counts [] = 0
counts (v ∷ vars) = cond (same_kind v.kind kind.Input) (1 + counts vars) (counts vars)

counted : (k : ℕ) (vars : List Var)
    → length (map (λ (p : ℕ × Var). p.0) (filter (λ (p : ℕ × Var). same_kind p.1.kind kind.Input) (numbered k vars))) ≡ counts vars
counted k [] = refl
counted k (v ∷ vars) = by (same_kind v.kind kind.Input) _ _ (counted (k + 1) vars)
  where
    by : (t : Bool) (rest : List (ℕ × Var)) (n : ℕ) → length (map (λ (p : ℕ × Var). p.0) rest) ≡ n
        → length (map (λ (p : ℕ × Var). p.0) (cond t ((k, v) ∷ rest) rest)) ≡ cond t (1 + n) n
    by true rest n e = omega (arith, e)
    by false rest n e = e

pub count_is : (vars : List Var) → length (input_numbers vars) ≡ count_by (λ (v : Var). same_kind v.kind kind.Input) vars
count_is vars = counted 0 vars ∙ is_count_by counts (λ (v : Var). same_kind v.kind kind.Input) refl (λ v vs. refl) vars

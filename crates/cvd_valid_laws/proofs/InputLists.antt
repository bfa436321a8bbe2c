-- Ascending lists with the same members are the same, and the numbers of input variables ascend.
use Rattle.std.proofs.Common.{◌≡◌, ℕ, zero, suc, ◌+◌, ◌<◌, ◌≤◌, Bool, true, false, cond, List, [], ◌∷◌, map, filter, length, refl, sym, ◌∙◌, ap, subst, arith}
use Rattle.std.specs.Prelude.{◌⊎◌, AllPairs, Contains, slice_index_or}
use Rattle.std.specs.List.{AllByRecursion}
use mathlib.Core.Logic.{inl, inr}
use Rattle.std.proofs.lemmas.Bool.{true≢false}
use Rattle.cov_types.specs.declared.kind.VarKind.TheVariants as var_kind
use Rattle.cov_types.specs.declared.var.Var.{Var}
use Rattle.circuit_run.specs.Lists.{numbered}
use Rattle.circuit_run.specs.States.{var_of}
use Rattle.design_meaning.proofs.Listed.{by_recursion}
use Rattle.cvd_text.specs.Targets.{same_kind}
use Rattle.cvd_valid_laws.proofs.Ascending.{all_map}
use Rattle.cvd_valid_laws.proofs.Processes.{kind_is, is_kind}

-- ---- ascending lists

abbrev pub In : List ℕ → ℕ → Type 0
In [] v = ⊥
In (x ∷ xs) v = (x ≡ v) ⊎ In xs v

abbrev pub Asc : List ℕ → Type 0
Asc [] = Unit {0}
Asc (x ∷ xs) = AllByRecursion (λ y. x < y) xs × Asc xs

pub above : (P : ℕ → Type 0) (xs : List ℕ) (v : ℕ) → AllByRecursion P xs → In xs v → P v
above P [] v h i = absurd i
above P (x ∷ xs) v h i = elim i [ inl e ↦ subst P e h.0 | inr later ↦ above P xs v h.1 later ]

pub asc_same : (xs ys : List ℕ) → Asc xs → Asc ys → ((v : ℕ) → In xs v → In ys v) → ((v : ℕ) → In ys v → In xs v) → xs ≡ ys
asc_same [] [] a b f g = refl
asc_same [] (y ∷ ys) a b f g = absurd (g y (inl refl))
asc_same (x ∷ xs) [] a b f g = absurd (f x (inl refl))
asc_same (x ∷ xs) (y ∷ ys) a b f g =
    ap (λ z. z ∷ xs) same ∙ ap (λ l. y ∷ l) (asc_same xs ys a.1 b.1 (λ v i. go v i (f v (inr i))) (λ v i. back v i (g v (inr i))))
  where
    same : x ≡ y
    same = elim (f x (inl refl)) [
      | inl e ↦ sym e
      | inr i ↦ elim (g y (inl refl)) [
        | inl e ↦ e
        | inr j ↦ let p = above (λ z. y < z) ys x b.0 i in let q = above (λ z. x < z) xs y a.0 j in absurd (omega arith)
      ]
    ]

    go : (v : ℕ) → In xs v → In (y ∷ ys) v → In ys v
    go v i h = elim h [ inl e ↦ let p = above (λ z. x < z) xs v a.0 i in let s = same in absurd (omega (arith, e)) | inr later ↦ later ]

    back : (v : ℕ) → In ys v → In (x ∷ xs) v → In xs v
    back v i h = elim h [ inl e ↦ let p = above (λ z. y < z) ys v b.0 i in let s = same in absurd (omega (arith, e)) | inr later ↦ later ]

pub asc_of : (xs : List ℕ) → AllPairs (λ m n. m < n) xs → Asc xs
asc_of [] h = tt
asc_of (x ∷ xs) h = (
  by_recursion (λ y. x < y) xs (λ k d lt. h zero (suc k) d (omega arith) (omega (arith, lt))),
  asc_of xs (λ i j d a b. h (suc i) (suc j) d (omega (arith, a)) (omega (arith, b))),
)

pub in_of : (xs : List ℕ) (v : ℕ) → Contains xs v → In xs v
in_of xs v (k, lt, e) = by xs k lt e
  where
    by : (xs : List ℕ) (k : ℕ) → k < length xs → slice_index_or xs k v ≡ v → In xs v
    by [] k lt e = absurd (omega (arith, lt))
    by (x ∷ xs) zero lt e = inl e
    by (x ∷ xs) (suc k) lt e = inr (by xs k (omega (arith, lt)) e)

pub of_in : (xs : List ℕ) (v : ℕ) → In xs v → Contains xs v
of_in [] v i = absurd i
of_in (x ∷ xs) v i = elim i [
  | inl e ↦ (0, omega arith, e)
  | inr later ↦ let c = of_in xs v later in (suc c.0, (let lt = c.1 in omega arith), c.2)
]

-- ---- the numbers of input variables

abbrev is_input : ℕ × Var → Bool
is_input p = same_kind p.1.kind var_kind.Input

abbrev pub numbers_from : ℕ → List Var → List ℕ
numbers_from n vars = map (λ (p : ℕ × Var). p.0) (filter is_input (numbered n vars))

abbrev front : ℕ → Var → List Var → Bool → List ℕ
front n v vars b = map (λ (p : ℕ × Var). p.0) (cond b ((n, v) ∷ filter is_input (numbered (n + 1) vars)) (filter is_input (numbered (n + 1) vars)))

-- a variable of an input kind adds its number, another none
by_kind : (n : ℕ) (v : Var) (vars : List Var) (P : List ℕ → Type 0) → (same_kind v.kind var_kind.Input ≡ true → P (n ∷ numbers_from (n + 1) vars))
    → (same_kind v.kind var_kind.Input ≡ false → P (numbers_from (n + 1) vars)) → P (numbers_from n (v ∷ vars))
by_kind n v vars P f g = by (same_kind v.kind var_kind.Input) refl
  where
    by : (b : Bool) → same_kind v.kind var_kind.Input ≡ b → P (numbers_from n (v ∷ vars))
    by true e = subst (λ c. P (front n v vars c)) (sym e) (f e)
    by false e = subst (λ c. P (front n v vars c)) (sym e) (g e)

least : (n : ℕ) (vars : List Var) → AllByRecursion (λ v. n ≤ v) (numbers_from n vars)
least n [] = tt
least n (v ∷ vars) =
    let more = all_map (λ v. n + 1 ≤ v) (λ v. n ≤ v) (numbers_from (n + 1) vars) (λ v h. omega (arith, h)) (least (n + 1) vars) in
    by_kind n v vars (λ l. AllByRecursion (λ v. n ≤ v) l) (λ e. (omega arith, more)) (λ e. more)

pub numbers_ascend : (n : ℕ) (vars : List Var) → Asc (numbers_from n vars)
numbers_ascend n [] = tt
numbers_ascend n (v ∷ vars) =
    by_kind n v vars Asc
    (λ e. (all_map (λ v. n + 1 ≤ v) (λ v. n < v) (numbers_from (n + 1) vars) (λ v h. omega (arith, h)) (least (n + 1) vars), numbers_ascend (n + 1) vars))
    (λ e. numbers_ascend (n + 1) vars)

-- each variable of an input kind is there
pub number_in : (n : ℕ) (vars : List Var) (k : ℕ) → k < length vars → (var_of vars k).kind ≡ var_kind.Input → In (numbers_from n vars) (n + k)
number_in n [] k lt e = absurd (omega (arith, lt))
number_in n (v ∷ vars) zero lt e =
    by_kind n v vars (λ l. In l (n + 0)) (λ h. inl (omega arith)) (λ h. absurd (true≢false (sym (is_kind v.kind var_kind.Input e) ∙ h)))
number_in n (v ∷ vars) (suc k) lt e =
    let later = subst (In (numbers_from (n + 1) vars)) (omega arith) (number_in (n + 1) vars k (omega (arith, lt)) e) in
    by_kind n v vars (λ l. In l (n + suc k)) (λ h. inr later) (λ h. later)

-- what a number among them says
pub record Numbered (n : ℕ) (vars : List Var) (v : ℕ) : Type 0 where
  pub place : ℕ
  pub is : n + place ≡ v
  pub within : place < length vars
  pub input : (var_of vars place).kind ≡ var_kind.Input

further : (n : ℕ) (x : Var) (vars : List Var) (v : ℕ) → Numbered (n + 1) vars v → Numbered n (x ∷ vars) v
further n x vars v h = record { place = suc h.place; is = omega (arith, h.is); within = omega (arith, h.within); input = h.input }

pub in_numbers : (n : ℕ) (vars : List Var) (v : ℕ) → In (numbers_from n vars) v → Numbered n vars v
in_numbers n [] v i = absurd i
in_numbers n (x ∷ vars) v i =
    by_kind n x vars (λ l. In l v → Numbered n (x ∷ vars) v)
    (λ e j. elim j [
      | inl same ↦ record { place = 0; is = omega (arith, same); within = omega arith; input = kind_is x.kind var_kind.Input e }
      | inr later ↦ further n x vars v (in_numbers (n + 1) vars v later)
    ])
    (λ e j. further n x vars v (in_numbers (n + 1) vars v j)) i

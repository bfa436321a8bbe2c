-- Numbers handed out one after the other.
use Rattle.std.proofs.Common.{◌≡◌, ℕ, ◌+◌, ◌<◌, ◌≤◌, zero, suc, Bool, true, false, List, [], ◌∷◌, ◌++◌, length, take, get_or, refl, sym, ◌∙◌, ap, arith}
use Rattle.std.specs.Prelude.{Option, Some, None}
use Rattle.std.specs.Bool.{then_some}
use Rattle.std.specs.Int.{from_bool}
use Rattle.std.proofs.lemmas.List.{take_more, take_all}
use Rattle.mark_numbers.specs.Numbers.{is_set, number_at, how_many_set, HaveNumbers}

-- each set mark has the next number, from n on
abbrev pub numbers_from : ℕ → List Bool → List (Option ℕ)
numbers_from n [] = []
numbers_from n (true ∷ marks) = Some n ∷ numbers_from (n + 1) marks
numbers_from n (false ∷ marks) = None ∷ numbers_from n marks

-- ---- what they are

as_many : (n : ℕ) (marks : List Bool) → length (numbers_from n marks) ≡ length marks
as_many n [] = refl
as_many n (true ∷ marks) = ap suc (as_many (n + 1) marks)
as_many n (false ∷ marks) = ap suc (as_many n marks)

set_has : (n : ℕ) (marks : List Bool) (i : ℕ) → is_set marks i ≡ true → (c : ℕ) × (number_at (numbers_from n marks) i ≡ Some c)
set_has n [] i h = absurd (cc)
set_has n (true ∷ marks) zero h = (n, refl)
set_has n (true ∷ marks) (suc i) h = set_has (n + 1) marks i h
set_has n (false ∷ marks) zero h = absurd (cc)
set_has n (false ∷ marks) (suc i) h = set_has n marks i h

unset_has : (n : ℕ) (marks : List Bool) (i : ℕ) → is_set marks i ≡ false → number_at (numbers_from n marks) i ≡ None
unset_has n [] i h = refl
unset_has n (true ∷ marks) zero h = absurd (cc)
unset_has n (true ∷ marks) (suc i) h = unset_has (n + 1) marks i h
unset_has n (false ∷ marks) zero h = refl
unset_has n (false ∷ marks) (suc i) h = unset_has n marks i h

in_range : (n : ℕ) (marks : List Bool) (i c : ℕ) → number_at (numbers_from n marks) i ≡ Some c → (n ≤ c) × (c < n + how_many_set marks)
in_range n [] i c h = absurd (cc)
in_range n (true ∷ marks) zero c h = let e : n ≡ c = cc in (omega arith, omega arith)
in_range n (true ∷ marks) (suc i) c h = let k = in_range (n + 1) marks i c h in (omega arith, omega arith)
in_range n (false ∷ marks) zero c h = absurd (cc)
in_range n (false ∷ marks) (suc i) c h = in_range n marks i c h

own : (n : ℕ) (marks : List Bool) (i j c : ℕ) → number_at (numbers_from n marks) i ≡ Some c → number_at (numbers_from n marks) j ≡ Some c → i ≡ j
own n [] i j c h k = absurd (cc)
own n (true ∷ marks) zero zero c h k = refl
own n (true ∷ marks) zero (suc j) c h k = let e : n ≡ c = cc in let w = in_range (n + 1) marks j c k in absurd (omega arith)
own n (true ∷ marks) (suc i) zero c h k = let e : n ≡ c = cc in let w = in_range (n + 1) marks i c h in absurd (omega arith)
own n (true ∷ marks) (suc i) (suc j) c h k = ap suc (own (n + 1) marks i j c h k)
own n (false ∷ marks) zero j c h k = absurd (cc)
own n (false ∷ marks) (suc i) zero c h k = absurd (cc)
own n (false ∷ marks) (suc i) (suc j) c h k = ap suc (own n marks i j c h k)

have_numbers : (n next : ℕ) (marks : List Bool) (numbers : List (Option ℕ)) → numbers ≡ numbers_from n marks → next ≡ n + how_many_set marks
    → HaveNumbers marks n next numbers
have_numbers n next marks numbers is e = record {
  many = ap length is ∙ as_many n marks;
  given = λ i h. let k = set_has n marks i h in (k.0, ap (λ (xs : List (Option ℕ)). number_at xs i) is ∙ k.1);
  none = λ i h. ap (λ (xs : List (Option ℕ)). number_at xs i) is ∙ unset_has n marks i h;
  within = λ i c h. let k = in_range n marks i c (back i c h) in (k.0, omega arith);
  apart = λ i j c h k. own n marks i j c (back i c h) (back j c k);
  next_is = e;
}
  where
    back : (i c : ℕ) → number_at numbers i ≡ Some c → number_at (numbers_from n marks) i ≡ Some c
    back i c h = ap (λ (xs : List (Option ℕ)). number_at xs i) (sym is) ∙ h

-- ---- one mark more

numbers_more : (n : ℕ) (marks : List Bool) (m : Bool)
    → numbers_from n (marks ++ m ∷ []) ≡ numbers_from n marks ++ then_some m (n + how_many_set marks) ∷ []
numbers_more n [] true = let e : n ≡ n + 0 = omega arith in ap (λ k. Some k ∷ []) e
numbers_more n [] false = refl
numbers_more n (true ∷ marks) m =
    let e : n + 1 + how_many_set marks ≡ n + how_many_set (true ∷ marks) = omega arith in
    ap (λ xs. Some n ∷ xs) (numbers_more (n + 1) marks m ∙ ap (λ k. numbers_from (n + 1) marks ++ then_some m k ∷ []) e)
numbers_more n (false ∷ marks) m = ap (λ xs. None ∷ xs) (numbers_more n marks m)

set_more : (marks : List Bool) (m : Bool) → how_many_set (marks ++ m ∷ []) ≡ how_many_set marks + from_bool m
set_more [] true = refl
set_more [] false = refl
set_more (true ∷ marks) m = let h = set_more marks m in omega arith
set_more (false ∷ marks) m = set_more marks m

few_set : (marks : List Bool) → how_many_set marks ≤ length marks
few_set [] = omega arith
few_set (true ∷ marks) = let h = few_set marks in omega arith
few_set (false ∷ marks) = let h = few_set marks in omega arith

front : (xs : List Bool) (i : ℕ) → i < length xs → take (i + 1) xs ≡ take i xs ++ get_or xs i false ∷ []
front xs i lt = take_more xs i false lt

-- ---- over the marks so far

pub record AreNumbered (marks : List Bool) (first next : ℕ) (numbers : List (Option ℕ)) : Type 0 where
  pub numbers_are : numbers ≡ numbers_from first marks
  pub next_is : next ≡ first + how_many_set marks

pub none_yet : (first : ℕ) (marks : List Bool) (numbers : List (Option ℕ)) → numbers ≡ [] → AreNumbered (take 0 marks) first first numbers
none_yet first marks numbers is = record { numbers_are = is; next_is = omega arith }

pub next_mark : (marks : List Bool) (i first next : ℕ) (numbers new : List (Option ℕ)) → i < length marks → AreNumbered (take i marks) first next numbers
    → new ≡ numbers ++ then_some (get_or marks i false) next ∷ []
    → AreNumbered (take (i + 1) marks) first (next + from_bool (get_or marks i false)) new
next_mark marks i first next numbers new lt h is = record {
  numbers_are = is ∙ (ap (λ (xs : List (Option ℕ)). xs ++ then_some (get_or marks i false) next ∷ []) h.numbers_are
      ∙ (ap (λ k. numbers_from first (take i marks) ++ then_some (get_or marks i false) k ∷ []) h.next_is
      ∙ (sym (numbers_more first (take i marks) (get_or marks i false)) ∙ ap (numbers_from first) (sym (front marks i lt)))));
  next_is =
      let e = set_more (take i marks) (get_or marks i false) in
      let f : how_many_set (take (i + 1) marks) ≡ how_many_set (take i marks ++ get_or marks i false ∷ []) = ap how_many_set (front marks i lt) in
      let g = h.next_is in
      omega arith;
}

pub room_for_one : (marks : List Bool) (i first next : ℕ) (numbers : List (Option ℕ)) → i < length marks → AreNumbered (take i marks) first next numbers
    → next + from_bool (get_or marks i false) ≤ first + length marks
room_for_one marks i first next numbers lt h =
    let e = set_more (take i marks) (get_or marks i false) in
    let f : how_many_set (take (i + 1) marks) ≡ how_many_set (take i marks ++ get_or marks i false ∷ []) = ap how_many_set (front marks i lt) in
    let k = few_set (take (i + 1) marks) in
    let l = short (i + 1) marks in
    let g = h.next_is in
    omega arith
  where
    short : (n : ℕ) (xs : List Bool) → length (take n xs) ≤ length xs
    short zero xs = omega arith
    short (suc n) [] = omega arith
    short (suc n) (x ∷ xs) = let h = short n xs in omega arith

pub all_numbered : (marks : List Bool) (i first next : ℕ) (numbers : List (Option ℕ)) → length marks ≤ i → AreNumbered (take i marks) first next numbers
    → HaveNumbers marks first next numbers
all_numbered marks i first next numbers end h =
    have_numbers first next marks numbers
    (h.numbers_are ∙ ap (numbers_from first) (take_all i marks end))
    (h.next_is ∙ ap (λ (xs : List Bool). first + how_many_set xs) (take_all i marks end))

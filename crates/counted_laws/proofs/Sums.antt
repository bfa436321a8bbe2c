-- Sums of numbers over lists.
use Rattle.std.proofs.Common.{◌≡◌, ℕ, ◌+◌, List, [], ◌∷◌, ◌++◌, map, refl, ◌∙◌, ap, arith}
use Rattle.std.proofs.lemmas.List.{map-append}
use Rattle.circuit_run.specs.Lists.{total}

total_joined : (xs ys : List ℕ) → total (xs ++ ys) ≡ total xs + total ys
total_joined [] ys = omega arith
total_joined (x ∷ xs) ys = let e = total_joined xs ys in omega arith

-- the sum over two lists, one after the other
pub sum_joined : (f : ℕ → ℕ) (xs ys : List ℕ) → total (map f (xs ++ ys)) ≡ total (map f xs) + total (map f ys)
sum_joined f xs ys = ap total (map-append f xs ys) ∙ total_joined (map f xs) (map f ys)

four : (f g a b c : ℕ) → c ≡ a + b → (f + g) + c ≡ (f + a) + (g + b)
four f g a b c e = omega arith

-- the sum of two numbers for each
pub sum_split : (f g : ℕ → ℕ) (xs : List ℕ) → total (map (λ a. f a + g a) xs) ≡ total (map f xs) + total (map g xs)
sum_split f g [] = omega arith
sum_split f g (x ∷ xs) =
    four (f x) (g x) (total (map f xs)) (total (map g xs)) (total (map (λ a. f a + g a) xs)) (sum_split f g xs)

pub sum_same : (f g : ℕ → ℕ) (xs : List ℕ) → ((a : ℕ) → f a ≡ g a) → total (map f xs) ≡ total (map g xs)
sum_same f g [] each = refl
sum_same f g (x ∷ xs) each = let e = sum_same f g xs each in let one = each x in omega arith

pub sum_zero : (f : ℕ → ℕ) (xs : List ℕ) → ((a : ℕ) → f a ≡ 0) → total (map f xs) ≡ 0
sum_zero f [] each = refl
sum_zero f (x ∷ xs) each = let e = sum_zero f xs each in let one = each x in omega arith

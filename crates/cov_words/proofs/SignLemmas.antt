-- A word at its first '='.
use Rattle.std.proofs.Common.{◌≡◌, ◌≢◌, ℕ, suc, ◌<◌, Bool, true, false, List, [], ◌∷◌, ◌++◌, Option, None, Some, Bor, length, get_or, eqb, refl, sym, ◌∙◌, ap}
use Rattle.std.proofs.Common.{arith}
use Rattle.std.specs.Prelude.{IfSome, MatchOption, option_map, if◌then◌else◌}
use Rattle.std.proofs.lemmas.Bool.{eqb-true, ne_eqb}
use Rattle.std.proofs.lemmas.Option.{none-some}
use Rattle.cov_words.specs.Pieces.{at_equal_sign}

-- no byte is a '='
abbrev pub HasNone : List ℕ → Type 0
HasNone bs = (i : ℕ) → i < length bs → get_or bs i 0 ≢ 61

rest-none : (b : ℕ) (bs : List ℕ) → HasNone (b ∷ bs) → HasNone bs
rest-none b bs h = λ i l. h (suc i) (omega arith)

first-none : (b : ℕ) (bs : List ℕ) → HasNone (b ∷ bs) → eqb b 61 ≡ false
first-none b bs h = ne_eqb b 61 (h 0 (omega arith))

none_at : (bs : List ℕ) → HasNone bs → at_equal_sign bs ≡ None
none_at [] h = refl
none_at (b ∷ bs) h = rw (first-none b bs h) (rw (none_at bs (rest-none b bs h)) refl)

-- what stands before a '=', and what stands after it
abbrev pub Parts : Type 0
Parts = List ℕ × List ℕ

-- what is found in b ∷ bs, where r is found in bs and t says that b is a '='
abbrev sign_step : Bool → ℕ → List ℕ → Option Parts → Option Parts
sign_step t b bs r = if t then Some ([], bs) else option_map (λ p. (b ∷ p.0, p.1)) r

step-none : (t : Bool) (b : ℕ) (bs : List ℕ) (r : Option Parts) → sign_step t b bs r ≡ None → (t ≡ false) × (r ≡ None)
step-none true b bs r e = absurd (none-some _ (sym e))
step-none false b bs None e = (refl, refl)
step-none false b bs (Some p) e = absurd (none-some _ (sym e))

-- the first '=' behind bytes that have none
pub sign_at : (front value : List ℕ) → at_equal_sign front ≡ None → at_equal_sign (front ++ 61 ∷ value) ≡ Some (front, value)
sign_at [] value e = refl
sign_at (b ∷ front) value e = let s = step-none (eqb b 61) b front (at_equal_sign front) e in rw s.0 (rw (sign_at front value s.1) refl)

abbrev pub StandAround : List ℕ → Option Parts → Type 0
StandAround word parts = IfSome parts (λ (p : Parts). word ≡ p.0 ++ 61 ∷ p.1)

step-around : (t : Bool) (b : ℕ) (word : List ℕ) (r : Option Parts) → (t ≡ true → b ≡ 61) → StandAround word r → StandAround (b ∷ word) (sign_step t b word r)
step-around true b word r h k = ap (λ (x : ℕ). x ∷ word) (h refl)
step-around false b word None h k = tt
step-around false b word (Some p) h k = ap (λ (w : List ℕ). b ∷ w) k

-- what is found stands around a '='
pub around_sign : (word : List ℕ) → StandAround word (at_equal_sign word)
around_sign [] = tt
around_sign (b ∷ word) = step-around (eqb b 61) b word (at_equal_sign word) (eqb-true b 61) (around_sign word)

abbrev seen : Option (Bor (List ℕ) × Bor (List ℕ)) → Option Parts
seen r = option_map (λ p. (p.0.now, p.1.now)) r

-- what a split gives is what stands around the first '='
pub split_at : (bs : List ℕ) (r : Option (Bor (List ℕ) × Bor (List ℕ)))
    → MatchOption r (HasNone bs) (λ x. (bs ≡ x.0.now ++ (61 ∷ x.1.now)) × HasNone x.0.now) → seen r ≡ at_equal_sign bs
split_at bs None h = sym (none_at bs h)
split_at bs (Some x) h = sym (ap at_equal_sign h.0 ∙ sign_at x.0.now x.1.now (none_at x.0.now h.1))

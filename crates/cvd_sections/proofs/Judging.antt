-- Whether what was read of a line may stand, by its conditions.
use Rattle.std.proofs.Common.{◌≡◌, ℕ, ◌≤◌, ◌<◌, Bool, true, false, cond, Some, None, refl, ◌∙◌, ap, arith}
use Rattle.std.specs.Prelude.{◌&&◌, nat_lt}
use Rattle.std.proofs.lemmas.Bool.Decides.{nat_tests}
use Rattle.cvd_cursor.specs.Numerals.{below}

-- a number that is held is that number, and one that isn't is too large
pub held_is : (limit n held : ℕ) → Some held ≡ below limit n → held ≡ n
held_is limit n held = by (nat_lt n limit)
  where
    by : (b : Bool) → Some held ≡ cond b (Some n) None → held ≡ n
    by true e = cc
    by false e = absurd (cc)

pub held_less : (limit n held : ℕ) → Some held ≡ below limit n → n < limit
held_less limit n held = by (nat_lt n limit) refl
  where
    less : nat_lt n limit ≡ true → n < limit
    less e = grind (arith, nat_tests)

    by : (b : Bool) → nat_lt n limit ≡ b → Some held ≡ cond b (Some n) None → n < limit
    by true p e = less p
    by false p e = absurd (cc)

pub not_held : (limit n : ℕ) → None ≡ below limit n → limit ≤ n
not_held limit n = by (nat_lt n limit) refl
  where
    least : nat_lt n limit ≡ false → limit ≤ n
    least e = grind (arith, nat_tests)

    by : (b : Bool) → nat_lt n limit ≡ b → None ≡ cond b (Some n) None → limit ≤ n
    by true p e = absurd (cc)
    by false p e = least p

pub not_below : (n m : ℕ) → m ≤ n → nat_lt n m ≡ false
not_below n m h = grind (arith, nat_tests)

pub is_below : (n m : ℕ) → n < m → nat_lt n m ≡ true
is_below n m h = grind (arith, nat_tests)

-- ---- conditions that all have to hold

pub fails_first : (a b : Bool) → a ≡ false → (a && b) ≡ false
fails_first a b h = ap (λ x. x && b) h

pub fails_second : (a b : Bool) → b ≡ false → (a && b) ≡ false
fails_second true b h = h
fails_second false b h = refl

pub both_hold : (a b : Bool) → a ≡ true → b ≡ true → (a && b) ≡ true
both_hold a b h k = ap (λ x. x && b) h ∙ k

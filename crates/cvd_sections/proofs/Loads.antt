-- A variable stands where its numbers go together and there is room for its bits.
use Rattle.std.proofs.Common.{◌≡◌, ℕ, ◌+◌, ◌*◌, ◌≤◌, ◌<◌, Bool, true, false, refl, ◌∙◌, ap, arith}
use Rattle.std.specs.Prelude.{◌&&◌, ◌||◌, ◌==◌, nat_le}
use Rattle.std.proofs.lemmas.Bool.Decides.{nat_tests}
use Rattle.std.proofs.Math.Nat.{mul-le-mul_left}
use Rattle.cov_types.specs.declared.var.Var.{Var}
use Rattle.cvd_text.specs.Lines.{stands}
use Rattle.cvd_text.specs.Sections.{is_variable, var_line}
use Rattle.cvd_sections.specs.Fields.{load_of}

drop_trues : (b : Bool) → (((b && true) && true) && true) ≡ b
drop_trues true = refl
drop_trues false = refl

-- nothing but the bits is added
pub stands_by_bits : (bits : ℕ) (v : Var) → stands (load_of bits) (var_line v) ≡ (is_variable v && nat_le (bits + v.width * v.words) 16777216)
stands_by_bits bits v = ap (λ b. is_variable v && b) (drop_trues (nat_le (bits + v.width * v.words) 16777216))

pub at_most : (a b : ℕ) → a ≤ b → nat_le a b ≡ true
at_most a b h = grind (arith, nat_tests)

pub too_many : (a b : ℕ) → b < a → nat_le a b ≡ false
too_many a b h = grind (arith, nat_tests)

pub least_of : (a b : ℕ) → nat_le a b ≡ true → a ≤ b
least_of a b h = grind (arith, nat_tests)

pub not_zero : (n : ℕ) → 0 < n → (n == 0) ≡ false
not_zero n h = grind (arith, nat_tests)

pub either_fails : (a b : Bool) → a ≡ false → b ≡ false → (a || b) ≡ false
either_fails a b h k = ap (λ x. x || b) h ∙ k

pub some_product : (a b : ℕ) → 1 ≤ a → 1 ≤ b → 1 ≤ a * b
some_product a b h k = let least = mul-le-mul_left a k in omega arith

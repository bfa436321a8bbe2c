-- Where the last quote stands.
use Rattle.std.proofs.Common.{◌≡◌, ℕ, zero, suc, ◌<◌, ◌≤◌, true, eqb, List, [], ◌∷◌, length, take, drop, refl, None, Some, arith}
use Rattle.std.specs.Prelude.{slice_index}
use Rattle.cov_port.proofs.LineLemmas.{Misses, misses}
use Rattle.cov_dat.specs.DataLine.{at_last_quote}

-- a text without quote has no last one
pub at_last_quote-none : (bs : List ℕ) → ((k : ℕ) → k < length bs → Misses 39 bs k) → at_last_quote bs ≡ None
at_last_quote-none [] miss = refl
at_last_quote-none (b ∷ bs) miss = rw (at_last_quote-none bs (λ k below. miss (suc k) (omega arith)), misses (eqb b 39) (miss 0 (omega arith))) refl

-- a quote behind which there is none is the last
pub at_last_quote-some : (bs : List ℕ) (i : ℕ) → i < length bs → eqb (slice_index bs i) 39 ≡ true → ((k : ℕ) → suc i ≤ k → k < length bs → Misses 39 bs k)
    → at_last_quote bs ≡ Some (take i bs, drop (suc i) bs)
at_last_quote-some [] i below here miss = absurd (omega arith)
at_last_quote-some (b ∷ bs) zero below here miss = rw (at_last_quote-none bs (λ k less. miss (suc k) (omega arith) (omega arith)), here) refl
at_last_quote-some (b ∷ bs) (suc i) below here miss = rw
    (at_last_quote-some bs i (omega arith) here (λ k from less. miss (suc k) (omega arith) (omega arith))) refl

-- Where lines end.
use Rattle.std.proofs.Common.{◌≡◌, ℕ, zero, suc, ◌<◌, ◌≤◌, Bool, true, false, cond, eqb, List, [], ◌∷◌, length, take, drop, refl, ◌∙◌, ap, arith}
use Rattle.std.specs.Prelude.{slice_index}
use Rattle.cov_port.specs.Lines.{Line, onto_line, lines_of}

-- the byte at k is another one
abbrev pub Misses : ℕ → List ℕ → ℕ → Type 0
Misses byte bs k = eqb (slice_index bs k) byte ≡ true → ⊥

pub misses : (test : Bool) → (test ≡ true → ⊥) → test ≡ false
misses true miss = absurd (miss refl)
misses false miss = refl

-- a text without line feed is one line that none ends
pub lines_of-none : (bs : List ℕ) → 0 < length bs → ((k : ℕ) → k < length bs → Misses 10 bs k) → lines_of bs ≡ (bs, false) ∷ []
lines_of-none [] some miss = absurd (omega arith)
lines_of-none (b ∷ []) some miss = rw (misses (eqb b 10) (miss 0 (omega arith))) refl
lines_of-none (b ∷ c ∷ bs) some miss =
    let rest : lines_of (c ∷ bs) ≡ (c ∷ bs, false) ∷ [] = lines_of-none (c ∷ bs) (omega arith) (λ k below. miss (suc k) (omega arith)) in
    let first : eqb b 10 ≡ false = misses (eqb b 10) (miss 0 (omega arith)) in
    ap (λ (test : Bool). cond test (([], true) ∷ lines_of (c ∷ bs)) (onto_line b (lines_of (c ∷ bs)))) first ∙ ap (λ (ls : List Line). onto_line b ls) rest

-- the first line feed ends the first line
pub lines_of-some : (bs : List ℕ) (i : ℕ) → i < length bs → eqb (slice_index bs i) 10 ≡ true → ((k : ℕ) → k < i → Misses 10 bs k)
    → lines_of bs ≡ (take i bs, true) ∷ lines_of (drop (suc i) bs)
lines_of-some [] i below here miss = absurd (omega arith)
lines_of-some (b ∷ bs) zero below here miss = ap (λ (test : Bool). cond test (([], true) ∷ lines_of bs) (onto_line b (lines_of bs))) here
lines_of-some (b ∷ bs) (suc i) below here miss =
    let rest : lines_of bs ≡ (take i bs, true) ∷ lines_of (drop (suc i) bs) = lines_of-some bs i (omega arith) here (λ k less. miss (suc k) (omega arith)) in
    let first : eqb b 10 ≡ false = misses (eqb b 10) (miss 0 (omega arith)) in
    ap (λ (test : Bool). cond test (([], true) ∷ lines_of bs) (onto_line b (lines_of bs))) first ∙ ap (λ (ls : List Line). onto_line b ls) rest

-- The next one of a word among the bits of entries that ascend.
use Rattle.std.proofs.Common.{◌≡◌, ◌∙◌, sym, ap, subst, ℕ, ◌+◌, ◌-◌, ◌<◌, ◌≤◌, ◌/◌, ◌^◌, List, inl, inr, length, arith}
use Rattle.std.specs.Int.{bit_at, trailing_zeros, w128}
use Rattle.std.proofs.lemmas.Bool.{cases_eq}
use Rattle.std.proofs.lemmas.Nat.{shr_le}
use Rattle.std.proofs.lemmas.Nat.Bits.{bit_at-trailing_zeros, bit_at-zero}
use Rattle.bit_values.proofs.BitLemmas.{bit_at-shr}
use Rattle.design_tree.specs.declared.instrumented.ToggleEntry.{ToggleEntry}
use Rattle.cycle_parts.specs.Toggles.{DoBitsAscend, entry_at}

from_on : (es : List ToggleEntry) → DoBitsAscend es → (i k : ℕ) → i ≤ k → k < length es → (entry_at es i).bit ≤ (entry_at es k).bit
from_on es ascend i k le lt = elim (cases_eq i k) [
  | inl e ↦ subst (λ k. (entry_at es i).bit ≤ (entry_at es k).bit) e (omega arith)
  | inr ne ↦ omega (arith, ascend i k (omega (arith, le, ne)) lt)
]

-- a bit of a word from a place on, by the word shifted down
from_place : (word place bit : ℕ) → place ≤ bit → bit_at (word / 2 ^ place) (bit - place) ≡ bit_at word bit
from_place word place bit le = bit_at-shr word place (bit - place) ∙ ap (bit_at word) (omega (arith, le))

pub none_above : (es : List ToggleEntry) → DoBitsAscend es → (word at place : ℕ) → place ≡ (entry_at es at).bit → word / 2 ^ place ≡ 0 → (k : ℕ)
    → at ≤ k → k < length es → bit_at word (entry_at es k).bit ≡ 0
none_above es ascend word at place is e k le lt =
    let bit = (entry_at es k).bit in
    let from : (entry_at es at).bit ≤ bit = from_on es ascend at k le lt in
    sym (from_place word place bit (omega (arith, is, from))) ∙ ap (λ n. bit_at n (bit - place)) e ∙ bit_at-zero (bit - place)

pub none_between : (es : List ToggleEntry) → DoBitsAscend es → (word at next place : ℕ) → place ≡ (entry_at es at).bit → 0 < word / 2 ^ place
    → word < 2 ^ 128 → next < length es → (entry_at es next).bit ≡ place + trailing_zeros w128 (word / 2 ^ place) → (k : ℕ)
    → at ≤ k → k < next → bit_at word (entry_at es k).bit ≡ 0
none_between es ascend word at next place is some fits lt e k le less =
    let bit = (entry_at es k).bit in
    let from : (entry_at es at).bit ≤ bit = from_on es ascend at k le (omega (arith, less, lt)) in
    let below : bit < (entry_at es next).bit = ascend k next less lt in
    let few : word / 2 ^ place < 2 ^ 128 = omega (arith, fits, shr_le word place) in
    sym (from_place word place bit (omega (arith, is, from)))
    ∙ (bit_at-trailing_zeros w128 (word / 2 ^ place) some few).2 (bit - place) (omega (arith, is, from, below, e))

-- Sums that stop at the greatest number of their type, and lines that end with a condition on them.
use Rattle.std.proofs.Common.{◌≡◌, ℕ, ◌+◌, ◌-◌, ◌<◌, ◌≤◌, ◌^◌, Bool, true, false, List, [], ◌∷◌, refl, sym, ◌∙◌, ap, arith}
use Rattle.std.specs.Prelude.{◌&&◌, min, nat_le}
use Rattle.std.proofs.lemmas.Bool.{true≢false}
use Rattle.std.proofs.lemmas.Bool.Decides.{nat_tests}
use Rattle.cov_types.specs.Limits.{most}
use Rattle.cov_types.specs.declared.limit.LimitName.TheVariants as limit
use Rattle.cvd_text.specs.Lines.{Load, most_steps}
use Rattle.cvd_text.specs.Pieces.{Piece, a_word, feed, line_end, fits}
use Rattle.spelling_laws.specs.Spelled.{all_fit}
use Rattle.cvd_cursor.specs.Places.{Reading}
use Rattle.cvd_cursor.specs.Reads.{Takes, line_marks}
use Rattle.cvd_steps.specs.Adding.{AddsUp}
use Rattle.cvd_steps.specs.Bodies.{own_load}

pub left_of : (a b : Bool) → (a && b) ≡ true → a ≡ true
left_of true b e = refl
left_of false b e = absurd (true≢false (sym e))

pub right_of : (a b : Bool) → (a && b) ≡ true → b ≡ true
right_of true b e = e
right_of false b e = absurd (true≢false (sym e))

pub both : (a b : Bool) → a ≡ true → b ≡ true → (a && b) ≡ true
both a b e f = ap (λ x. x && b) e ∙ f

pub both_false : (a b : Bool) → a ≡ false → (a && b) ≡ false
both_false a b e = ap (λ x. x && b) e

pub and_false : (a b : Bool) → b ≡ false → (a && b) ≡ false
and_false true b e = e
and_false false b e = refl

pub never : (b : Bool) → (b ≡ true → ⊥) → b ≡ false
never true h = absurd (h refl)
never false h = refl

-- a sum, but no more than the greatest number
abbrev pub Sum : ℕ → ℕ → ℕ → Type 0
Sum a b c = c ≡ min (a + b) (2 ^ 64 - 1)

same_test : (a b c m : ℕ) → Sum a b c → m < 2 ^ 64 - 1 → nat_le c m ≡ nat_le (a + b) m
same_test a b c m e h = grind (arith, nat_tests)

pub le_of : (n m : ℕ) → nat_le n m ≡ true → n ≤ m
le_of n m h = grind (arith, nat_tests)

exactly : (a b c m : ℕ) → Sum a b c → m < 2 ^ 64 - 1 → c ≤ m → c ≡ a + b
exactly a b c m e h k = grind arith

four : (a b c d : Bool) → (((a && b) && c) && d) ≡ true → (b ≡ true) × ((c ≡ true) × (d ≡ true))
four true true true true e = (refl, (refl, refl))
four true true true false e = absurd (true≢false (sym e))
four true true false d e = absurd (true≢false (sym e))
four true false c d e = absurd (true≢false (sym e))
four false b c d e = absurd (true≢false (sym e))

pub adds_up : (before : Load) (bits steps nodes shown own_steps own_nodes own_shown : ℕ) → bits ≡ before.bits → Sum before.steps own_steps steps
    → Sum before.nodes own_nodes nodes → Sum before.shown own_shown shown
    → AddsUp before (own_load own_steps own_nodes own_shown) (record { bits = bits; steps = steps; nodes = nodes; shown = shown })
adds_up before bits steps nodes shown p q r b s n w =
    let m = most_steps in
    let k = most limit.Nodes in
    let l = most limit.EdgeText in
    let more : bits ≡ before.bits + 0 = omega arith in
    record {
      same = ap (λ z. nat_le z (most limit.StateBits) && nat_le steps m && nat_le nodes k && nat_le shown l) more
          ∙ ap (λ t. nat_le (before.bits + 0) (most limit.StateBits) && t && nat_le nodes k && nat_le shown l)
          (same_test before.steps p steps m s (omega arith))
          ∙ ap (λ t. nat_le (before.bits + 0) (most limit.StateBits) && nat_le (before.steps + p) m && t && nat_le shown l)
          (same_test before.nodes q nodes k n (omega arith))
          ∙ ap (λ t. nat_le (before.bits + 0) (most limit.StateBits) && nat_le (before.steps + p) m && nat_le (before.nodes + q) k && t)
          (same_test before.shown r shown l w (omega arith));
      exact = λ e.
          let f = four (nat_le bits (most limit.StateBits)) (nat_le steps m) (nat_le nodes k) (nat_le shown l) e in
          exact_load bits (before.bits + 0) steps (before.steps + p) nodes (before.nodes + q) shown (before.shown + r) more
          (exactly before.steps p steps m s (omega arith) (le_of steps m f.0))
          (exactly before.nodes q nodes k n (omega arith) (le_of nodes k f.1.0)) (exactly before.shown r shown l w (omega arith) (le_of shown l f.1.1));
    }
  where
    exact_load : (a b c d e f g h : ℕ) → a ≡ b → c ≡ d → e ≡ f → g ≡ h
        → ◌≡◌ {A = Load} (record { bits = a; steps = c; nodes = e; shown = g }) (record { bits = b; steps = d; nodes = f; shown = h })
    exact_load a b c d e f g h p q r s =
        ap (λ z. record { bits = z; steps = c; nodes = e; shown = g }) p ∙ ap (λ z. record { bits = b; steps = z; nodes = e; shown = g }) q
        ∙ ap (λ z. record { bits = b; steps = d; nodes = z; shown = g }) r ∙ ap (λ z. record { bits = b; steps = d; nodes = f; shown = z }) s

-- where a line's end is taken, it stands
pub stood : (b : Bool) (old new : Reading) → Takes (line_marks b) old new tt → b ≡ true
stood b old new h = by h.read.given h.read.fit
  where
    by : (gs : List Piece) → all_fit fits gs (line_end b ∷ []) ≡ true → b ≡ true
    by [] e = absurd (true≢false (sym e))
    by (feed ∷ gs) e = left_of b _ e
    by (a_word text ∷ gs) e = absurd (true≢false (sym e))

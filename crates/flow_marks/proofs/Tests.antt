-- Bits of a span, place by place and word by word.
use Rattle.std.proofs.Common.{◌≡◌, refl, ℕ, ◌+◌, ◌<◌, ◌≤◌, Bool, true, false, ◌||◌, ◌&&◌, ◌==◌, arith}
use Rattle.std.specs.Prelude.{nat_le, nat_lt}
use Rattle.std.proofs.lemmas.Bool.Decides.{nat_tests}
use Rattle.circuit_run.specs.States.{Bit}
use Rattle.flow_marks.specs.declared.span.Span.{Span}
use Rattle.flow_marks.specs.Slots.{is_in, is_same, row, column, columns}
use Rattle.flow_marks.proofs.Kept.{bit_of}

next_place : (v u : Bool) (w x low p q : ℕ) → low ≤ p
    → (v && nat_le w x && nat_lt x (w + 1) && nat_le low q && nat_lt q (p + 1)) ≡ ((v && (w == x) && (p == q)) || (v && nat_le w x && nat_lt x (w + 1) &&
    nat_le low q && nat_lt q p))
next_place v u w x low p q h = grind (arith, nat_tests)

pub place_more : (s : Span) (w p : ℕ) (b : Bit) → s.place ≤ p → is_in (row s w (p + 1)) b ≡ (is_same (bit_of s.var w p) b || is_in (row s w p) b)
place_more s w p b h = next_place (s.var == b.var) true w b.word s.place p b.place h

next_column : (v a b : Bool) (p q low : ℕ) → low ≤ p
    → (v && a && b && nat_le low q && nat_lt q (p + 1)) ≡ ((v && a && b && nat_le p q && nat_lt q (p + 1)) || (v && a && b && nat_le low q && nat_lt q p))
next_column v a b p q low h = grind (arith, nat_tests)

pub column_more : (s : Span) (p : ℕ) (b : Bit) → s.place ≤ p
    → is_in (columns s (p + 1)) b ≡ (is_in (column s p s.word_end) b || is_in (columns s p) b)
column_more s p b h = next_column (s.var == b.var) (nat_le s.word b.word) (nat_lt b.word s.word_end) p b.place s.place h

next_word : (v : Bool) (from w x p q : ℕ) → from ≤ w
    → (v && nat_le from x && nat_lt x (w + 1) && nat_le p q && nat_lt q (p + 1)) ≡ ((v && (w == x) && (p == q)) || (v && nat_le from x && nat_lt x w &&
    nat_le p q && nat_lt q (p + 1)))
next_word v from w x p q h = grind (arith, nat_tests)

pub word_more : (s : Span) (p w : ℕ) (b : Bit) → s.word ≤ w → is_in (column s p (w + 1)) b ≡ (is_same (bit_of s.var w p) b || is_in (column s p w) b)
word_more s p w b h = next_word (s.var == b.var) s.word w b.word p b.place h

none_between : (a b c : Bool) (low x : ℕ) → (a && b && c && nat_le low x && nat_lt x low) ≡ false
none_between a b c low x = grind (arith, nat_tests)

pub no_place : (s : Span) (w : ℕ) (b : Bit) → is_in (row s w s.place) b ≡ false
no_place s w b = none_between (s.var == b.var) (nat_le w b.word) (nat_lt b.word (w + 1)) s.place b.place

none_among : (v a c : Bool) (from x : ℕ) → (v && nat_le from x && nat_lt x from && a && c) ≡ false
none_among v a c from x = grind (arith, nat_tests)

pub no_word : (s : Span) (p : ℕ) (b : Bit) → is_in (column s p s.word) b ≡ false
no_word s p b = none_among (s.var == b.var) (nat_le p b.place) (nat_lt b.place (p + 1)) s.word b.word

pub no_column : (s : Span) (b : Bit) → is_in (columns s s.place) b ≡ false
no_column s b = none_between (s.var == b.var) (nat_le s.word b.word) (nat_lt b.word s.word_end) s.place b.place

pub or_assoc : (a b c : Bool) → (a || (b || c)) ≡ ((a || b) || c)
or_assoc true b c = refl
or_assoc false b c = refl

-- what it says that a bit lies in a span
pub record Within (s : Span) (b : Bit) : Type 0 where
  pub var : s.var ≡ b.var
  pub word : s.word ≤ b.word
  pub word_end : b.word < s.word_end
  pub place : s.place ≤ b.place
  pub place_end : b.place < s.place_end

pub within : (s : Span) (b : Bit) → is_in s b ≡ true → Within s b
within s b h = record {
  var = grind (arith, nat_tests);
  word = grind (arith, nat_tests);
  word_end = grind (arith, nat_tests);
  place = grind (arith, nat_tests);
  place_end = grind (arith, nat_tests);
}

pub is_within : (s : Span) (w p : ℕ) → s.word ≤ w → w < s.word_end → s.place ≤ p → p < s.place_end → is_in s (bit_of s.var w p) ≡ true
is_within s w p a b c d = grind (arith, nat_tests)

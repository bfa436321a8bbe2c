-- The numbers of the bits and columns of a span.
use Rattle.std.proofs.Common.{◌≡◌, ◌∙◌, sym, ap, subst, refl, ℕ, ◌+◌, ◌-◌, ◌*◌, ◌<◌, ◌≤◌, arith, true, List, length}
use Rattle.std.proofs.Math.Nat.{mul-le-mul_right}
use Rattle.circuit_run.specs.States.{Bit}
use Rattle.flow_marks.specs.declared.slot.Slot.{Slot}
use Rattle.flow_marks.specs.declared.span.Span.{Span}
use Rattle.flow_marks.specs.Slots.{before, size, wide, slot_of, no_slot, IsIn, IsSpan, is_in, number}
use Rattle.flow_marks.proofs.Numbers.{before_less, same_variable, same_word, same_place, column_variable}
use Rattle.flow_marks.proofs.Kept.{bit_of}
use Rattle.flow_marks.proofs.Tests.{Within, within, is_within}
use Rattle.flow_edges.specs.declared.stretch.Stretch.{Stretch}
use Rattle.flow_edges.specs.Owning.{IsOfWord}
use Rattle.flow_edges.specs.Stretches.{AreNumbered, IsAmong, bits_of, columns_of, column_number}

-- ---- they are few

pub bit_room : (slots : List Slot) (s : Span) (k : ℕ) → AreNumbered slots → IsSpan slots s → k ≤ (slot_of slots s.var).width
    → (slot_of slots s.var).bit + s.word * (slot_of slots s.var).width + k ≤ 16777216 + (slot_of slots s.var).width
bit_room slots s k n i h =
    let rest : before size slots s.var + size (slot_of slots s.var) ≤ before size slots (length slots) =
    before_less size slots s.var (length slots) no_slot i.of_variable (omega arith) in
    let word : s.word * (slot_of slots s.var).width ≤ (slot_of slots s.var).words * (slot_of slots s.var).width =
    mul-le-mul_right (slot_of slots s.var).width (let w : s.word ≤ (slot_of slots s.var).words = omega (arith, i.words, i.of_words) in w) in
    omega (arith, n.laid.bit s.var i.of_variable, n.bits, rest, word, h)

pub column_room : (slots : List Slot) (s : Span) (k : ℕ) → AreNumbered slots → IsSpan slots s → k ≤ (slot_of slots s.var).width
    → (slot_of slots s.var).column + k ≤ 16777216
column_room slots s k n i h =
    let rest : before wide slots s.var + wide (slot_of slots s.var) ≤ before wide slots (length slots) =
    before_less wide slots s.var (length slots) no_slot i.of_variable (omega arith) in
    omega (arith, n.laid.column s.var i.of_variable, n.columns, rest, h)

-- ---- the stretch of a span lies among all numbers

pub record IsInside (r : Stretch) (count : ℕ) : Type 0 where
  pub order : r.from ≤ r.to
  pub below : r.to ≤ count

pub column_stretch : (slots : List Slot) (s : Span) (r : Stretch) → r ≡ columns_of slots s → AreNumbered slots → IsSpan slots s
    → IsInside r (before wide slots (length slots))
column_stretch slots s r e n i =
    let rest : before wide slots s.var + wide (slot_of slots s.var) ≤ before wide slots (length slots) =
    before_less wide slots s.var (length slots) no_slot i.of_variable (omega arith) in
    let inside : IsInside (columns_of slots s) (before wide slots (length slots)) = record {
      order = omega (arith, i.places);
      below = omega (arith, n.laid.column s.var i.of_variable, rest, i.in_width);
    } in
    subst (λ r. IsInside r (before wide slots (length slots))) (sym e) inside

pub bit_stretch : (slots : List Slot) (s : Span) (r : Stretch) → r ≡ bits_of slots s → AreNumbered slots → IsSpan slots s → IsOfWord s
    → IsInside r (before size slots (length slots))
bit_stretch slots s r e n i one =
    let rest : before size slots s.var + size (slot_of slots s.var) ≤ before size slots (length slots) =
    before_less size slots s.var (length slots) no_slot i.of_variable (omega arith) in
    let word : (s.word + 1) * (slot_of slots s.var).width ≤ (slot_of slots s.var).words * (slot_of slots s.var).width =
    mul-le-mul_right (slot_of slots s.var).width (let w : s.word + 1 ≤ (slot_of slots s.var).words = omega (arith, one, i.of_words) in w) in
    let inside : IsInside (bits_of slots s) (before size slots (length slots)) = record {
      order = omega (arith, i.places);
      below = omega (arith, n.laid.bit s.var i.of_variable, rest, word, i.in_width);
    } in
    subst (λ r. IsInside r (before size slots (length slots))) (sym e) inside

-- ---- which bits have them

equal_bits : (a b : Bit) → a.var ≡ b.var → a.word ≡ b.word → a.place ≡ b.place → a ≡ b
equal_bits a b v w p =
    ap (λ x. bit_of x a.word a.place) v ∙ ap (λ x. bit_of b.var x a.place) w ∙ ap (λ x. bit_of b.var b.word x) p

-- a bit whose number is one of a word's span lies in the span
pub bit_among : (slots : List Slot) (s : Span) (b : Bit) → AreNumbered slots → IsSpan slots s → IsOfWord s → IsIn slots b
    → IsAmong (bits_of slots s) (number slots b) → is_in s b ≡ true
bit_among slots s b n i one h a =
    let c : ℕ = number slots b - ((slot_of slots s.var).bit + s.word * (slot_of slots s.var).width) in
    let low : s.place ≤ c = omega (arith, a.from, a.to) in
    let high : c < s.place_end = omega (arith, a.from, a.to) in
    let there : IsIn slots (bit_of s.var s.word c) = record {
      of_variable = i.of_variable;
      of_word = omega (arith, one, i.of_words);
      in_width = omega (arith, high, i.in_width);
    } in
    let same : number slots (bit_of s.var s.word c) ≡ number slots b = omega (arith, a.from, a.to) in
    subst (λ x. is_in s x ≡ true)
    (equal_bits (bit_of s.var s.word c) b (same_variable slots n.laid (bit_of s.var s.word c) b there h same)
    (same_word slots n.laid (bit_of s.var s.word c) b there h same) (same_place slots n.laid (bit_of s.var s.word c) b there h same))
    (is_within s s.word c (omega arith) (omega (arith, one)) low high)

-- the number of a bit of a word's span
pub among_bits : (slots : List Slot) (s : Span) (b : Bit) → IsOfWord s → is_in s b ≡ true → IsAmong (bits_of slots s) (number slots b)
among_bits slots s b one h =
    let w : Within s b = within s b h in
    let e : bit_of s.var s.word b.place ≡ b = equal_bits (bit_of s.var s.word b.place) b w.var (omega (arith, w.word, w.word_end, one)) refl in
    subst (λ x. IsAmong (bits_of slots s) (number slots x)) e (record { from = omega (arith, w.place); to = omega (arith, w.place_end) })

-- what it says of a column that its number is one of a span
pub record IsColumnOf (s : Span) (v c : ℕ) : Type 0 where
  pub var : s.var ≡ v
  pub place : s.place ≤ c
  pub place_end : c < s.place_end

pub column_among : (slots : List Slot) (s : Span) (v c : ℕ) → AreNumbered slots → IsSpan slots s → v < length slots → c < (slot_of slots v).width
    → IsAmong (columns_of slots s) (column_number slots v c) → IsColumnOf s v c
column_among slots s v c n i lt inside a =
    let k : ℕ = column_number slots v c - (slot_of slots s.var).column in
    let low : s.place ≤ k = omega (arith, a.from, a.to) in
    let high : k < s.place_end = omega (arith, a.from, a.to) in
    let wide : k < (slot_of slots s.var).width = omega (arith, high, i.in_width) in
    let same : (slot_of slots s.var).column + k ≡ (slot_of slots v).column + c = omega (arith, a.from, a.to) in
    let var : s.var ≡ v = column_variable slots n.laid s.var k v c i.of_variable lt wide inside same in
    let place : k ≡ c = omega (arith, same, ap (λ u. (slot_of slots u).column) var) in
    record { var = var; place = omega (arith, low, place); place_end = omega (arith, high, place) }

-- the number of the column of a span's bit
pub among_columns : (slots : List Slot) (s : Span) (b : Bit) → is_in s b ≡ true → IsAmong (columns_of slots s) (column_number slots b.var b.place)
among_columns slots s b h =
    let w : Within s b = within s b h in
    subst (λ v. IsAmong (columns_of slots s) (column_number slots v b.place)) w.var
    (record { from = omega (arith, w.place); to = omega (arith, w.place_end) })

-- ---- each number of a span is one of a bit, or of a column

pub bit_with : (slots : List Slot) (s : Span) (i : ℕ) → IsSpan slots s → IsOfWord s → IsAmong (bits_of slots s) i
    → (b : Bit) × IsIn slots b × (is_in s b ≡ true) × (number slots b ≡ i)
bit_with slots s i inside one a =
    let c : ℕ = i - ((slot_of slots s.var).bit + s.word * (slot_of slots s.var).width) in
    let low : s.place ≤ c = omega (arith, a.from, a.to) in
    let high : c < s.place_end = omega (arith, a.from, a.to) in (
      bit_of s.var s.word c,
      record {
        of_variable = inside.of_variable;
        of_word = omega (arith, one, inside.of_words);
        in_width = omega (arith, high, inside.in_width);
      },
      is_within s s.word c (omega arith) (omega (arith, one)) low high,
      omega (arith, a.from, a.to),
    )

pub column_with : (slots : List Slot) (s : Span) (i : ℕ) → IsAmong (columns_of slots s) i
    → (c : ℕ) × (s.place ≤ c) × (c < s.place_end) × (column_number slots s.var c ≡ i)
column_with slots s i a =
    (i - (slot_of slots s.var).column, omega (arith, a.from, a.to), omega (arith, a.from, a.to), omega (arith, a.from, a.to))

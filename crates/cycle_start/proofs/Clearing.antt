-- Bits that are set to 0, word by word and span by span.
use Rattle.std.proofs.Common.{◌≡◌, ◌≢◌, ◌∙◌, sym, ap, subst, refl, ℕ, zero, suc, ◌+◌, ◌-◌, ◌<◌, ◌≤◌, ◌/◌, ◌%◌, ◌^◌, ◌==◌, ◌&&◌, ◌||◌, Bool, true, false, cond}
use Rattle.std.proofs.Common.{true≢false, List, [], ◌∷◌, ◌++◌, length, take, inl, inr, arith}
use Rattle.std.specs.Prelude.{All, IsTrue, nat_le, nat_lt, Some, None, ℤ, pos, negsuc, ◌-ℤ◌, ◌+ℤ◌, int_le, int_lt, slice_index_or}
use Rattle.std.specs.Int.{bit_at}
use Rattle.std.specs.List.{list_any}
use Rattle.std.specs.Ordering.{int_eq}
use Rattle.std.specs.Cmp.{signed_Decides}
use Rattle.std.proofs.lemmas.Bool.{cases_Bool, cases_lt, cases_eq, eq-eqb, ne_eqb, false_from_ne_true}
use Rattle.std.proofs.lemmas.Bool.Decides.{nat_tests}
use Rattle.std.proofs.lemmas.List.{take_more}
use Rattle.std.proofs.lemmas.Nat.Bits.{bit_at-zero}
use Rattle.bit_values.specs.Values.{bit_in}
use Rattle.design_tree.specs.declared.design.Design.{Design}
use Rattle.circuit_run.specs.States.{State, Bit, bit}
use Rattle.circuit_run.specs.Writes.{Part, written}
use Rattle.design_meaning.specs.States.{IsBitOf, IsStateOf, var_of}
use Rattle.design_meaning.specs.RunLaws.{has_bit as part_has}
use Rattle.design_meaning.proofs.PartBits.{bit_written}
use Rattle.design_meaning.proofs.StateKeeps.{written_keeps}
use Rattle.design_meaning.proofs.ListLaws.{any_append, or_false}
use Rattle.flow_marks.specs.declared.span.Span.{Span}
use Rattle.flow_marks.specs.Slots.{is_in}
use Rattle.flow_spans.specs.Reads.{has_bit}
use Rattle.cycle_start.specs.Cleared.{AreCleared}

-- zeros for one word of a span
abbrev pub zeros_at : Span → ℕ → Part
zeros_at s w = record { var = s.var; word = pos w; low = pos s.place; width = s.place_end - s.place; number = 0 }

abbrev part_at : ℕ → ℕ → ℕ → ℕ → ℕ → Part
part_at v k l x m = record { var = v; word = pos k; low = pos l; width = x; number = m }

same_part : (v k w l p x y m n : ℕ) → k ≡ w → l ≡ p → x ≡ y → m ≡ n → part_at v k l x m ≡ part_at v w p y n
same_part v k w l p x y m n a b c e = ap (λ k. part_at v k l x m) a ∙ ap (λ l. part_at v w l x m) b ∙ ap (λ x. part_at v w p x m) c ∙ ap (part_at v w p y) e

pub zeros_part : (s : Span) (w k l width number : ℕ) → k ≡ w → l ≡ s.place → width ≡ s.place_end - s.place → number ≡ 0
    → part_at s.var k l width number ≡ zeros_at s w
zeros_part s w k l width number a b c e = same_part s.var k w l s.place width (s.place_end - s.place) number 0 a b c e

no_bit : (z : ℤ) → bit_in 0 z ≡ 0
no_bit (pos i) = bit_at-zero i
no_bit (negsuc i) = refl

-- the words of a span below a word
abbrev pub up_to : Span → ℕ → Span
up_to s w = record s { word_end = w }

-- a bit lies in the zeros for a word where it is one of that word and of the span's places
place_is : (s : Span) (i : ℕ) → s.place ≤ s.place_end → (int_le (pos s.place) (pos i) && int_lt (pos i) (pos s.place +ℤ pos (s.place_end - s.place)))
    ≡ (nat_le s.place i && nat_lt i s.place_end)
place_is s i le = ap (λ n. nat_le s.place i && nat_lt i n) (whole s.place s.place_end le)
  where
    whole : (a b : ℕ) → a ≤ b → a + (b - a) ≡ b
    whole a b le = omega (arith, le)

word_is : (w v : ℕ) → int_eq (pos w) (pos v) ≡ (w == v)
word_is w v = elim (cases_eq w v) [
  | inl e ↦ (signed_Decides (pos w) (pos v)).1 (ap pos e) ∙ sym (eq-eqb w v e)
  | inr ne ↦ false_from_ne_true (int_eq (pos w) (pos v)) (λ h. ne (cc ((signed_Decides (pos w) (pos v)).0 h))) ∙ sym (ne_eqb w v ne)
]

pub zeros_have : (s : Span) (w : ℕ) (b : Bit) → s.place ≤ s.place_end
    → part_has (zeros_at s w) b ≡ (s.var == b.var && w == b.word && (nat_le s.place b.place && nat_lt b.place s.place_end))
zeros_have s w b le = ap (λ c. s.var == b.var && int_eq (pos w) (pos b.word) && c) (place_is s b.place le)
    ∙ ap (λ c. s.var == b.var && c && (nat_le s.place b.place && nat_lt b.place s.place_end)) (word_is w b.word)

-- one word more of a span
pub one_more_word : (s : Span) (w : ℕ) (b : Bit) → s.word ≤ w
    → is_in (up_to s (w + 1)) b ≡ (is_in (up_to s w) b || (s.var == b.var && w == b.word && (nat_le s.place b.place && nat_lt b.place s.place_end)))
one_more_word s w b le = by (s.var == b.var) (nat_le s.place b.place) (nat_lt b.place s.place_end)
  where
    by : (v p q : Bool) → (v && nat_le s.word b.word && nat_lt b.word (w + 1) && p && q)
        ≡ ((v && nat_le s.word b.word && nat_lt b.word w && p && q) || (v && w == b.word && (p && q)))
    by false p q = refl
    by true false q = rest (nat_le s.word b.word && nat_lt b.word (w + 1)) (nat_le s.word b.word && nat_lt b.word w) (w == b.word) q
      where
        rest : (x y z q : Bool) → (x && false && q) ≡ ((y && false && q) || (z && (false && q)))
        rest true true true q = refl
        rest true true false q = refl
        rest true false true q = refl
        rest true false false q = refl
        rest false true true q = refl
        rest false true false q = refl
        rest false false true q = refl
        rest false false false q = refl
    by true true q = elim (cases_lt b.word w) [
      | inl below ↦ grind (arith, nat_tests)
      | inr from ↦ elim (cases_eq w b.word) [
        | inl e ↦ grind (arith, nat_tests, eq-eqb w b.word e)
        | inr ne ↦ grind (arith, nat_tests, ne_eqb w b.word ne)
      ]
    ]

module _ (d : Design) (s : Span) (places : s.place ≤ s.place_end) where
  pub none_yet : (old : State) → IsStateOf d old → AreCleared d (up_to s s.word ∷ []) old old
  none_yet old hs = record {
    of = hs;
    cleared = λ b hb h. absurd (true≢false (sym h ∙ nothing b));
    kept = λ b hb h. refl;
  }
    where
      nothing : (b : Bit) → has_bit (up_to s s.word ∷ []) b ≡ false
      nothing b = or_false (is_in (up_to s s.word) b) ∙ by (s.var == b.var)
        where
          by : (v : Bool) → (v && nat_le s.word b.word && nat_lt b.word s.word && nat_le s.place b.place && nat_lt b.place s.place_end) ≡ false
          by false = refl
          by true = elim (cases_lt b.word s.word) [
            | inl below ↦ grind (arith, nat_tests)
            | inr from ↦ grind (arith, nat_tests)
          ]

  pub next_word : (old new : State) (w : ℕ) → s.word ≤ w → AreCleared d (up_to s w ∷ []) old new
      → AreCleared d (up_to s (w + 1) ∷ []) old (written new (zeros_at s w))
  next_word old new w le h = record {
    of = written_keeps d new (zeros_at s w) h.of;
    cleared = λ b hb t. by_bit b hb (part_has (zeros_at s w) b) refl (λ n. bit new b ≡ 0) (λ e. h.cleared b hb (or_false (is_in (up_to s w) b) ∙ first b t e));
    kept = λ b hb f. bit_written d new (zeros_at s w) b h.of hb ∙ ap (λ c. cond c (bit_in 0 (pos b.place -ℤ pos s.place)) (bit new b)) (second b f)
        ∙ h.kept b hb (or_false (is_in (up_to s w) b) ∙ neither b f);
  }
    where
      more : (b : Bit) → has_bit (up_to s (w + 1) ∷ []) b ≡ (is_in (up_to s w) b || part_has (zeros_at s w) b)
      more b = or_false (is_in (up_to s (w + 1)) b) ∙ one_more_word s w b le ∙ ap (λ c. is_in (up_to s w) b || c) (sym (zeros_have s w b places))

      or_first : (x y : Bool) → (x || y) ≡ true → y ≡ false → x ≡ true
      or_first true y t e = refl
      or_first false y t e = absurd (true≢false (sym t ∙ e))

      or_none : (x y : Bool) → (x || y) ≡ false → x ≡ false
      or_none true y f = f
      or_none false y f = refl

      or_neither : (x y : Bool) → (x || y) ≡ false → y ≡ false
      or_neither true y f = absurd (true≢false f)
      or_neither false y f = f

      first : (b : Bit) → has_bit (up_to s (w + 1) ∷ []) b ≡ true → part_has (zeros_at s w) b ≡ false → is_in (up_to s w) b ≡ true
      first b t e = or_first (is_in (up_to s w) b) (part_has (zeros_at s w) b) (sym (more b) ∙ t) e

      neither : (b : Bit) → has_bit (up_to s (w + 1) ∷ []) b ≡ false → is_in (up_to s w) b ≡ false
      neither b f = or_none (is_in (up_to s w) b) (part_has (zeros_at s w) b) (sym (more b) ∙ f)

      second : (b : Bit) → has_bit (up_to s (w + 1) ∷ []) b ≡ false → part_has (zeros_at s w) b ≡ false
      second b f = or_neither (is_in (up_to s w) b) (part_has (zeros_at s w) b) (sym (more b) ∙ f)

      by_bit : (b : Bit) → IsBitOf d b → (c : Bool) → part_has (zeros_at s w) b ≡ c → (P : ℕ → Type 0) → (part_has (zeros_at s w) b ≡ false → bit new b ≡ 0)
          → bit (written new (zeros_at s w)) b ≡ 0
      by_bit b hb true e P k = bit_written d new (zeros_at s w) b h.of hb ∙ ap (λ c. cond c (bit_in 0 (pos b.place -ℤ pos s.place)) (bit new b)) e
          ∙ no_bit (pos b.place -ℤ pos s.place)
      by_bit b hb false e P k = bit_written d new (zeros_at s w) b h.of hb ∙ ap (λ c. cond c (bit_in 0 (pos b.place -ℤ pos s.place)) (bit new b)) e ∙ k e

-- a span without places has no bit
pub no_places : (d : Design) (s : Span) (old : State) → s.place_end ≤ s.place → IsStateOf d old → AreCleared d (s ∷ []) old old
no_places d s old le hs = record {
  of = hs;
  cleared = λ b hb h. absurd (true≢false (sym h ∙ nothing b));
  kept = λ b hb h. refl;
}
  where
    nothing : (b : Bit) → has_bit (s ∷ []) b ≡ false
    nothing b = or_false (is_in s b) ∙ by (s.var == b.var && nat_le s.word b.word && nat_lt b.word s.word_end)
      where
        by : (v : Bool) → (v && nat_le s.place b.place && nat_lt b.place s.place_end) ≡ false
        by false = refl
        by true = elim (cases_lt b.place s.place) [
          | inl below ↦ grind (arith, nat_tests)
          | inr from ↦ grind (arith, nat_tests)
        ]

abbrev pub no_span : Span
no_span = record { var = 0; word = 0; word_end = 0; place = 0; place_end = 0 }

-- spans one after the other
pub both_cleared : (d : Design) (xs ys : List Span) (a b c : State) → AreCleared d xs a b → AreCleared d ys b c → AreCleared d (xs ++ ys) a c
both_cleared d xs ys a b c h i = record {
  of = i.of;
  cleared = λ k hk t. elim (cases_Bool (has_bit ys k)) [
    | inl y ↦ i.cleared k hk y
    | inr n ↦ i.kept k hk n ∙ h.cleared k hk (left (has_bit xs k) (has_bit ys k) (sym (any_append (λ s. is_in s k) xs ys) ∙ t) n)
  ];
  kept = λ k hk f. i.kept k hk (right_false (has_bit xs k) (has_bit ys k) (sym (any_append (λ s. is_in s k) xs ys) ∙ f))
      ∙ h.kept k hk (left_false (has_bit xs k) (has_bit ys k) (sym (any_append (λ s. is_in s k) xs ys) ∙ f));
}
  where
    left : (x y : Bool) → (x || y) ≡ true → y ≡ false → x ≡ true
    left true y t e = refl
    left false y t e = absurd (true≢false (sym t ∙ e))

    left_false : (x y : Bool) → (x || y) ≡ false → x ≡ false
    left_false true y f = f
    left_false false y f = refl

    right_false : (x y : Bool) → (x || y) ≡ false → y ≡ false
    right_false true y f = absurd (true≢false f)
    right_false false y f = f

pub none_cleared : (d : Design) (s : State) → IsStateOf d s → AreCleared d [] s s
none_cleared d s hs = record { of = hs; cleared = λ b hb t. absurd (true≢false (sym t)); kept = λ b hb f. refl }

pub next_span : (d : Design) (spans : List Span) (i : ℕ) (x : Span) (a b c : State) → i < length spans → x ≡ slice_index_or spans i x
    → AreCleared d (take i spans) a b → AreCleared d (x ∷ []) b c → AreCleared d (take (i + 1) spans) a c
next_span d spans i x a b c lt e h k = subst (λ xs. AreCleared d xs a c) (sym (take_more spans i x lt
    ∙ ap (λ y. take i spans ++ y ∷ []) (sym e))) (both_cleared d (take i spans) (x ∷ []) a b c h k)

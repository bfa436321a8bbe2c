-- What the code reads and writes of a set.
use Rattle.std.proofs.Common.{◌≡◌, ◌≢◌, ℕ, ◌+◌, ◌-◌, ◌*◌, ◌<◌, ◌≤◌, Bool, true, false, not, ◌&&◌, ◌||◌, List, length, get_or, set, refl, sym, ap, ◌∙◌, inl, inr}
use Rattle.std.proofs.Common.{arith}
use Rattle.std.proofs.lemmas.List.{get_or-set_same, get_or-set_other, length-set, get_or_default, set-get_or}
use Rattle.std.proofs.lemmas.Bool.{cases_eq}
use Rattle.std.proofs.lemmas.Bool.Decides.{nat_tests}
use Rattle.circuit_run.specs.States.{Bit}
use Rattle.flow_marks.specs.declared.slot.Slot.{Slot}
use Rattle.flow_marks.specs.Slots.{slot_of, no_slot, IsIn, number, is_same}
use Rattle.flow_marks.specs.Sets.{IsKept, IsColumn, marked, column_of}
use Rattle.flow_marks.proofs.Numbers.{number_below, same_variable, same_word, same_place, column_below, column_variable}
use Rattle.flow_marks.proofs.Counts.{marked_same, marked_more, marked_less}

abbrev pub bit_of : ℕ → ℕ → ℕ → Bit
bit_of v w c = record { var = v; word = w; place = c }

record Equal (a b : Bit) : Type 0 where
  pub var : a.var ≡ b.var
  pub word : a.word ≡ b.word
  pub place : a.place ≡ b.place

one_bit : (a b : Bit) → is_same a b ≡ true → Equal a b
one_bit a b h = record { var = grind (arith, nat_tests); word = grind (arith, nat_tests); place = grind (arith, nat_tests) }

pub same_bits : (a b : Bit) → is_same a b ≡ true → a ≡ b
same_bits a b h =
    let e : Equal a b = one_bit a b h in
    ap (λ v. bit_of v a.word a.place) e.var ∙ ap (λ w. bit_of b.var w a.place) e.word ∙ ap (λ p. bit_of b.var b.word p) e.place

two_bits : (a b : Bit) → a.var ≡ b.var → a.word ≡ b.word → a.place ≡ b.place → is_same a b ≡ false → ⊥
two_bits a b e f g h = grind (arith, nat_tests)

module _ (slots : List Slot) (bits : List Bool) (counts : List ℕ) (k : IsKept slots bits counts) where
  pub slot_read : (v : ℕ) (s : Slot) → v < length slots → s ≡ get_or slots v s → s ≡ slot_of slots v
  slot_read v s h e = e ∙ get_or_default slots v s no_slot h

  pub number_read : (v w c : ℕ) (s : Slot) → IsIn slots (bit_of v w c) → s ≡ get_or slots v s → s.bit + (w * s.width + c) ≡ number slots (bit_of v w c)
  number_read v w c s h e = ap (λ (t : Slot). t.bit + (w * t.width + c)) (slot_read v s h.of_variable e)

  pub number_inside : (v w c : ℕ) (s : Slot) → IsIn slots (bit_of v w c) → s ≡ get_or slots v s → s.bit + (w * s.width + c) < length bits
  number_inside v w c s h e = omega (arith, number_read v w c s h e, k.as_many, number_below slots k.laid (bit_of v w c) h)

  pub column_read : (v c : ℕ) (s : Slot) → IsColumn slots v c → s ≡ get_or slots v s → s.column + c ≡ (slot_of slots v).column + c
  column_read v c s h e = ap (λ (t : Slot). t.column + c) (slot_read v s h.of_variable e)

  pub column_inside : (v c : ℕ) (s : Slot) → IsColumn slots v c → s ≡ get_or slots v s → s.column + c < length counts
  column_inside v c s h e = omega (arith, column_read v c s h e, k.columns, column_below slots k.laid v c h.of_variable h.in_width)

  pub count_read : (v c n : ℕ) (s : Slot) → IsColumn slots v c → s ≡ get_or slots v s → n ≡ get_or counts (s.column + c) n
      → n ≡ marked (column_of slots bits v c) (slot_of slots v).words
  count_read v c n s h e r =
      r ∙ get_or_default counts (s.column + c) n 0 (column_inside v c s h e) ∙ ap (λ i. get_or counts i 0) (column_read v c s h e)
      ∙ k.counted v c h.of_variable h.in_width

  -- ---- one bit written

  other_column : (b : Bit) (v c : ℕ) → IsIn slots b → IsColumn slots v c → (v ≡ b.var → c ≡ b.place → ⊥)
      → (slot_of slots v).column + c ≢ (slot_of slots b.var).column + b.place
  other_column b v c h i n e =
      let q : v ≡ b.var = column_variable slots k.laid v c b.var b.place i.of_variable h.of_variable i.in_width h.in_width e in
      let r : (slot_of slots v).column ≡ (slot_of slots b.var).column = ap (λ u. (slot_of slots u).column) q in
      n q (omega arith)

  other_bits : (b : Bit) (v c : ℕ) (value : Bool) → IsIn slots b → IsColumn slots v c → (v ≡ b.var → c ≡ b.place → ⊥) → (w : ℕ) → w < (slot_of slots v).words
      → column_of slots (set bits (number slots b) value) v c w ≡ column_of slots bits v c w
  other_bits b v c value h i n w l =
      let x : IsIn slots (bit_of v w c) = record { of_variable = i.of_variable; of_word = l; in_width = i.in_width } in
      get_or-set_other bits (number slots b) (number slots (bit_of v w c)) value false
      (λ e. n (same_variable slots k.laid (bit_of v w c) b x h e) (same_place slots k.laid (bit_of v w c) b x h e))

  written_kept : (b : Bit) (value : Bool) (n : ℕ) → IsIn slots b
      → n ≡ marked (column_of slots (set bits (number slots b) value) b.var b.place) (slot_of slots b.var).words
      → IsKept slots (set bits (number slots b) value) (set counts ((slot_of slots b.var).column + b.place) n)
  written_kept b value n h e = record {
    laid = k.laid;
    as_many = length-set bits (number slots b) value ∙ k.as_many;
    columns = length-set counts ((slot_of slots b.var).column + b.place) n ∙ k.columns;
    counted = λ v c hv hc. elim (cases_eq v b.var) [
      | inr d ↦ other v c hv hc (λ p q. d p)
      | inl p ↦ elim (cases_eq c b.place) [
        | inr d ↦ other v c hv hc (λ p q. d q)
        | inl q ↦ rw (p, q) (get_or-set_same counts ((slot_of slots b.var).column + b.place) n 0
            (let m : (slot_of slots b.var).column + b.place < length counts = omega (
              arith,
              k.columns,
              column_below slots k.laid b.var b.place h.of_variable
                  h.in_width,
            ) in m) ∙ e)
      ]
    ];
  }
    where
      other : (v c : ℕ) → v < length slots → c < (slot_of slots v).width → (v ≡ b.var → c ≡ b.place → ⊥)
          → get_or (set counts ((slot_of slots b.var).column + b.place) n) ((slot_of slots v).column + c) 0
          ≡ marked (column_of slots (set bits (number slots b) value) v c) (slot_of slots v).words
      other v c hv hc d =
          let i : IsColumn slots v c = record { of_variable = hv; in_width = hc } in
          get_or-set_other counts ((slot_of slots b.var).column + b.place) ((slot_of slots v).column + c) n 0 (other_column b v c h i d)
          ∙ k.counted v c hv hc
          ∙ marked_same (column_of slots bits v c) (column_of slots (set bits (number slots b) value) v c) (slot_of slots v).words
          (λ w l. sym (other_bits b v c value h i d w l))

  -- the words of the column of the bit, but for its own
  beside : (b : Bit) (value : Bool) → IsIn slots b → (u : ℕ) → u < (slot_of slots b.var).words → u ≢ b.word
      → column_of slots bits b.var b.place u ≡ column_of slots (set bits (number slots b) value) b.var b.place u
  beside b value h u l d =
      let x : IsIn slots (bit_of b.var u b.place) = record { of_variable = h.of_variable; of_word = l; in_width = h.in_width } in
      sym (get_or-set_other bits (number slots b) (number slots (bit_of b.var u b.place)) value false (λ e. d (same_word slots k.laid (bit_of b.var u
      b.place) b x h e)))

  itself : (b : Bit) (value : Bool) → IsIn slots b → column_of slots (set bits (number slots b) value) b.var b.place b.word ≡ value
  itself b value h = get_or-set_same bits (number slots b) value false (omega (arith, k.as_many, number_below slots k.laid b h))

  pub added_kept : (b : Bit) (n : ℕ) → IsIn slots b → get_or bits (number slots b) false ≡ false
      → n ≡ marked (column_of slots bits b.var b.place) (slot_of slots b.var).words
      → IsKept slots (set bits (number slots b) true) (set counts ((slot_of slots b.var).column + b.place) (n + 1))
  added_kept b n h f e = written_kept b true (n + 1) h
      (ap (λ m. m + 1) e ∙ sym (marked_more (column_of slots bits b.var b.place) (column_of slots (set bits (number slots b) true) b.var b.place) (slot_of
      slots b.var).words b.word
      h.of_word f (itself b true h) (beside b true h)))

  -- there is room for one more
  pub added_room : (b : Bit) (n : ℕ) → IsIn slots b → get_or bits (number slots b) false ≡ false
      → n ≡ marked (column_of slots bits b.var b.place) (slot_of slots b.var).words
      → n < (slot_of slots b.var).words
  added_room b n h f e = omega (arith, e, marked_less (column_of slots bits b.var b.place) (slot_of slots b.var).words b.word h.of_word f)

  removed_count : (b : Bit) (n : ℕ) → IsIn slots b → get_or bits (number slots b) false ≡ true
      → n ≡ marked (column_of slots bits b.var b.place) (slot_of slots b.var).words
      → n ≡ marked (column_of slots (set bits (number slots b) false) b.var b.place) (slot_of slots b.var).words + 1
  removed_count b n h f e = e ∙ marked_more (column_of slots (set bits (number slots b) false) b.var b.place) (column_of slots bits b.var b.place) (slot_of
      slots b.var).words b.word
      h.of_word (itself b false h) f (λ u l d. sym (beside b false h u l d))

  pub removed_kept : (b : Bit) (n : ℕ) → IsIn slots b → get_or bits (number slots b) false ≡ true
      → n ≡ marked (column_of slots bits b.var b.place) (slot_of slots b.var).words
      → IsKept slots (set bits (number slots b) false) (set counts ((slot_of slots b.var).column + b.place) (n - 1))
  removed_kept b n h f e = written_kept b false (n - 1) h (omega (arith, removed_count b n h f e))

  pub removed_some : (b : Bit) (n : ℕ) → IsIn slots b → get_or bits (number slots b) false ≡ true
      → n ≡ marked (column_of slots bits b.var b.place) (slot_of slots b.var).words → 1 ≤ n
  removed_some b n h f e = omega (arith, removed_count b n h f e)

  -- writing what is there changes nothing
  pub same_written : (b : Bit) (value : Bool) → get_or bits (number slots b) false ≡ value → set bits (number slots b) value ≡ bits
  same_written b value e = ap (λ x. set bits (number slots b) x) (sym e) ∙ set-get_or bits (number slots b) false

  -- ---- the set afterwards

  same_number : (b x : Bit) → is_same b x ≡ true → number slots x ≡ number slots b
  same_number b x h =
      let e : b.var ≡ x.var = (one_bit b x h).var in
      let f : b.word ≡ x.word = (one_bit b x h).word in
      let g : b.place ≡ x.place = (one_bit b x h).place in
      ap (λ v. number slots (bit_of v x.word x.place)) (sym e) ∙ ap (λ w. number slots (bit_of b.var w x.place)) (sym f)
      ∙ ap (λ p. number slots (bit_of b.var b.word p)) (sym g)

  other_number : (b x : Bit) → IsIn slots b → IsIn slots x → is_same b x ≡ false → number slots x ≢ number slots b
  other_number b x hb hx h e = two_bits b x
      (sym (same_variable slots k.laid x b hx hb e)) (sym (same_word slots k.laid x b hx hb e)) (sym (same_place slots k.laid x b hx hb e)) h

  pub added_has : (b x : Bit) → IsIn slots b → IsIn slots x → get_or (set bits (number slots b) true) (number slots x) false ≡ (is_same b x || get_or bits
      (number slots x) false)
  added_has b x hb hx = go (is_same b x) refl
    where
      go : (t : Bool) → is_same b x ≡ t → get_or (set bits (number slots b) true) (number slots x) false ≡ (t || get_or bits (number slots x) false)
      go true h = rw (same_number b x h) (itself b true hb)
      go false h = get_or-set_other bits (number slots b) (number slots x) true false (other_number b x hb hx h)

  pub removed_has : (b x : Bit) → IsIn slots b → IsIn slots x
      → get_or (set bits (number slots b) false) (number slots x) false ≡ (not (is_same b x) && get_or bits (number slots x) false)
  removed_has b x hb hx = go (is_same b x) refl
    where
      go : (t : Bool) → is_same b x ≡ t → get_or (set bits (number slots b) false) (number slots x) false ≡ (not t && get_or bits (number slots x) false)
      go true h = rw (same_number b x h) (itself b false hb)
      go false h = get_or-set_other bits (number slots b) (number slots x) false false (other_number b x hb hx h)

  -- adding what is there
  pub there_has : (b x : Bit) → IsIn slots b → IsIn slots x → get_or bits (number slots b) false ≡ true
      → get_or bits (number slots x) false ≡ (is_same b x || get_or bits (number slots x) false)
  there_has b x hb hx h = ap (λ s. get_or s (number slots x) false) (sym (same_written b true h)) ∙ added_has b x hb hx

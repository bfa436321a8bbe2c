-- From a state of a design the edge leaves exactly one state.
use Rattle.std.proofs.Common.{◌≡◌, ◌≢◌, ◌∙◌, sym, ap, subst, refl, ℕ, zero, suc, ◌<◌, ◌-◌, Bool, true, false, not, ◌||◌, ◌⊎◌, inl, inr, true≢false, List, []}
use Rattle.std.proofs.Common.{◌∷◌, map, length, arith}
use Rattle.std.proofs.lemmas.Bool.{cases_Bool, cases_eq, cases_lt, eq-eqb, ne_eqb}
use Rattle.std.proofs.lemmas.Nat.Bits.{bit_at-lt}
use Rattle.std.specs.Prelude.{◌==◌, if◌then◌else◌, All, slice_index, slice_index_or}
use Rattle.std.specs.List.{list_any}
use Rattle.design_tree.specs.declared.design.Design.{Design}
use Rattle.circuit_run.specs.States.{State, Bit, bit, held}
use Rattle.circuit_run.specs.Writes.{all_written}
use Rattle.circuit_run.specs.Kinds.{runs_at_edge}
use Rattle.circuit_run.specs.Circuits.{states_after}
use Rattle.circuit_run.specs.Edges.{edge_updates, IsBlockedFrom, IsEdge}
use Rattle.design_meaning.specs.States.{IsBitOf, IsStateOf, var_of}
use Rattle.design_meaning.specs.Steps.{run_of}
use Rattle.design_meaning.specs.Processes.{processes_that, no_process}
use Rattle.design_meaning.specs.Circuit.{circuit_of}
use Rattle.design_meaning.specs.Valid.{IsValidDesign}
use Rattle.design_meaning.specs.CycleLaws.{OneEdge}
use Rattle.design_meaning.proofs.ListLaws.{or_true}
use Rattle.design_meaning.proofs.Listed.{by_index, to_filter}
use Rattle.design_meaning.proofs.ByNumber.{states_are, to_map}
use Rattle.design_meaning.proofs.StateBits.{bits_tell_states}
use Rattle.design_meaning.proofs.StateKeeps.{outside, all_keep_state}
use Rattle.design_meaning.proofs.RunTheorems.{runs_keep_states}
use Rattle.design_meaning.proofs.StateOf.{state_of, is_state_of, bit_of}

-- ---- lists

any_at : {X : Type 0} (test : X → Bool) (xs : List X) (k : ℕ) (none : X) → k < length xs → test (slice_index_or xs k none) ≡ true → list_any test xs ≡ true
any_at test [] k none lt t = absurd (omega (arith, lt))
any_at test (x ∷ xs) zero none lt t = subst (λ c. (c || list_any test xs) ≡ true) (sym t) refl
any_at test (x ∷ xs) (suc k) none lt t = ap (λ c. test x || c) (any_at test xs k none (omega (arith, lt)) t) ∙ or_true (test x)

some_at : {X : Type 0} (none : X) (test : X → Bool) (xs : List X) → list_any test xs ≡ true
    → (k : ℕ) × (k < length xs) × (test (slice_index_or xs k none) ≡ true)
some_at none test [] h = absurd (true≢false (sym h))
some_at none test (x ∷ xs) h = elim (cases_Bool (test x)) [
  | inl t ↦ (zero, omega arith, t)
  | inr n ↦ let r = some_at none test xs (subst (λ c. (c || list_any test xs) ≡ true) n h) in (suc r.0, omega (arith, r.1), r.2)
]

differ : (x y : ℕ) → not (x == y) ≡ true → x ≢ y
differ x y t e = true≢false (sym t ∙ ap not (eq-eqb x y e))

equal : (x y : ℕ) → not (x == y) ≡ false → x ≡ y
equal x y h = elim (cases_eq x y) [
  | inl e ↦ e
  | inr ne ↦ absurd (true≢false (sym (ap not (ne_eqb x y ne)) ∙ h))
]

turned : (x y : ℕ) → x < 2 → y < 2 → y ≢ x → 1 - x ≡ y
turned zero zero hx hy ne = absurd (ne refl)
turned zero (suc zero) hx hy ne = refl
turned zero (suc (suc y)) hx hy ne = absurd (omega (arith, hy))
turned (suc zero) zero hx hy ne = refl
turned (suc zero) (suc zero) hx hy ne = absurd (ne refl)
turned (suc zero) (suc (suc y)) hx hy ne = absurd (omega (arith, hy))
turned (suc (suc x)) y hx hy ne = absurd (omega (arith, hx))

module _ (d : Design) (valid : IsValidDesign d) (s : State) (hs : IsStateOf d s) where
  abbrev lefts : List State
  lefts = states_after runs_at_edge (circuit_of d) s

  lefts_are_states : All (IsStateOf d) lefts
  lefts_are_states = subst (All (IsStateOf d)) (sym (states_are d runs_at_edge s))
      (by_index (IsStateOf d) (map (λ p. (run_of p s).state) (processes_that runs_at_edge d))
      (to_map (IsStateOf d) (λ p. (run_of p s).state) (processes_that runs_at_edge d)
      (to_filter (λ p. runs_at_edge p.kind) (λ p. IsStateOf d (run_of p s).state) no_process d.processes (λ p t. runs_keep_states d p s valid hs))))

  small_bit : (u : State) (b : Bit) → bit u b < 2
  small_bit u b = bit_at-lt (slice_index (held u b.var).words b.word) b.place

  is_bit : (b : Bit) → IsBitOf d b ⊎ (IsBitOf d b → ⊥)
  is_bit b = elim (cases_lt b.var (length d.vars)) [
    | inr past ↦ inr (λ h. omega (arith, past, h.of_variable))
    | inl v ↦ elim (cases_lt b.word (var_of d b.var).words) [
      | inr past ↦ inr (λ h. omega (arith, past, h.of_word))
      | inl w ↦ elim (cases_lt b.place (var_of d b.var).width) [
        | inr past ↦ inr (λ h. omega (arith, past, h.in_width))
        | inl p ↦ inl (record { of_variable = v; of_word = w; in_width = p })
      ]
    ]
  ]

  -- a run changes the bit
  abbrev changes : Bit → State → Bool
  changes b after = not (bit after b == bit s b)

  -- the bit is turned over where some run changes it
  abbrev last_bit : Bit → ℕ
  last_bit b = if list_any (changes b) lefts then 1 - bit s b else bit s b

  small_last : (b : Bit) → last_bit b < 2
  small_last b = go (list_any (changes b) lefts)
    where
      go : (c : Bool) → (if c then 1 - bit s b else bit s b) < 2
      go true = omega arith
      go false = small_bit s b

  -- a bit that some run changes, and one that none changes
  where_changed : (b : Bit) (k : ℕ) (x : State) → k < length lefts → bit (slice_index_or lefts k x) b ≢ bit s b → last_bit b ≡ bit (slice_index_or lefts k x) b
  where_changed b k x lt ne =
      ap (λ c. if c then 1 - bit s b else bit s b)
      (any_at (changes b) lefts k x lt (ap not (ne_eqb (bit (slice_index_or lefts k x) b) (bit s b) ne)))
      ∙ turned (bit s b) (bit (slice_index_or lefts k x) b) (small_bit s b) (small_bit (slice_index_or lefts k x) b) ne

  where_kept : (b : Bit) → All (λ after. bit after b ≡ bit s b) lefts → last_bit b ≡ bit s b
  where_kept b all = elim (cases_Bool (list_any (changes b) lefts)) [
    | inl t ↦ let r = some_at s (changes b) lefts t in absurd (differ (bit (slice_index_or lefts r.0 s) b) (bit s b) r.2 (all r.0 s r.1))
    | inr n ↦ ap (λ c. if c then 1 - bit s b else bit s b) n
  ]

  abbrev blocked : State
  blocked = state_of d last_bit small_last

  is_blocked : IsBlockedFrom (circuit_of d) s blocked
  is_blocked = record { is_state = is_state_of d last_bit small_last; changed = changed; kept = kept }
    where
      changed : (b : Bit) → All (λ after. bit after b ≢ bit s b → bit blocked b ≡ bit after b) lefts
      changed b k x lt ne = elim (is_bit b) [
        | inl h ↦ bit_of d last_bit small_last b h ∙ where_changed b k x lt ne
        | inr n ↦ absurd (ne (outside d (slice_index_or lefts k x) b (lefts_are_states k x lt) n ∙ sym (outside d s b hs n)))
      ]

      kept : (b : Bit) → All (λ after. bit after b ≡ bit s b) lefts → bit blocked b ≡ bit s b
      kept b all = elim (is_bit b) [
        | inl h ↦ bit_of d last_bit small_last b h ∙ where_kept b all
        | inr n ↦ outside d blocked b (is_state_of d last_bit small_last) n ∙ sym (outside d s b hs n)
      ]

  -- there is no other
  same_bit : (t : State) → IsBlockedFrom (circuit_of d) s t → (b : Bit) → bit t b ≡ last_bit b
  same_bit t h b = elim (cases_Bool (list_any (changes b) lefts)) [
    | inl c ↦
        let r = some_at s (changes b) lefts c in
        let ne = differ (bit (slice_index_or lefts r.0 s) b) (bit s b) r.2 in
        h.changed b r.0 s r.1 ne ∙ sym (where_changed b r.0 s r.1 ne)
    | inr n ↦
        let all : All (λ after. bit after b ≡ bit s b) lefts = λ k x lt. elim (cases_Bool (changes b (slice_index_or lefts k x))) [
          | inl c ↦ absurd (true≢false (sym (any_at (changes b) lefts k x lt c) ∙ n))
          | inr e ↦ equal (bit (slice_index_or lefts k x) b) (bit s b) e
        ] in
        h.kept b all ∙ sym (where_kept b all)
  ]

  one_blocked : (t : State) → IsBlockedFrom (circuit_of d) s t → t ≡ blocked
  one_blocked t h = bits_tell_states d t blocked h.is_state (is_state_of d last_bit small_last)
      (λ b hb. same_bit t h b ∙ sym (bit_of d last_bit small_last b hb))

  the_edge : IsEdge (circuit_of d) s (all_written blocked (edge_updates (circuit_of d) s))
  the_edge = record { blocked = blocked; last_values = is_blocked; updated = refl }

pub one_edge : OneEdge
one_edge d s valid hs =
    let b : State = blocked d valid s hs in
    let updates = edge_updates (circuit_of d) s in (
      all_written b updates,
      all_keep_state d updates b (is_blocked d valid s hs).is_state,
      the_edge d valid s hs,
      λ t h. h.updated ∙ ap (λ x. all_written x updates) (one_blocked d valid s hs h.blocked h.last_values),
    )

-- The start state: after the first n processes have been looked at.
use Rattle.std.proofs.Common.{◌≡◌, ◌≢◌, ◌∙◌, sym, ap, subst, refl, ℕ, zero, suc, ◌+◌, ◌<◌, ◌≤◌, ◌||◌, ◌&&◌, ◌⊎◌, Bool, true, false, true≢false, List, [], ◌∷◌}
use Rattle.std.proofs.Common.{◌++◌, length, inl, inr, arith}
use Rattle.std.specs.Prelude.{All, IsTrue, slice_index, slice_index_or, replicate}
use Rattle.std.specs.Int.{bit_at}
use Rattle.std.proofs.lemmas.Bool.{cases_Bool, cases_lt}
use Rattle.std.proofs.lemmas.List.{get_or-map, get_or_past, get_or-replicate}
use Rattle.design_tree.specs.declared.design.Process.{Process}
use Rattle.design_tree.specs.declared.design.Design.{Design}
use Rattle.circuit_run.specs.States.{State, Bit, bit, held, no_words, no_var}
use Rattle.circuit_run.specs.Kinds.{settles}
use Rattle.circuit_run.specs.Runs.{IsStart}
use Rattle.circuit_run.specs.Circuits.{is_driven}
use Rattle.design_meaning.specs.States.{IsBitOf, IsStateOf, var_of}
use Rattle.design_meaning.specs.Starts.{start_values}
use Rattle.design_meaning.specs.Processes.{kind_of, no_process}
use Rattle.design_meaning.specs.Reach.{drives}
use Rattle.design_meaning.specs.Circuit.{circuit_of}
use Rattle.design_meaning.proofs.ByNumber.{none_driven, driven_none}
use Rattle.flow_marks.specs.declared.span.Span.{Span}
use Rattle.flow_marks.specs.Slots.{is_in}
use Rattle.flow_spans.specs.Reads.{has_bit}
use Rattle.flow_uses.specs.declared.uses.Uses.{Uses}
use Rattle.flow_uses.specs.Uses.{AreUsesOf}
use Rattle.cycle_start.specs.Cleared.{AreCleared}
use Rattle.cycle_start.proofs.Clearing.{both_cleared}
use Rattle.design_meaning.proofs.ListLaws.{any_append}

-- bits that an assignment or a combinational process among the first n drives are 0, the others have their start values
pub record IsStarting (d : Design) (n : ℕ) (s : State) : Type 0 where
  pub of : IsStateOf d s
  pub cleared : (b : Bit) → IsBitOf d b → (p : ℕ) → p < n → IsTrue (settles (kind_of d p)) → IsTrue (drives d p b) → bit s b ≡ 0
  pub kept : (b : Bit) → IsBitOf d b → ((p : ℕ) → p < n → IsTrue (settles (kind_of d p)) → drives d p b ≡ false) → bit s b ≡ bit (start_values d) b

pub at_start : (d : Design) (s : State) → IsStateOf d s → s ≡ start_values d → IsStarting d 0 s
at_start d s hs e = record {
  of = hs;
  cleared = λ b hb p lt. absurd (omega (arith, lt));
  kept = λ b hb none. ap (λ u. bit u b) e;
}

or_false_both : (x y : Bool) → x ≡ false → y ≡ false → (x || y) ≡ false
or_false_both x y e f = rw (e, f) refl

left_false : (x y : Bool) → (x || y) ≡ false → x ≡ false
left_false true y f = f
left_false false y f = refl

right_false : (x y : Bool) → (x || y) ≡ false → y ≡ false
right_false true y f = absurd (true≢false f)
right_false false y f = f

pub one_settles : (d : Design) (n : ℕ) (u : Uses) (s mid t : State) → settles (kind_of d n) ≡ true → AreUsesOf d n u → AreCleared d u.sets s mid
    → AreCleared d u.defers mid t
    → IsStarting d n s → IsStarting d (n + 1) t
one_settles d n u s mid t sn uses first second h =
    let c : AreCleared d (u.sets ++ u.defers) s t = both_cleared d u.sets u.defers s mid t first second in
    record {
      of = c.of;
      cleared = λ b hb p lt k dp. elim (cases_Bool (has_bit (u.sets ++ u.defers) b)) [
        | inl t ↦ c.cleared b hb t
        | inr f ↦ c.kept b hb f ∙ h.cleared b hb p (less p b hb lt dp f) k dp
      ];
      kept = λ b hb none. c.kept b hb (has b ∙ (uses.drives b hb ∙ none n (omega arith) sn)) ∙ h.kept b hb (λ p lt k. none p (omega (arith, lt)) k);
    }
  where
    has : (b : Bit) → has_bit (u.sets ++ u.defers) b ≡ (has_bit u.sets b || has_bit u.defers b)
    has b = any_append (λ s. is_in s b) u.sets u.defers

    less : (p : ℕ) (b : Bit) → IsBitOf d b → p < n + 1 → IsTrue (drives d p b) → has_bit (u.sets ++ u.defers) b ≡ false → p < n
    less p b hb lt dp f = elim (cases_lt p n) [
      | inl l ↦ l
      | inr m ↦ (let e : p ≡ n = omega (arith, lt, m) in
          absurd (true≢false (sym dp ∙ ap (λ q. drives d q b) e ∙ sym (uses.drives b hb) ∙ sym (has b) ∙ f)))
    ]

pub none_settles : (d : Design) (n : ℕ) (s : State) → settles (kind_of d n) ≡ false → IsStarting d n s → IsStarting d (n + 1) s
none_settles d n s k h = record {
  of = h.of;
  cleared = λ b hb p lt sp dp. h.cleared b hb p (less p lt sp) sp dp;
  kept = λ b hb none. h.kept b hb (λ p lt sp. none p (omega (arith, lt)) sp);
}
  where
    less : (p : ℕ) → p < n + 1 → IsTrue (settles (kind_of d p)) → p < n
    less p lt sp = elim (cases_lt p n) [
      | inl l ↦ l
      | inr m ↦ (let e : p ≡ n = omega (arith, lt, m) in absurd (true≢false (sym sp ∙ ap (λ q. settles (kind_of d q)) e ∙ k)))
    ]

-- ---- the whole

start_bit : (d : Design) (b : Bit) → IsBitOf d b → bit (start_values d) b ≡ bit_at (var_of d b.var).start b.place
start_bit d b hb =
    ap (λ x. bit_at (slice_index x.words b.word) b.place)
    (get_or-map (λ v. record { width = v.width; words = replicate v.words v.start }) d.vars b.var no_var no_words hb.of_variable)
    ∙ ap (λ n. bit_at n b.place) (get_or-replicate (var_of d b.var).words b.word (var_of d b.var).start 0 hb.of_word)

-- some number below n passes a test, or none does
search_below : (test : ℕ → Bool) (n : ℕ) → ((p : ℕ) × (p < n) × (test p ≡ true)) ⊎ ((p : ℕ) → p < n → test p ≡ false)
search_below test zero = inr (λ p lt. absurd (omega (arith, lt)))
search_below test (suc n) = elim (search_below test n) [
  | inl found ↦ inl (found.0, omega (arith, found.1), found.2)
  | inr none ↦ elim (cases_Bool (test n)) [
    | inl here ↦ inl (n, omega arith, here)
    | inr not_here ↦ inr (λ p lt. elim (cases_lt p n) [
      | inl less ↦ none p less
      | inr more ↦ (let e : n ≡ p = omega (arith, lt, more) in subst (λ q. test q ≡ false) e not_here)
    ])
  ]
]

left_of : (a b : Bool) → (a && b) ≡ true → a ≡ true
left_of true b h = refl
left_of false b h = absurd (true≢false (sym h))

right_of : (a b : Bool) → (a && b) ≡ true → b ≡ true
right_of true b h = h
right_of false b h = absurd (true≢false (sym h))

not_both : (a b : Bool) → (a && b) ≡ false → a ≡ true → b ≡ true → ⊥
not_both true b h e f = true≢false (sym f ∙ h)
not_both false b h e f = true≢false (sym e)

pub is_start : (d : Design) (n : ℕ) (s : State) → length d.processes ≤ n → IsStarting d n s → IsStart (circuit_of d) s
is_start d n s past h = record {
  is_state = h.of;
  driven = λ b hb t. by_driver b hb t;
  given = λ b hb f. h.kept b hb (λ p lt sp. none b f p sp) ∙ start_bit d b hb;
}
  where
    none : (b : Bit) → is_driven settles (circuit_of d) b ≡ false → (p : ℕ) → IsTrue (settles (kind_of d p)) → drives d p b ≡ false
    none b f p sp = elim (cases_Bool (drives d p b)) [
      | inl dp ↦ absurd (driven_none d settles refl b f p sp dp)
      | inr n ↦ n
    ]

    by_driver : (b : Bit) → IsBitOf d b → is_driven settles (circuit_of d) b ≡ true → bit s b ≡ 0
    by_driver b hb t = elim (search_below (λ p. settles (kind_of d p) && drives d p b) (length d.processes)) [
      | inl found ↦ h.cleared b hb found.0 (omega (arith, found.1, past)) (left_of (settles (kind_of d found.0)) (drives d found.0 b) found.2)
          (right_of (settles (kind_of d found.0)) (drives d found.0 b) found.2)
      | inr nothing ↦ absurd (true≢false (sym t ∙ none_driven d settles b (λ p sp dp. elim (cases_lt p (length d.processes)) [
        | inl lt ↦ not_both (settles (kind_of d p)) (drives d p b) (nothing p lt) sp dp
        | inr after_all ↦ true≢false (sym sp ∙ ap (λ (x : Process). settles x.kind) (get_or_past d.processes p no_process after_all))
      ])))
    ]

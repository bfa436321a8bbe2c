-- The first toggle entry of each variable, and the entries up to that of the next variable that is marked.
use Rattle.std.proofs.Common.{◌≡◌, ◌≢◌, ◌∙◌, sym, ap, subst, refl, ℕ, ◌+◌, ◌<◌, ◌≤◌, inl, inr, List, [], ◌∷◌, ◌++◌, false, length, arith}
use Rattle.std.proofs.Common.{◌-◌, take, drop}
use Rattle.std.specs.Prelude.{All, Some, slice_index_or, slice_range}
use Rattle.std.proofs.lemmas.Bool.{cases_lt}
use Rattle.std.proofs.lemmas.Bool.Decides.{nat_tests}
use Rattle.std.proofs.lemmas.List.{get_or-drop, get_or-take, get_or_append_left, get_or_past, get_or_push, length_push}
use Rattle.cov_types.specs.declared.var.Var.{Var}
use Rattle.design_tree.specs.declared.instrumented.ToggleEntry.{ToggleEntry}
use Rattle.design_tree.specs.declared.instrumented.Instrumented.{Instrumented}
use Rattle.circuit_run.specs.States.{State, held, no_var}
use Rattle.design_meaning.specs.Counters.{HasCounted, toggle_bit, toggled}
use Rattle.design_meaning.specs.States.{IsBitOf, var_of}
use Rattle.design_meaning.specs.Valid.{AreToggles}
use Rattle.design_meaning.specs.ValidVariables.{IsVariable}
use Rattle.place_marks.specs.Marked.{IsNext, NoneFrom, is_marked}
use Rattle.cycle_parts.specs.Toggles.{AreFirsts, AreOfOneWord, DoBitsAscend, entry_at, no_entry}
use Rattle.cycle_parts.proofs.EntryOrder.{by_bits, vars_ascend}
use Rattle.cycle_parts.proofs.ToggleLaws.{in_range, length_range, passed}

-- of the first n variables, with so many entries before the last of them
pub record AreFirstsTo (n : ℕ) (es : List ToggleEntry) (at : ℕ) (firsts : List ℕ) : Type 0 where
  pub as_many : length firsts ≡ n
  pub at_within : at ≤ length es
  pub at_below : (k : ℕ) → k < at → (entry_at es k).var < n
  pub within : (v : ℕ) → v < n → slice_index_or firsts v 0 ≤ length es
  pub below : (v k : ℕ) → v < n → k < slice_index_or firsts v 0 → (entry_at es k).var < v
  pub from : (v k : ℕ) → v < n → slice_index_or firsts v 0 ≤ k → k < length es → v ≤ (entry_at es k).var

pub none_first : (es : List ToggleEntry) → AreFirstsTo 0 es 0 []
none_first es = record {
  as_many = refl;
  at_within = omega arith;
  at_below = λ k lt. absurd (omega (arith, lt));
  within = λ v lt. absurd (omega (arith, lt));
  below = λ v k lt. absurd (omega (arith, lt));
  from = λ v k lt. absurd (omega (arith, lt));
}

module _ (x : Instrumented) (toggles : AreToggles x) where
  abbrev es : List ToggleEntry
  es = x.toggles

  pub one_first : (n at end : ℕ) (firsts : List ℕ) → AreFirstsTo n x.toggles at firsts → at ≤ end → end ≤ length x.toggles
      → ((k : ℕ) → at ≤ k → k < end → (entry_at x.toggles k).var < n) → (end < length x.toggles → n ≤ (entry_at x.toggles end).var)
      → AreFirstsTo (n + 1) x.toggles end (firsts ++ end ∷ [])
  one_first n at end firsts h le within less last = record {
    as_many = length_push firsts end ∙ ap (λ n. n + 1) h.as_many;
    at_within = within;
    at_below = λ k lt. omega (arith, below k lt);
    within = λ v lt. elim (cases_lt v n) [
      | inl old ↦ subst (λ e. e ≤ length es) (sym (old_at v old)) (h.within v old)
      | inr new ↦ subst (λ e. e ≤ length es) (sym (new_at v lt new)) within
    ];
    below = λ v k lt l. elim (cases_lt v n) [
      | inl old ↦ h.below v k old (subst (λ e. k < e) (old_at v old) l)
      | inr new ↦ omega (arith, below k (subst (λ e. k < e) (new_at v lt new) l), new)
    ];
    from = λ v k lt le' l. elim (cases_lt v n) [
      | inl old ↦ h.from v k old (subst (λ e. e ≤ k) (old_at v old) le') l
      | inr new ↦ omega (arith, past k (subst (λ e. e ≤ k) (new_at v lt new) le') l, lt)
    ];
  }
    where
      below : (k : ℕ) → k < end → (entry_at x.toggles k).var < n
      below k lt = elim (cases_lt k at) [
        | inl before ↦ h.at_below k before
        | inr from ↦ less k from lt
      ]

      past : (k : ℕ) → end ≤ k → k < length x.toggles → n ≤ (entry_at x.toggles k).var
      past k le l = omega (arith, last (omega (arith, le, l)), vars_ascend x.toggles toggles.ascend end k le l)

      old_at : (v : ℕ) → v < n → slice_index_or (firsts ++ end ∷ []) v 0 ≡ slice_index_or firsts v 0
      old_at v lt = get_or_append_left firsts (end ∷ []) 0 v (omega (arith, lt, h.as_many))

      new_at : (v : ℕ) → v < n + 1 → n ≤ v → slice_index_or (firsts ++ end ∷ []) v 0 ≡ end
      new_at v lt le = get_or_push firsts end 0 v (omega (arith, lt, le, h.as_many))

  pub all_first : (n vars at : ℕ) (firsts : List ℕ) → n ≡ vars → AreFirstsTo n x.toggles at firsts → AreFirsts vars x.toggles firsts
  all_first n vars at firsts e h = record {
    as_many = h.as_many ∙ e;
    within = λ v. elim (cases_lt v n) [
      | inl lt ↦ h.within v lt
      | inr past ↦ subst (λ e. e ≤ length es) (sym (get_or_past firsts v 0 (omega (arith, past, h.as_many)))) (omega arith)
    ];
    below = λ v k lt. h.below v k (omega (arith, lt, e));
    from = λ v k lt. h.from v k (omega (arith, lt, e));
  }

  -- ---- up to the next variable that is marked

  module _ (firsts marks : List ℕ) (are : AreFirsts (length x.design.vars) x.toggles firsts) (at : ℕ) (here : at < length x.toggles) where
    abbrev var : ℕ
    var = (entry_at x.toggles at).var

    pub none_marked : NoneFrom marks (entry_at x.toggles at).var → (k : ℕ) → at ≤ k → k < length x.toggles → is_marked marks (entry_at x.toggles k).var ≡ false
    none_marked none k le lt = none (entry_at x.toggles k).var (vars_ascend x.toggles toggles.ascend at k le lt)

    module _ (next : ℕ) (is : IsNext marks (entry_at x.toggles at).var next) where
      pub before_next : next ≢ (entry_at x.toggles at).var → next < length x.design.vars → at ≤ slice_index_or firsts next 0
      before_next ne lt = elim (cases_lt at (slice_index_or firsts next 0)) [
        | inl less ↦ omega (arith, less)
        | inr from ↦ absurd (ne (same next (entry_at x.toggles at).var (are.from next at lt from here) is.upwards))
      ]
        where
          same : (a b : ℕ) → a ≤ b → b ≤ a → a ≡ b
          same a b h g = omega (arith, h, g)

      pub unmarked : next < length x.design.vars → (k : ℕ) → at ≤ k → k < slice_index_or firsts next 0 → is_marked marks (entry_at x.toggles k).var ≡ false
      unmarked lt k le l = is.between (entry_at x.toggles k).var
          (vars_ascend x.toggles toggles.ascend at k le (omega (arith, l, are.within next))) (are.below next k lt l)

      pub unmarked_to_end : length x.design.vars ≤ next → (k : ℕ) → at ≤ k → k < length x.toggles → is_marked marks (entry_at x.toggles k).var ≡ false
      unmarked_to_end past k le l = is.between (entry_at x.toggles k).var (vars_ascend x.toggles toggles.ascend at k le l)
          (omega (arith, past, (toggles.bits k no_entry l).of_variable))

-- ---- entries of variables that are not marked

module _ (x : Instrumented) (variables : All IsVariable x.design.vars) (toggles : AreToggles x) (s t : State) (marks : List ℕ)
    (unchanged : (v : ℕ) → v < length x.design.vars → is_marked marks v ≡ false → held t v ≡ held s v) where
  pub passed_unmarked : (at from : ℕ) (a b : List ℕ) → at ≤ from → from ≤ length x.toggles
      → ((k : ℕ) → at ≤ k → k < from → is_marked marks (entry_at x.toggles k).var ≡ false)
      → HasCounted a (toggled (Some s) t (take at x.toggles)) b → HasCounted a (toggled (Some s) t (take from x.toggles)) b
  passed_unmarked at from a b le within unmarked = passed s t x.toggles at from a b le within
      (λ k l lt. unchanged (entry_at x.toggles k).var (toggles.bits k no_entry (omega (arith, lt, within))).of_variable (unmarked k l lt))

few_places : (v : Var) → IsVariable v → v.width ≤ 128
few_places v i = grind (arith, nat_tests, i.wide)

pub places_fit : (x : Instrumented) → All IsVariable x.design.vars → AreToggles x → (i j : ℕ) → i ≤ j → j ≤ length x.toggles
    → All (λ e. e.bit < 128) (slice_range x.toggles i j)
places_fit x variables toggles i j le within k d lt =
    let here : k < j - i = omega (arith, lt, length_range x.toggles i j le within) in
    subst (λ (e : ToggleEntry). e.bit < 128) (sym (get_or-take (j - i) (drop i x.toggles) k d here ∙ get_or-drop i x.toggles k d))
    (fits (slice_index_or x.toggles (i + k) d) (toggles.bits (i + k) d (omega (arith, here, le, within))))
  where
    fits : (e : ToggleEntry) → IsBitOf x.design (toggle_bit e) → e.bit < 128
    fits e is = omega (arith, is.in_width, few_places (var_of x.design e.var) (variables e.var no_var is.of_variable))

-- the bits of the entries of one word ascend
pub bits_ascend : (x : Instrumented) → AreToggles x → (i j : ℕ) → i ≤ j → j ≤ length x.toggles
    → ((k : ℕ) → i ≤ k → k < j → AreOfOneWord (entry_at x.toggles i) (entry_at x.toggles k)) → DoBitsAscend (slice_range x.toggles i j)
bits_ascend x toggles i j le within same a b lt here =
    let few : b < j - i = omega (arith, here, length_range x.toggles i j le within) in
    let es = x.toggles in
    let one = same (i + a) (omega arith) (omega (arith, lt, few)) in
    let other = same (i + b) (omega arith) (omega (arith, few)) in
    subst (λ (u : ToggleEntry). u.bit < (entry_at (slice_range es i j) b).bit) (sym (in_range es i j a le (omega (arith, lt, few))))
    (subst (λ (u : ToggleEntry). (entry_at es (i + a)).bit < u.bit) (sym (in_range es i j b le few))
    (by_bits (entry_at es (i + a)) (entry_at es (i + b)) (toggles.ascend (i + a) (i + b) no_entry (omega (arith, lt)) (omega (arith, few, within)))
    (record { var = sym one.var ∙ other.var; word = sym one.word ∙ other.word })))

-- From the laws of single runs and an order: a design that flows has exactly one settled state for all registers and inputs.
use Rattle.std.proofs.Common.{◌≡◌, ◌∙◌, sym, refl, ℕ, zero, suc, ◌<◌, List, [], ◌∷◌, map, length, arith}
use Rattle.std.specs.Prelude.{IsTrue, All, slice_index, slice_index_or}
use Rattle.std.specs.List.{AllByRecursion}
use Rattle.cov_types.specs.declared.kind.VarKind.TheVariants as var_kind
use Rattle.design_tree.specs.declared.design.Design.{Design}
use Rattle.circuit_run.specs.States.{State, Bit, bit, held}
use Rattle.design_meaning.specs.States.{IsBitOf, var_of, IsStateOf}
use Rattle.circuit_run.specs.Kinds.{settles, is_comb}
use Rattle.design_meaning.specs.Processes.{kind_of}
use Rattle.design_meaning.specs.Reach.{drives}
use Rattle.design_meaning.specs.Settled.{Agrees, IsSettled}
use Rattle.design_meaning.specs.Circuit.{input_vars}
use Rattle.design_meaning.specs.ValidVariables.{AreInputs}
use Rattle.design_meaning.specs.Valid.{IsValidDesign}
use Rattle.design_meaning.specs.FlowFaults.{Flows}
use Rattle.design_meaning.specs.Orders.{IsOrder}
use Rattle.design_meaning.specs.RunLaws.{after, BitsTellStates, BitsTellWords, RunsKeepStates, LeavesOthers, DrivesItsKind, EarlyReadsAreReads, WritesAlike}
use Rattle.design_meaning.specs.SettledLaws.{after_all, SomeStateAgrees, AlwaysSettles, FlowHasOrder, OrdersSettle, IsRow, HasOneSettled}
use Rattle.design_meaning.proofs.FlowFacts.{Settling}
use Rattle.design_meaning.proofs.OrderSettles.{AllStill, all_keep, all_leave, settles_all, agree_all}
use Rattle.design_meaning.proofs.Listed.{by_recursion, ordered, listed}
use Rattle.design_meaning.proofs.ByNumber.{driven_none, Still, still_from, to_still}
use Rattle.design_meaning.proofs.AgreeOutside.{reg_comb, not_input, inputs_of, agree_base, none_drives}

-- ---- the theorem

pub map_same : {X Y : Type 0} (f g : X → Y) (xs : List X) → AllByRecursion (λ x. f x ≡ g x) xs → map f xs ≡ map g xs
map_same f g [] h = refl
map_same f g (x ∷ xs) h = rw (h.0, map_same f g xs h.1) refl

abbrev SameWord : State → State → ℕ → Type 0
SameWord s t v = slice_index (held s v).words 0 ≡ slice_index (held t v).words 0

module _ (tells : BitsTellStates) (words : BitsTellWords) (keeps : RunsKeepStates) (leaves : LeavesOthers) (kinds : DrivesItsKind)
    (alike : WritesAlike) (reads : EarlyReadsAreReads) where
  -- runs of an order keep what a state agrees with
  agrees_after : (d : Design) (order : List ℕ) → IsValidDesign d → Flows d → IsOrder d order → (r : State) (row : List ℕ) (s : State)
      → Agrees d r row s → Agrees d r row (after_all d order s)
  agrees_after d order valid flows o r row s a = record {
    is_state = all_keep d valid flows tells keeps leaves alike reads order s a.is_state;
    registers = λ b h. left b h.here (λ p sp dp. driven_none d is_comb refl b h.kept p (reg_comb (kind_of d p) sp (sym h.of_reg ∙ kinds d p b valid dp)) dp)
        ∙ a.registers b h;
    inputs = map_same (λ v. slice_index (held (after_all d order s) v).words 0) (λ v. slice_index (held s v).words 0) (input_vars d)
        (by_recursion (SameWord (after_all d order s) s) (input_vars d) same) ∙ a.inputs;
    undriven = λ b h. left b h.here (driven_none d settles refl b h.undriven) ∙ a.undriven b h;
  }
    where
      left : (b : Bit) → IsBitOf d b → ((p : ℕ) → Settling d p → IsTrue (drives d p b) → ⊥) → bit (after_all d order s) b ≡ bit s b
      left b hb n = all_leave d valid flows tells keeps leaves alike reads order s b a.is_state hb (none_drives d order o b n order o.only)

      same_word : (v : ℕ) → v < length d.vars → (var_of d v).words ≡ 1 → (var_of d v).kind ≡ var_kind.Input → SameWord (after_all d order s) s v
      same_word v lt one k =
          words d (after_all d order s) s v 0 (all_keep d valid flows tells keeps leaves alike reads order s a.is_state) a.is_state lt (λ i hi.
          let b : Bit = record { var = v; word = 0; place = i } in
          left b (record { of_variable = lt; of_word = omega (arith, one); in_width = hi }) (λ p sp dp. not_input (kind_of d p) (sym k ∙ kinds d p b valid dp)))

      same : All (SameWord (after_all d order s) s) (input_vars d)
      same k v lt =
          let ins : AreInputs d = inputs_of d valid in
          same_word (slice_index_or (input_vars d) k v) (ins.stand k v lt) (ins.single k v lt) (ins.only_inputs k v lt)

  pub orders_settle : OrdersSettle
  orders_settle d order valid flows o r row s hr hrow a =
      let e : State = after_all d order s in
      record {
        agrees = agrees_after d order valid flows o r row s a;
        still = to_still d e (listed d order (λ p. after d p e ≡ e) o
            (settles_all d valid flows tells keeps leaves alike reads order s a.is_state (ordered d order o.only o.once o.written_first)));
      }

  still_list : (d : Design) (s : State) → Still d s → (ps : List ℕ) → All (Settling d) ps → AllStill d ps s
  still_list d s h [] o = tt
  still_list d s h (p ∷ ps) o = (h p (o zero p (omega arith)), still_list d s h ps (λ k e lt. o (suc k) e (omega (arith, lt))))

  -- with an order there is exactly one settled state
  pub one_settled : SomeStateAgrees → (d : Design) (order : List ℕ) → IsValidDesign d → Flows d → IsOrder d order
      → (r : State) (row : List ℕ) → IsStateOf d r → IsRow d row → HasOneSettled d r row
  one_settled some d order valid flows o r row hr hrow =
      let base : (s : State) × Agrees d r row s = some d r row valid hr hrow in
      let s : State = after_all d order base.0 in
      let settled : IsSettled d r row s = orders_settle d order valid flows o r row base.0 hr hrow base.1 in (
        s,
        settled,
        λ t h. tells d t s h.agrees.is_state settled.agrees.is_state
            (agree_all d valid flows tells keeps leaves alike reads order t s h.agrees.is_state settled.agrees.is_state
            (ordered d order o.only o.once o.written_first)
            (still_list d t (still_from d t h.still) order o.only)
            (still_list d s (still_from d s settled.still) order o.only)
            (agree_base d valid order o r row t s h.agrees settled.agrees)),
      )

  pub always_settles : FlowHasOrder → SomeStateAgrees → AlwaysSettles
  always_settles has_order some d valid flows r row hr hrow =
      let o : (order : List ℕ) × IsOrder d order = has_order d flows in
      one_settled some d o.0 valid flows o.1 r row hr hrow

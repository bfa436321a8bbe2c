-- A process that reads and drives the same as in a state that it leaves alone is idle.
use Rattle.std.proofs.Common.{◌≡◌, ◌∙◌, sym, ap, subst, ℕ, inl, inr, false, List, [], ◌∷◌, ◌++◌}
use Rattle.std.proofs.lemmas.Bool.{cases_Bool}
use Rattle.std.specs.Prelude.{IsTrue}
use Rattle.std.specs.List.{AllByRecursion}
use Rattle.design_tree.specs.declared.design.Design.{Design}
use Rattle.circuit_run.specs.States.{State, Bit, bit}
use Rattle.design_meaning.specs.States.{IsBitOf, IsStateOf}
use Rattle.design_meaning.specs.Reach.{drives, reads_early}
use Rattle.design_meaning.specs.Valid.{IsValidDesign}
use Rattle.design_meaning.specs.FlowFaults.{Flows}
use Rattle.design_meaning.specs.Orders.{IsOrder}
use Rattle.design_meaning.specs.RunLaws.{after, AgreeFor}
use Rattle.design_meaning.specs.SettledLaws.{after_all}
use Rattle.design_meaning.proofs.FlowFacts.{Settling, written, not_own}
use Rattle.design_meaning.proofs.OrderSettles.{IsAhead, Ordered, NoneDrives, all_keep, all_leave}
use Rattle.design_meaning.proofs.Listed.{ordered}
use Rattle.design_meaning.proofs.StateBits.{bits_tell_states}
use Rattle.design_meaning.proofs.RunTheorems.{runs_keep_states, sees_only_reads, writes_alike}
use Rattle.design_meaning.proofs.Frame.{leaves_others}
use Rattle.design_meaning.proofs.EasyLaws.{early_reads}
use Rattle.cycle_laws.specs.Laws.{IdleStays, RestLeavesReads}

pub idle_stays : IdleStays
idle_stays d p s t valid flows hs ht sp still idle = (
  bits_tell_states d (after d p t) t (runs_keep_states d p t valid ht) ht (λ b hb. elim (cases_Bool (drives d p b)) [
    | inl dp ↦ writes_alike d p t s b valid ht hs (λ c hc rc. idle.read c hc (early_reads d p c rc)) hb (written d flows p b sp hb dp)
        ∙ ap (λ x. bit x b) still ∙ sym (idle.driven b hb dp)
    | inr n ↦ leaves_others d p t b valid ht hb n
  ]),
  sees_only_reads d p s t valid hs ht (λ c hc rc. sym (idle.read c hc (early_reads d p c rc))),
)

-- the rest of an order is ordered
rest_ordered : (d : Design) (front rest : List ℕ) → Ordered d (front ++ rest) → Ordered d rest
rest_ordered d [] rest o = o
rest_ordered d (p ∷ front) rest o = rest_ordered d front rest o.2

pub order_rest : (d : Design) (order front rest : List ℕ) → IsOrder d order → order ≡ front ++ rest → Ordered d rest
order_rest d order front rest o e = rest_ordered d front rest (subst (Ordered d) e (ordered d order o.only o.once o.written_first))

module _ (d : Design) (valid : IsValidDesign d) (flows : Flows d) where
  pub rest_keeps : (ps : List ℕ) (s : State) → IsStateOf d s → IsStateOf d (after_all d ps s)
  rest_keeps = all_keep d valid flows bits_tell_states runs_keep_states leaves_others writes_alike early_reads

  pub rest_leaves : (ps : List ℕ) (s : State) (b : Bit) → IsStateOf d s → IsBitOf d b → NoneDrives d b ps → bit (after_all d ps s) b ≡ bit s b
  rest_leaves = all_leave d valid flows bits_tell_states runs_keep_states leaves_others writes_alike early_reads

  -- what p reads early neither p nor those ahead drive
  unread : (p : ℕ) (ps : List ℕ) (b : Bit) → Settling d p → AllByRecursion (IsAhead d p) ps → IsBitOf d b → IsTrue (reads_early d p b) → NoneDrives d b ps
  unread p [] b sp a hb rp = tt
  unread p (q ∷ qs) b sp a hb rp = (
    elim (cases_Bool (drives d q b)) [
      | inl dq ↦ absurd (a.0.no_way (record
          { from = a.0.settling; to = sp; apart = inl (λ e. a.0.apart (sym e)); along = b; here = hb; driven = dq; read = early_reads d p b rp }))
      | inr n ↦ n
    ],
    unread p qs b sp a.1 hb rp,
  )

  own : (p : ℕ) (b : Bit) → Settling d p → IsBitOf d b → IsTrue (reads_early d p b) → drives d p b ≡ false
  own p b sp hb rp = elim (cases_Bool (drives d p b)) [
    | inl dp ↦ absurd (not_own d flows early_reads p b sp hb rp dp)
    | inr n ↦ n
  ]

  agree_for : (p : ℕ) (ps : List ℕ) (t : State) → IsStateOf d t → Ordered d (p ∷ ps) → AgreeFor d p t (after_all d (p ∷ ps) t)
  agree_for p ps t ht o b hb rp = sym (
      rest_leaves ps (after d p t) b (runs_keep_states d p t valid ht) hb (unread p ps b o.0 o.1 hb rp)
      ∙ leaves_others d p t b valid ht hb (own p b o.0 hb rp)
      )

pub rest_leaves_reads : RestLeavesReads
rest_leaves_reads d order front rest p t valid flows o e ht =
    sees_only_reads d p t (after_all d (p ∷ rest) t) valid ht (rest_keeps d valid flows (p ∷ rest) t ht)
    (agree_for d valid flows p rest t ht (order_rest d order front (p ∷ rest) o e))

-- Orders and circles of the graph of a design are those of the design.
use Rattle.std.proofs.Common.{IsTrue, ◌≡◌, ◌≢◌, ◌∙◌, sym, ap, subst, ℕ, ◌<◌, arith, inl, inr, Bool, List, [], ◌∷◌, length, get_or}
use Rattle.std.specs.Prelude.{Contains, filter}
use Rattle.std.proofs.lemmas.Bool.{cases_lt}
use Rattle.std.proofs.lemmas.List.{get_or_default}
use Rattle.std.proofs.lemmas.List.Elements.{filter_passes}
use Rattle.std.proofs.lemmas.List.Kept.{AllPairs-filter}
use Rattle.design_tree.specs.declared.design.Design.{Design}
use Rattle.circuit_run.specs.Kinds.{settles}
use Rattle.design_meaning.specs.Processes.{kind_of}
use Rattle.design_meaning.specs.Flow.{Leads}
use Rattle.design_meaning.specs.Flow as flow
use Rattle.design_meaning.specs.FlowFaults as faults
use Rattle.design_meaning.specs.Orders as orders
use Rattle.flow_hubs.proofs.Firsts.{Chain, IsCircleFrom, IsLeastOf, IsOrderOf, filter_at}
use Rattle.flow_edges.proofs.Owned.{settles_below}

-- ---- no circle where there is an order

module _ (d : Design) (order : List ℕ) (o : orders.IsOrder d order) (apart : (p : ℕ) → Leads d p p → ⊥) where
  -- a process stands before those to which it leads
  up : (p q i j : ℕ) → i < length order → j < length order → get_or order i 0 ≡ p → get_or order j 0 ≡ q → Leads d p q → i < j
  up p q i j l m e f leads = elim (cases_lt i j) [
    | inl less ↦ less
    | inr from ↦ elim (cases_lt j i) [
      | inl more ↦ absurd (o.written_first j i 0 more l (subst (λ x. Leads d x (get_or order j 0)) (sym e) (subst (Leads d p) (sym f) leads)))
      | inr to ↦ absurd (let same : i ≡ j = omega (arith, from, to) in
          apart p (subst (Leads d p) (sym f ∙ (ap (λ k. get_or order k 0) (sym same) ∙ e)) leads))
    ]
  ]

  chain_up : (p : ℕ) (qs : List ℕ) (end i j : ℕ) → i < length order → j < length order → get_or order i 0 ≡ p → get_or order j 0 ≡ end
      → flow.Chain d p qs end → i < j
  chain_up p [] end i j l m e f h = up p end i j l m e f h
  chain_up p (q ∷ qs) end i j l m e f h =
      let c : Contains order q = o.all q h.0.to in
      let there : get_or order c.0 0 ≡ q = get_or_default order c.0 0 q c.1 ∙ c.2 in
      let first : i < c.0 = up p q i c.0 l c.1 e there h.0 in
      let rest : c.0 < j = chain_up q qs end c.0 j c.1 m there f h.1 in
      omega (arith, first, rest)

  first_settles : (p : ℕ) (qs : List ℕ) (end : ℕ) → flow.Chain d p qs end → IsTrue (settles (kind_of d p))
  first_settles p [] end h = h.from
  first_settles p (q ∷ qs) end h = h.0.from

  circle_up : (p : ℕ) (c : List ℕ) → flow.IsCycleFrom d p c → ⊥
  circle_up p [] h = h
  circle_up p (q ∷ qs) h =
      let c : Contains order p = o.all p (first_settles p qs p h.1) in
      let there : get_or order c.0 0 ≡ p = get_or_default order c.0 0 p c.1 ∙ c.2 in
      let again : c.0 < c.0 = chain_up p qs p c.0 c.0 c.1 c.1 there there h.1 in
      omega (arith, again)

  pub no_circle : (p : ℕ) → flow.IsOnCycle d p → ⊥
  no_circle p on = circle_up p on.0 on.1

-- ---- an order

module _ (d : Design) where
  abbrev kept : ℕ → Bool
  kept p = settles (kind_of d p)

  pub order_is : (order : List ℕ) → IsOrderOf (length d.processes) (Leads d) order → orders.IsOrder d (filter kept order)
  order_is order o = record {
    all = λ p settled.
        (let c : Contains order p = o.all p (settles_below d p settled) in filter_at kept order p c.0 c.1 c.2 settled);
    only = filter_passes kept order;
    once = AllPairs-filter (λ p q. p ≢ q) kept order o.once;
    written_first = AllPairs-filter (λ p q. Leads d q p → ⊥) kept order o.forward;
  }

  pub none_circular : (order : List ℕ) → IsOrderOf (length d.processes) (Leads d) order → (p : ℕ) → flow.IsOnCycle d p → ⊥
  none_circular order o = no_circle d (filter kept order) (order_is order o) o.apart

  -- ---- a circle

  chain_to : (p : ℕ) (qs : List ℕ) (end : ℕ) → Chain (Leads d) p qs end → flow.Chain d p qs end
  chain_to p [] end h = h
  chain_to p (q ∷ qs) end h = (h.0, chain_to q qs end h.1)

  chain_from : (p : ℕ) (qs : List ℕ) (end : ℕ) → flow.Chain d p qs end → Chain (Leads d) p qs end
  chain_from p [] end h = h
  chain_from p (q ∷ qs) end h = (h.0, chain_from q qs end h.1)

  circle_to : (p : ℕ) (c : List ℕ) → IsCircleFrom (Leads d) p c → flow.IsCycleFrom d p c
  circle_to p [] h = h
  circle_to p (q ∷ qs) h = (h.0, chain_to p qs p h.1)

  circle_from : (p : ℕ) (c : List ℕ) → flow.IsCycleFrom d p c → IsCircleFrom (Leads d) p c
  circle_from p [] h = h
  circle_from p (q ∷ qs) h = (h.0, chain_from p qs p h.1)

  pub cycle_is : (c : List ℕ) → IsLeastOf (Leads d) c → faults.IsLeastCycle d c
  cycle_is c l = record {
    first = l.first;
    circle = circle_to l.first c l.begins;
    least = λ q lt on. l.least q lt on.0 (circle_from q on.0 on.1);
  }

-- Whether a process lies on a circle is decided.
use Rattle.std.proofs.Common.{ℕ, ◌<◌, List, [], ◌∷◌, length, refl}
use Rattle.std.proofs.Math.Decide.{map_dec}
use Rattle.design_tree.specs.declared.design.Design.{Design}
use Rattle.circuit_run.specs.Kinds.{settles}
use Rattle.design_meaning.specs.Flow.{Leads, Chain, IsOnCycle}
use Rattle.design_meaning.proofs.FlowFacts.{Settling}
use Rattle.order_laws.proofs.Closure.{Route, Through, through_decided, routed, through}
use Rattle.order_laws.proofs.Bits.{numbered}
use Rattle.order_laws.proofs.Leading.{leads}

module _ (d : Design) where
  -- p leads to q, over some of the processes
  abbrev pub Reaches : ℕ → ℕ → Type 0
  Reaches = Through (Leads d) (length d.processes)

  chained : (p : ℕ) (between : List ℕ) (q : ℕ) → Route (Leads d) p between q → Chain d p between q
  chained p [] q r = r
  chained p (x ∷ xs) q r = (r.0, chained x xs q r.1)

  route : (p : ℕ) (between : List ℕ) (q : ℕ) → Chain d p between q → Route (Leads d) p between q
  route p [] q c = c
  route p (x ∷ xs) q c = (c.0, route x xs q c.1)

  pub settling : (p : ℕ) → Settling d p → p < length d.processes
  settling p h = numbered d (λ x. settles x.kind) refl p h

  begins : (p : ℕ) (between : List ℕ) (q : ℕ) → Chain d p between q → Settling d p
  begins p [] q c = c.from
  begins p (x ∷ xs) q c = c.0.from

  pub reached : (p q : ℕ) → Dec (Reaches p q)
  reached = through_decided (Leads d) (leads d) (length d.processes)

  pub circle : (p : ℕ) → Reaches p p → IsOnCycle d p
  circle p h =
      let r : (between : List ℕ) × Route (Leads d) p between p = routed (Leads d) (length d.processes) p p h in
      (p ∷ r.0, (refl, chained p r.0 p r.1))

  goes_round : (p : ℕ) → IsOnCycle d p → Reaches p p
  goes_round p ([], h) = absurd h
  goes_round p (q ∷ qs, h) = through (Leads d) (length d.processes) (λ x y l. settling y l.to) p qs p (route p qs p h.1)

  pub on_circle : (p : ℕ) → Dec (IsOnCycle d p)
  on_circle p = map_dec (circle p) (goes_round p) (reached p p)

  pub circles_below : (p : ℕ) → IsOnCycle d p → p < length d.processes
  circles_below p ([], h) = absurd h
  circles_below p (q ∷ qs, h) = settling p (begins p qs p h.1)

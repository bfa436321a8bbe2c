-- A process at the edge that is run behind others does what it does from the first state alone.
use Rattle.std.proofs.Common.{◌≡◌, ◌≢◌, ◌∙◌, sym, subst, refl, ℕ, ◌+◌, ◌<◌, ◌⊎◌, inl, inr, Bool, true, false, true≢false, ◌||◌, arith}
use Rattle.std.proofs.lemmas.Bool.{cases_Bool, cases_lt}
use Rattle.std.specs.Prelude.{IsTrue}
use Rattle.cov_types.specs.declared.kind.ProcessKind.{ProcessKind}
use Rattle.cov_types.specs.declared.kind.ProcessKind.TheVariants as kind
use Rattle.design_tree.specs.declared.design.Design.{Design}
use Rattle.circuit_run.specs.States.{State, Bit, bit}
use Rattle.circuit_run.specs.Kinds.{is_clocked, is_cover, is_initial, runs_at_edge}
use Rattle.design_meaning.specs.States.{IsBitOf, IsStateOf}
use Rattle.design_meaning.specs.Processes.{kind_of}
use Rattle.design_meaning.specs.Reach.{reads_bit, sets_var, defers_var}
use Rattle.design_meaning.specs.Valid.{IsValidDesign}
use Rattle.design_meaning.specs.Flow.{IsShared}
use Rattle.design_meaning.specs.FlowFaults.{Flows}
use Rattle.design_meaning.specs.RunLaws.{after, AgreeFor}
use Rattle.design_meaning.proofs.Frame.{leaves_others}
use Rattle.design_meaning.proofs.RunTheorems.{sees_only_reads, writes_or_leaves}
use Rattle.design_meaning.proofs.EasyLaws.{early_reads}
use Rattle.cycle_laws.specs.Chains.{AreBlocked, EachAtEdge}
use Rattle.cycle_laws.specs.Laws.{EdgesChain}
use Rattle.cycle_laws.proofs.SetFrame.{leaves_unset}
use Rattle.cycle_laws.proofs.Covers.{covers_set_nothing}

which : (k : ProcessKind) → IsTrue (runs_at_edge k) → IsTrue (is_clocked k) ⊎ IsTrue (is_cover k)
which kind.Clocked h = inl refl
which kind.Cover h = inr refl
which kind.Assign h = absurd cc
which kind.Comb h = absurd cc
which kind.Initial h = absurd cc

not_initial : (k : ProcessKind) → IsTrue (runs_at_edge k) → is_initial k ≡ false
not_initial kind.Clocked h = refl
not_initial kind.Cover h = refl
not_initial kind.Assign h = absurd cc
not_initial kind.Comb h = absurd cc
not_initial kind.Initial h = absurd cc

left_true : (a b : Bool) → a ≡ true → (a || b) ≡ true
left_true a b h = rw h refl

module _ (d : Design) (valid : IsValidDesign d) (flows : Flows d) where
  -- what another process at the edge assigns at once this one doesn't touch
  private_to : (q p v : ℕ) → IsTrue (runs_at_edge (kind_of d q)) → IsTrue (sets_var d q v) → IsShared d q v p → ⊥
  private_to q p v at sets shared = elim (which (kind_of d q) at) [
    | inl clocked ↦ flows.private q v (record { kinds = clocked; assigned = sets; seen = inl (p, shared) })
    | inr cover ↦ true≢false (sym sets ∙ covers_set_nothing d q v valid cover)
  ]

  module _ (p : ℕ) (at : IsTrue (runs_at_edge (kind_of d p))) where
    -- a variable that p reads, or assigns at once, none before p assigns at once
    none_assign : (n v : ℕ) → n ≡ p → ((q : ℕ) → p ≢ q → IsShared d q v p) → EachAtEdge d n (λ q. sets_var d q v ≡ false)
    none_assign n v e shared q lt kq = elim (cases_Bool (sets_var d q v)) [
      | inl sets ↦ absurd (private_to q p v kq sets (shared q (λ same. omega (arith, same, lt, e))))
      | inr no' ↦ no'
    ]

    reads_it : (b : Bit) → IsBitOf d b → IsTrue (reads_bit d p b) → (q : ℕ) → p ≢ q → IsShared d q b.var p
    reads_it b hb r q ne = record { apart = ne; kinds = not_initial (kind_of d p) at; touched = inl (b, hb, refl, r) }

    sets_it : (v : ℕ) → IsTrue (sets_var d p v) → (q : ℕ) → p ≢ q → IsShared d q v p
    sets_it v sets q ne = record { apart = ne; kinds = not_initial (kind_of d p) at; touched = inr (left_true (sets_var d p v) (defers_var d p v) sets) }

    module _ (s t : State) (hs : IsStateOf d s) (ht : IsStateOf d t) (blocked : AreBlocked d p s t) where
      alike : AgreeFor d p t s
      alike b hb r = blocked.kept b hb (none_assign p b.var refl (reads_it b hb (early_reads d p b r)))

      here : (b : Bit) → IsBitOf d b → IsTrue (sets_var d p b.var) → bit t b ≡ bit s b
      here b hb sets = blocked.kept b hb (none_assign p b.var refl (sets_it b.var sets))

      own : (b : Bit) → IsBitOf d b → IsTrue (sets_var d p b.var) → bit (after d p t) b ≡ bit (after d p s) b
      own b hb sets = elim (writes_or_leaves d p t s b valid ht hs alike hb) [
        | inl e ↦ e
        | inr l ↦ l.0 ∙ here b hb sets ∙ sym l.1
      ]

      unset : (b : Bit) → IsBitOf d b → (q : ℕ) → q < p → IsTrue (runs_at_edge (kind_of d q)) → IsTrue (sets_var d q b.var) → sets_var d p b.var ≡ false
      unset b hb q lt kq sets = elim (cases_Bool (sets_var d p b.var)) [
        | inl both ↦ absurd (private_to q p b.var kq sets (sets_it b.var both q (λ same. omega (arith, same, lt))))
        | inr no' ↦ no'
      ]

      after_one : AreBlocked d (p + 1) s (after d p t)
      after_one = record {
        set = λ b hb q lt kq sets. elim (cases_lt q p) [
          | inl less ↦ leaves_unset d p t b ht hb (unset b hb q less kq sets) ∙ blocked.set b hb q less kq sets
          | inr more ↦ (let e : p ≡ q = omega (arith, lt, more) in
              subst (λ r. bit (after d p t) b ≡ bit (after d r s) b) e (own b hb (subst (λ r. IsTrue (sets_var d r b.var)) (sym e) sets)))
        ];
        kept = λ b hb none. leaves_unset d p t b ht hb (none p (omega arith) at) ∙ blocked.kept b hb (λ q lt kq. none q (omega (arith, lt)) kq);
        untouched = λ b hb none. leaves_others d p t b valid ht hb (none p (omega arith) at)
            ∙ blocked.untouched b hb (λ q lt kq. none q (omega (arith, lt)) kq);
      }

pub one_more : EdgesChain
one_more d p s t valid flows hs ht lt at blocked = (
  after_one d valid flows p at s t hs ht blocked,
  sees_only_reads d p t s valid ht hs (alike d valid flows p at s t hs ht blocked),
)

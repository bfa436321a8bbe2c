-- Whether an assignment or combinational process leads to another is decided.
use Rattle.std.proofs.Common.{ℕ}
use Rattle.std.proofs.Math.Decide.{map_dec, ℕ_discrete}
use Rattle.std.specs.Prelude.{IsTrue}
use Rattle.design_tree.specs.declared.design.Design.{Design}
use Rattle.circuit_run.specs.Kinds.{settles, is_assign}
use Rattle.design_meaning.specs.Processes.{kind_of}
use Rattle.design_meaning.specs.Reach.{drives, reads_bit}
use Rattle.design_meaning.specs.Flow.{Leads}
use Rattle.order_laws.proofs.Decisions.{both, either, denied, told}
use Rattle.order_laws.proofs.Bits.{some_bit}

pub leads : (d : Design) (p q : ℕ) → Dec (Leads d p q)
leads d p q = map_dec
    (λ h. record { from = h.0; to = h.1.0; apart = h.1.1.0; along = h.1.1.1.0; here = h.1.1.1.1; driven = h.1.1.1.2.0; read = h.1.1.1.2.1 })
    (λ h. (h.from, (h.to, (h.apart, (h.along, h.here, (h.driven, h.read))))))
    (both (told (settles (kind_of d p))) (both (told (settles (kind_of d q)))
    (both (either (denied (ℕ_discrete p q)) (told (is_assign (kind_of d p))))
    (some_bit d (λ b. IsTrue (drives d p b) × IsTrue (reads_bit d q b)) (λ b. both (told (drives d p b)) (told (reads_bit d q b)))))))

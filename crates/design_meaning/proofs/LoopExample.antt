-- A wire that is assigned to itself: its fault is the circle of that one process.
use Rattle.std.proofs.Common.{◌≡◌, zero, suc, ◌||◌, ◌&&◌, Bool, true, false, List, [], ◌∷◌, refl, subst, inl, inr, arith}
use Rattle.std.specs.Prelude.{IsTrue, Some, None, pos}
use Rattle.std.specs.List.{list_any, list_all}
use Rattle.design_tree.specs.declared.typed.Typed.TheVariants as e
use Rattle.design_tree.specs.declared.step.Target.TheVariants as target
use Rattle.design_tree.specs.declared.step.Step.TheVariants as step
use Rattle.cov_types.specs.declared.kind.VarKind.TheVariants as var_kind
use Rattle.cov_types.specs.declared.kind.ProcessKind.TheVariants as kind
use Rattle.design_tree.specs.declared.design.Design.{Design}
use Rattle.circuit_run.specs.States.{Bit}
use Rattle.design_meaning.specs.Targets.{names_bit}
use Rattle.design_meaning.specs.Paths.{Path, reads, sets}
use Rattle.design_meaning.specs.Reach.{paths_of, drives, always_writes, event_drives, event_writes}
use Rattle.design_meaning.specs.Flow.{HasTwoDrivers, IsMixed, IsNotPrivate, IsLatch, IsReadBeforeWrite, Leads}
use Rattle.design_meaning.specs.FlowFaults.{Keeps, comb_loop, IsFaultOf}
use Rattle.design_meaning.proofs.StepFolds.{step_folds}
use Rattle.design_meaning.proofs.Equations.{all_reads}

abbrev pub wire_loop : Design
wire_loop = record {
  vars = record { width = 1; words = 1; start = 0; kind = var_kind.Wire } ∷ [];
  inputs = [];
  outputs = [];
  processes = record { kind = kind.Assign; body = step.Set (target.Whole 0 ∷ []) (e.Var 0) ∷ [] } ∷ [];
}

-- all of variable 0 is read, and then all of it is set
abbrev its_paths : List Path
its_paths = (reads (record { var = 0; word = Some (pos 0); places = None } ∷ []) ∷ sets (target.Whole 0) ∷ []) ∷ []

loop_paths : paths_of wire_loop 0 ≡ its_paths
loop_paths = simp (step_folds, all_reads)

pub lies : IsTrue false → ⊥
lies h = cc

keeps_drivers : Keeps HasTwoDrivers wire_loop
keeps_drivers zero v f = omega (arith, f.less)
keeps_drivers (suc p) v f = lies f.driven

keeps_unmixed : Keeps IsMixed wire_loop
keeps_unmixed zero v f = elim f.kinds [ inl h ↦ lies h | inr h ↦ lies h.0 ]
keeps_unmixed (suc p) v f = lies f.deferred

keeps_private : Keeps IsNotPrivate wire_loop
keeps_private zero v f = lies f.kinds
keeps_private (suc p) v f = lies f.kinds

both : (x : Bool) → IsTrue ((x || false) || false) → ((x || false) && true) ≡ false → ⊥
both true h u = lies cc
both false h u = lies h

written : (b : Bit) → IsTrue (drives wire_loop 0 b) → always_writes wire_loop 0 b ≡ false → ⊥
written b h u = both (names_bit b (target.Whole 0))
    (subst (λ ps. IsTrue (list_any (list_any (event_drives b)) ps)) loop_paths h)
    (subst (λ ps. list_all (list_any (event_writes b)) ps ≡ false) loop_paths u)

keeps_latch : Keeps IsLatch wire_loop
keeps_latch zero v f = written f.kept f.driven f.unwritten
keeps_latch (suc p) v f = lies f.driven

keeps_order : Keeps IsReadBeforeWrite wire_loop
keeps_order zero v f = lies f.kinds
keeps_order (suc p) v f = lies f.driven

abbrev its_bit : Bit
its_bit = record { var = 0; word = 0; place = 0 }

leads : Leads wire_loop 0 0
leads = record {
  from = refl;
  to = refl;
  apart = inr refl;
  along = its_bit;
  here = record { of_variable = omega arith; of_word = omega arith; in_width = omega arith };
  driven = simp (step_folds, all_reads);
  read = simp (step_folds, all_reads);
}

pub loop_fault : IsFaultOf wire_loop (comb_loop (0 ∷ []))
loop_fault = (
  keeps_drivers,
  keeps_unmixed,
  keeps_private,
  keeps_latch,
  keeps_order,
  record { first = 0; circle = (refl, leads); least = λ q h c. omega (arith, h) },
)

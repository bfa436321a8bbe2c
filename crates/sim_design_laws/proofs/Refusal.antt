-- Two flaws of a text come to one refusal.
use Rattle.std.proofs.Common.{◌≡◌, ℕ, List, sym, ◌∙◌, ap}
use mathlib.Core.Logic.{inl, inr}
use Rattle.design_meaning.specs.FlowFaults.{Fault}
use Rattle.cvd_text.specs.Fault.{Flaw}
use Rattle.cvd_flaw_laws.proofs.Told.{one_told}
use Rattle.sim_answer.specs.Laws.{OneRefusal}
use Rattle.sim_answer.specs.Refusals.{design_refusal}

pub one_refusal : OneRefusal
one_refusal text name f g h k = elim (one_told text f g h k) [
  | inl same ↦ ap (design_refusal name) same
  | inr circles ↦ ap (design_refusal name) circles.0.1 ∙ sym (ap (design_refusal name) circles.1.1)
]

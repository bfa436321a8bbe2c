-- What walking through a design gives.
use Rattle.std.specs.Prelude.{ℕ, true, List, Result, Ok, Err}
use Rattle.vlog_tree.specs.declared.module.Module.{Module}
use Rattle.elab_types.specs.declared.elab_fault.ElabFault.{ElabFault}
use Rattle.scope_meaning.specs.Visits.{Visits}
use Rattle.scope_meaning.specs.ScopeTrees.{IsWalkOf}
use Rattle.walk_laws.specs.Stands.{AreCalm}
use Rattle.walk_state.specs.declared.record.Record.{Record}
use Rattle.walk_state.specs.Records.{AreRecorded}
use Rattle.walk_steps.specs.Steps.{IsRefused}

-- The walk is whole, nothing is refused on it, and the records are those of its visits.
pub record IsWhole (design : List Module) (top : List ℕ) (records : List Record) : Type 0 where
  pub vs : Visits
  pub walk : IsWalkOf design top vs true
  pub calm : AreCalm design vs
  pub recorded : AreRecorded vs records

-- That, or the design is refused.
abbrev pub HasWalked : List Module → List ℕ → Result (List Record) ElabFault → Type 0
HasWalked design top (Ok records) = IsWhole design top records
HasWalked design top (Err f) = IsRefused design top f

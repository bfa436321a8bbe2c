-- The parameters of a declaration so far.
use Rattle.std.specs.Prelude.{◌≡◌, ℕ, List, [], ◌∷◌, ◌++◌, map, Some, Result, Ok, Err}
use Rattle.scope_meaning.specs.Constants.{Constant}
use Rattle.scope_meaning.specs.Scope.{Frame}
use Rattle.scope_meaning.specs.ScopeTrees.{seen_constant}
use Rattle.elab_constants.specs.declared.names.ConstantValue.{ConstantValue}
use Rattle.elab_ranges.specs.declared.fault.RangeFault.{RangeFault}
use Rattle.elab_ranges.specs.declared.fault.RangeFault.TheVariants as fault
use Rattle.elab_ranges.specs.Parameters.{named}
use Rattle.elab_names.specs.declared.scope_names.ScopeNames.{ScopeNames}
use Rattle.elab_names.specs.Frames.{AreFrames}
use Rattle.elab_faults.proofs.Flaws.{sooner}
use Rattle.elab_parameters.specs.declared.found.Found.{Found}

-- In the innermost scope one constant more is known.
abbrev pub KnowsMore : Constant → List ScopeNames → List ScopeNames → Type 0
KnowsMore c old new = (f : Frame) (fs : List Frame) → AreFrames (f ∷ fs) old → AreFrames (record f { known = f.known ++ c ∷ [] } ∷ fs) new

-- what is found, and known, behind a parameter of a name that has this value, or in whose value this is wrong
abbrev pub Follows : List ℕ → Found → Result ConstantValue RangeFault → List ScopeNames → Found → List ScopeNames → Type 0
Follows name old (Ok v) before new behind =
    (new.flaw ≡ old.flaw) × (map seen_constant new.constants ≡ map seen_constant old.constants ++ named name v ∷ []) × KnowsMore (named name v) before behind
Follows name old (Err f) before new behind =
    (f ≡ fault.NoMemory → ⊥) × (new.flaw ≡ sooner old.flaw (Some f)) × (new.constants ≡ old.constants) × (behind ≡ before)

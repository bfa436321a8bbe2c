-- What combinational processes raise in a cycle.
use Rattle.std.specs.Prelude.{◌≡◌, ℕ, ◌+◌, ◌<◌, ◌≤◌, ◌^◌, List, length, flat_map, IsTrue, slice_index}
use Rattle.design_tree.specs.declared.design.Design.{Design}
use Rattle.circuit_run.specs.States.{State}
use Rattle.circuit_run.specs.Kinds.{is_comb}
use Rattle.circuit_run.specs.Circuits.{of_kind}
use Rattle.design_meaning.specs.Circuit.{circuit_of}
use Rattle.design_meaning.specs.Processes.{process_of, kind_of}
use Rattle.flat_design.specs.Effects.{room_of, room_of_all}
use Rattle.cycle_parts.specs.Raised.{Raised}
use Rattle.cycle_settle.specs.Settling.{kept_of}

-- what each combinational process raises on a settled state, in order
abbrev pub comb_raised : Design → State → List ℕ
comb_raised d s = flat_map (λ p. (p.run s).notes) (of_kind is_comb (circuit_of d))

-- of each combinational process no more is kept than one run raises at most
pub record AreFew (d : Design) (kept : List Raised) : Type 0 where
  pub as_many : length kept ≡ length d.processes
  pub few : (p : ℕ) → p < length d.processes → IsTrue (is_comb (kind_of d p)) → length (kept_of kept p).counters ≤ (room_of d (process_of d p)).counters

-- each counter can be raised so often
abbrev pub CanRaise : List ℕ → ℕ → Type 0
CanRaise counts n = (k : ℕ) → slice_index counts k + n < 2 ^ 64

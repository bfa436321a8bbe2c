-- The processes of a design by their kinds and numbers.
use Rattle.std.specs.Prelude.{ℕ, Bool, List, [], filter, slice_index_or}
use Rattle.cov_types.specs.declared.kind.ProcessKind.{ProcessKind}
use Rattle.cov_types.specs.declared.kind.ProcessKind.TheVariants as kind
use Rattle.design_tree.specs.declared.design.Process.{Process}
use Rattle.design_tree.specs.declared.design.Design.{Design}

-- the processes of some kinds, in order of their numbers
abbrev pub processes_that : (ProcessKind → Bool) → Design → List Process
processes_that test d = filter (λ p. test p.kind) d.processes

-- past the last number there is no process: one that does nothing
abbrev pub no_process : Process
no_process = record { kind = kind.Cover; body = [] }

-- a design's process by its number
abbrev pub process_of : Design → ℕ → Process
process_of d p = slice_index_or d.processes p no_process

abbrev pub kind_of : Design → ℕ → ProcessKind
kind_of d p = (process_of d p).kind

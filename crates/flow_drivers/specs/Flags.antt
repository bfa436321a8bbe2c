-- Private: one flag a variable.
use Rattle.std.specs.Prelude.{◌≡◌, ℕ, ◌<◌, Bool, true, false, ◌&&◌, List, All, IsTrue, length, slice_index_or}
use Rattle.cov_types.specs.declared.kind.ProcessKind.{ProcessKind}
use Rattle.cov_types.specs.declared.kind.ProcessKind.TheVariants as kind
use Rattle.flow_marks.specs.declared.span.Span.{Span}
use Rattle.flow_uses.specs.declared.uses.Uses.{Uses}
use Rattle.flow_uses.specs.Uses.{has_var}

-- no flag is set
abbrev pub AreClear : List Bool → Type 0
AreClear flags = (v : ℕ) → slice_index_or flags v false ≡ false

-- all variables of a process are below a number
pub record AreWithin (n : ℕ) (u : Uses) : Type 0 where
  pub reads : All (λ (s : Span). s.var < n) u.reads
  pub sets : All (λ (s : Span). s.var < n) u.sets
  pub defers : All (λ (s : Span). s.var < n) u.defers

-- a process of such a kind may not assign the variable as it does
abbrev pub IsMixedIn : ProcessKind → Uses → ℕ → Type 0
IsMixedIn kind.Comb u v = IsTrue (has_var u.defers v)
IsMixedIn kind.Clocked u v = IsTrue (has_var u.defers v && has_var u.sets v)
IsMixedIn kind.Assign u v = ⊥
IsMixedIn kind.Initial u v = ⊥
IsMixedIn kind.Cover u v = ⊥

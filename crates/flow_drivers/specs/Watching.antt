-- Private: which processes see a variable.
use Rattle.std.specs.Prelude.{◌≡◌, ◌≢◌, ℕ, ◌<◌, ◌==◌, ◌⊎◌, Bool, true, false, not, ◌&&◌, ◌||◌, if◌then◌else◌, nat_lt, List, IsTrue, length, slice_index_or}
use Rattle.std.specs.List.{list_any}
use Rattle.cov_types.specs.declared.kind.ProcessKind.{ProcessKind}
use Rattle.cov_types.specs.declared.kind.ProcessKind.TheVariants as kind
use Rattle.design_tree.specs.declared.design.Design.{Design}
use Rattle.circuit_run.specs.States.{Bit}
use Rattle.circuit_run.specs.Kinds.{is_initial}
use Rattle.design_meaning.specs.States.{IsBitOf}
use Rattle.design_meaning.specs.Processes.{kind_of}
use Rattle.design_meaning.specs.Reach.{reads_bit, sets_var, defers_var}
use Rattle.flow_marks.specs.declared.span.Span.{Span}
use Rattle.flow_uses.specs.declared.uses.Uses.{Uses}
use Rattle.flow_uses.specs.Uses.{has_var}
use Rattle.flow_drivers.specs.declared.watch.Watch.{Watch}
use Rattle.flow_drivers.specs.declared.watch.Watch.TheVariants as watch

abbrev pub no_watch : Watch
no_watch = watch.Nobody

abbrev pub with_process : Watch → ℕ → Watch
with_process watch.Nobody p = watch.One p
with_process (watch.One q) p = if q == p then watch.One q else watch.Several
with_process watch.Several p = watch.Several

abbrev pub seen_by_other : Watch → ℕ → Bool
seen_by_other watch.Nobody p = false
seen_by_other (watch.One q) p = not (q == p)
seen_by_other watch.Several p = true

-- a bit of the variable lies in one of the spans
abbrev pub has_read_var : List Span → ℕ → Bool
has_read_var spans v = list_any (λ (s : Span). s.var == v && nat_lt s.place s.place_end) spans

-- a process reads a bit of the variable or writes it
abbrev pub touches : Uses → ℕ → Bool
touches u v = (has_read_var u.reads v || has_var u.sets v) || has_var u.defers v

-- the watches after a process was noted
pub record HasWatched (old new : List Watch) (u : Uses) (p : ℕ) : Type 0 where
  pub many : length new ≡ length old
  pub each : (v : ℕ) → slice_index_or new v no_watch ≡ (if touches u v then with_process (slice_index_or old v no_watch) p else slice_index_or old v no_watch)

-- an output, or seen by another process than this one
abbrev pub is_seen : List Watch → List Bool → ℕ → ℕ → Bool
is_seen watches outputs p v = slice_index_or outputs v false || seen_by_other (slice_index_or watches v no_watch) p

-- a process of such a kind may not write the variable at once
abbrev pub IsSeenIn : ProcessKind → Uses → List Watch → List Bool → ℕ → ℕ → Type 0
IsSeenIn kind.Clocked u watches outputs p v = IsTrue (has_var u.sets v && is_seen watches outputs p v)
IsSeenIn kind.Assign u watches outputs p v = ⊥
IsSeenIn kind.Comb u watches outputs p v = ⊥
IsSeenIn kind.Initial u watches outputs p v = ⊥
IsSeenIn kind.Cover u watches outputs p v = ⊥

-- a process that isn't initial reads a bit of the variable or writes it
pub record IsToucher (d : Design) (v q : ℕ) : Type 0 where
  pub kinds : is_initial (kind_of d q) ≡ false
  pub touched : ((b : Bit) × IsBitOf d b × (b.var ≡ v) × IsTrue (reads_bit d q b)) ⊎ IsTrue (sets_var d q v || defers_var d q v)

-- what a watch says of the processes that see the variable
abbrev pub IsWatch : (ℕ → Type 0) → Watch → Type 0
IsWatch T watch.Nobody = (q : ℕ) → T q → ⊥
IsWatch T (watch.One q) = T q × ((r : ℕ) → T r → r ≡ q)
IsWatch T watch.Several = (q : ℕ) × (r : ℕ) × (q ≢ r) × T q × T r

-- one of the processes before that of a number
pub record IsToucherBefore (d : Design) (p v q : ℕ) : Type 0 where
  pub before : q < p
  pub is : IsToucher d v q

pub record AreWatched (d : Design) (p : ℕ) (watches : List Watch) : Type 0 where
  pub many : length watches ≡ length d.vars
  pub each : (v : ℕ) → v < length d.vars → IsWatch (IsToucherBefore d p v) (slice_index_or watches v no_watch)

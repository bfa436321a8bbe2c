-- A variable by its number.
use Rattle.std.proofs.Common.{◌≡◌, ℕ, ◌<◌, true, List, length, Some, ◌∙◌, ap, arith, slice_get}
use Rattle.std.specs.Prelude.{◌&&◌, nat_lt}
use Rattle.std.specs.List.{slice_index_or}
use Rattle.std.proofs.lemmas.Bool.Decides.{nat_tests}
use Rattle.std.proofs.lemmas.Option.{slice_get_within, get_or_from_slice_get}
use Rattle.cov_types.specs.declared.kind.VarKind.{VarKind}
use Rattle.cov_types.specs.declared.var.Var.{Var}
use Rattle.circuit_run.specs.States.{no_var}
use Rattle.design_tree.specs.declared.design.Design.{Design}
use Rattle.design_tree.specs.declared.instrumented.ToggleEntry.{ToggleEntry}
use Rattle.cvd_text.specs.Sections.{has_bit}

within : (a b : ℕ) → a < b → nat_lt a b ≡ true
within a b h = grind (arith, nat_tests)

pub variable_is : (vars : List Var) (v : ℕ) (x : Var) → slice_get vars v ≡ Some x → slice_index_or vars v no_var ≡ x
variable_is vars v x h = get_or_from_slice_get vars v x no_var h

pub variable_there : (vars : List Var) (v : ℕ) (x : Var) → slice_get vars v ≡ Some x → nat_lt v (length vars) ≡ true
variable_there vars v x h = within v (length vars) (slice_get_within vars v x h)

-- a bit lies in a variable that is there by its word and its place
pub bit_alike : (d : Design) (t : ToggleEntry) (x : Var) → slice_get d.vars t.var ≡ Some x → has_bit d t ≡ (nat_lt t.word x.words && nat_lt t.bit x.width)
bit_alike d t x h =
    ap (λ b. b && nat_lt t.word (slice_index_or d.vars t.var no_var).words && nat_lt t.bit (slice_index_or d.vars t.var no_var).width)
    (variable_there d.vars t.var x h)
    ∙ ap (λ (v : Var). nat_lt t.word v.words && nat_lt t.bit v.width) (variable_is d.vars t.var x h)

-- values are the same where their parts are
abbrev pub toggle_by : ℕ → ℕ → ℕ → ℕ → ToggleEntry
toggle_by a b c d = record { var = a; word = b; bit = c; counter = d }

pub toggle_same : (a b c d : ℕ) (t : ToggleEntry) → a ≡ t.var → b ≡ t.word → c ≡ t.bit → d ≡ t.counter → toggle_by a b c d ≡ t
toggle_same a b c d t e f g h =
    ap (λ x. toggle_by x b c d) e ∙ ap (λ x. toggle_by t.var x c d) f ∙ ap (λ x. toggle_by t.var t.word x d) g ∙ ap (toggle_by t.var t.word t.bit) h

abbrev pub var_by : ℕ → ℕ → ℕ → VarKind → Var
var_by a b c k = record { width = a; words = b; start = c; kind = k }

pub var_same : (a b c : ℕ) (k : VarKind) (v : Var) → a ≡ v.width → b ≡ v.words → c ≡ v.start → k ≡ v.kind → var_by a b c k ≡ v
var_same a b c k v e f g h =
    ap (λ x. var_by x b c k) e ∙ ap (λ x. var_by v.width x c k) f ∙ ap (λ x. var_by v.width v.words x k) g ∙ ap (var_by v.width v.words v.start) h

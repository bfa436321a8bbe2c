-- Faults with their place, and what places have nothing in them (docs/formats.md, "Refusals of a design").
use Rattle.std.specs.Prelude.{Bool, true, false, ◌≡◌, if◌then◌else◌, ℕ, not, ◌||◌, List, map, Result, Ok, Err}
use Rattle.std.specs.List.{filter_map}
use Rattle.std.specs.Str.{bytes_eq}
use Rattle.scope_meaning.specs.Scope.{Frame, is_free_genvar, meaning_of}
use Rattle.cov_types.specs.declared.limit.LimitName.TheVariants as limit
use Rattle.cov_types.specs.declared.place.Place.{Place}
use Rattle.vlog_tree.specs.declared.item.ItemKind.TheOpen as i
use Rattle.vlog_tree.specs.Trees.{Layer}
use Rattle.elab_types.specs.declared.elab_fault.ElabFault.{ElabFault}
use Rattle.elab_ranges.specs.declared.fault.RangeFault.{RangeFault}
use Rattle.elab_types.specs.declared.elab_fault.ElabFault.TheVariants as fault
use Rattle.vlog_tree.specs.declared.expression.RangeExpr.{RangeExpr}
use Rattle.vlog_tree.specs.declared.item.RegName.{RegName}
use Rattle.scope_meaning.specs.Constants.{Names}
use Rattle.scope_meaning.specs.Wanted.{want}
use Rattle.elab_faults.specs.Flaws.{Flaws, both_flaws, vector_flaws, memory_flaws, flaws_in}
use Rattle.elab_faults.specs.Judged.{fault_at}

abbrev pub at_place : {A : Type 0} → Place → Result A RangeFault → Result A ElabFault
at_place p (Ok a) = Ok a
at_place p (Err f) = Err (fault_at p f)

-- an item with no expression that has to be a constant, no range, no loop and no instance
abbrev pub has_nothing : Layer → Bool
has_nothing (i.Integer names) = true
has_nothing (i.Genvar names) = true
has_nothing (i.Assign parts) = true
has_nothing (i.Initial body) = true
has_nothing (i.Always clock body) = true
has_nothing (i.Cover word label clock test) = true
has_nothing _ = false

-- of a declaration of regs: of its range, its memories and its starts
abbrev pub reg_flaws : Names → List RangeExpr → List RegName → Flaws
reg_flaws known range regs =
    both_flaws (vector_flaws known range)
    (both_flaws (memory_flaws known (filter_map (λ r. r.words) regs)) (flaws_in (map (want known) (filter_map (λ r. r.start) regs))))

-- too large memories are refused
abbrev pub limited : Result Bool ElabFault → Result (Unit {0}) ElabFault
limited (Ok large) = if large then Err (fault.Limit limit.MemoryWords) else Ok tt
limited (Err f) = Err f

-- the names of a head aren't one genvar without a value
abbrev pub is_bad_head : List Frame → List ℕ → List ℕ → Bool
is_bad_head fs name step_name = not (bytes_eq name step_name) || not (is_free_genvar (meaning_of fs name))

-- such heads are refused
abbrev pub checked : {A : Type 0} → Place → Result A ElabFault → Bool → Result A ElabFault
checked p (Ok n) is_bad = if is_bad then Err (fault.BadGenvar p) else Ok n
checked p (Err f) is_bad = Err f

-- it is what was asked for, want of memory aside
abbrev pub IsStored : {A : Type 0} → (A → Type 0) → Result A ElabFault → Type 0
IsStored is (Ok a) = is a
IsStored is (Err f) = f ≡ fault.NoMemory

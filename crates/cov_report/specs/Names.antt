-- Private: the two faults of names, one after the other.
use Rattle.std.specs.Prelude.{ℕ, Bool, List, Option, None, Some, option_map, if◌then◌else◌}
use Rattle.std.specs.Borrow.{Bor}
use Rattle.std.specs.Ordering.{nat_cmp}
use Rattle.std.specs.Cmp.Lexicographic.{slice_cmp}
use Rattle.std.specs.declared.cmp.Ordering.{Ordering}
use Rattle.report_text.specs.FileNames.{bad_file_name, same_base_name}
use Rattle.report_text.specs.Faults.{name_fault}
use Rattle.report_text.specs.declared.report_fault.ReportFault.{ReportFault}
use Rattle.report_text.specs.declared.report_fault.ReportFault.TheVariants as fault

abbrev pub bad_name_fault : List (List ℕ) → Option ReportFault
bad_name_fault names = option_map fault.BadFileName (bad_file_name names)

abbrev pub same_name_fault : List (List ℕ) → Option ReportFault
same_name_fault names = option_map fault.SameBaseName (same_base_name names)

-- the faults of one name
abbrev pub bad_name_of : List ℕ → Option ReportFault
bad_name_of name = Some (fault.BadFileName name)

abbrev pub same_name_of : List ℕ → Option ReportFault
same_name_of name = Some (fault.SameBaseName name)

-- borrowed texts in the order of their bytes
abbrev pub by_bytes : Bor (List ℕ) → Bor (List ℕ) → Ordering
by_bytes a b = slice_cmp nat_cmp a.now b.now

-- the fault of names, where files are to be annotated
abbrev pub name_fault_if : Bool → List (List ℕ) → Option ReportFault
name_fault_if annotate names = if annotate then name_fault names else None

-- Why a report isn't made, in the order in which faults come (docs/formats.md, "Annotated files").
use Rattle.std.specs.Prelude.{◌≡◌, ℕ, nat_lt, List, Option, None, Some, option_map, if◌then◌else◌}
use Rattle.cov_dat.specs.Merging.{Counts}
use Rattle.cov_types.specs.declared.limit.LimitName.TheVariants.{LineEntries}
use Rattle.report_text.specs.Items.{bad_key_line, line_entries}
use Rattle.report_text.specs.FileNames.{annotated_files, bad_file_name, same_base_name}
use Rattle.report_text.specs.declared.options.ReportOptions.{ReportOptions}
use Rattle.report_text.specs.declared.report_fault.ReportFault.{ReportFault}
use Rattle.report_text.specs.declared.report_fault.ReportFault.TheVariants as fault

-- the first of two faults, if there is one
abbrev pub or_then : Option ReportFault → Option ReportFault → Option ReportFault
or_then None later = later
or_then (Some fault) later = Some fault

-- lines past the limit
abbrev pub limit_fault : Counts → Option ReportFault
limit_fault counts = if nat_lt 67108864 (line_entries counts) then Some (fault.Limit LineEntries) else None

-- counts of which no table is made: a badly placed key comes before the limit
abbrev pub table_fault : Counts → Option ReportFault
table_fault counts = or_then (option_map fault.BadKeyLine (bad_key_line counts)) (limit_fault counts)

-- files that can't be annotated together: a bad name comes before two of one base name
abbrev pub name_fault : List (List ℕ) → Option ReportFault
name_fault files = or_then (option_map fault.BadFileName (bad_file_name files)) (option_map fault.SameBaseName (same_base_name files))

-- what is wrong with counts under options: names matter only where files are annotated
abbrev pub prepare_fault : ReportOptions → Counts → Option ReportFault
prepare_fault options counts =
    or_then (table_fault counts) (if options.annotate then name_fault (annotated_files options.all options.min counts) else None)

-- a fault is the expected one, or memory was wanted
abbrev pub TellsFault : Option ReportFault → ReportFault → Type 0
TellsFault expected fault.NoMemory = Unit {0}
TellsFault expected (fault.BadKeyLine file) = expected ≡ Some (fault.BadKeyLine file)
TellsFault expected (fault.BadFileName file) = expected ≡ Some (fault.BadFileName file)
TellsFault expected (fault.SameBaseName file) = expected ≡ Some (fault.SameBaseName file)
TellsFault expected (fault.ShortSource lines) = expected ≡ Some (fault.ShortSource lines)
TellsFault expected (fault.Limit name) = expected ≡ Some (fault.Limit name)

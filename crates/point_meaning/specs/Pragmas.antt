-- Coverage comments that turn points off from a place on (Verilator User's Guide, configuration in comments; the exact
-- reach is this project's own).
use Rattle.std.specs.Prelude.{◌&&◌, not, Bool, true, false, List, [], Option, Some, None, slice_get}
use Rattle.std.specs.List.{list_any}
use Rattle.cov_types.specs.declared.place.Place.{Place}
use Rattle.cov_types.specs.declared.pragma.Pragma.{Pragma}
use Rattle.cov_types.specs.declared.pragma.PragmaKind.{PragmaKind}
use Rattle.cov_types.specs.declared.pragma.PragmaKind.TheVariants as pragma
use Rattle.vlog_tree.specs.declared.module.SourceFile.{SourceFile}
use Rattle.vlog_tree.specs.Blocks.{is_before}

-- a `coverage_off`
abbrev pub is_off_pragma : PragmaKind → Bool
is_off_pragma pragma.Off = true
is_off_pragma _ = false

-- a `coverage_on`
abbrev pub is_on_pragma : PragmaKind → Bool
is_on_pragma pragma.On = true
is_on_pragma _ = false

-- a `coverage_on` stands between two places
abbrev pub is_on_between : List Pragma → Place → Place → Bool
is_on_between all from to = list_any (λ on. is_on_pragma on.what && is_before from on.place && is_before on.place to) all

-- a place is off where it stands after a `coverage_off` of its file and no `coverage_on` stands between
abbrev pub is_switched_off : List Pragma → Place → Bool
is_switched_off all place =
    list_any (λ off. is_off_pragma off.what && is_before off.place place && not (is_on_between all off.place place)) all

-- the coverage comments of one of the files
abbrev pub pragmas_of : Option SourceFile → List Pragma
pragmas_of None = []
pragmas_of (Some file) = file.pragmas

-- the place is switched off by the coverage comments of its file
abbrev pub is_off_from : List SourceFile → Place → Bool
is_off_from files place = is_switched_off (pragmas_of (slice_get files place.file)) place

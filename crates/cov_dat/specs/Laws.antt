-- Laws of merging.
use Rattle.std.specs.Prelude.{◌≡◌, ℕ, List, [], ◌∷◌, ◌++◌, None, IsPermutation}
use Rattle.std.specs.List.{flat_map}
use Rattle.cov_dat.specs.Merging.{Counts, added, limit_passed, merged}
use Rattle.cov_dat.specs.DataText.{count_map}
use Rattle.cov_port.specs.Lines.{lines_of}
use Rattle.cov_dat.specs.Reading.{lines_say, reading, reading_of}
use Rattle.cov_dat.specs.declared.record_list.Record.{Record}

-- a text reads line by line: each line says what it says by its number and the bytes of the lines up to it
abbrev pub ReadsByLines : Type 0
ReadsByLines = (text : List ℕ) → reading text ≡ reading_of (lines_say (lines_of text))

-- one record more is one addition more
abbrev pub AddsOneByOne : Type 0
AddsOneByOne = (rs : List Record) (r : Record) → merged (rs ++ r ∷ []) ≡ added (merged rs) r.key r.count

-- two additions in either order give the same map, whatever stood before
abbrev pub AdditionsInAnyOrder : Type 0
AdditionsInAnyOrder = (counts : Counts) (j k : List ℕ) (m n : ℕ) → count_map (added (added counts j m) k n) ≡ count_map (added (added counts k n) j m)

-- records in another order merge to the same map
abbrev pub InAnyOrder : Type 0
InAnyOrder = (rs qs : List Record) → IsPermutation rs qs → count_map (merged rs) ≡ count_map (merged qs)

-- the records of one file after the other
abbrev pub all_records : List (List Record) → List Record
all_records files = flat_map (λ records. records) files

-- files in another order merge to the same map
abbrev pub FilesInAnyOrder : Type 0
FilesInAnyOrder = (fs gs : List (List Record)) → IsPermutation fs gs → count_map (merged (all_records fs)) ≡ count_map (merged (all_records gs))

-- files in another order pass the same limit
abbrev pub LimitsInAnyOrder : Type 0
LimitsInAnyOrder = (fs gs : List (List Record)) → IsPermutation fs gs → limit_passed (merged (all_records fs)) ≡ limit_passed (merged (all_records gs))

-- records pass no limit that they don't pass with further ones
abbrev pub LimitsStay : Type 0
LimitsStay = (rs qs : List Record) → limit_passed (merged (rs ++ qs)) ≡ None → limit_passed (merged rs) ≡ None

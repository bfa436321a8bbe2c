-- A few points with what their counters come to, their data file and its room.
use Rattle.std.specs.Prelude.{◌≡◌, ℕ, List, [], ◌∷◌, ◌++◌, codes, refl}
use Rattle.std.specs.Fmt.{digits}
use Rattle.cov_dat.specs.DataText.{lines_text}
use Rattle.design_tree.specs.declared.instrumented.PointRow.{PointRow}
use Rattle.design_tree.specs.declared.instrumented.Instrumented.{Instrumented}
use Rattle.design_meaning.specs.Runs.{point_counts}
use Rattle.data_image.specs.PointText.{counts_of, room_of}

-- counters 0, 1 and 0 again, less counter 1
abbrev repeated : PointRow
repeated = record { plus = 0 ∷ 1 ∷ 0 ∷ []; minus = 1 ∷ []; key = codes "a" }

-- counter 1 less counter 0
abbrev negative : PointRow
negative = record { plus = 1 ∷ []; minus = 0 ∷ []; key = codes "bc" }

abbrev rows : List PointRow
rows = repeated ∷ negative ∷ []

-- the first two lines of the file are those of the header and of the point `a`
abbrev file_with : List ℕ → List ℕ
file_with count = codes "# SystemC::Coverage-3" ++ 10 ∷ [] ++ codes "C 'a' " ++ count ++ 10 ∷ [] ++ codes "C 'bc' 0" ++ 10 ∷ []

-- counters of 5 and 1 in 64 bits, and in 2
in_64_bits : lines_text (counts_of 64 (5 ∷ 1 ∷ []) rows) ≡ file_with (codes "10")
unfolding digits
in_64_bits = refl

in_2_bits : lines_text (counts_of 2 (5 ∷ 1 ∷ []) rows) ≡ file_with (codes "3")
unfolding digits
in_2_bits = refl

-- header 22, lines 27 and 28
room : room_of rows ≡ 77
unfolding digits
room = refl

-- of a design's points these are the counts that its runs are defined by
as_of_runs : (x : Instrumented) (bits : ℕ) (counters : List ℕ) → point_counts x bits counters ≡ counts_of bits counters x.points
as_of_runs x bits counters = refl

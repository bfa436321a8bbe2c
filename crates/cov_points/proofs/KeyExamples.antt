-- The keys of a counter with reset, and some line lists, by computation.
use Rattle.std.specs.Prelude.{◌≡◌, ℕ, List, [], ◌∷◌, codes, refl}
use Rattle.std.specs.Fmt.{digits}
use Rattle.cov_types.specs.declared.line_range.LineRange.{LineRange}
use Rattle.cov_points.specs.declared.point.Point.{Point}
use Rattle.cov_points.specs.declared.point.PointKind.{PointKind}
use Rattle.cov_points.specs.declared.point.PointKind.TheVariants as kind
use Rattle.cov_types.specs.LineLists.{lines_text}
use Rattle.cov_points.specs.KeyText.{key_text}

-- the lines from one number to another
abbrev pub run : ℕ → ℕ → LineRange
run from to = record { from = from; to = to }

one_line : lines_text (run 7 7 ∷ []) ≡ codes "7"
unfolding digits
one_line = refl

some_lines : lines_text (run 3 4 ∷ run 6 6 ∷ run 9 12 ∷ []) ≡ codes "3-4,6,9-12"
unfolding digits
some_lines = refl

-- a point of the module `c` of the file `c.v`
abbrev pub point : ℕ → ℕ → PointKind → List ℕ → List LineRange → Point
point line column k comment lines = record {
  place = record { file = 0; line = line; column = column };
  kind = k;
  «module» = codes "c";
  comment = comment;
  lines = lines;
  hier = codes "c";
}

abbrev pub names : List (List ℕ)
names = codes "c.v" ∷ []

rst : key_text names (point 1 28 kind.Toggle (codes "rst") (run 1 1 ∷ []))
    ≡ codes "\u{1}f\u{2}c.v\u{1}l\u{2}1\u{1}n\u{2}28\u{1}t\u{2}toggle\u{1}page\u{2}v_toggle/c\u{1}o\u{2}rst\u{1}S\u{2}1\u{1}h\u{2}c"
unfolding digits
rst = refl

a : key_text names (point 1 39 kind.Toggle (codes "a") (run 1 1 ∷ []))
    ≡ codes "\u{1}f\u{2}c.v\u{1}l\u{2}1\u{1}n\u{2}39\u{1}t\u{2}toggle\u{1}page\u{2}v_toggle/c\u{1}o\u{2}a\u{1}S\u{2}1\u{1}h\u{2}c"
unfolding digits
a = refl

low_bit : key_text names (point 1 59 kind.Toggle (codes "q[0]") (run 1 1 ∷ []))
    ≡ codes "\u{1}f\u{2}c.v\u{1}l\u{2}1\u{1}n\u{2}59\u{1}t\u{2}toggle\u{1}page\u{2}v_toggle/c\u{1}o\u{2}q[0]\u{1}S\u{2}1\u{1}h\u{2}c"
unfolding digits
low_bit = refl

block : key_text names (point 2 3 kind.Line (codes "block") (run 2 3 ∷ []))
    ≡ codes "\u{1}f\u{2}c.v\u{1}l\u{2}2\u{1}n\u{2}3\u{1}t\u{2}line\u{1}page\u{2}v_line/c\u{1}o\u{2}block\u{1}S\u{2}2-3\u{1}h\u{2}c"
unfolding digits
block = refl

outer_else : key_text names (point 3 5 kind.Branch (codes "else") (run 3 4 ∷ []))
    ≡ codes "\u{1}f\u{2}c.v\u{1}l\u{2}3\u{1}n\u{2}5\u{1}t\u{2}branch\u{1}page\u{2}v_branch/c\u{1}o\u{2}else\u{1}S\u{2}3-4\u{1}h\u{2}c"
unfolding digits
outer_else = refl

inner_if : key_text names (point 4 10 kind.Branch (codes "if") (run 4 4 ∷ []))
    ≡ codes "\u{1}f\u{2}c.v\u{1}l\u{2}4\u{1}n\u{2}10\u{1}t\u{2}branch\u{1}page\u{2}v_branch/c\u{1}o\u{2}if\u{1}S\u{2}4\u{1}h\u{2}c"
unfolding digits
inner_if = refl

high_bit : key_text names (point 1 59 kind.Toggle (codes "q[1]") (run 1 1 ∷ []))
    ≡ codes "\u{1}f\u{2}c.v\u{1}l\u{2}1\u{1}n\u{2}59\u{1}t\u{2}toggle\u{1}page\u{2}v_toggle/c\u{1}o\u{2}q[1]\u{1}S\u{2}1\u{1}h\u{2}c"
unfolding digits
high_bit = refl

outer_if : key_text names (point 3 5 kind.Branch (codes "if") (run 3 3 ∷ []))
    ≡ codes "\u{1}f\u{2}c.v\u{1}l\u{2}3\u{1}n\u{2}5\u{1}t\u{2}branch\u{1}page\u{2}v_branch/c\u{1}o\u{2}if\u{1}S\u{2}3\u{1}h\u{2}c"
unfolding digits
outer_if = refl

inner_else : key_text names (point 4 10 kind.Branch (codes "else") (run 4 4 ∷ []))
    ≡ codes "\u{1}f\u{2}c.v\u{1}l\u{2}4\u{1}n\u{2}10\u{1}t\u{2}branch\u{1}page\u{2}v_branch/c\u{1}o\u{2}else\u{1}S\u{2}4\u{1}h\u{2}c"
unfolding digits
inner_else = refl

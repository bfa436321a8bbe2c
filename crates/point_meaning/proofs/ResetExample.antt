-- The data file of a run of a counter with reset, by computation:
--
--     module c (input clk, input rst, input a, output reg [1:0] q);
--       always @(posedge clk)
--         if (rst) q <= 0;
--         else if (a) q <= q + 1;
--     endmodule
--
-- rst and a are 1 0, then 0 1 twice, then 0 0.
use Rattle.std.specs.Prelude.{◌≡◌, ℕ, true, false, List, [], ◌∷◌, ◌++◌, map, codes, refl}
use Rattle.std.specs.Fmt.{digits}
use Rattle.cov_types.specs.declared.place.Place.{Place}
use Rattle.cov_points.specs.declared.options.CoverOptions.{CoverOptions}
use Rattle.cov_points.specs.declared.point.Point.{Point}
use Rattle.cov_points.specs.declared.point.PointKind.{PointKind}
use Rattle.cov_points.specs.declared.point.PointKind.TheVariants as kind
use Rattle.circuit_run.specs.States.{State}
use Rattle.source_meaning.specs.Events.{Event}
use Rattle.source_meaning.specs.Events as event
use Rattle.point_meaning.specs.Source.{Source, Variable}
use Rattle.point_meaning.specs.Occurrences.{Counted}
use Rattle.point_meaning.specs.RunData.{counts_of}
use Rattle.point_meaning.proofs.PragmaExamples.{at, scalar}

abbrev pub all_points : CoverOptions
all_points = record { line = true; toggle = true; user = true; underscore = false; max_width = 256 }

abbrev pub vector : Variable
vector = record {
  scope = 0;
  name = codes "q";
  place = at 1 59;
  width = 2;
  low = 0;
  vector = true;
  integer = false;
  words = 1;
  word_low = 0;
  memory = false;
}

abbrev pub reset_source : Source
reset_source = record {
  files = [];
  scopes = record { path = codes "c"; module_text = codes "c" } ∷ [];
  variables = scalar (codes "rst") (at 1 28) ∷ scalar (codes "a") (at 1 39) ∷ vector ∷ [];
  copies = [];
}

-- ---- the run

abbrev pub entered : Place → event.Arm → Event
entered place arm = record { scope = 0; place = place; arm = arm }

-- the body, the outer else, and an arm of the inner `if`
abbrev pub not_reset : event.Arm → List Event
not_reset arm = entered (at 2 3) event.body ∷ entered (at 3 5) event.no_arm ∷ entered (at 4 10) arm ∷ []

abbrev pub holds : ℕ → ℕ → ℕ → State
holds rst a q = record { width = 1; words = rst ∷ [] } ∷ record { width = 1; words = a ∷ [] } ∷ record { width = 2; words = q ∷ [] } ∷ []

abbrev pub reset_run : Counted
reset_run = record {
  trace = (entered (at 2 3) event.body ∷ entered (at 3 5) event.yes_arm ∷ [])
      ++ not_reset event.yes_arm ++ not_reset event.yes_arm ++ not_reset event.no_arm;
  settled = holds 1 0 0 ∷ holds 0 1 0 ∷ holds 0 1 1 ∷ holds 0 0 2 ∷ [];
}

-- ---- the points, in any order

abbrev pub point : PointKind → Place → List ℕ → ℕ → ℕ → Point
point k place comment from to = record {
  place = place;
  kind = k;
  «module» = codes "c";
  comment = comment;
  lines = record { from = from; to = to } ∷ [];
  hier = codes "c";
}

abbrev pub points : List Point
points =
    point kind.Line (at 2 3) (codes "block") 2 3
    ∷ point kind.Branch (at 3 5) (codes "if") 3 3
    ∷ point kind.Branch (at 3 5) (codes "else") 3 4
    ∷ point kind.Branch (at 4 10) (codes "if") 4 4
    ∷ point kind.Branch (at 4 10) (codes "else") 4 4
    ∷ point kind.Toggle (at 1 28) (codes "rst") 1 1
    ∷ point kind.Toggle (at 1 39) (codes "a") 1 1
    ∷ point kind.Toggle (at 1 59) (codes "q[0]") 1 1
    ∷ point kind.Toggle (at 1 59) (codes "q[1]") 1 1
    ∷ []

-- the counts, in this order: the block 4, the outer arms 1 and 3, the inner ones 2 and 1, the bits 1, 2, 2 and 1
counts : map (λ e. e.1) (counts_of reset_source all_points (codes "c.v" ∷ []) points 64 reset_run)
    ≡ 4 ∷ 1 ∷ 3 ∷ 2 ∷ 1 ∷ 1 ∷ 2 ∷ 2 ∷ 1 ∷ []
unfolding digits
counts = refl

-- at two bits the greatest count is 3
counts_in_two_bits : map (λ e. e.1) (counts_of reset_source all_points (codes "c.v" ∷ []) points 2 reset_run)
    ≡ 3 ∷ 1 ∷ 3 ∷ 2 ∷ 1 ∷ 1 ∷ 2 ∷ 2 ∷ 1 ∷ []
unfolding digits
counts_in_two_bits = refl

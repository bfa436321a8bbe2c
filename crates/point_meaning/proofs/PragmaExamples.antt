-- Coverage comments of a module whose arms are turned off in three ways, by computation:
--
--     module p (input clk, input a, input _x);
--       reg [7:0] m [0:32];
--       reg [7:0] n [0:31];
--       always @(posedge clk) begin
--         if (a)
--           /*verilator coverage_off*/ n[0] <= 1; /*verilator coverage_on*/
--         else begin /*verilator coverage_block_off*/ n[1] <= 1; end
--         if (_x) $stop;
--       end
--     endmodule
use Rattle.std.specs.Prelude.{◌≡◌, ℕ, true, false, List, [], ◌∷◌, codes, refl}
use Rattle.cov_types.specs.declared.place.Place.{Place}
use Rattle.cov_types.specs.declared.pragma.Pragma.{Pragma}
use Rattle.cov_types.specs.declared.pragma.PragmaKind.TheVariants as pragma
use Rattle.cov_points.specs.declared.options.CoverOptions.{CoverOptions}
use Rattle.point_meaning.specs.Pragmas.{is_switched_off}
use Rattle.point_meaning.specs.Source.{Variable}
use Rattle.point_meaning.specs.Bits.{has_toggles, bit_comment}
use Rattle.std.specs.Fmt.{digits}

abbrev pub at : ℕ → ℕ → Place
at line column = record { file = 0; line = line; column = column }

abbrev pub pragmas : List Pragma
pragmas =
    record { place = at 6 7; what = pragma.Off }
    ∷ record { place = at 6 45; what = pragma.On }
    ∷ record { place = at 7 16; what = pragma.BlockOff }
    ∷ []

-- the yes arm is reached at its statement, behind `coverage_off`
yes_arm : is_switched_off pragmas (at 6 34) ≡ true
yes_arm = refl

-- the else arm is reached at its `begin`, behind `coverage_on`
else_arm : is_switched_off pragmas (at 7 10) ≡ false
else_arm = refl

body : is_switched_off pragmas (at 4 3) ≡ false
body = refl

-- a second `coverage_off` isn't ended by a `coverage_on` that stands before it
off_again : is_switched_off (record { place = at 9 1; what = pragma.Off } ∷ pragmas) (at 9 2) ≡ true
off_again = refl

-- ---- which bits have points

abbrev pub options : ℕ → CoverOptions
options width = record { line = true; toggle = true; user = true; underscore = false; max_width = width }

abbrev pub with_underscore : CoverOptions
with_underscore = record { line = true; toggle = true; user = true; underscore = true; max_width = 256 }

abbrev pub scalar : List ℕ → Place → Variable
scalar name place = record {
  scope = 0;
  name = name;
  place = place;
  width = 1;
  low = 0;
  vector = false;
  integer = false;
  words = 1;
  word_low = 0;
  memory = false;
}

abbrev pub memory : List ℕ → Place → ℕ → Variable
memory name place words = record {
  scope = 0;
  name = name;
  place = place;
  width = 8;
  low = 0;
  vector = true;
  integer = false;
  words = words;
  word_low = 0;
  memory = true;
}

an_input : has_toggles (options 256) (scalar (codes "a") (at 1 28)) ≡ true
an_input = refl

underscored : has_toggles (options 256) (scalar (codes "_x") (at 1 37)) ≡ false
underscored = refl

asked_for : has_toggles with_underscore (scalar (codes "_x") (at 1 37)) ≡ true
asked_for = refl

-- 32 words of 8 bits are 256 bits, 33 words 264
within_limit : has_toggles (options 256) (memory (codes "n") (at 3 13) 32) ≡ true
within_limit = refl

past_limit : has_toggles (options 256) (memory (codes "m") (at 2 13) 33) ≡ false
past_limit = refl

at_limit : has_toggles (options 264) (memory (codes "m") (at 2 13) 33) ≡ true
at_limit = refl

a_word : bit_comment (memory (codes "n") (at 3 13) 32) 31 7 ≡ codes "n[31][7]"
unfolding digits
a_word = refl

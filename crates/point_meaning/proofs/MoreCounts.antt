-- Occurrences in further runs, by computation.
use Rattle.std.specs.Prelude.{◌≡◌, ℕ, true, false, [], ◌∷◌, codes, refl}
use Rattle.std.specs.Fmt.{digits}
use Rattle.cov_points.specs.declared.point.Point.{Point}
use Rattle.cov_points.specs.declared.point.PointKind.TheVariants as kind
use Rattle.cov_points.specs.KeyText.{key_text}
use Rattle.circuit_run.specs.States.{State}
use Rattle.point_meaning.specs.Arms.{block, if_arm, else_arm}
use Rattle.point_meaning.specs.Source.{Source, Variable}
use Rattle.point_meaning.specs.Hier.{hier_text}
use Rattle.point_meaning.specs.Occurrences.{Counted, occurrences}
use Rattle.point_meaning.proofs.PragmaExamples.{at, options, scalar}
use Rattle.point_meaning.proofs.CountExamples.{source, scope, enters, arm_point, bit_point}

-- ---- module i (input clk, output reg q); initial q = 1; always @(posedge clk) q <= 0; endmodule
-- No cycle is run: the initial process occurs once, the other doesn't, and nothing toggles.

abbrev no_cycles : Counted
no_cycles = record { trace = enters 0 (at 1 38) block ∷ []; settled = [] }

abbrev initial_source : Source
initial_source = source (scope (codes "i") (codes "i") ∷ []) (scalar (codes "q") (at 1 34) ∷ [])

initial_block : occurrences initial_source (options 256) (arm_point (codes "i") (at 1 38) block) no_cycles ≡ 1
initial_block = refl

clocked_block : occurrences initial_source (options 256) (arm_point (codes "i") (at 1 53) block) no_cycles ≡ 0
clocked_block = refl

still_bit : occurrences initial_source (options 256) (bit_point (codes "i") (at 1 34) (codes "q")) no_cycles ≡ 0
still_bit = refl

-- ---- module f (input clk, output reg [7:0] n); a counter that ends the run at 2: n is 0, 1, 2

abbrev byte : Variable
byte = record {
  scope = 0;
  name = codes "n";
  place = at 1 38;
  width = 8;
  low = 0;
  vector = true;
  integer = false;
  words = 1;
  word_low = 0;
  memory = false;
}

abbrev counting_source : Source
counting_source = source (scope (codes "f") (codes "f") ∷ []) (byte ∷ [])

abbrev holds : ℕ → State
holds n = record { width = 8; words = n ∷ [] } ∷ []

abbrev counting : Counted
counting = record {
  trace =
      enters 0 (at 1 42) block ∷ enters 0 (at 1 79) else_arm ∷ enters 0 (at 1 42) block ∷ enters 0 (at 1 79) else_arm
      ∷ enters 0 (at 1 42) block ∷ enters 0 (at 1 79) if_arm ∷ [];
  settled = holds 0 ∷ holds 1 ∷ holds 2 ∷ [];
}

counting_block : occurrences counting_source (options 256) (arm_point (codes "f") (at 1 42) block) counting ≡ 3
counting_block = refl

counting_yes : occurrences counting_source (options 256) (arm_point (codes "f") (at 1 79) if_arm) counting ≡ 1
counting_yes = refl

counting_no : occurrences counting_source (options 256) (arm_point (codes "f") (at 1 79) else_arm) counting ≡ 2
counting_no = refl

bit_0 : occurrences counting_source (options 256) (bit_point (codes "f") (at 1 38) (codes "n[0]")) counting ≡ 2
unfolding digits
bit_0 = refl

bit_1 : occurrences counting_source (options 256) (bit_point (codes "f") (at 1 38) (codes "n[1]")) counting ≡ 1
unfolding digits
bit_1 = refl

bit_2 : occurrences counting_source (options 256) (bit_point (codes "f") (at 1 38) (codes "n[2]")) counting ≡ 0
unfolding digits
bit_2 = refl

-- ---- the key of a point of two instances

abbrev shared : Point
shared = record {
  place = at 1 42;
  kind = kind.Line;
  «module» = codes "s#(W=32'sh1)";
  comment = codes "block";
  lines = record { from = 1; to = 1 } ∷ [];
  hier = hier_text (codes "top.u1" ∷ codes "top.u2" ∷ []);
}

shared_key : key_text (codes "s.v" ∷ []) shared
    ≡ codes "\u{1}f\u{2}s.v\u{1}l\u{2}1\u{1}n\u{2}42\u{1}t\u{2}line\u{1}page\u{2}v_line/s#(W=32'sh1)\u{1}o\u{2}block\u{1}S\u{2}1\u{1}h\u{2}top.u*"
unfolding digits
shared_key = refl

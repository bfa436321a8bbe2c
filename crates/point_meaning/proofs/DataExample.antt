-- The data file of the run of a module with a cover property, by computation:
--
--     module u (input clk, input a); cp: cover property (@(posedge clk) a); endmodule
use Rattle.std.specs.Prelude.{◌≡◌, [], ◌∷◌, ◌++◌, codes, refl}
use Rattle.std.specs.Fmt.{digits}
use Rattle.cov_points.specs.declared.point.Point.{Point}
use Rattle.cov_points.specs.declared.point.PointKind.TheVariants as kind
use Rattle.cov_dat.specs.DataText.{lines_text}
use Rattle.point_meaning.specs.RunData.{counts_of}
use Rattle.point_meaning.proofs.CountExamples.{cover_source, cover_run}
use Rattle.point_meaning.proofs.PragmaExamples.{at, options}

abbrev a_point : Point
a_point = record {
  place = at 1 28;
  kind = kind.Toggle;
  «module» = codes "u";
  comment = codes "a";
  lines = record { from = 1; to = 1 } ∷ [];
  hier = codes "u";
}

abbrev cp_point : Point
cp_point = record {
  place = at 1 39;
  kind = kind.User;
  «module» = codes "u";
  comment = codes "cp";
  lines = record { from = 1; to = 1 } ∷ [];
  hier = codes "u";
}

-- the records, in byte order of keys
file : lines_text (counts_of cover_source (options 256) (codes "u.v" ∷ []) (a_point ∷ cp_point ∷ []) 64 cover_run)
    ≡ codes "# SystemC::Coverage-3\n"
    ++ codes "C '\u{1}f\u{2}u.v\u{1}l\u{2}1\u{1}n\u{2}28\u{1}t\u{2}toggle\u{1}page\u{2}v_toggle/u\u{1}o\u{2}a\u{1}S\u{2}1\u{1}h\u{2}u' 2\n"
    ++ codes "C '\u{1}f\u{2}u.v\u{1}l\u{2}1\u{1}n\u{2}39\u{1}t\u{2}user\u{1}page\u{2}v_user/u\u{1}o\u{2}cp\u{1}S\u{2}1\u{1}h\u{2}u' 2\n"
unfolding digits
file = refl

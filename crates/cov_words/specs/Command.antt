-- The command that the words of a command line spell (docs/commands.md, "Words").
use Rattle.std.specs.Prelude.{ℕ, ◌^◌, ◌-◌, ◌&&◌, ◌||◌, Bool, true, not, nat_le, is_some, List, [], ◌∷◌, length, Option, None, Some, option_map, option_and_then}
use Rattle.std.specs.Prelude.{if◌then◌else◌}
use Rattle.std.specs.List.{list_all, filter_map}
use Rattle.std.specs.Str.{bytes_eq}
use Rattle.cov_port.specs.Decimal.{decimal_of}
use Rattle.cov_words.specs.Values.{is_name, number_in}
use Rattle.cov_words.specs.Table.{word_of, takes, row_of, command_named, is_value_of}
use Rattle.cov_words.specs.Cut.{Piece, given, name}
use Rattle.cov_words.specs.Pieces.{pieces_of}
use Rattle.cov_words.specs.declared.table.CommandName.{CommandName}
use Rattle.cov_words.specs.declared.table.CommandName.TheVariants.{Check, Build, Sim, Cover, SelfTest}
use Rattle.cov_words.specs.declared.table.OptionName.{OptionName}
use Rattle.cov_words.specs.declared.table.OptionName.TheVariants.{Top, Out, Clock, Coverage, CoverageLine, CoverageToggle, CoverageUser, CoverageUnderscore}
use Rattle.cov_words.specs.declared.table.OptionName.TheVariants.{CoverageMaxWidth, CountBits, Data, Write, WriteInfo, Rank, Annotate, AnnotateAll}
use Rattle.cov_words.specs.declared.table.OptionName.TheVariants.{AnnotatePoints, AnnotateMin, FilterType}

-- what `build` is asked for; an option that isn't given has nothing
pub record Building : Type 0 where
  pub top : List ℕ
  pub out : List ℕ
  pub clock : Option (List ℕ)
  pub all : Bool
  pub line : Bool
  pub toggle : Bool
  pub user : Bool
  pub underscore : Bool
  pub max_width : Option ℕ
  pub files : List (List ℕ)

-- what `sim` is asked for
pub record Simulating : Type 0 where
  pub count_bits : Option ℕ
  pub data_name : Option (List ℕ)
  pub design : List ℕ
  pub stimulus : List ℕ

-- what `cover` is asked for
pub record Covering : Type 0 where
  pub write : Option (List ℕ)
  pub write_info : Option (List ℕ)
  pub rank : Bool
  pub annotate : Option (List ℕ)
  pub annotate_all : Bool
  pub annotate_points : Bool
  pub annotate_min : Option ℕ
  pub filter_type : Option (List ℕ)
  pub files : List (List ℕ)

pub data Command : Type 0 where
  check : List (List ℕ) → Command
  build : Building → Command
  sim : Simulating → Command
  cover : Covering → Command
  selftest : ℕ → Command

abbrev pub value_in : OptionName → Piece → Option (List ℕ)
value_in o (given p value) = if bytes_eq (word_of o) (word_of p) then Some value else None
value_in o (name text) = None

-- all values that an option is given, an empty one each time where it takes none
abbrev pub values_of : OptionName → List Piece → List (List ℕ)
values_of o pieces = filter_map (value_in o) pieces

abbrev pub name_in : Piece → Option (List ℕ)
name_in (given o value) = None
name_in (name text) = Some text

-- all names, in order
abbrev pub names_of : List Piece → List (List ℕ)
names_of pieces = filter_map name_in pieces

abbrev pub first_of : List (List ℕ) → Option (List ℕ)
first_of [] = None
first_of (v ∷ vs) = Some v

-- the value of an option, whether it is given, and the number that its value spells
abbrev pub value_of : OptionName → List Piece → Option (List ℕ)
value_of o pieces = first_of (values_of o pieces)

abbrev pub is_given : OptionName → List Piece → Bool
is_given o pieces = is_some (value_of o pieces)

abbrev pub number_of : OptionName → List Piece → Option ℕ
number_of o pieces = option_and_then (λ text. decimal_of text (2 ^ 64 - 1)) (value_of o pieces)

-- a value is one that its option takes, and a name is the name of a file
abbrev pub is_in_range : Piece → Bool
is_in_range (given o value) = is_value_of (takes o) value
is_in_range (name text) = is_name text

abbrev pub is_at_most : ℕ → Option ℕ → Bool
is_at_most n None = true
is_at_most n (Some most) = nat_le n most

-- an option is given at most once
abbrev pub are_single : CommandName → List Piece → Bool
are_single c pieces = list_all (λ o. nat_le (length (values_of o pieces)) 1) (row_of c).options

abbrev pub takes_names : CommandName → ℕ → Bool
takes_names c n = nat_le (row_of c).least n && is_at_most n (row_of c).most

-- each value and name may stand there, no option is given twice, and the command takes as many names
abbrev pub fits : CommandName → List Piece → Bool
fits c pieces = list_all is_in_range pieces && are_single c pieces && takes_names c (length (names_of pieces))

-- `--top` and `--out` are required
abbrev pub build_with : Option (List ℕ) → Option (List ℕ) → List Piece → Option Command
build_with None out pieces = None
build_with (Some top) None pieces = None
build_with (Some top) (Some out) pieces = Some (build (record {
  top = top;
  out = out;
  clock = value_of Clock pieces;
  all = is_given Coverage pieces;
  line = is_given CoverageLine pieces;
  toggle = is_given CoverageToggle pieces;
  user = is_given CoverageUser pieces;
  underscore = is_given CoverageUnderscore pieces;
  max_width = number_of CoverageMaxWidth pieces;
  files = names_of pieces;
}))

-- the design and the stimulus
abbrev pub sim_with : List (List ℕ) → List Piece → Option Command
sim_with (design ∷ stimulus ∷ []) pieces = Some (sim (record {
  count_bits = number_of CountBits pieces;
  data_name = value_of Data pieces;
  design = design;
  stimulus = stimulus;
}))
sim_with _ pieces = None

-- `--annotate-all` and `--annotate-points` need `--annotate`
abbrev pub lacks_annotate : List Piece → Bool
lacks_annotate pieces = (is_given AnnotateAll pieces || is_given AnnotatePoints pieces) && not (is_given Annotate pieces)

abbrev pub cover_with : List Piece → Option Command
cover_with pieces = if lacks_annotate pieces then None else Some (cover (record {
  write = value_of Write pieces;
  write_info = value_of WriteInfo pieces;
  rank = is_given Rank pieces;
  annotate = value_of Annotate pieces;
  annotate_all = is_given AnnotateAll pieces;
  annotate_points = is_given AnnotatePoints pieces;
  annotate_min = number_of AnnotateMin pieces;
  filter_type = value_of FilterType pieces;
  files = names_of pieces;
}))

-- its one name is a number from 1 to 10,000
abbrev pub selftest_with : List (List ℕ) → Option Command
selftest_with (number ∷ []) = option_map selftest (number_in 1 10000 number)
selftest_with _ = None

-- the command with these pieces, if they have what it requires
abbrev pub command_with : CommandName → List Piece → Option Command
command_with Check pieces = Some (check (names_of pieces))
command_with Build pieces = build_with (value_of Top pieces) (value_of Out pieces) pieces
command_with Sim pieces = sim_with (names_of pieces) pieces
command_with Cover pieces = cover_with pieces
command_with SelfTest pieces = selftest_with (names_of pieces)

abbrev pub command_of_pieces : CommandName → List Piece → Option Command
command_of_pieces c pieces = if fits c pieces then command_with c pieces else None

abbrev pub command_behind : List (List ℕ) → CommandName → Option Command
command_behind words c = option_and_then (command_of_pieces c) (pieces_of c words)

-- the command that the words spell, if they spell one: the first word is the command's
abbrev pub command_of : List (List ℕ) → Option Command
command_of [] = None
command_of (word ∷ words) = option_and_then (command_behind words) (command_named word)

-- What the definitions say of a few command lines, by computation.
use Rattle.std.specs.Prelude.{◌≡◌, ℕ, false, List, [], ◌∷◌, None, Some, codes, refl}
use Rattle.vlog_words.specs.Names.{begins_name, begins_with_name, continues_name}
use Rattle.vlog_words.specs.Identifier.{is_identifier, is_spelled}
use Rattle.vlog_words.specs.Words.{word_of}
use Rattle.cov_words.specs.Command.{Building, Covering, command_of, check, build, cover, selftest}

-- a `build` with these options alone
abbrev built : List ℕ → List ℕ → List (List ℕ) → Building
built top out files = record {
  top = top;
  out = out;
  clock = None;
  all = false;
  line = false;
  toggle = false;
  user = false;
  underscore = false;
  max_width = None;
  files = files;
}

-- a `cover` of the file `a.dat` that stores a merged file
abbrev stored : List ℕ → Covering
stored out = record {
  write = Some out;
  write_info = None;
  rank = false;
  annotate = None;
  annotate_all = false;
  annotate_points = false;
  annotate_min = None;
  filter_type = None;
  files = codes "a.dat" ∷ [];
}

no_words : command_of [] ≡ None
no_words = refl

help : command_of (codes "--help" ∷ []) ≡ None
help = refl

-- the design alone, without a stimulus
no_stimulus : command_of (codes "sim" ∷ codes "a.cvd" ∷ []) ≡ None
no_stimulus = refl

-- options and names in any order
mixed : command_of (codes "build" ∷ codes "--top=x" ∷ codes "x.v" ∷ codes "--out" ∷ codes "o.cvd" ∷ codes "y.v" ∷ [])
    ≡ Some (build (built (codes "x") (codes "o.cvd") (codes "x.v" ∷ codes "y.v" ∷ [])))
unfolding is_identifier is_spelled begins_with_name begins_name continues_name word_of
mixed = refl

given_twice : command_of (codes "build" ∷ codes "--top=x" ∷ codes "--top" ∷ codes "x" ∷ codes "--out" ∷ codes "o" ∷ codes "x.v" ∷ []) ≡ None
unfolding is_identifier is_spelled begins_with_name begins_name continues_name word_of
given_twice = refl

reserved_word : command_of (codes "build" ∷ codes "--top" ∷ codes "wire" ∷ codes "--out" ∷ codes "o" ∷ codes "x.v" ∷ []) ≡ None
unfolding is_identifier is_spelled begins_with_name begins_name continues_name word_of
reserved_word = refl

reserved_front : command_of (codes "build" ∷ codes "--top" ∷ codes "cov$x" ∷ codes "--out" ∷ codes "o" ∷ codes "x.v" ∷ []) ≡ None
unfolding is_identifier is_spelled begins_with_name begins_name continues_name word_of
reserved_front = refl

-- an option of another command
foreign_option : command_of (codes "check" ∷ codes "--rank" ∷ codes "x.v" ∷ []) ≡ None
foreign_option = refl

-- the value is what stands behind the first `=`
first_equal_sign : command_of (codes "cover" ∷ codes "--write=o=p" ∷ codes "a.dat" ∷ []) ≡ Some (cover (stored (codes "o=p")))
first_equal_sign = refl

-- in the next word a `=` is as any other byte
value_behind : command_of (codes "cover" ∷ codes "--write" ∷ codes "o=p" ∷ codes "a.dat" ∷ []) ≡ Some (cover (stored (codes "o=p")))
value_behind = refl

-- the value of an option may be `--`
dashes_as_value : command_of (codes "cover" ∷ codes "--write" ∷ codes "--" ∷ codes "a.dat" ∷ []) ≡ Some (cover (stored (codes "--")))
dashes_as_value = refl

-- the empty text is no name
empty_value : command_of (codes "cover" ∷ codes "--write=" ∷ codes "a.dat" ∷ []) ≡ None
empty_value = refl

flag_with_value : command_of (codes "cover" ∷ codes "--rank=" ∷ codes "a.dat" ∷ []) ≡ None
flag_with_value = refl

needs_annotate : command_of (codes "cover" ∷ codes "--annotate-all" ∷ codes "a.dat" ∷ []) ≡ None
needs_annotate = refl

-- behind `--` every word is a name, a second `--` too
second_dashes : command_of (codes "check" ∷ codes "--" ∷ codes "--" ∷ codes "-x" ∷ []) ≡ Some (check (codes "--" ∷ codes "-x" ∷ []))
second_dashes = refl

-- one `-` is a name
one_dash : command_of (codes "check" ∷ codes "-" ∷ []) ≡ Some (check (codes "-" ∷ []))
one_dash = refl

-- a number may have leading zeros
leading_zeros : command_of (codes "selftest" ∷ codes "0010000" ∷ []) ≡ Some (selftest 10000)
leading_zeros = refl

too_few_stages : command_of (codes "selftest" ∷ codes "0" ∷ []) ≡ None
too_few_stages = refl

too_many_stages : command_of (codes "selftest" ∷ codes "10001" ∷ []) ≡ None
too_many_stages = refl

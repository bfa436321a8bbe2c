-- The number that an option is given lies in its range.
use Rattle.std.proofs.Common.{◌≡◌, ◌∙◌, sym, ap, refl, subst, ℕ, ◌≤◌, ◌-◌, ◌^◌, Bool, true, false, cond, List, [], ◌∷◌, Option, None, Some, arith}
use Rattle.std.proofs.lemmas.Bool.Decides.{nat_tests}
use Rattle.std.specs.Prelude.{IfSome, ◌&&◌, is_some, length, nat_le, option_and_then, option_map}
use Rattle.std.specs.List.{list_all, cons_option, filter_map}
use Rattle.std.specs.Str.{bytes_eq}
use Rattle.cov_port.specs.Decimal.{decimal_of, is_decimal, value_of as decimal_value}
use Rattle.cov_words.specs.Values.{if_at_least, number_in}
use Rattle.cov_words.specs.Table.{command_named, is_value_of, takes, word_of}
use Rattle.cov_words.specs.Cut.{Piece, given, name}
use Rattle.cov_words.specs.Pieces.{pieces_of}
use Rattle.cov_words.specs.Command.{Building, Command, Covering, Simulating, build, cover, selftest, sim, build_with, selftest_with, sim_with, command_behind}
use Rattle.cov_words.specs.Command.{command_of}
use Rattle.cov_words.specs.Command.{command_of_pieces, command_with, first_of, fits, is_in_range, are_single, takes_names, lacks_annotate, names_of, number_of}
use Rattle.cov_words.specs.Command.{value_in, value_of}
use Rattle.cov_words.specs.declared.table.CommandName.{CommandName}
use Rattle.cov_words.specs.declared.table.CommandName.TheVariants.{Check, Build, Sim, Cover, SelfTest}
use Rattle.cov_words.specs.declared.table.OptionName.{OptionName}
use Rattle.cov_words.specs.declared.table.OptionName.TheVariants.{CountBits, Out, Top}

first : (b c : Bool) → b && c ≡ true → b ≡ true
first true c is = refl
first false c is = absurd (cc)

second : (b c : Bool) → b && c ≡ true → c ≡ true
second true c is = is
second false c is = absurd (cc)

-- a text of a number from 1 to 64 spells no greater one in a wider range
number_within : (decimal within wide : Bool) (v n : ℕ) → nat_le v 64 ≡ within → is_some (if_at_least 1 (cond (decimal && within) (Some v) None)) ≡ true
    → cond (decimal && wide) (Some v) None ≡ Some n → n ≤ 64
number_within true true true v n le some found = let same : v ≡ n = (cc) in let low : nat_le n 64 ≡ true = subst (λ k. nat_le k 64 ≡ true) same le in
    grind (arith, nat_tests)
number_within true true false v n le some found = absurd (cc)
number_within true false wide v n le some found = absurd (cc)
number_within false within wide v n le some found = absurd (cc)

spells_within : (text : List ℕ) → is_some (number_in 1 64 text) ≡ true → IfSome (decimal_of text (2 ^ 64 - 1)) (λ n. n ≤ 64)
spells_within text some = by (decimal_of text (2 ^ 64 - 1)) refl
  where
    by : (o : Option ℕ) → decimal_of text (2 ^ 64 - 1) ≡ o → IfSome o (λ n. n ≤ 64)
    by None none = tt
    by (Some n) found =
        number_within (is_decimal text) (nat_le (decimal_value text) 64) (nat_le (decimal_value text) (2 ^ 64 - 1)) (decimal_value text) n refl some found

-- a value that this option is given is one that it takes
of_option : (o : OptionName) (value : List ℕ) → bytes_eq (word_of CountBits) (word_of o) ≡ true → is_value_of (takes o) value ≡ true
    → is_some (number_in 1 64 value) ≡ true
of_option CountBits value is takes_it = takes_it
of_option _ value is takes_it = absurd (cc)

first_in_range : (pieces : List Piece) → list_all is_in_range pieces ≡ true → IfSome (value_of CountBits pieces) (λ text. is_some (number_in 1 64 text) ≡ true)
first_in_range [] all = tt
first_in_range (name text ∷ rest) all = first_in_range rest (second (is_in_range (name text)) (list_all is_in_range rest) all)
first_in_range (given o value ∷ rest) all =
    by (first_in_range rest (second (is_in_range (given o value)) (list_all is_in_range rest) all)) (bytes_eq (word_of CountBits) (word_of o)) refl
  where
    by : IfSome (value_of CountBits rest) (λ text. is_some (number_in 1 64 text) ≡ true)
        → (b : Bool) → bytes_eq (word_of CountBits) (word_of o) ≡ b
        → IfSome (first_of (cons_option (cond b (Some value) None) (filter_map (value_in CountBits) rest))) (λ text. is_some (number_in 1 64 text) ≡ true)
    by later true is = of_option o value is (first (is_in_range (given o value)) (list_all is_in_range rest) all)
    by later false is = later

number_in_range : (pieces : List Piece) → list_all is_in_range pieces ≡ true → IfSome (number_of CountBits pieces) (λ n. n ≤ 64)
number_in_range pieces all = by (value_of CountBits pieces) (first_in_range pieces all)
  where
    by : (o : Option (List ℕ)) → IfSome o (λ text. is_some (number_in 1 64 text) ≡ true)
        → IfSome (option_and_then (λ text. decimal_of text (2 ^ 64 - 1)) o) (λ n. n ≤ 64)
    by None none = tt
    by (Some text) some = spells_within text some

-- ---- the command that has it

same_sim : (a b : Simulating) → (let s : Option Command = Some (sim a) in s) ≡ Some (sim b) → a ≡ b
same_sim a b is = cc

of_names : (names : List (List ℕ)) (pieces : List Piece) (asked : Simulating) → sim_with names pieces ≡ Some (sim asked)
    → asked.count_bits ≡ number_of CountBits pieces
of_names [] pieces asked is = absurd (cc)
of_names (design ∷ []) pieces asked is = absurd (cc)
of_names (design ∷ stimulus ∷ []) pieces asked is = ap (λ (s : Simulating). s.count_bits) (sym (same_sim _ asked is))
of_names (design ∷ stimulus ∷ other ∷ more) pieces asked is = absurd (cc)

no_build : (top out : Option (List ℕ)) (pieces : List Piece) (asked : Simulating) → build_with top out pieces ≡ Some (sim asked) → ⊥
no_build None out pieces asked is = absurd (cc)
no_build (Some top) None pieces asked is = absurd (cc)
no_build (Some top) (Some out) pieces asked is = absurd (cc)

no_cover : (lacks : Bool) (c : Covering) (asked : Simulating) → cond lacks None (Some (cover c)) ≡ Some (sim asked) → ⊥
no_cover true c asked is = absurd (cc)
no_cover false c asked is = absurd (cc)

no_number : (o : Option ℕ) (asked : Simulating) → option_map selftest o ≡ Some (sim asked) → ⊥
no_number None asked is = absurd (cc)
no_number (Some n) asked is = absurd (cc)

no_selftest : (names : List (List ℕ)) (asked : Simulating) → selftest_with names ≡ Some (sim asked) → ⊥
no_selftest [] asked is = absurd (cc)
no_selftest (number ∷ []) asked is = no_number (number_in 1 10000 number) asked is
no_selftest (number ∷ other ∷ more) asked is = absurd (cc)

of_command : (c : CommandName) (pieces : List Piece) (asked : Simulating) → command_with c pieces ≡ Some (sim asked)
    → asked.count_bits ≡ number_of CountBits pieces
of_command Check pieces asked is = absurd (cc)
of_command Build pieces asked is = absurd (no_build (value_of Top pieces) (value_of Out pieces) pieces asked is)
of_command Sim pieces asked is = of_names (names_of pieces) pieces asked is
of_command Cover pieces asked is = absurd (no_cover (lacks_annotate pieces) _ asked is)
of_command SelfTest pieces asked is = absurd (no_selftest (names_of pieces) asked is)

of_pieces : (c : CommandName) (pieces : List Piece) (asked : Simulating) → command_of_pieces c pieces ≡ Some (sim asked)
    → IfSome asked.count_bits (λ n. n ≤ 64)
of_pieces c pieces asked is = by (fits c pieces) refl is
  where
    by : (b : Bool) → fits c pieces ≡ b → cond b (command_with c pieces) None ≡ Some (sim asked) → IfSome asked.count_bits (λ n. n ≤ 64)
    by true fit found =
        let values : list_all is_in_range pieces ≡ true =
        first (list_all is_in_range pieces) (are_single c pieces)
        (first (list_all is_in_range pieces && are_single c pieces) (takes_names c (length (names_of pieces))) fit) in
        subst (λ (o : Option ℕ). IfSome o (λ n. n ≤ 64)) (sym (of_command c pieces asked found)) (number_in_range pieces values)
    by false fit found = absurd (cc)

of_words : (words : List (List ℕ)) (c : CommandName) (asked : Simulating) → command_behind words c ≡ Some (sim asked) → IfSome asked.count_bits (λ n. n ≤ 64)
of_words words c asked is = by (pieces_of c words) is
  where
    by : (o : Option (List Piece)) → option_and_then (command_of_pieces c) o ≡ Some (sim asked) → IfSome asked.count_bits (λ n. n ≤ 64)
    by None found = absurd (cc)
    by (Some pieces) found = of_pieces c pieces asked found

-- the bits of counts that words ask for are few
pub count_bits : (words : List (List ℕ)) (asked : Simulating) → command_of words ≡ Some (sim asked) → IfSome asked.count_bits (λ n. n ≤ 64)
count_bits [] asked is = absurd (cc)
count_bits (word ∷ words) asked is = by (command_named word) is
  where
    by : (o : Option CommandName) → option_and_then (command_behind words) o ≡ Some (sim asked) → IfSome asked.count_bits (λ n. n ≤ 64)
    by None found = absurd (cc)
    by (Some c) found = of_words words c asked found

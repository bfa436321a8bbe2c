-- Names that were read, and how an input is held.
use Rattle.std.specs.Prelude.{◌≡◌, ℕ, ◌==◌, ◌&&◌, nat_lt, is_some, Bool, true, List, [], ◌∷◌, map, Option}
use Rattle.std.specs.List.{list_all, list_any}
use Rattle.std.specs.Ordering.{nat_cmp}
use Rattle.std.specs.Str.{bytes_eq}
use Rattle.std.specs.Cmp.Lexicographic.{slice_cmp}
use Rattle.std.specs.BTreeMap.{BTreeMap, get_by}
use Rattle.std.specs.Borrow.{Bor}
use Rattle.cov_types.specs.declared.var.Var.{Var}
use Rattle.cvd_text.specs.Sections.{input_line, input_numbers}
use Rattle.cvd_text.specs.Tokens.{Token, number, word}
use Rattle.design_tree.specs.declared.design.Input.{Input}
use Rattle.cvd_sections.specs.Alone.{design_of}
use Rattle.cvd_sections.specs.Places.{IsLastOf}

-- names, each of them once
abbrev pub NameSet : Type 0
NameSet = BTreeMap (Bor (List ℕ)) (Unit {0})

abbrev pub has_name : NameSet → List ℕ → Bool
has_name names name = is_some (get_by (λ k. slice_cmp nat_cmp name k.now) names)

-- numbers that ascend
abbrev pub ascends : List ℕ → Bool
ascends [] = true
ascends (n ∷ ns) = list_all (λ m. nat_lt n m) ns && ascends ns

abbrev pub is_among : List ℕ → ℕ → Bool
is_among ns n = list_any (λ m. m == n) ns

abbrev pub var_numbers : List Input → List ℕ
var_numbers is = map (λ (i : Input). i.var) is

-- what is kept of the inputs that were read: the last number and the names; they ascend, and each is an input variable
pub record AreSeen (vars : List Var) (before : List Input) (latest : Option ℕ) (held : NameSet) : Type 0 where
  pub last : IsLastOf nat_lt (λ (i : Input). i.var) before latest
  pub names : (name : List ℕ) → has_name held name ≡ list_any (λ (i : Input). bytes_eq i.name name) before
  pub ascend : ascends (var_numbers before) ≡ true
  pub inputs : list_all (is_among (input_numbers vars)) (var_numbers before) ≡ true

abbrev pub input_tokens : Input → List Token
input_tokens i = number i.var ∷ word i.name ∷ []

-- whether what was read of an input may stand: its own conditions, and that it may be the last or isn't
abbrev pub may_be_input : List Var → ℕ → List Input → Input → Bool
may_be_input vars all before i = (input_line (design_of vars [] []) all before i).holds

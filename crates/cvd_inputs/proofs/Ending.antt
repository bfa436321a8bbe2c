-- The last input stands where the inputs are all input variables.
use Rattle.std.proofs.Common.{◌≡◌, ℕ, zero, suc, ◌+◌, ◌<◌, Bool, true, false, cond, List, [], ◌∷◌, ◌++◌, length, length-append, refl, sym, ◌∙◌, ap, subst}
use Rattle.std.proofs.Common.{arith, map, Option, Some, None}
use Rattle.std.specs.Prelude.{◌&&◌, ◌||◌, ◌==◌, not, nat_lt, filter, is_some}
use Rattle.std.specs.List.{list_all, list_any, slice_index_or}
use Rattle.std.specs.Str.{bytes_eq}
use Rattle.std.specs.Cmp.{both_ways}
use Rattle.std.specs.Cmp.Lexicographic.{slice_cmp}
use Rattle.std.specs.Ordering.{nat_cmp}
use Rattle.std.specs.Borrow.{Bor}
use Rattle.std.specs.BTreeMap.{is_at}
use Rattle.std.specs.Map.{lookup}
use Rattle.std.proofs.lemmas.Bool.{true≢false}
use Rattle.std.proofs.lemmas.Bool.Decides.{nat_tests}
use Rattle.std.proofs.lemmas.List.{length-map}
use Rattle.cov_types.specs.declared.kind.VarKind.TheVariants as kind
use Rattle.cov_types.specs.declared.var.Var.{Var}
use Rattle.circuit_run.specs.Lists.{numbered}
use Rattle.circuit_run.specs.States.{no_var}
use Rattle.spelling_laws.proofs.Fitting.{both_true, first_true, same_length, second_true}
use Rattle.cvd_text.specs.Sections.{input_numbers, same_numbers}
use Rattle.cvd_text.specs.Targets.{same_kind}
use Rattle.cvd_sections.proofs.Lasts.{all_of_joined, last_of_more, less_passes}
use Rattle.cvd_sections.specs.Places.{is_behind}
use Rattle.design_tree.specs.declared.design.Input.{Input}
use Rattle.design_meaning.specs.Names.{is_name}
use Rattle.design_meaning.specs.States.{var_of}
use Rattle.design_meaning.specs.WellTyped.{is_plain_var, is_var}
use Rattle.cvd_sections.specs.Alone.{design_of}
use Rattle.cvd_inputs.specs.Names.{AreSeen, NameSet, ascends, has_name, is_among, may_be_input, var_numbers}
use Rattle.cvd_inputs.proofs.InputNumbers.{at_most}

abbrev is_in : ℕ × Var → Bool
is_in p = same_kind p.1.kind kind.Input

abbrev numbers_from : ℕ → List Var → List ℕ
numbers_from k vars = map (λ (p : ℕ × Var). p.0) (filter is_in (numbered k vars))

behind_all : (j k : ℕ) (vars : List Var) → j < k → list_all (λ m. nat_lt j m) (numbers_from k vars) ≡ true
behind_all j k [] h = refl
behind_all j k (v ∷ vars) h = by (same_kind v.kind kind.Input) (filter is_in (numbered (k + 1) vars)) (behind_all j (k + 1) vars (omega arith))
  where
    below : (a b : ℕ) → a < b → nat_lt a b ≡ true
    below a b h = grind (arith, nat_tests)

    by : (t : Bool) (rest : List (ℕ × Var)) → list_all (λ m. nat_lt j m) (map (λ (p : ℕ × Var). p.0) rest) ≡ true
        → list_all (λ m. nat_lt j m) (map (λ (p : ℕ × Var). p.0) (cond t ((k, v) ∷ rest) rest)) ≡ true
    by true rest e = both_true (nat_lt j k) _ (below j k h) e
    by false rest e = e

numbers_ascend : (k : ℕ) (vars : List Var) → ascends (numbers_from k vars) ≡ true
numbers_ascend k [] = refl
numbers_ascend k (v ∷ vars) =
    by (same_kind v.kind kind.Input) (filter is_in (numbered (k + 1) vars)) (behind_all k (k + 1) vars (omega arith)) (numbers_ascend (k + 1) vars)
  where
    by : (t : Bool) (rest : List (ℕ × Var)) → list_all (λ m. nat_lt k m) (map (λ (p : ℕ × Var). p.0) rest) ≡ true
        → ascends (map (λ (p : ℕ × Var). p.0) rest) ≡ true
        → ascends (map (λ (p : ℕ × Var). p.0) (cond t ((k, v) ∷ rest) rest)) ≡ true
    by true rest above e = both_true (list_all (λ m. nat_lt k m) (map (λ (p : ℕ × Var). p.0) rest)) _ above e
    by false rest above e = e

-- an input variable is among them
number_among : (k n : ℕ) (vars : List Var) → n < length vars → same_kind (slice_index_or vars n no_var).kind kind.Input ≡ true
    → is_among (numbers_from k vars) (n + k) ≡ true
number_among k n [] within h = absurd (omega (arith, within))
number_among k zero (v ∷ vars) within h = at_first (same_kind v.kind kind.Input) (filter is_in (numbered (k + 1) vars)) h
  where
    same : (a : ℕ) → (a == (0 + a)) ≡ true
    same a = grind (arith, nat_tests)

    at_first : (t : Bool) (rest : List (ℕ × Var)) → t ≡ true → is_among (map (λ (p : ℕ × Var). p.0) (cond t ((k, v) ∷ rest) rest)) (0 + k) ≡ true
    at_first true rest e = ap (λ b. b || is_among (map (λ (p : ℕ × Var). p.0) rest) (0 + k)) (same k)
    at_first false rest e = absurd (true≢false (sym e))
number_among k (suc n) (v ∷ vars) within h =
    let later = number_among (k + 1) n vars (omega (arith, within)) h in
    let e : n + (k + 1) ≡ suc n + k = omega arith in
    behind (same_kind v.kind kind.Input) (filter is_in (numbered (k + 1) vars)) (subst (λ m. is_among (numbers_from (k + 1) vars) m ≡ true) e later)
  where
    behind : (t : Bool) (rest : List (ℕ × Var)) → is_among (map (λ (p : ℕ × Var). p.0) rest) (suc n + k) ≡ true
        → is_among (map (λ (p : ℕ × Var). p.0) (cond t ((k, v) ∷ rest) rest)) (suc n + k) ≡ true
    behind true rest e = or_true (k == (suc n + k)) _ e
      where
        or_true : (a b : Bool) → b ≡ true → (a || b) ≡ true
        or_true true b h = refl
        or_true false b h = h
    behind false rest e = e

-- ---- the last of them

all_split : (v : ℕ) (name : List ℕ) (before : List Input)
    → list_all (λ (j : Input). nat_lt j.var v && not (bytes_eq j.name name)) before
    ≡ (list_all (λ (j : Input). nat_lt j.var v) before && not (list_any (λ (j : Input). bytes_eq j.name name) before))
all_split v name [] = refl
all_split v name (j ∷ js) =
    ap (λ b. (nat_lt j.var v && not (bytes_eq j.name name)) && b) (all_split v name js)
    ∙ by (nat_lt j.var v) (bytes_eq j.name name) (list_all (λ (k : Input). nat_lt k.var v) js) (list_any (λ (k : Input). bytes_eq k.name name) js)
  where
    by : (a b x y : Bool) → ((a && not b) && (x && not y)) ≡ ((a && x) && not (b || y))
    by false b x y = refl
    by true false x y = refl
    by true true true y = refl
    by true true false y = refl

ascends_more : (xs : List ℕ) (v : ℕ) → ascends xs ≡ true → list_all (λ x. nat_lt x v) xs ≡ true → ascends (xs ++ v ∷ []) ≡ true
ascends_more [] v a h = refl
ascends_more (x ∷ xs) v a h =
    both_true (list_all (λ m. nat_lt x m) (xs ++ v ∷ [])) _
    (all_of_joined (λ m. nat_lt x m) xs (v ∷ [])
    ∙ both_true (list_all (λ m. nat_lt x m) xs) _ (first_true (list_all (λ m. nat_lt x m) xs) _ a)
    (both_true (nat_lt x v) true (first_true (nat_lt x v) _ h) refl))
    (ascends_more xs v (second_true (list_all (λ m. nat_lt x m) xs) _ a) (second_true (nat_lt x v) _ h))

among_more : (ns xs : List ℕ) (v : ℕ) → list_all (is_among ns) xs ≡ true → is_among ns v ≡ true → list_all (is_among ns) (xs ++ v ∷ []) ≡ true
among_more ns xs v h e = all_of_joined (is_among ns) xs (v ∷ []) ∙ both_true (list_all (is_among ns) xs) _ h (both_true (is_among ns v) true e refl)

vars_more : (before : List Input) (i : Input) → var_numbers (before ++ i ∷ []) ≡ var_numbers before ++ i.var ∷ []
vars_more [] i = refl
vars_more (j ∷ js) i = ap (λ l. j.var ∷ l) (vars_more js i)

all_mapped : (v : ℕ) (before : List Input) → list_all (λ (j : Input). nat_lt j.var v) before ≡ list_all (λ x. nat_lt x v) (var_numbers before)
all_mapped v [] = refl
all_mapped v (j ∷ js) = ap (λ b. nat_lt j.var v && b) (all_mapped v js)

same_self : (xs : List ℕ) → same_numbers xs xs ≡ true
same_self [] = refl
same_self (x ∷ xs) = both_true (x == x) _ (equal x) (same_self xs)
  where
    equal : (x : ℕ) → (x == x) ≡ true
    equal x = grind (arith, nat_tests)

is_same : (m n : ℕ) → m ≡ n → (m == n) ≡ true
is_same m n h = grind (arith, nat_tests)

same_is : (m n : ℕ) → (m == n) ≡ true → m ≡ n
same_is m n h = grind arith

-- numbers among others, which ascend as they do, are all of them where they are as many
pub same_by_length : (vars : List Var) (ms : List ℕ) → ascends ms ≡ true → list_all (is_among (input_numbers vars)) ms ≡ true
    → same_numbers ms (input_numbers vars) ≡ (length ms == length (input_numbers vars))
same_by_length vars ms a h =
    both_ways (same_numbers ms (input_numbers vars)) (length ms == length (input_numbers vars))
    (λ e. is_same (length ms) (length (input_numbers vars)) (same_length (λ m n. m == n) ms (input_numbers vars) e))
    (λ e. ap (λ l. same_numbers l (input_numbers vars))
    ((at_most (input_numbers vars) ms a (numbers_ascend 0 vars) h).whole (same_is (length ms) (length (input_numbers vars)) e))
    ∙ same_self (input_numbers vars))

-- an input variable is among the numbers of all
pub input_among : (vars : List Var) (v : ℕ) → nat_lt v (length vars) ≡ true → same_kind (slice_index_or vars v no_var).kind kind.Input ≡ true
    → is_among (input_numbers vars) v ≡ true
input_among vars v within h =
    let e : v + 0 ≡ v = omega arith in
    subst (λ n. is_among (input_numbers vars) n ≡ true) e (number_among 0 v vars (less v (length vars) within) h)
  where
    less : (a b : ℕ) → nat_lt a b ≡ true → a < b
    less a b h = grind (arith, nat_tests)

module _ (vars : List Var) (before : List Input) (i : Input) (latest : Option ℕ) (held : NameSet) (seen : AreSeen vars before latest held) where
  -- the numbers and names of those before it, by what is kept of them
  pub told_before : list_all (λ (j : Input). nat_lt j.var i.var && not (bytes_eq j.name i.name)) before
      ≡ (is_behind nat_lt latest i.var && not (has_name held i.name))
  told_before =
      all_split i.var i.name before ∙ ap (λ b. b && not (list_any (λ (j : Input). bytes_eq j.name i.name) before)) (seen.last i.var)
      ∙ ap (λ b. is_behind nat_lt latest i.var && not b) (sym (seen.names i.name))

  module _ (above : is_behind nat_lt latest i.var ≡ true) (among : is_among (input_numbers vars) i.var ≡ true) where
    ascend : ascends (var_numbers (before ++ i ∷ [])) ≡ true
    ascend =
        ap ascends (vars_more before i)
        ∙ ascends_more (var_numbers before) i.var seen.ascend (sym (all_mapped i.var before) ∙ seen.last i.var ∙ above)

    inputs : list_all (is_among (input_numbers vars)) (var_numbers (before ++ i ∷ [])) ≡ true
    inputs = ap (list_all (is_among (input_numbers vars))) (vars_more before i) ∙ among_more (input_numbers vars) (var_numbers before) i.var seen.inputs among

    -- whether they are all, by how many they are
    pub all_by_length : same_numbers (var_numbers (before ++ i ∷ [])) (input_numbers vars) ≡ (length before + 1 == length (input_numbers vars))
    all_by_length =
        same_by_length vars (var_numbers (before ++ i ∷ [])) ascend inputs
        ∙ ap (λ n. n == length (input_numbers vars)) (length-map (before ++ i ∷ []) (λ (j : Input). j.var) ∙ length-append before (i ∷ []))

    pub seen_more : (new : NameSet) → ((other : List ℕ) → has_name new other ≡ (bytes_eq i.name other || has_name held other))
        → AreSeen vars (before ++ i ∷ []) (Some i.var) new
    seen_more new added = record {
      last = last_of_more nat_lt (λ (j : Input). j.var) less_passes before i (seen.last i.var ∙ above);
      names = λ name. added name ∙ ap (λ b. bytes_eq i.name name || b) (seen.names name) ∙ any_more before name;
      ascend = ascend;
      inputs = inputs;
    }
      where
        either : (a b x : Bool) → (x || (a || b)) ≡ (a || (x || b))
        either true b true = refl
        either true b false = refl
        either false b x = refl

        any_more : (js : List Input) (name : List ℕ)
            → (bytes_eq i.name name || list_any (λ (j : Input). bytes_eq j.name name) js) ≡ list_any (λ (j : Input). bytes_eq j.name name) (js ++ i ∷ [])
        any_more [] name = refl
        any_more (j ∷ js) name =
            either (bytes_eq j.name name) (list_any (λ (k : Input). bytes_eq k.name name) js) (bytes_eq i.name name)
            ∙ ap (λ b. bytes_eq j.name name || b) (any_more js name)

  -- behind an input whose line stands
  pub seen_stood : (all : ℕ) → may_be_input vars all before i ≡ true → (new : NameSet)
      → ((other : List ℕ) → has_name new other ≡ (bytes_eq i.name other || has_name held other)) → AreSeen vars (before ++ i ∷ []) (Some i.var) new
  seen_stood all h new added =
      let d = design_of vars [] [] in
      let front = first_true (((is_plain_var d i.var && same_kind (var_of d i.var).kind kind.Input) && is_name i.name) && _) _ h in
      let named = first_true ((is_plain_var d i.var && same_kind (var_of d i.var).kind kind.Input) && is_name i.name) _ front in
      let input = first_true (is_plain_var d i.var && same_kind (var_of d i.var).kind kind.Input) _ named in
      let there = first_true (is_var d i.var) _ (first_true (is_plain_var d i.var) _ input) in
      let told = second_true ((is_plain_var d i.var && same_kind (var_of d i.var).kind kind.Input) && is_name i.name) _ front in
      seen_more (first_true (is_behind nat_lt latest i.var) _ (sym told_before ∙ told))
      (input_among vars i.var there (second_true (is_plain_var d i.var) _ input)) new added

-- at first nothing is kept
pub seen_none : (vars : List Var) (held : NameSet) → held.entries ≡ [] → AreSeen vars [] None held
seen_none vars held empty = record {
  last = λ k. refl;
  names = λ name. ap (λ es. is_some (lookup (is_at (λ (k : Bor (List ℕ)). slice_cmp nat_cmp name k.now)) es)) empty;
  ascend = refl;
  inputs = refl;
}

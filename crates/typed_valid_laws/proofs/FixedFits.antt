-- What a constant means fits its size, where the numbers inside fit: by induction on the expression.
use Rattle.std.proofs.Common.{◌≡◌, ◌∙◌, sym, ap, subst, refl, ℕ, zero, suc, ◌+◌, ◌*◌, ◌^◌, ◌<◌, ◌≤◌, max, Bool, true, false, ◌&&◌, not, nat_lt, if◌then◌else◌}
use Rattle.std.proofs.Common.{List, [], ◌∷◌, map, Option, Some, None, ℤ, pos, negsuc, arith, pow_pos, le_refl, le_trans, ltb-false, le_antisymm}
use Rattle.std.specs.Prelude.{nat_le, slice_get, ◌-◌, ◌==◌, ◌||◌, bit_and, bit_or, bit_xor, count_ones}
use Rattle.std.specs.List.{list_all}
use Rattle.std.proofs.lemmas.Grind.{common_steps}
use Rattle.std.proofs.lemmas.Nat.{mod_below}
use Rattle.std.proofs.Math.Nat.{le-max_left, le-max_right}
use Rattle.bit_values.specs.Values as value
use Rattle.bit_values.proofs.SizeLaws.{extend_fits, concat_fit}
use Rattle.bit_values.proofs.ResultLaws as fits
use Rattle.vlog_tree.specs.declared.operator.UnaryOp.{UnaryOp}
use Rattle.vlog_tree.specs.declared.operator.UnaryOp.TheVariants as unary
use Rattle.vlog_tree.specs.declared.operator.BinaryOp.{BinaryOp}
use Rattle.vlog_tree.specs.declared.operator.BinaryOp.TheVariants as binary
use Rattle.vlog_tree.specs.declared.operator.SystemCall.{SystemCall}
use Rattle.vlog_tree.specs.declared.operator.SystemCall.TheVariants as call
use Rattle.elab_types.specs.declared.flat_source.FlatVar.{FlatVar}
use Rattle.elab_types.specs.declared.flat_expression.FlatExpr.{FlatExpr}
use Rattle.elab_types.specs.declared.flat_expression.FlatExpr.TheVariants as e
use Rattle.elab_types.specs.declared.flat_expression.FlatSelect.{FlatSelect}
use Rattle.circuit_run.specs.States.{State, held, word_at}
use Rattle.source_meaning.specs.Meaning.{
  Meaning,
  Object,
  whole,
  word,
  part,
  word_part,
  in_size,
  by_itself,
  one_bit,
  own,
  holds,
  total_size,
  all_constant,
  fixed_value,
  fixed_integer,
  at_least_0,
}
use Rattle.source_meaning.specs.Selects.{Selection, selected, select_object, object_or_none, meaning_of_object, object_size, read}
use Rattle.source_meaning.specs.Operators.{
  unary_of,
  binary_of,
  chosen,
  in_context,
  shifted,
  compared,
  of_tests,
  below,
  at_most,
  quotient,
  remainder,
  filled_shift,
}
use Rattle.source_meaning.specs.Joins.{joined, joined_value, repeated, copies, called, powers_below, ceil_log2}
use Rattle.source_meaning.specs.Environment.{named}
use Rattle.flat_meaning.specs.Expressions.{meaning, variable_of, found}
use Rattle.flat_meaning.proofs.Meanings as of
use Rattle.design_meaning.proofs.ListLaws.{left_true, right_true}
use Rattle.lower_meaning.proofs.FlatInduction.{Some as OfSome, alone, flat_induction}
use Rattle.typed_valid_laws.proofs.FitFolds as folds
use Rattle.typed_valid_laws.proofs.FitFolds.{fit}

-- what a meaning is worth without variables is a value of each size that holds it
abbrev pub Fits : Meaning → Type 0
Fits m = (n : ℕ) (by_sign : Bool) → m.size ≤ n → m.value [] n by_sign < 2 ^ n

flag_fits : (b : Bool) → value.flag b < 2 ^ 1
flag_fits true = omega arith
flag_fits false = omega arith

-- ---- sizes

if_fits : (c : Bool) (size n x y : ℕ) → x < 2 ^ n → (c ≡ false → y < 2 ^ n) → (if c then x else y) < 2 ^ n
if_fits true size n x y p q = p
if_fits false size n x y p q = q refl

sized_fits : (size n : ℕ) (by_sign : Bool) (x : ℕ) → x < 2 ^ size → size ≤ n → in_size size n by_sign x < 2 ^ n
sized_fits size n by_sign x p le =
    if_fits (nat_lt size n) size n (value.extend size n by_sign x) x (extend_fits size n x by_sign le p)
    (λ h. subst (λ w. x < 2 ^ w) (le_antisymm le (ltb-false size n h)) p)

itself_fits : (size : ℕ) (signed constant : Bool) (f : State → ℕ) → f [] < 2 ^ size → Fits (by_itself size signed constant f)
itself_fits size signed constant f p n by_sign le = sized_fits size n by_sign (f []) p le

pub own_fits : (m : Meaning) → Fits m → own m [] < 2 ^ m.size
own_fits m h = h m.size m.signed (le_refl m.size)

-- ---- operators

-- a result of one bit
bit_fits : (constant : Bool) (f : State → ℕ) → f [] < 2 ^ 1 → Fits (one_bit constant f)
bit_fits constant f p = itself_fits 1 false constant f p

unary_fits : (op : UnaryOp) (a : Meaning) → Fits a → Fits (unary_of op a)
unary_fits unary.Plus a h = h
unary_fits unary.Minus a h = λ n by_sign le. fits.neg_fits n (a.value [] n by_sign)
unary_fits unary.Complement a h = λ n by_sign le. fits.not_fits n (a.value [] n by_sign)
unary_fits unary.LogicalNot a h = bit_fits a.constant (λ s. value.not 1 (value.red_or (own a s))) (fits.not_fits 1 (value.red_or (own a [])))
unary_fits unary.ReduceAnd a h = bit_fits a.constant (λ s. value.red_and a.size (own a s)) (flag_fits (own a [] == 2 ^ a.size - 1))
unary_fits unary.ReduceNand a h = bit_fits a.constant (λ s. value.not 1 (value.red_and a.size (own a s))) (fits.not_fits 1 (value.red_and a.size (own a [])))
unary_fits unary.ReduceOr a h = bit_fits a.constant (λ s. value.red_or (own a s)) (flag_fits (nat_lt 0 (own a [])))
unary_fits unary.ReduceNor a h = bit_fits a.constant (λ s. value.not 1 (value.red_or (own a s))) (fits.not_fits 1 (value.red_or (own a [])))
unary_fits unary.ReduceXor a h = bit_fits a.constant (λ s. value.red_xor (own a s)) (mod_below (count_ones (own a [])) (2 ^ 1) (pow_pos 1))
unary_fits unary.ReduceTildeCaret a h = bit_fits a.constant (λ s. value.not 1 (value.red_xor (own a s))) (fits.not_fits 1 (value.red_xor (own a [])))
unary_fits unary.ReduceCaretTilde a h = bit_fits a.constant (λ s. value.not 1 (value.red_xor (own a s))) (fits.not_fits 1 (value.red_xor (own a [])))

context_fits : (f : ℕ → Bool → ℕ → ℕ → ℕ) (a b : Meaning) → ((n : ℕ) (by_sign : Bool) (x y : ℕ) → x < 2 ^ n → y < 2 ^ n → f n by_sign x y < 2 ^ n)
    → Fits a → Fits b → Fits (in_context f a b)
context_fits f a b k ha hb n by_sign le =
    k n by_sign (a.value [] n by_sign) (b.value [] n by_sign) (ha n by_sign (le_trans (le-max_left a.size b.size) le))
    (hb n by_sign (le_trans (le-max_right a.size b.size) le))

shift_fits : (f : ℕ → Bool → ℕ → ℕ → ℕ) (a b : Meaning) → ((n : ℕ) (by_sign : Bool) (x y : ℕ) → x < 2 ^ n → f n by_sign x y < 2 ^ n) → Fits a
    → Fits (shifted f a b)
shift_fits f a b k ha n by_sign le = k n by_sign (a.value [] n by_sign) (own b []) (ha n by_sign le)

quotient_fits : (n : ℕ) (by_sign : Bool) (x y : ℕ) → x < 2 ^ n → quotient n by_sign x y < 2 ^ n
quotient_fits n true x y p = fits.sdiv_fits n x y
quotient_fits n false x y p = fits.udiv_fits n x y p

remainder_fits : (n : ℕ) (by_sign : Bool) (x y : ℕ) → x < 2 ^ n → remainder n by_sign x y < 2 ^ n
remainder_fits n true x y p = fits.srem_fits n x y
remainder_fits n false x y p = fits.urem_fits n x y p

filled_fits : (n : ℕ) (by_sign : Bool) (x y : ℕ) → x < 2 ^ n → filled_shift n by_sign x y < 2 ^ n
filled_fits n true x y p = fits.sar_fits n x y
filled_fits n false x y p = fits.shr_fits n x y p

below_fits : (n : ℕ) (by_sign : Bool) (x y : ℕ) → below n by_sign x y < 2 ^ 1
below_fits n true x y = flag_fits _
below_fits n false x y = flag_fits _

at_most_fits : (n : ℕ) (by_sign : Bool) (x y : ℕ) → at_most n by_sign x y < 2 ^ 1
at_most_fits n true x y = flag_fits _
at_most_fits n false x y = flag_fits _

comparison_fits : (f : ℕ → Bool → ℕ → ℕ → ℕ) (a b : Meaning) → ((n : ℕ) (by_sign : Bool) (x y : ℕ) → f n by_sign x y < 2 ^ 1) → Fits (compared f a b)
comparison_fits f a b k =
    let n = max a.size b.size in
    let by_sign = a.signed && b.signed in
    bit_fits (a.constant && b.constant) (λ s. f n by_sign (a.value s n by_sign) (b.value s n by_sign))
    (k n by_sign (a.value [] n by_sign) (b.value [] n by_sign))

tests_fit : (f : Bool → Bool → Bool) (a b : Meaning) → Fits (of_tests f a b)
tests_fit f a b = bit_fits (a.constant && b.constant) (λ s. value.flag (f (holds a s) (holds b s))) (flag_fits (f (holds a []) (holds b [])))

binary_fits : (op : BinaryOp) (a b : Meaning) → Fits a → Fits b → Fits (binary_of op a b)
binary_fits binary.Add a b ha hb = context_fits (λ n by_sign x y. value.add n x y) a b (λ n by_sign x y p q. fits.add_fits n x y) ha hb
binary_fits binary.Subtract a b ha hb = context_fits (λ n by_sign x y. value.sub n x y) a b (λ n by_sign x y p q. fits.sub_fits n x y) ha hb
binary_fits binary.Multiply a b ha hb = context_fits (λ n by_sign x y. value.mul n x y) a b (λ n by_sign x y p q. fits.mul_fits n x y) ha hb
binary_fits binary.Divide a b ha hb = context_fits quotient a b (λ n by_sign x y p q. quotient_fits n by_sign x y p) ha hb
binary_fits binary.Remainder a b ha hb = context_fits remainder a b (λ n by_sign x y p q. remainder_fits n by_sign x y p) ha hb
binary_fits binary.And a b ha hb = context_fits (λ n by_sign x y. bit_and x y) a b (λ n by_sign x y p q. fits.and_fits n x y p q) ha hb
binary_fits binary.Or a b ha hb = context_fits (λ n by_sign x y. bit_or x y) a b (λ n by_sign x y p q. fits.or_fits n x y p q) ha hb
binary_fits binary.Xor a b ha hb = context_fits (λ n by_sign x y. bit_xor x y) a b (λ n by_sign x y p q. fits.xor_fits n x y p q) ha hb
binary_fits binary.TildeCaret a b ha hb = context_fits (λ n by_sign x y. value.not n (bit_xor x y)) a b
    (λ n by_sign x y p q. fits.not_fits n (bit_xor x y)) ha hb
binary_fits binary.CaretTilde a b ha hb = context_fits (λ n by_sign x y. value.not n (bit_xor x y)) a b
    (λ n by_sign x y p q. fits.not_fits n (bit_xor x y)) ha hb
binary_fits binary.ShiftLeft a b ha hb = shift_fits (λ n by_sign x y. value.shl n x y) a b (λ n by_sign x y p. fits.shl_fits n x y) ha
binary_fits binary.ArithmeticShiftLeft a b ha hb = shift_fits (λ n by_sign x y. value.shl n x y) a b (λ n by_sign x y p. fits.shl_fits n x y) ha
binary_fits binary.ShiftRight a b ha hb = shift_fits (λ n by_sign x y. value.shr x y) a b (λ n by_sign x y p. fits.shr_fits n x y p) ha
binary_fits binary.ArithmeticShiftRight a b ha hb = shift_fits filled_shift a b filled_fits ha
binary_fits binary.Equal a b ha hb = comparison_fits (λ n by_sign x y. value.equal x y) a b (λ n by_sign x y. flag_fits (x == y))
binary_fits binary.CaseEqual a b ha hb = comparison_fits (λ n by_sign x y. value.equal x y) a b (λ n by_sign x y. flag_fits (x == y))
binary_fits binary.NotEqual a b ha hb = comparison_fits (λ n by_sign x y. value.not 1 (value.equal x y)) a b
    (λ n by_sign x y. fits.not_fits 1 (value.equal x y))
binary_fits binary.CaseNotEqual a b ha hb = comparison_fits (λ n by_sign x y. value.not 1 (value.equal x y)) a b
    (λ n by_sign x y. fits.not_fits 1 (value.equal x y))
binary_fits binary.Less a b ha hb = comparison_fits below a b below_fits
binary_fits binary.LessOrEqual a b ha hb = comparison_fits at_most a b at_most_fits
binary_fits binary.Greater a b ha hb = comparison_fits (λ n by_sign x y. below n by_sign y x) a b (λ n by_sign x y. below_fits n by_sign y x)
binary_fits binary.GreaterOrEqual a b ha hb = comparison_fits (λ n by_sign x y. at_most n by_sign y x) a b (λ n by_sign x y. at_most_fits n by_sign y x)
binary_fits binary.LogicalAnd a b ha hb = tests_fit (λ p q. p && q) a b
binary_fits binary.LogicalOr a b ha hb = tests_fit (λ p q. p || q) a b

either : (c : Bool) (n x y : ℕ) → x < 2 ^ n → y < 2 ^ n → (if c then x else y) < 2 ^ n
either true n x y p q = p
either false n x y p q = q

choice_fits : (test a b : Meaning) → Fits a → Fits b → Fits (chosen test a b)
choice_fits test a b ha hb n by_sign le =
    either (holds test []) n (a.value [] n by_sign) (b.value [] n by_sign) (ha n by_sign (le_trans (le-max_left a.size b.size) le))
    (hb n by_sign (le_trans (le-max_right a.size b.size) le))

-- ---- joins

abbrev pub AllFit : List Meaning → Type 0
AllFit [] = Unit {0}
AllFit (m ∷ ms) = Fits m × AllFit ms

joined_fits : (ms : List Meaning) → AllFit ms → joined_value ms [] < 2 ^ total_size ms
joined_fits [] h = pow_pos 0
joined_fits (m ∷ ms) h = concat_fit m.size (total_size ms) (own m []) (joined_value ms []) (own_fits m h.0) (joined_fits ms h.1)

copies_fit : (k size n : ℕ) → n < 2 ^ size → copies k size n < 2 ^ (k * size)
copies_fit zero size n h = pow_pos (0 * size)
copies_fit (suc k) size n h = subst (λ m. value.concat size (copies k size n) n < 2 ^ m) (grind (arith, common_steps))
    (concat_fit (k * size) size (copies k size n) n (copies_fit k size n h) h)

joined_whole : (ms : List Meaning) → AllFit ms → Fits (joined ms)
joined_whole ms h = itself_fits (total_size ms) false (all_constant ms) (joined_value ms) (joined_fits ms h)

repeated_whole : (count : Meaning) (ms : List Meaning) → AllFit ms → Fits (repeated count ms)
repeated_whole count ms h =
    let k = at_least_0 (fixed_integer count) in
    itself_fits (k * total_size ms) false (count.constant && all_constant ms) (λ s. copies k (total_size ms) (joined_value ms s))
    (copies_fit k (total_size ms) (joined_value ms []) (joined_fits ms h))

-- ---- `$clog2`

powers_few : (most n : ℕ) → powers_below most n ≤ most
unfolding powers_below
powers_few zero n = le_refl 0
powers_few (suc most) n = omega (arith, powers_few most n, flag_fits (nat_lt (2 ^ most) n))

pub log_fits : (a : Meaning) → ceil_log2 (fixed_value a) < 2 ^ 32
log_fits a = omega (arith, powers_few 128 (fixed_value a))

call_fits : (f : SystemCall) (a : Meaning) → Fits a → Fits (called f a)
call_fits call.Signed a h = itself_fits a.size true a.constant (own a) (own_fits a h)
call_fits call.Unsigned a h = itself_fits a.size false a.constant (own a) (own_fits a h)
call_fits call.CeilLog2 a h = itself_fits 32 true a.constant (λ s. ceil_log2 (fixed_value a)) (log_fits a)

-- ---- objects

no_words_at : (k : ℕ) (z : ℤ) → word_at (held [] k) z ≡ 0
no_words_at k (pos n) = refl
no_words_at k (negsuc n) = refl

read_fits : (o : Object) → read o [] < 2 ^ object_size o
read_fits (whole v) = subst (λ x. x < 2 ^ v.width) (sym (no_words_at v.number (pos 0))) (pow_pos v.width)
read_fits (word v k) = subst (λ x. x < 2 ^ v.width) (sym (no_words_at v.number (k.at []))) (pow_pos v.width)
read_fits (part v low width) = fits.select_fits width _ (low.at [])
read_fits (word_part v k low width) = fits.select_fits width _ (low.at [])

object_fits : (o : Object) → Fits (meaning_of_object o)
object_fits o = itself_fits (object_size o) false false (read o) (read_fits o)

some_fits : (o : Option Object) → Fits (object_or_none o)
some_fits (Some o) = object_fits o
some_fits None = itself_fits 0 false false (λ s. 0) (pow_pos 0)

found_fits : (k : ℕ) (v : Option FlatVar) → Fits (named (found k v))
found_fits k (Some v) = object_fits (whole (variable_of k v))
found_fits k None = some_fits None

-- ---- the whole

module _ (vars : List FlatVar) where
  abbrev HasFit : FlatExpr → Type 0
  HasFit a = fit vars a ≡ true → Fits (meaning vars a)

  all_fit : (parts : List (OfSome HasFit)) → list_all (fit vars) (alone parts) ≡ true → AllFit (map (meaning vars) (alone parts))
  all_fit [] h = tt
  all_fit (p ∷ parts) h = (
    p.1 (left_true (fit vars p.0) (list_all (fit vars) (alone parts)) h),
    all_fit parts (right_true (fit vars p.0) (list_all (fit vars) (alone parts)) h),
  )

  -- the values of constants fit their sizes
  pub constant_fits : (a : FlatExpr) → fit vars a ≡ true → Fits (meaning vars a)
  constant_fits = flat_induction HasFit (λ s. Unit {0})
      (λ w signed n free h. subst Fits (sym (of.of-Number vars w signed n free))
      (itself_fits w signed true (λ s. n)
      (grind (arith, common_steps, right_true (nat_le 1 w) (nat_lt n (2 ^ w)) (sym (folds.fits-Number vars w signed n free) ∙ h)))))
      (λ k h. subst Fits (sym (of.of-Var vars k)) (found_fits k (slice_get vars k)))
      (λ base s p q h. subst Fits (sym (of.of-Select vars base s)) (some_fits (select_object (meaning vars base).objects _)))
      (λ op a p h. subst Fits (sym (of.of-Unary vars op a)) (unary_fits op (meaning vars a) (p (sym (folds.fits-Unary vars op a) ∙ h))))
      (λ op a b p q h.
      let k = sym (folds.fits-Binary vars op a b) ∙ h in
      subst Fits (sym (of.of-Binary vars op a b))
      (binary_fits op (meaning vars a) (meaning vars b) (p (left_true (fit vars a) (fit vars b) k)) (q (right_true (fit vars a) (fit vars b) k))))
      (λ test a b g p q h.
      let k = sym (folds.fits-Choose vars test a b) ∙ h in
      subst Fits (sym (of.of-Choose vars test a b))
      (choice_fits (meaning vars test) (meaning vars a) (meaning vars b)
      (p (right_true (fit vars test) (fit vars a) (left_true (fit vars test && fit vars a) (fit vars b) k)))
      (q (right_true (fit vars test && fit vars a) (fit vars b) k))))
      (λ parts h. subst Fits (sym (of.of-Join vars (alone parts)))
      (joined_whole (map (meaning vars) (alone parts)) (all_fit parts (sym (folds.fits-Join vars (alone parts)) ∙ h))))
      (λ count parts p h. subst Fits (sym (of.of-Repeat vars count (alone parts)))
      (repeated_whole (meaning vars count) (map (meaning vars) (alone parts))
      (all_fit parts (right_true (fit vars count) (list_all (fit vars) (alone parts)) (sym (folds.fits-Repeat vars count (alone parts)) ∙ h)))))
      (λ f a p h. subst Fits (sym (of.of-Call vars f a)) (call_fits f (meaning vars a) (p (sym (folds.fits-Call vars f a) ∙ h))))
      (λ i p. tt) (λ high low p q. tt) (λ i count p q. tt) (λ i count p q. tt)

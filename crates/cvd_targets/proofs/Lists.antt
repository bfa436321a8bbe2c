-- One element more of a list: what is summed up, and how many pieces it takes.
use Rattle.std.proofs.Common.{◌≡◌, ℕ, ◌+◌, ◌*◌, ◌-◌, ◌<◌, ◌≤◌, ◌^◌, Bool, true, false, cond, List, [], ◌∷◌, ◌++◌, length, map, Some, None, refl, sym, ◌∙◌, ap}
use Rattle.std.proofs.Common.{arith, length-append}
use Rattle.std.specs.Prelude.{◌&&◌, min, nat_le, nat_lt}
use Rattle.std.specs.List.{list_all}
use Rattle.std.proofs.lemmas.Bool.{true≢false}
use Rattle.std.proofs.lemmas.Bool.Decides.{nat_tests}
use mathlib.Core.Logic.{inl, inr}
use Rattle.circuit_run.specs.Lists.{total}
use Rattle.spelling_laws.specs.Spelled.{Apart}
use Rattle.spelling_laws.specs.Lists.{Many, many, all_marks, many_marks, state_behind}
use Rattle.spelling_laws.proofs.Fitting.{same_length, length-joined}
use Rattle.cvd_text.specs.Pieces.{Mark, fits}
use Rattle.cvd_cursor.specs.Numerals.{below}
use Rattle.cvd_cursor.specs.Places.{Reading}
use Rattle.cvd_cursor.specs.Reads.{Takes, Refused}
use Rattle.cvd_cursor.specs.declared.fault.ReadFault.{ReadFault}
use Rattle.cvd_cursor.proofs.Lists.{takes_none, takes_more, takes_many, refused_next}
use Rattle.cvd_targets.specs.Lists.{AreTurns, fits_all}

pub left_of : (a b : Bool) → (a && b) ≡ true → a ≡ true
left_of true b e = refl
left_of false b e = absurd (true≢false (sym e))

pub right_of : (a b : Bool) → (a && b) ≡ true → b ≡ true
right_of true b e = e
right_of false b e = absurd (true≢false (sym e))

pub both : (a b : Bool) → a ≡ true → b ≡ true → (a && b) ≡ true
both a b e f = ap (λ x. x && b) e ∙ f

pub both_false : (a b : Bool) → a ≡ false → (a && b) ≡ false
both_false a b e = ap (λ x. x && b) e

pub and_false : (a b : Bool) → b ≡ false → (a && b) ≡ false
and_false true b e = e
and_false false b e = refl

pub never : (b : Bool) → (b ≡ true → ⊥) → b ≡ false
never true h = absurd (h refl)
never false h = refl

pub le_of : (n m : ℕ) → nat_le n m ≡ true → n ≤ m
le_of n m h = grind (arith, nat_tests)

pub test_le : (n m : ℕ) → n ≤ m → nat_le n m ≡ true
test_le n m h = grind (arith, nat_tests)

pub test_above : (n m : ℕ) → m < n → nat_le n m ≡ false
test_above n m h = grind (arith, nat_tests)

-- a sum that stops at the greatest number of its type
pub over : (a b sum m : ℕ) → sum ≡ min (a + b) (2 ^ 64 - 1) → m < sum → m < a + b
over a b sum m e h = grind arith

pub exactly : (a b sum m : ℕ) → sum ≡ min (a + b) (2 ^ 64 - 1) → sum ≤ m → m < 2 ^ 64 - 1 → sum ≡ a + b
exactly a b sum m e h k = grind arith

-- ---- numbers that their types may hold

pub below_some : (limit n v : ℕ) → Some v ≡ below limit n → (n < limit) × (v ≡ n)
below_some limit n v e = by (nat_lt n limit) refl e
  where
    by : (b : Bool) → nat_lt n limit ≡ b → Some v ≡ cond b (Some n) None → (n < limit) × (v ≡ n)
    by true p e = (grind (arith, nat_tests), cc)
    by false p e = absurd (cc)

pub below_none : (limit n : ℕ) → None ≡ below limit n → nat_lt n limit ≡ false
below_none limit n e = by (nat_lt n limit) refl e
  where
    by : (b : Bool) → nat_lt n limit ≡ b → None ≡ cond b (Some n) None → nat_lt n limit ≡ false
    by true p e = absurd (cc)
    by false p e = p

-- ---- sums

module _ {A : Type 0} (f : A → Bool) (g h : A → ℕ) (m n : ℕ) where
  pub total_more : (k : A → ℕ) (xs : List A) (x : A) → total (map k (xs ++ x ∷ [])) ≡ total (map k xs) + k x
  total_more k [] x = omega arith
  total_more k (y ∷ xs) x = let more = total_more k xs x in omega arith

  all_more : (xs : List A) (x : A) → list_all f (xs ++ x ∷ []) ≡ (list_all f xs && f x)
  all_more [] x = by (f x)
    where
      by : (b : Bool) → (b && true) ≡ b
      by true = refl
      by false = refl
  all_more (y ∷ xs) x = ap (λ b. f y && b) (all_more xs x) ∙ by (f y) (list_all f xs) (f x)
    where
      by : (a b c : Bool) → (a && (b && c)) ≡ ((a && b) && c)
      by true b c = refl
      by false b c = refl

  abbrev fit : List A → Bool
  fit = fits_all f g h m n

  pub record Parts (xs : List A) (x : A) : Type 0 where
    pub before : fit xs ≡ true
    pub one : f x ≡ true
    pub first : total (map g xs) + g x ≤ m
    pub second : total (map h xs) + h x ≤ n

  pub more_fits : (xs : List A) (x : A) → fit xs ≡ true → f x ≡ true → total (map g xs) + g x ≤ m → total (map h xs) + h x ≤ n
      → fit (xs ++ x ∷ []) ≡ true
  more_fits xs x before one first second =
      let all = left_of (list_all f xs) _ (left_of _ _ before) in
      both _ _ (both _ _ (all_more xs x ∙ both _ _ all one) (test_le _ m (let t = total_more g xs x in omega arith)))
      (test_le _ n (let t = total_more h xs x in omega arith))

  parts : (xs : List A) (x : A) → fit (xs ++ x ∷ []) ≡ true → Parts xs x
  parts xs x e =
      let firsts = left_of (list_all f (xs ++ x ∷ []) && nat_le (total (map g (xs ++ x ∷ []))) m) (nat_le (total (map h (xs ++ x ∷ []))) n) e in
      let all = sym (all_more xs x) ∙ left_of (list_all f (xs ++ x ∷ [])) (nat_le (total (map g (xs ++ x ∷ []))) m) firsts in
      let few = le_of (total (map g (xs ++ x ∷ []))) m (right_of (list_all f (xs ++ x ∷ [])) (nat_le (total (map g (xs ++ x ∷ []))) m) firsts) in
      let low = le_of (total (map h (xs ++ x ∷ []))) n (right_of (list_all f (xs ++ x ∷ []) && nat_le (total (map g (xs ++ x ∷ []))) m) _ e) in
      let t = total_more g xs x in
      let u = total_more h xs x in
      record {
        before = both _ _ (both _ _ (left_of (list_all f xs) (f x) all) (test_le (total (map g xs)) m (omega arith)))
            (test_le (total (map h xs)) n (omega arith));
        one = right_of (list_all f xs) (f x) all;
        first = omega arith;
        second = omega arith;
      }

  pub not_before : (xs : List A) (x : A) → fit xs ≡ false → fit (xs ++ x ∷ []) ≡ false
  not_before xs x e = never _ (λ k. true≢false (sym (parts xs x k).before ∙ e))

  pub not_one : (xs : List A) (x : A) → (f x && nat_le (g x) m && nat_le (h x) n) ≡ false → fit (xs ++ x ∷ []) ≡ false
  not_one xs x e = never _ (λ k.
      let p = parts xs x k in
      let a = p.first in
      let b = p.second in
      true≢false (sym (both (f x && nat_le (g x) m) (nat_le (h x) n) (both (f x) (nat_le (g x) m) p.one (test_le (g x) m (omega arith)))
      (test_le (h x) n (omega arith))) ∙ e))

  pub not_first : (xs : List A) (x : A) → m < total (map g xs) + g x → fit (xs ++ x ∷ []) ≡ false
  not_first xs x e = never _ (λ k. let a = (parts xs x k).first in absurd (omega arith))

  pub not_second : (xs : List A) (x : A) → n < total (map h xs) + h x → fit (xs ++ x ∷ []) ≡ false
  not_second xs x e = never _ (λ k. let a = (parts xs x k).second in absurd (omega arith))

  pub few : (xs : List A) → fit xs ≡ true → (total (map g xs) ≤ m) × (total (map h xs) ≤ n)
  few xs e =
      let firsts = left_of (list_all f xs && nat_le (total (map g xs)) m) (nat_le (total (map h xs)) n) e in (
        le_of (total (map g xs)) m (right_of (list_all f xs) (nat_le (total (map g xs)) m) firsts),
        le_of (total (map h xs)) n (right_of (list_all f xs && nat_le (total (map g xs)) m) _ e),
      )

-- ---- loops over so many

module _ (A S : Type 0) (spelled : S → A → List Mark) (next : S → A → S) where
  -- behind some values, of which something is held, so many more are to read
  pub record Going (P : List A → Type 0) (s : S) (old now : Reading) (turns left : ℕ) : Type 0 where
    pub items : List A
    pub takes : Takes (all_marks spelled next s) old now items
    pub count : left + length items ≡ turns
    pub held : P items

  pub at_first : (P : List A → Type 0) (s : S) (old : Reading) (turns : ℕ) → P [] → Going P s old old turns turns
  at_first P s old turns h = record { items = []; takes = takes_none A S spelled next s old; count = omega arith; held = h }

  -- one more is read
  pub goes_on : (P Q : List A → Type 0) (s : S) (old now mid : Reading) (turns left fewer : ℕ) (g : Going P s old now turns left) (x : A)
      → Takes (spelled (state_behind spelled next s g.items)) now mid x → fewer + 1 ≡ left → Q (g.items ++ x ∷ []) → Going Q s old mid turns fewer
  goes_on P Q s old now mid turns left fewer g x t e h = record {
    items = g.items ++ x ∷ [];
    takes = takes_more A S spelled next s g.items x old now mid g.takes t;
    count = let c = g.count in omega (arith, length-append g.items (x ∷ []));
    held = h;
  }

  long : ((s : S) (a : A) → 1 ≤ length (spelled s a)) → (s : S) (xs : List A) → length xs ≤ length (all_marks spelled next s xs)
  long some s [] = omega arith
  long some s (x ∷ xs) =
      let more = long some (next s x) xs in
      let one = some s x in
      let sum = length-append (spelled s x) (all_marks spelled next (next s x) xs) in
      omega arith

  -- values take a piece each at least
  room : ((s : S) (a : A) → 1 ≤ length (spelled s a)) → (s : S) (xs : List A) (old new : Reading) → Takes (all_marks spelled next s) old new xs
      → length xs ≤ length old.rest
  room some s xs old new h =
      let cut = ap length h.read.split ∙ length-joined h.read.given new.rest in
      let fit = same_length fits h.read.given (all_marks spelled next s xs) h.read.fit in
      let least = long some s xs in
      omega arith

  -- all are read
  pub finished : ((s : S) (a : A) → 1 ≤ length (spelled s a)) → (P : List A → Type 0) (s : S) (old now : Reading) (turns left n bytes : ℕ)
      (g : Going P s old now turns left) → left ≡ 0 → AreTurns bytes n turns → length old.rest ≤ 2 * bytes + 1
      → (m : Many A n) × (Takes (many_marks spelled next n s) old now m × P m.items)
  finished some P s old now turns left n bytes g none are most =
      (many n g.items count, (takes_many A S spelled next n s g.items count old now g.takes, g.held))
    where
      count : length g.items ≡ n
      count =
          let c = g.count in
          let enough = room some s g.items old now g.takes in
          elim are [ inl same ↦ omega arith | inr far ↦ let a = far.0 in let b = far.1 in absurd (omega arith) ]

  -- the next is refused
  pub stopped : ((s : S) → Apart fits (spelled s)) → A → (P : List A → Type 0) (s : S) (old now new : Reading) (fault : ReadFault)
      (turns left n bytes : ℕ) (g : Going P s old now turns left) → 0 < left → AreTurns bytes n turns
      → Refused (spelled (state_behind spelled next s g.items)) now fault new → Refused (many_marks spelled next n s) old fault new
  stopped apart some P s old now new fault turns left n bytes g more are r =
      refused_next A S spelled next apart some n s g.items few_read old now new fault g.takes r
    where
      few_read : length g.items < n
      few_read =
          let c = g.count in
          elim are [ inl same ↦ omega arith | inr far ↦ let a = far.0 in omega arith ]

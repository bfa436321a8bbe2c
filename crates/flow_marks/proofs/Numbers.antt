-- No two bits have one number, and no two columns.
use Rattle.std.proofs.Common.{◌≡◌, ℕ, zero, suc, ◌+◌, ◌*◌, ◌<◌, ◌≤◌, List, [], ◌∷◌, length, get_or, ap, subst, inl, inr, arith}
use Rattle.std.proofs.Math.Nat.{mul-le-mul_right}
use Rattle.std.proofs.lemmas.Bool.{cases_lt}
use Rattle.circuit_run.specs.States.{Bit}
use Rattle.flow_marks.specs.declared.slot.Slot.{Slot}
use Rattle.flow_marks.specs.Slots.{before, slot_of, no_slot, size, wide, AreLaid, IsIn, number}

-- ---- cells of rows of one length

pub cell_below : (w n p k : ℕ) → w < n → p < k → w * k + p < n * k
cell_below w n p k h l = let m : (w + 1) * k ≤ n * k = mul-le-mul_right k (let i : w + 1 ≤ n = omega arith in i) in omega arith

pub cell_word : (v w p q k : ℕ) → p < k → q < k → v * k + p ≡ w * k + q → v ≡ w
cell_word v w p q k h l e = elim (cases_lt v w) [
  | inl a ↦ absurd (let m : v * k + p < w * k = cell_below v w p k a h in omega arith)
  | inr a ↦ elim (cases_lt w v) [
    | inl b ↦ absurd (let m : w * k + q < v * k = cell_below w v q k b l in omega arith)
    | inr b ↦ omega arith
  ]
]

pub cell_place : (v w p q k : ℕ) → p < k → q < k → v * k + p ≡ w * k + q → p ≡ q
cell_place v w p q k h l e = let i : v ≡ w = cell_word v w p q k h l e in let j : v * k ≡ w * k = ap (λ n. n * k) i in omega arith

-- ---- sums over the first of a list

module _ {X : Type 0} (f : X → ℕ) where
  pub before_next : (xs : List X) (n : ℕ) (d : X) → n < length xs → before f xs (suc n) ≡ before f xs n + f (get_or xs n d)
  before_next [] n d h = absurd (omega arith)
  before_next (x ∷ []) zero d h = omega arith
  before_next (x ∷ y ∷ xs) zero d h = omega arith
  before_next (x ∷ xs) (suc n) d h = let r : before f xs (suc n) ≡ before f xs n + f (get_or xs n d) = before_next xs n d (omega arith) in omega arith

  pub before_up : (xs : List X) (m n : ℕ) → m ≤ n → before f xs m ≤ before f xs n
  before_up [] m n h = omega arith
  before_up (x ∷ xs) zero n h = omega arith
  before_up (x ∷ xs) (suc m) zero h = absurd (omega arith)
  before_up (x ∷ xs) (suc m) (suc n) h = let r : before f xs m ≤ before f xs n = before_up xs m n (omega arith) in omega arith

  -- what belongs to a lesser one stands before
  pub before_less : (xs : List X) (m n : ℕ) (d : X) → m < n → n ≤ length xs → before f xs m + f (get_or xs m d) ≤ before f xs n
  before_less xs m n d h l = let r : before f xs (suc m) ≡ before f xs m + f (get_or xs m d) = before_next xs m d (omega arith) in let u : before f xs (suc
      m) ≤ before f xs n = before_up xs (suc m) n (omega arith) in omega arith

-- ---- bits

module _ (slots : List Slot) (laid : AreLaid slots) where
  cell : Bit → ℕ
  cell b = b.word * (slot_of slots b.var).width + b.place

  inside : (b : Bit) → IsIn slots b → b.word * (slot_of slots b.var).width + b.place < size (slot_of slots b.var)
  inside b h = cell_below b.word (slot_of slots b.var).words b.place (slot_of slots b.var).width h.of_word h.in_width

  pub number_below : (b : Bit) → IsIn slots b → number slots b < before size slots (length slots)
  number_below b h =
      let r : before size slots b.var + size (slot_of slots b.var) ≤ before size slots (length slots) = before_less size slots b.var (length slots) no_slot
      h.of_variable (omega arith) in
      omega (arith, laid.bit b.var h.of_variable, inside b h)

  less_apart : (a b : Bit) → IsIn slots a → IsIn slots b → a.var < b.var → number slots a < number slots b
  less_apart a b h k l =
      let m : b.var < length slots = k.of_variable in
      let r : before size slots a.var + size (slot_of slots a.var) ≤ before size slots b.var = before_less size slots a.var b.var no_slot l (omega arith) in
      omega (arith, laid.bit a.var h.of_variable, laid.bit b.var k.of_variable, inside a h)

  pub same_variable : (a b : Bit) → IsIn slots a → IsIn slots b → number slots a ≡ number slots b → a.var ≡ b.var
  same_variable a b h k e = elim (cases_lt a.var b.var) [
    | inl l ↦ absurd (let m : number slots a < number slots b = less_apart a b h k l in omega arith)
    | inr l ↦ elim (cases_lt b.var a.var) [
      | inl n ↦ absurd (let m : number slots b < number slots a = less_apart b a k h n in omega arith)
      | inr n ↦ omega arith
    ]
  ]

  same_cell : (a b : Bit) → number slots a ≡ number slots b → a.var ≡ b.var
      → a.word * (slot_of slots b.var).width + a.place ≡ b.word * (slot_of slots b.var).width + b.place
  same_cell a b e v = let n : number slots (record a { var = b.var }) ≡ number slots b = subst (λ u. number slots (record a { var = u }) ≡ number slots b) v
      e in omega arith

  pub same_word : (a b : Bit) → IsIn slots a → IsIn slots b → number slots a ≡ number slots b → a.word ≡ b.word
  same_word a b h k e =
      let v : a.var ≡ b.var = same_variable a b h k e in
      let p : a.place < (slot_of slots b.var).width = subst (λ u. a.place < (slot_of slots u).width) v h.in_width in
      cell_word a.word b.word a.place b.place (slot_of slots b.var).width p k.in_width (same_cell a b e v)

  pub same_place : (a b : Bit) → IsIn slots a → IsIn slots b → number slots a ≡ number slots b → a.place ≡ b.place
  same_place a b h k e =
      let v : a.var ≡ b.var = same_variable a b h k e in
      let p : a.place < (slot_of slots b.var).width = subst (λ u. a.place < (slot_of slots u).width) v h.in_width in
      cell_place a.word b.word a.place b.place (slot_of slots b.var).width p k.in_width (same_cell a b e v)

  -- ---- columns

  pub column_below : (v c : ℕ) → v < length slots → c < (slot_of slots v).width → (slot_of slots v).column + c < before wide slots (length slots)
  column_below v c h l =
      let r : before wide slots v + wide (slot_of slots v) ≤ before wide slots (length slots) = before_less wide slots v (length slots) no_slot h (omega
      arith) in
      omega (arith, laid.column v h)

  column_less : (v c w d : ℕ) → v < w → w < length slots → c < (slot_of slots v).width → (slot_of slots v).column + c < (slot_of slots w).column + d
  column_less v c w d h l k =
      let r : before wide slots v + wide (slot_of slots v) ≤ before wide slots w = before_less wide slots v w no_slot h (omega arith) in
      omega (arith, laid.column v (omega arith), laid.column w l)

  pub column_variable : (v c w d : ℕ) → v < length slots → w < length slots → c < (slot_of slots v).width → d < (slot_of slots w).width
      → (slot_of slots v).column + c ≡ (slot_of slots w).column + d → v ≡ w
  column_variable v c w d h l k m e = elim (cases_lt v w) [
    | inl n ↦ absurd (let i : (slot_of slots v).column + c < (slot_of slots w).column + d = column_less v c w d n l k in omega arith)
    | inr n ↦ elim (cases_lt w v) [
      | inl o ↦ absurd (let i : (slot_of slots w).column + d < (slot_of slots v).column + c = column_less w d v c o h m in omega arith)
      | inr o ↦ omega arith
    ]
  ]

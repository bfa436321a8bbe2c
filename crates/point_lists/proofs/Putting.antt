-- The counters of an arm and of arms one after the other, put behind others.
use Rattle.std.proofs.Common.{◌≡◌, ℕ, ◌+◌, ◌<◌, ◌≤◌, true, cond, List, [], ◌∷◌, ◌++◌, length, take, get_or, inl, inr, refl, sym, ◌∙◌, ap, subst, arith}
use Rattle.std.proofs.Common.{append_assoc}
use Rattle.std.specs.Prelude.{Option, Some, None}
use Rattle.std.proofs.lemmas.List.{append-nil, take_more, take_all, get_or_past}
use Rattle.std.proofs.lemmas.Bool.{cases_lt, ne_eqb}
use Rattle.design_tree.specs.declared.design.Design.{Design}
use Rattle.circuit_run.specs.Lists.{how_many}
use Rattle.counted_circuit.specs.Plain.{as_list}
use Rattle.counted_circuit.specs.DerivedLists as derived
use Rattle.counted_circuit.specs.DerivedLists.{IsOwn, HasLists}
use Rattle.counted_laws.specs.DerivedTable as table
use Rattle.counted_laws.specs.DerivedTable.{HaveLists}
use Rattle.counted_copy.specs.Carried.{carried_by}
use Rattle.mark_numbers.specs.Numbers.{number_at}
use Rattle.arm_rows.specs.declared.row.ArmRow.{ArmRow}
use Rattle.arm_rows.specs.declared.row.ArmRow.TheVariants as row
use Rattle.arm_rows.specs.Rows.{row_at, AreRowsOf}
use Rattle.arm_counters.specs.Needed.{is_no_arm}
use Rattle.arm_counters.specs.Counters.{IsTold, own, no_arm}
use Rattle.point_lists.specs.Lists.{AreApart, HasNumber, PutsLists}

-- ---- a counter of an arm's own

pub other_number : (o : Option ℕ) (c : ℕ) → (o ≡ Some c → ⊥) → how_many c (as_list o) ≡ 0
other_number None c other = refl
other_number (Some n) c other = ap (λ b. length (cond b (n ∷ []) [])) (ne_eqb n c (λ e. other (ap Some e)))

pub is_own : (numbers : List (Option ℕ)) (n c : ℕ) → AreApart numbers → number_at numbers n ≡ Some c → IsOwn (carried_by numbers) n c
is_own numbers n c apart h = record {
  carries = ap as_list h;
  alone = λ other ne. other_number (number_at numbers other) c (λ e. ne (apart other n c e h));
}

pub within : (numbers : List (Option ℕ)) (n : ℕ) → HasNumber numbers n → n < length numbers
within numbers n h = elim (cases_lt n (length numbers)) [
  | inl lt ↦ lt
  | inr past ↦ absurd (let e = get_or_past numbers n None (omega arith) in let f : None ≡ Some h.0 = sym e ∙ h.1 in cc)
]

-- ---- what is told

pub told_within : (rows : List ArmRow) (numbers : List (Option ℕ)) (n : ℕ) → IsTold rows numbers n → n < length rows
told_within rows numbers n (own lt other has) = lt
told_within rows numbers n (no_arm lt is before after has told) = lt

-- of a no arm: the yes arm has a counter, and the arm around is told
pub record IsToldAround (rows : List ArmRow) (numbers : List (Option ℕ)) (n a y : ℕ) : Type 0 where
  pub around : IsTold rows numbers a
  pub less : a < n
  pub yes_has : HasNumber numbers y

pub told_around : (rows : List ArmRow) (numbers : List (Option ℕ)) (n a y : ℕ) → IsTold rows numbers n → row_at rows n ≡ row.No a y
    → IsToldAround rows numbers n a y
told_around rows numbers n a y (own lt other has) is = absurd (let e : is_no_arm (row_at rows n) ≡ true = ap is_no_arm is in cc)
told_around rows numbers n a y (no_arm {around} {y = z} {c} lt at before after has told) is =
    let same : row.No around z ≡ row.No a y = sym at ∙ is in
    let ea : around ≡ a = cc in
    let ey : z ≡ y = cc in
    record {
      around = subst (λ i. IsTold rows numbers i) ea told;
      less = subst (λ i. i < n) ea before;
      yes_has = subst (λ i. HasNumber numbers i) ey (c, has);
    }

pub told_own : (rows : List ArmRow) (numbers : List (Option ℕ)) (n : ℕ) → IsTold rows numbers n → ((a y : ℕ) → row_at rows n ≡ row.No a y → ⊥)
    → HasNumber numbers n
told_own rows numbers n (own {c} lt other has) not = (c, has)
told_own rows numbers n (no_arm {around} {y} {c} lt is before after has told) not = absurd (not around y is)

-- ---- one arm

abbrev pub Puts : List ArmRow → List (Option ℕ) → ℕ → List ℕ → List ℕ → List ℕ → List ℕ → Type 0
Puts rows numbers arm plus all_plus minus all_minus =
    (d : Design) → AreRowsOf d rows → PutsLists (carried_by numbers) d arm plus all_plus minus all_minus

pub puts_own : (rows : List ArmRow) (numbers : List (Option ℕ)) (n c : ℕ) (plus all minus : List ℕ) → AreApart numbers → number_at numbers n ≡ Some c
    → all ≡ plus ++ c ∷ [] → Puts rows numbers n plus all minus minus
puts_own rows numbers n c plus all minus apart has is d rows_are = record {
  more_plus = c ∷ [];
  more_minus = [];
  plus_is = is;
  minus_is = sym (append-nil minus);
  lists = derived.own (is_own numbers n c apart has);
}

pub puts_no_arm : (rows : List ArmRow) (numbers : List (Option ℕ)) (n a y c : ℕ) (plus all minus mid last : List ℕ) → AreApart numbers
    → n < length rows → row_at rows n ≡ row.No a y → number_at numbers y ≡ Some c → mid ≡ minus ++ c ∷ [] → Puts rows numbers a plus all mid last
    → Puts rows numbers n plus all minus last
puts_no_arm rows numbers n a y c plus all minus mid last apart lt is has pushed around d rows_are =
    let h = around d rows_are in
    record {
      more_plus = h.more_plus;
      more_minus = c ∷ h.more_minus;
      plus_is = h.plus_is;
      minus_is = h.minus_is ∙ (ap (λ (xs : List ℕ). xs ++ h.more_minus) pushed ∙ append_assoc minus (c ∷ []) h.more_minus);
      lists = derived.no_arm (record { around = a; yes_arm = y; no_arm = n }) (rows_are.no_arms n a y lt is).fork (is_own numbers y c apart has) h.lists;
    }

-- ---- arms one after the other

have_more : (carried : ℕ → List ℕ) (d : Design) (arms plus minus : List ℕ) (a : ℕ) (p m : List ℕ) → HaveLists carried d arms plus minus
    → HasLists carried d a p m → HaveLists carried d (arms ++ a ∷ []) (plus ++ p) (minus ++ m)
have_more carried d arms plus minus a p m table.none h =
    subst (λ (xs : List ℕ). HaveLists carried d (a ∷ []) xs m) (append-nil p)
    (subst (λ (xs : List ℕ). HaveLists carried d (a ∷ []) (p ++ []) xs) (append-nil m) (table.more h table.none))
have_more carried d arms plus minus a p m (table.more {arm = b} {arms = bs} {plus = q} {minus = r} {others} {less} one rest) h =
    subst (λ (xs : List ℕ). HaveLists carried d (b ∷ (bs ++ a ∷ [])) xs ((r ++ less) ++ m)) (sym (append_assoc q others p))
    (subst (λ (xs : List ℕ). HaveLists carried d (b ∷ (bs ++ a ∷ [])) (q ++ (others ++ p)) xs) (sym (append_assoc r less m))
    (table.more one (have_more carried d bs others less a p m rest h)))

-- the lists of the first arms
abbrev pub Have : List ArmRow → List (Option ℕ) → List ℕ → List ℕ → List ℕ → Type 0
Have rows numbers arms plus minus = (d : Design) → AreRowsOf d rows → HaveLists (carried_by numbers) d arms plus minus

pub none_yet : (rows : List ArmRow) (numbers : List (Option ℕ)) (plus minus : List ℕ) → plus ≡ [] → minus ≡ [] → Have rows numbers [] plus minus
none_yet rows numbers plus minus e f d rows_are =
    subst (λ (xs : List ℕ). HaveLists (carried_by numbers) d [] xs minus) (sym e)
    (subst (λ (xs : List ℕ). HaveLists (carried_by numbers) d [] [] xs) (sym f) table.none)

pub next_arm : (rows : List ArmRow) (numbers : List (Option ℕ)) (arms : List ℕ) (i : ℕ) (plus all minus last : List ℕ) → i < length arms
    → Have rows numbers (take i arms) plus minus → Puts rows numbers (get_or arms i 0) plus all minus last
    → Have rows numbers (take (i + 1) arms) all last
next_arm rows numbers arms i plus all minus last lt before one d rows_are =
    let h = one d rows_are in
    subst (λ (xs : List ℕ). HaveLists (carried_by numbers) d xs all last) (sym (take_more arms i 0 lt))
    (subst (λ (xs : List ℕ). HaveLists (carried_by numbers) d (take i arms ++ get_or arms i 0 ∷ []) xs last) (sym h.plus_is)
    (subst (λ (xs : List ℕ). HaveLists (carried_by numbers) d (take i arms ++ get_or arms i 0 ∷ []) (plus ++ h.more_plus) xs) (sym h.minus_is)
    (have_more (carried_by numbers) d (take i arms) plus minus (get_or arms i 0) h.more_plus h.more_minus (before d rows_are) h.lists)))

pub all_arms : (rows : List ArmRow) (numbers : List (Option ℕ)) (arms : List ℕ) (i : ℕ) (plus minus : List ℕ) → length arms ≤ i
    → Have rows numbers (take i arms) plus minus → Have rows numbers arms plus minus
all_arms rows numbers arms i plus minus end h = subst (λ (xs : List ℕ). Have rows numbers xs plus minus) (take_all i arms end) h

-- Rows put behind others, one after the other.
use Rattle.std.proofs.Common.{◌≡◌, ℕ, ◌+◌, ◌<◌, ◌≤◌, Bool, true, false, List, [], ◌∷◌, ◌++◌, map, length, get_or, inl, inr, refl, sym, ◌∙◌, ap, ap₂, subst}
use Rattle.std.proofs.Common.{append_assoc}
use Rattle.std.proofs.Common.{arith}
use Rattle.std.specs.Prelude.{Contains}
use Rattle.std.proofs.lemmas.List.{append-nil, map-append, length-append, get_or_append_left}
use Rattle.std.proofs.lemmas.List.Elements.{Contains-append_left, Contains-append_right}
use Rattle.std.proofs.lemmas.Bool.{cases_lt}
use Rattle.std.proofs.Math.Seq.{get_or-append_seam}
use Rattle.counted_circuit.specs.Sorts.{Sort}
use Rattle.counted_circuit.specs.Tells.{Fork}
use Rattle.arm_rows.specs.declared.row.ArmRow.{ArmRow}
use Rattle.arm_rows.specs.declared.row.ArmRow.TheVariants as row
use Rattle.arm_rows.specs.Rows.{sort_of, may_hold, row_at, MayHold, IsNoArm, Adds}

-- the fork with these numbers
abbrev pub fork_at : ℕ → ℕ → ℕ → Fork
fork_at a y n = record { around = a; yes_arm = y; no_arm = n }

-- ---- more rows behind

row_front : (xs ys : List ArmRow) (n : ℕ) → n < length xs → row_at (xs ++ ys) n ≡ row_at xs n
row_front xs ys n lt = get_or_append_left xs ys row.Assignment n lt

shorter : (xs ys : List ArmRow) → length xs ≤ length (xs ++ ys)
shorter xs ys = omega (arith, length-append xs ys)

pub may_hold_more : (xs ys : List ArmRow) (n : ℕ) → MayHold xs n → MayHold (xs ++ ys) n
may_hold_more xs ys n h = record {
  within = let k = h.within in let s = shorter xs ys in omega arith;
  holds = ap may_hold (row_front xs ys n h.within) ∙ h.holds;
}

no_arm_more : (fs gs : List Fork) (xs ys : List ArmRow) (n a y : ℕ) → n < length xs → ((f : Fork) → Contains fs f → Contains gs f)
    → IsNoArm fs xs n a y → IsNoArm gs (xs ++ ys) n a y
no_arm_more fs gs xs ys n a y lt wider h = record {
  fork = wider (fork_at a y n) h.fork;
  before = h.before;
  after = h.after;
  yes_row = row_front xs ys y (let k = h.after in omega arith) ∙ h.yes_row;
  around_row = may_hold_more xs ys a h.around_row;
}

-- the rows that held an arm hold it still
pub still_holds : (k : ℕ) (s : List Sort) (f : List Fork) (old new : List ArmRow) (n : ℕ) → Adds k s f old new → MayHold old n → MayHold new n
still_holds k s f old new n a h = subst (λ (xs : List ArmRow). MayHold xs n) (sym a.rows) (may_hold_more old a.added n h)

pub longer : (k : ℕ) (s : List Sort) (f : List Fork) (old new : List ArmRow) → Adds k s f old new → length new ≡ length old + k
longer k s f old new a = ap length a.rows ∙ (length-append old a.added ∙ ap (λ n. length old + n) a.many)

pub still_there : (k : ℕ) (s : List Sort) (f : List Fork) (old new : List ArmRow) (n : ℕ) → Adds k s f old new → n < length old → row_at new n ≡ row_at old n
still_there k s f old new n a lt = ap (λ (xs : List ArmRow). row_at xs n) a.rows ∙ row_front old a.added n lt

-- ---- none, one, and some behind others

pub adds_none : (rows : List ArmRow) → Adds 0 [] [] rows rows
adds_none rows = record {
  added = [];
  rows = sym (append-nil rows);
  many = refl;
  sorts_are = refl;
  no_arms = λ n a y low lt is. absurd (omega arith);
}

last_row : (old : List ArmRow) (r : ArmRow) (n : ℕ) → length old ≤ n → n < length (old ++ r ∷ []) → n ≡ length old
last_row old r n low lt = omega (arith, length-append old (r ∷ []))

at_last : (old : List ArmRow) (r : ArmRow) (n : ℕ) → n ≡ length old → row_at (old ++ r ∷ []) n ≡ r
at_last old r n is = ap (λ i. row_at (old ++ r ∷ []) i) is ∙ get_or-append_seam old r [] row.Assignment

pub adds_one : (old : List ArmRow) (r : ArmRow) → ((a y : ℕ) → r ≡ row.No a y → ⊥) → Adds 1 (sort_of r ∷ []) [] old (old ++ r ∷ [])
adds_one old r other = record {
  added = r ∷ [];
  rows = refl;
  many = refl;
  sorts_are = refl;
  no_arms = λ n a y low lt is. absurd (other a y (sym (at_last old r n (last_row old r n low lt)) ∙ is));
}

-- the row of a no arm
pub adds_no_arm : (old : List ArmRow) (around y : ℕ) → MayHold old around → around < y → y < length old → row_at old y ≡ row.Yes
    → Adds 1 (sort_of (row.No around y) ∷ []) (fork_at around y (length old) ∷ []) old (old ++ row.No around y ∷ [])
adds_no_arm old around y holds before after is_yes = record {
  added = row.No around y ∷ [];
  rows = refl;
  many = refl;
  sorts_are = refl;
  no_arms = λ n a z low lt is. at_end n a z (last_row old (row.No around y) n low lt)
      (sym (at_last old (row.No around y) n (last_row old (row.No around y) n low lt)) ∙ is);
}
  where
    here : IsNoArm (fork_at around y (length old) ∷ []) (old ++ row.No around y ∷ []) (length old) around y
    here = record {
      fork = (0, omega arith, refl);
      before = before;
      after = after;
      yes_row = row_front old (row.No around y ∷ []) y after ∙ is_yes;
      around_row = may_hold_more old (row.No around y ∷ []) around holds;
    }

    at_end : (n a z : ℕ) → n ≡ length old → row.No around y ≡ row.No a z → IsNoArm (fork_at around y (length old) ∷ []) (old ++ row.No around y ∷ []) n a z
    at_end n a z e is =
        let ea : around ≡ a = cc in let ey : y ≡ z = cc in
        subst (λ i. IsNoArm (fork_at around y (length old) ∷ []) (old ++ row.No around y ∷ []) i a z) (sym e)
        (subst (λ i. IsNoArm (fork_at around y (length old) ∷ []) (old ++ row.No around y ∷ []) (length old) i z) ea
        (subst (λ i. IsNoArm (fork_at around y (length old) ∷ []) (old ++ row.No around y ∷ []) (length old) around i) ey here))

-- among wider lists of forks
pub adds_in : (k : ℕ) (s : List Sort) (f g : List Fork) (old new : List ArmRow) → ((x : Fork) → Contains f x → Contains g x) → Adds k s f old new
    → Adds k s g old new
adds_in k s f g old new wider a = record {
  added = a.added;
  rows = a.rows;
  many = a.many;
  sorts_are = a.sorts_are;
  no_arms = λ n around y low lt is.
      let h = a.no_arms n around y low lt is in
      record { fork = wider (fork_at around y n) h.fork; before = h.before; after = h.after; yes_row = h.yes_row; around_row = h.around_row };
}

module _ (k j : ℕ) (s t : List Sort) (f g : List Fork) (old mid new : List ArmRow) (a : Adds k s f old mid) (b : Adds j t g mid new) where
  left : (x : Fork) → Contains f x → Contains (f ++ g) x
  left x = Contains-append_left f g x

  right : (x : Fork) → Contains g x → Contains (f ++ g) x
  right x = Contains-append_right f g x

  early : (n around y : ℕ) → length old ≤ n → n < length mid → row_at new n ≡ row.No around y → IsNoArm (f ++ g) new n around y
  early n around y low lt is =
      subst (λ (xs : List ArmRow). IsNoArm (f ++ g) xs n around y) (sym b.rows)
      (no_arm_more f (f ++ g) mid b.added n around y lt left (a.no_arms n around y low lt (sym (still_there j t g mid new n b lt) ∙ is)))

  late : (n around y : ℕ) → length mid ≤ n → n < length new → row_at new n ≡ row.No around y → IsNoArm (f ++ g) new n around y
  late n around y low lt is =
      let h = b.no_arms n around y low lt is in
      record { fork = right (fork_at around y n) h.fork; before = h.before; after = h.after; yes_row = h.yes_row; around_row = h.around_row }

  pub adds_both : Adds (k + j) (s ++ t) (f ++ g) old new
  adds_both = record {
    added = a.added ++ b.added;
    rows = b.rows ∙ (ap (λ (xs : List ArmRow). xs ++ b.added) a.rows ∙ append_assoc old a.added b.added);
    many = length-append a.added b.added ∙ ap₂ (λ x y. x + y) a.many b.many;
    sorts_are = map-append sort_of a.added b.added ∙ ap₂ (λ (x y : List Sort). x ++ y) a.sorts_are b.sorts_are;
    no_arms = λ n around y low lt is.
        elim (cases_lt n (length mid)) [ inl h ↦ early n around y low h is | inr h ↦ late n around y h lt is ];
  }

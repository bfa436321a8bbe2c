-- The longest operator or mark is taken.
use Rattle.std.proofs.Common.{◌≡◌, ℕ, ◌≤◌, ◌⊎◌, inl, inr, Bool, true, false, cond, List, [], ◌∷◌, ◌++◌, length, Option, Some, None, refl, sym, ◌∙◌, ap, arith}
use Rattle.std.specs.Prelude.{nat_eq}
use Rattle.std.specs.List.{starts_with}
use Rattle.std.proofs.lemmas.Bool.{true≢false}
use Rattle.vlog_words.specs.SymbolTable.{IsIn, symbols}
use Rattle.vlog_words.specs.Symbols.{first_at, of_one, of_three, of_two, symbol_of, with_length}
use Rattle.vlog_words.specs.Words.{Table}
use Rattle.vlog_tokens.specs.declared.token.TokenKind.{TokenKind}

abbrev Entry : Type 0
Entry = List ℕ × TokenKind

abbrev begins : List ℕ → Entry → Bool
begins text entry = starts_with nat_eq text entry.0

-- each spelling of a table has so many bytes
abbrev Each : ℕ → Table TokenKind → Type 0
Each n [] = Unit {0}
Each n (entry ∷ table) = (length entry.0 ≡ n) × Each n table

length_in : (n : ℕ) (table : Table TokenKind) (entry : Entry) → Each n table → IsIn table entry → length entry.0 ≡ n
length_in n [] entry each is = absurd is
length_in n (e ∷ table) entry each (inl same) = ap (λ (x : Entry). length x.0) same ∙ each.0
length_in n (e ∷ table) entry each (inr is) = length_in n table entry each.1 is

some_none : (kind : TokenKind) → (let o : Option TokenKind = Some kind in o) ≡ None → ⊥
some_none kind e = cc

none_step : (e : Entry) (table : Table TokenKind) (text : List ℕ) (entry : Entry) → (first_at table text ≡ None → IsIn table entry → begins text entry ≡ true
    → ⊥) → (t : Bool) → begins text e ≡ t → cond t (Some e.1) (first_at table text) ≡ None → IsIn (e ∷ table) entry → begins text entry ≡ true → ⊥
none_step e table text entry more true test none is on = some_none e.1 none
none_step e table text entry more false test none (inl same) on = true≢false (sym on ∙ ap (begins text) same ∙ test)
none_step e table text entry more false test none (inr is) on = more none is on

-- nothing of a table begins a text at which it has none
none_at : (table : Table TokenKind) (text : List ℕ) (entry : Entry) → first_at table text ≡ None → IsIn table entry → begins text entry ≡ true → ⊥
none_at [] text entry none is on = absurd is
none_at (e ∷ table) text entry none is on = none_step e table text entry (λ n i o. none_at table text entry n i o) (begins text e) refl none is on

pub record Found (table : Table TokenKind) (text : List ℕ) (kind : TokenKind) : Type 0 where
  pub entry : Entry
  pub is_in : IsIn table entry
  pub kind_is : entry.1 ≡ kind
  pub begins_text : begins text entry ≡ true

kind_same : {x y : TokenKind} → (let o : Option TokenKind = Some x in o) ≡ Some y → x ≡ y
kind_same e = cc

none_some : (kind : TokenKind) → (let o : Option TokenKind = None in o) ≡ Some kind → ⊥
none_some kind e = cc

first_step : (e : Entry) (table : Table TokenKind) (text : List ℕ) (kind : TokenKind) → (first_at table text ≡ Some kind → Found table text kind)
    → (t : Bool) → begins text e ≡ t → cond t (Some e.1) (first_at table text) ≡ Some kind → Found (e ∷ table) text kind
first_step e table text kind more true test found = record { entry = e; is_in = inl refl; kind_is = kind_same found; begins_text = test }
first_step e table text kind more false test found =
    let rest = more found in
    record { entry = rest.entry; is_in = inr rest.is_in; kind_is = rest.kind_is; begins_text = rest.begins_text }

-- what a table has first begins the text
first_in : (table : Table TokenKind) (text : List ℕ) (kind : TokenKind) → first_at table text ≡ Some kind → Found table text kind
first_in [] text kind e = absurd (none_some kind e)
first_in (e ∷ table) text kind found = first_step e table text kind (λ f. first_in table text kind f) (begins text e) refl found

in_left : (xs ys : Table TokenKind) (e : Entry) → IsIn xs e → IsIn (xs ++ ys) e
in_left [] ys e is = absurd is
in_left (x ∷ xs) ys e (inl same) = inl same
in_left (x ∷ xs) ys e (inr is) = inr (in_left xs ys e is)

in_right : (xs ys : Table TokenKind) (e : Entry) → IsIn ys e → IsIn (xs ++ ys) e
in_right [] ys e is = is
in_right (x ∷ xs) ys e is = inr (in_right xs ys e is)

in_either : (xs ys : Table TokenKind) (e : Entry) → IsIn (xs ++ ys) e → IsIn xs e ⊎ IsIn ys e
in_either [] ys e is = inr is
in_either (x ∷ xs) ys e (inl same) = inl (inl same)
in_either (x ∷ xs) ys e (inr is) = elim (in_either xs ys e is) [ inl l ↦ inl (inr l) | inr r ↦ inr r ]

three : Each 3 of_three
three = (refl, (refl, (refl, (refl, tt))))

two : Each 2 of_two
two = (refl, (refl, (refl, (refl, (refl, (refl, (refl, (refl, (refl, (refl, (refl, (refl, (refl, (refl, tt))))))))))))))

one : Each 1 of_one
one = (
  refl,
  (
    refl,
    (
      refl,
      (
        refl,
        (
          refl,
          (
            refl,
            (
              refl,
              (
                refl,
                (
                  refl,
                  (refl, (refl, (refl, (refl, (refl, (refl, (refl, (refl, (refl, (refl, (refl, (refl, (refl, (refl, (refl, (refl, (refl, tt))))))))))))))))),
                ),
              ),
            ),
          ),
        ),
      ),
    ),
  ),
)

-- which table an entry stands in
data Stands (entry : Entry) : Type 0 where
  in_three : IsIn of_three entry → Stands entry
  in_two : IsIn of_two entry → Stands entry
  in_one : IsIn of_one entry → Stands entry

stands : (entry : Entry) → IsIn symbols entry → Stands entry
stands entry is = elim (in_either of_three (of_two ++ of_one) entry is) [
  | inl l ↦ in_three l
  | inr r ↦ elim (in_either of_two of_one entry r) [ inl l ↦ in_two l | inr r' ↦ in_one r' ]
]

pair_same : {x y : TokenKind × ℕ} → (let o : Option (TokenKind × ℕ) = Some x in o) ≡ Some y → x ≡ y
pair_same e = cc

no_pair : {x : TokenKind × ℕ} → (let o : Option (TokenKind × ℕ) = Some x in o) ≡ None → ⊥
no_pair e = cc

pair_none : {x : TokenKind × ℕ} → (let o : Option (TokenKind × ℕ) = None in o) ≡ Some x → ⊥
pair_none e = cc

abbrev Taken : List ℕ → TokenKind → ℕ → Type 0
Taken text kind n = (entry : Entry) × IsIn symbols entry × (entry.1 ≡ kind) × (length entry.0 ≡ n) × (begins text entry ≡ true)

made : (text : List ℕ) (k kind : TokenKind) (m n : ℕ) (table : Table TokenKind) → Each m table → Found table text k → ((e : Entry) → IsIn table e
    → IsIn symbols e) → (let o : Option (TokenKind × ℕ) = Some (k, m) in o) ≡ Some (kind, n) → Taken text kind n
made text k kind m n table each found within e =
    let same = pair_same e in (
      found.entry,
      within found.entry found.is_in,
      found.kind_is ∙ ap (λ (p : TokenKind × ℕ). p.0) same,
      length_in m table found.entry each found.is_in
          ∙ ap (λ (p : TokenKind × ℕ). p.1) same,
      found.begins_text,
    )

taken_from : (text : List ℕ) (kind : TokenKind) (n : ℕ) (o3 o2 o1 : Option TokenKind) → first_at of_three text ≡ o3 → first_at of_two text ≡ o2
    → first_at of_one text ≡ o1
    → with_length 3 o3 (with_length 2 o2 (with_length 1 o1 None)) ≡ Some (kind, n) → Taken text kind n
taken_from text kind n (Some k) o2 o1 e3 e2 e1 e = made text k kind 3 n of_three three (first_in of_three text k e3) (λ x is. in_left of_three (of_two
    ++ of_one) x is) e
taken_from text kind n None (Some k) o1 e3 e2 e1 e = made text k kind 2 n of_two two (first_in of_two text k e2) (λ x is. in_right of_three (of_two
    ++ of_one) x (in_left of_two of_one x is)) e
taken_from text kind n None None (Some k) e3 e2 e1 e = made text k kind 1 n of_one one (first_in of_one text k e1) (λ x is. in_right of_three (of_two
    ++ of_one) x (in_right of_two of_one x is)) e
taken_from text kind n None None None e3 e2 e1 e = absurd (pair_none e)

pub taken : (text : List ℕ) (kind : TokenKind) (n : ℕ) → symbol_of text ≡ Some (kind, n) → Taken text kind n
unfolding symbol_of
taken text kind n e = taken_from text kind n (first_at of_three text) (first_at of_two text) (first_at of_one text) refl refl refl e

longest_from : (text : List ℕ) (kind : TokenKind) (n : ℕ) (entry : Entry) (o3 o2 o1 : Option TokenKind) → first_at of_three text ≡ o3
    → first_at of_two text ≡ o2 → first_at of_one text ≡ o1
    → with_length 3 o3 (with_length 2 o2 (with_length 1 o1 None)) ≡ Some (kind, n) → Stands entry → begins text entry ≡ true → length entry.0 ≤ n
longest_from text kind n entry (Some k) o2 o1 e3 e2 e1 e (in_three is) on = let same = ap (λ (p : TokenKind × ℕ). p.1) (pair_same e) in
    omega (arith, length_in 3 of_three entry three is)
longest_from text kind n entry (Some k) o2 o1 e3 e2 e1 e (in_two is) on = let same = ap (λ (p : TokenKind × ℕ). p.1) (pair_same e) in
    omega (arith, length_in 2 of_two entry two is)
longest_from text kind n entry (Some k) o2 o1 e3 e2 e1 e (in_one is) on = let same = ap (λ (p : TokenKind × ℕ). p.1) (pair_same e) in
    omega (arith, length_in 1 of_one entry one is)
longest_from text kind n entry None o2 o1 e3 e2 e1 e (in_three is) on = absurd (none_at of_three text entry e3 is on)
longest_from text kind n entry None (Some k) o1 e3 e2 e1 e (in_two is) on = let same = ap (λ (p : TokenKind × ℕ). p.1) (pair_same e) in
    omega (arith, length_in 2 of_two entry two is)
longest_from text kind n entry None (Some k) o1 e3 e2 e1 e (in_one is) on = let same = ap (λ (p : TokenKind × ℕ). p.1) (pair_same e) in
    omega (arith, length_in 1 of_one entry one is)
longest_from text kind n entry None None o1 e3 e2 e1 e (in_two is) on = absurd (none_at of_two text entry e2 is on)
longest_from text kind n entry None None (Some k) e3 e2 e1 e (in_one is) on = let same = ap (λ (p : TokenKind × ℕ). p.1) (pair_same e) in
    omega (arith, length_in 1 of_one entry one is)
longest_from text kind n entry None None None e3 e2 e1 e (in_one is) on = absurd (pair_none e)

pub longest : (text : List ℕ) (kind : TokenKind) (n : ℕ) (entry : Entry) → symbol_of text ≡ Some (kind, n) → IsIn symbols entry → begins text entry ≡ true
    → length entry.0 ≤ n
unfolding symbol_of
longest text kind n entry e is on = longest_from text kind n entry (first_at of_three text) (first_at of_two text) (first_at of_one text) refl refl refl e
    (stands entry is) on

nothing_from : (text : List ℕ) (entry : Entry) (o3 o2 o1 : Option TokenKind) → first_at of_three text ≡ o3 → first_at of_two text ≡ o2
    → first_at of_one text ≡ o1
    → with_length 3 o3 (with_length 2 o2 (with_length 1 o1 None)) ≡ None → Stands entry → begins text entry ≡ true → ⊥
nothing_from text entry (Some k) o2 o1 e3 e2 e1 e is on = no_pair e
nothing_from text entry None (Some k) o1 e3 e2 e1 e is on = no_pair e
nothing_from text entry None None (Some k) e3 e2 e1 e is on = no_pair e
nothing_from text entry None None None e3 e2 e1 e (in_three is) on = none_at of_three text entry e3 is on
nothing_from text entry None None None e3 e2 e1 e (in_two is) on = none_at of_two text entry e2 is on
nothing_from text entry None None None e3 e2 e1 e (in_one is) on = none_at of_one text entry e1 is on

pub nothing : (text : List ℕ) (entry : Entry) → symbol_of text ≡ None → IsIn symbols entry → begins text entry ≡ true → ⊥
unfolding symbol_of
nothing text entry e is on = nothing_from text entry (first_at of_three text) (first_at of_two text) (first_at of_one text) refl refl refl e
    (stands entry is) on

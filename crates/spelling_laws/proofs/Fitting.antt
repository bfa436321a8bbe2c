-- Lists of pieces against lists of marks.
use Rattle.std.specs.Prelude.{◌≡◌, ◌+◌, Bool, true, false, ◌&&◌, List, [], ◌∷◌, ◌++◌, length, refl}
use mathlib.Core.Path.{sym, ap, subst, ◌∙◌}
use mathlib.Core.Bool.{true≢false}
use native.Mathlib.Omega.{arith}
use Rattle.spelling_laws.specs.Spelled.{all_fit}

pub first_true : (a b : Bool) → (a && b) ≡ true → a ≡ true
first_true true b e = refl
first_true false b e = absurd (true≢false (sym e))

pub second_true : (a b : Bool) → (a && b) ≡ true → b ≡ true
second_true true b e = e
second_true false b e = absurd (true≢false (sym e))

pub both_true : (a b : Bool) → a ≡ true → b ≡ true → (a && b) ≡ true
both_true a b e f = ap (λ x. x && b) e ∙ f

module _ {P M : Type 0} (fits : P → M → Bool) where
  -- pieces that fit marks and pieces behind them that fit marks behind them
  pub join : (gs hs : List P) (xs ys : List M) → all_fit fits gs xs ≡ true → all_fit fits hs ys ≡ true → all_fit fits (gs ++ hs) (xs ++ ys) ≡ true
  join [] hs [] ys e f = f
  join [] hs (x ∷ xs) ys e f = absurd (true≢false (sym e))
  join (g ∷ gs) hs [] ys e f = absurd (true≢false (sym e))
  join (g ∷ gs) hs (x ∷ xs) ys e f = both_true (fits g x) _ (first_true (fits g x) _ e) (join gs hs xs ys (second_true (fits g x) _ e) f)

  pub record CutPieces (gs : List P) (xs ys : List M) : Type 0 where
    pub front : List P
    pub back : List P
    pub split : gs ≡ front ++ back
    pub front_fits : all_fit fits front xs ≡ true
    pub back_fits : all_fit fits back ys ≡ true

  pub cut_pieces : (gs : List P) (xs ys : List M) → all_fit fits gs (xs ++ ys) ≡ true → CutPieces gs xs ys
  cut_pieces gs [] ys e = record { front = []; back = gs; split = refl; front_fits = refl; back_fits = e }
  cut_pieces [] (x ∷ xs) ys e = absurd (true≢false (sym e))
  cut_pieces (g ∷ gs) (x ∷ xs) ys e =
      let c = cut_pieces gs xs ys (second_true (fits g x) _ e) in
      record {
        front = g ∷ c.front;
        back = c.back;
        split = ap (λ l. g ∷ l) c.split;
        front_fits = both_true (fits g x) _ (first_true
            (fits g x) _ e) c.front_fits;
        back_fits = c.back_fits;
      }

  pub record CutMarks (gs hs : List P) (xs : List M) : Type 0 where
    pub front : List M
    pub back : List M
    pub split : xs ≡ front ++ back
    pub front_fits : all_fit fits gs front ≡ true
    pub back_fits : all_fit fits hs back ≡ true

  pub cut_marks : (gs hs : List P) (xs : List M) → all_fit fits (gs ++ hs) xs ≡ true → CutMarks gs hs xs
  cut_marks [] hs xs e = record { front = []; back = xs; split = refl; front_fits = refl; back_fits = e }
  cut_marks (g ∷ gs) hs [] e = absurd (true≢false (sym e))
  cut_marks (g ∷ gs) hs (x ∷ xs) e =
      let c = cut_marks gs hs xs (second_true (fits g x) _ e) in
      record {
        front = x ∷ c.front;
        back = c.back;
        split = ap (λ l. x ∷ l) c.split;
        front_fits = both_true (fits g x) _ (first_true
            (fits g x) _ e) c.front_fits;
        back_fits = c.back_fits;
      }

  pub same_length : (gs : List P) (xs : List M) → all_fit fits gs xs ≡ true → length gs ≡ length xs
  same_length [] [] e = refl
  same_length [] (x ∷ xs) e = absurd (true≢false (sym e))
  same_length (g ∷ gs) [] e = absurd (true≢false (sym e))
  same_length (g ∷ gs) (x ∷ xs) e = let ih = same_length gs xs (second_true (fits g x) _ e) in omega arith

-- of two ways to cut a list one cuts later
pub data Levi {A : Type 0} (xs ys us vs : List A) : Type 0 where
  first_longer : (mid : List A) → xs ≡ us ++ mid → vs ≡ mid ++ ys → Levi xs ys us vs
  first_shorter : (a : A) (mid : List A) → us ≡ xs ++ a ∷ mid → ys ≡ a ∷ mid ++ vs → Levi xs ys us vs

abbrev pub head_or : {A : Type 0} → A → List A → A
head_or d [] = d
head_or d (x ∷ xs) = x

abbrev pub tail_of : {A : Type 0} → List A → List A
tail_of [] = []
tail_of (x ∷ xs) = xs

no_cons : {A : Type 0} (x : A) (xs : List A) → [] ≡ x ∷ xs → ⊥
no_cons x xs e = let lengths = ap length e in absurd (omega arith)

onto : {A : Type 0} (x : A) (xs ys us vs : List A) → Levi xs ys us vs → Levi (x ∷ xs) ys (x ∷ us) vs
onto x xs ys us vs (first_longer mid e f) = first_longer mid (ap (λ l. x ∷ l) e) f
onto x xs ys us vs (first_shorter a mid e f) = first_shorter a mid (ap (λ l. x ∷ l) e) f

pub levi : {A : Type 0} (xs ys us vs : List A) → xs ++ ys ≡ us ++ vs → Levi xs ys us vs
levi [] ys [] vs e = first_longer [] refl (sym e)
levi [] ys (u ∷ us) vs e = first_shorter u us refl e
levi (x ∷ xs) ys [] vs e = first_longer (x ∷ xs) refl (sym e)
levi (x ∷ xs) ys (u ∷ us) vs e =
    subst (λ h. Levi (x ∷ xs) ys (h ∷ us) vs) (ap (head_or x) e) (onto x xs ys us vs (levi xs ys us vs (ap tail_of e)))

pub assoc : {A : Type 0} (xs ys zs : List A) → (xs ++ ys) ++ zs ≡ xs ++ (ys ++ zs)
assoc [] ys zs = refl
assoc (x ∷ xs) ys zs = ap (λ l. x ∷ l) (assoc xs ys zs)

pub length-joined : {A : Type 0} (xs ys : List A) → length (xs ++ ys) ≡ length xs + length ys
length-joined [] ys = omega arith
length-joined (x ∷ xs) ys = let ih = length-joined xs ys in omega arith

-- equal lists cut at equal lengths have equal parts
pub cancel : {A : Type 0} (xs ys us vs : List A) → length xs ≡ length us → xs ++ ys ≡ us ++ vs → ys ≡ vs
cancel [] ys [] vs l e = e
cancel [] ys (u ∷ us) vs l e = absurd (omega arith)
cancel (x ∷ xs) ys [] vs l e = absurd (omega arith)
cancel (x ∷ xs) ys (u ∷ us) vs l e = cancel xs ys us vs (omega arith) (ap tail_of e)

pub no_more : {A : Type 0} (xs : List A) → xs ++ [] ≡ xs
no_more [] = refl
no_more (x ∷ xs) = ap (λ l. x ∷ l) (no_more xs)

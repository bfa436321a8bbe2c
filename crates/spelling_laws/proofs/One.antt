-- A value that is told by one mark; and values that are spelled as others are.
use Rattle.std.specs.Prelude.{◌≡◌, Bool, true, false, List, [], ◌∷◌, ◌++◌, refl}
use mathlib.Core.Logic.{inl, inr}
use mathlib.Core.Path.{sym, ap, subst, ◌∙◌}
use mathlib.Core.Bool.{true≢false}
use Rattle.spelling_laws.specs.Spelled.{all_fit, Fronts, ApartAt, Apart, Awaits, NoneFits, IsRead, IsWrong}
use Rattle.spelling_laws.proofs.Fitting.{head_or, first_true, both_true, levi, Levi, first_longer, first_shorter, no_more, cut_marks, assoc}

module _ {P M : Type 0} (fits : P → M → Bool) (V : Type 0) (mark : V → M) (same : (p : P) (v w : V) → fits p (mark v) ≡ true → fits p (mark w) ≡ true
    → v ≡ w) where
  abbrev pub one : V → List M
  one v = mark v ∷ []

  same_front : (v w : V) → Fronts fits one v w → v ≡ w
  same_front v w f = by f.given f.first f.whole f.split f.front
    where
      by : (gs : List P) (first : List M) → all_fit fits gs (one v) ≡ true → one w ≡ first ++ f.more → all_fit fits gs first ≡ true → v ≡ w
      by [] first e s h = absurd (true≢false (sym e))
      by (g ∷ gs) [] e s h = absurd (true≢false (sym h))
      by (g ∷ gs) (x ∷ first) e s h =
          same g v w (first_true (fits g (mark v)) _ e) (subst (λ y. fits g y ≡ true) (sym (ap (head_or x) s)) (first_true (fits g x) _ h))

  pub apart_one : (v : V) → ApartAt fits one v
  apart_one v w h = elim h [ inl f ↦ same_front v w f | inr f ↦ sym (same_front w v f) ]

  pub read_one : (p : P) (ps : List P) (v : V) → fits p (mark v) ≡ true → IsRead fits one (p ∷ ps) v ps
  read_one p ps v e = record { given = p ∷ []; split = refl; fit = both_true (fits p (mark v)) true e refl }

  -- a piece that is none of the marks, or no piece, is wrong where some value is awaited
  pub wrong_one : (p : P) (ps : List P) (some : V) → ((v : V) → fits p (mark v) ≡ false) → IsWrong fits one (p ∷ ps) (mark some) (p ∷ ps)
  wrong_one p ps some none = record {
    given = [];
    split = refl;
    awaits = record { value = some; first = []; more = []; split = refl; fit = refl };
    none = λ m w. by m w.value w.first w.more w.split w.fit;
  }
    where
      by : (m : M) (v : V) (first more : List M) → one v ≡ first ++ m ∷ more → all_fit fits [] first ≡ true → fits p m ≡ false
      by m v [] more s f = subst (λ y. fits p y ≡ false) (ap (head_or m) s) (none v)
      by m v (x ∷ first) more s f = absurd (true≢false (sym f))

-- values that are spelled as others are
module _ {P M : Type 0} (fits : P → M → Bool) (A B : Type 0) (to : A → B) (from : B → A) (there : (b : B) → to (from b) ≡ b) (sA : A → List M) (sB : B → List M)
    (alike : (b : B) → sB b ≡ sA (from b)) where
  fronts_back : (b c : B) → Fronts fits sB b c → Fronts fits sA (from b) (from c)
  fronts_back b c f = record {
    given = f.given;
    first = f.first;
    more = f.more;
    whole = subst (λ l. all_fit fits f.given l ≡ true) (alike b) f.whole;
    split = sym (alike c) ∙ f.split;
    front = f.front;
  }

  pub apart_via : (b : B) → ApartAt fits sA (from b) → ApartAt fits sB b
  apart_via b apart c h = sym (there b) ∙ ap to (apart (from c) (elim h [ inl f ↦ inl (fronts_back b c f) | inr f ↦ inr (fronts_back c b f) ])) ∙ there c

-- what follows for a whole language
module _ {P M : Type 0} (fits : P → M → Bool) (A : Type 0) (s : A → List M) (apart : Apart fits s) where
  -- pieces spell one value at most
  pub one_value : (a b : A) (gs : List P) → all_fit fits gs (s a) ≡ true → all_fit fits gs (s b) ≡ true → a ≡ b
  one_value a b gs e f = apart a b (inl (record { given = gs; first = s b; more = []; whole = e; split = sym (no_more (s b)); front = f }))

  -- a text has one first wrong piece at most
  pub one_place : (ps : List P) (m n : M) (rest other : List P) → IsWrong fits s ps m rest → IsWrong fits s ps n other → rest ≡ other
  one_place ps m n rest other v w = by (levi v.given rest w.given other (sym v.split ∙ w.split))
    where
      -- where a wrong piece stands earlier than another, a value goes on with it
      goes_on : (gs : List P) (p : P) (mid back : List P) (k : M) → Awaits fits s (gs ++ p ∷ mid) k → NoneFits fits s gs (p ∷ back) → ⊥
      goes_on gs p mid back k a none = by2 a.first a.split a.fit gs none
        where
          by3 : (gs2 : List P) (front : List M) (first more : List M) → (vs : List M) → s a.value ≡ vs → vs ≡ front ++ (first ++ more) → all_fit fits
              (p ∷ mid) first ≡ true
              → all_fit fits gs2 front ≡ true → NoneFits fits s gs2 (p ∷ back) → ⊥
          by3 gs2 front [] more vs e1 e2 f g none2 = true≢false (sym f)
          by3 gs2 front (x ∷ first) more vs e1 e2 f g none2 =
              true≢false (sym (first_true (fits p x) _ f) ∙ none2 x (record { value = a.value; first = front; more = first ++ more; split = e1 ∙ e2; fit = g }))

          by2 : (first : List M) → s a.value ≡ first ++ k ∷ a.more → all_fit fits (gs ++ p ∷ mid) first ≡ true → (gs2 : List P) → NoneFits fits s gs
              (p ∷ back) → ⊥
          by2 first e f gs2 none2 =
              let c = cut_marks fits gs (p ∷ mid) first f in
              by3 gs c.front c.back (k ∷ a.more) (s a.value) refl (e ∙ ap (λ l. l ++ k ∷ a.more) c.split ∙ assoc c.front c.back
              (k ∷ a.more)) c.back_fits c.front_fits none2

      by : Levi v.given rest w.given other → rest ≡ other
      by (first_longer [] e f) = sym f
      by (first_longer (p ∷ mid) e f) =
          absurd (goes_on w.given p mid (mid ++ rest) m (subst (λ l. Awaits fits s l m) e v.awaits) (subst (λ l. NoneFits fits s w.given l) f w.none))
      by (first_shorter p mid e f) =
          absurd (goes_on v.given p mid (mid ++ other) n (subst (λ l. Awaits fits s l n) e w.awaits) (subst (λ l. NoneFits fits s v.given l) f v.none))

-- What is taken one after the other.
use Rattle.std.proofs.Common.{◌≡◌, ◌∙◌, sym, ap, subst, refl, ℕ, ◌+◌, ◌<◌, ◌≤◌, Bool, true, false, not, ◌&&◌, ◌||◌, List, [], ◌∷◌, ◌++◌, length, get_or, take}
use Rattle.std.proofs.Common.{append_assoc, append-nil}
use Rattle.std.proofs.lemmas.List.{take_more}
use Rattle.std.proofs.lemmas.List.Elements.{All-append, All-nil, All-cons}
use Rattle.circuit_run.specs.States.{Bit}
use Rattle.flow_marks.specs.declared.slot.Slot.{Slot}
use Rattle.flow_marks.specs.declared.trail.Spot.{Spot}
use Rattle.flow_marks.specs.declared.span.Span.{Span}
use Rattle.flow_marks.specs.Slots.{IsIn, is_same, is_in, row}
use Rattle.flow_marks.specs.Sets.{MarkSet, has}
use Rattle.flow_marks.specs.Takes.{spot_bit, is_listed, AreIn, Takes}
use Rattle.flow_marks.proofs.Kept.{same_bits, bit_of}
use Rattle.flow_marks.proofs.Tests.{place_more}

pub listed_append : (xs ys : List Spot) (b : Bit) → is_listed (xs ++ ys) b ≡ (is_listed xs b || is_listed ys b)
listed_append [] ys b = refl
listed_append (x ∷ xs) ys b = ap (λ r. is_same (spot_bit x) b || r) (listed_append xs ys b) ∙ either (is_same (spot_bit x) b) (is_listed xs b) (is_listed ys b)
  where
    either : (a b c : Bool) → (a || (b || c)) ≡ ((a || b) || c)
    either true b c = refl
    either false b c = refl

-- first these go and then those
neither : (h f g : Bool) → ((h && not f) && not g) ≡ (h && not (f || g))
neither true true g = refl
neither true false g = refl
neither false f g = refl

stays : (h f : Bool) → (h && f) ≡ true → h ≡ true
stays true f e = refl
stays false f e = e

either_case : (a b : Bool) (P : Type 0) → (a || b) ≡ true → (a ≡ true → P) → (b ≡ true → P) → P
either_case true b P e f g = f refl
either_case false b P e f g = g e

pub takes_more : (m n o : MarkSet) (s t u : List Spot) (f g : Bit → Bool) → Takes m n s t f → Takes n o t u g → Takes m o s u (λ b. f b || g b)
takes_more m n o s t u f g x y = record {
  slots = y.slots ∙ x.slots;
  bits = λ b h. y.bits b (there b h) ∙ ap (λ r. r && not (g b)) (x.bits b h) ∙ neither (has m b) (f b) (g b);
  more = x.more ++ y.more;
  trails = y.trails ∙ ap (λ r. r ++ y.more) x.trails ∙ append_assoc s x.more y.more;
  inside = All-append (λ p. IsIn m.slots (spot_bit p)) x.more y.more x.inside (subst (λ (z : List Slot). AreIn z y.more) x.slots y.inside);
  left = λ b h. y.left b (there b h) ∙ ap (λ r. r && not (is_listed y.more b)) (x.left b h)
      ∙ neither (has m b) (is_listed x.more b) (is_listed y.more b) ∙ ap (λ r. has m b && not r) (sym (listed_append x.more y.more b));
  were = λ b h e. either_case (is_listed x.more b) (is_listed y.more b) (has m b ≡ true) (sym (listed_append x.more y.more b) ∙ e)
      (x.were b h) (λ e. stays (has m b) (not (f b)) (sym (x.bits b h) ∙ y.were b (there b h) e));
}
  where
    there : (b : Bit) → IsIn m.slots b → IsIn n.slots b
    there b h = subst (λ (z : List Slot). IsIn z b) (sym x.slots) h

pub takes_same : (m n : MarkSet) (s t : List Spot) (f g : Bit → Bool) → ((b : Bit) → IsIn m.slots b → f b ≡ g b) → Takes m n s t f → Takes m n s t g
takes_same m n s t f g e x = record {
  slots = x.slots;
  bits = λ b h. x.bits b h ∙ ap (λ r. has m b && not r) (e b h);
  more = x.more;
  trails = x.trails;
  inside = x.inside;
  left = x.left;
  were = x.were;
}

and_true : (a : Bool) → a ≡ (a && true)
and_true true = refl
and_true false = refl

-- nothing goes
pub takes_none : (m : MarkSet) (s : List Spot) (f : Bit → Bool) → ((b : Bit) → IsIn m.slots b → f b ≡ true → has m b ≡ false) → Takes m m s s f
takes_none m s f e = record {
  slots = refl;
  bits = λ b h. absent (has m b) (f b) (e b h);
  more = [];
  trails = sym (append-nil s);
  inside = All-nil (λ p. IsIn m.slots (spot_bit p));
  left = λ b h. and_true (has m b);
  were = λ b h e. absurd (cc e);
}
  where
    absent : (a g : Bool) → (g ≡ true → a ≡ false) → a ≡ (a && not g)
    absent a false h = and_true a
    absent a true h = h refl ∙ sym (ap (λ r. r && false) (h refl))

or_false : (a : Bool) → (a || false) ≡ a
or_false true = refl
or_false false = refl

turned : (a b : Bool) → (not a && b) ≡ (b && not (a || false))
turned true true = refl
turned true false = refl
turned false true = refl
turned false false = refl

-- one that was there goes
pub takes_one : (m n : MarkSet) (s : List Spot) (x : Spot) → IsIn m.slots (spot_bit x) → has m (spot_bit x) ≡ true → n.slots ≡ m.slots
    → ((b : Bit) → IsIn m.slots b → has n b ≡ (not (is_same (spot_bit x) b) && has m b)) → Takes m n s (s ++ x ∷ []) (λ b. is_listed (x ∷ []) b)
takes_one m n s x i e k h = record {
  slots = k;
  bits = λ b l. h b l ∙ turned (is_same (spot_bit x) b) (has m b);
  more = x ∷ [];
  trails = refl;
  inside = All-cons (λ p. IsIn m.slots (spot_bit p)) x [] i (All-nil (λ p. IsIn m.slots (spot_bit p)));
  left = λ b l. h b l ∙ turned (is_same (spot_bit x) b) (has m b);
  were = λ b l f. ap (has m) (sym (same_bits (spot_bit x) b (sym (or_false (is_same (spot_bit x) b)) ∙ f))) ∙ e;
}

-- it isn't there
pub takes_no_one : (m : MarkSet) (s : List Spot) (x : Spot) → has m (spot_bit x) ≡ false → Takes m m s s (λ b. is_listed (x ∷ []) b)
takes_no_one m s x e = takes_none m s (λ b. is_listed (x ∷ []) b) (λ b l f. ap (has m) (sym (same_bits (spot_bit x) b (sym (or_false (is_same (spot_bit x)
    b)) ∙ f))) ∙ e)

turned_or : (a b : Bool) → (a || (b || false)) ≡ (b || a)
turned_or true true = refl
turned_or true false = refl
turned_or false b = or_false b ∙ sym (or_false b)

-- one place more
pub one_place : (s : Span) (p : ℕ) (b : Bit) → s.place ≤ p
    → (is_in (row s s.word p) b || is_listed (record { var = s.var; word = s.word; place = p } ∷ []) b) ≡ is_in (row s s.word (p + 1)) b
one_place s p b h = turned_or (is_in (row s s.word p) b) (is_same (bit_of s.var s.word p) b) ∙ sym (place_more s s.word p b h)

-- ---- those of a list that are of some kind

module _ (spots : List Spot) (i : ℕ) (d : Spot) (g : Bit → Bool) (here : i < length spots) where
  one_more : (b : Bit) → is_listed (take (i + 1) spots) b ≡ (is_listed (take i spots) b || is_listed (get_or spots i d ∷ []) b)
  one_more b = ap (λ z. is_listed z b) (take_more spots i d here) ∙ listed_append (take i spots) (get_or spots i d ∷ []) b

  same_kind : (b : Bit) → is_same (spot_bit (get_or spots i d)) b ≡ true → g b ≡ g (spot_bit (get_or spots i d))
  same_kind b e = ap g (sym (same_bits (spot_bit (get_or spots i d)) b e))

  counted : (b : Bit) → g (spot_bit (get_or spots i d)) ≡ true
      → ((is_listed (take i spots) b && g b) || is_listed (get_or spots i d ∷ []) b) ≡ (is_listed (take (i + 1) spots) b && g b)
  counted b e = rw (one_more b) (go (is_same (spot_bit (get_or spots i d)) b) (is_listed (take i spots) b) (g b) (λ h. same_kind b h ∙ e))
    where
      go : (x l k : Bool) → (x ≡ true → k ≡ true) → ((l && k) || (x || false)) ≡ ((l || (x || false)) && k)
      go true l k h = rw (h refl) (both l)
        where
          both : (l : Bool) → ((l && true) || true) ≡ ((l || true) && true)
          both true = refl
          both false = refl
      go false true true h = refl
      go false true false h = refl
      go false false k h = refl

  left_out : (b : Bit) → g (spot_bit (get_or spots i d)) ≡ false → (is_listed (take i spots) b && g b) ≡ (is_listed (take (i + 1) spots) b && g b)
  left_out b e = rw (one_more b) (go (is_same (spot_bit (get_or spots i d)) b) (is_listed (take i spots) b) (g b) (λ h. same_kind b h ∙ e))
    where
      go : (x l k : Bool) → (x ≡ true → k ≡ false) → (l && k) ≡ ((l || (x || false)) && k)
      go x true k h = refl
      go true false k h = sym (h refl)
      go false false k h = refl

  pub common_more : (m n o : MarkSet) (s t u : List Spot) → Takes m n s t (λ b. is_listed (take i spots) b && g b)
      → Takes n o t u (λ b. is_listed (get_or spots i d ∷ []) b) → g (spot_bit (get_or spots i d)) ≡ true
      → Takes m o s u (λ b. is_listed (take (i + 1) spots) b && g b)
  common_more m n o s t u x y e =
      takes_same m o s u (λ b. (is_listed (take i spots) b && g b) || is_listed (get_or spots i d ∷ []) b) (λ b. is_listed (take (i + 1) spots) b && g b) (λ
      b h. counted b e)
      (takes_more m n o s t u (λ b. is_listed (take i spots) b && g b) (λ b. is_listed (get_or spots i d ∷ []) b) x y)

  pub common_same : (m n : MarkSet) (s t : List Spot) → Takes m n s t (λ b. is_listed (take i spots) b && g b)
      → g (spot_bit (get_or spots i d)) ≡ false → Takes m n s t (λ b. is_listed (take (i + 1) spots) b && g b)
  common_same m n s t x e = takes_same m n s t (λ b. is_listed (take i spots) b && g b) (λ b. is_listed (take (i + 1) spots) b && g b) (λ b h. left_out b e) x

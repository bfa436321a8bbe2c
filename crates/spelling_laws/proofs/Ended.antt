-- Values up to an end, which is told from each of them by its first mark.
use Rattle.std.specs.Prelude.{◌≡◌, Bool, true, false, List, [], ◌∷◌, ◌++◌, Option, None, Some, refl}
use Rattle.std.specs.List.{AllByRecursion}
use mathlib.Core.Logic.{inl, inr}
use mathlib.Core.Path.{sym, ap, subst, ◌∙◌}
use mathlib.Core.Bool.{true≢false}
use Rattle.spelling_laws.specs.Spelled.{all_fit, Fronts, ApartAt, Apart, NoneFits, IsRead, IsWrong}
use Rattle.spelling_laws.specs.Lists.{state_behind, all_marks, ended_marks, end_or}
use Rattle.spelling_laws.proofs.Fitting.{join, cut_pieces, assoc, no_more, head_or, first_true}
use Rattle.spelling_laws.proofs.One.{apart_via}
use Rattle.spelling_laws.proofs.Via.{wrong_via}
use Rattle.spelling_laws.proofs.Then as after

module _ {P M : Type 0} (fits : P → M → Bool) where
  -- whether the first piece, if there is one, is a mark
  abbrev pub begins_with : List P → M → Bool
  begins_with [] m = false
  begins_with (p ∷ ps) m = fits p m

  -- where the first piece isn't the first of some marks, the first wrong piece is none that these await
  other_way : (ps given rest : List P) (p : P) (ms : List M) (head : M) (tail first more : List M) (m : M) → ms ≡ head ∷ tail → begins_with ps head ≡ false
      → ps ≡ given ++ p ∷ rest → ms ≡ first ++ m ∷ more → all_fit fits given first ≡ true → fits p m ≡ false
  other_way ps [] rest p ms head tail [] more m e other cut split fit =
      ap (fits p) (ap (head_or m) (sym split ∙ e)) ∙ ap (λ l. begins_with l head) (sym cut) ∙ other
  other_way ps [] rest p ms head tail (f ∷ first) more m e other cut split fit = absurd (true≢false (sym fit))
  other_way ps (g ∷ given) rest p ms head tail [] more m e other cut split fit = absurd (true≢false (sym fit))
  other_way ps (g ∷ given) rest p ms head tail (f ∷ first) more m e other cut split fit =
      let same : f ≡ head = ap (head_or m) (sym split ∙ e) in
      absurd (true≢false (sym (first_true (fits g f) _ fit) ∙ ap (fits g) same ∙ ap (λ l. begins_with l head) (sym cut) ∙ other))

  -- marks with different first marks have no pieces in common
  unlike : (given : List P) (whole other : List M) (h k : M) (t u front more : List M) → whole ≡ h ∷ t → other ≡ k ∷ u
      → ((p : P) → fits p h ≡ true → fits p k ≡ false) → all_fit fits given whole ≡ true → other ≡ front ++ more → all_fit fits given front ≡ true → ⊥
  unlike [] whole other h k t u front more e f told fit split fit2 =
      true≢false (sym fit ∙ ap (all_fit fits []) e)
  unlike (g ∷ given) whole other h k t u [] more e f told fit split fit2 = true≢false (sym fit2)
  unlike (g ∷ given) whole other h k t u (x ∷ front) more e f told fit split fit2 =
      let here = first_true (fits g h) _ (sym (ap (all_fit fits (g ∷ given)) e) ∙ fit) in
      let same : x ≡ k = ap (head_or x) (sym split ∙ f) in
      true≢false (sym (first_true (fits g x) _ fit2) ∙ ap (fits g) same ∙ told g here)

  nothing : (gs : List P) → all_fit fits gs [] ≡ true → gs ≡ []
  nothing [] e = refl
  nothing (g ∷ gs) e = absurd (true≢false (sym e))

module _ {P M : Type 0} (fits : P → M → Bool) (A S : Type 0) (spelled : S → A → List M) (next : S → A → S) (ends : S → List M) where
  abbrev marks_all : S → List A → List M
  marks_all = all_marks spelled next

  abbrev behind : S → List A → S
  behind = state_behind spelled next

  abbrev marks_ended : S → List A → List M
  marks_ended = ended_marks spelled next ends

  abbrev choice : S → Option A → List M
  choice = end_or spelled ends

  abbrev end_marks : S → Unit {0} → List M
  end_marks s u = ends s

  -- ---- one value more or the end, and what comes behind

  abbrev More : Option A → Type 0
  More None = Unit {0}
  More (Some x) = List A

  abbrev more_marks : (s : S) → (o : Option A) → More o → List M
  more_marks s None u = []
  more_marks s (Some x) xs = marks_ended (next s x) xs

  abbrev Choices : Type 0
  Choices = (o : Option A) × More o

  abbrev made : (o : Option A) → More o → List A
  made None u = []
  made (Some x) xs = x ∷ xs

  abbrev to : Choices → List A
  to p = made p.0 p.1

  abbrev from : List A → Choices
  from [] = (None, tt)
  from (x ∷ xs) = (Some x, xs)

  abbrev pair_marks : S → Choices → List M
  pair_marks s p = choice s p.0 ++ more_marks s p.0 p.1

  there : (xs : List A) → to (from xs) ≡ xs
  there [] = refl
  there (x ∷ xs) = refl

  made_alike : (s : S) (o : Option A) (more : More o) → marks_ended s (made o more) ≡ pair_marks s (o, more)
  made_alike s None u = sym (no_more (ends s))
  made_alike s (Some x) xs = assoc (spelled s x) (marks_all (next s x) xs) (ends (behind (next s x) xs))

  alike : (s : S) (xs : List A) → marks_ended s xs ≡ pair_marks s (from xs)
  alike s [] = made_alike s None tt
  alike s (x ∷ xs) = made_alike s (Some x) xs

  abbrev some_more : (o : Option A) → More o
  some_more None = tt
  some_more (Some x) = []

  -- ---- reading

  -- the end is read behind values
  pub read_end : (s : S) (xs : List A) (ps back rest : List P) → IsRead fits (marks_all s) ps xs back → IsRead fits (end_marks (behind s xs)) back tt rest
      → IsRead fits (marks_ended s) ps xs rest
  read_end s xs ps back rest r q = record {
    given = r.given ++ q.given;
    split = r.split ∙ ap (λ l. r.given ++ l) q.split ∙ sym (assoc r.given q.given rest);
    fit = join fits r.given q.given (marks_all s xs) (ends (behind s xs)) r.fit q.fit;
  }

  -- neither one value more nor the end comes behind those that were read, or one that begins is wrong
  pub wrong_there : ((s : S) → Apart fits (choice s)) → (s : S) (xs : List A) (ps back rest : List P) (m : M) → IsRead fits (marks_all s) ps xs back
      → IsWrong fits (choice (behind s xs)) back m rest → IsWrong fits (marks_ended s) ps m rest
  wrong_there apart s [] ps back rest m r w =
      wrong_via fits Choices (List A) to from (pair_marks s) (marks_ended s) (alike s) (λ p. made_alike s p.0 p.1) ps rest m
      (after.wrong_first fits (Option A) More (choice s) (more_marks s) (apart s) some_more ps rest m
      (subst (λ l. IsWrong fits (choice s) l m rest) (sym (r.split ∙ ap (λ l. l ++ back) (nothing fits r.given r.fit))) w))
  wrong_there apart s (x ∷ xs) ps back rest m r w =
      let c = cut_pieces fits r.given (spelled s x) (marks_all (next s x) xs) r.fit in
      let mid = c.back ++ back in
      wrong_via fits Choices (List A) to from (pair_marks s) (marks_ended s) (alike s) (λ p. made_alike s p.0 p.1) ps rest m
      (after.wrong_second fits (Option A) More (choice s) (more_marks s) (Some x) (apart s (Some x)) ps mid rest m
      (record { given = c.front; split = r.split ∙ ap (λ l. l ++ back) c.split ∙ assoc c.front c.back back; fit = c.front_fits })
      (wrong_there apart (next s x) xs mid back rest m (record { given = c.back; split = refl; fit = c.back_fits }) w))

  -- ---- where first marks tell

  module _ (first : S → M) (after_first : S → List M) (end_begins : (s : S) → ends s ≡ first s ∷ after_first s) (head : S → A → M) (after_head : S → A → List M)
      (begins : (s : S) (x : A) → spelled s x ≡ head s x ∷ after_head s x)
      (told : (s : S) (x : A) (p : P) → fits p (first s) ≡ true → fits p (head s x) ≡ false) where
    -- a value is wrong where the end doesn't come
    pub wrong_value : (s : S) (ps rest : List P) (m : M) → begins_with fits ps (first s) ≡ false → IsWrong fits (spelled s) ps m rest
        → IsWrong fits (choice s) ps m rest
    wrong_value s ps rest m other w = record {
      given = w.given;
      split = w.split;
      awaits = record { value = Some w.awaits.value; first = w.awaits.first; more = w.awaits.more; split = w.awaits.split; fit = w.awaits.fit };
      none = none rest w.split w.none;
    }
      where
        none : (rest : List P) → ps ≡ w.given ++ rest → NoneFits fits (spelled s) w.given rest → NoneFits fits (choice s) w.given rest
        none [] cut h = tt
        none (p ∷ rest) cut h = λ n a. by n a.value a.first a.more a.split a.fit
          where
            by : (n : M) (o : Option A) (front more : List M) → choice s o ≡ front ++ n ∷ more → all_fit fits w.given front ≡ true → fits p n ≡ false
            by n None front more split fit = other_way fits ps w.given rest p (ends s) (first s) (after_first s) front more n (end_begins s) other cut split fit
            by n (Some x) front more split fit = h n (record { value = x; first = front; more = more; split = split; fit = fit })

    other_value : (s : S) (x : A) (ps : List P) → begins_with fits ps (first s) ≡ true → begins_with fits ps (head s x) ≡ false
    other_value s x [] e = absurd (true≢false (sym e))
    other_value s x (p ∷ ps) e = told s x p e

    -- the end is wrong behind its first mark
    pub wrong_end : (s : S) (ps rest : List P) (m : M) → begins_with fits ps (first s) ≡ true → IsWrong fits (end_marks s) ps m rest
        → IsWrong fits (choice s) ps m rest
    wrong_end s ps rest m here w = record {
      given = w.given;
      split = w.split;
      awaits = record { value = None; first = w.awaits.first; more = w.awaits.more; split = w.awaits.split; fit = w.awaits.fit };
      none = none rest w.split w.none;
    }
      where
        none : (rest : List P) → ps ≡ w.given ++ rest → NoneFits fits (end_marks s) w.given rest → NoneFits fits (choice s) w.given rest
        none [] cut h = tt
        none (p ∷ rest) cut h = λ n a. by n a.value a.first a.more a.split a.fit
          where
            by : (n : M) (o : Option A) (front more : List M) → choice s o ≡ front ++ n ∷ more → all_fit fits w.given front ≡ true → fits p n ≡ false
            by n None front more split fit = h n (record { value = tt; first = front; more = more; split = split; fit = fit })
            by n (Some x) front more split fit = other_way fits ps w.given rest p (spelled s x) (head s x) (after_head s x) front more n (begins s x)
                (other_value s x ps here) cut split fit

    no_front : (s : S) (x : A) → Fronts fits (choice s) None (Some x) → ⊥
    no_front s x f = unlike fits f.given (ends s) (spelled s x) (first s) (head s x) (after_first s) (after_head s x) f.first f.more (end_begins s) (begins s x)
        (told s x) f.whole f.split f.front

    no_front_back : (s : S) (x : A) → Fronts fits (choice s) (Some x) None → ⊥
    no_front_back s x f = unlike fits f.given (spelled s x) (ends s) (head s x) (first s) (after_head s x) (after_first s) f.first f.more (begins s x)
        (end_begins s)
        (λ p e. not_first s x p e) f.whole f.split f.front
      where
        not_first : (s : S) (x : A) (p : P) → fits p (head s x) ≡ true → fits p (first s) ≡ false
        not_first s x p e = by (fits p (first s)) refl
          where
            by : (b : Bool) → fits p (first s) ≡ b → fits p (first s) ≡ false
            by true e2 = absurd (true≢false (sym e ∙ told s x p e2))
            by false e2 = e2

    pub apart_end : (s : S) → ApartAt fits (choice s) None
    apart_end s None h = refl
    apart_end s (Some x) h = absurd (elim h [ inl f ↦ no_front s x f | inr f ↦ no_front_back s x f ])

    value_front : (s : S) (x y : A) → Fronts fits (choice s) (Some x) (Some y) → Fronts fits (spelled s) x y
    value_front s x y f = record { given = f.given; first = f.first; more = f.more; whole = f.whole; split = f.split; front = f.front }

    pub apart_value : (s : S) (x : A) → ApartAt fits (spelled s) x → ApartAt fits (choice s) (Some x)
    apart_value s x apart None h = absurd (elim h [ inl f ↦ no_front_back s x f | inr f ↦ no_front s x f ])
    apart_value s x apart (Some y) h = ap Some (apart y (elim h [ inl f ↦ inl (value_front s x y f) | inr f ↦ inr (value_front s y x f) ]))

    pub apart_choice : (s : S) → Apart fits (spelled s) → Apart fits (choice s)
    apart_choice s apart None = apart_end s
    apart_choice s apart (Some x) = apart_value s x (apart x)

    pub apart_ended : (s : S) (xs : List A) → AllByRecursion (λ x. (s : S) → ApartAt fits (spelled s) x) xs → ApartAt fits (marks_ended s) xs
    apart_ended s [] h =
        apart_via fits Choices (List A) to from there (pair_marks s) (marks_ended s) (alike s) []
        (after.apart_pair fits (Option A) More (choice s) (more_marks s) None tt (apart_end s) (λ u f. refl))
    apart_ended s (x ∷ xs) h =
        apart_via fits Choices (List A) to from there (pair_marks s) (marks_ended s) (alike s) (x ∷ xs)
        (after.apart_pair fits (Option A) More (choice s) (more_marks s) (Some x) xs (apart_value s x (h.0 s)) (apart_ended (next s x) xs h.1))

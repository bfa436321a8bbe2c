-- Marks that may come next in lists are of one sort.
use Rattle.std.specs.Prelude.{◌≡◌, ℕ, zero, suc, ◌+◌, ◌≤◌, Bool, true, false, List, [], ◌∷◌, ◌++◌, length, Option, None, Some, refl}
use mathlib.Core.Path.{sym, ap, ◌∙◌}
use mathlib.Core.Bool.{true≢false}
use native.Mathlib.Omega.{arith}
use Rattle.spelling_laws.specs.Spelled.{all_fit, Apart, Awaits, OneSort}
use Rattle.spelling_laws.specs.Lists.{Many, many, state_behind, all_marks, many_marks, headed_marks, ended_marks, end_or}
use Rattle.spelling_laws.proofs.Counted.{off, first_marks, off_marks, all_apart}
use Rattle.spelling_laws.proofs.Fitting.{first_true, head_or, length-joined, no_more, assoc}
use Rattle.spelling_laws.proofs.Sorts.{sorts_pair}

module _ {P M : Type 0} (fits : P → M → Bool) (sort : M → Bool) where
  abbrev pub Sorted : {A : Type 0} → ℕ → (A → List M) → Type 0
  Sorted most s = OneSort fits most sort s

  pub sorted_less : {A : Type 0} (s : A → List M) (most less : ℕ) → less ≤ most → Sorted most s → Sorted less s
  sorted_less s most less small h gs m n few v w = h gs m n (omega arith) v w

  pub sorted_via : (A B : Type 0) (from : B → A) (sA : A → List M) (sB : B → List M) → ((b : B) → sB b ≡ sA (from b)) → (most : ℕ) → Sorted most sA
      → Sorted most sB
  sorted_via A B from sA sB alike most h gs m n few v w = h gs m n few (back m v) (back n w)
    where
      back : (m : M) → Awaits fits sB gs m → Awaits fits sA gs m
      back m v = record { value = from v.value; first = v.first; more = v.more; split = sym (alike v.value) ∙ v.split; fit = v.fit }

  pub sorted_then : (A : Type 0) (B : A → Type 0) (sA : A → List M) (sB : (a : A) → B a → List M) (most : ℕ) → Apart fits sA → Sorted most sA
      → ((a : A) → Sorted most (sB a)) → Sorted most (λ (p : (a : A) × B a). sA p.0 ++ sB p.0 p.1)
  sorted_then A B sA sB most apart first second = sorts_pair fits A B sA sB apart most most (λ a. omega arith) sort first second

  module _ (A S : Type 0) (spelled : S → A → List M) (next : S → A → S) (apart : (s : S) → Apart fits (spelled s)) where
    no_marks : (s : S) (gs : List P) (m : M) → Awaits fits (many_marks spelled next zero s) gs m → ⊥
    no_marks s gs m w = by w.value.items w.value.count w.split
      where
        by : (xs : List A) → length xs ≡ 0 → all_marks spelled next s xs ≡ w.first ++ m ∷ w.more → ⊥
        by [] c e = let l = ap length e ∙ length-joined w.first (m ∷ w.more) in absurd (omega arith)
        by (x ∷ xs) c e = absurd (omega arith)

    pub many_sorted : (most : ℕ) → ((s : S) → Sorted most (spelled s)) → (n : ℕ) (s : S) → Sorted most (many_marks spelled next n s)
    many_sorted most h zero s = λ gs m k few v w. absurd (no_marks s gs m v)
    many_sorted most h (suc n) s =
        sorted_via ((x : A) × Many A n) (Many A (suc n)) (off A n) (first_marks fits A S spelled next n s) (many_marks spelled next (suc n) s)
        (off_marks fits A S spelled next n s) most
        (sorted_then A (λ x. Many A n) (spelled s) (λ x. many_marks spelled next n (next s x)) most (apart s) (h s) (λ x. many_sorted most h n (next s x)))

    pub headed_sorted : (most : ℕ) → ((s : S) → Sorted most (spelled s)) → (head : ℕ → List M) (start : ℕ → S) → Apart fits head → Sorted most head
        → Sorted most (headed_marks spelled next head start)
    headed_sorted most h head start apart_head first =
        sorted_via ((n : ℕ) × Many A n) (List A) (λ xs. (length xs, many (length xs) xs refl)) (λ p. head p.0 ++ many_marks spelled next p.0 (start p.0) p.1)
        (headed_marks spelled next head start) (λ xs. refl) most
        (sorted_then ℕ (λ n. Many A n) head (λ n. many_marks spelled next n (start n)) most apart_head first (λ n. many_sorted most h n (start n)))

  -- ---- up to an end

  module _ (A S : Type 0) (spelled : S → A → List M) (next : S → A → S) (ends : S → List M) (first : S → M) (after_first : S → List M)
      (end_begins : (s : S) → ends s ≡ first s ∷ after_first s) (head : S → A → M) (after_head : S → A → List M)
      (begins : (s : S) (x : A) → spelled s x ≡ head s x ∷ after_head s x)
      (told : (s : S) (x : A) (p : P) → fits p (first s) ≡ true → fits p (head s x) ≡ false) (same : (s t : S) (x : A) → sort (first s) ≡ sort (head t x))
      (firsts : (s t : S) → sort (first s) ≡ sort (first t)) where
    -- what comes first of marks
    leads : (ms : List M) (h : M) (t front more : List M) (m : M) → ms ≡ h ∷ t → ms ≡ front ++ m ∷ more → all_fit fits [] front ≡ true → m ≡ h
    leads ms h t [] more m e s f = ap (head_or m) (sym s ∙ e)
    leads ms h t (x ∷ front) more m e s f = absurd (true≢false (sym f))

    -- the first piece of marks that go on
    fits_first : (g : P) (gs : List P) (ms : List M) (h : M) (t front more : List M) (m : M) → ms ≡ h ∷ t → ms ≡ front ++ m ∷ more
        → all_fit fits (g ∷ gs) front ≡ true
        → fits g h ≡ true
    fits_first g gs ms h t [] more m e s f = absurd (true≢false (sym f))
    fits_first g gs ms h t (x ∷ front) more m e s f = ap (fits g) (sym (ap (head_or h) (sym s ∙ e))) ∙ first_true (fits g x) _ f

    between : (s : S) (gs : List P) (m k : M) (x : A) (front more front2 more2 : List M) → ends s ≡ front ++ m ∷ more → all_fit fits gs front ≡ true
        → spelled s x ≡ front2 ++ k ∷ more2 → all_fit fits gs front2 ≡ true → sort m ≡ sort k
    between s [] m k x front more front2 more2 e f g h =
        ap sort (leads (ends s) (first s) (after_first s) front more m (end_begins s) e f) ∙ same s s x
        ∙ sym (ap sort (leads (spelled s x) (head s x) (after_head s x) front2 more2 k (begins s x) g h))
    between s (p ∷ gs) m k x front more front2 more2 e f g h =
        absurd (true≢false (sym (fits_first p gs (spelled s x) (head s x) (after_head s x) front2 more2 k (begins s x) g h)
        ∙ told s x p (fits_first p gs (ends s) (first s) (after_first s) front more m (end_begins s) e f)))

    pub choice_sorted : (most : ℕ) (s : S) → Sorted most (spelled s) → Sorted most (λ (u : Unit {0}). ends s) → Sorted most (end_or spelled ends s)
    choice_sorted most s h e gs m k few v w = by v.value w.value v.split w.split
      where
        by : (o q : Option A) → end_or spelled ends s o ≡ v.first ++ m ∷ v.more → end_or spelled ends s q ≡ w.first ++ k ∷ w.more → sort m ≡ sort k
        by None None a b =
            e gs m k few (record { value = tt; first = v.first; more = v.more; split = a; fit = v.fit })
            (record { value = tt; first = w.first; more = w.more; split = b; fit = w.fit })
        by (Some x) (Some y) a b =
            h gs m k few (record { value = x; first = v.first; more = v.more; split = a; fit = v.fit })
            (record { value = y; first = w.first; more = w.more; split = b; fit = w.fit })
        by None (Some y) a b = between s gs m k y v.first v.more w.first w.more a v.fit b w.fit
        by (Some x) None a b = sym (between s gs k m x w.first w.more v.first v.more b w.fit a v.fit)

    abbrev More : Option A → Type 0
    More None = Unit {0}
    More (Some x) = List A

    abbrev more_marks : (s : S) → (o : Option A) → More o → List M
    more_marks s None u = []
    more_marks s (Some x) xs = ended_marks spelled next ends (next s x) xs

    abbrev from : List A → (o : Option A) × More o
    from [] = (None, tt)
    from (x ∷ xs) = (Some x, xs)

    alike : (s : S) (xs : List A) → ended_marks spelled next ends s xs ≡ end_or spelled ends s (from xs).0 ++ more_marks s (from xs).0 (from xs).1
    alike s [] = sym (no_more (ends s))
    alike s (x ∷ xs) = assoc (spelled s x) (all_marks spelled next (next s x) xs) _

    front_sort : (s t : S) (xs : List A) (m : M) (front more : List M) → ended_marks spelled next ends s xs ≡ front ++ m ∷ more → all_fit fits [] front ≡ true
        → sort m ≡ sort (first t)
    front_sort s t [] m front more e f = ap sort (leads (ends s) (first s) (after_first s) front more m (end_begins s) e f) ∙ firsts s t
    front_sort s t (x ∷ xs) m front more e f =
        let behind = ends (state_behind spelled next (next s x) xs) in
        ap sort (leads (ended_marks spelled next ends s (x ∷ xs)) (head s x) ((after_head s x ++ all_marks spelled next (next s x) xs) ++ behind) front more m
        (ap (λ l. (l ++ all_marks spelled next (next s x) xs) ++ behind) (begins s x)) e f)
        ∙ sym (same t s x)

    some_mark : (s : S) (o : Option A) (k : ℕ) → suc k ≤ k + length (end_or spelled ends s o)
    some_mark s None k = let l = ap length (end_begins s) in omega arith
    some_mark s (Some x) k = let l = ap length (begins s x) in omega arith

    nothing_sorted : (most : ℕ) → Sorted most (λ (u : Unit {0}). [])
    nothing_sorted most gs m n few v w = let l = ap length v.split ∙ length-joined v.first (m ∷ v.more) in absurd (omega arith)

    module _ (apart : (s : S) → Apart fits (end_or spelled ends s)) (most : ℕ) (each : (s : S) → Sorted most (end_or spelled ends s)) where
      at_front : (s : S) (gs : List P) (m k : M) → length gs ≤ 0 → Awaits fits (ended_marks spelled next ends s) gs m
          → Awaits fits (ended_marks spelled next ends s) gs k → sort m ≡ sort k
      at_front s [] m k few v w =
          front_sort s s v.value m v.first v.more v.split v.fit ∙ sym (front_sort s s w.value k w.first w.more w.split w.fit)
      at_front s (g ∷ gs) m k few v w = absurd (omega arith)

      up_to : (k : ℕ) → k ≤ most → (s : S) → Sorted k (ended_marks spelled next ends s)
      up_to zero small s = at_front s
      up_to (suc k) small s =
          sorted_via ((o : Option A) × More o) (List A) from (λ p. end_or spelled ends s p.0
          ++ more_marks s p.0 p.1) (ended_marks spelled next ends s) (alike s) (suc k)
          (sorts_pair fits (Option A) More (end_or spelled ends s) (more_marks s) (apart s) (suc k) k (λ o. some_mark s o k) sort
          (sorted_less (end_or spelled ends s) most (suc k) small (each s)) (rest (λ t. up_to k (omega arith) t)))
        where
          rest : ((t : S) → Sorted k (ended_marks spelled next ends t)) → (o : Option A) → Sorted k (more_marks s o)
          rest h None = nothing_sorted k
          rest h (Some x) = h (next s x)

      pub ended_sorted : (s : S) → Sorted most (ended_marks spelled next ends s)
      ended_sorted s = up_to most (omega arith) s

-- Marks that may come next somewhere are of one sort.
use Rattle.std.specs.Prelude.{◌≡◌, ℕ, ◌+◌, ◌≤◌, Bool, true, List, [], ◌∷◌, ◌++◌, length, refl}
use mathlib.Core.Logic.{inl, inr}
use mathlib.Core.Path.{sym, ap, subst, ◌∙◌}
use native.Mathlib.Omega.{arith}
use Rattle.spelling_laws.specs.Spelled.{all_fit, Apart, Awaits, OneSort}
use Rattle.spelling_laws.proofs.Fitting.{cut_pieces, cut_marks, same_length, Levi, first_longer, first_shorter, levi, assoc, length-joined, cancel, head_or}
use Rattle.spelling_laws.proofs.Fitting.{tail_of, no_more}
use Rattle.spelling_laws.proofs.Then.{Pair}

module _ {P M : Type 0} (fits : P → M → Bool) (sort : M → Bool) (V : Type 0) (mark : V → M) (same : (v w : V) → sort (mark v) ≡ sort (mark w)) where
  -- only the one mark may come
  awaited : (gs : List P) (m : M) → Awaits fits (λ v. mark v ∷ []) gs m → (v : V) × (m ≡ mark v)
  awaited gs m w = (w.value, by w.first w.split)
    where
      by : (first : List M) → mark w.value ∷ [] ≡ first ++ m ∷ w.more → m ≡ mark w.value
      by [] s = sym (ap (head_or m) s)
      by (x ∷ first) s = let l = ap length (ap tail_of s) ∙ length-joined first (m ∷ w.more) in absurd (omega arith)

  pub sorts_one : (most : ℕ) → OneSort fits most sort (λ v. mark v ∷ [])
  sorts_one most gs m n few v w =
      let a = awaited gs m v in
      let b = awaited gs n w in
      ap sort a.1 ∙ same a.0 b.0 ∙ ap sort (sym b.1)

module _ {P M : Type 0} (fits : P → M → Bool) (A : Type 0) (B : A → Type 0) (sA : A → List M) (sB : (a : A) → B a → List M) where
  abbrev pair_spelled : Pair A B → List M
  pair_spelled p = sA p.0 ++ sB p.0 p.1

  -- where in a pair the next mark stands: in the first value, or behind it in the second
  data Stands (gs : List P) (m : M) : Type 0 where
    in_first : Awaits fits sA gs m → Stands gs m
    in_second : (a : A) (front back : List P) → gs ≡ front ++ back → all_fit fits front (sA a) ≡ true → Awaits fits (sB a) back m → Stands gs m

  stands : (gs : List P) (m : M) → Awaits fits pair_spelled gs m → Stands gs m
  stands gs m v = by (levi (sA v.value.0) (sB v.value.0 v.value.1) v.first (m ∷ v.more) v.split)
    where
      by : Levi (sA v.value.0) (sB v.value.0 v.value.1) v.first (m ∷ v.more) → Stands gs m
      by (first_longer [] e f) =
          in_second v.value.0 gs [] (sym (no_more gs)) (subst (λ l. all_fit fits gs l ≡ true) (sym (e ∙ no_more v.first)) v.fit)
          (record { value = v.value.1; first = []; more = v.more; split = sym f; fit = refl })
      by (first_longer (x ∷ mid) e f) = in_first (record {
        value = v.value.0;
        first = v.first;
        more = mid;
        split = e ∙ ap (λ h. v.first ++ h ∷ mid) (sym
            (ap (head_or x) f));
        fit = v.fit;
      })
      by (first_shorter x mid e f) =
          let c = cut_pieces fits gs (sA v.value.0) (x ∷ mid) (subst (λ l. all_fit fits gs l ≡ true) e v.fit) in
          in_second v.value.0 c.front c.back c.split c.front_fits (record { value = v.value.1; first = x ∷ mid; more = v.more; split = f; fit = c.back_fits })

  module _ (apart : Apart fits sA) where
    -- a whole first value is none that still goes on
    not_both : (gs front back : List P) (a : A) (m : M) → gs ≡ front ++ back → all_fit fits front (sA a) ≡ true → Awaits fits sA gs m → ⊥
    not_both gs front back a m cut e v =
        let c = cut_marks fits front back v.first (subst (λ l. all_fit fits l v.first ≡ true) cut v.fit) in
        let same = apart a v.value (inl (record {
          given = front;
          first = c.front;
          more = c.back ++ m ∷ v.more;
          whole = e;
          split = v.split ∙ ap
              (λ l. l ++ m ∷ v.more) c.split ∙ assoc c.front c.back (m ∷ v.more);
          front = c.front_fits;
        })) in
        let l1 = same_length fits front (sA a) e in
        let l2 = same_length fits gs v.first v.fit in
        let l3 = ap length cut ∙ length-joined front back in
        let l4 = ap (λ y. length (sA y)) same in
        let l5 = ap length v.split ∙ length-joined v.first (m ∷ v.more) in
        absurd (omega arith)

    -- two whole first values at the front of the same pieces are one
    same_first : (front back other rest : List P) (a x : A) → front ++ back ≡ other ++ rest → all_fit fits front (sA a) ≡ true → all_fit fits other
        (sA x) ≡ true → a ≡ x
    same_first front back other rest a x e f g = by (levi front back other rest e)
      where
        by : Levi front back other rest → a ≡ x
        by (first_longer mid e1 f1) =
            let c = cut_marks fits other mid (sA a) (subst (λ l. all_fit fits l (sA a) ≡ true) e1 f) in
            apart a x (inr (record { given = other; first = c.front; more = c.back; whole = g; split = c.split; front = c.front_fits }))
        by (first_shorter p mid e1 f1) =
            let c = cut_marks fits front (p ∷ mid) (sA x) (subst (λ l. all_fit fits l (sA x) ≡ true) e1 g) in
            apart a x (inl (record { given = front; first = c.front; more = c.back; whole = f; split = c.split; front = c.front_fits }))

    -- the second may be of one sort behind fewer pieces, as the first one's take some
    pub sorts_pair : (most some : ℕ) → ((a : A) → most ≤ some + length (sA a)) → (sort : M → Bool) → OneSort fits most sort sA
        → ((a : A) → OneSort fits some sort (sB a)) → OneSort fits most sort pair_spelled
    sorts_pair most some room sort first second gs m n few v w = by (stands gs m v) (stands gs n w)
      where
        by : Stands gs m → Stands gs n → sort m ≡ sort n
        by (in_first x) (in_first y) = first gs m n few x y
        by (in_first x) (in_second a front back e f y) = absurd (not_both gs front back a m e f x)
        by (in_second a front back e f x) (in_first y) = absurd (not_both gs front back a n e f y)
        by (in_second a front back e f x) (in_second b other rest g h y) =
            let same = same_first front back other rest a b (sym e ∙ g) f h in
            let l1 = same_length fits front (sA a) f in
            let l2 = same_length fits other (sA b) h in
            let l3 = ap (λ z. length (sA z)) same in
            let l4 = ap length e ∙ length-joined front back in
            let l5 = room a in
            let few_back : length back ≤ some = omega arith in
            let backs = cancel front back other rest (omega arith) (sym e ∙ g) in
            subst (λ z. (r : List P) → Awaits fits (sB z) r n → back ≡ r → sort m ≡ sort n) same
            (λ r z q. second a back m n few_back x (subst (λ l. Awaits fits (sB a) l n) (sym q) z)) rest y backs

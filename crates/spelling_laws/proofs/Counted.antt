-- So many values, one behind the other: k are read, and n - k are to come.
use Rattle.std.specs.Prelude.{◌≡◌, ℕ, zero, suc, ◌<◌, Bool, true, List, [], ◌∷◌, ◌++◌, length, refl}
use Rattle.std.proofs.Math.Nat.{ℕ_set}
use Rattle.std.specs.List.{AllByRecursion}
use mathlib.Core.Path.{sym, ap, subst, ◌∙◌}
use native.Mathlib.Omega.{arith}
use Rattle.spelling_laws.specs.Spelled.{all_fit, ApartAt, Apart, IsRead, IsWrong}
use Rattle.spelling_laws.specs.Lists.{Many, many, state_behind, all_marks, many_marks, headed_marks}
use Rattle.spelling_laws.proofs.Fitting.{join, cut_pieces, assoc, no_more, same_length}
use Rattle.spelling_laws.proofs.One.{apart_via}
use Rattle.spelling_laws.proofs.Via.{read_via, wrong_via}
use Rattle.spelling_laws.proofs.Then as after

module _ (A : Type 0) (n : ℕ) where
  -- so many values are told by their list
  pub same_many : (a b : Many A n) → a.items ≡ b.items → a ≡ b
  same_many a b e = subst (λ (ys : List A). (q : length ys ≡ n) → a ≡ many n ys q) e (λ q. ap (λ c. many n a.items c) (ℕ_set _ _ a.count q)) b.count

  pub tail_count : (x : A) (xs : List A) → length (x ∷ xs) ≡ suc n → length xs ≡ n
  tail_count x xs e = omega arith

  abbrev pub FirstOf : Type 0
  FirstOf = (x : A) × Many A n

  abbrev pub onto : FirstOf → Many A (suc n)
  onto p = record { items = p.0 ∷ p.1.items; count = let c = p.1.count in omega arith }

  abbrev pub parted : (xs : List A) → length xs ≡ suc n → FirstOf
  parted [] e = absurd (omega arith)
  parted (x ∷ xs) e = (x, many n xs (tail_count x xs e))

  abbrev pub off : Many A (suc n) → FirstOf
  off m = parted m.items m.count

pub onto_off : (A : Type 0) (n : ℕ) (m : Many A (suc n)) → onto A n (off A n m) ≡ m
onto_off A n m = by m.items m.count
  where
    by : (xs : List A) (e : length xs ≡ suc n) → onto A n (off A n (many (suc n) xs e)) ≡ many (suc n) xs e
    by [] e = absurd (omega arith)
    by (x ∷ xs) e = same_many A (suc n) _ _ refl

-- so many times the same value
pub some_many : {A : Type 0} → A → (n : ℕ) → Many A n
some_many some zero = many zero [] refl
some_many {A} some (suc n) = onto A n (some, some_many some n)

module _ {P M : Type 0} (fits : P → M → Bool) (A S : Type 0) (spelled : S → A → List M) (next : S → A → S) where
  abbrev marks_all : S → List A → List M
  marks_all = all_marks spelled next

  abbrev marks_many : (n : ℕ) → S → Many A n → List M
  marks_many = many_marks spelled next

  abbrev behind : S → List A → S
  behind = state_behind spelled next

  pub marks_more : (s : S) (xs ys : List A) → marks_all s (xs ++ ys) ≡ marks_all s xs ++ marks_all (behind s xs) ys
  marks_more s [] ys = refl
  marks_more s (x ∷ xs) ys =
      ap (λ l. spelled s x ++ l) (marks_more (next s x) xs ys)
      ∙ sym (assoc (spelled s x) (marks_all (next s x) xs) (marks_all (behind (next s x) xs) ys))

  pub behind_more : (s : S) (xs ys : List A) → behind s (xs ++ ys) ≡ behind (behind s xs) ys
  behind_more s [] ys = refl
  behind_more s (x ∷ xs) ys = behind_more (next s x) xs ys

  -- ---- reading

  pub read_none : (s : S) (ps : List P) → IsRead fits (marks_all s) ps [] ps
  read_none s ps = record { given = []; split = refl; fit = refl }

  -- one more behind those that were read
  pub read_more : (s : S) (xs : List A) (x : A) (ps back rest : List P) → IsRead fits (marks_all s) ps xs back → IsRead fits (spelled (behind s xs)) back x rest
      → IsRead fits (marks_all s) ps (xs ++ x ∷ []) rest
  read_more s xs x ps back rest r q = record {
    given = r.given ++ q.given;
    split = r.split ∙ ap (λ l. r.given ++ l) q.split ∙ sym (assoc r.given q.given rest);
    fit = subst (λ l. all_fit fits (r.given ++ q.given) l ≡ true)
        (ap (λ l. marks_all s xs ++ l) (sym (no_more (spelled (behind s xs) x))) ∙ sym (marks_more s xs (x ∷ [])))
        (join fits r.given q.given (marks_all s xs) (spelled (behind s xs) x) r.fit q.fit);
  }

  pub read_many : (n : ℕ) (s : S) (xs : List A) (count : length xs ≡ n) (ps rest : List P) → IsRead fits (marks_all s) ps xs rest
      → IsRead fits (marks_many n s) ps (many n xs count) rest
  read_many n s xs count ps rest r = record { given = r.given; split = r.split; fit = r.fit }

  -- ---- one in front of the others

  abbrev pub first_marks : (n : ℕ) (s : S) → FirstOf A n → List M
  first_marks n s p = spelled s p.0 ++ marks_many n (next s p.0) p.1

  pub off_marks : (n : ℕ) (s : S) (m : Many A (suc n)) → marks_many (suc n) s m ≡ first_marks n s (off A n m)
  off_marks n s m = by m.items m.count
    where
      by : (xs : List A) (e : length xs ≡ suc n) → marks_all s xs ≡ first_marks n s (off A n (many (suc n) xs e))
      by [] e = absurd (omega arith)
      by (x ∷ xs) e = refl

  pub apart_many : (n : ℕ) (s : S) (xs : List A) (count : length xs ≡ n) → AllByRecursion (λ x. (s : S) → ApartAt fits (spelled s) x) xs
      → ApartAt fits (marks_many n s) (many n xs count)
  apart_many zero s [] count h = λ b f. same_many A zero _ b (no_items b.items b.count)
    where
      no_items : (ys : List A) → length ys ≡ 0 → [] ≡ ys
      no_items [] e = refl
      no_items (y ∷ ys) e = absurd (omega arith)
  apart_many zero s (x ∷ xs) count h = absurd (omega arith)
  apart_many (suc n) s [] count h = absurd (omega arith)
  apart_many (suc n) s (x ∷ xs) count h =
      apart_via fits (FirstOf A n) (Many A (suc n)) (onto A n) (off A n) (onto_off A n) (first_marks n s) (marks_many (suc n) s) (off_marks n s)
      (many (suc n) (x ∷ xs) count)
      (after.apart_pair fits A (λ y. Many A n) (spelled s) (λ y. marks_many n (next s y)) x (many n xs (tail_count A n x xs count)) (h.0 s)
      (apart_many n (next s x) xs (tail_count A n x xs count) h.1))

  module _ (apart : (s : S) → Apart fits (spelled s)) where
    each : (xs : List A) → AllByRecursion (λ x. (s : S) → ApartAt fits (spelled s) x) xs
    each [] = tt
    each (x ∷ xs) = (λ s. apart s x, each xs)

    pub all_apart : (n : ℕ) (s : S) → Apart fits (marks_many n s)
    all_apart n s m = apart_many n s m.items m.count (each m.items)

    -- the next is wrong behind those that were read
    pub wrong_next : A → (n : ℕ) (s : S) (xs : List A) → length xs < n → (ps back rest : List P) (m : M) → IsRead fits (marks_all s) ps xs back
        → IsWrong fits (spelled (behind s xs)) back m rest → IsWrong fits (marks_many n s) ps m rest
    wrong_next some zero s xs few ps back rest m r w = absurd (omega arith)
    wrong_next some (suc n) s [] few ps back rest m r w =
        wrong_via fits (FirstOf A n) (Many A (suc n)) (onto A n) (off A n) (first_marks n s) (marks_many (suc n) s) (off_marks n s) (λ p. refl) ps rest m
        (after.wrong_first fits A (λ y. Many A n) (spelled s) (λ y. marks_many n (next s y)) (apart s) (λ y. some_many some n) ps rest m
        (subst (λ l. IsWrong fits (spelled s) l m rest) (sym (r.split ∙ ap (λ l. l ++ back) (nothing r.given r.fit))) w))
      where
        nothing : (gs : List P) → all_fit fits gs [] ≡ true → gs ≡ []
        nothing [] e = refl
        nothing (g ∷ gs) e = let l = same_length fits (g ∷ gs) [] e in absurd (omega arith)
    wrong_next some (suc n) s (x ∷ xs) few ps back rest m r w =
        let c = cut_pieces fits r.given (spelled s x) (marks_all (next s x) xs) r.fit in
        let mid = c.back ++ back in
        wrong_via fits (FirstOf A n) (Many A (suc n)) (onto A n) (off A n) (first_marks n s) (marks_many (suc n) s) (off_marks n s) (λ p. refl) ps rest m
        (after.wrong_second fits A (λ y. Many A n) (spelled s) (λ y. marks_many n (next s y)) x (apart s x) ps mid rest m
        (record { given = c.front; split = r.split ∙ ap (λ l. l ++ back) c.split ∙ assoc c.front c.back back; fit = c.front_fits })
        (wrong_next some n (next s x) xs (omega arith) mid back rest m (record { given = c.back; split = refl; fit = c.back_fits }) w))

  -- ---- behind a heading

  module _ (head : ℕ → List M) (start : ℕ → S) where
    abbrev marks_headed : List A → List M
    marks_headed = headed_marks spelled next head start

    abbrev Headed : Type 0
    Headed = (n : ℕ) × Many A n

    abbrev items_of : Headed → List A
    items_of p = p.1.items

    abbrev with_count : List A → Headed
    with_count xs = (length xs, many (length xs) xs refl)

    abbrev pair_marks : Headed → List M
    pair_marks p = head p.0 ++ marks_many p.0 (start p.0) p.1

    head_alike : (p : Headed) → marks_headed (items_of p) ≡ pair_marks p
    head_alike p = ap (λ n. head n ++ marks_all (start n) p.1.items) p.1.count

    pub apart_headed : (xs : List A) → ApartAt fits head (length xs) → AllByRecursion (λ x. (s : S) → ApartAt fits (spelled s) x) xs
        → ApartAt fits marks_headed xs
    apart_headed xs apart h =
        apart_via fits Headed (List A) items_of with_count (λ l. refl) pair_marks marks_headed (λ l. refl) xs
        (after.apart_pair fits ℕ (λ n. Many A n) head (λ n. marks_many n (start n)) (length xs) (many (length xs) xs refl) apart
        (apart_many (length xs) (start (length xs)) xs refl h))

    -- the heading and so many values are read
    pub read_headed : (n : ℕ) (xs : List A) → length xs ≡ n → (ps back rest : List P) → IsRead fits head ps n back
        → IsRead fits (marks_all (start n)) back xs rest → IsRead fits marks_headed ps xs rest
    read_headed n xs count ps back rest r q =
        read_via fits Headed (List A) items_of with_count pair_marks marks_headed (λ l. refl) head_alike ps rest (n, many n xs count)
        (after.read_both fits ℕ (λ k. Many A k) head (λ k. marks_many k (start k)) ps back rest n (many n xs count) r
        (read_many n (start n) xs count back rest q))

    pub wrong_heading : A → Apart fits head → (ps rest : List P) (m : M) → IsWrong fits head ps m rest → IsWrong fits marks_headed ps m rest
    wrong_heading some apart ps rest m w =
        wrong_via fits Headed (List A) items_of with_count pair_marks marks_headed (λ l. refl) head_alike ps rest m
        (after.wrong_first fits ℕ (λ k. Many A k) head (λ k. marks_many k (start k)) apart (λ k. some_many some k) ps rest m w)

    -- the heading is read, and so many values are wrong
    pub wrong_headed : (n : ℕ) → ApartAt fits head n → (ps back rest : List P) (m : M) → IsRead fits head ps n back
        → IsWrong fits (marks_many n (start n)) back m rest → IsWrong fits marks_headed ps m rest
    wrong_headed n apart ps back rest m r w =
        wrong_via fits Headed (List A) items_of with_count pair_marks marks_headed (λ l. refl) head_alike ps rest m
        (after.wrong_second fits ℕ (λ k. Many A k) head (λ k. marks_many k (start k)) n apart ps back rest m r w)

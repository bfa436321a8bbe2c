-- Rows that are kept as chains, link by link.
use Rattle.std.proofs.Common.{◌≡◌, ◌≢◌, ◌∙◌, sym, ap, subst, refl, ℕ, zero, suc, ◌+◌, ◌<◌, ◌≤◌, arith, inl, inr, List, [], ◌∷◌, ◌++◌, length, get_or, set}
use Rattle.std.specs.Prelude.{◌⊎◌, Contains, replicate}
use Rattle.std.proofs.lemmas.Bool.{cases_lt, cases_eq}
use Rattle.std.proofs.lemmas.List.{append-nil, append_assoc, length-map, length-set, length-replicate, length_push}
use Rattle.std.proofs.lemmas.List.{get_or_append_left, get_or_past, get_or_push, get_or-set_same, get_or-set_other}
use Rattle.flow_graph.specs.Graph.{Graph, HasEdge, next_of}
use Rattle.flow_graph.proofs.Trails.{zeros}
use Rattle.flow_hubs.specs.declared.chains.Link.{Link}
use Rattle.flow_hubs.specs.Adding.{Adds}
use Rattle.flow_hubs.specs.Chained.{AreLinked, IsBack, back_from, no_link, row_from, rows_of}

-- ---- one row

back_none : (links : List Link) (n : ℕ) → back_from links n zero ≡ []
back_none links zero = refl
back_none links (suc n) = refl

-- more turns than links give the same
back_enough : (links : List Link) → IsBack links → (n m head : ℕ) → head ≤ n → head ≤ m → back_from links n head ≡ back_from links m head
back_enough links b zero m zero l k = sym (back_none links m)
back_enough links b zero m (suc h) l k = absurd (omega (arith, l))
back_enough links b (suc n) zero zero l k = refl
back_enough links b (suc n) zero (suc h) l k = absurd (omega (arith, k))
back_enough links b (suc n) (suc m) zero l k = refl
back_enough links b (suc n) (suc m) (suc h) l k =
    let low : (get_or links h no_link).before ≤ h = b h in
    ap (λ row. (get_or links h no_link).number ∷ row)
    (back_enough links b n m (get_or links h no_link).before (omega (arith, low, l)) (omega (arith, low, k)))

row_none : (links : List Link) → row_from links zero ≡ []
unfolding row_from
row_none links = refl

row_some : (links : List Link) → IsBack links → (h : ℕ)
    → row_from links (suc h) ≡ (get_or links h no_link).number ∷ row_from links (get_or links h no_link).before
unfolding row_from
row_some links b h =
    let low : (get_or links h no_link).before ≤ h = b h in
    ap (λ row. (get_or links h no_link).number ∷ row)
    (back_enough links b h (get_or links h no_link).before (get_or links h no_link).before low (omega arith))

-- links that are put behind change no row that ends before them
back_grown : (links more : List Link) → IsBack links → (n head : ℕ) → head ≤ length links → back_from (links ++ more) n head ≡ back_from links n head
back_grown links more b zero head l = refl
back_grown links more b (suc n) zero l = refl
back_grown links more b (suc n) (suc h) l =
    let same : get_or (links ++ more) h no_link ≡ get_or links h no_link = get_or_append_left links more no_link h (omega (arith, l)) in
    let low : (get_or links h no_link).before ≤ h = b h in
    ap (λ (k : Link). k.number ∷ back_from (links ++ more) n k.before) same
    ∙ ap (λ row. (get_or links h no_link).number ∷ row) (back_grown links more b n (get_or links h no_link).before (omega (arith, low, l)))

row_grown : (links more : List Link) → IsBack links → (head : ℕ) → head ≤ length links → row_from (links ++ more) head ≡ row_from links head
unfolding row_from
row_grown links more b head l = back_grown links more b head head l

-- ---- all rows

pub rows_at : (heads : List ℕ) (links : List Link) (i : ℕ) → next_of (rows_of heads links) i ≡ row_from links (get_or heads i 0)
unfolding rows_of row_from
rows_at [] links i = refl
rows_at (h ∷ hs) links zero = refl
rows_at (h ∷ hs) links (suc i) = rows_at hs links i

pub rows_many : (heads : List ℕ) (links : List Link) → length (rows_of heads links) ≡ length heads
unfolding rows_of
rows_many heads links = length-map heads (λ head. row_from links head)

-- ---- rows that begin empty

pub blank_linked : (n : ℕ) (heads : List ℕ) (links : List Link) → heads ≡ replicate n 0 → links ≡ [] → AreLinked heads links
blank_linked n heads links e f = record {
  ends = λ i. omega (arith, ap (λ xs. get_or xs i 0) e, zeros n i);
  back = subst IsBack (sym f) (λ k. omega arith);
}

pub blank_many : (n : ℕ) (heads : List ℕ) (links : List Link) → heads ≡ replicate n 0 → length (rows_of heads links) ≡ n
blank_many n heads links e = rows_many heads links ∙ (ap (λ (xs : List ℕ). length xs) e ∙ length-replicate n 0)

pub blank_empty : (n : ℕ) (heads : List ℕ) (links : List Link) → heads ≡ replicate n 0 → (i x : ℕ) → HasEdge (rows_of heads links) i x → ⊥
blank_empty n heads links e i x h =
    let none : next_of (rows_of heads links) i ≡ [] =
    rows_at heads links i ∙ (ap (λ head. row_from links head) (ap (λ xs. get_or xs i 0) e ∙ zeros n i) ∙ row_none links) in
    no_number (subst (λ row. Contains row x) none h)
  where
    no_number : Contains [] x → ⊥
    no_number c = omega (arith, c.1)

-- ---- a number is the last of its row

last_there : (links : List Link) (k number : ℕ) → (get_or links k no_link).number ≡ number → Contains (row_from links (suc k)) number
unfolding row_from
last_there links k number is = (0, omega arith, is)

pub ends_there : (heads : List ℕ) (links : List Link) (at k number : ℕ) → get_or heads at 0 ≡ suc k → (get_or links k no_link).number ≡ number
    → HasEdge (rows_of heads links) at number
ends_there heads links at k number e is =
    subst (λ row. Contains row number) (sym (rows_at heads links at ∙ ap (λ head. row_from links head) e)) (last_there links k number is)

-- ---- a row is read from its last link back

module _ (links : List Link) (b : IsBack links) where
  pub read_more : (first row now : List ℕ) (at k : ℕ) → at ≡ suc k → now ≡ row ++ (get_or links k no_link).number ∷ []
      → row ++ row_from links at ≡ first → now ++ row_from links (get_or links k no_link).before ≡ first
  read_more first row now at k e pushed whole =
      ap (λ xs. xs ++ row_from links (get_or links k no_link).before) pushed
      ∙ (append_assoc row ((get_or links k no_link).number ∷ []) (row_from links (get_or links k no_link).before)
      ∙ (ap (λ rest. row ++ rest) (sym (ap (λ head. row_from links head) e ∙ row_some links b k)) ∙ whole))

  pub read_all : (first row : List ℕ) (at : ℕ) → at ≡ 0 → row ++ row_from links at ≡ first → row ≡ first
  read_all first row at e whole =
      sym (append-nil row) ∙ (ap (λ rest. row ++ rest) (sym (ap (λ head. row_from links head) e ∙ row_none links)) ∙ whole)

-- ---- a number is put behind those of a row

contains_behind : (n x : ℕ) (row : List ℕ) → Contains row x → Contains (n ∷ row) x
contains_behind n x row c = (suc c.0, omega (arith, c.1), c.2)

contains_cases : (n x : ℕ) (row : List ℕ) → Contains (n ∷ row) x → Contains row x ⊎ (x ≡ n)
contains_cases n x row (zero, lt, e) = inr (sym e)
contains_cases n x row (suc k, lt, e) = inl (k, omega (arith, lt), e)

-- one row has got a number in front
adds_front : (old new : Graph) (at n : ℕ) → length new ≡ length old → next_of new at ≡ n ∷ next_of old at
    → ((i : ℕ) → i ≢ at → next_of new i ≡ next_of old i) → Adds old new (λ i x. (i ≡ at) × (x ≡ n))
adds_front old new at n many here other = record {
  as_many = many;
  kept = λ i x h. elim (cases_eq i at) [
    | inl e ↦ subst (λ row. Contains row x) (sym (there i e)) (contains_behind n x (next_of old at) (subst (λ j. HasEdge old j x) e h))
    | inr d ↦ subst (λ row. Contains row x) (sym (other i d)) h
  ];
  only = λ i x h. elim (cases_eq i at) [
    | inl e ↦ elim (contains_cases n x (next_of old at) (subst (λ row. Contains row x) (there i e) h)) [
      | inl before ↦ inl (subst (λ j. HasEdge old j x) (sym e) before)
      | inr is ↦ inr (e, is)
    ]
    | inr d ↦ inl (subst (λ row. Contains row x) (other i d) h)
  ];
  there = λ i x r. subst (λ row. Contains row x) (sym (there i r.0)) (0, omega arith, sym r.1);
}
  where
    there : (i : ℕ) → i ≡ at → next_of new i ≡ n ∷ next_of old at
    there i e = ap (λ j. next_of new j) e ∙ here

module _ (heads : List ℕ) (links : List Link) (at number before : ℕ) (a : AreLinked heads links) (lt : at < length heads)
    (is : before ≡ get_or heads at 0) where
  abbrev link : Link
  link = record { number = number; before = before }

  abbrev ends : List ℕ
  ends = set heads at (suc (length links))

  abbrev more : List Link
  more = links ++ link ∷ []

  low : before ≤ length links
  low = omega (arith, is, a.ends at)

  more_many : length more ≡ length links + 1
  more_many = length_push links link

  last : get_or more (length links) no_link ≡ link
  last = get_or_push links link no_link (length links) refl

  ends_here : get_or ends at 0 ≡ suc (length links)
  ends_here = get_or-set_same heads at (suc (length links)) 0 lt

  ends_other : (i : ℕ) → i ≢ at → get_or ends i 0 ≡ get_or heads i 0
  ends_other i d = get_or-set_other heads at i (suc (length links)) 0 d

  more_back : IsBack more
  more_back k = elim (cases_lt k (length links)) [
    | inl less ↦ subst (λ (x : Link). x.before ≤ k) (sym (get_or_append_left links (link ∷ []) no_link k less)) (a.back k)
    | inr from ↦ elim (cases_eq k (length links)) [
      | inl e ↦ subst (λ (x : Link). x.before ≤ k) (sym (get_or_push links link no_link k (sym e))) (omega (arith, low, e))
      | inr d ↦ subst (λ (x : Link). x.before ≤ k) (sym (get_or_past more k no_link (omega (arith, more_many, from, d)))) (omega arith)
    ]
  ]

  pub put_linked : AreLinked ends more
  put_linked = record {
    ends = λ i. elim (cases_eq i at) [
      | inl e ↦ omega (arith, ap (λ j. get_or ends j 0) e, ends_here, more_many)
      | inr d ↦ omega (arith, ends_other i d, a.ends i, more_many)
    ];
    back = more_back;
  }

  here : next_of (rows_of ends more) at ≡ number ∷ next_of (rows_of heads links) at
  here =
      rows_at ends more at
      ∙ (ap (λ head. row_from more head) ends_here
      ∙ (row_some more more_back (length links)
      ∙ (ap (λ (x : Link). x.number ∷ row_from more x.before) last
      ∙ ap (λ row. number ∷ row)
      (row_grown links (link ∷ []) a.back before low ∙ (ap (λ head. row_from links head) is ∙ sym (rows_at heads links at))))))

  other : (i : ℕ) → i ≢ at → next_of (rows_of ends more) i ≡ next_of (rows_of heads links) i
  other i d =
      rows_at ends more i
      ∙ (ap (λ head. row_from more head) (ends_other i d)
      ∙ (row_grown links (link ∷ []) a.back (get_or heads i 0) (a.ends i) ∙ sym (rows_at heads links i)))

  pub put_adds : Adds (rows_of heads links) (rows_of ends more) (λ i x. (i ≡ at) × (x ≡ number))
  put_adds =
      adds_front (rows_of heads links) (rows_of ends more) at number
      (rows_many ends more ∙ (length-set heads at (suc (length links)) ∙ sym (rows_many heads links))) here other

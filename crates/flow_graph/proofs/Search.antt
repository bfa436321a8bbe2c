-- A search for a circle through a vertex.
use Rattle.std.proofs.Common.{◌≡◌, ◌≢◌, ℕ, ◌+◌, ◌-◌, ◌*◌, ◌<◌, ◌≤◌, Bool, true, false, ◌⊎◌, List, [], ◌∷◌, ◌++◌, length, get_or, set, replicate, refl, sym, ap}
use Rattle.std.proofs.Common.{◌∙◌, subst, inl, inr, arith}
use Rattle.std.specs.Prelude.{Contains, Option, Some, None, slice_get}
use Rattle.std.specs.Option.{option_to_list}
use Rattle.std.proofs.lemmas.List.{get_or-set_same, get_or-set_other, length-set, length_push, get_or_push, get_or_append_left, length-replicate}
use Rattle.std.proofs.lemmas.List.{get_or_default}
use Rattle.std.proofs.lemmas.List.Elements.{Contains-push, Contains-append_left, Contains-push_cases}
use Rattle.std.proofs.lemmas.Option.{slice_get_within, get_or_from_slice_get, slice_get-get_or}
use Rattle.std.proofs.lemmas.Bool.{cases_eq, cases_lt, false≢true}
use Rattle.flow_graph.specs.Graph.{Graph, next_of, HasEdge, Chain, IsOnCircle, IsCircleFrom, IsGraph}
use Rattle.flow_graph.specs.Listing.{Trail}
use Rattle.flow_graph.proofs.Trails.{last_of, last_at, trail_chain, trail_push, trail_pop, end_at, edge_ends, zeros, blanks, total, sum_of, sum_within, sum_set}

-- the list is a path that begins with p
abbrev pub IsTrail : Graph → ℕ → List ℕ → Type 0
IsTrail g p [] = Unit {0}
IsTrail g p (x ∷ xs) = (x ≡ p) × Trail g x xs

pub record Searching (g : Graph) (p : ℕ) (path cursor : List ℕ) (seen : List Bool) : Type 0 where
  pub cursors : length cursor ≡ length g
  pub marks : length seen ≡ length g
  pub trail : IsTrail g p path
  pub places : (k : ℕ) → k < length path → get_or path k 0 < length g
  pub bound : (x : ℕ) → get_or cursor x 0 ≤ length (next_of g x)
  pub passed : (x j : ℕ) → j < get_or cursor x 0 → (get_or (next_of g x) j 0 ≢ p) × (get_or seen (get_or (next_of g x) j 0) false ≡ true)
  pub known : (x : ℕ) → (x ≡ p) ⊎ (get_or seen x false ≡ true) → Contains path x ⊎ (get_or cursor x 0 ≡ length (next_of g x))

pub search_init : (g : Graph) (p n : ℕ) → n ≡ length g → p < length g → Searching g p (p ∷ []) (replicate n 0) (replicate n false)
search_init g p n e h = record {
  cursors = length-replicate n 0 ∙ e;
  marks = length-replicate n false ∙ e;
  trail = (refl, tt);
  places = λ k l. let z : k ≡ 0 = omega arith in subst (λ i. get_or (p ∷ []) i 0 < length g) (sym z) h;
  bound = λ x. omega (arith, zeros n x);
  passed = λ x j l. absurd (omega (arith, zeros n x));
  known = λ x s. elim s [
    | inl q ↦ inl (0, omega arith, sym q)
    | inr t ↦ absurd (false≢true (sym (blanks n x) ∙ t))
  ];
}

-- every walk from a vertex that the ended search knows ends at another than p
ends_apart : (g : Graph) (p : ℕ) (cursor : List ℕ) (seen : List Bool) → Searching g p [] cursor seen
    → (xs : List ℕ) (x q : ℕ) → (x ≡ p) ⊎ (get_or seen x false ≡ true) → Chain g x xs q → q ≢ p
ends_apart g p cursor seen s xs x q k c = go xs x q k c
  where
    no_place : (x : ℕ) → Contains [] x → ⊥
    no_place x (k, h, e) = omega arith

    edge : (x y : ℕ) → (x ≡ p) ⊎ (get_or seen x false ≡ true) → HasEdge g x y → (y ≢ p) × (get_or seen y false ≡ true)
    edge x y k (j, l, e) =
        let full : get_or cursor x 0 ≡ length (next_of g x) = elim (s.known x k) [ inl n ↦ absurd (no_place x n) | inr f ↦ f ] in
        let at : get_or (next_of g x) j 0 ≡ y = get_or_default (next_of g x) j 0 y l ∙ e in
        rw at at (s.passed x j (omega arith))

    go : (xs : List ℕ) (x q : ℕ) → (x ≡ p) ⊎ (get_or seen x false ≡ true) → Chain g x xs q → q ≢ p
    go [] x q k c = (edge x q k c).0
    go (y ∷ ys) x q k (h, c) = go ys y q (inr (edge x y k h).1) c

pub search_none : (g : Graph) (p : ℕ) (cursor : List ℕ) (seen : List Bool) → Searching g p [] cursor seen → IsOnCircle g p → ⊥
search_none g p cursor seen s ([], c) = c
search_none g p cursor seen s (x ∷ xs, (e, c)) = ends_apart g p cursor seen s xs p p (inl refl) c refl

pub search_found : (g : Graph) (p : ℕ) (path : List ℕ) (x : ℕ) → IsTrail g p path → 0 < length path → get_or path (length path - 1) 0 ≡ x → HasEdge g x p
    → IsCircleFrom g p path
search_found g p [] x t l e h = omega arith
search_found g p (y ∷ ys) x (q, t) l e h =
    let n : length (y ∷ ys) - 1 ≡ length ys = omega arith in
    let z : last_of y ys ≡ x = sym (last_at y ys) ∙ (ap (λ i. get_or (y ∷ ys) i 0) (sym n) ∙ e) in
    (q, rw (← q) (trail_chain g y ys y t (rw z (rw q h))))

is_trail_push : (g : Graph) (p : ℕ) (path : List ℕ) (x z : ℕ) → IsTrail g p path → 0 < length path → get_or path (length path - 1) 0 ≡ x → HasEdge g x z
    → IsTrail g p (path ++ z ∷ [])
is_trail_push g p [] x z t l e h = absurd (omega arith)
is_trail_push g p (y ∷ ys) x z (q, t) l e h =
    let n : length (y ∷ ys) - 1 ≡ length ys = omega arith in
    let w : last_of y ys ≡ x = sym (last_at y ys) ∙ (ap (λ i. get_or (y ∷ ys) i 0) (sym n) ∙ e) in
    (q, trail_push g y ys z t (rw w h))

is_trail_pop : (g : Graph) (p : ℕ) (ys : List ℕ) (z : ℕ) → IsTrail g p (ys ++ z ∷ []) → IsTrail g p ys
is_trail_pop g p [] z t = tt
is_trail_pop g p (y ∷ ys) z (q, t) = (q, trail_pop g y ys z t)

-- the top is finished
pub search_pop : (g : Graph) (p : ℕ) (ys : List ℕ) (z : ℕ) (cursor : List ℕ) (seen : List Bool) → Searching g p (ys ++ z ∷ []) cursor seen
    → length (next_of g z) ≤ get_or cursor z 0 → Searching g p ys cursor seen
search_pop g p ys z cursor seen s full = record {
  cursors = s.cursors;
  marks = s.marks;
  trail = is_trail_pop g p ys z s.trail;
  places = λ k l. subst (λ v. v < length g) (get_or_append_left ys (z ∷ []) 0 k l) (s.places k (omega (arith, length_push ys z)));
  bound = s.bound;
  passed = s.passed;
  known = λ x k. elim (s.known x k) [
    | inr f ↦ inr f
    | inl h ↦ elim (Contains-push_cases ys z x h) [ inl w ↦ inl w | inr e ↦ inr (rw (← e) (omega (arith, s.bound z))) ]
  ];
}

-- an edge of the top is passed, to a vertex that is seen already
pub search_pass : (g : Graph) (p : ℕ) (path : List ℕ) (x : ℕ) (cursor : List ℕ) (seen : List Bool) → Searching g p path cursor seen
    → x < length g → Contains path x → get_or cursor x 0 < length (next_of g x) → get_or (next_of g x) (get_or cursor x 0) 0 ≢ p
    → get_or seen (get_or (next_of g x) (get_or cursor x 0) 0) false ≡ true
    → Searching g p path (set cursor x (get_or cursor x 0 + 1)) seen
search_pass g p path x cursor seen s lt on room apart mark =
    let here : get_or (set cursor x (get_or cursor x 0 + 1)) x 0 ≡ get_or cursor x 0 + 1 = get_or-set_same cursor x (get_or cursor x 0 + 1) 0 (omega (
      arith,
      s.cursors,
    )) in
    let there : (y : ℕ) → y ≢ x → get_or (set cursor x (get_or cursor x 0 + 1)) y 0 ≡ get_or cursor y 0 = λ y n. get_or-set_other cursor x y (get_or cursor
    x 0 + 1) 0 n in
    record {
      cursors = length-set cursor x (get_or cursor x 0 + 1) ∙ s.cursors;
      marks = s.marks;
      trail = s.trail;
      places = s.places;
      bound = λ y. elim (cases_eq y x) [ inl e ↦ rw e (omega (arith, here)) | inr n ↦ omega (arith, there y n, s.bound y) ];
      passed = λ y j l. elim (cases_eq y x) [
        | inr n ↦ s.passed y j (omega (arith, there y n))
        | inl e ↦ rw e (elim (cases_eq j (get_or cursor x 0)) [
          | inl q ↦ rw q (apart, mark)
          | inr m ↦ s.passed x j (let k : j < get_or (set cursor x (get_or cursor x 0 + 1)) x 0 = rw e at l in omega (arith, here))
        ])
      ];
      known = λ y k. elim (cases_eq y x) [
        | inl e ↦ inl (rw e on)
        | inr n ↦ elim (s.known y k) [ inl h ↦ inl h | inr f ↦ inr (there y n ∙ f) ]
      ];
    }

-- a vertex is seen and put on top
pub search_push : (g : Graph) (p : ℕ) (path : List ℕ) (x z : ℕ) (cursor : List ℕ) (seen : List Bool) → Searching g p path cursor seen
    → z < length g → 0 < length path → get_or path (length path - 1) 0 ≡ x → HasEdge g x z
    → Searching g p (path ++ z ∷ []) cursor (set seen z true)
search_push g p path x z cursor seen s lt some top edge =
    let marked : (y : ℕ) → get_or seen y false ≡ true → get_or (set seen z true) y false ≡ true =
    λ y h. elim (cases_eq y z) [
      | inl e ↦ rw e (get_or-set_same seen z true false (omega (arith, s.marks)))
      | inr n ↦ get_or-set_other seen z y true false n
          ∙ h
    ] in
    record {
      cursors = s.cursors;
      marks = length-set seen z true ∙ s.marks;
      trail = is_trail_push g p path x z s.trail some top edge;
      places = λ k l. elim (cases_lt k (length path)) [
        | inl h ↦ subst (λ v. v < length g) (sym (get_or_append_left path (z ∷ []) 0 k h)) (s.places k h)
        | inr h ↦ subst (λ v. v < length g) (sym (get_or_push path z 0 k (omega (arith, length_push path z)))) lt
      ];
      bound = s.bound;
      passed = λ y j l. let r : (get_or (next_of g y) j 0 ≢ p) × (get_or seen (get_or (next_of g y) j 0) false ≡ true) = s.passed y j l in (r.0, marked _ r.1);
      known = λ y k. elim (cases_eq y z) [
        | inl e ↦ inl (rw e (Contains-push path z))
        | inr n ↦ elim (s.known y (elim k [ inl q ↦ inl q | inr t ↦ inr (sym (get_or-set_other seen z y true false n) ∙ t) ])) [
          | inl h ↦ inl (Contains-append_left path (z ∷ []) y h)
          | inr f ↦ inr f
        ]
      ];
    }

-- how much is left to do
abbrev pub work : Graph → List ℕ → List ℕ → ℕ
work g path cursor = 2 * (total g - sum_of cursor) + length path

-- passing an edge leaves less, also with one more vertex on the path
pub work_passed : (g : Graph) (p : ℕ) (path more cursor : List ℕ) (seen : List Bool) (x : ℕ)
    → Searching g p more (set cursor x (get_or cursor x 0 + 1)) seen → x < length cursor → length more ≤ length path + 1
    → work g more (set cursor x (get_or cursor x 0 + 1)) < work g path cursor
work_passed g p path more cursor seen x s l m =
    let a : sum_of (set cursor x (get_or cursor x 0 + 1)) ≤ total g = sum_within g _ s.cursors s.bound in
    let b : sum_of (set cursor x (get_or cursor x 0 + 1)) + get_or cursor x 0 ≡ sum_of cursor + (get_or cursor x 0 + 1) = sum_set cursor x (get_or cursor x
    0 + 1) l in
    omega arith

-- what one turn of the search reads
pub record Now (g : Graph) (p : ℕ) (path cursor : List ℕ) (x k y : ℕ) : Type 0 where
  pub inside : x < length g
  pub some : 0 < length path
  pub top : get_or path (length path - 1) 0 ≡ x
  pub at : get_or cursor x 0 ≡ k
  pub room : k < length (next_of g x)
  pub next : get_or (next_of g x) k 0 ≡ y
  pub within : y < length g
  pub edge : HasEdge g x y

pub now_from : (g : Graph) (p : ℕ) (path cursor : List ℕ) (seen : List Bool) → IsGraph g → Searching g p path cursor seen
    → (n x k y : ℕ) → n ≡ length path → 0 < n → x ≡ get_or path (n - 1) x → k ≡ get_or cursor x k
    → slice_get (next_of g x) k ≡ Some y → Now g p path cursor x k y
now_from g p path cursor seen ranged s n x k y e some xe ke ye =
    let top : get_or path (length path - 1) 0 ≡ x = end_at path n x e some xe in
    let inside : x < length g = subst (λ v. v < length g) top (s.places (length path - 1) (omega (arith, e))) in
    let room : k < length (next_of g x) = slice_get_within (next_of g x) k y ye in
    let edge : HasEdge g x y = (k, room, get_or_from_slice_get (next_of g x) k y y ye) in
    record {
      inside = inside;
      some = omega (arith, e);
      top = top;
      at = get_or_default cursor x 0 k (omega (arith, s.cursors)) ∙ sym ke;
      room = room;
      next = get_or_from_slice_get (next_of g x) k y 0 ye;
      within = edge_ends g ranged x y edge;
      edge = edge;
    }

-- where the vertex has no further successor, all are passed
pub all_passed : (xs : List ℕ) (k : ℕ) → slice_get xs k ≡ None → length xs ≤ k
all_passed xs k h = elim (cases_lt k (length xs)) [ inl l ↦ absurd (cc (h, slice_get-get_or xs k 0 l)) | inr l ↦ l ]

pub turn_found : (g : Graph) (p : ℕ) (path cursor : List ℕ) (seen : List Bool) (x k y : ℕ) → Searching g p path cursor seen → Now g p path cursor x k y
    → y ≡ p → IsCircleFrom g p path
turn_found g p path cursor seen x k y s n e = search_found g p path x s.trail n.some n.top (subst (λ v. HasEdge g x v) e n.edge)

on_path : (path : List ℕ) (x : ℕ) → 0 < length path → get_or path (length path - 1) 0 ≡ x → Contains path x
on_path path x h e = (length path - 1, omega arith, get_or_default path (length path - 1) x 0 (omega arith) ∙ e)

pub turn_pass : (g : Graph) (p : ℕ) (path cursor : List ℕ) (seen : List Bool) (x k y : ℕ) → Searching g p path cursor seen → Now g p path cursor x k y
    → y ≢ p → get_or seen y false ≡ true → Searching g p path (set cursor x (k + 1)) seen
turn_pass g p path cursor seen x k y s n ne t =
    rw (← n.at) (search_pass g p path x cursor seen s n.inside (on_path path x n.some n.top) (rw n.at n.room) (rw (n.at, n.next) ne) (rw (n.at, n.next) t))

pub turn_push : (g : Graph) (p : ℕ) (path cursor : List ℕ) (seen : List Bool) (x k y : ℕ) → Searching g p path cursor seen → Now g p path cursor x k y
    → y ≢ p → Searching g p (path ++ y ∷ []) (set cursor x (k + 1)) (set seen y true)
turn_push g p path cursor seen x k y s n ne =
    let more : Searching g p (path ++ y ∷ []) cursor (set seen y true) = search_push g p path x y cursor seen s n.within n.some n.top n.edge in
    rw (← n.at) (search_pass g p (path ++ y ∷ []) x cursor (set seen y true) more n.inside
    (Contains-append_left path (y ∷ []) x (on_path path x n.some n.top)) (rw n.at n.room) (rw (n.at, n.next) ne)
    (rw (n.at, n.next) (get_or-set_same seen y true false (omega (arith, s.marks, n.within)))))

pub turn_less : (g : Graph) (p : ℕ) (path cursor more : List ℕ) (seen : List Bool) (x k y : ℕ) → Now g p path cursor x k y → length cursor ≡ length g
    → Searching g p more (set cursor x (k + 1)) seen → length more ≤ length path + 1 → work g more (set cursor x (k + 1)) < work g path cursor
turn_less g p path cursor more seen x k y n e s m =
    let s' : Searching g p more (set cursor x (get_or cursor x 0 + 1)) seen = rw n.at s in
    subst (λ v. work g more (set cursor x (v + 1)) < work g path cursor) n.at (work_passed g p path more cursor seen x s' (omega (arith, e, n.inside)) m)

pub none_left : (g : Graph) (p : ℕ) (path cursor : List ℕ) (seen : List Bool) → Searching g p path cursor seen → length path ≡ 0 → IsOnCircle g p → ⊥
none_left g p [] cursor seen s h = search_none g p cursor seen s
none_left g p (x ∷ xs) cursor seen s h = absurd (omega (arith, h))

pub turn_pop : (g : Graph) (p : ℕ) (path cursor : List ℕ) (seen : List Bool) → Searching g p path cursor seen
    → (ys : List ℕ) (o : Option ℕ) (x k : ℕ) → path ≡ ys ++ option_to_list o → o ≡ Some x
    → slice_get (next_of g x) k ≡ None → k ≡ get_or cursor x k → Searching g p ys cursor seen
turn_pop g p path cursor seen s ys o x k e oe none ke =
    let e' : path ≡ ys ++ x ∷ [] = e ∙ ap (λ v. ys ++ option_to_list v) oe in
    let s' : Searching g p (ys ++ x ∷ []) cursor seen = subst (λ v. Searching g p v cursor seen) e' s in
    let last : get_or (ys ++ x ∷ []) (length ys) 0 ≡ x = get_or_push ys x 0 (length ys) refl in
    let inside : x < length g = subst (λ v. v < length g) last (s'.places (length ys) (omega (arith, length_push ys x))) in
    let at : get_or cursor x 0 ≡ k = get_or_default cursor x 0 k (omega (arith, s.cursors)) ∙ sym ke in
    search_pop g p ys x cursor seen s' (omega (arith, at, all_passed (next_of g x) k none))

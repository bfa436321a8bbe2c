-- A walk that lists each vertex after its successors.
use Rattle.std.proofs.Common.{◌≡◌, ◌≢◌, ℕ, zero, suc, ◌+◌, ◌-◌, ◌*◌, ◌<◌, ◌≤◌, ◌⊎◌, List, [], ◌∷◌, ◌++◌, length, get_or, set, replicate, refl, sym, ap, ◌∙◌}
use Rattle.std.proofs.Common.{subst, inl, inr, arith}
use Rattle.std.specs.Prelude.{Contains, Option, Some, slice_get}
use Rattle.std.specs.Option.{option_to_list}
use Rattle.std.proofs.lemmas.List.{get_or-set_same, get_or-set_other, length-set, length_push, get_or_push, get_or_append_left, get_or_past, length-replicate}
use Rattle.std.proofs.lemmas.List.{get_or-replicate, get_or_default}
use Rattle.std.proofs.lemmas.List.Elements.{Contains-push, Contains-append_left, Contains-push_cases}
use Rattle.std.proofs.lemmas.Option.{slice_get_within, get_or_from_slice_get}
use Rattle.std.proofs.lemmas.Bool.{cases_eq, cases_lt}
use Rattle.flow_graph.specs.declared.order.Mark.{Mark}
use Rattle.flow_graph.specs.declared.order.Mark.TheVariants.{New, Open, Listed}
use Rattle.flow_graph.specs.Graph.{Graph, next_of, HasEdge, Chain, IsOnCircle, IsGraph}
use Rattle.flow_graph.specs.Listing.{Trail, IsPath, IsWalk}
use Rattle.flow_graph.proofs.Turned.{listed_apart}
use Rattle.flow_graph.proofs.Trails.{zeros, last_of, last_at, trail_chain, trail_push, trail_pop, end_at, edge_ends, total, sum_of, sum_within, sum_set}

none_in : (x : ℕ) → Contains [] x → ⊥
none_in x (k, h, e) = omega arith

news : (n x : ℕ) → get_or (replicate n New) x New ≡ New
news n x = elim (cases_lt x n) [
  | inl h ↦ get_or-replicate n x New New h
  | inr h ↦ get_or_past (replicate n New) x New (omega (arith, length-replicate n New))
]

pub sort_init : (g : Graph) (n : ℕ) → n ≡ length g → IsWalk g [] (replicate n 0) (replicate n New) []
sort_init g n e = record {
  cursors = length-replicate {A = ℕ} n 0 ∙ e;
  each_marked = length-replicate n New ∙ e;
  trail = tt;
  places = λ k l. absurd (omega arith);
  bound = λ x. omega (arith, zeros n x);
  passed = λ x j l. absurd (omega (arith, zeros n x));
  opened = λ x h. absurd (cc (news n x, h));
  done = λ x h. absurd (cc (news n x, h));
  listed = λ k l. absurd (omega arith);
  list = record { inside = λ k l. absurd (omega arith); once = λ j k a b. absurd (omega arith); sorted = λ k y l. absurd (omega arith) };
}

path_push : (g : Graph) (path : List ℕ) (x z : ℕ) → IsPath g path → 0 < length path → get_or path (length path - 1) 0 ≡ x → HasEdge g x z
    → IsPath g (path ++ z ∷ [])
path_push g [] x z t l e h = absurd (omega arith)
path_push g (y ∷ ys) x z t l e h =
    let n : length (y ∷ ys) - 1 ≡ length ys = omega arith in
    let w : last_of y ys ≡ x = sym (last_at y ys) ∙ (ap (λ i. get_or (y ∷ ys) i 0) (sym n) ∙ e) in
    trail_push g y ys z t (rw w h)

path_pop : (g : Graph) (ys : List ℕ) (z : ℕ) → IsPath g (ys ++ z ∷ []) → IsPath g ys
path_pop g [] z t = tt
path_pop g (y ∷ ys) z t = trail_pop g y ys z t

-- from a vertex of the path to the end of it, and back by an edge
suffix_cycle : (g : Graph) (y : ℕ) (ys : List ℕ) (k z : ℕ) → Trail g y ys → k < length (y ∷ ys) → get_or (y ∷ ys) k 0 ≡ z → HasEdge g (last_of y ys) z
    → IsOnCircle g z
suffix_cycle g y ys zero z t l e h = (z ∷ ys, (refl, subst (λ v. Chain g v ys z) e (trail_chain g y ys z t h)))
suffix_cycle g y [] (suc k) z t l e h = absurd (omega arith)
suffix_cycle g y (w ∷ ws) (suc k) z (d, t) l e h = suffix_cycle g w ws k z t (omega arith) e h

pub sort_loop : (g : Graph) (path cursor : List ℕ) (marks : List Mark) (post : List ℕ) (x z : ℕ) → IsWalk g path cursor marks post → 0 < length path
    → get_or path (length path - 1) 0 ≡ x
    → HasEdge g x z → get_or marks z New ≡ Open → IsOnCircle g z
sort_loop g path cursor marks post x z s some top h one = go path s.trail some top (s.opened z one)
  where
    go : (path : List ℕ) → IsPath g path → 0 < length path → get_or path (length path - 1) 0 ≡ x → Contains path z → IsOnCircle g z
    go [] t some top w = absurd (omega arith)
    go (y ∷ ys) t some top (k, l, e) =
        let n : length (y ∷ ys) - 1 ≡ length ys = omega arith in
        let w : last_of y ys ≡ x = sym (last_at y ys) ∙ (ap (λ i. get_or (y ∷ ys) i 0) (sym n) ∙ top) in
        suffix_cycle g y ys k z t l (get_or_default (y ∷ ys) k 0 z l ∙ e) (rw w h)

pub sort_root : (g : Graph) (cursor : List ℕ) (marks : List Mark) (post : List ℕ) (z : ℕ) → IsWalk g [] cursor marks post → z < length g
    → get_or marks z New ≡ New → IsWalk g (z ∷ []) cursor (set marks z Open) post
sort_root g cursor marks post z s lt nil =
    let other : (y : ℕ) → y ≢ z → get_or (set marks z Open) y New ≡ get_or marks y New = λ y n. get_or-set_other marks z y Open New n in
    let here : get_or (set marks z Open) z New ≡ Open = get_or-set_same marks z Open New (omega (arith, s.each_marked)) in
    record {
      cursors = s.cursors;
      each_marked = length-set marks z Open ∙ s.each_marked;
      trail = tt;
      places = λ k l. let q : k ≡ 0 = omega arith in subst (λ i. get_or (z ∷ []) i 0 < length g) (sym q) lt;
      bound = s.bound;
      passed = s.passed;
      opened = λ y h. elim (cases_eq y z) [
        | inl e ↦ (0, omega arith, sym e)
        | inr n ↦ absurd (let w : Contains [] y = s.opened y (sym (other y n)
            ∙ h) in no_place y w)
      ];
      done = λ y h. elim (cases_eq y z) [
        | inl e ↦ absurd (let q : get_or (set marks z Open) z New ≡ Listed = rw e at h in cc (here, q))
        | inr n ↦ s.done y
            (sym (other y n) ∙ h)
      ];
      listed = λ k l. other (get_or post k 0) (λ e. let q : get_or marks z New ≡ Listed = rw e at (s.listed k l) in absurd (cc (q, nil))) ∙ s.listed k l;
      list = s.list;
    }
  where
    no_place : (x : ℕ) → Contains [] x → ⊥
    no_place x (k, h, e) = omega arith

pub sort_push : (g : Graph) (path cursor : List ℕ) (marks : List Mark) (post : List ℕ) (x z : ℕ) → IsWalk g path cursor marks post → z < length g
    → 0 < length path → get_or path (length path - 1) 0 ≡ x
    → HasEdge g x z → get_or marks z New ≡ New → IsWalk g (path ++ z ∷ []) cursor (set marks z Open) post
sort_push g path cursor marks post x z s lt some top edge nil =
    let other : (y : ℕ) → y ≢ z → get_or (set marks z Open) y New ≡ get_or marks y New = λ y n. get_or-set_other marks z y Open New n in
    let here : get_or (set marks z Open) z New ≡ Open = get_or-set_same marks z Open New (omega (arith, s.each_marked)) in
    record {
      cursors = s.cursors;
      each_marked = length-set marks z Open ∙ s.each_marked;
      trail = path_push g path x z s.trail some top edge;
      places = λ k l. elim (cases_lt k (length path)) [
        | inl h ↦ subst (λ v. v < length g) (sym (get_or_append_left path (z ∷ []) 0 k h)) (s.places k h)
        | inr h ↦ subst (λ v. v < length g) (sym (get_or_push path z 0 k (omega (arith, length_push path z)))) lt
      ];
      bound = s.bound;
      passed = s.passed;
      opened = λ y h. elim (cases_eq y z) [
        | inl e ↦ rw e (Contains-push path z)
        | inr n ↦ Contains-append_left path (z ∷ []) y (s.opened y (sym (other y n)
            ∙ h))
      ];
      done = λ y h. elim (cases_eq y z) [
        | inl e ↦ absurd (let q : get_or (set marks z Open) z New ≡ Listed = rw e at h in cc (here, q))
        | inr n ↦ s.done y
            (sym (other y n) ∙ h)
      ];
      listed = λ k l. other (get_or post k 0) (λ e. let q : get_or marks z New ≡ Listed = rw e at (s.listed k l) in absurd (cc (q, nil))) ∙ s.listed k l;
      list = s.list;
    }

-- an edge of the top is passed, to a vertex that is listed
pub sort_pass : (g : Graph) (path cursor : List ℕ) (marks : List Mark) (post : List ℕ) (x z : ℕ) → IsWalk g path cursor marks post → x < length g
    → get_or cursor x 0 < length (next_of g x)
    → get_or (next_of g x) (get_or cursor x 0) 0 ≡ z → get_or marks z New ≡ Listed → IsWalk g path (set cursor x (get_or cursor x 0 + 1)) marks post
sort_pass g path cursor marks post x z s lt room next two =
    let here : get_or (set cursor x (get_or cursor x 0 + 1)) x 0 ≡ get_or cursor x 0 + 1 = get_or-set_same cursor x (get_or cursor x 0 + 1) 0 (omega (
      arith,
      s.cursors,
    )) in
    let there : (y : ℕ) → y ≢ x → get_or (set cursor x (get_or cursor x 0 + 1)) y 0 ≡ get_or cursor y 0 = λ y n. get_or-set_other cursor x y (get_or cursor
    x 0 + 1) 0 n in
    record {
      cursors = length-set cursor x (get_or cursor x 0 + 1) ∙ s.cursors;
      each_marked = s.each_marked;
      trail = s.trail;
      places = s.places;
      bound = λ y. elim (cases_eq y x) [ inl e ↦ rw e (omega (arith, here)) | inr n ↦ omega (arith, there y n, s.bound y) ];
      passed = λ y j l. elim (cases_eq y x) [
        | inr n ↦ s.passed y j (omega (arith, there y n))
        | inl e ↦ rw e (elim (cases_eq j (get_or cursor x 0)) [
          | inl q ↦ rw (q, next) (s.done z two)
          | inr m ↦ s.passed x j (let k : j < get_or (set cursor x (get_or cursor x 0 + 1)) x 0 = rw e at l in omega (arith, here))
        ])
      ];
      opened = s.opened;
      done = s.done;
      listed = s.listed;
      list = s.list;
    }

-- the top is listed and taken off
pub sort_finish : (g : Graph) (ys cursor : List ℕ) (marks : List Mark) (post : List ℕ) (x : ℕ) → IsWalk g (ys ++ x ∷ []) cursor marks post → x < length g
    → length (next_of g x) ≤ get_or cursor x 0 → get_or marks x New ≢ Listed → IsWalk g ys cursor (set marks x Listed) (post ++ x ∷ [])
sort_finish g ys cursor marks post x s lt full fresh =
    let other : (y : ℕ) → y ≢ x → get_or (set marks x Listed) y New ≡ get_or marks y New = λ y n. get_or-set_other marks x y Listed New n in
    let here : get_or (set marks x Listed) x New ≡ Listed = get_or-set_same marks x Listed New (omega (arith, s.each_marked)) in
    let not_listed : (k : ℕ) → k < length post → get_or post k 0 ≢ x = λ k l e. fresh (rw e at (s.listed k l)) in
    let old : (k : ℕ) → k < length post → get_or (post ++ x ∷ []) k 0 ≡ get_or post k 0 = λ k l. get_or_append_left post (x ∷ []) 0 k l in
    let new : get_or (post ++ x ∷ []) (length post) 0 ≡ x = get_or_push post x 0 (length post) refl in
    record {
      cursors = s.cursors;
      each_marked = length-set marks x Listed ∙ s.each_marked;
      trail = path_pop g ys x s.trail;
      places = λ k l. subst (λ v. v < length g) (get_or_append_left ys (x ∷ []) 0 k l) (s.places k (omega (arith, length_push ys x)));
      bound = s.bound;
      passed = λ y j l. Contains-append_left post (x ∷ []) _ (s.passed y j l);
      opened = λ y h. elim (cases_eq y x) [
        | inl e ↦ absurd (let q : get_or (set marks x Listed) x New ≡ Open = rw e at h in cc (here, q))
        | inr n ↦ elim (Contains-push_cases ys x y (s.opened y (sym (other y n) ∙ h))) [ inl w ↦ w | inr e ↦ absurd (n (sym e)) ]
      ];
      done = λ y h. elim (cases_eq y x) [ inl e ↦ rw e (Contains-push post x) | inr n ↦ Contains-append_left post (x ∷ []) y (s.done y (sym (other y n) ∙ h)) ];
      listed = λ k l. elim (cases_lt k (length post)) [
        | inl h ↦ rw (old k h) (other (get_or post k 0) (not_listed k h) ∙ s.listed k h)
        | inr h ↦ let q : k ≡ length post = omega (arith, length_push post x) in rw (q, new) here
      ];
      list = record {
        inside = λ k l. elim (cases_lt k (length post)) [
          | inl h ↦ rw (old k h) (s.list.inside k h)
          | inr h ↦ let q : k ≡ length post = omega (arith, length_push post x) in rw (q, new) lt
        ];
        once = λ j k a b. elim (cases_lt k (length post)) [
          | inl h ↦ rw (old k h, old j (omega arith)) (s.list.once j k a h)
          | inr h ↦ let q : k ≡ length post = omega (arith, length_push post x) in
              rw (q, new, old j (omega arith)) (not_listed j (omega arith))
        ];
        sorted = λ k y l h. elim (cases_lt k (length post)) [
          | inl m ↦ (let r : (j : ℕ) × (j < k) × (get_or post j 0 ≡ y) = s.list.sorted k y m (rw (old k m) at h) in (
            r.0,
            r.1,
            old r.0 (let a : r.0 < k =
                r.1 in omega arith) ∙ r.2,
          ))
          | inr m ↦ (let q : k ≡ length post = omega (arith, length_push post x) in
              let e : HasEdge g x y = rw (q, new) at h in
              let w : Contains post y = held x y e full in
              (w.0, (let a : w.0 < length post = w.1 in omega arith), old w.0 w.1 ∙ (get_or_default post w.0 0 y w.1 ∙ w.2)))
        ];
      };
    }
  where
    held : (x y : ℕ) → HasEdge g x y → length (next_of g x) ≤ get_or cursor x 0 → Contains post y
    held x y (j, l, e) f = let at : get_or (next_of g x) j 0 ≡ y = get_or_default (next_of g x) j 0 y l ∙ e in rw at at (s.passed x j (omega arith))

pub sort_pop : (g : Graph) (ys cursor : List ℕ) (marks : List Mark) (post : List ℕ) (x : ℕ) → IsWalk g (ys ++ x ∷ []) cursor marks post
    → get_or marks x New ≡ Listed → IsWalk g ys cursor marks post
sort_pop g ys cursor marks post x s two = record {
  cursors = s.cursors;
  each_marked = s.each_marked;
  trail = path_pop g ys x s.trail;
  places = λ k l. subst (λ v. v < length g) (get_or_append_left ys (x ∷ []) 0 k l) (s.places k (omega (arith, length_push ys x)));
  bound = s.bound;
  passed = s.passed;
  opened = λ y h. elim (Contains-push_cases ys x y (s.opened y h)) [
    | inl w ↦ w
    | inr e ↦ absurd (let q : get_or marks x New ≡ Open = rw (← e) at h in cc (
      q,
      two,
    ))
  ];
  done = s.done;
  listed = s.listed;
  list = s.list;
}

-- vertices that the walk has not met
abbrev pub is_new : Mark → ℕ
is_new New = 1
is_new Open = 0
is_new Listed = 0

abbrev pub fresh_of : List Mark → ℕ
fresh_of [] = 0
fresh_of (x ∷ xs) = is_new x + fresh_of xs

fresh_set : (xs : List Mark) (i : ℕ) (v : Mark) → is_new v ≡ 0 → fresh_of (set xs i v) ≤ fresh_of xs
fresh_set [] i v h = omega arith
fresh_set (x ∷ xs) zero v h = omega (arith, h)
fresh_set (x ∷ xs) (suc i) v h = let r : fresh_of (set xs i v) ≤ fresh_of xs = fresh_set xs i v h in omega arith

fresh_less : (xs : List Mark) (i : ℕ) (v : Mark) → i < length xs → is_new v ≡ 0 → get_or xs i New ≡ New → fresh_of (set xs i v) < fresh_of xs
fresh_less [] i v l h z = absurd (omega arith)
fresh_less (x ∷ xs) zero v l h z = let e : is_new x ≡ 1 = ap is_new z in omega (arith, h, e)
fresh_less (x ∷ xs) (suc i) v l h z = let r : fresh_of (set xs i v) < fresh_of xs = fresh_less xs i v (omega arith) h z in omega arith

-- how much is left to do
abbrev pub sort_work : Graph → List ℕ → List ℕ → List Mark → ℕ
sort_work g path cursor marks = 2 * (total g - sum_of cursor) + (2 * fresh_of marks + length path)

-- what lasts over a visit that begins at root, with the list as it was
pub record Visiting (g : Graph) (root : ℕ) (before path cursor : List ℕ) (marks : List Mark) (post : List ℕ) : Type 0 where
  pub sorting : IsWalk g path cursor marks post
  pub held : Contains path root ⊎ Contains post root
  pub kept : (x : ℕ) → Contains before x → Contains post x

-- what one turn reads
pub record Top (g : Graph) (path cursor : List ℕ) (x k : ℕ) : Type 0 where
  pub inside : x < length g
  pub some : 0 < length path
  pub top : get_or path (length path - 1) 0 ≡ x
  pub at : get_or cursor x 0 ≡ k

pub record Edge (g : Graph) (x k y : ℕ) : Type 0 where
  pub room : k < length (next_of g x)
  pub next : get_or (next_of g x) k 0 ≡ y
  pub within : y < length g
  pub edge : HasEdge g x y

pub top_from : (g : Graph) (path cursor : List ℕ) (marks : List Mark) (post : List ℕ) → IsWalk g path cursor marks post → (n x k : ℕ) → n ≡ length path → 0 < n
    → x ≡ get_or path (n - 1) x → k ≡ get_or cursor x k → Top g path cursor x k
top_from g path cursor marks post s n x k e some xe ke =
    let top : get_or path (length path - 1) 0 ≡ x = end_at path n x e some xe in
    let inside : x < length g = subst (λ v. v < length g) top (s.places (length path - 1) (omega (arith, e))) in
    record { inside = inside; some = omega (arith, e); top = top; at = get_or_default cursor x 0 k (omega (arith, s.cursors)) ∙ sym ke }

pub edge_from : (g : Graph) (x k y : ℕ) → IsGraph g → slice_get (next_of g x) k ≡ Some y → Edge g x k y
edge_from g x k y ranged ye =
    let room : k < length (next_of g x) = slice_get_within (next_of g x) k y ye in
    let edge : HasEdge g x y = (k, room, get_or_from_slice_get (next_of g x) k y y ye) in
    record { room = room; next = get_or_from_slice_get (next_of g x) k y 0 ye; within = edge_ends g ranged x y edge; edge = edge }

pub mark_read : (marks : List Mark) (y : ℕ) (m : Mark) → y < length marks → m ≡ get_or marks y m → get_or marks y New ≡ m
mark_read marks y m l e = get_or_default marks y New m l ∙ sym e

pub visit_root : (g : Graph) (cursor : List ℕ) (marks : List Mark) (post : List ℕ) (z : ℕ) → IsWalk g [] cursor marks post → z < length g
    → get_or marks z New ≡ New
    → Visiting g z post (z ∷ []) cursor (set marks z Open) post
visit_root g cursor marks post z s lt nil = record { sorting = sort_root g cursor marks post z s lt nil; held = inl (0, omega arith, refl); kept = λ x h. h }

pub visit_push : (g : Graph) (root : ℕ) (before path cursor : List ℕ) (marks : List Mark) (post : List ℕ) (x k y : ℕ)
    → Visiting g root before path cursor marks post → Top g path cursor x k → Edge g x k y
    → get_or marks y New ≡ New → Visiting g root before (path ++ y ∷ []) cursor (set marks y Open) post
visit_push g root before path cursor marks post x k y v t e z = record {
  sorting = sort_push g path cursor marks post x y v.sorting e.within t.some t.top e.edge z;
  held = elim v.held [ inl h ↦ inl (Contains-append_left path (y ∷ []) root h) | inr h ↦ inr h ];
  kept = v.kept;
}

pub visit_pass : (g : Graph) (root : ℕ) (before path cursor : List ℕ) (marks : List Mark) (post : List ℕ) (x k y : ℕ)
    → Visiting g root before path cursor marks post → Top g path cursor x k → Edge g x k y
    → get_or marks y New ≡ Listed → Visiting g root before path (set cursor x (k + 1)) marks post
visit_pass g root before path cursor marks post x k y v t e z = record {
  sorting = rw (← t.at) (sort_pass g path cursor marks post x y v.sorting t.inside (rw t.at e.room) (rw t.at e.next) z);
  held = v.held;
  kept = v.kept;
}

-- what the pop of the top gives
pub popped_is : (path ys : List ℕ) (o : Option ℕ) (x : ℕ) → path ≡ ys ++ option_to_list o → o ≡ Some x → path ≡ ys ++ x ∷ []
popped_is path ys o x e oe = e ∙ ap (λ v. ys ++ option_to_list v) oe

pub visit_finish : (g : Graph) (root : ℕ) (before path cursor : List ℕ) (marks : List Mark) (post ys : List ℕ) (x k : ℕ)
    → Visiting g root before path cursor marks post → Top g path cursor x k
    → path ≡ ys ++ x ∷ [] → length (next_of g x) ≤ k → get_or marks x New ≢ Listed → Visiting g root before ys cursor (set marks x Listed) (post ++ x ∷ [])
visit_finish g root before path cursor marks post ys x k v t e full fresh = record {
  sorting = sort_finish g ys cursor marks post x (subst (λ w. IsWalk g w cursor marks post) e v.sorting) t.inside (omega (arith, t.at, full)) fresh;
  held = elim v.held [
    | inr h ↦ inr (Contains-append_left post (x ∷ []) root h)
    | inl h ↦ elim (Contains-push_cases ys x root (subst (λ w. Contains w root) e h)) [ inl w ↦ inl w | inr q ↦ inr (rw (← q) (Contains-push post x)) ]
  ];
  kept = λ w h. Contains-append_left post (x ∷ []) w (v.kept w h);
}

pub visit_pop : (g : Graph) (root : ℕ) (before path cursor : List ℕ) (marks : List Mark) (post ys : List ℕ) (x : ℕ)
    → Visiting g root before path cursor marks post
    → path ≡ ys ++ x ∷ [] → get_or marks x New ≡ Listed → Visiting g root before ys cursor marks post
visit_pop g root before path cursor marks post ys x v e two = record {
  sorting = sort_pop g ys cursor marks post x (subst (λ w. IsWalk g w cursor marks post) e v.sorting) two;
  held = elim v.held [
    | inr h ↦ inr h
    | inl h ↦ elim (Contains-push_cases ys x root (subst (λ w. Contains w root) e h)) [ inl w ↦ inl w | inr q ↦ inr (rw (← q) (v.sorting.done x two)) ]
  ];
  kept = v.kept;
}

pub visit_end : (g : Graph) (root : ℕ) (before path cursor : List ℕ) (marks : List Mark) (post : List ℕ) → Visiting g root before path cursor marks post
    → length path ≡ 0
    → IsWalk g [] cursor marks post × Contains post root × ((x : ℕ) → Contains before x → Contains post x)
visit_end g root before [] cursor marks post v e = (v.sorting, elim v.held [ inl h ↦ absurd (none h) | inr h ↦ h ], v.kept)
  where
    none : Contains [] root → ⊥
    none (k, h, e) = omega arith
visit_end g root before (x ∷ xs) cursor marks post v e = absurd (omega (arith, e))

pub visit_loop : (g : Graph) (root : ℕ) (before path cursor : List ℕ) (marks : List Mark) (post : List ℕ) (x k y : ℕ)
    → Visiting g root before path cursor marks post → Top g path cursor x k → Edge g x k y → get_or marks y New ≡ Open → (p : ℕ) × IsOnCircle g p
visit_loop g root before path cursor marks post x k y v t e h = (y, sort_loop g path cursor marks post x y v.sorting t.some t.top e.edge h)

pub less_push : (g : Graph) (path cursor : List ℕ) (marks : List Mark) (x k y : ℕ) → length marks ≡ length g → Edge g x k y → get_or marks y New ≡ New
    → sort_work g (path ++ y ∷ []) cursor (set marks y Open) < sort_work g path cursor marks
less_push g path cursor marks x k y m e z = omega (arith, fresh_less marks y Open (omega (arith, m, e.within)) refl z, length_push path y)

pub less_pass : (g : Graph) (root : ℕ) (before path cursor : List ℕ) (marks : List Mark) (post : List ℕ) (x k y : ℕ)
    → Visiting g root before path cursor marks post → Top g path cursor x k → Edge g x k y
    → get_or marks y New ≡ Listed → sort_work g path (set cursor x (k + 1)) marks < sort_work g path cursor marks
less_pass g root before path cursor marks post x k y v t e z =
    let s : IsWalk g path (set cursor x (k + 1)) marks post = (visit_pass g root before path cursor marks post x k y v t e z).sorting in
    omega (arith, sum_within g (set cursor x (k + 1)) s.cursors s.bound, sum_set cursor x (k + 1) (omega (arith, v.sorting.cursors, t.inside)), t.at)

pub less_finish : (g : Graph) (path cursor : List ℕ) (marks : List Mark) (ys : List ℕ) (x : ℕ) → path ≡ ys ++ x ∷ []
    → sort_work g ys cursor (set marks x Listed) < sort_work g path cursor marks
less_finish g path cursor marks ys x e = omega (arith, fresh_set marks x Listed (omega arith), ap length e, length_push ys x)

pub less_pop : (g : Graph) (path cursor : List ℕ) (marks : List Mark) (ys : List ℕ) (x : ℕ) → path ≡ ys ++ x ∷ []
    → sort_work g ys cursor marks < sort_work g path cursor marks
less_pop g path cursor marks ys x e = omega (arith, ap length e, length_push ys x)

-- what each visited vertex gives: one turn of the outer loop
pub record Listing (g : Graph) (root : ℕ) (cursor : List ℕ) (marks : List Mark) (post : List ℕ) : Type 0 where
  pub sorting : IsWalk g [] cursor marks post
  pub met : (p : ℕ) → p < root → Contains post p

pub listing_more : (g : Graph) (root : ℕ) (cursor : List ℕ) (marks : List Mark) (post cursor' : List ℕ) (marks' : List Mark) (post' : List ℕ)
    → Listing g root cursor marks post
    → IsWalk g [] cursor' marks' post' × Contains post' root × ((x : ℕ) → Contains post x → Contains post' x) → Listing g (root + 1) cursor' marks' post'
listing_more g root cursor marks post cursor' marks' post' l (s, h, k) = record {
  sorting = s;
  met = λ p b. elim (cases_eq p root) [ inl e ↦ rw e h | inr n ↦ k p (l.met p (omega arith)) ];
}

pub listing_same : (g : Graph) (root : ℕ) (cursor : List ℕ) (marks : List Mark) (post : List ℕ) → Listing g root cursor marks post → root < length g
    → get_or marks root New ≢ New → Listing g (root + 1) cursor marks post
listing_same g root cursor marks post l lt h = listing_more g root cursor marks post cursor marks post l (l.sorting, here, λ x w. w)
  where
    here : Contains post root
    here = go (get_or marks root New) refl
      where
        go : (m : Mark) → get_or marks root New ≡ m → Contains post root
        go New e = absurd (h e)
        go Open e = absurd (none_in root (l.sorting.opened root e))
        go Listed e = l.sorting.done root e

-- what was visited before lies on no circle
pub none_below : (g : Graph) (root : ℕ) (cursor : List ℕ) (marks : List Mark) (post : List ℕ) → Listing g root cursor marks post
    → (q : ℕ) → q < root → IsOnCircle g q → ⊥
none_below g root cursor marks post l q lt ([], c) = c
none_below g root cursor marks post l q lt (x ∷ xs, (e, c)) = listed_apart g post l.sorting.list q (l.met q lt) xs c

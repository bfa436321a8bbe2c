-- Of two lists of spots one is a front of the other, also where neither is whole.
use Rattle.std.proofs.Common.{◌≡◌, ◌⊎◌, inl, inr, ℕ, Bool, true, false, List, [], ◌∷◌, ◌++◌, map, refl, subst, ap, sym, ◌∙◌, append_assoc, append-nil}
use Rattle.vlog_tree.specs.declared.statement.Stmt.{Stmt}
use Rattle.vlog_tree.specs.Trees.{stmt_layer}
use Rattle.elab_types.specs.declared.flat_source.FlatVar.{FlatVar}
use Rattle.scope_meaning.specs.Visits.{Visits, Visit}
use Rattle.scope_meaning.proofs.WalkLaws.{none_some, same}
use Rattle.flat_source_meaning.specs.Environments.{Inside}
use Rattle.flat_source_meaning.specs.ProcessLoops.{ProcessLoop, passes}
use Rattle.flat_source_meaning.specs.Copies.{Copy, copy, IsCopied, reached, plain, loop, AreCopied, goes_on, ends_inside, ArePassesCopied, turn, ends_in_pass}
use Rattle.flat_source_meaning.specs.FlatSpots.{FlatSpot, at_copy, own_spots, Body, AreSpots, without_process, with_process, ends_in_process}
use Rattle.flat_source_meaning.proofs.SpotLaws.{FrontOf, clash, same_loop, copied, map_append, spots_front}

-- one is a front of the other
abbrev pub Meet : {A : Type 0} → List A → List A → Type 0
Meet {A} xs ys = ((rest : List A) × (xs ≡ ys ++ rest)) ⊎ ((rest : List A) × (ys ≡ xs ++ rest))

after : {A : Type 0} (ps qs us zs : List A) → ps ≡ qs → Meet us zs → Meet (ps ++ us) (qs ++ zs)
after ps qs us zs e (inl f) = inl (f.0, ap (λ a. a ++ us) e ∙ ap (λ a. qs ++ a) f.1 ∙ sym (append_assoc qs zs f.0))
after ps qs us zs e (inr f) = inr (f.0, ap (λ a. a ++ zs) (sym e) ∙ ap (λ a. ps ++ a) f.1 ∙ sym (append_assoc ps us f.0))

-- a front of the first list is a front of it with more behind
shorter : {A : Type 0} (xs ys more : List A) → FrontOf xs ys false → (rest : List A) × (xs ++ more ≡ ys ++ rest)
shorter xs ys more f = (f.0 ++ more, ap (λ a. a ++ more) f.1 ∙ append_assoc ys f.0 more)

mutual
  cut_copied : {inside : Inside} {a : Stmt} {cs : List Copy} → IsCopied inside a cs false → {ds : List Copy} → IsCopied inside a ds false → Meet cs ds
  cut_copied reached reached = inl ([], refl)
  cut_copied reached (plain f y) = inr (_, refl)
  cut_copied reached (loop f y) = inr (_, refl)
  cut_copied (plain e x) reached = inl (_, refl)
  cut_copied {inside} {a} (plain {cs = cs} e x) (plain {cs = ds} f y) = after (copy inside a ∷ []) (copy inside a ∷ []) cs ds refl (cut_all x y)
  cut_copied {inside} {a} (plain e x) (loop {l = l} f y) = clash (stmt_layer a) l e f
  cut_copied (loop e x) reached = inl (_, refl)
  cut_copied {inside} {a} (loop {l = l} e x) (plain f y) = clash (stmt_layer a) l f e
  cut_copied {inside} {a} (loop {l = l} {cs = cs} e x) (loop {l = k} {cs = ds} f y) =
      after (copy inside a ∷ []) (copy inside a ∷ []) cs ds refl
      (cut_passes x (subst (λ (z : ProcessLoop). ArePassesCopied inside z (passes inside.env z) ds false) (same_loop k l (sym f ∙ e)) y))

  cut_all : {inside : Inside} {all : List Stmt} {cs : List Copy} → AreCopied inside all cs false → {ds : List Copy} → AreCopied inside all ds false → Meet cs ds
  cut_all (goes_on {cs = cs} {ds = us} x xs) (goes_on {cs = ds} {ds = zs} y ys) = after cs ds us zs (copied x y) (cut_all xs ys)
  cut_all (goes_on {cs = cs} {ds = us} x xs) (ends_inside {cs = ds} y) = inl (shorter cs ds us (copied x y))
  cut_all (ends_inside {cs = cs} x) (goes_on {cs = ds} {ds = zs} y ys) = inr (shorter ds cs zs (copied y x))
  cut_all (ends_inside x) (ends_inside y) = cut_copied x y

  cut_passes : {inside : Inside} {l : ProcessLoop} {ns : List ℕ} {cs : List Copy} → ArePassesCopied inside l ns cs false
      → {ds : List Copy} → ArePassesCopied inside l ns ds false → Meet cs ds
  cut_passes (turn {cs = cs} {ds = us} x xs) (turn {cs = ds} {ds = zs} y ys) = after cs ds us zs (copied x y) (cut_passes xs ys)
  cut_passes (turn {cs = cs} {ds = us} x xs) (ends_in_pass {cs = ds} y) = inl (shorter cs ds us (copied x y))
  cut_passes (ends_in_pass {cs = cs} x) (turn {cs = ds} {ds = zs} y ys) = inr (shorter ds cs zs (copied y x))
  cut_passes (ends_in_pass x) (ends_in_pass y) = cut_copied x y

mapped : {A B : Type 0} (f : A → B) (xs ys : List A) → Meet xs ys → Meet (map f xs) (map f ys)
mapped f xs ys (inl g) = inl (map f g.0, ap (map f) g.1 ∙ map_append f ys g.0)
mapped f xs ys (inr g) = inr (map f g.0, ap (map f) g.1 ∙ map_append f xs g.0)

-- spots that end in a process are a front of those that go on behind it
in_last : (v : Visit) (b b' : Body) → b' ≡ b → (cs ds : List Copy) (xs : List FlatSpot) → FrontOf cs ds false
    → (rest : List FlatSpot) × ((own_spots v ++ map (at_copy b.kind) cs) ++ xs ≡ (own_spots v ++ map (at_copy b'.kind) ds) ++ rest)
in_last v b b' q cs ds xs f =
    let own : List FlatSpot = own_spots v in
    let spot : Copy → FlatSpot = at_copy b.kind in (
      map spot f.0 ++ xs,
      ap (λ (z : List Copy). (own ++ map spot z) ++ xs) f.1 ∙ ap (λ (z : List FlatSpot). (own ++ z) ++ xs) (map_append spot ds f.0)
          ∙ ap (λ (z : List FlatSpot). z ++ xs) (sym (append_assoc own (map spot ds) (map spot f.0))) ∙ append_assoc (own ++ map spot ds) (map spot f.0) xs
          ∙ ap (λ (z : Body). (own ++ map (at_copy z.kind) ds) ++ (map spot f.0 ++ xs)) (sym q),
    )

cut_spots : {vars : List FlatVar} {vs : Visits} {xs : List FlatSpot} → AreSpots vars vs xs false → {ys : List FlatSpot} → AreSpots vars vs ys false → Meet xs ys
cut_spots {vs = v ∷ vs} (without_process {spots = xs} e x) (without_process {spots = ys} f y) = after (own_spots v) (own_spots v) xs ys refl (cut_spots x y)
cut_spots (without_process e x) (with_process {b = b} f c y) = none_some b (sym e ∙ f)
cut_spots (without_process e x) (ends_in_process {b = b} f c) = none_some b (sym e ∙ f)
cut_spots (with_process {b = b} e c x) (without_process f y) = none_some b (sym f ∙ e)
cut_spots {vs = v ∷ vs} (with_process {b = b} {cs = cs} {spots = xs} e c x) (with_process {b = b'} {cs = ds} {spots = ys} f d y) =
    let q : b' ≡ b = same _ _ (sym f ∙ e) in
    let g : cs ≡ ds = copied c (subst (λ (z : Body). IsCopied z.inside z.stmt ds true) q d) in
    after (own_spots v ++ map (at_copy b.kind) cs) (own_spots v ++ map (at_copy b'.kind) ds) xs ys
    (ap (λ (z : List Copy). own_spots v ++ map (at_copy b.kind) z) g ∙ ap (λ (z : Body). own_spots v ++ map (at_copy z.kind) ds) (sym q)) (cut_spots x y)
cut_spots {vs = v ∷ vs} (with_process {b = b} {cs = cs} {spots = xs} e c x) (ends_in_process {b = b'} {cs = ds} f d) =
    inl (in_last v b b' (same _ _ (sym f ∙ e)) cs ds xs (copied c (subst (λ (z : Body). IsCopied z.inside z.stmt ds false) (same _ _ (sym f ∙ e)) d)))
cut_spots (ends_in_process {b = b} e c) (without_process f y) = none_some b (sym f ∙ e)
cut_spots {vs = v ∷ vs} (ends_in_process {b = b} {cs = cs} e c) (with_process {b = b'} {cs = ds} {spots = ys} f d y) =
    inr (in_last v b' b (same _ _ (sym e ∙ f)) ds cs ys (copied d (subst (λ (z : Body). IsCopied z.inside z.stmt cs false) (same _ _ (sym e ∙ f)) c)))
cut_spots {vs = v ∷ vs} (ends_in_process {b = b} {cs = cs} e c) (ends_in_process {b = b'} {cs = ds} f d) =
    let q : b' ≡ b = same _ _ (sym f ∙ e) in
    subst (λ (z : Body). Meet (own_spots v ++ map (at_copy b.kind) cs) (own_spots v ++ map (at_copy z.kind) ds)) (sym q)
    (after (own_spots v) (own_spots v) (map (at_copy b.kind) cs) (map (at_copy b.kind) ds) refl
    (mapped (at_copy b.kind) cs ds (cut_copied c (subst (λ (z : Body). IsCopied z.inside z.stmt ds false) q d))))

-- Of any two one is a front of the other.
pub spots_meet : {vars : List FlatVar} {vs : Visits} {xs ys : List FlatSpot} {v w : Bool} → AreSpots vars vs xs v → AreSpots vars vs ys w → Meet xs ys
spots_meet {xs = xs} {ys = ys} {v = true} {w = true} x y = inl ([], spots_front x y ∙ sym (append-nil ys))
spots_meet {v = true} {w = false} x y = inl (spots_front x y)
spots_meet {v = false} {w = true} x y = inr (spots_front y x)
spots_meet {v = false} {w = false} x y = cut_spots x y

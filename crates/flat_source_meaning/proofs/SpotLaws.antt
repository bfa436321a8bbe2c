-- Every list of copies of a statement is a front of the whole one, and so are the spots of a design.
use Rattle.std.proofs.Common.{◌≡◌, Bool, true, false, List, [], ◌∷◌, ◌++◌, map, refl, subst, ap, sym, ◌∙◌, ℕ, append_assoc}
use Rattle.vlog_tree.specs.declared.statement.Stmt.{Stmt}
use Rattle.vlog_tree.specs.declared.statement.StmtKind.TheOpen as o
use Rattle.vlog_tree.specs.Trees.{StmtLayer, stmt_layer}
use Rattle.elab_types.specs.declared.flat_source.FlatVar.{FlatVar}
use Rattle.flat_source_meaning.specs.Environments.{Inside}
use Rattle.flat_source_meaning.specs.ProcessLoops.{ProcessLoop, process_loops, passes}
use Rattle.flat_source_meaning.specs.Copies.{Copy, copy, is_no_loop, IsCopied, reached, plain, loop, AreCopied, no_stmts, goes_on, ends_inside, ArePassesCopied}
use Rattle.flat_source_meaning.specs.Copies.{over, turn, ends_in_pass}
use Rattle.scope_meaning.specs.Visits.{Visits}
use Rattle.flat_source_meaning.specs.FlatSpots.{FlatSpot, at_copy, own_spots, Body, AreSpots, none, without_process, with_process, ends_in_process}
use Rattle.scope_meaning.proofs.WalkLaws.{never, none_some, same}

-- the second is the first, or where it isn't whole a front of it
abbrev pub FrontOf : {A : Type 0} → List A → List A → Bool → Type 0
FrontOf xs ys true = xs ≡ ys
FrontOf {A} xs ys false = (rest : List A) × (xs ≡ ys ++ rest)

after : {A : Type 0} (ps qs xs ys : List A) (w : Bool) → ps ≡ qs → FrontOf xs ys w → FrontOf (ps ++ xs) (qs ++ ys) w
after ps qs xs ys true e f = ap (λ a. a ++ xs) e ∙ ap (λ a. qs ++ a) f
after ps qs xs ys false e f = (f.0, ap (λ a. a ++ xs) e ∙ ap (λ a. qs ++ a) f.1 ∙ sym (append_assoc qs ys f.0))

longer : {A : Type 0} (xs ys more : List A) → FrontOf xs ys false → FrontOf (xs ++ more) ys false
longer xs ys more f = (f.0 ++ more, ap (λ a. a ++ more) f.1 ∙ append_assoc ys f.0 more)

pub clash : {A : Type 0} (x : StmtLayer) (l : ProcessLoop) → is_no_loop x ≡ true → process_loops x ≡ l ∷ [] → A
clash (o.For name from test step_name step body) l e f = never e
clash _ l e f = no_list f
  where
    is_empty : List ProcessLoop → Bool
    is_empty [] = true
    is_empty (x ∷ xs) = false

    no_list : {B : Type 0} → [] ≡ l ∷ [] → B
    no_list e = never (sym (ap is_empty e))

first_loop : ProcessLoop → List ProcessLoop → ProcessLoop
first_loop d [] = d
first_loop d (x ∷ xs) = x

pub same_loop : (k l : ProcessLoop) → k ∷ [] ≡ l ∷ [] → k ≡ l
unfolding first_loop
same_loop k l e = ap (first_loop k) e

mutual
  pub copied : {inside : Inside} {a : Stmt} {cs : List Copy} → IsCopied inside a cs true → {ds : List Copy} {w : Bool} → IsCopied inside a ds w
      → FrontOf cs ds w
  copied (plain e x) reached = (_, refl)
  copied {inside} {a} (plain {cs = cs} e x) {w = w} (plain {cs = ds} f y) = after (copy inside a ∷ []) (copy inside a ∷ []) cs ds w refl (all_copied x y)
  copied {inside} {a} (plain e x) (loop {l = l} f y) = clash (stmt_layer a) l e f
  copied (loop e x) reached = (_, refl)
  copied {inside} {a} (loop {l = l} e x) (plain f y) = clash (stmt_layer a) l f e
  copied {inside} {a} (loop {l = l} {cs = cs} e x) {w = w} (loop {l = k} {cs = ds} f y) =
      after (copy inside a ∷ []) (copy inside a ∷ []) cs ds w refl
      (passes_copied x (subst (λ (z : ProcessLoop). ArePassesCopied inside z (passes inside.env z) ds w) (same_loop k l (sym f ∙ e)) y))

  pub all_copied : {inside : Inside} {all : List Stmt} {cs : List Copy} → AreCopied inside all cs true → {ds : List Copy} {w : Bool}
      → AreCopied inside all ds w → FrontOf cs ds w
  all_copied no_stmts no_stmts = refl
  all_copied (goes_on {cs = cs} {ds = ds} x xs) {w = w} (goes_on {cs = cs'} {ds = ds'} y ys) = after cs cs' ds ds' w (copied x y) (all_copied xs ys)
  all_copied (goes_on {cs = cs} {ds = ds} x xs) (ends_inside {cs = cs'} y) = longer cs cs' ds (copied x y)

  pub passes_copied : {inside : Inside} {l : ProcessLoop} {ns : List ℕ} {cs : List Copy} → ArePassesCopied inside l ns cs true
      → {ds : List Copy} {w : Bool} → ArePassesCopied inside l ns ds w → FrontOf cs ds w
  passes_copied over over = refl
  passes_copied (turn {cs = cs} {ds = ds} x xs) {w = w} (turn {cs = cs'} {ds = ds'} y ys) = after cs cs' ds ds' w (copied x y) (passes_copied xs ys)
  passes_copied (turn {cs = cs} {ds = ds} x xs) (ends_in_pass {cs = cs'} y) = longer cs cs' ds (copied x y)

pub map_append : {A B : Type 0} (f : A → B) (xs ys : List A) → map f (xs ++ ys) ≡ map f xs ++ map f ys
map_append f [] ys = refl
map_append f (x ∷ xs) ys = ap (λ a. f x ∷ a) (map_append f xs ys)

-- The spots of some visits are a front of all their spots.
pub spots_front : {vars : List FlatVar} {vs : Visits} {xs : List FlatSpot} → AreSpots vars vs xs true → {ys : List FlatSpot} {w : Bool}
    → AreSpots vars vs ys w → FrontOf xs ys w
spots_front none none = refl
spots_front {vs = v ∷ vs} (without_process {spots = xs} e x) {w = w} (without_process {spots = ys} f y) = after (own_spots v) (own_spots v) xs ys w refl
    (spots_front x y)
spots_front (without_process e x) (with_process {b = b} f c y) = none_some b (sym e ∙ f)
spots_front (without_process e x) (ends_in_process {b = b} f c) = none_some b (sym e ∙ f)
spots_front (with_process {b = b} e c x) (without_process f y) = none_some b (sym f ∙ e)
spots_front {vs = v ∷ vs} (with_process {b = b} {cs = cs} {spots = xs} e c x) {w = w} (with_process {b = b'} {cs = ds} {spots = ys} f d y) =
    let q : b' ≡ b = same _ _ (sym f ∙ e) in
    let g : cs ≡ ds = copied c (subst (λ (z : Body). IsCopied z.inside z.stmt ds true) q d) in
    after (own_spots v ++ map (at_copy b.kind) cs) (own_spots v ++ map (at_copy b'.kind) ds) xs ys w
    (ap (λ (z : List Copy). own_spots v ++ map (at_copy b.kind) z) g ∙ ap (λ (z : Body). own_spots v ++ map (at_copy z.kind) ds) (sym q)) (spots_front x y)
spots_front {vs = v ∷ vs} (with_process {b = b} {cs = cs} {spots = xs} e c x) (ends_in_process {b = b'} {cs = ds} f d) =
    let q : b' ≡ b = same _ _ (sym f ∙ e) in
    let g : (rest : List Copy) × (cs ≡ ds ++ rest) = copied c (subst (λ (z : Body). IsCopied z.inside z.stmt ds false) q d) in
    let own : List FlatSpot = own_spots v in
    let spot : Copy → FlatSpot = at_copy b.kind in (
      map spot g.0 ++ xs,
      ap (λ (z : List Copy). (own ++ map spot z) ++ xs) g.1 ∙ ap (λ (z : List FlatSpot). (own ++ z) ++ xs) (map_append spot ds g.0)
          ∙ ap (λ (z : List FlatSpot). z ++ xs) (sym (append_assoc own (map spot ds) (map spot g.0))) ∙ append_assoc (own ++ map spot ds) (map spot g.0) xs
          ∙ ap (λ (z : Body). (own ++ map (at_copy z.kind) ds) ++ (map spot g.0 ++ xs)) (sym q),
    )

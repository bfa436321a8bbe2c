-- The flaws of what stands at a place, by its kind.
use Rattle.std.proofs.Common.{◌≡◌, ◌∙◌, sym, ap, refl, subst, ℕ, Bool, true, false, cond, ◌||◌, List, [], ◌∷◌, ◌++◌, map, append-nil, append_assoc, Option}
use Rattle.std.proofs.Common.{Some, None, Result, Ok, Err}
use Rattle.std.specs.List.{list_any, flat_map, filter_map}
use Rattle.std.proofs.lemmas.List.{map-append}
use Rattle.std.proofs.lemmas.List.Concat.{flat_map-append}
use Rattle.std.proofs.lemmas.List.Folds.{list_any-append}
use Rattle.cov_types.specs.declared.place.Place.{Place}
use Rattle.vlog_tree.specs.declared.expression.Expr.{Expr}
use Rattle.vlog_tree.specs.declared.expression.RangeExpr.{RangeExpr}
use Rattle.vlog_tree.specs.declared.item.ItemKind.TheOpen as i
use Rattle.vlog_tree.specs.declared.item.WireName.{WireName}
use Rattle.vlog_tree.specs.declared.item.RegName.{RegName}
use Rattle.vlog_tree.specs.declared.item.GenArm.{GenArm}
use Rattle.vlog_tree.specs.declared.item.GenBody.{GenBody}
use Rattle.vlog_tree.specs.declared.module.Module.{Module}
use Rattle.vlog_tree.specs.Trees.{option_list, Layer}
use Rattle.scope_meaning.specs.Constants.{Names, Wrong}
use Rattle.scope_meaning.specs.Ranges.{is_bad_range, has_bad_bound, is_wide_range}
use Rattle.scope_meaning.specs.Scope.{Here, At, frames}
use Rattle.scope_meaning.specs.Heads.{names_here}
use Rattle.scope_meaning.specs.Standing.{Standing, standing_item}
use Rattle.scope_meaning.specs.ScopeRules.{refusal_at}
use Rattle.scope_meaning.specs.Wanted.{Wanted, want, bounds}
use Rattle.elab_faults.specs.Flaws.{Flaws, flaws, flaws_of, flaws_at, flaws_in, both_flaws, vector_flaws, memory_flaws, wrong_in}
use Rattle.elab_faults.proofs.Flaws.{flaws_are}
use Rattle.elab_faults.proofs.Lists.{any-wrong}
use Rattle.elab_heads.specs.Choices.{test_in}
use Rattle.elab_places.specs.Places.{reg_flaws, has_nothing}
use Rattle.elab_places.proofs.Rules.{NotTwice, unflawed}

swap : (a b c d : Bool) → ((a || b) || (c || d)) ≡ ((a || c) || (b || d))
swap true b c d = refl
swap false true true d = refl
swap false true false d = refl
swap false false c d = refl

-- of more of each
flaws-append : (known : Names) (v w m n : List RangeExpr) (xs ys : List Wanted)
    → flaws_of known (v ++ w) (m ++ n) (xs ++ ys) ≡ both_flaws (flaws_of known v m xs) (flaws_of known w n ys)
flaws-append known v w m n xs ys =
    let bad = λ (rs : List RangeExpr). list_any (is_bad_range known) rs in
    let bound = λ (rs : List RangeExpr). list_any (has_bad_bound known) rs in
    let wide = λ (rs : List RangeExpr). list_any (is_wide_range known) rs in
    let large = λ (es : List Wanted). list_any (λ w. w.wide) (map wrong_in es) in
    flaws_are _ _ _ _ _ _ _ _ (any-wrong (λ w. w.name) xs ys) (any-wrong (λ w. w.select) xs ys)
    (ap (λ b. b || bound (m ++ n)) (list_any-append (is_bad_range known) v w)
    ∙ ap (λ b. (bad v || bad w) || b) (list_any-append (has_bad_bound known) m n) ∙ swap (bad v) (bad w) (bound m) (bound n))
    (ap (λ b. b || wide (v ++ w)) (any-wrong (λ w. w.wide) xs ys)
    ∙ ap (λ b. (large xs || large ys) || b) (list_any-append (is_wide_range known) v w) ∙ swap (large xs) (large ys) (wide v) (wide w))

-- a declaration of wires
pub wire-flaws : (here : Here) (at : At) (p : Place) (ns : List (List ℕ)) (signed : Bool) (range : Option RangeExpr) (wires : List WireName)
    → flaws_at (standing_item here at p ns (i.Wire signed range wires)) ≡ vector_flaws (names_here here at) (option_list range)
wire-flaws here at p ns signed None wires = refl
wire-flaws here at p ns signed (Some r) wires = refl

-- a declaration of regs
pub regs-flaws : (here : Here) (at : At) (p : Place) (ns : List (List ℕ)) (signed : Bool) (range : Option RangeExpr) (regs : List RegName)
    → flaws_at (standing_item here at p ns (i.Reg signed range regs)) ≡ reg_flaws (names_here here at) (option_list range) regs
regs-flaws here at p ns signed range regs =
    let known = names_here here at in
    let v = option_list range in
    let m = filter_map (λ (r : RegName). r.words) regs in
    let o = filter_map (λ (r : RegName). r.start) regs in
    let wv = map (want known) (flat_map bounds v) in
    let wm = map (want known) (flat_map bounds m) in
    let wo = map (want known) o in
    let all : map (want known) (flat_map bounds (v ++ m) ++ o) ≡ wv ++ (wm ++ wo) =
    map-append (want known) (flat_map bounds (v ++ m)) o
    ∙ ap (λ es. map (want known) es ++ wo) (flat_map-append bounds v m)
    ∙ ap (λ ws. ws ++ wo) (map-append (want known) (flat_map bounds v) (flat_map bounds m))
    ∙ append_assoc wv wm wo in
    ap (flaws_of known v m) (append-nil ((map (want known) (flat_map bounds (v ++ m) ++ o)) ++ [])
    ∙ append-nil (map (want known) (flat_map bounds (v ++ m) ++ o)) ∙ all)
    ∙ ap (λ w. flaws_of known w m (wv ++ (wm ++ wo))) (sym (append-nil v))
    ∙ flaws-append known v [] [] m wv (wm ++ wo)
    ∙ ap (both_flaws (vector_flaws known v))
    (ap (λ n. flaws_of known [] n (wm ++ wo)) (sym (append-nil m)) ∙ flaws-append known [] [] m [] wm wo)

-- a generate `if`
pub choice-flaws : (here : Here) (at : At) (p : Place) (ns : List (List ℕ)) (arms : List GenArm) (last : Option GenBody)
    → flaws_at (standing_item here at p ns (i.Choose arms last)) ≡ flaws_in (map (want (names_here here at)) (map test_in arms))
choice-flaws here at p ns arms last =
    let ws = map (want (names_here here at)) (map test_in arms) in
    ap flaws_in (append-nil (ws ++ []) ∙ append-nil ws)

-- an item that has nothing in it is refused by nothing but names that stand twice
pub calm : (design : List Module) (here : Here) (at : At) (p : Place) (ns : List (List ℕ)) (l : Layer) → has_nothing l ≡ true
    → NotTwice design (standing_item here at p ns l) → refusal_at design (standing_item here at p ns l) ≡ None
calm design here at p ns (i.Integer names) h d = unflawed design (standing_item here at p ns (i.Integer names)) d refl
calm design here at p ns (i.Genvar names) h d = unflawed design (standing_item here at p ns (i.Genvar names)) d refl
calm design here at p ns (i.Assign parts) h d = unflawed design (standing_item here at p ns (i.Assign parts)) d refl
calm design here at p ns (i.Initial body) h d = unflawed design (standing_item here at p ns (i.Initial body)) d refl
calm design here at p ns (i.Always clock body) h d = unflawed design (standing_item here at p ns (i.Always clock body)) d refl
calm design here at p ns (i.Cover word label clock test) h d = unflawed design (standing_item here at p ns (i.Cover word label clock test)) d refl
calm design here at p ns (i.Wire signed range names) h d = cc
calm design here at p ns (i.Reg signed range names) h d = cc
calm design here at p ns (i.Parameter is_local form names) h d = cc
calm design here at p ns (i.Instances of params made) h d = cc
calm design here at p ns (i.Generate items) h d = cc
calm design here at p ns (i.Loop name from test step_name step block places body) h d = cc
calm design here at p ns (i.Choose arms last) h d = cc

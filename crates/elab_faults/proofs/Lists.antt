-- The flaws of several ranges and expressions.
use Rattle.std.proofs.Common.{◌≡◌, ◌∙◌, sym, ap, refl, subst, ℕ, ◌+◌, ◌<◌, Bool, true, false, cond, ◌||◌, List, [], ◌∷◌, ◌++◌, length, take, get_or, map}
use Rattle.std.proofs.Common.{Option, Some, None, Result, Ok, Err}
use Rattle.std.specs.List.{list_any, flat_map, filter_map}
use Rattle.std.proofs.lemmas.List.{map-append, take_more}
use Rattle.std.proofs.lemmas.List.Concat.{flat_map-append}
use Rattle.std.proofs.lemmas.List.Elements.{filter_map-append}
use Rattle.std.proofs.lemmas.List.Folds.{list_any-append}
use Rattle.vlog_tree.specs.declared.expression.Expr.{Expr}
use Rattle.vlog_tree.specs.declared.expression.RangeExpr.{RangeExpr}
use Rattle.vlog_tree.specs.declared.item.RegName.{RegName}
use Rattle.vlog_tree.specs.Trees.{option_list}
use Rattle.scope_meaning.specs.Constants.{Names, Wrong}
use Rattle.scope_meaning.specs.Ranges.{has_bad_bound, words}
use Rattle.scope_meaning.specs.ScopeRules.{is_past}
use Rattle.scope_meaning.specs.Wanted.{Wanted, want, bounds}
use Rattle.elab_ranges.specs.declared.fault.RangeFault.{RangeFault}
use Rattle.elab_faults.specs.Flaws.{Flaws, flaws, both_flaws, flaws_in, memory_flaws, vector_flaws, flaws_of, wrong_in, Finds}
use Rattle.elab_faults.specs.Judged.{Nothing}
use Rattle.elab_faults.proofs.Flaws.{flaws_are, finds_same}
use Rattle.elab_faults.proofs.Single.{or_false}

pub any-wrong : (p : Wrong → Bool) (xs ys : List Wanted) → list_any p (map wrong_in (xs ++ ys)) ≡ (list_any p (map wrong_in xs) || list_any p (map wrong_in ys))
any-wrong p xs ys = ap (list_any p) (map-append wrong_in xs ys) ∙ list_any-append p (map wrong_in xs) (map wrong_in ys)

ends : (a b : Bool) → ((a || b) || false) ≡ ((a || false) || (b || false))
ends true b = refl
ends false b = refl

-- of more expressions
pub in-append : (xs ys : List Wanted) → flaws_in (xs ++ ys) ≡ both_flaws (flaws_in xs) (flaws_in ys)
in-append xs ys =
    flaws_are _ _ _ _ _ _ _ _ (any-wrong (λ w. w.name) xs ys) (any-wrong (λ w. w.select) xs ys) refl
    (ap (λ b. b || false) (any-wrong (λ w. w.wide) xs ys) ∙ ends (list_any (λ w. w.wide) (map wrong_in xs)) (list_any (λ w. w.wide) (map wrong_in ys)))

wanted-append : (known : Names) (rs qs : List RangeExpr)
    → map (want known) (flat_map bounds (rs ++ qs)) ≡ map (want known) (flat_map bounds rs) ++ map (want known) (flat_map bounds qs)
wanted-append known rs qs = ap (map (want known)) (flat_map-append bounds rs qs) ∙ map-append (want known) (flat_map bounds rs) (flat_map bounds qs)

-- of more memories
pub memory-append : (known : Names) (rs qs : List RangeExpr) → memory_flaws known (rs ++ qs) ≡ both_flaws (memory_flaws known rs) (memory_flaws known qs)
memory-append known rs qs =
    let xs = map (want known) (flat_map bounds rs) in
    let ys = map (want known) (flat_map bounds qs) in
    ap (flaws_of known [] (rs ++ qs)) (wanted-append known rs qs)
    ∙ flaws_are _ _ _ _ _ _ _ _ (any-wrong (λ w. w.name) xs ys) (any-wrong (λ w. w.select) xs ys) (list_any-append (has_bad_bound known) rs qs)
    (ap (λ b. b || false) (any-wrong (λ w. w.wide) xs ys) ∙ ends (list_any (λ w. w.wide) (map wrong_in xs)) (list_any (λ w. w.wide) (map wrong_in ys)))

one-more : {A B : Type 0} (f : A → Option B) (x : A) → filter_map f (x ∷ []) ≡ option_list (f x)
one-more {A} {B} f x = by (f x) refl
  where
    by : (o : Option B) → f x ≡ o → filter_map f (x ∷ []) ≡ option_list (f x)
    by None e = cc
    by (Some y) e = cc

pub kept-more : {A B : Type 0} (f : A → Option B) (xs : List A) (i : ℕ) (x : A) → i < length xs → x ≡ get_or xs i x
    → filter_map f (take (i + 1) xs) ≡ filter_map f (take i xs) ++ option_list (f x)
kept-more {A} f xs i x lt is =
    ap (filter_map f) (take_more xs i x lt ∙ ap (λ (y : A). take i xs ++ y ∷ []) (sym is)) ∙ filter_map-append f (take i xs) (x ∷ [])
    ∙ ap (λ ys. filter_map f (take i xs) ++ ys) (one-more f x)

abbrev memories : List RegName → List RangeExpr
memories = filter_map (λ (r : RegName). r.words)

abbrev starts : List RegName → List Expr
starts = filter_map (λ (r : RegName). r.start)

abbrev pub Large : Names → List RangeExpr → Bool → Type 0
Large known rs large = large ≡ list_any (λ r. is_past (words known r)) rs

large-more : (known : Names) (rs qs : List RangeExpr) (large : Bool)
    → large ≡ (list_any (λ r. is_past (words known r)) rs || list_any (λ r. is_past (words known r)) qs) → Large known (rs ++ qs) large
large-more known rs qs large e = e ∙ sym (list_any-append (λ (r : RangeExpr). is_past (words known r)) rs qs)

large-finds : (known : Names) (w : Flaws) (rs qs : List RangeExpr) (a : Result Bool RangeFault)
    → Finds (λ x. x ≡ (list_any (λ r. is_past (words known r)) rs || list_any (λ r. is_past (words known r)) qs)) w a → Finds (Large known (rs ++ qs)) w a
large-finds known w rs qs (Ok b) h = (h.0, large-more known rs qs b h.1)
large-finds known w rs qs (Err f) h = h

-- one reg more
pub step-memory : (known : Names) (regs : List RegName) (i : ℕ) (r : RegName) (a : Result Bool RangeFault) → i < length regs → r ≡ get_or regs i r
    → Finds (λ x. x ≡ (list_any (λ r. is_past (words known r)) (memories (take i regs)) || list_any (λ r. is_past (words known r)) (option_list r.words)))
    (both_flaws (memory_flaws known (memories (take i regs))) (memory_flaws known (option_list r.words))) a
    → Finds (Large known (memories (take (i + 1) regs))) (memory_flaws known (memories (take (i + 1) regs))) a
step-memory known regs i r a lt is h =
    let rs = memories (take i regs) in
    let qs = option_list r.words in
    subst (λ (ms : List RangeExpr). Finds (Large known ms) (memory_flaws known ms) a) (sym (kept-more (λ (x : RegName). x.words) regs i r lt is))
    (finds_same (Large known (rs ++ qs)) (both_flaws (memory_flaws known rs) (memory_flaws known qs)) (memory_flaws known (rs ++ qs)) a
    (sym (memory-append known rs qs)) (large-finds known _ rs qs a h))

pub step-start : (known : Names) (regs : List RegName) (i : ℕ) (r : RegName) (a : Result Unit RangeFault) → i < length regs → r ≡ get_or regs i r
    → Finds Nothing (both_flaws (flaws_in (map (want known) (starts (take i regs)))) (flaws_in (map (want known) (option_list r.start)))) a
    → Finds Nothing (flaws_in (map (want known) (starts (take (i + 1) regs)))) a
step-start known regs i r a lt is h =
    let xs = starts (take i regs) in
    let ys = option_list r.start in
    subst (λ (es : List Expr). Finds Nothing (flaws_in (map (want known) es)) a) (sym (kept-more (λ (x : RegName). x.start) regs i r lt is))
    (finds_same Nothing (both_flaws (flaws_in (map (want known) xs)) (flaws_in (map (want known) ys))) (flaws_in (map (want known) (xs ++ ys))) a
    (sym (ap flaws_in (map-append (want known) xs ys) ∙ in-append (map (want known) xs) (map (want known) ys))) h)

-- the memory that a reg may be
or_none : (known : Names) (r : RangeExpr) (w : Flaws) (a : Result Bool RangeFault) → Finds (λ x. x ≡ is_past (words known r)) w a
    → Finds (Large known (r ∷ [])) w a
or_none known r w (Ok b) h = (h.0, h.1 ∙ sym (or_false (is_past (words known r))))
or_none known r w (Err f) h = h

pub one-memory : (known : Names) (o : Option RangeExpr) (r : RangeExpr) (a : Result Bool RangeFault) → o ≡ Some r
    → Finds (λ x. x ≡ is_past (words known r)) (memory_flaws known (r ∷ [])) a → Finds (Large known (option_list o)) (memory_flaws known (option_list o)) a
one-memory known o r a is h =
    subst (λ (x : Option RangeExpr). Finds (Large known (option_list x)) (memory_flaws known (option_list x)) a) (sym is)
    (or_none known r (memory_flaws known (r ∷ [])) a h)

pub one-vector : (known : Names) (o : Option RangeExpr) (r : RangeExpr) (a : Result Unit RangeFault) → o ≡ Some r
    → Finds Nothing (vector_flaws known (r ∷ [])) a → Finds Nothing (vector_flaws known (option_list o)) a
one-vector known o r a is h = subst (λ (x : Option RangeExpr). Finds Nothing (vector_flaws known (option_list x)) a) (sym is) h

pub one-start : (known : Names) (o : Option Expr) (e : Expr) (a : Result Unit RangeFault) → o ≡ Some e → Finds Nothing (flaws_in (want known e ∷ [])) a
    → Finds Nothing (flaws_in (map (want known) (option_list o))) a
one-start known o e a is h = subst (λ (x : Option Expr). Finds Nothing (flaws_in (map (want known) (option_list x))) a) (sym is) h

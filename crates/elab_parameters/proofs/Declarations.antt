-- The flaws of a declaration of parameters, and what its reading gives.
use Rattle.std.proofs.Common.{◌≡◌, ◌∙◌, ap, sym, refl, subst, ℕ, ◌+◌, ◌<◌, Bool, true, false, ◌||◌, List, [], ◌∷◌, ◌++◌}
use Rattle.std.proofs.Common.{map, length, take, get_or, append-nil, Option, Some, None}
use Rattle.std.proofs.Common.{Result, Ok, Err}
use Rattle.std.specs.Prelude.{IfOk}
use Rattle.std.specs.List.{flat_map, list_any}
use Rattle.std.proofs.lemmas.List.{map-append, take_more}
use Rattle.std.proofs.lemmas.List.Concat.{flat_map-append}
use Rattle.cov_types.specs.declared.no_memory.NoMemory.{NoMemory}
use Rattle.cov_types.specs.declared.place.Place.{Place}
use Rattle.vlog_tree.specs.declared.expression.Expr.{Expr}
use Rattle.vlog_tree.specs.declared.expression.RangeExpr.{RangeExpr}
use Rattle.vlog_tree.specs.declared.item.ItemKind.TheOpen as i
use Rattle.vlog_tree.specs.declared.item.ParamForm.{ParamForm}
use Rattle.vlog_tree.specs.declared.item.ParamForm.TheVariants as form
use Rattle.vlog_tree.specs.declared.item.ParamName.{ParamName}
use Rattle.elab_types.specs.declared.scope.Constant.{Constant as ConstantRow}
use Rattle.source_meaning.specs.Meaning.{Meaning}
use Rattle.scope_meaning.specs.Constants.{Names, Constant}
use Rattle.scope_meaning.specs.Heads.{names_here, parameter_of, parameter_value}
use Rattle.scope_meaning.specs.Ranges.{is_bad_range, is_wide_range, parameter_constant}
use Rattle.scope_meaning.specs.Scope.{Here, At, frames}
use Rattle.scope_meaning.specs.Standing.{standing_item}
use Rattle.scope_meaning.specs.Wanted.{Wanted, want, bounds, own_value, values_from, with_known, form_range}
use Rattle.elab_constants.specs.declared.names.ConstantValue.{ConstantValue}
use Rattle.elab_ranges.specs.declared.fault.RangeFault.{RangeFault}
use Rattle.elab_ranges.specs.declared.fault.RangeFault.TheVariants as fault
use Rattle.elab_names.specs.declared.scope_names.ScopeNames.{ScopeNames}
use Rattle.elab_names.specs.Frames.{AreFrames}
use Rattle.elab_faults.specs.Flaws.{Flaws, flaws_of, flaws_at, flaws_in, both_flaws, first_flaw, vector_flaws, wrong_in, IsFlaw, Finds, earlier, both}
use Rattle.elab_faults.specs.Judged.{Nothing}
use Rattle.elab_faults.proofs.Flaws.{finds_both, first_of_both, flaw_moves, flaws_are}
use Rattle.elab_faults.proofs.Lists.{any-wrong, in-append}
use Rattle.elab_faults.proofs.Single.{or_false}
use Rattle.elab_parameters.specs.declared.form.FormSize.{FormSize}
use Rattle.elab_parameters.specs.declared.found.Found.{Found}
use Rattle.elab_parameters.specs.Forms.{HasSize}
use Rattle.elab_parameters.specs.Declarations.{AreRead, AreDeclared, declaration_flaws, also, or_flaw, constants_found, with_values}
use Rattle.elab_parameters.proofs.Forms.{no_constant}
use Rattle.elab_parameters.proofs.Values.{by_none}
use Rattle.elab_parameters.proofs.Readings.{values-more, values-end}

-- ---- what is wrong at the place of a declaration

swap : (a b c : Bool) → ((a || b) || c) ≡ ((a || c) || (b || false))
swap true b c = refl
swap false true true = refl
swap false true false = refl
swap false false true = refl
swap false false false = refl

-- a range, and expressions behind its bounds
range-flaws : (known : Names) (r : RangeExpr) (ws : List Wanted)
    → flaws_of known (r ∷ []) [] (map (want known) (bounds r) ++ ws) ≡ both_flaws (vector_flaws known (r ∷ [])) (flaws_in ws)
range-flaws known r ws =
    let xs = map (want known) (bounds r) in
    let wide = λ (es : List Wanted). list_any (λ w. w.wide) (map wrong_in es) in
    flaws_are _ _ _ _ _ _ _ _ (any-wrong (λ w. w.name) xs ws) (any-wrong (λ w. w.select) xs ws)
    (sym (or_false ((is_bad_range known r || false) || false)))
    (ap (λ b. b || (is_wide_range known r || false)) (any-wrong (λ w. w.wide) xs ws) ∙ swap (wide xs) (wide ws) (is_wide_range known r || false))

pub parameter-flaws : (here : Here) (at : At) (p : Place) (ns : List (List ℕ)) (is_local : Bool) (f : ParamForm) (ps : List ParamName)
    → flaws_at (standing_item here at p ns (i.Parameter is_local f ps)) ≡ declaration_flaws here at is_local f ps
parameter-flaws here at p ns is_local form.Plain ps =
    ap flaws_in (append-nil (values_from here at (names_here here at) is_local form.Plain ps))
parameter-flaws here at p ns is_local form.Integer ps =
    ap flaws_in (append-nil (values_from here at (names_here here at) is_local form.Integer ps))
parameter-flaws here at p ns is_local (form.Ranged signed r) ps =
    let known = names_here here at in
    let vs = values_from here at known is_local (form.Ranged signed r) ps in
    ap (λ ws. flaws_of known (r ∷ []) [] (map (want known) (bounds r) ++ ws)) (append-nil vs) ∙ range-flaws known r vs

-- ---- a declaration whose form gives no constant

pub also_finds : (P : ConstantValue → Type 0) (v w : Flaws) (a : Result (Unit {0}) RangeFault) (b : Result ConstantValue RangeFault)
    → Finds Nothing v a → Finds P w b → Finds Nothing (both_flaws v w) (also a b)
also_finds P v w (Ok u) (Ok x) h k = ((finds_both Nothing P v w (Ok u) (Ok x) h k).0, tt)
also_finds P v w (Ok u) (Err g) h k = finds_both Nothing P v w (Ok u) (Err g) h k
also_finds P v w (Err f) (Ok x) h k = finds_both Nothing P v w (Err f) (Ok x) h k
also_finds P v w (Err f) (Err g) h k = finds_both Nothing P v w (Err f) (Err g) h k

-- the values of one parameter more
pub own-more : (here : Here) (is_local : Bool) (known : Names) (ps : List ParamName) (p : ParamName)
    → flaws_in (map (want known) (flat_map (own_value here is_local) (ps ++ p ∷ [])))
    ≡ both_flaws (flaws_in (map (want known) (flat_map (own_value here is_local) ps))) (flaws_in (map (want known) (own_value here is_local p)))
own-more here is_local known ps p =
    let own = own_value here is_local in
    ap (λ (es : List Expr). flaws_in (map (want known) es))
    (flat_map-append own ps (p ∷ []) ∙ ap (λ (es : List Expr). flat_map own ps ++ es) (append-nil (own p)))
    ∙ ap flaws_in (map-append (want known) (flat_map own ps) (own p)) ∙ in-append (map (want known) (flat_map own ps)) (map (want known) (own p))

pub also_more : (here : Here) (is_local : Bool) (known : Names) (P : ConstantValue → Type 0) (ps : List ParamName) (n : ℕ) (p : ParamName)
    (so_far : Result (Unit {0}) RangeFault) (value : Result ConstantValue RangeFault) (all : Result (Unit {0}) RangeFault)
    → n < length ps → p ≡ get_or ps n p → all ≡ also so_far value
    → Finds Nothing (flaws_in (map (want known) (flat_map (own_value here is_local) (take n ps)))) so_far
    → Finds P (flaws_in (map (want known) (own_value here is_local p))) value
    → Finds Nothing (flaws_in (map (want known) (flat_map (own_value here is_local) (take (n + 1) ps)))) all
also_more here is_local known P ps n p so_far value all lt is made h k =
    subst (λ (qs : List ParamName). Finds Nothing (flaws_in (map (want known) (flat_map (own_value here is_local) qs))) all)
    (sym (take_more ps n p lt ∙ ap (λ (q : ParamName). take n ps ++ q ∷ []) (sym is)))
    (subst (λ (w : Flaws). Finds Nothing w all) (sym (own-more here is_local known (take n ps) p))
    (subst (Finds Nothing (both_flaws (flaws_in (map (want known) (flat_map (own_value here is_local) (take n ps))))
    (flaws_in (map (want known) (own_value here is_local p))))) (sym made)
    (also_finds P (flaws_in (map (want known) (flat_map (own_value here is_local) (take n ps))))
    (flaws_in (map (want known) (own_value here is_local p))) so_far value h k)))

-- All are read at the place of the declaration.
values-apart : (here : Here) (at : At) (before : Names) (is_local : Bool) (f : ParamForm) (ps : List ParamName)
    → ((name : List ℕ) (m : Meaning) → parameter_constant before name m f ≡ None)
    → values_from here at before is_local f ps ≡ map (want (names_here here at)) (flat_map (own_value here is_local) ps)
values-apart here at before is_local f [] none = values-end here at before is_local f
values-apart here at before is_local f (p ∷ ps) none =
    let known = names_here here at in
    let own = own_value here is_local in
    values-more here at before is_local f p ps
    ∙ ap (λ (o : Option Constant). map (want known) (own p) ++ values_from here (with_known at o) before is_local f ps)
    (by_none before f p.name.name (parameter_value here known is_local p) none)
    ∙ ap (λ ws. map (want known) (own p) ++ ws) (values-apart here at before is_local f ps none)
    ∙ sym (map-append (want known) (own p) (flat_map own ps))

later_flaw : (v w : Flaws) (f : RangeFault) (values : Result (Unit {0}) RangeFault) → IsFlaw v f → Finds Nothing w values
    → IsFlaw (both_flaws v w) (with_values f values)
later_flaw v w f (Ok u) h k = finds_both Nothing Nothing v w (Err f) (Ok u) h k
later_flaw v w f (Err g) h k = finds_both Nothing Nothing v w (Err f) (Err g) h k

no_memory : (w : Flaws) (values : Result (Unit {0}) RangeFault) → IsFlaw w (with_values fault.NoMemory values)
no_memory w (Ok u) = tt
no_memory w (Err g) = tt

pub formless : (here : Here) (at : At) (is_local : Bool) (f : ParamForm) (ps : List ParamName) (flaw : RangeFault) (values : Result (Unit {0}) RangeFault)
    → IsFlaw (vector_flaws (names_here here at) (form_range f)) flaw
    → Finds Nothing (flaws_in (map (want (names_here here at)) (flat_map (own_value here is_local) ps))) values
    → IsFlaw (declaration_flaws here at is_local f ps) (with_values flaw values)
formless here at is_local f ps flaw values h k = by flaw h
  where
    all : (g : RangeFault) → first_flaw (vector_flaws (names_here here at) (form_range f)) ≡ Some g
        → IsFlaw (vector_flaws (names_here here at) (form_range f)) g → IsFlaw (declaration_flaws here at is_local f ps) (with_values g values)
    all g e is =
        later_flaw (vector_flaws (names_here here at) (form_range f)) (flaws_in (values_from here at (names_here here at) is_local f ps)) g values is
        (subst (λ (ws : List Wanted). Finds Nothing (flaws_in ws) values)
        (sym (values-apart here at (names_here here at) is_local f ps (no_constant (names_here here at) f g e))) k)

    by : (g : RangeFault) → IsFlaw (vector_flaws (names_here here at) (form_range f)) g → IsFlaw (declaration_flaws here at is_local f ps)
        (with_values g values)
    by fault.NoMemory is = no_memory (declaration_flaws here at is_local f ps) values
    by fault.NotConstant is = all fault.NotConstant is is
    by fault.BadSelect is = all fault.BadSelect is is
    by fault.BadRange is = all fault.BadRange is is
    by fault.WidthPast128 is = all fault.WidthPast128 is is

-- ---- one whose form gives a size

abbrev pub IfRead : Here → At → Names → Bool → ParamForm → List ParamName → List ScopeNames → Result Found NoMemory → Type 0
IfRead here at before is_local f ps names (Ok found) = AreRead here at before is_local f ps found names
IfRead here at before is_local f ps names (Err e) = Unit {0}

pub read : (here : Here) (at : At) (before : Names) (is_local : Bool) (f : ParamForm) (ps : List ParamName) (names : List ScopeNames)
    (r : Result Found NoMemory) → IfOk r (λ found. AreRead here at before is_local f ps found names) → IfRead here at before is_local f ps names r
read here at before is_local f ps names (Ok found) h = h
read here at before is_local f ps names (Err e) h = tt

pub formed : (here : Here) (at : At) (is_local : Bool) (f : ParamForm) (ps : List ParamName) (names : List ScopeNames) (r : Result Found NoMemory)
    → first_flaw (vector_flaws (names_here here at) (form_range f)) ≡ None
    → IfRead here at (names_here here at) is_local f ps names r
    → Finds (AreDeclared here at is_local f ps names) (declaration_flaws here at is_local f ps) (constants_found r)
formed here at is_local f ps names (Err e) calm h = tt
formed here at is_local f ps names (Ok found) calm h = by found.flaw refl
  where
    v : Flaws
    v = vector_flaws (names_here here at) (form_range f)

    w : Flaws
    w = flaws_in (values_from here at (names_here here at) is_local f ps)

    out : (g : RangeFault) → first_flaw (both_flaws v w) ≡ Some g → IsFlaw (both_flaws v w) g
    out fault.NoMemory e = tt
    out fault.NotConstant e = e
    out fault.BadSelect e = e
    out fault.BadRange e = e
    out fault.WidthPast128 e = e

    by : (o : Option RangeFault) → found.flaw ≡ o
        → Finds (AreDeclared here at is_local f ps names) (declaration_flaws here at is_local f ps) (or_flaw found.constants o)
    by None e = (first_of_both v w None None calm (h.flaw ∙ e), (h.constants e, h.known))
    by (Some g) e = out g (first_of_both v w None (Some g) calm (h.flaw ∙ e))

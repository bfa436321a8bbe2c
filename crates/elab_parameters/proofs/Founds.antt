-- One parameter more of a declaration.
use Rattle.std.proofs.Common.{◌≡◌, ◌∙◌, ap, sym, refl, subst, ℕ, Bool, List, [], ◌∷◌, ◌++◌, map, Option, Some, None}
use Rattle.std.proofs.lemmas.List.{map-append}
use Rattle.indexmap.proofs.RemoveLemmas.{popped_last}
use Rattle.elab_types.specs.declared.scope.Constant.{Constant as ConstantRow}
use Rattle.scope_meaning.specs.Constants.{Constant}
use Rattle.scope_meaning.specs.Scope.{Frame}
use Rattle.scope_meaning.specs.ScopeTrees.{seen_constant}
use Rattle.elab_constants.specs.declared.names.ConstantValue.{ConstantValue}
use Rattle.elab_ranges.specs.Parameters.{named}
use Rattle.elab_names.specs.declared.scope_names.ScopeNames.{ScopeNames}
use Rattle.elab_names.specs.Frames.{IsFrame, AreFrames, inside}
use Rattle.elab_parameters.specs.Founds.{KnowsMore}

record IsInside (f : Frame) (fs : List Frame) (ss : List ScopeNames) : Type 0 where
  outer : List ScopeNames
  last : ScopeNames
  is : ss ≡ outer ++ last ∷ []
  around : AreFrames fs outer
  frame : IsFrame f last

parts : {f : Frame} {fs : List Frame} {ss : List ScopeNames} → AreFrames (f ∷ fs) ss → IsInside f fs ss
parts (inside {ss = outer} {s = s} are is) = record { outer = outer; last = s; is = refl; around = are; frame = is }

abbrev or_this : ScopeNames → Option ScopeNames → ScopeNames
or_this s (Some t) = t
or_this s None = s

-- The innermost scope has one constant more.
pub knows : (c : Constant) (old between new : List ScopeNames) (s t : ScopeNames) → old ≡ between ++ s ∷ [] → new ≡ between ++ t ∷ []
    → ((f : Frame) → IsFrame f s → IsFrame (record f { known = f.known ++ c ∷ [] }) t) → KnowsMore c old new
knows c old between new s t e n more f fs are =
    let it = parts are in
    let same = popped_last it.outer between it.last (Some s) (sym it.is ∙ e) refl in
    subst (λ (ss : List ScopeNames). AreFrames (record f { known = f.known ++ c ∷ [] } ∷ fs) ss)
    (sym (n ∙ ap (λ (l : List ScopeNames). l ++ t ∷ []) same.1))
    (inside it.around (more f (subst (IsFrame f) (sym (ap (or_this s) same.0)) it.frame)))

-- one row more
pub row-more : (old new : List ConstantRow) (row : ConstantRow) (name : List ℕ) (v : ConstantValue) → new ≡ old ++ row ∷ [] → seen_constant row ≡ named name v
    → map seen_constant new ≡ map seen_constant old ++ named name v ∷ []
row-more old new row name v e is =
    ap (map seen_constant) e ∙ map-append seen_constant old (row ∷ []) ∙ ap (λ (c : Constant). map seen_constant old ++ c ∷ []) is

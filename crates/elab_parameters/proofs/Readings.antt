-- How the parameters of a declaration are read one after the other.
use Rattle.std.proofs.Common.{◌≡◌, ◌∙◌, ap, sym, refl, subst, ℕ, ◌+◌, ◌<◌, ◌≤◌, Bool, List, [], ◌∷◌, ◌++◌, map, length, drop}
use Rattle.std.proofs.Common.{get_or, append_assoc, append-nil, Option, Some, None, Result, Ok, Err}
use Rattle.std.proofs.lemmas.List.{drop_more, drop_all}
use Rattle.vlog_tree.specs.declared.item.ParamForm.{ParamForm}
use Rattle.vlog_tree.specs.declared.item.ParamName.{ParamName}
use Rattle.elab_types.specs.declared.scope.Constant.{Constant as ConstantRow}
use Rattle.scope_meaning.specs.Constants.{Names, Constant, option_of, and_then}
use Rattle.scope_meaning.specs.Heads.{names_here, parameter_of, parameter_value, constants_from}
use Rattle.scope_meaning.specs.Scope.{Here, At, Frame, frames}
use Rattle.scope_meaning.specs.ScopeTrees.{seen_constant}
use Rattle.scope_meaning.specs.Ranges.{parameter_constant}
use Rattle.scope_meaning.specs.Wanted.{Wanted, want, own_value, values_from, with_known}
use Rattle.elab_constants.specs.declared.names.ConstantValue.{ConstantValue}
use Rattle.elab_ranges.specs.declared.fault.RangeFault.{RangeFault}
use Rattle.elab_ranges.specs.declared.fault.RangeFault.TheVariants as fault
use Rattle.elab_ranges.specs.Parameters.{named}
use Rattle.elab_names.specs.declared.scope_names.ScopeNames.{ScopeNames}
use Rattle.elab_names.specs.Frames.{AreFrames}
use Rattle.elab_faults.specs.Flaws.{Flaws, first_flaw, flaws_in, IsFlaw, Finds}
use Rattle.elab_faults.proofs.Flaws.{sooner, first_of_both}
use Rattle.elab_faults.proofs.Lists.{in-append}
use Rattle.elab_parameters.specs.declared.form.FormSize.{FormSize}
use Rattle.elab_parameters.specs.declared.found.Found.{Found}
use Rattle.elab_parameters.specs.Forms.{sized, HasSize}
use Rattle.elab_parameters.specs.Values.{IsConstantOf}
use Rattle.elab_parameters.specs.Founds.{Follows}
use Rattle.elab_parameters.specs.Declarations.{knowing, AreRead}
use Rattle.elab_parameters.proofs.Values.{valueless, by_size}

-- ---- the definitions at one parameter more

pub values-more : (here : Here) (at : At) (before : Names) (is_local : Bool) (form : ParamForm) (p : ParamName) (ps : List ParamName)
    → values_from here at before is_local form (p ∷ ps)
    ≡ map (want (names_here here at)) (own_value here is_local p)
    ++ values_from here (with_known at (parameter_of here at before is_local form p)) before is_local form ps
unfolding values_from
values-more here at before is_local form p ps = refl

pub values-end : (here : Here) (at : At) (before : Names) (is_local : Bool) (form : ParamForm) → values_from here at before is_local form [] ≡ []
unfolding values_from
values-end here at before is_local form = refl

constants-more : (here : Here) (at : At) (before : Names) (is_local : Bool) (form : ParamForm) (p : ParamName) (ps : List ParamName)
    → constants_from here at before is_local form (p ∷ ps)
    ≡ and_then (parameter_of here at before is_local form p)
    (λ c. option_of (λ cs. c ∷ cs) (constants_from here (record at { known = at.known ++ c ∷ [] }) before is_local form ps))
unfolding constants_from
constants-more here at before is_local form p ps = refl

constants-end : (here : Here) (at : At) (before : Names) (is_local : Bool) (form : ParamForm) → constants_from here at before is_local form [] ≡ Some []
unfolding constants_from
constants-end here at before is_local form = refl

-- ---- what is read so far, where these are left

pub record IsReading (here : Here) (at : At) (before : Names) (is_local : Bool) (form : ParamForm) (ps left : List ParamName) (found : Found)
    (names : List ScopeNames) : Type 0 where
  pub wanted : List Wanted
  pub values : values_from here at before is_local form ps ≡ wanted ++ values_from here (knowing at found.constants) before is_local form left
  pub flaw : first_flaw (flaws_in wanted) ≡ found.flaw
  pub constants : found.flaw ≡ None
      → constants_from here at before is_local form ps
      ≡ option_of (λ cs. map seen_constant found.constants ++ cs) (constants_from here (knowing at found.constants) before is_local form left)
  pub known : AreFrames (frames here (knowing at found.constants)) names

nothing-before : (o : Option (List Constant)) → o ≡ option_of (λ cs. [] ++ cs) o
nothing-before (Some cs) = refl
nothing-before None = refl

pub begin : (here : Here) (at : At) (before : Names) (is_local : Bool) (form : ParamForm) (ps : List ParamName) (found : Found) (names : List ScopeNames)
    → found ≡ record { constants = []; flaw = None } → AreFrames (frames here at) names → IsReading here at before is_local form ps ps found names
begin here at before is_local form ps found names is are =
    subst (λ (f : Found). IsReading here at before is_local form ps ps f names) (sym is) (record {
      wanted = [];
      values = ap (λ (k : List Constant). values_from here (record at { known = k }) before is_local form ps) (sym (append-nil at.known));
      flaw = refl;
      constants = λ none. nothing-before (constants_from here at before is_local form ps)
          ∙ ap (λ (k : List Constant). option_of (λ cs. [] ++ cs) (constants_from here (record at { known = k }) before is_local form ps))
          (sym (append-nil at.known));
      known = subst (λ (k : List Constant). AreFrames (frames here (record at { known = k })) names) (sym (append-nil at.known)) are;
    })

pub begin_with : (here : Here) (at : At) (before : Names) (is_local : Bool) (form : ParamForm) (ps : List ParamName) (cs : List ConstantRow)
    (names : List ScopeNames)
    → cs ≡ [] → AreFrames (frames here at) names → IsReading here at before is_local form ps ps (record { constants = cs; flaw = None }) names
begin_with here at before is_local form ps cs names none are =
    let same : ◌≡◌ {A = Found} (record { constants = cs; flaw = None }) (record { constants = []; flaw = None }) =
    ap (λ (l : List ConstantRow). record { constants = l; flaw = None }) none in
    begin here at before is_local form ps (record { constants = cs; flaw = None }) names same are

sooner-none : (o : Option RangeFault) → sooner o None ≡ o
sooner-none None = refl
sooner-none (Some f) = refl

joined : (cs all : List Constant) (c : Constant) (o : Option (List Constant)) → all ≡ cs ++ c ∷ []
    → option_of (λ ds. cs ++ ds) (option_of (λ ds. c ∷ ds) o) ≡ option_of (λ ds. all ++ ds) o
joined cs all c (Some ds) e = ap (λ (l : List Constant). Some l) (sym (append_assoc cs (c ∷ []) ds) ∙ ap (λ (l : List Constant). l ++ ds) (sym e))
joined cs all c None e = refl

module _ (here : Here) (at : At) (before : Names) (is_local : Bool) (form : ParamForm) where
  -- One parameter more has a constant,
  pub known_more : (ps rest : List ParamName) (p : ParamName) (old new : Found) (names behind : List ScopeNames) (size : FormSize) (v : ConstantValue)
      → HasSize before form size
      → Finds (IsConstantOf here (names_here here (knowing at old.constants)) is_local size p)
      (flaws_in (map (want (names_here here (knowing at old.constants))) (own_value here is_local p))) (Ok v)
      → Follows p.name.name old (Ok v) names new behind
      → IsReading here at before is_local form ps (p ∷ rest) old names → IsReading here at before is_local form ps rest new behind
  known_more ps rest p old new names behind size v has finds follows r =
      let now = knowing at old.constants in
      let c = named p.name.name v in
      let own = map (want (names_here here now)) (own_value here is_local p) in
      let all = map seen_constant old.constants in
      let is : parameter_of here now before is_local form p ≡ Some c =
      by_size before form size p.name.name (parameter_value here (names_here here now) is_local p) has ∙ finds.1 in
      let moved : ◌≡◌ {A = At} (record now { known = now.known ++ c ∷ [] }) (knowing at new.constants) =
      ap (λ (k : List Constant). record at { known = k })
      (append_assoc at.known all (c ∷ []) ∙ ap (λ (k : List Constant). at.known ++ k) (sym follows.1)) in
      record {
        wanted = r.wanted ++ own;
        values = r.values ∙ ap (λ (ws : List Wanted). r.wanted ++ ws)
            (values-more here now before is_local form p rest
            ∙ ap (λ (o : Option Constant). own ++ values_from here (with_known now o) before is_local form rest) is
            ∙ ap (λ (a : At). own ++ values_from here a before is_local form rest) moved)
            ∙ sym (append_assoc r.wanted own (values_from here (knowing at new.constants) before is_local form rest));
        flaw = ap first_flaw (in-append r.wanted own) ∙ first_of_both (flaws_in r.wanted) (flaws_in own) old.flaw None r.flaw finds.0
            ∙ sooner-none old.flaw ∙ sym follows.0;
        constants = λ none. r.constants (sym follows.0 ∙ none)
            ∙ ap (option_of (λ cs. all ++ cs))
            (constants-more here now before is_local form p rest
            ∙ ap (λ (o : Option Constant). and_then o (λ d. option_of (λ cs. d ∷ cs)
            (constants_from here (record now { known = now.known ++ d ∷ [] }) before is_local form rest))) is
            ∙ ap (λ (a : At). option_of (λ cs. c ∷ cs) (constants_from here a before is_local form rest)) moved)
            ∙ joined all (map seen_constant new.constants) c (constants_from here (knowing at new.constants) before is_local form rest) follows.1;
        known = subst (λ (a : At). AreFrames (frames here a) behind) moved
            (follows.2 (record { number = here.number; declared = here.declared; genvar = here.genvar; known = now.known }) here.outer r.known);
      }

  flaw-is : (w : Flaws) (f : RangeFault) → (f ≡ fault.NoMemory → ⊥) → IsFlaw w f → first_flaw w ≡ Some f
  flaw-is w fault.NoMemory n h = absurd (n refl)
  flaw-is w fault.NotConstant n h = h
  flaw-is w fault.BadSelect n h = h
  flaw-is w fault.BadRange n h = h
  flaw-is w fault.WidthPast128 n h = h

  some-flaw : (o : Option RangeFault) (f : RangeFault) → sooner o (Some f) ≡ None → ⊥
  some-flaw None f e = cc
  some-flaw (Some g) f e = cc

  -- or a flaw in its value.
  pub flawed_more : (ps rest : List ParamName) (p : ParamName) (old new : Found) (names behind : List ScopeNames) (size : FormSize) (f : RangeFault)
      → Finds (IsConstantOf here (names_here here (knowing at old.constants)) is_local size p)
      (flaws_in (map (want (names_here here (knowing at old.constants))) (own_value here is_local p))) (Err f)
      → Follows p.name.name old (Err f) names new behind
      → IsReading here at before is_local form ps (p ∷ rest) old names → IsReading here at before is_local form ps rest new behind
  flawed_more ps rest p old new names behind size f finds follows r =
      let now = knowing at old.constants in
      let known = names_here here now in
      let own = map (want known) (own_value here is_local p) in
      let first = flaw-is (flaws_in own) f follows.0 finds in
      let is : parameter_of here now before is_local form p ≡ None =
      ap (λ o. and_then o (λ m. parameter_constant before p.name.name m form)) (valueless here known is_local p f first) in
      let same : ◌≡◌ {A = At} now (knowing at new.constants) = ap (λ (cs : List ConstantRow). knowing at cs) (sym follows.2) in
      record {
        wanted = r.wanted ++ own;
        values = r.values ∙ ap (λ (ws : List Wanted). r.wanted ++ ws)
            (values-more here now before is_local form p rest
            ∙ ap (λ (o : Option Constant). own ++ values_from here (with_known now o) before is_local form rest) is
            ∙ ap (λ (a : At). own ++ values_from here a before is_local form rest) same)
            ∙ sym (append_assoc r.wanted own (values_from here (knowing at new.constants) before is_local form rest));
        flaw = ap first_flaw (in-append r.wanted own) ∙ first_of_both (flaws_in r.wanted) (flaws_in own) old.flaw (Some f) r.flaw first ∙ sym follows.1;
        constants = λ none. absurd (some-flaw old.flaw f (sym follows.1 ∙ none));
        known = subst (λ (a : At). AreFrames (frames here a) behind) same
            (subst (λ (ns : List ScopeNames). AreFrames (frames here now) ns) (sym follows.3) r.known);
      }

  -- One parameter more.
  pub more : (ps rest : List ParamName) (p : ParamName) (old new : Found) (names behind : List ScopeNames) (size : FormSize)
      (value : Result ConstantValue RangeFault) → HasSize before form size
      → Finds (IsConstantOf here (names_here here (knowing at old.constants)) is_local size p)
      (flaws_in (map (want (names_here here (knowing at old.constants))) (own_value here is_local p))) value
      → Follows p.name.name old value names new behind
      → IsReading here at before is_local form ps (p ∷ rest) old names → IsReading here at before is_local form ps rest new behind
  more ps rest p old new names behind size (Ok v) has = known_more ps rest p old new names behind size v has
  more ps rest p old new names behind size (Err f) has = flawed_more ps rest p old new names behind size f

  -- None is left.
  pub ended : (ps : List ParamName) (found : Found) (names : List ScopeNames) → IsReading here at before is_local form ps [] found names
      → AreRead here at before is_local form ps found names
  ended ps found names r = record {
    flaw = ap (λ (ws : List Wanted). first_flaw (flaws_in ws))
        (r.values ∙ ap (λ (ws : List Wanted). r.wanted ++ ws) (values-end here (knowing at found.constants) before is_local form) ∙ append-nil r.wanted)
        ∙ r.flaw;
    constants = λ none. r.constants none
        ∙ ap (option_of (λ cs. map seen_constant found.constants ++ cs)) (constants-end here (knowing at found.constants) before is_local form)
        ∙ ap (λ (cs : List Constant). Some cs) (append-nil (map seen_constant found.constants));
    known = r.known;
  }

  -- the same with the parameter at an index
  pub more_of : (ps : List ParamName) (n : ℕ) (p : ParamName) (old new : Found) (names behind : List ScopeNames) (size : FormSize)
      (value : Result ConstantValue RangeFault) → n < length ps → p ≡ get_or ps n p → HasSize before form size
      → Finds (IsConstantOf here (names_here here (knowing at old.constants)) is_local size p)
      (flaws_in (map (want (names_here here (knowing at old.constants))) (own_value here is_local p))) value
      → Follows p.name.name old value names new behind
      → IsReading here at before is_local form ps (drop n ps) old names → IsReading here at before is_local form ps (drop (n + 1) ps) new behind
  more_of ps n p old new names behind size value lt is has finds follows r =
      more ps (drop (n + 1) ps) p old new names behind size value has finds follows
      (subst (λ (left : List ParamName). IsReading here at before is_local form ps left old names)
      (drop_more ps n p lt ∙ ap (λ (q : ParamName). q ∷ drop (n + 1) ps) (sym is)) r)

  pub ended_by : (ps : List ParamName) (n : ℕ) (found : Found) (names : List ScopeNames) → length ps ≤ n
      → IsReading here at before is_local form ps (drop n ps) found names → AreRead here at before is_local form ps found names
  ended_by ps n found names le r =
      ended ps found names (subst (λ (left : List ParamName). IsReading here at before is_local form ps left found names) (drop_all n ps le) r)

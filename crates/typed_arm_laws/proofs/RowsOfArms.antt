-- The arms that a typed form tells have the numbers of the rows of its source's arms.
use Rattle.std.proofs.Common.{
  ◌≡◌,
  ◌∙◌,
  sym,
  ap,
  ap₂,
  refl,
  subst,
  arith,
  ℕ,
  ◌+◌,
  Bool,
  true,
  false,
  List,
  [],
  ◌∷◌,
  ◌++◌,
  map,
  length,
  Option,
  Some,
  None,
  append-nil,
  append_assoc,
  length-append,
}
use Rattle.std.proofs.lemmas.List.{map-append, length-map}
use Rattle.std.specs.Prelude.{slice_get}
use Rattle.std.specs.List.{flat_map, AllZip, AllByRecursion}
use Rattle.cov_types.specs.declared.place.Place.{Place}
use Rattle.cov_types.specs.declared.kind.ProcessKind.TheVariants as kind
use Rattle.elab_types.specs.declared.arm.ArmRow.{ArmRow}
use Rattle.elab_types.specs.declared.flat_source.FlatVar.{FlatVar}
use Rattle.elab_types.specs.declared.flat_source.FlatProcess.{FlatProcess}
use Rattle.elab_types.specs.declared.flat_statement.FlatStmt.{FlatStmt, out-FlatStmt, out-roll-FlatStmt}
use Rattle.elab_types.specs.declared.flat_statement.FlatArm.{FlatArm}
use Rattle.elab_types.specs.declared.flat_statement.FlatKind.{FlatKind, out-FlatKind}
use Rattle.elab_types.specs.declared.flat_statement.FlatKind.TheVariants as v
use Rattle.elab_types.specs.declared.flat_statement.FlatKind.TheOpen as k
use Rattle.design_tree.specs.declared.typed.Typed.{Typed}
use Rattle.design_tree.specs.declared.step.Target.{Target}
use Rattle.design_tree.specs.declared.step.Step.{Step}
use Rattle.design_tree.specs.declared.step.Step.TheVariants as s
use Rattle.design_tree.specs.declared.design.Process.{Process as TypedProcess}
use Rattle.design_tree.specs.declared.design.Design.{Design}
use Rattle.circuit_run.specs.Kinds.{is_assign}
use Rattle.source_meaning.specs.Events.{Event, Arm, body, unwritten, covered}
use Rattle.scope_meaning.proofs.WalkLaws.{never}
use Rattle.flat_meaning.specs.FlatTrees.{flat_stmt as stmt}
use Rattle.flat_source_meaning.specs.SourceArms as source
use Rattle.flat_source_meaning.specs.SourceArms.{IsArmRow, event_of, event_of_row, entered}
use Rattle.flat_source_meaning.specs.Processes.{Process, always_kind}
use Rattle.flat_source_meaning.specs.FlatProcesses.{
  IsFlatProcess,
  initially_flat,
  always_flat,
  assigns_flat,
  covers_flat,
  scope_of,
  with_numbers,
  Numbered,
  HaveArms,
}
use Rattle.flat_source_meaning.specs.FlatProcesses.{HasProcessArms, initially_has, always_has, assigns_has, covers_has}
use Rattle.flat_source_meaning.specs.FlatProcesses as arms
use Rattle.typed_form.specs.Nodes.{test}
use Rattle.typed_form.specs.TypedSteps as typed
use Rattle.typed_form.specs.TypedSteps.{AreSteps}
use Rattle.typed_form.specs.TypedForm.{IsTypedProcess, assigns, combines, clocks, begins, covers, AreTypedProcesses, no_processes, more_processes}
use Rattle.counted_circuit.specs.Inserted.{counts, IsCountedProcess, assignment, cover, comb, clocked, initial, AreCountedProcesses, more, set}
use Rattle.counted_circuit.specs.Inserted as inserted
use Rattle.typed_arm_laws.specs.FlatArms.{process_events, events, entering, of_row, events_at}
use Rattle.typed_arm_laws.specs.ArmLaws.{ArmsHaveTheirRows}
use Rattle.typed_arm_laws.proofs.Insertion.{Follows, follows_left, follows_right, Built, built}
use Rattle.typed_arm_laws.proofs.SourceEvents.{same_events}

-- ---- the events of rows

-- what the numbers of rows carry
abbrev carried_by : (Event → List ℕ) → List ArmRow → ℕ → List ℕ
carried_by marks rows k = flat_map marks (events_at rows k)

row_at : (before : List ArmRow) (row : ArmRow) (rest : List ArmRow) → slice_get (before ++ row ∷ rest) (length before) ≡ Some row
row_at [] row rest = refl
row_at (x ∷ before) row rest = row_at before row rest

follows_rows : (marks : Event → List ℕ) (before rest : List ArmRow)
    → Follows (carried_by marks (before ++ rest)) marks (length before) (map event_of_row rest)
follows_rows marks before [] = tt
follows_rows marks before (row ∷ rest) = (
  ap (λ x. flat_map marks (of_row x)) (row_at before row rest) ∙ append-nil (marks (event_of_row row)),
  subst (λ rows. Follows (carried_by marks rows) marks (length before + 1) (map event_of_row rest)) (append_assoc before (row ∷ []) rest)
      (subst (λ n. Follows (carried_by marks ((before ++ row ∷ []) ++ rest)) marks n (map event_of_row rest)) (length-append before (row ∷ []))
      (follows_rows marks (before ++ row ∷ []) rest)),
)

-- the event of a copy of an arm
abbrev event_of_copy : Numbered → Event
event_of_copy a = event_of a.scope a.arm

row_event : (a : Numbered) (row : ArmRow) → IsArmRow a.process a.scope a.arm row → event_of_row row ≡ event_of_copy a
row_event a row h =
    ap (λ x. record { scope = x; place = row.place; arm = entered row.comment }) h.scope_number
    ∙ ap₂ (λ p c. record { scope = a.scope; place = p; arm = entered c }) h.place h.comment

row_events : (copies : List Numbered) (rows : List ArmRow) → AllZip (λ a row. IsArmRow a.process a.scope a.arm row) copies rows
    → map event_of_row rows ≡ map event_of_copy copies
row_events [] [] z = refl
row_events [] (row ∷ rows) z = absurd z
row_events (a ∷ copies) [] z = absurd z
row_events (a ∷ copies) (row ∷ rows) z = ap₂ (λ x xs. x ∷ xs) (row_event a row z.0) (row_events copies rows z.1)

numbered_events : (n : ℕ) (p : Process) (xs : List source.Arm) → map event_of_copy (with_numbers n p xs) ≡ map (event_of (scope_of p)) xs
numbered_events n p [] = refl
numbered_events n p (x ∷ xs) = ap (λ es. event_of (scope_of p) x ∷ es) (numbered_events n p xs)

module _ (vars : List FlatVar) where
  one_process : {p : Process} {q : FlatProcess} {xs : List source.Arm} → IsFlatProcess vars p q → HasProcessArms p xs
      → process_events q ≡ map (event_of (scope_of p)) xs
  one_process (initially_flat {env} {p} d) (initially_has x) = ap (λ es. entering env.scope p body ∷ es) (same_events vars d x)
  one_process (always_flat {clock = Some c} {env} {p} d) (always_has x) = ap (λ es. entering env.scope p body ∷ es) (same_events vars d x)
  one_process (always_flat {clock = None} {env} {p} d) (always_has x) = ap (λ es. entering env.scope p body ∷ es) (same_events vars d x)
  one_process (assigns_flat d e) assigns_has = refl
  one_process (covers_flat d) covers_has = refl

  all_processes : {n : ℕ} (ps : List Process) (qs : List FlatProcess) {xs : List Numbered} → AllZip (IsFlatProcess vars) ps qs → HaveArms n ps xs
      → flat_map process_events qs ≡ map event_of_copy xs
  all_processes [] [] z arms.none = refl
  all_processes [] (q ∷ qs) z arms.none = absurd z
  all_processes (p ∷ ps) [] z (arms.more x e xs) = absurd z
  all_processes {n} (p ∷ ps) (q ∷ qs) z (arms.more {arms = here} {rest = rest} x e xs) =
      ap₂ ◌++◌ (one_process z.0 x ∙ sym (numbered_events n p here)) (all_processes ps qs z.1 xs) ∙ sym (map-append event_of_copy (with_numbers n p here) rest)

-- ---- processes

-- an assignment's body is one assignment
is_set : k.FlatKind-F FlatKind FlatArm FlatStmt → Bool
is_set (k.Set target value) = true
is_set _ = false

abbrev layer : FlatStmt → k.FlatKind-F FlatKind FlatArm FlatStmt
layer st = out-FlatKind (out-FlatStmt st).what

layer_of : (p : Place) (what : FlatKind) → layer (stmt p what) ≡ out-FlatKind what
layer_of p what = ap (λ x. out-FlatKind x.what) (out-roll-FlatStmt (record { place = p; what = what }))

abbrev IsOneSet : FlatProcess → Type 0
IsOneSet p = p.kind ≡ kind.Assign → is_set (layer p.body) ≡ true

module _ (vars : List FlatVar) (marks : Event → List ℕ) where
  abbrev none : Event → List ℕ
  none e = []

  record OneSet (scope : ℕ) (st : FlatStmt) (steps : List Step) : Type 0 where
    targets : List Target
    value : Typed
    is : steps ≡ s.Set targets value ∷ []
    typed : AreSteps vars scope marks st steps

  other : {A : Type 0} (p : Place) (what : FlatKind) (l : k.FlatKind-F FlatKind FlatArm FlatStmt) → out-FlatKind what ≡ l → is_set l ≡ false
      → is_set (layer (stmt p what)) ≡ true → A
  other p what l e n h = never (sym n ∙ sym (ap is_set e) ∙ sym (ap is_set (layer_of p what)) ∙ h)

  one_set : {scope : ℕ} {st : FlatStmt} {steps : List Step} → AreSteps vars scope none st steps → is_set (layer st) ≡ true → OneSet scope st steps
  unfolding is_set
  one_set (typed.empty {p}) h = other p v.Empty k.Empty v.outs-Empty refl h
  one_set (typed.block {p} {last} {body} d) h = other p (v.Block body last) (k.Block body last) (v.outs-Block body last) refl h
  one_set (typed.if_alone {p} {on} {first} da d) h = other p (v.If on first None) (k.If on first None) (v.outs-If on first None) refl h
  one_set (typed.if_else {p} {on} {first} {second} da d e) h =
      other p (v.If on first (Some second)) (k.If on first (Some second)) (v.outs-If on first (Some second)) refl h
  one_set (typed.case {p} {wild} {on} {arms} da ds dr) h = other p (v.Case wild on arms) (k.Case wild on arms) (v.outs-Case wild on arms) refl h
  one_set (typed.set {p} {target} {value} {ts} {a} dt dv) h = record { targets = ts; value = a; is = refl; typed = typed.set dt dv }
  one_set (typed.later {p} {target} {value} dt dv) h = other p (v.Later target value) (k.Later target value) (v.outs-Later target value) refl h
  one_set (typed.show {p} {text} {values} d) h = other p (v.Show text values) (k.Show text values) (v.outs-Show text values) refl h
  one_set (typed.finish {p}) h = other p v.Finish k.Finish v.outs-Finish refl h
  one_set (typed.stop {p}) h = other p v.Stop k.Stop v.outs-Stop refl h

  never_assigns : (clock : Option (List ℕ)) → is_assign (always_kind clock) ≡ false
  never_assigns None = refl
  never_assigns (Some name) = refl

  flat_one_set : {p : Process} {q : FlatProcess} → IsFlatProcess vars p q → IsOneSet q
  unfolding is_set
  flat_one_set (initially_flat d) e = never (ap is_assign e)
  flat_one_set (always_flat {clock = clock} d) e = never (sym (never_assigns clock) ∙ ap is_assign e)
  flat_one_set (assigns_flat {p = p} {a = a} {b = b} d f) e = ap is_set (layer_of p (v.Set a b) ∙ v.outs-Set a b)
  flat_one_set (covers_flat d) e = never (ap is_assign e)

  flat_one_sets : (ps : List Process) (qs : List FlatProcess) → AllZip (IsFlatProcess vars) ps qs → AllByRecursion IsOneSet qs
  flat_one_sets [] [] z = tt
  flat_one_sets [] (q ∷ qs) z = absurd z
  flat_one_sets (p ∷ ps) [] z = absurd z
  flat_one_sets (p ∷ ps) (q ∷ qs) z = (flat_one_set z.0, flat_one_sets ps qs z.1)

module _ (vars : List FlatVar) (carried : ℕ → List ℕ) (marks : Event → List ℕ) (silent : (e : Event) → e.arm ≡ unwritten → marks e ≡ []) where
  abbrev Follow : ℕ → List Event → Type 0
  Follow = Follows carried marks

  -- A process with counts, that stands for the source's and has counts at the arms whose numbers begin with n.
  record BuiltProcess (p : FlatProcess) (x : TypedProcess) (n : ℕ) : Type 0 where
    counted : TypedProcess
    typed : IsTypedProcess vars marks p counted
    last : ℕ
    inserted : IsCountedProcess carried n x counted last
    number : last ≡ n + length (process_events p)

  record BuiltProcesses (ps : List FlatProcess) (xs : List TypedProcess) (n : ℕ) : Type 0 where
    counted : List TypedProcess
    typed : AreTypedProcesses vars marks ps counted
    last : ℕ
    inserted : AreCountedProcesses carried n xs counted last
    number : last ≡ n + length (flat_map process_events ps)

  built_process : {p : FlatProcess} {x : TypedProcess} → IsTypedProcess vars (λ e. []) p x → IsOneSet p → (n : ℕ) → Follow n (process_events p)
      → BuiltProcess p x n
  built_process (assigns {scope} {place} {st} {steps} d) one n f =
      let k = one_set vars marks d (one refl) in
      let process : List Step → TypedProcess = λ body. record { kind = kind.Assign; body = body } in
      record {
        counted = process steps;
        typed = subst (λ cs. IsTypedProcess vars marks (record { scope = scope; place = place; kind = kind.Assign; body = st }) (process (counts cs ++ steps)))
            (silent (entering scope place unwritten) refl) (assigns k.typed);
        last = n + 1;
        inserted = subst (λ body. IsCountedProcess carried n (process body) (process body) (n + 1)) (sym k.is) (assignment (set k.targets k.value));
        number = refl;
      }
  built_process (combines {scope} {place} {st} {steps} d) one n f =
      let b = built vars scope carried marks d (n + 1) f.1 in
      let process : List ℕ → TypedProcess = λ cs. record { kind = kind.Comb; body = counts cs ++ b.counted } in
      record {
        counted = process (marks (entering scope place body));
        typed = combines b.typed;
        last = b.last;
        inserted = subst (λ cs. IsCountedProcess carried n (record { kind = kind.Comb; body = steps }) (process cs) b.last) f.0 (comb b.inserted);
        number = omega (arith, b.number);
      }
  built_process (clocks {scope} {place} {st} {steps} d) one n f =
      let b = built vars scope carried marks d (n + 1) f.1 in
      let process : List ℕ → TypedProcess = λ cs. record { kind = kind.Clocked; body = counts cs ++ b.counted } in
      record {
        counted = process (marks (entering scope place body));
        typed = clocks b.typed;
        last = b.last;
        inserted = subst (λ cs. IsCountedProcess carried n (record { kind = kind.Clocked; body = steps }) (process cs) b.last) f.0 (clocked b.inserted);
        number = omega (arith, b.number);
      }
  built_process (begins {scope} {place} {st} {steps} d) one n f =
      let b = built vars scope carried marks d (n + 1) f.1 in
      let process : List ℕ → TypedProcess = λ cs. record { kind = kind.Initial; body = counts cs ++ b.counted } in
      record {
        counted = process (marks (entering scope place body));
        typed = begins b.typed;
        last = b.last;
        inserted = subst (λ cs. IsCountedProcess carried n (record { kind = kind.Initial; body = steps }) (process cs) b.last) f.0 (initial b.inserted);
        number = omega (arith, b.number);
      }
  built_process (covers {scope} {place} q on first second {a} d) one n f =
      let process : List ℕ → TypedProcess = λ cs. record { kind = kind.Cover; body = s.If (test a) (counts cs) [] ∷ [] } in
      record {
        counted = process (marks (entering scope place covered));
        typed = covers q on first second d;
        last = n + 1;
        inserted = subst (λ cs. IsCountedProcess carried n (process []) (process cs) (n + 1)) f.0 (cover (test a));
        number = refl;
      }

  built_processes : {ps : List FlatProcess} {xs : List TypedProcess} → AreTypedProcesses vars (λ e. []) ps xs → AllByRecursion IsOneSet ps → (n : ℕ)
      → Follow n (flat_map process_events ps) → BuiltProcesses ps xs n
  built_processes no_processes one n f = record { counted = []; typed = no_processes; last = n; inserted = inserted.no_processes; number = omega arith }
  built_processes (more_processes {p} {q} {ps} {qs} d ds) one n f =
      let others = flat_map process_events ps in
      let b = built_process d one.0 n (follows_left carried marks n (process_events p) others f) in
      let c = built_processes ds one.1 b.last (follows_right carried marks n b.last (process_events p) others b.number f) in
      record {
        counted = b.counted ∷ c.counted;
        typed = more_processes b.typed c.typed;
        last = c.last;
        inserted = more b.inserted c.inserted;
        number = omega (arith, b.number, c.number, length-append (process_events p) others);
      }

-- the law
pub arms_have_their_rows : ArmsHaveTheirRows
arms_have_their_rows files top clock flat marks d h t silent =
    let w = h.w in
    let carried = carried_by marks flat.arms in
    let same : map event_of_row flat.arms ≡ flat_map process_events flat.processes =
    row_events h.flat_of.copies flat.arms h.flat_of.arms ∙ sym (all_processes w.vars h.flat_of.all flat.processes h.flat_of.processes h.flat_of.have) in
    let follows = subst (Follows carried marks 0) same (follows_rows marks [] flat.arms) in
    let b = built_processes flat.vars carried marks silent t.processes
    (flat_one_sets w.vars marks h.flat_of.all flat.processes h.flat_of.processes) 0 follows in
    let x : Design = record d { processes = b.counted } in
    let arms : b.last ≡ length flat.arms = omega (arith, b.number, ap length same, length-map flat.arms event_of_row) in (
      x,
      record { vars = t.vars; inputs = t.inputs; outputs = t.outputs; processes = b.typed },
      record {
        vars = refl;
        inputs = refl;
        outputs = refl;
        processes = subst (AreCountedProcesses carried 0 d.processes b.counted) arms b.inserted;
      },
    )

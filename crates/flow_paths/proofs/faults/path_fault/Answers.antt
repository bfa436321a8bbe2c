use Rattle.std.proofs.Common.{◌≡◌, ◌∙◌, sym, ap, subst, refl, ◌+◌, ◌<◌, ◌≤◌, true, false, Some, None, Option, ℕ, List, length, get_or}
use Rattle.std.proofs.lemmas.List.{get_or_read}
use Rattle.cov_types.specs.declared.var.Var.{Var}
use Rattle.design_tree.specs.declared.step.Step.{Step}
use Rattle.design_tree.specs.declared.design.Process.{Process}
use Rattle.circuit_run.specs.Kinds.{settles, is_comb}
use Rattle.design_meaning.specs.States.{IsStateOf}
use Rattle.design_meaning.specs.Processes.{process_of, kind_of, no_process}
use Rattle.design_meaning.specs.Flow.{IsLatch, IsReadBeforeWrite}
use Rattle.design_state.proofs.LaidStarts.{start_is_state}
use Rattle.flow_marks.specs.Slots.{AreFew}
use Rattle.flow_spans.specs.Reads.{AreKnown}
use Rattle.flow_uses.specs.Uses.{AreUsesOf}
use Rattle.flow_uses.specs.Gathers.{AreStepsIn}
use Rattle.flow_uses.proofs.Whole.{body_in, variables_of}
use Rattle.flow_least.specs.Least.{IsLeastOf}
use Rattle.flow_spans.proofs.OfVars.{few_of}
use Rattle.flow_least.proofs.OfVars.{spans_in}
use Rattle.flow_least.proofs.Searching.{before_more, before_all, first_is, used_at, kind_at}
use Rattle.flow_least.specs.declared.place.Place.{Place}
use Rattle.flow_paths.specs.Faults.{IsWalked, IsKeptIn, IsFirstBefore}
use Rattle.flow_paths.proofs.Pathways.{latch_is, early_is, no_latch_of, no_latch_past, not_early_past, first_next, first_pass}
use Rattle.flow_paths.proofs.faults.path_fault.Goals as goal
use Rattle.flow_paths.proofs.faults.path_fault.Goals.{then-settles+in_ok-var+in-None, else-settles}

pub fresh_walk-requires : goal.fresh_walk-requires
fresh_walk-requires c = subst AreFew (sym c.as_slice-vars.ensures) (few_of c.args.design.now c.requires.valid)

pub walk_process-requires-clause-known : goal.walk_process-requires-clause-known
walk_process-requires-clause-known c =
    let state : IsStateOf c.args.design.now c.in_ok-state.state =
    subst (IsStateOf c.args.design.now) (sym c.in_ok-state.ensures) (start_is_state c.args.design.now (variables_of c.args.design.now c.requires.valid)) in
    subst (λ (vs : List Var). AreKnown vs c.in_ok-state.state) (sym c.as_slice-vars.ensures)
    (record { valid = variables_of c.args.design.now c.requires.valid; state = state })

pub walk_process-requires-clause-body : goal.walk_process-requires-clause-body
walk_process-requires-clause-body c =
    let lt : c.loop-at.at < length c.args.design.now.processes =
    subst (λ (ps : List Process). c.loop-at.at < length ps) c.as_slice-processes.ensures c.loop-at-test.true in
    let state : IsStateOf c.args.design.now c.in_ok-state.state =
    subst (IsStateOf c.args.design.now) (sym c.in_ok-state.ensures) (start_is_state c.args.design.now (variables_of c.args.design.now c.requires.valid)) in
    let is : c.index-processes-at-then-settles.result ≡ get_or c.args.design.now.processes c.loop-at.at c.index-processes-at-then-settles.result =
    subst (λ (ps : List Process). c.index-processes-at-then-settles.result
    ≡ get_or ps c.loop-at.at c.index-processes-at-then-settles.result) c.as_slice-processes.ensures c.index-processes-at-then-settles.is in
    let b : c.as_slice-body.result.now ≡ c.index-processes-at-then-settles.result.body = cc (c.as_slice-body.ensures, c.index-processes-at-then-settles.is) in
    subst (AreStepsIn c.in_ok-state.state) (sym b)
    (body_in c.args.design.now c.requires.valid c.in_ok-state.state state c.loop-at.at c.index-processes-at-then-settles.result lt is)

pub walk_process-requires-clause-marked : goal.walk_process-requires-clause-marked
walk_process-requires-clause-marked c =
    let lt : c.loop-at.at < length c.args.design.now.processes =
    subst (λ (ps : List Process). c.loop-at.at < length ps) c.as_slice-processes.ensures c.loop-at-test.true in
    let u : AreUsesOf c.args.design.now c.loop-at.at c.index-uses-at.result =
    used_at c.args.design.now c.args.uses.now c.requires.many c.requires.uses c.loop-at.at c.index-uses-at.result lt c.index-uses-at.is in
    record {
      sets = spans_in c.args.design.now.vars c.loop-at.walk.left.slots c.loop-at.invariant.fresh.ready.left c.index-uses-at.result.sets u.sets_in;
      defers = spans_in c.args.design.now.vars c.loop-at.walk.left.slots c.loop-at.invariant.fresh.ready.left c.index-uses-at.result.defers u.defers_in;
    }

pub returns-in-Some-clause-fault : goal.returns-in-Some-clause-fault
returns-in-Some-clause-fault c =
    let lt : c.loop-at.at < length c.args.design.now.processes =
    subst (λ (ps : List Process). c.loop-at.at < length ps) c.as_slice-processes.ensures c.loop-at-test.true in
    let u : AreUsesOf c.args.design.now c.loop-at.at c.index-uses-at.result =
    used_at c.args.design.now c.args.uses.now c.requires.many c.requires.uses c.loop-at.at c.index-uses-at.result lt c.index-uses-at.is in
    let k : (get_or c.as_slice-processes.result.now c.loop-at.at c.index-processes-at.result).kind ≡ kind_of c.args.design.now c.loop-at.at =
    ap (λ (x : Process). x.kind) (sym c.index-processes-at.is) ∙ kind_at c.args.design.now c.loop-at.at c.index-processes-at.result lt
    (subst (λ (ps : List Process). c.index-processes-at.result
    ≡ get_or ps c.loop-at.at c.index-processes-at.result) c.as_slice-processes.ensures c.index-processes-at.is) in
    let is : c.index-processes-at-then-settles.result ≡ get_or c.args.design.now.processes c.loop-at.at c.index-processes-at-then-settles.result =
    subst (λ (ps : List Process). c.index-processes-at-then-settles.result
    ≡ get_or ps c.loop-at.at c.index-processes-at-then-settles.result) c.as_slice-processes.ensures c.index-processes-at-then-settles.is in
    let b : c.as_slice-body.result.now ≡ c.index-processes-at-then-settles.result.body = cc (c.as_slice-body.ensures, c.index-processes-at-then-settles.is) in
    let st : settles (kind_of c.args.design.now c.loop-at.at) ≡ true = sym (ap settles k) ∙ sym c.settles.ensures ∙ c.if-settles.true in
    let walk : IsWalked c.args.design.now.vars c.index-uses-at.result
    (process_of c.args.design.now c.loop-at.at).body c.walk_process.new.walk c.in_ok-var.field-0 =
    subst (λ xs. IsWalked c.args.design.now.vars c.index-uses-at.result xs c.walk_process.new.walk c.in_ok-var.field-0)
    (b ∙ ap (λ (x : Process). x.body) (get_or_read c.args.design.now.processes c.loop-at.at c.index-processes-at-then-settles.result lt is no_process))
    (subst (λ vs. IsWalked vs c.index-uses-at.result c.as_slice-body.result.now c.walk_process.new.walk c.in_ok-var.field-0) c.as_slice-vars.ensures
    c.in_ok-var.ensures) in
    let l : IsLeastOf (IsLatch c.args.design.now c.loop-at.at) (Some c.in-Some.var) =
    latch_is c.args.design.now c.loop-at.at c.index-uses-at.result u st (Some c.in-Some.var)
    (subst (λ (q : Option ℕ). IsLeastOf (IsKeptIn c.args.design.now.vars c.index-uses-at.result (process_of c.args.design.now c.loop-at.at).body) q)
    c.in-Some.is walk.latch) in
    first_is IsLatch c.args.design.now c.loop-at.at c.in-Some.var c.loop-at.invariant.no_latch l.0 l.1

pub loop-at-preserved : goal.loop-at-preserved
loop-at-preserved c = elim c.if-settles.branch [
  | then-settles+in_ok-var+in-None w ↦ (
      let lt : c.loop-at.at < length c.args.design.now.processes =
      subst (λ (ps : List Process). c.loop-at.at < length ps) c.as_slice-processes.ensures c.loop-at-test.true in
      let u : AreUsesOf c.args.design.now c.loop-at.at w.index-uses-at.result =
      used_at c.args.design.now c.args.uses.now c.requires.many c.requires.uses c.loop-at.at w.index-uses-at.result lt w.index-uses-at.is in
      let k : (get_or c.as_slice-processes.result.now c.loop-at.at c.index-processes-at.result).kind ≡ kind_of c.args.design.now c.loop-at.at =
      ap (λ (x : Process). x.kind) (sym c.index-processes-at.is) ∙ kind_at c.args.design.now c.loop-at.at c.index-processes-at.result lt
      (subst (λ (ps : List Process). c.index-processes-at.result
      ≡ get_or ps c.loop-at.at c.index-processes-at.result) c.as_slice-processes.ensures c.index-processes-at.is) in
      let is : w.index-processes-at-then-settles.result ≡ get_or c.args.design.now.processes c.loop-at.at w.index-processes-at-then-settles.result =
      subst (λ (ps : List Process). w.index-processes-at-then-settles.result
      ≡ get_or ps c.loop-at.at w.index-processes-at-then-settles.result) c.as_slice-processes.ensures w.index-processes-at-then-settles.is in
      let b : w.as_slice-body.result.now ≡ w.index-processes-at-then-settles.result.body = cc (w.as_slice-body.ensures, w.index-processes-at-then-settles.is) in
      let st : settles (kind_of c.args.design.now c.loop-at.at) ≡ true = sym (ap settles k) ∙ sym c.settles.ensures ∙ w.if-settles.true in
      let walk : IsWalked c.args.design.now.vars w.index-uses-at.result
      (process_of c.args.design.now c.loop-at.at).body w.walk_process.new.walk w.in_ok-var.field-0 =
      subst (λ xs. IsWalked c.args.design.now.vars w.index-uses-at.result xs w.walk_process.new.walk w.in_ok-var.field-0)
      (b ∙ ap (λ (x : Process). x.body) (get_or_read c.args.design.now.processes c.loop-at.at w.index-processes-at-then-settles.result lt is no_process))
      (subst (λ vs. IsWalked vs w.index-uses-at.result w.as_slice-body.result.now w.walk_process.new.walk w.in_ok-var.field-0) c.as_slice-vars.ensures
      w.in_ok-var.ensures) in
      let l : IsLeastOf (IsLatch c.args.design.now c.loop-at.at) None = latch_is c.args.design.now c.loop-at.at w.index-uses-at.result u st None
      (subst (λ (q : Option ℕ). IsLeastOf (IsKeptIn c.args.design.now.vars w.index-uses-at.result (process_of c.args.design.now c.loop-at.at).body) q)
      w.in-None.is walk.latch) in
      rw (w.walk-is, w.early-is) (record {
        fresh = walk.fresh w.in-None.is;
        no_latch = before_more IsLatch c.args.design.now c.loop-at.at c.loop-at.invariant.no_latch l;
        early = subst (IsFirstBefore IsReadBeforeWrite c.args.design.now (c.loop-at.at + 1)) (sym w.first_place-early.ensures)
            (first_next c.args.design.now c.loop-at.at c.loop-at.early (get_or c.as_slice-processes.result.now c.loop-at.at c.index-processes-at.result).kind
            w.walk_process.new.walk.early k c.loop-at.invariant.early
            (λ q. early_is c.args.design.now c.loop-at.at w.index-uses-at.result u q w.walk_process.new.walk.early walk.early));
      }))
  | else-settles w ↦ (
      let lt : c.loop-at.at < length c.args.design.now.processes =
      subst (λ (ps : List Process). c.loop-at.at < length ps) c.as_slice-processes.ensures c.loop-at-test.true in
      let k : (get_or c.as_slice-processes.result.now c.loop-at.at c.index-processes-at.result).kind ≡ kind_of c.args.design.now c.loop-at.at =
      ap (λ (x : Process). x.kind) (sym c.index-processes-at.is) ∙ kind_at c.args.design.now c.loop-at.at c.index-processes-at.result lt
      (subst (λ (ps : List Process). c.index-processes-at.result
      ≡ get_or ps c.loop-at.at c.index-processes-at.result) c.as_slice-processes.ensures c.index-processes-at.is) in
      let st : settles (kind_of c.args.design.now c.loop-at.at) ≡ false = sym (ap settles k) ∙ sym c.settles.ensures ∙ w.if-settles.false in
      rw (w.walk-is, w.early-is) (record {
        fresh = c.loop-at.invariant.fresh;
        no_latch = before_more IsLatch c.args.design.now c.loop-at.at c.loop-at.invariant.no_latch (λ v. no_latch_of c.args.design.now c.loop-at.at v st);
        early = first_pass c.args.design.now c.loop-at.at c.loop-at.early st c.loop-at.invariant.early;
      }))
]

pub returns-in-None-early-clause-kept : goal.returns-in-None-early-clause-kept
returns-in-None-early-clause-kept c =
    let past : length c.args.design.now.processes ≤ c.loop-at.at =
    subst (λ (ps : List Process). length ps ≤ c.loop-at.at) c.as_slice-processes.ensures c.loop-at-test.false in
    record {
      no_latch = before_all IsLatch c.args.design.now (length c.args.design.now.processes) c.loop-at.at past
          (λ q w le. no_latch_past c.args.design.now q w le) c.loop-at.invariant.no_latch;
      written_first = before_all IsReadBeforeWrite c.args.design.now (length c.args.design.now.processes) c.loop-at.at past
          (λ q w le. not_early_past c.args.design.now q w le)
          (subst (λ (q : Option Place). IsFirstBefore IsReadBeforeWrite c.args.design.now c.loop-at.at q) c.in-None-early.is c.loop-at.invariant.early);
    }

pub returns-clause-fault : goal.returns-clause-fault
returns-clause-fault c =
    let past : length c.args.design.now.processes ≤ c.loop-at.at =
    subst (λ (ps : List Process). length ps ≤ c.loop-at.at) c.as_slice-processes.ensures c.loop-at-test.false in (
      before_all IsLatch c.args.design.now (length c.args.design.now.processes) c.loop-at.at past (λ q w le. no_latch_past c.args.design.now q w le)
          c.loop-at.invariant.no_latch,
      subst (λ (q : Option Place). IsFirstBefore IsReadBeforeWrite c.args.design.now c.loop-at.at q) c.in-Some-early.is
          c.loop-at.invariant.early,
    )

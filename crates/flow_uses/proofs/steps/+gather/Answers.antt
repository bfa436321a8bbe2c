use Rattle.std.proofs.Common.{◌≡◌, sym, subst, refl, rules, arith, ◌==◌}
use Rattle.std.specs.List.{list_any}
use Rattle.design_tree.specs.declared.step.Step.{the_lemmas}
use Rattle.design_meaning.specs.Spans.{is_in_any}
use Rattle.design_meaning.specs.Targets.{var_named, names_bit, target_reads}
use Rattle.design_meaning.specs.Paths.{piece_reads, item_reads}
use Rattle.flow_spans.specs.Reads.{Adds}
use Rattle.flow_uses.specs.Walks.{some_in, arm_has}
use Rattle.flow_uses.specs.Gathers.{AddsNamed, Gathers, AreStepsIn, AreArmsIn}
use Rattle.flow_uses.proofs.Formed as formed
use Rattle.flow_uses.proofs.Gathering as gathering
use Rattle.flow_uses.proofs.StepKinds as steps
use Rattle.flow_uses.proofs.steps.+gather.Goals as goal

pub gather_arm-returns : goal.gather_arm-returns
gather_arm-returns t c = steps.arm_gathers c.args.vars.now c.args.lists.now (record {
  reads = c.add_items.new.reads;
  sets = c.args.lists.now.sets;
  defers =
      c.args.lists.now.defers;
}) c.gather_steps.new.lists c.args.arm.now refl refl
    (subst (λ items. Adds c.args.vars.now c.args.lists.now.reads.items c.add_items.new.reads.items (λ b. list_any (λ item. is_in_any b (item_reads item))
    items)) c.as_slice.ensures c.in_ok-add_items.ensures)
    (subst (λ body. Gathers c.args.vars.now (record { reads = c.add_items.new.reads; sets = c.args.lists.now.sets; defers = c.args.lists.now.defers })
    c.gather_steps.new.lists (λ test. list_any (some_in test) body)) c.as_slice-2.ensures c.in_ok-gather_steps.ensures)

pub gather_arms-loop-arm-preserved : goal.gather_arms-loop-arm-preserved
gather_arms-loop-arm-preserved t c = gathering.gathers_next c.args.vars.now c.args.lists.now c.loop-arm.lists c.gather_arm.new.lists (λ arm test. arm_has
    test arm) c.args.arms.now c.loop-arm.arm-index c.arm-item.result c.loop-arm-test.true c.arm-item.is
    c.loop-arm.invariant c.in_ok-gather_arm.ensures

pub gather_step-returns-in-Set : goal.gather_step-returns-in-Set
gather_step-returns-in-Set t c =
    let e = c.as_slice.ensures in
    steps.set_gathers c.args.vars.now c.args.lists.now (record {
      reads = c.add_targets.new.reads;
      sets = c.add_targets.new.named;
      defers =
          c.args.lists.now.defers;
    }) c.expression_reads.new.out.items c.in-Set.targets c.in-Set.value c.args.step.now c.in-Set.is
    c.in_ok-expression_reads-in-Set.ensures
    (subst (λ targets. Adds c.args.vars.now c.expression_reads.new.out.items c.add_targets.new.reads.items (λ b. list_any (λ t. is_in_any b (target_reads
    t)) targets)) e c.in_ok-add_targets-in-Set.ensures.reads)
    (subst (λ targets. AddsNamed c.args.vars.now c.args.lists.now.sets.items c.add_targets.new.named.items (λ b. list_any (names_bit b) targets) (λ v.
    list_any (λ t. var_named t == v) targets)) e c.in_ok-add_targets-in-Set.ensures.named) refl

pub gather_step-returns-in-Later : goal.gather_step-returns-in-Later
gather_step-returns-in-Later t c =
    let e = c.as_slice-in-Later.ensures in
    steps.later_gathers c.args.vars.now c.args.lists.now (record {
      reads = c.add_targets-in-Later.new.reads;
      sets = c.args.lists.now.sets;
      defers =
          c.add_targets-in-Later.new.named;
    }) c.expression_reads-in-Later.new.out.items c.in-Later.targets c.in-Later.value c.args.step.now c.in-Later.is
    c.in_ok-expression_reads-in-Later.ensures
    (subst (λ targets. Adds c.args.vars.now c.expression_reads-in-Later.new.out.items c.add_targets-in-Later.new.reads.items (λ b. list_any (λ t. is_in_any
    b (target_reads t)) targets)) e c.in_ok-add_targets-in-Later.ensures.reads)
    (subst (λ targets. AddsNamed c.args.vars.now c.args.lists.now.defers.items c.add_targets-in-Later.new.named.items (λ b. list_any (names_bit b) targets)
    (λ v. list_any (λ t. var_named t == v) targets)) e c.in_ok-add_targets-in-Later.ensures.named) refl

pub gather_step-gather_steps-requires : goal.gather_step-gather_steps-requires
gather_step-gather_steps-requires t c = (
  first_of (search (rules, the_lemmas), grind (arith, the_lemmas)),
  (
    c.requires.known,
    subst (AreStepsIn
        c.args.state.now) (sym c.as_slice-in-If.ensures)
        (formed.if_left c.args.state.now c.in-If.test c.in-If.yes c.in-If.no (rw c.in-If.is at c.requires.step)),
  ),
)

pub gather_step-gather_steps-requires-in-If : goal.gather_step-gather_steps-requires-in-If
gather_step-gather_steps-requires-in-If t c = (
  first_of (search (rules, the_lemmas), grind (arith, the_lemmas)),
  (
    c.requires.known,
    subst (AreStepsIn
        c.args.state.now) (sym c.as_slice-in-If-2.ensures) (formed.if_right c.args.state.now c.in-If.test c.in-If.yes c.in-If.no (rw c.in-If.is at
        c.requires.step)),
  ),
)

pub gather_step-returns-in-If : goal.gather_step-returns-in-If
gather_step-returns-in-If t c = steps.if_gathers c.args.vars.now c.args.lists.now (record {
  reads = c.expression_reads-in-If.new.out;
  sets =
      c.args.lists.now.sets;
  defers = c.args.lists.now.defers;
}) c.gather_steps.new.lists c.gather_steps-in-If.new.lists c.in-If.test c.in-If.yes c.in-If.no
    c.args.step.now c.in-If.is refl refl c.in_ok-expression_reads-in-If.ensures
    (subst (λ xs. Gathers c.args.vars.now (record {
      reads = c.expression_reads-in-If.new.out;
      sets = c.args.lists.now.sets;
      defers =
          c.args.lists.now.defers;
    }) c.gather_steps.new.lists (λ test. list_any (some_in test) xs)) c.as_slice-in-If.ensures c.in_ok-gather_steps-in-If.ensures)
    (subst (λ xs. Gathers c.args.vars.now c.gather_steps.new.lists c.gather_steps-in-If.new.lists (λ test. list_any (some_in test) xs))
    c.as_slice-in-If-2.ensures c.in_ok-gather_steps-in-If-2.ensures)

pub gather_step-gather_arms-requires : goal.gather_step-gather_arms-requires
gather_step-gather_arms-requires t c = (
  first_of (search (rules, the_lemmas), grind (arith, the_lemmas)),
  (
    c.requires.known,
    subst (AreArmsIn
        c.args.state.now) (sym c.as_slice-in-Case.ensures) (formed.case_arms c.args.state.now c.in-Case.on c.in-Case.arms c.in-Case.rest (rw c.in-Case.is at
        c.requires.step)),
  ),
)

pub gather_step-gather_steps-requires-in-Case : goal.gather_step-gather_steps-requires-in-Case
gather_step-gather_steps-requires-in-Case t c = (
  first_of (search (rules, the_lemmas), grind (arith, the_lemmas)),
  (
    c.requires.known,
    subst (AreStepsIn
        c.args.state.now) (sym c.as_slice-in-Case-2.ensures) (formed.case_rest c.args.state.now c.in-Case.on c.in-Case.arms c.in-Case.rest (rw c.in-Case.is at
        c.requires.step)),
  ),
)

pub gather_step-returns-in-Case : goal.gather_step-returns-in-Case
gather_step-returns-in-Case t c = steps.case_gathers c.args.vars.now c.args.lists.now (record {
  reads = c.expression_reads-in-Case.new.out;
  sets =
      c.args.lists.now.sets;
  defers = c.args.lists.now.defers;
}) c.gather_arms.new.lists c.gather_steps-in-Case.new.lists c.in-Case.on c.in-Case.arms
    c.in-Case.rest c.args.step.now c.in-Case.is refl refl c.in_ok-expression_reads-in-Case.ensures
    (subst (λ xs. Gathers c.args.vars.now (record {
      reads = c.expression_reads-in-Case.new.out;
      sets = c.args.lists.now.sets;
      defers =
          c.args.lists.now.defers;
    }) c.gather_arms.new.lists (λ test. list_any (arm_has test) xs)) c.as_slice-in-Case.ensures c.in_ok-gather_arms-in-Case.ensures)
    (subst (λ xs. Gathers c.args.vars.now c.gather_arms.new.lists c.gather_steps-in-Case.new.lists (λ test. list_any (some_in test) xs))
    c.as_slice-in-Case-2.ensures c.in_ok-gather_steps-in-Case.ensures)

pub gather_step-returns-in-Show : goal.gather_step-returns-in-Show
gather_step-returns-in-Show t c = steps.show_gathers c.args.vars.now c.args.lists.now (record {
  reads = c.add_pieces.new.reads;
  sets =
      c.args.lists.now.sets;
  defers = c.args.lists.now.defers;
}) c.in-Show.pieces c.args.step.now c.in-Show.is refl refl
    (subst (λ xs. Adds c.args.vars.now c.args.lists.now.reads.items c.add_pieces.new.reads.items (λ b. list_any (λ piece. is_in_any b (piece_reads piece))
    xs)) c.as_slice-in-Show.ensures c.in_ok-add_pieces-in-Show.ensures)

pub gather_steps-gather_step-requires : goal.gather_steps-gather_step-requires
gather_steps-gather_step-requires t c = (
  first_of (search (rules, the_lemmas), grind (arith, the_lemmas)),
  (
    c.requires.known,
    formed.one_step
        c.args.state.now c.args.steps.now c.loop-step.step-index c.step-item.result c.loop-step-test.true c.step-item.is c.requires.steps,
  ),
)

pub gather_steps-loop-step-preserved : goal.gather_steps-loop-step-preserved
gather_steps-loop-step-preserved t c = gathering.gathers_next c.args.vars.now c.args.lists.now c.loop-step.lists c.gather_step.new.lists (λ x test. some_in
    test x) c.args.steps.now c.loop-step.step-index c.step-item.result c.loop-step-test.true c.step-item.is
    c.loop-step.invariant c.in_ok-gather_step.ensures

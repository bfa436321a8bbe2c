use Rattle.std.proofs.Common.{◌≡◌, ◌∙◌, sym, subst, refl, None, List}
use Rattle.flow_marks.specs.declared.slot.Slot.{Slot}
use Rattle.flow_marks.specs.Takes.{AreIn}
use Rattle.flow_least.specs.Met.{AreMarked}
use Rattle.flow_paths.specs.declared.walk.Walk.{Walk}
use Rattle.flow_paths.specs.Walking.{TakesAll}
use Rattle.flow_paths.proofs.Pathways.{filled_ready, walked}
use Rattle.flow_paths.proofs.faults.walk_process.Goals as goal

pub taken_in-requires-clause-ready : goal.taken_in-requires-clause-ready
taken_in-requires-clause-ready c = filled_ready c.args.vars.now c.args.uses.now c.args.body.now c.args.walk.now
    (record { left = c.insert_driven.new.marks; spare = c.args.walk.now.spare; trail = c.args.walk.now.trail; early = None }) c.requires.fresh
    c.insert_driven.ensures.slots c.insert_driven.ensures.bits refl refl refl

pub take_all-requires : goal.take_all-requires
take_all-requires c = subst (λ z. AreIn c.taken_in.new.walk.left.slots z) (sym c.as_slice.ensures.value)
    (subst (λ (z : List Slot). AreIn z c.in_ok-taken.taken.items) (sym c.in_ok-taken.ensures.left_slots) c.in_ok-taken.ensures.inside)

pub least_driven-requires : goal.least_driven-requires
least_driven-requires c = subst (λ (z : List Slot). AreMarked z c.args.uses.now)
    (sym (c.in_ok-take_all.ensures.takes.slots ∙ c.in_ok-taken.ensures.left_slots ∙ c.insert_driven.ensures.slots)) c.requires.marked

pub returns : goal.returns
returns c = walked c.args.vars.now c.args.uses.now c.args.body.now c.args.walk.now
    (record { left = c.insert_driven.new.marks; spare = c.args.walk.now.spare; trail = c.args.walk.now.trail; early = None }) c.requires.fresh
    c.insert_driven.ensures.slots c.insert_driven.ensures.bits refl refl refl
    c.taken_in.new.walk c.take_all.new.walk (record {
      left = c.take_all.new.walk.left;
      spare = c.take_all.new.walk.spare;
      trail = c.clear.new.self;
      early = c.take_all.new.walk.early;
    }) c.in_ok-taken.taken.items c.least_driven.result c.in_ok-taken.ensures
    (subst (λ z. TakesAll c.taken_in.new.walk c.take_all.new.walk z) c.as_slice.ensures.value c.in_ok-take_all.ensures)
    refl refl c.clear.ensures.items refl c.least_driven.ensures

use Rattle.std.proofs.Common.{◌≡◌, ◌∙◌, sym, ap, subst, refl, false, ◌+◌, ◌<◌, ◌≤◌, ◌⊎◌, inl, inr, List, ℕ, length, slice_index_or, arith}
use Rattle.design_meaning.specs.SettledLaws.{after_all}
use Rattle.place_marks.specs.Marked.{is_marked}
use Rattle.cycle_wakes.specs.Changes.{Changes, HasRoom}
use Rattle.cycle_settle.specs.Settling.{AreRaised, HasNoted, IsRan, IsSkipped, TicksActive}
use Rattle.cycle_settle.proofs.Middle.{in_design, begins, at_end, all_raised}
use Rattle.cycle_settle.proofs.Waking.{Stands, known_first, room_for, room_kept, stands_on, stands_one}
use Rattle.cycle_settle.proofs.along.settle.Goals as goal

pub note_sources-requires-clause-room : goal.note_sources-requires-clause-room
note_sources-requires-clause-room g c =
    room_for c.args.design.now c.args.order.now.processes c.args.wakes.now c.clear.new.self c.requires.wakes
    (record {
      places = omega (arith, c.clear.ensures.places, c.requires.changes.places);
      vars = omega (arith, c.clear.ensures.vars, c.requires.changes.vars);
    })

pub settle_one-requires-clause-process : goal.settle_one-requires-clause-process
settle_one-requires-clause-process g c =
    let d = c.args.design.now in
    let n = c.process.at in
    let same = c.processes-places.ensures in
    let order = c.args.order.now.processes in
    let here : n < length order = omega (arith, c.process-test.true, ap (λ (ps : List ℕ). length ps) same) in
    subst (λ (ps : List ℕ). slice_index_or ps n 0 < length d.processes) (sym same)
    (in_design d (slice_index_or order n 0) (c.requires.order.only n 0 here))

pub settle_one-requires-clause-changes : goal.settle_one-requires-clause-changes
settle_one-requires-clause-changes g c =
    room_for c.args.design.now c.args.order.now.processes c.args.wakes.now c.process.changes c.requires.wakes c.process.invariant.stands.room

pub process-init : goal.process-init
process-init g c =
    let d = c.args.design.now in
    let order = c.args.order.now.processes in
    let w = c.args.wakes.now in
    let before = c.args.before.now in
    let now = c.args.now.now in
    let kept = c.args.kept.now in
    let changes = c.note_sources.new.changes in
    let same = c.processes-places.ensures in
    record {
      stands = stands_on d c.requires.valid c.requires.flows order c.requires.order w c.requires.wakes c.args.all before (after_all d order now)
          c.requires.before c.args.order.now c.requires.reads c.args.steps.now (λ e. (c.requires.follows e).still) 0 c.next_of-at.result now kept
          c.args.steps.now changes c.next_of-at.ensures.from
          (subst (λ (ps : List ℕ). c.next_of-at.result ≤ length ps) same c.next_of-at.ensures.end) c.next_of-at.ensures.between
          (record {
            middle = begins c.args.all d order before now kept c.args.steps.now c.requires.order c.requires.now c.requires.follows c.requires.rooms;
            known = λ e. known_first d order w c.requires.wakes before c.requires.before now kept changes c.requires.now (c.requires.follows e)
                c.note_sources.ensures.noted;
            room = room_kept (length order) (length d.vars) c.clear.new.self changes c.note_sources.ensures.keeps
                (record {
                  places = omega (arith, c.clear.ensures.places, c.requires.changes.places);
                  vars = omega (arith, c.clear.ensures.vars, c.requires.changes.vars);
                });
          });
      within = subst (λ (ps : List ℕ). c.next_of-at.result ≤ length ps) same c.next_of-at.ensures.end;
      room = refl;
    }

pub process-preserved : goal.process-preserved
process-preserved g c =
    let d = c.args.design.now in
    let all = c.args.all in
    let n = c.process.at in
    let same = c.processes-places.ensures in
    let whole = c.args.order.now in
    let order = whole.processes in
    let w = c.args.wakes.now in
    let before = c.args.before.now in
    let final = after_all d order c.args.now.now in
    let old = c.args.steps.now in
    let here : n < length order = omega (arith, c.process-test.true, ap (λ (ps : List ℕ). length ps) same) in
    let new = c.settle_one.new in
    let next = c.next_of-at-in-process.result in
    let within : next ≤ length order = subst (λ (ps : List ℕ). next ≤ length ps) same c.next_of-at-in-process.ensures.end in
    let one = subst (λ (ps : List ℕ).
    (IsRan all d whole (slice_index_or ps n 0) before c.process.now new.now c.process.kept new.kept c.process.steps new.steps
    × HasNoted w (slice_index_or ps n 0) c.process.changes new.changes)
    ⊎ (IsSkipped all whole (slice_index_or ps n 0) before c.process.now new.now c.process.kept new.kept c.process.steps new.steps
    × (new.changes ≡ c.process.changes))) same c.settle_one.ensures.one in
    let still = λ (e : all ≡ false). (c.requires.follows e).still in
    record {
      stands = stands_on d c.requires.valid c.requires.flows order c.requires.order w c.requires.wakes all before final c.requires.before whole
          c.requires.reads old still (n + 1) next new.now new.kept new.steps new.changes c.next_of-at-in-process.ensures.from within
          c.next_of-at-in-process.ensures.between
          (stands_one d c.requires.valid c.requires.flows order c.requires.order w c.requires.wakes all before final c.requires.before whole
          c.requires.reads old still n here c.process.now new.now c.process.kept new.kept c.process.steps new.steps c.process.changes new.changes one
          c.process.invariant.stands);
      within = within;
      room = c.settle_one.ensures.room ∙ c.process.invariant.room;
    }

pub returns-clause-settled : goal.returns-clause-settled
returns-clause-settled g c =
    let order = c.args.order.now.processes in
    at_end c.args.all c.args.design.now order c.args.before.now (after_all c.args.design.now order c.args.now.now) c.process.now c.process.at c.process.kept
    c.args.steps.now c.process.steps (omega (arith, c.process-test.false, ap (λ (ps : List ℕ). length ps) c.processes-places.ensures))
    c.process.invariant.stands.middle

pub returns-clause-raised : goal.returns-clause-raised
returns-clause-raised g c =
    let d = c.args.design.now in
    let order = c.args.order.now.processes in
    let final = after_all d order c.args.now.now in
    let past : length order ≤ c.process.at = omega (arith, c.process-test.false, ap (λ (ps : List ℕ). length ps) c.processes-places.ensures) in
    let middle = c.process.invariant.stands.middle in
    subst (λ s. AreRaised d s c.process.kept)
    (sym (at_end c.args.all d order c.args.before.now final c.process.now c.process.at c.process.kept c.args.steps.now c.process.steps past middle))
    (all_raised c.args.all d order c.args.before.now final c.process.now c.process.at c.process.kept c.args.steps.now c.process.steps c.requires.order past
    middle)

pub returns-clause-changed : goal.returns-clause-changed
returns-clause-changed g c e v lt unmarked = elim (c.process.invariant.stands.known e v lt) [
  | inl quiet ↦ quiet
  | inr noted ↦ absurd (cc (unmarked, noted.marked))
]

pub returns-clause-ticks : goal.returns-clause-ticks
returns-clause-ticks g c =
    let d = c.args.design.now in
    let order = c.args.order.now.processes in
    let final = after_all d order c.args.now.now in
    let past : length order ≤ c.process.at = omega (arith, c.process-test.false, ap (λ (ps : List ℕ). length ps) c.processes-places.ensures) in
    let middle = c.process.invariant.stands.middle in
    let t = middle.ticked in
    subst (λ s. TicksActive c.args.all d c.args.before.now s c.args.steps.now c.process.steps)
    (sym (at_end c.args.all d order c.args.before.now final c.process.now c.process.at c.process.kept c.args.steps.now c.process.steps past middle))
    (record { ran = t.ran; once = t.once; settling = t.settling; active = t.active; few = t.few })

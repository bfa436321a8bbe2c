use Rattle.std.proofs.Common.{◌≡◌, sym, ap, subst, ◌<◌, length, slice_index_or, arith}
use Rattle.std.proofs.lemmas.List.{get_or_default}
use Rattle.cycle_wakes.specs.Changes.{IsNoted}
use Rattle.cycle_wakes.specs.Wakes.{targets_of}
use Rattle.cycle_wakes.proofs.Noting.{none_noted, one_noted, still_noted, still_room}
use Rattle.cycle_wakes.proofs.changes.note_targets.Goals as goal

pub loop-var-init : goal.loop-var-init
loop-var-init c = record {
  noted = none_noted (IsNoted c.args.wakes.now) (targets_of c.args.wakes.now c.args.p) c.args.changes.now;
  same = c.targets_of-var-items.ensures;
}

pub note-requires-clause-var : goal.note-requires-clause-var
note-requires-clause-var c =
    let n = c.loop-var.var-index in
    let same = c.loop-var.invariant.same in
    subst (λ vs. slice_index_or vs n 0 < length c.args.wakes.now.readers) (sym same)
    (c.requires.within n 0 (omega (arith, c.loop-var-test.true, ap length same)))

pub note-requires-clause-room : goal.note-requires-clause-room
note-requires-clause-room c = still_room c.args.wakes.now c.args.changes.now c.loop-var.changes c.loop-var.invariant.noted.keeps c.requires.room

pub loop-var-preserved : goal.loop-var-preserved
loop-var-preserved c =
    let w = c.args.wakes.now in
    let n = c.loop-var.var-index in
    let same = c.loop-var.invariant.same in
    let here : n < length (targets_of w c.args.p) = omega (arith, c.loop-var-test.true, ap length same) in
    record {
      noted = one_noted (IsNoted w) (still_noted w) (targets_of w c.args.p) n c.args.changes.now c.loop-var.changes c.note.new.self
          c.loop-var.invariant.noted c.note.ensures.keeps
          (λ d. subst (IsNoted w c.note.new.self) (get_or_default (targets_of w c.args.p) n 0 d here)
          (subst (λ vs. IsNoted w c.note.new.self (slice_index_or vs n 0)) same c.note.ensures.noted));
      same = same;
    }

pub returns-clause-keeps : goal.returns-clause-keeps
returns-clause-keeps c = c.loop-var.invariant.noted.keeps

pub returns-clause-noted : goal.returns-clause-noted
returns-clause-noted c k d lt =
    c.loop-var.invariant.noted.each k (omega (arith, lt, c.loop-var-test.false, ap length c.loop-var.invariant.same)) d

use Rattle.std.proofs.Common.{◌≡◌, sym, ap, subst, ◌<◌, length, slice_index_or, arith}
use Rattle.std.proofs.lemmas.List.{get_or_default}
use Rattle.cycle_wakes.proofs.Noting.{QuietOrNoted, none_noted, one_noted, still_either, still_room}
use Rattle.cycle_wakes.proofs.changes.note_sources.Goals as goal

pub loop-var-init : goal.loop-var-init
loop-var-init c = record {
  noted = none_noted (QuietOrNoted c.args.wakes.now c.args.now.now c.args.before.now) c.args.wakes.now.sources c.args.changes.now;
  same = c.sources-var-items.ensures;
}

pub note_source-requires-clause-var : goal.note_source-requires-clause-var
note_source-requires-clause-var c =
    let n = c.loop-var.var-index in
    let same = c.loop-var.invariant.same in
    subst (λ vs. slice_index_or vs n 0 < length c.args.design.now.vars) (sym same)
    (c.requires.within n 0 (omega (arith, c.loop-var-test.true, ap length same)))

pub note_source-requires-clause-room : goal.note_source-requires-clause-room
note_source-requires-clause-room c = still_room c.args.wakes.now c.args.changes.now c.loop-var.changes c.loop-var.invariant.noted.keeps c.requires.room

pub loop-var-preserved : goal.loop-var-preserved
loop-var-preserved c =
    let w = c.args.wakes.now in
    let either = QuietOrNoted w c.args.now.now c.args.before.now in
    let n = c.loop-var.var-index in
    let same = c.loop-var.invariant.same in
    let here : n < length w.sources = omega (arith, c.loop-var-test.true, ap length same) in
    record {
      noted = one_noted either (still_either w c.args.now.now c.args.before.now) w.sources n c.args.changes.now c.loop-var.changes c.note_source.new.changes
          c.loop-var.invariant.noted c.note_source.ensures.keeps
          (λ d. subst (either c.note_source.new.changes) (get_or_default w.sources n 0 d here)
          (subst (λ vs. either c.note_source.new.changes (slice_index_or vs n 0)) same c.note_source.ensures.noted));
      same = same;
    }

pub returns-clause-keeps : goal.returns-clause-keeps
returns-clause-keeps c = c.loop-var.invariant.noted.keeps

pub returns-clause-noted : goal.returns-clause-noted
returns-clause-noted c k d lt =
    c.loop-var.invariant.noted.each k (omega (arith, lt, c.loop-var-test.false, ap length c.loop-var.invariant.same)) d

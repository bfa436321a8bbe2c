use Rattle.std.proofs.Common.{◌≡◌, ap, subst, ◌<◌, List, length, arith}
use Rattle.design_tree.specs.declared.instrumented.ToggleEntry.{ToggleEntry}
use Rattle.place_marks.specs.Marked.{IsNext, NoneFrom}
use Rattle.cycle_parts.specs.Toggles.{entry_at}
use Rattle.cycle_parts.proofs.Firsts.{none_marked, unmarked, unmarked_to_end}
use Rattle.cycle_parts.proofs.toggle.next_changed.Goals as goal

pub returns-then-next-firsts-clause-unchanged : goal.returns-then-next-firsts-clause-unchanged
returns-then-next-firsts-clause-unchanged c k le lt =
    let next = c.in-Some.next in
    let marks = c.args.changed.now in
    let at = c.args.at in
    let is = subst (λ (es : List ToggleEntry). IsNext marks (entry_at es at).var next) c.as_slice-entries.ensures c.in-Some.ensures.found in
    unmarked c.args.x.now c.requires.toggles c.args.firsts.now marks c.requires.firsts at c.requires.here next is
    (omega (arith, c.if-next-firsts.true, c.requires.firsts.as_many)) k le lt

pub returns-else-next-firsts-clause-unchanged : goal.returns-else-next-firsts-clause-unchanged
returns-else-next-firsts-clause-unchanged c k le lt =
    let next = c.in-Some.next in
    let marks = c.args.changed.now in
    let at = c.args.at in
    let is = subst (λ (es : List ToggleEntry). IsNext marks (entry_at es at).var next) c.as_slice-entries.ensures c.in-Some.ensures.found in
    unmarked_to_end c.args.x.now c.requires.toggles c.args.firsts.now marks c.requires.firsts at c.requires.here next is
    (omega (arith, c.if-next-firsts.false, c.requires.firsts.as_many)) k le
    (omega (arith, lt, ap (λ (es : List ToggleEntry). length es) c.as_slice-entries.ensures))

pub returns-in-None-clause-unchanged : goal.returns-in-None-clause-unchanged
returns-in-None-clause-unchanged c k le lt =
    let marks = c.args.changed.now in
    let at = c.args.at in
    let none = subst (λ (es : List ToggleEntry). NoneFrom marks (entry_at es at).var) c.as_slice-entries.ensures (c.next.ensures.none c.in-None.is) in
    none_marked c.args.x.now c.requires.toggles c.args.firsts.now marks c.requires.firsts at c.requires.here none k le
    (omega (arith, lt, ap (λ (es : List ToggleEntry). length es) c.as_slice-entries.ensures))

use Rattle.std.proofs.Common.{◌≡◌, ◌∙◌, sym, ap, arith, ◌-◌, ◌<◌, ◌++◌, get_or, Some, vec_len}
use Rattle.std.specs.Option.{option_to_list}
use Rattle.flow_marks.proofs.Undoing.{undo_start, undo_one, undo_bits, undo_trail, undo_top}
use Rattle.flow_marks.proofs.trail.undo.Goals as goal

pub undo-init : goal.undo-init
undo-init c = undo_start c.args.marks.now c.args.trail.now.items c.args.from c.requires.inside c.requires.length

pub add-requires : goal.add-requires
add-requires c = undo_top c.args.marks.now c.undo.marks c.args.trail.now.items c.undo.trail.items c.args.from (c.len-in-undo.result - 1)
    c.index-last.result.now c.undo.invariant
    (omega (arith, c.undo-test.true, c.len.ensures, c.len-in-undo.ensures, c.undo.trail.ok.0)) c.index-last.ensures

pub undo-preserved : goal.undo-preserved
undo-preserved c =
    let some : 0 < vec_len c.undo.trail = omega (arith, c.undo-test.true, c.len.ensures) in
    let out : c.pop.result ≡ Some c.index-last.result.now =
    c.pop.ensures.value c.index-last.result.now some
    ∙ (ap (λ i. Some (get_or c.undo.trail.items (i - 1) c.index-last.result.now)) (sym c.len-in-undo.ensures) ∙ ap Some (sym c.index-last.ensures)) in
    undo_one c.args.marks.now c.undo.marks c.add.new.self c.args.trail.now.items c.undo.trail.items c.pop.new.self.items c.index-last.result.now c.args.from
    c.undo.invariant
    (c.pop.ensures.items ∙ ap (λ v. c.pop.new.self.items ++ option_to_list v) out)
    (omega (arith, c.undo-test.true, c.len.ensures, c.undo.trail.ok.0)) c.add.ensures.slots c.add.ensures.bits

pub returns-clause-bits : goal.returns-clause-bits
returns-clause-bits c = undo_bits c.args.marks.now c.undo.marks c.args.trail.now.items c.undo.trail.items c.args.from c.undo.invariant
    (omega (arith, c.undo-test.false, c.len.ensures, c.undo.trail.ok.0))

pub returns-clause-trail : goal.returns-clause-trail
returns-clause-trail c = undo_trail c.args.marks.now c.undo.marks c.args.trail.now.items c.undo.trail.items c.args.from c.undo.invariant
    (omega (arith, c.undo-test.false, c.len.ensures, c.undo.trail.ok.0))

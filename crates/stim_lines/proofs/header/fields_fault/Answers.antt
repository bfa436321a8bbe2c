use Rattle.std.proofs.Common.{◌≡◌, ◌+◌, ◌∙◌, suc, arith}
use Rattle.stim_lines.specs.Fields.{fields_of}
use Rattle.stim_lines.specs.Header.{inputs_of}
use Rattle.stim_lines.proofs.NameLemmas.{dropped-more, fields-step}
use Rattle.stim_lines.proofs.header.fields_fault.Goals as goal

pub loop-cut-preserved : goal.loop-cut-preserved
loop-cut-preserved c =
    let fields = fields_of c.args.line.now in
    let more = fields_of c.in-Some.cut.rest.now in
    let one : c.loop-cut.before + 1 ≡ suc c.loop-cut.before = omega arith in
    record {
      left = fields-step (inputs_of c.args.design.now) c.args.number c.loop-cut.before fields (fields_of c.loop-cut.rest.now) more c.in-Some.cut.field.now
          c.in-Some.ensures.field c.loop-cut.invariant.behind (cc) (cc) ∙ c.loop-cut.invariant.left;
      behind = rw one (dropped-more c.loop-cut.before fields c.in-Some.cut.field.now more (c.loop-cut.invariant.behind ∙ c.in-Some.ensures.field));
      within = omega (arith, c.in-Some.ensures.shorter);
    }

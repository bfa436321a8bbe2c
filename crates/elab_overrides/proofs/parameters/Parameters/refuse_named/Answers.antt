use Rattle.std.proofs.Common.{ap, ◌∙◌}
use Rattle.std.proofs.lemmas.List.{take_all}
use Rattle.elab_overrides.specs.Overrides.{are_bad_named}
use Rattle.elab_overrides.proofs.Names.{seen-more, bad-step}
use Rattle.elab_overrides.proofs.parameters.Parameters.refuse_named.Goals as goal

pub loop-value-preserved : goal.loop-value-preserved
loop-value-preserved c =
    let vs = c.args.values.now in
    let i = c.loop-value.value-index in
    record {
      seen = seen-more vs i c.value-item.result c.as_slice-name.result.now c.loop-value.seen c.put.new.self c.loop-value-test.true c.value-item.is
          c.as_slice-name.ensures c.loop-value.invariant.seen c.in_ok-is_new.ensures.ok;
      bad = λ names are. bad-step names vs i c.value-item.result c.as_slice-name.result.now c.loop-value.seen c.loop-value.bad c.in_ok-is_new.is_new
          c.contains.result c.or_bad-bad.result c.loop-value-test.true c.value-item.is c.as_slice-name.ensures c.loop-value.invariant.seen
          (c.loop-value.invariant.bad names are) c.in_ok-is_new.ensures.was_new (c.contains.ensures names are) c.or_bad-bad.ensures;
    }

pub returns : goal.returns
returns c = λ names are.
    c.loop-value.invariant.bad names are ∙ ap (are_bad_named names) (take_all c.loop-value.value-index c.args.values.now c.loop-value-test.false)

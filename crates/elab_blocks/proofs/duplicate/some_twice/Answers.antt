use Rattle.std.proofs.Common.{ap, refl, ◌∙◌, subst, sym, append-nil, List, ℕ, ◌++◌}
use Rattle.std.proofs.lemmas.List.{take_all}
use Rattle.elab_overrides.specs.Overrides.{AreAmong}
use Rattle.elab_blocks.specs.Duplicates.{is_duplicate, names_in}
use Rattle.elab_blocks.proofs.Twice.{step-names, step-bad}
use Rattle.elab_blocks.proofs.duplicate.some_twice.Goals as goal

pub loop-name-init : goal.loop-name-init
loop-name-init c = record {
  names = λ before h. subst (λ (ns : List (List ℕ)). AreAmong ns c.args.earlier.now) (sym (append-nil before)) h;
  bad = λ before h. refl;
}

pub loop-name-preserved : goal.loop-name-preserved
loop-name-preserved c =
    let ds = c.args.names.now in
    let i = c.loop-name.name-index in
    let d = c.name-item.result in
    record {
      names = λ before h. step-names before ds i d c.as_slice.result.now c.loop-name.earlier c.put.new.self c.loop-name-test.true c.name-item.is
          c.as_slice.ensures (c.loop-name.invariant.names before h) c.in_ok-is_new.ensures.ok;
      bad = λ before h. step-bad before ds i d c.as_slice.result.now c.loop-name.earlier c.loop-name.bad c.in_ok-is_new.is_new c.or_old-bad.result
          c.loop-name-test.true c.name-item.is c.as_slice.ensures (c.loop-name.invariant.names before h) (c.loop-name.invariant.bad before h)
          c.in_ok-is_new.ensures.was_new c.or_old-bad.ensures;
    }

pub returns : goal.returns
returns c = record {
  value = λ before h. c.loop-name.invariant.bad before h
      ∙ ap (λ ns. is_duplicate before (names_in ns)) (take_all c.loop-name.name-index c.args.names.now c.loop-name-test.false);
  earlier = λ before h. subst (λ ns. AreAmong (before ++ names_in ns) c.loop-name.earlier)
      (take_all c.loop-name.name-index c.args.names.now c.loop-name-test.false) (c.loop-name.invariant.names before h);
}

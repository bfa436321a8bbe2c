use Rattle.std.proofs.Common.{◌+◌, ◌++◌, ◌∷◌, [], ℕ, length, arith, ap, sym, ◌∙◌}
use Rattle.vlog_tree.specs.declared.module.SourceFile.{SourceFile}
use Rattle.command_check.proofs.DesignLemmas.{designs_to, refuses_one, sum_more}
use Rattle.command_ending.proofs.NamesLemmas.{length-seen, seen}
use Rattle.command_ending.proofs.StopLemmas.{refusal_weaker}
use Rattle.command_check.proofs.design.count_modules.Goals as goal

pub returns-in-Err-clause-err : goal.returns-in-Err-clause-err
returns-in-Err-clause-err c =
    refusal_weaker _ _ c.in-Err.ending
    (λ answer is. refuses_one (seen c.args.names.now) c.args.texts.now c.files.number c.files.invariant.found.0 answer
    (c.requires.each ∙ sym (length-seen c.args.names.now)) c.files-test.true c.files.invariant.found.1 is)
    c.in-Err.ensures.err

pub files-preserved : goal.files-preserved
files-preserved c =
    let found = c.files.invariant.found in
    let one = c.in-Ok.ensures.ok in
    let more = sum_more (λ (file : SourceFile). length file.modules) found.0 one.0 in
    let before = found.2 in
    let now = one.2 in
    record {
      found = (
        found.0 ++ one.0 ∷ [],
        designs_to c.args.texts.now c.files.number found.0 one.0 c.files-test.true found.1 one.1,
        (ap (λ (n : ℕ). c.files.count + n) now ∙ ap (λ (n : ℕ). n + length one.0.modules) before ∙ sym more),
      );
      small = omega arith;
    }

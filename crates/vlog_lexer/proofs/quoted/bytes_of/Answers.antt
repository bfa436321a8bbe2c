use Rattle.std.proofs.Common.{ℕ, ◌+◌, List, drop, arith, ap, ◌∙◌, length-drop}
use Rattle.std.proofs.lemmas.List.{take_rest}
use Rattle.vlog_lexer.proofs.TextLemmas.{bytes-all, bytes-on, bytes-stop, joined}
use Rattle.vlog_lexer.specs.Texts.{bytes_of}
use Rattle.vlog_lexer.proofs.quoted.bytes_of.Goals as goal

pub returns-in-None-clause-value : goal.returns-in-None-clause-value
returns-in-None-clause-value c =
    bytes-stop c.args.text.now c.loop-at.bytes.items c.loop-at.at _ c.loop-at-test.true c.in-None.ensures.value c.loop-at.invariant.read

pub loop-at-preserved : goal.loop-at-preserved
loop-at-preserved c =
    let text = c.args.text.now in let at = c.loop-at.at in
    let short = simp (take_rest, length-drop) at c.in-Some.ensures.within.1 in
    record {
      within = omega arith;
      read = ap (λ (xs : List ℕ). joined xs (at + c.in-Some.len) (bytes_of (drop (at + c.in-Some.len) text))) c.in-Ok.ensures.items
          ∙ bytes-on text c.loop-at.bytes.items at c.in-Some.byte c.in-Some.len _ c.loop-at-test.true c.in-Some.ensures.value c.loop-at.invariant.read;
    }

pub returns-clause-value : goal.returns-clause-value
returns-clause-value c = bytes-all c.args.text.now c.loop-at.bytes.items c.loop-at.at _ (omega arith) c.loop-at.invariant.read

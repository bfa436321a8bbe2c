use Rattle.std.proofs.Common.{◌+◌, ◌<◌, arith, ap, sym, ◌∙◌, drop, eqb, get_or, length, List, ℕ, refl}
use Rattle.std.specs.Str.{bytes_eq}
use Rattle.vlog_lexer.specs.Comments.{as_space, squeezed}
use Rattle.vlog_lexer.proofs.TextLemmas.{same-empty, same-end, same-on, same-other, squeezed-byte, squeezed-end, squeezed-gap}
use Rattle.vlog_lexer.proofs.comment.says.Goals as goal
use Rattle.vlog_lexer.proofs.comment.says.Goals.{then-not-begins_with_gaps+else-said-words+else-byte-words, else-not-begins_with_gaps}

pub returns-then-said-words : goal.returns-then-said-words
returns-then-said-words c =
    let text = c.args.text.now in let words = c.args.words.now in let k = c.loop-at.said in
    let turn = squeezed-byte text c.loop-at.at c.begins_with_gaps.result c.loop-at-test.true c.begins_with_gaps.ensures c.if-not-begins_with_gaps.true in
    sym (same-end _ _ words k (omega arith)) ∙ sym (ap (λ (xs : List ℕ). bytes_eq xs (drop k words)) turn) ∙ c.loop-at.invariant.same

pub returns-then-byte-words : goal.returns-then-byte-words
returns-then-byte-words c =
    let text = c.args.text.now in let words = c.args.words.now in let k = c.loop-at.said in
    let turn = squeezed-byte text c.loop-at.at c.begins_with_gaps.result c.loop-at-test.true c.begins_with_gaps.ensures c.if-not-begins_with_gaps.true in
    let some : k < length words = omega arith in
    sym (same-other (as_space (get_or text c.loop-at.at 0)) (squeezed (drop (c.loop-at.at + 1) text)) words k some
    (λ e. c.if-byte-words.true (c.as_space-byte.ensures ∙ e)))
    ∙ sym (ap (λ (xs : List ℕ). bytes_eq xs (drop k words)) turn) ∙ c.loop-at.invariant.same

pub loop-at-preserved : goal.loop-at-preserved
loop-at-preserved c =
    let text = c.args.text.now in let words = c.args.words.now in let k = c.loop-at.said in
    elim c.if-not-begins_with_gaps.branch [
      | then-not-begins_with_gaps+else-said-words+else-byte-words w ↦
          let turn = squeezed-byte text c.loop-at.at c.begins_with_gaps.result c.loop-at-test.true c.begins_with_gaps.ensures w.if-not-begins_with_gaps.true in
          let some : k < length words = omega arith in
          record {
            within = omega arith;
            same = ap (λ (n : ℕ). bytes_eq (squeezed (drop (c.loop-at.at + 1) text)) (drop n words)) w.said-is
                ∙ sym (same-on (as_space (get_or text c.loop-at.at 0)) (squeezed (drop (c.loop-at.at + 1) text)) words k some (sym w.as_space-byte.ensures
                ∙ w.if-byte-words.false))
                ∙ sym (ap (λ (xs : List ℕ). bytes_eq xs (drop k words)) turn) ∙ c.loop-at.invariant.same;
          }
      | else-not-begins_with_gaps w ↦
          let turn = squeezed-gap text c.loop-at.at c.begins_with_gaps.result c.loop-at-test.true c.begins_with_gaps.ensures w.if-not-begins_with_gaps.false in
          record {
            within = omega arith;
            same = ap (λ (n : ℕ). bytes_eq (squeezed (drop (c.loop-at.at + 1) text)) (drop n words)) w.said-is
                ∙ sym (ap (λ (xs : List ℕ). bytes_eq xs (drop k words)) turn) ∙ c.loop-at.invariant.same;
          }
    ]

pub returns : goal.returns
returns c =
    let text = c.args.text.now in let words = c.args.words.now in let k = c.loop-at.said in
    same-empty words k (eqb k (length words)) refl c.loop-at.invariant.within
    ∙ sym (ap (λ (xs : List ℕ). bytes_eq xs (drop k words)) (squeezed-end text c.loop-at.at c.loop-at-test.false)) ∙ c.loop-at.invariant.same

use Rattle.vlog_lexer.proofs.NumberLemmas.{number-plain, number-quoted, number-some, plain-fits, plain-wide}
use Rattle.vlog_lexer.proofs.number.number_of.Goals as goal

pub returns-then-begins_with_quote-clause-value : goal.returns-then-begins_with_quote-clause-value
returns-then-begins_with_quote-clause-value c =
    number-quoted c.args.text.now c.decimal_len-len.result c.begins_with_quote.result c.size_of.result c.behind_quote.result c.decimal_len-len.ensures.value
    c.begins_with_quote.ensures.value c.if-begins_with_quote.true c.size_of.ensures c.behind_quote.ensures.value

pub returns-in-None-clause-value : goal.returns-in-None-clause-value
returns-in-None-clause-value c =
    number-plain c.args.text.now c.decimal_len-len.result c.begins_with_quote.result _ c.decimal_len-len.ensures.value c.begins_with_quote.ensures.value
    c.if-begins_with_quote.false (plain-wide _ _ c.in-None.ensures.value)

pub returns-in-Some-clause-value : goal.returns-in-Some-clause-value
returns-in-Some-clause-value c =
    number-plain c.args.text.now c.decimal_len-len.result c.begins_with_quote.result _ c.decimal_len-len.ensures.value c.begins_with_quote.ensures.value
    c.if-begins_with_quote.false (plain-fits _ _ c.in-Some.value c.in-Some.ensures.value)

pub returns-in-Some-clause-within : goal.returns-in-Some-clause-within
returns-in-Some-clause-within c = (
  number-some c.args.text.now c.decimal_len-len.result c.begins_with_quote.result c.requires.whole c.requires.first c.decimal_len-len.ensures.value
      c.begins_with_quote.ensures.value c.if-begins_with_quote.false,
  c.decimal_len-len.ensures.within,
)

use Rattle.std.proofs.Common.{◌∙◌}
use Rattle.vlog_lexer.proofs.TextLemmas.{first_byte-escape, first_byte-none, first_byte-one, first_byte-plain}
use Rattle.vlog_lexer.proofs.quoted.first_byte.Goals as goal

pub returns-in-empty-clause-value : goal.returns-in-empty-clause-value
returns-in-empty-clause-value c = first_byte-none c.args.text.now c.in-empty.len_below

pub returns-in-len1-clause-value : goal.returns-in-len1-clause-value
returns-in-len1-clause-value c = c.plain_byte.ensures.value ∙ first_byte-one c.args.text.now c.in-len1.len_at_least c.in-len1.len_below

pub returns-in-None-clause-value : goal.returns-in-None-clause-value
returns-in-None-clause-value c = first_byte-escape c.args.text.now _ c.in-len2-up.len_at_least c.if-byte-eq92.true c.in-None.ensures

pub returns-in-Some-clause-value : goal.returns-in-Some-clause-value
returns-in-Some-clause-value c = first_byte-escape c.args.text.now _ c.in-len2-up.len_at_least c.if-byte-eq92.true c.in-Some.ensures

pub returns-else-byte-eq92-clause-value : goal.returns-else-byte-eq92-clause-value
returns-else-byte-eq92-clause-value c = c.plain_byte-else-byte-eq92.ensures.value
    ∙ first_byte-plain c.args.text.now c.in-len2-up.len_at_least c.if-byte-eq92.false

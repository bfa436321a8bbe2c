use Rattle.std.proofs.Common.{◌<◌, ℕ, List, [], length, Bor, ap, ◌∙◌, arith}
use Rattle.std.proofs.lemmas.List.{get_or_read}
use Rattle.command_check.proofs.DesignLemmas.{text_within}
use Rattle.command_ending.proofs.NamesLemmas.{seen_at}
use Rattle.command_check.proofs.design.modules_at.Goals as goal

pub modules_of-requires : goal.modules_of-requires
modules_of-requires c =
    let text = c.as_slice.ensures ∙ get_or_read c.args.texts.now c.args.number c.index-texts-number.result c.requires.within c.index-texts-number.is [] in
    let all = c.requires.short in
    omega (arith, ap length text, text_within c.args.texts.now c.args.number c.requires.within)

pub returns-clause-ok : goal.returns-clause-ok
returns-clause-ok c =
    let text = c.as_slice.ensures ∙ get_or_read c.args.texts.now c.args.number c.index-texts-number.result c.requires.within c.index-texts-number.is [] in
    rw (← text) c.modules_of.ensures.ok

pub returns-clause-err : goal.returns-clause-err
returns-clause-err c =
    let text = c.as_slice.ensures ∙ get_or_read c.args.texts.now c.args.number c.index-texts-number.result c.requires.within c.index-texts-number.is [] in
    let inside : c.args.number < length c.args.names.now = omega arith in
    let none : Bor (List ℕ) = record { ref_ptr = (0, 0); now = [] } in
    rw (seen_at c.args.names.now c.args.number none inside, ← text) c.modules_of.ensures.err

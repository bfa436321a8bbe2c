use Rattle.std.proofs.Common.{None, Some, ◌∙◌, arith}
use Rattle.std.proofs.lemmas.Str.Pattern.{rfind_char}
use Rattle.cover_reports.proofs.NameLemmas.{base_behind, base_whole}
use Rattle.cover_reports.proofs.base.base_of.Goals as goal

pub returns-in-Some : goal.returns-in-Some
returns-in-Some c =
    let last = rfind_char 47 c.args.file.now (Some c.in-Some.at) c.in-Some.ensures.cases (omega arith) in
    c.range_from.ensures.value ∙ base_behind c.args.file.now c.in-Some.at last.0 last.1 last.2

pub returns-in-None : goal.returns-in-None
returns-in-None c = base_whole c.args.file.now (rfind_char 47 c.args.file.now None c.in-None.ensures.cases (omega arith))

use Rattle.std.proofs.Common.{ℕ, ◌++◌, Contains, List, subst, sym, ap, ◌∙◌}
use Rattle.std.proofs.lemmas.List.{drop_all}
use Rattle.cov_types.specs.LineLists.{IsLineListOf}
use Rattle.line_sets.proofs.Runs.{joined, line_list_of}
use Rattle.line_sets.proofs.lists.runs_of.Goals as goal

pub returns : goal.returns
returns c = λ up.
    let lines = c.args.lines.now in
    let now = c.loop-line in
    let rest = c.in-Some.parts.1.now in
    subst (IsLineListOf (Contains lines))
    (sym (c.in_ok-push-2.ensures.ok ∙ sym (ap (λ (ns : List ℕ). now.runs ++ joined now.«open» ns) (drop_all now.line-index rest c.loop-line-test.false))
    ∙ now.invariant))
    (line_list_of lines up)

use Rattle.std.proofs.Common.{◌≡◌, ◌++◌, ◌∙◌, ℕ, List, Option, sym, ap, subst, append-nil}
use Rattle.std.specs.Result.{OnOk}
use Rattle.report_text.specs.Tables.{PlacedPoint}
use Rattle.report_table.specs.Chains.{IsLinked}
use Rattle.report_table.specs.FileTables.{seen_placed}
use Rattle.report_table.specs.Groups.{at_line}
use Rattle.report_table.proofs.GroupLemmas.{first_within, placed_in_group, placed_in_none}
use Rattle.report_table.proofs.file_table.push_line.Goals as goal

pub returns-in_default : goal.returns-in_default
returns-in_default c =
    let old = seen_placed c.args.placed.now.items in
    sym (ap (λ (xs : List PlacedPoint). old ++ xs) (placed_in_none c.args.points.now c.args.line (sym (c.requires.first c.args.line)
    ∙ sym c.in_default.ensures.value)) ∙ append-nil old)

pub follow-requires-clause-within : goal.follow-requires-clause-within
follow-requires-clause-within c =
    first_within (at_line c.args.line) c.args.points.now c.in-Some.first.now (sym (c.requires.first c.args.line) ∙ sym c.in-Some.ensures.value)

pub returns : goal.returns
returns c =
    let up = c.args.points.now in
    let linked = subst (λ (next : List (Option ℕ)). IsLinked (at_line c.args.line) up next 0) (sym c.as_slice.ensures.value) (c.requires.linked c.args.line) in
    let group = c.in_ok-group.ensures (at_line c.args.line) linked (sym (c.requires.first c.args.line) ∙ sym c.in-Some.ensures.value) in
    subst (λ (xs : List PlacedPoint). OnOk c.push_points.result (seen_placed c.push_points.new.placed.items ≡ seen_placed c.args.placed.now.items ++ xs))
    (placed_in_group up c.args.line c.as_slice-2.result.now (c.as_slice-2.ensures.value ∙ group)) c.push_points.ensures

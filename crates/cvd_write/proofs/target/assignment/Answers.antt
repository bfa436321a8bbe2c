use Rattle.std.proofs.Common.{◌∷◌, [], ◌++◌, length, flat_map, ap}
use Rattle.cvd_text.specs.Expressions.{tokens_of}
use Rattle.cvd_text.specs.Steps.{assigned_tokens}
use Rattle.cvd_text.specs.Targets.{target_tokens}
use Rattle.cvd_text.specs.Tokens.{number}
use Rattle.cvd_write.specs.Writing.{spaced}
use Rattle.cvd_write.proofs.Puts.{put_behind, then_tokens}
use Rattle.cvd_write.proofs.target.assignment.Goals as goal

pub returns : goal.returns
returns c =
    let targets = c.args.targets.now in
    let value = c.args.value.now in
    let some = flat_map target_tokens targets in
    put_behind _ (spaced (assigned_tokens targets value)) (10 ∷ []) c.expression.new.out _ _
    (then_tokens _ (number (length targets) ∷ []) (some ++ tokens_of value) c.number.new.self _ c.in_ok-number.ensures
    (then_tokens _ some (tokens_of value) c.all_targets.new.out _ c.in_ok-all_targets.ensures c.in_ok-expression.ensures)) c.end.ensures

use Rattle.std.proofs.Common.{ap, ◌∙◌, ◌∷◌, ℤ}
use Rattle.std.proofs.Math.Facts.{to_z-of_z}
use Rattle.walk_state.specs.declared.left.Left.TheVariants as left
use Rattle.walk_moves.proofs.Moving.{begun_turn}
use Rattle.walk_moves.proofs.items.to_turn.Goals as goal

pub returns : goal.returns
returns c = λ design top done here place a l n under m calm next is_loop.
    begun_turn c.args.passes c.args.value c.push.new.self m calm next is_loop
    (c.in_ok-push.ensures ∙ ap (λ (k : ℤ). left.Turn c.args.passes k ∷ c.args.walk.now.left) (to_z-of_z c.ranges.value))

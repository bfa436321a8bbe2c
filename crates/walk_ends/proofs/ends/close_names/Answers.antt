use Rattle.std.proofs.Common.{◌≡◌, ℕ, ◌-◌, length, take, ap, ◌∙◌, arith}
use Rattle.walk_ends.proofs.Ending.{closed}
use Rattle.walk_ends.proofs.ends.close_names.Goals as goal

pub returns : goal.returns
returns c = λ fs f are.
    let count : c.saturating_sub.result ≡ length c.args.names.now.items - 1 =
    grind (arith, c.saturating_sub.ensures, c.as_slice-open.ensures.value, c.as_slice-open.ensures.len) in
    closed are (c.truncate.ensures.items ∙ ap (λ (n : ℕ). take n c.args.names.now.items) count)

use Rattle.std.proofs.Common.{◌≡◌, ℕ, ◌+◌, ◌-◌, ◌<◌, List, drop, length, take, arith}
use Rattle.std.proofs.lemmas.List.{take_rest}
use Rattle.cov_port.proofs.CutLemmas.{feed_behind, no_feed-behind}
use Rattle.cov_port.proofs.line_cutter.feed_from.Goals as goal

pub returns-in_err-at-clause-none : goal.returns-in_err-at-clause-none
returns-in_err-at-clause-none c =
    let none = c.in_err-at.ensures in
    rw c.from_residual.ensures (no_feed-behind c.args.bytes.now c.args.clear c.requires.clear
    (λ k below. (rw take_rest at none) k (omega arith) below))

pub returns-clause-feed : goal.returns-clause-feed
returns-clause-feed c =
    let found = rw take_rest at c.in_ok-at.ensures in
    feed_behind c.args.bytes.now c.args.clear c.in_ok-at.at c.requires.within c.requires.clear found.0.high found.1
    (λ k below. found.0.before k (omega arith) below)

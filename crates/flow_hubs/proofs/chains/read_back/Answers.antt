use Rattle.std.proofs.Common.{◌≡◌, ◌≤◌, ◌-◌, ◌++◌, ℕ, suc, arith, get_or}
use Rattle.flow_hubs.specs.Chained.{no_link, row_from}
use Rattle.flow_hubs.proofs.Chaining.{read_more, read_all}
use Rattle.flow_hubs.proofs.chains.read_back.Goals as goal

pub links-preserved : goal.links-preserved
links-preserved c =
    let e : c.links.at ≡ suc (c.links.at - 1) = omega (arith, c.links-test.true) in
    let low : (get_or c.args.links.now (c.links.at - 1) no_link).before ≤ c.links.at - 1 = c.requires.back (c.links.at - 1) in
    record {
      inside = omega (arith, low, e, c.links.invariant.inside);
      whole = read_more c.args.links.now c.requires.back (c.args.row.now.items ++ row_from c.args.links.now c.args.head) c.links.row.items
          c.push.new.self.items c.links.at (c.links.at - 1) e c.in_ok-push.ensures.items c.links.invariant.whole;
    }

pub returns : goal.returns
returns c =
    read_all c.args.links.now c.requires.back (c.args.row.now.items ++ row_from c.args.links.now c.args.head) c.links.row.items c.links.at
    (omega (arith, c.links-test.false)) c.links.invariant.whole

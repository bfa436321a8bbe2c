use Rattle.std.proofs.Common.{◌≡◌, sym, ap, subst, ℕ, suc, ◌+◌, arith, List, [], ◌∷◌, ◌++◌, length, get_or, set}
use Rattle.flow_hubs.specs.declared.chains.Link.{Link}
use Rattle.flow_hubs.specs.Adding.{Adds}
use Rattle.flow_hubs.specs.Chained.{rows_of}
use Rattle.flow_hubs.proofs.Chaining.{put_adds}
use Rattle.flow_hubs.proofs.chains.put.Goals as goal

pub returns-clause-adds : goal.returns-clause-adds
returns-clause-adds c =
    let heads : List ℕ = c.args.heads.now.items in
    let links : List Link = c.args.links.now.items in
    let before : ℕ = get_or c.as_slice.result.now c.args.at 0 in
    let is : before ≡ get_or heads c.args.at 0 = ap (λ (xs : List ℕ). get_or xs c.args.at 0) c.as_slice.ensures.value in
    let count : suc (length links) ≡ c.len-count.result + 1 = omega (arith, c.len-count.ensures) in
    subst (λ (more : List Link). Adds (rows_of heads links) (rows_of (set heads c.args.at (c.len-count.result + 1)) more)
    (λ i x. (i ≡ c.args.at) × (x ≡ c.args.number))) (sym c.in_ok-push.ensures.items)
    (subst (λ n. Adds (rows_of heads links) (rows_of (set heads c.args.at n) (links ++ (record { number = c.args.number; before = before }) ∷ []))
    (λ i x. (i ≡ c.args.at) × (x ≡ c.args.number))) count
    (put_adds heads links c.args.at c.args.number before c.requires.linked c.requires.row is))

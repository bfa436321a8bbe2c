use Rattle.std.proofs.Common.{◌≡◌, ◌∙◌, sym, subst, ap, ◌+◌, ◌<◌, ◌≤◌, arith, ℕ, List, length, get_or, false}
use Rattle.std.specs.Prelude.{All}
use Rattle.std.proofs.lemmas.List.{length-replicate}
use Rattle.std.proofs.lemmas.List.Elements.{Contains-get_or}
use Rattle.flow_graph.specs.Graph.{next_of}
use Rattle.flow_graph.proofs.Trails.{blanks}
use Rattle.flow_hubs.specs.Hubs.{Joins, Stands}
use Rattle.flow_hubs.proofs.Joined.{joins_longer}
use Rattle.flow_edges.specs.Linking.{LeadsBy}
use Rattle.flow_edges.proofs.Columns.{stand_none, stand_more}
use Rattle.flow_edges.proofs.joined.join_columns.Goals as goal

pub loop-at-init : goal.loop-at-init
loop-at-init c = record {
  stands = stand_none c.args.next.now.items c.args.drivers.now c.args.readers.now c.args.selfish.now c.requires.ends;
  many = ap length (c.in_ok-marks.ensures.items_if_clones_equal (λ y h. h)) ∙ length-replicate (length c.args.selfish.now) false;
  clear = λ x. ap (λ ms. get_or ms x false) (c.in_ok-marks.ensures.items_if_clones_equal (λ y h. h)) ∙ blanks (length c.args.selfish.now) x;
  grown = omega arith;
}

pub join-requires-clause-drivers : goal.join-requires-clause-drivers
join-requires-clause-drivers c =
    let row : c.as_slice.result.now ≡ next_of c.args.drivers.now c.loop-at.at = c.as_slice.ensures.value ∙ c.in_ok-read.ensures in
    subst (λ (from : List ℕ). All (λ p. p < length c.loop-at.marks.items) from) (sym row)
    (λ k d h. (let lt : get_or (next_of c.args.drivers.now c.loop-at.at) k d < length c.args.next.now.items = c.requires.drivers c.loop-at.at
    (get_or (next_of c.args.drivers.now c.loop-at.at) k d) (Contains-get_or (next_of c.args.drivers.now c.loop-at.at) k d h) in
    omega (arith, lt, c.requires.selfish, c.loop-at.invariant.many)))

pub join-requires-clause-readers : goal.join-requires-clause-readers
join-requires-clause-readers c =
    let row : c.as_slice-in-loop-at.result.now ≡ next_of c.args.readers.now c.loop-at.at =
    c.as_slice-in-loop-at.ensures.value ∙ c.in_ok-read-2.ensures in
    subst (λ (from : List ℕ). All (λ p. p < length c.loop-at.marks.items) from) (sym row)
    (λ k d h. (let lt : get_or (next_of c.args.readers.now c.loop-at.at) k d < length c.args.next.now.items = c.requires.readers c.loop-at.at
    (get_or (next_of c.args.readers.now c.loop-at.at) k d) (Contains-get_or (next_of c.args.readers.now c.loop-at.at) k d h) in
    omega (arith, lt, c.requires.selfish, c.loop-at.invariant.many)))

pub join-requires-clause-selfish : goal.join-requires-clause-selfish
join-requires-clause-selfish c = sym c.loop-at.invariant.many

pub join-requires-clause-many : goal.join-requires-clause-many
join-requires-clause-many c = omega (arith, c.loop-at.invariant.many, c.requires.selfish, c.loop-at.invariant.stands.many)

pub join-requires-clause-few : goal.join-requires-clause-few
join-requires-clause-few c =
    omega (arith, c.loop-at.invariant.grown, c.requires.selfish, c.requires.processes, c.requires.columns, c.loop-at-test.true, c.len-at-end.ensures)

pub loop-at-preserved : goal.loop-at-preserved
loop-at-preserved c =
    let drivers : c.as_slice.result.now ≡ next_of c.args.drivers.now c.loop-at.at = c.as_slice.ensures.value ∙ c.in_ok-read.ensures in
    let readers : c.as_slice-in-loop-at.result.now ≡ next_of c.args.readers.now c.loop-at.at =
    c.as_slice-in-loop-at.ensures.value ∙ c.in_ok-read-2.ensures in
    let joins : Joins c.loop-at.next.items c.join.new.next.items (next_of c.args.drivers.now c.loop-at.at) (next_of c.args.readers.now c.loop-at.at)
    c.args.selfish.now =
    subst (λ (to : List ℕ). Joins c.loop-at.next.items c.join.new.next.items (next_of c.args.drivers.now c.loop-at.at) to c.args.selfish.now) readers
    (subst (λ (from : List ℕ). Joins c.loop-at.next.items c.join.new.next.items from c.as_slice-in-loop-at.result.now c.args.selfish.now) drivers
    c.in_ok-join.ensures.joins) in
    record {
      stands = stand_more c.args.next.now.items c.args.drivers.now c.args.readers.now c.args.selfish.now c.loop-at.at (length c.args.next.now.items)
          c.loop-at.next.items c.join.new.next.items c.requires.drivers c.requires.readers c.loop-at.invariant.stands joins;
      many = c.join.ensures.marks ∙ c.loop-at.invariant.many;
      clear = c.join.ensures.clear;
      grown = (let l : (length c.loop-at.next.items ≤ length c.join.new.next.items) × (length c.join.new.next.items ≤ length c.loop-at.next.items + 1) =
          joins_longer c.loop-at.next.items c.join.new.next.items (next_of c.args.drivers.now c.loop-at.at) (next_of c.args.readers.now c.loop-at.at)
          c.args.selfish.now joins in
          omega (arith, l.1, c.loop-at.invariant.grown));
    }

pub returns-clause-few : goal.returns-clause-few
returns-clause-few c =
    omega (arith, c.loop-at.invariant.grown, c.requires.selfish, c.requires.processes, c.requires.columns, c.loop-at.auto.at-end, c.len-at-end.ensures)

pub returns-clause-stands : goal.returns-clause-stands
returns-clause-stands c =
    subst (λ n. Stands (length c.args.next.now.items) (LeadsBy c.args.next.now.items c.args.drivers.now c.args.readers.now c.args.selfish.now n)
    c.loop-at.next.items) (omega (arith, c.loop-at-test.false, c.loop-at.auto.at-end, c.len-at-end.ensures)) c.loop-at.invariant.stands

use Rattle.std.proofs.Common.{◌≡◌, ◌-◌, ◌<◌, ◌∙◌, ℕ, suc, List, Bor, length, map, drop, sym, ap, subst, arith, length-set}
use Rattle.std.specs.BTreeMap.{get}
use Rattle.std.specs.List.{filter_map}
use Rattle.std.specs.Ordering.{nat_cmp}
use Rattle.std.specs.Cmp.Lexicographic.{slice_cmp}
use Rattle.report_text.specs.Items.{file_of, placed}
use Rattle.report_table.specs.Seen.{by_bytes, seen_points}
use Rattle.report_table.specs.Chains.{first_at, IsLinked}
use Rattle.report_table.specs.Groups.{of_file}
use Rattle.report_table.proofs.SortLemmas.{put_name, names_keys}
use Rattle.report_table.proofs.ChainLemmas.{first_rises}
use Rattle.report_table.proofs.GroupLemmas.{linked_step, linked_past, rises_step}
use Rattle.report_table.proofs.StepLemmas.{file_passed, file_fails, file_firsts, file_here, names_here, names_passed}
use Rattle.report_table.proofs.file_groups.file_groups.Goals as goal

abbrev names_of : List (Bor (List ℕ) × ℕ) → List (List ℕ × Unit {0})
names_of es = map (λ e. (e.0.now, tt {0})) es

pub points-preserved-in-Some : goal.points-preserved-in-Some
points-preserved-in-Some c =
    let up = c.args.points.now in
    let k = c.points.left - 1 in
    let file = c.in-Some.file in
    let w = c.in_ok-next-2.field-0 in
    let next : c.points.left ≡ suc k = omega (arith, c.points-test.true) in
    let within : k < length up = omega (arith, c.points.invariant.within) in
    let firsts = λ (q : Bor (List ℕ)). subst (λ (n : ℕ). get by_bytes c.points.first q ≡ first_at (of_file q.now) up n) next (c.points.invariant.firsts q) in
    let before : w ≡ first_at (of_file file.now) up (suc k) = c.in_ok-next-2.ensures.old ∙ firsts file in
    record {
      names = names_here up k _ within file.now _ _ c.in-Some.ensures
          (subst (λ (n : ℕ). names_of c.points.first.entries
          ≡ placed (slice_cmp nat_cmp) (filter_map file_of (seen_points (drop n up)))) next c.points.invariant.names)
          (ap names_of c.in_ok-next-2.ensures.entries ∙ put_name c.points.first.entries file k);
      firsts = file_firsts up k _ within file (λ q. get by_bytes c.points.first q) (λ q. get by_bytes c.insert.new.self q) c.in-Some.ensures firsts
          (λ q. c.in_ok-next-2.ensures.updates.0 q);
      linked = λ q. linked_step (of_file q) up c.points.next.items k w c.points.invariant.len within
          (subst (λ (n : ℕ). IsLinked (of_file q) up c.points.next.items n) next (c.points.invariant.linked q))
          (λ passes. file_here up k _ within file.now q w c.in-Some.ensures before (passes _));
      rises = rises_step c.points.next.items (length up) k w c.points.invariant.rises (omega (arith, c.points.invariant.len))
          (λ j e. first_rises (of_file file.now) up k j (sym before ∙ e));
      len = length-set c.points.next.items k w ∙ c.points.invariant.len;
      within = omega (arith, c.points.invariant.within);
    }

pub points-preserved : goal.points-preserved
points-preserved c =
    let up = c.args.points.now in
    let k = c.points.left - 1 in
    let next : c.points.left ≡ suc k = omega (arith, c.points-test.true) in
    let within : k < length up = omega (arith, c.points.invariant.within) in
    record {
      names = names_passed up k _ within _ c.in_default.ensures
          (subst (λ (n : ℕ). names_of c.points.first.entries
          ≡ placed (slice_cmp nat_cmp) (filter_map file_of (seen_points (drop n up)))) next c.points.invariant.names);
      firsts = λ q. subst (λ (n : ℕ). get by_bytes c.points.first q ≡ first_at (of_file q.now) up n) next (c.points.invariant.firsts q)
          ∙ file_passed up k _ within c.in_default.ensures q.now;
      linked = λ q. linked_past (of_file q) up c.points.next.items k _ within
          (subst (λ (n : ℕ). IsLinked (of_file q) up c.points.next.items n) next (c.points.invariant.linked q))
          (file_fails up k _ within c.in_default.ensures q);
      rises = c.points.invariant.rises;
      len = c.points.invariant.len;
      within = omega (arith, c.points.invariant.within);
    }

pub returns-clause-linked : goal.returns-clause-linked
returns-clause-linked c = λ q.
    let none : c.points.left ≡ 0 = omega (arith, c.points-test.false) in
    subst (λ (n : ℕ). IsLinked (of_file q) c.args.points.now c.points.next.items n) none (c.points.invariant.linked q)

pub returns-clause-names : goal.returns-clause-names
returns-clause-names c =
    let up = c.args.points.now in
    let none : c.points.left ≡ 0 = omega (arith, c.points-test.false) in
    names_keys c.points.first.entries
    ∙ ap (λ (es : List (List ℕ × Unit {0})). map (λ e. e.0) es)
    (subst (λ (n : ℕ). names_of c.points.first.entries
    ≡ placed (slice_cmp nat_cmp) (filter_map file_of (seen_points (drop n up)))) none c.points.invariant.names)

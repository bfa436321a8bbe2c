use Rattle.std.proofs.Common.{◌≡◌, ◌∙◌, ◌++◌, List, [], ◌∷◌, ap, refl, rules, subst, sym}
use Rattle.std.proofs.lemmas.List.Elements.{All-push}
use Rattle.cov_dat.specs.Merging.{Counts}
use Rattle.report_text.specs.Items.{Point}
use Rattle.report_table.specs.declared.data_point.DataPoint.{DataPoint}
use Rattle.report_table.specs.Seen.{AreRead, IsRead, seen_point, seen_points, seen_sorted}
use Rattle.report_table.proofs.ordered.listed.Goals as goal

-- one point more at the end
pushed : (ps : List DataPoint) (p : DataPoint) (x : Point) (rest all : Counts) → seen_point p ≡ x → seen_points ps ++ x ∷ rest ≡ all
    → seen_points (ps ++ p ∷ []) ++ rest ≡ all
pushed [] p x rest all e h = ap (λ (y : Point). y ∷ rest) e ∙ h
pushed (q ∷ ps) p x rest all e h = ap (λ (ys : Counts). seen_point q ∷ ys) (pushed ps p x rest (seen_points ps ++ x ∷ rest) e refl) ∙ h

pub loop-key-preserved : goal.loop-key-preserved
loop-key-preserved c =
    let behind : seen_points c.loop-key.points.items ++ (c.in-Some.key.now.now, c.in-Some.count.now) ∷ seen_sorted c.next.new.self
    ≡ seen_sorted c.args.sorted.now.entries = search rules in
    record {
      seen = ap (λ (ps : List DataPoint). seen_points ps ++ seen_sorted c.next.new.self) c.in_ok-push.ensures.items
          ∙ pushed c.loop-key.points.items c.new.result (c.in-Some.key.now.now, c.in-Some.count.now) (seen_sorted c.next.new.self) (seen_sorted
          c.args.sorted.now.entries) c.new.ensures.seen behind;
      read = subst (λ (ps : List DataPoint). AreRead ps) (sym c.in_ok-push.ensures.items)
          (All-push IsRead c.loop-key.points.items c.new.result c.loop-key.invariant.read c.new.ensures.read);
    }

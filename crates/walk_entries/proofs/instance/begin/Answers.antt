use Rattle.std.proofs.Common.{ℕ, List, [], ◌∷◌, ap, subst, ◌∙◌, refl}
use Rattle.scope_meaning.specs.Visits.{module_scope, start}
use Rattle.walk_state.specs.declared.left.Left.{Left}
use Rattle.walk_state.specs.declared.left.Left.TheVariants as left
use Rattle.walk_state.specs.Standing.{IsAt}
use Rattle.walk_entries.proofs.Opening.{begun_top}
use Rattle.walk_entries.proofs.instance.begin.Goals as goal

pub returns : goal.returns
returns c = λ design counted found.
    let m = c.args.of.now in
    begun_top c.args.of c.as_slice-items.result
    (record {
      next = 1;
      here = c.place_in-here.result;
      names = c.in_ok-names.names;
      above = c.enter.new.self;
      left = c.push.new.self;
      records = c.in_ok-records.records;
    })
    found refl
    (subst (λ (text : List ℕ). IsAt (module_scope 0 text [] [] c.args.number m) (start 0 0) c.place_in-here.result) c.in_ok-path.ensures
    (c.place_in-here.ensures [] [] m c.none-2.ensures))
    c.in_ok-names.ensures
    (c.enter.ensures design [] c.args.top.now m (c.in_ok-above.ensures design counted) found)
    (c.in_ok-push.ensures ∙ ap (λ (ls : List Left). left.Header c.args.of c.as_slice-items.result ∷ ls) c.new-left.ensures)
    c.as_slice-items.ensures
    c.in_ok-records.ensures

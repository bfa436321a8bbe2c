use Rattle.std.proofs.Common.{ℕ, ◌++◌, List, ◌+◌, ap, sym, subst, ◌∙◌, ◌∷◌, refl}
use Rattle.scope_meaning.specs.Visits.{block_scope, start}
use Rattle.walk_state.specs.declared.left.Left.{Left}
use Rattle.walk_state.specs.declared.left.Left.TheVariants as left
use Rattle.walk_state.specs.declared.place.ScopePlace.{ScopePlace}
use Rattle.walk_state.specs.Standing.{IsAt}
use Rattle.walk_entries.specs.Blocks.{block_records}
use Rattle.walk_entries.proofs.Entering.{has_entered}
use Rattle.walk_entries.proofs.block.enter_block.Goals as goal

pub returns : goal.returns
returns c = λ design here by at name genvar under is are lefts numbered same_item same its_path is_genvar.
    let old = c.args.walk.now in
    let block = block_scope here at name genvar c.args.items.now in
    has_entered old (record {
      next = old.next + 1;
      here = c.replace-around.new.dest;
      names = c.open_names.new.names;
      above = old.above;
      left = c.push-2.new.self;
      records =
          c.record_block.new.records;
    })
    c.args.item c.args.path c.args.pass numbered same refl refl
    (subst (λ (p : ScopePlace). IsAt block (start at.next c.args.first) p) (sym c.replace-around.ensures.after)
    (c.place_in-inner.ensures here by at name genvar c.args.items.now is (sym numbered) its_path))
    c.in_ok-open_names.ensures are is_genvar
    (c.in_ok-push-2.ensures
    ∙ ap (λ (ls : List Left). left.Items c.args.items ∷ ls)
    (c.in_ok-push.ensures ∙ ap (λ (p : ScopePlace). left.EndOfBlock p ∷ old.left) c.replace-around.ensures.value))
    is lefts
    (c.in_ok-record_block.ensures ∙ ap (λ (text : List ℕ). old.records ++ block_records old.here old.next c.args.item text c.args.pass) c.as_slice.ensures)
    same_item its_path

use Rattle.std.proofs.Common.{ℕ, List, [], ◌++◌, ◌+◌, ap, sym, subst, ◌∙◌, ◌∷◌, refl}
use Rattle.std.specs.Global.{Vec}
use Rattle.scope_meaning.specs.Visits.{module_scope, start}
use Rattle.elab_names.specs.Frames.{AreFrames}
use Rattle.elab_names.specs.declared.scope_names.ScopeNames.{ScopeNames}
use Rattle.walk_state.specs.declared.left.Left.{Left}
use Rattle.walk_state.specs.declared.left.Left.TheVariants as left
use Rattle.walk_state.specs.declared.place.ScopePlace.{ScopePlace}
use Rattle.walk_state.specs.declared.walk.Walk.{Walk}
use Rattle.walk_state.specs.Standing.{IsAt}
use Rattle.walk_entries.specs.Instances.{instance_scope, instance_records}
use Rattle.walk_entries.proofs.Opening.{has_instance}
use Rattle.walk_entries.proofs.instance.enter_instance.Goals as goal

pub returns : goal.returns
returns c = λ design here behind place p one values under is are lefts item its_path given found fresh.
    let old = c.args.walk.now in
    let by = c.args.by in
    let new : Walk =
    record {
      next = old.next + 1;
      here = c.replace-around.new.dest;
      names = c.replace-names.new.dest;
      above = c.enter.new.self;
      left =
          c.push-2.new.self;
      records = c.record_instance.new.records;
    } in
    has_instance p one values by.of c.as_slice-items.result old new by.number by.item c.args.path refl
    (subst (λ (q : ScopePlace). IsAt (instance_scope here old.next one values by.number by.of.now) (start old.next 0) q) (sym c.replace-around.ensures.after)
    (subst (λ (text : List ℕ). IsAt (module_scope old.next text here.above values by.number by.of.now) (start old.next 0) c.place_in-place.result) its_path
    (c.place_in-place.ensures here.above values by.of.now given)))
    (λ f named is_none none. subst (λ (v : Vec ScopeNames). AreFrames (f ∷ []) v.items) (sym c.replace-names.ensures.after)
    (c.in_ok-inner.ensures f named is_none none))
    (λ around. c.enter.ensures design here.above by.of.now.name by.of.now around found)
    are
    (c.in_ok-push-2.ensures
    ∙ ap (λ (ls : List Left). left.Header by.of c.as_slice-items.result ∷ ls)
    (c.in_ok-push.ensures
    ∙ ap (λ (q : ScopePlace). left.EndOfModule q c.replace-names.result by.number ∷ old.left) c.replace-around.ensures.value
    ∙ ap (λ (v : Vec ScopeNames). left.EndOfModule old.here v by.number ∷ old.left) c.replace-names.ensures.value))
    c.as_slice-items.ensures is lefts
    (c.in_ok-record_instance.ensures ∙ ap (λ (text : List ℕ). old.records ++ instance_records old.here old.next by.item text by.number) c.as_slice.ensures)
    item its_path found fresh

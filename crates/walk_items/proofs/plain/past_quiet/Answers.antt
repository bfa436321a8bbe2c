use Rattle.vlog_tree.specs.Trees.{layer, item_place}
use Rattle.scope_meaning.specs.Declared.{names_of}
use Rattle.scope_meaning.specs.Visits.{with_next}
use Rattle.elab_places.proofs.Standings.{calm}
use Rattle.walk_items.proofs.Begun.{plain_where_quiet}
use Rattle.walk_items.proofs.plain.past_quiet.Goals as goal

pub returns : goal.returns
returns c = λ design top done here at rest under b number quiet.
    let a = c.args.item.now in
    c.in_ok-past_plain.ensures design top done here at a rest under b.midway number
    (calm design here (with_next at c.args.walk.now.next) (item_place a) (names_of a) (layer a) quiet b.single) (plain_where_quiet (layer a) quiet)

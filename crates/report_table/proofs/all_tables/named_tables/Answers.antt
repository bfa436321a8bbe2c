use Rattle.std.proofs.Common.{◌∙◌, sym, rules}
use Rattle.std.specs.Map.Iter.{deref_pair}
use Rattle.std.proofs.lemmas.Map.Iter.{btree_map_turn}
use Rattle.report_table.proofs.GroupLemmas.{by_bytes_total}
use Rattle.report_table.proofs.all_tables.named_tables.Goals as goal

pub named_table-requires-clause-first : goal.named_table-requires-clause-first
named_table-requires-clause-first c =
    let turn =
    btree_map_turn deref_pair c.files.yielded c.into_iter-name-iterator.result c.files.name-iterator c.next.new.self c.next.result
    (c.in-Some.name, c.in-Some.first)
    c.files.yielded_by c.in-Some.is c.next.ensures.steps by_bytes_total c.args.groups.now.first (search rules) (search rules) in
    sym (c.requires.first c.in-Some.name.now) ∙ turn.1

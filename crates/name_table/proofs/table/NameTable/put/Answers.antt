use Rattle.std.proofs.Common.{◌∙◌}
use Rattle.indexmap.proofs.CallerLemmas.{insert_entry-new}
use Rattle.name_table.proofs.Lookups.{absent, appended}
use Rattle.name_table.proofs.table.NameTable.put.Goals as goal

pub returns-clause-ok : goal.returns-clause-ok
returns-clause-ok g c =
    let old = c.args.self.now.values in
    let key = c.in_ok-key.key in
    appended (λ k. k.items) old.entries key c.args.name.now c.in_ok-key.ensures.items c.args.value c.insert.new.self.entries
    (c.in_ok-insert.ensures.entries ∙ insert_entry-new _ old key c.args.value
    (absent (λ k. k.items) old.entries key c.args.name.now c.in_ok-key.ensures.items c.contains_key.result c.contains_key.ensures c.if-contains_key.false))

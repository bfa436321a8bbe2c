use Rattle.std.proofs.Common.{◌≡◌, ℕ, List, ◌++◌, ◌∷◌, [], false, ap, ◌∙◌}
use Rattle.std.specs.Str.{bytes_eq}
use Rattle.std.specs.Map.{lookup}
use Rattle.indexmap.proofs.CallerLemmas.{insert_entry-new}
use Rattle.cov_dat.specs.KeyTable.{has_key}
use Rattle.cov_dat.proofs.MergingLemmas.{none_is}
use Rattle.cov_dat.proofs.key_table.append.Goals as goal

pub returns-clause-ok : goal.returns-clause-ok
returns-clause-ok c =
    let counts = c.args.counts.now in
    let key = c.in_ok-key.key in
    let new : has_key counts.entries key ≡ false = ap (has_key counts.entries) c.in_ok-key.ensures ∙ c.requires in
    c.in_ok-insert.ensures.entries ∙ insert_entry-new bytes_eq counts key c.args.count (none_is (lookup (bytes_eq key) counts.entries) new)
    ∙ ap (λ (k : List ℕ). counts.entries ++ (k, c.args.count) ∷ []) c.in_ok-key.ensures

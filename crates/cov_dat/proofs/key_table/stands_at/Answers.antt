use Rattle.std.proofs.Common.{◌≡◌, List, ℕ, Some, slice_get, sym, ap, ◌∙◌}
use Rattle.std.proofs.lemmas.Slice.Eq.{bytes_eq-Decides}
use Rattle.cov_dat.specs.Merging.{number_of}
use Rattle.cov_dat.proofs.MergingLemmas.{number_of-at}
use Rattle.cov_dat.proofs.key_table.stands_at.Goals as goal

pub returns-clause-number : goal.returns-clause-number
returns-clause-number c same =
    let es = c.args.counts.now.entries in
    let key = c.args.key.now in
    let stored : List ℕ = c.unwrap.result.0.now in
    let is_key : stored ≡ key = sym c.as_slice.ensures ∙ (bytes_eq-Decides c.as_slice.result.now key).0 (sym c.eq.ensures ∙ same) in
    let there : slice_get es c.args.number ≡ Some (stored, c.unwrap.result.1.now) = sym (rw c.unwrap.ensures at c.get_index.ensures.entry) in
    ap (number_of es) (sym is_key) ∙ (number_of-at es c.args.number c.unwrap.result.1.now stored c.len.ensures.unique there).0

use Rattle.std.proofs.Common.{ap, ◌∙◌}
use Rattle.std.proofs.lemmas.List.{get_or_read}
use Rattle.command_ending.proofs.StoreLemmas.{File, no_file, quiet_stores, stored_front, stored_more}
use Rattle.command_ending.proofs.stores.store_each.Goals as goal

pub returns-in-Err-clause-part : goal.returns-in-Err-clause-part
returns-in-Err-clause-part g c =
    let one = get_or_read c.args.stores.now c.stores.number c.index-stores-number.result c.stores-test.true c.index-stores-number.is no_file in
    stored_front c.args.stores.now c.stores.number c.name.result.now c.bytes.result.now _ (g.F.Files.held c.stores.files) _ c.stores-test.true
    (c.name.ensures ∙ ap (λ (s : File). s.0) one) (c.bytes.ensures ∙ ap (λ (s : File). s.1) one) c.stores.invariant.made c.in-Err.ensures.part

pub stores-preserved : goal.stores-preserved
stores-preserved g c =
    let one = get_or_read c.args.stores.now c.stores.number c.index-stores-number.result c.stores-test.true c.index-stores-number.is no_file in
    record {
      made = stored_more c.args.stores.now c.stores.number c.name.result.now c.bytes.result.now _ (g.F.Files.held c.stores.files) _ c.stores-test.true
          (c.name.ensures ∙ ap (λ (s : File). s.0) one) (c.bytes.ensures ∙ ap (λ (s : File). s.1) one) c.stores.invariant.made c.in-Ok.ensures.stored;
      faults = quiet_stores _ _ c.in-Ok.ensures.opens c.in-Ok.ensures.reads c.in-Ok.ensures.cause.kept ∙ c.stores.invariant.faults;
    }

use Rattle.std.proofs.Common.{◌≡◌, ◌<◌, ◌∙◌, sym, ap, length, slice_get, Some, Result, Ok, Err, arith}
use Rattle.std.specs.Prelude.{OnOk}
use Rattle.std.proofs.lemmas.Option.{slice_get-get_or}
use Rattle.flat_scopes.proofs.More.{places_stay, place_more}
use Rattle.flat_scopes.proofs.scopes.SeenScopes.make_known.Goals as goal

on_ok : {T E P Q : Type 0} (r : Result T E) → (P → Q) → OnOk r P → OnOk r Q
on_ok (Ok t) f h = f h
on_ok (Err e) f h = h

pub returns-clause-before : goal.returns-clause-before
returns-clause-before c =
    let scopes = c.args.self.now.scopes.items in
    let old = c.index_mut.result.now in
    let within : c.args.scope < length scopes = omega arith in
    on_ok c.make_known.result
    (λ more at fs are. places_stay c.args.name.now c.args.value scopes c.args.scope old c.make_known.new.self within
    (slice_get-get_or scopes c.args.scope old within ∙ ap Some (sym c.index_mut.ensures.value)) more are)
    c.make_known.ensures

pub returns-clause-known : goal.returns-clause-known
returns-clause-known c =
    let scopes = c.args.self.now.scopes.items in
    let old = c.index_mut.result.now in
    let within : c.args.scope < length scopes = omega arith in
    on_ok c.make_known.result
    (λ more f fs k of are last named is. place_more c.args.name.now c.args.value scopes c.args.scope old c.make_known.new.self f fs k of within
    (slice_get-get_or scopes c.args.scope old within ∙ ap Some (sym c.index_mut.ensures.value)) more are last named is)
    c.make_known.ensures

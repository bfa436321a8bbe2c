use Rattle.std.proofs.Common.{refl, subst, sym, take, List}
use Rattle.std.proofs.lemmas.List.{take_all}
use Rattle.flat_declared.specs.declared.declared.KindOfName.{KindOfName}
use Rattle.flat_scopes.specs.Frames.{IsTableOf}
use Rattle.flat_scopes.proofs.Tables.{next, tabled}
use Rattle.flat_scopes.proofs.scope.table_of.Goals as goal

pub loop-name-preserved : goal.loop-name-preserved
loop-name-preserved c =
    let names = c.args.declared.now in
    let i = c.loop-name.name-index in
    let d = c.name-item.result in
    subst (λ (l : List KindOfName). IsTableOf l c.put.new.self) (sym (next names i d c.loop-name-test.true c.name-item.is))
    (tabled (take i names) c.loop-name.table c.put.new.self d c.as_slice.result.now d.kind c.as_slice.ensures refl c.loop-name.invariant c.in_ok-put.ensures.ok)

pub returns : goal.returns
returns c = subst (λ (l : List KindOfName). IsTableOf l c.loop-name.table) (take_all c.loop-name.name-index c.args.declared.now c.loop-name-test.false)
    c.loop-name.invariant

use Rattle.std.proofs.Common.{◌∙◌, ap, List, [], ◌∷◌, ◌++◌}
use Rattle.flat_names.specs.declared.loops.LoopValue.{LoopValue}
use Rattle.flat_sites.proofs.Loops.{one_more}
use Rattle.flat_sites.proofs.site.with_loop.Goals as goal

pub returns : goal.returns
returns c = λ site env s.
    let l : LoopValue = record { name = c.args.name; value = c.args.value } in
    one_more site c.args.loops.now c.push.new.self.items l env s
    (c.in_ok-push.ensures.items ∙ ap (λ (ls : List LoopValue). ls ++ l ∷ [])
    (c.in_ok-extend_from_slice.ensures.items ∙ ap (λ (ls : List LoopValue). ls ++ c.args.loops.now) c.new-all.ensures.items))

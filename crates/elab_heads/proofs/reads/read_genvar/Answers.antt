use Rattle.std.proofs.Common.{◌∙◌, ap, sym, Some, w32, rules}
use Rattle.std.proofs.lemmas.Int.{to_z-of_z}
use Rattle.elab_heads.proofs.Heads.{genvar-is}
use Rattle.elab_heads.proofs.reads.read_genvar.Goals as goal

pub returns : goal.returns
returns g c = λ known here.
    let h = c.in-Ok.ensures known here in (
      h.0,
      genvar-is known c.args.value.now c.assigned.result.bits c.integer_of.result h.0 (c.assigned.ensures.value _ h.1) c.integer_of.ensures
          ∙ ap Some (sym (to_z-of_z w32 c.integer_of.result (search rules))),
    )

pub returns-in-Err : goal.returns-in-Err
returns-in-Err g c = λ known here. c.in-Err.ensures known here

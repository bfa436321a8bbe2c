use Rattle.std.proofs.Common.{◌≡◌, ◌∙◌, ap, subst, sym, map, Bool}
use Rattle.std.specs.List.{filter_map, list_any}
use Rattle.vlog_tree.specs.declared.item.RegName.{RegName}
use Rattle.vlog_tree.specs.declared.expression.RangeExpr.{RangeExpr}
use Rattle.vlog_tree.specs.Trees.{option_list}
use Rattle.scope_meaning.specs.Ranges.{words}
use Rattle.scope_meaning.specs.ScopeRules.{is_past}
use Rattle.scope_meaning.specs.Wanted.{want}
use Rattle.elab_faults.specs.Flaws.{Finds, flaws_in, both_flaws, vector_flaws, memory_flaws, both}
use Rattle.elab_faults.specs.Judged.{Nothing}
use Rattle.elab_faults.proofs.Flaws.{finds_both}
use Rattle.elab_faults.proofs.Lists.{Large}
use Rattle.elab_places.specs.Places.{reg_flaws}
use Rattle.elab_places.proofs.declarations.reg_flaws.Goals as goal

pub returns-in-Ok : goal.returns-in-Ok
returns-in-Ok g c = λ known here.
    let regs = c.args.regs.now in
    let ms = filter_map (λ (r : RegName). r.words) regs in
    let vector = c.vector_flaws-vector.result in
    let large = Large known ms in
    let inner = finds_both large Nothing (memory_flaws known ms) (flaws_in (map (want known) (filter_map (λ (r : RegName). r.start) regs)))
    c.memory_flaws-memories.result c.start_flaws-starts.result (c.memory_flaws-memories.ensures known here) (c.start_flaws-starts.ensures known here) in
    let all = subst (Finds (λ (p : Unit {0} × (Bool × Unit {0})). Unit {0} × (large p.1.0 × Unit {0})) (reg_flaws known (option_list c.args.range.now) regs))
    (sym (c.in-Ok.ensures ∙ ap (both vector) c.both.ensures))
    (finds_both Nothing (λ (p : Bool × Unit {0}). large p.0 × Unit {0}) (vector_flaws known (option_list c.args.range.now)) _ vector _
    (c.vector_flaws-vector.ensures known here) inner) in
    (all.0, all.1.1.0)

pub returns-in-Err : goal.returns-in-Err
returns-in-Err g c = λ known here.
    let regs = c.args.regs.now in
    let ms = filter_map (λ (r : RegName). r.words) regs in
    let vector = c.vector_flaws-vector.result in
    let large = Large known ms in
    let inner = finds_both large Nothing (memory_flaws known ms) (flaws_in (map (want known) (filter_map (λ (r : RegName). r.start) regs)))
    c.memory_flaws-memories.result c.start_flaws-starts.result (c.memory_flaws-memories.ensures known here) (c.start_flaws-starts.ensures known here) in
    subst (Finds (λ (p : Unit {0} × (Bool × Unit {0})). Unit {0} × (large p.1.0 × Unit {0})) (reg_flaws known (option_list c.args.range.now) regs))
    (sym (c.in-Err.ensures ∙ ap (both vector) c.both.ensures))
    (finds_both Nothing (λ (p : Bool × Unit {0}). large p.0 × Unit {0}) (vector_flaws known (option_list c.args.range.now)) _ vector _
    (c.vector_flaws-vector.ensures known here) inner)

use Rattle.std.proofs.Common.{◌∙◌, ◌<◌, sym, ap, ℕ, List, ◌++◌, ◌∷◌, append_assoc, drop, length, slice_index, arith}
use Rattle.std.proofs.lemmas.Grind.{common_steps}
use Rattle.std.proofs.lemmas.List.{take_rest}
use Rattle.std.specs.Prelude.{flat_map}
use Rattle.circuit_run.specs.Runs.{output_text}
use Rattle.cycle_parts.proofs.LineLaws.{joined_of}
use Rattle.cycle_parts.proofs.outputs.put_joined.Goals as goal

pub returns-clause-items : goal.returns-clause-items
returns-clause-items c =
    let s = c.args.state.now in
    let outputs = c.args.outputs.now in
    let old = c.args.line.now.items in
    let some : 0 < length outputs = grind (arith, common_steps, c.is_empty.ensures, c.if-is_empty.false) in
    let texts : List ℕ → List ℕ = λ vs. flat_map (λ v. 32 ∷ output_text s v) vs in
    let rest : List ℕ = texts (drop 1 outputs) in
    c.put_behind.ensures.items ∙ ap (λ vs. c.put_output.new.line.items ++ texts vs) (take_rest outputs 1)
    ∙ ap (λ items. items ++ rest) c.put_output.ensures.items ∙ append_assoc old (output_text s (slice_index outputs 0)) rest
    ∙ ap (λ line. old ++ line) (sym (joined_of s outputs some))

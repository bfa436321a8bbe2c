use Rattle.std.proofs.Common.{◌≡◌, Some, refl, subst, sym, w32}
use Rattle.std.specs.Prelude.{ℤ}
use Rattle.std.proofs.lemmas.Int.{to_z-of_z}
use Rattle.scope_meaning.specs.Constants.{constants}
use Rattle.scope_meaning.specs.Scope.{frames}
use Rattle.elab_heads.specs.Passes.{environment_of}
use Rattle.scope_meaning.specs.Heads.{names_in_pass, genvar_value}
use Rattle.scope_meaning.specs.Standing.{standing}
use Rattle.scope_meaning.specs.ScopeRules.{refusal_at}
use Rattle.scope_meaning.specs.Visits.{a_turn}
use Rattle.elab_faults.specs.Judged.{Judges}
use Rattle.elab_places.proofs.Rules.{judges}
use Rattle.elab_places.proofs.loops.judge_step.Goals as goal

pub returns : goal.returns
returns c = λ design here at are.
    let names = names_in_pass here at c.args.name.now c.args.value in
    let e = c.args.step.now in
    let x = standing (a_turn c.args.place names e) in
    let P = λ (n : ℤ). genvar_value names e ≡ Some n in
    let seen =
    subst (λ (z : ℤ). environment_of c.new-pass.result ≡ constants (names_in_pass here at c.args.name.now z)) (to_z-of_z w32 c.args.value c.ranges.value)
    (c.new-pass.ensures (frames here at) are) in
    subst (Judges P (refusal_at design x)) (sym c.at_place.ensures)
    (judges P design x c.read_genvar.result refl refl refl
    (c.read_genvar.ensures names seen))

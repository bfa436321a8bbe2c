use Rattle.std.proofs.Common.{◌≡◌, ◌∙◌, ap, sym, subst, Some, w32, rules}
use Rattle.std.proofs.lemmas.Int.{to_z-of_z}
use Rattle.std.specs.Prelude.{ℤ}
use Rattle.scope_meaning.specs.Constants.{constants}
use Rattle.scope_meaning.specs.Scope.{constants_at, with_genvar}
use Rattle.elab_faults.specs.Flaws.{Finds, flaws_in, both}
use Rattle.elab_heads.specs.Passes.{value_or_zero, head_wanted, environment_of}
use Rattle.elab_heads.proofs.Heads.{head-finds, First, within}
use Rattle.elab_heads.proofs.head.loop_head.Goals as goal

pub returns-in-Ok : goal.returns-in-Ok
returns-in-Ok c = λ fs are.
    let h = c.args.head in
    let name = h.name.now in
    let known = constants_at fs in
    let a = c.read_genvar-from.result in
    let pass =
    subst (λ (n : ℤ). environment_of c.new-pass.result ≡ constants (within fs name n))
    (to_z-of_z w32 c.value_or_zero.result (search rules) ∙ c.value_or_zero.ensures) (c.new-pass.ensures fs are) in
    let names = within fs name (value_or_zero a) in
    let all = head-finds fs name h.from.now h.test.now h.step.now a c.read_test-test.result c.read_genvar-step.result
    (c.read_genvar-from.ensures known (c.new-visible.ensures.environment fs are)) (c.read_test-test.ensures names pass)
    (c.read_genvar-step.ensures names pass) in
    let found = subst (Finds (First known h.from.now) (flaws_in (head_wanted fs name h.from.now h.test.now h.step.now)))
    (sym (c.in-Ok.ensures ∙ ap (both a) c.both.ensures)) all in
    (found.0, found.1.0 ∙ ap Some (sym (to_z-of_z w32 c.in-Ok.from (search rules))))

pub returns-in-Err : goal.returns-in-Err
returns-in-Err c = λ fs are.
    let h = c.args.head in
    let name = h.name.now in
    let known = constants_at fs in
    let a = c.read_genvar-from.result in
    let pass =
    subst (λ (n : ℤ). environment_of c.new-pass.result ≡ constants (within fs name n))
    (to_z-of_z w32 c.value_or_zero.result (search rules) ∙ c.value_or_zero.ensures) (c.new-pass.ensures fs are) in
    let names = within fs name (value_or_zero a) in
    let all = head-finds fs name h.from.now h.test.now h.step.now a c.read_test-test.result c.read_genvar-step.result
    (c.read_genvar-from.ensures known (c.new-visible.ensures.environment fs are)) (c.read_test-test.ensures names pass)
    (c.read_genvar-step.ensures names pass) in
    subst (Finds (First known h.from.now) (flaws_in (head_wanted fs name h.from.now h.test.now h.step.now)))
    (sym (c.in-Err.ensures ∙ ap (both a) c.both.ensures)) all

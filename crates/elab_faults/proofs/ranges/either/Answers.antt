use Rattle.std.proofs.Common.{◌≡◌, ◌∙◌, ap, subst, sym, Bool, ◌||◌}
use Rattle.elab_faults.specs.Flaws.{Finds, both_flaws}
use Rattle.elab_faults.proofs.Flaws.{finds_both}
use Rattle.elab_faults.proofs.ranges.either.Goals as goal

pub returns-in-Ok : goal.returns-in-Ok
returns-in-Ok c = λ v w a b h k.
    let all = subst (Finds (λ (p : Bool × Bool). (p.0 ≡ a) × (p.1 ≡ b)) (both_flaws v w)) (sym c.in-Ok.ensures)
    (finds_both (λ x. x ≡ a) (λ x. x ≡ b) v w c.args.one c.args.other h k) in
    (all.0, c.one_of.ensures ∙ ap (λ x. x || c.in-Ok.other) all.1.0 ∙ ap (λ x. a || x) all.1.1)

pub returns-in-Err : goal.returns-in-Err
returns-in-Err c = λ v w a b h k.
    subst (Finds (λ (p : Bool × Bool). (p.0 ≡ a) × (p.1 ≡ b)) (both_flaws v w)) (sym c.in-Err.ensures)
    (finds_both (λ x. x ≡ a) (λ x. x ≡ b) v w c.args.one c.args.other h k)

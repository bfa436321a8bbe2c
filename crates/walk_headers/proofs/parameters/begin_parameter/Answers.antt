use Rattle.std.proofs.Common.{refl, ap, ◌∙◌, ℕ, ◌+◌}
use Rattle.walk_headers.proofs.HeaderItems.{begun, twice}
use Rattle.walk_headers.proofs.parameters.begin_parameter.Goals as goal

pub returns-then-is_bad : goal.returns-then-is_bad
returns-then-is_bad c = λ design top done here at m rest under o. twice o (c.in_ok-is_bad.ensures.value at.earlier o.scope.earlier) c.if-is_bad.true

pub returns : goal.returns
returns c = λ design top done here at m rest under o.
    let old = c.args.walk.now.here in
    begun (record old { earlier = c.declares_twice.new.earlier; item = c.in_ok-next.next; construct = c.in_ok-construct.construct })
    c.in_ok-is_bad.is_bad o (c.in_ok-is_bad.ensures.value at.earlier o.scope.earlier) c.if-is_bad.false
    (c.in_ok-is_bad.ensures.earlier at.earlier o.scope.earlier) (c.in_ok-next.ensures ∙ ap (λ (k : ℕ). old.item + k) c.in_ok-items.ensures)
    (c.in_ok-construct.ensures ∙ ap (λ (k : ℕ). old.construct + k) c.in_ok-made.ensures) refl refl refl refl refl

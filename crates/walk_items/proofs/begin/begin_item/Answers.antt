use Rattle.std.proofs.Common.{ℕ, ◌+◌, ap, ◌∙◌, refl}
use Rattle.walk_items.proofs.Begun.{begun, twice}
use Rattle.walk_items.proofs.begin.begin_item.Goals as goal

pub returns-then-is_bad : goal.returns-then-is_bad
returns-then-is_bad c = λ design top done here at rest under m plain. twice m plain (c.in_ok-is_bad.ensures.value at.earlier m.scope.earlier) c.if-is_bad.true

pub returns : goal.returns
returns c = λ design top done here at rest under m plain.
    let old = c.args.walk.now.here in
    begun (record old { earlier = c.declares_twice.new.earlier; item = c.in_ok-next.next; construct = c.in_ok-construct.construct })
    c.in_ok-is_bad.is_bad m (c.in_ok-is_bad.ensures.value at.earlier m.scope.earlier) c.if-is_bad.false
    (c.in_ok-is_bad.ensures.earlier at.earlier m.scope.earlier) (c.in_ok-next.ensures ∙ ap (λ (k : ℕ). old.item + k) c.in_ok-items.ensures)
    (c.in_ok-construct.ensures ∙ ap (λ (k : ℕ). old.construct + k) c.in_ok-made.ensures) refl refl refl refl refl

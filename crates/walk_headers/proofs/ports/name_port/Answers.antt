use Rattle.std.proofs.Common.{◌≡◌, ◌∙◌, ap, subst, refl, List, ℕ, [], ◌∷◌, ◌++◌}
use Rattle.elab_blocks.specs.Duplicates.{is_duplicate}
use Rattle.elab_overrides.specs.Overrides.{AreAmong}
use Rattle.walk_headers.proofs.PortRows.{named, twice}
use Rattle.walk_headers.proofs.ports.name_port.Goals as goal

pub returns-then-is_bad : goal.returns-then-is_bad
returns-then-is_bad c = λ design top done here at m rest under o.
    twice o (c.in_ok-is_bad.ensures.value at.earlier o.scope.earlier ∙ ap (λ (n : List ℕ). is_duplicate at.earlier (n ∷ [])) c.as_slice.ensures)
    c.if-is_bad.true

pub returns : goal.returns
returns c = λ design top done here at m rest under o.
    named (record c.args.walk.now.here { earlier = c.stands_twice.new.earlier }) c.in_ok-is_bad.is_bad o
    (c.in_ok-is_bad.ensures.value at.earlier o.scope.earlier ∙ ap (λ (n : List ℕ). is_duplicate at.earlier (n ∷ [])) c.as_slice.ensures)
    c.if-is_bad.false
    (subst (λ (n : List ℕ). AreAmong (at.earlier ++ n ∷ []) c.stands_twice.new.earlier) c.as_slice.ensures
    (c.in_ok-is_bad.ensures.earlier at.earlier o.scope.earlier))
    refl refl refl refl refl refl refl

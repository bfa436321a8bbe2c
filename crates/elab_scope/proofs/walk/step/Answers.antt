use Rattle.std.proofs.Common.{List, ◌∷◌, ℤ, subst, sym, w32, rules}
use Rattle.std.proofs.lemmas.Int.{to_z-of_z}
use Rattle.scope_meaning.specs.ScopeTrees.{modules}
use Rattle.walk_state.specs.declared.left.Left.{Left}
use Rattle.walk_state.specs.declared.left.Left.TheVariants as left
use Rattle.walk_state.specs.Standing.{IsStanding}
use Rattle.elab_scope.proofs.walk.step.Goals as goal

pub returns-in-Header : goal.returns-in-Header
returns-in-Header c = λ files top done here at tasks are s.
    let w = c.args.walk.now in
    c.step_header.ensures (modules files) top done here at tasks
    (subst (λ (f : Left). IsStanding (modules files) top done here at tasks (record w { left = f ∷ w.left })) c.in-Header.is s)

pub returns-in-Ports : goal.returns-in-Ports
returns-in-Ports c = λ files top done here at tasks are s.
    let w = c.args.walk.now in
    c.step_ports.ensures (modules files) top done here at tasks
    (subst (λ (f : Left). IsStanding (modules files) top done here at tasks (record w { left = f ∷ w.left })) c.in-Ports.is s)

pub returns-in-Items : goal.returns-in-Items
returns-in-Items c = λ files top done here at tasks are s.
    let w = c.args.walk.now in
    c.step_items.ensures files top done here at tasks are
    (subst (λ (f : Left). IsStanding (modules files) top done here at tasks (record w { left = f ∷ w.left })) c.in-Items.is s)

pub returns-in-Turn : goal.returns-in-Turn
returns-in-Turn c = λ files top done here at tasks are s.
    let w = c.args.walk.now in
    c.step_turn.ensures (modules files) top done here at tasks
    (subst (λ (n : ℤ). IsStanding (modules files) top done here at tasks (record w { left = left.Turn c.in-Turn.passes n ∷ w.left }))
    (sym (to_z-of_z w32 c.in-Turn.value (search rules)))
    (subst (λ (f : Left). IsStanding (modules files) top done here at tasks (record w { left = f ∷ w.left })) c.in-Turn.is s))

pub returns-in-Step : goal.returns-in-Step
returns-in-Step c = λ files top done here at tasks are s.
    let w = c.args.walk.now in
    c.step_on.ensures (modules files) top done here at tasks
    (subst (λ (n : ℤ). IsStanding (modules files) top done here at tasks (record w { left = left.Step c.in-Step.passes n ∷ w.left }))
    (sym (to_z-of_z w32 c.in-Step.value (search rules)))
    (subst (λ (f : Left). IsStanding (modules files) top done here at tasks (record w { left = f ∷ w.left })) c.in-Step.is s))

pub returns-in-Instances : goal.returns-in-Instances
returns-in-Instances c = λ files top done here at tasks are s.
    let w = c.args.walk.now in
    c.step_instances.ensures files top done here at tasks are
    (subst (λ (f : Left). IsStanding (modules files) top done here at tasks (record w { left = f ∷ w.left })) c.in-Instances.is s)

pub returns-in-EndOfBlock : goal.returns-in-EndOfBlock
returns-in-EndOfBlock c = λ files top done here at tasks are s.
    let w = c.args.walk.now in
    c.end_block.ensures (modules files) top done here at tasks
    (subst (λ (f : Left). IsStanding (modules files) top done here at tasks (record w { left = f ∷ w.left })) c.in-EndOfBlock.is s)

pub returns-in-EndOfModule : goal.returns-in-EndOfModule
returns-in-EndOfModule c = λ files top done here at tasks are s.
    let w = c.args.walk.now in
    c.end_module.ensures (modules files) top done here at tasks
    (subst (λ (f : Left). IsStanding (modules files) top done here at tasks (record w { left = f ∷ w.left })) c.in-EndOfModule.is s)

-- The typed form of `(a + b) >> 1` at 4 bits: `shr add v 0 v 1 k 32 1`, and of `a + b + 0` before the shift at 32 bits.
use Rattle.std.proofs.Common.{sym, ap, refl, subst₂, true, false, List, [], ◌∷◌}
use Rattle.vlog_tree.specs.declared.operator.BinaryOp.TheVariants as op
use Rattle.cov_types.specs.declared.kind.VarKind.TheVariants as kind
use Rattle.elab_types.specs.declared.flat_source.FlatVar.{FlatVar}
use Rattle.elab_types.specs.declared.flat_expression.FlatExpr.TheVariants as e
use Rattle.design_tree.specs.declared.operator.TypedBinary.TheVariants as two
use Rattle.design_tree.specs.declared.typed.Typed.TheVariants as t
use Rattle.typed_form.specs.TypedExpressions.{IsTyped, IsTypedAlone, number, var, computed, shifted, alone}
use Rattle.flat_meaning.proofs.Meanings.{of-Number}

abbrev bits4 : FlatVar
bits4 = record {
  scope = 0;
  name = [];
  place = record { file = 0; line = 1; column = 1 };
  kind = kind.Wire;
  width = 4;
  low = 0;
  vector = true;
  signed = false;
  integer = false;
  words = 1;
  word_low = 0;
  memory = false;
  start = 0;
}

abbrev vars : List FlatVar
vars = bits4 ∷ bits4 ∷ []

one_alone : IsTypedAlone vars (e.Number 32 true 1 0) (t.Number 32 1)
one_alone =
    alone
    (subst₂ (λ n by_sign. IsTyped vars (e.Number 32 true 1 0) n by_sign (t.Number 32 1)) (sym (ap (λ m. m.size) (of-Number vars 32 true 1 0)))
    (sym (ap (λ m. m.signed) (of-Number vars 32 true 1 0))) number)

carry_lost : IsTyped vars (e.Binary op.ShiftRight (e.Binary op.Add (e.Var 0) (e.Var 1)) (e.Number 32 true 1 0)) 4 false
    (t.Binary two.ShiftRight (t.Binary two.Add (t.Var 0) (t.Var 1)) (t.Number 32 1))
carry_lost = shifted {op = op.ShiftRight} refl (computed {op = op.Add} refl (var {v = bits4} (refl, refl)) (var {v = bits4} (refl, refl))) one_alone

carry_kept : IsTyped vars (e.Binary op.ShiftRight (e.Binary op.Add (e.Binary op.Add (e.Var 0) (e.Var 1)) (e.Number 32 true 0 0)) (e.Number 32 true 1 0)) 32
    false
    (t.Binary two.ShiftRight (t.Binary two.Add (t.Binary two.Add (t.ZeroExtend 32 (t.Var 0)) (t.ZeroExtend 32 (t.Var 1))) (t.Number 32 0)) (t.Number 32 1))
carry_kept =
    shifted {op = op.ShiftRight} refl (computed {op = op.Add} refl (computed {op = op.Add} refl (var {v = bits4} (refl, refl)) (var {v = bits4} (refl, refl)))
    number) one_alone

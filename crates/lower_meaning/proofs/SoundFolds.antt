-- Whether an expression is sound, by its parts.
use Rattle.std.proofs.Common.{◌≡◌, ◌∙◌, sym, ap, ℕ, Bool, ◌&&◌, List, [], ◌∷◌, map, refl}
use Rattle.std.specs.Prelude.{slice_get}
use Rattle.std.specs.List.{list_all}
use Rattle.vlog_tree.specs.declared.operator.UnaryOp.{UnaryOp}
use Rattle.vlog_tree.specs.declared.operator.BinaryOp.{BinaryOp}
use Rattle.vlog_tree.specs.declared.operator.SystemCall.{SystemCall}
use Rattle.elab_types.specs.declared.flat_source.FlatVar.{FlatVar}
use Rattle.elab_types.specs.declared.flat_expression.FlatExpr.{FlatExpr, para-roll-FlatExpr, out-FlatExpr}
use Rattle.elab_types.specs.declared.flat_expression.FlatExpr.TheVariants as e
use Rattle.elab_types.specs.declared.flat_expression.FlatExpr.TheOpen as x
use Rattle.elab_types.specs.declared.flat_expression.FlatSelect.{FlatSelect, para-FlatSelect, para-roll-FlatSelect}
use Rattle.elab_types.specs.declared.flat_expression.FlatSelect.TheVariants as select
use Rattle.design_meaning.proofs.ListLaws.{all_map}
use Rattle.lower_meaning.specs.Constants.{is_right}
use Rattle.lower_meaning.specs.SoundExpressions.{is_sound_var, is_sound_number, is_sound_operand, has_some, is_base, sound_node, sound_part, is_sound}

-- there is some of a list exactly where there is some of what is made of it
some_pairs : {A B C : Type 0} (to : Bool → C) (f : A → B) (xs : List A) → to (has_some (map f xs)) ≡ to (has_some xs)
some_pairs to f [] = refl
some_pairs to f (x ∷ xs) = refl

module _ (vars : List FlatVar) where
  abbrev pub is_sound_select : FlatSelect → Bool
  is_sound_select = para-FlatSelect Bool Bool (sound_node vars) sound_part

  pub sound-Number : (w : ℕ) (signed : Bool) (n free : ℕ) → is_sound vars (e.Number w signed n free) ≡ is_sound_number w n
  sound-Number w signed n free = ap (is_sound vars) (sym (e.rolls-Number w signed n free))
      ∙ para-roll-FlatExpr Bool Bool (sound_node vars) sound_part (x.Number w signed n free)

  pub sound-Var : (k : ℕ) → is_sound vars (e.Var k) ≡ is_sound_var (slice_get vars k)
  sound-Var k = ap (is_sound vars) (sym (e.rolls-Var k))
      ∙ para-roll-FlatExpr Bool Bool (sound_node vars) sound_part (x.Var k)

  pub sound-Select : (base : FlatExpr) (s : FlatSelect) → is_sound vars (e.Select base s) ≡ (is_base base && is_sound vars base && is_sound_select s)
  sound-Select base s = ap (is_sound vars) (sym (e.rolls-Select base s))
      ∙ para-roll-FlatExpr Bool Bool (sound_node vars) sound_part (x.Select base s)

  pub sound-Unary : (op : UnaryOp) (a : FlatExpr) → is_sound vars (e.Unary op a) ≡ is_sound vars a
  sound-Unary op a = ap (is_sound vars) (sym (e.rolls-Unary op a))
      ∙ para-roll-FlatExpr Bool Bool (sound_node vars) sound_part (x.Unary op a)

  pub sound-Binary : (op : BinaryOp) (a b : FlatExpr) → is_sound vars (e.Binary op a b) ≡ (is_sound vars a && is_sound vars b)
  sound-Binary op a b = ap (is_sound vars) (sym (e.rolls-Binary op a b))
      ∙ para-roll-FlatExpr Bool Bool (sound_node vars) sound_part (x.Binary op a b)

  pub sound-Choose : (test a b : FlatExpr) → is_sound vars (e.Choose test a b) ≡ (is_sound vars test && is_sound vars a && is_sound vars b)
  sound-Choose test a b = ap (is_sound vars) (sym (e.rolls-Choose test a b))
      ∙ para-roll-FlatExpr Bool Bool (sound_node vars) sound_part (x.Choose test a b)

  pub sound-Join : (parts : List FlatExpr) → is_sound vars (e.Join parts) ≡ (has_some parts && list_all (is_sound vars) parts)
  sound-Join parts = ap (is_sound vars) (sym (e.rolls-Join parts))
      ∙ para-roll-FlatExpr Bool Bool (sound_node vars) sound_part (x.Join parts)
      ∙ some_pairs (λ b. b && list_all (λ (p : FlatExpr × Bool). p.1) (map (λ part. (part, is_sound vars part)) parts)) (λ part. (part, is_sound vars part))
      parts
      ∙ ap (λ all. has_some parts && all) (all_map (λ (p : FlatExpr × Bool). p.1) (λ part. (part, is_sound vars part)) parts)

  pub sound-Repeat : (count : FlatExpr) (parts : List FlatExpr) → is_sound vars (e.Repeat count parts) ≡
      (is_right count && has_some parts && list_all (is_sound vars) parts)
  sound-Repeat count parts = ap (is_sound vars) (sym (e.rolls-Repeat count parts))
      ∙ para-roll-FlatExpr Bool Bool (sound_node vars) sound_part (x.Repeat count parts)
      ∙ some_pairs (λ b. is_right count && b && list_all (λ (p : FlatExpr × Bool). p.1) (map (λ part. (part, is_sound vars part)) parts))
      (λ part. (part, is_sound vars part)) parts
      ∙ ap (λ all. is_right count && has_some parts && all) (all_map (λ (p : FlatExpr × Bool). p.1) (λ part. (part, is_sound vars part)) parts)

  pub sound-Call : (name : SystemCall) (a : FlatExpr) → is_sound vars (e.Call name a) ≡ is_sound_operand name a (is_sound vars a)
  sound-Call name a = ap (is_sound vars) (sym (e.rolls-Call name a))
      ∙ para-roll-FlatExpr Bool Bool (sound_node vars) sound_part (x.Call name a)

  pub sound-At : (i : FlatExpr) → is_sound_select (select.At i) ≡ is_sound vars i
  sound-At i = ap is_sound_select (sym (select.rolls-At i))
      ∙ para-roll-FlatSelect Bool Bool (sound_node vars) sound_part (x.At i)

  pub sound-Between : (high low : FlatExpr) → is_sound_select (select.Between high low) ≡ (is_right high && is_right low)
  sound-Between high low = ap is_sound_select (sym (select.rolls-Between high low))
      ∙ para-roll-FlatSelect Bool Bool (sound_node vars) sound_part (x.Between high low)

  pub sound-Up : (i count : FlatExpr) → is_sound_select (select.Up i count) ≡ (is_sound vars i && is_right count)
  sound-Up i count = ap is_sound_select (sym (select.rolls-Up i count))
      ∙ para-roll-FlatSelect Bool Bool (sound_node vars) sound_part (x.Up i count)

  pub sound-Down : (i count : FlatExpr) → is_sound_select (select.Down i count) ≡ (is_sound vars i && is_right count)
  sound-Down i count = ap is_sound_select (sym (select.rolls-Down i count))
      ∙ para-roll-FlatSelect Bool Bool (sound_node vars) sound_part (x.Down i count)

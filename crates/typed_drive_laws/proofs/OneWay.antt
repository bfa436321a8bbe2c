-- Two states that hold the same words: a meaning has one value in both; and the state of variables without words.
use Rattle.std.proofs.Common.{◌≡◌, ◌∙◌, sym, ap, ap₂, refl, ℕ, zero, suc, Bool, ◌&&◌, List, [], ◌∷◌, map}
use Rattle.std.proofs.Common.{Option, Some, None, is_some, true≢false, ℤ, pos, negsuc}
use Rattle.vlog_tree.specs.declared.operator.UnaryOp.{UnaryOp}
use Rattle.vlog_tree.specs.declared.operator.UnaryOp.TheVariants as unary
use Rattle.vlog_tree.specs.declared.operator.BinaryOp.{BinaryOp}
use Rattle.vlog_tree.specs.declared.operator.BinaryOp.TheVariants as binary
use Rattle.elab_types.specs.declared.flat_source.FlatVar.{FlatVar}
use Rattle.circuit_run.specs.States.{State, held, word_at}
use Rattle.source_meaning.specs.Meaning.{Meaning, integer, reading}
use Rattle.source_meaning.specs.Operators.{unary_of, binary_of}
use Rattle.typed_form.specs.TypedLaws.{HasWidths}

-- ---- variables without words

-- each variable has its width and no word
abbrev pub blank : List FlatVar → State
blank vars = map (λ v. record { width = v.width; words = [] }) vars

pub blank_widths : (vars : List FlatVar) → HasWidths vars (blank vars)
blank_widths [] k v p = absurd (true≢false (sym (ap is_some p)))
blank_widths (x ∷ vars) zero v p = ap width_or p
  where
    width_or : Option FlatVar → ℕ
    width_or (Some v) = v.width
    width_or None = 0
blank_widths (x ∷ vars) (suc k) v p = blank_widths vars k v p

no_word : (w u : ℕ) (z : ℤ) → word_at (record { width = w; words = [] }) z ≡ word_at (record { width = u; words = [] }) z
no_word w u (pos n) = refl
no_word w u (negsuc n) = refl

-- it holds what the empty state does
pub blank_holds : (vars : List FlatVar) (k : ℕ) (z : ℤ) → word_at (held (blank vars) k) z ≡ word_at (held [] k) z
blank_holds [] k z = refl
blank_holds (x ∷ vars) zero z = no_word x.width 1 z
blank_holds (x ∷ vars) (suc k) z = blank_holds vars k z

-- ---- what operators mean, by the values of their operands in one state

-- a meaning that has in all states the values that it has in one
abbrev pub frozen : (ℕ → Bool → ℕ) → Meaning → Meaning
frozen f m = record m { value = λ s. f }

unary_at : (op : UnaryOp) (a : Meaning) (s t : State) → (unary_of op a).value s ≡ (unary_of op (frozen (a.value s) a)).value t
unary_at unary.Plus a s t = refl
unary_at _ a s t = refl

binary_at : (op : BinaryOp) (a b : Meaning) (s t : State) → (binary_of op a b).value s ≡ (binary_of op (frozen (a.value s) a) (frozen (b.value s) b)).value t
binary_at binary.Add a b s t = refl
binary_at _ a b s t = refl

pub unary_constant : (op : UnaryOp) (a : Meaning) → (unary_of op a).constant ≡ a.constant
unary_constant unary.Plus a = refl
unary_constant _ a = refl

pub binary_constant : (op : BinaryOp) (a b : Meaning) → (binary_of op a b).constant ≡ (a.constant && b.constant)
binary_constant binary.Add a b = refl
binary_constant _ a b = refl

module _ (s u : State) where
  -- the meaning has one value in both states
  abbrev pub SameValue : Meaning → Type 0
  SameValue m = m.value s ≡ m.value u

  pub unary_same : (op : UnaryOp) (a : Meaning) → SameValue a → SameValue (unary_of op a)
  unary_same op a h = unary_at op a s [] ∙ ap (λ f. (unary_of op (frozen f a)).value []) h ∙ sym (unary_at op a u [])

  pub binary_same : (op : BinaryOp) (a b : Meaning) → SameValue a → SameValue b → SameValue (binary_of op a b)
  binary_same op a b h k =
      binary_at op a b s [] ∙ ap₂ (λ f g. (binary_of op (frozen f a) (frozen g b)).value []) h k ∙ sym (binary_at op a b u [])

  -- what it reads as by itself
  pub same_integer : (a : Meaning) → SameValue a → integer a s ≡ integer a u
  same_integer a h = ap (λ f. reading a.size a.signed (f a.size a.signed)) h

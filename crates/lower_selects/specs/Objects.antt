-- Typed forms of words of memories, and of bits of variables and words.
use Rattle.std.specs.Prelude.{ℕ, Bool, false, ◌||◌}
use Rattle.elab_types.specs.declared.flat_source.FlatVar.{FlatVar}
use Rattle.design_tree.specs.declared.typed.Typed.{Typed}
use Rattle.design_tree.specs.declared.typed.Typed.TheVariants as t
use Rattle.typed_form.specs.TypedExpressions.{index}
use Rattle.lower_forms.specs.declared.form.Form.TheVariants as f
use Rattle.lower_forms.specs.declared.sized.SizedForm.{SizedForm}
use Rattle.lower_nodes.specs.Operators.{own, Is}
use Rattle.lower_selects.specs.declared.position.Position.{Position}

-- it has a range; an integer has one from 31 to 0
abbrev pub is_vector : FlatVar → Bool
is_vector v = v.vector || v.integer

-- a word of a memory
abbrev pub word : ℕ → ℕ → SizedForm → Typed
word k word_low at = t.Word k (index word_low at.signed (own at))

-- bits of what is read
abbrev pub IsPart : Typed → Position → SizedForm → Type 0
IsPart of p = Is p.width.bits false (f.Alone p.width.bits (t.Part p.width.bits of p.at))

-- Spans that are added one after the other.
use Rattle.std.proofs.Common.{◌≡◌, ◌∙◌, sym, ap, ℕ, Bool, true, false, ◌||◌, List, [], ◌∷◌, ◌++◌, append_assoc, append-nil}
use Rattle.std.proofs.lemmas.List.Elements.{All-append, All-nil, All-cons}
use Rattle.cov_types.specs.declared.var.Var.{Var}
use Rattle.circuit_run.specs.States.{Bit, IsBitOf}
use Rattle.design_meaning.proofs.ListLaws.{any_append, or_false}
use Rattle.flow_marks.specs.declared.span.Span.{Span}
use Rattle.flow_marks.specs.Slots.{is_in}
use Rattle.flow_spans.specs.Reads.{IsSpanOf, has_bit, Adds}

pub adds_none : (vars : List Var) (xs : List Span) (f : Bit → Bool) → ((b : Bit) → f b ≡ false) → Adds vars xs xs f
adds_none vars xs f h = record { more = []; behind = sym (append-nil xs); spans = All-nil (IsSpanOf vars); bits = λ b i. sym (h b) }

pub adds_one : (vars : List Var) (xs : List Span) (s : Span) (f : Bit → Bool) → IsSpanOf vars s → ((b : Bit) → IsBitOf vars b → is_in s b ≡ f b) → Adds
    vars xs (xs ++ s ∷ []) f
adds_one vars xs s f h e = record {
  more = s ∷ [];
  behind = ap (λ ys. xs ++ ys) (sym (append-nil (s ∷ [])));
  spans = All-cons (IsSpanOf vars) s [] h (All-nil (IsSpanOf vars));
  bits = λ b i. or_false (is_in s b) ∙ e b i;
}

pub adds_both : (vars : List Var) (xs ys zs : List Span) (f g : Bit → Bool) → Adds vars xs ys f → Adds vars ys zs g → Adds vars xs zs (λ b. f b || g b)
adds_both vars xs ys zs f g x y = record {
  more = x.more ++ y.more;
  behind = y.behind ∙ ap (λ r. r ++ y.more) x.behind ∙ append_assoc xs x.more y.more;
  spans = All-append (IsSpanOf vars) x.more y.more x.spans y.spans;
  bits = λ b i. any_append (λ s. is_in s b) x.more y.more ∙ ap (λ r. r || has_bit y.more b) (x.bits b i) ∙ ap (λ r. f b || r) (y.bits b i);
}

pub adds_same : (vars : List Var) (xs ys : List Span) (f g : Bit → Bool) → ((b : Bit) → f b ≡ g b) → Adds vars xs ys f → Adds vars xs ys g
adds_same vars xs ys f g e x = record { more = x.more; behind = x.behind; spans = x.spans; bits = λ b i. x.bits b i ∙ e b }

-- What is gathered of steps one after the other.
use Rattle.std.proofs.Common.{
  ◌≡◌,
  ◌∙◌,
  sym,
  ap,
  refl,
  ℕ,
  ◌==◌,
  Bool,
  true,
  false,
  ◌||◌,
  List,
  [],
  ◌∷◌,
  ◌++◌,
  append_assoc,
  append-nil,
  length,
  get_or,
  take,
  ◌+◌,
  ◌<◌,
  ◌≤◌,
}
use Rattle.std.proofs.lemmas.List.{take_all}
use Rattle.std.proofs.lemmas.List.Folds.{list_any_more}
use Rattle.std.specs.List.{list_any}
use Rattle.std.specs.Prelude.{All}
use Rattle.std.proofs.lemmas.List.Elements.{All-append, All-nil, All-cons}
use Rattle.cov_types.specs.declared.var.Var.{Var}
use Rattle.design_tree.specs.declared.step.Target.{Target}
use Rattle.circuit_run.specs.States.{Bit, IsBitOf}
use Rattle.design_meaning.specs.Spans as meaning
use Rattle.design_meaning.specs.Targets.{var_named, names_bit}
use Rattle.design_meaning.specs.Paths.{Event, reads, sets, defers}
use Rattle.design_meaning.specs.Reach.{event_reads, event_sets, event_defers}
use Rattle.design_meaning.proofs.ListLaws.{any_append, or_false}
use Rattle.flow_marks.specs.declared.span.Span.{Span}
use Rattle.flow_marks.specs.Slots.{is_in}
use Rattle.flow_spans.specs.Reads.{IsSpanOf, has_bit, Adds}
use Rattle.flow_spans.proofs.Adding.{adds_none, adds_both, adds_same}
use Rattle.flow_uses.specs.declared.lists.Lists.{Lists}
use Rattle.flow_uses.specs.Uses.{has_var}
use Rattle.flow_uses.specs.Walks.{IsAdditive, sets_bit, defers_bit}
use Rattle.flow_uses.specs.Gathers.{AddsNamed, Gathers}
use Rattle.flow_uses.proofs.Tests.{reads_add, sets_add, defers_add, sets_bit_add, defers_bit_add}

module _ (vars : List Var) where
  -- ---- named spans

  pub named_none : (xs : List Span) (f : Bit → Bool) (g : ℕ → Bool) → ((b : Bit) → f b ≡ false) → ((v : ℕ) → g v ≡ false) → AddsNamed vars xs xs f g
  named_none xs f g h k = record {
    more = [];
    behind = sym (append-nil xs);
    spans = All-nil (IsSpanOf vars);
    bits = λ b i. sym (h b);
    variables = λ v. sym
        (k v);
  }

  pub named_one : (xs : List Span) (s : Span) (f : Bit → Bool) (w : ℕ) → IsSpanOf vars s → s.var ≡ w → ((b : Bit) → IsBitOf vars b → is_in s b ≡ f b)
      → AddsNamed vars xs (xs ++ s ∷ []) f (λ v. w == v)
  named_one xs s f w h k e = record {
    more = s ∷ [];
    behind = refl;
    spans = All-cons (IsSpanOf vars) s [] h (All-nil (IsSpanOf vars));
    bits = λ b i. or_false (is_in s b) ∙ e b i;
    variables = λ v. or_false (s.var == v) ∙ ap (λ w. w == v) k;
  }

  pub named_both : (xs ys zs : List Span) (f g : Bit → Bool) (p q : ℕ → Bool) → AddsNamed vars xs ys f p → AddsNamed vars ys zs g q
      → AddsNamed vars xs zs (λ b. f b || g b) (λ v. p v || q v)
  named_both xs ys zs f g p q x y = record {
    more = x.more ++ y.more;
    behind = y.behind ∙ ap (λ r. r ++ y.more) x.behind ∙ append_assoc xs x.more y.more;
    spans = All-append (IsSpanOf vars) x.more y.more x.spans y.spans;
    bits = λ b i. any_append (λ s. is_in s b) x.more y.more ∙ ap (λ r. r || has_bit y.more b) (x.bits b i) ∙ ap (λ r. f b || r) (y.bits b i);
    variables = λ v. any_append (λ (s : Span). s.var == v) x.more y.more ∙ ap (λ r. r || has_var y.more v) (x.variables v) ∙ ap (λ r. p v || r) (y.variables v);
  }

  pub named_same : (xs ys : List Span) (f g : Bit → Bool) (p q : ℕ → Bool) → ((b : Bit) → f b ≡ g b) → ((v : ℕ) → p v ≡ q v)
      → AddsNamed vars xs ys f p → AddsNamed vars xs ys g q
  named_same xs ys f g p q e k x = record {
    more = x.more;
    behind = x.behind;
    spans = x.spans;
    bits = λ b i. x.bits b i ∙ e b;
    variables = λ v. x.variables
        v ∙ k v;
  }

  -- ---- all lists

  pub gathers_none : (o : Lists) (f : (Event → Bool) → Bool) → ((t : Event → Bool) → f t ≡ false) → Gathers vars o o f
  gathers_none o f h = record {
    reads = adds_none vars o.reads.items (λ b. f (event_reads b)) (λ b. h (event_reads b));
    sets = named_none o.sets.items (λ b. f (sets_bit b)) (λ v. f (event_sets v)) (λ b. h (sets_bit b)) (λ v. h (event_sets v));
    defers = named_none o.defers.items (λ b. f (defers_bit b)) (λ v. f (event_defers v)) (λ b. h (defers_bit b)) (λ v. h (event_defers v));
  }

  pub gathers_both : (o p q : Lists) (f g : (Event → Bool) → Bool) → Gathers vars o p f → Gathers vars p q g → Gathers vars o q (λ t. f t || g t)
  gathers_both o p q f g x y = record {
    reads = adds_both vars o.reads.items p.reads.items q.reads.items (λ b. f (event_reads b)) (λ b. g (event_reads b)) x.reads y.reads;
    sets = named_both o.sets.items p.sets.items q.sets.items (λ b. f (sets_bit b)) (λ b. g (sets_bit b)) (λ v. f (event_sets v)) (λ v. g (event_sets v))
        x.sets y.sets;
    defers = named_both o.defers.items p.defers.items q.defers.items (λ b. f (defers_bit b)) (λ b. g (defers_bit b)) (λ v. f (event_defers v)) (λ v. g
        (event_defers v)) x.defers y.defers;
  }

  pub gathers_same : (o p : Lists) (f g : (Event → Bool) → Bool) → ((t : Event → Bool) → IsAdditive t → f t ≡ g t) → Gathers vars o p f → Gathers vars o p g
  gathers_same o p f g h x = record {
    reads = adds_same vars o.reads.items p.reads.items (λ b. f (event_reads b)) (λ b. g (event_reads b)) (λ b. h (event_reads b) (reads_add b)) x.reads;
    sets = named_same o.sets.items p.sets.items (λ b. f (sets_bit b)) (λ b. g (sets_bit b)) (λ v. f (event_sets v)) (λ v. g (event_sets v))
        (λ b. h (sets_bit b) (sets_bit_add b)) (λ v. h (event_sets v) (sets_add v)) x.sets;
    defers = named_same o.defers.items p.defers.items (λ b. f (defers_bit b)) (λ b. g (defers_bit b)) (λ v. f (event_defers v)) (λ v. g (event_defers v))
        (λ b. h (defers_bit b) (defers_bit_add b)) (λ v. h (event_defers v) (defers_add v)) x.defers;
  }

  -- spans are read
  pub gathers_reads : (o p : Lists) (spans : List meaning.Span) → p.sets.items ≡ o.sets.items → p.defers.items ≡ o.defers.items
      → Adds vars o.reads.items p.reads.items (λ b. meaning.is_in_any b spans) → Gathers vars o p (λ t. t (reads spans))
  gathers_reads o p spans k l x = record {
    reads = x;
    sets = rw k (named_none o.sets.items (λ b. false) (λ v. false) (λ b. refl) (λ v. refl));
    defers = rw l (named_none o.defers.items (λ b. false) (λ v. false) (λ b. refl) (λ v. refl));
  }

  none_set : (targets : List Target) (f : Target → Bool) → ((x : Target) → f x ≡ false) → list_any f targets ≡ false
  none_set [] f h = refl
  none_set (x ∷ xs) f h = ap (λ r. r || list_any f xs) (h x) ∙ none_set xs f h

  -- targets are written at once; later
  pub gathers_sets : (o p : Lists) (targets : List Target) → p.reads.items ≡ o.reads.items → p.defers.items ≡ o.defers.items
      → AddsNamed vars o.sets.items p.sets.items (λ b. list_any (names_bit b) targets) (λ v. list_any (λ t. var_named t == v) targets)
      → Gathers vars o p (λ t. list_any (λ x. t (sets x)) targets)
  gathers_sets o p targets k l x = record {
    reads = rw k (adds_none vars o.reads.items (λ b. list_any (λ x. event_reads b (sets x)) targets) (λ b. none_set targets (λ x. false) (λ x. refl)));
    sets = x;
    defers = rw l (named_none o.defers.items (λ b. list_any (λ x. defers_bit b (sets x)) targets) (λ v. list_any (λ x. event_defers v (sets x)) targets)
        (λ b. none_set targets (λ x. false) (λ x. refl)) (λ v. none_set targets (λ x. false) (λ x. refl)));
  }

  pub gathers_defers : (o p : Lists) (targets : List Target) → p.reads.items ≡ o.reads.items → p.sets.items ≡ o.sets.items
      → AddsNamed vars o.defers.items p.defers.items (λ b. list_any (names_bit b) targets) (λ v. list_any (λ t. var_named t == v) targets)
      → Gathers vars o p (λ t. list_any (λ x. t (defers x)) targets)
  gathers_defers o p targets k l x = record {
    reads = rw k (adds_none vars o.reads.items (λ b. list_any (λ x. event_reads b (defers x)) targets) (λ b. none_set targets (λ x. false) (λ x. refl)));
    sets = rw l (named_none o.sets.items (λ b. list_any (λ x. sets_bit b (defers x)) targets) (λ v. list_any (λ x. event_sets v (defers x)) targets)
        (λ b. none_set targets (λ x. false) (λ x. refl)) (λ v. none_set targets (λ x. false) (λ x. refl)));
    defers = x;
  }

  -- ---- one after the other

  more_of : {X : Type 0} (p : X → Bool) (xs : List X) (i : ℕ) (x : X) → i < length xs → x ≡ get_or xs i x → (list_any p (take i xs) || p x) ≡ list_any p
      (take (i + 1) xs)
  more_of p xs i x lt k = ap (λ y. list_any p (take i xs) || p y) k ∙ sym (list_any_more p xs i x lt)

  all_of : {X : Type 0} (p : X → Bool) (xs : List X) (i : ℕ) → length xs ≤ i → list_any p (take i xs) ≡ list_any p xs
  all_of p xs i le = ap (list_any p) (take_all i xs le)

  pub adds_next : {X : Type 0} (o p q : List Span) (f : X → Bit → Bool) (xs : List X) (i : ℕ) (x : X) → i < length xs → x ≡ get_or xs i x
      → Adds vars o p (λ b. list_any (λ x. f x b) (take i xs)) → Adds vars p q (f x) → Adds vars o q (λ b. list_any (λ x. f x b) (take (i + 1) xs))
  adds_next o p q f xs i x lt k h m = adds_same vars o q (λ b. list_any (λ x. f x b) (take i xs) || f x b) (λ b. list_any (λ x. f x b) (take (i + 1) xs))
      (λ b. more_of (λ x. f x b) xs i x lt k) (adds_both vars o p q (λ b. list_any (λ x. f x b) (take i xs)) (f x) h m)

  pub adds_end : {X : Type 0} (o p : List Span) (f : X → Bit → Bool) (xs : List X) (i : ℕ) → length xs ≤ i
      → Adds vars o p (λ b. list_any (λ x. f x b) (take i xs)) → Adds vars o p (λ b. list_any (λ x. f x b) xs)
  adds_end o p f xs i le h = adds_same vars o p (λ b. list_any (λ x. f x b) (take i xs)) (λ b. list_any (λ x. f x b) xs) (λ b. all_of (λ x. f x b) xs i le) h

  pub named_next : {X : Type 0} (o p q : List Span) (f : X → Bit → Bool) (g : X → ℕ → Bool) (xs : List X) (i : ℕ) (x : X) → i < length xs → x ≡ get_or xs i x
      → AddsNamed vars o p (λ b. list_any (λ x. f x b) (take i xs)) (λ v. list_any (λ x. g x v) (take i xs)) → AddsNamed vars p q (f x) (g x)
      → AddsNamed vars o q (λ b. list_any (λ x. f x b) (take (i + 1) xs)) (λ v. list_any (λ x. g x v) (take (i + 1) xs))
  named_next o p q f g xs i x lt k h m =
      named_same o q (λ b. list_any (λ x. f x b) (take i xs) || f x b) (λ b. list_any (λ x. f x b) (take (i + 1) xs))
      (λ v. list_any (λ x. g x v) (take i xs) || g x v) (λ v. list_any (λ x. g x v) (take (i + 1) xs))
      (λ b. more_of (λ x. f x b) xs i x lt k) (λ v. more_of (λ x. g x v) xs i x lt k)
      (named_both o p q (λ b. list_any (λ x. f x b) (take i xs)) (f x) (λ v. list_any (λ x. g x v) (take i xs)) (g x) h m)

  pub named_end : {X : Type 0} (o p : List Span) (f : X → Bit → Bool) (g : X → ℕ → Bool) (xs : List X) (i : ℕ) → length xs ≤ i
      → AddsNamed vars o p (λ b. list_any (λ x. f x b) (take i xs)) (λ v. list_any (λ x. g x v) (take i xs))
      → AddsNamed vars o p (λ b. list_any (λ x. f x b) xs) (λ v. list_any (λ x. g x v) xs)
  named_end o p f g xs i le h =
      named_same o p (λ b. list_any (λ x. f x b) (take i xs)) (λ b. list_any (λ x. f x b) xs) (λ v. list_any (λ x. g x v) (take i xs)) (λ v. list_any (λ x.
      g x v) xs)
      (λ b. all_of (λ x. f x b) xs i le) (λ v. all_of (λ x. g x v) xs i le) h

  pub gathers_next : {X : Type 0} (o p q : Lists) (f : X → (Event → Bool) → Bool) (xs : List X) (i : ℕ) (x : X) → i < length xs → x ≡ get_or xs i x
      → Gathers vars o p (λ t. list_any (λ x. f x t) (take i xs)) → Gathers vars p q (f x) → Gathers vars o q (λ t. list_any (λ x. f x t) (take (i + 1) xs))
  gathers_next o p q f xs i x lt k h m = gathers_same o q (λ t. list_any (λ x. f x t) (take i xs) || f x t) (λ t. list_any (λ x. f x t) (take (i + 1) xs))
      (λ t a. more_of (λ x. f x t) xs i x lt k) (gathers_both o p q (λ t. list_any (λ x. f x t) (take i xs)) (f x) h m)

  pub gathers_end : {X : Type 0} (o p : Lists) (f : X → (Event → Bool) → Bool) (xs : List X) (i : ℕ) → length xs ≤ i
      → Gathers vars o p (λ t. list_any (λ x. f x t) (take i xs)) → Gathers vars o p (λ t. list_any (λ x. f x t) xs)
  gathers_end o p f xs i le h = gathers_same o p (λ t. list_any (λ x. f x t) (take i xs)) (λ t. list_any (λ x. f x t) xs) (λ t a. all_of (λ x. f x t) xs i le) h

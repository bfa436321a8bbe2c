-- Spans that meet a set, one after the other.
use Rattle.std.proofs.Common.{◌≡◌, ◌∙◌, sym, ap, subst, refl, ℕ, ◌+◌, ◌<◌, ◌≤◌, ◌==◌, ◌⊎◌, inl, inr, Bool, true, false, ◌||◌, Option, Some, None, List, [], ◌∷◌}
use Rattle.std.proofs.Common.{length, get_or, take, arith}
use Rattle.std.specs.Prelude.{All}
use Rattle.std.specs.List.{list_any}
use Rattle.std.proofs.lemmas.List.{take_all}
use Rattle.std.proofs.lemmas.List.Folds.{list_any_more}
use Rattle.std.proofs.lemmas.List.Elements.{All-get_or}
use Rattle.cov_types.specs.declared.var.Var.{Var}
use Rattle.circuit_run.specs.States.{Bit, IsBitOf, var_of}
use Rattle.flow_marks.specs.declared.slot.Slot.{Slot}
use Rattle.flow_marks.specs.declared.span.Span.{Span}
use Rattle.flow_marks.specs.Slots.{IsIn, IsSpan, IsOneOrAll, is_in, slot_of, slots_from}
use Rattle.flow_marks.specs.Sets.{MarkSet, has, Meets}
use Rattle.flow_marks.proofs.Tests.{within}
use Rattle.flow_spans.specs.Reads.{IsSpanOf, has_bit}
use Rattle.flow_least.specs.Least.{IsLeastOf, lesser_of}
use Rattle.flow_uses.specs.declared.uses.Uses.{Uses}
use Rattle.flow_least.specs.Met.{HasMet, HasMetEither, IsMarked, is_driven}
use Rattle.flow_least.proofs.Lessers.{least_more, least_same, least_both}

either_of : (a b : Bool) → (a || b) ≡ true → (a ≡ true) ⊎ (b ≡ true)
either_of true b h = inl refl
either_of false b h = inr h

or_right : (a b : Bool) → b ≡ true → (a || b) ≡ true
or_right true b h = refl
or_right false b h = h

or_left : (a b : Bool) → a ≡ true → (a || b) ≡ true
or_left true b h = refl
or_left false b h = absurd cc

module _ (m : MarkSet) (spans : List Span) (i : ℕ) (d : Span) (lt : i < length spans) where
  abbrev s : Span
  s = get_or spans i d

  more : (b : Bit) → has_bit (take (i + 1) spans) b ≡ (has_bit (take i spans) b || is_in s b)
  more b = list_any_more (λ s. is_in s b) spans i d lt

  keep : (v : ℕ) → HasMet m (take i spans) v → HasMet m (take (i + 1) spans) v
  keep v h = record {
    common = h.common;
    of_variable = h.of_variable;
    here = h.here;
    within = more h.common ∙ or_left (has_bit (take i spans) h.common) (is_in s h.common) h.within;
    in_set = h.in_set;
  }

  back : (v : ℕ) → HasMet m (take (i + 1) spans) v → HasMet m (take i spans) v ⊎ ((v ≡ s.var) × Meets m s)
  back v h = elim (either_of (has_bit (take i spans) h.common) (is_in s h.common) (sym (more h.common) ∙ h.within)) [
    | inl e ↦ inl (record { common = h.common; of_variable = h.of_variable; here = h.here; within = e; in_set = h.in_set })
    | inr e ↦ inr (sym h.of_variable ∙ sym (within s h.common e).var, record { common = h.common; here = h.here; within = e; in_set = h.in_set })
  ]

  pub met_next : (a : Option ℕ) → IsLeastOf (HasMet m (take i spans)) a → Meets m s → IsLeastOf (HasMet m (take (i + 1) spans)) (lesser_of a (Some s.var))
  met_next a h k = least_more (HasMet m (take i spans)) (HasMet m (take (i + 1) spans)) a s.var h keep
      (record {
        common = k.common;
        of_variable = sym (within s k.common k.within).var;
        here = k.here;
        within = more k.common ∙ or_right (has_bit (take i spans) k.common) (is_in s k.common) k.within;
        in_set = k.in_set;
      })
      (λ v x. elim (back v x) [ inl y ↦ inl y | inr y ↦ inr y.0 ])

  pub met_pass : (a : Option ℕ) → IsLeastOf (HasMet m (take i spans)) a → (Meets m s → ⊥) → IsLeastOf (HasMet m (take (i + 1) spans)) a
  met_pass a h k = least_same (HasMet m (take i spans)) (HasMet m (take (i + 1) spans)) a keep (λ v x. elim (back v x) [ inl y ↦ y | inr y ↦ absurd (k y.1) ]) h

-- ---- those that a process drives

pub met_either : (m : MarkSet) (u : Uses) (a b : Option ℕ) → IsLeastOf (HasMet m u.sets) a → IsLeastOf (HasMet m u.defers) b
    → IsLeastOf (HasMetEither m u) (lesser_of a b)
met_either m u a b h k = least_same (λ v. HasMet m u.sets v ⊎ HasMet m u.defers v) (HasMetEither m u) (lesser_of a b)
    (λ v x. elim x [
      | inl y ↦ record {
        common = y.common;
        of_variable = y.of_variable;
        here = y.here;
        within = or_left (has_bit u.sets y.common)
            (has_bit u.defers y.common) y.within;
        in_set = y.in_set;
      }
      | inr y ↦ record {
        common = y.common;
        of_variable = y.of_variable;
        here = y.here;
        within = or_right (has_bit u.sets y.common)
            (has_bit u.defers y.common) y.within;
        in_set = y.in_set;
      }
    ])
    (λ v x. elim (either_of (has_bit u.sets x.common) (has_bit u.defers x.common) x.within) [
      | inl e ↦ inl (record { common = x.common; of_variable = x.of_variable; here = x.here; within = e; in_set = x.in_set })
      | inr e ↦ inr (record { common = x.common; of_variable = x.of_variable; here = x.here; within = e; in_set = x.in_set })
    ])
    (least_both (HasMet m u.sets) (HasMet m u.defers) a b h k)

-- ---- spans that are put into a set one after the other

pub record IsFilled (m n : MarkSet) (spans : List Span) : Type 0 where
  pub slots : n.slots ≡ m.slots
  pub bits : (b : Bit) → IsIn m.slots b → has n b ≡ (has_bit spans b || has m b)

-- What is read in spans, and what a target surely names.
use Rattle.std.proofs.Common.{◌≡◌, ◌∙◌, sym, ap, ap₂, subst, refl, ℕ, ◌+◌, ◌<◌, Bool, true, false, not, ◌||◌, ◌&&◌, Option, List, [], ◌∷◌, ◌++◌, length, get_or}
use Rattle.std.proofs.Common.{take}
use Rattle.std.specs.Prelude.{All, flat_map}
use Rattle.std.specs.List.{list_any}
use Rattle.cov_types.specs.declared.var.Var.{Var}
use Rattle.design_tree.specs.declared.step.Target.{Target}
use Rattle.circuit_run.specs.States.{Bit, IsBitOf}
use Rattle.design_tree.specs.declared.typed.Typed.{Typed}
use Rattle.design_meaning.specs.Spans as meaning
use Rattle.design_meaning.specs.Spans.{reads_of}
use Rattle.design_meaning.specs.Targets.{names_bit, is_fixed, surely_names, target_reads}
use Rattle.design_meaning.specs.Paths.{assign_reads}
use Rattle.design_meaning.proofs.ListLaws.{any_append, any_flat}
use Rattle.flow_spans.proofs.Adding.{adds_both, adds_same}
use Rattle.flow_marks.specs.declared.slot.Slot.{Slot}
use Rattle.flow_marks.specs.declared.span.Span.{Span}
use Rattle.flow_marks.specs.declared.trail.Spot.{Spot}
use Rattle.flow_marks.specs.Slots.{IsIn, IsSpan, is_in, slots_from}
use Rattle.flow_marks.specs.Sets.{MarkSet, has}
use Rattle.flow_marks.specs.Takes.{Takes}
use Rattle.flow_marks.proofs.Taking.{takes_none, takes_same}
use Rattle.flow_spans.specs.declared.targets.Aim.{Aim}
use Rattle.flow_spans.specs.Aims.{IsAimOf}
use Rattle.flow_spans.specs.Reads.{IsSpanOf, has_bit, Adds}
use Rattle.flow_least.specs.Met.{HasMet, IsMarked}
use Rattle.flow_least.proofs.OfVars.{bit_of_vars, span_in, spans_in}
use Rattle.flow_paths.specs.declared.walk.Walk.{Walk}
use Rattle.flow_paths.specs.Walking.{IsEmpty, IsReady, IsUnwritten, IsJoined, IsNoted, Passes}
use Rattle.flow_paths.proofs.Passing.{joined_none, joined_same, passes_none}

assign_bits : (b : Bit) (targets : List Target) (value : Typed)
    → (meaning.is_in_any b (reads_of value) || list_any (λ t. meaning.is_in_any b (target_reads t)) targets) ≡ meaning.is_in_any b (assign_reads targets value)
assign_bits b targets value =
    ap (λ r. meaning.is_in_any b (reads_of value) || r) (sym (any_flat (meaning.is_in b) target_reads targets))
    ∙ sym (any_append (meaning.is_in b) (reads_of value) (flat_map target_reads targets))

pub assign_adds : (vars : List Var) (old mid new : List Span) (targets : List Target) (value : Typed)
    → Adds vars old mid (λ b. meaning.is_in_any b (reads_of value))
    → Adds vars mid new (λ b. list_any (λ t. meaning.is_in_any b (target_reads t)) targets)
    → Adds vars old new (λ b. meaning.is_in_any b (assign_reads targets value))
assign_adds vars old mid new targets value x y = adds_same vars old new
    (λ b. meaning.is_in_any b (reads_of value) || list_any (λ t. meaning.is_in_any b (target_reads t)) targets)
    (λ b. meaning.is_in_any b (assign_reads targets value))
    (λ b. assign_bits b targets value)
    (adds_both vars old mid new (λ b. meaning.is_in_any b (reads_of value)) (λ b. list_any (λ t. meaning.is_in_any b (target_reads t)) targets) x y)

module _ (vars : List Var) (o n : Walk) (r : IsReady vars o) where
  pub read_marked : (old spans : List Span) (wanted : Bit → Bool) → old ≡ [] → Adds vars old spans wanted → All (IsMarked o.left.slots) spans
  read_marked old spans wanted e a = subst (λ z. All (IsMarked o.left.slots) z) (sym (a.behind
      ∙ ap (λ z. z ++ a.more) e)) (spans_in vars o.left.slots r.left a.more a.spans)

  pub read_passes : (old spans : List Span) (wanted : Bit → Bool) → old ≡ [] → Adds vars old spans wanted → IsNoted o n spans → Passes o n (λ b. false) wanted
  read_passes old spans wanted e a x = record {
    takes = subst (λ (m : MarkSet). Takes o.left m o.trail.items n.trail.items (λ b. false)) (sym x.left)
        (subst (λ t. Takes o.left o.left o.trail.items t (λ b. false)) (sym x.trail) (takes_none o.left o.trail.items (λ b. false) (λ b i z. absurd (cc z))));
    slots = ap (λ (m : MarkSet). m.slots) x.spare;
    empty = subst IsEmpty (sym x.spare) r.empty;
    reads = joined_same o.early n.early (HasMet o.left spans) (IsUnwritten o.left wanted)
        (λ v z. record { bit = z.common; of_variable = z.of_variable; here = z.here; is_left = z.in_set; of_kind = sym (same z.common z.here) ∙ z.within })
        (λ v z. record { common = z.bit; of_variable = z.of_variable; here = z.here; within = same z.bit z.here ∙ z.of_kind; in_set = z.is_left }) x.reads;
  }
    where
      same : (b : Bit) → IsIn o.left.slots b → has_bit spans b ≡ wanted b
      same b h = ap (λ z. has_bit z b) (a.behind ∙ ap (λ z. z ++ a.more) e) ∙ a.bits b (bit_of_vars vars o.left.slots r.left b h)

  pub target_span : (t : Target) (aim : Aim) → IsAimOf vars t aim → IsSpan o.left.slots aim.span
  target_span t aim a = (span_in vars o.left.slots r.left aim.span a.span).span

  pub target_taken : (t : Target) (aim : Aim) → IsAimOf vars t aim → aim.fixed ≡ true
      → Takes o.left n.left o.trail.items n.trail.items (is_in aim.span) → n.spare ≡ o.spare → n.early ≡ o.early
      → Passes o n (λ b. surely_names b t) (λ b. false)
  target_taken t aim a f x s e = record {
    takes = takes_same o.left n.left o.trail.items n.trail.items (is_in aim.span) (λ b. surely_names b t)
        (λ b h. a.bits b (bit_of_vars vars o.left.slots r.left b h) ∙ ap (λ k. k && names_bit b t) (sym (sym a.fixed ∙ f))) x;
    slots = ap (λ (m : MarkSet). m.slots) s;
    empty = subst IsEmpty (sym s) r.empty;
    reads = subst (λ z. IsJoined o.early z (IsUnwritten o.left (λ b. false))) (sym e)
        (joined_none o.early (IsUnwritten o.left (λ b. false)) (λ v z. absurd (cc (z.of_kind))));
  }

  pub target_passed : (t : Target) (aim : Aim) → IsAimOf vars t aim → aim.fixed ≡ false → Passes o o (λ b. surely_names b t) (λ b. false)
  target_passed t aim a f = passes_none o (λ b. surely_names b t) (λ b. false) r.empty (λ b. ap (λ k. k && names_bit b t) (sym a.fixed ∙ f)) (λ b. refl)

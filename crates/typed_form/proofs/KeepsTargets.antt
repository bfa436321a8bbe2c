-- The typed form of a target names the same bits.
use Rattle.std.proofs.Common.{◌≡◌, ◌∙◌, sym, ap, ap₂, refl, subst, ℕ, ◌+◌, if◌then◌else◌, List, [], ◌∷◌, ◌++◌, map, ℤ, pos, ltb-false}
use Rattle.bit_values.specs.Values as value
use Rattle.elab_types.specs.declared.flat_source.FlatVar.{FlatVar}
use Rattle.elab_types.specs.declared.flat_expression.FlatExpr.{FlatExpr}
use Rattle.design_tree.specs.declared.typed.Typed.{Typed}
use Rattle.design_tree.specs.declared.typed.Typed.TheOpen as o
use Rattle.design_tree.specs.declared.step.Target.{Target}
use Rattle.design_tree.specs.declared.step.Target.TheVariants as target
use Rattle.circuit_run.specs.States.{State}
use Rattle.circuit_run.specs.Writes.{Part}
use Rattle.source_meaning.specs.Meaning.{Meaning, Object, whole, own}
use Rattle.source_meaning.specs.Selects.{object_size, meaning_of_object}
use Rattle.source_meaning.specs.Joins.{objects_of}
use Rattle.source_meaning.specs.Assignments as source
use Rattle.source_meaning.specs.Assignments.{assigned, total_width}
use Rattle.flat_meaning.specs.Expressions.{meaning, variable_of}
use Rattle.design_meaning.specs.Values.{of_width, value_in, node_value}
use Rattle.design_meaning.specs.Writes as design
use Rattle.design_meaning.specs.Writes.{target_width, target_widths}
use Rattle.typed_form.specs.TypedExpressions.{IsAssigned, truncated, as_it_is, index, signed}
use Rattle.typed_form.specs.TypedTargets.{AreTargets, AreTargetsOfAll, word, part, word_part, join, none, more}
use Rattle.typed_form.specs.TypedTargets as typed
use Rattle.typed_form.specs.TypedLaws.{HasWidths}
use Rattle.flat_meaning.proofs.Meanings.{of-Join}
use Rattle.typed_form.proofs.NodeValues.{in-Truncate}
use Rattle.typed_form.proofs.KeepsValue.{var_means, word_selects, part_selects, word_part_selects, index_place, keeps, keeps_alone, keeps_position}

-- The targets name what the objects name.
pub data SameTargets (s : State) : List Object → List Target → Type 0 where
  nothing : SameTargets s [] []
  and_then : {object : Object} {t : Target} {objects : List Object} {targets : List Target}
      → object_size object ≡ target_width s t → ((n : ℕ) → design.part_at s t n ≡ source.part_at s object n) → SameTargets s objects targets
      → SameTargets s (object ∷ objects) (t ∷ targets)

pub same_widths : {s : State} {objects : List Object} {targets : List Target} → SameTargets s objects targets → target_widths s targets ≡ total_width objects
same_widths nothing = refl
same_widths (and_then p q rest) = ap₂ ◌+◌ (sym p) (same_widths rest)

part_of : (s : State) (object : Object) (this : Target) (n w : ℕ) → object_size object ≡ target_width s this
    → ((n : ℕ) → design.part_at s this n ≡ source.part_at s object n)
    → design.part_at s this (value.select (target_width s this) n (pos w)) ≡ source.part_at s object (value.select (object_size object) n (pos w))
part_of s object this n w p q = q _ ∙ ap (λ v. source.part_at s object (value.select v n (pos w))) (sym p)

pub same_parts : {s : State} {objects : List Object} {targets : List Target} (n : ℕ) → SameTargets s objects targets
    → design.parts_at s targets n ≡ source.parts_at s objects n
same_parts n nothing = refl
same_parts {s} n (and_then {object} {t = this} {objects} {targets} p q rest) =
    ap₂ ◌∷◌
    (ap (λ w. design.part_at s this (value.select (target_width s this) n (pos w))) (same_widths rest) ∙ part_of s object this n (total_width objects) p q)
    (same_parts n rest)

same_append : {s : State} {os us : List Object} {ts vs : List Target} → SameTargets s os ts → SameTargets s us vs → SameTargets s (os ++ us) (ts ++ vs)
same_append nothing b = b
same_append (and_then p q rest) b = and_then p q (same_append rest b)

part_is : (var var' : ℕ) (at at' low low' : ℤ) (width width' n : ℕ) → var ≡ var' → at ≡ at' → low ≡ low' → width ≡ width'
    → ◌≡◌ {A = Part} (record { var = var; word = at; low = low; width = width; number = n })
    (record { var = var'; word = at'; low = low'; width = width'; number = n })
part_is var var' at at' low low' width width' n p q r w =
    ap (λ x. record { var = x; word = at; low = low; width = width; number = n }) p
    ∙ ap (λ x. record { var = var'; word = x; low = low; width = width; number = n }) q
    ∙ ap (λ x. record { var = var'; word = at'; low = x; width = width; number = n }) r
    ∙ ap (λ x. record { var = var'; word = at'; low = low'; width = x; number = n }) w

-- the target of one object
one_object : (s : State) (m : Meaning) (object : Object) (t : Target) → m ≡ meaning_of_object object → object_size object ≡ target_width s t
    → ((n : ℕ) → design.part_at s t n ≡ source.part_at s object n) → SameTargets s m.objects (t ∷ [])
one_object s m object t p q r = subst (λ x. SameTargets s x.objects (t ∷ [])) (sym p) (and_then q r nothing)

module _ (vars : List FlatVar) (s : State) (widths : HasWidths vars s) where
  mutual
    pub keeps_targets : {of : FlatExpr} {ts : List Target} → AreTargets vars of ts → SameTargets s (meaning vars of).objects ts
    keeps_targets (typed.whole {k} {v} p) =
        one_object s _ (whole (variable_of k v)) (target.Whole k) (var_means vars s widths k v p.0) (sym (widths k v p.0))
        (λ n. part_is k k (pos 0) (pos 0) (pos 0) (pos 0) _ _ n refl refl refl (widths k v p.0))
    keeps_targets (word {k} {v} {i} {a} p d) =
        let here = keeps_alone vars s widths d in
        let the_word = word_selects vars s widths k v i a p here in
        one_object s _ the_word.object (target.Word k (index v.word_low (signed vars i) a)) the_word.means (sym (widths k v p.0))
        (λ n. part_is k k _ _ (pos 0) (pos 0) _ _ n refl (index_place s v.word_low a (meaning vars i) here) refl (widths k v p.0))
    keeps_targets (part {k} {w} {v} {s = which} {at} p d) =
        let q = keeps_position vars s widths d in
        let the_part = part_selects vars s widths k w v which at p q in
        one_object s _ the_part.object (target.Part k w at) the_part.means q.width (λ n. part_is k k (pos 0) (pos 0) _ _ _ _ n refl refl q.place (sym q.width))
    keeps_targets (word_part {w} k {v} i {s = which} {a} {at} p da d) =
        let here = keeps_alone vars s widths da in
        let q = keeps_position vars s widths d in
        let the_part = word_part_selects vars s widths k w v i which a at p here q in
        one_object s _ the_part.object (target.WordPart k (index v.word_low (signed vars i) a) w at) the_part.means q.width
        (λ n. part_is k k _ _ _ _ _ _ n refl (index_place s v.word_low a (meaning vars i) here) q.place (sym q.width))
    keeps_targets (join {parts} {ts} d) = subst (λ m. SameTargets s m.objects ts) (sym (of-Join vars parts)) (keeps_targets_of_all d)

    pub keeps_targets_of_all : {parts : List FlatExpr} {ts : List Target} → AreTargetsOfAll vars parts ts
        → SameTargets s (objects_of (map (meaning vars) parts)) ts
    keeps_targets_of_all none = nothing
    keeps_targets_of_all (more d ds) = same_append (keeps_targets d) (keeps_targets_of_all ds)

  -- the typed form of a right side has its value
  pub keeps_assigned : {w : ℕ} {of : FlatExpr} {a : Typed} → IsAssigned vars w of a → value_in s a ≡ of_width w (assigned w (meaning vars of) s)
  keeps_assigned {w} (truncated {of} {a} h d) =
      let m = meaning vars of in
      in-Truncate s w a
      ∙ ap (λ v. node_value s (o.Truncate w v)) (keeps_alone vars s widths d)
      ∙ ap (λ c. of_width w (if c then value.truncate w (own m s) else m.value s w m.signed)) (sym h)
  keeps_assigned {w} (as_it_is {of} {a} h d) =
      let m = meaning vars of in
      keeps vars s widths d (ltb-false w m.size h) ∙ ap (λ c. of_width w (if c then value.truncate w (own m s) else m.value s w m.signed)) (sym h)

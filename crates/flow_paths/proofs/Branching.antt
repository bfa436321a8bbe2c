-- Walks over branches that are taken back.
use Rattle.std.proofs.Common.{◌≡◌, ◌∙◌, sym, ap, ap₂, subst, refl, ℕ, ◌+◌, ◌<◌, ◌≤◌, ◌⊎◌, inl, inr, Bool, true, false, not, ◌||◌, ◌&&◌, Option, Some, None}
use Rattle.std.proofs.Common.{List, [], ◌∷◌, ◌++◌, length, get_or, take, drop, arith}
use Rattle.std.specs.List.{list_any, list_all}
use Rattle.std.proofs.lemmas.List.{take-append-le, drop-append-le, take_all, drop_all}
use Rattle.std.proofs.lemmas.List.Folds.{list_all_more}
use Rattle.cov_types.specs.declared.var.Var.{Var}
use Rattle.circuit_run.specs.States.{Bit}
use Rattle.flow_marks.specs.declared.slot.Slot.{Slot}
use Rattle.flow_marks.specs.declared.trail.Spot.{Spot}
use Rattle.flow_marks.specs.Slots.{IsIn, slots_from}
use Rattle.flow_marks.specs.Sets.{MarkSet, has}
use Rattle.flow_marks.specs.Takes.{AreIn, Takes, is_listed, spot_bit}
use Rattle.flow_least.specs.Least.{IsLeastOf, lesser_of}
use Rattle.flow_paths.specs.declared.walk.Walk.{Walk}
use Rattle.flow_paths.specs.Walking.{IsEmpty, IsReady, IsUnwritten, IsJoined, Passes, Branches, IsBack, IsCommon, TakesAll}
use Rattle.flow_paths.proofs.Passing.{joined_both, joined_same, unwritten_by, in_left, in_right, or_cases}

front : (xs ys : List Spot) → take (length xs) (xs ++ ys) ≡ xs
front xs ys = take-append-le (length xs) xs ys (omega arith) ∙ take_all (length xs) xs (omega arith)

behind : (xs ys : List Spot) → drop (length xs) (xs ++ ys) ≡ ys
behind xs ys = drop-append-le (length xs) xs ys (omega arith) ∙ ap (λ z. z ++ ys) (drop_all (length xs) xs (omega arith))

restored : (h l : Bool) → (l ≡ true → h ≡ true) → (l || (h && not l)) ≡ h
restored true true k = refl
restored true false k = refl
restored false true k = sym (k refl)
restored false false k = refl

same_gone : (h l w : Bool) → h ≡ true → (h && not w) ≡ (h && not l) → l ≡ w
same_gone true true true k e = refl
same_gone true true false k e = absurd (cc e)
same_gone true false true k e = absurd (cc e)
same_gone true false false k e = refl
same_gone false l w k e = absurd (cc k)

-- what was taken since the walk began is back
pub branch_back : (o m n : Walk) (from : ℕ) (taken : List Spot) (w e : Bit → Bool) → from ≡ length o.trail.items → Passes o m w e → IsBack m n from taken
    → Branches o n taken w e
branch_back o m n from taken w e f x y = record {
  left_slots = y.left_slots ∙ x.takes.slots;
  left = λ b h. y.left b (there b h) ∙ ap (λ z. is_listed z b || has m.left b) list ∙ ap (λ r. is_listed x.takes.more b || r) (x.takes.left b h)
      ∙ restored (has o.left b) (is_listed x.takes.more b) (x.takes.were b h);
  trail = y.trail ∙ ap₂ (λ k z. take k z) f x.takes.trails ∙ front o.trail.items x.takes.more;
  slots = ap (λ (z : MarkSet). z.slots) y.spare ∙ x.slots;
  empty = subst IsEmpty (sym y.spare) x.empty;
  inside = subst (λ z. AreIn o.left.slots z) (sym list) x.takes.inside;
  gone = λ b h t. ap (λ z. is_listed z b) list ∙ same_gone (has o.left b) (is_listed x.takes.more b) (w b) t (sym (x.takes.bits b h) ∙ x.takes.left b h);
  reads = subst (λ z. IsJoined o.early z (IsUnwritten o.left e)) (sym y.early) x.reads;
}
  where
    list : taken ≡ x.takes.more
    list = y.taken_is ∙ ap₂ (λ k z. drop k z) f x.takes.trails ∙ behind o.trail.items x.takes.more

    there : (b : Bit) → IsIn o.left.slots b → IsIn m.left.slots b
    there b h = subst (λ (z : List Slot). IsIn z b) (sym x.takes.slots) h

pub ready_branch : (vars : List Var) (o n : Walk) (t : List Spot) (w e : Bit → Bool) → IsReady vars o → Branches o n t w e → IsReady vars n
ready_branch vars o n t w e r x = record {
  left = x.left_slots ∙ r.left;
  spare = x.slots ∙ r.spare;
  empty = x.empty;
  trail = subst (λ z. AreIn n.left.slots z) (sym x.trail) (subst (λ (z : List Slot). AreIn z o.trail.items) (sym x.left_slots) r.trail);
}

-- the bits that one branch and then another surely writes
pub branch_both : (vars : List Var) (o m n q : Walk) (t s both : List Spot) (w v e f : Bit → Bool) → IsReady vars o → Branches o m t w e → Branches m n s v f
    → q.left ≡ n.left → q.trail.items ≡ n.trail.items → q.early ≡ n.early → IsCommon n.spare q.spare t s both
    → Branches o q both (λ b. w b && v b) (λ b. e b || f b)
branch_both vars o m n q t s both w v e f r x y k l p c = record {
  left_slots = ap (λ (z : MarkSet). z.slots) k ∙ y.left_slots ∙ x.left_slots;
  left = λ b h. ap (λ (z : MarkSet). has z b) k ∙ y.left b (there b h) ∙ x.left b h;
  trail = l ∙ y.trail ∙ x.trail;
  slots = c.slots ∙ y.slots ∙ x.slots;
  empty = c.empty;
  inside = subst (λ (z : List Slot). AreIn z both) (sym same) c.inside;
  gone = λ b h g. c.bits b (subst (λ (z : List Slot). IsIn z b) same h) ∙ ap₂ ◌&&◌ (x.gone b h g) (y.gone b (there b h) (x.left b h ∙ g));
  reads = subst (λ z. IsJoined o.early z (IsUnwritten o.left (λ b. e b || f b))) (sym p)
      (joined_both o.early m.early n.early (IsUnwritten o.left e) (IsUnwritten m.left f) (IsUnwritten o.left (λ b. e b || f b))
      (unwritten_by o.left o.left e (λ b. e b || f b) refl (λ b i g. g) (λ b i g. in_left (e b) (f b) g))
      (unwritten_by m.left o.left f (λ b. e b || f b) (sym x.left_slots) (λ b i g. sym (x.left b (here b i)) ∙ g) (λ b i g. in_right (e b) (f b) g))
      back x.reads y.reads);
}
  where
    there : (b : Bit) → IsIn o.left.slots b → IsIn m.left.slots b
    there b h = subst (λ (z : List Slot). IsIn z b) (sym x.left_slots) h

    here : (b : Bit) → IsIn m.left.slots b → IsIn o.left.slots b
    here b h = subst (λ (z : List Slot). IsIn z b) x.left_slots h

    same : o.left.slots ≡ n.spare.slots
    same = r.left ∙ sym (y.slots ∙ x.slots ∙ r.spare)

    back : (u : ℕ) → IsUnwritten o.left (λ b. e b || f b) u → IsUnwritten o.left e u ⊎ IsUnwritten m.left f u
    back u z = elim (or_cases (e z.bit) (f z.bit) z.of_kind) [
      | inl g ↦ inl (record { bit = z.bit; of_variable = z.of_variable; here = z.here; is_left = z.is_left; of_kind = g })
      | inr g ↦ inr (record {
        bit = z.bit;
        of_variable = z.of_variable;
        here = there z.bit z.here;
        is_left = x.left z.bit z.here ∙ z.is_left;
        of_kind = g;
      })
    ]

-- both lists lie inside the set that is used for what they share
pub lists_inside : (vars : List Var) (o m n : Walk) (t s : List Spot) (w v e f : Bit → Bool) → IsReady vars o → Branches o m t w e → Branches m n s v f
    → AreIn n.spare.slots t × AreIn n.spare.slots s
lists_inside vars o m n t s w v e f r x y = (
  subst (λ (z : List Slot). AreIn z t) (r.left ∙ sym (y.slots ∙ x.slots ∙ r.spare)) x.inside,
  subst (λ (z : List Slot). AreIn z s) (x.left_slots ∙ r.left ∙ sym (y.slots ∙ x.slots ∙ r.spare)) y.inside,
)

pub branch_same : (o n : Walk) (t : List Spot) (w v e f : Bit → Bool) → ((b : Bit) → w b ≡ v b) → ((b : Bit) → e b ≡ f b) → Branches o n t w e
    → Branches o n t v f
branch_same o n t w v e f h k x = record {
  left_slots = x.left_slots;
  left = x.left;
  trail = x.trail;
  slots = x.slots;
  empty = x.empty;
  inside = x.inside;
  gone = λ b i g. x.gone b i g ∙ h b;
  reads = joined_same o.early n.early (IsUnwritten o.left e) (IsUnwritten o.left f)
      (unwritten_by o.left o.left e f refl (λ b i l. l) (λ b i l. sym (k b) ∙ l)) (unwritten_by o.left o.left f e refl (λ b i l. l) (λ b i l. k b ∙ l)) x.reads;
}

still : (h l w : Bool) → (h ≡ true → l ≡ w) → (h && not l) ≡ (h && not w)
still true l w k = ap not (k refl)
still false l w k = refl

-- the listed bits are taken
pub branch_taken : (o m n : Walk) (t : List Spot) (w e : Bit → Bool) → Branches o m t w e → TakesAll m n t → Passes o n w e
branch_taken o m n t w e x y = record {
  takes = record {
    slots = y.takes.slots ∙ x.left_slots;
    bits = λ b h. y.takes.bits b (there b h) ∙ ap (λ r. r && not (is_listed t b)) (x.left b h) ∙ still (has o.left b) (is_listed t b) (w b) (x.gone b h);
    more = y.takes.more;
    trails = y.takes.trails ∙ ap (λ z. z ++ y.takes.more) x.trail;
    inside = subst (λ (z : List Slot). AreIn z y.takes.more) x.left_slots y.takes.inside;
    left = λ b h. y.takes.left b (there b h) ∙ ap (λ r. r && not (is_listed y.takes.more b)) (x.left b h);
    were = λ b h g. sym (x.left b h) ∙ y.takes.were b (there b h) g;
  };
  slots = ap (λ (z : MarkSet). z.slots) y.spare ∙ x.slots;
  empty = subst IsEmpty (sym y.spare) x.empty;
  reads = subst (λ z. IsJoined o.early z (IsUnwritten o.left e)) (sym y.early) x.reads;
}
  where
    there : (b : Bit) → IsIn o.left.slots b → IsIn m.left.slots b
    there b h = subst (λ (z : List Slot). IsIn z b) (sym x.left_slots) h

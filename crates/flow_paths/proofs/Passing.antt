-- Walks one after the other.
use Rattle.std.proofs.Common.{◌≡◌, ◌∙◌, sym, ap, ap₂, subst, refl, ℕ, ◌+◌, ◌<◌, ◌≤◌, ◌⊎◌, inl, inr, Bool, true, false, not, ◌||◌, ◌&&◌, Option, Some, None}
use Rattle.std.proofs.Common.{List, [], ◌∷◌, ◌++◌, length, get_or, take, arith}
use Rattle.std.specs.List.{list_any}
use Rattle.std.proofs.lemmas.List.{take_more}
use Rattle.std.proofs.lemmas.List.Folds.{list_any_more}
use Rattle.std.proofs.lemmas.List.Elements.{All-append}
use Rattle.cov_types.specs.declared.var.Var.{Var}
use Rattle.design_tree.specs.declared.step.Step.{Step}
use Rattle.circuit_run.specs.States.{Bit}
use Rattle.design_meaning.proofs.ListLaws.{any_append, or_false}
use Rattle.flow_marks.specs.declared.slot.Slot.{Slot}
use Rattle.flow_marks.specs.declared.trail.Spot.{Spot}
use Rattle.flow_marks.specs.Slots.{IsIn, slots_from}
use Rattle.flow_marks.specs.Sets.{MarkSet, has}
use Rattle.flow_marks.specs.Takes.{AreIn, Takes, spot_bit}
use Rattle.flow_marks.proofs.Taking.{takes_more, takes_same, takes_none}
use Rattle.flow_least.specs.Least.{IsLeastOf, lesser_of}
use Rattle.flow_least.proofs.Lessers.{least_same, least_none, least_both, lesser_assoc}
use Rattle.flow_paths.specs.declared.walk.Walk.{Walk}
use Rattle.flow_paths.specs.Walking.{IsEmpty, IsReady, IsUnwritten, IsJoined, Passes, always_step, early_step, always_steps, early_steps}

-- ---- tests

and_left : (a b : Bool) → (a && b) ≡ true → a ≡ true
and_left true b h = refl
and_left false b h = h

and_right : (a b : Bool) → (a && b) ≡ true → b ≡ true
and_right true b h = h
and_right false b h = absurd (cc h)

and_both : (a b : Bool) → a ≡ true → b ≡ true → (a && b) ≡ true
and_both true b h k = k
and_both false b h k = h

pub or_cases : (a b : Bool) → (a || b) ≡ true → (a ≡ true) ⊎ (b ≡ true)
or_cases true b h = inl refl
or_cases false b h = inr h

pub in_left : (a b : Bool) → a ≡ true → (a || b) ≡ true
in_left true b h = refl
in_left false b h = absurd (cc h)

pub in_right : (a b : Bool) → b ≡ true → (a || b) ≡ true
in_right true b h = refl
in_right false b h = h

-- ---- what is found is joined

lesser_none : (a : Option ℕ) → a ≡ lesser_of a None
lesser_none None = refl
lesser_none (Some a) = refl

pub joined_none : (a : Option ℕ) (P : ℕ → Type 0) → ((v : ℕ) → P v → ⊥) → IsJoined a a P
joined_none a P h = record { found = None; joined = lesser_none a; least = least_none P h }

pub joined_both : (a b c : Option ℕ) (P Q R : ℕ → Type 0) → ((v : ℕ) → P v → R v) → ((v : ℕ) → Q v → R v) → ((v : ℕ) → R v → P v ⊎ Q v)
    → IsJoined a b P → IsJoined b c Q → IsJoined a c R
joined_both a b c P Q R f g h x y = record {
  found = lesser_of x.found y.found;
  joined = y.joined ∙ ap (λ r. lesser_of r y.found) x.joined ∙ lesser_assoc a x.found y.found;
  least = least_same (λ v. P v ⊎ Q v) R (lesser_of x.found y.found) (λ v z. elim z [ inl p ↦ f v p | inr q ↦ g v q ]) h
      (least_both P Q x.found y.found x.least y.least);
}

pub joined_same : (a b : Option ℕ) (P Q : ℕ → Type 0) → ((v : ℕ) → P v → Q v) → ((v : ℕ) → Q v → P v) → IsJoined a b P → IsJoined a b Q
joined_same a b P Q f g x = record { found = x.found; joined = x.joined; least = least_same P Q x.found f g x.least }

-- ---- unwritten bits

pub unwritten_by : (m n : MarkSet) (e f : Bit → Bool) → n.slots ≡ m.slots → ((b : Bit) → IsIn m.slots b → has m b ≡ true → has n b ≡ true)
    → ((b : Bit) → IsIn m.slots b → e b ≡ true → f b ≡ true) → (v : ℕ) → IsUnwritten m e v → IsUnwritten n f v
unwritten_by m n e f s h k v x = record {
  bit = x.bit;
  of_variable = x.of_variable;
  here = subst (λ (z : List Slot). IsIn z x.bit) (sym s) x.here;
  is_left = h x.bit x.here x.is_left;
  of_kind = k x.bit x.here x.of_kind;
}

-- ---- walks

pub ready_after : (vars : List Var) (o n : Walk) (w e : Bit → Bool) → IsReady vars o → Passes o n w e → IsReady vars n
ready_after vars o n w e r x = record {
  left = x.takes.slots ∙ r.left;
  spare = x.slots ∙ r.spare;
  empty = x.empty;
  trail = subst (λ t. AreIn n.left.slots t) (sym x.takes.trails) (subst (λ (z : List Slot). AreIn z (o.trail.items ++ x.takes.more)) (sym x.takes.slots)
      (All-append (λ s. IsIn o.left.slots (spot_bit s)) o.trail.items x.takes.more r.trail x.takes.inside));
}

pub passes_same : (o n : Walk) (w v e f : Bit → Bool) → ((b : Bit) → IsIn o.left.slots b → w b ≡ v b) → ((b : Bit) → IsIn o.left.slots b → e b ≡ f b)
    → Passes o n w e → Passes o n v f
passes_same o n w v e f h k x = record {
  takes = takes_same o.left n.left o.trail.items n.trail.items w v h x.takes;
  slots = x.slots;
  empty = x.empty;
  reads = joined_same o.early n.early (IsUnwritten o.left e) (IsUnwritten o.left f)
      (unwritten_by o.left o.left e f refl (λ b i l. l) (λ b i l. sym (k b i) ∙ l)) (unwritten_by o.left o.left f e refl (λ b i l. l) (λ b i l. k b i
      ∙ l)) x.reads;
}

pub passes_none : (o : Walk) (w e : Bit → Bool) → IsEmpty o.spare → ((b : Bit) → w b ≡ false) → ((b : Bit) → e b ≡ false) → Passes o o w e
passes_none o w e h k l = record {
  takes = takes_none o.left o.trail.items w (λ b i x. absurd (cc (x, k b)));
  slots = refl;
  empty = h;
  reads = joined_none o.early (IsUnwritten o.left e) (λ v x. absurd (cc (x.of_kind, l x.bit)));
}

pub passes_both : (o m n : Walk) (w v e f : Bit → Bool) → Passes o m w e → Passes m n v f
    → Passes o n (λ b. w b || v b) (λ b. e b || (not (w b) && f b))
passes_both o m n w v e f x y = record {
  takes = takes_more o.left m.left n.left o.trail.items m.trail.items n.trail.items w v x.takes y.takes;
  slots = y.slots ∙ x.slots;
  empty = y.empty;
  reads = joined_both o.early m.early n.early (IsUnwritten o.left e) (IsUnwritten m.left f) (IsUnwritten o.left (λ b. e b || (not (w b) && f b)))
      (unwritten_by o.left o.left e (λ b. e b || (not (w b) && f b)) refl (λ b i l. l) (λ b i l. in_left (e b) (not (w b) && f b) l))
      into back x.reads y.reads;
}
  where
    here : (b : Bit) → IsIn m.left.slots b → IsIn o.left.slots b
    here b h = subst (λ (z : List Slot). IsIn z b) x.takes.slots h

    into : (u : ℕ) → IsUnwritten m.left f u → IsUnwritten o.left (λ b. e b || (not (w b) && f b)) u
    into u z =
        let both : (has o.left z.bit && not (w z.bit)) ≡ true = sym (x.takes.bits z.bit (here z.bit z.here)) ∙ z.is_left in
        record {
          bit = z.bit;
          of_variable = z.of_variable;
          here = here z.bit z.here;
          is_left = and_left (has o.left z.bit) (not (w z.bit)) both;
          of_kind = in_right (e z.bit) (not (w z.bit) && f z.bit)
              (and_both (not (w z.bit)) (f z.bit) (and_right (has o.left z.bit) (not (w z.bit)) both) z.of_kind);
        }

    back : (u : ℕ) → IsUnwritten o.left (λ b. e b || (not (w b) && f b)) u → IsUnwritten o.left e u ⊎ IsUnwritten m.left f u
    back u z = elim (or_cases (e z.bit) (not (w z.bit) && f z.bit) z.of_kind) [
      | inl k ↦ inl (record { bit = z.bit; of_variable = z.of_variable; here = z.here; is_left = z.is_left; of_kind = k })
      | inr k ↦ inr (record {
        bit = z.bit;
        of_variable = z.of_variable;
        here = subst (λ (t : List Slot). IsIn t z.bit) (sym x.takes.slots) z.here;
        is_left = x.takes.bits z.bit z.here ∙ and_both (has o.left z.bit) (not (w z.bit)) z.is_left (and_left (not (w z.bit)) (f z.bit) k);
        of_kind = and_right (not (w z.bit)) (f z.bit) k;
      })
    ]

-- reads alone, and then anything; writes alone after anything
pub reads_then : (o m n : Walk) (e w f : Bit → Bool) → Passes o m (λ b. false) e → Passes m n w f → Passes o n w (λ b. e b || f b)
reads_then o m n e w f x y = passes_both o m n (λ b. false) w e f x y

-- ---- over lists

more_of : {X : Type 0} (p : X → Bool) (xs : List X) (i : ℕ) (x : X) → i < length xs → x ≡ get_or xs i x
    → (list_any p (take i xs) || p x) ≡ list_any p (take (i + 1) xs)
more_of p xs i x lt k = ap (λ y. list_any p (take i xs) || p y) k ∙ sym (list_any_more p xs i x lt)

pub reads_next : {X : Type 0} (o p q : Walk) (f : X → Bit → Bool) (xs : List X) (i : ℕ) (x : X) → i < length xs → x ≡ get_or xs i x
    → Passes o p (λ b. false) (λ b. list_any (λ x. f x b) (take i xs)) → Passes p q (λ b. false) (f x)
    → Passes o q (λ b. false) (λ b. list_any (λ x. f x b) (take (i + 1) xs))
reads_next o p q f xs i x lt k h m =
    passes_same o q (λ b. false) (λ b. false) (λ b. list_any (λ x. f x b) (take i xs) || f x b) (λ b. list_any (λ x. f x b) (take (i + 1) xs))
    (λ b i. refl) (λ b j. more_of (λ x. f x b) xs i x lt k) (passes_both o p q (λ b. false) (λ b. false) (λ b. list_any (λ x. f x b) (take i xs)) (f x) h m)

pub writes_next : {X : Type 0} (o p q : Walk) (f : X → Bit → Bool) (xs : List X) (i : ℕ) (x : X) → i < length xs → x ≡ get_or xs i x
    → Passes o p (λ b. list_any (λ x. f x b) (take i xs)) (λ b. false) → Passes p q (f x) (λ b. false)
    → Passes o q (λ b. list_any (λ x. f x b) (take (i + 1) xs)) (λ b. false)
writes_next o p q f xs i x lt k h m =
    passes_same o q (λ b. list_any (λ x. f x b) (take i xs) || f x b) (λ b. list_any (λ x. f x b) (take (i + 1) xs))
    (λ b. not (list_any (λ x. f x b) (take i xs)) && false) (λ b. false)
    (λ b j. more_of (λ x. f x b) xs i x lt k) (λ b j. none (not (list_any (λ x. f x b) (take i xs))))
    (passes_both o p q (λ b. list_any (λ x. f x b) (take i xs)) (f x) (λ b. false) (λ b. false) h m)
  where
    none : (a : Bool) → (a && false) ≡ false
    none true = refl
    none false = refl

-- ---- steps one after the other

early_more : (xs : List Step) (x : Step) (b : Bit) → early_steps (xs ++ x ∷ []) b ≡ (early_steps xs b || (not (always_steps xs b) && early_step x b))
early_more [] x b = last (not (always_step x b)) (early_step x b)
  where
    last : (a c : Bool) → (c || (a && false)) ≡ c
    last true true = refl
    last true false = refl
    last false true = refl
    last false false = refl
early_more (y ∷ ys) x b = ap (λ r. early_step y b || (not (always_step y b) && r)) (early_more ys x b)
    ∙ four (early_step y b) (always_step y b) (early_steps ys b) (always_steps ys b) (early_step x b)
  where
    four : (r w f n g : Bool) → (r || (not w && (f || (not n && g)))) ≡ ((r || (not w && f)) || (not (w || n) && g))
    four true w f n g = refl
    four false true f n g = refl
    four false false f n g = refl

pub steps_next : (o p q : Walk) (xs : List Step) (i : ℕ) (x : Step) → i < length xs → x ≡ get_or xs i x
    → Passes o p (always_steps (take i xs)) (early_steps (take i xs)) → Passes p q (always_step x) (early_step x)
    → Passes o q (always_steps (take (i + 1) xs)) (early_steps (take (i + 1) xs))
steps_next o p q xs i x lt k h m =
    let e : take (i + 1) xs ≡ take i xs ++ x ∷ [] = take_more xs i x lt ∙ ap (λ y. take i xs ++ y ∷ []) (sym k) in
    passes_same o q (λ b. always_steps (take i xs) b || always_step x b) (always_steps (take (i + 1) xs))
    (λ b. early_steps (take i xs) b || (not (always_steps (take i xs) b) && early_step x b)) (early_steps (take (i + 1) xs))
    (λ b j. more_of (λ y. always_step y b) xs i x lt k)
    (λ b j. sym (ap (λ ys. early_steps ys b) e ∙ early_more (take i xs) x b))
    (passes_both o p q (always_steps (take i xs)) (always_step x) (early_steps (take i xs)) (early_step x) h m)

-- The room that lists of mentions need, part by part.
use Rattle.std.proofs.Common.{◌≡◌, ◌∙◌, ap, sym, subst, refl, ℕ, ◌+◌, ◌≤◌, List, [], ◌∷◌, ◌++◌, append_assoc, append-nil, length, map, arith}
use Rattle.std.specs.Prelude.{Bool, true, false, ◌||◌, flat_map}
use Rattle.std.proofs.lemmas.List.{length-append}
use Rattle.design_tree.specs.declared.design.Design.{Design}
use Rattle.circuit_run.specs.Lists.{total}
use Rattle.circuit_run.specs.Outcomes.{Outcome, joined, unchanged}
use Rattle.circuit_run.specs.States.{State}
use Rattle.design_meaning.specs.Mentions.{Mention, mention_targets, mention_length, mention_counters}
use Rattle.flat_design.specs.Effects.{Room, Effects, HasRoom, IsWithin, added, room_for, sum_of}

-- ---- lists

pub flat_append : {X Y : Type 0} (f : X → List Y) (xs ys : List X) → flat_map f (xs ++ ys) ≡ flat_map f xs ++ flat_map f ys
flat_append f [] ys = refl
flat_append f (x ∷ xs) ys = ap (λ l. f x ++ l) (flat_append f xs ys) ∙ sym (append_assoc (f x) (flat_map f xs) (flat_map f ys))

total_append : (xs ys : List ℕ) → total (xs ++ ys) ≡ total xs + total ys
total_append [] ys = omega arith
total_append (x ∷ xs) ys = omega (arith, total_append xs ys)

map_append : {X Y : Type 0} (f : X → Y) (xs ys : List X) → map f (xs ++ ys) ≡ map f xs ++ map f ys
map_append f [] ys = refl
map_append f (x ∷ xs) ys = ap (λ l. f x ∷ l) (map_append f xs ys)

-- ---- rooms

pub record Fits (small big : Room) : Type 0 where
  pub updates : small.updates ≤ big.updates
  pub bytes : small.bytes ≤ big.bytes
  pub counters : small.counters ≤ big.counters

pub room_parts : (a b : Room) → a.updates ≡ b.updates → a.bytes ≡ b.bytes → a.counters ≡ b.counters → a ≡ b
room_parts a b e f g = ap (λ u. record { updates = u; bytes = a.bytes; counters = a.counters }) e
    ∙ ap (λ u. record { updates = b.updates; bytes = u; counters = a.counters }) f
    ∙ ap (λ u. record { updates = b.updates; bytes = b.bytes; counters = u }) g

abbrev pub no_room : Room
no_room = record { updates = 0; bytes = 0; counters = 0 }

pub sum_more : (a b c : Room) → sum_of (sum_of a b) c ≡ sum_of a (sum_of b c)
sum_more a b c = room_parts (sum_of (sum_of a b) c) (sum_of a (sum_of b c)) (omega arith) (omega arith) (omega arith)

pub sum_none : (a : Room) → sum_of a no_room ≡ a
sum_none a = room_parts (sum_of a no_room) a (omega arith) (omega arith) (omega arith)

pub none_sum : (a : Room) → sum_of no_room a ≡ a
none_sum a = room_parts (sum_of no_room a) a (omega arith) (omega arith) (omega arith)

module _ (d : Design) where
  pub room_append : (xs ys : List Mention) → room_for d (xs ++ ys) ≡ sum_of (room_for d xs) (room_for d ys)
  room_append xs ys = room_parts (room_for d (xs ++ ys)) (sum_of (room_for d xs) (room_for d ys))
      (ap length (flat_append mention_targets xs ys) ∙ length-append (flat_map mention_targets xs) (flat_map mention_targets ys))
      (ap total (map_append (mention_length d) xs ys) ∙ total_append (map (mention_length d) xs) (map (mention_length d) ys))
      (ap length (flat_append mention_counters xs ys) ∙ length-append (flat_map mention_counters xs) (flat_map mention_counters ys))

  left_fits : (xs ys : List Mention) → Fits (room_for d xs) (room_for d (xs ++ ys))
  left_fits xs ys = subst (Fits (room_for d xs)) (sym (room_append xs ys)) (record { updates = omega arith; bytes = omega arith; counters = omega arith })

  right_fits : (xs ys : List Mention) → Fits (room_for d ys) (room_for d (xs ++ ys))
  right_fits xs ys = subst (Fits (room_for d ys)) (sym (room_append xs ys)) (record { updates = omega arith; bytes = omega arith; counters = omega arith })

  pub room_left : (e : Effects) (xs ys : List Mention) → HasRoom e (room_for d (xs ++ ys)) → HasRoom e (room_for d xs)
  room_left e xs ys h = let f : Fits (room_for d xs) (room_for d (xs ++ ys)) = left_fits xs ys in
      record {
        for_updates = omega (arith, h.for_updates, f.updates);
        for_bytes = omega (arith, h.for_bytes, f.bytes);
        for_counters = omega
            (arith, h.for_counters, f.counters);
      }

  pub room_right : (e : Effects) (xs ys : List Mention) → HasRoom e (room_for d (xs ++ ys)) → HasRoom e (room_for d ys)
  room_right e xs ys h = let f : Fits (room_for d ys) (room_for d (xs ++ ys)) = right_fits xs ys in
      record {
        for_updates = omega (arith, h.for_updates, f.updates);
        for_bytes = omega (arith, h.for_bytes, f.bytes);
        for_counters = omega
            (arith, h.for_counters, f.counters);
      }

  pub within_left : (o : Outcome ℕ) (xs ys : List Mention) → IsWithin o (room_for d xs) → IsWithin o (room_for d (xs ++ ys))
  within_left o xs ys h = let f : Fits (room_for d xs) (room_for d (xs ++ ys)) = left_fits xs ys in
      record { updates = omega (arith, h.updates, f.updates); bytes = omega (arith, h.bytes, f.bytes); counters = omega (arith, h.counters, f.counters) }

  pub within_right : (o : Outcome ℕ) (xs ys : List Mention) → IsWithin o (room_for d ys) → IsWithin o (room_for d (xs ++ ys))
  within_right o xs ys h = let f : Fits (room_for d ys) (room_for d (xs ++ ys)) = right_fits xs ys in
      record { updates = omega (arith, h.updates, f.updates); bytes = omega (arith, h.bytes, f.bytes); counters = omega (arith, h.counters, f.counters) }

  pub within_both : (a b : Outcome ℕ) (xs ys : List Mention) → IsWithin a (room_for d xs) → IsWithin b (room_for d ys)
      → IsWithin (joined a b) (room_for d (xs ++ ys))
  within_both a b xs ys h k = subst (IsWithin (joined a b)) (sym (room_append xs ys)) (record {
    updates = omega (arith, h.updates, k.updates, length-append a.updates b.updates);
    bytes = omega (arith, h.bytes, k.bytes, length-append a.text b.text);
    counters = omega (arith, h.counters, k.counters, length-append a.notes b.notes);
  })

  -- after one run there is room for the rest
  pub room_after : (e : Effects) (o : Outcome ℕ) (xs ys : List Mention) → IsWithin o (room_for d xs) → HasRoom e (room_for d (xs ++ ys))
      → HasRoom (added e o) (room_for d ys)
  room_after e o xs ys w h =
      let k : HasRoom e (sum_of (room_for d xs) (room_for d ys)) = subst (HasRoom e) (room_append xs ys) h in
      record {
        for_updates = omega (arith, k.for_updates, w.updates, length-append e.updates o.updates);
        for_bytes = omega (arith, k.for_bytes, w.bytes, length-append e.text o.text);
        for_counters = omega (arith, k.for_counters, w.counters, length-append e.raised o.notes);
      }

-- ---- what is added

or_more : (a b c : Bool) → ((a || b) || c) ≡ (a || (b || c))
or_more true b c = refl
or_more false b c = refl

or_none : (a : Bool) → (a || false) ≡ a
or_none true = refl
or_none false = refl

pub added_more : (e : Effects) (a b : Outcome ℕ) → added (added e a) b ≡ added e (joined a b)
added_more e a b = rw (
  append_assoc e.updates a.updates b.updates,
  append_assoc e.text a.text b.text,
  append_assoc e.raised a.notes b.notes,
  or_more
      e.finished a.finished b.finished,
  or_more e.stopped a.stopped b.stopped,
) refl

pub added_none : (e : Effects) (s : State) → added e (unchanged s) ≡ e
added_none e s = rw (append-nil e.updates, append-nil e.text, append-nil e.raised, or_none e.finished, or_none e.stopped) refl

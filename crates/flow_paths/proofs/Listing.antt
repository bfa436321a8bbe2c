-- Lists of bits, one bit after the other.
use Rattle.std.proofs.Common.{◌≡◌, ◌∙◌, sym, ap, ap₂, subst, refl, ℕ, ◌+◌, ◌<◌, Bool, true, false, not, ◌||◌, ◌&&◌, List, [], ◌∷◌, ◌++◌, length, get_or, take}
use Rattle.std.specs.List.{list_any}
use Rattle.std.proofs.lemmas.List.Folds.{list_any_more}
use Rattle.std.proofs.lemmas.List.Elements.{All-append, All-nil, All-cons}
use Rattle.design_meaning.proofs.ListLaws.{any_append, or_false}
use Rattle.circuit_run.specs.States.{Bit}
use Rattle.flow_marks.specs.declared.slot.Slot.{Slot}
use Rattle.flow_marks.specs.declared.trail.Spot.{Spot}
use Rattle.flow_marks.specs.Slots.{IsIn, is_same}
use Rattle.flow_marks.specs.Sets.{MarkSet, has}
use Rattle.flow_marks.specs.Takes.{AreIn, Takes, is_listed, spot_bit}
use Rattle.flow_marks.proofs.Kept.{same_bits}
use Rattle.flow_marks.proofs.Taking.{takes_more, takes_same}
use Rattle.flow_paths.specs.declared.walk.Walk.{Walk}
use Rattle.flow_paths.specs.Walking.{IsEmpty, IsCommon, TakesAll}

abbrev pub zero_spot : Spot
zero_spot = record { var = 0; word = 0; place = 0 }

module _ (spots : List Spot) (i : ℕ) (lt : i < length spots) where
  abbrev pub spot_at : Spot
  spot_at = get_or spots i zero_spot

  pub listed_more : (b : Bit) → is_listed (take (i + 1) spots) b ≡ (is_listed (take i spots) b || is_same (spot_bit spot_at) b)
  listed_more b = list_any_more (λ s. is_same (spot_bit s) b) spots i zero_spot lt

  pub added : (h h' h0 : Bit → Bool) (b : Bit) → h' b ≡ (is_same (spot_bit spot_at) b || h b) → h b ≡ (is_listed (take i spots) b || h0 b)
      → h' b ≡ (is_listed (take (i + 1) spots) b || h0 b)
  added h h' h0 b e k = e ∙ ap (λ r. is_same (spot_bit spot_at) b || r) k ∙ turned (is_same (spot_bit spot_at) b) (is_listed (take i spots) b) (h0 b)
      ∙ ap (λ r. r || h0 b) (sym (listed_more b))
    where
      turned : (a l c : Bool) → (a || (l || c)) ≡ ((l || a) || c)
      turned true true c = refl
      turned true false c = refl
      turned false true c = refl
      turned false false c = refl

  pub removed : (h h' h0 : Bit → Bool) (b : Bit) → h' b ≡ (not (is_same (spot_bit spot_at) b) && h b) → h b ≡ (not (is_listed (take i spots) b) && h0 b)
      → h' b ≡ (not (is_listed (take (i + 1) spots) b) && h0 b)
  removed h h' h0 b e k = e ∙ ap (λ r. not (is_same (spot_bit spot_at) b) && r) k ∙ turned (is_same (spot_bit spot_at) b) (is_listed (take i spots) b) (h0 b)
      ∙ ap (λ r. not r && h0 b) (sym (listed_more b))
    where
      turned : (a l c : Bool) → (not a && (not l && c)) ≡ (not (l || a) && c)
      turned true true c = refl
      turned true false c = refl
      turned false true c = refl
      turned false false c = refl

  same_kind : (h : Bit → Bool) (b : Bit) → is_same (spot_bit spot_at) b ≡ true → h b ≡ h (spot_bit spot_at)
  same_kind h b e = ap h (sym (same_bits (spot_bit spot_at) b e))

  pub kept_more : (h : Bit → Bool) (all : List Spot) (b : Bit) → h (spot_bit spot_at) ≡ true → is_listed all b ≡ (is_listed (take i spots) b && h b)
      → is_listed (all ++ spot_at ∷ []) b ≡ (is_listed (take (i + 1) spots) b && h b)
  kept_more h all b e k = any_append (λ s. is_same (spot_bit s) b) all (spot_at ∷ []) ∙ ap₂ ◌||◌ k (or_false (is_same (spot_bit spot_at) b))
      ∙ go (is_listed (take i spots) b) (is_same (spot_bit spot_at) b) (h b) (λ s. same_kind h b s ∙ e) ∙ ap (λ r. r && h b) (sym (listed_more b))
    where
      go : (l s x : Bool) → (s ≡ true → x ≡ true) → ((l && x) || s) ≡ ((l || s) && x)
      go l true x f = ap (λ r. (l && r) || true) (f refl) ∙ both l ∙ ap (λ r. (l || true) && r) (sym (f refl))
        where
          both : (l : Bool) → ((l && true) || true) ≡ ((l || true) && true)
          both true = refl
          both false = refl
      go true false true f = refl
      go true false false f = refl
      go false false x f = refl

  pub kept_pass : (h : Bit → Bool) (all : List Spot) (b : Bit) → h (spot_bit spot_at) ≡ false → is_listed all b ≡ (is_listed (take i spots) b && h b)
      → is_listed all b ≡ (is_listed (take (i + 1) spots) b && h b)
  kept_pass h all b e k = k ∙ go (is_listed (take i spots) b) (is_same (spot_bit spot_at) b) (h b) (λ s. same_kind h b s ∙ e)
      ∙ ap (λ r. r && h b) (sym (listed_more b))
    where
      go : (l s x : Bool) → (s ≡ true → x ≡ false) → (l && x) ≡ ((l || s) && x)
      go l true true f = absurd (cc (f refl))
      go true true false f = refl
      go false true false f = refl
      go true false x f = refl
      go false false x f = refl

  pub inside_more : (slots : List Slot) (all : List Spot) → AreIn slots spots → AreIn slots all → AreIn slots (all ++ spot_at ∷ [])
  inside_more slots all h k = All-append (λ s. IsIn slots (spot_bit s)) all (spot_at ∷ []) k
      (All-cons (λ s. IsIn slots (spot_bit s)) spot_at [] (h i zero_spot lt) (All-nil (λ s. IsIn slots (spot_bit s))))

  pub takes_next : (m n o : MarkSet) (s t u : List Spot) → Takes m n s t (λ b. is_listed (take i spots) b) → Takes n o t u (λ b. is_listed (spot_at ∷ []) b)
      → Takes m o s u (λ b. is_listed (take (i + 1) spots) b)
  takes_next m n o s t u x y = takes_same m o s u (λ b. is_listed (take i spots) b || is_listed (spot_at ∷ []) b) (λ b. is_listed (take (i + 1) spots) b)
      (λ b h. ap (λ r. is_listed (take i spots) b || r) (or_false (is_same (spot_bit spot_at) b)) ∙ sym (listed_more b))
      (takes_more m n o s t u (λ b. is_listed (take i spots) b) (λ b. is_listed (spot_at ∷ []) b) x y)

-- a set that had no bits is filled with one list, asked for the other, and emptied
pub common_is : (m n o : MarkSet) (one other both : List Spot) → IsEmpty m → n.slots ≡ m.slots → ((b : Bit) → IsIn m.slots b
    → has n b ≡ (is_listed one b || has m b))
    → AreIn n.slots both → ((b : Bit) → is_listed both b ≡ (is_listed other b && has n b))
    → o.slots ≡ n.slots → ((b : Bit) → IsIn n.slots b → has o b ≡ (not (is_listed one b) && has n b)) → IsCommon m o one other both
common_is m n o one other both e s f i g t k = record {
  slots = t ∙ s;
  empty = λ b h. let j : IsIn n.slots b = subst (λ (z : List Slot). IsIn z b) t h in
      let l : IsIn m.slots b = subst (λ (z : List Slot). IsIn z b) s j in
      k b j ∙ ap (λ r. not (is_listed one b) && r) (filled b l) ∙ never (is_listed one b);
  inside = subst (λ (z : List Slot). AreIn z both) s i;
  bits = λ b h. g b ∙ ap (λ r. is_listed other b && r) (filled b h) ∙ turned (is_listed other b) (is_listed one b);
}
  where
    filled : (b : Bit) → IsIn m.slots b → has n b ≡ is_listed one b
    filled b h = f b h ∙ ap (λ r. is_listed one b || r) (e b h) ∙ or_false (is_listed one b)

    never : (a : Bool) → (not a && a) ≡ false
    never true = refl
    never false = refl

    turned : (a c : Bool) → (a && c) ≡ (c && a)
    turned true true = refl
    turned true false = refl
    turned false true = refl
    turned false false = refl

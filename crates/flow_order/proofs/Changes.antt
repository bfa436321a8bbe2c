-- Bits of masks that differ between two states.
use Rattle.std.proofs.Common.{◌≡◌, ◌≢◌, ◌∙◌, sym, ap, subst, refl, ℕ, ◌+◌, ◌<◌, ◌≤◌, arith, inl, inr, true, List, [], length, get_or, bit_and, bit_xor}
use Rattle.std.specs.Int.{bit_at}
use Rattle.std.proofs.lemmas.Bool.{cases_lt}
use Rattle.std.proofs.lemmas.List.{get_or_default}
use Rattle.std.proofs.lemmas.List.Folds.{list_any_at}
use Rattle.circuit_run.specs.States.{State, Bit, bit, held}
use Rattle.flow_order.specs.declared.mask.WordMask.{WordMask}
use Rattle.flow_order.specs.Masks.{mask_has}
use Rattle.flow_order.specs.Orders.{OrderOf, HasChanged, MaskHasChanged, reads_for}
use Rattle.flow_order.proofs.Masks.{Differ, Has, ReadAt, differ_from, differ_to, is_in_mask, mask_has_it, read_at}

-- what differs in one word, under the mask
abbrev pub word_changes : WordMask → State → State → ℕ → ℕ
word_changes m s t w = bit_and (bit_xor (get_or (held s m.var).words w 0) (get_or (held t m.var).words w 0)) m.mask

pub changed_word : (m : WordMask) (s t : State) (w : ℕ) → m.word ≤ w → w < m.word_end → word_changes m s t w ≢ 0 → MaskHasChanged m s t
changed_word m s t w from to some =
    let d : Differ (get_or (held s m.var).words w 0) (get_or (held t m.var).words w 0) m.mask =
    differ_from (get_or (held s m.var).words w 0) (get_or (held t m.var).words w 0) m.mask some in
    (record { var = m.var; word = w; place = d.place }, is_in_mask m w d.place from to d.in_mask, d.differ)

unchanged_at : (m : WordMask) (s t : State) (b : Bit) → m.var ≡ b.var → word_changes m s t b.word ≡ 0 → bit_at m.mask b.place ≡ 1 → bit s b ≢ bit t b → ⊥
unchanged_at m s t b e none on apart =
    differ_to (get_or (held s m.var).words b.word 0) (get_or (held t m.var).words b.word 0) m.mask b.place none on
    (subst (λ v. bit_at (get_or (held s v).words b.word 0) b.place ≢ bit_at (get_or (held t v).words b.word 0) b.place) (sym e) apart)

pub none_changed_word : (m : WordMask) (s t : State) (end : ℕ) → m.word_end ≤ end
    → ((w : ℕ) → m.word ≤ w → w < end → word_changes m s t w ≡ 0) → MaskHasChanged m s t → ⊥
none_changed_word m s t end past none h =
    let i : Has m h.0 = mask_has_it m h.0 h.1 in
    unchanged_at m s t h.0 i.var (none h.0.word i.word (omega (arith, past, i.word_end))) i.place h.2

-- ---- several masks

-- what an order keeps of a process
pub kept : (order : OrderOf) (processes : List ℕ) (reads : List (List WordMask)) (p : ℕ) (d : List WordMask)
    → order ≡ record { processes = processes; reads = reads } → p < length order.reads → get_or reads p d ≡ reads_for order p
kept order processes reads p d e lt =
    get_or_default reads p d [] (subst (λ (o : OrderOf). p < length o.reads) e lt) ∙ ap (λ o. reads_for o p) (sym e)

abbrev pub no_mask : WordMask
no_mask = record { var = 0; word = 0; word_end = 0; mask = 0 }

pub changed_mask : (reads : List WordMask) (s t : State) (k : ℕ) → k < length reads → MaskHasChanged (get_or reads k no_mask) s t → HasChanged reads s t
changed_mask reads s t k lt h = (h.0, list_any_at (λ m. mask_has m h.0) reads k no_mask lt h.1, h.2)

pub none_changed_more : (reads : List WordMask) (s t : State) (n : ℕ) → n < length reads → (MaskHasChanged (get_or reads n no_mask) s t → ⊥)
    → ((k : ℕ) → k < n → (d : WordMask) → MaskHasChanged (get_or reads k d) s t → ⊥)
    → (k : ℕ) → k < n + 1 → (d : WordMask) → MaskHasChanged (get_or reads k d) s t → ⊥
none_changed_more reads s t n lt last none k l d h = elim (cases_lt k n) [
  | inl less ↦ none k less d h
  | inr more ↦ (let e : k ≡ n = omega (arith, l, more) in
      let here : get_or reads k d ≡ get_or reads n no_mask = ap (λ j. get_or reads j d) e ∙ get_or_default reads n d no_mask lt in
      last (subst (λ m. MaskHasChanged m s t) here h))
]

pub none_changed_mask : (reads : List WordMask) (s t : State) (n : ℕ) → length reads ≤ n
    → ((k : ℕ) → k < n → (d : WordMask) → MaskHasChanged (get_or reads k d) s t → ⊥) → HasChanged reads s t → ⊥
none_changed_mask reads s t n past none h =
    let r : ReadAt reads h.0 = read_at reads h.0 h.1 in
    none r.at (omega (arith, past, r.lt)) no_mask (h.0, r.has no_mask, h.2)

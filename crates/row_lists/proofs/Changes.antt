-- Lists where one of them changes.
use Rattle.std.proofs.Common.{◌≡◌, ◌≢◌, ◌∙◌, ap, sym, inl, inr, ℕ, ◌<◌, ◌==◌, true, false, cond, List, []}
use Rattle.std.proofs.Common.{◌++◌, length, get_or, set, append-nil, Result, Ok, Err}
use Rattle.std.specs.Prelude.{OnOk, ◌⊎◌}
use Rattle.std.proofs.lemmas.Bool.Decides.{eqb_tells}
use Rattle.std.proofs.lemmas.List.{get_or-set_same, get_or-set_other}
use Rattle.std.proofs.lemmas.Option.{get_or_from_slice_get, slice_get-get_or}
use Rattle.row_lists.specs.Lists.{list_at}

pub on_ok : {T E P Q : Type 0} (r : Result T E) → (P → Q) → OnOk r P → OnOk r Q
on_ok (Ok t) f h = f h
on_ok (Err e) f h = h

-- an element that is there is the same whatever would stand for one that isn't
pub same_at : {A : Type 0} (xs : List A) (n : ℕ) (d e : A) → n < length xs → get_or xs n d ≡ get_or xs n e
same_at xs n d e lt = get_or_from_slice_get xs n (get_or xs n e) d (slice_get-get_or xs n e lt)

pub put-more : {A : Type 0} (lists : List (List A)) (n : ℕ) (new xs : List A) → n < length lists → new ≡ list_at lists n ++ xs → (k : ℕ)
    → list_at (set lists n new) k ≡ list_at lists k ++ cond (k == n) xs []
put-more {A} lists n new xs lt e k = by (eqb_tells k n)
  where
    by : (((k == n) ≡ true) × (k ≡ n)) ⊎ (((k == n) ≡ false) × (k ≢ n)) → list_at (set lists n new) k ≡ list_at lists k ++ cond (k == n) xs []
    by (inl p) =
        ap (λ j. list_at (set lists n new) j) p.1 ∙ get_or-set_same lists n new [] lt ∙ e ∙ ap (λ j. list_at lists j ++ xs) (sym p.1)
        ∙ ap (λ b. list_at lists k ++ cond b xs []) (sym p.0)
    by (inr p) =
        get_or-set_other lists n k new [] p.1 ∙ sym (append-nil (list_at lists k)) ∙ ap (λ b. list_at lists k ++ cond b xs []) (sym p.0)

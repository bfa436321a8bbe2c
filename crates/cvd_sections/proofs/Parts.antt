-- Parts of a text, between the bytes that separate them.
use Rattle.std.proofs.Common.{◌≡◌, ℕ, ◌+◌, Bool, true, false, cond, List, [], ◌∷◌, ◌++◌, length, refl, sym, ◌∙◌, ap, arith, append_assoc}
use Rattle.std.specs.Prelude.{◌==◌, ◌&&◌, not}
use Rattle.std.specs.List.{list_all, slice_split, onto_first}
use Rattle.std.proofs.lemmas.Bool.{true≢false, eq-eqb}
use Rattle.std.proofs.lemmas.List.Splits.{length-slice_split}
use Rattle.cov_types.specs.LineLists.{separated}
use Rattle.spelling_laws.proofs.Fitting.{first_true, second_true}
use Rattle.cvd_cursor.proofs.Cutting.{none_passes}

module _ (sep : ℕ) where
  abbrev pub is_sep : ℕ → Bool
  is_sep b = b == sep

  abbrev pub parts : List ℕ → List (List ℕ)
  parts text = slice_split (λ b. b == sep) text

  abbrev pub joined : List (List ℕ) → List ℕ
  joined ws = separated (sep ∷ []) ws

  pub parts_front : (w rest : List ℕ) → none_passes is_sep w ≡ true → parts (w ++ sep ∷ rest) ≡ w ∷ parts rest
  parts_front [] rest h = ap (λ t. cond t ([] ∷ parts rest) (onto_first sep (parts rest))) (eq-eqb sep sep refl)
  parts_front (b ∷ w) rest h = by (b == sep) h (parts_front w rest (second_true (not (b == sep)) _ h))
    where
      by : (t : Bool) → (not t && none_passes is_sep w) ≡ true → parts (w ++ sep ∷ rest) ≡ w ∷ parts rest
          → cond t ([] ∷ parts (w ++ sep ∷ rest)) (onto_first b (parts (w ++ sep ∷ rest))) ≡ (b ∷ w) ∷ parts rest
      by true h later = absurd (true≢false (sym h))
      by false h later = ap (onto_first b) later

  pub parts_only : (w : List ℕ) → none_passes is_sep w ≡ true → parts w ≡ w ∷ []
  parts_only [] h = refl
  parts_only (b ∷ w) h = by (b == sep) h (parts_only w (second_true (not (b == sep)) _ h))
    where
      by : (t : Bool) → (not t && none_passes is_sep w) ≡ true → parts w ≡ w ∷ [] → cond t ([] ∷ parts w) (onto_first b (parts w)) ≡ (b ∷ w) ∷ []
      by true h later = absurd (true≢false (sym h))
      by false h later = ap (onto_first b) later

  -- texts that have no separator, joined, are cut there again
  pub parts_joined : (w : List ℕ) (ws : List (List ℕ)) → list_all (none_passes is_sep) (w ∷ ws) ≡ true → parts (joined (w ∷ ws)) ≡ w ∷ ws
  parts_joined w [] h = parts_only w (first_true (none_passes is_sep w) _ h)
  parts_joined w (v ∷ vs) h =
      ap parts (append_assoc w (sep ∷ []) (joined (v ∷ vs))) ∙ parts_front w (joined (v ∷ vs)) (first_true (none_passes is_sep w) _ h)
      ∙ ap (λ l. w ∷ l) (parts_joined v vs (second_true (none_passes is_sep w) _ h))

  onto : (b : ℕ) (p : List ℕ) (ps : List (List ℕ)) → joined (onto_first b (p ∷ ps)) ≡ b ∷ joined (p ∷ ps)
  onto b p [] = refl
  onto b p (q ∷ ps) = refl

  same_byte : (b : ℕ) → (b == sep) ≡ true → b ≡ sep
  same_byte b h = grind arith

  -- a text is its parts, joined
  pub joined_parts : (text : List ℕ) → joined (parts text) ≡ text
  joined_parts [] = refl
  joined_parts (b ∷ bs) = by (b == sep) (same_byte b) (parts bs) (joined_parts bs) _ (length-slice_split (λ c. c == sep) bs)
    where
      by : (t : Bool) → (t ≡ true → b ≡ sep) → (ps : List (List ℕ)) → joined ps ≡ bs → (n : ℕ) → length ps ≡ n + 1
          → joined (cond t ([] ∷ ps) (onto_first b ps)) ≡ b ∷ bs
      by t same [] e n some = absurd (omega (arith, some))
      by true same (p ∷ ps) e n some = ap (λ l. sep ∷ l) e ∙ ap (λ c. c ∷ bs) (sym (same refl))
      by false same (p ∷ ps) e n some = onto b p ps ∙ ap (λ l. b ∷ l) e

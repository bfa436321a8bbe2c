-- Which part of the table has the words that begin with a letter.
use Rattle.std.proofs.Common.{◌≡◌, ◌≢◌, ℕ, ◌<◌, false, eqb, List, [], ◌∷◌, None, length, get_or, refl, sym, subst, arith}
use Rattle.std.proofs.lemmas.Bool.{ne_eqb}
use Rattle.vlog_words.specs.Words.{lookup, words, word_of, words_a, words_b, words_c, words_d, words_e, words_f, words_g, words_h, words_i, words_j, words_l}
use Rattle.vlog_words.specs.Words.{words_m, words_n, words_o, words_p, words_r, words_s, words_t, words_u, words_v, words_w, words_x}

pub at_a : (bytes : List ℕ) → get_or bytes 0 0 ≡ 97 → lookup words_a bytes ≡ word_of bytes
unfolding word_of
at_a [] e = refl
at_a (b ∷ bs) e = subst (λ (x : ℕ). lookup words_a (x ∷ bs) ≡ lookup words (x ∷ bs)) (sym e) refl

pub at_b : (bytes : List ℕ) → get_or bytes 0 0 ≡ 98 → lookup words_b bytes ≡ word_of bytes
unfolding word_of
at_b [] e = refl
at_b (b ∷ bs) e = subst (λ (x : ℕ). lookup words_b (x ∷ bs) ≡ lookup words (x ∷ bs)) (sym e) refl

pub at_c : (bytes : List ℕ) → get_or bytes 0 0 ≡ 99 → lookup words_c bytes ≡ word_of bytes
unfolding word_of
at_c [] e = refl
at_c (b ∷ bs) e = subst (λ (x : ℕ). lookup words_c (x ∷ bs) ≡ lookup words (x ∷ bs)) (sym e) refl

pub at_d : (bytes : List ℕ) → get_or bytes 0 0 ≡ 100 → lookup words_d bytes ≡ word_of bytes
unfolding word_of
at_d [] e = refl
at_d (b ∷ bs) e = subst (λ (x : ℕ). lookup words_d (x ∷ bs) ≡ lookup words (x ∷ bs)) (sym e) refl

pub at_e : (bytes : List ℕ) → get_or bytes 0 0 ≡ 101 → lookup words_e bytes ≡ word_of bytes
unfolding word_of
at_e [] e = refl
at_e (b ∷ bs) e = subst (λ (x : ℕ). lookup words_e (x ∷ bs) ≡ lookup words (x ∷ bs)) (sym e) refl

pub at_f : (bytes : List ℕ) → get_or bytes 0 0 ≡ 102 → lookup words_f bytes ≡ word_of bytes
unfolding word_of
at_f [] e = refl
at_f (b ∷ bs) e = subst (λ (x : ℕ). lookup words_f (x ∷ bs) ≡ lookup words (x ∷ bs)) (sym e) refl

pub at_g : (bytes : List ℕ) → get_or bytes 0 0 ≡ 103 → lookup words_g bytes ≡ word_of bytes
unfolding word_of
at_g [] e = refl
at_g (b ∷ bs) e = subst (λ (x : ℕ). lookup words_g (x ∷ bs) ≡ lookup words (x ∷ bs)) (sym e) refl

pub at_h : (bytes : List ℕ) → get_or bytes 0 0 ≡ 104 → lookup words_h bytes ≡ word_of bytes
unfolding word_of
at_h [] e = refl
at_h (b ∷ bs) e = subst (λ (x : ℕ). lookup words_h (x ∷ bs) ≡ lookup words (x ∷ bs)) (sym e) refl

pub at_i : (bytes : List ℕ) → get_or bytes 0 0 ≡ 105 → lookup words_i bytes ≡ word_of bytes
unfolding word_of
at_i [] e = refl
at_i (b ∷ bs) e = subst (λ (x : ℕ). lookup words_i (x ∷ bs) ≡ lookup words (x ∷ bs)) (sym e) refl

pub at_j : (bytes : List ℕ) → get_or bytes 0 0 ≡ 106 → lookup words_j bytes ≡ word_of bytes
unfolding word_of
at_j [] e = refl
at_j (b ∷ bs) e = subst (λ (x : ℕ). lookup words_j (x ∷ bs) ≡ lookup words (x ∷ bs)) (sym e) refl

pub at_l : (bytes : List ℕ) → get_or bytes 0 0 ≡ 108 → lookup words_l bytes ≡ word_of bytes
unfolding word_of
at_l [] e = refl
at_l (b ∷ bs) e = subst (λ (x : ℕ). lookup words_l (x ∷ bs) ≡ lookup words (x ∷ bs)) (sym e) refl

pub at_m : (bytes : List ℕ) → get_or bytes 0 0 ≡ 109 → lookup words_m bytes ≡ word_of bytes
unfolding word_of
at_m [] e = refl
at_m (b ∷ bs) e = subst (λ (x : ℕ). lookup words_m (x ∷ bs) ≡ lookup words (x ∷ bs)) (sym e) refl

pub at_n : (bytes : List ℕ) → get_or bytes 0 0 ≡ 110 → lookup words_n bytes ≡ word_of bytes
unfolding word_of
at_n [] e = refl
at_n (b ∷ bs) e = subst (λ (x : ℕ). lookup words_n (x ∷ bs) ≡ lookup words (x ∷ bs)) (sym e) refl

pub at_o : (bytes : List ℕ) → get_or bytes 0 0 ≡ 111 → lookup words_o bytes ≡ word_of bytes
unfolding word_of
at_o [] e = refl
at_o (b ∷ bs) e = subst (λ (x : ℕ). lookup words_o (x ∷ bs) ≡ lookup words (x ∷ bs)) (sym e) refl

pub at_p : (bytes : List ℕ) → get_or bytes 0 0 ≡ 112 → lookup words_p bytes ≡ word_of bytes
unfolding word_of
at_p [] e = refl
at_p (b ∷ bs) e = subst (λ (x : ℕ). lookup words_p (x ∷ bs) ≡ lookup words (x ∷ bs)) (sym e) refl

pub at_r : (bytes : List ℕ) → get_or bytes 0 0 ≡ 114 → lookup words_r bytes ≡ word_of bytes
unfolding word_of
at_r [] e = refl
at_r (b ∷ bs) e = subst (λ (x : ℕ). lookup words_r (x ∷ bs) ≡ lookup words (x ∷ bs)) (sym e) refl

pub at_s : (bytes : List ℕ) → get_or bytes 0 0 ≡ 115 → lookup words_s bytes ≡ word_of bytes
unfolding word_of
at_s [] e = refl
at_s (b ∷ bs) e = subst (λ (x : ℕ). lookup words_s (x ∷ bs) ≡ lookup words (x ∷ bs)) (sym e) refl

pub at_t : (bytes : List ℕ) → get_or bytes 0 0 ≡ 116 → lookup words_t bytes ≡ word_of bytes
unfolding word_of
at_t [] e = refl
at_t (b ∷ bs) e = subst (λ (x : ℕ). lookup words_t (x ∷ bs) ≡ lookup words (x ∷ bs)) (sym e) refl

pub at_u : (bytes : List ℕ) → get_or bytes 0 0 ≡ 117 → lookup words_u bytes ≡ word_of bytes
unfolding word_of
at_u [] e = refl
at_u (b ∷ bs) e = subst (λ (x : ℕ). lookup words_u (x ∷ bs) ≡ lookup words (x ∷ bs)) (sym e) refl

pub at_v : (bytes : List ℕ) → get_or bytes 0 0 ≡ 118 → lookup words_v bytes ≡ word_of bytes
unfolding word_of
at_v [] e = refl
at_v (b ∷ bs) e = subst (λ (x : ℕ). lookup words_v (x ∷ bs) ≡ lookup words (x ∷ bs)) (sym e) refl

pub at_w : (bytes : List ℕ) → get_or bytes 0 0 ≡ 119 → lookup words_w bytes ≡ word_of bytes
unfolding word_of
at_w [] e = refl
at_w (b ∷ bs) e = subst (λ (x : ℕ). lookup words_w (x ∷ bs) ≡ lookup words (x ∷ bs)) (sym e) refl

pub at_x : (bytes : List ℕ) → get_or bytes 0 0 ≡ 120 → lookup words_x bytes ≡ word_of bytes
unfolding word_of
at_x [] e = refl
at_x (b ∷ bs) e = subst (λ (x : ℕ). lookup words_x (x ∷ bs) ≡ lookup words (x ∷ bs)) (sym e) refl

none_else : (c : ℕ) (cs : List ℕ) → (eqb c 97 ≡ false) → (eqb c 98 ≡ false) → (eqb c 99 ≡ false) → (eqb c 100 ≡ false) → (eqb c 101 ≡ false)
    → (eqb c 102 ≡ false) → (eqb c 103 ≡ false) → (eqb c 104 ≡ false) → (eqb c 105 ≡ false) → (eqb c 106 ≡ false) → (eqb c 108 ≡ false) → (eqb c 109 ≡ false)
    → (eqb c 110 ≡ false) → (eqb c 111 ≡ false) → (eqb c 112 ≡ false) → (eqb c 114 ≡ false) → (eqb c 115 ≡ false) → (eqb c 116 ≡ false) → (eqb c 117 ≡ false)
    → (eqb c 118 ≡ false) → (eqb c 119 ≡ false) → (eqb c 120 ≡ false) → None ≡ lookup words (c ∷ cs)
none_else c cs no_a no_b no_c no_d no_e no_f no_g no_h no_i no_j no_l no_m no_n no_o no_p no_r no_s no_t no_u no_v no_w no_x = simp
    (no_a, no_b, no_c, no_d, no_e, no_f, no_g, no_h, no_i, no_j, no_l, no_m, no_n, no_o, no_p, no_r, no_s, no_t, no_u, no_v, no_w, no_x) refl

-- a word that begins with none of these letters
pub elsewhere : (bytes : List ℕ) → get_or bytes 0 0 ≢ 97 → get_or bytes 0 0 ≢ 98 → get_or bytes 0 0 ≢ 99 → get_or bytes 0 0 ≢ 100 → get_or bytes 0 0 ≢ 101
    → get_or bytes 0 0 ≢ 102 → get_or bytes 0 0 ≢ 103 → get_or bytes 0 0 ≢ 104 → get_or bytes 0 0 ≢ 105 → get_or bytes 0 0 ≢ 106 → get_or bytes 0 0 ≢ 108
    → get_or bytes 0 0 ≢ 109 → get_or bytes 0 0 ≢ 110 → get_or bytes 0 0 ≢ 111 → get_or bytes 0 0 ≢ 112 → get_or bytes 0 0 ≢ 114 → get_or bytes 0 0 ≢ 115
    → get_or bytes 0 0 ≢ 116 → get_or bytes 0 0 ≢ 117 → get_or bytes 0 0 ≢ 118 → get_or bytes 0 0 ≢ 119 → get_or bytes 0 0 ≢ 120 → None ≡ word_of bytes
unfolding word_of
elsewhere [] no_a no_b no_c no_d no_e no_f no_g no_h no_i no_j no_l no_m no_n no_o no_p no_r no_s no_t no_u no_v no_w no_x = refl
elsewhere (c ∷ cs) no_a no_b no_c no_d no_e no_f no_g no_h no_i no_j no_l no_m no_n no_o no_p no_r no_s no_t no_u no_v no_w no_x = none_else c cs
    (ne_eqb c 97 no_a) (ne_eqb c 98 no_b) (ne_eqb c 99 no_c) (ne_eqb c 100 no_d) (ne_eqb c 101 no_e) (ne_eqb c 102 no_f) (ne_eqb c 103 no_g)
    (ne_eqb c 104 no_h) (ne_eqb c 105 no_i) (ne_eqb c 106 no_j) (ne_eqb c 108 no_l) (ne_eqb c 109 no_m) (ne_eqb c 110 no_n) (ne_eqb c 111 no_o)
    (ne_eqb c 112 no_p) (ne_eqb c 114 no_r) (ne_eqb c 115 no_s) (ne_eqb c 116 no_t) (ne_eqb c 117 no_u) (ne_eqb c 118 no_v) (ne_eqb c 119 no_w)
    (ne_eqb c 120 no_x)

pub empty : (bytes : List ℕ) → length bytes < 1 → None ≡ word_of bytes
unfolding word_of
empty [] short = refl
empty (c ∷ cs) short = absurd (omega arith)

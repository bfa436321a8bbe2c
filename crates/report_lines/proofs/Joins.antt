-- Pieces put behind a text one after another are their whole behind it.
use Rattle.std.proofs.Common.{◌≡◌, ℕ, List, ◌++◌, append_assoc}

pub eight : (t a b c d e f g h : List ℕ) → ((((((t ++ a) ++ b) ++ c) ++ d) ++ e) ++ f) ++ (g ++ h) ≡ t ++ (((((((a ++ b) ++ c) ++ d) ++ e) ++ f) ++ g) ++ h)
eight t a b c d e f g h = simp append_assoc

pub nine : (t a b c d e f g h i : List ℕ)
    → ((((((((t ++ a) ++ b) ++ c) ++ d) ++ e) ++ f) ++ g) ++ h) ++ i ≡ t ++ ((((((((a ++ b) ++ c) ++ d) ++ e) ++ f) ++ g) ++ h) ++ i)
nine t a b c d e f g h i = simp append_assoc

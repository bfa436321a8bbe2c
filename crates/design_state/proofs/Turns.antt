-- What a list has left at a turn of a loop, and lists of written parts.
use Rattle.std.proofs.Common.{◌≡◌, ◌∙◌, ap, sym, refl, ℕ, suc, ◌+◌, ◌<◌, List, [], ◌∷◌, ◌++◌, append_assoc, length, drop, map, slice_index_or, add-one}
use Rattle.std.proofs.Math.Seq.{drop-cons}
use Rattle.std.proofs.lemmas.List.{length-set}
use Rattle.circuit_run.specs.States.{State}
use Rattle.circuit_run.specs.Writes.{Part, written, all_written}

pub drop_here : {X : Type 0} (xs : List X) (i : ℕ) (x : X) → i < length xs → x ≡ slice_index_or xs i x → drop i xs ≡ x ∷ drop (i + 1) xs
drop_here xs i x h e = drop-cons xs i x h ∙ ap (λ y. y ∷ drop (suc i) xs) (sym e) ∙ ap (λ n. x ∷ drop n xs) (sym (add-one i))

pub drop_at : {X : Type 0} (xs : List X) (i : ℕ) (d : X) → i < length xs → drop i xs ≡ slice_index_or xs i d ∷ drop (i + 1) xs
drop_at xs i d h = drop-cons xs i d h ∙ ap (λ n. slice_index_or xs i d ∷ drop n xs) (sym (add-one i))

pub length_written : (s : State) (p : Part) → length (written s p) ≡ length s
length_written s p = length-set s p.var _

pub length_all_written : (s : State) (ps : List Part) → length (all_written s ps) ≡ length s
length_all_written s [] = refl
length_all_written s (p ∷ ps) = length_all_written (written s p) ps ∙ length_written s p

-- one part more, where the rest follows
pub one_more : {X : Type 0} (front now : List X) (x y : X) (rest all : List X) → now ≡ front ++ x ∷ [] → x ≡ y → front ++ y ∷ rest ≡ all → now ++ rest ≡ all
one_more front now x y rest all e f g = ap (λ l. l ++ rest) e ∙ append_assoc front (x ∷ []) rest ∙ ap (λ x. front ++ x ∷ rest) f ∙ g

pub map_more : {X Y : Type 0} (f : X → Y) (xs : List X) (x : X) → map f (xs ++ x ∷ []) ≡ map f xs ++ f x ∷ []
map_more f [] x = refl
map_more f (y ∷ ys) x = ap (λ l. f y ∷ l) (map_more f ys x)

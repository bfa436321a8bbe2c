-- Two cuts of one list.
use Rattle.std.proofs.Common.{◌≡◌, List, [], ◌∷◌, ◌++◌, refl, sym}

pub cons_same : {X : Type 0} (x y : X) (xs ys : List X) → x ≡ y → xs ≡ ys → x ∷ xs ≡ y ∷ ys
cons_same x y xs ys first rest = cc

-- how two cuts of one list stand to one another
pub data Cuts {X : Type 0} (before_a : List X) (a : X) (before_b : List X) (b : X) : Type 0 where
  at_one : before_a ≡ before_b → a ≡ b → Cuts before_a a before_b b
  sooner : (more : List X) → before_b ≡ before_a ++ a ∷ more → Cuts before_a a before_b b
  later : (more : List X) → before_a ≡ before_b ++ b ∷ more → Cuts before_a a before_b b

cuts_on : {X : Type 0} (x y : X) (xs : List X) (a : X) (ys : List X) (b : X) → x ≡ y → Cuts xs a ys b → Cuts (x ∷ xs) a (y ∷ ys) b
cuts_on x y xs a ys b first (at_one is one) = at_one (cons_same x y xs ys first is) one
cuts_on x y xs a ys b first (sooner more is) = sooner more (cons_same y x ys (xs ++ a ∷ more) (sym first) is)
cuts_on x y xs a ys b first (later more is) = later more (cons_same x y xs (ys ++ b ∷ more) first is)

pub cuts : {X : Type 0} (xs : List X) (a : X) (after_a ys : List X) (b : X) (after_b : List X) → xs ++ a ∷ after_a ≡ ys ++ b ∷ after_b → Cuts xs a ys b
cuts [] a after_a [] b after_b is = let one : a ≡ b = cc in at_one refl one
cuts [] a after_a (y ∷ ys) b after_b is = let first : a ≡ y = cc in sooner ys (cons_same y a ys ys (sym first) refl)
cuts (x ∷ xs) a after_a [] b after_b is = let first : x ≡ b = cc in later xs (cons_same x b xs xs first refl)
cuts (x ∷ xs) a after_a (y ∷ ys) b after_b is =
    let first : x ≡ y = cc in let rest : xs ++ a ∷ after_a ≡ ys ++ b ∷ after_b = cc in cuts_on x y xs a ys b first (cuts xs a after_a ys b after_b rest)

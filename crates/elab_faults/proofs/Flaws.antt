-- The first of the flaws of two things.
use Rattle.std.proofs.Common.{◌≡◌, ◌∙◌, sym, ap, refl, subst, inl, inr, Bool, true, false, cond, ◌||◌, Option, Some, None, Result, Ok, Err}
use Rattle.std.specs.Prelude.{◌⊎◌}
use Rattle.elab_ranges.specs.declared.fault.RangeFault.{RangeFault}
use Rattle.elab_ranges.specs.declared.fault.RangeFault.TheVariants.{NotConstant, BadSelect, BadRange, WidthPast128, NoMemory}
use Rattle.elab_faults.specs.Flaws.{Flaws, flaws, both_flaws, first_flaw, IsFlaw, Finds, earlier, both}
use Rattle.elab_faults.specs.Judged.{Nothing}

-- by the four rules
abbrev pub first : Bool → Bool → Bool → Bool → Option RangeFault
first n s r w = cond n (Some NotConstant) (cond s (Some BadSelect) (cond r (Some BadRange) (cond w (Some WidthPast128) None)))

-- the first of two, where there are any
abbrev pub sooner : Option RangeFault → Option RangeFault → Option RangeFault
sooner None o = o
sooner (Some f) None = Some f
sooner (Some f) (Some g) = Some (earlier f g)

first_or : (a b c d e f g h : Bool) → first (a || e) (b || f) (c || g) (d || h) ≡ sooner (first a b c d) (first e f g h)
first_or true b c d true f g h = refl
first_or true b c d false true g h = refl
first_or true b c d false false true h = refl
first_or true b c d false false false true = refl
first_or true b c d false false false false = refl
first_or false true c d true f g h = refl
first_or false true c d false true g h = refl
first_or false true c d false false true h = refl
first_or false true c d false false false true = refl
first_or false true c d false false false false = refl
first_or false false true d true f g h = refl
first_or false false true d false true g h = refl
first_or false false true d false false true h = refl
first_or false false true d false false false true = refl
first_or false false true d false false false false = refl
first_or false false false true true f g h = refl
first_or false false false true false true g h = refl
first_or false false false true false false true h = refl
first_or false false false true false false false true = refl
first_or false false false true false false false false = refl
first_or false false false false e f g h = refl

pub first_of_both : (v w : Flaws) (x y : Option RangeFault) → first_flaw v ≡ x → first_flaw w ≡ y → first_flaw (both_flaws v w) ≡ sooner x y
first_of_both v w x y h k =
    first_or v.name v.select v.range v.wide w.name w.select w.range w.wide ∙ ap (λ o. sooner o (first_flaw w)) h ∙ ap (sooner x) k

-- ---- a fault is the first flaw, or want of memory

pub out : (w : Flaws) (f : RangeFault) → first_flaw w ≡ Some f → IsFlaw w f
out w NoMemory h = tt
out w NotConstant h = h
out w BadSelect h = h
out w BadRange h = h
out w WidthPast128 h = h

abbrev Either : Flaws → RangeFault → Type 0
Either w f = (f ≡ NoMemory) ⊎ (first_flaw w ≡ Some f)

into : (w : Flaws) (f : RangeFault) → IsFlaw w f → Either w f
into w NoMemory h = inl refl
into w NotConstant h = inr h
into w BadSelect h = inr h
into w BadRange h = inr h
into w WidthPast128 h = inr h

late : (f : RangeFault) → earlier f NoMemory ≡ NoMemory
late NoMemory = refl
late NotConstant = refl
late BadSelect = refl
late BadRange = refl
late WidthPast128 = refl

of_none : (w : Flaws) (f : RangeFault) → f ≡ NoMemory → IsFlaw w f
of_none w f e = subst (IsFlaw w) (sym e) tt

-- a first flaw of one is one of the other
pub flaw_moves : (v w : Flaws) (f : RangeFault) → ((g : RangeFault) → first_flaw v ≡ Some g → first_flaw w ≡ Some g) → IsFlaw v f → IsFlaw w f
flaw_moves v w f to h = by (into v f h)
  where
    by : Either v f → IsFlaw w f
    by (inl e) = of_none w f e
    by (inr e) = out w f (to f e)

both_err : (v w : Flaws) (f g : RangeFault) → IsFlaw v f → IsFlaw w g → IsFlaw (both_flaws v w) (earlier f g)
both_err v w f g h k = by (into v f h) (into w g k)
  where
    by : Either v f → Either w g → IsFlaw (both_flaws v w) (earlier f g)
    by (inl e) b = of_none (both_flaws v w) (earlier f g) (ap (λ x. earlier x g) e)
    by (inr a) (inl e) = of_none (both_flaws v w) (earlier f g) (ap (earlier f) e ∙ late f)
    by (inr a) (inr b) = out (both_flaws v w) (earlier f g) (first_of_both v w (Some f) (Some g) a b)

-- what both give
pub finds_both : {A B : Type 0} (P : A → Type 0) (Q : B → Type 0) (v w : Flaws) (a : Result A RangeFault) (b : Result B RangeFault)
    → Finds P v a → Finds Q w b → Finds (λ (p : A × B). P p.0 × Q p.1) (both_flaws v w) (both a b)
finds_both P Q v w (Ok a) (Ok b) h k = (first_of_both v w None None h.0 k.0, (h.1, k.1))
finds_both P Q v w (Ok a) (Err g) h k = flaw_moves w (both_flaws v w) g (λ x e. first_of_both v w None (Some x) h.0 e) k
finds_both P Q v w (Err f) (Ok b) h k = flaw_moves v (both_flaws v w) f (λ x e. first_of_both v w (Some x) None e k.0) h
finds_both P Q v w (Err f) (Err g) h k = both_err v w f g h k

-- the same of flaws that are equal
pub finds_same : {A : Type 0} (P : A → Type 0) (v w : Flaws) (a : Result A RangeFault) → v ≡ w → Finds P v a → Finds P w a
finds_same P v w a e h = subst (λ (x : Flaws). Finds P x a) e h

pub flaws_are : (a b c d e f g h : Bool) → a ≡ e → b ≡ f → c ≡ g → d ≡ h → flaws a b c d ≡ flaws e f g h
flaws_are a b c d e f g h p q r s = ap (λ x. flaws x b c d) p ∙ ap (λ x. flaws e x c d) q ∙ ap (λ x. flaws e f x d) r ∙ ap (λ x. flaws e f g x) s

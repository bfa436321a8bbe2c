-- What is wrong in two expressions, and in some together.
use Rattle.std.proofs.Common.{◌≡◌, ◌∙◌, sym, ap, refl, Bool, true, false, cond, ◌||◌, List, [], ◌∷◌, ◌++◌, Option, Some, None, Result, Ok, Err}
use Rattle.scope_meaning.specs.Constants.{Wrong, Read, nothing_wrong, either_wrong, any_wrong}
use Rattle.source_meaning.specs.Meaning.{Meaning}
use Rattle.elab_constants.specs.declared.fault.ConstantFault.{ConstantFault}
use Rattle.elab_constants.specs.declared.fault.ConstantFault.TheVariants.{NotConstant, BadSelect, WidthPast128, NoMemory}
use Rattle.elab_constants.specs.declared.sized.SizedTerm.{SizedTerm}
use Rattle.elab_constants.specs.Faults.{earlier, both, first_wrong}
use Rattle.elab_constants.specs.Sized.{IsSized, MakesSized}
use Rattle.elab_constants.specs.Reads.{IsFault, Gives}

-- the first of what is wrong, by the three flags
abbrev pub first : Bool → Bool → Bool → Option ConstantFault
first name select wide = cond name (Some NotConstant) (cond select (Some BadSelect) (cond wide (Some WidthPast128) None))

-- the first of two, where there are any
abbrev pub sooner : Option ConstantFault → Option ConstantFault → Option ConstantFault
sooner None o = o
sooner (Some f) None = Some f
sooner (Some f) (Some g) = Some (earlier f g)

pub first_or : (a b c d e f : Bool) → first (a || d) (b || e) (c || f) ≡ sooner (first a b c) (first d e f)
first_or true b c true e f = refl
first_or true b c false true f = refl
first_or true b c false false true = refl
first_or true b c false false false = refl
first_or false true c true e f = refl
first_or false true c false true f = refl
first_or false true c false false true = refl
first_or false true c false false false = refl
first_or false false true true e f = refl
first_or false false true false true f = refl
first_or false false true false false true = refl
first_or false false true false false false = refl
first_or false false false d e f = refl

-- what is wrong in two expressions
pub first_of_both : (v w : Wrong) (x y : Option ConstantFault) → first_wrong v ≡ x → first_wrong w ≡ y → first_wrong (either_wrong v w) ≡ sooner x y
first_of_both v w x y h k =
    first_or v.name v.select v.wide w.name w.select w.wide ∙ ap (λ o. sooner o (first_wrong w)) h ∙ ap (sooner x) k

-- a fault that is one of the two values' is one of both
pub gives_both : {A B : Type 0} (P : A → Type 0) (Q : B → Type 0) (v w : Wrong) (a : Result A ConstantFault) (b : Result B ConstantFault)
    → Gives P v a → Gives Q w b → Gives (λ (p : A × B). P p.0 × Q p.1) (either_wrong v w) (both a b)
gives_both P Q v w (Ok a) (Ok b) h k = (first_of_both v w None None h.0 k.0, (h.1, k.1))
gives_both P Q v w (Ok a) (Err NoMemory) h k = tt
gives_both P Q v w (Ok a) (Err NotConstant) h k = first_of_both v w None (Some NotConstant) h.0 k
gives_both P Q v w (Ok a) (Err BadSelect) h k = first_of_both v w None (Some BadSelect) h.0 k
gives_both P Q v w (Ok a) (Err WidthPast128) h k = first_of_both v w None (Some WidthPast128) h.0 k
gives_both P Q v w (Err NoMemory) (Ok b) h k = tt
gives_both P Q v w (Err NotConstant) (Ok b) h k = first_of_both v w (Some NotConstant) None h k.0
gives_both P Q v w (Err BadSelect) (Ok b) h k = first_of_both v w (Some BadSelect) None h k.0
gives_both P Q v w (Err WidthPast128) (Ok b) h k = first_of_both v w (Some WidthPast128) None h k.0
gives_both P Q v w (Err NoMemory) (Err g) h k = tt
gives_both P Q v w (Err NotConstant) (Err NoMemory) h k = tt
gives_both P Q v w (Err NotConstant) (Err NotConstant) h k = first_of_both v w (Some NotConstant) (Some NotConstant) h k
gives_both P Q v w (Err NotConstant) (Err BadSelect) h k = first_of_both v w (Some NotConstant) (Some BadSelect) h k
gives_both P Q v w (Err NotConstant) (Err WidthPast128) h k = first_of_both v w (Some NotConstant) (Some WidthPast128) h k
gives_both P Q v w (Err BadSelect) (Err NoMemory) h k = tt
gives_both P Q v w (Err BadSelect) (Err NotConstant) h k = first_of_both v w (Some BadSelect) (Some NotConstant) h k
gives_both P Q v w (Err BadSelect) (Err BadSelect) h k = first_of_both v w (Some BadSelect) (Some BadSelect) h k
gives_both P Q v w (Err BadSelect) (Err WidthPast128) h k = first_of_both v w (Some BadSelect) (Some WidthPast128) h k
gives_both P Q v w (Err WidthPast128) (Err NoMemory) h k = tt
gives_both P Q v w (Err WidthPast128) (Err NotConstant) h k = first_of_both v w (Some WidthPast128) (Some NotConstant) h k
gives_both P Q v w (Err WidthPast128) (Err BadSelect) h k = first_of_both v w (Some WidthPast128) (Some BadSelect) h k
gives_both P Q v w (Err WidthPast128) (Err WidthPast128) h k = first_of_both v w (Some WidthPast128) (Some WidthPast128) h k

-- where nothing is wrong, what an operator makes is what is read
pub gives_made : (w : Wrong) (m : Meaning) (r : Result SizedTerm ConstantFault) → first_wrong w ≡ None → MakesSized m r → Gives (IsSized m) w r
gives_made w m (Ok t) e s = (e, s)
gives_made w m (Err NoMemory) e s = tt
gives_made w m (Err NotConstant) e s = absurd s
gives_made w m (Err BadSelect) e s = absurd s
gives_made w m (Err WidthPast128) e s = absurd s

-- a fault of one is a fault of what has it as its first fault too
pub fault_moves : (v w : Wrong) (f : ConstantFault) → ((g : ConstantFault) → first_wrong v ≡ Some g → first_wrong w ≡ Some g) → IsFault v f → IsFault w f
fault_moves v w NoMemory to h = tt
fault_moves v w NotConstant to h = to NotConstant h
fault_moves v w BadSelect to h = to BadSelect h
fault_moves v w WidthPast128 to h = to WidthPast128 h

abbrev some_is : ConstantFault → Option ConstantFault → ConstantFault
some_is d (Some f) = f
some_is d None = d

pub none_some : {A : Type 0} (f : ConstantFault) → None ≡ Some f → A
none_some f e = cc

-- a size that is wrong beside another fault changes nothing
pub wider : (v : Wrong) (b : Bool) (f : ConstantFault) → first_wrong v ≡ Some f → first_wrong (either_wrong v (record nothing_wrong { wide = b })) ≡ Some f
wider v b f h = first_or v.name v.select v.wide false false b ∙ beside v.name v.select v.wide b h
  where
    beside : (n s w b : Bool) → first n s w ≡ Some f → sooner (first n s w) (first false false b) ≡ Some f
    beside true s w true e = e
    beside true s w false e = e
    beside false true w true e = e
    beside false true w false e = e
    beside false false true true e = e
    beside false false true false e = e
    beside false false false b e = none_some f e

-- a select beside another fault
pub with_select : (w : Wrong) (f : ConstantFault) → first_wrong w ≡ Some f → first_wrong (record w { select = true }) ≡ Some (earlier f BadSelect)
with_select w f = by_flags w.name w.select w.wide
  where
    by_flags : (n s b : Bool) → first n s b ≡ Some f → first n true b ≡ Some (earlier f BadSelect)
    by_flags true s b e = ap (λ o. Some (earlier (some_is f o) BadSelect)) e
    by_flags false true b e = ap (λ o. Some (earlier (some_is f o) BadSelect)) e
    by_flags false false true e = ap (λ o. Some (earlier (some_is f o) BadSelect)) e
    by_flags false false false e = none_some f e

-- a select alone
pub select_alone : (w : Wrong) → first_wrong w ≡ None → first_wrong (record w { select = true }) ≡ Some BadSelect
select_alone w = by_flags w.name w.select w.wide
  where
    by_flags : (n s b : Bool) → first n s b ≡ None → first n true b ≡ Some BadSelect
    by_flags true s b e = none_some NotConstant (sym e)
    by_flags false s b e = refl

pub or_assoc : (a b c : Bool) → (a || (b || c)) ≡ ((a || b) || c)
or_assoc true b c = refl
or_assoc false b c = refl

pub or_false : (a : Bool) → (a || false) ≡ a
or_false true = refl
or_false false = refl

abbrev flags : Bool → Bool → Bool → Wrong
flags n s w = record { name = n; select = s; wide = w }

flags_are : (a b c d e f : Bool) → a ≡ d → b ≡ e → c ≡ f → flags a b c ≡ flags d e f
flags_are a b c d e f h k l = ap (λ x. flags x b c) h ∙ ap (λ x. flags d x c) k ∙ ap (λ x. flags d e x) l

-- one more expression
pub any_wrong_more : (rs : List Read) (r : Read) → any_wrong (rs ++ r ∷ []) ≡ either_wrong (any_wrong rs) r.wrong
any_wrong_more [] r = flags_are _ _ _ _ _ _ (or_false r.wrong.name) (or_false r.wrong.select) (or_false r.wrong.wide)
any_wrong_more (a ∷ rs) r =
    let v = a.wrong in
    let w = any_wrong rs in
    ap (either_wrong v) (any_wrong_more rs r)
    ∙ flags_are _ _ _ _ _ _ (or_assoc v.name w.name r.wrong.name) (or_assoc v.select w.select r.wrong.select) (or_assoc v.wide w.wide r.wrong.wide)

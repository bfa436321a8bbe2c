-- Marks of modules that are entered and left.
use Rattle.std.proofs.Common.{◌≡◌, ◌∙◌, sym, ap, refl, subst, ℕ, zero, suc, ◌+◌, ◌<◌, ◌≤◌, Bool, true, false, cond, ◌||◌, List, [], ◌∷◌, ◌++◌, length}
use Rattle.std.proofs.Common.{replicate, Option, Some, None, arith}
use Rattle.std.specs.Prelude.{slice_get}
use Rattle.std.specs.List.{list_any}
use Rattle.std.specs.Str.{bytes_eq}
use Rattle.std.proofs.lemmas.List.Folds.{list_any-append}
use Rattle.std.proofs.lemmas.Slice.Eq.{bytes_eq-Decides}
use Rattle.std.proofs.lemmas.Bool.{cases_eq}
use Rattle.std.proofs.Common.{inl, inr}
use Rattle.vlog_tree.specs.declared.module.Module.{Module}
use Rattle.scope_meaning.specs.Declared.{is_in}
use Rattle.scope_meaning.specs.Heads.{module_named}
use Rattle.elab_modules.specs.declared.above.OpenModules.{OpenModules}
use Rattle.elab_modules.specs.Above.{AreAbove}
use Rattle.elab_modules.proofs.Names.{named-at, IsNamed}

same_name : (q : List ℕ) → bytes_eq q q ≡ true
same_name q = (bytes_eq-Decides q q).1 refl

or_false : (a : Bool) → (a || false) ≡ a
or_false true = refl
or_false false = refl

or_true : (a : Bool) → (a || true) ≡ true
or_true true = refl
or_true false = refl

within-more : (above : List (List ℕ)) (name q : List ℕ) → is_in q (above ++ name ∷ []) ≡ (is_in q above || bytes_eq q name)
within-more above name q = list_any-append (bytes_eq q) above (name ∷ []) ∙ ap (λ b. is_in q above || b) (or_false (bytes_eq q name))

-- the module that has a number by its name
the-module : (design : List Module) (q name : List ℕ) (n : ℕ) (m k : Module) → module_named design q ≡ Some (n, m) → module_named design name ≡ Some (n, k)
    → m ≡ k
the-module design q name n m k e f =
    let a = named-at 0 design q (n, m) e in
    let b = named-at 0 design name (n, k) f in
    let same : a.behind ≡ b.behind = let x = a.number in let y = b.number in omega arith in
    let s : Some m ≡ Some k = sym a.stands ∙ ap (slice_get design) same ∙ b.stands in
    cc

its-name : (design : List Module) (name : List ℕ) (n : ℕ) (m : Module) → module_named design name ≡ Some (n, m) → name ≡ m.name
its-name design name n m e = (named-at 0 design name (n, m) e).name

other-name : (design : List Module) (name : List ℕ) (n k : ℕ) (m x : Module) → module_named design name ≡ Some (n, m) → module_named design x.name ≡ Some (k, x)
    → (k ≡ n → ⊥) → (b : Bool) → bytes_eq x.name m.name ≡ b → b ≡ false
other-name design name n k m x e f differ false h = refl
other-name design name n k m x e f differ true h =
    let s : x.name ≡ name = (bytes_eq-Decides x.name m.name).0 h ∙ sym (its-name design name n m e) in
    let t : Some (k, x) ≡ Some (n, m) = sym f ∙ ap (module_named design) s ∙ e in
    absurd (differ (ap number t))
  where
    number : Option (ℕ × Module) → ℕ
    number (Some p) = p.0
    number None = 0

pub holds : (design : List Module) (above : List (List ℕ)) (name : List ℕ) (n : ℕ) (m : Module) (o : OpenModules) → AreAbove design above o
    → module_named design name ≡ Some (n, m) → slice_get o.entered.items n ≡ Some (is_in name above)
holds design above name n m o h e =
    let s = its-name design name n m e in
    h n m (ap (module_named design) (sym s) ∙ e) ∙ ap (λ q. Some (is_in q above)) (sym s)

pub enters : (design : List Module) (above : List (List ℕ)) (name : List ℕ) (n : ℕ) (m : Module) (old new : OpenModules) → AreAbove design above old
    → module_named design name ≡ Some (n, m)
    → ((b : Bool) → slice_get old.entered.items n ≡ Some b → slice_get new.entered.items n ≡ Some true)
    → ((k : ℕ) → (k ≡ n → ⊥) → slice_get new.entered.items k ≡ slice_get old.entered.items k) → AreAbove design (above ++ m.name ∷ []) new
enters design above name n m old new h e same others k x f = elim (cases_eq k n) [
  | inl is ↦
      let x_is : x ≡ m = the-module design x.name name n x m (f ∙ ap (λ j. Some (j, x)) is) e in
      ap (slice_get new.entered.items) is ∙ same (is_in name above) (holds design above name n m old h e)
      ∙ ap Some (sym (within-more above m.name x.name ∙ ap (λ (y : Module). is_in x.name above || bytes_eq y.name m.name) x_is
      ∙ ap (λ b. is_in x.name above || b) (same_name m.name) ∙ or_true (is_in x.name above)))
  | inr differ ↦
      others k differ ∙ h k x f
      ∙ ap Some (sym (within-more above m.name x.name ∙ ap (λ b. is_in x.name above || b) (other-name design name n k m x e f differ _ refl)
      ∙ or_false (is_in x.name above)))
]

pub leaves : (design : List Module) (above : List (List ℕ)) (name : List ℕ) (n : ℕ) (m : Module) (old new : OpenModules)
    → AreAbove design (above ++ m.name ∷ []) old → module_named design name ≡ Some (n, m) → is_in m.name above ≡ false
    → ((b : Bool) → slice_get old.entered.items n ≡ Some b → slice_get new.entered.items n ≡ Some false)
    → ((k : ℕ) → (k ≡ n → ⊥) → slice_get new.entered.items k ≡ slice_get old.entered.items k) → AreAbove design above new
leaves design above name n m old new h e out same others k x f = elim (cases_eq k n) [
  | inl is ↦
      let x_is : x ≡ m = the-module design x.name name n x m (f ∙ ap (λ j. Some (j, x)) is) e in
      ap (slice_get new.entered.items) is ∙ same (is_in name (above ++ m.name ∷ [])) (holds design (above ++ m.name ∷ []) name n m old h e)
      ∙ ap Some (sym (ap (λ (y : Module). is_in y.name above) x_is ∙ out))
  | inr differ ↦
      others k differ ∙ h k x f
      ∙ ap Some (within-more above m.name x.name ∙ ap (λ b. is_in x.name above || b) (other-name design name n k m x e f differ _ refl)
      ∙ or_false (is_in x.name above))
]

get-replicate : (count n : ℕ) → n < count → slice_get (replicate count false) n ≡ Some false
get-replicate zero n lt = absurd (omega arith)
get-replicate (suc count) zero lt = refl
get-replicate (suc count) (suc n) lt = get-replicate count n (omega arith)

get-within : (ms : List Module) (n : ℕ) (m : Module) → slice_get ms n ≡ Some m → n < length ms
get-within [] n m e = cc
get-within (x ∷ ms) zero m e = omega arith
get-within (x ∷ ms) (suc n) m e = let lt = get-within ms n m e in omega arith

pub none-above : (design : List Module) (count k : ℕ) (o : OpenModules) → length design ≡ count → count ≤ k → o.entered.items ≡ replicate k false
    → AreAbove design [] o
none-above design count k o long le is n m e =
    let a = named-at 0 design m.name (n, m) e in
    let lt = get-within design a.behind m a.stands in
    ap (λ l. slice_get l n) is ∙ get-replicate k n (let x = a.number in omega arith)

pub contains-some : (b c : Bool) (slice items : List Bool) (n : ℕ) → Some b ≡ slice_get slice n → slice ≡ items → slice_get items n ≡ Some c → b ≡ c
contains-some b c slice items n e same h =
    let s : Some b ≡ Some c = e ∙ ap (λ l. slice_get l n) same ∙ h in
    cc

pub contains-none : (c : Bool) (slice items : List Bool) (n : ℕ) → None ≡ slice_get slice n → slice ≡ items → slice_get items n ≡ Some c → false ≡ c
contains-none c slice items n e same h =
    let s : None ≡ Some c = e ∙ ap (λ l. slice_get l n) same ∙ h in
    cc

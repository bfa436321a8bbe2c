-- How many items an item is, by what it is.
use Rattle.std.proofs.Common.{◌≡◌, ◌∙◌, sym, ap, refl, subst, ℕ, ◌+◌, ◌<◌, List, [], ◌∷◌, ◌++◌, length, take, get_or, map, Option, Some, None, Result, Ok, Err}
use Rattle.std.proofs.Common.{arith}
use Rattle.std.specs.Prelude.{IfOk}
use Rattle.std.proofs.lemmas.List.{map-append, take_more}
use Rattle.circuit_run.specs.Lists.{total}
use Rattle.cov_types.specs.declared.no_memory.NoMemory.{NoMemory}
use Rattle.vlog_tree.specs.declared.expression.Expr.{Expr}
use Rattle.vlog_tree.specs.declared.item.BlockPlaces.{BlockPlaces}
use Rattle.vlog_tree.specs.declared.item.NamePlace.{NamePlace}
use Rattle.vlog_tree.specs.declared.item.GenArm.{GenArm, out-GenArm, fold-GenArm, fold_out-GenArm}
use Rattle.vlog_tree.specs.declared.item.GenBody.{GenBody, out-GenBody, fold_out-GenBody}
use Rattle.vlog_tree.specs.declared.item.Item.{Item, out-Item, fold_out-Item}
use Rattle.vlog_tree.specs.declared.item.ItemKind.{ItemKind, fold-ItemKind, fold-roll-ItemKind}
use Rattle.vlog_tree.specs.declared.item.ItemKind.TheVariants as i
use Rattle.vlog_tree.specs.declared.item.ItemKind.TheOpen as o
use Rattle.scope_meaning.specs.Declared.{count, count_body, constructs, kind_count, kind_constructs, or_0}

-- a sum with one more
pub total-more : {X : Type 0} (f : X → ℕ) (xs : List X) (k : ℕ) (x : X) → k < length xs → x ≡ get_or xs k x
    → total (map f (take (k + 1) xs)) ≡ total (map f (take k xs)) + f x
total-more {X} f xs k x lt is =
    ap (λ ys. total (map f ys)) (take_more xs k x lt ∙ ap (λ (y : X). take k xs ++ y ∷ []) (sym is)) ∙ behind (take k xs)
  where
    behind : (ys : List X) → total (map f (ys ++ x ∷ [])) ≡ total (map f ys) + f x
    behind [] = omega arith
    behind (y ∷ ys) = let e = behind ys in omega arith

pub step : {X : Type 0} (f : X → ℕ) (xs : List X) (k : ℕ) (x : X) (before all here after : ℕ) → k < length xs → x ≡ get_or xs k x
    → all ≡ before + total (map f (take k xs)) → here ≡ f x → after ≡ all + here → after ≡ before + total (map f (take (k + 1) xs))
step f xs k x before all here after lt is a h e = let more = total-more f xs k x lt is in omega arith

pub step-alone : {X : Type 0} (f : X → ℕ) (xs : List X) (k : ℕ) (x : X) (all here after : ℕ) → k < length xs → x ≡ get_or xs k x
    → all ≡ total (map f (take k xs)) → here ≡ f x → after ≡ all + here → after ≡ total (map f (take (k + 1) xs))
step-alone f xs k x all here after lt is a h e = let more = total-more f xs k x lt is in omega arith

-- ---- items

abbrev says : ItemKind → ℕ
says = fold-ItemKind ℕ ℕ ℕ ℕ kind_count (λ arm. arm.body) (λ body. total body.items) (λ item. item.what)

of_item : (a : Item) → count a ≡ says (out-Item a).what
of_item a = fold_out-Item ℕ ℕ ℕ ℕ kind_count (λ arm. arm.body) (λ body. total body.items) (λ item. item.what) a

by_kind : (a : Item) (k : ItemKind) (n : ℕ) (r : Result ℕ NoMemory) → (out-Item a).what ≡ k → says k ≡ n → IfOk r (λ m. m ≡ n) → IfOk r (λ m. m ≡ count a)
by_kind a k n r is said h = subst (λ (x : ℕ). IfOk r (λ (m : ℕ). m ≡ x)) (sym (of_item a ∙ ap says is ∙ said)) h

pub in_Generate : (items : List Item) (a : Item) (slice : List Item) (r : Result ℕ NoMemory) → (out-Item a).what ≡ i.Generate items → slice ≡ items
    → IfOk r (λ m. m ≡ 1 + total (map count slice)) → IfOk r (λ m. m ≡ count a)
in_Generate items a slice r is same h =
    by_kind a (i.Generate items) (1 + total (map count items)) r is
    (ap says (sym (i.rolls-Generate items))
    ∙ fold-roll-ItemKind ℕ ℕ ℕ ℕ kind_count (λ arm. arm.body) (λ body. total body.items) (λ item. item.what) (o.Generate items)
    ∙ turned (total (map count items)))
    (subst (λ (l : List Item). IfOk r (λ (m : ℕ). m ≡ 1 + total (map count l))) same h)
  where
    turned : (n : ℕ) → n + 1 ≡ 1 + n
    turned n = omega arith

pub in_Loop : (name : List ℕ) (from test : Expr) (step_name : List ℕ) (step : Expr) (block : NamePlace) (places : BlockPlaces) (body : List Item) (a : Item)
    (slice : List Item) (r : Result ℕ NoMemory) → (out-Item a).what ≡ i.Loop name from test step_name step block places body → slice ≡ body
    → IfOk r (λ m. m ≡ 1 + total (map count slice)) → IfOk r (λ m. m ≡ count a)
in_Loop name from test step_name step block places body a slice r is same h =
    by_kind a (i.Loop name from test step_name step block places body) (1 + total (map count body)) r is
    (ap says (sym (i.rolls-Loop name from test step_name step block places body))
    ∙ fold-roll-ItemKind ℕ ℕ ℕ ℕ kind_count (λ arm. arm.body) (λ body. total body.items) (λ item. item.what)
    (o.Loop name from test step_name step block places body)
    ∙ turned (total (map count body)))
    (subst (λ (l : List Item). IfOk r (λ (m : ℕ). m ≡ 1 + total (map count l))) same h)
  where
    turned : (n : ℕ) → n + 1 ≡ 1 + n
    turned n = omega arith

-- ---- a generate `if`

pub body_is : (b : GenBody) → count_body b ≡ total (map count (out-GenBody b).items)
body_is b = fold_out-GenBody ℕ ℕ ℕ ℕ kind_count (λ arm. arm.body) (λ body. total body.items) (λ item. item.what) b

abbrev arm_says : GenArm → ℕ
arm_says = fold-GenArm ℕ ℕ ℕ ℕ kind_count (λ arm. arm.body) (λ body. total body.items) (λ item. item.what)

abbrev pub in_arm : GenArm → ℕ
in_arm a = count_body (out-GenArm a).body

arm_is : (a : GenArm) → arm_says a ≡ in_arm a
arm_is a = fold_out-GenArm ℕ ℕ ℕ ℕ kind_count (λ arm. arm.body) (λ body. total body.items) (λ item. item.what) a

arms_are : (arms : List GenArm) → total (map arm_says arms) ≡ total (map in_arm arms)
arms_are [] = refl
arms_are (a ∷ arms) = ap (λ n. n + total (map arm_says arms)) (arm_is a) ∙ ap (λ n. in_arm a + n) (arms_are arms)

abbrev last_count : Option GenBody → ℕ
last_count (Some b) = count_body b
last_count None = 0

says-Choose : (arms : List GenArm) (last : Option GenBody) → says (i.Choose arms last) ≡ (total (map in_arm arms) + last_count last) + 1
says-Choose arms (Some b) =
    ap says (sym (i.rolls-Choose arms (Some b)))
    ∙ fold-roll-ItemKind ℕ ℕ ℕ ℕ kind_count (λ arm. arm.body) (λ body. total body.items) (λ item. item.what) (o.Choose arms (Some b))
    ∙ ap (λ n. (n + count_body b) + 1) (arms_are arms)
says-Choose arms None =
    ap says (sym (i.rolls-Choose arms None))
    ∙ fold-roll-ItemKind ℕ ℕ ℕ ℕ kind_count (λ arm. arm.body) (λ body. total body.items) (λ item. item.what) (o.Choose arms None)
    ∙ ap (λ n. (n + 0) + 1) (arms_are arms)

pub in_Choose : (arms : List GenArm) (last : Option GenBody) (a : Item) (slice : List GenArm) (all : ℕ) (n : ℕ) (r : Result ℕ NoMemory)
    → (out-Item a).what ≡ i.Choose arms last → slice ≡ arms → all ≡ 1 + total (map in_arm slice) → n ≡ last_count last
    → IfOk r (λ m. m ≡ all + n) → IfOk r (λ m. m ≡ count a)
in_Choose arms last a slice all n r is same sum here h =
    by_kind a (i.Choose arms last) (all + n) r is
    (says-Choose arms last ∙ turned (total (map in_arm arms)) (last_count last) n all (sum ∙ ap (λ l. 1 + total (map in_arm l)) same) here) h
  where
    turned : (s l n all : ℕ) → all ≡ 1 + s → n ≡ l → (s + l) + 1 ≡ all + n
    turned s l n all e f = omega arith

pub last-is : (last : Option GenBody) (b : GenBody) (n : ℕ) → last ≡ Some b → n ≡ count_body b → n ≡ last_count last
last-is last b n is e = e ∙ sym (ap last_count is)

pub none-last : (arms : List GenArm) (last : Option GenBody) (a : Item) (slice : List GenArm) (all : ℕ) → (out-Item a).what ≡ i.Choose arms last
    → slice ≡ arms → all ≡ 1 + total (map in_arm slice) → last ≡ None → all ≡ count a
none-last arms last a slice all is same sum none =
    in_Choose arms last a slice all 0 (Ok all) is same sum (sym (ap last_count none)) (omega arith)

-- ---- constructs

abbrev makes : ItemKind → ℕ
makes = fold-ItemKind ℕ ℕ ℕ ℕ kind_constructs (λ arm. 0) (λ body. 0) (λ item. item.what)

constructs_of : (a : Item) → constructs a ≡ makes (out-Item a).what
constructs_of a = fold_out-Item ℕ ℕ ℕ ℕ kind_constructs (λ arm. 0) (λ body. 0) (λ item. item.what) a

pub region_makes : (items : List Item) (a : Item) (slice : List Item) (r : Result ℕ NoMemory) → (out-Item a).what ≡ i.Generate items → slice ≡ items
    → IfOk r (λ m. m ≡ total (map constructs slice)) → IfOk r (λ m. m ≡ constructs a)
region_makes items a slice r is same h =
    subst (λ (x : ℕ). IfOk r (λ (m : ℕ). m ≡ x))
    (ap (λ l. total (map constructs l)) same
    ∙ sym (constructs_of a ∙ ap makes is ∙ ap makes (sym (i.rolls-Generate items))
    ∙ fold-roll-ItemKind ℕ ℕ ℕ ℕ kind_constructs (λ arm. 0) (λ body. 0) (λ item. item.what) (o.Generate items))) h

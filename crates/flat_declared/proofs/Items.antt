-- What an item declares, by what it is.
use Rattle.std.proofs.Common.{◌≡◌, ◌∙◌, sym, ap, refl, subst, ℕ, ◌+◌, ◌<◌, Bool, true, false, not, ◌||◌, cond, List}
use Rattle.std.proofs.Common.{[], ◌∷◌, ◌++◌, length, take, get_or, map, filter, Option, Some, None, Result, Ok, Err, is_some, append_assoc}
use Rattle.std.specs.Prelude.{IfOk}
use Rattle.std.specs.List.{flat_map, list_any}
use Rattle.std.specs.Option.{option_or}
use Rattle.std.specs.Str.{bytes_eq}
use Rattle.std.proofs.lemmas.List.{map-append}
use Rattle.cov_types.specs.declared.no_memory.NoMemory.{NoMemory}
use Rattle.vlog_tree.specs.declared.expression.Expr.{Expr}
use Rattle.vlog_tree.specs.declared.expression.RangeExpr.{RangeExpr}
use Rattle.vlog_tree.specs.declared.item.BlockPlaces.{BlockPlaces}
use Rattle.vlog_tree.specs.declared.item.Conns.{Conns}
use Rattle.vlog_tree.specs.declared.item.NamePlace.{NamePlace}
use Rattle.vlog_tree.specs.declared.item.WireName.{WireName}
use Rattle.vlog_tree.specs.declared.item.RegName.{RegName}
use Rattle.vlog_tree.specs.declared.item.ParamForm.{ParamForm}
use Rattle.vlog_tree.specs.declared.item.ParamName.{ParamName}
use Rattle.vlog_tree.specs.declared.item.Instance.{Instance}
use Rattle.vlog_tree.specs.declared.item.GenArm.{GenArm, out-GenArm, fold-GenArm, fold_out-GenArm}
use Rattle.vlog_tree.specs.declared.item.GenBody.{GenBody, out-GenBody, fold-GenBody, fold_out-GenBody}
use Rattle.vlog_tree.specs.declared.item.Item.{Item, out-Item, fold_out-Item}
use Rattle.vlog_tree.specs.declared.item.ItemKind.{ItemKind, fold-ItemKind, fold-roll-ItemKind}
use Rattle.vlog_tree.specs.declared.item.ItemKind.TheVariants as i
use Rattle.vlog_tree.specs.declared.item.ItemKind.TheOpen as o
use Rattle.vlog_tree.specs.declared.module.Port.{Port}
use Rattle.vlog_tree.specs.declared.module.PortKind.{PortKind}
use Rattle.vlog_tree.specs.declared.module.PortKind.TheVariants as port
use Rattle.scope_meaning.specs.Declared.{Declared, declare, wire, reg, integer, genvar, constant, scope_name}
use Rattle.scope_meaning.specs.Declared.{declares, kind_declares, block_names, once, or_none, is_in, port_kind, module_declares}
use Rattle.elab_overrides.specs.Overrides.{AreAmong}
use Rattle.elab_overrides.proofs.Names.{eq-sym, with_name}
use Rattle.name_table.specs.declared.table.NameTable.{NameTable}
use Rattle.name_table.specs.Tables.{value_of, only}
use Rattle.vlog_tree.specs.declared.module.Module.{Module}
use Rattle.flat_declared.proofs.Tables.{next}
use Rattle.flat_declared.specs.declared.declared.DeclaredKind.{DeclaredKind}
use Rattle.flat_declared.specs.declared.declared.DeclaredKind.TheVariants as kind
use Rattle.flat_declared.specs.declared.declared.KindOfName.{KindOfName}
use Rattle.flat_declared.specs.Kinds.{kind_seen, seen, block_seen}
use Rattle.elab_names.specs.Arms.{arm_names, last_names}

abbrev says : ItemKind → List Declared
says = fold-ItemKind (List Declared) (List (List ℕ)) (List (List ℕ)) (List Declared) kind_declares (λ arm. arm.body) (λ body. block_names body.name)
    (λ a. a.what)

of_item : (a : Item) → declares a ≡ says (out-Item a).what
of_item a =
    fold_out-Item (List Declared) (List (List ℕ)) (List (List ℕ)) (List Declared) kind_declares (λ arm. arm.body) (λ body. block_names body.name)
    (λ a. a.what) a

mapped : {X A B : Type 0} (f : A → B) (g : X → A) (xs : List X) → map f (map g xs) ≡ map (λ x. f (g x)) xs
mapped f g [] = refl
mapped f g (x ∷ xs) = ap (λ l. f (g x) ∷ l) (mapped f g xs)

abbrev Result_ : Type 0
Result_ = Result (List KindOfName) NoMemory

abbrev named_by : {X : Type 0} → (X → List ℕ) → DeclaredKind → List X → List KindOfName
named_by name k = map (λ x. record { name = name x; kind = k })

-- an item of a kind that declares these
by_kind : (a : Item) (k : ItemKind) (ds : List KindOfName) (before : List KindOfName) (r : Result_) → (out-Item a).what ≡ k → map seen (says k) ≡ ds
    → IfOk r (λ all. all ≡ before ++ ds) → IfOk r (λ all. all ≡ before ++ map seen (declares a))
by_kind a k ds before r is said =
    subst (λ (l : List KindOfName). IfOk r (λ all. all ≡ before ++ l)) (sym (ap (map seen) (of_item a ∙ ap says is) ∙ said))

abbrev Ds : Type 0
Ds = List Declared

abbrev Ns : Type 0
Ns = List (List ℕ)

pub in_Wire : (signed : Bool) (range : Option RangeExpr) (names : List WireName) (a : Item) (slice : List WireName) (before : List KindOfName)
    (r : Result_) → (out-Item a).what ≡ i.Wire signed range names → slice ≡ names
    → IfOk r (λ all. all ≡ before ++ named_by (λ (w : WireName). w.name.name) kind.Wire slice) → IfOk r (λ all. all ≡ before ++ map seen (declares a))
in_Wire signed range names a slice before r is same h =
    by_kind a (i.Wire signed range names) (named_by (λ (w : WireName). w.name.name) kind.Wire names) before r is
    (ap (map seen) (ap says (sym (i.rolls-Wire signed range names))
    ∙ fold-roll-ItemKind Ds Ns Ns Ds kind_declares (λ arm. arm.body) (λ body. block_names body.name) (λ a. a.what) (o.Wire signed range names))
    ∙ mapped seen (λ (w : WireName). declare wire w.name.name) names)
    (subst (λ (l : List WireName). IfOk r (λ all. all ≡ before ++ named_by (λ (w : WireName). w.name.name) kind.Wire l)) same h)

pub in_Reg : (signed : Bool) (range : Option RangeExpr) (names : List RegName) (a : Item) (slice : List RegName) (before : List KindOfName) (r : Result_)
    → (out-Item a).what ≡ i.Reg signed range names → slice ≡ names
    → IfOk r (λ all. all ≡ before ++ named_by (λ (w : RegName). w.name.name) kind.Reg slice) → IfOk r (λ all. all ≡ before ++ map seen (declares a))
in_Reg signed range names a slice before r is same h =
    by_kind a (i.Reg signed range names) (named_by (λ (w : RegName). w.name.name) kind.Reg names) before r is
    (ap (map seen) (ap says (sym (i.rolls-Reg signed range names))
    ∙ fold-roll-ItemKind Ds Ns Ns Ds kind_declares (λ arm. arm.body) (λ body. block_names body.name) (λ a. a.what) (o.Reg signed range names))
    ∙ mapped seen (λ (w : RegName). declare reg w.name.name) names)
    (subst (λ (l : List RegName). IfOk r (λ all. all ≡ before ++ named_by (λ (w : RegName). w.name.name) kind.Reg l)) same h)

pub in_Integer : (names : List NamePlace) (a : Item) (slice : List NamePlace) (before : List KindOfName) (r : Result_)
    → (out-Item a).what ≡ i.Integer names → slice ≡ names
    → IfOk r (λ all. all ≡ before ++ named_by (λ (n : NamePlace). n.name) kind.Integer slice) → IfOk r (λ all. all ≡ before ++ map seen (declares a))
in_Integer names a slice before r is same h =
    by_kind a (i.Integer names) (named_by (λ (n : NamePlace). n.name) kind.Integer names) before r is
    (ap (map seen) (ap says (sym (i.rolls-Integer names))
    ∙ fold-roll-ItemKind Ds Ns Ns Ds kind_declares (λ arm. arm.body) (λ body. block_names body.name) (λ a. a.what) (o.Integer names))
    ∙ mapped seen (λ (n : NamePlace). declare integer n.name) names)
    (subst (λ (l : List NamePlace). IfOk r (λ all. all ≡ before ++ named_by (λ (n : NamePlace). n.name) kind.Integer l)) same h)

pub in_Genvar : (names : List NamePlace) (a : Item) (slice : List NamePlace) (before : List KindOfName) (r : Result_)
    → (out-Item a).what ≡ i.Genvar names → slice ≡ names
    → IfOk r (λ all. all ≡ before ++ named_by (λ (n : NamePlace). n.name) kind.Genvar slice) → IfOk r (λ all. all ≡ before ++ map seen (declares a))
in_Genvar names a slice before r is same h =
    by_kind a (i.Genvar names) (named_by (λ (n : NamePlace). n.name) kind.Genvar names) before r is
    (ap (map seen) (ap says (sym (i.rolls-Genvar names))
    ∙ fold-roll-ItemKind Ds Ns Ns Ds kind_declares (λ arm. arm.body) (λ body. block_names body.name) (λ a. a.what) (o.Genvar names))
    ∙ mapped seen (λ (n : NamePlace). declare genvar n.name) names)
    (subst (λ (l : List NamePlace). IfOk r (λ all. all ≡ before ++ named_by (λ (n : NamePlace). n.name) kind.Genvar l)) same h)

pub in_Parameter : (is_local : Bool) (form : ParamForm) (names : List ParamName) (a : Item) (slice : List ParamName) (before : List KindOfName)
    (r : Result_) → (out-Item a).what ≡ i.Parameter is_local form names → slice ≡ names
    → IfOk r (λ all. all ≡ before ++ named_by (λ (p : ParamName). p.name.name) kind.Constant slice) → IfOk r (λ all. all ≡ before ++ map seen (declares a))
in_Parameter is_local form names a slice before r is same h =
    by_kind a (i.Parameter is_local form names) (named_by (λ (p : ParamName). p.name.name) kind.Constant names) before r is
    (ap (map seen) (ap says (sym (i.rolls-Parameter is_local form names))
    ∙ fold-roll-ItemKind Ds Ns Ns Ds kind_declares (λ arm. arm.body) (λ body. block_names body.name) (λ a. a.what) (o.Parameter is_local form names))
    ∙ mapped seen (λ (p : ParamName). declare constant p.name.name) names)
    (subst (λ (l : List ParamName). IfOk r (λ all. all ≡ before ++ named_by (λ (p : ParamName). p.name.name) kind.Constant l)) same h)

pub in_Instances : (of : List ℕ) (params : Conns) (names : List Instance) (a : Item) (slice : List Instance) (before : List KindOfName) (r : Result_)
    → (out-Item a).what ≡ i.Instances of params names → slice ≡ names
    → IfOk r (λ all. all ≡ before ++ named_by (λ (m : Instance). m.name.name) kind.ScopeName slice) → IfOk r (λ all. all ≡ before ++ map seen (declares a))
in_Instances of params names a slice before r is same h =
    by_kind a (i.Instances of params names) (named_by (λ (m : Instance). m.name.name) kind.ScopeName names) before r is
    (ap (map seen) (ap says (sym (i.rolls-Instances of params names))
    ∙ fold-roll-ItemKind Ds Ns Ns Ds kind_declares (λ arm. arm.body) (λ body. block_names body.name) (λ a. a.what) (o.Instances of params names))
    ∙ mapped seen (λ (m : Instance). declare scope_name m.name.name) names)
    (subst (λ (l : List Instance). IfOk r (λ all. all ≡ before ++ named_by (λ (m : Instance). m.name.name) kind.ScopeName l)) same h)

flat_map-map : (f : Item → Ds) (items : List Item) → flat_map (λ (ds : Ds). ds) (map f items) ≡ flat_map f items
flat_map-map f [] = refl
flat_map-map f (a ∷ items) = ap (λ ds. f a ++ ds) (flat_map-map f items)

-- the names of a region are those of its items
pub in_Generate : (items : List Item) (a : Item) (slice : List Item) (before : List KindOfName) (r : Result_) → (out-Item a).what ≡ i.Generate items
    → slice ≡ items
    → IfOk r (λ all. all ≡ before ++ map seen (flat_map declares slice)) → IfOk r (λ all. all ≡ before ++ map seen (declares a))
in_Generate items a slice before r is same h =
    by_kind a (i.Generate items) (map seen (flat_map declares items)) before r is
    (ap (map seen) (ap says (sym (i.rolls-Generate items))
    ∙ fold-roll-ItemKind Ds Ns Ns Ds kind_declares (λ arm. arm.body) (λ body. block_names body.name) (λ a. a.what) (o.Generate items)
    ∙ flat_map-map declares items))
    (subst (λ (l : List Item). IfOk r (λ all. all ≡ before ++ map seen (flat_map declares l))) same h)

pub in_Loop : (name : List ℕ) (from test : Expr) (step_name : List ℕ) (step : Expr) (block : NamePlace) (places : BlockPlaces) (body : List Item) (a : Item)
    (before : List KindOfName) (r : Result_) → (out-Item a).what ≡ i.Loop name from test step_name step block places body
    → IfOk r (λ all. all ≡ before ++ block_seen block.name ∷ []) → IfOk r (λ all. all ≡ before ++ map seen (declares a))
in_Loop name from test step_name step block places body a before r is h =
    by_kind a (i.Loop name from test step_name step block places body) (block_seen block.name ∷ []) before r is
    (ap (map seen) (ap says (sym (i.rolls-Loop name from test step_name step block places body))
    ∙ fold-roll-ItemKind Ds Ns Ns Ds kind_declares (λ arm. arm.body) (λ body. block_names body.name) (λ a. a.what)
    (o.Loop name from test step_name step block places body)))
    h

-- ---- a generate `if`

abbrev arm_says : GenArm → Ns
arm_says = fold-GenArm Ds Ns Ns Ds kind_declares (λ arm. arm.body) (λ body. block_names body.name) (λ a. a.what)

abbrev body_says : GenBody → Ns
body_says = fold-GenBody Ds Ns Ns Ds kind_declares (λ arm. arm.body) (λ body. block_names body.name) (λ a. a.what)

body_is : (b : GenBody) → body_says b ≡ block_names (out-GenBody b).name
body_is b = fold_out-GenBody Ds Ns Ns Ds kind_declares (λ arm. arm.body) (λ body. block_names body.name) (λ a. a.what) b

arm_is : (a : GenArm) → arm_says a ≡ arm_names a
arm_is a = fold_out-GenArm Ds Ns Ns Ds kind_declares (λ arm. arm.body) (λ body. block_names body.name) (λ a. a.what) a ∙ body_is (out-GenArm a).body

arms_are : (arms : List GenArm) → flat_map (λ (ns : Ns). ns) (map arm_says arms) ≡ flat_map arm_names arms
arms_are [] = refl
arms_are (a ∷ arms) = ap (λ ns. ns ++ flat_map (λ (ns : Ns). ns) (map arm_says arms)) (arm_is a) ∙ ap (λ ns. arm_names a ++ ns) (arms_are arms)

abbrev last_says : Option GenBody → Option Ns
last_says (Some b) = Some (body_says b)
last_says None = None

last_is : (b : Option GenBody) → or_none (last_says b) ≡ last_names b
last_is (Some b) = body_is b
last_is None = refl

pub in_Choose : (arms : List GenArm) (last : Option GenBody) (a : Item) (slice : List GenArm) (before : List KindOfName) (r : Result_)
    → (out-Item a).what ≡ i.Choose arms last → slice ≡ arms
    → IfOk r (λ all. all ≡ before ++ map block_seen (once (flat_map arm_names slice ++ last_names last)))
    → IfOk r (λ all. all ≡ before ++ map seen (declares a))
in_Choose arms last a slice before r is same h =
    by_kind a (i.Choose arms last) (map block_seen (once (flat_map arm_names arms ++ last_names last))) before r is
    (ap (map seen) (says-Choose last) ∙ mapped seen (declare scope_name) (once (flat_map arm_names arms ++ last_names last)))
    (subst (λ (l : List GenArm). IfOk r (λ all. all ≡ before ++ map block_seen (once (flat_map arm_names l ++ last_names last)))) same h)
  where
    rolled : (b : Option GenBody) → says (i.Choose arms b) ≡ map (declare scope_name) (once (flat_map (λ (ns : Ns). ns) (map arm_says arms) ++ or_none
        (last_says b)))
    rolled (Some b) = ap says (sym (i.rolls-Choose arms (Some b)))
        ∙ fold-roll-ItemKind Ds Ns Ns Ds kind_declares (λ arm. arm.body) (λ body. block_names body.name) (λ a. a.what) (o.Choose arms (Some b))
    rolled None = ap says (sym (i.rolls-Choose arms None))
        ∙ fold-roll-ItemKind Ds Ns Ns Ds kind_declares (λ arm. arm.body) (λ body. block_names body.name) (λ a. a.what) (o.Choose arms None)

    says-Choose : (b : Option GenBody) → says (i.Choose arms b) ≡ map (declare scope_name) (once (flat_map arm_names arms ++ last_names b))
    says-Choose b = rolled b
        ∙ ap (λ ns. map (declare scope_name) (once (ns ++ or_none (last_says b)))) (arms_are arms)
        ∙ ap (λ ns. map (declare scope_name) (once (flat_map arm_names arms ++ ns))) (last_is b)

-- ---- each name once

filter-more : (p : List ℕ → Bool) (ns : Ns) (n : List ℕ) → filter p (ns ++ n ∷ []) ≡ filter p ns ++ cond (p n) (n ∷ []) []
filter-more p [] n = elim (p n) as (λ b. cond b (n ∷ []) [] ≡ cond b (n ∷ []) []) [ true ↦ refl | false ↦ refl ]
filter-more p (m ∷ ns) n =
    elim (p m) as (λ b. cond b (m ∷ filter p (ns ++ n ∷ [])) (filter p (ns ++ n ∷ [])) ≡ cond b (m ∷ filter p ns) (filter p ns) ++ cond (p n) (n ∷ []) []) [
      | true ↦ ap (λ l. m ∷ l) (filter-more p ns n)
      | false ↦ filter-more p ns n
    ]

no_more : (ns : Ns) → ns ++ [] ≡ ns
no_more [] = refl
no_more (n ∷ ns) = ap (λ l. n ∷ l) (no_more ns)

-- a name more counts where it is none of those before
pub once-more : (ns : Ns) (n : List ℕ) → once (ns ++ n ∷ []) ≡ once ns ++ cond (is_in n ns) [] (n ∷ [])
unfolding once
once-more [] n = refl
once-more (m ∷ ns) n = ap (λ l. m ∷ filter (λ k. not (bytes_eq m k)) l) (once-more ns n) ∙ by (is_in n ns) (bytes_eq m n) (eq-sym n m)
  where
    or_true : (x : Bool) → (x || true) ≡ true
    or_true true = refl
    or_true false = refl

    turned : (x : Bool) → m ∷ filter (λ k. not (bytes_eq m k)) (once ns) ++ cond (not x) (n ∷ []) []
        ≡ (m ∷ filter (λ k. not (bytes_eq m k)) (once ns)) ++ cond (x || false) [] (n ∷ [])
    turned true = refl
    turned false = refl

    by : (b t : Bool) → bytes_eq n m ≡ t
        → m ∷ filter (λ k. not (bytes_eq m k)) (once ns ++ cond b [] (n ∷ [])) ≡ (m ∷ filter (λ k. not (bytes_eq m k)) (once ns)) ++ cond
        (bytes_eq n m || b) [] (n ∷ [])
    by true t e = ap (λ l. m ∷ filter (λ k. not (bytes_eq m k)) l) (no_more (once ns)) ∙ sym (no_more (m ∷ filter (λ k. not (bytes_eq m k)) (once ns)))
        ∙ ap (λ x. (m ∷ filter (λ k. not (bytes_eq m k)) (once ns)) ++ cond x [] (n ∷ [])) (sym (or_true (bytes_eq n m)))
    by false t e = ap (λ l. m ∷ l) (filter-more (λ k. not (bytes_eq m k)) (once ns) n)
        ∙ ap (λ x. m ∷ filter (λ k. not (bytes_eq m k)) (once ns) ++ cond (not x) (n ∷ []) []) (sym (eq-sym n m))
        ∙ turned (bytes_eq n m)

-- one name more, which counts where it is new
pub once-step : (names : Ns) (i : ℕ) (n slice : List ℕ) (old : NameTable Unit) (before all after : List KindOfName) (is_new : Bool)
    → i < length names → n ≡ get_or names i n → slice ≡ n → AreAmong (take i names) old → all ≡ before ++ map block_seen (once (take i names))
    → is_new ≡ not (is_some (value_of old slice)) → after ≡ all ++ cond is_new (block_seen n ∷ []) []
    → after ≡ before ++ map block_seen (once (take (i + 1) names))
once-step names i n slice old before all after is_new lt is same among h new h' =
    let found : is_new ≡ not (is_in n (take i names)) = new ∙ ap not (among slice) ∙ ap (λ k. not (is_in k (take i names))) same in
    h' ∙ ap (λ l. l ++ cond is_new (block_seen n ∷ []) []) h ∙ ap (λ b. (before ++ map block_seen (once (take i names))) ++ cond b (block_seen n ∷ []) []) found
    ∙ append_assoc before (map block_seen (once (take i names))) (cond (not (is_in n (take i names))) (block_seen n ∷ []) [])
    ∙ ap (λ l. before ++ (map block_seen (once (take i names)) ++ l)) (turned (is_in n (take i names)))
    ∙ ap (λ l. before ++ l) (sym (map-append block_seen (once (take i names)) (cond (is_in n (take i names)) [] (n ∷ []))))
    ∙ ap (λ ns. before ++ map block_seen ns) (sym (ap once (next names i n lt is) ∙ once-more (take i names) n))
  where
    turned : (b : Bool) → cond (not b) (block_seen n ∷ []) [] ≡ map block_seen (cond b [] (n ∷ []))
    turned true = refl
    turned false = refl

pub seen-step : (names : Ns) (i : ℕ) (n slice : List ℕ) (old new : NameTable Unit) → i < length names → n ≡ get_or names i n → slice ≡ n
    → AreAmong (take i names) old
    → ((q : List ℕ) → value_of new q ≡ option_or (value_of old q) (only slice tt q)) → AreAmong (take (i + 1) names) new
seen-step names i n slice old new lt is same among put =
    subst (λ (l : Ns). AreAmong l new) (ap (λ k. take i names ++ k ∷ []) same ∙ sym (next names i n lt is)) (with_name (take i names) old new slice among put)

-- ---- the names of a module

ports_seen : (ps : List Port) → map (λ (p : Port). seen (declare (port_kind p.kind) p.name)) ps
    ≡ map seen (map (λ (p : Port). declare (port_kind p.kind) p.name) ps)
ports_seen [] = refl
ports_seen (p ∷ ps) = ap (λ l. seen (declare (port_kind p.kind) p.name) ∷ l) (ports_seen ps)

pub of_module : (m : Module) (header ports all : List KindOfName) → header ≡ [] ++ map seen (flat_map declares m.params)
    → ports ≡ header ++ map (λ (p : Port). seen (declare (port_kind p.kind) p.name)) m.ports → all ≡ ports ++ map seen (flat_map declares m.items)
    → all ≡ map seen (module_declares m)
of_module m header ports all h p a =
    let ps = map (λ (p : Port). declare (port_kind p.kind) p.name) m.ports in
    a ∙ ap (λ l. l ++ map seen (flat_map declares m.items)) (p ∙ ap (λ l. l ++ map (λ (p : Port). seen (declare (port_kind p.kind) p.name)) m.ports) h
    ∙ ap (λ l. map seen (flat_map declares m.params) ++ l) (ports_seen m.ports) ∙ sym (map-append seen (flat_map declares m.params) ps))
    ∙ sym (map-append seen (flat_map declares m.params ++ ps) (flat_map declares m.items))

pub none_once : (before : List KindOfName) → before ≡ before ++ map block_seen (once [])
unfolding once
none_once before = sym (none_behind before)
  where
    none_behind : (l : List KindOfName) → l ++ [] ≡ l
    none_behind [] = refl
    none_behind (d ∷ l) = ap (λ m. d ∷ m) (none_behind l)

pub module_gives : (m : Module) (none header ports : List KindOfName) (params items : List Item) (of_ports : List Port) (r : Result_)
    → none ≡ [] → params ≡ m.params → of_ports ≡ m.ports → items ≡ m.items → header ≡ none ++ map seen (flat_map declares params)
    → ports ≡ header ++ map (λ (p : Port). seen (declare (port_kind p.kind) p.name)) of_ports → IfOk r (λ all. all ≡ ports ++ map seen (flat_map declares items))
    → IfOk r (λ all. all ≡ map seen (module_declares m))
module_gives m none header ports params items of_ports (Ok all) n a b c h p g =
    of_module m header ports all (h ∙ ap (λ l. l ++ map seen (flat_map declares params)) n ∙ ap (λ l. [] ++ map seen (flat_map declares l)) a)
    (p ∙ ap (λ l. header ++ map (λ (x : Port). seen (declare (port_kind x.kind) x.name)) l) b) (g ∙ ap (λ l. ports ++ map seen (flat_map declares l)) c)
module_gives m none header ports params items of_ports (Err e) n a b c h p g = tt

-- One pair and one connection more.
use Rattle.std.proofs.Common.{◌≡◌, ◌∙◌, sym, ap, refl, subst, ℕ, zero, suc, ◌+◌, ◌<◌, ◌≤◌, Bool, true, false, cond, List, [], ◌∷◌, ◌++◌, length, take, get_or, map}
use Rattle.std.proofs.Common.{Option, Some, None, Bor, min, arith}
use Rattle.std.specs.List.{find, filter_map}
use Rattle.std.specs.Option.{option_or, option_copied}
use Rattle.std.specs.Str.{bytes_eq}
use Rattle.std.proofs.lemmas.List.{take_more, map-append, length-take-le}
use Rattle.std.proofs.lemmas.List.Folds.{find-append}
use Rattle.std.proofs.lemmas.List.Elements.{filter_map-append}
use Rattle.vlog_tree.specs.declared.expression.Expr.{Expr}
use Rattle.vlog_tree.specs.declared.item.NamedConn.{NamedConn}
use Rattle.vlog_tree.specs.declared.module.Port.{Port}
use Rattle.scope_meaning.specs.Constants.{option_of}
use Rattle.scope_meaning.specs.Overrides.{in_order, with_value}
use Rattle.flat_source_meaning.specs.Clocks.{port_names}
use Rattle.flat_source_meaning.specs.Joins.{Join, join_at}
use Rattle.name_table.specs.declared.table.NameTable.{NameTable}
use Rattle.name_table.specs.Tables.{value_of, only}
use Rattle.flat_joins.specs.declared.pair.Pair.{Pair}
use Rattle.flat_joins.specs.declared.join.Joined.{Joined}
use Rattle.flat_joins.specs.Seen.{Pairs, pair_seen, join_seen, IsTableOf}

pub next : {X : Type 0} (xs : List X) (i : ℕ) (x : X) → i < length xs → x ≡ get_or xs i x → take (i + 1) xs ≡ take i xs ++ x ∷ []
next {X} xs i x lt is = take_more xs i x lt ∙ ap (λ (y : X). take i xs ++ y ∷ []) (sym is)

-- ---- in order

in_order-push : (ns : List (List ℕ)) (es : List Expr) (n : List ℕ) (e : Expr) → length ns ≡ length es
    → in_order (ns ++ n ∷ []) (es ++ e ∷ []) ≡ in_order ns es ++ (n, e) ∷ []
in_order-push [] [] n e h = refl
in_order-push [] (a ∷ es) n e h = absurd (omega arith)
in_order-push (m ∷ ns) [] n e h = absurd (omega arith)
in_order-push (m ∷ ns) (a ∷ es) n e h = let k : length ns ≡ length es = omega arith in ap (λ (ps : Pairs). (m, a) ∷ ps) (in_order-push ns es n e k)

length-names : (ports : List Port) → length (port_names ports) ≡ length ports
length-names [] = refl
length-names (p ∷ ps) = ap suc (length-names ps)

pub pair_more : (ports : List Port) (es : List Expr) (i : ℕ) (p : Port) (e : Expr) (name : List ℕ) (all more : List Pair) (x : Pair)
    → i < length ports → i < length es → p ≡ get_or ports i p → e ≡ get_or es i e → name ≡ p.name → pair_seen x ≡ (name, e) → more ≡ all ++ x ∷ []
    → map pair_seen all ≡ in_order (port_names (take i ports)) (take i es)
    → map pair_seen more ≡ in_order (port_names (take (i + 1) ports)) (take (i + 1) es)
pair_more ports es i p e name all more x lp le ip ie named seen is h =
    ap (map pair_seen) is
    ∙ map-append pair_seen all (x ∷ [])
    ∙ ap (λ (ps : Pairs). ps ++ pair_seen x ∷ []) h
    ∙ ap (λ (q : List ℕ × Expr). in_order (port_names (take i ports)) (take i es) ++ q ∷ []) (seen ∙ ap (λ (n : List ℕ). (n, e)) named)
    ∙ sym (in_order-push (port_names (take i ports)) (take i es) p.name e same)
    ∙ ap (λ (ns : List (List ℕ)). in_order ns (take i es ++ e ∷ [])) (sym (map-append (λ (q : Port). q.name) (take i ports) (p ∷ [])))
    ∙ ap (λ (qs : List Port). in_order (port_names qs) (take i es ++ e ∷ [])) (sym (next ports i p lp ip))
    ∙ ap (in_order (port_names (take (i + 1) ports))) (sym (next es i e le ie))
  where
    same : length (port_names (take i ports)) ≡ length (take i es)
    same =
        let a : length (take i ports) ≡ i = length-take-le i ports (omega arith) in
        let b : length (take i es) ≡ i = length-take-le i es (omega arith) in
        length-names (take i ports) ∙ a ∙ sym b

pub cut : (ports : List Port) (es : List Expr) (k : ℕ) → min (length ports) (length es) ≤ k
    → in_order (port_names (take k ports)) (take k es) ≡ in_order (port_names ports) es
cut [] es zero h = refl
cut [] es (suc k) h = refl
cut (p ∷ ps) [] zero h = refl
cut (p ∷ ps) [] (suc k) h = refl
cut (p ∷ ps) (e ∷ es) zero h = absurd (omega arith)
cut (p ∷ ps) (e ∷ es) (suc k) h = let le : min (length ps) (length es) ≤ k = omega arith in ap (λ (q : Pairs). (p.name, e) ∷ q) (cut ps es k le)

-- ---- by name

pub named_more : (cs : List NamedConn) (i : ℕ) (c : NamedConn) (all more : List Pair) → i < length cs → c ≡ get_or cs i c
    → map pair_seen all ≡ filter_map with_value (take i cs) → map pair_seen more ≡ map pair_seen all ++ filter_map with_value (c ∷ [])
    → map pair_seen more ≡ filter_map with_value (take (i + 1) cs)
named_more cs i c all more lt is h step =
    step
    ∙ ap (λ (ps : Pairs). ps ++ filter_map with_value (c ∷ [])) h
    ∙ sym (filter_map-append with_value (take i cs) (c ∷ []))
    ∙ ap (filter_map with_value) (sym (next cs i c lt is))

-- ---- the table

abbrev expr_of : Option (List ℕ × Expr) → Option Expr
expr_of = option_of (λ (x : List ℕ × Expr). x.1)

copied_or : (a b : Option (Bor Expr)) (o p : Option (List ℕ × Expr)) → option_copied a ≡ expr_of o → option_copied b ≡ expr_of p
    → option_copied (option_or a b) ≡ expr_of (option_or o p)
copied_or (Some x) b (Some y) p h k = h
copied_or (Some x) b None p h k = cc
copied_or None b (Some y) p h k = cc
copied_or None b None p h k = k

only_copied : (name q : List ℕ) (e : Bor Expr) (n : List ℕ) (x : Expr) → name ≡ n → e.now ≡ x
    → option_copied (only name e q) ≡ expr_of (find (λ (y : List ℕ × Expr). bytes_eq q y.0) ((n, x) ∷ []))
only_copied name q e n x is same =
    by (bytes_eq q name)
    ∙ ap (λ (m : List ℕ). expr_of (cond (bytes_eq q m) (Some (m, x)) None)) is
  where
    by : (b : Bool) → option_copied (cond b (Some e) None) ≡ expr_of (cond b (Some (name, x)) None)
    by true = ap Some same
    by false = refl

pub table_begins : (table : NameTable (Bor Expr)) → ((q : List ℕ) → value_of table q ≡ None) → IsTableOf [] table
table_begins table h = λ q. ap option_copied (h q)

pub table_more : (all : List Pair) (i : ℕ) (p : Pair) (old new : NameTable (Bor Expr)) → i < length all → p ≡ get_or all i p
    → IsTableOf (map pair_seen (take i all)) old
    → ((q : List ℕ) → value_of new q ≡ option_or (value_of old q) (only p.name.now p.expr q)) → IsTableOf (map pair_seen (take (i + 1) all)) new
table_more all i p old new lt is h put = λ q.
    ap option_copied (put q)
    ∙ copied_or (value_of old q) (only p.name.now p.expr q) (find (λ (y : List ℕ × Expr). bytes_eq q y.0) (map pair_seen (take i all)))
    (find (λ (y : List ℕ × Expr). bytes_eq q y.0) (pair_seen p ∷ [])) (h q) (only_copied p.name.now q p.expr p.name.now p.expr.now refl refl)
    ∙ ap expr_of (sym (find-append (λ (y : List ℕ × Expr). bytes_eq q y.0) (map pair_seen (take i all)) (pair_seen p ∷ [])))
    ∙ ap (λ (ps : Pairs). expr_of (find (λ (y : List ℕ × Expr). bytes_eq q y.0) ps)) (sym (map-append pair_seen (take i all) (p ∷ [])))
    ∙ ap (λ (ps : List Pair). expr_of (find (λ (y : List ℕ × Expr). bytes_eq q y.0) (map pair_seen ps))) (sym (next all i p lt is))

-- ---- connections

pub join_more : (all : Pairs) (ports items : List Port) (i : ℕ) (p : Port) (old new : List Joined) → items ≡ ports → i < length items → p ≡ get_or items i p
    → map join_seen old ≡ filter_map (join_at all) (take i ports) → map join_seen new ≡ map join_seen old ++ filter_map (join_at all) (p ∷ [])
    → map join_seen new ≡ filter_map (join_at all) (take (i + 1) ports)
join_more all ports items i p old new same lt is h step =
    step
    ∙ ap (λ (js : List Join). js ++ filter_map (join_at all) (p ∷ [])) h
    ∙ sym (filter_map-append (join_at all) (take i ports) (p ∷ []))
    ∙ ap (filter_map (join_at all)) (sym (next ports i p (subst (λ (l : List Port). i < length l) same lt)
    (subst (λ (l : List Port). p ≡ get_or l i p) same is)))

-- What the code puts into tables and lists.
use Rattle.std.proofs.Common.{◌≡◌, ◌∙◌, sym, ap, refl, subst, ℕ, ◌+◌, ◌<◌, ◌≤◌, Bool, true, false, ◌||◌, ◌&&◌, cond, List, [], ◌∷◌, ◌++◌, length, take, get_or, map, is_some, append_assoc}
use Rattle.std.proofs.Common.{Option, Some, None}
use Rattle.std.specs.List.{list_any, filter_map, flat_map, cons_option}
use Rattle.std.specs.Option.{option_or}
use Rattle.std.specs.Str.{bytes_eq}
use Rattle.std.proofs.lemmas.List.{take_more, take_all, map-append, append-nil}
use Rattle.std.proofs.lemmas.List.Folds.{list_any-append}
use Rattle.std.proofs.lemmas.List.Concat.{flat_map-append}
use Rattle.std.proofs.lemmas.List.Elements.{filter_map-append}
use Rattle.vlog_tree.specs.declared.expression.Expr.{Expr}
use Rattle.vlog_tree.specs.declared.module.Port.{Port}
use Rattle.name_table.specs.declared.table.NameTable.{NameTable}
use Rattle.name_table.specs.Tables.{value_of, only}
use Rattle.flat_scopes.specs.declared.scope.SeenScope.{SeenScope}
use Rattle.flat_spots.specs.declared.spot.Spot.{Spot}
use Rattle.flat_joins.specs.declared.pair.Pair.{Pair}
use Rattle.flat_joins.specs.Seen.{Pairs, pair_seen}
use Rattle.flat_reach.specs.declared.reach.Handing.{Handing}
use Rattle.flat_source_meaning.specs.Joins.{is_input_kind}
use Rattle.flat_clocks.specs.Handings.{is_input_named, AreInputs, handings_at, is_top_clock}

abbrev it : Unit {0}
it = tt

next : {X : Type 0} (xs : List X) (i : ℕ) (x : X) → i < length xs → x ≡ get_or xs i x → take (i + 1) xs ≡ take i xs ++ x ∷ []
next {X} xs i x lt is = take_more xs i x lt ∙ ap (λ (y : X). take i xs ++ y ∷ []) (sym is)

or_nothing : (b : Bool) → (b || false) ≡ b
or_nothing true = refl
or_nothing false = refl

any_next : {X : Type 0} (p : X → Bool) (xs : List X) (i : ℕ) (x : X) → i < length xs → x ≡ get_or xs i x
    → list_any p (take (i + 1) xs) ≡ (list_any p (take i xs) || p x)
any_next p xs i x lt is =
    ap (list_any p) (next xs i x lt is)
    ∙ list_any-append p (take i xs) (x ∷ [])
    ∙ ap (λ b. list_any p (take i xs) || b) (or_nothing (p x))

-- ---- inputs

input_there : (o : Option Unit) (q name : List ℕ) (kind : Bool) → kind ≡ true → is_some (option_or o (only name it q)) ≡ (is_some o || (kind && bytes_eq q name))
input_there o q name kind k = by o ∙ ap (λ b. is_some o || (b && bytes_eq q name)) (sym k)
  where
    named : (b : Bool) → is_some (cond b (Some it) None) ≡ b
    named true = refl
    named false = refl

    by : (o : Option Unit) → is_some (option_or o (only name it q)) ≡ (is_some o || (true && bytes_eq q name))
    by (Some v) = refl
    by None = named (bytes_eq q name)

pub input_put : (old new : NameTable Unit) (p : Port) (name : List ℕ) → is_input_kind p.kind ≡ true → name ≡ p.name
    → ((q : List ℕ) → value_of new q ≡ option_or (value_of old q) (only name it q))
    → (q : List ℕ) → is_some (value_of new q) ≡ (is_some (value_of old q) || is_input_named q p)
input_put old new p name kind named put q =
    ap is_some (put q) ∙ input_there (value_of old q) q name (is_input_kind p.kind) kind
    ∙ ap (λ (n : List ℕ). is_some (value_of old q) || (is_input_kind p.kind && bytes_eq q n)) named

pub output_put : (old : NameTable Unit) (p : Port) → is_input_kind p.kind ≡ false
    → (q : List ℕ) → is_some (value_of old q) ≡ (is_some (value_of old q) || is_input_named q p)
output_put old p kind q =
    sym (ap (λ b. is_some (value_of old q) || (b && bytes_eq q p.name)) kind ∙ or_nothing (is_some (value_of old q)))

pub inputs_more : (ports : List Port) (i : ℕ) (p : Port) (old new : NameTable Unit) → i < length ports → p ≡ get_or ports i p
    → AreInputs (take i ports) old → ((q : List ℕ) → is_some (value_of new q) ≡ (is_some (value_of old q) || is_input_named q p))
    → AreInputs (take (i + 1) ports) new
inputs_more ports i p old new lt is h put = λ q.
    put q ∙ ap (λ b. b || is_input_named q p) (h q) ∙ sym (any_next (is_input_named q) ports i p lt is)

-- ---- lists

pub pair_more : (f : List ℕ × Expr → Option Handing) (all : List Pair) (i : ℕ) (p : Pair) (before old new : List Handing) (handed : Option Handing)
    → i < length all → p ≡ get_or all i p → handed ≡ f (pair_seen p) → old ≡ before ++ filter_map f (map pair_seen (take i all))
    → new ≡ old ++ cons_option handed [] → new ≡ before ++ filter_map f (map pair_seen (take (i + 1) all))
pair_more f all i p before old new handed lt is h so_far put =
    put
    ∙ ap (λ (o : Option Handing). old ++ cons_option o []) h
    ∙ ap (λ (hs : List Handing). hs ++ cons_option (f (pair_seen p)) []) so_far
    ∙ append_assoc before (filter_map f (map pair_seen (take i all))) (cons_option (f (pair_seen p)) [])
    ∙ ap (λ (hs : List Handing). before ++ hs) (sym (filter_map-append f (map pair_seen (take i all)) (pair_seen p ∷ [])))
    ∙ ap (λ (ps : Pairs). before ++ filter_map f ps) (sym (map-append pair_seen (take i all) (p ∷ [])))
    ∙ ap (λ (ps : List Pair). before ++ filter_map f (map pair_seen ps)) (sym (next all i p lt is))

pub pairs_end : (f : List ℕ × Expr → Option Handing) (items made : List Pair) (i : ℕ) (qs : Pairs) (before all : List Handing) → length items ≤ i → items ≡ made
    → map pair_seen made ≡ qs → all ≡ before ++ filter_map f (map pair_seen (take i items)) → all ≡ before ++ filter_map f qs
pairs_end f items made i qs before all le same seen h =
    h
    ∙ ap (λ (ps : List Pair). before ++ filter_map f (map pair_seen ps)) (take_all i items le ∙ same)
    ∙ ap (λ (ps : Pairs). before ++ filter_map f ps) seen

pub spot_more : (scopes : List SeenScope) (spots : List Spot) (i : ℕ) (s : Spot) (old new : List Handing) → i < length spots → s ≡ get_or spots i s
    → old ≡ flat_map (handings_at scopes) (take i spots) → new ≡ old ++ handings_at scopes s → new ≡ flat_map (handings_at scopes) (take (i + 1) spots)
spot_more scopes spots i s old new lt is so_far put =
    put
    ∙ ap (λ (hs : List Handing). hs ++ handings_at scopes s) so_far
    ∙ ap (λ (hs : List Handing). flat_map (handings_at scopes) (take i spots) ++ hs) (sym (append-nil (handings_at scopes s)))
    ∙ sym (flat_map-append (handings_at scopes) (take i spots) (s ∷ []))
    ∙ ap (flat_map (handings_at scopes)) (sym (next spots i s lt is))

pub none_more : (p : Spot → Bool) (spots : List Spot) (i : ℕ) (s : Spot) → i < length spots → s ≡ get_or spots i s → list_any p (take i spots) ≡ false
    → p s ≡ false → list_any p (take (i + 1) spots) ≡ false
none_more p spots i s lt is none h = any_next p spots i s lt is ∙ ap (λ b. b || p s) none ∙ h

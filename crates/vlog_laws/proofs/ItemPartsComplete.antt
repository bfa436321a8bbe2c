-- A part of an item that is spelled is read so.
use Rattle.std.proofs.Common.{◌≡◌, ℕ, ◌<◌, Bool, true, false, ◌==◌, List, [], ◌∷◌, length, Option, Some, None, refl, ◌∙◌}
use Rattle.cov_types.specs.declared.place.Place.{Place}
use Rattle.vlog_tokens.specs.declared.token.TokenKind.{TokenKind}
use Rattle.vlog_tokens.specs.declared.token.TokenKind.TheVariants as k
use Rattle.vlog_tree.specs.declared.expression.Expr.{Expr}
use Rattle.vlog_tree.specs.declared.expression.RangeExpr.{RangeExpr}
use Rattle.vlog_tree.specs.declared.item.NamePlace.{NamePlace}
use Rattle.vlog_tree.specs.declared.item.WireName.{WireName}
use Rattle.vlog_tree.specs.declared.item.RegName.{RegName}
use Rattle.vlog_tree.specs.declared.item.ItemKind.TheVariants as i
use Rattle.vlog_tree.specs.declared.item.ParamForm.{ParamForm}
use Rattle.vlog_tree.specs.declared.item.ParamForm.TheVariants as form
use Rattle.vlog_tree.specs.declared.item.ParamName.{ParamName}
use Rattle.vlog_tree.specs.declared.item.AssignPart.{AssignPart}
use Rattle.vlog_tree.specs.declared.item.NamedConn.{NamedConn}
use Rattle.vlog_tree.specs.declared.item.Conns.{Conns}
use Rattle.vlog_tree.specs.declared.item.Instance.{Instance}
use Rattle.vlog_grammar.specs.Tokens.{Tokens, at, infix_of}
use Rattle.vlog_grammar.specs.Parts.{AreSeparated, last, more, IsOptional, written, absent, IsWordThere, there, missing}
use Rattle.vlog_grammar.specs.Expressions.{IsExpr, AreExprs, IsRange, range}
use Rattle.vlog_grammar.specs.Expressions as grammar
use Rattle.vlog_grammar.specs.Items.{IsName, a_name, IsValue, a_value, IsWireName, wire_name, IsRegName, reg_alone, reg_words, reg_start, IsForm, plain_form}
use Rattle.vlog_grammar.specs.Items.{integer_form, ranged_form, IsParamName, param_name, IsAssignPart, assign_part, IsClock, star, star_inside, rising}
use Rattle.vlog_grammar.specs.Items.{IsNamedConn, left_open, connected, AreConnections, no_conns, ordered, by_name, AreParameterValues, no_params, params}
use Rattle.vlog_grammar.specs.Items.{IsInstance, instance, IsCover, cover}
use Rattle.vlog_reading.specs.Marks.{mark}
use Rattle.vlog_reading.specs.Reading.{Parser, sees, after}
use Rattle.vlog_reading.specs.ReadParts as parts
use Rattle.vlog_reading.specs.ReadItemParts as read
use Rattle.vlog_laws.proofs.Basics.{Ends, ends_at, of_mark, not_seen, sees_at, sees_other, after_it, after_none, goes, goes_mark, eat_yes, eat_no, eat_other}
use Rattle.vlog_laws.proofs.Complete.{expression_complete}
use Rattle.vlog_laws.proofs.PartsComplete.{all_complete, exprs_complete, name_complete, until_complete, whole_target_complete}
use Rattle.vlog_laws.proofs.StatementsComplete.{begins_kind, begins, front_expr}
use Rattle.vlog_laws.proofs.ShorterItemParts.{shorter_named_conn}

-- a list before a mark that ends it, of items that are read before whatever ends an expression
pub all_before_complete : {A : Type 0} (R : Tokens → A → Tokens → Type 0) (item : Parser A) (close : TokenKind)
    → infix_of close ≡ None → (mark close == mark k.Question) ≡ false → (mark close == mark k.Comma) ≡ false
    → ((ts us : Tokens) (a : A) → R ts a us → Ends us → item ts ≡ Some (a, us))
    → ((ts us : Tokens) (a : A) → R ts a us → length us < length ts)
    → (q : Place) (ts us : Tokens) (all : List A) → AreSeparated R ts all (at q close ∷ us) → parts.separated item ts ≡ Some (all, at q close ∷ us)
all_before_complete R item close none other differ each shorter q ts us all list =
    all_complete R item (at q close ∷ us) (sees_other k.Comma close q us differ)
    (λ ts a one. each ts (at q close ∷ us) a one (ends_at close q us none other))
    (λ ts vs p a one. each ts (at p k.Comma ∷ vs) a one (ends_at k.Comma p vs refl refl))
    shorter all ts list

pub optional_complete : {A : Type 0} (R : Tokens → A → Tokens → Type 0) (item : Parser A) (first : TokenKind) → of_mark (mark first) ≡ Some first
    → (us : Tokens) → ((ts : Tokens) (a : A) → R ts a us → item ts ≡ Some (a, us))
    → (ts : Tokens) (found : Option A) → IsOptional first R ts found us → read.optional item first ts ≡ Some (found, us)
unfolding read.optional
optional_complete R item first known us each ts found (written {us = vs} {p = p} {a = a} one) = rw (sees_at first p vs) (goes _ (each ts a one) refl)
optional_complete R item first known us each ts found (absent none) = rw (not_seen first us known none) refl

-- a word that may be left out is seen and taken where it stands
pub word_complete : (word : TokenKind) (ts us : Tokens) (found : Bool) → of_mark (mark word) ≡ Some word → IsWordThere word ts found us
    → (sees word ts ≡ found) × (after word ts ≡ us)
word_complete word ts us found known (there {p = p}) = (sees_at word p us, after_it word (at p word ∷ us) (sees_at word p us))
word_complete word ts us found known (missing none) = (not_seen word us known none, after_none word us (not_seen word us known none))

pub name_place_complete : (ts us : Tokens) (a : NamePlace) → IsName ts a us → read.name_place ts ≡ Some (a, us)
unfolding read.name_place parts.name_token
name_place_complete ts us a a_name = refl

pub value_complete : (ts us : Tokens) (a : Expr) → IsValue ts a us → Ends us → read.value ts ≡ Some (a, us)
unfolding read.value
value_complete ts us a (a_value {us = vs} {p = p} one) ends = goes_mark k.EqualSign p vs _ (expression_complete vs us a one ends)

pub range_complete : (ts us : Tokens) (a : RangeExpr) → IsRange ts a us → read.range ts ≡ Some (a, us)
unfolding read.range
range_complete ts us a (range {us = vs} {vs = ws} {p = p} {q = q} {r = r} {a = high} {b = low} one two) =
    goes_mark k.OpenBracket p vs _ (goes _ (until_complete k.Colon q vs ws high refl refl one) (goes _
    (until_complete k.CloseBracket r ws us low refl refl two) refl))

pub signed_range_complete : (ts vs us : Tokens) (signed : Bool) (bounds : Option RangeExpr)
    → IsWordThere k.Signed ts signed vs → IsOptional k.OpenBracket IsRange vs bounds us → read.signed_range ts ≡ Some ((signed, bounds), us)
unfolding read.signed_range
signed_range_complete ts vs us signed bounds word some =
    let it = word_complete k.Signed ts vs signed refl word in
    rw (it.1, it.0) (goes _ (optional_complete IsRange read.range k.OpenBracket refl us (λ ws a one. range_complete ws us a one) vs bounds some) refl)

optional_value_complete : (ts us : Tokens) (found : Option Expr) → IsOptional k.EqualSign IsValue ts found us → Ends us
    → read.optional read.value k.EqualSign ts ≡ Some (found, us)
optional_value_complete ts us found some ends =
    optional_complete IsValue read.value k.EqualSign refl us (λ vs a one. value_complete vs us a one ends) ts found some

pub wire_name_complete : (ts us : Tokens) (a : WireName) → IsWireName ts a us → Ends us → read.wire_name ts ≡ Some (a, us)
unfolding read.wire_name
wire_name_complete ts us a (wire_name {us = vs} {name = name} {value = driver} called some) ends =
    goes _ (name_place_complete ts vs name called) (goes _ (optional_value_complete vs us driver some ends) refl)

front_range : {ts us : Tokens} {a : RangeExpr} → IsRange ts a us → sees k.OpenBracket ts ≡ true
unfolding sees
front_range (range one two) = refl

reg_start_complete : (name : NamePlace) (ts us : Tokens) (start : Option Expr) → IsOptional k.EqualSign IsValue ts start us → Ends us
    → read.reg_start name ts ≡ Some (record { name = name; words = None; start = start }, us)
unfolding read.reg_start
reg_start_complete name ts us start some ends = goes _ (optional_value_complete ts us start some ends) refl

pub reg_name_complete : (ts us : Tokens) (a : RegName) → IsRegName ts a us → Ends us → read.reg_name ts ≡ Some (a, us)
unfolding read.reg_name read.reg_words
reg_name_complete ts us a (reg_alone {name = name} called none other) ends =
    goes _ (name_place_complete ts us name called) (rw (not_seen k.OpenBracket us refl none) (reg_start_complete name us us None (absent other) ends))
reg_name_complete ts us a (reg_words {us = vs} {name = name} {words = words} called bounds) ends =
    goes _ (name_place_complete ts vs name called) (rw (front_range bounds) (goes _ (range_complete vs us words bounds) refl))
reg_name_complete ts us a (reg_start {us = vs} {name = name} {start = start} called (a_value {us = ws} {p = p} one)) ends =
    goes _ (name_place_complete ts vs name called)
    (rw (sees_other k.OpenBracket k.EqualSign p ws refl) (reg_start_complete name vs us (Some start) (written (a_value one)) ends))

ranged_complete : (signed : Bool) (ts vs us : Tokens) (bounds : RangeExpr) → IsWordThere k.Signed ts signed vs → IsRange vs bounds us
    → read.ranged ts ≡ Some (form.Ranged signed bounds, us)
unfolding read.ranged
ranged_complete signed ts vs us bounds word tree =
    let it = word_complete k.Signed ts vs signed refl word in
    rw (it.1, it.0) (goes _ (range_complete vs us bounds tree) refl)

-- neither a name nor `integer` begins a range
form_ranged : (signed : Bool) (ts vs us : Tokens) (bounds : RangeExpr) → IsWordThere k.Signed ts signed vs → IsRange vs bounds us
    → read.param_form ts ≡ read.ranged ts
unfolding read.param_form
form_ranged signed ts vs us bounds there tree = refl
form_ranged signed ts vs us bounds (missing none) (range one two) = refl

pub param_form_complete : (ts us : Tokens) (a : ParamForm) → IsForm ts a us → read.param_form ts ≡ Some (a, us)
unfolding read.param_form
param_form_complete ts us a plain_form = refl
param_form_complete ts us a integer_form = refl
param_form_complete ts us a (ranged_form {us = vs} {signed = signed} {range = bounds} word tree) =
    form_ranged signed ts vs us bounds word tree ∙ ranged_complete signed ts vs us bounds word tree

pub param_name_complete : (ts us : Tokens) (a : ParamName) → IsParamName ts a us → Ends us → read.param_name ts ≡ Some (a, us)
unfolding read.param_name
param_name_complete ts us a (param_name {us = vs} {name = name} {value = constant} called one) ends =
    goes _ (name_place_complete ts vs name called) (goes _ (value_complete vs us constant one ends) refl)

pub assign_part_complete : (ts us : Tokens) (a : AssignPart) → IsAssignPart ts a us → Ends us → read.assign_part ts ≡ Some (a, us)
unfolding read.assign_part
assign_part_complete ts us a (assign_part {us = vs} {target = target} {value = driver} one two) ends =
    goes _ (whole_target_complete ts vs target one) (goes _ (value_complete vs us driver two ends) refl)

pub clock_complete : (ts us : Tokens) (a : Option (List ℕ)) → IsClock ts a us → read.clock ts ≡ Some (a, us)
unfolding read.clock read.clock_inside
clock_complete ts us a (star {p = p} {q = q}) = goes_mark k.At p (at q k.Star ∷ us) _ (eat_yes k.Star q us _ _ refl)
clock_complete ts us a (star_inside {p = p} {q = q} {r = r} {o = o}) =
    goes_mark k.At p _ _ (eat_other k.Star k.OpenParen q _ _ _ refl (goes_mark k.OpenParen q _ _
    (eat_yes k.Star r (at o k.CloseParen ∷ us) _ _ (goes_mark k.CloseParen o us _ refl))))
clock_complete ts us a (rising {p = p} {q = q} {r = r} {o = o} {x = x} {name = name}) =
    goes_mark k.At p _ _ (eat_other k.Star k.OpenParen q _ _ _ refl (goes_mark k.OpenParen q _ _
    (eat_other k.Star k.PosEdge r (at o (k.Name name) ∷ at x k.CloseParen ∷ us) _ _ refl
    (goes_mark k.PosEdge r _ _ (goes _ (name_complete o name (at x k.CloseParen ∷ us)) (goes_mark k.CloseParen x us _ refl))))))

no_mark : (kind : TokenKind) → begins_kind kind ≡ true → ((mark kind == mark k.CloseParen) ≡ false) × ((mark kind == mark k.Dot) ≡ false)
no_mark k.CloseParen h = absurd cc
no_mark k.Dot h = absurd cc
no_mark _ h = (refl, refl)

not_in_front : (ts : Tokens) → begins ts ≡ true → (sees k.CloseParen ts ≡ false) × (sees k.Dot ts ≡ false)
unfolding sees
not_in_front [] h = absurd cc
not_in_front (t ∷ ts) h = no_mark t.what h

-- an expression begins with neither a closing parenthesis nor a dot
front_of_expr : {ts us : Tokens} {a : Expr} → IsExpr ts a us → (sees k.CloseParen ts ≡ false) × (sees k.Dot ts ≡ false)
front_of_expr {ts} one = not_in_front ts (front_expr one)

front_of_exprs : {ts us : Tokens} {all : List Expr} → AreExprs ts all us → (sees k.CloseParen ts ≡ false) × (sees k.Dot ts ≡ false)
front_of_exprs (grammar.last one) = front_of_expr one
front_of_exprs (grammar.more one rest) = front_of_expr one

front_of_conn : {ts us : Tokens} {a : NamedConn} → IsNamedConn ts a us → (sees k.CloseParen ts ≡ false) × (sees k.Dot ts ≡ true)
unfolding sees
front_of_conn left_open = (refl, refl)
front_of_conn (connected one) = (refl, refl)

front_of_conns : {ts us : Tokens} {all : List NamedConn} → AreSeparated IsNamedConn ts all us → (sees k.CloseParen ts ≡ false) × (sees k.Dot ts ≡ true)
front_of_conns (last one) = front_of_conn one
front_of_conns (more one rest) = front_of_conn one

pub named_conn_complete : (ts us : Tokens) (a : NamedConn) → IsNamedConn ts a us → read.named_conn ts ≡ Some (a, us)
unfolding read.named_conn
named_conn_complete ts us a (left_open {p = p} {q = q} {r = r} {o = o} {name = name}) =
    goes_mark k.Dot p _ _ (goes _ (name_complete q name (at r k.OpenParen ∷ at o k.CloseParen ∷ us)) (goes_mark k.OpenParen r _ _
    (eat_yes k.CloseParen o us _ _ refl)))
named_conn_complete ts us a (connected {us = vs} {p = p} {q = q} {r = r} {o = o} {name = name} {a = value} one) =
    goes_mark k.Dot p _ _ (goes _ (name_complete q name (at r k.OpenParen ∷ vs)) (goes_mark k.OpenParen r vs _
    (eat_no k.CloseParen vs _ _ (front_of_expr one).0 (goes _ (until_complete k.CloseParen o vs us value refl refl one) refl))))

named_conns_complete : (q : Place) (ts us : Tokens) (all : List NamedConn) → AreSeparated IsNamedConn ts all (at q k.CloseParen ∷ us)
    → parts.separated read.named_conn ts ≡ Some (all, at q k.CloseParen ∷ us)
named_conns_complete q ts us all list =
    all_before_complete IsNamedConn read.named_conn k.CloseParen refl refl refl (λ ts us a one ends. named_conn_complete ts us a one)
    (λ ts us a one. shorter_named_conn one) q ts us all list

pub conns_complete : (ts us : Tokens) (a : Conns) → AreConnections ts a us → read.connections ts ≡ Some (a, us)
unfolding read.connections read.connections_by_name read.connections_in_order
conns_complete ts us a (no_conns {p = p} {q = q}) = goes_mark k.OpenParen p _ _ (eat_yes k.CloseParen q us _ _ refl)
conns_complete ts us a (ordered {us = vs} {p = p} {q = q} {all = all} list) =
    let front = front_of_exprs list in
    goes_mark k.OpenParen p vs _ (eat_no k.CloseParen vs _ _ front.0 (rw front.1
    (goes _ (exprs_complete vs (at q k.CloseParen ∷ us) all list (ends_at k.CloseParen q us refl refl) (sees_other k.Comma k.CloseParen q us refl))
    (goes_mark k.CloseParen q us _ refl))))
conns_complete ts us a (by_name {us = vs} {p = p} {q = q} {all = all} list) =
    let front = front_of_conns list in
    goes_mark k.OpenParen p vs _ (eat_no k.CloseParen vs _ _ front.0 (rw front.1
    (goes _ (named_conns_complete q vs us all list) (goes_mark k.CloseParen q us _ refl))))

pub params_complete : (ts us : Tokens) (a : Conns) → AreParameterValues ts a us → read.parameter_values ts ≡ Some (a, us)
unfolding read.parameter_values
params_complete ts us a (no_params none) = eat_no k.Hash us _ _ (not_seen k.Hash us refl none) refl
params_complete ts us a (params {us = vs} {p = p} {all = all} tree) = eat_yes k.Hash p vs _ _ (conns_complete vs us all tree)

pub instance_complete : (ts us : Tokens) (a : Instance) → IsInstance ts a us → read.instance ts ≡ Some (a, us)
unfolding read.instance
instance_complete ts us a (instance {us = vs} {name = name} {ports = ports} called list) =
    goes _ (name_place_complete ts vs name called) (goes _ (conns_complete vs us ports list) refl)

pub cover_complete : (label : Option NamePlace) (ts us : Tokens) (word : Place) (clock : List ℕ) (test : Expr) → IsCover ts word clock test us
    → read.cover label ts ≡ Some (i.Cover word label clock test, us)
unfolding read.cover
cover_complete label ts us word clock test (cover {us = vs} {p2 = p2} {p3 = p3} {p4 = p4} {p5 = p5} {p6 = p6} {p7 = p7} {p8 = p8} {p9 = p9} {p10 = p10} one) =
    goes_mark k.Cover word _ _ (goes_mark k.Property p2 _ _ (goes_mark k.OpenParen p3 _ _ (goes_mark k.At p4 _ _ (goes_mark k.OpenParen p5 _ _
    (goes_mark k.PosEdge p6 _ _ (goes _ (name_complete p7 clock (at p8 k.CloseParen ∷ vs)) (goes_mark k.CloseParen p8 vs _
    (goes _ (until_complete k.CloseParen p9 vs (at p10 k.Semicolon ∷ us) test refl refl one) (goes_mark k.Semicolon p10 us _ refl)))))))))

-- What belongs directly to a statement, by what the statement is.
use Rattle.std.proofs.Common.{◌≡◌, ◌⊎◌, inl, inr, ℕ, ◌+◌, ◌<◌, true, List, [], ◌∷◌, ◌++◌, length, take, get_or, Option, Some, None}
use Rattle.std.proofs.Common.{refl, subst, sym, ap, ◌∙◌, arith}
use Rattle.std.specs.Prelude.{Contains}
use Rattle.std.proofs.lemmas.List.{take_more}
use Rattle.std.proofs.lemmas.List.Elements.{Contains-append_left, Contains-push, Contains-push_cases}
use Rattle.vlog_tree.specs.declared.expression.Expr.{Expr}
use Rattle.cov_types.specs.declared.place.Place.{Place}
use Rattle.cov_types.specs.declared.line_range.LineRange.{LineRange}
use Rattle.cov_types.specs.LineLists.{IsLineListOf}
use Rattle.vlog_tree.specs.declared.statement.Stmt.{Stmt, out-Stmt}
use Rattle.vlog_tree.specs.declared.statement.StmtKind.{StmtKind, roll-StmtKind, roll-out-StmtKind}
use Rattle.vlog_tree.specs.declared.statement.StmtKind.TheOpen as o
use Rattle.vlog_tree.specs.declared.statement.StmtKind.TheVariants as s
use Rattle.vlog_tree.specs.Trees.{StmtLayer, stmt_layer, first_token}
use Rattle.vlog_tree.specs.Inside.{IsDirectlyIn, parts_of}
use Rattle.vlog_tree.specs.Inside.IsDirectlyIn.{itself, deeper}
use Rattle.flat_source_meaning.specs.SourceArms.{Arm, HasLine, own_line, of_statement, has_line}
use Rattle.line_sets.proofs.Runs.{same_lines}
use Rattle.flat_lines.specs.Lines.{HasLineIn, HasLineAmong, HasLineOf, Gains}

-- It is the statement itself, or belongs to one of its parts.
abbrev pub Deeper : Stmt → Stmt → Type 0
Deeper a d = (b : Stmt) × Contains (parts_of (stmt_layer a)) b × IsDirectlyIn b d

pub cases : {a d : Stmt} → IsDirectlyIn a d → (a ≡ d) ⊎ Deeper a d
cases itself = inl refl
cases (deeper {b = b} among within) = inr (b, among, within)

-- ---- lines

own_or_part : (a : Stmt) (n : ℕ) → HasLineIn a n → ((has_line (stmt_layer a) ≡ true) × ((first_token a).line ≡ n)) ⊎ HasLineAmong (parts_of (stmt_layer a)) n
own_or_part a n h = elim (cases h.1) [
  | inl e ↦ inl (subst (λ (d : Stmt). (has_line (stmt_layer d) ≡ true) × ((first_token d).line ≡ n)) (sym e) (h.2, h.3))
  | inr d ↦ inr (d.0, d.1, (h.0, d.2, h.2, h.3))
]

own : (a : Stmt) (n : ℕ) → has_line (stmt_layer a) ≡ true → (first_token a).line ≡ n → HasLineIn a n
own a n has is = (a, itself, has, is)

of_part : (a : Stmt) (n : ℕ) → HasLineAmong (parts_of (stmt_layer a)) n → HasLineIn a n
of_part a n h = (h.2.0, deeper h.1 h.2.1, h.2.2, h.2.3)

none_among : (n : ℕ) → HasLineAmong [] n → ⊥
none_among n h = omega (arith, h.1.1)

-- a list with one number more
gains_one : (old new : List ℕ) (m : ℕ) → new ≡ old ++ m ∷ [] → Gains old new (λ n. m ≡ n)
gains_one old new m e = subst (λ (ns : List ℕ). Gains old ns (λ n. m ≡ n)) (sym e) (record {
  has = λ n h. elim h [
    | inl c ↦ Contains-append_left old (m ∷ []) n c
    | inr is ↦ subst (λ (k : ℕ). Contains (old ++ m ∷ []) k) is (Contains-push old m)
  ];
  only = λ n c. Contains-push_cases old m n c;
})

-- with none more
gains_none : (old : List ℕ) (more : ℕ → Type 0) → ((n : ℕ) → more n → ⊥) → Gains old old more
gains_none old more never = record { has = λ n h. elim h [ inl c ↦ c | inr m ↦ absurd (never n m) ]; only = λ n c. inl c }

-- with some and others more
gains_both : (old mid new : List ℕ) (some others more : ℕ → Type 0) → Gains old mid some → Gains mid new others
    → ((n : ℕ) → more n → some n ⊎ others n) → ((n : ℕ) → some n → more n) → ((n : ℕ) → others n → more n) → Gains old new more
gains_both old mid new some others more first next apart one other = record {
  has = λ n h. elim h [
    | inl c ↦ next.has n (inl (first.has n (inl c)))
    | inr m ↦ elim (apart n m) [ inl s ↦ next.has n (inl (first.has n (inr s))) | inr t ↦ next.has n (inr t) ]
  ];
  only = λ n c. elim (next.only n c) [
    | inl d ↦ elim (first.only n d) [ inl e ↦ inl e | inr s ↦ inr (one n s) ]
    | inr t ↦ inr (other n t)
  ];
}

gains_as : (old new : List ℕ) (some more : ℕ → Type 0) → Gains old new some → ((n : ℕ) → more n → some n) → ((n : ℕ) → some n → more n) → Gains old new more
gains_as old new some more gains back one = record {
  has = λ n h. elim h [ inl c ↦ gains.has n (inl c) | inr m ↦ gains.has n (inr (back n m)) ];
  only = λ n c. elim (gains.only n c) [ inl d ↦ inl d | inr m ↦ inr (one n m) ];
}

-- ---- by what the statement is

pub empty_gains : (a : Stmt) (lines : List ℕ) → stmt_layer a ≡ o.Empty → Gains lines lines (HasLineIn a)
empty_gains a lines e = gains_none lines (HasLineIn a) (λ n h. elim (own_or_part a n h) [
  | inl w ↦ cc (ap has_line e, w.0)
  | inr m ↦ none_among n (subst (λ (l : StmtLayer). HasLineAmong (parts_of l) n) e m)
])

-- a statement with a line and no part
pub single_gains : (a : Stmt) (old new : List ℕ) → parts_of (stmt_layer a) ≡ [] → has_line (stmt_layer a) ≡ true → new ≡ old ++ (first_token a).line ∷ []
    → Gains old new (HasLineIn a)
single_gains a old new alone has pushed =
    gains_as old new (λ n. (first_token a).line ≡ n) (HasLineIn a) (gains_one old new (first_token a).line pushed)
    (λ n h. elim (own_or_part a n h) [
      | inl w ↦ w.1
      | inr m ↦ absurd (none_among n (subst (λ (bs : List Stmt). HasLineAmong bs n) alone m))
    ])
    (λ n is. own a n has is)

pub block_gains : (a : Stmt) (body slice : List Stmt) (last : Place) (old new : List ℕ) → stmt_layer a ≡ o.Block body last → slice ≡ body
    → Gains old new (HasLineAmong slice) → Gains old new (HasLineIn a)
block_gains a body slice last old new e same gains =
    gains_as old new (HasLineAmong slice) (HasLineIn a) gains
    (λ n h. elim (own_or_part a n h) [
      | inl w ↦ cc (ap has_line e, w.0)
      | inr m ↦ subst (λ (bs : List Stmt). HasLineAmong bs n) (ap parts_of e ∙ sym same) m
    ])
    (λ n m. of_part a n (subst (λ (bs : List Stmt). HasLineAmong bs n) (same ∙ sym (ap parts_of e)) m))

one_part : (b : Stmt) (n : ℕ) → HasLineIn b n → HasLineAmong (b ∷ []) n
one_part b n h = (b, Contains-push [] b, h)

the_part : (b : Stmt) (n : ℕ) → HasLineAmong (b ∷ []) n → HasLineIn b n
the_part b n h = elim (Contains-push_cases [] b h.0 h.1) [
  | inl none ↦ absurd (omega (arith, none.1))
  | inr e ↦ subst (λ (d : Stmt). HasLineIn d n) (sym e) h.2
]

pub loop_gains : (a : Stmt) (name step_name : List ℕ) (from test step : Expr) (body part : Stmt) (old mid new : List ℕ)
    → stmt_layer a ≡ o.For name from test step_name step body → part ≡ body → mid ≡ old ++ (first_token a).line ∷ []
    → Gains mid new (HasLineIn part) → Gains old new (HasLineIn a)
loop_gains a name step_name from test step body part old mid new e same pushed gains =
    gains_both old mid new (λ n. (first_token a).line ≡ n) (HasLineIn part) (HasLineIn a) (gains_one old mid (first_token a).line pushed) gains
    (λ n h. elim (own_or_part a n h) [
      | inl w ↦ inl w.1
      | inr m ↦ inr (subst (λ (b : Stmt). HasLineIn b n) (sym same) (the_part body n (subst (λ (bs : List Stmt). HasLineAmong bs n) (ap parts_of e) m)))
    ])
    (λ n is. own a n (ap has_line e) is)
    (λ n h. of_part a n (subst (λ (bs : List Stmt). HasLineAmong bs n) (sym (ap parts_of e)) (one_part body n (subst (λ (b : Stmt). HasLineIn b n) same h))))

-- a statement that is neither empty, nor a block, nor a loop
other_layer : (l : StmtLayer) (k : StmtKind) → roll-StmtKind l ≡ k → (k ≡ s.Empty → ⊥) → ((body : List Stmt) (last : Place) → k ≡ s.Block body last → ⊥)
    → ((name : List ℕ) (from test : Expr) (step_name : List ℕ) (step : Expr) (body : Stmt) → k ≡ s.For name from test step_name step body → ⊥)
    → (parts_of l ≡ []) × (has_line l ≡ true)
other_layer o.Empty k e no_empty no_block no_loop = absurd (no_empty (sym e ∙ s.rolls-Empty))
other_layer (o.Block body last) k e no_empty no_block no_loop = absurd (no_block body last (sym e ∙ s.rolls-Block body last))
other_layer (o.For name from test step_name step body) k e no_empty no_block no_loop =
    absurd (no_loop name from test step_name step body (sym e ∙ s.rolls-For name from test step_name step body))
other_layer (o.If test first other) k e no_empty no_block no_loop = (refl, refl)
other_layer (o.Case wild on arms) k e no_empty no_block no_loop = (refl, refl)
other_layer (o.Set target value) k e no_empty no_block no_loop = (refl, refl)
other_layer (o.Later target value) k e no_empty no_block no_loop = (refl, refl)
other_layer (o.Show text values) k e no_empty no_block no_loop = (refl, refl)
other_layer o.Finish k e no_empty no_block no_loop = (refl, refl)
other_layer o.Stop k e no_empty no_block no_loop = (refl, refl)

pub is_single : (a : Stmt) → ((out-Stmt a).what ≡ s.Empty → ⊥) → ((body : List Stmt) (last : Place) → (out-Stmt a).what ≡ s.Block body last → ⊥)
    → ((name : List ℕ) (from test : Expr) (step_name : List ℕ) (step : Expr) (body : Stmt) → (out-Stmt a).what ≡ s.For name from test step_name step body → ⊥)
    → (parts_of (stmt_layer a) ≡ []) × (has_line (stmt_layer a) ≡ true)
is_single a no_empty no_block no_loop = other_layer (stmt_layer a) (out-Stmt a).what (roll-out-StmtKind (out-Stmt a).what) no_empty no_block no_loop

-- one statement more
pub more_gains : (parts : List Stmt) (k : ℕ) (part : Stmt) (old mid new : List ℕ) → k < length parts → part ≡ get_or parts k part
    → Gains old mid (HasLineAmong (take k parts)) → Gains mid new (HasLineIn part) → Gains old new (HasLineAmong (take (k + 1) parts))
more_gains parts k part old mid new lt is first next =
    subst (λ (bs : List Stmt). Gains old new (HasLineAmong bs))
    (sym (take_more parts k part lt ∙ ap (λ (b : Stmt). take k parts ++ b ∷ []) (sym is)))
    (gains_both old mid new (HasLineAmong (take k parts)) (HasLineIn part) (HasLineAmong (take k parts ++ part ∷ [])) first next
    (λ n h. elim (Contains-push_cases (take k parts) part h.0 h.1) [
      | inl c ↦ inl (h.0, c, h.2)
      | inr e ↦ inr (subst (λ (d : Stmt). HasLineIn d n) (sym e) h.2)
    ])
    (λ n h. (h.0, Contains-append_left (take k parts) (part ∷ []) h.0 h.1, h.2))
    (λ n h. (part, Contains-push (take k parts) part, h)))

pub no_gains : (lines : List ℕ) → Gains lines lines (HasLineAmong [])
no_gains lines = gains_none lines (HasLineAmong []) none_among

-- ---- of an arm

line_cases : (a : Arm) {n : ℕ} → HasLine a n → (a.place.line ≡ n) ⊎ HasLineOf a.body n
line_cases a own_line = inl refl
line_cases a (of_statement {d = d} is within has) = inr (subst (λ (o : Option Stmt). HasLineOf o (first_token d).line) (sym is) (d, within, has, refl))

first_line : (a : Arm) (n : ℕ) → a.place.line ≡ n → HasLine a n
first_line a n e = subst (λ (k : ℕ). HasLine a k) e own_line

statement_line : (a : Arm) (body : Option Stmt) (n : ℕ) → a.body ≡ body → HasLineOf body n → HasLine a n
statement_line a (Some b) n is h = subst (λ (k : ℕ). HasLine a k) h.3 (of_statement is h.1 h.2)
statement_line a None n is h = absurd h

-- none is written
pub no_body_gains : (lines : List ℕ) → Gains lines lines (HasLineOf None)
no_body_gains lines = gains_none lines (HasLineOf None) (λ n h. h)

only_first : (first n : ℕ) → Contains (first ∷ []) n → first ≡ n
only_first first n c = elim (Contains-push_cases [] first n c) [
  | inl none ↦ absurd (omega (arith, none.1))
  | inr e ↦ e
]

-- The lines of an arm are that of its place, and those of its statement.
pub lines_of_arm : (a : Arm) (body : Option Stmt) (first : ℕ) (old lines : List ℕ) (r : List LineRange) → a.place.line ≡ first → a.body ≡ body
    → old ≡ first ∷ [] → Gains old lines (HasLineOf body) → IsLineListOf (Contains lines) r → IsLineListOf (HasLine a) r
lines_of_arm a body first old lines r at same made gains is =
    same_lines r (λ n. (
      λ c. elim (gains.only n c) [
        | inl d ↦ first_line a n (at ∙ only_first first n (subst (λ (ns : List ℕ). Contains ns n) made d))
        | inr m ↦ statement_line a body n same m
      ],
      λ h. elim (line_cases a h) [
        | inl e ↦ gains.has n (inl (subst (λ (ns : List ℕ). Contains ns n) (sym made) (subst (λ (k : ℕ). Contains (first ∷ []) k) (sym at ∙ e) (Contains-push [] first))))
        | inr w ↦ gains.has n (inr (subst (λ (o : Option Stmt). HasLineOf o n) same w))
      ],
    ))
    is

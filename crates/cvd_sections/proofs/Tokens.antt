-- The tokens of lines: apart, and put together from their parts.
use Rattle.std.proofs.Common.{◌≡◌, ℕ, List, [], ◌∷◌, ◌++◌, refl, Result, Ok, Err}
use Rattle.cov_types.specs.declared.kind.VarKind.{VarKind}
use Rattle.cov_types.specs.declared.kind.VarKind.TheVariants as kind
use Rattle.cov_types.specs.declared.var.Var.{Var}
use Rattle.design_tree.specs.declared.instrumented.ToggleEntry.{ToggleEntry}
use Rattle.spelling_laws.specs.Spelled.{Apart}
use Rattle.spelling_laws.proofs.One as single
use Rattle.spelling_laws.proofs.Then as mark_pair
use Rattle.cvd_text.specs.Tokens.{Token, word, number}
use Rattle.cvd_text.specs.Pieces.{Mark, fits, token}
use Rattle.cvd_text.specs.Sections.{kind_word, var_line}
use Rattle.cvd_cursor.specs.Numerals.{number_tokens, hex_tokens}
use Rattle.cvd_cursor.specs.Places.{Reading}
use Rattle.cvd_cursor.specs.Reads.{Reads, Takes, Refused, marks}
use Rattle.cvd_cursor.specs.declared.fault.ReadFault.{ReadFault}
use Rattle.cvd_cursor.proofs.Composed.{takes_both, takes_as, refused_first, refused_second, refused_by}
use Rattle.cvd_nodes.proofs.Fields.{apart_number, apart_hex, then_apart}
use Rattle.cvd_sections.specs.Fields.{TwoNumbers, Rest, two_tokens, rest_tokens, toggle_tokens}
use Rattle.cvd_sections.proofs.KindWords.{apart_kind}

pub apart_two : Apart fits (marks two_tokens)
apart_two = then_apart ℕ ℕ (marks number_tokens) (marks number_tokens) apart_number apart_number

pub apart_rest : Apart fits (marks rest_tokens)
apart_rest = then_apart ℕ VarKind (marks hex_tokens) (marks (λ k. word (kind_word k) ∷ [])) apart_hex apart_kind

-- one list of tokens and another make those of a value
module _ (A B C : Type 0) (ta : A → List Token) (tb : B → List Token) (tc : C → List Token) (to : (a : A) × B → C) (from : C → (a : A) × B)
    (there : (c : C) → to (from c) ≡ c) (alike : (c : C) → marks tc c ≡ marks ta (from c).0 ++ marks tb (from c).1)
    (alike_to : (p : (a : A) × B) → marks tc (to p) ≡ marks ta p.0 ++ marks tb p.1) (apart_a : Apart fits (marks ta)) where
  pub takes_parts : (old mid new : Reading) (a : A) (b : B) → Takes (marks ta) old mid a → Takes (marks tb) mid new b → Takes (marks tc) old new (to (a, b))
  takes_parts old mid new a b h k =
      takes_as ((a : A) × B) C to from (λ p. marks ta p.0 ++ marks tb p.1) (marks tc) alike alike_to old new (a, b)
      (takes_both A (λ x. B) (marks ta) (λ x. marks tb) old mid new a b h k)

  pub refused_front : B → (old new : Reading) (fault : ReadFault) → Refused (marks ta) old fault new → Refused (marks tc) old fault new
  refused_front some old new fault r =
      refused_by ((a : A) × B) C to from (λ p. marks ta p.0 ++ marks tb p.1) (marks tc) alike alike_to old new fault
      (refused_first A (λ x. B) (marks ta) (λ x. marks tb) apart_a (λ x. some) old new fault r)

  pub refused_back : (old mid new : Reading) (a : A) (fault : ReadFault) → Takes (marks ta) old mid a → Refused (marks tb) mid fault new
      → Refused (marks tc) old fault new
  refused_back old mid new a fault h r =
      refused_by ((a : A) × B) C to from (λ p. marks ta p.0 ++ marks tb p.1) (marks tc) alike alike_to old new fault
      (refused_second A (λ x. B) (marks ta) (λ x. marks tb) a (apart_a a) old mid new fault h r)

  pub apart_parts : Apart fits (marks tb) → Apart fits (marks tc)
  apart_parts apart_b c =
      single.apart_via fits ((a : A) × B) C to from there (λ p. marks ta p.0 ++ marks tb p.1) (marks tc) alike c
      (then_apart A B (marks ta) (marks tb) apart_a apart_b (from c))

-- ---- toggle entries

abbrev pub toggle_to : (a : TwoNumbers) × TwoNumbers → ToggleEntry
toggle_to p = record { var = p.0.0; word = p.0.1; bit = p.1.0; counter = p.1.1 }

abbrev pub toggle_from : ToggleEntry → (a : TwoNumbers) × TwoNumbers
toggle_from t = ((t.var, t.word), (t.bit, t.counter))

pub toggle_takes : (old mid new : Reading) (a b : TwoNumbers) → Takes (marks two_tokens) old mid a → Takes (marks two_tokens) mid new b
    → Takes (marks toggle_tokens) old new (toggle_to (a, b))
toggle_takes =
    takes_parts TwoNumbers TwoNumbers ToggleEntry two_tokens two_tokens toggle_tokens toggle_to toggle_from (λ t. refl) (λ t. refl) (λ p. refl) apart_two

pub toggle_front : (old new : Reading) (fault : ReadFault) → Refused (marks two_tokens) old fault new → Refused (marks toggle_tokens) old fault new
toggle_front =
    refused_front TwoNumbers TwoNumbers ToggleEntry two_tokens two_tokens toggle_tokens toggle_to toggle_from (λ t. refl) (λ t. refl) (λ p. refl) apart_two
    (0, 0)

pub toggle_back : (old mid new : Reading) (a : TwoNumbers) (fault : ReadFault) → Takes (marks two_tokens) old mid a → Refused (marks two_tokens) mid fault new
    → Refused (marks toggle_tokens) old fault new
toggle_back =
    refused_back TwoNumbers TwoNumbers ToggleEntry two_tokens two_tokens toggle_tokens toggle_to toggle_from (λ t. refl) (λ t. refl) (λ p. refl) apart_two

pub apart_toggle : Apart fits (marks toggle_tokens)
apart_toggle =
    apart_parts TwoNumbers TwoNumbers ToggleEntry two_tokens two_tokens toggle_tokens toggle_to toggle_from (λ t. refl) (λ t. refl) (λ p. refl) apart_two
    apart_two

-- ---- variables

abbrev pub var_tokens : Var → List Token
var_tokens v = (var_line v).tokens

abbrev pub var_to : (a : TwoNumbers) × Rest → Var
var_to p = record { width = p.0.0; words = p.0.1; start = p.1.0; kind = p.1.1 }

abbrev pub var_from : Var → (a : TwoNumbers) × Rest
var_from v = ((v.width, v.words), (v.start, v.kind))

pub var_takes : (old mid new : Reading) (a : TwoNumbers) (b : Rest) → Takes (marks two_tokens) old mid a → Takes (marks rest_tokens) mid new b
    → Takes (marks var_tokens) old new (var_to (a, b))
var_takes = takes_parts TwoNumbers Rest Var two_tokens rest_tokens var_tokens var_to var_from (λ t. refl) (λ t. refl) (λ p. refl) apart_two

pub var_front : (old new : Reading) (fault : ReadFault) → Refused (marks two_tokens) old fault new → Refused (marks var_tokens) old fault new
var_front = refused_front TwoNumbers Rest Var two_tokens rest_tokens var_tokens var_to var_from (λ t. refl) (λ t. refl) (λ p. refl) apart_two (0, kind.Reg)

pub var_back : (old mid new : Reading) (a : TwoNumbers) (fault : ReadFault) → Takes (marks two_tokens) old mid a → Refused (marks rest_tokens) mid fault new
    → Refused (marks var_tokens) old fault new
var_back = refused_back TwoNumbers Rest Var two_tokens rest_tokens var_tokens var_to var_from (λ t. refl) (λ t. refl) (λ p. refl) apart_two

pub apart_var : Apart fits (marks var_tokens)
apart_var = apart_parts TwoNumbers Rest Var two_tokens rest_tokens var_tokens var_to var_from (λ t. refl) (λ t. refl) (λ p. refl) apart_two apart_rest

-- ---- a given word in front

module _ {A : Type 0} (name : List ℕ) (sA : A → List Mark) where
  abbrev pub named : A → List Mark
  named a = token (word name) ∷ sA a

  abbrev name_marks : Unit {0} → List Mark
  name_marks = marks (λ u. word name ∷ [])

  abbrev Named : Type 0
  Named = (u : Unit {0}) × A

  apart_name : Apart fits name_marks
  apart_name u v h = refl

  pub takes_named : (old mid new : Reading) (a : A) → Takes name_marks old mid tt → Takes sA mid new a → Takes named old new a
  takes_named old mid new a h k =
      takes_as Named A (λ p. p.1) (λ b. (tt, b)) (λ p. name_marks p.0 ++ sA p.1) named (λ b. refl) (λ p. refl) old new (tt, a)
      (takes_both (Unit {0}) (λ u. A) name_marks (λ u. sA) old mid new tt a h k)

  pub refused_name : A → (old new : Reading) (fault : ReadFault) → Refused name_marks old fault new → Refused named old fault new
  refused_name some old new fault r =
      refused_by Named A (λ p. p.1) (λ b. (tt, b)) (λ p. name_marks p.0 ++ sA p.1) named (λ b. refl) (λ p. refl) old new fault
      (refused_first (Unit {0}) (λ u. A) name_marks (λ u. sA) apart_name (λ u. some) old new fault r)

  pub refused_behind : (old mid new : Reading) (fault : ReadFault) → Takes name_marks old mid tt → Refused sA mid fault new → Refused named old fault new
  refused_behind old mid new fault h r =
      refused_by Named A (λ p. p.1) (λ b. (tt, b)) (λ p. name_marks p.0 ++ sA p.1) named (λ b. refl) (λ p. refl) old new fault
      (refused_second (Unit {0}) (λ u. A) name_marks (λ u. sA) tt (apart_name tt) old mid new fault h r)

  pub reads_named : {V : Type 0} (Holds : A → V → Type 0) (old mid new : Reading) (result : Result V ReadFault) → Takes name_marks old mid tt
      → Reads sA Holds mid result new → Reads named Holds old result new
  reads_named Holds old mid new (Ok held) h r = (r.0, (takes_named old mid new r.0 h r.1.0, r.1.1))
  reads_named Holds old mid new (Err fault) h r = refused_behind old mid new fault h r

  pub apart_named : Apart fits sA → Apart fits named
  apart_named apart a =
      single.apart_via fits Named A (λ p. p.1) (λ b. (tt, b)) (λ b. refl) (λ p. name_marks p.0 ++ sA p.1) named (λ b. refl) a
      (mark_pair.apart_pair fits (Unit {0}) (λ u. A) name_marks (λ u. sA) tt a (apart_name tt) (apart a))

-- a section's name and number
abbrev pub heading_tokens : List ℕ → ℕ → List Token
heading_tokens name n = word name ∷ number n ∷ []

pub apart_heading : (name : List ℕ) → Apart fits (marks (heading_tokens name))
apart_heading name = apart_named name (marks number_tokens) apart_number

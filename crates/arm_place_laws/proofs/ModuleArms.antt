-- The arms of modules and files that are read from tokens are told by their places.
use Rattle.std.proofs.Common.{◌≡◌, ◌∙◌, sym, ap, refl, subst, ℕ, zero, suc, ◌⊎◌, inl, inr, false, List, [], ◌∷◌}
use Rattle.std.proofs.Common.{Option, Some, Contains, slice_get, arith}
use Rattle.std.specs.List.{AllZip}
use Rattle.vlog_tokens.specs.declared.token_list.TokenList.{TokenList}
use Rattle.vlog_tokens.specs.declared.token.TokenKind.TheVariants as k
use Rattle.vlog_tree.specs.declared.item.ParamForm.{ParamForm}
use Rattle.vlog_tree.specs.declared.item.Item.{Item}
use Rattle.vlog_tree.specs.declared.module.Module.{Module}
use Rattle.vlog_tree.specs.declared.module.SourceFile.{SourceFile}
use Rattle.vlog_grammar.specs.Tokens.{Tokens, at}
use Rattle.vlog_grammar.specs.Modules.{IsSetting, declared, lone, AreSettings, last_setting, more_settings, IsHeader, no_header, header, IsModule, a_module}
use Rattle.vlog_grammar.specs.Modules.{AreModules, no_modules, more_modules, SpellsFile}
use Rattle.vlog_laws.proofs.ShorterModules.{shorter_header, shorter_port_list, shorter_module}
use Rattle.flat_source_meaning.specs.SourceArms.{Arm, entered}
use Rattle.scope_meaning.proofs.WalkLaws.{same}
use Rattle.arm_place_laws.proofs.Ends.{IsEnd, whole, next, OnePlace, at_number}
use Rattle.arm_place_laws.specs.TokenPlaces.{OneTokenAPlace}
use Rattle.arm_place_laws.proofs.PastItems.{past_header, past_port_list, past_module}
use Rattle.arm_place_laws.proofs.Told.{AreTold, none_there, fewer, both}
use Rattle.arm_place_laws.proofs.StatementArms.{nothing_in, one_of}
use Rattle.arm_place_laws.proofs.ItemArms.{IsArmAmong, no_arm_among, no_parameter, items_told}

-- an arm of a module
abbrev pub ArmOfModule : Module → Arm → Type 0
ArmOfModule m x = IsArmAmong m.params x ⊎ IsArmAmong m.items x

-- an arm of one of some modules
pub record IsArmOfSome (all : List Module) (x : Arm) : Type 0 where
  pub its_module : Module
  pub listed : Contains all its_module
  pub own : ArmOfModule its_module x

-- an arm of one of some files
pub record IsArmInFiles (files : List SourceFile) (x : Arm) : Type 0 where
  pub file : SourceFile
  pub listed : Contains files file
  pub own : IsArmOfSome file.modules x

-- the parameters of a header have no arms
no_setting : {before : Option ParamForm} {ts us : Tokens} {a : Item} {form : ParamForm} → IsSetting before ts a form us → (items : List Item) (x : Arm)
    → IsArmAmong (a ∷ items) x → IsArmAmong items x
no_setting (declared {p = p} {form = form} {name = name} its value) items x found = no_parameter p false form (name ∷ []) items x found
no_setting (lone {t = t} {form = form} {name = name} value) items x found = no_parameter t.place false form (name ∷ []) items x found

no_settings : {before : Option ParamForm} {ts us : Tokens} {list : List Item} → AreSettings before ts list us → (x : Arm) → IsArmAmong list x → ⊥
no_settings (last_setting one) x found = no_arm_among (no_setting one [] x found)
no_settings (more_settings {all = others} one rest) x found = no_settings rest x (no_setting one others x found)

in_header : {ts us : Tokens} {list : List Item} → IsHeader ts list us → (x : Arm) → IsArmAmong list x → ⊥
in_header (no_header none) x found = no_arm_among found
in_header (header list) x found = no_settings list x found

first_module : (m : Module) (all : List Module) (x : Arm) → IsArmOfSome (m ∷ all) x → ArmOfModule m x ⊎ IsArmOfSome all x
first_module m all x found = elim (one_of m all found.its_module found.listed) [
  | inl first ↦ inl (subst (λ n. ArmOfModule n x) (sym first) found.own)
  | inr more ↦ inr (record { its_module = found.its_module; listed = more; own = found.own })
]

module _ {all : Tokens} (one : OnePlace all) where
  module_told : {ts us : Tokens} {m : Module} → IsModule ts m us → IsEnd ts all → AreTold all ts us (ArmOfModule m)
  module_told (a_module {vs = vs} {ws = ws} {xs = xs} {r = r} {o = o} {items = items} front joined list) end =
      fewer {ts = ws} {us = at o k.EndModule ∷ xs} (omega arith) (omega (arith, shorter_header front, shorter_port_list joined))
      (λ x found. elim found [ inl params ↦ absurd (in_header front x params) | inr own ↦ own ])
      (items_told one list (next (past_port_list joined (past_header front (next (next end))))))

  modules_told : {ts : Tokens} {list : List Module} → AreModules ts list → IsEnd ts all → AreTold all ts [] (IsArmOfSome list)
  modules_told no_modules end = none_there (λ x found. nothing_in found.listed)
  modules_told (more_modules {ts = ts} {us = us} {a = a} {all = others} first rest) end =
      fewer {ts = ts} {us = []} (omega arith) (omega arith) (λ x found. first_module a others x found)
      (both {us = us} {vs = us} one (omega arith) (omega arith) (omega (arith, shorter_module first)) (module_told first end)
      (modules_told rest (past_module first end)))

-- ---- several files

-- a file among some that are spelled by these tokens, with its number
pub record IsSpelled (lists : List TokenList) (files : List SourceFile) (file : SourceFile) : Type 0 where
  pub number : ℕ
  pub tokens : TokenList
  pub there : slice_get lists number ≡ Some tokens
  pub its_file : slice_get files number ≡ Some file
  pub spells : SpellsFile tokens file

spelled_at : (lists : List TokenList) (files : List SourceFile) → AllZip SpellsFile lists files → (n : ℕ) (file : SourceFile) → slice_get files n ≡ Some file
    → (tokens : TokenList) × (slice_get lists n ≡ Some tokens) × SpellsFile tokens file
spelled_at [] [] h n file e = absurd (cc)
spelled_at [] (f ∷ fs) h n file e = absurd h
spelled_at (t ∷ ts) [] h n file e = absurd h
spelled_at (t ∷ ts) (f ∷ fs) h zero file e = (t, refl, subst (SpellsFile t) (same f file e) h.0)
spelled_at (t ∷ ts) (f ∷ fs) h (suc n) file e = spelled_at ts fs h.1 n file e

number_in : {X : Type 0} (xs : List X) (x : X) → Contains xs x → (n : ℕ) × (slice_get xs n ≡ Some x)
number_in [] x found = absurd (nothing_in found)
number_in (y ∷ ys) x found = elim (one_of y ys x found) [
  | inl first ↦ (0, ap Some first)
  | inr more ↦ (suc (number_in ys x more).0, (number_in ys x more).1)
]

pub spelled : (lists : List TokenList) (files : List SourceFile) (file : SourceFile) → AllZip SpellsFile lists files → Contains files file
    → IsSpelled lists files file
spelled lists files file h found =
    let its = number_in files file found in
    let list = spelled_at lists files h its.0 file its.1 in
    record { number = its.0; tokens = list.0; there = list.1; its_file = its.1; spells = list.2 }

-- the arms of files that are spelled by tokens of which no two stand at one place
pub files_told : (lists : List TokenList) (files : List SourceFile) → AllZip SpellsFile lists files → OneTokenAPlace lists → (x y : Arm)
    → IsArmInFiles files x → IsArmInFiles files y → x.place ≡ y.place → entered x.comment ≡ entered y.comment → x ≡ y
files_told lists files h one x y found other e f =
    let mine = spelled lists files found.file h found.listed in
    let yours = spelled lists files other.file h other.listed in
    let told = modules_told (alone mine.number mine.tokens mine.there) mine.spells.0 whole in
    let also = modules_told (alone yours.number yours.tokens yours.there) yours.spells.0 whole in
    let a = at_number (told.placed x found.own).1 in
    let b = at_number (also.placed y other.own).1 in
    let numbers = one mine.number yours.number a.0 b.0 mine.tokens yours.tokens a.1 b.1 mine.there yours.there a.2 b.2 (a.3 ∙ e ∙ sym b.3) in
    let one_file : found.file ≡ other.file = same found.file other.file (sym mine.its_file ∙ ap (slice_get files) numbers.0 ∙ yours.its_file) in
    told.told x y found.own (subst (λ file. IsArmOfSome file.modules y) (sym one_file) other.own) e f
  where
    alone : (n : ℕ) (tokens : TokenList) → slice_get lists n ≡ Some tokens → OnePlace tokens.tokens
    alone n tokens there i j t u at_i at_j e = (one n n i j tokens tokens t u there there at_i at_j e).1

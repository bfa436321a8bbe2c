-- Each name's arm makes the variant of that name, whose tag is a byte from 128 on. Assumes `Logic`.
use Rattle.std.proofs.Common.{◌≡◌, ℕ, ◌-◌, List, [], ◌∷◌, refl, lit<, w8, zero}
use Rattle.std.proofs.raw_atomic.Walks.{proved}
use Rattle.std.proofs.VecSteps.Shapes.{after}
use seplogic.Ra.Ura.{Ura}
use base.Fml.{Fml, ftrue, feq, fsep, fex}
use base.Logic.{SProp, ent, sep, emp}
use lib.Dec.{T, ltb, leb}
use mathlib.Core.Bool.{◌&&◌}
use mir.Syntax.{Body, Arms, place, assign, aggregate, int_neg, switch, seq, no_default}
use mir.Val.{Val, vnil, of_list, has_ty, WT}
use prog.Model.{Model}
use prog.Wp.{Env, Wp, WpFn, WpArms, after_seq}
use contract.Lifetimes.{Shares}
use contract.Running.{Running, MachineTables, tables}
use types.Logic.{Logic}
use types.Kit.{‵, raw, prop, at_ret, any_q, post, Post, Sq, ◌$◌, ◌∵◌, !, qed, done, drop, join, fjoin, fpack, feq_i, rewrite, suffices}
use types.Run.{enter, of_opd, neg_lit, no_more, and_then, first, switches_on, exec, returns, stop, fld}
use types.Part.{agg, whole}
use types.Match.{live, vrt}
use types.ByLocal.{alloc_all, pass_all, free_all, look_at, get, get_tag, sets, sets_last, env, holding}
use denote.Enum.Declared.{tag_of}
use denote.Exit.{yes}
use denote.Enum.Laws.{val, vals, tells, lawful}
use denote.Laws.{Is}
use denote.Signature.{plain}
use denote.Steps.{nothing}
use denote.Triple.Entry.{on_entry}
use denote.Triple.Walked.{Stays, walk_of, says, stay_dropped, Goes-dropped, ends_at}
use Rattle.vlog_words.specs.LateKinds.{kind_of}
use Rattle.vlog_words.specs.contracts.late.LateKind as L
use Rattle.vlog_tokens.specs.contracts.token.TokenKind as K
use Rattle.vlog_words.specs.contracts.late.late_kind as f
use Rattle.vlog_words.specs.declared.late.LateKind.{LateKind}
use Rattle.vlog_words.specs.declared.late.LateKind.TheVariants as late
use Rattle.vlog_tokens.specs.declared.token.TokenKind.{TokenKind}
use Rattle.vlog_tokens.specs.declared.token.TokenKind.TheVariants as k
use Rattle.vlog_words.proofs.late.late_kind.Statement.{statement}
use Rattle.vlog_words.proofs.late.late_kind.Code as code
use Rattle.vlog_words.proofs.late.LateKind.TheLaws.{the_laws}
use Rattle.vlog_tokens.proofs.token.TokenKind.TheLaws as kind

abbrev stayed : Stays f.ended.signature.params f.ended.kept
stayed = (stay_dropped _ yes, tt)

-- the machine's value of a variant with no field, whose tag is written from the top of a byte
abbrev value : ℕ → Val
value n = live (256 - n) vnil

-- what such a variant owns
abbrev owned : ℕ → Fml
owned n = fex (List Val) (λ us. fsep (feq (List Val) (value n ∷ []) (live (256 - n) (of_list us) ∷ []))
    (fex (Unit {0}) (λ _. fsep (feq (List Val) us []) ftrue)))

-- the arms of a match that begins a body
abbrev arms_of : Body → Arms
arms_of (seq (switch x arms) b) = arms
arms_of _ = no_default

-- an arm
abbrev makes : ℕ → Body
makes n = assign (place 2 []) (aggregate (int_neg w8 n ∷ []))

module _ {M : Type 1} {𝓤 : Ura M} (𝓛 : Logic 𝓤) (𝓜 : Model 𝓤 𝓛.H) (𝓡 : Running 𝓤 𝓛.H 𝓜) (qs : Shares 0) (d : LateKind) where
  abbrev 𝓣 : MachineTables 𝓤 𝓛.H 𝓜
  𝓣 = tables 𝓤 𝓛.H 𝓜 𝓡 𝓡.env

  abbrev Ends : Val → SProp 𝓤
  Ends = let W = walk_of 𝓛 f.ended stayed (f.clauses 𝓛 𝓜.mem 𝓡.returns) in W.post ((tt, qs, tt, (d, tt), (vals L.the_type the_laws d, tt)), tt)

  abbrev Goes : Type 1
  Goes = ent 𝓤 (sep 𝓤 (on_entry 𝓛 f.signature tt qs (d, tt) (vals L.the_type the_laws d, tt)) (emp 𝓤))
      (WpFn 𝓤 𝓛.H 𝓣.C 𝓣.Λ code.function (val L.the_type the_laws d ∷ []) Ends)

  module _ (l : ℕ → ℕ) where
    abbrev E : Env 𝓤 𝓛.H
    E = env (code.function).locals l

    abbrev rest : Body
    rest = after 1 (code.function).body

    abbrev then : Post 𝓤 𝓛.H
    then = any_q (after_seq 𝓤 𝓛.H (Wp 𝓤 𝓛.H 𝓣.C 𝓣.Λ E rest (post 𝓤 𝓛.H (at_ret E Ends))) (post 𝓤 𝓛.H (at_ret E Ends)))

    abbrev Arm : ℕ → Type 1
    Arm n = Sq 𝓛 (holding 𝓛 E ((1, val L.the_type the_laws d) ∷ [])) (prop (Wp 𝓤 𝓛.H 𝓣.C 𝓣.Λ E (makes n) (post 𝓤 𝓛.H then)))

    arm : (n : ℕ) (made : TokenKind) → T (ltb zero n && leb n 256) → T (has_ty kind.mir (value n)) × WT (value n)
        → owned n ≡ K.the_row.own_val made (value n ∷ []) → made ≡ kind_of d → Arm n
    arm n made small typed owns is =
        let c = f.clauses 𝓛 𝓜.mem 𝓡.returns in
        exec ! 𝓣.C 𝓣.Λ E (makes n) then $
        sets_last ! (agg ! (and_then ! (neg_lit ! small) (no_more !))) refl typed $
        exec ! 𝓣.C 𝓣.Λ E rest (at_ret E Ends) $
        sets ! (of_opd ! (get ! refl)) refl typed $
        returns ! (look_at ! 0 refl) $ free_all ! refl $
        suffices ! _ (ends_at 𝓛 f.ended stayed c ((tt, qs, tt, (d, tt), (vals L.the_type the_laws d, tt)), tt) (value n) made (tt, tt) (tt, tt)) $ says ! is $
        nothing ! $ feq_i ! (List Val) [] [] refl $ fjoin ! $ fpack ! (Unit {0}) (λ _. fsep (feq (List Val) [] []) ftrue) tt $
        feq_i ! (List Val) (value n ∷ []) (value n ∷ []) refl $ fjoin ! $ fpack ! (List Val)
        (λ us. fsep (feq (List Val) (value n ∷ []) (live (256 - n) (of_list us) ∷ [])) (fex (Unit {0}) (λ _. fsep (feq (List Val) us []) ftrue))) [] $
        rewrite ! 0 (λ (F : Fml). ‵ F) owns refl $
        nothing ! $ nothing ! $ join ! $ nothing ! $ done !

    abbrev Chosen : Type 1
    Chosen = Sq 𝓛 (holding 𝓛 E ((1, val L.the_type the_laws d) ∷ []))
        (prop (WpArms 𝓤 𝓛.H 𝓣.C 𝓣.Λ E (arms_of (code.function).body) (tag_of L.the_type d) (post 𝓤 𝓛.H then)))

  walk : Is L.the_row d (vals L.the_type the_laws d) → ((l : ℕ → ℕ) → Chosen l) → Goes
  walk is chosen =
      qed 𝓛 (raw (on_entry 𝓛 f.signature tt qs (d, tt) (vals L.the_type the_laws d, tt)) ∷ raw (emp 𝓤) ∷ []) ∵ drop ! $ drop ! $
      enter ! _ _ _ _ _ $ alloc_all ! (λ l. pass_all ! refl ((lawful L.the_type the_laws 𝓛 tt).typed d _ is) $
      first ! $ switches_on ! (get_tag ! (vrt ! refl (fld ! refl (stop !))) (whole !)) $ chosen l)

module _ {M : Type 1} {𝓤 : Ura M} (𝓛 : Logic 𝓤) (𝓜 : Model 𝓤 𝓛.H) (𝓡 : Running 𝓤 𝓛.H 𝓜) (qs : Shares 0) where
  chosen : (d : LateKind) (l : ℕ → ℕ) → Chosen 𝓛 𝓜 𝓡 qs d l
  chosen late.Cover l = arm 𝓛 𝓜 𝓡 qs late.Cover l 128 k.Cover tt (tt, (record { fits = lit< tt }, tt)) refl refl
  chosen late.Property l = arm 𝓛 𝓜 𝓡 qs late.Property l 127 k.Property tt (tt, (record { fits = lit< tt }, tt)) refl refl
  chosen late.Logic l = arm 𝓛 𝓜 𝓡 qs late.Logic l 126 k.Logic tt (tt, (record { fits = lit< tt }, tt)) refl refl
  chosen late.AlwaysFf l = arm 𝓛 𝓜 𝓡 qs late.AlwaysFf l 125 k.AlwaysFf tt (tt, (record { fits = lit< tt }, tt)) refl refl
  chosen late.AlwaysComb l = arm 𝓛 𝓜 𝓡 qs late.AlwaysComb l 124 k.AlwaysComb tt (tt, (record { fits = lit< tt }, tt)) refl refl
  chosen late.Plus l = arm 𝓛 𝓜 𝓡 qs late.Plus l 123 k.Plus tt (tt, (record { fits = lit< tt }, tt)) refl refl
  chosen late.Minus l = arm 𝓛 𝓜 𝓡 qs late.Minus l 122 k.Minus tt (tt, (record { fits = lit< tt }, tt)) refl refl
  chosen late.Star l = arm 𝓛 𝓜 𝓡 qs late.Star l 121 k.Star tt (tt, (record { fits = lit< tt }, tt)) refl refl
  chosen late.Slash l = arm 𝓛 𝓜 𝓡 qs late.Slash l 120 k.Slash tt (tt, (record { fits = lit< tt }, tt)) refl refl
  chosen late.Percent l = arm 𝓛 𝓜 𝓡 qs late.Percent l 119 k.Percent tt (tt, (record { fits = lit< tt }, tt)) refl refl
  chosen late.Exclamation l = arm 𝓛 𝓜 𝓡 qs late.Exclamation l 118 k.Exclamation tt (tt, (record { fits = lit< tt }, tt)) refl refl
  chosen late.Tilde l = arm 𝓛 𝓜 𝓡 qs late.Tilde l 117 k.Tilde tt (tt, (record { fits = lit< tt }, tt)) refl refl
  chosen late.Ampersand l = arm 𝓛 𝓜 𝓡 qs late.Ampersand l 116 k.Ampersand tt (tt, (record { fits = lit< tt }, tt)) refl refl
  chosen late.Pipe l = arm 𝓛 𝓜 𝓡 qs late.Pipe l 115 k.Pipe tt (tt, (record { fits = lit< tt }, tt)) refl refl
  chosen late.Caret l = arm 𝓛 𝓜 𝓡 qs late.Caret l 114 k.Caret tt (tt, (record { fits = lit< tt }, tt)) refl refl
  chosen late.Less l = arm 𝓛 𝓜 𝓡 qs late.Less l 113 k.Less tt (tt, (record { fits = lit< tt }, tt)) refl refl
  chosen late.Greater l = arm 𝓛 𝓜 𝓡 qs late.Greater l 112 k.Greater tt (tt, (record { fits = lit< tt }, tt)) refl refl
  chosen late.Question l = arm 𝓛 𝓜 𝓡 qs late.Question l 111 k.Question tt (tt, (record { fits = lit< tt }, tt)) refl refl
  chosen late.TildeAmpersand l = arm 𝓛 𝓜 𝓡 qs late.TildeAmpersand l 110 k.TildeAmpersand tt (tt, (record { fits = lit< tt }, tt)) refl refl
  chosen late.TildePipe l = arm 𝓛 𝓜 𝓡 qs late.TildePipe l 109 k.TildePipe tt (tt, (record { fits = lit< tt }, tt)) refl refl
  chosen late.TildeCaret l = arm 𝓛 𝓜 𝓡 qs late.TildeCaret l 108 k.TildeCaret tt (tt, (record { fits = lit< tt }, tt)) refl refl
  chosen late.CaretTilde l = arm 𝓛 𝓜 𝓡 qs late.CaretTilde l 107 k.CaretTilde tt (tt, (record { fits = lit< tt }, tt)) refl refl
  chosen late.LogicalAnd l = arm 𝓛 𝓜 𝓡 qs late.LogicalAnd l 106 k.LogicalAnd tt (tt, (record { fits = lit< tt }, tt)) refl refl
  chosen late.LogicalOr l = arm 𝓛 𝓜 𝓡 qs late.LogicalOr l 105 k.LogicalOr tt (tt, (record { fits = lit< tt }, tt)) refl refl
  chosen late.Equal l = arm 𝓛 𝓜 𝓡 qs late.Equal l 104 k.Equal tt (tt, (record { fits = lit< tt }, tt)) refl refl
  chosen late.NotEqual l = arm 𝓛 𝓜 𝓡 qs late.NotEqual l 103 k.NotEqual tt (tt, (record { fits = lit< tt }, tt)) refl refl
  chosen late.LessOrEqual l = arm 𝓛 𝓜 𝓡 qs late.LessOrEqual l 102 k.LessOrEqual tt (tt, (record { fits = lit< tt }, tt)) refl refl
  chosen late.GreaterOrEqual l = arm 𝓛 𝓜 𝓡 qs late.GreaterOrEqual l 101 k.GreaterOrEqual tt (tt, (record { fits = lit< tt }, tt)) refl refl
  chosen late.ShiftLeft l = arm 𝓛 𝓜 𝓡 qs late.ShiftLeft l 100 k.ShiftLeft tt (tt, (record { fits = lit< tt }, tt)) refl refl
  chosen late.ShiftRight l = arm 𝓛 𝓜 𝓡 qs late.ShiftRight l 99 k.ShiftRight tt (tt, (record { fits = lit< tt }, tt)) refl refl
  chosen late.CaseEqual l = arm 𝓛 𝓜 𝓡 qs late.CaseEqual l 98 k.CaseEqual tt (tt, (record { fits = lit< tt }, tt)) refl refl
  chosen late.CaseNotEqual l = arm 𝓛 𝓜 𝓡 qs late.CaseNotEqual l 97 k.CaseNotEqual tt (tt, (record { fits = lit< tt }, tt)) refl refl
  chosen late.ArithmeticShiftLeft l = arm 𝓛 𝓜 𝓡 qs late.ArithmeticShiftLeft l 96 k.ArithmeticShiftLeft tt (tt, (record { fits = lit< tt }, tt)) refl refl
  chosen late.ArithmeticShiftRight l = arm 𝓛 𝓜 𝓡 qs late.ArithmeticShiftRight l 95 k.ArithmeticShiftRight tt (tt, (record { fits = lit< tt }, tt)) refl refl
  chosen late.OpenParen l = arm 𝓛 𝓜 𝓡 qs late.OpenParen l 94 k.OpenParen tt (tt, (record { fits = lit< tt }, tt)) refl refl
  chosen late.CloseParen l = arm 𝓛 𝓜 𝓡 qs late.CloseParen l 93 k.CloseParen tt (tt, (record { fits = lit< tt }, tt)) refl refl
  chosen late.OpenBracket l = arm 𝓛 𝓜 𝓡 qs late.OpenBracket l 92 k.OpenBracket tt (tt, (record { fits = lit< tt }, tt)) refl refl
  chosen late.CloseBracket l = arm 𝓛 𝓜 𝓡 qs late.CloseBracket l 91 k.CloseBracket tt (tt, (record { fits = lit< tt }, tt)) refl refl
  chosen late.OpenBrace l = arm 𝓛 𝓜 𝓡 qs late.OpenBrace l 90 k.OpenBrace tt (tt, (record { fits = lit< tt }, tt)) refl refl
  chosen late.CloseBrace l = arm 𝓛 𝓜 𝓡 qs late.CloseBrace l 89 k.CloseBrace tt (tt, (record { fits = lit< tt }, tt)) refl refl
  chosen late.Comma l = arm 𝓛 𝓜 𝓡 qs late.Comma l 88 k.Comma tt (tt, (record { fits = lit< tt }, tt)) refl refl
  chosen late.Semicolon l = arm 𝓛 𝓜 𝓡 qs late.Semicolon l 87 k.Semicolon tt (tt, (record { fits = lit< tt }, tt)) refl refl
  chosen late.Colon l = arm 𝓛 𝓜 𝓡 qs late.Colon l 86 k.Colon tt (tt, (record { fits = lit< tt }, tt)) refl refl
  chosen late.Dot l = arm 𝓛 𝓜 𝓡 qs late.Dot l 85 k.Dot tt (tt, (record { fits = lit< tt }, tt)) refl refl
  chosen late.Hash l = arm 𝓛 𝓜 𝓡 qs late.Hash l 84 k.Hash tt (tt, (record { fits = lit< tt }, tt)) refl refl
  chosen late.At l = arm 𝓛 𝓜 𝓡 qs late.At l 83 k.At tt (tt, (record { fits = lit< tt }, tt)) refl refl
  chosen late.EqualSign l = arm 𝓛 𝓜 𝓡 qs late.EqualSign l 82 k.EqualSign tt (tt, (record { fits = lit< tt }, tt)) refl refl
  chosen late.PlusColon l = arm 𝓛 𝓜 𝓡 qs late.PlusColon l 81 k.PlusColon tt (tt, (record { fits = lit< tt }, tt)) refl refl
  chosen late.MinusColon l = arm 𝓛 𝓜 𝓡 qs late.MinusColon l 80 k.MinusColon tt (tt, (record { fits = lit< tt }, tt)) refl refl

pub late_kind_spec : {M : Type 1} → statement M
late_kind_spec 𝓤 𝓛 𝓜 𝓡 wired =
    let c = f.clauses 𝓛 𝓜.mem 𝓡.returns in
    proved 𝓛 f.ended stayed c 𝓜 𝓡 (Goes-dropped 𝓛 0 (plain (λ _. L.the_row)) yes (λ κs x w. refl), tt)
    f.Key.name code.function (code.unfolded 𝓤 𝓛.H 𝓜 𝓡 wired)
    (λ κs. (vals L.the_type the_laws, tt)) (λ κs. (tells L.the_type the_laws, tt)) (λ κs qs bounds a _ are. walk 𝓛 𝓜 𝓡 qs a.0 are.0 (chosen 𝓛 𝓜 𝓡 qs a.0))

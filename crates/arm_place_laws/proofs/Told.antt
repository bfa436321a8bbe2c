-- Arms that stand in a part of the tokens and are told by their places, put together from the arms of its parts.
use Rattle.std.proofs.Common.{◌≡◌, sym, refl, ℕ, ◌<◌, ◌≤◌, ◌⊎◌, inl, inr, ◌∷◌, length, arith}
use Rattle.vlog_tokens.specs.declared.token.Token.{Token}
use Rattle.vlog_grammar.specs.Tokens.{Tokens}
use Rattle.flat_source_meaning.specs.SourceArms.{Arm, entered}
use Rattle.arm_place_laws.proofs.Ends.{IsEnd, Stands, OnePlace, same_left}

-- each of these arms stands at a token from the first place on and before the second, and no two at one token are entered alike
pub record AreTold (all ts us : Tokens) (P : Arm → Type 0) : Type 0 where
  pub placed : (x : Arm) → P x → (n : ℕ) × Stands all n x.place × (length us < n) × (n ≤ length ts)
  pub told : (x y : Arm) → P x → P y → x.place ≡ y.place → entered x.comment ≡ entered y.comment → x ≡ y

pub none_there : {all ts us : Tokens} {P : Arm → Type 0} → ((x : Arm) → P x → ⊥) → AreTold all ts us P
none_there none = record { placed = λ x p. absurd (none x p); told = λ x y p q e f. absurd (none x p) }

-- fewer arms, between places further apart
pub fewer : {all ts us vs ws : Tokens} {P Q : Arm → Type 0} → length vs ≤ length us → length ts ≤ length ws → ((x : Arm) → Q x → P x)
    → AreTold all ts us P → AreTold all ws vs Q
fewer low high of told = record {
  placed = λ x q. let found = told.placed x (of x q) in (found.0, found.1, omega (arith, low, found.2), omega (arith, high, found.3));
  told = λ x y p q e f. told.told x y (of x p) (of y q) e f;
}

-- those of one part and those of another behind it
pub both : {all ts us vs ws : Tokens} {P Q : Arm → Type 0} → OnePlace all → length vs ≤ length us → length ws ≤ length vs → length us ≤ length ts
    → AreTold all ts us P → AreTold all vs ws Q → AreTold all ts ws (λ x. P x ⊎ Q x)
both {all} {ts} {us} {vs} {ws} {P} {Q} one apart low high first second = record {
  placed = placed;
  told = told;
}
  where
    placed : (x : Arm) → P x ⊎ Q x → (n : ℕ) × Stands all n x.place × (length ws < n) × (n ≤ length ts)
    placed x (inl p) = let found = first.placed x p in (found.0, found.1, omega (arith, apart, low, found.2), found.3)
    placed x (inr q) = let found = second.placed x q in (found.0, found.1, found.2, omega (arith, apart, high, found.3))

    not_both : {A : Type 0} (x y : Arm) → P x → Q y → x.place ≡ y.place → A
    not_both x y p q e =
        let before = first.placed x p in
        let behind = second.placed y q in
        absurd (omega (arith, same_left one before.1 behind.1 e, before.2, behind.3, apart))

    told : (x y : Arm) → P x ⊎ Q x → P y ⊎ Q y → x.place ≡ y.place → entered x.comment ≡ entered y.comment → x ≡ y
    told x y (inl p) (inl q) e f = first.told x y p q e f
    told x y (inr p) (inr q) e f = second.told x y p q e f
    told x y (inl p) (inr q) e f = not_both x y p q e
    told x y (inr p) (inl q) e f = not_both y x q p (sym e)

-- arms at one token, which are entered in different ways
pub at_token : {all us : Tokens} {t : Token} {P : Arm → Type 0} → IsEnd (t ∷ us) all → ((x : Arm) → P x → x.place ≡ t.place)
    → ((x y : Arm) → P x → P y → entered x.comment ≡ entered y.comment → x ≡ y) → AreTold all (t ∷ us) us P
at_token {all} {us} {t} end placed told = record {
  placed = λ x p. (length (t ∷ us), record { token = t; rest = us; end = end; left = refl; place = sym (placed x p) }, omega arith, omega arith);
  told = λ x y p q e f. told x y p q f;
}

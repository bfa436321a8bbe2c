-- Which arm is chosen, one arm after the other.
use Rattle.std.proofs.Common.{◌≡◌, ◌∙◌, sym, ap, refl, subst, ℕ, zero, suc, ◌+◌, ◌<◌, ◌≤◌, Bool, true, false, cond, List, [], ◌∷◌, ◌++◌, length, take, get_or}
use Rattle.std.proofs.Common.{map, Option, Some, None, Result, Ok, Err}
use Rattle.std.proofs.Common.{append_assoc, append-nil, arith}
use Rattle.std.specs.Prelude.{slice_get}
use Rattle.std.proofs.lemmas.List.{map-append, take_more, take-append-le, length-append, length-take}
use Rattle.circuit_run.specs.Lists.{total}
use Rattle.vlog_tree.specs.declared.expression.Expr.{Expr}
use Rattle.vlog_tree.specs.declared.item.GenArm.{GenArm, out-GenArm}
use Rattle.vlog_tree.specs.declared.item.GenBody.{GenBody}
use Rattle.scope_meaning.specs.Constants.{Names, and_then}
use Rattle.scope_meaning.specs.Declared.{count_body}
use Rattle.scope_meaning.specs.Heads.{Choice, choice_from, test_of, last_body}
use Rattle.scope_meaning.specs.Wanted.{Wanted, want}
use Rattle.elab_ranges.specs.declared.fault.RangeFault.{RangeFault}
use Rattle.elab_faults.specs.Flaws.{Flaws, flaws_in, both_flaws, Finds, both}
use Rattle.elab_faults.proofs.Flaws.{finds_both, finds_same}
use Rattle.elab_faults.proofs.Lists.{in-append}
use Rattle.elab_heads.specs.declared.choice.ChosenBody.{ChosenBody}
use Rattle.elab_heads.specs.Choices.{test_in, body_in, items_in, IsFirstTrue, Chooses, IsChoice, or_this, step_of, body_of, IsBodyAt}

-- at an arm
at_arm : (known : Names) (n : ℕ) (a : GenArm) (rest : List GenArm) (last : Option GenBody) (b : Bool) → test_of known (test_in a) ≡ Some b
    → choice_from known n (a ∷ rest) last ≡ cond b (Some (Some (n, body_in a))) (choice_from known (n + count_body (body_in a)) rest last)
unfolding choice_from
at_arm known n a rest last b h =
    ap (λ o. and_then o (λ holds. cond holds (Some (Some (n, body_in a))) (choice_from known (n + count_body (body_in a)) rest last))) h

items-more : (arms : List GenArm) (a : GenArm) → items_in (arms ++ a ∷ []) ≡ items_in arms + count_body (body_in a)
items-more [] a = omega arith
items-more (x ∷ arms) a = let e = items-more arms a in omega arith

get-behind : (arms : List GenArm) (a : GenArm) → slice_get (arms ++ a ∷ []) (length arms) ≡ Some a
get-behind [] a = refl
get-behind (x ∷ arms) a = get-behind arms a

get-before : (arms more : List GenArm) (k : ℕ) (a : GenArm) → slice_get arms k ≡ Some a → slice_get (arms ++ more) k ≡ Some a
get-before [] more k a e = cc
get-before (x ∷ arms) more zero a e = e
get-before (x ∷ arms) more (suc k) a e = get-before arms more k a e

take-whole : (arms more : List GenArm) → take (length arms) (arms ++ more) ≡ arms
take-whole [] more = refl
take-whole (x ∷ arms) more = ap (λ l. x ∷ l) (take-whole arms more)

-- one arm more
chooses-more : (known : Names) (arms : List GenArm) (a : GenArm) (o : Option ℕ) (b : Bool) → Chooses known arms o → test_of known (test_in a) ≡ Some b
    → Chooses known (arms ++ a ∷ []) (or_this o (length arms) b)
chooses-more known arms a (Some k) b h t = record {
  arm = h.arm;
  stands = get-before arms (a ∷ []) k h.arm h.stands;
  within = let e = length-append arms (a ∷ []) in let w = h.within in omega arith;
  chosen = λ n rest last. ap (λ l. choice_from known n l last) (append_assoc arms (a ∷ []) rest) ∙ h.chosen n (a ∷ rest) last
      ∙ ap (λ l. Some (Some (n + items_in l, body_in h.arm))) (sym (take-append-le k arms (a ∷ []) (let w = h.within in omega arith)));
}
chooses-more known arms a None true h t = record {
  arm = a;
  stands = get-behind arms a;
  within = let e = length-append arms (a ∷ []) in omega arith;
  chosen = λ n rest last. ap (λ l. choice_from known n l last) (append_assoc arms (a ∷ []) rest) ∙ h n (a ∷ rest) last
      ∙ at_arm known (n + items_in arms) a rest last true t
      ∙ ap (λ l. Some (Some (n + items_in l, body_in a))) (sym (take-whole arms (a ∷ [])));
}
chooses-more known arms a None false h t = λ n rest last.
    ap (λ l. choice_from known n l last) (append_assoc arms (a ∷ []) rest) ∙ h n (a ∷ rest) last
    ∙ at_arm known (n + items_in arms) a rest last false t
    ∙ ap (λ m. choice_from known m rest last) (turned n (items_in arms) (count_body (body_in a)) (items_in (arms ++ a ∷ [])) (items-more arms a))
  where
    turned : (n s c t : ℕ) → t ≡ s + c → (n + s) + c ≡ n + t
    turned n s c t e = omega arith

finds-step : (known : Names) (w : Flaws) (arms : List GenArm) (a : GenArm) (at : ℕ) (r : Result (Option ℕ × Bool) RangeFault) → at ≡ length arms
    → Finds (λ p. Chooses known arms p.0 × (test_of known (test_in a) ≡ Some p.1)) w r → Finds (Chooses known (arms ++ a ∷ [])) w (step_of at r)
finds-step known w arms a at (Ok p) e h =
    (h.0, subst (λ k. Chooses known (arms ++ a ∷ []) (or_this p.0 k p.1)) (sym e) (chooses-more known arms a p.0 p.1 h.1.0 h.1.1))
finds-step known w arms a at (Err f) e h = h

tests-more : (known : Names) (arms : List GenArm) (a : GenArm)
    → both_flaws (flaws_in (map (want known) (map test_in arms))) (flaws_in (want known (test_in a) ∷ []))
    ≡ flaws_in (map (want known) (map test_in (arms ++ a ∷ [])))
tests-more known arms a =
    sym (ap (λ es. flaws_in (map (want known) es)) (map-append test_in arms (a ∷ []))
    ∙ ap flaws_in (map-append (want known) (map test_in arms) (test_in a ∷ [])) ∙ in-append (map (want known) (map test_in arms)) (want known (test_in a) ∷ []))

pub step : (known : Names) (arms : List GenArm) (i : ℕ) (a : GenArm) (before : Result (Option ℕ) RangeFault) (test : Result Bool RangeFault)
    (after : Result (Option ℕ) RangeFault) → i < length arms → a ≡ get_or arms i a
    → Finds (Chooses known (take i arms)) (flaws_in (map (want known) (map test_in (take i arms)))) before
    → Finds (λ b. test_of known (test_in a) ≡ Some b) (flaws_in (want known (test_in a) ∷ [])) test → after ≡ step_of i (both before test)
    → Finds (Chooses known (take (i + 1) arms)) (flaws_in (map (want known) (map test_in (take (i + 1) arms)))) after
step known arms i a before test after lt is h k e =
    let done = take i arms in
    let more : take (i + 1) arms ≡ done ++ a ∷ [] = take_more arms i a lt ∙ ap (λ (x : GenArm). take i arms ++ x ∷ []) (sym is) in
    let long : i ≡ length done = omega (arith, length-take i arms) in
    subst (λ (l : List GenArm). Finds (Chooses known l) (flaws_in (map (want known) (map test_in l))) after) (sym more)
    (subst (Finds (Chooses known (done ++ a ∷ [])) (flaws_in (map (want known) (map test_in (done ++ a ∷ []))))) (sym e)
    (finds-step known (flaws_in (map (want known) (map test_in (done ++ a ∷ [])))) done a i (both before test) long
    (finds_same (λ (p : Option ℕ × Bool). Chooses known done p.0 × (test_of known (test_in a) ≡ Some p.1))
    (both_flaws (flaws_in (map (want known) (map test_in done))) (flaws_in (want known (test_in a) ∷ [])))
    (flaws_in (map (want known) (map test_in (done ++ a ∷ [])))) (both before test) (tests-more known done a)
    (finds_both (Chooses known done) (λ b. test_of known (test_in a) ≡ Some b) (flaws_in (map (want known) (map test_in done)))
    (flaws_in (want known (test_in a) ∷ [])) before test h k))))

pub none-yet : (known : Names) → Chooses known [] None
none-yet known n rest last = ap (λ m. choice_from known m rest last) (omega arith)

-- ---- the body

pub items-step : (arms : List GenArm) (i : ℕ) (a : GenArm) (first number here after : ℕ) → i < length arms → a ≡ get_or arms i a
    → number ≡ first + items_in (take i arms) → here ≡ count_body (body_in a) → after ≡ number + here → after ≡ first + items_in (take (i + 1) arms)
items-step arms i a first number here after lt is n h e =
    let more = ap items_in (take_more arms i a lt ∙ ap (λ (x : GenArm). take i arms ++ x ∷ []) (sym is)) ∙ items-more (take i arms) a in
    omega arith

get-at : (arms : List GenArm) (i : ℕ) (a : GenArm) → i < length arms → a ≡ get_or arms i a → slice_get arms i ≡ Some a
get-at [] i a lt e = absurd (omega arith)
get-at (x ∷ arms) zero a lt e = ap Some (sym e)
get-at (x ∷ arms) (suc i) a lt e = get-at arms i a (omega arith) e

get-past : (arms : List GenArm) (k : ℕ) → length arms ≤ k → slice_get arms k ≡ None
get-past [] k le = refl
get-past (x ∷ arms) zero le = absurd (omega arith)
get-past (x ∷ arms) (suc k) le = get-past arms k (omega arith)

-- the arm that was looked for
pub body-here : (arms : List GenArm) (last : Option GenBody) (first k i : ℕ) (a : GenArm) (c : ChosenBody) → i < length arms → a ≡ get_or arms i a
    → i ≡ k → c.first ≡ first + items_in (take i arms) → c.body.now ≡ body_in a → IsBodyAt first arms last k (Some c)
body-here arms last first k i a c lt is same n b =
    subst (λ j. IsChoice (body_of first arms last j (slice_get arms j)) (Some c)) same
    (subst (λ o. IsChoice (body_of first arms last i o) (Some c)) (sym (get-at arms i a lt is)) (n, b))

-- there is none, and so the last body
pub last-body : (arms : List GenArm) (last : Option GenBody) (first k : ℕ) (b : GenBody) (c : ChosenBody) → length arms ≤ k → last ≡ Some b
    → c.first ≡ first + items_in arms → c.body.now ≡ b → IsBodyAt first arms last k (Some c)
last-body arms last first k b c le is n e =
    subst (λ o. IsChoice (body_of first arms last k o) (Some c)) (sym (get-past arms k le))
    (subst (λ o. IsChoice (Some (last_body (first + items_in arms) o)) (Some c)) (sym is) (n, e))

pub no-body : (arms : List GenArm) (last : Option GenBody) (first k : ℕ) → length arms ≤ k → last ≡ None → IsBodyAt first arms last k None
no-body arms last first k le is =
    subst (λ o. IsChoice (body_of first arms last k o) None) (sym (get-past arms k le))
    (subst (λ o. IsChoice (Some (last_body (first + items_in arms) o)) None) (sym is) tt)

-- what is chosen is the body at its place
pub chosen-some : (known : Names) (arms : List GenArm) (last : Option GenBody) (first k : ℕ) → IsFirstTrue known arms k
    → body_of first arms last k (slice_get arms k) ≡ choice_from known first arms last
chosen-some known arms last first k h =
    ap (body_of first arms last k) h.stands ∙ sym (ap (λ l. choice_from known first l last) (sym (append-nil arms)) ∙ h.chosen first [] last)

pub chosen-none : (known : Names) (arms : List GenArm) (last : Option GenBody) (first : ℕ) → Chooses known arms None
    → body_of first arms last (length arms) (slice_get arms (length arms)) ≡ choice_from known first arms last
unfolding choice_from
chosen-none known arms last first h =
    ap (body_of first arms last (length arms)) (get-past arms (length arms) (omega arith))
    ∙ sym (ap (λ l. choice_from known first l last) (sym (append-nil arms)) ∙ h first [] last)

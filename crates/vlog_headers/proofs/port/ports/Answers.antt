use Rattle.std.proofs.Common.{◌≡◌, ◌+◌, ◌-◌, List, [], ◌∷◌, ◌++◌, length, Some, sym, refl, arith, rules}
use Rattle.std.proofs.Math.Seq.{get_or-append_seam}
use Rattle.std.proofs.lemmas.Grind.{common_steps}
use Rattle.std.proofs.lemmas.List.{length_push}
use Rattle.std.proofs.lemmas.Option.{slice_get_read}
use Rattle.std.specs.List.{slice_get}
use Rattle.vlog_reading.specs.ReadModules.{ports_from}
use Rattle.vlog_cursor.proofs.Turns.{one_more}
use Rattle.vlog_headers.proofs.port.ports.Goals as goal

last_pushed : {X : Type 0} (xs : List X) (x : X) → slice_get (xs ++ x ∷ []) (length (xs ++ x ∷ []) - 1) ≡ Some x
last_pushed xs x =
    let one : length (xs ++ x ∷ []) ≡ length xs + 1 = length_push xs x in
    let at : length (xs ++ x ∷ []) - 1 ≡ length xs = omega arith in
    rw at (slice_get_read (xs ++ x ∷ []) _ (length xs) x refl (omega arith) (sym (get_or-append_seam xs x [] x)))

pub loop-turn-preserved : goal.loop-turn-preserved
unfolding ports_from
loop-turn-preserved c =
    let e = one_more (λ n. ports_from n (slice_get c.loop-turn.found (length c.loop-turn.found - 1)) c.loop-turn.found c.loop-turn.tokens)
    _ c.loop-turn._turn c.loop-turn-test.true c.loop-turn.invariant in
    let last = last_pushed c.loop-turn.found c.in_ok-port.port in
    first_of (search rules, grind (arith, common_steps))

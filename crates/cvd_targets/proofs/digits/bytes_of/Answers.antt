use Rattle.std.proofs.Common.{◌<◌, ◌++◌, ◌∷◌, [], length, sym, ◌∙◌, ap, subst}
use Rattle.std.proofs.lemmas.List.{append-nil}
use Rattle.std.specs.Prelude.{flat_map}
use Rattle.cvd_text.specs.Tokens.{byte_text}
use Rattle.cvd_targets.specs.ByteTexts.{IsFirst}
use Rattle.cvd_targets.proofs.ByteTexts.{are_small, begins_none, none_behind, none_spelled, small_more, goes_on, drop_two, fewer, no_bytes, all_bytes}
use Rattle.cvd_targets.proofs.digits.bytes_of.Goals as goal

pub pairs-init : goal.pairs-init
pairs-init c = record {
  spelled = ap (λ l. flat_map byte_text l ++ c.args.word.now) (sym c.new-bytes.ensures.items);
  small = ap are_small c.new-bytes.ensures.items;
}

pub returns-in_default : goal.returns-in_default
returns-in_default c =
    let l = c.pairs in
    let none = subst (IsFirst l.rest.now) c.in_default.is c.first_byte.ensures in
    let some = no_bytes l.rest.now _ c.is_empty.ensures c.pairs-test.true in
    none_spelled c.args.word.now (λ bytes e. none_behind l.bytes.items l.rest.now l.invariant.small (begins_none l.rest.now none some) bytes
    (sym l.invariant.spelled ∙ e))

pub pairs-smaller : goal.pairs-smaller
pairs-smaller c =
    let l = c.pairs in
    subst (λ r. length r < length l.rest.now) (sym c.behind-rest.ensures) (fewer l.rest.now (no_bytes l.rest.now _ c.is_empty.ensures c.pairs-test.true))

pub pairs-preserved : goal.pairs-preserved
pairs-preserved c =
    let l = c.pairs in
    let first = subst (IsFirst l.rest.now) c.in-Some.is c.first_byte.ensures in
    let some = no_bytes l.rest.now _ c.is_empty.ensures c.pairs-test.true in
    let g = goes_on c.args.word.now l.bytes.items l.rest.now c.in-Some.byte l.invariant.spelled first some in
    record {
      spelled = g.1 ∙ ap (λ r. flat_map byte_text (l.bytes.items ++ c.in-Some.byte ∷ []) ++ r) (sym (drop_two l.rest.now) ∙ sym c.behind-rest.ensures)
          ∙ ap (λ b. flat_map byte_text b ++ c.behind-rest.result.now) (sym c.in_ok-push.ensures.items);
      small = ap are_small c.in_ok-push.ensures.items ∙ small_more l.bytes.items c.in-Some.byte l.invariant.small g.0;
    }

pub returns : goal.returns
returns c =
    let l = c.pairs in
    l.invariant.spelled ∙ ap (λ r. flat_map byte_text l.bytes.items ++ r) (all_bytes l.rest.now _ c.is_empty.ensures c.pairs-test.false)
    ∙ append-nil (flat_map byte_text l.bytes.items) ∙ ap (λ b. flat_map byte_text b) (sym c.from_vec.ensures)

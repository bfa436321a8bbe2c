use Rattle.std.proofs.Common.{◌∷◌, ◌-◌, ◌<◌, length, get_or, take, drop, rules}
use Rattle.std.specs.List.{flat_map}
use Rattle.cvd_text.specs.Tokens.{decimal_text}
use Rattle.cvd_write.proofs.Lines.{first_counter}
use Rattle.cvd_write.proofs.Puts.{put_behind, put_same}
use Rattle.cvd_write.proofs.section.counters.Goals as goal

pub returns : goal.returns
returns c =
    let list = c.args.list.now in
    let some : 0 < length list = search (rules, c.if-is_empty.ensures) in
    put_same _ _ _ _ _ (first_counter list some)
    (put_behind c.args.out.now (decimal_text (get_or list 0 0)) (flat_map (λ n. 44 ∷ decimal_text n) (take (length list - 1) (drop 1 list)))
    c.decimal.new.self _ _ c.in_ok-decimal.ensures c.more_counters.ensures)

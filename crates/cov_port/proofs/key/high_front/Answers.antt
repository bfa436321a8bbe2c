use Rattle.std.proofs.Common.{ℕ, leb, sym, ap, ◌∙◌, arith, w8, Bool}
use Rattle.std.specs.Int.Count.{count_trailing_zeros}
use Rattle.std.specs.Simd.Lanes.{chunk}
use Rattle.std.proofs.lemmas.Bool.{leb-false}
use Rattle.std.proofs.lemmas.Simd.{length-chunk, bitmask_splat, trailing_mask_l, none_from_empty_mask, run_in_chunk_fails, run_in_chunk_le}
use Rattle.cov_port.proofs.key.high_front.Goals as goal

is_low : ℕ → Bool
is_low byte = leb byte 10

pub returns-then-low-eq0-clause-high : goal.returns-then-low-eq0-clause-high
unfolding is_low
returns-then-low-eq0-clause-high c k at_least below =
    let bytes = c.args.bytes.now in
    let from = c.args.from in
    let long = length-chunk from 16 bytes c.requires in
    let mask = bitmask_splat w8 leb (chunk from 16 bytes) 16 10 long (omega arith) in
    leb-false _ 10 (none_from_empty_mask is_low bytes from 16 0 c.requires (sym mask ∙ c.if-low-eq0.true) k at_least below)

pub returns-clause-most : goal.returns-clause-most
unfolding is_low
returns-clause-most c =
    let bytes = c.args.bytes.now in
    let from = c.args.from in
    let long = length-chunk from 16 bytes c.requires in
    let mask = bitmask_splat w8 leb (chunk from 16 bytes) 16 10 long (omega arith) in
    let counted = ap (count_trailing_zeros 64) mask ∙ trailing_mask_l is_low 64 (chunk from 16 bytes) (omega arith) (omega arith) in
    run_in_chunk_le is_low bytes from 16 _ 0 c.requires counted

pub returns-clause-high : goal.returns-clause-high
unfolding is_low
returns-clause-high c k at_least below =
    let bytes = c.args.bytes.now in
    let from = c.args.from in
    let long = length-chunk from 16 bytes c.requires in
    let mask = bitmask_splat w8 leb (chunk from 16 bytes) 16 10 long (omega arith) in
    let counted = ap (count_trailing_zeros 64) mask ∙ trailing_mask_l is_low 64 (chunk from 16 bytes) (omega arith) (omega arith) in
    leb-false _ 10 (run_in_chunk_fails is_low bytes from 16 _ 0 c.requires counted k at_least below)

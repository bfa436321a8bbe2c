-- Names and texts, by computation.
use Rattle.std.proofs.Common.{◌≡◌, ℕ, true, false, [], ◌∷◌, refl, codes, pos, negsuc}
use Rattle.std.specs.Fmt.{digits}
use Rattle.scope_meaning.specs.Constants.{Constant}
use Rattle.source_meaning.specs.Joins.{ceil_log2, powers_below}
use Rattle.scope_meaning.specs.BlockNames.{unnamed_block, pass_name, module_text}

-- the first construct of a scope, unnamed, where no name is the same
first_block : unnamed_block (codes "g" ∷ []) 1 ≡ codes "genblk1"
unfolding digits
first_block = refl

-- where one is, a zero is put before the number; where that is there too, two
with_zero : unnamed_block (codes "genblk1" ∷ codes "genblk2" ∷ []) 1 ≡ codes "genblk01"
unfolding digits
with_zero = refl

with_zeros : unnamed_block (codes "genblk01" ∷ codes "genblk1" ∷ []) 1 ≡ codes "genblk001"
unfolding digits
with_zeros = refl

block_of_pass : pass_name (codes "b") (pos 10) ≡ codes "b[10]"
unfolding digits
block_of_pass = refl

block_below_zero : pass_name (codes "b") (negsuc 0) ≡ codes "b[-1]"
unfolding digits
block_below_zero = refl

w : ℕ → Constant
w n = record { name = codes "W"; width = 32; signed = true; bits = n }

text_with_parameter : module_text (codes "s") (w 2 ∷ []) ≡ codes "s#(W=32'sh2)"
unfolding w digits
text_with_parameter = refl

text_with_two : module_text (codes "s") (w 31 ∷ record { name = codes "P"; width = 4; signed = false; bits = 0 } ∷ []) ≡ codes "s#(W=32'sh1f,P=4'h0)"
unfolding w digits
text_with_two = refl

text_without : module_text (codes "s") [] ≡ codes "s"
text_without = refl

logs : (ceil_log2 0 ∷ ceil_log2 1 ∷ ceil_log2 2 ∷ ceil_log2 3 ∷ ceil_log2 1024 ∷ ceil_log2 1025 ∷ []) ≡ 0 ∷ 0 ∷ 1 ∷ 2 ∷ 10 ∷ 11 ∷ []
unfolding powers_below
logs = refl

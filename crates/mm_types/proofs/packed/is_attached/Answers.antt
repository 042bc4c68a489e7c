-- `is_attached` tests bits 10 to 15 by one mask.
use Rattle.std.proofs.Common.{ℕ, ◌≡◌, ◌*◌, ◌/◌, ◌%◌, nat_eq, bit_and, arith}
use Rattle.std.proofs.lemmas.Bool.Decides.{nat_tests}
use Rattle.std.proofs.lemmas.Nat.Bits.{and_high}
use Rattle.mm_types.specs.Packed.{is_attached}
use Rattle.mm_types.proofs.packed.is_attached.Goals as goal

-- bits 10 to 15 are 32 where bit 15 is the only one of them
six_bits : (word masked : ℕ) → masked ≡ word / 1024 % 64 * 1024 → nat_eq masked 32768 ≡ is_attached word
unfolding is_attached
six_bits word masked is = grind (arith, nat_tests)

pub returns : goal.returns
returns c = six_bits c.args.word (bit_and c.args.word 64512) (and_high c.args.word 6 10)

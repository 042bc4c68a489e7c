-- The proof of `push_lengths`: three parts, one after the other.
use Rattle.std.proofs.Common.{◌++◌, codes, decimal, Ok, refl}
use Rattle.gen_load.proofs.Written.{three_parts}
use Rattle.gen_load.proofs.loading.push_lengths.Goals as goal

pub returns : goal.returns
returns c = three_parts (Ok tt) c.args.text.now.items (codes " " ++ decimal c.args.length) (codes " " ++ decimal c.args.new_length)
    (codes " MREMAP_MAYMOVE\n") _ _ _ _ c.in_ok-push_number.ensures c.in_ok-push_number-2.ensures c.in_ok-extend_from_slice.ensures.items refl

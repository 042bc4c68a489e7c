-- The laws of packed areas.
use Rattle.mm_types.proofs.PackedWords.{unpacked-packed, unpacked_is, unpacked_none, unpacked-detached, length-packed, packed_small}
use Rattle.mm_types.proofs.packed.packing_is_undone.Goals as goal

pub returns-clause-read_back : goal.returns-clause-read_back
returns-clause-read_back c = unpacked-packed

pub returns-clause-written_back : goal.returns-clause-written_back
returns-clause-written_back c = unpacked_is

pub returns-clause-refused : goal.returns-clause-refused
returns-clause-refused c = unpacked_none

pub returns-clause-detached : goal.returns-clause-detached
returns-clause-detached c = unpacked-detached

pub returns-clause-four_words : goal.returns-clause-four_words
returns-clause-four_words c = length-packed

pub returns-clause-words_fit : goal.returns-clause-words_fit
returns-clause-words_fit c = packed_small

-- The words of a new table.
use Rattle.std.specs.Prelude.{ℕ, ◌+◌, ◌*◌, List, replicate, slice_set}
use Rattle.mm_types.specs.declared.config.Config.{Config}
use Rattle.vma_lock.specs.Views.{slot_count}

-- zeros, but for the first sequence
abbrev pub first_words : Config → List ℕ
first_words config = slice_set (replicate ((slot_count config + 1) * 8) 0) 0 2

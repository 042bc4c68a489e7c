-- For `append`: the areas so far are at the end, and there is room for the rest.
use Rattle.std.proofs.Common.{◌≡◌, ◌+◌, ◌++◌, take, vec_len, vec_capacity}
use Rattle.plain_space.proofs.chunk.append.Given as goal

abbrev pub invariant-loop-area : goal.invariant-loop-area
invariant-loop-area l = record {
  items : l.whole.items ≡ l.fn.whole.items ++ take l.area-index l.areas;
  len : vec_len l.whole ≡ vec_len l.fn.whole + l.area-index;
  room : vec_capacity l.whole ≡ vec_capacity l.fn.whole;
}

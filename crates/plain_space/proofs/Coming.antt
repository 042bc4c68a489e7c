-- For `insert_new`: an area comes in at its place.
use Rattle.std.proofs.Common.{nat_lt, List, get_or, arith}
use Rattle.std.specs.List.{insert}
use Rattle.std.proofs.lemmas.Bool.{ltb-true, ltb-false}
use Rattle.std.proofs.lemmas.List.Sums.{prefix_len_passes, prefix_len_stops, prefix_len-le-length}
use Rattle.std.proofs.lemmas.List.Sorted.{IsNonDecreasingBy-insert}
use Rattle.mm_types.specs.declared.area.Record.{Record}
use Rattle.split_merge.specs.Sorted.{begins_below, BeginsRise}

-- the list stays in order
pub insert_rises : (areas : List Record) (new : Record) → BeginsRise areas → BeginsRise (insert areas (begins_below new.span.lo areas) new)
insert_rises areas new rise =
    IsNonDecreasingBy-insert (λ (area : Record). area.span.lo) areas (begins_below new.span.lo areas) new rise
    (prefix_len-le-length (λ (area : Record). nat_lt area.span.lo new.span.lo) areas)
    (λ k d below. omega (
      arith,
      ltb-true (get_or areas k d).span.lo new.span.lo
          (prefix_len_passes (λ (area : Record). nat_lt area.span.lo new.span.lo) areas k d below),
    ))
    (λ k d above within. omega (
      arith,
      rise (begins_below new.span.lo areas) k d above within,
      ltb-false (get_or areas (begins_below new.span.lo areas) d).span.lo new.span.lo
          (prefix_len_stops (λ (area : Record). nat_lt area.span.lo new.span.lo) areas d (omega arith)),
    ))

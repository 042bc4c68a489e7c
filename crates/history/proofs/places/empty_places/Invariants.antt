-- The proof of `empty_places`: what its loop keeps.
use Rattle.std.proofs.Common.{◌≡◌, vec_len, All}
use Rattle.history.proofs.places.empty_places.Given as goal

-- so many lists were made, and each is empty
abbrev pub invariant-loop : goal.invariant-loop
invariant-loop l = record {
  count : vec_len l.places ≡ l.counter;
  empty : All (λ own. vec_len own ≡ 0) l.places.items;
}

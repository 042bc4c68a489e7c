-- For `plan_changes`, `plan_cut`, `plan_move` and others: pieces of areas, for the parts that take the place of an area.
use Rattle.std.proofs.Common.{◌≡◌, ◌≤◌, ◌<◌, ◌+◌, ◌-◌, ℕ, if◌then◌else◌, nat_lt, nat_eq, [], ◌∷◌, arith}
use Rattle.std.proofs.lemmas.Bool.{cond-true, cond-false, lt-ltb, le-ltb}
use Rattle.std.proofs.lemmas.Bool.Decides.{nat_tests}
use Rattle.mm_types.specs.declared.area.Record.{Record}
use Rattle.mm_types.specs.Records.{IsValid}
use Rattle.area_list.specs.Areas.{index_of}
use Rattle.area_list.specs.Changes.{piece}
use Rattle.area_list.proofs.Parts.{part}

pub piece_some : (area : Record) (lo hi : ℕ) → lo < hi → piece area lo hi ≡ part area lo hi ∷ []
unfolding piece
piece_some area lo hi some = cond-true (nat_lt lo hi) (part area lo hi ∷ []) [] (lt-ltb lo hi some)

pub piece_none : (area : Record) (lo hi : ℕ) → hi ≤ lo → piece area lo hi ≡ []
unfolding piece
piece_none area lo hi none = cond-false (nat_lt lo hi) (part area lo hi ∷ []) [] (le-ltb lo hi none)

-- a valid area maps its offset first
pub first_index : (area : Record) → IsValid area → index_of area area.span.lo ≡ area.offset
unfolding index_of
first_index area valid = at area.object area.offset area.span.lo (λ none. (valid.anonymous none).0)
  where
    at : (object offset lo : ℕ) → (object ≡ 0 → offset ≡ 0) → (if nat_eq object 0 then 0 else offset + (lo - lo)) ≡ offset
    at object offset lo none = grind (arith, nat_tests)

-- an area from its lowest page up to its end is the area itself
pub part_whole : (area : Record) (hi : ℕ) → IsValid area → hi ≡ area.span.hi → part area area.span.lo hi ≡ area
part_whole area hi valid same = λ i. record {
  span = record { lo = area.span.lo; hi = same i };
  attr = area.attr;
  object = area.object;
  offset = first_index area valid i;
}

-- For the function that adds a part with new attributes: it is the part of the area with these.
use Rattle.std.proofs.Common.{◌≡◌, ℕ, Bool, true, false, cond, nat_lt, [], ◌∷◌, map, refl}
use Rattle.mm_types.specs.declared.area.Record.{Record}
use Rattle.area_list.specs.declared.attributes.AttrChange.{AttrChange}
use Rattle.area_list.specs.Areas.{index_of}
use Rattle.area_list.specs.Attributes.{with_attr}
use Rattle.area_list.specs.Changes.{piece}

with_attr_more : (change : AttrChange) (test : Bool) (part : Record) → cond test (with_attr change part ∷ []) [] ≡ map (with_attr change) (cond test (part ∷ []) [])
with_attr_more change true part = refl
with_attr_more change false part = refl

-- a part of the area with new attributes is the part with these
pub piece_with_attr : (change : AttrChange) (area : Record) (lo hi : ℕ) → piece (with_attr change area) lo hi ≡ map (with_attr change) (piece area lo hi)
unfolding piece index_of
piece_with_attr change area lo hi = with_attr_more change (nat_lt lo hi) _

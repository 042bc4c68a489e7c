-- For what records and a tree say of seals: where no record is sealed, no area is.
use Rattle.std.proofs.Common.{ℕ, ◌≡◌, Bool, true, false, ◌||◌, inl, inr, List, [], ◌∷◌, length, map, replicate, All, set, refl, sym, subst}
use Rattle.std.proofs.lemmas.Bool.{cases_lt}
use Rattle.std.proofs.lemmas.List.{get_or_past}
use Rattle.std.proofs.lemmas.List.Elements.{All-nil, All-cons, All-replicate, All-get_or, All-set}
use Rattle.mm_types.specs.declared.area.Record.{Record}
use Rattle.maple_node.specs.Trees.{Pair}
use Rattle.area_tree.specs.AreaTrees.{area_in, no_area, shown_at, areas_shown}

-- an area that is not sealed
abbrev pub IsOpen : Record → Type 0
IsOpen area = area.attr.sealed ≡ false

-- what a slot shows is not sealed
slot_open : (records : List Record) (slot : ℕ) → All IsOpen records → IsOpen (area_in records slot)
slot_open records slot open_all = elim (cases_lt slot (length records)) [
  | inl within ↦ All-get_or IsOpen records slot no_area within open_all
  | inr past ↦ subst IsOpen (sym (get_or_past records slot no_area past)) refl
]

-- so for the areas of all pairs
pub areas_open : (records : List Record) (pairs : List Pair) → All IsOpen records → All IsOpen (areas_shown (map (shown_at records) pairs))
areas_open records [] open_all = All-nil IsOpen
areas_open records (pair ∷ pairs) open_all =
    All-cons IsOpen (area_in records pair.slot) (areas_shown (map (shown_at records) pairs)) (slot_open records pair.slot open_all) (areas_open records pairs open_all)

-- records of no area
pub none_open : (slots : ℕ) → All IsOpen (replicate slots no_area)
none_open slots = All-replicate IsOpen slots no_area refl

-- another record, where neither it nor one before is sealed
pub set_open : (records : List Record) (slot : ℕ) (area : Record) (sealed : Bool) → (sealed ≡ false → All IsOpen records)
    → (sealed || area.attr.sealed) ≡ false → All IsOpen (set records slot area)
set_open records slot area sealed open_all none =
    let parts = or_parts sealed area.attr.sealed none in All-set IsOpen records slot area parts.1 (open_all parts.0)
  where
    or_parts : (a b : Bool) → (a || b) ≡ false → (a ≡ false) × (b ≡ false)
    or_parts true b none = absurd (cc)
    or_parts false b none = (refl, none)

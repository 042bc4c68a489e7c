-- For `Chunk::insert` and `Chunk::remove`: the widest gap where an area comes or goes.
use Rattle.std.proofs.Common.{ℕ, suc, zero, ◌≤◌, ◌<◌, max, List, [], ◌∷◌, length, arith}
use Rattle.std.specs.List.{insert, remove}
use Rattle.mm_types.specs.declared.area.Record.{Record}
use Rattle.plain_space.specs.Internal.Gaps.{gap_behind, gap_before, gap_around, widest_gap, HasChanged}

-- an area comes in at a place
pub come_changed : (areas : List Record) (place : ℕ) (new : Record) → place ≤ length areas
    → HasChanged (widest_gap areas) (widest_gap (insert areas place new)) (gap_before areas place) (gap_around (insert areas place new) place)
come_changed [] zero new within = record { rest = 0; was = omega arith; is = omega arith }
come_changed [] (suc place) new within = absurd (omega (arith, within))
come_changed (area ∷ areas) zero new within = record { rest = widest_gap (area ∷ areas); was = omega arith; is = omega arith }
come_changed (area ∷ []) (suc zero) new within = record { rest = 0; was = omega arith; is = omega arith }
come_changed (area ∷ (next ∷ areas)) (suc zero) new within = record { rest = widest_gap (next ∷ areas); was = omega arith; is = omega arith }
come_changed (area ∷ []) (suc (suc place)) new within = absurd (omega (arith, within))
come_changed (area ∷ (next ∷ areas)) (suc (suc place)) new within =
    let others = come_changed (next ∷ areas) (suc place) new (omega (arith, within)) in
    record { rest = max (gap_behind area (next ∷ areas)) others.rest; was = omega (arith, others.was); is = omega (arith, others.is) }

-- the area at a place goes
pub gone_changed : (areas : List Record) (place : ℕ) → place < length areas
    → HasChanged (widest_gap areas) (widest_gap (remove areas place)) (gap_around areas place) (gap_before (remove areas place) place)
gone_changed [] place within = absurd (omega (arith, within))
gone_changed (area ∷ areas) zero within = record { rest = widest_gap areas; was = omega arith; is = omega arith }
gone_changed (area ∷ []) (suc place) within = absurd (omega (arith, within))
gone_changed (area ∷ (next ∷ areas)) (suc zero) within = record { rest = widest_gap areas; was = omega arith; is = omega arith }
gone_changed (area ∷ (next ∷ areas)) (suc (suc place)) within =
    let others = gone_changed (next ∷ areas) (suc place) (omega (arith, within)) in
    record { rest = max (gap_behind area (next ∷ areas)) others.rest; was = omega (arith, others.was); is = omega (arith, others.is) }

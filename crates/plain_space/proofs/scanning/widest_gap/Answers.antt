-- For `widest_gap` of scanning.rt: its goals.
use Rattle.std.proofs.Common.{ℕ, ◌≡◌, ◌≤◌, ◌-◌, max, List, [], ◌∷◌, length, take, drop, get_or, ap, arith}
use Rattle.std.proofs.lemmas.List.{take_all}
use Rattle.mm_types.specs.declared.area.Record.{Record}
use Rattle.plain_space.specs.Internal.Gaps.{gap_behind, widest_gap}
use Rattle.plain_space.proofs.scanning.widest_gap.Goals as goal

-- the first area and its gap are passed
one_more : (before gap next : ℕ) (areas : List Record) (d : Record) → 1 ≤ length areas
    → gap ≡ gap_behind (get_or areas 0 d) (take (length areas - 1) (drop 1 areas)) → next ≡ max before gap
    → max next (widest_gap (take (length areas - 1) (drop 1 areas))) ≡ max before (widest_gap areas)
one_more before gap next [] d some here wider = absurd (omega (arith, some))
one_more before gap next (area ∷ areas) d some here wider =
    let all : take (length (area ∷ areas) - 1) areas ≡ areas = take_all (length (area ∷ areas) - 1) areas (omega arith) in
    omega (arith, wider, here, ap (gap_behind area) all, ap widest_gap all)

pub loop-rest-preserved : goal.loop-rest-preserved
loop-rest-preserved c = omega (
  arith,
  one_more c.loop-rest.widest c.gap_behind.result c.max-widest.result c.loop-rest.rest.now _ c.in-len1-up.len_at_least c.gap_behind.ensures c.max-widest.ensures,
  c.loop-rest.invariant,
)

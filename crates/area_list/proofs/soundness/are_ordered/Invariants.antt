-- For `are_ordered`: what each loop keeps.
use Rattle.std.proofs.Common.{◌≤◌, ◌↔◌, length}
use Rattle.mm_types.specs.declared.area.Record.{Record}
use Rattle.area_list.specs.Areas.{Neighbours}
use Rattle.area_list.proofs.soundness.are_ordered.Given as goal

-- the list is in order where the rest is
abbrev pub invariant-loop-rest : goal.invariant-loop-rest
invariant-loop-rest l = Neighbours (λ (a b : Record). a.span.hi ≤ b.span.lo) l.rest ↔ Neighbours (λ (a b : Record). a.span.hi ≤ b.span.lo) l.areas

abbrev pub decreases-loop-rest : goal.decreases-loop-rest
decreases-loop-rest l = length l.rest

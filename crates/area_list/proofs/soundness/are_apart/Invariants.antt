-- For `are_apart`: what each loop keeps.
use Rattle.std.proofs.Common.{◌≡◌, ◌↔◌, false, length}
use Rattle.mm_types.specs.declared.area.Record.{Record}
use Rattle.area_list.specs.Areas.{Neighbours, joins}
use Rattle.area_list.proofs.soundness.are_apart.Given as goal

-- no two neighbours of the list join where none of the rest do
abbrev pub invariant-loop-rest : goal.invariant-loop-rest
invariant-loop-rest l = Neighbours (λ (a b : Record). joins a b ≡ false) l.rest ↔ Neighbours (λ (a b : Record). joins a b ≡ false) l.areas

abbrev pub decreases-loop-rest : goal.decreases-loop-rest
decreases-loop-rest l = length l.rest

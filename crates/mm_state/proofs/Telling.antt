-- For `MmState::facts`: the rows of the pairs are those of the areas.
use Rattle.std.proofs.Common.{◌≡◌, List, [], ◌∷◌, ℕ, map, All, refl, ap, ◌∙◌}
use Rattle.std.proofs.lemmas.List.Elements.{All-head, All-tail}
use Rattle.mm_types.specs.declared.area.Record.{Record}
use Rattle.mm_types.specs.Packed.{packed}
use Rattle.lock_core.specs.declared.stage.SlotState.{SlotState}
use Rattle.maple_node.specs.Trees.{Pair}
use Rattle.area_tree.specs.AreaTrees.{shown_at, areas_shown}
use Rattle.mm_state.specs.Shelves.{ShowsIt}
use Rattle.mm_state.specs.States.{pair_row}

pub rows_are : (states : List SlotState) (records : List Record) (pairs : List Pair) → All (ShowsIt states) (map (shown_at records) pairs)
    → map (pair_row states) pairs ≡ map packed (areas_shown (map (shown_at records) pairs))
rows_are states records [] all = refl
rows_are states records (pair ∷ pairs) all =
    ap (λ row. row ∷ map (pair_row states) pairs) (All-head (ShowsIt states) (shown_at records pair) (map (shown_at records) pairs) all)
    ∙ ap (λ (rows : List (List ℕ)). packed (shown_at records pair).area ∷ rows)
    (rows_are states records pairs (All-tail (ShowsIt states) (shown_at records pair) (map (shown_at records) pairs) all))

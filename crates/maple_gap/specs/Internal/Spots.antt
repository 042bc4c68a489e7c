-- Where the words of a node list the items that may have room.
use Rattle.std.specs.Prelude.{ℕ, ◌≡◌, ◌≢◌, ◌≤◌, ◌+◌, Bool, true, List, drop, get_or, length}
use Rattle.maple_node.specs.Nodes.{node_items}
use Rattle.maple_node.specs.Codec.{width_of, listed_at}
use Rattle.maple_gap.specs.declared.window.Side.{Side}
use Rattle.maple_gap.specs.declared.window.Window.{Window}
use Rattle.maple_gap.specs.declared.window.Choice.{Choice}
use Rattle.maple_gap.specs.declared.window.Spot.{Spot}
use Rattle.maple_gap.specs.Internal.Searches.{may_have_room, chosen_from}

-- what is chosen with the items from a spot on
abbrev pub chosen_after : Side → Window → Bool → List ℕ → Choice → Spot → Choice
chosen_after side window leaf words choice spot = chosen_from side window leaf choice spot.page (node_items leaf (drop spot.place words))

-- an item is listed at a spot and may have room, and none before it and from another spot on may
pub record IsNextRoom (window : Window) (leaf : Bool) (words : List ℕ) (from spot : Spot) : Type 0 where
  pub above : from.place ≤ spot.place
  pub within : spot.place + width_of leaf ≤ length words
  pub some : get_or words spot.place 0 ≢ 0
  pub may : may_have_room window leaf spot.page (listed_at leaf words spot.place) ≡ true
  pub same : (side : Side) (choice : Choice) → chosen_after side window leaf words choice from ≡ chosen_after side window leaf words choice spot

-- no item from a spot on may have room
abbrev pub HasNoRoom : Window → Bool → List ℕ → Spot → Type 0
HasNoRoom window leaf words from = (side : Side) (choice : Choice) → chosen_after side window leaf words choice from ≡ choice

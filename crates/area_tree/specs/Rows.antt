-- What the rows of a writer's table are for, counted, and what stays so while pins are scanned.
use Rattle.std.specs.Prelude.{ℕ, zero, suc, ◌≡◌, ◌<◌, ◌≤◌, ◌+◌, Bool, true, false, not, ◌&&◌, nat_le, List, length, is_some, unwrap_or}
use Rattle.area_rules.specs.Placement.{greatest_below, least_below}
use Rattle.grace_core.specs.Core.{since_at}
use Rattle.grace_core.specs.Steps.{cleared_up_to}
use Rattle.maple_node.specs.Levels.{at_of}
use Rattle.maple_node.specs.Trees.{Pair, pairs_of, tree_of}
use Rattle.node_slots.specs.declared.view.NodeView.{NodeView}
use Rattle.node_slots.specs.declared.seats.NodeWriter.{NodeWriter}
use Rattle.node_slots.specs.Seats.{node_sight, writer_state, row_count, is_present, is_waiting, is_kept, one_where, free_of, pins_of}

-- the sum of what each number below a limit gives
unfoldable pub sum_below : (ℕ → ℕ) → ℕ → ℕ
sum_below f zero = 0
sum_below f (suc n) = f n + sum_below f n

-- whether a row is spare: free, or taken and not published
abbrev pub is_spare : NodeWriter → ℕ → Bool
is_spare writer row = not (is_present writer row) && not (is_waiting writer row)

-- how many rows are spare
abbrev pub spare_rows : NodeWriter → ℕ
spare_rows writer = sum_below (λ row. one_where (is_spare writer row)) (row_count writer)

-- whether a row waits that left at the publish of this tree or before
abbrev pub holds_back : NodeWriter → ℕ → Bool
holds_back writer tree = is_some (least_below (λ row. is_waiting writer row && nat_le (since_at (writer_state writer).since row) tree) (row_count writer))

-- the greatest tree whose grace period has elapsed: at most the present one, and held back by no row
abbrev pub elapsed_of : NodeWriter → ℕ
elapsed_of writer = unwrap_or (greatest_below (λ tree. not (holds_back writer tree)) ((writer_state writer).tree.number + 1)) 0

-- the pairs of the present tree
abbrev pub shown_pairs : NodeWriter → List Pair
shown_pairs writer = let at = at_of (writer_state writer).tree.words in pairs_of at (tree_of at (node_sight writer).known.root)

-- the same tree is present, in a table of the same size whose rows have the same words
pub record IsSameTree (old new : NodeView) : Type 0 where
  pub size : new.size ≡ old.size
  pub root : new.known.root ≡ old.known.root
  pub tree : new.known.writer_state.tree ≡ old.known.writer_state.tree
  pub words : new.known.writer_state.words ≡ old.known.writer_state.words
  pub since : new.known.writer_state.since ≡ old.known.writer_state.since

-- a scan looked at the pin of each reader once
abbrev pub IsScanned : NodeWriter → NodeWriter → Type 0
IsScanned old new = (node_sight new).scans ≡ (node_sight old).scans + length (pins_of old)

-- each row that waits is held: some reader is not cleared up to the tree that left it out
abbrev pub AreHeld : NodeWriter → Type 0
AreHeld writer = (row : ℕ) → is_waiting writer row ≡ true → cleared_up_to (writer_state writer).tree.number (writer_state writer).clearings < since_at (writer_state writer).since row

-- no row waits
abbrev pub NoneWaits : NodeWriter → Type 0
NoneWaits writer = (row : ℕ) → is_waiting writer row ≡ false

-- between two times of a writer there were only scans: rows that waited may have become free, and nothing else changed
pub record Scans (old new : NodeWriter) : Type 0 where
  pub same : IsSameTree (node_sight old) (node_sight new)
  pub kept : (row : ℕ) → is_kept new row ≡ is_kept old row
  pub waits : (row : ℕ) → is_waiting new row ≡ true → is_waiting old row ≡ true

-- so many rows are free once no row waits, after scans alone
abbrev pub Suffices : NodeWriter → ℕ → Type 0
Suffices writer rows = (later : NodeWriter) → Scans writer later → NoneWaits later → rows ≤ length (free_of later)

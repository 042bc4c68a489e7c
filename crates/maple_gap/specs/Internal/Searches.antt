-- Which items a search goes into, and what it finds under them.
use Rattle.std.specs.Prelude.{ℕ, zero, suc, ◌≡◌, ◌<◌, ◌≤◌, ◌-◌, ◌^◌, min, max, Bool, true, ◌&&◌, if◌then◌else◌, nat_le, List, [], ◌∷◌, All, Option, Some, None}
use Rattle.std.specs.Option.{option_or, option_and}
use Rattle.maple_node.specs.declared.item.NodeItem.{NodeItem}
use Rattle.maple_node.specs.Nodes.{item_gap}
use Rattle.maple_node.specs.Levels.{is_leaf, items_at, AllFrom, IsNode, level_of, item_at}
use Rattle.maple_node.specs.Trees.{pairs_from, ApartFrom}
use Rattle.maple_node.specs.declared.place.Place.{Place}
use Rattle.node_slots.specs.declared.tree.Tree.{Tree}
use Rattle.node_slots.specs.declared.seats.NodeWriter.{NodeWriter}
use Rattle.node_slots.specs.Built.{words_at, pairs_now}
use Rattle.maple_gap.specs.declared.window.Side.{Side}
use Rattle.maple_gap.specs.declared.window.Side.TheVariants.{Low, High}
use Rattle.maple_gap.specs.declared.window.Window.{Window}
use Rattle.maple_gap.specs.declared.window.Choice.{Choice}
use Rattle.maple_gap.specs.declared.branch.Branch.{Branch}
use Rattle.mm_types.specs.Searches.{IsGreatest, IsLeast, NonePasses}

-- whether an item may have room: its largest gap is long enough, and so is its part in the window
unfoldable pub may_have_room : Window → Bool → ℕ → NodeItem → Bool
may_have_room window leaf start item = nat_le window.len (item_gap leaf start item)
    && nat_le window.len (min item.end window.hi - max start window.lo)

-- the least or the greatest start in an entry that has room
abbrev pub edge : Side → Window → ℕ → NodeItem → ℕ
edge Low window start item = max start window.lo
edge High window start item = min item.end window.hi - window.len

-- the start that is sought in one entry
unfoldable pub spot : Side → Window → ℕ → NodeItem → Option ℕ
spot side window start item = if may_have_room window true start item then Some (edge side window start item) else None

-- of what was found in lower and in higher pages, that which is sought
abbrev pub pick : Side → Option ℕ → Option ℕ → Option ℕ
pick Low lower higher = option_or lower higher
pick High lower higher = option_or higher lower

-- the start that is sought in entries that begin at a page
unfoldable pub best : Side → Window → ℕ → List NodeItem → Option ℕ
best side window start [] = None
best side window start (item ∷ items) = pick side (spot side window start item) (best side window item.end items)

-- what is chosen with one item more, which lies above those before
abbrev pub chosen : Side → Choice → Place → Choice
chosen Low choice place = record {
  first = option_or choice.first (Some place);
  second = option_and choice.first (option_or choice.second (Some place));
}
chosen High choice place = record { first = Some place; second = choice.first }

-- nothing is chosen
abbrev pub nothing_chosen : Choice
nothing_chosen = record { first = None; second = None }

-- what is chosen with more items that begin at a page: of those that may have room the lowest two, or the highest two
unfoldable pub chosen_from : Side → Window → Bool → Choice → ℕ → List NodeItem → Choice
chosen_from side window leaf choice start [] = choice
chosen_from side window leaf choice start (item ∷ items) = chosen_from side window leaf
    (if may_have_room window leaf start item then chosen side choice (record { start = start; item = item }) else choice) item.end items

-- the nodes under an item that begins at a page, for so many levels
unfoldable pub IsUnder : (ℕ → List ℕ) → ℕ → ℕ → ℕ → NodeItem → Type 0
IsUnder at limit zero start item = start < item.end
IsUnder at limit (suc level) start item = IsNode at (is_leaf level) limit start item
    × AllFrom (IsUnder at limit level) start (items_at at (is_leaf level) item.word)

-- a branch of a tree: all that lies under its item meets the layout
pub record IsBranch (at : ℕ → List ℕ) (branch : Branch) : Type 0 where
  pub limit : ℕ
  pub under : IsUnder at limit branch.level branch.place.start branch.place.item

-- an item that tells another gap
abbrev pub with_gap : ℕ → NodeItem → NodeItem
with_gap gap item = record { end = item.end; word = item.word; gap = gap }

-- a branch of a tree but for the gap that its item tells, which may be any: the entry of a page is found without it
pub record IsAnyBranch (at : ℕ → List ℕ) (branch : Branch) : Type 0 where
  pub limit : ℕ
  pub gap : ℕ
  pub under : IsUnder at limit branch.level branch.place.start (with_gap gap branch.place.item)

-- the entries under a branch
abbrev pub entries_under : (ℕ → List ℕ) → Branch → List NodeItem
entries_under at branch = level_of at 0 branch.level (branch.place.item ∷ [])

-- a part of a branch: for each page of the part, the entry of the branch that has it is the one under the part
unfoldable pub IsPartOf : (ℕ → List ℕ) → Branch → Branch → Type 0
IsPartOf at branch part = (page : ℕ) → part.place.start ≤ page → page < part.place.item.end
    → item_at page (entries_under at branch) ≡ item_at page (entries_under at part)

-- the start that is sought under a branch
abbrev pub best_under : Side → Window → (ℕ → List ℕ) → Branch → Option ℕ
best_under side window at branch = best side window branch.place.start (entries_under at branch)

-- the same where there may be no branch
abbrev pub best_of : Side → Window → (ℕ → List ℕ) → Option Branch → Option ℕ
best_of side window at None = None
best_of side window at (Some branch) = best_under side window at branch

-- the branch that is left to search: the second of two that were chosen, or else the one before
abbrev pub spare_from : Option Place → ℕ → Option Branch → Option Branch
spare_from None level spare = spare
spare_from (Some place) level spare = Some (record { place = place; level = level })

-- an item does not go beyond the edge of the window where the search begins
abbrev pub IsFar : Side → Window → Place → Type 0
IsFar Low window place = window.lo ≤ place.start
IsFar High window place = place.item.end ≤ window.hi

-- a branch that is searched where the one before had no room
pub record IsSpare (side : Side) (window : Window) (at : ℕ → List ℕ) (spare : Branch) : Type 0 where
  pub branch : IsBranch at spare
  pub room : may_have_room window (is_leaf spare.level) spare.place.start spare.place.item ≡ true
  pub far : IsFar side window spare.place

-- the whole tree of the writer's view as a branch whose item may tell any gap, where tree 0 is one gap
pub record IsRootOf (writer : NodeWriter) (tree : Tree) (root : Branch) : Type 0 where
  pub branch : IsAnyBranch (words_at writer) root
  pub begin : root.place.start ≡ 0
  pub limit : root.place.item.end ≡ tree.limit.0
  pub low : root.level ≤ tree.height
  pub apart : ApartFrom 1 (entries_under (words_at writer) root)
  pub numbered : All (λ entry. entry.word ≤ 2 ^ 32) (entries_under (words_at writer) root)
  pub pairs : pairs_from 0 (entries_under (words_at writer) root) ≡ pairs_now writer tree

-- the greatest or the least number that passes, or none where none does
abbrev pub IsOutermost : Side → (ℕ → Bool) → Option ℕ → Type 0
IsOutermost side passes None = NonePasses passes
IsOutermost Low passes (Some n) = IsLeast passes n
IsOutermost High passes (Some n) = IsGreatest passes n

-- What the fields of `Turns` keep.
use Rattle.std.specs.Prelude.{ℕ, ◌≡◌, ◌+◌, ◌<◌, ◌^◌, ◌∷◌, ◌++◌, List, AllPairs, length, true}
use Rattle.mm_types.specs.declared.call.Seen.{Seen}
use Rattle.area_rules.specs.Journals.{version_of}
use Rattle.history.specs.declared.items.Item.{Item}
use Rattle.history.specs.declared.turns.Turn.{Turn}
use Rattle.history.specs.declared.turns.Turns.TheInside.{Inside}
use Rattle.history.specs.Histories.{goes_first, gather}
use Rattle.history.specs.Runs.{entry_items, log_items, place_key}
use Rattle.history.specs.Turns.{turn_item}

-- the items that are left: of the entries and reads that were not told
abbrev pub items_left : Inside → List Item
items_left fields = gather (entry_items fields.version fields.journal.now ++ log_items 0 fields.log.now)

-- the reads that are left are in order, and so many versions can be counted
pub record AreTurns (fields : Inside) : Type 0 where
  pub pairs : AllPairs (λ a b. goes_first a b ≡ true) (log_items 0 fields.log.now)
  pub counted : fields.version + length fields.journal.now < 2 ^ 64

-- the first of some reads, if there is one, saw a later version
abbrev pub AreLater : ℕ → List Seen → Type 0
AreLater version log = (read : Seen) (rest : List Seen) → log ≡ read ∷ rest → version < version_of read

-- where something that was done stands in a history, if this caller did it
abbrev pub turn_place : ℕ → Turn → ℕ
turn_place caller turn = place_key (record { caller = caller; version = (turn_item turn).version; content = (turn_item turn).content })

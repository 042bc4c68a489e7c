-- What each slot shows, by slot.
use Rattle.std.specs.Prelude.{ℕ, ◌≡◌, ◌≤◌, ◌-◌, ◌++◌, List, length, replicate}
use Rattle.std.specs.Vec.{vec_capacity}
use Rattle.mm_types.specs.declared.area.Record.{Record}
use Rattle.area_tree.specs.declared.records.Records.TheInside.{Inside}
use Rattle.area_tree.specs.AreaTrees.{no_area}

-- the records that were written, and no area for each slot after them
abbrev pub padded_records : ℕ → List Record → List Record
padded_records slots written = written ++ replicate (slots - length written) no_area

-- the records that the fields are
abbrev pub records_of : Inside → List Record
records_of fields = padded_records fields.slots fields.shown.items

-- there is room for a record for each slot and for no more, and no more are written
pub record AreKept (fields : Inside) : Type 0 where
  pub few : length fields.shown.items ≤ fields.slots
  pub room : vec_capacity fields.shown ≡ fields.slots

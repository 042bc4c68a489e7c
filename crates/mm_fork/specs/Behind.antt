-- What was done behind entries that were made before.
use Rattle.std.specs.Prelude.{ℕ, ◌+◌, ◌-◌, List, map}
use Rattle.mm_types.specs.declared.call.Seen.{Seen}
use Rattle.mm_types.specs.declared.call.Seen.TheVariants as reads
use Rattle.history.specs.declared.items.Item.{Item}

-- an item behind so many entries more
abbrev pub shifted : ℕ → Item → Item
shifted count item = record item { version = item.version + count }

-- a read, its version counted from behind so many entries
abbrev pub unshifted : ℕ → Seen → Seen
unshifted count (reads.Fault version page access verdict) = reads.Fault (version - count) page access verdict
unshifted count (reads.Maps version list) = reads.Maps (version - count) list

-- reads of a log, their versions counted from behind so many entries
abbrev pub log_behind : ℕ → List Seen → List Seen
log_behind count log = map (unshifted count) log

-- What callers called, in a journal.
use Rattle.std.specs.Prelude.{Bool, true, false, not, List, filter, map}
use Rattle.mm_types.specs.declared.call.Call.{Call}
use Rattle.mm_types.specs.declared.call.Call.TheVariants.{Mmap, Munmap, Mprotect, Mremap, Touch, Brk, Mseal}
use Rattle.mm_types.specs.declared.call.Entry.{Entry}

-- a call that a fault enters where it grows an area
abbrev pub is_touch : Call → Bool
is_touch (Mmap args) = false
is_touch (Munmap addr len) = false
is_touch (Mprotect addr len prot) = false
is_touch (Mremap old old_len new_len flags new) = false
is_touch (Touch page access) = true
is_touch (Brk addr) = false
is_touch (Mseal addr len flags) = false

-- calls but for touches, in order
abbrev pub without_touches : List Call → List Call
without_touches calls = filter (λ call. not (is_touch call)) calls

-- the calls of entries but for touches, in order
abbrev pub calls_made : List Entry → List Call
calls_made entries = without_touches (map (λ entry. entry.call) entries)

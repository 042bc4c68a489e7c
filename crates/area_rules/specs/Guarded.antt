-- The tests of seals as the code makes them, after a call was planned without them: `step` is the guarded outcome of the tables
-- without their rows of seals.
use Rattle.std.specs.Prelude.{Bool, ◌||◌, not, if◌then◌else◌, List, [], ◌∷◌, is_some}
use Rattle.std.specs.List.{list_any}
use Rattle.mm_types.specs.declared.area.Record.{Record}
use Rattle.mm_types.specs.declared.area.Span.{Span}
use Rattle.mm_types.specs.declared.call.Call.{Call}
use Rattle.mm_types.specs.declared.call.Call.TheVariants.{Mmap, Munmap, Mprotect, Mremap, Touch, Brk, Mseal}
use Rattle.mm_types.specs.declared.call.Errno.TheVariants.{Eperm}
use Rattle.mm_types.specs.declared.call.Reply.{Reply}
use Rattle.mm_types.specs.declared.call.Reply.TheVariants.{Refused}
use Rattle.mm_types.specs.declared.flags.TheConstants.{MAP_FIXED, MREMAP_FIXED}
use Rattle.mm_types.specs.Flags.{has_flag}
use Rattle.mm_types.specs.Rows.{first_row}
use Rattle.area_rules.specs.Tables.{AddressSpace, Outcome, is_refusal}
use Rattle.area_rules.specs.Munmap.{range_of}
use Rattle.area_rules.specs.Mprotect.{protect_request_rows}
use Rattle.area_rules.specs.Seals.{has_sealed}

-- The ranges of a call in which no page may be sealed, where all other tests would answer so: the fixed range of an mmap(2), that
-- of a munmap(2), that of an mprotect(2) whose request is good, and the old range of an mremap(2) with its fixed new one.
unfoldable pub guarded_ranges : Call → Reply → List Span
guarded_ranges (Mmap args) reply = if is_refusal reply || not (has_flag args.flags MAP_FIXED) then [] else range_of args.addr args.len ∷ []
guarded_ranges (Munmap addr len) reply = if is_refusal reply then [] else range_of addr len ∷ []
guarded_ranges (Mprotect addr len prot) reply = if is_some (first_row (protect_request_rows addr len)) then [] else range_of addr len ∷ []
guarded_ranges (Mremap old old_len new_len flags new) reply = if is_refusal reply then []
    else range_of old old_len ∷ (if has_flag flags MREMAP_FIXED then range_of new new_len ∷ [] else [])
guarded_ranges (Touch page access) reply = []
guarded_ranges (Brk addr) reply = []
guarded_ranges (Mseal addr len flags) reply = []

-- whether a call would change sealed pages
unfoldable pub is_sealed_off : List Record → Call → Reply → Bool
is_sealed_off areas call reply = list_any (λ range. has_sealed range areas) (guarded_ranges call reply)

-- the outcome of a call with the seals: one that would change sealed pages is refused and changes nothing
unfoldable pub guarded : AddressSpace → Call → Outcome → Outcome
guarded space call outcome = if is_sealed_off space.areas call outcome.reply then record { space = space; reply = Refused Eperm } else outcome

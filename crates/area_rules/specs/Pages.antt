-- Which pages a call is about, and what they are mapped to after it.
use Rattle.std.specs.Prelude.{ℕ, ◌+◌, ◌-◌, Bool, false, if◌then◌else◌, nat_eq, List, [], ◌∷◌}
use Rattle.std.specs.List.{list_any}
use Rattle.mm_types.specs.declared.area.Span.{Span}
use Rattle.mm_types.specs.declared.call.Call.{Call}
use Rattle.mm_types.specs.declared.call.Call.TheVariants.{Mmap, Munmap, Mprotect, Mremap, Touch, Brk, Mseal}
use Rattle.mm_types.specs.declared.call.MmapArgs.{MmapArgs}
use Rattle.mm_types.specs.declared.call.Reply.{Reply}
use Rattle.mm_types.specs.declared.call.Reply.TheVariants.{Addr}
use Rattle.mm_types.specs.declared.config.Config.{Config}
use Rattle.area_list.specs.Areas.{MappedPage, page_of, has_page}
use Rattle.area_rules.specs.Mprotect.{prefix_of}
use Rattle.area_rules.specs.Brk.{pages_between}
use Rattle.area_rules.specs.Mmap.{is_anonymous, is_shared, grows_down, most_allowed, object_mapped}
use Rattle.area_rules.specs.Munmap.{range_of}
use Rattle.area_rules.specs.Tables.{AddressSpace, is_refusal}

-- the pages from the address of a reply on that a length takes; none where the reply is no address
unfoldable pub replied_range : Reply → ℕ → List Span
replied_range (Addr address) len = range_of address len ∷ []
replied_range _ len = []

-- the pages between a break and the one that a reply says, higher or lower
unfoldable pub replied_break : ℕ → Reply → List Span
replied_break before (Addr address) = pages_between before address ∷ pages_between address before ∷ []
replied_break before _ = []

-- The pages that a call is about, by its reply: those at the address that an mmap(2) answers; the range of a munmap(2) or an
-- mseal(2); that of an mprotect(2) before its stop; the old range of an mremap(2), and those at the address that it answers; the
-- page of a touch; those between the two breaks of a brk(2). A call that is refused is about none, but for an mprotect(2).
unfoldable pub spans_about : AddressSpace → Call → Reply → List Span
spans_about space (Mmap args) reply = replied_range reply args.len
spans_about space (Munmap addr len) reply = if is_refusal reply then [] else range_of addr len ∷ []
spans_about space (Mprotect addr len prot) reply = prefix_of prot (range_of addr len) space.areas ∷ []
spans_about space (Mremap old old_len new_len flags new) reply = if is_refusal reply then []
    else range_of old old_len ∷ replied_range reply new_len
spans_about space (Touch page access) reply = if is_refusal reply then [] else record { lo = page.0; hi = page.0 + 1 } ∷ []
spans_about space (Brk addr) reply = replied_break space.brk reply
spans_about space (Mseal addr len flags) reply = if is_refusal reply then [] else range_of addr len ∷ []

-- whether a call that is answered so is about a page
unfoldable pub is_about : AddressSpace → Call → Reply → ℕ → Bool
is_about space call reply page = list_any (λ span. has_page span page) (spans_about space call reply)

-- what an mmap(2) from a start on maps a page to: what was asked for, and its object from the offset on
unfoldable pub mmap_page : Config → ℕ → MmapArgs → (start page : ℕ) → MappedPage
mmap_page config objects args start page = record {
  attr = record {
    prot = args.prot;
    most = most_allowed config args;
    shared = is_shared args;
    grows = grows_down args;
    sealed = false;
    heap = false;
  };
  object = object_mapped config objects args;
  index = if nat_eq (object_mapped config objects args) 0 then 0
      else (if is_anonymous args then 0 else page_of args.offset) + (page - start);
}

-- a page of the same memory so many pages further on; only an object counts its pages
unfoldable pub runs_on : ℕ → MappedPage → MappedPage
runs_on count mapped = record mapped { index = if nat_eq mapped.object 0 then 0 else mapped.index + count }

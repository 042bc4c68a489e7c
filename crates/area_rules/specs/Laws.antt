-- What the laws of the calls speak of.
use Rattle.std.specs.Prelude.{ℕ, ◌≡◌, ◌+◌, ◌⊎◌, true, false, List, Some, None, IsSomeAnd}
use Rattle.mm_types.specs.declared.area.Span.{Span}
use Rattle.mm_types.specs.declared.area.Record.{Record}
use Rattle.mm_types.specs.declared.call.Call.TheVariants.{Mmap, Brk}
use Rattle.mm_types.specs.declared.call.MmapArgs.{MmapArgs}
use Rattle.mm_types.specs.declared.call.Reply.{Reply}
use Rattle.mm_types.specs.declared.call.Reply.TheVariants.{Addr, Grown}
use Rattle.mm_types.specs.declared.config.Config.{Config}
use Rattle.mm_types.specs.Config.{IsValidConfig}
use Rattle.area_list.specs.Areas.{page_of, has_page, MappedPage, page_map, area_at, IsCanonical}
use Rattle.area_rules.specs.Tables.{AddressSpace, pages_of}
use Rattle.mm_types.specs.Rows.{first_row}
use Rattle.area_rules.specs.Mmap.{is_anonymous, is_shared}
use Rattle.area_rules.specs.declared.mremap_request.MremapArgs.{MremapArgs}
use Rattle.area_rules.specs.Mremap.{moves_to, lengthens, has_room, new_place, mremap_rows}
use Rattle.area_rules.specs.Brk.{heap_attr}
use Rattle.area_rules.specs.Steps.{step}

-- the pages of a moved range that begins at this page
abbrev pub moved_range : MremapArgs → ℕ → Span
moved_range args start = record { lo = start; hi = start + pages_of args.new_len }

-- the page that mremap(2) moves a range to: the fixed one, or the one that is found for a range that grows where it has
-- no room
abbrev pub MovesTo : Config → List Record → MremapArgs → ℕ → Type 0
MovesTo config areas args start = ((moves_to args ≡ true) × (page_of args.new ≡ start))
    ⊎ ((moves_to args ≡ false) × (lengthens args ≡ true) × (has_room config areas args ≡ false)
    × (new_place config areas args ≡ Some start))

-- A move as mremap(2) makes it: of the area that has the first page of the old range, to the page that the range moves
-- to, where no test of the request refuses it.
pub record IsMove (config : Config) (areas : List Record) (area : Record) (args : MremapArgs) (start : ℕ) : Type 0 where
  pub valid : IsValidConfig config
  pub canonical : IsCanonical (page_of config.limit) areas
  pub found : area_at areas (page_of args.old) ≡ Some area
  pub accepted : first_row (mremap_rows config areas args) ≡ None
  pub place : MovesTo config areas args start

-- a mapping of shared anonymous memory that succeeds, at this address
pub record MapsShared (config : Config) (space : AddressSpace) (args : MmapArgs) (address : ℕ) : Type 0 where
  pub anonymous : is_anonymous args ≡ true
  pub shared : is_shared args ≡ true
  pub reply : (step config space (Mmap args)).reply ≡ Addr address

-- the reply of a fault that grew: an area of the list that has the page, and page 0 of its object
pub record IsGrownReply (areas : List Record) (page : ℕ) (reply : Reply) : Type 0 where
  pub area : Record
  pub found : area_at areas page ≡ Some area
  pub answer : reply ≡ Grown area 0

-- what a page of the heap is mapped to: private anonymous memory to read and write
abbrev pub heap_page : MappedPage
heap_page = record { attr = heap_attr; object = 0; index = 0 }

-- the address space after brk(2)
abbrev pub after_brk : Config → AddressSpace → ℕ → AddressSpace
after_brk config space addr = (step config space (Brk addr)).space

-- a page of the span has this
pub record HasPageWith (P : ℕ → Type 0) (span : Span) : Type 0 where
  pub page : ℕ
  pub within : has_page span page ≡ true
  pub holds : P page

-- a page is mapped to sealed memory
abbrev pub IsSealed : List Record → ℕ → Type 0
IsSealed areas page = IsSomeAnd (page_map areas page) (λ mapped. mapped.attr.sealed ≡ true)

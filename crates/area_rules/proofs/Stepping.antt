-- For the law `step_keeps_soundness`: a step keeps all that a step is taken over but the counter's room.
use Rattle.std.proofs.Common.{◌≡◌, ◌<◌, ◌≤◌, ◌+◌, ◌-◌, ◌^◌, inl, inr, ℕ, Bool, true, false, not, ◌&&◌, ◌||◌, if◌then◌else◌, nat_lt, List, [], ◌∷◌, length, map, Option, Some, None, refl, sym, subst, arith}
use Rattle.std.specs.List.{AllByRecursion as Each}
use Rattle.std.specs.Option.{IfSome}
use Rattle.std.proofs.lemmas.Bool.{cond_both}
use Rattle.std.proofs.lemmas.Bool.Decides.{nat_tests}
use Rattle.std.proofs.lemmas.List.Elements.{All-from_recursion, recursion_from_All}
use Rattle.mm_types.specs.declared.area.Access.{Access}
use Rattle.mm_types.specs.declared.area.Attr.{Attr}
use Rattle.mm_types.specs.declared.area.Prot.{Prot}
use Rattle.mm_types.specs.declared.area.Record.{Record}
use Rattle.mm_types.specs.declared.area.Span.{Span}
use Rattle.mm_types.specs.declared.call.Call.{Call}
use Rattle.mm_types.specs.declared.call.Call.TheVariants.{Mmap, Munmap, Mprotect, Mremap, Touch, Brk, Mseal}
use Rattle.mm_types.specs.declared.call.MmapArgs.{MmapArgs}
use Rattle.mm_types.specs.declared.config.Config.{Config}
use Rattle.mm_types.specs.Config.{IsValidConfig}
use Rattle.mm_types.specs.Records.{holds_all}
use Rattle.area_list.specs.Areas.{page_of, area_at, IsCanonical, IsSound}
use Rattle.area_list.specs.Attributes.{attr_after, may_become}
use Rattle.area_list.specs.Changes.{changed_list}
use Rattle.area_list.specs.Laws.{AllMayBecome}
use Rattle.area_list.specs.declared.attributes.AttrChange.{AttrChange}
use Rattle.area_list.specs.declared.attributes.AttrChange.TheVariants.{Protection, Seal}
use Rattle.area_rules.specs.Tables.{AddressSpace, pages_of}
use Rattle.area_rules.specs.Placement.{is_free}
use Rattle.area_rules.specs.Growing.{is_above, grown_to, grown_at, grown_list, AreGrowersPrivate, touch}
use Rattle.area_rules.specs.Mmap.{is_anonymous, is_shared, grows_down, cannot_grow, object_mapped, mapped_list, mmap_done, mmap_unsealed, new_area, objects_after}
use Rattle.area_rules.specs.Munmap.{range_of, munmap_unsealed}
use Rattle.area_rules.specs.Mprotect.{protected_prefix, mprotect_unsealed, prefix_of}
use Rattle.area_rules.specs.declared.mremap_request.MremapArgs.{MremapArgs}
use Rattle.area_rules.specs.Mremap.{mremap_args, carried_area, mremap_unsealed}
use Rattle.area_rules.specs.Brk.{pages_between, heap_area, has_room_above, brk}
use Rattle.area_rules.specs.Mseal.{mseal}
use Rattle.area_rules.specs.Steps.{step_unsealed, step, IsReady}
use Rattle.area_list.proofs.Changed.{changed_canonical, changed_each}
use Rattle.area_list.proofs.Cutting.{cut_canonical, cut_each}
use Rattle.area_list.proofs.Elements.{Each-weaker}
use Rattle.area_list.proofs.Holding.{found_keeps}
use Rattle.area_list.proofs.Order.{IsGood}
use Rattle.area_list.proofs.Putting.{put_canonical, put_each}
use Rattle.area_rules.proofs.Limits.{limit_between}
use Rattle.area_rules.proofs.Guarding.{step_cases}
use Rattle.area_rules.proofs.Cases.{IsMappable, IsGrower, IsRaised, mmap_cases, munmap_cases, mprotect_cases, grower_is, touch_cases, brk_cases, mseal_cases}
use Rattle.area_rules.proofs.Growing.{grown_canonical, grown_length}
use Rattle.area_rules.proofs.NewArea.{IsAccepted, new_area_good, new_area_counted, objects_kept}
use Rattle.area_rules.proofs.ProtectLaws.{prefix_canonical}
use Rattle.area_rules.proofs.RemapLaws.{mremap_both, change_both, change_each, moved_canonical, shrunk_canonical, lengthened_canonical}

-- the list after mmap
mapped_canonical : (config : Config) (space : AddressSpace) (args : MmapArgs) (page : ℕ) → IsReady config space
    → IsMappable config space args page → IsCanonical (page_of config.limit) (mapped_list config space args page)
unfolding mapped_list
mapped_canonical config space args page ready m =
    put_canonical (page_of config.limit) (new_area config space.objects args page) space.areas
    (new_area_good config space.areas space.objects args page ready.valid m.accepted m.found) ready.sound.canonical

-- mmap keeps the list sound
pub mmap_sound : (config : Config) (space : AddressSpace) (args : MmapArgs) → IsReady config space
    → IsSound config (mmap_unsealed config space args).space.areas
unfolding mmap_done
mmap_sound config space args ready =
    mmap_cases (λ o. IsSound config o.space.areas) config space args (λ errno. ready.sound)
    (λ page m. record { canonical = mapped_canonical config space args page ready m; few = m.few })

-- and so does munmap
pub munmap_sound : (config : Config) (space : AddressSpace) (addr len : ℕ) → IsReady config space
    → IsSound config (munmap_unsealed config space addr len).space.areas
munmap_sound config space addr len ready =
    munmap_cases (λ o. IsSound config o.space.areas) config space addr len (λ errno. ready.sound)
    (λ c. record {
      canonical = cut_canonical (page_of config.limit) (range_of addr len) space.areas c.some_pages ready.sound.canonical;
      few = c.few;
    })

-- a range ends where it begins, or later
pub in_order : (addr len : ℕ) → (range_of addr len).lo ≤ (range_of addr len).hi
unfolding range_of
in_order addr len = omega arith

-- and mprotect
pub mprotect_sound : (config : Config) (space : AddressSpace) (addr len : ℕ) (prot : Prot) → IsReady config space
    → IsSound config (mprotect_unsealed config space addr len prot).space.areas
mprotect_sound config space addr len prot ready =
    mprotect_cases (λ o. IsSound config o.space.areas) config space addr len prot (λ reply. ready.sound)
    (λ p. record {
      canonical = prefix_canonical (page_of config.limit) prot (range_of addr len) space.areas (in_order addr len)
          ready.sound.canonical;
      few = p.few;
    })

-- and mremap
pub mremap_sound : (config : Config) (space : AddressSpace) (args : MremapArgs) → IsReady config space
    → IsSound config (mremap_unsealed config space args).space.areas
mremap_sound config space args ready = mremap_both (λ s. IsSound config s.areas) config space args ready.sound
    (λ area change found r e few. record {
      canonical = change_both (IsCanonical (page_of config.limit)) config space.areas area args change
          (λ start moves. moved_canonical config space.areas args area start ready.valid ready.sound.canonical r
          found moves)
          (shrunk_canonical (page_of config.limit) space.areas args ready.sound.canonical)
          (λ more room. lengthened_canonical config space.areas args area ready.valid ready.sound.canonical r found more
          room) e;
      few = few;
    })

-- an area grows into no page below the first
pub grower_above : (config : Config) (areas : List Record) (page : ℕ) (area : Record) → IsValidConfig config
    → IsGrower config areas page area → 1 ≤ page
grower_above config areas page area valid g = omega (arith, valid.min.above_zero, g.low)

-- and a touch
pub touch_sound : (config : Config) (space : AddressSpace) (page : ℕ) (access : Access) → IsReady config space
    → IsSound config (touch config space page access).space.areas
touch_sound config space page access ready =
    touch_cases (λ o. IsSound config o.space.areas) config space page access ready.sound
    (λ area found allowed. let g = grower_is config space.areas page area found in record {
      canonical = grown_canonical (page_of config.limit) page space.areas ready.sound.canonical ready.private
          (grower_above config space.areas page area ready.valid g) g.free;
      few = omega (arith, grown_length page space.areas, ready.sound.few);
    })

-- what the pages that a higher break takes are
pub record HasRoomAbove (config : Config) (space : AddressSpace) (addr : ℕ) : Type 0 where
  pub within : pages_of addr + 1 ≤ page_of config.limit
  pub free : is_free space.areas (pages_of addr + 1 - pages_of space.brk) (pages_of space.brk) ≡ true

-- by the test of the room
pub room_above : (config : Config) (space : AddressSpace) (addr : ℕ) → has_room_above config space addr ≡ true
    → HasRoomAbove config space addr
unfolding has_room_above
room_above config space addr room =
    let tests = room_tests (page_of config.limit) (pages_of addr + 1)
    (is_free space.areas (pages_of addr + 1 - pages_of space.brk) (pages_of space.brk)) room in
    record { within = tests.0; free = tests.1 }
  where
    room_tests : (limit next : ℕ) (free : Bool) → (not (nat_lt limit next) && free) ≡ true → (next ≤ limit) × (free ≡ true)
    room_tests limit next free h = (grind (arith, nat_tests), grind arith)

-- an area of the heap is valid
pub heap_good : (end : ℕ) (span : Span) → span.lo < span.hi → span.hi ≤ end → end ≤ 2 ^ 45 → IsGood end (heap_area span)
unfolding heap_area holds_all
heap_good end span some within low = record {
  valid = record {
    some_pages = some;
    below_end = omega arith;
    allowed = refl;
    anonymous = λ none. (refl, refl);
    backed = λ other. absurd (other refl);
  };
  below_end = within;
}

-- the area of a higher break is valid, and ends at or below the limit
pub raised_good : (config : Config) (space : AddressSpace) (addr : ℕ) → IsValidConfig config → IsRaised config space addr
    → IsGood (page_of config.limit) (heap_area (pages_between space.brk addr))
raised_good config space addr valid r =
    let room = room_above config space addr r.room in
    heap_good (page_of config.limit) (pages_between space.brk addr) r.above (omega (arith, room.within))
    (omega (arith, (limit_between config valid).high))

-- and brk
pub brk_sound : (config : Config) (space : AddressSpace) (addr : ℕ) → IsReady config space
    → IsSound config (brk config space addr).space.areas
brk_sound config space addr ready =
    brk_cases (λ o. IsSound config o.space.areas) config space addr ready.sound (λ same. ready.sound)
    (λ l. record {
      canonical = cut_canonical (page_of config.limit) (pages_between addr space.brk) space.areas l.below
          ready.sound.canonical;
      few = l.few;
    })
    (λ r. record {
      canonical = put_canonical (page_of config.limit) (heap_area (pages_between space.brk addr)) space.areas
          (raised_good config space addr ready.valid r) ready.sound.canonical;
      few = r.few;
    })

-- a seal is allowed everywhere
pub all_may_seal : (span : Span) (areas : List Record) → AllMayBecome Seal span areas
all_may_seal span areas = λ page here. at (area_at areas page)
  where
    at : (found : Option Record) → IfSome found (λ area. may_become Seal area.attr ≡ true)
    at None = tt
    at (Some area) = refl

-- and mseal
pub mseal_sound : (config : Config) (space : AddressSpace) (addr len flags : ℕ) → IsReady config space
    → IsSound config (mseal config space addr len flags).space.areas
mseal_sound config space addr len flags ready =
    mseal_cases (λ o. IsSound config o.space.areas) config space addr len flags (λ errno. ready.sound)
    (λ none. ready.sound)
    (λ s. record {
      canonical = changed_canonical (page_of config.limit) Seal (range_of addr len) space.areas (in_order addr len)
          ready.sound.canonical (all_may_seal (range_of addr len) space.areas);
      few = s.few;
    })

-- each call keeps the list sound, without the seals
pub unsealed_sound : (config : Config) (space : AddressSpace) (call : Call) → IsReady config space
    → IsSound config (step_unsealed config space call).space.areas
unfolding step_unsealed
unsealed_sound config space (Mmap args) ready = mmap_sound config space args ready
unsealed_sound config space (Munmap addr len) ready = munmap_sound config space addr len ready
unsealed_sound config space (Mprotect addr len prot) ready = mprotect_sound config space addr len prot ready
unsealed_sound config space (Mremap old old_len new_len flags new) ready =
    mremap_sound config space (mremap_args old old_len new_len flags new) ready
unsealed_sound config space (Touch page access) ready = touch_sound config space page.0 access ready
unsealed_sound config space (Brk addr) ready = brk_sound config space addr ready
unsealed_sound config space (Mseal addr len flags) ready = mseal_sound config space addr len flags ready

-- what holds of a space, and of the one after a call without seals, holds after the step
pub step_both : (P : AddressSpace → Type 0) (config : Config) (space : AddressSpace) (call : Call) → P space
    → P (step_unsealed config space call).space → P (step config space call).space
step_both P config space call kept done = step_cases config space (λ o. P o.space) call kept (λ left. done)

-- and with them
pub step_sound : (config : Config) (space : AddressSpace) (call : Call) → IsReady config space
    → IsSound config (step config space call).space.areas
step_sound config space call ready =
    step_both (λ s. IsSound config s.areas) config space call ready.sound (unsealed_sound config space call ready)

-- what holds of an area by its attributes and its object
abbrev pub Has : (Attr → ℕ → Type 0) → Record → Type 0
Has P area = P area.attr area.object

-- another protection and a seal keep it
abbrev pub StaysWithChanges : (Attr → ℕ → Type 0) → Type 0
StaysWithChanges P = (change : AttrChange) (attr : Attr) (object : ℕ) → P attr object → P (attr_after change attr) object

module _ (P : Attr → ℕ → Type 0) (stays : StaysWithChanges P) where
  -- mmap keeps it, where its new areas have it
  mmap_each : (config : Config) (space : AddressSpace) (args : MmapArgs)
      → ((page : ℕ) → IsAccepted config args → Has P (new_area config space.objects args page))
      → Each (Has P) space.areas → Each (Has P) (mmap_unsealed config space args).space.areas
  unfolding mmap_done mapped_list
  mmap_each config space args new each =
      mmap_cases (λ o. Each (Has P) o.space.areas) config space args (λ errno. each)
      (λ page m. put_each (Has P) (λ area lo hi p. p) (λ a b p q joins. p) (new_area config space.objects args page)
      space.areas (new page m.accepted) each)

  -- munmap keeps it
  munmap_each : (config : Config) (space : AddressSpace) (addr len : ℕ) → Each (Has P) space.areas
      → Each (Has P) (munmap_unsealed config space addr len).space.areas
  munmap_each config space addr len each =
      munmap_cases (λ o. Each (Has P) o.space.areas) config space addr len (λ errno. each)
      (λ c. cut_each (Has P) (λ area lo hi p. p) (range_of addr len) space.areas each)

  -- new attributes keep it
  changes_each : (change : AttrChange) (span : Span) (areas : List Record) → Each (Has P) areas
      → Each (Has P) (changed_list change span areas)
  changes_each = changed_each (Has P) (λ area lo hi p. p) (λ change area p. stays change area.attr area.object p)
      (λ a b p q joins. p)

  -- mprotect keeps it
  mprotect_each : (config : Config) (space : AddressSpace) (addr len : ℕ) (prot : Prot) → Each (Has P) space.areas
      → Each (Has P) (mprotect_unsealed config space addr len prot).space.areas
  unfolding protected_prefix
  mprotect_each config space addr len prot each =
      mprotect_cases (λ o. Each (Has P) o.space.areas) config space addr len prot (λ reply. each)
      (λ p. changes_each (Protection prot) (prefix_of prot (range_of addr len) space.areas) space.areas each)

  -- mremap keeps it
  mremap_each : (config : Config) (space : AddressSpace) (args : MremapArgs) → Each (Has P) space.areas
      → Each (Has P) (mremap_unsealed config space args).space.areas
  mremap_each config space args each = mremap_both (λ s. Each (Has P) s.areas) config space args each
      (λ area change found r e few. change_each (Has P) (λ area lo hi p. p) carried (λ a b p q joins. p) config
      space.areas area args change each (found_keeps (Has P) space.areas (page_of args.old) area each found) e)
    where
      carried : (area : Record) (from : ℕ) (span : Span) → Has P area → Has P (carried_area area from span)
      carried area from span p = unfold carried_area in p

  -- growth keeps it
  grown_each : (page : ℕ) (areas : List Record) → Each (Has P) areas → Each (Has P) (map (grown_at page) areas)
  grown_each page [] each = tt
  grown_each page (area ∷ areas) each = (
    cond_both (is_above page area) (grown_to page area) area (Has P) (λ above. each.0) (λ other. each.0),
    grown_each page areas each.1,
  )

  -- a touch keeps it
  touch_each : (config : Config) (space : AddressSpace) (page : ℕ) (access : Access) → Each (Has P) space.areas
      → Each (Has P) (touch config space page access).space.areas
  unfolding grown_list
  touch_each config space page access each =
      touch_cases (λ o. Each (Has P) o.space.areas) config space page access each
      (λ area found allowed. grown_each page space.areas each)

  -- brk keeps it, where the areas of the heap have it
  brk_each : (config : Config) (space : AddressSpace) (addr : ℕ) → ((span : Span) → Has P (heap_area span))
      → Each (Has P) space.areas → Each (Has P) (brk config space addr).space.areas
  brk_each config space addr heap each =
      brk_cases (λ o. Each (Has P) o.space.areas) config space addr each (λ same. each)
      (λ l. cut_each (Has P) (λ area lo hi p. p) (pages_between addr space.brk) space.areas each)
      (λ r. put_each (Has P) (λ area lo hi p. p) (λ a b p q joins. p) (heap_area (pages_between space.brk addr))
      space.areas (heap (pages_between space.brk addr)) each)

  -- mseal keeps it
  mseal_each : (config : Config) (space : AddressSpace) (addr len flags : ℕ) → Each (Has P) space.areas
      → Each (Has P) (mseal config space addr len flags).space.areas
  mseal_each config space addr len flags each =
      mseal_cases (λ o. Each (Has P) o.space.areas) config space addr len flags (λ errno. each) (λ none. each)
      (λ s. changes_each Seal (range_of addr len) space.areas each)

  -- so each call keeps it, where mmap's new areas and those of the heap have it
  pub unsealed_each : (config : Config) (space : AddressSpace) (call : Call)
      → ((args : MmapArgs) (page : ℕ) → call ≡ Mmap args → IsAccepted config args
      → Has P (new_area config space.objects args page))
      → ((span : Span) → Has P (heap_area span))
      → Each (Has P) space.areas → Each (Has P) (step_unsealed config space call).space.areas
  unfolding step_unsealed
  unsealed_each config space (Mmap args) new heap each = mmap_each config space args (λ page. new args page refl) each
  unsealed_each config space (Munmap addr len) new heap each = munmap_each config space addr len each
  unsealed_each config space (Mprotect addr len prot) new heap each = mprotect_each config space addr len prot each
  unsealed_each config space (Mremap old old_len new_len flags new_addr) new heap each =
      mremap_each config space (mremap_args old old_len new_len flags new_addr) each
  unsealed_each config space (Touch page access) new heap each = touch_each config space page.0 access each
  unsealed_each config space (Brk addr) new heap each = brk_each config space addr heap each
  unsealed_each config space (Mseal addr len flags) new heap each = mseal_each config space addr len flags each

-- an area's object is numbered up to this
abbrev pub IsCounted : ℕ → Record → Type 0
IsCounted objects area = area.object ≤ objects

-- the objects of all areas are counted
abbrev pub AllCounted : AddressSpace → Type 0
AllCounted space = Each (IsCounted space.objects) space.areas

-- at most one object was numbered since
abbrev pub CountsOn : AddressSpace → AddressSpace → Type 0
CountsOn old new = (old.objects ≤ new.objects) × (new.objects ≤ old.objects + 1)

-- no call but mmap numbers an object
pub others_unsealed : (config : Config) (space : AddressSpace) (call : Call) → ((args : MmapArgs) → call ≡ Mmap args → ⊥)
    → (step_unsealed config space call).space.objects ≡ space.objects
unfolding step_unsealed
others_unsealed config space (Mmap args) other = absurd (other args refl)
others_unsealed config space (Munmap addr len) other =
    munmap_cases (λ o. o.space.objects ≡ space.objects) config space addr len (λ errno. refl) (λ c. refl)
others_unsealed config space (Mprotect addr len prot) other =
    mprotect_cases (λ o. o.space.objects ≡ space.objects) config space addr len prot (λ reply. refl) (λ p. refl)
others_unsealed config space (Mremap old old_len new_len flags new) other =
    mremap_both (λ s. s.objects ≡ space.objects) config space (mremap_args old old_len new_len flags new) refl
    (λ area change found r e few. refl)
others_unsealed config space (Touch page access) other =
    touch_cases (λ o. o.space.objects ≡ space.objects) config space page.0 access refl (λ area found allowed. refl)
others_unsealed config space (Brk addr) other =
    brk_cases (λ o. o.space.objects ≡ space.objects) config space addr refl (λ same. refl) (λ l. refl) (λ r. refl)
others_unsealed config space (Mseal addr len flags) other =
    mseal_cases (λ o. o.space.objects ≡ space.objects) config space addr len flags (λ errno. refl) (λ none. refl)
    (λ s. refl)

-- mmap keeps the objects counted
mmap_counted : (config : Config) (space : AddressSpace) (args : MmapArgs) → AllCounted space
    → length config.files ≤ space.objects → AllCounted (mmap_unsealed config space args).space
unfolding mmap_done mapped_list
mmap_counted config space args counted files = mmap_cases (λ o. AllCounted o.space) config space args (λ errno. counted)
    (λ page m. let Counted : Record → Type 0 = IsCounted (objects_after space.objects args) in
    put_each Counted (λ area lo hi c. c) (λ a b c d joins. c) (new_area config space.objects args page) space.areas
    (new_area_counted config space.objects args page m.accepted files)
    (Each-weaker (IsCounted space.objects) Counted
    (λ area c. omega (arith, c, (objects_kept space.objects args).0)) space.areas counted))

-- the heap has no object
heap_counted : (objects : ℕ) (span : Span) → IsCounted objects (heap_area span)
unfolding heap_area
heap_counted objects span = omega arith

-- all other calls keep the objects counted
others_counted : (config : Config) (space : AddressSpace) (call : Call) → ((args : MmapArgs) → call ≡ Mmap args → ⊥)
    → AllCounted space → AllCounted (step_unsealed config space call).space
others_counted config space call other counted =
    subst (λ objects. Each (IsCounted objects) (step_unsealed config space call).space.areas)
    (sym (others_unsealed config space call other))
    (unsealed_each (λ attr object. object ≤ space.objects) (λ change attr object c. c) config space call
    (λ args page is. absurd (other args is)) (heap_counted space.objects) counted)

-- so each call does, without the seals
pub unsealed_counted : (config : Config) (space : AddressSpace) (call : Call) → AllCounted space
    → length config.files ≤ space.objects → AllCounted (step_unsealed config space call).space
unfolding step_unsealed
unsealed_counted config space (Mmap args) counted files = mmap_counted config space args counted files
unsealed_counted config space (Munmap addr len) counted files =
    others_counted config space (Munmap addr len) (λ args is. cc) counted
unsealed_counted config space (Mprotect addr len prot) counted files =
    others_counted config space (Mprotect addr len prot) (λ args is. cc) counted
unsealed_counted config space (Mremap old old_len new_len flags new) counted files =
    others_counted config space (Mremap old old_len new_len flags new) (λ args is. cc) counted
unsealed_counted config space (Touch page access) counted files =
    others_counted config space (Touch page access) (λ args is. cc) counted
unsealed_counted config space (Brk addr) counted files =
    others_counted config space (Brk addr) (λ args is. cc) counted
unsealed_counted config space (Mseal addr len flags) counted files =
    others_counted config space (Mseal addr len flags) (λ args is. cc) counted

-- and with them
pub step_counted : (config : Config) (space : AddressSpace) (call : Call) → AllCounted space
    → length config.files ≤ space.objects → AllCounted (step config space call).space
step_counted config space call counted files =
    step_both AllCounted config space call counted (unsealed_counted config space call counted files)

-- mmap numbers at most one object
mmap_objects : (config : Config) (space : AddressSpace) (args : MmapArgs)
    → CountsOn space (mmap_unsealed config space args).space
unfolding mmap_done
mmap_objects config space args =
    mmap_cases (λ o. CountsOn space o.space) config space args (λ errno. omega arith)
    (λ page m. objects_kept space.objects args)

-- all other calls number none
others_objects : (config : Config) (space : AddressSpace) (call : Call) → ((args : MmapArgs) → call ≡ Mmap args → ⊥)
    → CountsOn space (step_unsealed config space call).space
others_objects config space call other =
    let same = others_unsealed config space call other in (omega (arith, same), omega (arith, same))

-- so each call numbers at most one, without the seals
unsealed_objects : (config : Config) (space : AddressSpace) (call : Call)
    → CountsOn space (step_unsealed config space call).space
unfolding step_unsealed
unsealed_objects config space (Mmap args) = mmap_objects config space args
unsealed_objects config space (Munmap addr len) = others_objects config space (Munmap addr len) (λ args is. cc)
unsealed_objects config space (Mprotect addr len prot) =
    others_objects config space (Mprotect addr len prot) (λ args is. cc)
unsealed_objects config space (Mremap old old_len new_len flags new) =
    others_objects config space (Mremap old old_len new_len flags new) (λ args is. cc)
unsealed_objects config space (Touch page access) = others_objects config space (Touch page access) (λ args is. cc)
unsealed_objects config space (Brk addr) = others_objects config space (Brk addr) (λ args is. cc)
unsealed_objects config space (Mseal addr len flags) = others_objects config space (Mseal addr len flags) (λ args is. cc)

-- and with them
pub step_objects : (config : Config) (space : AddressSpace) (call : Call)
    → CountsOn space (step config space call).space
step_objects config space call =
    step_both (CountsOn space) config space call (omega arith, omega arith) (unsealed_objects config space call)

-- what may grow is private anonymous memory
abbrev IsPrivate : Attr → ℕ → Type 0
IsPrivate attr object = attr.grows ≡ true → object ≡ 0

-- new attributes keep it
private_stays : StaysWithChanges IsPrivate
private_stays (Protection prot) attr object p = p
private_stays Seal attr object p = p

-- a new area that may grow is private anonymous memory
new_private : (config : Config) (objects : ℕ) (args : MmapArgs) (page : ℕ) → IsAccepted config args
    → Has IsPrivate (new_area config objects args page)
unfolding new_area object_mapped cannot_grow
new_private config objects args page accepted =
    tests (grows_down args) (is_anonymous args) (is_shared args) (objects + 1) _ (unfold cannot_grow in accepted.growing)
  where
    tests : (grows anonymous shared : Bool) (next other : ℕ) → (grows && (not anonymous || shared)) ≡ false → grows ≡ true
        → (if anonymous then (if shared then next else 0) else other) ≡ 0
    tests grows anonymous shared next other h does = grind arith

-- the heap does not grow downwards
heap_private : (span : Span) → Has IsPrivate (heap_area span)
unfolding heap_area
heap_private span = λ grows. refl

-- a step keeps what may grow private
pub step_private : (config : Config) (space : AddressSpace) (call : Call) → AreGrowersPrivate space.areas
    → AreGrowersPrivate (step config space call).space.areas
step_private config space call private =
    step_both (λ s. AreGrowersPrivate s.areas) config space call private
    (All-from_recursion (Has IsPrivate) (step_unsealed config space call).space.areas
    (unsealed_each IsPrivate private_stays config space call
    (λ args page is accepted. new_private config space.objects args page accepted) heap_private
    (recursion_from_All (Has IsPrivate) space.areas private)))

-- no call but brk moves the break
pub others_keep_break : (config : Config) (space : AddressSpace) (call : Call) → ((addr : ℕ) → call ≡ Brk addr → ⊥)
    → (step_unsealed config space call).space.brk ≡ space.brk
unfolding step_unsealed mmap_done
others_keep_break config space (Mmap args) other =
    mmap_cases (λ o. o.space.brk ≡ space.brk) config space args (λ errno. refl) (λ page m. refl)
others_keep_break config space (Munmap addr len) other =
    munmap_cases (λ o. o.space.brk ≡ space.brk) config space addr len (λ errno. refl) (λ c. refl)
others_keep_break config space (Mprotect addr len prot) other =
    mprotect_cases (λ o. o.space.brk ≡ space.brk) config space addr len prot (λ reply. refl) (λ p. refl)
others_keep_break config space (Mremap old old_len new_len flags new) other =
    mremap_both (λ s. s.brk ≡ space.brk) config space (mremap_args old old_len new_len flags new) refl
    (λ area change found r e few. refl)
others_keep_break config space (Touch page access) other =
    touch_cases (λ o. o.space.brk ≡ space.brk) config space page.0 access refl (λ area found allowed. refl)
others_keep_break config space (Brk addr) other = absurd (other addr refl)
others_keep_break config space (Mseal addr len flags) other =
    mseal_cases (λ o. o.space.brk ≡ space.brk) config space addr len flags (λ errno. refl) (λ none. refl) (λ s. refl)

-- the same with the seals
pub step_keeps_break : (config : Config) (space : AddressSpace) (call : Call) → ((addr : ℕ) → call ≡ Brk addr → ⊥)
    → (step config space call).space.brk ≡ space.brk
step_keeps_break config space call other =
    step_both (λ s. s.brk ≡ space.brk) config space call refl (others_keep_break config space call other)

-- an address whose pages end at or below the limit's is at or below it
below_limit : (config : Config) (addr : ℕ) → IsValidConfig config → pages_of addr ≤ page_of config.limit
    → addr ≤ config.limit
unfolding pages_of
below_limit config addr valid within = omega arith

-- and so the other way round
pages_below_limit : (config : Config) (addr : ℕ) → IsValidConfig config → addr ≤ config.limit
    → pages_of addr ≤ page_of config.limit
unfolding pages_of
pages_below_limit config addr valid within = elim valid.limit [
  | inl narrow ↦ omega arith
  | inr wide ↦ omega arith
]

-- brk keeps the break at or below the limit
pub brk_bounded : (config : Config) (space : AddressSpace) (addr : ℕ) → IsReady config space
    → (brk config space addr).space.brk ≤ config.limit
brk_bounded config space addr ready =
    let now = pages_below_limit config space.brk ready.valid ready.bounded in
    brk_cases (λ o. o.space.brk ≤ config.limit) config space addr ready.bounded
    (λ same. below_limit config addr ready.valid (omega (arith, same, now)))
    (λ l. below_limit config addr ready.valid (omega (arith, l.below, now)))
    (λ r. below_limit config addr ready.valid (omega (arith, (room_above config space addr r.room).within)))

-- so each call does, without the seals
unsealed_bounded : (config : Config) (space : AddressSpace) (call : Call) → IsReady config space
    → (step_unsealed config space call).space.brk ≤ config.limit
unfolding step_unsealed
unsealed_bounded config space (Brk addr) ready = brk_bounded config space addr ready
unsealed_bounded config space (Mmap args) ready = omega (arith, others_keep_break config space (Mmap args) (λ addr is. cc), ready.bounded)
unsealed_bounded config space (Munmap addr len) ready = omega (arith, others_keep_break config space (Munmap addr len) (λ addr is. cc), ready.bounded)
unsealed_bounded config space (Mprotect addr len prot) ready =
    omega (arith, others_keep_break config space (Mprotect addr len prot) (λ addr is. cc), ready.bounded)
unsealed_bounded config space (Mremap old old_len new_len flags new) ready =
    omega (arith, others_keep_break config space (Mremap old old_len new_len flags new) (λ addr is. cc), ready.bounded)
unsealed_bounded config space (Touch page access) ready =
    omega (arith, others_keep_break config space (Touch page access) (λ addr is. cc), ready.bounded)
unsealed_bounded config space (Mseal addr len flags) ready =
    omega (arith, others_keep_break config space (Mseal addr len flags) (λ addr is. cc), ready.bounded)

-- and with them
pub step_bounded : (config : Config) (space : AddressSpace) (call : Call) → IsReady config space
    → (step config space call).space.brk ≤ config.limit
step_bounded config space call ready =
    step_both (λ s. s.brk ≤ config.limit) config space call ready.bounded (unsealed_bounded config space call ready)

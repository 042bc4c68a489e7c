-- For `retraced_traces_make_the_text`: the mmap(2) of an area behind others maps exactly it.
use Rattle.std.proofs.Common.{◌≡◌, ◌≢◌, ◌≤◌, ◌<◌, ◌+◌, ◌-◌, ◌*◌, ◌%◌, ◌^◌, ℕ, pos, zero, suc, Bool, true, false, not, ◌&&◌, ◌||◌, if◌then◌else◌, nat_lt, nat_eq, bit_or, List, [], ◌∷◌, ◌++◌, length, Some, None, is_none, option_map, refl, ap, ◌∙◌, sym, arith, lit≤}
use Rattle.std.specs.Option.{option_map_or}
use Rattle.std.specs.List.{list_any, AllByRecursion as Each}
use Rattle.std.proofs.lemmas.Bool.{cond_both, cond-true, cond-false, le-ltb, eq-eqb, ne_eqb, eqb-true}
use Rattle.mm_types.specs.declared.area.Prot.{Prot}
use Rattle.mm_types.specs.declared.area.Span.{Span}
use Rattle.mm_types.specs.declared.area.Record.{Record}
use Rattle.mm_types.specs.declared.call.Call.TheVariants.{Mmap}
use Rattle.mm_types.specs.declared.call.Reply.TheVariants.{Addr, Refused}
use Rattle.mm_types.specs.declared.call.Errno.TheVariants.{Eperm}
use Rattle.mm_types.specs.declared.config.TheConstants.{PAGE_SIZE, ADDRESS_LIMIT, DEFAULT_MIN}
use Rattle.mm_types.specs.declared.files.FileRow.{FileRow}
use Rattle.mm_types.specs.declared.flags.TheConstants.{MAP_SHARED, MAP_PRIVATE, MAP_FIXED, MAP_ANONYMOUS, MAP_GROWSDOWN, MAP_FIXED_NOREPLACE}
use Rattle.mm_types.specs.Config.{default_config}
use Rattle.mm_types.specs.Flags.{has_flag}
use Rattle.mm_types.specs.Records.{IsValid}
use Rattle.mm_types.specs.Rows.{first_row}
use Rattle.flag_table.specs.Printing.{printed}
use Rattle.flag_table.specs.Tables.{HasRows, prot_flags, map_flags}
use Rattle.area_list.specs.Areas.{page_of, overlap, IsSound}
use Rattle.area_list.specs.Changes.{put}
use Rattle.area_rules.specs.Placement.{is_free}
use Rattle.area_rules.specs.Tables.{Outcome, is_aligned, pages_of}
use Rattle.area_rules.specs.Mmap.{file_of, file_place, object_of, lacks_file, overflows_offset, has_no_sharing, cannot_grow, denies, is_denied, is_fixed, is_taken, start_of, most_of, most_allowed, object_mapped, objects_after, new_area, mapped_list, mmap_rows, mmap_done, mmap_unsealed}
use Rattle.area_rules.specs.Munmap.{range_of}
use Rattle.area_rules.specs.Guarded.{guarded_ranges, is_sealed_off, guarded}
use Rattle.area_rules.specs.Seals.{has_sealed}
use Rattle.area_rules.specs.Steps.{step_unsealed, step}
use Rattle.area_rules.proofs.Guarding.{step_guarded}
use Rattle.area_rules.proofs.MmapTable.{mmap_maps}
use Rattle.trace_reader.specs.LineTexts.{bits_of_prot}
use Rattle.maps_read.specs.RetraceLaws.{space_with}
use Rattle.maps_read.specs.Mappings.{descriptor_of, mapping_flags, mapping_of}
use Rattle.maps_read.proofs.OpenFiles.{AreOpenFrom, IsFound, find_open, position_open}
use Rattle.maps_read.proofs.PutLast.{put_last}

-- ---- flags

-- what flags say
pub record SayFlags (shared none : Bool) (flags : ℕ) : Type 0 where
  pub anonymous : has_flag flags MAP_ANONYMOUS ≡ none
  pub sharing : has_flag flags MAP_SHARED ≡ shared
  pub private : has_flag flags MAP_PRIVATE ≡ not shared
  pub fixed : has_flag flags MAP_FIXED ≡ true
  pub replaces : has_flag flags MAP_FIXED_NOREPLACE ≡ false
  pub stays : has_flag flags MAP_GROWSDOWN ≡ false
  pub rows : HasRows map_flags flags
  pub small : flags < 2 ^ 32
  pub short : length (printed map_flags flags) ≤ 35

flags_by : (shared none : Bool)
    → SayFlags shared none (bit_or (if shared then MAP_SHARED else MAP_PRIVATE) (bit_or MAP_FIXED (if none then MAP_ANONYMOUS else 0)))
unfolding map_flags printed
flags_by true true = record { anonymous = refl; sharing = refl; private = refl; fixed = refl; replaces = refl; stays = refl; rows = refl; small = omega arith; short = lit≤ tt }
flags_by true false = record { anonymous = refl; sharing = refl; private = refl; fixed = refl; replaces = refl; stays = refl; rows = refl; small = omega arith; short = lit≤ tt }
flags_by false true = record { anonymous = refl; sharing = refl; private = refl; fixed = refl; replaces = refl; stays = refl; rows = refl; small = omega arith; short = lit≤ tt }
flags_by false false = record { anonymous = refl; sharing = refl; private = refl; fixed = refl; replaces = refl; stays = refl; rows = refl; small = omega arith; short = lit≤ tt }

pub flags_say : (area : Record) → SayFlags area.attr.shared (nat_eq area.object 0) (mapping_flags area)
unfolding mapping_flags
flags_say area = flags_by area.attr.shared (nat_eq area.object 0)

-- the accesses that a protection allows have names
prot_rows_by : (r w x : Bool) → HasRows prot_flags (bits_of_prot (record { read = r; write = w; exec = x }))
unfolding prot_flags
prot_rows_by true true true = refl
prot_rows_by true true false = refl
prot_rows_by true false true = refl
prot_rows_by true false false = refl
prot_rows_by false true true = refl
prot_rows_by false true false = refl
prot_rows_by false false true = refl
prot_rows_by false false false = refl

pub prot_rows : (p : Prot) → HasRows prot_flags (bits_of_prot p)
prot_rows p = prot_rows_by p.read p.write p.exec

-- ---- an area that a trace maps

-- the attributes and the object of an area are those that an mmap(2) of one of these files, or of none, gives
pub record IsMapped (files : List FileRow) (area : Record) : Type 0 where
  pub most : area.attr.most ≡ record { read = true; write = true; exec = true }
  pub stays : area.attr.grows ≡ false
  pub unsealed : area.attr.sealed ≡ false
  pub no_heap : area.attr.heap ≡ false
  pub object : area.object ≤ length files
  pub above : DEFAULT_MIN ≤ PAGE_SIZE * area.span.lo

not_and : (none other : Bool) → (none ≡ false → other ≡ false) → (not none && other) ≡ false
not_and true other h = refl
not_and false other h = h refl

page_address : (page : ℕ) → page_of (PAGE_SIZE * page) ≡ page
page_address page = omega arith

aligned : (page : ℕ) → is_aligned (PAGE_SIZE * page) ≡ true
aligned page = eq-eqb (PAGE_SIZE * page % PAGE_SIZE) 0 (omega arith)

whole_pages : (count : ℕ) → pages_of (PAGE_SIZE * count) ≡ count
unfolding pages_of
whole_pages count = omega arith

descriptor_some : (object : ℕ) → nat_eq object 0 ≡ false → descriptor_of object ≡ pos (2 + object)
unfolding descriptor_of
descriptor_some zero some = absurd cc
descriptor_some (suc place) some = ap pos (let e : 3 + place ≡ 2 + suc place = omega arith in e)

no_write_denied : (read write shared wanted : Bool) → read ≡ true → write ≡ true → (not read || (shared && (wanted && not write))) ≡ false
no_write_denied true true true true r w = refl
no_write_denied true true true false r w = refl
no_write_denied true true false wanted r w = refl
no_write_denied true false shared wanted r w = absurd cc
no_write_denied false write shared wanted r w = absurd cc

sharing_named : (shared private : Bool) → private ≡ not shared → (if shared then private else not private) ≡ false
sharing_named true private e = e
sharing_named false private e = ap not e

most_written : (shared write : Bool) → write ≡ true → (not shared || write) ≡ true
most_written true write e = e
most_written false write e = refl

none_sealed : (span : Span) (areas : List Record) → Each (λ area. area.attr.sealed ≡ false) areas → has_sealed span areas ≡ false
unfolding has_sealed
none_sealed span [] are = refl
none_sealed span (area ∷ areas) are =
    ap (λ (sealed : Bool). (sealed && overlap area.span span) || list_any (λ other. other.attr.sealed && overlap other.span span) areas) are.0
    ∙ none_sealed span areas are.1

-- ---- one area, in the default configuration with files

module _ (files : List FileRow) (opened : AreOpenFrom 3 files) (areas : List Record) (area : Record) (valid : IsValid area)
    (mapped : IsMapped files area) (within : area.span.hi ≤ page_of ADDRESS_LIMIT) where
  abbrev none : Bool
  none = nat_eq area.object 0

  abbrev count : ℕ
  count = area.span.hi - area.span.lo

  flags : SayFlags area.attr.shared none (mapping_flags area)
  flags = flags_say area

  -- the file of an object
  file_found : none ≡ false → IsFound files (2 + area.object) (area.object - 1)
  file_found some = let few = mapped.object in let above : area.object ≢ 0 = λ is. absurd (cc (eq-eqb area.object 0 is, some)) in
      find_open files 3 (area.object - 1) (2 + area.object) (omega arith) opened (omega arith)

  file_is : (some : none ≡ false) → file_of files (mapping_of area).fd ≡ Some (file_found some).file
  unfolding mapping_of
  file_is some = ap (file_of files) (descriptor_some area.object some) ∙ (file_found some).found

  no_lack : lacks_file (default_config files) (mapping_of area) ≡ false
  unfolding lacks_file mapping_of default_config
  no_lack = ap (λ (b : Bool). not b && is_none (file_of files (descriptor_of area.object))) flags.anonymous
      ∙ not_and none (is_none (file_of files (descriptor_of area.object))) (λ some. ap is_none (file_is some))

  no_overflow : overflows_offset (mapping_of area) ≡ false
  unfolding overflows_offset mapping_of
  no_overflow = ap (λ (b : Bool). not b && nat_lt (2 ^ 63 - 1) (PAGE_SIZE * area.offset + PAGE_SIZE * pages_of (PAGE_SIZE * count))) flags.anonymous
      ∙ not_and none (nat_lt (2 ^ 63 - 1) (PAGE_SIZE * area.offset + PAGE_SIZE * pages_of (PAGE_SIZE * count)))
      (λ some. let above : area.object ≢ 0 = λ is. absurd (cc (eq-eqb area.object 0 is, some)) in
      let backed = valid.backed above in let pages = whole_pages count in
      le-ltb (2 ^ 63 - 1) (PAGE_SIZE * area.offset + PAGE_SIZE * pages_of (PAGE_SIZE * count)) (omega arith))

  no_denial : is_denied (default_config files) (mapping_of area) ≡ false
  unfolding is_denied mapping_of default_config
  no_denial = ap (λ (b : Bool). not b && option_map_or (denies (mapping_of area)) (file_of files (descriptor_of area.object)) false) flags.anonymous
      ∙ not_and none (option_map_or (denies (mapping_of area)) (file_of files (descriptor_of area.object)) false)
      (λ some. let found = file_found some in
      ap (λ o. option_map_or (denies (mapping_of area)) o false) (file_is some)
      ∙ no_write_denied found.file.read found.file.write (has_flag (mapping_flags area) MAP_SHARED) area.attr.prot.write found.opened.read found.opened.write)

  is_placed : is_fixed (mapping_of area) ≡ true
  unfolding is_fixed mapping_of
  is_placed = ap (λ (b : Bool). b || has_flag (mapping_flags area) MAP_FIXED_NOREPLACE) flags.fixed

  not_taken : is_taken areas (mapping_of area) ≡ false
  unfolding is_taken mapping_of
  not_taken = ap (λ (b : Bool). b && not (is_free areas (pages_of (PAGE_SIZE * count)) (page_of (PAGE_SIZE * area.span.lo)))) flags.replaces

  -- no test refuses
  no_row : first_row (mmap_rows (default_config files) areas (mapping_of area)) ≡ None
  unfolding mmap_rows mapping_of default_config has_no_sharing cannot_grow
  no_row =
      let some = valid.some_pages in
      let below = mapped.above in
      let pages = whole_pages count in
      let in_offset : is_aligned (PAGE_SIZE * area.offset) ≡ true = aligned area.offset in
      let in_address : is_aligned (PAGE_SIZE * area.span.lo) ≡ true = aligned area.span.lo in
      let long : nat_eq (PAGE_SIZE * count) 0 ≡ false = ne_eqb (PAGE_SIZE * count) 0 (λ e. omega arith) in
      let short : nat_lt (page_of ADDRESS_LIMIT) (pages_of (PAGE_SIZE * count)) ≡ false =
      le-ltb (page_of ADDRESS_LIMIT) (pages_of (PAGE_SIZE * count)) (omega arith) in
      let shares : (if has_flag (mapping_flags area) MAP_SHARED then has_flag (mapping_flags area) MAP_PRIVATE else not (has_flag (mapping_flags area) MAP_PRIVATE)) ≡ false =
      sharing_named (has_flag (mapping_flags area) MAP_SHARED) (has_flag (mapping_flags area) MAP_PRIVATE) (flags.private ∙ ap not (sym flags.sharing)) in
      let high : nat_lt (PAGE_SIZE * area.span.lo) DEFAULT_MIN ≡ false = le-ltb (PAGE_SIZE * area.span.lo) DEFAULT_MIN below in
      let low : nat_lt ADDRESS_LIMIT (PAGE_SIZE * area.span.lo + PAGE_SIZE * pages_of (PAGE_SIZE * count)) ≡ false =
      le-ltb ADDRESS_LIMIT (PAGE_SIZE * area.span.lo + PAGE_SIZE * pages_of (PAGE_SIZE * count)) (omega arith) in
      rw (in_offset, no_lack, long, short, no_overflow, shares, flags.stays, no_denial, is_placed, in_address, high, low, not_taken) refl

  -- the new area is this one
  same_most : most_allowed (default_config files) (mapping_of area) ≡ area.attr.most
  unfolding most_allowed mapping_of default_config
  same_most = cond_both (has_flag (mapping_flags area) MAP_ANONYMOUS) (record { read = true; write = true; exec = true })
      (option_map_or (most_of (has_flag (mapping_flags area) MAP_SHARED)) (file_of files (descriptor_of area.object)) (record { read = true; write = true; exec = true }))
      (λ (p : Prot). p ≡ area.attr.most) (λ _. sym mapped.most)
      (λ some. let is : none ≡ false = sym flags.anonymous ∙ some in let found = file_found is in
      ap (λ o. option_map_or (most_of (has_flag (mapping_flags area) MAP_SHARED)) o (record { read = true; write = true; exec = true })) (file_is is)
      ∙ ap (λ (b : Bool). record { read = true; write = b; exec = true }) (most_written (has_flag (mapping_flags area) MAP_SHARED) found.file.write found.opened.write)
      ∙ sym mapped.most)

  -- private memory where no file is mapped
  no_sharing : none ≡ true → has_flag (mapping_flags area) MAP_SHARED ≡ false
  no_sharing is = flags.sharing ∙ (valid.anonymous (eqb-true area.object 0 is)).1

  same_object : object_mapped (default_config files) (length files) (mapping_of area) ≡ area.object
  unfolding object_mapped mapping_of default_config object_of file_place
  same_object = cond_both (has_flag (mapping_flags area) MAP_ANONYMOUS) (if has_flag (mapping_flags area) MAP_SHARED then length files + 1 else 0)
      (option_map_or (λ object. object) (object_of files (descriptor_of area.object)) 0) (λ (n : ℕ). n ≡ area.object)
      (λ is. let yes : none ≡ true = sym flags.anonymous ∙ is in
      cond-false (has_flag (mapping_flags area) MAP_SHARED) (length files + 1) 0 (no_sharing yes) ∙ sym (eqb-true area.object 0 yes))
      (λ some. let is : none ≡ false = sym flags.anonymous ∙ some in
      let few = mapped.object in
      let above : area.object ≢ 0 = λ zero. absurd (cc (eq-eqb area.object 0 zero, is)) in
      let e : area.object - 1 + 1 ≡ area.object = omega arith in
      ap (λ fd. option_map_or (λ object. object) (object_of files fd) 0) (descriptor_some area.object is)
      ∙ ap (λ o. option_map_or (λ object. object) (option_map (λ place. place + 1) o) 0)
      (position_open files (2 + area.object) (area.object - 1) (file_found is) (omega arith))
      ∙ e)

  same_offset : (if has_flag (mapping_flags area) MAP_ANONYMOUS then 0 else page_of (PAGE_SIZE * area.offset)) ≡ area.offset
  same_offset = cond_both (has_flag (mapping_flags area) MAP_ANONYMOUS) 0 (page_of (PAGE_SIZE * area.offset)) (λ (n : ℕ). n ≡ area.offset)
      (λ is. sym (valid.anonymous (eqb-true area.object 0 (sym flags.anonymous ∙ is))).0) (λ _. page_address area.offset)

  same_area : new_area (default_config files) (length files) (mapping_of area) area.span.lo ≡ area
  unfolding new_area mapping_of
  same_area =
      let some = valid.some_pages in
      let end : area.span.lo + pages_of (PAGE_SIZE * count) ≡ area.span.hi = omega (arith, whole_pages count) in
      λ i. record {
        span = record { lo = area.span.lo; hi = end i };
        attr = record {
          prot = area.attr.prot;
          most = same_most i;
          shared = flags.sharing i;
          grows = (flags.stays ∙ sym mapped.stays) i;
          sealed = sym mapped.unsealed i;
          heap = sym mapped.no_heap i;
        };
        object = same_object i;
        offset = same_offset i;
      }

  -- it is put behind the others
  same_list : IsSound (default_config files) (areas ++ area ∷ [])
      → mapped_list (default_config files) (space_with files areas) (mapping_of area) area.span.lo ≡ areas ++ area ∷ []
  unfolding mapped_list default_config
  same_list sound = ap (λ (new : Record). put new areas) same_area ∙ put_last _ areas area sound.canonical

  no_objects : objects_after (length files) (mapping_of area) ≡ length files
  unfolding objects_after mapping_of
  no_objects = cond_both (has_flag (mapping_flags area) MAP_ANONYMOUS && has_flag (mapping_flags area) MAP_SHARED) (length files + 1) (length files)
      (λ (n : ℕ). n ≡ length files) (λ both. absurd (not_both (has_flag (mapping_flags area) MAP_ANONYMOUS) (has_flag (mapping_flags area) MAP_SHARED)
      (λ is. no_sharing (sym flags.anonymous ∙ is)) both)) (λ _. refl)
    where
      not_both : (a b : Bool) → (a ≡ true → b ≡ false) → (a && b) ≡ true → ⊥
      not_both true b h e = absurd (cc (h refl, e))
      not_both false b h e = absurd (cc e)

  starts : start_of (default_config files) areas (mapping_of area) ≡ Some area.span.lo
  unfolding start_of mapping_of
  starts = cond-true (is_fixed (mapping_of area)) (Some (page_of (PAGE_SIZE * area.span.lo))) _ is_placed ∙ ap Some (page_address area.span.lo)

  few : IsSound (default_config files) (areas ++ area ∷ [])
      → nat_lt (default_config files).areas (length (mapped_list (default_config files) (space_with files areas) (mapping_of area) area.span.lo)) ≡ false
  few sound = let short = sound.few in
      ap (λ (list : List Record). nat_lt (default_config files).areas (length list)) (same_list sound)
      ∙ le-ltb (default_config files).areas (length (areas ++ area ∷ [])) short

  -- the outcome, without the tests of seals
  maps : IsSound (default_config files) (areas ++ area ∷ []) → mmap_unsealed (default_config files) (space_with files areas) (mapping_of area)
      ≡ record { space = space_with files (areas ++ area ∷ []); reply = Addr (PAGE_SIZE * area.span.lo) }
  unfolding mmap_done default_config
  maps sound =
      mmap_maps (default_config files) (space_with files areas) (mapping_of area) area.span.lo no_row starts (few sound)
      ∙ (λ i. record {
        space = record { areas = same_list sound i; objects = no_objects i; brk = (default_config files).heap };
        reply = Addr (PAGE_SIZE * area.span.lo);
      })

  not_sealed : Each (λ other. other.attr.sealed ≡ false) areas
      → is_sealed_off areas (Mmap (mapping_of area)) (Addr (PAGE_SIZE * area.span.lo)) ≡ false
  unfolding is_sealed_off guarded_ranges mapping_of
  not_sealed unsealed = by_flag (has_flag (mapping_flags area) MAP_FIXED)
    where
      by_flag : (fixed : Bool) → list_any (λ range. has_sealed range areas) (if not fixed then [] else range_of (PAGE_SIZE * area.span.lo) (PAGE_SIZE * (area.span.hi - area.span.lo)) ∷ []) ≡ false
      by_flag true = ap (λ (b : Bool). b || false) (none_sealed (range_of (PAGE_SIZE * area.span.lo) (PAGE_SIZE * (area.span.hi - area.span.lo))) areas unsealed)
      by_flag false = refl

  pub step_maps : IsSound (default_config files) (areas ++ area ∷ []) → Each (λ other. other.attr.sealed ≡ false) areas
      → step (default_config files) (space_with files areas) (Mmap (mapping_of area))
      ≡ record { space = space_with files (areas ++ area ∷ []); reply = Addr (PAGE_SIZE * area.span.lo) }
  unfolding step_unsealed guarded
  step_maps sound unsealed =
      let after : Outcome = record { space = space_with files (areas ++ area ∷ []); reply = Addr (PAGE_SIZE * area.span.lo) } in
      let refused : Outcome = record { space = space_with files areas; reply = Refused Eperm } in
      step_guarded (default_config files) (space_with files areas) (Mmap (mapping_of area))
      ∙ ap (λ (o : Outcome). if is_sealed_off areas (Mmap (mapping_of area)) o.reply then refused else o) (maps sound)
      ∙ cond-false (is_sealed_off areas (Mmap (mapping_of area)) (Addr (PAGE_SIZE * area.span.lo))) refused after (not_sealed unsealed)

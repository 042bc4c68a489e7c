-- For the laws of the step: what holds of each answer that changes nothing, and of the outcome where the tests of a call let it pass, holds of its outcome.
use Rattle.std.proofs.Common.{◌≡◌, ◌<◌, ◌≤◌, ◌-◌, ℕ, Bool, true, false, ◌&&◌, ◌||◌, if◌then◌else◌, nat_eq, nat_le, nat_lt, List, [], ◌∷◌, ◌++◌, length, find, Option, Some, None, refl, arith}
use Rattle.std.specs.Option.{option_map_or}
use Rattle.std.proofs.lemmas.Bool.{cond_both, and_parts, leb-true, ltb-true, ltb-false, eqb-true, not-false}
use Rattle.std.proofs.lemmas.Bool.Decides.{nat_tests}
use Rattle.mm_types.specs.declared.area.Access.{Access}
use Rattle.mm_types.specs.declared.area.Prot.{Prot}
use Rattle.mm_types.specs.declared.area.Record.{Record}
use Rattle.mm_types.specs.declared.call.Errno.{Errno}
use Rattle.mm_types.specs.declared.call.Errno.TheVariants.{Enomem, Efault, Einval}
use Rattle.mm_types.specs.declared.call.MmapArgs.{MmapArgs}
use Rattle.mm_types.specs.declared.call.Reply.{Reply}
use Rattle.mm_types.specs.declared.call.Reply.TheVariants.{Refused, Zero}
use Rattle.mm_types.specs.declared.config.Config.{Config}
use Rattle.mm_types.specs.Rows.{first_row}
use Rattle.area_list.specs.Areas.{page_of}
use Rattle.area_list.specs.Changes.{cut, sealed_list}
use Rattle.area_rules.specs.Accesses.{permits}
use Rattle.area_rules.specs.Placement.{is_free}
use Rattle.area_rules.specs.Tables.{AddressSpace, Outcome, unless_answered, pages_of, has_too_many_areas}
use Rattle.area_rules.specs.Growing.{is_above, grower, grows, grown, touch}
use Rattle.area_rules.specs.Mmap.{start_of, is_taken, mapped_list, mmap_rows, mmap_unsealed_rows, mmap_placed_unsealed, mmap_done, mmap_unsealed}
use Rattle.area_rules.specs.Munmap.{range_of, munmap_rows, munmap_unsealed}
use Rattle.area_rules.specs.Mprotect.{protect_request_rows, mprotect_unsealed_rows, protected_prefix, mprotect_done, mprotect_unsealed}
use Rattle.area_rules.specs.Seals.{has_sealed}
use Rattle.area_rules.specs.Brk.{pages_between, break_kept, break_moved, lowered_list, raised_list, has_room_above, brk_rows, brk}
use Rattle.area_rules.specs.Mseal.{has_hole, seal_request_rows, mseal_rows, mseal}
use Rattle.area_rules.proofs.Rows.{NoneHolds, NoneHolds-right, rows_false, first_row-left, first_row-gives, unless_answered-gives, unless_refused_cases}
use Rattle.area_rules.proofs.NewArea.{IsAccepted, accepted_from_rows, pages_some}

-- what the tests of mmap leave at a place
pub record IsMappable (config : Config) (space : AddressSpace) (args : MmapArgs) (page : ℕ) : Type 0 where
  pub found : start_of config space.areas args ≡ Some page
  pub accepted : IsAccepted config args
  pub kept : is_taken space.areas args ≡ false
  pub few : length (mapped_list config space args page) ≤ config.areas

-- a call that keeps what is mapped found its range free
not_taken : (config : Config) (areas : List Record) (args : MmapArgs) → NoneHolds (mmap_rows config areas args)
    → is_taken areas args ≡ false
unfolding mmap_rows
not_taken config areas args h = h.1.1.1.1.1.1.1.1.1.1.1.0

-- mmap: each refusal, and the outcome at each place that the tests accept
pub mmap_cases : (P : Outcome → Type 0) (config : Config) (space : AddressSpace) (args : MmapArgs)
    → ((errno : Errno) → P (record { space = space; reply = Refused errno }))
    → ((page : ℕ) → IsMappable config space args page → P (mmap_done config space args page))
    → P (mmap_unsealed config space args)
unfolding mmap_unsealed mmap_placed_unsealed
mmap_cases P config space args refused done =
    unless_refused_cases P space (first_row (mmap_rows config space.areas args)) _ refused
    (λ none. at (start_of config space.areas args) refl (rows_false (mmap_rows config space.areas args) none))
  where
    at : (found : Option ℕ) → start_of config space.areas args ≡ found → NoneHolds (mmap_rows config space.areas args)
        → P (mmap_placed_unsealed config space args found)
    at None is none = refused Enomem
    at (Some page) is none = unless_refused_cases P space (first_row (mmap_unsealed_rows config space args page)) _ refused
        (λ short. done page (record {
          found = is;
          accepted = accepted_from_rows config space.areas args none;
          kept = not_taken config space.areas args none;
          few = ltb-false config.areas (length (mapped_list config space args page))
              (rows_false (mmap_unsealed_rows config space args page) short).0;
        }))

-- what the tests of munmap leave
pub record IsCuttable (config : Config) (areas : List Record) (addr len : ℕ) : Type 0 where
  pub some_pages : (range_of addr len).lo < (range_of addr len).hi
  pub few : length (cut (range_of addr len) areas) ≤ config.areas

-- by the failed tests
cuttable_from_rows : (config : Config) (areas : List Record) (addr len : ℕ)
    → NoneHolds (munmap_rows config areas addr len) → IsCuttable config areas addr len
unfolding munmap_rows
cuttable_from_rows config areas addr len h = record {
  some_pages = some addr len (pages_some len h.1.0);
  few = ltb-false config.areas (length (cut (range_of addr len) areas)) h.1.1.1.0;
}
  where
    some : (addr len : ℕ) → 0 < pages_of len → (range_of addr len).lo < (range_of addr len).hi
    some addr len h = unfold range_of in omega arith

-- munmap: each refusal, and the outcome without the range
pub munmap_cases : (P : Outcome → Type 0) (config : Config) (space : AddressSpace) (addr len : ℕ)
    → ((errno : Errno) → P (record { space = space; reply = Refused errno }))
    → (IsCuttable config space.areas addr len
    → P (record { space = record space { areas = cut (range_of addr len) space.areas }; reply = Zero }))
    → P (munmap_unsealed config space addr len)
unfolding munmap_unsealed
munmap_cases P config space addr len refused done =
    unless_refused_cases P space (first_row (munmap_rows config space.areas addr len)) _ refused
    (λ none. done (cuttable_from_rows config space.areas addr len
    (rows_false (munmap_rows config space.areas addr len) none)))

-- what the tests of mprotect leave
pub record IsProtected (config : Config) (areas : List Record) (addr len : ℕ) (prot : Prot) : Type 0 where
  pub request : first_row (protect_request_rows addr len) ≡ None
  pub few : length (protected_prefix prot (range_of addr len) areas) ≤ config.areas

-- by the failed tests
protected_from_rows : (config : Config) (areas : List Record) (addr len : ℕ) (prot : Prot)
    → first_row (mprotect_unsealed_rows config areas addr len prot) ≡ None → IsProtected config areas addr len prot
unfolding mprotect_unsealed_rows
protected_from_rows config areas addr len prot none =
    let last : List (Bool × Reply) =
    (has_too_many_areas config (protected_prefix prot (range_of addr len) areas), Refused Enomem) ∷ [] in
    record {
      request = first_row-left (protect_request_rows addr len) last none;
      few = ltb-false config.areas (length (protected_prefix prot (range_of addr len) areas)) (NoneHolds-right
          (protect_request_rows addr len) last (rows_false (protect_request_rows addr len ++ last) none)).0;
    }

-- mprotect: each answer that changes nothing, and the outcome with the protection
pub mprotect_cases : (P : Outcome → Type 0) (config : Config) (space : AddressSpace) (addr len : ℕ) (prot : Prot)
    → ((reply : Reply) → P (record { space = space; reply = reply }))
    → (IsProtected config space.areas addr len prot → P (mprotect_done space (range_of addr len) prot))
    → P (mprotect_unsealed config space addr len prot)
unfolding mprotect_unsealed
mprotect_cases P config space addr len prot answered done =
    at (first_row (mprotect_unsealed_rows config space.areas addr len prot)) refl
  where
    at : (answer : Option Reply) → first_row (mprotect_unsealed_rows config space.areas addr len prot) ≡ answer
        → P (unless_answered space answer (mprotect_done space (range_of addr len) prot))
    at (Some reply) is = answered reply
    at None is = done (protected_from_rows config space.areas addr len prot is)

-- what it takes that an area grows into a page
pub record IsGrower (config : Config) (areas : List Record) (page : ℕ) (area : Record) : Type 0 where
  pub low : page_of config.min ≤ page
  pub free : is_free areas 2 (page - 1) ≡ true
  pub above : find (is_above page) areas ≡ Some area

-- by the tests of the grower
pub grower_is : (config : Config) (areas : List Record) (page : ℕ) (area : Record) → grower config areas page ≡ Some area
    → IsGrower config areas page area
unfolding grower
grower_is config areas page area =
    cond_both (nat_le (page_of config.min) page && is_free areas 2 (page - 1)) (find (is_above page) areas) None
    (λ o. o ≡ Some area → IsGrower config areas page area)
    (λ holds found. let parts = and_parts (nat_le (page_of config.min) page) _ holds in
    record { low = leb-true (page_of config.min) page parts.0; free = parts.1; above = found })
    (λ fails found. cc)

-- a touch: the refusal, and the growth of the area that grows into the page and allows the access
pub touch_cases : (P : Outcome → Type 0) (config : Config) (space : AddressSpace) (page : ℕ) (access : Access)
    → P (record { space = space; reply = Refused Efault })
    → ((area : Record) → grower config space.areas page ≡ Some area → permits area.attr.prot access ≡ true
    → P (grown space page (Some area)))
    → P (touch config space page access)
unfolding touch grows
touch_cases P config space page access refused done = at (grower config space.areas page) refl
  where
    unless : Outcome
    unless = record { space = space; reply = Refused Efault }

    at : (found : Option Record) → grower config space.areas page ≡ found
        → P (if option_map_or (λ area. permits area.attr.prot access) found false then grown space page found else unless)
    at None is = refused
    at (Some area) is = cond_both (permits area.attr.prot access) (grown space page (Some area)) unless P (done area is)
        (λ denied. refused)

-- what the tests of brk leave where it lowers the break
pub record IsLowered (config : Config) (space : AddressSpace) (addr : ℕ) : Type 0 where
  pub below : pages_of addr < pages_of space.brk
  pub unsealed : has_sealed (pages_between addr space.brk) space.areas ≡ false
  pub few : length (lowered_list space addr) ≤ config.areas

-- and where it raises the break
pub record IsRaised (config : Config) (space : AddressSpace) (addr : ℕ) : Type 0 where
  pub above : pages_of space.brk < pages_of addr
  pub room : has_room_above config space addr ≡ true
  pub few : length (raised_list space addr) ≤ config.areas

-- the last two tests of a lower break, where it is lower
lowered_tests : (new old : ℕ) (sealed many : Bool) → (nat_lt new old && (sealed || many)) ≡ false → nat_lt new old ≡ true
    → (sealed ≡ false) × (many ≡ false)
lowered_tests new old sealed many h less = (grind arith, grind arith)

-- a break that is neither the same nor lower is higher
raised_tests : (new old : ℕ) → nat_eq new old ≡ false → nat_lt new old ≡ false → old < new
raised_tests new old other more = grind (arith, nat_tests)

-- brk: the break that stays, the same page, a lower break and a higher one
pub brk_cases : (P : Outcome → Type 0) (config : Config) (space : AddressSpace) (addr : ℕ) → P (break_kept space)
    → (pages_of addr ≡ pages_of space.brk → P (break_moved space addr space.areas))
    → (IsLowered config space addr → P (break_moved space addr (lowered_list space addr)))
    → (IsRaised config space addr → P (break_moved space addr (raised_list space addr)))
    → P (brk config space addr)
unfolding brk brk_rows
brk_cases P config space addr kept same lowered raised =
    let old = pages_of space.brk in
    let new = pages_of addr in
    first_row-gives P (brk_rows config space addr) (break_moved space addr (raised_list space addr)) (
      λ none. kept,
      λ heap. (
        λ alike. same (eqb-true new old alike),
        λ other. (
          λ refused. kept,
          λ fine. (
            λ less. let tests = lowered_tests new old (has_sealed (pages_between addr space.brk) space.areas)
                (has_too_many_areas config (lowered_list space addr)) fine less in
                lowered (record {
                  below = ltb-true new old less;
                  unsealed = tests.0;
                  few = ltb-false config.areas (length (lowered_list space addr)) tests.1;
                }),
            λ more. (
              λ none. kept,
              λ room. (
                λ many. kept,
                λ few. raised (record {
                  above = raised_tests new old other more;
                  room = not-false (has_room_above config space addr) room;
                  few = ltb-false config.areas (length (raised_list space addr)) few;
                }),
              ),
            ),
          ),
        ),
      ),
    )

-- what the tests of mseal leave
pub record IsSealable (config : Config) (areas : List Record) (addr len : ℕ) : Type 0 where
  pub some_bytes : nat_eq len 0 ≡ false
  pub whole : has_hole (range_of addr len) areas ≡ false
  pub few : length (sealed_list (range_of addr len) areas) ≤ config.areas

-- mseal: each refusal, zero at an empty range, and the outcome with the seals
pub mseal_cases : (P : Outcome → Type 0) (config : Config) (space : AddressSpace) (addr len flags : ℕ)
    → ((errno : Errno) → P (record { space = space; reply = Refused errno }))
    → (len ≡ 0 → P (record { space = space; reply = Zero }))
    → (IsSealable config space.areas addr len
    → P (record { space = record space { areas = sealed_list (range_of addr len) space.areas }; reply = Zero }))
    → P (mseal config space addr len flags)
unfolding mseal mseal_rows seal_request_rows
mseal_cases P config space addr len flags refused empty done =
    unless_answered-gives P space (mseal_rows config space.areas addr len flags) _ (
      λ flag. refused Einval,
      λ no_flag. (
        λ misplaced. refused Einval,
        λ aligned. (
          λ past. refused Einval,
          λ within. (
            λ none. empty (eqb-true len 0 none),
            λ some. (
              λ hole. refused Enomem,
              λ whole. (
                λ many. refused Enomem,
                λ few. done (record {
                  some_bytes = some;
                  whole = whole;
                  few = ltb-false config.areas (length (sealed_list (range_of addr len) space.areas)) few;
                }),
              ),
            ),
          ),
        ),
      ),
    )

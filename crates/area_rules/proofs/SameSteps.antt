-- For the laws of this crate: a call that cannot pass either of two limits does and answers the same with both.
use Rattle.std.proofs.Common.{◌≡◌, ◌≤◌, ◌+◌, ◌∙◌, ℕ, Bool, true, false, ◌&&◌, ◌||◌, not, nat_eq, nat_lt, List, [], ◌∷◌, ◌++◌, length, Option, Some, None, refl, sym, ap, arith}
use Rattle.std.specs.Option.{unwrap_or, option_and_then}
use Rattle.std.proofs.lemmas.Bool.{le-ltb, ltb-true, ltb-false}
use Rattle.mm_types.specs.declared.area.Access.{Access}
use Rattle.mm_types.specs.declared.area.Prot.{Prot}
use Rattle.mm_types.specs.declared.area.Record.{Record}
use Rattle.mm_types.specs.declared.call.Call.{Call}
use Rattle.mm_types.specs.declared.call.Call.TheVariants.{Mmap, Munmap, Mprotect, Mremap, Touch, Brk, Mseal}
use Rattle.mm_types.specs.declared.call.Errno.{Errno}
use Rattle.mm_types.specs.declared.call.Errno.TheVariants.{Eperm, Enomem}
use Rattle.mm_types.specs.declared.call.MmapArgs.{MmapArgs}
use Rattle.mm_types.specs.declared.call.Reply.TheVariants.{Refused, Zero}
use Rattle.mm_types.specs.declared.config.Config.{Config}
use Rattle.mm_types.specs.Rows.{first_row}
use Rattle.area_list.specs.Areas.{page_of, area_at}
use Rattle.area_list.specs.Changes.{cut, sealed_list}
use Rattle.area_rules.specs.declared.mremap_request.Moved.{Moved}
use Rattle.area_rules.specs.declared.mremap_request.MremapArgs.{MremapArgs}
use Rattle.area_rules.specs.Brk.{pages_between, lowered_list, raised_list, has_room_above, brk_rows, brk}
use Rattle.area_rules.specs.Growing.{grower, grows, touch}
use Rattle.area_rules.specs.Mmap.{maps_over_seal, lacks_file, is_denied, mmap_rows, start_of, most_allowed, object_mapped, new_area, mapped_list, mmap_done, mmap_placed, mmap}
use Rattle.area_rules.specs.Mprotect.{protect_request_rows, protected_prefix, mprotect_rows, mprotect_done, mprotect}
use Rattle.area_rules.specs.Mremap.{mremap_args, remaps_seal, is_new_misplaced, mremap_rows, has_room, new_place, mremap_change, mremap_done, mremap_changed, mremap}
use Rattle.area_rules.specs.Mseal.{has_hole, seal_request_rows, mseal_rows, mseal}
use Rattle.area_rules.specs.Munmap.{range_of, munmap_rows, munmap}
use Rattle.area_rules.specs.Seals.{has_sealed}
use Rattle.area_rules.specs.Steps.{step_unsealed, step, IsReady}
use Rattle.area_rules.specs.Tables.{AddressSpace, Outcome, unless_refused, unless_answered, pages_of, has_too_many_areas}
use Rattle.area_rules.specs.Verdicts.{verdict}
use Rattle.area_rules.proofs.Cases.{mmap_cases, munmap_cases, mprotect_cases, touch_cases, brk_cases, mseal_cases}
use Rattle.area_rules.proofs.Growing.{grown_length}
use Rattle.area_rules.proofs.RemapLaws.{IsRemappable, remappable_from_rows, mremap_both}
use Rattle.area_rules.proofs.Rows.{rows_false}
use Rattle.area_rules.proofs.Stepping.{step_both}
use Rattle.area_rules.specs.Limits.{with_areas}
use Rattle.area_rules.proofs.FewAreas.{length-cut_range, length-mapped_list, length-protected_prefix, length-sealed_list, length-lowered_list, length-raised_list, length-change}

-- ---- how many areas a call makes

-- a list has at most so many areas more than a space
abbrev IsFew : AddressSpace → AddressSpace → Type 0
IsFew old new = length new.areas ≤ length old.areas + 3

unsealed_few : (config : Config) (space : AddressSpace) (call : Call) → IsReady config space → IsFew space (step_unsealed config space call).space
unfolding step_unsealed mmap_done
unsealed_few config space (Mmap args) ready =
    mmap_cases (λ o. IsFew space o.space) config space args (λ errno. omega arith)
    (λ page m. omega (arith, length-mapped_list (page_of config.limit) space.areas ready.sound.canonical config space args page refl))
unsealed_few config space (Munmap addr len) ready =
    munmap_cases (λ o. IsFew space o.space) config space addr len (λ errno. omega arith)
    (λ c. omega (arith, length-cut_range (page_of config.limit) space.areas ready.sound.canonical addr len))
unsealed_few config space (Mprotect addr len prot) ready =
    mprotect_cases (λ o. IsFew space o.space) config space addr len prot (λ reply. omega arith)
    (λ p. omega (arith, length-protected_prefix (page_of config.limit) space.areas ready.sound.canonical prot addr len))
unsealed_few config space (Mremap old old_len new_len flags new) ready =
    mremap_both (IsFew space) config space (mremap_args old old_len new_len flags new) (omega arith)
    (λ area change found remappable changes few.
    length-change config space.areas (mremap_args old old_len new_len flags new) area change ready.valid ready.sound.canonical
    remappable found changes)
unsealed_few config space (Touch page access) ready =
    touch_cases (λ o. IsFew space o.space) config space page.0 access (omega arith)
    (λ area found allowed. omega (arith, grown_length page.0 space.areas))
unsealed_few config space (Brk addr) ready =
    brk_cases (λ o. IsFew space o.space) config space addr (omega arith) (λ same. omega arith)
    (λ l. omega (arith, length-lowered_list (page_of config.limit) space addr ready.sound.canonical (omega (arith, l.below))))
    (λ r. omega (arith, length-raised_list (page_of config.limit) space addr ready.sound.canonical (omega (arith, r.above))))
unsealed_few config space (Mseal addr len flags) ready =
    mseal_cases (λ o. IsFew space o.space) config space addr len flags (λ errno. omega arith) (λ none. omega arith)
    (λ s. omega (arith, length-sealed_list (page_of config.limit) space.areas ready.sound.canonical addr len))

-- a call makes at most three areas more
pub length-step : (config : Config) (space : AddressSpace) (call : Call) → IsReady config space
    → length (step config space call).space.areas ≤ length space.areas + 3
length-step config space call ready = step_both (IsFew space) config space call (omega arith) (unsealed_few config space call ready)

-- ---- two limits that it cannot pass

-- what reads no limit
pub grows_same : (areas : ℕ) (config : Config) (list : List Record) (page : ℕ) (access : Access)
    → grows (with_areas areas config) list page access ≡ grows config list page access
unfolding grows grower
grows_same areas config list page access = refl

pub verdict_same : (areas : ℕ) (config : Config) (list : List Record) (page : ℕ) (access : Access)
    → verdict (with_areas areas config) list page access ≡ verdict config list page access
unfolding verdict grower
verdict_same areas config list page access = refl

-- an outcome, by whether the tests of a call refuse it
unless_same : (space : AddressSpace) (refusal : Option Errno) (one other : Outcome) → (refusal ≡ None → one ≡ other)
    → unless_refused space refusal one ≡ unless_refused space refusal other
unless_same space (Some errno) one other same = refl
unless_same space None one other same = same refl

-- the rows of brk(2), of which the third asks for a lower list only where the break is lower, and the last for a higher one where it is not
abbrev rows_by : (none alike less refused full many : Bool) (kept same lower : Outcome) → List (Bool × Outcome)
rows_by none alike less refused full many kept same lower =
    (none, kept) ∷ (alike, same) ∷ (less && refused, kept) ∷ (less, lower) ∷ (full, kept) ∷ (many, kept) ∷ []

rows_same : (none alike less refused refused_other full many many_other : Bool) (kept same lower higher : Outcome)
    → (less ≡ true → refused ≡ refused_other) → (less ≡ false → many ≡ many_other)
    → unwrap_or (first_row (rows_by none alike less refused full many kept same lower)) higher
    ≡ unwrap_or (first_row (rows_by none alike less refused_other full many_other kept same lower)) higher
rows_same none alike true refused refused_other full many many_other kept same lower higher lowers raises = rw (lowers refl)
rows_same none alike false refused refused_other full many many_other kept same lower higher lowers raises = rw (raises refl)

module _ (areas : ℕ) (config : Config) (space : AddressSpace) (ready : IsReady config space)
    (fits : length space.areas + 3 ≤ areas) (fits_own : length space.areas + 3 ≤ config.areas) where
  -- no list of so few areas has too many, with either limit
  never : (list : List Record) → length list ≤ length space.areas + 3
      → has_too_many_areas (with_areas areas config) list ≡ has_too_many_areas config list
  never list few = le-ltb areas (length list) (omega arith) ∙ sym (le-ltb config.areas (length list) (omega arith))

  -- so each call does and answers the same
  placed_same : (args : MmapArgs) (found : Option ℕ) → mmap_placed (with_areas areas config) space args found ≡ mmap_placed config space args found
  unfolding mmap_placed mmap_done mapped_list new_area most_allowed object_mapped
  placed_same args None = refl
  placed_same args (Some start) =
      ap (λ (many : Bool). unless_refused space (first_row ((many, Enomem) ∷ (maps_over_seal space.areas args, Eperm) ∷ []))
      (mmap_done config space args start))
      (never (mapped_list config space args start)
      (omega (arith, length-mapped_list (page_of config.limit) space.areas ready.sound.canonical config space args start refl)))

  mmap_same : (args : MmapArgs) → mmap (with_areas areas config) space args ≡ mmap config space args
  unfolding mmap mmap_rows lacks_file is_denied start_of
  mmap_same args = ap (λ (o : Outcome). unless_refused space (first_row (mmap_rows config space.areas args)) o)
      (placed_same args (start_of config space.areas args))

  munmap_same : (addr len : ℕ) → munmap (with_areas areas config) space addr len ≡ munmap config space addr len
  unfolding munmap munmap_rows
  munmap_same addr len =
      rw (never (cut (range_of addr len) space.areas)
      (omega (arith, length-cut_range (page_of config.limit) space.areas ready.sound.canonical addr len)))

  mprotect_same : (addr len : ℕ) (prot : Prot) → mprotect (with_areas areas config) space addr len prot ≡ mprotect config space addr len prot
  unfolding mprotect mprotect_rows
  mprotect_same addr len prot =
      ap (λ (many : Bool). unless_answered space (first_row (protect_request_rows addr len
      ++ (has_sealed (range_of addr len) space.areas, Refused Eperm) ∷ (many, Refused Enomem) ∷ []))
      (mprotect_done space (range_of addr len) prot))
      (never (protected_prefix prot (range_of addr len) space.areas)
      (omega (arith, length-protected_prefix (page_of config.limit) space.areas ready.sound.canonical prot addr len)))

  changed_same : (args : MremapArgs) (found : Option Record) → area_at space.areas (page_of args.old) ≡ found
      → IsRemappable config space.areas args
      → mremap_changed (with_areas areas config) space args (option_and_then (λ area. mremap_change config space.areas area args) found)
      ≡ mremap_changed config space args (option_and_then (λ area. mremap_change config space.areas area args) found)
  unfolding mremap_changed
  changed_same args None found remappable = refl
  changed_same args (Some area) found remappable = by_change (mremap_change config space.areas area args) refl
    where
      by_change : (change : Option Moved) → mremap_change config space.areas area args ≡ change
          → mremap_changed (with_areas areas config) space args change ≡ mremap_changed config space args change
      by_change None is = unfold mremap_changed in refl
      by_change (Some change) is = unfold mremap_changed in
          ap (λ (many : Bool). unless_refused space (first_row ((many, Enomem) ∷ (remaps_seal space.areas args, Eperm) ∷ []))
          (mremap_done space change))
          (never change.areas (length-change config space.areas args area change ready.valid ready.sound.canonical remappable found is))

  mremap_same : (args : MremapArgs) → mremap (with_areas areas config) space args ≡ mremap config space args
  unfolding mremap mremap_rows is_new_misplaced mremap_change has_room new_place
  mremap_same args = unless_same space (first_row (mremap_rows config space.areas args)) _ _
      (λ none. changed_same args (area_at space.areas (page_of args.old)) refl
      (remappable_from_rows config space.areas args (rows_false (mremap_rows config space.areas args) none)))

  touch_same : (page : ℕ) (access : Access) → touch (with_areas areas config) space page access ≡ touch config space page access
  unfolding touch grows grower
  touch_same page access = refl

  brk_same : (addr : ℕ) → brk (with_areas areas config) space addr ≡ brk config space addr
  unfolding brk brk_rows has_room_above
  brk_same addr = rows_same (nat_eq config.heap 0 || nat_lt addr config.heap) (nat_eq (pages_of addr) (pages_of space.brk))
      (nat_lt (pages_of addr) (pages_of space.brk)) _ _ (not (has_room_above config space addr)) _ _ _ _ _ _
      (λ less. ap (λ (many : Bool). has_sealed (pages_between addr space.brk) space.areas || many)
      (never (lowered_list space addr) (omega (
        arith,
        length-lowered_list (page_of config.limit) space addr ready.sound.canonical
            (omega (arith, ltb-true (pages_of addr) (pages_of space.brk) less)),
      ))))
      (λ more. never (raised_list space addr) (omega (
        arith,
        length-raised_list (page_of config.limit) space addr ready.sound.canonical
            (ltb-false (pages_of addr) (pages_of space.brk) more),
      )))

  mseal_same : (addr len flags : ℕ) → mseal (with_areas areas config) space addr len flags ≡ mseal config space addr len flags
  unfolding mseal mseal_rows
  mseal_same addr len flags =
      ap (λ (many : Bool). unless_answered space (first_row (seal_request_rows addr len flags
      ++ (has_hole (range_of addr len) space.areas, Refused Enomem) ∷ (many, Refused Enomem) ∷ []))
      (record { space = record space { areas = sealed_list (range_of addr len) space.areas }; reply = Zero }))
      (never (sealed_list (range_of addr len) space.areas)
      (omega (arith, length-sealed_list (page_of config.limit) space.areas ready.sound.canonical addr len)))

  -- so the step is the same
  pub step_same : (call : Call) → step (with_areas areas config) space call ≡ step config space call
  unfolding step
  step_same (Mmap args) = mmap_same args
  step_same (Munmap addr len) = munmap_same addr len
  step_same (Mprotect addr len prot) = mprotect_same addr len prot
  step_same (Mremap old old_len new_len flags new) = mremap_same (mremap_args old old_len new_len flags new)
  step_same (Touch page access) = touch_same page.0 access
  step_same (Brk addr) = brk_same addr
  step_same (Mseal addr len flags) = mseal_same addr len flags

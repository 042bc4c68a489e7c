-- For the laws of the step: the area of a mapping that is accepted is valid, and its object is counted.
use Rattle.std.proofs.Common.{ℤ, ◌^◌, ◌≡◌, ◌<◌, ◌≤◌, ◌+◌, ◌-◌, ◌*◌, ◌/◌, ◌%◌, ◌⊎◌, inl, inr, ℕ, Bool, true, false, not, ◌&&◌, ◌||◌, if◌then◌else◌, nat_eq, nat_lt, List, length, find, position, Option, Some, None, option_map, is_none, refl, subst, sym, ap, ◌∙◌, arith}
use Rattle.std.specs.Option.{option_map_or}
use Rattle.std.specs.List.{position_or_len}
use Rattle.std.specs.Ordering.{int_eq}
use Rattle.std.proofs.lemmas.Bool.{cond_both, cond-true, lt-ltb, cases_lt}
use Rattle.std.proofs.lemmas.Bool.Decides.{nat_tests}
use Rattle.std.proofs.lemmas.List.Folds.{find_at}
use Rattle.std.proofs.lemmas.Option.{same_Some, slice_get_past}
use Rattle.mm_types.specs.declared.area.Prot.{Prot}
use Rattle.mm_types.specs.declared.area.Record.{Record}
use Rattle.mm_types.specs.declared.call.MmapArgs.{MmapArgs}
use Rattle.mm_types.specs.declared.config.Config.{Config}
use Rattle.mm_types.specs.declared.config.TheConstants.{PAGE_SIZE}
use Rattle.mm_types.specs.declared.files.FileRow.{FileRow}
use Rattle.mm_types.specs.Config.{IsValidConfig}
use Rattle.mm_types.specs.Records.{holds_all}
use Rattle.area_list.specs.Areas.{page_of}
use Rattle.area_rules.proofs.Limits.{limit_between}
use Rattle.area_rules.specs.Placement.{bounds_of, place}
use Rattle.area_rules.specs.Tables.{is_aligned, pages_of}
use Rattle.area_rules.specs.Mmap.{is_anonymous, is_shared, is_fixed, file_of, file_place, object_of, lacks_file, overflows_offset, cannot_grow, denies, is_denied, start_of, most_of, most_allowed, object_mapped, objects_after, new_area, mmap_rows}
use Rattle.area_list.proofs.Order.{IsGood}
use Rattle.area_rules.proofs.Rows.{NoneHolds}
use Rattle.area_rules.proofs.Fitting.{place_fits}

-- what the tests of the request leave, those that the new area rests on
pub record IsAccepted (config : Config) (args : MmapArgs) : Type 0 where
  pub file : lacks_file config args ≡ false
  pub some_bytes : nat_eq args.len 0 ≡ false
  pub short : nat_lt (page_of config.limit) (pages_of args.len) ≡ false
  pub offset : overflows_offset args ≡ false
  pub growing : cannot_grow args ≡ false
  pub allowed : is_denied config args ≡ false
  pub aligned : (is_fixed args && not (is_aligned args.addr)) ≡ false
  pub within : (is_fixed args && nat_lt config.limit (args.addr + PAGE_SIZE * pages_of args.len)) ≡ false

pub accepted_from_rows : (config : Config) (areas : List Record) (args : MmapArgs)
    → NoneHolds (mmap_rows config areas args) → IsAccepted config args
unfolding mmap_rows
accepted_from_rows config areas args h = record {
  file = h.1.0;
  some_bytes = h.1.1.0;
  short = h.1.1.1.0;
  offset = h.1.1.1.1.0;
  growing = h.1.1.1.1.1.1.0;
  allowed = h.1.1.1.1.1.1.1.0;
  aligned = h.1.1.1.1.1.1.1.1.0;
  within = h.1.1.1.1.1.1.1.1.1.1.0;
}

pub pages_some : (len : ℕ) → nat_eq len 0 ≡ false → 0 < pages_of len
unfolding pages_of
pages_some len some = tests len some
  where
    tests : (n : ℕ) → nat_eq n 0 ≡ false → 0 < (n + 4095) / 4096
    tests n h = grind (arith, nat_tests)

fixed_tests : (fixed : Bool) (addr limit pages : ℕ) → fixed ≡ true → (fixed && not (nat_eq (addr % 4096) 0)) ≡ false
    → (fixed && nat_lt limit (addr + 4096 * pages)) ≡ false → addr / 4096 + pages ≤ limit / 4096
fixed_tests fixed addr limit pages is aligned within = grind (arith, nat_tests)

-- the pages of a mapping end at or below the limit
pub start_fits : (config : Config) (areas : List Record) (args : MmapArgs) (start : ℕ) → IsValidConfig config
    → IsAccepted config args
    → start_of config areas args ≡ Some start → start + pages_of args.len ≤ page_of config.limit
unfolding start_of
start_fits config areas args start valid accepted =
    cond_both (is_fixed args) (Some (page_of args.addr))
    (place (bounds_of config) areas (pages_of args.len) args.addr)
    (λ o. o ≡ Some start → start + pages_of args.len ≤ page_of config.limit)
    (λ fixed e. subst (λ page. page + pages_of args.len ≤ page_of config.limit)
    (same_Some (page_of args.addr) start e)
    (fixed_tests (is_fixed args) args.addr config.limit (pages_of args.len) fixed accepted.aligned accepted.within))
    (λ free e. place_fits config areas (pages_of args.len) args.addr start valid e)

-- a file that is found has a place in the list
position_of_found : {A : Type 0} (p : A → Bool) (xs : List A) → is_none (find p xs) ≡ false
    → (k : ℕ) × (k < length xs) × (position p xs ≡ Some k)
position_of_found p xs h = split (cases_lt (position_or_len p xs) (length xs))
  where
    split : (position_or_len p xs < length xs) ⊎ (length xs ≤ position_or_len p xs)
        → (k : ℕ) × (k < length xs) × (position p xs ≡ Some k)
    split (inl within) = (
      position_or_len p xs,
      within,
      cond-true _ _ None (lt-ltb (position_or_len p xs) (length xs) within),
    )
    split (inr past) = let gone = find_at p xs ∙ slice_get_past xs (position_or_len p xs) past in
        absurd (cc (gone, h))

abbrev every_access : Prot
every_access = record { read = true; write = true; exec = true }

any_access : (read write exec : Bool) → ((not read || true) && ((not write || true) && (not exec || true))) ≡ true
any_access read write exec = grind arith

file_access : (shared read write exec readable writable : Bool)
    → (not readable || (shared && (write && not writable))) ≡ false
    → ((not read || true) && ((not write || (not shared || writable)) && (not exec || true))) ≡ true
file_access shared read write exec readable writable granted = grind arith

-- the protection lies within the most that is allowed
access_allowed : (args : MmapArgs) (anonymous : Bool) (file : Option FileRow)
    → (not anonymous && is_none file) ≡ false
    → (not anonymous && option_map_or (denies args) file false) ≡ false
    → holds_all (if anonymous then every_access else option_map_or (most_of (is_shared args)) file every_access)
    args.prot ≡ true
unfolding holds_all
access_allowed args true file found granted = any_access args.prot.read args.prot.write args.prot.exec
access_allowed args false None found granted = cc
access_allowed args false (Some file) found granted =
    file_access (is_shared args) args.prot.read args.prot.write args.prot.exec file.read file.write granted

area_allowed : (config : Config) (args : MmapArgs) → IsAccepted config args
    → holds_all (most_allowed config args) args.prot ≡ true
unfolding most_allowed
area_allowed config args accepted =
    access_allowed args (is_anonymous args) (file_of config.files args.fd) (unfold lacks_file in accepted.file)
    (unfold is_denied in accepted.allowed)

-- a file that is found has an object number
object_of_found : (files : List FileRow) (fd : ℤ) → is_none (file_of files fd) ≡ false
    → (k : ℕ) × (k < length files) × (object_of files fd ≡ Some (k + 1))
unfolding object_of file_place
object_of_found files fd found =
    let place = position_of_found (λ file. int_eq file.fd fd) files found in
    (place.0, place.1, ap (option_map (λ place. place + 1)) place.2)

-- the number of a file's object, where a file is mapped
file_object : (config : Config) (args : MmapArgs) → IsAccepted config args → is_anonymous args ≡ false
    → (k : ℕ) × (k < length config.files) × (object_of config.files args.fd ≡ Some (k + 1))
unfolding lacks_file
file_object config args accepted backed =
    object_of_found config.files args.fd
    (not_and (is_anonymous args) (is_none (file_of config.files args.fd)) backed accepted.file)
  where
    not_and : (a b : Bool) → a ≡ false → (not a && b) ≡ false → b ≡ false
    not_and a b is h = grind arith

nothing_tests : (anonymous shared : Bool) (objects offset : ℕ) (object : Option ℕ)
    → (anonymous ≡ false → (k : ℕ) × (object ≡ Some (k + 1)))
    → (if anonymous then (if shared then objects + 1 else 0) else option_map_or (λ o. o) object 0) ≡ 0
    → ((if anonymous then 0 else offset) ≡ 0) × (shared ≡ false)
nothing_tests true true objects offset object numbered none = absurd (omega arith)
nothing_tests true false objects offset object numbered none = (refl, refl)
nothing_tests false shared objects offset object numbered none =
    let number = numbered refl in
    absurd (some_number number.0 (sym (ap (λ o. option_map_or (λ n. n) o 0) number.1) ∙ none))
  where
    some_number : (k : ℕ) → k + 1 ≡ 0 → ⊥
    some_number k h = omega arith

backed_tests : (anonymous : Bool) (offset pages start limit : ℕ)
    → (not anonymous && nat_lt (2 ^ 63 - 1) (offset + 4096 * pages)) ≡ false
    → nat_lt limit pages ≡ false → limit ≤ 2 ^ 45
    → (if anonymous then 0 else offset / 4096) + (start + pages - start) ≤ 2 ^ 51 - 1
backed_tests anonymous offset pages start limit within short low = grind (arith, nat_tests)

-- the area of an accepted mapping is valid, and ends at or below the limit
pub new_area_good : (config : Config) (areas : List Record) (objects : ℕ) (args : MmapArgs) (start : ℕ)
    → IsValidConfig config → IsAccepted config args
    → start_of config areas args ≡ Some start → IsGood (page_of config.limit) (new_area config objects args start)
unfolding new_area object_mapped
new_area_good config areas objects args start valid accepted found =
    let fits : start + pages_of args.len ≤ page_of config.limit = start_fits config areas args start valid accepted
    found in
    let low : page_of config.limit ≤ 2 ^ 45 = omega (arith, (limit_between config valid).high) in
    let within : (not (is_anonymous args) && nat_lt (2 ^ 63 - 1) (args.offset + 4096 * pages_of args.len))
    ≡ false = unfold overflows_offset in accepted.offset in
    let some : 0 < pages_of args.len = pages_some args.len accepted.some_bytes in
    record {
      valid = record {
        some_pages = omega arith;
        below_end = omega arith;
        allowed = area_allowed config args accepted;
        anonymous = nothing_tests (is_anonymous args) (is_shared args) objects (page_of args.offset)
            (object_of config.files args.fd)
            (λ backed. let number = file_object config args accepted backed in (number.0, number.2));
        backed = λ backed. backed_tests (is_anonymous args) args.offset (pages_of args.len) start
            (page_of config.limit) within accepted.short low;
      };
      below_end = fits;
    }

counted_tests : (anonymous shared : Bool) (objects files : ℕ) (object : Option ℕ)
    → (anonymous ≡ false → (k : ℕ) × (k < files) × (object ≡ Some (k + 1))) → files ≤ objects
    → (if anonymous then (if shared then objects + 1 else 0) else option_map_or (λ o. o) object 0)
    ≤ (if anonymous && shared then objects + 1 else objects)
counted_tests true true objects files object numbered counted = omega arith
counted_tests true false objects files object numbered counted = omega arith
counted_tests false shared objects files object numbered counted =
    let number = numbered refl in
    subst (λ o. option_map_or (λ n. n) o 0 ≤ objects) (sym number.2) (omega (arith, number.1))

-- its object is counted
pub new_area_counted : (config : Config) (objects : ℕ) (args : MmapArgs) (start : ℕ) → IsAccepted config args
    → length config.files ≤ objects
    → (new_area config objects args start).object ≤ objects_after objects args
unfolding new_area object_mapped objects_after
new_area_counted config objects args start accepted counted =
    counted_tests (is_anonymous args) (is_shared args) objects (length config.files)
    (object_of config.files args.fd) (file_object config args accepted) counted

pub objects_kept : (objects : ℕ) (args : MmapArgs)
    → (objects ≤ objects_after objects args) × (objects_after objects args ≤ objects + 1)
unfolding objects_after
objects_kept objects args =
    cond_both (is_anonymous args && is_shared args) (objects + 1) objects (λ n. (objects ≤ n) × (n ≤ objects + 1))
    (λ h. omega arith) (λ h. omega arith)

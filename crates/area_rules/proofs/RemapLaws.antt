-- For the law `move_carries_the_pages` and those of the step: what the tests of mremap(2) leave, and that each of its changes keeps a list canonical.
use Rattle.std.proofs.Common.{◌^◌, ◌≡◌, ◌≢◌, ◌≤◌, ◌<◌, ◌+◌, ◌-◌, ◌*◌, ◌/◌, ◌%◌, ◌⊎◌, inl, inr, ℕ, Bool, true, false, not, ◌&&◌, ◌||◌, if◌then◌else◌, nat_eq, nat_lt, nat_le, min, List, [], ◌∷◌, length, Option, Some, None, refl, subst, arith}
use Rattle.std.specs.Option.{option_map_or, option_map, option_and_then}
use Rattle.std.specs.List.{AllByRecursion as Each}
use Rattle.std.proofs.lemmas.Bool.{cond_both, and_parts, leb-true, ltb-true, ltb-false}
use Rattle.std.proofs.lemmas.Bool.Decides.{nat_tests}
use Rattle.std.proofs.lemmas.Option.{same_Some, option_and_then_some}
use Rattle.mm_types.specs.declared.area.Span.{Span}
use Rattle.mm_types.specs.declared.area.Record.{Record}
use Rattle.mm_types.specs.declared.call.Errno.{Errno}
use Rattle.mm_types.specs.declared.call.Errno.TheVariants.{Efault, Enomem}
use Rattle.mm_types.specs.declared.call.Reply.TheVariants.{Refused}
use Rattle.mm_types.specs.declared.config.Config.{Config}
use Rattle.mm_types.specs.Config.{IsValidConfig}
use Rattle.mm_types.specs.Records.{IsValid}
use Rattle.area_list.specs.Areas.{page_of, index_of, joins, area_at, IsCanonical}
use Rattle.area_list.specs.Changes.{joined_area, cut, put}
use Rattle.area_rules.proofs.Limits.{limit_between}
use Rattle.area_rules.specs.Placement.{bounds_of, place}
use Rattle.area_rules.specs.Tables.{AddressSpace, Outcome, pages_of}
use Rattle.mm_types.specs.Rows.{first_row}
use Rattle.area_rules.specs.Munmap.{range_of}
use Rattle.area_rules.specs.declared.mremap_request.Moved.{Moved}
use Rattle.area_rules.specs.declared.mremap_request.MremapArgs.{MremapArgs}
use Rattle.area_rules.specs.Mremap.{moves_to, may_move, lengthens, old_range, new_range, is_new_misplaced, leaves_area, overflows_object, area_rows, mremap_rows, carried_area, moved_list, moved, shrunk_list, added_range, has_room, lengthened_list, new_place, mremap_change, mremap_unsealed_rows, mremap_changed_unsealed, mremap_done, mremap_unsealed}
use Rattle.area_list.specs.Areas.{overlap}
use Rattle.area_rules.specs.Laws.{moved_range, MovesTo}
use Rattle.area_list.proofs.Parts.{part}
use Rattle.area_list.proofs.Order.{IsGood, good_from_canonical}
use Rattle.area_list.proofs.Cutting.{cut_canonical, cut_each}
use Rattle.area_list.proofs.Putting.{put_canonical, put_each}
use Rattle.area_rules.proofs.Rows.{NoneHolds, rows_false, unless_refused_cases}
use Rattle.area_rules.proofs.Fitting.{place_fits}
use Rattle.area_rules.proofs.NewArea.{pages_some}
use Rattle.area_list.proofs.Holding.{lies_in, found_has, found_keeps}

-- what the tests leave, those that the changes rest on
pub record IsRemappable (config : Config) (areas : List Record) (args : MremapArgs) : Type 0 where
  pub some_new : nat_eq args.new_len 0 ≡ false
  pub some_old : nat_eq args.old_len 0 ≡ false
  pub placed : is_new_misplaced config args ≡ false
  pub beside : (moves_to args && overlap (old_range args) (new_range args)) ≡ false
  pub whole : (area : Record) → area_at areas (page_of args.old) ≡ Some area → leaves_area args area ≡ false
  pub short : (area : Record) → area_at areas (page_of args.old) ≡ Some area → overflows_object args area ≡ false

pub remappable_from_rows : (config : Config) (areas : List Record) (args : MremapArgs)
    → NoneHolds (mremap_rows config areas args) → IsRemappable config areas args
unfolding mremap_rows
remappable_from_rows config areas args h = record {
  some_new = h.1.1.1.0;
  some_old = h.1.1.1.1.0;
  placed = h.1.1.1.1.1.1.0;
  beside = h.1.1.1.1.1.1.1.1.0;
  whole = λ area found. (of_area area found).0;
  short = λ area found. (of_area area found).1.0;
}
  where
    of_area : (area : Record) → area_at areas (page_of args.old) ≡ Some area → NoneHolds (area_rows args area)
    of_area area found =
        subst (λ o. NoneHolds (option_map_or (area_rows args) o ((true, Efault) ∷ []))) found h.1.1.1.1.1.1.1.1.1

-- the area that is remapped, and its old pages
pub record IsOld (end : ℕ) (areas : List Record) (args : MremapArgs) (area : Record) : Type 0 where
  pub good : IsGood end area
  pub begins : area.span.lo ≤ page_of args.old
  pub ends : page_of args.old < area.span.hi

pub old_area : (end : ℕ) (areas : List Record) (args : MremapArgs) (area : Record) → IsCanonical end areas
    → area_at areas (page_of args.old) ≡ Some area → IsOld end areas args area
old_area end areas args area c found =
    let here = lies_in area.span (page_of args.old) (found_has areas (page_of args.old) area found) in
    record {
      good = found_keeps (IsGood end) areas (page_of args.old) area (good_from_canonical end areas c) found;
      begins = here.low;
      ends = here.high;
    }

-- the pages that stay lie in the area that is remapped
pub stay_within : (config : Config) (end : ℕ) (areas : List Record) (args : MremapArgs) (area : Record)
    → IsCanonical end areas → IsRemappable config areas args → area_at areas (page_of args.old) ≡ Some area
    → (moves_to args || lengthens args) ≡ true
    → page_of args.old + min (pages_of args.old_len) (pages_of args.new_len) ≤ area.span.hi
unfolding leaves_area
stay_within config end areas args area c r found changes =
    tests (moves_to args || lengthens args) area.span.hi (page_of args.old + min (pages_of args.old_len) (pages_of args.new_len))
    changes (r.whole area found)
  where
    tests : (changes : Bool) (hi stay : ℕ) → changes ≡ true → (changes && nat_lt hi stay) ≡ false → stay ≤ hi
    tests changes hi stay is h = grind (arith, nat_tests)

-- the indices of a moved range stay within those of an object
pub moved_index : (config : Config) (end : ℕ) (areas : List Record) (args : MremapArgs) (area : Record)
    → IsCanonical end areas → IsRemappable config areas args → area_at areas (page_of args.old) ≡ Some area
    → (moves_to args || lengthens args) ≡ true → area.object ≢ 0
    → index_of area (page_of args.old) + pages_of args.new_len ≤ 2 ^ 51 - 1
unfolding index_of
moved_index config end areas args area c r found changes backed =
    let old : IsOld end areas args area = old_area end areas args area c found in
    let fits = old.good.valid.backed backed in
    let stay = stay_within config end areas args area c r found changes in
    by_short area.object area.offset area.span.lo area.span.hi (page_of args.old) (pages_of args.old_len)
    (pages_of args.new_len) backed fits old.begins stay
    (unfold overflows_object in r.short area found)
  where
    by_short : (object offset lo hi low old new : ℕ) → object ≢ 0 → offset + (hi - lo) ≤ 2 ^ 51 - 1 → lo ≤ low
        → low + min old new ≤ hi
        → (nat_lt old new && (not (nat_eq object 0)
        && nat_lt (2 ^ 51 - 1) ((if nat_eq object 0 then 0 else offset + (low - lo)) + new))) ≡ false
        → (if nat_eq object 0 then 0 else offset + (low - lo)) + new ≤ 2 ^ 51 - 1
    by_short object offset lo hi low old new backed fits begins stay short = grind (arith, nat_tests)

-- an area that is carried over to a span is good where its indices stay within those of an object
carried_good : (end : ℕ) (area : Record) (from : ℕ) (span : Span) → IsValid area → span.lo < span.hi → span.hi ≤ end
    → end ≤ 2 ^ 45 → (area.object ≢ 0 → index_of area from + (span.hi - span.lo) ≤ 2 ^ 51 - 1)
    → IsGood end (carried_area area from span)
unfolding carried_area index_of
carried_good end area from span valid some fits low short = record {
  valid = record {
    some_pages = some;
    below_end = omega arith;
    allowed = valid.allowed;
    anonymous = λ none. (of_nothing area.object (area.offset + (from - area.span.lo)) none, (valid.anonymous none).1);
    backed = short;
  };
  below_end = fits;
}
  where
    of_nothing : (object index : ℕ) → object ≡ 0 → (if nat_eq object 0 then 0 else index) ≡ 0
    of_nothing object index none = grind (arith, nat_tests)

limit_low : (config : Config) → IsValidConfig config → page_of config.limit ≤ 2 ^ 45
limit_low config valid = omega (arith, (limit_between config valid).high)

either : (a b : Bool) → (a ≡ true) ⊎ (b ≡ true) → (a || b) ≡ true
either a b h = grind arith

pub changes_place : (config : Config) (areas : List Record) (args : MremapArgs) (start : ℕ)
    → MovesTo config areas args start → (moves_to args || lengthens args) ≡ true
changes_place config areas args start (inl fixed) = either (moves_to args) (lengthens args) (inl fixed.0)
changes_place config areas args start (inr found) = either (moves_to args) (lengthens args) (inr found.1)

-- a place for a range that grows is one that is found
pub found_place : (config : Config) (areas : List Record) (args : MremapArgs) (start : ℕ)
    → new_place config areas args ≡ Some start → place (bounds_of config) areas (pages_of args.new_len) 0 ≡ Some start
unfolding new_place
found_place config areas args start h =
    where_it_may (may_move args) (place (bounds_of config) areas (pages_of args.new_len) 0) h
  where
    where_it_may : (b : Bool) (o : Option ℕ) → (if b then o else None) ≡ Some start → o ≡ Some start
    where_it_may true o h = h
    where_it_may false o h = cc

-- a moved range ends at or below the limit
pub moved_fits : (config : Config) (areas : List Record) (args : MremapArgs) (start : ℕ) → IsValidConfig config
    → IsRemappable config areas args → MovesTo config areas args start
    → start + pages_of args.new_len ≤ page_of config.limit
unfolding is_new_misplaced
moved_fits config areas args start valid r (inl fixed) =
    subst (λ page. page + pages_of args.new_len ≤ page_of config.limit) fixed.1
    (fixed_tests (moves_to args) args.new config.limit (pages_of args.new_len) fixed.0 r.placed)
  where
    fixed_tests : (fixed : Bool) (addr limit pages : ℕ) → fixed ≡ true
        → (fixed && (not (nat_eq (addr % 4096) 0) || nat_lt limit (addr + 4096 * pages))) ≡ false
        → addr / 4096 + pages ≤ limit / 4096
    fixed_tests fixed addr limit pages is placed = grind (arith, nat_tests)
moved_fits config areas args start valid r (inr found) =
    place_fits config areas (pages_of args.new_len) 0 start valid (found_place config areas args start found.3)

-- a range from an address on has a page where its length is not 0
pub some_range : (addr len : ℕ) → nat_eq len 0 ≡ false → (range_of addr len).lo < (range_of addr len).hi
unfolding range_of
some_range addr len some = let pages = pages_some len some in omega arith

-- the area at its new place
pub moved_good : (config : Config) (areas : List Record) (args : MremapArgs) (area : Record) (start : ℕ)
    → IsValidConfig config → IsCanonical (page_of config.limit) areas → IsRemappable config areas args
    → area_at areas (page_of args.old) ≡ Some area → MovesTo config areas args start
    → IsGood (page_of config.limit) (carried_area area (page_of args.old) (moved_range args start))
moved_good config areas args area start valid c r found moves =
    let end = page_of config.limit in
    let old : IsOld end areas args area = old_area end areas args area c found in
    let some : 0 < pages_of args.new_len = pages_some args.new_len r.some_new in
    carried_good end area (page_of args.old) (moved_range args start) old.good.valid (omega arith)
    (moved_fits config areas args start valid r moves) (limit_low config valid)
    (λ backed. omega (
      arith,
      moved_index config end areas args area c r found
          (changes_place config areas args start moves) backed,
    ))

pub moved_canonical : (config : Config) (areas : List Record) (args : MremapArgs) (area : Record) (start : ℕ)
    → IsValidConfig config → IsCanonical (page_of config.limit) areas → IsRemappable config areas args
    → area_at areas (page_of args.old) ≡ Some area → MovesTo config areas args start
    → IsCanonical (page_of config.limit) (moved_list areas area args start)
unfolding moved_list
moved_canonical config areas args area start valid c r found moves =
    let end = page_of config.limit in
    let carried = carried_area area (page_of args.old) (moved_range args start) in
    cut_canonical end (old_range args) (put carried areas) (some_range args.old args.old_len r.some_old)
    (put_canonical end carried areas (moved_good config areas args area start valid c r found moves) c)

pub shrunk_canonical : (end : ℕ) (areas : List Record) (args : MremapArgs) → IsCanonical end areas
    → IsCanonical end (shrunk_list areas args)
unfolding shrunk_list
shrunk_canonical end areas args c =
    let gone : Span = record {
      lo = page_of args.old + pages_of args.new_len;
      hi = page_of args.old + pages_of args.old_len;
    } in
    cond_both (nat_lt (pages_of args.new_len) (pages_of args.old_len)) (cut gone areas) areas (IsCanonical end)
    (λ shrinks. cut_canonical end gone areas
    (omega (arith, ltb-true (pages_of args.new_len) (pages_of args.old_len) shrinks)) c)
    (λ stays. c)

index_on : (area : Record) (low old new : ℕ) → area.span.lo ≤ low → old < new → area.object ≢ 0
    → index_of area low + new ≤ 2 ^ 51 - 1 → index_of area (low + old) + ((low + new) - (low + old)) ≤ 2 ^ 51 - 1
unfolding index_of
index_on area low old new begins longer backed short =
    tests area.object area.offset area.span.lo low old new begins longer backed short
  where
    tests : (object offset lo low old new : ℕ) → lo ≤ low → old < new → object ≢ 0
        → (if nat_eq object 0 then 0 else offset + (low - lo)) + new ≤ 2 ^ 51 - 1
        → (if nat_eq object 0 then 0 else offset + ((low + old) - lo)) + ((low + new) - (low + old)) ≤ 2 ^ 51 - 1
    tests object offset lo low old new begins longer backed short = grind (arith, nat_tests)

-- the area that runs on after the old range
pub grown_good : (config : Config) (areas : List Record) (args : MremapArgs) (area : Record) → IsValidConfig config
    → IsCanonical (page_of config.limit) areas → IsRemappable config areas args
    → area_at areas (page_of args.old) ≡ Some area → lengthens args ≡ true → has_room config areas args ≡ true
    → IsGood (page_of config.limit) (carried_area area (added_range args).lo (added_range args))
unfolding added_range has_room
grown_good config areas args area valid c r found more room =
    let end = page_of config.limit in
    let low = page_of args.old in
    let old = pages_of args.old_len in
    let new = pages_of args.new_len in
    let there : IsOld end areas args area = old_area end areas args area c found in
    let longer : old < new = ltb-true old new more in
    let fits = leb-true (low + new) end (and_parts (nat_le (low + new) end) _ room).0 in
    carried_good end area (low + old) (record { lo = low + old; hi = low + new }) there.good.valid (omega arith) fits
    (limit_low config valid)
    (λ backed. index_on area low old new there.begins longer backed (moved_index config end areas args area c r found
    (either (moves_to args) (lengthens args) (inr more)) backed))

pub lengthened_canonical : (config : Config) (areas : List Record) (args : MremapArgs) (area : Record)
    → IsValidConfig config → IsCanonical (page_of config.limit) areas → IsRemappable config areas args
    → area_at areas (page_of args.old) ≡ Some area → lengthens args ≡ true → has_room config areas args ≡ true
    → IsCanonical (page_of config.limit) (lengthened_list areas area args)
unfolding lengthened_list
lengthened_canonical config areas args area valid c r found more room =
    put_canonical (page_of config.limit) (carried_area area (added_range args).lo (added_range args)) areas
    (grown_good config areas args area valid c r found more room) c

-- what holds of each change that there is, by its case, holds of the change
pub change_cases : (Q : Moved → Type 0) (config : Config) (areas : List Record) (area : Record)
    (args : MremapArgs) (change : Moved)
    → ((start : ℕ) → MovesTo config areas args start → Q (moved areas area args start))
    → (lengthens args ≡ false → Q (record { areas = shrunk_list areas args; page = page_of args.old }))
    → (lengthens args ≡ true → has_room config areas args ≡ true
    → Q (record { areas = lengthened_list areas area args; page = page_of args.old }))
    → mremap_change config areas area args ≡ Some change → Q change
unfolding mremap_change
change_cases Q config areas area args change moves shrinks runs_on =
    cond_both (moves_to args) _ _ (λ o. o ≡ Some change → Q change)
    (λ fixed e. at _ e (moves (page_of args.new) (inl (fixed, refl))))
    (λ free. cond_both (not (lengthens args)) _ _ (λ o. o ≡ Some change → Q change)
    (λ less e. at _ e (shrinks (is_false (lengthens args) less)))
    (λ more. cond_both (has_room config areas args) _ _ (λ o. o ≡ Some change → Q change)
    (λ room e. at _ e (runs_on (is_true (lengthens args) more) room))
    (λ none. placed (new_place config areas args) free (is_true (lengthens args) more) none refl)))
  where
    at : (there : Moved) → Some there ≡ Some change → Q there → Q change
    at there e q = subst Q (same_Some there change e) q

    is_true : (b : Bool) → not b ≡ false → b ≡ true
    is_true true h = refl
    is_true false h = cc

    is_false : (b : Bool) → not b ≡ true → b ≡ false
    is_false true h = cc
    is_false false h = refl

    placed : (found : Option ℕ) → moves_to args ≡ false → lengthens args ≡ true → has_room config areas args ≡ false
        → new_place config areas args ≡ found → option_map (moved areas area args) found ≡ Some change → Q change
    placed None free more none is e = cc
    placed (Some start) free more none is e =
        at (moved areas area args start) e (moves start (inr (free, more, none, is)))

-- what holds of the list after each change that there is, holds of the list after the change
pub change_both : (Q : List Record → Type 0) (config : Config) (areas : List Record) (area : Record)
    (args : MremapArgs) (change : Moved)
    → ((start : ℕ) → MovesTo config areas args start → Q (moved_list areas area args start))
    → Q (shrunk_list areas args)
    → (lengthens args ≡ true → has_room config areas args ≡ true → Q (lengthened_list areas area args))
    → mremap_change config areas area args ≡ Some change → Q change.areas
change_both Q config areas area args change moves shrinks runs_on =
    change_cases (λ m. Q m.areas) config areas area args change moves (λ same. shrinks) runs_on

-- what holds of each refusal, and of the outcome of the change that the tests let pass, holds of the outcome of mremap
pub mremap_cases : (P : Outcome → Type 0) (config : Config) (space : AddressSpace) (args : MremapArgs)
    → ((errno : Errno) → P (record { space = space; reply = Refused errno }))
    → ((area : Record) (change : Moved) → area_at space.areas (page_of args.old) ≡ Some area
    → IsRemappable config space.areas args → mremap_change config space.areas area args ≡ Some change
    → length change.areas ≤ config.areas → P (mremap_done space change))
    → P (mremap_unsealed config space args)
unfolding mremap_unsealed mremap_changed_unsealed
mremap_cases P config space args refused done =
    unless_refused_cases P space (first_row (mremap_rows config space.areas args)) _ refused
    (λ none. at change refl (remappable_from_rows config space.areas args
    (rows_false (mremap_rows config space.areas args) none)))
  where
    change : Option Moved
    change = option_and_then (λ area. mremap_change config space.areas area args)
        (area_at space.areas (page_of args.old))

    at : (found : Option Moved) → change ≡ found → IsRemappable config space.areas args
        → P (mremap_changed_unsealed config space found)
    at None is r = refused Enomem
    at (Some moved) is r =
        unless_refused_cases P space (first_row (mremap_unsealed_rows config moved)) (mremap_done space moved) refused
        (λ through. option_and_then_some (λ area. mremap_change config space.areas area args)
        (area_at space.areas (page_of args.old)) moved is
        (λ area found e. done area moved found r e (ltb-false config.areas (length moved.areas)
        (rows_false (mremap_unsealed_rows config moved) through).0)))

-- what holds of an address space, and of the one with the list after the change that the tests let pass, holds after
-- mremap
pub mremap_both : (P : AddressSpace → Type 0) (config : Config) (space : AddressSpace) (args : MremapArgs) → P space
    → ((area : Record) (change : Moved) → area_at space.areas (page_of args.old) ≡ Some area
    → IsRemappable config space.areas args → mremap_change config space.areas area args ≡ Some change
    → length change.areas ≤ config.areas → P (record space { areas = change.areas }))
    → P (mremap_unsealed config space args).space
unfolding mremap_done
mremap_both P config space args kept done = mremap_cases (λ o. P o.space) config space args (λ errno. kept) done

-- the objects of a list stay those of the areas that it had
pub change_each : (P : Record → Type 0) → ((area : Record) (lo hi : ℕ) → P area → P (part area lo hi))
    → ((area : Record) (from : ℕ) (span : Span) → P area → P (carried_area area from span))
    → ((a b : Record) → P a → P b → joins a b ≡ true → P (joined_area a b))
    → (config : Config) (areas : List Record) (area : Record) (args : MremapArgs) (change : Moved) → Each P areas
    → P area → mremap_change config areas area args ≡ Some change → Each P change.areas
unfolding moved_list shrunk_list lengthened_list
change_each P cuts carries joins config areas area args change each p =
    change_both (Each P) config areas area args change
    (λ start moves. cut_each P cuts (old_range args)
    (put (carried_area area (page_of args.old) (moved_range args start)) areas)
    (put_each P cuts joins (carried_area area (page_of args.old) (moved_range args start)) areas
    (carries area (page_of args.old) (moved_range args start) p) each))
    (cond_both (nat_lt (pages_of args.new_len) (pages_of args.old_len)) _ areas (Each P)
    (λ shrinks. cut_each P cuts _ areas each) (λ stays. each))
    (λ more room. put_each P cuts joins (carried_area area (added_range args).lo (added_range args)) areas
    (carries area (added_range args).lo (added_range args) p) each)

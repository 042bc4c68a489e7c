-- What merges leave of a list in order.
use Rattle.std.proofs.Common.{arith, sym, ◌∙◌, ap, ◌⊎◌, inl, inr}
use Rattle.std.proofs.lemmas.Bool.Decides.{nat_tests}
use Rattle.std.specs.Prelude.{ℕ, ◌≡◌, ◌<◌, ◌≤◌, ◌+◌, ◌-◌, Bool, true, false, ◌&&◌, if◌then◌else◌, nat_eq, nat_le, nat_lt, List, Option, Some, None, IfSome, refl}
use Rattle.std.specs.Option.{option_map_or, option_or}
use Rattle.area_list.specs.Areas.{MappedPage, mapped_page}
use Rattle.area_list.proofs.Merging.{Joins, joins_true}
use Rattle.linux_rules.specs.declared.area.AnonVma.{AnonVma}
use Rattle.linux_rules.specs.declared.area.Vma.{Vma}
use Rattle.linux_rules.specs.declared.area.VmFlags.{VmFlags}
use Rattle.linux_rules.specs.declared.kernel.Rules.{Rules}
use Rattle.linux_rules.specs.Areas.{vma_lookup, vma_before, vma_from, without_vma, replaced, lower_part, upper_part}
use Rattle.linux_rules.specs.Merging.{Merged, merges_left, merges_right, is_mergeable_anon, is_mergeable_vma, neighbours_agree, merge_left, right_of, with_anon_of, from_page, merge_new_of, merge_new_range, without_range, merge_existing_of, merge_existing_range, part_with}
use Rattle.linux_beside.specs.Forgetting.{forgotten}
use Rattle.linux_beside.specs.InOrder.{AreInOrder}
use Rattle.linux_beside.proofs.JoinLemmas.{joins_on_the_left, joins_on_the_right}
use Rattle.linux_beside.proofs.PageMaps.{maps_alike, maps_looked, maps_one, maps_same, said}
use Rattle.linux_beside.proofs.SplitLemmas.{has, maps_to, lower_maps, upper_maps}
use Rattle.linux_beside.proofs.LookUps.{IsOneOf, IsReplaced, IsPut, is_replaced, put_over, taken_order, taken_looked, found_in, before_in}

-- a page of an area
pub page_in : (vma : Vma) (page : ℕ) → has vma page ≡ true → (vma.lo ≤ page) × (page < vma.hi)
page_in vma page it = (grind (arith, nat_tests), grind (arith, nat_tests))

-- a page that lies in it
pub lies : (vma : Vma) (page : ℕ) → vma.lo ≤ page → page < vma.hi → has vma page ≡ true
lies vma page above below = grind (arith, nat_tests)

-- or below it, or above it
pub lies_not : (vma : Vma) (page : ℕ) → (page < vma.lo) ⊎ (vma.hi ≤ page) → has vma page ≡ false
lies_not vma page (inl below) = grind (arith, nat_tests)
lies_not vma page (inr above) = grind (arith, nat_tests)

-- a page behind it, or before it
behind : (vma : Vma) (page : ℕ) → vma.lo ≤ page → has vma page ≡ false → vma.hi ≤ page
behind vma page from off = grind (arith, nat_tests)

before : (vma : Vma) (page : ℕ) → page < vma.hi → has vma page ≡ false → page < vma.lo
before vma page below off = grind (arith, nat_tests)

same_page : (a b : ℕ) → nat_eq a b ≡ true → a ≡ b
same_page a b is = grind (arith, nat_tests)

-- a list in order in which no area has a page of a range
pub record HasRoom (lo hi : ℕ) (areas : List Vma) : Type 0 where
  pub order : AreInOrder areas
  pub some : lo < hi
  pub free : (page : ℕ) → lo ≤ page → page < hi → vma_lookup areas page ≡ None

-- the area that ends where the range begins takes it
grown_left : (lo hi : ℕ) (prev joined : Vma) (areas : List Vma) → HasRoom lo hi areas → IsOneOf 0 prev areas → prev.hi ≡ lo
    → joined.lo ≡ prev.lo → joined.hi ≡ hi → IsPut joined areas (replaced prev joined areas)
grown_left lo hi prev joined areas room one touches begin end = let more = one.some in let some = room.some in
    put_over prev joined areas room.order one (omega arith)
    (λ page it. let in_it = page_in prev page it in let a = in_it.0 in let b = in_it.1 in lies joined page (omega arith) (omega arith))
    (λ page it off. let in_it = page_in joined page it in let a = in_it.0 in let b = in_it.1 in
    let past = behind prev page (omega arith) off in room.free page (omega arith) (omega arith))

-- the area that begins where it ends
grown_right : (lo hi : ℕ) (next joined : Vma) (areas : List Vma) → HasRoom lo hi areas → IsOneOf 0 next areas → next.lo ≡ hi
    → joined.lo ≡ lo → joined.hi ≡ next.hi → IsPut joined areas (replaced next joined areas)
grown_right lo hi next joined areas room one touches begin end = let more = one.some in let some = room.some in
    put_over next joined areas room.order one (omega arith)
    (λ page it. let in_it = page_in next page it in let a = in_it.0 in let b = in_it.1 in lies joined page (omega arith) (omega arith))
    (λ page it off. let in_it = page_in joined page it in let a = in_it.0 in let b = in_it.1 in
    let under = before next page (omega arith) off in room.free page (omega arith) (omega arith))

-- or both, and the right one goes
grown_both : (lo hi : ℕ) (prev next joined : Vma) (areas : List Vma) → HasRoom lo hi areas → IsOneOf 0 prev areas → IsOneOf 0 next areas
    → prev.hi ≡ lo → next.lo ≡ hi → joined.lo ≡ prev.lo → joined.hi ≡ next.hi → IsPut joined areas (replaced prev joined (without_vma next.lo areas))
grown_both lo hi prev next joined areas room left right touches reaches begin end =
    record {
      order = put.order;
      some = put.some;
      looked = λ page. put.looked page ∙ (ap (λ (o : Option Vma). if has joined page then Some joined else o) (rest_is page)
          ∙ at page (has joined page) (has next page) refl refl);
    }
  where
    rest : List Vma
    rest = without_vma next.lo areas

    rest_is : (page : ℕ) → vma_lookup rest page ≡ (if has next page then None else vma_lookup areas page)
    rest_is page = taken_looked page next areas room.order right

    left_stays : (page : ℕ) → has prev page ≡ true → vma_lookup rest page ≡ Some prev
    left_stays page it = let in_it = page_in prev page it in let b = in_it.1 in let some = room.some in
        let off = lies_not next page (inl (omega arith)) in rest_is page ∙ (rw off (left.looked page it))

    free_at : (page : ℕ) (test : Bool) → has next page ≡ test → lo ≤ page → page < next.hi → (if test then None else vma_lookup areas page) ≡ None
    free_at page true is from below = refl
    free_at page false is from below = let under = before next page below is in room.free page from (omega arith)

    put : IsPut joined rest (replaced prev joined rest)
    put = let more = right.some in let some = room.some in grown_left lo next.hi prev joined rest
        (record { order = taken_order next areas room.order; some = omega arith; free = λ page from below. rest_is page ∙ free_at page (has next page) refl from below })
        (record { looked = left_stays; from = left.from; some = left.some }) touches begin end

    at : (page : ℕ) (here there : Bool) → has joined page ≡ here → has next page ≡ there
        → (if here then Some joined else (if there then None else vma_lookup areas page)) ≡ (if here then Some joined else vma_lookup areas page)
    at page true there is it = refl
    at page false false is it = refl
    at page false true is it = let in_it = page_in next page it in let a = in_it.0 in let b = in_it.1 in let some = room.some in let more = left.some in
        let on = lies joined page (omega arith) (omega arith) in absurd (cc)

-- an area that a range joins, on its left or on its right
pub record IsLeft (rules : Rules) (new prev : Vma) (from : Option AnonVma) (areas : List Vma) : Type 0 where
  pub one : IsOneOf 0 prev areas
  pub touches : prev.hi ≡ new.lo
  pub merges : merges_left rules prev new from ≡ true

pub record IsRight (rules : Rules) (new next : Vma) (from : Option AnonVma) (areas : List Vma) : Type 0 where
  pub one : IsOneOf 0 next areas
  pub touches : next.lo ≡ new.hi
  pub merges : merges_right rules next new from ≡ true

first_holds : (a b : Bool) → (a && b) ≡ true → a ≡ true
first_holds true b is = refl
first_holds false b is = is

left_is : (rules : Rules) (prev : Option Vma) (new : Vma) (from : Option AnonVma) (areas : List Vma) → IfSome prev (λ v. IsOneOf 0 v areas)
    → IfSome (merge_left rules prev new from) (λ v. IsLeft rules new v from areas)
unfolding merge_left
left_is rules None new from areas one = tt
left_is rules (Some prev) new from areas one = case (merges_left rules prev new from) refl
  where
    case : (test : Bool) → merges_left rules prev new from ≡ test → IfSome (if test then Some prev else None) (λ v. IsLeft rules new v from areas)
    case true is = record { one = one; touches = same_page prev.hi new.lo (first_holds (nat_eq prev.hi new.lo) _ is); merges = is }
    case false is = tt

right_is : (rules : Rules) (left next : Option Vma) (new : Vma) (from : Option AnonVma) (areas : List Vma) → IfSome next (λ v. IsOneOf 0 v areas)
    → IfSome (right_of rules left next new from) (λ v. IsRight rules new v from areas)
unfolding right_of
right_is rules left None new from areas one = tt
right_is rules left (Some next) new from areas one = case (merges_right rules next new from) refl (option_map_or (λ prev. neighbours_agree prev next) left true)
  where
    case : (test : Bool) → merges_right rules next new from ≡ test → (agree : Bool) → IfSome (if test && agree then Some next else None) (λ v. IsRight rules new v from areas)
    case true is true = record { one = one; touches = same_page next.lo new.hi (first_holds (nat_eq next.lo new.hi) _ is); merges = is }
    case true is false = tt
    case false is agree = tt

-- what a merge of a free range left
abbrev pub IsMergedInto : List Vma → Merged → Type 0
IsMergedInto areas merged = IsPut merged.vma areas merged.areas

new_merged : (rules : Rules) (new : Vma) (areas : List Vma) (prev next : Option Vma) (from : Option AnonVma) → HasRoom new.lo new.hi areas
    → IfSome prev (λ v. IsLeft rules new v from areas) → IfSome next (λ v. IsRight rules new v from areas)
    → IfSome (merge_new_of new areas prev next from) (IsMergedInto areas)
new_merged rules new areas None None from room left right = tt
new_merged rules new areas (Some prev) None from room left right =
    grown_left new.lo new.hi prev (with_anon_of (record prev { hi = new.hi }) from) areas room left.one left.touches refl refl
new_merged rules new areas None (Some next) from room left right =
    grown_right new.lo new.hi next (with_anon_of (from_page next new.lo) from) areas room right.one right.touches refl refl
new_merged rules new areas (Some prev) (Some next) from room left right =
    grown_both new.lo new.hi prev next (with_anon_of (with_anon_of (record prev { hi = next.hi }) next.anon) from) areas room left.one right.one
    left.touches right.touches refl refl

-- a free range joins its neighbours
pub merged_new : (rules : Rules) (new : Vma) (areas : List Vma) (prev next : Option Vma) (from : Option AnonVma) → HasRoom new.lo new.hi areas
    → IfSome prev (λ v. IsOneOf 0 v areas) → IfSome next (λ v. IsOneOf 0 v areas)
    → IfSome (merge_new_range rules areas prev next new from) (IsMergedInto areas)
unfolding merge_new_range
merged_new rules new areas prev next from room left right = let l = merge_left rules prev new from in
    new_merged rules new areas l (right_of rules l next new from) from room (left_is rules prev new from areas left) (right_is rules l next new from areas right)

-- the neighbours of a place
pub before_is : (page : ℕ) (areas : List Vma) → AreInOrder areas → IfSome (vma_before areas page) (λ v. IsOneOf 0 v areas)
before_is page areas order = at (vma_before areas page) refl
  where
    at : (found : Option Vma) → vma_before areas page ≡ found → IfSome found (λ v. IsOneOf 0 v areas)
    at None is = tt
    at (Some vma) is = before_in page vma areas order is

pub from_is : (page : ℕ) (areas : List Vma) → AreInOrder areas → IfSome (vma_from areas page) (λ v. IsOneOf 0 v areas)
from_is page areas order = at (vma_from areas page) refl
  where
    at : (found : Option Vma) → vma_from areas page ≡ found → IfSome found (λ v. IsOneOf 0 v areas)
    at None is = tt
    at (Some vma) is = found_in (λ v. nat_le page v.lo) 0 vma areas order is

-- a list without a range that reaches an end of one of its areas
pub record IsWithout (middle : Vma) (lo hi : ℕ) (areas rest : List Vma) : Type 0 where
  pub room : HasRoom lo hi rest
  pub others : (page : ℕ) → has middle page ≡ false → vma_lookup rest page ≡ vma_lookup areas page
  pub maps : (page : ℕ) → (page < lo) ⊎ (hi ≤ page) → maps_to rest page ≡ maps_to areas page

-- the whole area goes
gone_whole : (middle : Vma) (lo hi : ℕ) (areas : List Vma) → AreInOrder areas → IsOneOf 0 middle areas → lo < hi → lo ≡ middle.lo → hi ≡ middle.hi
    → IsWithout middle lo hi areas (without_vma middle.lo areas)
gone_whole middle lo hi areas order one some begins ends = record {
  room = record {
    order = taken_order middle areas order;
    some = some;
    free = λ page above below. let on = lies middle page (omega arith) (omega arith) in taken_looked page middle areas order one ∙ (rw on);
  };
  others = λ page off. taken_looked page middle areas order one ∙ (rw off);
  maps = λ page out. let off = beside page out in maps_same (without_vma middle.lo areas) areas page (taken_looked page middle areas order one ∙ (rw off));
}
  where
    beside : (page : ℕ) → (page < lo) ⊎ (hi ≤ page) → has middle page ≡ false
    beside page (inl below) = lies_not middle page (inl (omega arith))
    beside page (inr above) = lies_not middle page (inr (omega arith))

pub is_without : (middle : Vma) (lo hi : ℕ) (areas : List Vma) → AreInOrder areas → IsOneOf 0 middle areas → middle.lo ≤ lo → lo < hi → hi ≤ middle.hi
    → (lo ≡ middle.lo) ⊎ (hi ≡ middle.hi) → IsWithout middle lo hi areas (without_range middle lo hi areas)
is_without middle lo hi areas order one from some to reaches = case (nat_eq lo middle.lo) (nat_eq hi middle.hi) refl refl
  where
    -- a part of it stays
    kept : (part : Vma) → part.lo < part.hi → middle.lo ≤ part.lo → part.hi ≤ middle.hi → (part.hi ≤ lo) ⊎ (hi ≤ part.lo)
        → ((page : ℕ) → has part page ≡ true → mapped_page page (forgotten part) ≡ mapped_page page (forgotten middle))
        → ((page : ℕ) → has middle page ≡ true → has part page ≡ false → (lo ≤ page) × (page < hi))
        → IsWithout middle lo hi areas (replaced middle part areas)
    kept part more begins ends apart same fills = record {
      room = record { order = done.order; some = some; free = λ page above below. done.looked page ∙ at page above below };
      others = λ page off. done.looked page ∙ far page off;
      maps = λ page out. maps_looked (replaced middle part areas) page ∙ (ap (λ (o : Option Vma). said page o) (done.looked page)
          ∙ stays_mapped page (has part page) (has middle page) refl refl out);
    }
      where
        inside : (page : ℕ) → has part page ≡ true → has middle page ≡ true
        inside page it = let in_it = page_in part page it in let a = in_it.0 in let b = in_it.1 in lies middle page (omega arith) (omega arith)

        not_out : (page : ℕ) → (page < lo) ⊎ (hi ≤ page) → lo ≤ page → page < hi → ⊥
        not_out page (inl below) from to = omega arith
        not_out page (inr above) from to = omega arith

        stays_mapped : (page : ℕ) (here there : Bool) → has part page ≡ here → has middle page ≡ there → (page < lo) ⊎ (hi ≤ page)
            → said page (if here then Some part else (if there then None else vma_lookup areas page)) ≡ maps_to areas page
        stays_mapped page true there it is out = ap (λ (m : MappedPage). Some m) (same page it) ∙ sym (maps_one middle areas page one (inside page it))
        stays_mapped page false false it is out = sym (maps_looked areas page)
        stays_mapped page false true it is out = let in_it = fills page is it in absurd (not_out page out in_it.0 in_it.1)

        done : IsReplaced middle part areas (replaced middle part areas)
        done = is_replaced middle part areas order one more (λ page it off. let on = inside page it in absurd (cc))

        beside : (page : ℕ) → lo ≤ page → page < hi → (part.hi ≤ lo) ⊎ (hi ≤ part.lo) → has part page ≡ false
        beside page above below (inl low) = lies_not part page (inr (omega arith))
        beside page above below (inr high) = lies_not part page (inl (omega arith))

        at : (page : ℕ) → lo ≤ page → page < hi → (if has part page then Some part else (if has middle page then None else vma_lookup areas page)) ≡ None
        at page above below = let off = beside page above below apart in let on = lies middle page (omega arith) (omega arith) in rw (off, on)

        not_part : (page : ℕ) (test : Bool) → has part page ≡ test → has middle page ≡ false → test ≡ false
        not_part page true is off = let on = inside page is in absurd (cc)
        not_part page false is off = refl

        far : (page : ℕ) → has middle page ≡ false
            → (if has part page then Some part else (if has middle page then None else vma_lookup areas page)) ≡ vma_lookup areas page
        far page off = let no = not_part page (has part page) refl off in rw (no, off)

    begins_later : nat_eq lo middle.lo ≡ false → (lo ≡ middle.lo) ⊎ (hi ≡ middle.hi) → (middle.lo < lo) × (hi ≡ middle.hi)
    begins_later is (inl same) = absurd (grind (arith, nat_tests))
    begins_later is (inr same) = (grind (arith, nat_tests), same)

    case : (begins ends : Bool) → nat_eq lo middle.lo ≡ begins → nat_eq hi middle.hi ≡ ends → IsWithout middle lo hi areas
        (if begins then (if ends then without_vma middle.lo areas else replaced middle (upper_part middle hi) areas) else replaced middle (lower_part middle lo) areas)
    case true true is it = gone_whole middle lo hi areas order one some (same_page lo middle.lo is) (same_page hi middle.hi it)
    case true false is it = let below : hi < middle.hi = grind (arith, nat_tests) in let begins = same_page lo middle.lo is in
        kept (upper_part middle hi) below (omega arith) (omega arith) (inr (omega arith))
        (λ page on. let from = (page_in (upper_part middle hi) page on).0 in upper_maps middle hi page (omega arith) from)
        (λ page on off. let in_it = page_in middle page on in let a = in_it.0 in let b = in_it.1 in let under = before (upper_part middle hi) page b off in
        (omega arith, under))
    case false ends is it = let later = begins_later is reaches in let above = later.0 in let reached = later.1 in
        kept (lower_part middle lo) above (omega arith) (omega arith) (inl (omega arith))
        (λ page on. lower_maps middle lo page)
        (λ page on off. let in_it = page_in middle page on in let a = in_it.0 in let b = in_it.1 in let past = behind (lower_part middle lo) page a off in
        (past, omega arith))

-- what a merge of a range of an area left: the area that has the range, in the list without the range
pub record IsMergedOver (middle : Vma) (lo hi : ℕ) (areas : List Vma) (merged : Merged) : Type 0 where
  pub rest : List Vma
  pub without : IsWithout middle lo hi areas rest
  pub put : IsPut merged.vma rest merged.areas
  pub covers : (merged.vma.lo ≤ lo) × (hi ≤ merged.vma.hi)

-- another area than the middle is in the list without the range
stays : (middle vma : Vma) (lo hi : ℕ) (areas rest : List Vma) → IsWithout middle lo hi areas rest → IsOneOf 0 vma areas → (vma.hi ≤ middle.lo) ⊎ (middle.hi ≤ vma.lo)
    → IsOneOf 0 vma rest
stays middle vma lo hi areas rest cut one apart = record { looked = λ page it. cut.others page (off page it apart) ∙ one.looked page it; from = one.from; some = one.some }
  where
    off : (page : ℕ) → has vma page ≡ true → (vma.hi ≤ middle.lo) ⊎ (middle.hi ≤ vma.lo) → has middle page ≡ false
    off page it (inl low) = let in_it = page_in vma page it in let b = in_it.1 in lies_not middle page (inl (omega arith))
    off page it (inr high) = let in_it = page_in vma page it in let a = in_it.0 in lies_not middle page (inr (omega arith))

-- a neighbour that is asked only where the range reaches that end of the area
pub record IsLeftOf (rules : Rules) (middle new : Vma) (areas : List Vma) (prev : Vma) : Type 0 where
  pub is : IsLeft rules new prev middle.anon areas
  pub begins : new.lo ≡ middle.lo

pub record IsRightOf (rules : Rules) (middle new : Vma) (areas : List Vma) (next : Vma) : Type 0 where
  pub is : IsRight rules new next middle.anon areas
  pub ends : new.hi ≡ middle.hi

asked_left : (rules : Rules) (middle new : Vma) (areas : List Vma) (prev : Option Vma) → IfSome prev (λ v. IsOneOf 0 v areas)
    → IfSome (merge_left rules (if nat_eq new.lo middle.lo then prev else None) new middle.anon) (IsLeftOf rules middle new areas)
unfolding merge_left
asked_left rules middle new areas prev one = case (nat_eq new.lo middle.lo) refl
  where
    found : new.lo ≡ middle.lo → (o : Option Vma) → IfSome o (λ v. IsLeft rules new v middle.anon areas) → IfSome o (IsLeftOf rules middle new areas)
    found same None is = tt
    found same (Some v) is = record { is = is; begins = same }

    case : (test : Bool) → nat_eq new.lo middle.lo ≡ test → IfSome (merge_left rules (if test then prev else None) new middle.anon) (IsLeftOf rules middle new areas)
    case true is = found (same_page new.lo middle.lo is) (merge_left rules prev new middle.anon) (left_is rules prev new middle.anon areas one)
    case false is = tt

asked_right : (rules : Rules) (left : Option Vma) (middle new : Vma) (areas : List Vma) (next : Option Vma) → IfSome next (λ v. IsOneOf 0 v areas)
    → IfSome (right_of rules left (if nat_eq new.hi middle.hi then next else None) new middle.anon) (IsRightOf rules middle new areas)
unfolding right_of
asked_right rules left middle new areas next one = case (nat_eq new.hi middle.hi) refl
  where
    found : new.hi ≡ middle.hi → (o : Option Vma) → IfSome o (λ v. IsRight rules new v middle.anon areas) → IfSome o (IsRightOf rules middle new areas)
    found same None is = tt
    found same (Some v) is = record { is = is; ends = same }

    case : (test : Bool) → nat_eq new.hi middle.hi ≡ test → IfSome (right_of rules left (if test then next else None) new middle.anon) (IsRightOf rules middle new areas)
    case true is = found (same_page new.hi middle.hi is) (right_of rules left next new middle.anon) (right_is rules left next new middle.anon areas one)
    case false is = tt

existing_merged : (rules : Rules) (middle new : Vma) (areas : List Vma) (prev next : Option Vma) → AreInOrder areas → IsOneOf 0 middle areas
    → middle.lo ≤ new.lo → new.lo < new.hi → new.hi ≤ middle.hi
    → IfSome prev (IsLeftOf rules middle new areas) → IfSome next (IsRightOf rules middle new areas)
    → IfSome (merge_existing_of middle new.lo new.hi areas prev next) (IsMergedOver middle new.lo new.hi areas)
existing_merged rules middle new areas None None order one from some to left right = tt
existing_merged rules middle new areas (Some prev) None order one from some to left right =
    let rest = without_range middle new.lo new.hi areas in let touches = left.is.touches in let begins = left.begins in let more = left.is.one.some in
    let cut = is_without middle new.lo new.hi areas order one from some to (inl begins) in record {
      rest = rest;
      without = cut;
      put = grown_left new.lo new.hi prev (with_anon_of (record prev { hi = new.hi }) middle.anon) rest cut.room
          (stays middle prev new.lo new.hi areas rest cut left.is.one (inl (omega arith))) touches refl refl;
      covers = (omega arith, omega arith);
    }
existing_merged rules middle new areas None (Some next) order one from some to left right =
    let rest = without_range middle new.lo new.hi areas in let touches = right.is.touches in let ends = right.ends in let more = right.is.one.some in
    let cut = is_without middle new.lo new.hi areas order one from some to (inr ends) in record {
      rest = rest;
      without = cut;
      put = grown_right new.lo new.hi next (with_anon_of (from_page next new.lo) middle.anon) rest cut.room
          (stays middle next new.lo new.hi areas rest cut right.is.one (inr (omega arith))) touches refl refl;
      covers = (omega arith, omega arith);
    }
existing_merged rules middle new areas (Some prev) (Some next) order one from some to left right =
    let rest = without_vma middle.lo areas in let touches = left.is.touches in let reaches = right.is.touches in let begins = left.begins in let ends = right.ends in
    let more = left.is.one.some in let much = right.is.one.some in
    let cut = gone_whole middle new.lo new.hi areas order one some begins ends in record {
      rest = rest;
      without = cut;
      put = grown_both new.lo new.hi prev next (with_anon_of (record prev { hi = next.hi }) (option_or next.anon middle.anon)) rest cut.room
          (stays middle prev new.lo new.hi areas rest cut left.is.one (inl (omega arith)))
          (stays middle next new.lo new.hi areas rest cut right.is.one (inr (omega arith))) touches reaches refl refl;
      covers = (omega arith, omega arith);
    }

-- a range of an area, with other flags, joins its neighbours
pub merged_existing : (rules : Rules) (areas : List Vma) (middle : Vma) (lo hi : ℕ) (flags : VmFlags) → AreInOrder areas → IsOneOf 0 middle areas
    → middle.lo ≤ lo → lo < hi → hi ≤ middle.hi
    → IfSome (merge_existing_range rules areas (vma_before areas lo) middle lo hi flags) (IsMergedOver middle lo hi areas)
unfolding merge_existing_range
merged_existing rules areas middle lo hi flags order one from some to =
    let new = part_with middle lo hi flags in
    let left = merge_left rules (if nat_eq lo middle.lo then vma_before areas lo else None) new middle.anon in
    let right = right_of rules left (if nat_eq hi middle.hi then vma_from areas hi else None) new middle.anon in
    existing_merged rules middle new areas left right order one from some to
    (asked_left rules middle new areas (vma_before areas lo) (before_is lo areas order))
    (asked_right rules left middle new areas (vma_from areas hi) (from_is hi areas order))

-- an area that a range joined: it maps the range as that would alone, and its other pages as the list did
pub record Carries (new : Vma) (areas : List Vma) (vma : Vma) : Type 0 where
  pub attr : (forgotten vma).attr ≡ (forgotten new).attr
  pub pages : (page : ℕ) → has vma page ≡ true
      → Some (mapped_page page (forgotten vma)) ≡ (if has new page then Some (mapped_page page (forgotten new)) else maps_to areas page)

fourth_holds : (a b c d : Bool) → (a && (b && (c && d))) ≡ true → d ≡ true
fourth_holds true true true d is = is
fourth_holds true true false d is = absurd (cc)
fourth_holds true false c d is = absurd (cc)
fourth_holds false b c d is = absurd (cc)

-- what tests of a merge say
left_facts : (rules : Rules) (new prev : Vma) (from : Option AnonVma) (areas : List Vma) → IsLeft rules new prev from areas
    → Joins (forgotten prev) (forgotten new) × (prev.pgoff + (prev.hi - prev.lo) ≡ new.pgoff)
left_facts rules new prev from areas is = (
  joins_true (forgotten prev) (forgotten new) (joins_on_the_left rules prev new from is.merges),
  same_page (prev.pgoff + (prev.hi - prev.lo)) new.pgoff (fourth_holds (nat_eq prev.hi new.lo) (is_mergeable_vma prev new) (is_mergeable_anon rules prev new from) _ is.merges),
)

right_facts : (rules : Rules) (new next : Vma) (from : Option AnonVma) (areas : List Vma) → IsRight rules new next from areas
    → Joins (forgotten new) (forgotten next) × (next.pgoff ≡ new.pgoff + (new.hi - new.lo))
right_facts rules new next from areas is = (
  joins_true (forgotten new) (forgotten next) (joins_on_the_right rules next new from is.merges),
  same_page next.pgoff (new.pgoff + (new.hi - new.lo)) (fourth_holds (nat_eq next.lo new.hi) (is_mergeable_vma next new) (is_mergeable_anon rules next new from) _ is.merges),
)

-- each page of such an area is of the range, or of an area beside it
carries : (new vma : Vma) (areas : List Vma) → (forgotten vma).attr ≡ (forgotten new).attr → vma.file ≡ new.file
    → ((page : ℕ) → new.lo ≤ page → page < new.hi → vma.pgoff + (page - vma.lo) ≡ new.pgoff + (page - new.lo))
    → ((page : ℕ) → has vma page ≡ true → has new page ≡ false → Some (mapped_page page (forgotten vma)) ≡ maps_to areas page) → Carries new areas vma
carries new vma areas attr file runs others = record { attr = attr; pages = λ page it. at page (has new page) refl it }
  where
    at : (page : ℕ) (here : Bool) → has new page ≡ here → has vma page ≡ true
        → Some (mapped_page page (forgotten vma)) ≡ (if here then Some (mapped_page page (forgotten new)) else maps_to areas page)
    at page true on it = let in_it = page_in new page on in ap (λ (m : MappedPage). Some m) (maps_alike vma new page attr file (runs page in_it.0 in_it.1))
    at page false on it = others page it on

-- a page of a neighbour, which the area maps as that did
beside_maps : (vma other : Vma) (areas : List Vma) (page : ℕ) → IsOneOf 0 other areas → other.lo ≤ page → page < other.hi
    → (forgotten vma).attr ≡ (forgotten other).attr → vma.file ≡ other.file → vma.pgoff + (page - vma.lo) ≡ other.pgoff + (page - other.lo)
    → Some (mapped_page page (forgotten vma)) ≡ maps_to areas page
beside_maps vma other areas page one from to attr file runs =
    ap (λ (m : MappedPage). Some m) (maps_alike vma other page attr file runs) ∙ sym (maps_one other areas page one (lies other page from to))

existing_carries : (rules : Rules) (middle new : Vma) (areas : List Vma) (prev next : Option Vma) → new.lo < new.hi
    → IfSome prev (IsLeftOf rules middle new areas) → IfSome next (IsRightOf rules middle new areas)
    → IfSome (merge_existing_of middle new.lo new.hi areas prev next) (λ merged. Carries new areas merged.vma)
existing_carries rules middle new areas None None some left right = tt
existing_carries rules middle new areas (Some prev) None some left right = let facts = left_facts rules new prev middle.anon areas left.is in
    let touches = left.is.touches in let runs = facts.1 in let more = left.is.one.some in
    let vma = with_anon_of (record prev { hi = new.hi }) middle.anon in
    carries new vma areas facts.0.attr facts.0.object (λ page from to. omega arith)
    (λ page it off. let in_it = page_in vma page it in let a = in_it.0 in let b = in_it.1 in let under = before new page b off in
    beside_maps vma prev areas page left.is.one a (omega arith) refl refl refl)
existing_carries rules middle new areas None (Some next) some left right = let facts = right_facts rules new next middle.anon areas right.is in
    let touches = right.is.touches in let runs = facts.1 in let more = right.is.one.some in
    let vma = with_anon_of (from_page next new.lo) middle.anon in
    carries new vma areas (sym facts.0.attr) (sym facts.0.object) (λ page from to. omega arith)
    (λ page it off. let in_it = page_in vma page it in let a = in_it.0 in let b = in_it.1 in let past = behind new page a off in
    beside_maps vma next areas page right.is.one (omega arith) b refl refl (omega arith))
existing_carries rules middle new areas (Some prev) (Some next) some left right = let facts = left_facts rules new prev middle.anon areas left.is in
    let others = right_facts rules new next middle.anon areas right.is in
    let touches = left.is.touches in let runs = facts.1 in let more = left.is.one.some in
    let reaches = right.is.touches in let goes = others.1 in let much = right.is.one.some in
    let vma = with_anon_of (record prev { hi = next.hi }) (option_or next.anon middle.anon) in
    carries new vma areas facts.0.attr facts.0.object (λ page from to. omega arith)
    (λ page it off. let in_it = page_in vma page it in let a = in_it.0 in let b = in_it.1 in
    either page a b off (nat_lt page new.lo) refl)
  where
    facts : Joins (forgotten prev) (forgotten new) × (prev.pgoff + (prev.hi - prev.lo) ≡ new.pgoff)
    facts = left_facts rules new prev middle.anon areas left.is

    others : Joins (forgotten new) (forgotten next) × (next.pgoff ≡ new.pgoff + (new.hi - new.lo))
    others = right_facts rules new next middle.anon areas right.is

    vma : Vma
    vma = with_anon_of (record prev { hi = next.hi }) (option_or next.anon middle.anon)

    either : (page : ℕ) → prev.lo ≤ page → page < next.hi → has new page ≡ false → (low : Bool) → nat_lt page new.lo ≡ low
        → Some (mapped_page page (forgotten vma)) ≡ maps_to areas page
    either page from to off true is = let under : page < new.lo = grind (arith, nat_tests) in let touches = left.is.touches in
        beside_maps vma prev areas page left.is.one from (omega arith) refl refl refl
    either page from to off false is = let above : new.lo ≤ page = grind (arith, nat_tests) in let past = behind new page above off in
        let touches = left.is.touches in let runs = facts.1 in let more = left.is.one.some in
        let reaches = right.is.touches in let goes = others.1 in let much = right.is.one.some in
        beside_maps vma next areas page right.is.one (omega arith) to (facts.0.attr ∙ others.0.attr) (facts.0.object ∙ others.0.object) (omega arith)

pub merged_carries : (rules : Rules) (areas : List Vma) (middle : Vma) (lo hi : ℕ) (flags : VmFlags) → AreInOrder areas → IsOneOf 0 middle areas → lo < hi
    → IfSome (merge_existing_range rules areas (vma_before areas lo) middle lo hi flags) (λ merged. Carries (part_with middle lo hi flags) areas merged.vma)
unfolding merge_existing_range
merged_carries rules areas middle lo hi flags order one some =
    let new = part_with middle lo hi flags in
    let left = merge_left rules (if nat_eq lo middle.lo then vma_before areas lo else None) new middle.anon in
    let right = right_of rules left (if nat_eq hi middle.hi then vma_from areas hi else None) new middle.anon in
    existing_carries rules middle new areas left right some
    (asked_left rules middle new areas (vma_before areas lo) (before_is lo areas order))
    (asked_right rules left middle new areas (vma_from areas hi) (from_is hi areas order))

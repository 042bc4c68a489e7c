-- What munmap leaves of a list in order.
use Rattle.std.proofs.Common.{arith, sym, subst, ap, ◌∙◌}
use Rattle.std.proofs.lemmas.Bool.Decides.{nat_tests}
use Rattle.std.specs.Prelude.{ℕ, ◌≡◌, ◌<◌, ◌≤◌, ◌+◌, ◌-◌, ◌/◌, ◌^◌, Bool, true, false, not, ◌&&◌, ◌||◌, if◌then◌else◌, nat_eq, nat_le, nat_lt, List, filter, Option, Some, None, Result, Ok, Err, refl}
use Rattle.std.specs.List.{list_any}
use Rattle.mm_types.specs.declared.config.TheConstants.{PAGE_SIZE}
use Rattle.area_list.specs.Areas.{MappedPage, has_page}
use Rattle.area_list.proofs.Finding.{find_passes}
use Rattle.area_rules.specs.Munmap.{range_of}
use Rattle.area_rules.specs.Tables as tables
use Rattle.area_rules.proofs.PageLaws.{unmapped_pages}
use Rattle.linux_rules.specs.declared.area.Vma.{Vma}
use Rattle.linux_rules.specs.declared.errors.TheConstants.{EPERM, ENOMEM, EINVAL}
use Rattle.linux_rules.specs.declared.kernel.Kernel.{Kernel}
use Rattle.linux_rules.specs.Areas.{vma_lookup, vmas_in, split_at, at_limit, pages_of, is_aligned}
use Rattle.linux_rules.specs.Doing.{LinuxSpace, Did, Doing, ◌>>=◌, ◌>>◌, go_on, done, refuse_if, areas_now}
use Rattle.linux_rules.specs.Munmap.{split_first, split_last, to_each, gather_vmas, remove, is_bad_range, munmap}
use Rattle.linux_beside.specs.InOrder.{AreInOrder, AreInOrderFrom}
use Rattle.linux_beside.specs.Unmapping.{UnmapsItsRange, RefusedKeepsPages, UnmapsAsProfile}
use Rattle.linux_beside.proofs.SplitLemmas.{NoneAcross, has, maps_to, split_order, split_maps}
use Rattle.linux_beside.proofs.RemovalLemmas.{removed, lies_in, filter_order, removed_is, filter_maps, none_across, found_across, split_across, split_keeps}

-- what a step did that may split an area at a page: where it succeeds, none lies across that page
pub record IsCut (space : LinuxSpace) (page : ℕ) (did : Did Unit) : Type 0 where
  pub order : AreInOrder did.space.areas
  pub maps : (other : ℕ) → maps_to did.space.areas other ≡ maps_to space.areas other
  pub kept : (other : ℕ) → NoneAcross other space.areas → NoneAcross other did.space.areas
  pub none : did.result ≡ Ok tt → NoneAcross page did.space.areas

-- refused
cut_refused : (space : LinuxSpace) (page error : ℕ) → AreInOrder space.areas → IsCut space page (record { space = space; result = Err error })
cut_refused space page error order = record { order = order; maps = λ other. refl; kept = λ other none. none; none = λ is. absurd (cc) }

-- nothing to split
cut_already : (space : LinuxSpace) (page : ℕ) → AreInOrder space.areas → NoneAcross page space.areas → IsCut space page (done tt space)
cut_already space page order none = record { order = order; maps = λ other. refl; kept = λ other none. none; none = λ is. none }

-- split
cut_split : (space : LinuxSpace) (at page : ℕ) (vma : Vma) → AreInOrder space.areas → at ≤ page → page ≤ at + 1 → vma_lookup space.areas at ≡ Some vma
    → vma.lo < page → page < vma.hi → IsCut space page ((split_at vma page >>= (λ upper. done tt)) space)
cut_split space at page vma order near far found above below = record {
  order = split_order 0 at page space.areas vma order found above below;
  maps = λ other. split_maps 0 at page other space.areas vma order found above below;
  kept = λ other none. split_keeps 0 at page other space.areas vma order found above below none;
  none = λ is. split_across 0 at page space.areas vma order near far found above below;
}

-- the area that is looked up has the page
pub looked_up : (areas : List Vma) (page : ℕ) (vma : Vma) → vma_lookup areas page ≡ Some vma → (vma.lo ≤ page) × (page < vma.hi)
looked_up areas page vma found = let passes : has vma page ≡ true = find_passes (λ (v : Vma). has v page) areas vma found in
    (grind (arith, nat_tests), grind (arith, nat_tests))

-- where the range begins
cut_first : (kernel : Kernel) (lo hi : ℕ) (space : LinuxSpace) → AreInOrder space.areas
    → IsCut space lo (to_each (split_first kernel lo hi) (vma_lookup space.areas lo) space)
unfolding split_first
cut_first kernel lo hi space order = at (vma_lookup space.areas lo) refl
  where
    tested : (vma : Vma) (limit sealed : Bool) → vma_lookup space.areas lo ≡ Some vma → vma.lo < lo → lo < vma.hi
        → IsCut space lo ((refuse_if limit ENOMEM >> (refuse_if sealed EPERM >> (split_at vma lo >>= (λ upper. done tt)))) space)
    tested vma true sealed found above below = cut_refused space lo ENOMEM order
    tested vma false true found above below = cut_refused space lo EPERM order
    tested vma false false found above below = cut_split space lo lo vma order (omega arith) (omega arith) found above below

    within : (vma : Vma) (begins : Bool) → vma_lookup space.areas lo ≡ Some vma → nat_le lo vma.lo ≡ begins
        → IsCut space lo ((if begins then done tt else (areas_now >>= (λ areas. refuse_if (nat_lt hi vma.hi && at_limit kernel areas) ENOMEM
        >> (refuse_if vma.flags.sealed EPERM >> (split_at vma lo >>= (λ upper. done tt)))))) space)
    within vma true found is = let from : lo ≤ vma.lo = grind (arith, nat_tests) in
        cut_already space lo order (found_across 0 lo lo space.areas vma order (omega arith) (omega arith) found (λ below. absurd (omega arith)))
    within vma false found is = let inside = looked_up space.areas lo vma found in
        tested vma (nat_lt hi vma.hi && at_limit kernel space.areas) vma.flags.sealed found (grind (arith, nat_tests)) inside.1

    at : (found : Option Vma) → vma_lookup space.areas lo ≡ found → IsCut space lo (to_each (split_first kernel lo hi) found space)
    at None is = cut_already space lo order (none_across 0 lo lo space.areas order (omega arith) (omega arith) is)
    at (Some vma) is = within vma (nat_le lo vma.lo) is refl

-- where it ends
cut_last : (hi : ℕ) (space : LinuxSpace) → 0 < hi → AreInOrder space.areas → IsCut space hi (to_each (split_last hi) (vma_lookup space.areas (hi - 1)) space)
unfolding split_last
cut_last hi space some order = at (vma_lookup space.areas (hi - 1)) refl
  where
    within : (vma : Vma) (ends : Bool) → vma_lookup space.areas (hi - 1) ≡ Some vma → nat_le vma.hi hi ≡ ends
        → IsCut space hi ((if ends then done tt else (split_at vma hi >>= (λ upper. done tt))) space)
    within vma true found is = let under : vma.hi ≤ hi = grind (arith, nat_tests) in
        cut_already space hi order (found_across 0 (hi - 1) hi space.areas vma order (omega arith) (omega arith) found (λ below. under))
    within vma false found is = let inside = looked_up space.areas (hi - 1) vma found in let begins = inside.0 in
        cut_split space (hi - 1) hi vma order (omega arith) (omega arith) found (omega arith) (grind (arith, nat_tests))

    at : (found : Option Vma) → vma_lookup space.areas (hi - 1) ≡ found → IsCut space hi (to_each (split_last hi) found space)
    at None is = cut_already space hi order (none_across 0 (hi - 1) hi space.areas order (omega arith) (omega arith) is)
    at (Some vma) is = within vma (nat_le vma.hi hi) is refl

-- what gather did: it returns the areas of the range, and none lies across its ends
pub record IsGathered (lo hi : ℕ) (space : LinuxSpace) (did : Did (List Vma)) : Type 0 where
  pub order : AreInOrder did.space.areas
  pub maps : (page : ℕ) → maps_to did.space.areas page ≡ maps_to space.areas page
  pub gone : (list : List Vma) → did.result ≡ Ok list → (list ≡ vmas_in did.space.areas lo hi) × NoneAcross lo did.space.areas × NoneAcross hi did.space.areas

pub gathered : (kernel : Kernel) (lo hi : ℕ) (space : LinuxSpace) → 0 < hi → AreInOrder space.areas → IsGathered lo hi space (gather_vmas kernel lo hi space)
unfolding gather_vmas
gathered kernel lo hi space some order = after first.result refl
  where
    first : Did Unit
    first = to_each (split_first kernel lo hi) (vma_lookup space.areas lo) space

    cut : IsCut space lo first
    cut = cut_first kernel lo hi space order

    second : Did Unit
    second = to_each (split_last hi) (vma_lookup first.space.areas (hi - 1)) first.space

    again : IsCut first.space hi second
    again = cut_last hi first.space some cut.order

    found : Doing (List Vma)
    found = areas_now >>= (λ areas. done (vmas_in areas lo hi))

    last : (r : Result Unit ℕ) → second.result ≡ r → NoneAcross lo first.space.areas → IsGathered lo hi space (go_on second.space r (λ value. found))
    last (Err error) is none = record { order = again.order; maps = λ page. again.maps page ∙ cut.maps page; gone = λ list same. absurd (cc) }
    last (Ok value) is none = record {
      order = again.order;
      maps = λ page. again.maps page ∙ cut.maps page;
      gone = λ list same. ((cc), again.kept lo none, again.none is);
    }

    sealed : (test : Bool) → NoneAcross lo first.space.areas
        → IsGathered lo hi space ((refuse_if test EPERM >> (to_each (split_last hi) (vma_lookup first.space.areas (hi - 1)) >> found)) first.space)
    sealed true none = record { order = cut.order; maps = cut.maps; gone = λ list same. absurd (cc) }
    sealed false none = last second.result refl none

    after : (r : Result Unit ℕ) → first.result ≡ r → IsGathered lo hi space (go_on first.space r (λ value. areas_now >>= (λ areas.
        refuse_if (list_any (λ vma. vma.flags.sealed) (vmas_in areas lo hi)) EPERM >> (to_each (split_last hi) (vma_lookup areas (hi - 1)) >> found))))
    after (Err error) is = record { order = cut.order; maps = cut.maps; gone = λ list same. absurd (cc) }
    after (Ok value) is = sealed (list_any (λ vma. vma.flags.sealed) (vmas_in first.space.areas lo hi)) (cut.none is)

-- what munmap of some pages did
pub record IsUnmapped (lo pages : ℕ) (space : LinuxSpace) (did : Did Unit) : Type 0 where
  pub order : AreInOrder did.space.areas
  pub some : did.result ≡ Ok tt → 0 < pages
  pub unmaps : (page : ℕ) → did.result ≡ Ok tt → maps_to did.space.areas page ≡ (if nat_le lo page && nat_lt page (lo + pages) then None else maps_to space.areas page)
  pub keeps : (page error : ℕ) → did.result ≡ Err error → maps_to did.space.areas page ≡ maps_to space.areas page

last_false : (a b c d : Bool) → (a || (b || (c || d))) ≡ false → d ≡ false
last_false false false false d is = is
last_false true b c d is = absurd (cc)
last_false false true c d is = absurd (cc)
last_false false false true d is = absurd (cc)

some_pages : (kernel : Kernel) (addr len : ℕ) → is_bad_range kernel addr len ≡ false → 0 < pages_of len
unfolding is_bad_range
some_pages kernel addr len is = let none : nat_eq (pages_of len) 0 ≡ false = last_false (not (is_aligned addr)) (nat_lt kernel.config.limit addr)
    (nat_lt (kernel.config.limit - addr) len) (nat_eq (pages_of len) 0) is in grind (arith, nat_tests)

pub unmapped : (kernel : Kernel) (space : LinuxSpace) (addr len : ℕ) → AreInOrder space.areas
    → IsUnmapped (addr / PAGE_SIZE) (pages_of len) space (munmap kernel addr len space)
unfolding munmap
unmapped kernel space addr len order = tested (is_bad_range kernel addr len) refl
  where
    lo : ℕ
    lo = addr / PAGE_SIZE

    pages : ℕ
    pages = pages_of len

    got : Did (List Vma)
    got = gather_vmas kernel lo (lo + pages) space

    after : IsGathered lo (lo + pages) space got → 0 < pages → (r : Result (List Vma) ℕ) → got.result ≡ r → IsUnmapped lo pages space (go_on got.space r remove)
    after did some (Err error) is =
        record { order = did.order; some = λ same. some; unmaps = λ page same. absurd (cc); keeps = λ page other same. did.maps page }
    after did some (Ok gone) is = let facts = did.gone gone is in
        let same : removed gone got.space.areas ≡ filter (λ vma. not (lies_in lo (lo + pages) vma)) got.space.areas =
        ap (λ (list : List Vma). removed list got.space.areas) facts.0 ∙ removed_is lo (lo + pages) 0 got.space.areas did.order in
        record {
          order = subst (λ (list : List Vma). AreInOrderFrom 0 list) (sym same)
              (filter_order (λ vma. not (lies_in lo (lo + pages) vma)) 0 got.space.areas did.order);
          some = λ same. some;
          unmaps = λ page ok. ap (λ (list : List Vma). maps_to list page) same
              ∙ (filter_maps lo (lo + pages) 0 page got.space.areas did.order facts.1 facts.2
              ∙ ap (λ (o : Option MappedPage). if nat_le lo page && nat_lt page (lo + pages) then None else o) (did.maps page));
          keeps = λ page error refused. absurd (cc);
        }

    tested : (bad : Bool) → is_bad_range kernel addr len ≡ bad
        → IsUnmapped lo pages space ((refuse_if bad EINVAL >> (gather_vmas kernel lo (lo + pages) >>= remove)) space)
    tested true is = record { order = order; some = λ same. absurd (cc); unmaps = λ page same. absurd (cc); keeps = λ page error same. refl }
    tested false is = let some = some_pages kernel addr len is in
        after (gathered kernel lo (lo + pages) space (omega arith) order) some got.result refl

-- a length that is not refused doesn't wrap
pub same_length : (len : ℕ) → len < 2 ^ 64 → 0 < pages_of len → pages_of len ≡ tables.pages_of len
unfolding pages_of tables.pages_of
same_length len small some = omega arith

pub keeps_order : (kernel : Kernel) (space : LinuxSpace) (addr len : ℕ) → AreInOrder space.areas → AreInOrder (munmap kernel addr len space).space.areas
keeps_order kernel space addr len order = (unmapped kernel space addr len order).order

pub unmaps_its_range : UnmapsItsRange
unfolding range_of
unmaps_its_range kernel space addr len page order small ok = let did = unmapped kernel space addr len order in
    did.unmaps page ok ∙ ap (λ (pages : ℕ). if nat_le (addr / PAGE_SIZE) page && nat_lt page (addr / PAGE_SIZE + pages) then None else maps_to space.areas page)
    (same_length len small (did.some ok))

pub refused_keeps_pages : RefusedKeepsPages
refused_keeps_pages kernel space addr len page error order refused = (unmapped kernel space addr len order).keeps page error refused

pub unmaps_as_profile : UnmapsAsProfile
unmaps_as_profile kernel config space other addr len order small same ok zero = λ page.
    unmaps_its_range kernel space addr len page order small ok
    ∙ (ap (λ (o : Option MappedPage). if has_page (range_of addr len) page then None else o) (same page)
    ∙ sym (unmapped_pages config other addr len page zero))

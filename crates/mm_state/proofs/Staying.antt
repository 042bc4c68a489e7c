-- For `AreaStore::enter`: an area of the list before and after a call keeps its slot.
use Rattle.std.proofs.Common.{◌≡◌, ◌≢◌, ◌<◌, ◌≤◌, ℕ, suc, Bool, true, false, List, [], ◌∷◌, ◌++◌, get_or, All, AllPairs, Contains, refl, sym, ap, ◌∙◌, subst, ◌⊎◌, inl, inr, arith}
use Rattle.std.proofs.lemmas.Bool.{cases_eq, cases_lt}
use Rattle.std.proofs.lemmas.Bool.Decides.{nat_tests}
use Rattle.std.proofs.lemmas.List.{length-map, get_or-map}
use Rattle.std.proofs.lemmas.List.Elements.{All-contains, Contains-append_left, Contains-append_right, Contains-get_or, recursion_from_All}
use Rattle.std.proofs.lemmas.List.Sums.{sum_by-cons}
use Rattle.std.proofs.lemmas.List.Sorted.{Contains-permutation, IsPermutation-insert, IsPermutation-sym}
use Rattle.std.specs.List.{insert}
use Rattle.mm_types.specs.declared.area.Record.{Record}
use Rattle.mm_types.specs.Packed.{packed}
use Rattle.area_list.specs.Changes.{insert_area}
use Rattle.lock_core.specs.declared.stage.SlotState.{SlotState}
use Rattle.lock_core.specs.Core.{slot_at}
use Rattle.split_merge.specs.declared.plan.Change.{Change}
use Rattle.split_merge.specs.Plans.{olds_of, news_of, starts_alike, without, with_all, applied, IsPlanOf, IsReal}
use Rattle.split_merge.proofs.Counting.{contains_cases}
use Rattle.split_merge.specs.Sorted.{begins_below, BeginsAscend}
use Rattle.split_merge.proofs.Going.{insert_is, contains_without}
use Rattle.area_slots.specs.Slots.{SlotSet, one_at}
use Rattle.vma_lock.specs.Seats.{slots}
use Rattle.area_tree.specs.declared.shown.ShownArea.{ShownArea}
use Rattle.area_tree.specs.AreaTrees.{shown_of, areas_of, areas_shown, times_shown}
use Rattle.mm_state.specs.declared.store.AreaStore.{AreaStore}
use Rattle.mm_state.specs.Shelves.{ShowsIt, Hangs}
use Rattle.mm_state.specs.States.{KeepsSlots}
use Rattle.mm_state.specs.Internal.AreaStores.{IsPackable, IsAreaShown, IsStill, IsChanging}
use Rattle.mm_state.proofs.Rows.{packed_same, not_packed}

-- in a list that ascends by a number, an element is told by its number
once : {X : Type 0} (key : X → ℕ) (xs : List X) → AllPairs (λ a b. key a < key b) xs → (a b : X) → Contains xs a → Contains xs b → key a ≡ key b → a ≡ b
once key [] ascend a b first second same = absurd (omega (arith, first.1))
once {X} key (x ∷ xs) ascend a b first second same = by (contains_cases x xs a first) (contains_cases x xs b second)
    (λ more later. once key xs (λ i j d before within. ascend (suc i) (suc j) d (omega (arith, before)) (omega (arith, within))) a b more later same)
  where
    above : All (λ y. key x < key y) xs
    above k d within = ascend 0 (suc k) d (omega arith) (omega (arith, within))

    by : (x ≡ a) ⊎ Contains xs a → (x ≡ b) ⊎ Contains xs b → (Contains xs a → Contains xs b → a ≡ b) → a ≡ b
    by (inl here) (inl too) rest = sym here ∙ too
    by (inl here) (inr later) rest = absurd (omega (arith, All-contains (λ y. key x < key y) xs b above later, ap key here, same))
    by (inr later) (inl here) rest = absurd (omega (arith, All-contains (λ y. key x < key y) xs a above later, ap key here, same))
    by (inr more) (inr later) rest = rest more later

-- what is in a list with some areas more is one of them, or was in the list
in_with_all : (news areas : List Record) (area : Record) → Contains (with_all news areas) area → Contains news area ⊎ Contains areas area
in_with_all [] areas area member = inr member
in_with_all (new ∷ news) areas area member = by (in_with_all news (insert_area new areas) area member)
  where
    first : (new ≡ area) ⊎ Contains areas area → Contains (new ∷ news) area ⊎ Contains areas area
    first (inl same) = inl (0, omega arith, same)
    first (inr was) = inr was

    by : Contains news area ⊎ Contains (insert_area new areas) area → Contains (new ∷ news) area ⊎ Contains areas area
    by (inl later) = inl (Contains-append_right (new ∷ []) news area later)
    by (inr among) = first (contains_cases new areas area (Contains-permutation (insert areas (begins_below new.span.lo areas) new) (new ∷ areas) area
        (IsPermutation-sym (new ∷ areas) (insert areas (begins_below new.span.lo areas) new) (IsPermutation-insert areas (begins_below new.span.lo areas) new))
        (subst (λ (list : List Record). Contains list area) (sym (insert_is areas new)) among)))

begin_alike : (a b : Record) → starts_alike a b ≡ true → a.span.lo ≡ b.span.lo
begin_alike a b test = grind (arith, nat_tests)

-- an area of the list before and after a plan of real changes is none that the plan takes away
untouched : (changes : List Change) (areas : List Record) (area : Record) → BeginsAscend areas → IsPlanOf areas changes → IsReal changes → Contains areas area
    → Contains (applied changes areas) area → Contains (without (olds_of changes) areas) area
unfolding applied
untouched changes areas area ascend plan real member after = by (in_with_all (news_of changes) (without (olds_of changes) areas) area after)
  where
    apart : (Contains (olds_of changes) area → ⊥) → All (λ old. starts_alike area old ≡ false) (olds_of changes)
    apart none k d within = by (starts_alike area (get_or (olds_of changes) k d)) refl
      where
        old : Record
        old = get_or (olds_of changes) k d

        by : (test : Bool) → starts_alike area old ≡ test → starts_alike area old ≡ false
        by false is = is
        by true is = absurd (none (subst (Contains (olds_of changes)) (sym (once (λ (a : Record). a.span.lo) areas ascend area old member (plan.members k d within)
            (begin_alike area old is))) (Contains-get_or (olds_of changes) k d within)))

    by : Contains (news_of changes) area ⊎ Contains (without (olds_of changes) areas) area → Contains (without (olds_of changes) areas) area
    by (inr left) = left
    by (inl came) = contains_without (olds_of changes) areas area member (recursion_from_All (λ old. starts_alike area old ≡ false) (olds_of changes)
        (apart (All-contains (λ new. Contains (olds_of changes) new → ⊥) (news_of changes) area real came)))

-- a slot that shows some area shows one
shows_some : (slot : ℕ) (shown : List ShownArea) → 0 < times_shown slot shown → (area : Record) × Contains shown (record { slot = slot; area = area })
shows_some slot [] some = absurd (omega (arith, some))
shows_some slot (s ∷ shown) some = by (cases_eq s.slot slot) (shows_some slot shown)
  where
    by : ((s.slot ≡ slot) ⊎ (s.slot ≢ slot)) → (0 < times_shown slot shown → (area : Record) × Contains shown (record { slot = slot; area = area }))
        → (area : Record) × Contains (s ∷ shown) (record { slot = slot; area = area })
    by (inl same) rest = (s.area, (0, omega arith, ap (λ n. record { slot = n; area = s.area }) same))
    by (inr apart) rest =
        let no : one_at slot s.slot ≡ 0 = grind (arith, nat_tests) in
        let later = rest (omega (arith, some, sum_by-cons (λ (t : ShownArea). one_at slot t.slot) s shown, no)) in
        (later.0, Contains-append_right (s ∷ []) shown (record { slot = slot; area = later.0 }) later.1)

-- a slot whose row is that of an area shows the area
shows_it : (states : List SlotState) (shown : List ShownArea) (set : SlotSet) (slot : ℕ) (area : Record) → Hangs states shown set → All IsPackable (areas_shown shown)
    → IsPackable area → (slot_at states slot).row ≡ packed area → Contains shown (record { slot = slot; area = area })
shows_it states shown set slot area hangs packable fits is = by (cases_lt 0 (times_shown slot shown))
  where
    by : ((0 < times_shown slot shown) ⊎ (times_shown slot shown ≤ 0)) → Contains shown (record { slot = slot; area = area })
    by (inr none) = absurd (not_packed (slot_at states slot).row area (hangs.others slot (omega (arith, none))) is)
    by (inl some) =
        let (other, member) = shows_some slot shown some in
        let among : Contains (areas_shown shown) other = (
          member.0,
          omega (arith, member.1, length-map shown (λ (s : ShownArea). s.area)),
          get_or-map (λ (s : ShownArea). s.area) shown member.0 (record { slot = slot; area = other }) other member.1 ∙ ap (λ (s : ShownArea). s.area) member.2,
        ) in
        let same = packed_same other area (All-contains IsPackable (areas_shown shown) other packable among) fits
        (sym (All-contains (ShowsIt states) shown (record { slot = slot; area = other }) hangs.rows member) ∙ is) in
        subst (λ (a : Record). Contains shown (record { slot = slot; area = a })) same member

module _ (start store : AreaStore) (changes : List Change) (tree : ℕ) (set : SlotSet) (changing : IsChanging start store changes tree)
    (hangs : Hangs (slots start.writer) (shown_of start.areas) set) (packable : All IsPackable (areas_of start.areas)) where
  -- the slots of the tree ascend by where their areas begin
  ascend_shown : AllPairs (λ a b. a.area.span.lo < b.area.span.lo) (shown_of start.areas)
  ascend_shown i j d before within = omega (
    arith,
    changing.ascend i j d.area before (omega (arith, within, length-map (shown_of start.areas) (λ (s : ShownArea). s.area))),
    ap (λ (a : Record). a.span.lo) (get_or-map (λ (s : ShownArea). s.area) (shown_of start.areas) i d d.area (omega (arith, before, within))),
    ap (λ (a : Record). a.span.lo) (get_or-map (λ (s : ShownArea). s.area) (shown_of start.areas) j d d.area within),
  )

  -- the slot of an area that no change takes away is as it was
  slot_stays : (slot : ℕ) (area : Record) → Contains (without (olds_of changes) (areas_of start.areas)) area → Contains (areas_of start.areas) area
      → (slot_at (slots start.writer) slot).row ≡ packed area → slot_at (slots store.writer) slot ≡ slot_at (slots start.writer) slot
  slot_stays slot area left member is =
      let (place, now) = All-contains (IsAreaShown (shown_of store.areas)) (without (olds_of changes) (areas_of start.areas)) area changing.there left in
      let still = All-contains (IsStill (slots start.writer) (slots store.writer) (shown_of store.areas)) (without (olds_of changes) (areas_of start.areas)) area changing.still left
      place now in
      let row = All-contains (ShowsIt (slots store.writer)) (shown_of store.areas ++ store.moved.items) (record { slot = place; area = area }) changing.hangs.rows
      (Contains-append_left (shown_of store.areas) store.moved.items (record { slot = place; area = area }) now) in
      let fits = All-contains IsPackable (areas_of start.areas) area packable member in
      let there = shows_it (slots start.writer) (shown_of start.areas) set place area hangs packable fits (ap (λ (s : SlotState). s.row) (sym still) ∙ row) in
      let was = shows_it (slots start.writer) (shown_of start.areas) set slot area hangs packable fits is in
      let same = once (λ (s : ShownArea). s.area.span.lo) (shown_of start.areas) ascend_shown (record { slot = place; area = area }) (record { slot = slot; area = area }) there was refl in
      subst (λ n. slot_at (slots store.writer) n ≡ slot_at (slots start.writer) n) (ap (λ (s : ShownArea). s.slot) same) still

  -- an area of the list before and after the plan keeps its slot
  pub stays : IsPlanOf (areas_of start.areas) changes → IsReal changes
      → KeepsSlots (areas_of start.areas) (applied changes (areas_of start.areas)) (slots start.writer) (slots store.writer)
  stays plan real slot area member after is =
      slot_stays slot area (untouched changes (areas_of start.areas) area changing.ascend plan real member after) member is

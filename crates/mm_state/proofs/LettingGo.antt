-- For `AreaStore::detach_all` and `AreaStore::change_all`: slots of areas that adjoin each other leave one after the other, and the tree loses
-- the areas at once.
use Rattle.std.proofs.Common.{◌≡◌, ◌≤◌, ◌<◌, ◌+◌, ℕ, suc, true, List, [], ◌∷◌, ◌++◌, length, drop, get_or, map, All, refl, sym, ap, ◌∙◌, subst, ◌⊎◌, inl, inr, arith, add-one, vec_capacity}
use Rattle.std.specs.List.{Contains, remove}
use Rattle.std.specs.List.Sorted.{IsPermutation}
use Rattle.std.proofs.lemmas.List.{length-map, get_or-map}
use Rattle.std.proofs.lemmas.List.Elements.{All-append, All-weaker, All-contains, All-contains_itself, Contains-append_left, Contains-append_right, Contains-append_cases, Contains-get_or}
use Rattle.std.proofs.lemmas.List.Sorted.{Contains-permutation, IsPermutation-refl, IsPermutation-sym, IsPermutation-trans, IsPermutation-middle, IsPermutation-remove, IsPermutation-append_right}
use Rattle.mm_types.specs.declared.area.Record.{Record}
use Rattle.maple_node.specs.Trees.{Pair}
use Rattle.split_merge.specs.declared.plan.Change.{Change}
use Rattle.split_merge.specs.declared.plan.Change.TheVariants.{Detach}
use Rattle.split_merge.specs.Plans.{olds_of, without, IsPlanOf}
use Rattle.split_merge.proofs.Counting.{contains_cases}
use Rattle.split_merge.proofs.Replacing.{olds_of-append}
use Rattle.split_merge.proofs.Going.{without-append, without_swap}
use Rattle.split_merge.proofs.Leaving.{there_in}
use Rattle.area_slots.specs.Slots.{SlotSet, IsSlotTaken}
use Rattle.vma_lock.specs.Seats.{slots_of, WritesVmaTable, lock_sight, slots}
use Rattle.area_tree.specs.declared.shown.ShownArea.{ShownArea}
use Rattle.area_tree.specs.AreaTrees.{AreaTreeView, shown_at, shown_of, areas_of, areas_shown, AreasRise, Adjoin}
use Rattle.mm_state.specs.declared.store.AreaStore.{AreaStore}
use Rattle.mm_state.specs.Shelves.{Hangs}
use Rattle.mm_state.specs.Internal.AreaStores.{DiffersInSlots, HasSameAreaTree, CanChange, Carries, IsAreaShown, IsChanging, IsSaneChange}
use Rattle.mm_state.specs.Internal.Runs.{IsRunOfRemovals, IsLetGo, CarriesAll}
use Rattle.mm_state.proofs.Hanging.{taken_in, detached}
use Rattle.mm_state.proofs.Writing.{hangs_out}
use Rattle.mm_state.proofs.Changing.{beside_beside, tree_step, all_without, old_pages, change_step}
use Rattle.mm_state.proofs.Carrying.{drop_one, left_there, shown_contained}
use Rattle.mm_state.proofs.Running.{IsPart, part_of, run_old, run_after}

-- the change that takes the area of a slot away
abbrev pub goes : ShownArea → Change
goes shown = Detach shown.area

-- slots of a store were let go one after the other, from that of the last area on
abbrev pub LetsGo : AreaStore → AreaStore → List ShownArea → ℕ → Type 0
LetsGo start store [] tree = store ≡ start
LetsGo start store (shown ∷ gone) tree = (between : AreaStore) × LetsGo start between gone tree × IsLetGo between store shown.slot tree

-- The slots of the areas that these changes take away were let go, which the tree still has. The others hang together with what moved.
pub record IsLettingGo (start store : AreaStore) (done : List Change) (tree : ℕ) : Type 0 where
  pub gone : List ShownArea
  pub rest : List ShownArea
  pub is : map goes gone ≡ done
  pub chain : LetsGo start store gone tree
  pub parted : IsPermutation (gone ++ rest) (shown_of start.areas)
  pub hangs : Hangs (slots store.writer) (rest ++ start.moved.items) store.slots
  pub table : store.table ≡ start.table
  pub mine : WritesVmaTable store.writer store.table
  pub beside : DiffersInSlots (lock_sight start.writer) (lock_sight store.writer)
  pub count : store.slots.count ≡ start.slots.count
  pub areas : store.areas ≡ start.areas

-- no slot was let go
pub none_gone : (start : AreaStore) (tree : ℕ) → CanChange start → IsLettingGo start start [] tree
none_gone start tree can = record {
  gone = [];
  rest = shown_of start.areas;
  is = refl;
  chain = refl;
  parted = IsPermutation-refl (shown_of start.areas);
  hangs = can.hangs;
  table = refl;
  mine = can.table;
  beside = record { config = refl; seen = refl; turn = refl; seq = refl };
  count = refl;
  areas = refl;
}

-- the areas of a run begin where it does, or above
run_above : (gone : List ShownArea) (lo hi : ℕ) → IsRunOfRemovals lo hi (map goes gone) → ((s : ShownArea) → Contains gone s → s.area.span.lo < s.area.span.hi)
    → (s : ShownArea) → Contains gone s → lo ≤ s.area.span.lo
run_above [] lo hi run some s member = absurd (omega (arith, member.1))
run_above (first ∷ gone) lo hi run some s member = elim (contains_cases first gone s member) [
  | inl here ↦ omega (arith, run.0, ap (λ (t : ShownArea). t.area.span.lo) here)
  | inr later ↦ omega (
    arith,
    run.0,
    some first (0, omega arith, refl),
    run_above gone first.area.span.hi hi run.1 (λ t within. some t (Contains-append_right (first ∷ []) gone t within)) s later,
  )
]

-- what is shown is an area
contained : (tree : List ShownArea) (s : ShownArea) → Contains tree s → Contains (areas_shown tree) s.area
contained tree s member = shown_contained tree s.area (s.slot, member)

module _ (start store : AreaStore) (done : List Change) (tree : ℕ) (going : IsLettingGo start store done tree) (limit : ℕ) (rises : AreasRise limit 0 (areas_of start.areas)) where
  -- those that went are of the tree
  pub were_there : (s : ShownArea) → Contains going.gone s → Contains (shown_of start.areas) s
  were_there s member = Contains-permutation (going.gone ++ going.rest) (shown_of start.areas) s going.parted (Contains-append_left going.gone going.rest s member)

  -- and have pages
  pub had_pages : (s : ShownArea) → Contains going.gone s → s.area.span.lo < s.area.span.hi
  had_pages s member = old_pages limit 0 (areas_of start.areas) s.area rises (contained (shown_of start.areas) s (were_there s member))

  -- an area that comes before a run of changes that were carried out has not gone
  pub still_in : (s : ShownArea) (hi : ℕ) → Contains (shown_of start.areas) s → IsRunOfRemovals s.area.span.hi hi done → Contains going.rest s
  still_in s hi member run = by (Contains-append_cases going.gone going.rest s
      (Contains-permutation (shown_of start.areas) (going.gone ++ going.rest) s (IsPermutation-sym (going.gone ++ going.rest) (shown_of start.areas) going.parted) member))
    where
      by : Contains going.gone s ⊎ Contains going.rest s → Contains going.rest s
      by (inl went) = absurd (omega (
        arith,
        run_above going.gone s.area.span.hi hi (subst (IsRunOfRemovals s.area.span.hi hi) (sym going.is) run) had_pages s went,
        had_pages s went,
      ))
      by (inr stays) = stays

-- the slot of an area that has not gone is taken
pub in_place : (start store : AreaStore) (done : List Change) (tree : ℕ) (going : IsLettingGo start store done tree) (s : ShownArea) → Contains going.rest s
    → IsSlotTaken store.slots s.slot
in_place start store done tree going s member = taken_in (slots store.writer) going.rest start.moved.items store.slots s going.hangs member

-- one slot more is let go
pub go_step : (start store after : AreaStore) (done : List Change) (tree : ℕ) (going : IsLettingGo start store done tree) (s : ShownArea) → Contains going.rest s
    → IsLetGo store after s.slot tree → IsLettingGo start after (goes s ∷ done) tree
go_step start store after done tree going s member let_go = record {
  gone = s ∷ going.gone;
  rest = others;
  is = ap (λ changes. goes s ∷ changes) going.is;
  chain = (store, going.chain, let_go);
  parted = IsPermutation-trans (s ∷ (going.gone ++ others)) (going.gone ++ s ∷ others) (shown_of start.areas)
      (IsPermutation-sym (going.gone ++ s ∷ others) (s ∷ (going.gone ++ others)) (IsPermutation-middle going.gone s others))
      (IsPermutation-trans (going.gone ++ s ∷ others) (going.gone ++ going.rest) (shown_of start.areas)
      (IsPermutation-append_right going.gone (s ∷ others) going.rest out) going.parted);
  hangs = rw let_go.written.slots (rw let_go.slots (detached (slots store.writer) s (others ++ start.moved.items) store.slots (lock_sight store.writer).writer_state.seq tree
      (hangs_out (slots store.writer) going.rest others start.moved.items store.slots s going.hangs out)));
  table = ap (λ (b : AreaStore). b.table) let_go.same ∙ going.table;
  mine = let_go.mine;
  beside = beside_beside going.beside let_go.written.beside;
  count = ap (λ (set : SlotSet). set.count) let_go.slots ∙ going.count;
  areas = ap (λ (b : AreaStore). b.areas) let_go.same ∙ going.areas;
}
  where
    others : List ShownArea
    others = remove going.rest member.0

    out : IsPermutation (s ∷ others) going.rest
    out = IsPermutation-sym going.rest (s ∷ others) (IsPermutation-remove going.rest member.0 s member.1 (sym member.2))

-- the slot that shows the area of the next change
module _ (start store : AreaStore) (changes : List Change) (place left : ℕ) (d : Change) (slot : ℕ) (area : Record) (lo hi limit tree : ℕ)
    (going : IsLettingGo start store (drop left changes) tree) (rises : AreasRise limit 0 (areas_of start.areas)) (run : IsRunOfRemovals lo hi changes)
    (within : place < length changes) (next : place + 1 ≡ left) (is : get_or changes place d ≡ Detach area)
    (member : Contains (shown_of store.areas) (record { slot = slot; area = area })) where
  next_in : Contains going.rest (record { slot = slot; area = area })
  next_in = still_in start store (drop left changes) tree going limit rises (record { slot = slot; area = area }) hi
      (subst (λ (t : AreaTreeView). Contains (shown_of t) (record { slot = slot; area = area })) going.areas member)
      (run_after lo hi changes place left d area run within next is)

  pub next_taken : IsSlotTaken store.slots slot
  next_taken = in_place start store (drop left changes) tree going (record { slot = slot; area = area }) next_in

  pub next_below : CanChange start → slot < slots_of store.table
  next_below can = omega (arith, next_taken.below, going.count, can.count, ap slots_of going.table)

  pub next_gone : (after : AreaStore) → IsLetGo store after slot tree → IsLettingGo start after (drop place changes) tree
  next_gone after let_go = subst (λ done. IsLettingGo start after done tree)
      (ap (λ change. change ∷ drop left changes) (sym is) ∙ drop_one changes place left d within next)
      (go_step start store after (drop left changes) tree going (record { slot = slot; area = area }) next_in let_go)

-- the next area is in the tree
pub next_there : (start store : AreaStore) (changes : List Change) (place left : ℕ) (d : Change) (area : Record) (lo hi tree : ℕ)
    → IsLettingGo start store (drop left changes) tree → All (Contains (areas_of start.areas)) (olds_of changes) → IsRunOfRemovals lo hi changes
    → place < length changes → get_or changes place d ≡ Detach area → Contains (areas_of store.areas) area
next_there start store changes place left d area lo hi tree going olds run within is =
    subst (λ (t : AreaTreeView). Contains (areas_of t) area) (sym going.areas)
    (All-contains (Contains (areas_of start.areas)) (olds_of changes) area olds (run_old lo hi changes place d area run within is))

-- the areas of a run that went adjoin each other
pub run_adjoins : (gone : List ShownArea) (lo hi : ℕ) → IsRunOfRemovals lo hi (map goes gone) → ((s : ShownArea) → Contains gone s → s.area.span.lo < s.area.span.hi)
    → Adjoin lo hi (areas_shown gone)
run_adjoins [] lo hi run some = run
run_adjoins (first ∷ gone) lo hi run some = (
  run.0,
  some first (0, omega arith, refl),
  run_adjoins gone first.area.span.hi hi run.1 (λ s member. some s (Contains-append_right (first ∷ []) gone s member)),
)

-- a pair of the slot of an area
abbrev pair_for : ShownArea → Pair
pair_for s = record { lo = s.area.span.lo; hi = s.area.span.hi; slot = s.slot }

-- areas with other pairs
abbrev with_pairs : AreaTreeView → List Pair → AreaTreeView
with_pairs areas pairs = record areas { tree = record areas.tree { pairs = pairs } }

-- the record of a slot has the area that it shows
abbrev IsRecorded : AreaTreeView → ShownArea → Type 0
IsRecorded areas s = shown_at areas.records (pair_for s) ≡ s

recorded : (areas : AreaTreeView) (s : ShownArea) → Contains (shown_of areas) s → IsRecorded areas s
recorded areas s (place, within, is) = ap (λ n. shown_at areas.records (record { lo = 0; hi = 0; slot = n })) (sym (ap (λ (t : ShownArea). t.slot) same)) ∙ same
  where
    pair : Pair
    pair = get_or areas.tree.pairs place (pair_for s)

    same : shown_at areas.records pair ≡ s
    same = sym (get_or-map (shown_at areas.records) areas.tree.pairs place (pair_for s) s (omega (arith, within, length-map areas.tree.pairs (shown_at areas.records)))) ∙ is

-- a slot that is let go, beside a tree that loses its area
pub carries : (start store : AreaStore) (old new : AreaTreeView) (s : ShownArea) (tree : ℕ) → IsLetGo start store s.slot tree → HasSameAreaTree old new
    → IsPermutation (s ∷ shown_of new) (shown_of old) → Carries (record start { areas = old }) (record store { areas = new }) (goes s) tree
carries start store old new s tree let_go same out = (
  s.slot,
  record {
    table = ap (λ (b : AreaStore). b.table) let_go.same;
    mine = let_go.mine;
    written = let_go.written;
    same = same;
    moved_room = ap (λ (b : AreaStore). vec_capacity b.moved) let_go.same;
  },
  out,
  ap (λ (b : AreaStore). b.moved.items) let_go.same,
  let_go.slots,
)

module _ (start : AreaStore) (areas : AreaTreeView) (tree : ℕ) (same : HasSameAreaTree start.areas areas) (records : areas.records ≡ start.areas.records) where
  same_with : (pairs : List Pair) → HasSameAreaTree start.areas (with_pairs areas pairs)
  same_with pairs = ap (λ (t : AreaTreeView). with_pairs t pairs) same

  -- each area goes out of a tree that has those that go later
  all_carried : (gone : List ShownArea) (s : ShownArea) (store : AreaStore) (pairs : List Pair) → LetsGo start store (s ∷ gone) tree
      → IsPermutation (s ∷ (gone ++ shown_of (with_pairs areas pairs))) (shown_of start.areas)
      → CarriesAll start (record store { areas = with_pairs areas pairs }) (goes s ∷ map goes gone) tree
  all_carried [] s store pairs (between, is, let_go) out = (
    start,
    refl,
    carries start store start.areas (with_pairs areas pairs) s tree (subst (λ (b : AreaStore). IsLetGo b store s.slot tree) is let_go) (same_with pairs) out,
  )
  all_carried (next ∷ gone) s store pairs (between, chain, let_go) out = (
    record between { areas = with_pairs areas (pair_for s ∷ pairs) },
    all_carried gone next between (pair_for s ∷ pairs) chain earlier,
    carries between store (with_pairs areas (pair_for s ∷ pairs)) (with_pairs areas pairs) s tree let_go refl
        (subst (λ t. IsPermutation (s ∷ left) (t ∷ left)) (sym is) (IsPermutation-refl (s ∷ left))),
  )
    where
      left : List ShownArea
      left = shown_of (with_pairs areas pairs)

      is : IsRecorded areas s
      is = rw records (recorded start.areas s (Contains-permutation (s ∷ ((next ∷ gone) ++ left)) (shown_of start.areas) s out (0, omega arith, refl)))

      earlier : IsPermutation (next ∷ (gone ++ shown_of (with_pairs areas (pair_for s ∷ pairs)))) (shown_of start.areas)
      earlier = subst (λ t. IsPermutation ((next ∷ gone) ++ t ∷ left) (shown_of start.areas)) (sym is)
          (IsPermutation-trans ((next ∷ gone) ++ s ∷ left) (s ∷ ((next ∷ gone) ++ left)) (shown_of start.areas) (IsPermutation-middle (next ∷ gone) s left) out)

  -- so the changes that took these areas away were carried out once the tree loses all of them
  pub all_gone : (store : AreaStore) (changes : List Change) (going : IsLettingGo start store changes tree) → 0 < length changes
      → IsPermutation (going.gone ++ shown_of areas) (shown_of start.areas) → CarriesAll start (record store { areas = areas }) changes tree
  all_gone store changes going some out = subst (λ list. CarriesAll start (record store { areas = areas }) list tree) going.is (by going.gone going.chain going.is out)
    where
      by : (gone : List ShownArea) → LetsGo start store gone tree → map goes gone ≡ changes → IsPermutation (gone ++ shown_of areas) (shown_of start.areas)
          → CarriesAll start (record store { areas = areas }) (map goes gone) tree
      by [] chain is out = absurd (omega (arith, some, ap length is))
      by (s ∷ gone) chain is out = all_carried gone s store areas.tree.pairs chain out

-- every slot was let go
module _ (start store : AreaStore) (changes : List Change) (left lo hi limit tree : ℕ) (going : IsLettingGo start store (drop left changes) tree)
    (rises : AreasRise limit 0 (areas_of start.areas)) (run : IsRunOfRemovals lo hi changes) (some : 0 < length changes) (none : left ≤ 0) where
  all_let_go : IsLettingGo start store changes tree
  all_let_go = let is : left ≡ 0 = omega arith in subst (λ n. IsLettingGo start store (drop n changes) tree) is going

  all_there : All (Contains (shown_of store.areas)) all_let_go.gone
  all_there k d within = subst (λ (t : AreaTreeView). Contains (shown_of t) (get_or all_let_go.gone k d)) (sym all_let_go.areas)
      (were_there start store changes tree all_let_go limit rises (get_or all_let_go.gone k d) (Contains-get_or all_let_go.gone k d within))

  all_adjoin : Adjoin lo hi (areas_shown all_let_go.gone)
  all_adjoin = run_adjoins all_let_go.gone lo hi (subst (IsRunOfRemovals lo hi) (sym all_let_go.is) run) (had_pages start store changes tree all_let_go limit rises)

  pub can_remove : (taken : List ShownArea) × All (Contains (shown_of store.areas)) taken × Adjoin lo hi (areas_shown taken) × (length taken ≡ length changes)
      × (0 < length changes)
  can_remove = (all_let_go.gone, all_there, all_adjoin, sym (length-map all_let_go.gone goes) ∙ ap length all_let_go.is, some)

  pub detached_all : (areas : AreaTreeView) → areas ≡ record store.areas { tree = record store.areas.tree { pairs = areas.tree.pairs; changed = true; free = areas.tree.free } }
      → ((taken : List ShownArea) → All (Contains (shown_of store.areas)) taken → Adjoin lo hi (areas_shown taken) → IsPermutation (taken ++ shown_of areas) (shown_of store.areas))
      → CarriesAll start (record store { areas = areas }) changes tree
  detached_all areas same shown = all_gone start areas tree
      (tree_step start.areas store.areas areas (subst (HasSameAreaTree start.areas) (sym all_let_go.areas) refl) (subst (HasSameAreaTree store.areas) (sym same) refl))
      (ap (λ (t : AreaTreeView). t.records) same ∙ ap (λ (t : AreaTreeView). t.records) all_let_go.areas) store changes all_let_go some
      (subst (λ (t : AreaTreeView). IsPermutation (all_let_go.gone ++ shown_of areas) (shown_of t)) all_let_go.areas (shown all_let_go.gone all_there all_adjoin))

-- what is left when more areas are gone was left before
weaker_left : (gone later areas : List Record) (area : Record) → Contains (without (gone ++ later) areas) area → Contains (without later areas) area
weaker_left gone later areas area member =
    All-contains (Contains (without later areas)) (without gone (without later areas)) area
    (all_without (Contains (without later areas)) gone (without later areas) (All-contains_itself (without later areas)))
    (subst (λ list. Contains list area) (without-append gone later areas ∙ without_swap later gone areas) member)

-- what a part of a plan takes away is left when the later changes are carried out
pub part_there : (start store : AreaStore) (changes part : List Change) (first left : ℕ) (tree : ℕ) → IsChanging start store (drop left changes) tree
    → IsPlanOf (areas_of start.areas) changes → part ++ drop left changes ≡ drop first changes
    → All (Contains (without (olds_of (drop left changes)) (areas_of start.areas))) (olds_of part)
part_there start store changes [] first left tree changing plan is = λ k d within. absurd (omega (arith, within))
part_there start store changes (change ∷ part) first left tree changing plan is =
    subst (All (Contains (without (olds_of (drop left changes)) (areas_of start.areas)))) (sym (olds_of-append (change ∷ []) part))
    (All-append (Contains (without (olds_of (drop left changes)) (areas_of start.areas))) (olds_of (change ∷ [])) (olds_of part)
    (All-weaker (Contains (without (olds_of (part ++ drop left changes)) (areas_of start.areas))) (Contains (without (olds_of (drop left changes)) (areas_of start.areas)))
    (λ area member. weaker_left (olds_of part) (olds_of (drop left changes)) (areas_of start.areas) area
    (subst (λ olds. Contains (without olds (areas_of start.areas)) area) (olds_of-append part (drop left changes)) member))
    (olds_of (change ∷ []))
    (subst (λ list. All (Contains (without (olds_of list) (areas_of start.areas))) (olds_of (change ∷ []))) (sym parts.rest)
    (subst (λ one. All (Contains (without (olds_of (drop (suc first) changes)) (areas_of start.areas))) (olds_of (one ∷ []))) parts.here
    (there_in (areas_of start.areas) (without (olds_of (drop (suc first) changes)) (areas_of start.areas)) changes first (suc first) change changing.ascend
    plan.members plan.distinct parts.within (add-one first) refl))))
    (part_there start store changes part (suc first) left tree changing plan parts.rest))
  where
    parts : IsPart changes first change (part ++ drop left changes)
    parts = part_of changes first change (part ++ drop left changes) is

-- and so is in the tree
pub part_in_tree : (start store : AreaStore) (changes part : List Change) (first left : ℕ) (tree : ℕ) → IsChanging start store (drop left changes) tree
    → IsPlanOf (areas_of start.areas) changes → part ++ drop left changes ≡ drop first changes → All (Contains (areas_of store.areas)) (olds_of part)
part_in_tree start store changes part first left tree changing plan is =
    All-weaker (Contains rest) (Contains (areas_of store.areas))
    (λ area member. shown_contained (shown_of store.areas) area (All-contains (IsAreaShown (shown_of store.areas)) rest area changing.there member))
    (olds_of part) (part_there start store changes part first left tree changing plan is)
  where
    rest : List Record
    rest = without (olds_of (drop left changes)) (areas_of start.areas)

-- a part of a plan is carried out
pub part_step : (start store after : AreaStore) (changes part : List Change) (first left : ℕ) (tree : ℕ) → IsChanging start store (drop left changes) tree
    → IsPlanOf (areas_of start.areas) changes → All IsSaneChange changes → part ++ drop left changes ≡ drop first changes → CarriesAll store after part tree
    → IsChanging start after (drop first changes) tree
part_step start store after changes [] first left tree changing plan sane is same =
    subst (λ list. IsChanging start after list tree) is (subst (λ (b : AreaStore). IsChanging start b (drop left changes) tree) (sym same) changing)
part_step start store after changes (change ∷ part) first left tree changing plan sane is (between, more, carried) =
    by (part_step start store between changes part (suc first) left tree changing plan sane parts.rest more)
  where
    parts : IsPart changes first change (part ++ drop left changes)
    parts = part_of changes first change (part ++ drop left changes) is

    by : IsChanging start between (drop (suc first) changes) tree → IsChanging start after (drop first changes) tree
    by changed = subst (λ list. IsChanging start after list tree) (ap (λ list. change ∷ list) (sym parts.rest) ∙ is)
        (change_step start between after (drop (suc first) changes) tree change changed
        (subst (λ one. All (Contains (without (olds_of (drop (suc first) changes)) (areas_of start.areas))) (olds_of (one ∷ []))) parts.here
        (left_there start between changes first (suc first) change tree changed plan parts.within (add-one first)))
        (subst IsSaneChange parts.here (sane first change parts.within)) carried)

-- For `AreaStore::change_all`: one change more is carried out.
use Rattle.std.proofs.Common.{◌≡◌, ◌≢◌, ◌≤◌, ◌<◌, ◌+◌, ℕ, Bool, true, false, not, List, [], ◌∷◌, ◌++◌, length, get_or, set, All, refl, sym, ap, ◌∙◌, subst, append_assoc, ◌⊎◌, inl, inr, arith, nat_lt, nat_eq, ◌&&◌, if◌then◌else◌}
use Rattle.std.specs.List.{Contains, filter}
use Rattle.std.specs.List.Sorted.{IsPermutation}
use Rattle.std.proofs.lemmas.Bool.{cases_eq, cases_lt}
use Rattle.std.proofs.lemmas.Bool.Decides.{nat_tests}
use Rattle.std.proofs.lemmas.List.{length-append, get_or-set_same, get_or-set_other}
use Rattle.std.proofs.lemmas.List.Elements.{All-nil, All-cons, All-head, All-tail, All-weaker, All-filter, All-contains, All-map, filter_passes, Contains-append_right, Contains-get_or}
use Rattle.std.proofs.lemmas.List.Sums.{sum_by-append, sum_by_push, sum_by-cons, get_or-le-sum_by}
use Rattle.std.proofs.lemmas.List.Sorted.{sum_by_pushed, All-permutation, Contains-permutation, IsPermutation-sym, IsPermutation-trans, IsPermutation-to_front, IsPermutation-middle, IsPermutation-append_left}
use Rattle.mm_types.specs.declared.area.Span.{Span}
use Rattle.mm_types.specs.declared.area.Record.{Record}
use Rattle.mm_types.specs.Packed.{packed}
use Rattle.lock_core.specs.declared.stage.SlotState.{SlotState}
use Rattle.lock_core.specs.Core.{slot_at, free_slot, detached_row}
use Rattle.lock_core.specs.Rows.{is_detached}
use Rattle.split_merge.specs.declared.plan.Change.{Change}
use Rattle.split_merge.specs.declared.plan.Change.TheVariants.{Detach, Alter, Add}
use Rattle.split_merge.specs.Plans.{olds_of, news_of, starts_alike, without}
use Rattle.split_merge.proofs.Counting.{contains_cases}
use Rattle.split_merge.proofs.Going.{without_swap}
use Rattle.area_slots.specs.declared.leaving.Leaving.{Leaving}
use Rattle.area_slots.specs.Slots.{SlotSet, one_at, times_of_slot, times_left}
use Rattle.vma_lock.specs.declared.view.View.{View}
use Rattle.vma_lock.specs.Seats.{WritesVmaTable, lock_sight, slots}
use Rattle.area_tree.specs.declared.shown.ShownArea.{ShownArea}
use Rattle.area_tree.specs.AreaTrees.{AreaTreeView, shown_of, areas_of, areas_shown, times_shown, AreasRise, IsEndOf, IsRoomFor}
use Rattle.mm_state.specs.declared.store.AreaStore.{AreaStore}
use Rattle.mm_state.specs.Shelves.{ShowsIt, Hangs}
use Rattle.mm_state.specs.States.{MarksChanged, HaveLeft}
use Rattle.mm_state.specs.Internal.AreaStores.{adds, weigh, DiffersInSlots, after_leaving, HasPageOf, Moves, Carries, IsSaneChange, IsAreaShown, IsStill, ChangesAtMost, IsChanging, HasSameAreaTree}
use Rattle.mm_state.proofs.Rows.{packed_attached, packed_apart, not_packed}
use Rattle.mm_state.proofs.Hanging.{hangs_permuted, alone, IsAlone, self, left_more, detached, altered, added, free_is_none}
use Rattle.mm_state.proofs.Writing.{hangs_out}
use Rattle.mm_state.proofs.InOrder.{weigh_map, rise_ascend}
use Rattle.mm_state.proofs.Storing.{moved_in}

-- the free slots are as they were
abbrev pub Unused : List SlotState → List SlotState → List ℕ → Type 0
Unused old new free = (slot : ℕ) → 0 < times_of_slot slot free → slot_at new slot ≡ slot_at old slot

pub beside_beside : {a b c : View} → DiffersInSlots a b → DiffersInSlots b c → DiffersInSlots a c
beside_beside first second = record {
  config = second.config ∙ first.config;
  seen = second.seen ∙ first.seen;
  turn = second.turn ∙ first.turn;
  seq = second.seq ∙ first.seq;
}

marks_more : (old states : List SlotState) (slot : ℕ) (state : SlotState) → slot < length states → MarksChanged old states
    → state.row ≢ (slot_at old slot).row → MarksChanged old (set states slot state)
marks_more old states slot state within marks differs other = by (cases_eq slot other)
  where
    by : ((slot ≡ other) ⊎ (slot ≢ other)) → (slot_at (set states slot state) other).lock_seq ≢ (slot_at old other).lock_seq
        → (slot_at (set states slot state) other).row ≢ (slot_at old other).row
    by (inl same) = subst (λ n. (slot_at (set states slot state) n).lock_seq ≢ (slot_at old n).lock_seq → (slot_at (set states slot state) n).row ≢ (slot_at old n).row) same
        (λ rose equal. differs (sym (ap (λ (s : SlotState). s.row) (get_or-set_same states slot state free_slot within)) ∙ equal))
    by (inr apart) =
        let is : slot_at (set states slot state) other ≡ slot_at states other = get_or-set_other states slot other state free_slot (λ same. apart (sym same)) in
        λ rose equal. marks other (λ same. rose (ap (λ (s : SlotState). s.lock_seq) is ∙ same)) (sym (ap (λ (s : SlotState). s.row) is) ∙ equal)

-- one slot more changed
few_more : (old states : List SlotState) (slot : ℕ) (state : SlotState) (count more : ℕ) → count < more → ChangesAtMost count old states
    → ChangesAtMost more old (set states slot state)
few_more old states slot state count more above (changed, short, same) = (
  slot ∷ changed,
  omega arith,
  λ other apart. get_or-set_other states slot other state free_slot (λ is. apart (0, omega arith, sym is))
      ∙ same other (λ member. apart (Contains-append_right (slot ∷ []) changed other member)),
)

unused_more : (old states : List SlotState) (slot : ℕ) (state : SlotState) (free left : List ℕ) → times_of_slot slot left ≡ 0
    → ((other : ℕ) → times_of_slot other left ≤ times_of_slot other free) → Unused old states free → Unused old (set states slot state) left
unused_more old states slot state free left none fewer unused other some =
    get_or-set_other states slot other state free_slot (λ same. absurd (omega (arith, ap (λ n. times_of_slot n left) same, none, some)))
    ∙ unused other (omega (arith, fewer other, some))

-- no test is both
both_ways : (test : Bool) → test ≡ true → test ≡ false → ⊥
both_ways test is other = let two : true ≡ false = sym is ∙ other in cc

-- what left is left still and as it was, after one slot changed that is none of these
waits_more : (old states : List SlotState) (slot : ℕ) (state : SlotState) (before between after : List Leaving)
    → ((l : Leaving) → Contains before l → Contains between l × (slot_at states l.slot ≡ slot_at old l.slot))
    → ((l : Leaving) → Contains between l → Contains after l) → times_left slot between ≡ 0
    → (l : Leaving) → Contains before l → Contains after l × (slot_at (set states slot state) l.slot ≡ slot_at old l.slot)
waits_more old states slot state before between after waits more none l member =
    let was = waits l member in
    let some = get_or-le-sum_by (λ (m : Leaving). one_at slot m.slot) between was.0.0 l was.0.1 in
    let there = ap (λ (m : Leaving). one_at slot m.slot) was.0.2 in (
      more l was.0,
      get_or-set_other states slot l.slot state free_slot (λ same. absurd (omega (arith, some, there, none, self slot, ap (one_at slot) same))) ∙ was.1,
    )

-- what has left has left still, and so has the slot that changed, if it shows no area
gone_more : (old states : List SlotState) (slot : ℕ) (state : SlotState) (tree : ℕ) (between after : List Leaving) → HaveLeft tree between old states
    → ((l : Leaving) → Contains between l → Contains after l) → (is_detached state.row ≡ true → Contains after (record { slot = slot; tree = tree }))
    → slot < length states → HaveLeft tree after old (set states slot state)
gone_more old states slot state tree between after gone more here within other = by (cases_eq slot other)
  where
    by : ((slot ≡ other) ⊎ (slot ≢ other)) → is_detached (slot_at old other).row ≡ false → is_detached (slot_at (set states slot state) other).row ≡ true
        → Contains after (record { slot = other; tree = tree })
    by (inl same) was is = subst (λ n. Contains after (record { slot = n; tree = tree })) same
        (here (ap (λ (s : SlotState). is_detached s.row) (sym (ap (slot_at (set states slot state)) (sym same) ∙ get_or-set_same states slot state free_slot within)) ∙ is))
    by (inr apart) was is = more (record { slot = other; tree = tree })
        (gone other was (ap (λ (s : SlotState). is_detached s.row) (sym (get_or-set_other states slot other state free_slot (λ same. apart (sym same)))) ∙ is))

-- a tree that changed but for its pairs, and changes so again
pub tree_step : (first second third : AreaTreeView) → HasSameAreaTree first second → HasSameAreaTree second third → HasSameAreaTree first third
tree_step first second third one two = two
    ∙ ap (λ (t : AreaTreeView). record t { tree = record t.tree { pairs = third.tree.pairs; changed = third.tree.changed; free = third.tree.free }; records = third.records; sealed = third.sealed }) one

-- an area stands on one side of another
abbrev Beside : Record → Record → Type 0
Beside area other = (other.span.hi ≤ area.span.lo) ⊎ (area.span.hi ≤ other.span.lo)

-- an area goes out of the tree with its slot, and the rest stays, beside what has a page of it
record IsOut (tree after rest : List ShownArea) (slot : ℕ) (area : Record) : Type 0 where
  out : IsPermutation (record { slot = slot; area = area } ∷ rest) tree
  stays : (s : ShownArea) → Contains rest s → Contains after s
  came : (s : ShownArea) → Contains after s → Beside area s.area → Contains rest s

false_from_not : (b : Bool) → not b ≡ true → b ≡ false
false_from_not true is = sym is
false_from_not false is = refl

begins_apart : (a b : Record) → starts_alike a b ≡ false → a.span.lo ≢ b.span.lo
begins_apart a b apart same =
    let test : nat_eq a.span.lo b.span.lo ≡ true = grind (arith, nat_tests) in
    let two : true ≡ false = sym test ∙ apart in cc

-- what holds of the areas that are left before an area goes, and does not begin where it begins, holds of those left then
left_then : (P Q : Record → Type 0) (olds areas : List Record) (area : Record) → ((b : Record) → P b → b.span.lo ≢ area.span.lo → Q b)
    → All P (without olds areas) → All Q (without (area ∷ olds) areas)
left_then P Q olds areas area step all = subst (All Q) (without_swap (area ∷ []) olds areas)
    (λ k d within. step (get_or kept k d) (All-filter passes P (without olds areas) all k d within)
    (begins_apart (get_or kept k d) area (false_from_not (starts_alike (get_or kept k d) area) (filter_passes passes (without olds areas) k d within))))
  where
    passes : Record → Bool
    passes b = not (starts_alike b area)

    kept : List Record
    kept = filter passes (without olds areas)

-- what holds of all areas holds of those that are left
pub all_without : (P : Record → Type 0) (olds areas : List Record) → All P areas → All P (without olds areas)
all_without P [] areas all = all
all_without P (old ∷ olds) areas all = all_without P olds (filter (λ area. not (starts_alike area old)) areas) (All-filter (λ area. not (starts_alike area old)) P areas all)

-- the others of areas in order stand beside each
besides : (limit start : ℕ) (areas : List Record) (area : Record) → AreasRise limit start areas → Contains areas area
    → All (λ b. b.span.lo ≢ area.span.lo → Beside area b) areas
besides limit start [] area rises member = absurd (omega (arith, member.1))
besides limit start (first ∷ areas) area (begins, some, upto, rest) member =
    by (λ later. besides limit first.span.hi areas area rest later) (contains_cases first areas area member)
  where
    above : All (λ b. first.span.hi ≤ b.span.lo) areas
    above = (rise_ascend limit first.span.hi areas rest).0

    by : (Contains areas area → All (λ b. b.span.lo ≢ area.span.lo → Beside area b) areas) → (first ≡ area) ⊎ Contains areas area
        → All (λ b. b.span.lo ≢ area.span.lo → Beside area b) (first ∷ areas)
    by step (inl here) = All-cons (λ b. b.span.lo ≢ area.span.lo → Beside area b) first areas
        (λ apart. absurd (apart (ap (λ (b : Record). b.span.lo) here)))
        (All-weaker (λ b. first.span.hi ≤ b.span.lo) (λ b. b.span.lo ≢ area.span.lo → Beside area b)
        (λ b over apart. inr (omega (arith, over, ap (λ (c : Record). c.span.hi) here))) areas above)
    by step (inr later) = All-cons (λ b. b.span.lo ≢ area.span.lo → Beside area b) first areas
        (λ apart. inl (All-contains (λ b. first.span.hi ≤ b.span.lo) areas area above later))
        (step later)

-- so do those that are left, of which one goes
left_beside : (P : Record → Type 0) (limit start : ℕ) (olds areas : List Record) (area : Record) → AreasRise limit start areas → Contains (without olds areas) area
    → All P (without olds areas) → All (λ b. P b × (b.span.lo ≢ area.span.lo → Beside area b)) (without olds areas)
left_beside P limit start olds areas area rises member all k d within = (
  all k d within,
  all_without (λ b. b.span.lo ≢ area.span.lo → Beside area b) olds areas (besides limit start areas area rises there) k d within,
)
  where
    there : Contains areas area
    there = All-contains (Contains areas) (without olds areas) area (all_without (Contains areas) olds areas (λ j e inside. Contains-get_or areas j e inside)) member

module _ (tree after rest : List ShownArea) (slot : ℕ) (area : Record) (is : IsOut tree after rest slot area) where
  shown_then : (b : Record) → IsAreaShown tree b → b.span.lo ≢ area.span.lo → IsAreaShown after b
  shown_then b (place, member) apart = (
    place,
    is.stays (record { slot = place; area = b })
        (by (contains_cases (record { slot = slot; area = area }) rest (record { slot = place; area = b })
        (Contains-permutation tree (record { slot = slot; area = area } ∷ rest) (record { slot = place; area = b })
        (IsPermutation-sym (record { slot = slot; area = area } ∷ rest) tree is.out) member))),
  )
    where
      by : (◌≡◌ {A = ShownArea} (record { slot = slot; area = area }) (record { slot = place; area = b })) ⊎ Contains rest (record { slot = place; area = b })
          → Contains rest (record { slot = place; area = b })
      by (inl same) = absurd (apart (sym (ap (λ (s : ShownArea). s.area.span.lo) same)))
      by (inr later) = later

  still_then : (old states : List SlotState) (state : SlotState) → times_shown slot rest ≡ 0 → (b : Record) → IsStill old states tree b × (b.span.lo ≢ area.span.lo → Beside area b)
      → b.span.lo ≢ area.span.lo → IsStill old (set states slot state) after b
  still_then old states state none b (still, beside) apart place member =
      let later = is.came (record { slot = place; area = b }) member (beside apart) in
      let some = get_or-le-sum_by (λ (s : ShownArea). one_at slot s.slot) rest later.0 (record { slot = place; area = b }) later.1 in
      let there = ap (λ (s : ShownArea). one_at slot s.slot) later.2 in
      get_or-set_other states slot place state free_slot
      (λ same. absurd (omega (arith, some, there, none, self slot, ap (one_at slot) same)))
      ∙ still place (Contains-permutation (record { slot = slot; area = area } ∷ rest) tree (record { slot = place; area = b }) is.out
      (Contains-append_right (record { slot = slot; area = area } ∷ []) rest (record { slot = place; area = b }) later))

  first_there : Contains tree (record { slot = slot; area = area })
  first_there = Contains-permutation (record { slot = slot; area = area } ∷ rest) tree (record { slot = slot; area = area }) is.out (0, omega arith, refl)

-- an area that goes out
gone_out : (tree after : List ShownArea) (slot : ℕ) (area : Record) → IsPermutation (record { slot = slot; area = area } ∷ after) tree → IsOut tree after after slot area
gone_out tree after slot area out = record { out = out; stays = λ s member. member; came = λ s member apart. member }

pub detach_step : (start store after : AreaStore) (done : List Change) (tree : ℕ) (area : Record) → IsChanging start store done tree
    → Contains (without (olds_of done) (areas_of start.areas)) area → Carries store after (Detach area) tree → IsChanging start after (Detach area ∷ done) tree
detach_step start store after done tree area changing member (slot, changes, out, moved, set_is) = record {
  table = changes.table ∙ changing.table;
  mine = changes.mine;
  beside = beside_beside changing.beside changes.written.beside;
  hangs = rw changes.written.slots (rw moved (rw set_is (detached (slots store.writer) shown (shown_of after.areas ++ store.moved.items) store.slots seq tree there)));
  count = ap (λ (s : SlotSet). s.count) set_is ∙ changing.count;
  ascend = changing.ascend;
  rise = changing.rise;
  areas = λ weight. omega (
    arith,
    changing.areas weight,
    sum_by-cons weight area (olds_of done),
    sum_by_pushed (λ (s : ShownArea). weight s.area) shown (shown_of after.areas) (shown_of store.areas) out,
    sum_by-append (λ (s : ShownArea). weight s.area) (shown_of after.areas) after.moved.items,
    sum_by-append (λ (s : ShownArea). weight s.area) (shown_of store.areas) store.moved.items,
    ap (weigh weight) moved,
  );
  there = left_then (IsAreaShown (shown_of store.areas)) (IsAreaShown (shown_of after.areas)) (olds_of done) (areas_of start.areas) area
      (shown_then (shown_of store.areas) (shown_of after.areas) (shown_of after.areas) slot area is) changing.there;
  still = rw changes.written.slots (left_then
      (λ b. IsStill (slots start.writer) (slots store.writer) (shown_of store.areas) b × (b.span.lo ≢ area.span.lo → Beside area b))
      (IsStill (slots start.writer) (set (slots store.writer) slot state) (shown_of after.areas)) (olds_of done) (areas_of start.areas) area
      (still_then (shown_of store.areas) (shown_of after.areas) (shown_of after.areas) slot area is (slots start.writer) (slots store.writer) state alone_there)
      (left_beside (IsStill (slots start.writer) (slots store.writer) (shown_of store.areas)) start.areas.tree.limit 0 (olds_of done) (areas_of start.areas) area
      changing.rise member changing.still));
  unused = rw changes.written.slots (unused_more (slots start.writer) (slots store.writer) slot state store.slots.free after.slots.free
      (ap (λ (s : SlotSet). times_of_slot slot s.free) set_is ∙ one.taken.not_free) (λ other. omega (arith, ap (λ (s : SlotSet). times_of_slot other s.free) set_is)) changing.unused);
  free = omega (arith, changing.free, ap (λ (s : SlotSet). length s.free) set_is, sum_by-cons adds (Detach area) done);
  leaving = subst (λ (s : SlotSet). All (λ (l : Leaving). l.tree ≤ tree) s.left) (sym set_is)
      (All-permutation (λ (l : Leaving). l.tree ≤ tree) (leaving ∷ store.slots.left) (after_leaving store.slots slot tree).left (left_more store.slots slot tree)
      (All-cons (λ (l : Leaving). l.tree ≤ tree) leaving store.slots.left (omega arith) changing.leaving));
  same = tree_step start.areas store.areas after.areas changing.same changes.same;
  moved_room = changes.moved_room ∙ changing.moved_room;
  few_moved = omega (arith, ap length moved, changing.few_moved);
  few = rw changes.written.slots (few_more (slots start.writer) (slots store.writer) slot state (length done) (length (Detach area ∷ done)) (omega arith) changing.few);
  marks = rw changes.written.slots (marks_more (slots start.writer) (slots store.writer) slot state within changing.marks
      (λ same. not_packed detached_row area refl (same ∙ ap (λ (s : SlotState). s.row) (sym was) ∙ shows)));
  waits = rw changes.written.slots (waits_more (slots start.writer) (slots store.writer) slot state start.slots.left store.slots.left after.slots.left changing.waits more
      one.taken.not_left);
  gone = rw changes.written.slots (gone_more (slots start.writer) (slots store.writer) slot state tree store.slots.left after.slots.left changing.gone more
      (λ is. among leaving (0, omega arith, refl)) within);
}
  where
    seq : ℕ
    seq = (lock_sight store.writer).writer_state.seq

    shown : ShownArea
    shown = record { slot = slot; area = area }

    leaving : Leaving
    leaving = record { slot = slot; tree = tree }

    state : SlotState
    state = record { lock_seq = seq; row = detached_row }

    among : (l : Leaving) → Contains (leaving ∷ store.slots.left) l → Contains after.slots.left l
    among l member = subst (λ (s : SlotSet). Contains s.left l) (sym set_is)
        (Contains-permutation (leaving ∷ store.slots.left) (after_leaving store.slots slot tree).left l (left_more store.slots slot tree) member)

    more : (l : Leaving) → Contains store.slots.left l → Contains after.slots.left l
    more l member = among l (Contains-append_right (leaving ∷ []) store.slots.left l member)

    is : IsOut (shown_of store.areas) (shown_of after.areas) (shown_of after.areas) slot area
    is = gone_out (shown_of store.areas) (shown_of after.areas) slot area out

    there : Hangs (slots store.writer) (shown ∷ (shown_of after.areas ++ store.moved.items)) store.slots
    there = hangs_out (slots store.writer) (shown_of store.areas) (shown_of after.areas) store.moved.items store.slots shown changing.hangs out

    one : IsAlone shown (shown_of after.areas ++ store.moved.items) store.slots
    one = alone (slots store.writer) shown (shown_of after.areas ++ store.moved.items) store.slots there

    alone_there : times_shown slot (shown_of after.areas) ≡ 0
    alone_there = omega (arith, one.no_other, sum_by-append (λ (s : ShownArea). one_at slot s.slot) (shown_of after.areas) store.moved.items)

    within : slot < length (slots store.writer)
    within = omega (arith, there.sized, one.taken.below)

    shows : (slot_at (slots store.writer) slot).row ≡ packed area
    shows = All-head (ShowsIt (slots store.writer)) shown (shown_of after.areas ++ store.moved.items) there.rows

    was : slot_at (slots store.writer) slot ≡ slot_at (slots start.writer) slot
    was = All-contains (IsStill (slots start.writer) (slots store.writer) (shown_of store.areas)) (without (olds_of done) (areas_of start.areas)) area changing.still member
        slot (first_there (shown_of store.areas) (shown_of after.areas) (shown_of after.areas) slot area is)

pub same_span : (a b : Span) (test : Bool) → test ≡ true → test ≡ nat_eq a.lo b.lo && nat_eq a.hi b.hi → a ≡ b
same_span a b test holds is =
    let lo : a.lo ≡ b.lo = grind (arith, nat_tests) in
    let hi : a.hi ≡ b.hi = grind (arith, nat_tests) in
    ap (λ n. record { lo = n; hi = a.hi }) lo ∙ ap (λ n. record { lo = b.lo; hi = n }) hi

-- areas with the same pages have one in common, and so have an area and what it shrinks or grows to
pub same_meets : (area changed : Record) → changed.span.lo < changed.span.hi → area.span ≡ changed.span → HasPageOf area changed
same_meets area changed some same = (
  omega (arith, some, ap (λ (p : Span). p.lo) same, ap (λ (p : Span). p.hi) same),
  omega (arith, some, ap (λ (p : Span). p.lo) same, ap (λ (p : Span). p.hi) same),
)

pub end_meets : (area changed : Record) → IsEndOf changed.span area.span → HasPageOf area changed
end_meets area changed (some, inl (begins, less)) = (omega (arith, some, begins), omega (arith, some, less))
end_meets area changed (some, inr (more, ends)) = (omega (arith, some, more), omega (arith, some, ends))

pub room_meets : (area changed : Record) (limit : ℕ) (areas : List Record) → IsRoomFor limit areas area.span changed.span → area.span.lo < area.span.hi
    → HasPageOf area changed
room_meets area changed limit areas room some = (omega (arith, some, room.over), omega (arith, some, room.under))

-- an area of areas in order has a page
pub old_pages : (limit start : ℕ) (areas : List Record) (area : Record) → AreasRise limit start areas → Contains areas area → area.span.lo < area.span.hi
old_pages limit start [] area rises member = absurd (omega (arith, member.1))
old_pages limit start (first ∷ areas) area (begins, some, upto, rest) member = elim (contains_cases first areas area member) [
  | inl here ↦ subst (λ (b : Record). b.span.lo < b.span.hi) here some
  | inr later ↦ old_pages limit first.span.hi areas area rest later
]

pub old_within : (limit start : ℕ) (areas : List Record) (area : Record) → AreasRise limit start areas → Contains areas area → area.span.lo ≤ limit
old_within limit start [] area rises member = absurd (omega (arith, member.1))
old_within limit start (first ∷ areas) area (begins, some, upto, rest) member = elim (contains_cases first areas area member) [
  | inl here ↦ subst (λ (b : Record). b.span.lo ≤ limit) here (omega (arith, some, upto))
  | inr later ↦ old_within limit first.span.hi areas area rest later
]

-- an area that stands beside another has no page of it
no_page : (area : Record) (s t : ShownArea) → HasPageOf area s.area → Beside area t.area → s ≡ t → ⊥
no_page area s t meets (inl under) same = omega (arith, under, ap (λ (u : ShownArea). u.area.span.hi) same, meets.0)
no_page area s t meets (inr over) same = omega (arith, over, ap (λ (u : ShownArea). u.area.span.lo) same, meets.1)

-- what stands beside an area is none of those with a page of it
among_rest : (area : Record) (news rest : List ShownArea) → All (λ s. HasPageOf area s.area) news → (s : ShownArea) → Beside area s.area
    → Contains (news ++ rest) s → Contains rest s
among_rest area [] rest meet s apart member = member
among_rest area (now ∷ news) rest meet s apart member = elim (contains_cases now (news ++ rest) s member) [
  | inl same ↦ absurd (no_page area now s (All-head (λ t. HasPageOf area t.area) now news meet) apart same)
  | inr later ↦ among_rest area news rest (All-tail (λ t. HasPageOf area t.area) now news meet) s apart later
]

-- what other areas with a page of the one before make of the tree
altered_out : (tree after rest news : List ShownArea) (slot : ℕ) (area : Record) → IsPermutation (record { slot = slot; area = area } ∷ rest) tree
    → IsPermutation (news ++ rest) after → All (λ s. HasPageOf area s.area) news → IsOut tree after rest slot area
altered_out tree after rest news slot area out in_place meet = record {
  out = out;
  stays = λ s member. Contains-permutation (news ++ rest) after s in_place (Contains-append_right news rest s member);
  came = λ s member apart. among_rest area news rest meet s apart (Contains-permutation after (news ++ rest) s (IsPermutation-sym (news ++ rest) after in_place) member);
}

-- a list with another element at its end
at_end : (rest after moved : List ShownArea) (now : ShownArea) → IsPermutation rest after → IsPermutation (now ∷ (rest ++ moved)) (after ++ (moved ++ now ∷ []))
at_end rest after moved now out =
    IsPermutation-trans (now ∷ (rest ++ moved)) (rest ++ (moved ++ now ∷ [])) (after ++ (moved ++ now ∷ []))
    (subst (IsPermutation (now ∷ (rest ++ moved))) (append_assoc rest moved (now ∷ []))
    (IsPermutation-sym ((rest ++ moved) ++ now ∷ []) (now ∷ (rest ++ moved)) (IsPermutation-to_front (rest ++ moved) now)))
    (IsPermutation-append_left (moved ++ now ∷ []) rest after out)

-- what a slot of the tree that shows another area makes of the areas
record IsMoved (store after : AreaStore) (rest : List ShownArea) (slot : ℕ) (area changed : Record) : Type 0 where
  is : IsOut (shown_of store.areas) (shown_of after.areas) rest slot area
  all : IsPermutation (record { slot = slot; area = changed } ∷ (rest ++ store.moved.items)) (shown_of after.areas ++ after.moved.items)
  few : length after.moved.items ≤ length store.moved.items + 1

is_moved : (store after : AreaStore) (slot : ℕ) (area changed : Record) → (moves : Moves store after slot area changed) → IsMoved store after moves.rest slot area changed
is_moved store after slot area changed moves = by moves.after
  where
    now : ShownArea
    now = record { slot = slot; area = changed }

    by : (IsPermutation (now ∷ moves.rest) (shown_of after.areas) × (after.moved.items ≡ store.moved.items) × HasPageOf area changed)
        ⊎ (IsPermutation moves.rest (shown_of after.areas) × (after.moved.items ≡ store.moved.items ++ now ∷ [])
        × ¬ (IsEndOf changed.span area.span) × ¬ (IsRoomFor store.areas.tree.limit (areas_of store.areas) area.span changed.span))
        ⊎ ((other : ShownArea) × IsPermutation (now ∷ other ∷ moves.rest) (shown_of after.areas) × (store.moved.items ≡ after.moved.items ++ other ∷ [])
        × HasPageOf area changed × HasPageOf area other.area) → IsMoved store after moves.rest slot area changed
    by (inl (in_place, moved, meets)) = record {
      is = altered_out (shown_of store.areas) (shown_of after.areas) moves.rest (now ∷ []) slot area moves.before in_place
          (All-cons (λ s. HasPageOf area s.area) now [] meets (All-nil (λ s. HasPageOf area s.area)));
      all = subst (λ (list : List ShownArea). IsPermutation (now ∷ (moves.rest ++ store.moved.items)) (shown_of after.areas ++ list)) (sym moved)
          (IsPermutation-append_left store.moved.items (now ∷ moves.rest) (shown_of after.areas) in_place);
      few = omega (arith, ap length moved);
    }
    by (inr (inl (out, moved, _, _))) = record {
      is = altered_out (shown_of store.areas) (shown_of after.areas) moves.rest [] slot area moves.before out (All-nil (λ s. HasPageOf area s.area));
      all = subst (λ (list : List ShownArea). IsPermutation (now ∷ (moves.rest ++ store.moved.items)) (shown_of after.areas ++ list)) (sym moved)
          (at_end moves.rest (shown_of after.areas) store.moved.items now out);
      few = omega (arith, ap length moved, length-append store.moved.items (now ∷ []));
    }
    by (inr (inr (other, in_place, moved, meets, touches))) = record {
      is = altered_out (shown_of store.areas) (shown_of after.areas) moves.rest (now ∷ other ∷ []) slot area moves.before in_place
          (All-cons (λ s. HasPageOf area s.area) now (other ∷ []) meets (All-cons (λ s. HasPageOf area s.area) other [] touches (All-nil (λ s. HasPageOf area s.area))));
      all = moved_in (now ∷ moves.rest) store.moved.items (shown_of after.areas) after.moved.items other moved
          (IsPermutation-trans (other ∷ now ∷ moves.rest) (now ∷ other ∷ moves.rest) (shown_of after.areas) (IsPermutation-middle (other ∷ []) now moves.rest) in_place);
      few = omega (arith, ap length moved, length-append after.moved.items (other ∷ []));
    }

pub alter_step : (start store after : AreaStore) (done : List Change) (tree : ℕ) (area changed : Record) → IsChanging start store done tree
    → Contains (without (olds_of done) (areas_of start.areas)) area → IsSaneChange (Alter area changed)
    → Carries store after (Alter area changed) tree → IsChanging start after (Alter area changed ∷ done) tree
alter_step start store after done tree area changed changing member sane (slot, changes, moves, set_is) = record {
  table = changes.table ∙ changing.table;
  mine = changes.mine;
  beside = beside_beside changing.beside changes.written.beside;
  hangs = rw changes.written.slots (rw set_is (hangs_permuted (set (slots store.writer) slot state) (now ∷ (rest ++ store.moved.items))
      (shown_of after.areas ++ after.moved.items) store.slots m.all
      (altered (slots store.writer) shown (rest ++ store.moved.items) store.slots seq changed there)));
  count = ap (λ (s : SlotSet). s.count) set_is ∙ changing.count;
  ascend = changing.ascend;
  rise = changing.rise;
  areas = λ weight. omega (
    arith,
    changing.areas weight,
    sum_by-cons weight area (olds_of done),
    sum_by-cons weight changed (news_of done),
    sum_by_pushed (λ (s : ShownArea). weight s.area) shown rest (shown_of store.areas) moves.before,
    sum_by_pushed (λ (s : ShownArea). weight s.area) now (rest ++ store.moved.items) (shown_of after.areas ++ after.moved.items) m.all,
    sum_by-append (λ (s : ShownArea). weight s.area) rest store.moved.items,
    sum_by-append (λ (s : ShownArea). weight s.area) (shown_of store.areas) store.moved.items,
  );
  there = left_then (IsAreaShown (shown_of store.areas)) (IsAreaShown (shown_of after.areas)) (olds_of done) (areas_of start.areas) area
      (shown_then (shown_of store.areas) (shown_of after.areas) rest slot area m.is) changing.there;
  still = rw changes.written.slots (left_then
      (λ b. IsStill (slots start.writer) (slots store.writer) (shown_of store.areas) b × (b.span.lo ≢ area.span.lo → Beside area b))
      (IsStill (slots start.writer) (set (slots store.writer) slot state) (shown_of after.areas)) (olds_of done) (areas_of start.areas) area
      (still_then (shown_of store.areas) (shown_of after.areas) rest slot area m.is (slots start.writer) (slots store.writer) state alone_there)
      (left_beside (IsStill (slots start.writer) (slots store.writer) (shown_of store.areas)) start.areas.tree.limit 0 (olds_of done) (areas_of start.areas) area
      changing.rise member changing.still));
  unused = rw changes.written.slots (unused_more (slots start.writer) (slots store.writer) slot state store.slots.free after.slots.free
      (ap (λ (s : SlotSet). times_of_slot slot s.free) set_is ∙ one.taken.not_free) (λ other. omega (arith, ap (λ (s : SlotSet). times_of_slot other s.free) set_is)) changing.unused);
  free = omega (arith, changing.free, ap (λ (s : SlotSet). length s.free) set_is, sum_by-cons adds (Alter area changed) done);
  leaving = subst (λ (s : SlotSet). All (λ (l : Leaving). l.tree ≤ tree) s.left) (sym set_is) changing.leaving;
  same = tree_step start.areas store.areas after.areas changing.same changes.same;
  moved_room = changes.moved_room ∙ changing.moved_room;
  few_moved = omega (arith, m.few, changing.few_moved);
  few = rw changes.written.slots (few_more (slots start.writer) (slots store.writer) slot state (length done) (length (Alter area changed ∷ done)) (omega arith) changing.few);
  marks = rw changes.written.slots (marks_more (slots start.writer) (slots store.writer) slot state within changing.marks
      (λ same. packed_apart area changed sane.0 sane.1 sane.2 (sym (same ∙ ap (λ (s : SlotState). s.row) (sym was) ∙ shows))));
  waits = rw changes.written.slots (waits_more (slots start.writer) (slots store.writer) slot state start.slots.left store.slots.left after.slots.left changing.waits more
      one.taken.not_left);
  gone = rw changes.written.slots (gone_more (slots start.writer) (slots store.writer) slot state tree store.slots.left after.slots.left changing.gone more
      (λ is. absurd (both_ways (is_detached (packed changed)) is (packed_attached changed))) within);
}
  where
    seq : ℕ
    seq = (lock_sight store.writer).writer_state.seq

    rest : List ShownArea
    rest = moves.rest

    shown : ShownArea
    shown = record { slot = slot; area = area }

    now : ShownArea
    now = record { slot = slot; area = changed }

    state : SlotState
    state = record { lock_seq = seq; row = packed changed }

    more : (l : Leaving) → Contains store.slots.left l → Contains after.slots.left l
    more l member = subst (λ (s : SlotSet). Contains s.left l) (sym set_is) member

    m : IsMoved store after rest slot area changed
    m = is_moved store after slot area changed moves

    there : Hangs (slots store.writer) (shown ∷ (rest ++ store.moved.items)) store.slots
    there = hangs_out (slots store.writer) (shown_of store.areas) rest store.moved.items store.slots shown changing.hangs moves.before

    one : IsAlone shown (rest ++ store.moved.items) store.slots
    one = alone (slots store.writer) shown (rest ++ store.moved.items) store.slots there

    alone_there : times_shown slot rest ≡ 0
    alone_there = omega (arith, one.no_other, sum_by-append (λ (s : ShownArea). one_at slot s.slot) rest store.moved.items)

    within : slot < length (slots store.writer)
    within = omega (arith, there.sized, one.taken.below)

    shows : (slot_at (slots store.writer) slot).row ≡ packed area
    shows = All-head (ShowsIt (slots store.writer)) shown (rest ++ store.moved.items) there.rows

    was : slot_at (slots store.writer) slot ≡ slot_at (slots start.writer) slot
    was = All-contains (IsStill (slots start.writer) (slots store.writer) (shown_of store.areas)) (without (olds_of done) (areas_of start.areas)) area changing.still member
        slot (first_there (shown_of store.areas) (shown_of after.areas) rest slot area m.is)

-- a free slot shows no area of the tree
not_shown : (slot : ℕ) (tree : List ShownArea) (area : Record) → times_shown slot tree ≡ 0 → (place : ℕ) → Contains tree (record { slot = place; area = area }) → place ≢ slot
not_shown slot tree area none place member same =
    let some = get_or-le-sum_by (λ (s : ShownArea). one_at slot s.slot) tree member.0 (record { slot = place; area = area }) member.1 in
    omega (arith, some, ap (λ (s : ShownArea). one_at slot s.slot) member.2, none, self slot, ap (one_at slot) same)

pub add_step : (start store after : AreaStore) (done : List Change) (tree : ℕ) (area : Record) → IsChanging start store done tree
    → Carries store after (Add area) tree → IsChanging start after (Add area ∷ done) tree
add_step start store after done tree area changing (slot, changes, tree_is, moved, set_is) = record {
  table = changes.table ∙ changing.table;
  mine = changes.mine;
  beside = beside_beside changing.beside changes.written.beside;
  hangs = rw changes.written.slots (hangs_permuted (set (slots store.writer) slot state) (now ∷ (shown_of store.areas ++ store.moved.items))
      (shown_of after.areas ++ after.moved.items) after.slots all
      (added (slots store.writer) (shown_of store.areas ++ store.moved.items) store.slots after.slots slot seq area changing.hangs set_is));
  count = sym (ap (λ (s : SlotSet). s.count) set_is) ∙ changing.count;
  ascend = changing.ascend;
  rise = changing.rise;
  areas = λ weight. omega (
    arith,
    changing.areas weight,
    sum_by-cons weight area (news_of done),
    sum_by_pushed (λ (s : ShownArea). weight s.area) now (shown_of store.areas ++ store.moved.items) (shown_of after.areas ++ after.moved.items) all,
  );
  there = subst (λ (t : AreaTreeView). All (IsAreaShown (shown_of t)) (without (olds_of done) (areas_of start.areas))) (sym tree_is) changing.there;
  still = rw changes.written.slots (subst (λ (t : AreaTreeView). All (IsStill (slots start.writer) (set (slots store.writer) slot state) (shown_of t))
      (without (olds_of done) (areas_of start.areas))) (sym tree_is)
      (λ k d within place member. get_or-set_other (slots store.writer) slot place state free_slot
      (not_shown slot (shown_of store.areas) (get_or (without (olds_of done) (areas_of start.areas)) k d) none place member)
      ∙ changing.still k d within place member));
  unused = rw changes.written.slots (unused_more (slots start.writer) (slots store.writer) slot state store.slots.free after.slots.free was_free.0
      (λ other. omega (arith, ap (λ (s : SlotSet). times_of_slot other s.free) set_is, sum_by_push (one_at other) after.slots.free slot)) changing.unused);
  free = omega (arith, changing.free, ap (λ (s : SlotSet). length s.free) set_is, length-append after.slots.free (slot ∷ []), sum_by-cons adds (Add area) done);
  leaving = subst (λ (left : List Leaving). All (λ (l : Leaving). l.tree ≤ tree) left) (ap (λ (s : SlotSet). s.left) set_is) changing.leaving;
  same = tree_step start.areas store.areas after.areas changing.same changes.same;
  moved_room = changes.moved_room ∙ changing.moved_room;
  few_moved = omega (arith, ap length moved, length-append store.moved.items (now ∷ []), changing.few_moved);
  few = rw changes.written.slots (few_more (slots start.writer) (slots store.writer) slot state (length done) (length (Add area ∷ done)) (omega arith) changing.few);
  marks = rw changes.written.slots (marks_more (slots start.writer) (slots store.writer) slot state within changing.marks
      (λ same. not_packed (slot_at (slots store.writer) slot).row area (changing.hangs.others slot free.1) (ap (λ (s : SlotState). s.row) was ∙ sym same)));
  waits = rw changes.written.slots (waits_more (slots start.writer) (slots store.writer) slot state start.slots.left store.slots.left after.slots.left changing.waits more
      was_free.1);
  gone = rw changes.written.slots (gone_more (slots start.writer) (slots store.writer) slot state tree store.slots.left after.slots.left changing.gone more
      (λ is. absurd (both_ways (is_detached (packed area)) is (packed_attached area))) within);
}
  where
    seq : ℕ
    seq = (lock_sight store.writer).writer_state.seq

    now : ShownArea
    now = record { slot = slot; area = area }

    state : SlotState
    state = record { lock_seq = seq; row = packed area }

    all : IsPermutation (now ∷ (shown_of store.areas ++ store.moved.items)) (shown_of after.areas ++ after.moved.items)
    all = rw (tree_is, moved) (subst (IsPermutation (now ∷ (shown_of store.areas ++ store.moved.items))) (append_assoc (shown_of store.areas) store.moved.items (now ∷ []))
        (IsPermutation-sym ((shown_of store.areas ++ store.moved.items) ++ now ∷ []) (now ∷ (shown_of store.areas ++ store.moved.items))
        (IsPermutation-to_front (shown_of store.areas ++ store.moved.items) now)))

    free : (slot < store.slots.count) × (times_shown slot (shown_of store.areas ++ store.moved.items) ≡ 0)
    free = free_is_none (slots store.writer) (shown_of store.areas ++ store.moved.items) store.slots after.slots slot changing.hangs set_is

    none : times_shown slot (shown_of store.areas) ≡ 0
    none = omega (arith, free.1, sum_by-append (λ (s : ShownArea). one_at slot s.slot) (shown_of store.areas) store.moved.items)

    within : slot < length (slots store.writer)
    within = omega (arith, changing.hangs.sized, free.0)

    freed : times_of_slot slot store.slots.free ≡ times_of_slot slot after.slots.free + 1
    freed = omega (arith, ap (λ (s : SlotSet). times_of_slot slot s.free) set_is, sum_by_push (one_at slot) after.slots.free slot, self slot)

    more : (l : Leaving) → Contains store.slots.left l → Contains after.slots.left l
    more l member = subst (λ (left : List Leaving). Contains left l) (ap (λ (s : SlotSet). s.left) set_is) member

    was_free : (times_of_slot slot after.slots.free ≡ 0) × (times_left slot store.slots.left ≡ 0)
    was_free = by (cases_lt slot store.slots.count) (changing.hangs.once slot)
      where
        by : ((slot < store.slots.count) ⊎ (store.slots.count ≤ slot))
            → times_shown slot (shown_of store.areas ++ store.moved.items) + times_of_slot slot store.slots.free + times_left slot store.slots.left ≡ (if nat_lt slot store.slots.count then 1 else 0)
            → (times_of_slot slot after.slots.free ≡ 0) × (times_left slot store.slots.left ≡ 0)
        by (inl below) once =
            let bit : ◌≡◌ {A = ℕ} (if nat_lt slot store.slots.count then 1 else 0) 1 = grind (arith, nat_tests, below) in
            (omega (arith, once, bit, freed), omega (arith, once, bit, freed))
        by (inr above) once = absurd (omega (arith, free.0, above))

    was : slot_at (slots store.writer) slot ≡ slot_at (slots start.writer) slot
    was = changing.unused slot (omega (arith, freed))

-- any change of what is still to go
pub change_step : (start store after : AreaStore) (done : List Change) (tree : ℕ) (change : Change) → IsChanging start store done tree
    → All (Contains (without (olds_of done) (areas_of start.areas))) (olds_of (change ∷ [])) → IsSaneChange change
    → Carries store after change tree → IsChanging start after (change ∷ done) tree
change_step start store after done tree (Detach area) changing members sane carried =
    detach_step start store after done tree area changing (All-head (Contains (without (olds_of done) (areas_of start.areas))) area [] members) carried
change_step start store after done tree (Alter area changed) changing members sane carried =
    alter_step start store after done tree area changed changing (All-head (Contains (without (olds_of done) (areas_of start.areas))) area [] members) sane carried
change_step start store after done tree (Add area) changing members sane carried = add_step start store after done tree area changing carried

-- what a tree shows is shown
pub all_shown : (tree : List ShownArea) → All (IsAreaShown tree) (areas_shown tree)
all_shown tree = All-map (IsAreaShown tree) (λ (s : ShownArea). s.area) tree (λ k d within. ((get_or tree k d).slot, Contains-get_or tree k d within))

-- nothing was carried out
pub none_changed : (store : AreaStore) (tree : ℕ) → WritesVmaTable store.writer store.table → Hangs (slots store.writer) (shown_of store.areas ++ store.moved.items) store.slots
    → store.moved.items ≡ [] → All (λ leaving. leaving.tree ≤ tree) store.slots.left → AreasRise store.areas.tree.limit 0 (areas_of store.areas) → IsChanging store store [] tree
none_changed store tree mine hangs empty leaving rises = record {
  table = refl;
  mine = mine;
  beside = record { config = refl; seen = refl; turn = refl; seq = refl };
  hangs = hangs;
  count = refl;
  ascend = (rise_ascend store.areas.tree.limit 0 (areas_of store.areas) rises).1;
  rise = rises;
  areas = λ weight. omega (
    arith,
    sum_by-append (λ (s : ShownArea). weight s.area) (shown_of store.areas) store.moved.items,
    ap (weigh weight) empty,
    weigh_map weight (shown_of store.areas),
  );
  there = all_shown (shown_of store.areas);
  still = λ k d within slot member. refl;
  unused = λ slot some. refl;
  free = omega arith;
  leaving = leaving;
  same = refl;
  moved_room = refl;
  few_moved = omega (arith, ap length empty);
  few = ([], omega arith, λ slot apart. refl);
  marks = λ slot rose same. rose refl;
  waits = λ leaving member. (member, refl);
  gone = λ slot was is. absurd (both_ways (is_detached (slot_at (slots store.writer) slot).row) is was);
}

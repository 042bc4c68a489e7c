-- For all calls of `AreaStore`: how slots hang together, step by step.
use Rattle.std.proofs.Common.{◌≡◌, ◌≢◌, ◌≤◌, ◌<◌, ◌+◌, ℕ, Bool, true, false, nat_lt, nat_le, not, List, [], ◌∷◌, ◌++◌, length, get_or, set, sum_by, All, refl, sym, ap, ◌∙◌, subst, ◌⊎◌, inl, inr, arith, if◌then◌else◌, length-append}
use Rattle.std.specs.List.{Contains}
use Rattle.std.specs.List.Sorted.{IsPermutation}
use Rattle.std.proofs.lemmas.Bool.{cases_eq, cases_lt, cond-true, cond-false}
use Rattle.std.proofs.lemmas.Bool.Decides.{nat_tests}
use Rattle.std.proofs.lemmas.List.{length-set, length-map, get_or-set_same, get_or-set_other}
use Rattle.std.proofs.lemmas.List.Elements.{All-cons, All-head, All-tail, All-filter}
use Rattle.std.proofs.lemmas.List.Sums.{sum_by-append, sum_by-cons, sum_by_push, get_or-le-sum_by}
use Rattle.std.proofs.lemmas.List.Sorted.{sum_by-IsPermutation, sum_by_pushed, length_permutation, All-permutation, IsPermutation-map, IsPermutation-sym, IsPermutation-trans, IsPermutation-cons, IsPermutation-middle, IsPermutation-filter_both}
use Rattle.mm_types.specs.declared.area.Record.{Record}
use Rattle.mm_types.specs.Packed.{packed}
use Rattle.lock_core.specs.declared.stage.SlotState.{SlotState}
use Rattle.lock_core.specs.Core.{slot_at, free_slot, detached_row}
use Rattle.lock_core.specs.Rows.{is_detached, attached_weight}
use Rattle.lock_core.proofs.Weighing.{attached-set}
use Rattle.split_merge.proofs.Counting.{contains_filter}
use Rattle.area_slots.specs.declared.leaving.Leaving.{Leaving}
use Rattle.area_slots.specs.Slots.{SlotSet, IsSlotTaken, one_at, times_of_slot, times_left, retired_by, gone_by, gone_after, slots_left}
use Rattle.area_slots.proofs.Counting.{times-slots_of}
use Rattle.area_tree.specs.declared.shown.ShownArea.{ShownArea}
use Rattle.area_tree.specs.AreaTrees.{areas_shown, times_shown}
use Rattle.mm_state.specs.Shelves.{ShowsIt, Hangs}
use Rattle.mm_state.specs.Internal.AreaStores.{IsFreed, after_leaving}
use Rattle.mm_state.proofs.Rows.{packed_attached}

-- the weight of an area
weigh : (List ℕ → ℕ) → Record → ℕ
weigh weight area = weight (packed area)

pub hangs_permuted : (states : List SlotState) (shown others : List ShownArea) (slots : SlotSet) → IsPermutation shown others → Hangs states shown slots → Hangs states others slots
hangs_permuted states shown others slots moved hangs = record {
  sized = hangs.sized;
  counted = omega (arith, length_permutation shown others moved, hangs.counted);
  once = λ slot. rw (sum_by-IsPermutation (λ (s : ShownArea). one_at slot s.slot) shown others moved) (hangs.once slot);
  rows = All-permutation (ShowsIt states) shown others moved hangs.rows;
  others = λ slot none. hangs.others slot (sym (sum_by-IsPermutation (λ (s : ShownArea). one_at slot s.slot) shown others moved) ∙ none);
  exactly = λ weight. hangs.exactly weight ∙ sym (sum_by-IsPermutation (λ (area : Record). weight (packed area)) (areas_shown shown) (areas_shown others)
      (IsPermutation-map (λ (s : ShownArea). s.area) shown others moved));
}

-- a slot that shows an area is neither free nor left, and shows no other
pub record IsAlone (shown : ShownArea) (rest : List ShownArea) (slots : SlotSet) : Type 0 where
  pub taken : IsSlotTaken slots shown.slot
  pub no_other : times_shown shown.slot rest ≡ 0

pub self : (slot : ℕ) → one_at slot slot ≡ 1
self slot = grind (arith, nat_tests)

pub alone : (states : List SlotState) (shown : ShownArea) (rest : List ShownArea) (slots : SlotSet) → Hangs states (shown ∷ rest) slots → IsAlone shown rest slots
alone states shown rest slots hangs =
    let sum = sum_by-cons (λ (s : ShownArea). one_at shown.slot s.slot) shown rest in
    let one = self shown.slot in
    let once = hangs.once shown.slot in
    by (cases_lt shown.slot slots.count) sum one once
  where
    by : ((shown.slot < slots.count) ⊎ (slots.count ≤ shown.slot)) → times_shown shown.slot (shown ∷ rest) ≡ one_at shown.slot shown.slot + times_shown shown.slot rest
        → one_at shown.slot shown.slot ≡ 1
        → times_shown shown.slot (shown ∷ rest) + times_of_slot shown.slot slots.free + times_left shown.slot slots.left ≡ (if nat_lt shown.slot slots.count then 1 else 0)
        → IsAlone shown rest slots
    by (inl below) sum one once =
        let bit : ◌≡◌ {A = ℕ} (if nat_lt shown.slot slots.count then 1 else 0) 1 = grind (arith, nat_tests, below) in
        record { taken = record { below = below; not_free = omega arith; not_left = omega arith }; no_other = omega arith }
    by (inr above) sum one once =
        let bit : ◌≡◌ {A = ℕ} (if nat_lt shown.slot slots.count then 1 else 0) 0 = grind (arith, nat_tests, above) in
        absurd (omega arith)

-- the slot of an area of the tree is taken
pub taken_in : (states : List SlotState) (tree moved : List ShownArea) (slots : SlotSet) (shown : ShownArea) → Hangs states (tree ++ moved) slots → Contains tree shown
    → IsSlotTaken slots shown.slot
taken_in states tree moved slots shown hangs member =
    let some = get_or-le-sum_by (λ (s : ShownArea). one_at shown.slot s.slot) tree member.0 shown member.1 in
    let one = ap (λ (s : ShownArea). one_at shown.slot s.slot) member.2 ∙ self shown.slot in
    let both = sum_by-append (λ (s : ShownArea). one_at shown.slot s.slot) tree moved in
    by (cases_lt shown.slot slots.count) (omega (arith, some, one, both)) (hangs.once shown.slot)
  where
    by : ((shown.slot < slots.count) ⊎ (slots.count ≤ shown.slot)) → 1 ≤ times_shown shown.slot (tree ++ moved)
        → times_shown shown.slot (tree ++ moved) + times_of_slot shown.slot slots.free + times_left shown.slot slots.left ≡ (if nat_lt shown.slot slots.count then 1 else 0)
        → IsSlotTaken slots shown.slot
    by (inl below) some once =
        let bit : ◌≡◌ {A = ℕ} (if nat_lt shown.slot slots.count then 1 else 0) 1 = grind (arith, nat_tests, below) in
        record { below = below; not_free = omega arith; not_left = omega arith }
    by (inr above) some once =
        let bit : ◌≡◌ {A = ℕ} (if nat_lt shown.slot slots.count then 1 else 0) 0 = grind (arith, nat_tests, above) in
        absurd (omega arith)

-- the rows of other slots are as they were
rows_beside : (states : List SlotState) (slot : ℕ) (state : SlotState) (rest : List ShownArea) → times_shown slot rest ≡ 0
    → All (ShowsIt states) rest → All (ShowsIt (set states slot state)) rest
rows_beside states slot state rest none rows k d within =
    ap (λ (s : SlotState). s.row) (get_or-set_other states slot (get_or rest k d).slot state free_slot (apart)) ∙ rows k d within
  where
    apart : (get_or rest k d).slot ≢ slot
    apart same =
        let some = get_or-le-sum_by (λ (s : ShownArea). one_at slot s.slot) rest k d within in
        let one : one_at slot (get_or rest k d).slot ≡ 1 = rw same (self slot) in
        omega (arith, some, one, none)

other_detached : (states : List SlotState) (slot other : ℕ) (state : SlotState) → slot ≢ other → is_detached (slot_at states other).row ≡ true
    → is_detached (slot_at (set states slot state) other).row ≡ true
other_detached states slot other state apart is = ap (λ (s : SlotState). is_detached s.row) (get_or-set_other states slot other state free_slot (λ same. apart (sym same))) ∙ is

-- what stands at a slot that shows an area weighs as the area does
weighs_as : (weight : List ℕ → ℕ) (states : List SlotState) (shown : ShownArea) → ShowsIt states shown
    → attached_weight weight (slot_at states shown.slot) ≡ weight (packed shown.area)
weighs_as weight states shown is = ap (λ row. if is_detached row then 0 else weight row) is ∙ cond-false (is_detached (packed shown.area)) 0 (weight (packed shown.area)) (packed_attached shown.area)

packed_weighs : (weight : List ℕ → ℕ) (seq : ℕ) (area : Record) → attached_weight weight (record { lock_seq = seq; row = packed area }) ≡ weight (packed area)
packed_weighs weight seq area = cond-false (is_detached (packed area)) 0 (weight (packed area)) (packed_attached area)

areas-cons : (weight : List ℕ → ℕ) (shown : ShownArea) (rest : List ShownArea)
    → sum_by (λ area. weight (packed area)) (areas_shown (shown ∷ rest)) ≡ weight (packed shown.area) + sum_by (λ area. weight (packed area)) (areas_shown rest)
areas-cons weight shown rest = sum_by-cons (λ (area : Record). weight (packed area)) shown.area (areas_shown rest)

-- those that left and one more
pub left_more : (slots : SlotSet) (slot tree : ℕ) → IsPermutation (record { slot = slot; tree = tree } ∷ slots.left) (after_leaving slots slot tree).left
left_more slots slot tree =
    let leaving : Leaving = record { slot = slot; tree = tree } in
    let both = IsPermutation-filter_both (retired_by tree) (λ (l : Leaving). not (retired_by tree l)) (λ l. refl) slots.left in
    IsPermutation-trans (leaving ∷ slots.left) (leaving ∷ (gone_by tree slots.left ++ gone_after tree slots.left)) (gone_by tree slots.left ++ leaving ∷ gone_after tree slots.left)
    (IsPermutation-cons leaving slots.left (gone_by tree slots.left ++ gone_after tree slots.left) both)
    (IsPermutation-sym (gone_by tree slots.left ++ leaving ∷ gone_after tree slots.left) (leaving ∷ (gone_by tree slots.left ++ gone_after tree slots.left))
    (IsPermutation-middle (gone_by tree slots.left) leaving (gone_after tree slots.left)))

-- the area of a slot leaves with it
pub detached : (states : List SlotState) (shown : ShownArea) (rest : List ShownArea) (slots : SlotSet) (seq tree : ℕ) → Hangs states (shown ∷ rest) slots
    → Hangs (set states shown.slot (record { lock_seq = seq; row = detached_row })) rest (after_leaving slots shown.slot tree)
detached states shown rest slots seq tree hangs = record {
  sized = length-set states shown.slot changed ∙ hangs.sized;
  counted = omega (arith, length_permutation (leaving ∷ slots.left) after.left more, hangs.counted);
  once = λ slot. omega (
    arith,
    sum_by_pushed (λ (l : Leaving). one_at slot l.slot) leaving slots.left after.left more,
    sum_by-cons (λ (s : ShownArea). one_at slot s.slot) shown rest,
    hangs.once slot,
  );
  rows = rows_beside states shown.slot changed rest (alone states shown rest slots hangs).no_other (All-tail (ShowsIt states) shown rest hangs.rows);
  others = λ slot none. by slot none (cases_eq shown.slot slot);
  exactly = λ weight. omega (
    arith,
    attached-set weight states shown.slot changed within,
    weighs_as weight states shown (All-head (ShowsIt states) shown rest hangs.rows),
    hangs.exactly weight,
    areas-cons weight shown rest,
  );
}
  where
    changed : SlotState
    changed = record { lock_seq = seq; row = detached_row }

    leaving : Leaving
    leaving = record { slot = shown.slot; tree = tree }

    after : SlotSet
    after = after_leaving slots shown.slot tree

    more : IsPermutation (leaving ∷ slots.left) after.left
    more = left_more slots shown.slot tree

    within : shown.slot < length states
    within = omega (arith, hangs.sized, (alone states shown rest slots hangs).taken.below)

    by : (slot : ℕ) → times_shown slot rest ≡ 0 → ((shown.slot ≡ slot) ⊎ (shown.slot ≢ slot)) → is_detached (slot_at (set states shown.slot changed) slot).row ≡ true
    by slot none (inl same) = subst (λ n. is_detached (slot_at (set states shown.slot changed) n).row ≡ true) same
        (ap (λ (s : SlotState). is_detached s.row) (get_or-set_same states shown.slot changed free_slot within))
    by slot none (inr apart) =
        let no : ◌≡◌ {A = ℕ} (one_at slot shown.slot) 0 = grind (arith, nat_tests) in
        other_detached states shown.slot slot changed apart (hangs.others slot (omega (arith, sum_by-cons (λ (s : ShownArea). one_at slot s.slot) shown rest, no, none)))

-- a slot shows another area
pub altered : (states : List SlotState) (shown : ShownArea) (rest : List ShownArea) (slots : SlotSet) (seq : ℕ) (area : Record) → Hangs states (shown ∷ rest) slots
    → Hangs (set states shown.slot (record { lock_seq = seq; row = packed area })) (record { slot = shown.slot; area = area } ∷ rest) slots
altered states shown rest slots seq area hangs = record {
  sized = length-set states shown.slot changed ∙ hangs.sized;
  counted = hangs.counted;
  once = λ slot. omega (
    arith,
    sum_by-cons (λ (s : ShownArea). one_at slot s.slot) shown rest,
    sum_by-cons (λ (s : ShownArea). one_at slot s.slot) now rest,
    hangs.once slot,
  );
  rows = All-cons (ShowsIt (set states shown.slot changed)) now rest (ap (λ (s : SlotState). s.row) (get_or-set_same states shown.slot changed free_slot within))
      (rows_beside states shown.slot changed rest (alone states shown rest slots hangs).no_other (All-tail (ShowsIt states) shown rest hangs.rows));
  others = λ slot none. by slot none (cases_eq shown.slot slot);
  exactly = λ weight. omega (
    arith,
    attached-set weight states shown.slot changed within,
    weighs_as weight states shown (All-head (ShowsIt states) shown rest hangs.rows),
    packed_weighs weight seq area,
    hangs.exactly weight,
    areas-cons weight shown rest,
    areas-cons weight now rest,
  );
}
  where
    changed : SlotState
    changed = record { lock_seq = seq; row = packed area }

    now : ShownArea
    now = record { slot = shown.slot; area = area }

    within : shown.slot < length states
    within = omega (arith, hangs.sized, (alone states shown rest slots hangs).taken.below)

    by : (slot : ℕ) → times_shown slot (now ∷ rest) ≡ 0 → ((shown.slot ≡ slot) ⊎ (shown.slot ≢ slot)) → is_detached (slot_at (set states shown.slot changed) slot).row ≡ true
    by slot none (inl same) =
        let one : one_at slot shown.slot ≡ 1 = rw same (self slot) in
        absurd (omega (arith, sum_by-cons (λ (s : ShownArea). one_at slot s.slot) now rest, one, none))
    by slot none (inr apart) = other_detached states shown.slot slot changed apart (hangs.others slot (omega (
      arith,
      sum_by-cons (λ (s : ShownArea). one_at slot s.slot) shown rest,
      sum_by-cons (λ (s : ShownArea). one_at slot s.slot) now rest,
      none,
    )))

-- a free slot shows nothing
pub free_is_none : (states : List SlotState) (shown : List ShownArea) (slots after : SlotSet) (slot : ℕ) → Hangs states shown slots
    → slots ≡ record after { free = after.free ++ slot ∷ [] } → (slot < slots.count) × (times_shown slot shown ≡ 0)
free_is_none states shown slots after slot hangs is =
    let sum = ap (λ (s : SlotSet). times_of_slot slot s.free) is ∙ sum_by_push (one_at slot) after.free slot in
    let one = self slot in
    let once = hangs.once slot in
    by (cases_lt slot slots.count) sum one once
  where
    by : ((slot < slots.count) ⊎ (slots.count ≤ slot)) → times_of_slot slot slots.free ≡ times_of_slot slot after.free + one_at slot slot → one_at slot slot ≡ 1
        → times_shown slot shown + times_of_slot slot slots.free + times_left slot slots.left ≡ (if nat_lt slot slots.count then 1 else 0)
        → (slot < slots.count) × (times_shown slot shown ≡ 0)
    by (inl below) sum one once =
        let bit : ◌≡◌ {A = ℕ} (if nat_lt slot slots.count then 1 else 0) 1 = grind (arith, nat_tests, below) in
        (below, omega arith)
    by (inr above) sum one once =
        let bit : ◌≡◌ {A = ℕ} (if nat_lt slot slots.count then 1 else 0) 0 = grind (arith, nat_tests, above) in
        absurd (omega arith)

-- a free slot shows an area
pub added : (states : List SlotState) (shown : List ShownArea) (slots after : SlotSet) (slot seq : ℕ) (area : Record) → Hangs states shown slots
    → slots ≡ record after { free = after.free ++ slot ∷ [] }
    → Hangs (set states slot (record { lock_seq = seq; row = packed area })) (record { slot = slot; area = area } ∷ shown) after
added states shown slots after slot seq area hangs is = record {
  sized = length-set states slot changed ∙ hangs.sized ∙ ap (λ (s : SlotSet). s.count) is;
  counted = omega (
    arith,
    hangs.counted,
    ap (λ (s : SlotSet). length s.free) is,
    ap (λ (s : SlotSet). length s.left) is,
    ap (λ (s : SlotSet). s.count) is,
    length-append after.free (slot ∷ []),
  );
  once = λ other. omega (
    arith,
    sum_by-cons (λ (s : ShownArea). one_at other s.slot) now shown,
    subst (λ (s : SlotSet). times_shown other shown + times_of_slot other s.free + times_left other s.left ≡ (if nat_lt other s.count then 1 else 0)) is (hangs.once other),
    sum_by_push (one_at other) after.free slot,
  );
  rows = All-cons (ShowsIt (set states slot changed)) now shown (ap (λ (s : SlotState). s.row) (get_or-set_same states slot changed free_slot within))
      (rows_beside states slot changed shown none.1 hangs.rows);
  others = λ other never. by other never (cases_eq slot other);
  exactly = λ weight. omega (
    arith,
    attached-set weight states slot changed within,
    cond-true (is_detached (slot_at states slot).row) 0 (weight (slot_at states slot).row) (hangs.others slot none.1),
    packed_weighs weight seq area,
    hangs.exactly weight,
    areas-cons weight now shown,
  );
}
  where
    changed : SlotState
    changed = record { lock_seq = seq; row = packed area }

    now : ShownArea
    now = record { slot = slot; area = area }

    none : (slot < slots.count) × (times_shown slot shown ≡ 0)
    none = free_is_none states shown slots after slot hangs is

    within : slot < length states
    within = omega (arith, hangs.sized, none.0)

    by : (other : ℕ) → times_shown other (now ∷ shown) ≡ 0 → ((slot ≡ other) ⊎ (slot ≢ other)) → is_detached (slot_at (set states slot changed) other).row ≡ true
    by other never (inl same) =
        let one : one_at other slot ≡ 1 = rw same (self other) in
        absurd (omega (arith, sum_by-cons (λ (s : ShownArea). one_at other s.slot) now shown, one, never))
    by other never (inr apart) = other_detached states slot other changed apart (hangs.others other (omega (
      arith,
      sum_by-cons (λ (s : ShownArea). one_at other s.slot) now shown,
      never,
    )))

-- those that left by a tree and those that left after it are all that left
pub parted_left : (tree : ℕ) (left : List Leaving) → IsPermutation left (gone_by tree left ++ gone_after tree left)
parted_left tree left = IsPermutation-filter_both (retired_by tree) (λ (l : Leaving). not (retired_by tree l)) (λ l. refl) left

-- what left by a tree is free again
pub seen_freed : (slots after : SlotSet) (tree : ℕ)
    → after ≡ record slots { free = slots.free ++ slots_left (gone_by tree slots.left); left = gone_after tree slots.left } → IsFreed tree slots after
seen_freed slots after tree is = subst (IsFreed tree slots) (sym is) record {
  count = refl;
  sum = omega (
    arith,
    length-append slots.free (slots_left (gone_by tree slots.left)),
    length-map (gone_by tree slots.left) (λ (l : Leaving). l.slot),
    length-append (gone_by tree slots.left) (gone_after tree slots.left),
    length_permutation slots.left (gone_by tree slots.left ++ gone_after tree slots.left) (parted_left tree slots.left),
  );
  each = λ slot. omega (
    arith,
    sum_by-append (one_at slot) slots.free (slots_left (gone_by tree slots.left)),
    times-slots_of slot (gone_by tree slots.left),
    sum_by-append (λ (l : Leaving). one_at slot l.slot) (gone_by tree slots.left) (gone_after tree slots.left),
    sum_by-IsPermutation (λ (l : Leaving). one_at slot l.slot) slots.left (gone_by tree slots.left ++ gone_after tree slots.left) (parted_left tree slots.left),
  );
  left = refl;
}

-- what is left after slots were freed left no later than before
pub freed_upto : (elapsed last : ℕ) (old new : SlotSet) → IsFreed elapsed old new → All (λ leaving. leaving.tree ≤ last) old.left
    → All (λ leaving. leaving.tree ≤ last) new.left
freed_upto elapsed last old new freed all = subst (λ (left : List Leaving). All (λ leaving. leaving.tree ≤ last) left) (sym freed.left)
    (All-filter (λ (l : Leaving). not (retired_by elapsed l)) (λ (l : Leaving). l.tree ≤ last) old.left all)

-- what left after the elapsed tree is left still
pub freed_waits : (elapsed : ℕ) (old new : SlotSet) → IsFreed elapsed old new → (leaving : Leaving) → Contains old.left leaving → elapsed < leaving.tree
    → Contains new.left leaving
freed_waits elapsed old new freed leaving member later = subst (λ (left : List Leaving). Contains left leaving) (sym freed.left)
    (contains_filter (λ (l : Leaving). not (retired_by elapsed l)) old.left leaving member (left_later elapsed leaving.tree later))
  where
    left_later : (elapsed later : ℕ) → elapsed < later → not (nat_le later elapsed) ≡ true
    left_later elapsed later above = grind (arith, nat_tests)

-- what left after a tree and after a later one is what left after the later one
gone_on : (elapsed later : ℕ) → elapsed ≤ later → (left : List Leaving) → gone_after later (gone_after elapsed left) ≡ gone_after later left
gone_on elapsed later upto [] = refl
gone_on elapsed later upto (l ∷ left) = first (nat_le l.tree elapsed) (nat_le l.tree later) refl refl (gone_on elapsed later upto left)
  where
    first : (a b : Bool) → nat_le l.tree elapsed ≡ a → nat_le l.tree later ≡ b → gone_after later (gone_after elapsed left) ≡ gone_after later left
        → gone_after later (gone_after elapsed (l ∷ left)) ≡ gone_after later (l ∷ left)
    first true true gone too rest = rw (gone, too) rest
    first true false gone stays rest = absurd (grind (arith, nat_tests))
    first false true stays gone rest = rw (stays, gone) rest
    first false false stays still rest = rw (stays, still) (ap (λ more. l ∷ more) rest)

-- slots that were freed twice
pub freed_freed : (first second third : SlotSet) (elapsed later : ℕ) → IsFreed elapsed first second → IsFreed later second third → elapsed ≤ later
    → IsFreed later first third
freed_freed first second third elapsed later one two upto = record {
  count = two.count ∙ one.count;
  sum = two.sum ∙ one.sum;
  each = λ slot. two.each slot ∙ one.each slot;
  left = two.left ∙ ap (gone_after later) one.left ∙ gone_on elapsed later upto first.left;
}

pub hangs_freed : (states : List SlotState) (shown : List ShownArea) (elapsed : ℕ) (slots after : SlotSet) → IsFreed elapsed slots after → Hangs states shown slots
    → Hangs states shown after
hangs_freed states shown elapsed slots after freed hangs = record {
  sized = hangs.sized ∙ sym freed.count;
  counted = omega (arith, hangs.counted, freed.sum, freed.count);
  once = λ slot. subst (λ count. times_shown slot shown + times_of_slot slot after.free + times_left slot after.left ≡ (if nat_lt slot count then 1 else 0)) (sym freed.count)
      (omega (arith, hangs.once slot, freed.each slot));
  rows = hangs.rows;
  others = hangs.others;
  exactly = hangs.exactly;
}

-- no slot shows two areas
pub at_most_once : (states : List SlotState) (shown : List ShownArea) (slots : SlotSet) (slot : ℕ) → Hangs states shown slots → times_shown slot shown ≤ 1
at_most_once states shown slots slot hangs = by (cases_lt slot slots.count) (hangs.once slot)
  where
    by : ((slot < slots.count) ⊎ (slots.count ≤ slot)) → times_shown slot shown + times_of_slot slot slots.free + times_left slot slots.left ≡ (if nat_lt slot slots.count then 1 else 0)
        → times_shown slot shown ≤ 1
    by place is = grind (arith, nat_tests)

-- no number past the slots shows an area
pub none_above : (states : List SlotState) (shown : List ShownArea) (slots : SlotSet) (slot : ℕ) → Hangs states shown slots → slots.count ≤ slot → times_shown slot shown ≡ 0
none_above states shown slots slot hangs above = by above (hangs.once slot)
  where
    by : slots.count ≤ slot → times_shown slot shown + times_of_slot slot slots.free + times_left slot slots.left ≡ (if nat_lt slot slots.count then 1 else 0)
        → times_shown slot shown ≡ 0
    by past is = grind (arith, nat_tests)

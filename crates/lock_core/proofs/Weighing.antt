-- For `LockState::add`, `LockState::begin`, `LockState::end` and others: rows by weight: what a slot that changes adds to the weight of all, and the areas that rows show.
use Rattle.std.proofs.Common.{ℕ, zero, suc, ◌≡◌, ◌≢◌, ◌<◌, ◌≤◌, ◌+◌, ◌∙◌, refl, sym, ap, true, false, not, if◌then◌else◌, nat_eq, List, [], ◌∷◌, ◌++◌, length, map, get_or, set, arith, inl, inr}
use Rattle.std.specs.List.{sum_by, filter, remove, Contains}
use Rattle.std.specs.List.Sorted.{IsPermutation}
use Rattle.std.specs.Cmp.Lexicographic.{pointwise, same_text}
use Rattle.std.proofs.lemmas.Cmp.{nat_list_eq_equiv}
use Rattle.std.proofs.lemmas.Bool.{cases_Bool, cases_lt, ne_eqb, cond-true, cond-false}
use Rattle.std.proofs.lemmas.List.{get_or-map, get_or_past, length-map}
use Rattle.std.proofs.lemmas.List.Sums.{sum_by-cons, sum_by-append, sum_by-set}
use Rattle.std.proofs.lemmas.List.Sorted.{IsPermutation-refl, IsPermutation-sym, IsPermutation-cons, IsPermutation-trans, IsPermutation-remove, sum_by-IsPermutation}
use Rattle.mm_types.specs.declared.area.Record.{Record}
use Rattle.mm_types.specs.Packed.{packed}
use Rattle.lock_core.specs.declared.stage.SlotState.{SlotState}
use Rattle.lock_core.specs.Core.{slot_at, free_slot}
use Rattle.lock_core.specs.Rows.{is_detached, is_marked, unmarked_rows, IsRowOf, attached_weight, Within}
use Rattle.lock_core.proofs.Elements.{one_weighs, some_weighs}

pub row_is_itself : (row : List ℕ) → pointwise nat_eq row row ≡ true
row_is_itself row = nat_list_eq_equiv.refl row

-- what an attached row weighs in a slot that is not marked
abbrev pub shown_weight : (List ℕ → ℕ) → ℕ → SlotState → ℕ
shown_weight weight seq slot = if is_marked seq slot then 0 else attached_weight weight slot

-- however rows are weighed, the attached rows in slots that are not marked weigh no more than the list
abbrev pub WeighsWithin : ℕ → List SlotState → List Record → Type 0
WeighsWithin seq slots areas = (weight : List ℕ → ℕ) → sum_by (shown_weight weight seq) slots ≤ sum_by (λ area. weight (packed area)) areas

-- a slot that changes adds to the weight of the attached rows what it weighs more
pub attached-set : (weight : List ℕ → ℕ) (slots : List SlotState) (slot : ℕ) (changed : SlotState) → slot < length slots
    → sum_by (attached_weight weight) (set slots slot changed) + attached_weight weight (slot_at slots slot) ≡ sum_by (attached_weight weight) slots + attached_weight weight changed
attached-set weight slots slot changed within = sum_by-set (attached_weight weight) slots slot changed free_slot within

-- the same of the rows in slots that are not marked
pub shown-set : (weight : List ℕ → ℕ) (seq : ℕ) (slots : List SlotState) (slot : ℕ) (changed : SlotState) → slot < length slots
    → sum_by (shown_weight weight seq) (set slots slot changed) + shown_weight weight seq (slot_at slots slot) ≡ sum_by (shown_weight weight seq) slots + shown_weight weight seq changed
shown-set weight seq slots slot changed within = sum_by-set (shown_weight weight seq) slots slot changed free_slot within

-- a record to look up by, which no place has
pub no_area : Record
no_area = record {
  span = record { lo = 0; hi = 0 };
  attr = record {
    prot = record { read = false; write = false; exec = false };
    most = record { read = false; write = false; exec = false };
    shared = false;
    grows = false;
    sealed = false;
    heap = false;
  };
  object = 0;
  offset = 0;
}

-- the weight of one row, and of no other
pub only : List ℕ → List ℕ → ℕ
only row other = if pointwise nat_eq row other then 1 else 0

pub only_same : (row : List ℕ) → only row row ≡ 1
unfolding only
only_same row = cond-true (pointwise nat_eq row row) 1 0 (row_is_itself row)

pub only_other : (row other : List ℕ) → 0 < only row other → row ≡ other
unfolding only
only_other row other some = elim (cases_Bool (pointwise nat_eq row other)) [
  | inl same ↦ same_text row other (sym same)
  | inr apart ↦ let none = cond-false {A = ℕ} (pointwise nat_eq row other) 1 0 apart in absurd (omega (arith, some, none))
]

-- an element that there is, whatever is answered where there is none
pub same_element : {A : Type 0} (xs : List A) (i : ℕ) (d e : A) → i < length xs → get_or xs i d ≡ get_or xs i e
same_element [] i d e within = absurd (omega arith)
same_element (x ∷ xs) zero d e within = refl
same_element (x ∷ xs) (suc i) d e within = same_element xs i d e (omega arith)

-- rows that weigh no more than others are among them, each as often
pub among : (xs ys : List (List ℕ)) → ((weight : List ℕ → ℕ) → sum_by weight xs ≤ sum_by weight ys)
    → (others : List (List ℕ)) × IsPermutation (xs ++ others) ys
among [] ys less = (ys, IsPermutation-refl ys)
among (x ∷ xs) ys less =
    let one = sum_by-cons (only x) x xs in
    let itself = only_same x in
    let found = some_weighs (only x) ys [] (omega (arith, less (only x), one, itself)) in
    let there : x ≡ get_or ys found.0 [] = only_other x (get_or ys found.0 []) found.2 in
    let is : x ≡ get_or ys found.0 x = there ∙ same_element ys found.0 [] x found.1 in
    let taken = IsPermutation-remove ys found.0 x found.1 is in
    let rest = among xs (remove ys found.0)
    (λ weight. omega (arith, less weight, sum_by-cons weight x xs, sum_by-IsPermutation weight ys (x ∷ remove ys found.0) taken, sum_by-cons weight x (remove ys found.0))) in (
      rest.0,
      IsPermutation-trans (x ∷ (xs ++ rest.0)) (x ∷ remove ys found.0) ys (IsPermutation-cons x (xs ++ rest.0) (remove ys found.0) rest.1)
          (IsPermutation-sym ys (x ∷ remove ys found.0) taken),
    )

-- the attached rows weigh what the slots weigh
pub sum_by-attached : (weight : List ℕ → ℕ) (slots : List SlotState)
    → sum_by weight (filter (λ row. not (is_detached row)) (map (λ slot. slot.row) slots)) ≡ sum_by (attached_weight weight) slots
sum_by-attached weight [] = refl
sum_by-attached weight (slot ∷ slots) =
    let rest = sum_by-attached weight slots in
    let rows = filter (λ row. not (is_detached row)) (map (λ (s : SlotState). s.row) slots) in
    let here = sum_by-cons (attached_weight weight) slot slots in
    elim (cases_Bool (is_detached slot.row)) [
      | inl detached ↦
          let none = cond-true {A = ℕ} (is_detached slot.row) 0 (weight slot.row) detached in
          ap (λ (l : List (List ℕ)). sum_by weight l) (cond-false (not (is_detached slot.row)) (slot.row ∷ rows) rows (ap not detached))
          ∙ omega (arith, rest, here, none)
      | inr attached ↦
          let some = cond-false {A = ℕ} (is_detached slot.row) 0 (weight slot.row) attached in
          ap (λ (l : List (List ℕ)). sum_by weight l) (cond-true (not (is_detached slot.row)) (slot.row ∷ rows) rows (ap not attached))
          ∙ omega (arith, rest, here, some, sum_by-cons weight slot.row rows)
    ]

-- the rows of a list weigh what its areas weigh by their words
pub sum_by-packed : (weight : List ℕ → ℕ) (areas : List Record) → sum_by weight (map packed areas) ≡ sum_by (λ area. weight (packed area)) areas
sum_by-packed weight [] = refl
sum_by-packed weight (area ∷ areas) =
    omega (arith, sum_by-cons weight (packed area) (map packed areas), sum_by-cons (λ (a : Record). weight (packed a)) area areas, sum_by-packed weight areas)

-- the rows of slots that are not marked weigh what they weigh as such
sum_by-unmarked : (weight : List ℕ → ℕ) (seq : ℕ) (slots : List SlotState)
    → sum_by (attached_weight weight) (filter (λ slot. not (is_marked seq slot)) slots) ≡ sum_by (shown_weight weight seq) slots
sum_by-unmarked weight seq [] = refl
sum_by-unmarked weight seq (slot ∷ slots) =
    let rest = sum_by-unmarked weight seq slots in
    let others = filter (λ (s : SlotState). not (is_marked seq s)) slots in
    let here = sum_by-cons (shown_weight weight seq) slot slots in
    elim (cases_Bool (is_marked seq slot)) [
      | inl marked ↦
          let none = cond-true {A = ℕ} (is_marked seq slot) 0 (attached_weight weight slot) marked in
          ap (λ (l : List SlotState). sum_by (attached_weight weight) l) (cond-false (not (is_marked seq slot)) (slot ∷ others) others (ap not marked))
          ∙ omega (arith, rest, here, none)
      | inr apart ↦
          let some = cond-false {A = ℕ} (is_marked seq slot) 0 (attached_weight weight slot) apart in
          ap (λ (l : List SlotState). sum_by (attached_weight weight) l) (cond-true (not (is_marked seq slot)) (slot ∷ others) others (ap not apart))
          ∙ omega (arith, rest, here, some, sum_by-cons (attached_weight weight) slot others)
    ]

sum_by-shown : (weight : List ℕ → ℕ) (seq : ℕ) (slots : List SlotState)
    → sum_by weight (unmarked_rows seq slots) ≡ sum_by (shown_weight weight seq) slots
sum_by-shown weight seq slots =
    sum_by-attached weight (filter (λ slot. not (is_marked seq slot)) slots) ∙ sum_by-unmarked weight seq slots

-- rows that are areas of the list, no two the same, weigh no more than it
pub within_weighs : (seq : ℕ) (slots : List SlotState) (areas : List Record) → Within seq slots areas → WeighsWithin seq slots areas
within_weighs seq slots areas within weight =
    omega (
      arith,
      sum_by-shown weight seq slots,
      sum_by-append weight (unmarked_rows seq slots) within.0,
      sum_by-IsPermutation weight (unmarked_rows seq slots ++ within.0) (map packed areas) within.1,
      sum_by-packed weight areas,
    )

-- and rows that weigh no more are such rows
pub weighs_within : (seq : ℕ) (slots : List SlotState) (areas : List Record) → WeighsWithin seq slots areas → Within seq slots areas
weighs_within seq slots areas weighs = among (unmarked_rows seq slots) (map packed areas)
    (λ weight. omega (arith, weighs weight, sum_by-shown weight seq slots, sum_by-packed weight areas))

-- where the rows weigh no more than the list however rows are weighed, an attached row in a slot that is not marked shows an area of it
pub shows_area : (seq : ℕ) (slots : List SlotState) (areas : List Record) (slot : ℕ) → WeighsWithin seq slots areas
    → slot < length slots → (slot_at slots slot).lock_seq ≢ seq → is_detached (slot_at slots slot).row ≡ false
    → Contains (map packed areas) (slot_at slots slot).row
shows_area seq slots areas slot within there apart attached =
    let row = (slot_at slots slot).row in
    let weight : SlotState → ℕ = shown_weight (only row) seq in
    let here : weight (slot_at slots slot) ≡ 1 =
    cond-false (is_marked seq (slot_at slots slot)) 0 (attached_weight (only row) (slot_at slots slot)) (ne_eqb (slot_at slots slot).lock_seq seq apart)
    ∙ cond-false (is_detached row) 0 (only row row) attached ∙ only_same row in
    let found = some_weighs (λ (area : Record). only row (packed area)) areas no_area
    (omega (arith, here, one_weighs weight slots slot free_slot there, within (only row))) in
    let same : row ≡ packed (get_or areas found.0 no_area) = only_other row (packed (get_or areas found.0 no_area)) found.2 in (
      found.0,
      omega (arith, found.1, length-map areas packed),
      get_or-map packed areas found.0 no_area row found.1 ∙ sym same,
    )

-- such a row is right for the list
pub row_is_right : (seq : ℕ) (slots : List SlotState) (areas : List Record) (slot : ℕ) → Within seq slots areas
    → (slot_at slots slot).lock_seq ≢ seq → IsRowOf areas (slot_at slots slot).row
row_is_right seq slots areas slot within apart = elim (cases_Bool (is_detached (slot_at slots slot).row)) [
  | inl detached ↦ inl detached
  | inr attached ↦ elim (cases_lt slot (length slots)) [
    | inl there ↦ inr (shows_area seq slots areas slot (within_weighs seq slots areas within) there apart attached)
    | inr past ↦ inl (ap (λ (at : SlotState). is_detached at.row) (get_or_past slots slot free_slot past))
  ]
]

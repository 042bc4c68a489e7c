-- For `take_at`, `NodeTable::leave`, `place_of` and others: where rows stand in the free list.
use Rattle.std.proofs.Common.{ℕ, zero, suc, ◌≡◌, ◌≢◌, ◌<◌, ◌≤◌, ◌+◌, ◌-◌, ◌∙◌, cond, nat_eq, nat_lt, true, false, min, List, [], ◌∷◌, ◌++◌, length, get_or, set, take, drop, refl, sym, ap, subst, arith, inl, inr}
use Rattle.std.proofs.lemmas.Bool.{cases_lt, ltb-true, lt-ltb, le-ltb}
use Rattle.std.proofs.lemmas.Bool.Decides.{eqb_tells}
use Rattle.std.proofs.lemmas.List.{length-map, map-set, take-map, get_or-map, set-get_or, take_more, take_all, length-set, length-take, length-drop, length-append, get_or-drop, get_or-take, get_or-set_same, get_or-set_other, get_or_append_left, get_or_push}
use Rattle.std.proofs.lemmas.List.Sorted.{IsPermutation-trans, IsPermutation-sym, IsPermutation-to_front}
use Rattle.std.specs.List.Sorted.{IsPermutation}
use Rattle.std.specs.List.{swap_remove}
use Rattle.mm_types.specs.declared.slot.Row.{Row}
use Rattle.grace_core.specs.Core.{WriterState, times}
use Rattle.node_slots.specs.declared.left.Left.{Left}
use Rattle.node_slots.specs.Kept.{number_at, free_numbers, RowsKept, PlacesKept, FallsFrom}
use Rattle.node_slots.proofs.Counting.{times_first, one_if, none_if}
use Rattle.node_slots.proofs.Listing.{moved_lists}

-- a row that stands at a place is listed
pub place_times : (rows : List ℕ) (place row : ℕ) → place < length rows → number_at rows place ≡ row → 1 ≤ times row rows
place_times [] place row within here = absurd (omega arith)
place_times (other ∷ rows) zero row within here =
    let one = one_if other row here in omega (arith, one, times_first row other rows)
place_times (other ∷ rows) (suc place) row within here =
    let rest = place_times rows place row (omega (arith, within)) here in omega (arith, rest, times_first row other rows)

-- and one that is listed stands at a place
pub times_place : (rows : List ℕ) (row : ℕ) → 1 ≤ times row rows → (place : ℕ) × (place < length rows) × (number_at rows place ≡ row)
times_place [] row some = absurd (omega arith)
times_place (other ∷ rows) row some = elim (eqb_tells other row) [
  | inl here ↦ (0, omega arith, here.1)
  | inr apart ↦
      let none = none_if other row apart.1 in
      let rest = times_place rows row (omega (arith, some, none, times_first row other rows)) in
      (suc rest.0, omega (arith, rest.1), rest.2)
]

-- which stands at one place alone, where each is listed once
pub place_once : (rows : List ℕ) (place other : ℕ) → ((row : ℕ) → times row rows ≤ 1) → place < other → other < length rows
    → number_at rows place ≡ number_at rows other → ⊥
place_once [] place other once order within same = omega arith
place_once (row ∷ rows) zero zero once order within same = omega arith
place_once (row ∷ rows) zero (suc other) once order within same =
    let more = place_times rows other row (omega (arith, within)) (sym same) in
    let one = one_if row row refl in
    omega (arith, once row, one, more, times_first row row rows)
place_once (row ∷ rows) (suc place) zero once order within same = omega (arith, order)
place_once (row ∷ rows) (suc place) (suc other) once order within same =
    place_once rows place other (λ r. omega (arith, once r, times_first r row rows)) (omega (arith, order)) (omega (arith, within)) same

-- a row that is free behind the fresh ones stands at such a place
pub again_place : (fresh row : ℕ) (free : List ℕ) → nat_lt 0 (times row (drop fresh free)) ≡ true
    → (place : ℕ) × (fresh ≤ place) × (place < length free) × (number_at free place ≡ row)
again_place fresh row free is =
    let found = times_place (drop fresh free) row (ltb-true 0 (times row (drop fresh free)) is) in
    let long = length-drop fresh free in
    (fresh + found.0, omega arith, omega (arith, found.1, long), sym (get_or-drop fresh free found.0 0) ∙ found.2)

-- and one that stands there is so
pub place_again : (fresh row place : ℕ) (free : List ℕ) → fresh ≤ place → place < length free → number_at free place ≡ row
    → nat_lt 0 (times row (drop fresh free)) ≡ true
place_again fresh row place free behind within here =
    let long = length-drop fresh free in
    let same : fresh + (place - fresh) ≡ place = omega (arith, behind) in
    lt-ltb 0 (times row (drop fresh free))
    (place_times (drop fresh free) (place - fresh) row (omega (arith, within, behind, long))
    (get_or-drop fresh free (place - fresh) 0 ∙ ap (number_at free) same ∙ here))

-- where it doesn't stand at the place that is noted, it is not free behind the fresh rows
pub not_again : (rows fresh row : ℕ) (free spots : List ℕ) → PlacesKept rows fresh free spots
    → (fresh ≤ number_at spots row → number_at spots row < length free → number_at free (number_at spots row) ≡ row → ⊥)
    → nat_lt 0 (times row (drop fresh free)) ≡ false
not_again rows fresh row free spots kept apart = elim (cases_lt 0 (times row (drop fresh free))) [
  | inr none ↦ le-ltb 0 (times row (drop fresh free)) (omega (arith, none))
  | inl some ↦
      let at = again_place fresh row free (lt-ltb 0 (times row (drop fresh free)) some) in
      let noted : number_at spots row ≡ at.0 = ap (number_at spots) (sym at.3) ∙ kept.noted at.0 at.1 at.2 in
      absurd (apart (omega (arith, noted, at.1)) (omega (arith, noted, at.2)) (ap (number_at free) noted ∙ at.3))
]

-- one row more at the end, whose place is noted
pub places_pushed : (rows fresh row : ℕ) (free spots : List ℕ) → PlacesKept rows fresh free spots → times row free ≡ 0 → row < length spots
    → PlacesKept rows fresh (free ++ row ∷ []) (set spots row (length free))
places_pushed rows fresh row free spots kept none within =
    let long : length (free ++ row ∷ []) ≡ length free + 1 = length-append free (row ∷ []) in
    let before : (place : ℕ) → place < length free → number_at (free ++ row ∷ []) place ≡ number_at free place =
    λ place there. get_or_append_left free (row ∷ []) 0 place there in
    record {
      few = omega (arith, long, kept.few);
      falls = λ place low. omega (arith, kept.falls place low, before place (omega (arith, low, kept.few)));
      noted = λ place behind there. elim (cases_lt place (length free)) [
        | inl early ↦
            let differ : number_at free place ≢ row = λ same. let one = place_times free place row early same in omega (arith, one, none) in
            ap (number_at (set spots row (length free))) (before place early)
            ∙ get_or-set_other spots row (number_at free place) (length free) 0 differ ∙ kept.noted place behind early
        | inr late ↦
            let last : length free ≡ place = omega (arith, late, there, long) in
            ap (number_at (set spots row (length free))) (get_or_push free row 0 place last)
            ∙ get_or-set_same spots row (length free) 0 within ∙ last
      ];
    }

-- the row at a place was taken, and the last one came there
abbrev pub taken_out : List ℕ → ℕ → List ℕ
taken_out free place = take (length free - 1) (set free place (number_at free (length free - 1)))

pub places_taken : (rows fresh place : ℕ) (free spots : List ℕ) → PlacesKept rows fresh free spots → ((row : ℕ) → times row free ≤ 1)
    → place < length free → fresh ≤ place + 1 → number_at free (length free - 1) < length spots
    → PlacesKept rows (min fresh place) (taken_out free place) (set spots (number_at free (length free - 1)) place)
places_taken rows fresh place free spots kept once within behind noted =
    let last : ℕ = number_at free (length free - 1) in
    let moved : List ℕ = set free place last in
    let size : length moved ≡ length free = length-set free place last in
    let long : length (taken_out free place) ≡ min (length free - 1) (length moved) = length-take (length free - 1) moved in
    let else_is : (other : ℕ) → other < length free - 1 → other ≢ place → number_at (taken_out free place) other ≡ number_at free other =
    λ other there differ. get_or-take (length free - 1) moved other 0 there ∙ get_or-set_other free place other last 0 differ in
    let here : place < length free - 1 → number_at (taken_out free place) place ≡ last =
    λ there. get_or-take (length free - 1) moved place 0 there ∙ get_or-set_same free place last 0 within in
    record {
      few = omega (arith, long, size, within);
      falls = λ other low. omega (arith, kept.falls other (omega (arith, low)), else_is other (omega (arith, low, within)) (λ e. omega (arith, low, e)));
      noted = λ other high there.
          let inner : other < length free - 1 = omega (arith, there, long, size) in
          elim (eqb_tells other place) [
            | inl same ↦
                subst (λ p. number_at (set spots last place) (number_at (taken_out free place) p) ≡ p) (sym same.1)
                (ap (number_at (set spots last place)) (here (omega (arith, inner, same.1))) ∙ get_or-set_same spots last place 0 noted)
            | inr apart ↦
                let differ : number_at free other ≢ last = λ e. place_once free other (length free - 1) once inner (omega (arith, within)) e in
                let above : fresh ≤ other = (let d = apart.1 in elim (cases_lt other fresh) [ inl less ↦ absurd (d (omega (arith, less, high, behind))) | inr more ↦ omega (arith, more) ]) in
                ap (number_at (set spots last place)) (else_is other inner apart.1)
                ∙ get_or-set_other spots last (number_at free other) place 0 differ ∙ kept.noted other above (omega (arith, inner))
          ];
    }

-- all rows of a new list are fresh
pub places_new : (rows : ℕ) (free spots : List ℕ) → FallsFrom rows free → PlacesKept rows (rows - 1) free spots
places_new rows free spots from = record {
  few = omega (arith, from.long);
  falls = λ place low. from.falls place (omega (arith, low, from.long));
  noted = λ place high there. absurd (omega (arith, high, there, from.long));
}

-- no row at first
pub falls_none : FallsFrom 1 []
falls_none = record { long = omega arith; falls = λ place within. absurd (omega (arith, within)) }

-- one higher row before the others
falls_at : (rows : ℕ) (free : List ℕ) → FallsFrom rows free → (place : ℕ) → place < length (rows ∷ free)
    → number_at (rows ∷ free) place + place + 1 ≡ rows + 1
falls_at rows free from zero within = omega arith
falls_at rows free from (suc place) within = let rest = from.falls place (omega (arith, within)) in omega (arith, rest)

pub falls_more : (rows : ℕ) (free : List ℕ) → FallsFrom rows free → FallsFrom (rows + 1) (rows ∷ free)
falls_more rows free from = record { long = omega (arith, from.long); falls = falls_at rows free from }

-- a row that is not free is below the fresh ones
pub below_fresh : (rows fresh row : ℕ) (free spots : List ℕ) → PlacesKept rows fresh free spots → times row free ≡ 0 → row < rows → row + fresh < rows
below_fresh rows fresh row free spots kept none within = elim (cases_lt (row + fresh) rows) [
  | inl low ↦ low
  | inr high ↦
      let place : ℕ = rows - row - 1 in
      let falls = kept.falls place (omega (arith, high, within)) in
      let here = place_times free place row (omega (arith, high, within, kept.few)) (omega (arith, falls, within)) in
      absurd (omega (arith, here, none))
]

-- the numbers of the rows that are left where one was taken
pub numbers_taken : (free : List Row) (place : ℕ) (found : Row) → 0 < length free → free_numbers (swap_remove free place found) ≡ taken_out (free_numbers free) place
numbers_taken free place found some =
    let number : Row → ℕ = λ r. r.0 in
    let last : Row = get_or free (length free - 1) found in
    let same : length (free_numbers free) ≡ length free = length-map free number in
    let last_is : number_at (free_numbers free) (length free - 1) ≡ last.0 = get_or-map number free (length free - 1) found 0 (omega arith) in
    sym (take-map number (length free - 1) (set free place last)) ∙ ap (take (length free - 1)) (map-set number free place last)
    ∙ ap (λ n. take (length free - 1) (set (free_numbers free) place n)) (sym last_is)
    ∙ ap (λ n. take (n - 1) (set (free_numbers free) place (number_at (free_numbers free) (n - 1)))) (sym same)

-- where the last is taken, the others stay
pub taken_last : (free : List ℕ) (place : ℕ) → place + 1 ≡ length free → free ≡ taken_out free place ++ number_at free place ∷ []
taken_last free place last =
    let same : length free - 1 ≡ place = omega (arith, last) in
    let within : place < length free = omega (arith, last) in
    let whole : take (place + 1) free ≡ take place free ++ number_at free place ∷ [] = take_more free place 0 within in
    let kept : taken_out free place ≡ take place free =
    ap (λ n. take n (set free place (number_at free n))) same ∙ ap (take place) (set-get_or free place 0) in
    sym (take_all (place + 1) free (omega (arith, last))) ∙ whole ∙ ap (λ (l : List ℕ). l ++ number_at free place ∷ []) (sym kept)

-- what the writer's lists keep where a row of any place was taken
pub taken_rows : (rows : ℕ) (row : Row) (free rest : List Row) (left : List Left) (firsts : List ℕ) (writer_state : WriterState) → IsPermutation free (row ∷ rest)
    → RowsKept rows free left firsts writer_state → RowsKept rows (rest ++ row ∷ []) left firsts writer_state
taken_rows rows row free rest left firsts writer_state permuted kept =
    moved_lists rows free (rest ++ row ∷ []) left firsts writer_state
    (IsPermutation-trans free (row ∷ rest) (rest ++ row ∷ []) permuted (IsPermutation-sym (rest ++ row ∷ []) (row ∷ rest) (IsPermutation-to_front rest row))) kept

-- each free row is listed once
pub once_free : (rows : ℕ) (free : List Row) (left : List Left) (firsts : List ℕ) (writer_state : WriterState) → RowsKept rows free left firsts writer_state
    → (row : ℕ) → times row (free_numbers free) ≤ 1
once_free rows free left firsts writer_state kept row = omega (arith, kept.once row)

-- and is one of the table
pub free_within : (rows : ℕ) (free : List Row) (left : List Left) (firsts : List ℕ) (writer_state : WriterState) → RowsKept rows free left firsts writer_state
    → (place : ℕ) → place < length free → number_at (free_numbers free) place < rows
free_within rows free left firsts writer_state kept place within =
    let number : Row → ℕ = λ r. r.0 in
    let same : length (free_numbers free) ≡ length free = length-map free number in
    let here = place_times (free_numbers free) place (number_at (free_numbers free) place) (omega (arith, within, same)) refl in
    kept.inside (number_at (free_numbers free) place) (omega (arith, here))

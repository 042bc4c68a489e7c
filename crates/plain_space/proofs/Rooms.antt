-- For `highest_below` and `low_place`: room that is found in one chunk is free of all areas.
use Rattle.std.proofs.Common.{◌≡◌, ◌≤◌, ◌<◌, ◌+◌, ◌-◌, ℕ, Bool, true, false, ◌&&◌, ◌||◌, if◌then◌else◌, nat_le, List, [], ◌∷◌, ◌++◌, length, map, take, drop, get_or, Option, Some, None, refl, ap, ◌∙◌, sym, subst, All, max, arith}
use Rattle.std.specs.List.{Contains, AllByRecursion as Each}
use Rattle.std.proofs.lemmas.Bool.{leb-true, leb-false}
use Rattle.std.proofs.lemmas.Bool.Decides.{nat_tests}
use Rattle.std.proofs.lemmas.List.{append-nil, drop_more, map-append, take_more}
use Rattle.std.proofs.lemmas.List.Elements.{All-contains, All-from_recursion, recursion_from_All}
use Rattle.std.proofs.lemmas.List.Folds.{list_all-append}
use Rattle.mm_types.specs.declared.area.Record.{Record}
use Rattle.mm_types.specs.declared.area.Span.{Span}
use Rattle.mm_types.specs.Searches.{is_clear_of}
use Rattle.area_list.proofs.Elements.{Each-append, Each-left, Each-weaker}
use Rattle.area_rules.specs.declared.placement.Bounds.{Bounds}
use Rattle.area_rules.specs.declared.placement.TheConstants.{FLOOR, WINDOW_END}
use Rattle.area_rules.specs.Placement.{is_free, highest_below, low_place}
use Rattle.area_rules.proofs.Placing.{low_found, low_none}
use Rattle.split_merge.proofs.Ascending.{Below}
use Rattle.split_merge.proofs.Lists.{Pairs-right, Pairs-across}
use Rattle.plain_space.specs.Internal.Chunks.{areas_in_chunks, AscendApart}
use Rattle.plain_space.specs.Internal.Gaps.{HasRoomBelow, HasRoomAbove}
use Rattle.plain_space.proofs.Among.{EndsBelow, ends_below}
use Rattle.split_merge.proofs.Going.{ascending_pairs}
use Rattle.plain_space.proofs.Locating.{pairs_at}
use Rattle.plain_space.proofs.Parting.{areas_of-append, areas_at}
use Rattle.plain_space.proofs.Searching.{highest_found, highest_none}

is_free-append : (xs ys : List Record) (pages start : ℕ) → is_free (xs ++ ys) pages start ≡ (is_free xs pages start && is_free ys pages start)
unfolding is_free
is_free-append xs ys pages start = ap (λ (spans : List Span). is_clear_of spans pages start) (map-append (λ (a : Record). a.span) xs ys)
    ∙ list_all-append (λ (s : Span). nat_le (start + pages) s.lo || nat_le s.hi start) (map (λ (a : Record). a.span) xs) (map (λ (a : Record). a.span) ys)

lower_test : (lo hi start pages : ℕ) (rest : Bool) → hi ≤ start → rest ≡ true → ((nat_le (start + pages) lo || nat_le hi start) && rest) ≡ true
lower_test lo hi start pages rest below is = grind (arith, nat_tests)

upper_test : (lo hi start pages : ℕ) (rest : Bool) → start + pages ≤ lo → rest ≡ true → ((nat_le (start + pages) lo || nat_le hi start) && rest) ≡ true
upper_test lo hi start pages rest above is = grind (arith, nat_tests)

-- pages above all areas are free, and pages below them
pub free_above : (areas : List Record) (pages start : ℕ) → Each (λ a. a.span.hi ≤ start) areas → is_free areas pages start ≡ true
unfolding is_free
free_above [] pages start each = refl
free_above (a ∷ areas) pages start each = lower_test a.span.lo a.span.hi start pages (is_free areas pages start) each.0 (free_above areas pages start each.1)

pub free_below : (areas : List Record) (pages start : ℕ) → Each (λ a. start + pages ≤ a.span.lo) areas → is_free areas pages start ≡ true
unfolding is_free
free_below [] pages start each = refl
free_below (a ∷ areas) pages start each = upper_test a.span.lo a.span.hi start pages (is_free areas pages start) each.0 (free_below areas pages start each.1)

three_true : (a b c : Bool) → a ≡ true → b ≡ true → c ≡ true → (a && (b && c)) ≡ true
three_true a b c x y z = grind arith

first_false : (b c : Bool) → b ≡ false → (b && c) ≡ false
first_false true c is = absurd (cc)
first_false false c is = refl

middle_false : (a b c : Bool) → b ≡ false → (a && (b && c)) ≡ false
middle_false true b c is = first_false b c is
middle_false false b c is = refl

free_parts : (chunks : List (List Record)) (place pages start : ℕ) → place < length chunks → is_free (areas_in_chunks chunks) pages start
    ≡ (is_free (areas_in_chunks (take place chunks)) pages start && (is_free (get_or chunks place []) pages start && is_free (areas_in_chunks (drop (place + 1) chunks)) pages start))
free_parts chunks place pages start within =
    let front = areas_in_chunks (take place chunks) in
    let chunk = get_or chunks place [] in
    let back = areas_in_chunks (drop (place + 1) chunks) in
    ap (λ list. is_free list pages start) (areas_at chunks place within)
    ∙ is_free-append front (chunk ++ back) pages start
    ∙ ap (λ rest. is_free front pages start && rest) (is_free-append chunk back pages start)

-- where a chunk has one of the pages they are not free
pub taken_at : (chunks : List (List Record)) (place pages start : ℕ) → place < length chunks → is_free (get_or chunks place []) pages start ≡ false
    → is_free (areas_in_chunks chunks) pages start ≡ false
taken_at chunks place pages start within taken = free_parts chunks place pages start within
    ∙ middle_false (is_free (areas_in_chunks (take place chunks)) pages start) (is_free (get_or chunks place []) pages start)
    (is_free (areas_in_chunks (drop (place + 1) chunks)) pages start) taken

free_at : (chunks : List (List Record)) (place pages start : ℕ) → place < length chunks → is_free (areas_in_chunks (take place chunks)) pages start ≡ true
    → is_free (get_or chunks place []) pages start ≡ true → is_free (areas_in_chunks (drop (place + 1) chunks)) pages start ≡ true
    → is_free (areas_in_chunks chunks) pages start ≡ true
free_at chunks place pages start within front here back = free_parts chunks place pages start within
    ∙ three_true (is_free (areas_in_chunks (take place chunks)) pages start) (is_free (get_or chunks place []) pages start)
    (is_free (areas_in_chunks (drop (place + 1) chunks)) pages start) front here back

-- each area of a chunk ends above those before it, and begins below those after it
front_ends : (chunks : List (List Record)) (place : ℕ) (area : Record) → AscendApart chunks → place < length chunks → Contains (get_or chunks place []) area
    → Each (λ a. a.span.hi < area.span.hi) (areas_in_chunks (take place chunks))
front_ends chunks place area a within member =
    let front = areas_in_chunks (take place chunks) in
    let chunk = get_or chunks place [] in
    let back = areas_in_chunks (drop (place + 1) chunks) in
    Each-weaker (λ x. Each (EndsBelow x) (chunk ++ back)) (λ x. x.span.hi < area.span.hi)
    (λ x each. All-contains (EndsBelow x) chunk area (All-from_recursion (EndsBelow x) chunk (Each-left (EndsBelow x) chunk back each)) member) front
    (Pairs-across EndsBelow front (chunk ++ back) (pairs_at EndsBelow chunks place within (ends_below chunks a)))

back_begins : (chunks : List (List Record)) (place : ℕ) (area : Record) → AscendApart chunks → place < length chunks → Contains (get_or chunks place []) area
    → Each (λ a. area.span.lo < a.span.lo) (areas_in_chunks (drop (place + 1) chunks))
back_begins chunks place area a within member =
    let front = areas_in_chunks (take place chunks) in
    let chunk = get_or chunks place [] in
    let back = areas_in_chunks (drop (place + 1) chunks) in
    All-contains (λ x. Each (Below x) back) chunk area (All-from_recursion (λ x. Each (Below x) back) chunk
    (Pairs-across Below chunk back (Pairs-right Below front (chunk ++ back) (pairs_at Below chunks place within (ascending_pairs (areas_in_chunks chunks) a.begins))))) member

-- room below a page that one chunk has, and those after it leave
pub room_below : (chunks : List (List Record)) (place pages page : ℕ) → AscendApart chunks → place < length chunks → HasRoomBelow (get_or chunks place []) page pages
    → Each (λ a. page ≤ a.span.lo) (areas_in_chunks (drop (place + 1) chunks)) → is_free (areas_in_chunks chunks) pages (page - pages) ≡ true
room_below chunks place pages page a within room above =
    free_at chunks place pages (page - pages) within
    (free_above (areas_in_chunks (take place chunks)) pages (page - pages)
    (Each-weaker (λ x. x.span.hi < room.lower.span.hi) (λ x. x.span.hi ≤ page - pages) (λ x below. omega (arith, below, room.ends)) (areas_in_chunks (take place chunks))
    (front_ends chunks place room.lower a within room.member)))
    room.free
    (free_below (areas_in_chunks (drop (place + 1) chunks)) pages (page - pages)
    (Each-weaker (λ x. page ≤ x.span.lo) (λ x. page - pages + pages ≤ x.span.lo) (λ x beyond. omega (arith, beyond, room.ends)) (areas_in_chunks (drop (place + 1) chunks)) above))

-- room from a page on that one chunk has, and those before it leave
pub room_above : (chunks : List (List Record)) (place pages page : ℕ) → AscendApart chunks → place < length chunks → HasRoomAbove (get_or chunks place []) page pages
    → Each (λ a. a.span.hi ≤ page) (areas_in_chunks (take place chunks)) → is_free (areas_in_chunks chunks) pages page ≡ true
room_above chunks place pages page a within room below =
    free_at chunks place pages page within (free_above (areas_in_chunks (take place chunks)) pages page below) room.free
    (free_below (areas_in_chunks (drop (place + 1) chunks)) pages page
    (Each-weaker (λ x. room.upper.span.lo < x.span.lo) (λ x. page + pages ≤ x.span.lo) (λ x beyond. omega (arith, beyond, room.begins)) (areas_in_chunks (drop (place + 1) chunks))
    (back_begins chunks place room.upper a within room.member)))

-- the areas from a chunk on, where no area of it and of those after it begins below a page
pub above_more : (chunks : List (List Record)) (place left page end : ℕ) → place < length chunks → place + 1 ≡ left → page ≤ end
    → All (λ a. page ≤ a.span.lo) (get_or chunks place []) → Each (λ a. end ≤ a.span.lo) (areas_in_chunks (drop left chunks))
    → Each (λ a. page ≤ a.span.lo) (areas_in_chunks (drop place chunks))
above_more chunks place left page end within next order here above =
    subst (λ list. Each (λ a. page ≤ a.span.lo) (areas_in_chunks list)) (sym (drop_more chunks place [] within))
    (Each-append (λ a. page ≤ a.span.lo) (get_or chunks place []) (areas_in_chunks (drop (place + 1) chunks))
    (recursion_from_All (λ a. page ≤ a.span.lo) (get_or chunks place []) here)
    (Each-weaker (λ a. end ≤ a.span.lo) (λ a. page ≤ a.span.lo) (λ a higher. omega (arith, higher, order)) (areas_in_chunks (drop (place + 1) chunks))
    (subst (λ n. Each (λ a. end ≤ a.span.lo) (areas_in_chunks (drop n chunks))) (sym next) above)))

-- and those up to a chunk, where no area of it and of those before it ends above a page
pub below_more : (chunks : List (List Record)) (place page start : ℕ) → place < length chunks → start ≤ page
    → All (λ a. a.span.hi ≤ page) (get_or chunks place []) → Each (λ a. a.span.hi ≤ start) (areas_in_chunks (take place chunks))
    → Each (λ a. a.span.hi ≤ page) (areas_in_chunks (take (place + 1) chunks))
below_more chunks place page start within order here below =
    subst (λ list. Each (λ a. a.span.hi ≤ page) (areas_in_chunks list)) (sym (take_more chunks place [] within))
    (subst (λ (list : List Record). Each (λ a. a.span.hi ≤ page) list) (sym (areas_of-append (take place chunks) (get_or chunks place [] ∷ [])))
    (Each-append (λ a. a.span.hi ≤ page) (areas_in_chunks (take place chunks)) (get_or chunks place [] ++ [])
    (Each-weaker (λ a. a.span.hi ≤ start) (λ a. a.span.hi ≤ page) (λ a lower. omega (arith, lower, order)) (areas_in_chunks (take place chunks)) below)
    (subst (λ (list : List Record). Each (λ a. a.span.hi ≤ page) list) (sym (append-nil (get_or chunks place [])))
    (recursion_from_All (λ a. a.span.hi ≤ page) (get_or chunks place []) here))))

tested : {A : Type 0} (m n : ℕ) (value : A) (found : Option A) → (m ≤ n → found ≡ Some value) → (n < m → found ≡ None)
    → (if nat_le m n then Some value else None) ≡ found
tested m n value found some none = by (nat_le m n) refl
  where
    by : (test : Bool) → nat_le m n ≡ test → (if test then Some value else None) ≡ found
    by true is = sym (some (leb-true m n is))
    by false is = sym (none (leb-false m n is))

-- what a search from above answers where it stands at a page
pub answer_below : (bounds : Bounds) (last : ℕ) (areas : List Record) (pages page : ℕ) → page ≤ last
    → ((start : ℕ) → page < start + pages → start + pages ≤ last → is_free areas pages start ≡ false)
    → (bounds.low + pages ≤ page → is_free areas pages (page - pages) ≡ true)
    → (if nat_le (bounds.low + pages) page then Some (page - pages) else None) ≡ highest_below bounds last areas pages
answer_below bounds last areas pages page within none free = tested (bounds.low + pages) page (page - pages) (highest_below bounds last areas pages)
    (λ room. highest_found bounds last areas pages page room within none (free room))
    (λ past. highest_none bounds last areas pages page past none)

-- and one from below
pub answer_above : (bounds : Bounds) (areas : List Record) (pages page : ℕ) → max FLOOR bounds.low ≤ page
    → ((start : ℕ) → max FLOOR bounds.low ≤ start → start < page → is_free areas pages start ≡ false)
    → is_free areas pages page ≡ true
    → (if nat_le (page + pages) WINDOW_END then Some page else None) ≡ low_place bounds areas pages
answer_above bounds areas pages page above none free = tested (page + pages) WINDOW_END page (low_place bounds areas pages)
    (λ room. low_found bounds areas pages page above room none free)
    (λ past. low_none bounds areas pages page past none)

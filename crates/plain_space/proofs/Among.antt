-- For `first_from` and `last_before`: an area that is found in one chunk is the one of the list.
use Rattle.std.proofs.Common.{◌≡◌, ◌≤◌, ◌<◌, ◌+◌, ◌-◌, ℕ, Bool, true, false, if◌then◌else◌, nat_le, nat_lt, List, [], ◌∷◌, ◌++◌, length, take, drop, get_or, Option, Some, None, refl, ap, ◌∙◌, sym, subst, arith}
use Rattle.std.specs.List.{filter, prefix_len, last_or, AllByRecursion as Each}
use Rattle.std.specs.List.Sorted.{IsNonDecreasingBy}
use Rattle.std.specs.Option.{option_or}
use Rattle.std.proofs.lemmas.Bool.{cond-true, cond-false, lt-ltb, le-ltb, ltb-true, ltb-false, leb-true, leb-false}
use Rattle.std.proofs.lemmas.List.{append-nil, take_all}
use Rattle.std.proofs.lemmas.List.Elements.{recursion_from_All, filter-append}
use Rattle.std.proofs.lemmas.List.Folds.{find-append}
use Rattle.std.proofs.lemmas.List.Sums.{prefix_len_passes, prefix_len_stops, prefix_len-le-length}
use Rattle.mm_types.specs.declared.area.Record.{Record}
use Rattle.area_list.proofs.Elements.{Pairs, Each-weaker, Pairs-weaker}
use Rattle.split_merge.specs.Finding.{first_from, last_before}
use Rattle.split_merge.proofs.Counting.{Pairs-from_AllPairs}
use Rattle.split_merge.proofs.Walking.{filter_none}
use Rattle.plain_space.specs.Internal.Chunks.{areas_in_chunks, chunk_low, chunk_high, IsSome, AreChunksInOrder, AscendApart}
use Rattle.plain_space.specs.Internal.Gaps.{IsAscending}
use Rattle.split_merge.proofs.Going.{ascending_pairs}
use Rattle.plain_space.proofs.InOrder.{AllPairs-from_Pairs}
use Rattle.plain_space.proofs.Locating.{comes_into, all_behind, pairs_within, some_at, rise_by_none}
use Rattle.plain_space.proofs.Parting.{areas_of-append, areas_at, rise_pairs, pairs_rise, lows_rise, highs_rise, EndsNotAbove, Pairs-left, front_passes, front_ends}
use Rattle.plain_space.proofs.Ranging.{rise_from_ascend}
use Rattle.std.proofs.lemmas.List.{take-append-drop}

-- the one area ends below the end of the other
abbrev pub EndsBelow : Record → Record → Type 0
EndsBelow a b = a.span.hi < b.span.hi

pub ends_below : (chunks : List (List Record)) → AscendApart chunks → Pairs EndsBelow (areas_in_chunks chunks)
ends_below chunks a = Pairs-from_AllPairs EndsBelow (areas_in_chunks chunks) a.ends

pub ends_not_above : (chunks : List (List Record)) → AscendApart chunks → Pairs EndsNotAbove (areas_in_chunks chunks)
ends_not_above chunks a = Pairs-weaker EndsBelow EndsNotAbove (λ x y below. omega (arith, below)) (areas_in_chunks chunks) (ends_below chunks a)

-- chunks in order lie by ascending lowest page, and by ascending end
pub lows_ordered : (chunks : List (List Record)) → AreChunksInOrder chunks → IsNonDecreasingBy chunk_low chunks
lows_ordered chunks o = pairs_rise chunk_low chunks (lows_rise chunks (recursion_from_All IsSome chunks o.some) (rise_pairs (λ (a : Record). a.span.lo) (areas_in_chunks chunks) o.rise))

pub highs_ordered : (chunks : List (List Record)) → AscendApart chunks → IsNonDecreasingBy chunk_high chunks
highs_ordered chunks a = pairs_rise chunk_high chunks (highs_rise chunks (recursion_from_All IsSome chunks a.some) (ends_not_above chunks a))

pub in_order : (chunks : List (List Record)) → AscendApart chunks → AreChunksInOrder chunks
in_order chunks a = record { some = a.some; rise = rise_from_ascend (areas_in_chunks chunks) a.begins }

-- the areas of one of them ascend
pub ascending_at : (chunks : List (List Record)) (place : ℕ) → AscendApart chunks → place < length chunks → IsAscending (get_or chunks place [])
ascending_at chunks place a within = record {
  begins = AllPairs-from_Pairs (λ x y. x.span.lo < y.span.lo) (get_or chunks place [])
      (pairs_within (λ x y. x.span.lo < y.span.lo) chunks place within (ascending_pairs (areas_in_chunks chunks) a.begins));
  ends = AllPairs-from_Pairs EndsBelow (get_or chunks place []) (pairs_within EndsBelow chunks place within (ends_below chunks a));
}

-- the areas of the chunks that end by a page
pub ends_before : (chunks : List (List Record)) (page : ℕ) → AscendApart chunks
    → Each (λ a. a.span.hi ≤ page) (areas_in_chunks (take (prefix_len (λ chunk. nat_le (chunk_high chunk) page) chunks) chunks))
ends_before chunks page a =
    let count = prefix_len (λ chunk. nat_le (chunk_high chunk) page) chunks in
    front_ends page (take count chunks)
    (Pairs-left EndsNotAbove (areas_in_chunks (take count chunks)) (areas_in_chunks (drop count chunks))
    (subst (λ (list : List Record). Pairs EndsNotAbove list) (ap areas_in_chunks (sym (take-append-drop count chunks)) ∙ areas_of-append (take count chunks) (drop count chunks))
    (ends_not_above chunks a)))
    (Each-weaker (λ chunk. nat_le (chunk_high chunk) page ≡ true) (λ chunk. chunk_high chunk ≤ page) (λ chunk passes. leb-true (chunk_high chunk) page passes)
    (take count chunks) (front_passes (λ chunk. nat_le (chunk_high chunk) page) chunks))

none_from : (page : ℕ) (areas : List Record) → Each (λ a. a.span.hi ≤ page) areas → first_from areas page ≡ None
none_from page [] each = refl
none_from page (area ∷ areas) each = cond-false (nat_lt page area.span.hi) (Some area) (first_from areas page) (le-ltb page area.span.hi each.0)
    ∙ none_from page areas each.1

here_from : (page : ℕ) (chunk back : List Record) → 0 < length chunk → page < chunk_high chunk → first_from (chunk ++ back) page ≡ first_from chunk page
here_from page [] back some above = absurd (omega (arith, some))
here_from page (a ∷ []) back some above =
    let passes : nat_lt page a.span.hi ≡ true = lt-ltb page a.span.hi above in
    cond-true (nat_lt page a.span.hi) (Some a) (first_from back page) passes ∙ sym (cond-true (nat_lt page a.span.hi) (Some a) None passes)
here_from page (a ∷ (b ∷ rest)) back some above = by (nat_lt page a.span.hi) (here_from page (b ∷ rest) back (omega arith) above)
  where
    by : (test : Bool) → first_from ((b ∷ rest) ++ back) page ≡ first_from (b ∷ rest) page
        → (if test then Some a else first_from ((b ∷ rest) ++ back) page) ≡ (if test then Some a else first_from (b ∷ rest) page)
    by true same = refl
    by false same = same

-- the first chunk that ends above a page has the first area that does
pub found_from : (chunks : List (List Record)) (page place : ℕ) → AscendApart chunks → place ≡ prefix_len (λ chunk. nat_le (chunk_high chunk) page) chunks
    → place < length chunks → first_from (get_or chunks place []) page ≡ first_from (areas_in_chunks chunks) page
found_from chunks page place a is within =
    let front = areas_in_chunks (take place chunks) in
    let chunk = get_or chunks place [] in
    let back = areas_in_chunks (drop (place + 1) chunks) in
    let test : List Record → Bool = λ chunk. nat_le (chunk_high chunk) page in
    let stops = prefix_len_stops test chunks [] (omega (arith, is, within)) in
    let above : page < chunk_high (get_or chunks place []) = subst (λ n. page < chunk_high (get_or chunks n [])) (sym is)
    (leb-false (chunk_high (get_or chunks (prefix_len test chunks) [])) page stops) in
    let lower : Each (λ a. a.span.hi ≤ page) front = subst (λ n. Each (λ a. a.span.hi ≤ page) (areas_in_chunks (take n chunks))) (sym is) (ends_before chunks page a) in
    sym (ap (λ list. first_from list page) (areas_at chunks place within)
    ∙ find-append (λ area. nat_lt page area.span.hi) front (chunk ++ back)
    ∙ ap (λ found. option_or found (first_from (chunk ++ back) page)) (none_from page front lower)
    ∙ here_from page chunk back (some_at IsSome chunks place within a.some) above)

-- and where there is no such chunk there is no such area
pub none_found_from : (chunks : List (List Record)) (page place : ℕ) → AscendApart chunks → place ≡ prefix_len (λ chunk. nat_le (chunk_high chunk) page) chunks
    → length chunks ≤ place → first_from (areas_in_chunks chunks) page ≡ None
none_found_from chunks page place a is past =
    none_from page (areas_in_chunks chunks) (subst (λ list. Each (λ a. a.span.hi ≤ page) (areas_in_chunks list)) (take_all place chunks past)
    (subst (λ n. Each (λ a. a.span.hi ≤ page) (areas_in_chunks (take n chunks))) (sym is) (ends_before chunks page a)))

last_skips : {A : Type 0} (o other : Option A) (xs : List A) (y : A) (ys : List A) → last_or o (xs ++ (y ∷ ys)) ≡ last_or other (y ∷ ys)
last_skips o other [] y ys = refl
last_skips o other (x ∷ xs) y ys = last_skips (Some x) other xs y ys

here_before : (page : ℕ) (front chunk back : List Record) → 0 < length chunk → chunk_low chunk < page → Each (λ a. page ≤ a.span.lo) back
    → last_before (front ++ (chunk ++ back)) page ≡ last_before chunk page
here_before page front [] back some low above = absurd (omega (arith, some))
here_before page front (a ∷ rest) back some low above =
    let begins : Record → Bool = λ area. nat_lt area.span.lo page in
    let first = cond-true (begins a) (a ∷ filter begins rest) (filter begins rest) (lt-ltb a.span.lo page low) in
    ap (last_or None) (filter-append begins front ((a ∷ rest) ++ back)
    ∙ ap (λ list. filter begins front ++ list) (filter-append begins (a ∷ rest) back
    ∙ ap (λ list. filter begins (a ∷ rest) ++ list) (filter_none page back above)
    ∙ append-nil (filter begins (a ∷ rest))
    ∙ first))
    ∙ last_skips None None (filter begins front) a (filter begins rest)
    ∙ sym (ap (last_or None) first)

-- the last chunk that begins below a page has the last area that does
pub found_before : (chunks : List (List Record)) (page count : ℕ) → AscendApart chunks → count ≡ prefix_len (λ chunk. nat_lt (chunk_low chunk) page) chunks
    → 0 < count → last_before (get_or chunks (count - 1) []) page ≡ last_before (areas_in_chunks chunks) page
found_before chunks page count a is later =
    let test : List Record → Bool = λ chunk. nat_lt (chunk_low chunk) page in
    let many = prefix_len-le-length test chunks in
    let at = comes_into chunks page (count - 1) a.some (in_order chunks a).rise (omega (arith, is, later, many)) (ap (λ n. n - 1) is) in
    let passes = prefix_len_passes test chunks (count - 1) [] (omega (arith, is, later)) in
    sym (ap (λ list. last_before list page) (areas_at chunks (count - 1) at.within)
    ∙ here_before page (areas_in_chunks (take (count - 1) chunks)) (get_or chunks (count - 1) []) (areas_in_chunks (drop (count - 1 + 1) chunks))
    (some_at IsSome chunks (count - 1) at.within a.some) (ltb-true (chunk_low (get_or chunks (count - 1) [])) page passes)
    (Each-weaker (λ x. page + 0 ≤ x.span.lo) (λ x. page ≤ x.span.lo) (λ x above. omega (arith, above)) (areas_in_chunks (drop (count - 1 + 1) chunks)) at.back))

-- the areas of the chunks that do not begin below a page
pub begins_after : (chunks : List (List Record)) (page : ℕ) → AscendApart chunks
    → Each (λ a. page ≤ a.span.lo) (areas_in_chunks (drop (prefix_len (λ chunk. nat_lt (chunk_low chunk) page) chunks) chunks))
begins_after chunks page a =
    let count = prefix_len (λ chunk. nat_lt (chunk_low chunk) page) chunks in
    Each-weaker (λ x. page + 0 ≤ x.span.lo) (λ x. page ≤ x.span.lo) (λ x above. omega (arith, above)) (areas_in_chunks (drop count chunks))
    (all_behind 0 page (λ chunk. nat_lt (chunk_low chunk) page) (λ chunk passes. omega (arith, ltb-true (chunk_low chunk) page passes))
    (λ chunk stops. omega (arith, ltb-false (chunk_low chunk) page stops)) chunks a.some (rise_by_none (areas_in_chunks chunks) (in_order chunks a).rise))

-- and where there is no such chunk there is no such area
pub none_found_before : (chunks : List (List Record)) (page count : ℕ) → AscendApart chunks → count ≡ prefix_len (λ chunk. nat_lt (chunk_low chunk) page) chunks
    → count ≤ 0 → last_before (areas_in_chunks chunks) page ≡ None
none_found_before chunks page count a is none =
    let zero : prefix_len (λ chunk. nat_lt (chunk_low chunk) page) chunks ≡ 0 = omega (arith, is, none) in
    ap (last_or None) (filter_none page (areas_in_chunks chunks)
    (subst (λ n. Each (λ x. page ≤ x.span.lo) (areas_in_chunks (drop n chunks))) zero (begins_after chunks page a)))

-- For `divide`, `Store::insert_at` and `Store::remove_at`: chunks with an area and room for one more.
use Rattle.std.proofs.Common.{◌≡◌, ◌≤◌, ◌<◌, ◌+◌, ◌/◌, ℕ, List, [], ◌∷◌, ◌++◌, length, take, drop, get_or, set, refl, ap, ◌∙◌, sym, subst, All, arith, append_assoc, length-append}
use Rattle.std.specs.List.{insert, AllByRecursion as Each}
use Rattle.std.proofs.lemmas.List.{take_more_set, drop-set-lt, take-set, length-take-le, length-drop}
use Rattle.std.proofs.lemmas.List.Elements.{All-from_recursion, recursion_from_All}
use Rattle.mm_types.specs.declared.area.Record.{Record}
use Rattle.area_list.specs.Changes.{insert_area}
use Rattle.area_list.proofs.Elements.{Each-append, Each-left, Each-right}
use Rattle.split_merge.proofs.Counting.{length-with_all}
use Rattle.plain_space.specs.Internal.Chunks.{areas_in_chunks, IsFilled, AreOthersFilled}
use Rattle.plain_space.proofs.Parting.{areas_of-append, parts_at, areas_at, areas_set}

each_filled : (chunks : List (List Record)) (place : ℕ) → place < length chunks → All IsFilled chunks
    → Each IsFilled (take place chunks ++ (get_or chunks place [] ∷ drop (place + 1) chunks))
each_filled chunks place within filled = subst (λ list. Each IsFilled list) (parts_at chunks place within) (recursion_from_All IsFilled chunks filled)

-- where another chunk stands at a place, the others are as they were
pub others_filled : (chunks : List (List Record)) (place : ℕ) (chunk : List Record) → place < length chunks → All IsFilled chunks
    → AreOthersFilled (set chunks place chunk) place
others_filled chunks place chunk within filled = record {
  front = subst (λ list. All IsFilled list) (sym (take-set chunks place chunk)) (All-from_recursion IsFilled (take place chunks)
      (Each-left IsFilled (take place chunks) (get_or chunks place [] ∷ drop (place + 1) chunks) (each_filled chunks place within filled)));
  back = subst (λ list. All IsFilled list) (sym (drop-set-lt (place + 1) chunks place chunk (omega arith))) (All-from_recursion IsFilled (drop (place + 1) chunks)
      (Each-right IsFilled (take place chunks) (get_or chunks place [] ∷ drop (place + 1) chunks) (each_filled chunks place within filled)).1);
}

-- two chunks in the place of one
pub divided_parts : (chunks : List (List Record)) (place : ℕ) (lower upper : List Record) → place < length chunks
    → insert (set chunks place lower) (place + 1) upper ≡ take place chunks ++ (lower ∷ (upper ∷ drop (place + 1) chunks))
divided_parts chunks place lower upper within =
    ap (λ front. front ++ (upper ∷ drop (place + 1) (set chunks place lower))) (take_more_set chunks place lower within)
    ∙ append_assoc (take place chunks) (lower ∷ []) (upper ∷ drop (place + 1) (set chunks place lower))
    ∙ ap (λ back. take place chunks ++ (lower ∷ (upper ∷ back))) (drop-set-lt (place + 1) chunks place lower (omega arith))

-- have its areas
pub divided_areas : (chunks : List (List Record)) (place : ℕ) (lower upper : List Record) → place < length chunks → lower ++ upper ≡ get_or chunks place []
    → areas_in_chunks (insert (set chunks place lower) (place + 1) upper) ≡ areas_in_chunks chunks
divided_areas chunks place lower upper within whole =
    let front = areas_in_chunks (take place chunks) in
    let back = areas_in_chunks (drop (place + 1) chunks) in
    ap areas_in_chunks (divided_parts chunks place lower upper within)
    ∙ areas_of-append (take place chunks) (lower ∷ (upper ∷ drop (place + 1) chunks))
    ∙ ap (λ rest. front ++ rest) (sym (append_assoc lower upper back) ∙ ap (λ chunk. chunk ++ back) whole)
    ∙ sym (areas_at chunks place within)

-- and are filled where both are
pub divided_filled : (chunks : List (List Record)) (place : ℕ) (lower upper : List Record) → place < length chunks → AreOthersFilled chunks place
    → IsFilled lower → IsFilled upper → All IsFilled (insert (set chunks place lower) (place + 1) upper)
divided_filled chunks place lower upper within others low high =
    subst (λ list. All IsFilled list) (sym (divided_parts chunks place lower upper within))
    (All-from_recursion IsFilled (take place chunks ++ (lower ∷ (upper ∷ drop (place + 1) chunks)))
    (Each-append IsFilled (take place chunks) (lower ∷ (upper ∷ drop (place + 1) chunks)) (recursion_from_All IsFilled (take place chunks) others.front)
    (low, (high, recursion_from_All IsFilled (drop (place + 1) chunks) others.back))))

-- all are filled where the one at a place is too
pub all_filled : (chunks : List (List Record)) (place : ℕ) → place < length chunks → AreOthersFilled chunks place → IsFilled (get_or chunks place [])
    → All IsFilled chunks
all_filled chunks place within others here =
    subst (λ list. All IsFilled list) (sym (parts_at chunks place within))
    (All-from_recursion IsFilled (take place chunks ++ (get_or chunks place [] ∷ drop (place + 1) chunks))
    (Each-append IsFilled (take place chunks) (get_or chunks place [] ∷ drop (place + 1) chunks) (recursion_from_All IsFilled (take place chunks) others.front)
    (here, recursion_from_All IsFilled (drop (place + 1) chunks) others.back)))

-- the halves of a large chunk
pub lower_filled : (chunk : List Record) (half : ℕ) → half ≡ length chunk / 2 → 128 ≤ length chunk → length chunk ≤ 1024 → IsFilled (take half chunk)
lower_filled chunk half is large most = let lower = length-take-le half chunk (omega (arith, is)) in (omega (arith, lower, is), omega (arith, lower, is))

pub upper_filled : (chunk : List Record) (half : ℕ) → half ≡ length chunk / 2 → 128 ≤ length chunk → length chunk ≤ 1024 → IsFilled (drop half chunk)
upper_filled chunk half is large most = let upper = length-drop half chunk in (omega (arith, upper, is), omega (arith, upper, is))

-- no chunk more, where the one at a place is empty
pub emptied_areas : (chunks : List (List Record)) (place : ℕ) → place < length chunks → length (get_or chunks place []) ≤ 0
    → areas_in_chunks (take place chunks ++ drop (place + 1) chunks) ≡ areas_in_chunks chunks
emptied_areas chunks place within empty =
    let front = areas_in_chunks (take place chunks) in
    let back = areas_in_chunks (drop (place + 1) chunks) in
    areas_of-append (take place chunks) (drop (place + 1) chunks)
    ∙ sym (areas_at chunks place within ∙ ap (λ chunk. front ++ (chunk ++ back)) (nothing (get_or chunks place []) empty))
  where
    nothing : (chunk : List Record) → length chunk ≤ 0 → chunk ≡ []
    nothing [] none = refl
    nothing (area ∷ areas) none = absurd (omega (arith, none))

-- an area more
pub one_longer : (new : Record) (areas : List Record) → length (insert_area new areas) ≡ length areas + 1
one_longer new areas = length-with_all (new ∷ []) areas

pub one_longer_at : (chunks : List (List Record)) (place : ℕ) (new : Record) → place < length chunks
    → length (areas_in_chunks (set chunks place (insert_area new (get_or chunks place [])))) ≡ length (areas_in_chunks chunks) + 1
one_longer_at chunks place new within =
    let front = areas_in_chunks (take place chunks) in
    let chunk = get_or chunks place [] in
    let back = areas_in_chunks (drop (place + 1) chunks) in
    omega (
      arith,
      ap length (areas_set chunks place (insert_area new chunk) within),
      length-append front (insert_area new chunk ++ back),
      length-append (insert_area new chunk) back,
      one_longer new chunk,
      ap length (areas_at chunks place within),
      length-append front (chunk ++ back),
      length-append chunk back,
    )

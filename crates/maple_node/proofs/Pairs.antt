-- For the laws `overwriting_replaces_pairs` and `gaps_stay_apart`: the pairs of entries below a page, and from it on.
use Rattle.std.proofs.Common.{ℕ, ◌≡◌, ◌<◌, ◌≤◌, ◌-◌, min, max, Bool, true, false, if◌then◌else◌, nat_eq, List, [], ◌∷◌, ◌++◌, Option, Some, None, refl, sym, ap, ◌∙◌, arith, inl, inr, append_assoc}
use Rattle.std.specs.Prelude.{nat_lt}
use Rattle.std.specs.List.{flat_map}
use Rattle.std.proofs.lemmas.Bool.{cases_lt}
use Rattle.std.proofs.lemmas.Bool.Decides.{nat_tests}
use Rattle.std.proofs.lemmas.Grind.{flat_map-append}
use Rattle.maple_node.specs.declared.item.NodeItem.{NodeItem}
use Rattle.maple_node.specs.Nodes.{items_end, Ascends}
use Rattle.maple_node.specs.Levels.{item_at}
use Rattle.maple_node.specs.Trees.{Pair, pair_of, pairs_from}
use Rattle.maple_node.specs.Splices.{ending_by, ending_after, piece_of}
use Rattle.maple_node.specs.Pairs.{pair_below, pair_from}
use Rattle.maple_node.proofs.ItemLists.{ending_by-first, ending_by_first, ending_after-later, ending_after_first, item_at-first, item_at-later}

-- the pairs of joined entries
pub pairs_from-append : (start : ℕ) (xs ys : List NodeItem) → pairs_from start (xs ++ ys) ≡ pairs_from start xs ++ pairs_from (items_end start xs) ys
pairs_from-append start [] ys = refl
pairs_from-append start (x ∷ xs) ys =
    ap (λ (pairs : List Pair). pair_of start x ++ pairs) (pairs_from-append x.end xs ys)
    ∙ sym (append_assoc (pair_of start x) (pairs_from x.end xs) (pairs_from (items_end x.end xs) ys))

-- an entry up to a page
abbrev pub cut_at : ℕ → NodeItem → NodeItem
cut_at page x = record { end = page; word = x.word; gap = 0 }

-- the pair of an entry, below a page: all of it, the part below, or nothing
pub lower_all : (start page : ℕ) (x : NodeItem) → start < x.end → x.end ≤ page → flat_map (pair_below page) (pair_of start x) ≡ pair_of start x
lower_all start page x some within =
    let test : nat_lt start page ≡ true = grind (arith, nat_tests) in
    let whole : min x.end page ≡ x.end = omega arith in
    let pair : Pair = record { lo = start; hi = x.end; slot = x.word - 1 } in
    let One : Bool → Type 0 = λ b. flat_map (pair_below page) (if b then [] else (pair ∷ [])) ≡ (if b then [] else (pair ∷ [])) in
    elim (nat_eq x.word 0) as One [ true ↦ refl | false ↦ rw (test, whole) refl ]

pub lower_cut : (start page : ℕ) (x : NodeItem) → start < page → page ≤ x.end
    → flat_map (pair_below page) (pair_of start x) ≡ pair_of start (cut_at page x)
lower_cut start page x some within =
    let test : nat_lt start page ≡ true = grind (arith, nat_tests) in
    let part : min x.end page ≡ page = omega arith in
    let pair : Pair = record { lo = start; hi = x.end; slot = x.word - 1 } in
    let below : Pair = record { lo = start; hi = page; slot = x.word - 1 } in
    let One : Bool → Type 0 = λ b. flat_map (pair_below page) (if b then [] else (pair ∷ [])) ≡ (if b then [] else (below ∷ [])) in
    elim (nat_eq x.word 0) as One [ true ↦ refl | false ↦ rw (test, part) refl ]

pub lower_none : (start page : ℕ) (x : NodeItem) → page ≤ start → flat_map (pair_below page) (pair_of start x) ≡ []
lower_none start page x begins =
    let test : nat_lt start page ≡ false = grind (arith, nat_tests) in
    let pair : Pair = record { lo = start; hi = x.end; slot = x.word - 1 } in
    let One : Bool → Type 0 = λ b. flat_map (pair_below page) (if b then [] else (pair ∷ [])) ≡ [] in
    elim (nat_eq x.word 0) as One [ true ↦ refl | false ↦ rw test refl ]

-- and from a page on
pub upper_all : (start page : ℕ) (x : NodeItem) → page ≤ start → start < x.end → flat_map (pair_from page) (pair_of start x) ≡ pair_of start x
upper_all start page x begins some =
    let test : nat_lt page x.end ≡ true = grind (arith, nat_tests) in
    let whole : max start page ≡ start = omega arith in
    let pair : Pair = record { lo = start; hi = x.end; slot = x.word - 1 } in
    let One : Bool → Type 0 = λ b. flat_map (pair_from page) (if b then [] else (pair ∷ [])) ≡ (if b then [] else (pair ∷ [])) in
    elim (nat_eq x.word 0) as One [ true ↦ refl | false ↦ rw (test, whole) refl ]

pub upper_cut : (start page : ℕ) (x : NodeItem) → start ≤ page → page < x.end → flat_map (pair_from page) (pair_of start x) ≡ pair_of page x
upper_cut start page x begins some =
    let test : nat_lt page x.end ≡ true = grind (arith, nat_tests) in
    let part : max start page ≡ page = omega arith in
    let pair : Pair = record { lo = start; hi = x.end; slot = x.word - 1 } in
    let above : Pair = record { lo = page; hi = x.end; slot = x.word - 1 } in
    let One : Bool → Type 0 = λ b. flat_map (pair_from page) (if b then [] else (pair ∷ [])) ≡ (if b then [] else (above ∷ [])) in
    elim (nat_eq x.word 0) as One [ true ↦ refl | false ↦ rw (test, part) refl ]

pub upper_none : (start page : ℕ) (x : NodeItem) → x.end ≤ page → flat_map (pair_from page) (pair_of start x) ≡ []
upper_none start page x ends =
    let test : nat_lt page x.end ≡ false = grind (arith, nat_tests) in
    let pair : Pair = record { lo = start; hi = x.end; slot = x.word - 1 } in
    let One : Bool → Type 0 = λ b. flat_map (pair_from page) (if b then [] else (pair ∷ [])) ≡ [] in
    elim (nat_eq x.word 0) as One [ true ↦ refl | false ↦ rw test refl ]

-- the parts of the pairs of an entry and others
pub lower-cons : (start page : ℕ) (x : NodeItem) (xs : List NodeItem) (first rest : List Pair) → flat_map (pair_below page) (pair_of start x) ≡ first
    → flat_map (pair_below page) (pairs_from x.end xs) ≡ rest → flat_map (pair_below page) (pairs_from start (x ∷ xs)) ≡ first ++ rest
lower-cons start page x xs first rest one others =
    flat_map-append (pair_below page) (pair_of start x) (pairs_from x.end xs)
    ∙ ap (λ (pairs : List Pair). pairs ++ flat_map (pair_below page) (pairs_from x.end xs)) one
    ∙ ap (λ (pairs : List Pair). first ++ pairs) others

pub upper-cons : (start page : ℕ) (x : NodeItem) (xs : List NodeItem) (first rest : List Pair) → flat_map (pair_from page) (pair_of start x) ≡ first
    → flat_map (pair_from page) (pairs_from x.end xs) ≡ rest → flat_map (pair_from page) (pairs_from start (x ∷ xs)) ≡ first ++ rest
upper-cons start page x xs first rest one others =
    flat_map-append (pair_from page) (pair_of start x) (pairs_from x.end xs)
    ∙ ap (λ (pairs : List Pair). pairs ++ flat_map (pair_from page) (pairs_from x.end xs)) one
    ∙ ap (λ (pairs : List Pair). first ++ pairs) others

-- nothing lies below the page where entries begin, and all from it on
pub below_none : (start page : ℕ) (xs : List NodeItem) → Ascends start xs → page ≤ start → flat_map (pair_below page) (pairs_from start xs) ≡ []
below_none start page [] ascends begins = refl
below_none start page (x ∷ xs) ascends begins =
    let first = ascends.0 in
    lower-cons start page x xs [] [] (lower_none start page x begins) (below_none x.end page xs ascends.1 (omega arith))

pub above_all : (start page : ℕ) (xs : List NodeItem) → Ascends start xs → page ≤ start
    → flat_map (pair_from page) (pairs_from start xs) ≡ pairs_from start xs
above_all start page [] ascends begins = refl
above_all start page (x ∷ xs) ascends begins =
    let first = ascends.0 in
    upper-cons start page x xs (pair_of start x) (pairs_from x.end xs) (upper_all start page x begins first)
    (above_all x.end page xs ascends.1 (omega arith))

-- the first entry ends above the page
piece_pairs : (start page : ℕ) (x : NodeItem) (xs : List NodeItem) → Ascends start (x ∷ xs) → start ≤ page → page < x.end
    → flat_map (pair_below page) (pairs_from start (x ∷ xs)) ≡ pairs_from start (piece_of start page (Some x))
piece_pairs start page x xs ascends begins above =
    let others = below_none x.end page xs ascends.1 (omega arith) in
    let Goal : List NodeItem → Type 0 = λ ys. flat_map (pair_below page) (pairs_from start (x ∷ xs)) ≡ pairs_from start ys in
    elim (cases_lt start page) as (λ _. Goal (piece_of start page (Some x))) [
      | inl some ↦ let test : nat_lt start page ≡ true = grind (arith, nat_tests) in
          rw test (lower-cons start page x xs (pair_of start (cut_at page x)) [] (lower_cut start page x some (omega arith)) others)
      | inr all ↦ let test : nat_lt start page ≡ false = grind (arith, nat_tests) in
          rw test (lower-cons start page x xs [] [] (lower_none start page x all) others)
    ]

-- the part below a page is that of the entries up to it and of the piece of the next
pub pairs_below : (start page : ℕ) (xs : List NodeItem) → Ascends start xs → start ≤ page
    → flat_map (pair_below page) (pairs_from start xs) ≡ pairs_from start (ending_by page xs ++ piece_of (items_end start (ending_by page xs)) page (item_at page xs))
pairs_below start page [] ascends begins = refl
pairs_below start page (x ∷ xs) ascends begins =
    let first = ascends.0 in
    let Goal : List NodeItem → Option NodeItem → Type 0 =
    λ ys o. flat_map (pair_below page) (pairs_from start (x ∷ xs)) ≡ pairs_from start (ys ++ piece_of (items_end start ys) page o) in
    elim (cases_lt page x.end) as (λ _. Goal (ending_by page (x ∷ xs)) (item_at page (x ∷ xs))) [
      | inl above ↦ rw (ending_by_first start page x xs ascends above, item_at-first page x xs above)
          (piece_pairs start page x xs ascends begins above)
      | inr within ↦ rw (ending_by-first page x xs within, item_at-later page x xs within)
          (lower-cons start page x xs (pair_of start x) (pairs_from x.end (ending_by page xs ++ piece_of (items_end x.end (ending_by page xs)) page (item_at page xs)))
          (lower_all start page x first within) (pairs_below x.end page xs ascends.1 within))
    ]

-- the part from a page on is that of the entries that end above it
pub pairs_above : (start page : ℕ) (xs : List NodeItem) → Ascends start xs → start ≤ page
    → flat_map (pair_from page) (pairs_from start xs) ≡ pairs_from page (ending_after page xs)
pairs_above start page [] ascends begins = refl
pairs_above start page (x ∷ xs) ascends begins =
    let Goal : List NodeItem → Type 0 = λ ys. flat_map (pair_from page) (pairs_from start (x ∷ xs)) ≡ pairs_from page ys in
    elim (cases_lt page x.end) as (λ _. Goal (ending_after page (x ∷ xs))) [
      | inl above ↦ rw (ending_after_first start page x xs ascends above)
          (upper-cons start page x xs (pair_of page x) (pairs_from x.end xs) (upper_cut start page x begins above)
          (above_all x.end page xs ascends.1 (omega arith)))
      | inr within ↦ rw (ending_after-later page x xs within)
          (upper-cons start page x xs [] (pairs_from page (ending_after page xs)) (upper_none start page x within)
          (pairs_above x.end page xs ascends.1 within))
    ]

-- the piece of an entry ends at the page
pub piece_end : (start page : ℕ) (o : Option NodeItem) → start ≤ page → (o ≡ None → start ≡ page) → items_end start (piece_of start page o) ≡ page
piece_end start page None begins none = none refl
piece_end start page (Some x) begins none =
    let Ends : List NodeItem → Type 0 = λ ys. items_end start ys ≡ page in
    elim (cases_lt start page) as (λ _. Ends (piece_of start page (Some x))) [
      | inl some ↦ let test : nat_lt start page ≡ true = grind (arith, nat_tests) in rw test refl
      | inr all ↦ let test : nat_lt start page ≡ false = grind (arith, nat_tests) in rw test (omega arith)
    ]

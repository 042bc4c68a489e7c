-- For the law `overwriting_replaces_pairs`: entries with some pages overwritten.
use Rattle.std.proofs.Common.{ℕ, suc, ◌≡◌, ◌<◌, ◌≤◌, true, false, if◌then◌else◌, List, [], ◌∷◌, ◌++◌, get_or, All, Option, Some, None, refl, sym, ap, subst, ◌∙◌, arith, inl, inr, append_assoc}
use Rattle.std.specs.Prelude.{nat_lt, nat_le}
use Rattle.std.specs.List.{flat_map}
use Rattle.std.proofs.lemmas.Bool.{cases_lt}
use Rattle.std.proofs.lemmas.Bool.Decides.{nat_tests}
use Rattle.std.proofs.lemmas.List.Elements.{All-append, All-filter}
use Rattle.maple_node.specs.declared.item.NodeItem.{NodeItem}
use Rattle.maple_node.specs.Nodes.{items_end, Ascends, KeepsNoGap}
use Rattle.maple_node.specs.Levels.{item_at}
use Rattle.maple_node.specs.Trees.{Pair, pair_of, pairs_from}
use Rattle.maple_node.proofs.Lists.{end_of-append, Ascends-append}
use Rattle.maple_node.specs.Splices.{ending_by, ending_after, piece_of, piece_below, overwrite}
use Rattle.maple_node.specs.Pairs.{pair_below, pair_from, overwritten}
use Rattle.maple_node.proofs.ItemLists.{ending_by_all, ending_by_below, ending_by-ascends, ending_after-ascends, ending_after-ends, item_at-first, item_at-later, item_at-none, IsPlain-append, IsPlain-ending_by, IsPlain-ending_after}
use Rattle.maple_node.proofs.Pairs.{pairs_from-append, pairs_below, pairs_above, piece_end}

-- the entries below a page, with the piece of the one that has it
abbrev pub lower_entries : ℕ → List NodeItem → List NodeItem
lower_entries page entries = ending_by page entries ++ piece_of (items_end 0 (ending_by page entries)) page (item_at page entries)

-- overwritten entries are those below, a new one, and those above
pub overwrite-parts : (lo hi word : ℕ) (entries : List NodeItem)
    → overwrite lo hi word entries ≡ lower_entries lo entries ++ ((record { end = hi; word = word; gap = 0 } ∷ []) ++ ending_after hi entries)
unfolding piece_below
overwrite-parts lo hi word entries =
    let front = ending_by lo entries in
    let piece = piece_of (items_end 0 front) lo (item_at lo entries) in
    let one : List NodeItem = record { end = hi; word = word; gap = 0 } ∷ [] in
    ap (λ (xs : List NodeItem). front ++ xs) (append_assoc piece one (ending_after hi entries))
    ∙ sym (append_assoc front piece (one ++ ending_after hi entries))

-- those below ascend, and end at the page
pub lower-ends : (page : ℕ) (entries : List NodeItem) → Ascends 0 entries → page ≤ items_end 0 entries → items_end 0 (lower_entries page entries) ≡ page
lower-ends page entries ascends within =
    let front = ending_by page entries in
    let o = item_at page entries in
    let below = ending_by_below 0 page entries (omega arith) in
    let last : o ≡ None → items_end 0 front ≡ page = λ none.
    let past = item_at-none 0 page entries none (omega arith) in
    ap (items_end 0) (ending_by_all 0 page entries ascends past) ∙ (omega arith) in
    end_of-append 0 front (piece_of (items_end 0 front) page o) ∙ piece_end (items_end 0 front) page o below last

piece-ascends : (start page : ℕ) (o : Option NodeItem) → Ascends start (piece_of start page o)
piece-ascends start page None = tt
piece-ascends start page (Some x) =
    elim (cases_lt start page) as (λ _. Ascends start (piece_of start page (Some x))) [
      | inl some ↦ let test : nat_lt start page ≡ true = grind (arith, nat_tests) in rw test (some, tt)
      | inr none ↦ let test : nat_lt start page ≡ false = grind (arith, nat_tests) in rw test tt
    ]

pub lower-ascends : (page : ℕ) (entries : List NodeItem) → Ascends 0 entries → Ascends 0 (lower_entries page entries)
lower-ascends page entries ascends =
    let front = ending_by page entries in
    Ascends-append 0 front (piece_of (items_end 0 front) page (item_at page entries)) (ending_by-ascends 0 page entries ascends)
    (piece-ascends (items_end 0 front) page (item_at page entries))

-- overwritten entries ascend
pub overwrite-ascends : (lo hi word : ℕ) (entries : List NodeItem) → Ascends 0 entries → lo < hi → hi ≤ items_end 0 entries
    → Ascends 0 (overwrite lo hi word entries)
overwrite-ascends lo hi word entries ascends some within =
    let front = lower_entries lo entries in
    let entry : NodeItem = record { end = hi; word = word; gap = 0 } in
    let rest = (entry ∷ []) ++ ending_after hi entries in
    let From : ℕ → Type 0 = λ page. Ascends page rest in
    let Up : List NodeItem → Type 0 = λ xs. Ascends 0 xs in
    let ends = lower-ends lo entries ascends (omega arith) in
    let after : Ascends lo rest = (some, ending_after-ascends 0 hi entries ascends (omega arith)) in
    subst Up (sym (overwrite-parts lo hi word entries))
    (Ascends-append 0 front rest (lower-ascends lo entries ascends) (subst From (sym ends) after))

-- and end where they did
pub overwrite-ends : (lo hi word : ℕ) (entries : List NodeItem) → Ascends 0 entries → lo < hi → hi ≤ items_end 0 entries
    → items_end 0 (overwrite lo hi word entries) ≡ items_end 0 entries
overwrite-ends lo hi word entries ascends some within =
    let front = lower_entries lo entries in
    let entry : NodeItem = record { end = hi; word = word; gap = 0 } in
    let rest = (entry ∷ []) ++ ending_after hi entries in
    ap (items_end 0) (overwrite-parts lo hi word entries) ∙ end_of-append 0 front rest
    ∙ ending_after-ends 0 hi entries ascends (omega arith) within

-- their pairs are the old ones, overwritten
pub overwrite-pairs : (lo hi word : ℕ) (entries : List NodeItem) → Ascends 0 entries → lo < hi → hi ≤ items_end 0 entries
    → pairs_from 0 (overwrite lo hi word entries) ≡ overwritten lo hi word (pairs_from 0 entries)
overwrite-pairs lo hi word entries ascends some within =
    let front = lower_entries lo entries in
    let entry : NodeItem = record { end = hi; word = word; gap = 0 } in
    let rest = (entry ∷ []) ++ ending_after hi entries in
    let pairs = pairs_from 0 entries in
    let below : pairs_from 0 front ≡ flat_map (pair_below lo) pairs = sym (pairs_below 0 lo entries ascends (omega arith)) in
    let above : pairs_from hi (ending_after hi entries) ≡ flat_map (pair_from hi) pairs = sym (pairs_above 0 hi entries ascends (omega arith)) in
    ap (pairs_from 0) (overwrite-parts lo hi word entries) ∙ pairs_from-append 0 front rest
    ∙ ap (λ (page : ℕ). pairs_from 0 front ++ pairs_from page rest) (lower-ends lo entries ascends (omega arith))
    ∙ ap (λ (ps : List Pair). ps ++ pairs_from lo rest) below
    ∙ ap (λ (ps : List Pair). flat_map (pair_below lo) pairs ++ (pair_of lo entry ++ ps)) above

-- their words are within a bound, if the new one is
one_within : (bound : ℕ) (x : NodeItem) → x.word ≤ bound → All (λ (entry : NodeItem). entry.word ≤ bound) (x ∷ [])
one_within bound x within = λ k d first. elim (cases_lt 0 k) as (λ _. (get_or (x ∷ []) k d).word ≤ bound) [
  | inl later ↦ absurd (omega arith)
  | inr zeroth ↦ let At : ℕ → Type 0 = λ i. (get_or (x ∷ []) i d).word ≤ bound in let is : 0 ≡ k = omega arith in subst At is within
]

none_within : (bound : ℕ) → All (λ (entry : NodeItem). entry.word ≤ bound) []
none_within bound = λ k d first. absurd (omega arith)

piece_within : (bound start page : ℕ) (o : Option NodeItem) → ((x : NodeItem) → o ≡ Some x → x.word ≤ bound)
    → All (λ (entry : NodeItem). entry.word ≤ bound) (piece_of start page o)
piece_within bound start page None within = none_within bound
piece_within bound start page (Some x) within =
    let cut : NodeItem = record { end = page; word = x.word; gap = 0 } in
    elim (nat_lt start page) as (λ b. All (λ (entry : NodeItem). entry.word ≤ bound) (if b then cut ∷ [] else [])) [
      | true ↦ one_within bound cut (within x refl)
      | false ↦ none_within bound
    ]

item_within : (bound page : ℕ) (entries : List NodeItem) → All (λ (entry : NodeItem). entry.word ≤ bound) entries
    → (x : NodeItem) → item_at page entries ≡ Some x → x.word ≤ bound
item_within bound page [] all x found = absurd (cc)
item_within bound page (y ∷ ys) all x found = elim (cases_lt page y.end) as (λ _. x.word ≤ bound) [
  | inl here ↦
      let first : Some y ≡ Some x = sym (item_at-first page y ys here) ∙ found in
      let same : y ≡ x = cc in
      let Of : NodeItem → Type 0 = λ z. z.word ≤ bound in
      subst Of same (all 0 y (omega arith))
  | inr later ↦ item_within bound page ys (λ k d within. all (suc k) d (omega arith)) x (sym (item_at-later page y ys later) ∙ found)
]

pub overwrite-words : (lo hi word bound : ℕ) (entries : List NodeItem) → All (λ (entry : NodeItem). entry.word ≤ bound) entries → word ≤ bound
    → All (λ (entry : NodeItem). entry.word ≤ bound) (overwrite lo hi word entries)
overwrite-words lo hi word bound entries all within =
    let P : NodeItem → Type 0 = λ entry. entry.word ≤ bound in
    let Words : List NodeItem → Type 0 = λ xs. All P xs in
    let front = ending_by lo entries in
    let o = item_at lo entries in
    let piece = piece_of (items_end 0 front) lo o in
    let entry : NodeItem = record { end = hi; word = word; gap = 0 } in
    let rest = ending_after hi entries in
    let low : All P front = All-filter (λ item. nat_le item.end lo) P entries all in
    let high : All P rest = All-filter (λ item. nat_lt hi item.end) P entries all in
    let part : All P piece = piece_within bound (items_end 0 front) lo o (item_within bound lo entries all) in
    subst Words (sym (overwrite-parts lo hi word entries))
    (All-append P (front ++ piece) ((entry ∷ []) ++ rest) (All-append P front piece low part)
    (All-append P (entry ∷ []) rest (one_within bound entry within) high))

-- they keep no gap
piece-plain : (start page : ℕ) (o : Option NodeItem) → KeepsNoGap true (piece_of start page o)
piece-plain start page None = tt
piece-plain start page (Some x) =
    let cut : NodeItem = record { end = page; word = x.word; gap = 0 } in
    elim (nat_lt start page) as (λ b. KeepsNoGap true (if b then cut ∷ [] else [])) [ true ↦ (refl, tt) | false ↦ tt ]

pub overwrite-plain : (lo hi word : ℕ) (entries : List NodeItem) → KeepsNoGap true entries → KeepsNoGap true (overwrite lo hi word entries)
overwrite-plain lo hi word entries plain =
    let Plain : List NodeItem → Type 0 = λ xs. KeepsNoGap true xs in
    let front = ending_by lo entries in
    let piece = piece_of (items_end 0 front) lo (item_at lo entries) in
    let entry : NodeItem = record { end = hi; word = word; gap = 0 } in
    subst Plain (sym (overwrite-parts lo hi word entries))
    (IsPlain-append true (front ++ piece) ((entry ∷ []) ++ ending_after hi entries)
    (IsPlain-append true front piece (IsPlain-ending_by true lo entries plain) (piece-plain (items_end 0 front) lo (item_at lo entries)))
    (refl, IsPlain-ending_after true hi entries plain))

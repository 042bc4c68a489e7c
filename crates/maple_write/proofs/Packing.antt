-- For `put` and `pack`: items that are written into a row, and into nodes one after another.
use Rattle.std.proofs.Common.{ℕ, zero, suc, ◌≡◌, ◌≢◌, ◌<◌, ◌≤◌, ◌+◌, ◌-◌, ◌*◌, Bool, true, false, List, [], ◌∷◌, ◌++◌, length, get_or, set, take, drop, refl, sym, ap, subst, ◌∙◌, arith, inl, inr, length-append}
use Rattle.std.proofs.lemmas.Bool.{cases_lt}
use Rattle.std.proofs.lemmas.List.{take-append-drop, length-take-le, length-drop, take_all}
use Rattle.maple_node.specs.declared.item.NodeItem.{NodeItem}
use Rattle.maple_node.specs.Nodes.{node_items, words_of_items, most, least_items, items_end, Ascends, gap_of, KeepsNoGap}
use Rattle.maple_node.specs.Levels.{at_of, items_at, below, IsNode, times_among, Agree}
use Rattle.maple_node.proofs.Lists.{end_of-append}
use Rattle.maple_node.proofs.Places.{items_of_words}
use Rattle.maple_node.proofs.ItemLists.{Ascends-left, Ascends-right, IsPlain-left, IsPlain-right}
use Rattle.maple_write.specs.Internal.Tables.{rows_in}
use Rattle.maple_write.proofs.Levels.{AreNodes}
use Rattle.maple_write.proofs.Times.{times-rows_in, times_same, apart, kept_other, written_row, below_pushed, pushed}

-- where items end
pub last_end : (start : ℕ) (items : List NodeItem) (d : NodeItem) → 1 ≤ length items → (get_or items (length items - 1) d).end ≡ items_end start items
last_end start [] d some = absurd (omega arith)
last_end start (x ∷ []) d some = let e : length (x ∷ []) - 1 ≡ 0 = omega arith in ap (λ (i : ℕ). (get_or (x ∷ []) i d).end) e
last_end start (x ∷ y ∷ ys) d some =
    let e : length (x ∷ y ∷ ys) - 1 ≡ suc (length (y ∷ ys) - 1) = omega arith in
    ap (λ (i : ℕ). (get_or (x ∷ y ∷ ys) i d).end) e ∙ last_end x.end (y ∷ ys) d (omega arith)

-- the node that was written
pub made-items : (rows : List (List ℕ)) (row : ℕ) (leaf : Bool) (start : ℕ) (items : List NodeItem) → row < length rows → Ascends start items
    → KeepsNoGap leaf items → items_at (at_of (set rows row (words_of_items leaf items))) leaf row ≡ items
made-items rows row leaf start items within ascends plain =
    ap (node_items leaf) (written_row rows row (words_of_items leaf items) within) ∙ items_of_words leaf start items ascends plain

pub made-node : (rows : List (List ℕ)) (row : ℕ) (leaf : Bool) (limit start until gap : ℕ) (items : List NodeItem) → row < length rows
    → Ascends start items → KeepsNoGap leaf items → 1 ≤ length items → length items ≤ most leaf
    → (items_end start items < limit → least_items leaf ≤ length items) → until ≡ items_end start items → gap ≡ gap_of leaf start items
    → IsNode (at_of (set rows row (words_of_items leaf items))) leaf limit start (record { end = until; word = row; gap = gap })
made-node rows row leaf limit start until gap items within ascends plain some fits full ends gaps =
    let back = sym (made-items rows row leaf start items within ascends plain) in
    record {
      some = subst (λ (xs : List NodeItem). 1 ≤ length xs) back some;
      most = subst (λ (xs : List NodeItem). length xs ≤ most leaf) back fits;
      least = λ inner. subst (λ (xs : List NodeItem). least_items leaf ≤ length xs) back (full (omega arith));
      ascends = subst (λ (xs : List NodeItem). Ascends start xs) back ascends;
      until = subst (λ (xs : List NodeItem). items_end start xs ≡ until) back (sym ends);
      gap = subst (λ (xs : List NodeItem). gap_of leaf start xs ≡ gap) back (sym gaps);
      words = written_row rows row (words_of_items leaf items) within ∙ ap (words_of_items leaf) back;
    }

-- the items from one place up to another
take_split : (place count : ℕ) (xs : List NodeItem) → take (place + count) xs ≡ take place xs ++ take count (drop place xs)
take_split zero count xs = let e : zero + count ≡ count = omega arith in ap (λ (n : ℕ). take n xs) e
take_split (suc place) count [] = let e : suc place + count ≡ suc (place + count) = omega arith in
    ap (λ (n : ℕ). take n []) e ∙ sym (none count) where
      none : (n : ℕ) → take {A = NodeItem} n [] ≡ []
      none zero = refl
      none (suc n) = refl
take_split (suc place) count (x ∷ xs) = let e : suc place + count ≡ suc (place + count) = omega arith in
    ap (λ (n : ℕ). take n (x ∷ xs)) e ∙ ap (λ (ys : List NodeItem). x ∷ ys) (take_split place count xs)

pub record Part (leaf : Bool) (start begin place end : ℕ) (items part : List NodeItem) : Type 0 where
  pub ascends : Ascends begin part
  pub plain : KeepsNoGap leaf part
  pub more : take end items ≡ take place items ++ part
  pub ending : items_end begin part ≡ items_end start (take end items)
  pub long : length part ≡ end - place

pub part_of : (leaf : Bool) (start begin place end : ℕ) (items : List NodeItem) → place ≤ end → end ≤ length items
    → begin ≡ items_end start (take place items) → Ascends start items → KeepsNoGap leaf items
    → Part leaf start begin place end items (take (end - place) (drop place items))
part_of leaf start begin place end items order within begins ascends plain =
    let part = take (end - place) (drop place items) in
    let e : place + (end - place) ≡ end = omega arith in
    let more : take end items ≡ take place items ++ part = sym (ap (λ (n : ℕ). take n items) e) ∙ take_split place (end - place) items in
    let whole : Ascends start (take end items) =
    Ascends-left start (take end items) (drop end items) (subst (λ (xs : List NodeItem). Ascends start xs) (sym (take-append-drop end items)) ascends) in
    let clear : KeepsNoGap leaf (take end items) =
    IsPlain-left leaf (take end items) (drop end items) (subst (λ (xs : List NodeItem). KeepsNoGap leaf xs) (sym (take-append-drop end items)) plain) in
    let there : Ascends (items_end start (take place items)) part =
    Ascends-right start (take place items) part (subst (λ (xs : List NodeItem). Ascends start xs) more whole) in
    let rest = length-drop place items in
    record {
      ascends = subst (λ (p : ℕ). Ascends p part) (sym begins) there;
      plain = IsPlain-right leaf (take place items) part (subst (λ (xs : List NodeItem). KeepsNoGap leaf xs) more clear);
      more = more;
      ending = ap (λ (p : ℕ). items_end p part) begins ∙ sym (end_of-append start (take place items) part) ∙ sym (ap (items_end start) more);
      long = length-take-le (end - place) (drop place items) (omega arith);
    }

-- what holds once the items up to a place are packed
pub record Packed (rows0 rows : List (List ℕ)) (free0 free : List ℕ) (leaf : Bool) (start begin place : ℕ) (items packed : List NodeItem) : Type 0 where
  pub within : place ≤ length items
  pub begins : begin ≡ items_end start (take place items)
  pub nodes : (limit : ℕ) → (items_end start items < limit → least_items leaf ≤ length items) → AreNodes (at_of rows) leaf limit start packed
  pub ends : items_end start packed ≡ begin
  pub under : below (at_of rows) leaf packed ≡ take place items
  pub rest : place < length items → least_items leaf ≤ length items → least_items leaf ≤ length items - place
  pub count : (length items - place) + most leaf * length packed ≤ 3 * most leaf
  pub some : 1 ≤ place → 1 ≤ length packed
  pub kept : (row : ℕ) → times_among row free0 ≡ 0 → at_of rows row ≡ at_of rows0 row
  pub taken : (row : ℕ) → times_among row free0 ≡ times_among row free + times_among row (rows_in packed)
  pub room : length free0 ≡ length free + length packed

count_more : (leaf : Bool) (left count nodes : ℕ) → 1 ≤ left → left + most leaf * nodes ≤ 3 * most leaf → (left ≤ most leaf → count ≡ left)
    → (left ≤ 2 * most leaf → left - count ≤ most leaf) → (left ≤ 3 * most leaf → left - count ≤ 2 * most leaf)
    → (left - count) + most leaf * (nodes + 1) ≤ 3 * most leaf
count_more true left count nodes some fits one two three =
    elim (cases_lt left 17) as (λ _. (left - count) + 16 * (nodes + 1) ≤ 48) [
      | inl low ↦ let all = one (omega arith) in omega arith
      | inr more ↦ elim (cases_lt left 33) as (λ _. (left - count) + 16 * (nodes + 1) ≤ 48) [
        | inl middle ↦ let rest = two (omega arith) in omega arith
        | inr high ↦ let rest = three (omega arith) in omega arith
      ]
    ]
count_more false left count nodes some fits one two three =
    elim (cases_lt left 11) as (λ _. (left - count) + 10 * (nodes + 1) ≤ 30) [
      | inl low ↦ let all = one (omega arith) in omega arith
      | inr more ↦ elim (cases_lt left 21) as (λ _. (left - count) + 10 * (nodes + 1) ≤ 30) [
        | inl middle ↦ let rest = two (omega arith) in omega arith
        | inr high ↦ let rest = three (omega arith) in omega arith
      ]
    ]

-- what `share` answers
pub record Share (leaf : Bool) (left count : ℕ) : Type 0 where
  pub some : 1 ≤ count
  pub within : count ≤ left
  pub full : count < left → least_items leaf ≤ count
  pub over : count < left → least_items leaf ≤ left - count
  pub one : left ≤ most leaf → count ≡ left
  pub two : left ≤ 2 * most leaf → left - count ≤ most leaf
  pub three : left ≤ 3 * most leaf → left - count ≤ 2 * most leaf

-- a node more
pub pack_more : (rows0 rows rows' : List (List ℕ)) (free0 free free' : List ℕ) (leaf : Bool) (start begin place end count : ℕ)
    (items packed packed' : List NodeItem) (node : NodeItem) (words : List ℕ)
    → Packed rows0 rows free0 free leaf start begin place items packed
    → place < length items → end ≡ place + count → Share leaf (length items - place) count
    → Ascends start items → KeepsNoGap leaf items → ((row : ℕ) → times_among row free0 ≤ 1)
    → ((limit : ℕ) → (items_end begin (take (end - place) (drop place items)) < limit → least_items leaf ≤ length (take (end - place) (drop place items)))
    → IsNode (at_of rows') leaf limit begin node)
    → items_at (at_of rows') leaf node.word ≡ take (end - place) (drop place items)
    → node.end ≡ items_end begin (take (end - place) (drop place items))
    → rows' ≡ set rows node.word words → length free ≡ length free' + 1 → ((row : ℕ) → times_among row free ≡ times_among row (node.word ∷ free')) → packed' ≡ packed ++ node ∷ []
    → Packed rows0 rows' free0 free' leaf start node.end end items packed'
pack_more rows0 rows rows' free0 free free' leaf start begin place end count items packed packed' node words before less ends_is share ascends plain once nodes reads until rows_is fewer split packed_is =
    let part = take (end - place) (drop place items) in
    let bound = share.within in
    let is = part_of leaf start begin place end items (omega arith) (omega arith) before.begins ascends plain in
    let here : times_among node.word free ≡ 1 + times_among node.word free' = split node.word ∙ times_same node.word free' in
    let differ : (row : ℕ) → 1 ≤ times_among row (rows_in packed) → row ≢ node.word = λ row some same.
    let a = before.taken row in let o = once row in
    let h : 1 ≤ times_among row free = subst (λ (r : ℕ). 1 ≤ times_among r free) (sym same) (omega arith) in
    omega arith in
    let stays : (row : ℕ) → row ≢ node.word → at_of rows row ≡ at_of rows' row = λ row other.
    sym (ap (λ (rs : List (List ℕ)). at_of rs row) rows_is ∙ kept_other rows node.word row words other) in
    let agree : Agree (at_of rows) (at_of rows') (rows_in packed) = λ row some. stays row (differ row some) in
    let long : length packed' ≡ length packed + 1 = ap (λ (xs : List NodeItem). length xs) packed_is ∙ length-append packed (node ∷ []) in
    let all : (limit : ℕ) → (items_end start items < limit → least_items leaf ≤ length items) → AreNodes (at_of rows') leaf limit start (packed ++ node ∷ []) =
    λ limit full.
    let one = nodes limit (λ low. elim (cases_lt count (length items - place)) as (λ _. least_items leaf ≤ length part) [
      | inl short ↦ let f = share.full short in let l = is.long in omega arith
      | inr whole ↦
          let last : end ≡ length items = omega arith in
          let everything : take end items ≡ items = take_all end items (omega arith) in
          let ending : items_end begin part ≡ items_end start items = is.ending ∙ ap (items_end start) everything in
          let enough = before.rest less (full (omega arith)) in
          let l = is.long in omega arith
    ]) in
    pushed (at_of rows) (at_of rows') leaf limit start packed node agree (before.nodes limit full)
    (subst (λ (p : ℕ). IsNode (at_of rows') leaf limit p node) (sym before.ends) one) in
    record {
      within = omega arith;
      begins = until ∙ is.ending;
      nodes = λ limit full. subst (λ (xs : List NodeItem). AreNodes (at_of rows') leaf limit start xs) (sym packed_is) (all limit full);
      ends = ap (items_end start) packed_is ∙ end_of-append start packed (node ∷ []);
      under = ap (below (at_of rows') leaf) packed_is ∙ below_pushed (at_of rows) (at_of rows') leaf packed node part agree reads ∙ ap (λ (xs : List NodeItem). xs ++ part) before.under ∙ sym is.more;
      rest = λ more enough. let o = share.over (omega arith) in omega arith;
      count =
          let c = count_more leaf (length items - place) count (length packed) (omega arith) before.count share.one share.two share.three in
          let e : length items - place - count ≡ length items - end = omega arith in
          subst (λ (n : ℕ). (length items - end) + most leaf * n ≤ 3 * most leaf) (sym long)
          (subst (λ (n : ℕ). n + most leaf * (length packed + 1) ≤ 3 * most leaf) e c);
      some = λ past. omega arith;
      kept = λ row none.
          let a = before.taken row in
          let h : times_among row free ≡ 0 = omega arith in
          let other : row ≢ node.word = apart row node.word free h (omega arith) in
          sym (stays row other) ∙ before.kept row none;
      taken = λ row.
          let a = before.taken row in let b = split row in
          let d = ap (λ (xs : List NodeItem). times_among row (rows_in xs)) packed_is in
          let e = times-rows_in row packed (node ∷ []) in omega arith;
      room = let a = before.room in omega (arith, fewer);
    }

-- all items are packed
pub record Done (rows : List (List ℕ)) (leaf : Bool) (items packed : List NodeItem) : Type 0 where
  pub under : below (at_of rows) leaf packed ≡ items
  pub some : 1 ≤ length packed
  pub few : length packed ≤ 3

-- a node has at most 16 items, and what `pack` is given fits three
pub most_16 : (leaf : Bool) → most leaf ≤ 16
most_16 true = omega arith
most_16 false = omega arith

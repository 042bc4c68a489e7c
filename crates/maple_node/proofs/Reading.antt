-- For the law `nodes_are_read_by_place`: words at places, as entries and children.
use Rattle.std.proofs.Common.{ℕ, zero, suc, ◌≡◌, ◌<◌, ◌≤◌, ◌+◌, ◌*◌, ◌^◌, true, false, if◌then◌else◌, nat_eq, List, [], ◌∷◌, length, get_or, All, Option, Some, None, refl, sym, ap, ◌∙◌, arith, inl, inr}
use Rattle.std.proofs.lemmas.List.{get_or_past}
use Rattle.std.proofs.lemmas.Option.{slice_get-get_or}
use Rattle.std.proofs.lemmas.Bool.{cases_lt}
use Rattle.std.specs.List.{slice_get}
use Rattle.std.specs.Option.{option_map}
use Rattle.mm_types.specs.declared.slot.Row.{Row}
use Rattle.maple_node.specs.declared.item.NodeItem.{NodeItem}
use Rattle.maple_node.specs.Nodes.{leaf_items, KeepsNoGap}
use Rattle.maple_node.specs.Levels.{items_at, IsNode}
use Rattle.maple_node.specs.Words.{Entry, Child, slot_of, entry_item, child_item, leaf_entry, inner_child}
use Rattle.maple_node.proofs.Places.{unused, ends_past, leaf-ends, leaf-words, inner-ends, inner-words, inner-gaps}
use Rattle.maple_node.proofs.Entries.{slot_word-slot_of, leaf_reads, leaf_unused}
use Rattle.maple_node.proofs.Children.{inner_reads, inner_unused}

-- the entries of a leaf keep no gap
leaf_items-plain : (words : List ℕ) → KeepsNoGap true (leaf_items words)
unfolding leaf_items
leaf_items-plain [] = tt
leaf_items-plain (end ∷ []) = tt
leaf_items-plain (end ∷ word ∷ rest) =
    let item : NodeItem = record { end = end; word = word; gap = 0 } in
    elim (nat_eq end 0) as (λ b. KeepsNoGap true (if b then [] else (item ∷ leaf_items rest))) [ true ↦ tt | false ↦ (refl, leaf_items-plain rest) ]

-- each of plain items keeps no gap
plain_at : (items : List NodeItem) (i : ℕ) → KeepsNoGap true items → (get_or items i unused).gap ≡ 0
plain_at [] i plain = refl
plain_at (item ∷ items) zero plain = plain.0
plain_at (item ∷ items) (suc i) plain = plain_at items i plain.1

-- no item past the last
slice_get-past : (items : List NodeItem) (i : ℕ) → length items ≤ i → slice_get items i ≡ None
slice_get-past [] i past = refl
slice_get-past (item ∷ items) zero past = absurd (omega arith)
slice_get-past (item ∷ items) (suc i) past = slice_get-past items i (omega arith)

-- a leaf by its places
pub leaf_places : (at : ℕ → List ℕ) (limit start : ℕ) (item : NodeItem) (place : ℕ) → IsNode at true limit start item
    → All (λ entry. entry.word ≤ 2 ^ 32) (items_at at true item.word)
    → option_map entry_item (leaf_entry (at item.word) place) ≡ slice_get (items_at at true item.word) place
leaf_places at limit start item place node small =
    let items = items_at at true item.word in
    let words = at item.word in
    let here = get_or items place unused in
    let end : get_or words (2 * place) 0 ≡ here.end = ap (λ (ws : List ℕ). get_or ws (2 * place) 0) node.words ∙ leaf-ends items place in
    let word : get_or words (2 * place + 1) 0 ≡ here.word = ap (λ (ws : List ℕ). get_or ws (2 * place + 1) 0) node.words ∙ leaf-words items place in
    elim (cases_lt place (length items)) as (λ _. option_map entry_item (leaf_entry words place) ≡ slice_get items place) [
      | inl within ↦
          let entry : Entry = (here.end, slot_of here.word) in
          let back = slot_word-slot_of here.word in
          let above = ends_past start items place unused node.ascends within in
          let fits : here.word ≤ 2 ^ 32 = small place unused within in
          let read_here = leaf_reads words place entry (omega (arith, node.most)) end (word ∙ sym back) (omega arith) (omega (arith, back, fits)) in
          let told : ℕ → ℕ → Option NodeItem = λ n gap. Some (record { end = here.end; word = n; gap = gap }) in
          ap (option_map entry_item) read_here ∙ ap (λ (n : ℕ). told n 0) back
          ∙ ap (λ (gap : ℕ). told here.word gap) (sym (plain_at items place (leaf_items-plain words)))
          ∙ sym (slice_get-get_or items place unused within)
      | inr past ↦
          let none : here ≡ unused = get_or_past items place unused past in
          ap (option_map entry_item) (leaf_unused words place (end ∙ ap (λ (i : NodeItem). i.end) none)) ∙ sym (slice_get-past items place past)
    ]

-- an inner node by its places
pub inner_places : (at : ℕ → List ℕ) (limit start : ℕ) (item : NodeItem) (place : ℕ) → IsNode at false limit start item
    → All (λ child. child.word < 2 ^ 32) (items_at at false item.word)
    → option_map child_item (inner_child (at item.word) place) ≡ slice_get (items_at at false item.word) place
inner_places at limit start item place node small =
    let items = items_at at false item.word in
    let words = at item.word in
    let here = get_or items place unused in
    let end : get_or words (3 * place) 0 ≡ here.end = ap (λ (ws : List ℕ). get_or ws (3 * place) 0) node.words ∙ inner-ends items place in
    let word : get_or words (3 * place + 1) 0 ≡ here.word = ap (λ (ws : List ℕ). get_or ws (3 * place + 1) 0) node.words ∙ inner-words items place in
    let gap : get_or words (3 * place + 2) 0 ≡ here.gap = ap (λ (ws : List ℕ). get_or ws (3 * place + 2) 0) node.words ∙ inner-gaps items place in
    elim (cases_lt place (length items)) as (λ _. option_map child_item (inner_child words place) ≡ slice_get items place) [
      | inl within ↦
          let row : Row = record { 0 = here.word } in
          let child : Child = (here.end, row, here.gap) in
          let above = ends_past start items place unused node.ascends within in
          let fits : here.word < 2 ^ 32 = small place unused within in
          ap (option_map child_item) (inner_reads words place child (omega (arith, node.most)) end word gap (omega arith) fits)
          ∙ sym (slice_get-get_or items place unused within)
      | inr past ↦
          let none : here ≡ unused = get_or_past items place unused past in
          ap (option_map child_item) (inner_unused words place (end ∙ ap (λ (i : NodeItem). i.end) none)) ∙ sym (slice_get-past items place past)
    ]

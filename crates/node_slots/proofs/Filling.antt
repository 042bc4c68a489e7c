-- For `NodeTable::fill_row` and `NodeTable::scan_pins`: steps one after another.
use Rattle.std.proofs.Common.{ℕ, zero, suc, ◌≡◌, ◌<◌, ◌≤◌, ◌+◌, ◌∙◌, refl, ap, List, [], ◌∷◌, ◌++◌, length, get_or, set, arith}
use Rattle.std.proofs.lemmas.List.{get_or-set_same, set-get_or, set-set}
use Rattle.grace_core.specs.Core.{row_at}
use Rattle.node_slots.specs.declared.view.NodeView.{NodeView}
use Rattle.node_slots.specs.Views.{node_store_at, fill_at, scan_at, scan_from}
use Rattle.node_slots.specs.Internal.Stores.{store_four_at}

-- the first words of one row, and then those of another
pub blend : ℕ → List ℕ → List ℕ → List ℕ
blend zero new old = old
blend (suc count) [] old = old
blend (suc count) (x ∷ new) [] = []
blend (suc count) (x ∷ new) (y ∷ old) = x ∷ blend count new old

-- one word more
blend_more : (count : ℕ) (new old : List ℕ) → count < length new → count < length old
    → set (blend count new old) count (get_or new count 0) ≡ blend (suc count) new old
unfolding blend
blend_more zero (x ∷ new) (y ∷ old) first second = refl
blend_more zero [] old first second = absurd (omega arith)
blend_more zero (x ∷ new) [] first second = absurd (omega arith)
blend_more (suc count) [] old first second = absurd (omega arith)
blend_more (suc count) (x ∷ new) [] first second = absurd (omega arith)
blend_more (suc count) (x ∷ new) (y ∷ old) first second = ap (λ (l : List ℕ). x ∷ l) (blend_more count new old (omega arith) (omega arith))

pub blend_next : (count : ℕ) (new old : List ℕ) → count < length new → count < length old
    → set (blend count new old) count (get_or new count 0) ≡ blend (count + 1) new old
blend_next count new old first second =
    blend_more count new old first second ∙ ap (λ n. blend n new old) (let e : suc count ≡ count + 1 = omega arith in e)

-- all words
pub blend_all : (count : ℕ) (new old : List ℕ) → length new ≡ count → length old ≡ count → blend count new old ≡ new
unfolding blend
blend_all zero [] [] first second = refl
blend_all zero [] (y ∷ old) first second = absurd (omega arith)
blend_all zero (x ∷ new) old first second = absurd (omega arith)
blend_all (suc count) [] old first second = absurd (omega arith)
blend_all (suc count) (x ∷ new) [] first second = absurd (omega arith)
blend_all (suc count) (x ∷ new) (y ∷ old) first second = ap (λ (l : List ℕ). x ∷ l) (blend_all count new old (omega arith) (omega arith))

pub blend_none : (new old : List ℕ) → blend 0 new old ≡ old
unfolding blend
blend_none new old = refl

with_words : NodeView → List (List ℕ) → NodeView
with_words view words = record view { known = record view.known { writer_state = record view.known.writer_state { words = words } } }

-- a row filled with its words is as it was
pub fill_same : (view : NodeView) (row : ℕ) → fill_at view row (row_at view.known.writer_state.words row) ≡ view
unfolding with_words
fill_same view row = ap (with_words view) (set-get_or view.known.writer_state.words row [])

-- a word stored into a row that was filled
pub store_filled : (view : NodeView) (row place word : ℕ) (words : List ℕ) → row < length view.known.writer_state.words
    → node_store_at (fill_at view row words) row place word ≡ fill_at view row (set words place word)
unfolding with_words
store_filled view row place word words within =
    ap (λ (l : List ℕ). with_words view (set (set view.known.writer_state.words row words) row (set l place word)))
    (get_or-set_same view.known.writer_state.words row words [] within)
    ∙ ap (with_words view) (set-set view.known.writer_state.words row words (set words place word))

-- one word more of a row that was filled up to a place, and four
one_filled : (view : NodeView) (row place next : ℕ) (words old : List ℕ) → row < length view.known.writer_state.words → place + 1 ≡ next
    → place < length words → place < length old
    → node_store_at (fill_at view row (blend place words old)) row place (get_or words place 0) ≡ fill_at view row (blend next words old)
one_filled view row place next words old there one new_there old_there =
    store_filled view row place (get_or words place 0) (blend place words old) there
    ∙ ap (fill_at view row) (blend_next place words old new_there old_there ∙ ap (λ (n : ℕ). blend n words old) one)

pub four_filled : (view : NodeView) (row place : ℕ) (words old : List ℕ) → row < length view.known.writer_state.words → place + 4 ≤ length words
    → place + 4 ≤ length old
    → store_four_at (fill_at view row (blend place words old)) row place words ≡ fill_at view row (blend (place + 4) words old)
four_filled view row place words old there new_there old_there =
    let a : ℕ = get_or words (place + 1) 0 in
    let b : ℕ = get_or words (place + 2) 0 in
    let c : ℕ = get_or words (place + 3) 0 in
    ap (λ (v : NodeView). node_store_at (node_store_at (node_store_at v row (place + 1) a) row (place + 2) b) row (place + 3) c)
    (one_filled view row place (place + 1) words old there refl (omega arith) (omega arith))
    ∙ ap (λ (v : NodeView). node_store_at (node_store_at v row (place + 2) b) row (place + 3) c)
    (one_filled view row (place + 1) (place + 2) words old there (omega arith) (omega arith) (omega arith))
    ∙ ap (λ (v : NodeView). node_store_at v row (place + 3) c)
    (one_filled view row (place + 2) (place + 3) words old there (omega arith) (omega arith) (omega arith))
    ∙ one_filled view row (place + 3) (place + 4) words old there (omega arith) (omega arith) (omega arith)

-- one pin more
pub scan_more : (reader : ℕ) (pins : List ℕ) (found : ℕ) (view : NodeView)
    → scan_from reader (pins ++ found ∷ []) view ≡ scan_at (scan_from reader pins view) (reader + length pins) found
scan_more reader [] found view = ap (λ n. scan_at view n found) (let e : reader ≡ reader + 0 = omega arith in e)
scan_more reader (pin ∷ pins) found view =
    scan_more (reader + 1) pins found (scan_at view reader pin)
    ∙ ap (λ n. scan_at (scan_from (reader + 1) pins (scan_at view reader pin)) n found)
    (let e : reader + 1 + length pins ≡ reader + suc (length pins) = omega arith in e)

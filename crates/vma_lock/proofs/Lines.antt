-- For `VmaTable::add`, `VmaTable::begin`, `VmaTable::end` and others: the words of a table: which word is which, and what a change of one is.
use Rattle.std.proofs.Common.{ℕ, zero, suc, ◌≡◌, ◌<◌, ◌+◌, ◌*◌, ◌∙◌, refl, sym, ap, List, [], ◌∷◌, length, map, get_or, set, arith, length-append}
use Rattle.std.proofs.lemmas.List.{length-map, get_or-map, map-set, get_or_append_left, set-append_left, set-get_or}
use Rattle.lock_core.specs.declared.stage.SlotState.{SlotState}
use Rattle.lock_core.specs.Core.{slot_at, count_at, free_slot}
use Rattle.lock_core.specs.Words.{mark_word, line, lines, flat}
use Rattle.lock_core.proofs.Words.{AllWide, flat-get, flat-set, lines-length, lines-get, lines-set}
use Rattle.vma_lock.specs.Words.{padded_slot, sequence_line, table_words, mark_place, field_place}

-- the rows have four words
abbrev pub AreWide : List SlotState → Type 0
AreWide slots = (slot : ℕ) → length (slot_at slots slot).row ≡ 4

-- the padded line of a slot
line_at : (slots : List SlotState) (counts : List ℕ) (slot : ℕ) → length counts ≡ length slots → slot < length slots
    → get_or (map padded_slot (lines slots counts)) slot [] ≡ padded_slot (line (slot_at slots slot) (count_at counts slot))
line_at slots counts slot same within =
    get_or-map padded_slot (lines slots counts) slot [] [] (omega (arith, within, lines-length slots counts same))
    ∙ ap padded_slot (lines-get slots counts slot same within)

-- each line has eight words
all_wide : (seq : ℕ) (slots : List SlotState) (counts : List ℕ) → length counts ≡ length slots → AreWide slots
    → AllWide 8 (sequence_line seq ∷ map padded_slot (lines slots counts))
unfolding AllWide
all_wide seq slots counts same wide zero within = refl
all_wide seq slots counts same wide (suc k) within =
    let inside : k < length slots = omega (arith, within, length-map (lines slots counts) padded_slot, lines-length slots counts same) in
    ap (λ (l : List ℕ). length l) (line_at slots counts k same inside)
    ∙ length-append (line (slot_at slots k) (count_at counts k)) (0 ∷ 0 ∷ 0 ∷ [])
    ∙ (let e : suc (length (slot_at slots k).row) + 3 ≡ 8 = omega (arith, wide k) in e)

-- a word of a slot's line
word : (seq : ℕ) (slots : List SlotState) (counts : List ℕ) (slot i n : ℕ) → length counts ≡ length slots → AreWide slots
    → n ≡ (slot + 1) * 8 + i → slot < length slots → i < 8
    → get_or (table_words seq slots counts) n 0 ≡ get_or (padded_slot (line (slot_at slots slot) (count_at counts slot))) i 0
unfolding table_words
word seq slots counts slot i n same wide is within inside =
    ap (λ m. get_or (flat (sequence_line seq ∷ map padded_slot (lines slots counts))) m 0) (let e : n ≡ 8 * suc slot + i = omega arith in e)
    ∙ flat-get 8 (sequence_line seq ∷ map padded_slot (lines slots counts)) (all_wide seq slots counts same wide) (suc slot) i
    (omega (arith, within, length-map (lines slots counts) padded_slot, lines-length slots counts same)) inside
    ∙ ap (λ (l : List ℕ). get_or l i 0) (line_at slots counts slot same within)

-- the sequence
pub word-sequence : (seq : ℕ) (slots : List SlotState) (counts : List ℕ) → get_or (table_words seq slots counts) 0 0 ≡ seq
unfolding table_words
word-sequence seq slots counts = refl

-- the mark word of a slot
pub word-mark : (seq : ℕ) (slots : List SlotState) (counts : List ℕ) (slot : ℕ) → length counts ≡ length slots → AreWide slots
    → slot < length slots → get_or (table_words seq slots counts) (mark_place slot) 0 ≡ mark_word (slot_at slots slot).lock_seq (count_at counts slot)
word-mark seq slots counts slot same wide within = word seq slots counts slot 0 (mark_place slot) same wide (omega arith) within (omega arith)

-- a word of a slot's row
pub word-field : (seq : ℕ) (slots : List SlotState) (counts : List ℕ) (slot field : ℕ) → length counts ≡ length slots → AreWide slots
    → slot < length slots → field < 4 → get_or (table_words seq slots counts) (field_place slot field) 0 ≡ get_or (slot_at slots slot).row field 0
word-field seq slots counts slot field same wide within inside =
    word seq slots counts slot (suc field) (field_place slot field) same wide (omega arith) within (omega arith)
    ∙ get_or_append_left (slot_at slots slot).row (0 ∷ 0 ∷ 0 ∷ []) 0 field (omega (arith, inside, wide slot))

-- a word that changes in a slot's line
word-set : (seq : ℕ) (slots : List SlotState) (counts : List ℕ) (slot i n x : ℕ) (changed : SlotState) (count : ℕ)
    → length counts ≡ length slots → AreWide slots → n ≡ (slot + 1) * 8 + i → slot < length slots → i < 8
    → set (padded_slot (line (slot_at slots slot) (count_at counts slot))) i x ≡ padded_slot (line changed count)
    → set (table_words seq slots counts) n x ≡ table_words seq (set slots slot changed) (set counts slot count)
unfolding table_words
word-set seq slots counts slot i n x changed count same wide is within inside change =
    let all : List (List ℕ) = lines slots counts in
    ap (λ m. set (flat (sequence_line seq ∷ map padded_slot all)) m x) (let e : n ≡ 8 * suc slot + i = omega arith in e)
    ∙ flat-set 8 (sequence_line seq ∷ map padded_slot all) (all_wide seq slots counts same wide) (suc slot) i x
    (omega (arith, within, length-map all padded_slot, lines-length slots counts same)) inside
    ∙ ap (λ (l : List ℕ). flat (sequence_line seq ∷ set (map padded_slot all) slot (set l i x))) (line_at slots counts slot same within)
    ∙ ap (λ (l : List ℕ). flat (sequence_line seq ∷ set (map padded_slot all) slot l)) change
    ∙ ap (λ (l : List (List ℕ)). flat (sequence_line seq ∷ l)) (sym (map-set padded_slot all slot (line changed count)) ∙ ap (map padded_slot) (lines-set slots counts slot changed count same))

-- another count of readers
pub words-count : (seq : ℕ) (slots : List SlotState) (counts : List ℕ) (slot count : ℕ) → length counts ≡ length slots → AreWide slots
    → slot < length slots → set (table_words seq slots counts) (mark_place slot) (mark_word (slot_at slots slot).lock_seq count)
    ≡ table_words seq slots (set counts slot count)
words-count seq slots counts slot count same wide within =
    word-set seq slots counts slot 0 (mark_place slot) (mark_word (slot_at slots slot).lock_seq count) (slot_at slots slot) count same wide (omega arith) within (omega arith) refl
    ∙ ap (λ (l : List SlotState). table_words seq l (set counts slot count)) (set-get_or slots slot free_slot)

-- a mark
pub words-mark : (seq : ℕ) (slots : List SlotState) (counts : List ℕ) (slot lock_seq : ℕ) → length counts ≡ length slots → AreWide slots
    → slot < length slots → set (table_words seq slots counts) (mark_place slot) (mark_word lock_seq (count_at counts slot))
    ≡ table_words seq (set slots slot (record (slot_at slots slot) { lock_seq = lock_seq })) counts
words-mark seq slots counts slot lock_seq same wide within =
    let changed : SlotState = record (slot_at slots slot) { lock_seq = lock_seq } in
    word-set seq slots counts slot 0 (mark_place slot) (mark_word lock_seq (count_at counts slot)) changed (count_at counts slot) same wide (omega arith) within (omega arith) refl
    ∙ ap (λ (l : List ℕ). table_words seq (set slots slot changed) l) (set-get_or counts slot 0)

-- a store
pub words-store : (seq : ℕ) (slots : List SlotState) (counts : List ℕ) (slot field x : ℕ) → length counts ≡ length slots → AreWide slots
    → slot < length slots → field < 4 → set (table_words seq slots counts) (field_place slot field) x
    ≡ table_words seq (set slots slot (record (slot_at slots slot) { row = set (slot_at slots slot).row field x })) counts
words-store seq slots counts slot field x same wide within inside =
    let old : SlotState = slot_at slots slot in
    let changed : SlotState = record old { row = set old.row field x } in
    word-set seq slots counts slot (suc field) (field_place slot field) x changed (count_at counts slot) same wide (omega arith) within (omega arith)
    (ap (λ (l : List ℕ). mark_word old.lock_seq (count_at counts slot) ∷ l) (set-append_left old.row (0 ∷ 0 ∷ 0 ∷ []) field x (omega (arith, inside, wide slot))))
    ∙ ap (λ (l : List ℕ). table_words seq (set slots slot changed) l) (set-get_or counts slot 0)

-- another sequence
pub words-sequence : (seq next : ℕ) (slots : List SlotState) (counts : List ℕ) → set (table_words seq slots counts) 0 next ≡ table_words next slots counts
unfolding table_words
words-sequence seq next slots counts = refl

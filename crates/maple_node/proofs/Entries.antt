-- For the law `leaf_packing_is_undone`: the words of leaves.
use Rattle.std.proofs.Common.{ℕ, zero, suc, ◌≡◌, ◌<◌, ◌≤◌, ◌+◌, ◌-◌, ◌*◌, ◌/◌, ◌%◌, ◌^◌, Bool, true, false, ◌&&◌, if◌then◌else◌, nat_eq, nat_lt, nat_le, List, [], ◌∷◌, length, map, get_or, Option, Some, None, refl, sym, ap, subst, ◌∙◌, arith, inl, inr}
use Rattle.std.proofs.lemmas.List.{length-map, get_or_past, get_or-map, ext_get_or}
use Rattle.std.proofs.lemmas.Option.{slice_get-get_or}
use Rattle.std.proofs.lemmas.Bool.{cases_lt}
use Rattle.std.proofs.lemmas.Bool.Decides.{nat_tests}
use Rattle.std.specs.List.{slice_get}
use Rattle.mm_types.specs.declared.slot.Slot.{Slot}
use Rattle.maple_node.specs.declared.item.NodeItem.{NodeItem}
use Rattle.maple_node.specs.Nodes.{words_of_items, KeepsNoGap}
use Rattle.maple_node.specs.Words.{Entry, slot_word, slot_of, entry_item, leaf_entry, FitsLeaf, IsLeafOf}
use Rattle.maple_node.proofs.Packing.{length-leaf_words}
use Rattle.maple_node.proofs.Places.{unused, length-words_of, ends_past, leaf-ends, leaf-words}

-- entries keep no gap
pub entries-plain : (entries : List Entry) → KeepsNoGap true (map entry_item entries)
entries-plain [] = tt
entries-plain (entry ∷ entries) = (refl, entries-plain entries)

-- a slot and its word tell each other
slot_of-slot_word : (slot : Option Slot) → slot_of (slot_word slot) ≡ slot
slot_of-slot_word None = refl
slot_of-slot_word (Some slot) =
    let some : nat_eq (slot.0 + 1) 0 ≡ false = grind (arith, nat_tests) in
    let same : slot.0 + 1 - 1 ≡ slot.0 = omega arith in
    rw (some, same)

pub slot_word-slot_of : (word : ℕ) → slot_word (slot_of word) ≡ word
slot_word-slot_of zero = refl
slot_word-slot_of (suc n) =
    let some : nat_eq (suc n) 0 ≡ false = grind (arith, nat_tests) in
    rw some (omega arith)

-- what is given where a test holds
if_entry : (test : Bool) (given entry : Entry) → (if test then Some given else None) ≡ Some entry → (test ≡ true) × (given ≡ entry)
if_entry true given entry is = (refl, cc)
if_entry false given entry is = absurd (cc)

-- what the words of a place are that reads as an entry
record Told (words : List ℕ) (place : ℕ) (entry : Entry) : Type 0 where
  within : place < 16
  end : get_or words (2 * place) 0 ≡ entry.0
  word : get_or words (2 * place + 1) 0 ≡ slot_word entry.1

leaf_told : (words : List ℕ) (place : ℕ) (entry : Entry) → leaf_entry words place ≡ Some entry → Told words place entry
unfolding leaf_entry
leaf_told words place entry is =
    let first = get_or words (2 * place) 0 in
    let second = get_or words (2 * place + 1) 0 in
    let given = if_entry (nat_lt place 16 && (nat_lt 0 first && nat_le second (2 ^ 32))) (first, slot_of second) entry is in
    record {
      within = grind (arith, nat_tests, given.0);
      end = ap (λ (e : Entry). e.0) given.1;
      word = sym (slot_word-slot_of second) ∙ ap (λ (e : Entry). slot_word e.1) given.1;
    }

-- a place that has the words of an entry reads as it
pub leaf_reads : (words : List ℕ) (place : ℕ) (entry : Entry) → place < 16 → get_or words (2 * place) 0 ≡ entry.0
    → get_or words (2 * place + 1) 0 ≡ slot_word entry.1
    → 0 < entry.0 → slot_word entry.1 ≤ 2 ^ 32 → leaf_entry words place ≡ Some entry
unfolding leaf_entry
leaf_reads words place entry within end word some small =
    let a : nat_lt place 16 ≡ true = grind (arith, nat_tests) in
    let b : nat_lt 0 entry.0 ≡ true = grind (arith, nat_tests) in
    let e : nat_le (slot_word entry.1) 4294967296 ≡ true = grind (arith, nat_tests) in
    rw (end, word, a, b, e, slot_of-slot_word entry.1)

-- a place whose first word is 0 reads as no entry
none_if : (a b : Bool) (given : Entry) → (if a && (false && b) then Some given else None) ≡ None
none_if true b given = refl
none_if false b given = refl

pub leaf_unused : (words : List ℕ) (place : ℕ) → get_or words (2 * place) 0 ≡ 0 → leaf_entry words place ≡ None
unfolding leaf_entry
leaf_unused words place none =
    let first = get_or words (2 * place) 0 in
    let second = get_or words (2 * place + 1) 0 in
    let b : nat_lt 0 first ≡ false = grind (arith, nat_tests) in
    rw b (none_if (nat_lt place 16) (nat_le second 4294967296) (first, slot_of second))

-- the item of an entry at a place
entry_at : (entries : List Entry) (i : ℕ) (d : Entry) → i < length entries
    → get_or (map entry_item entries) i unused ≡ entry_item (get_or entries i d)
entry_at entries i d within = get_or-map entry_item entries i d unused within

-- no entry past the last
none_past : (entries : List Entry) (i : ℕ) → length entries ≤ i → get_or (map entry_item entries) i unused ≡ unused
none_past entries i past = get_or_past (map entry_item entries) i unused (omega (arith, length-map entries entry_item))

slice_get-past : (entries : List Entry) (i : ℕ) → length entries ≤ i → slice_get entries i ≡ None
slice_get-past [] i past = refl
slice_get-past (entry ∷ entries) zero past = absurd (omega arith)
slice_get-past (entry ∷ entries) (suc i) past = slice_get-past entries i (omega arith)

-- what was packed in a leaf is read at each place
pub leaf_read_back : (entries : List Entry) (place : ℕ) → FitsLeaf entries
    → leaf_entry (words_of_items true (map entry_item entries)) place ≡ slice_get entries place
leaf_read_back entries place fits =
    let items = map entry_item entries in
    let words = words_of_items true items in
    let d : Entry = (0, None) in
    elim (cases_lt place (length entries)) as (λ _. leaf_entry words place ≡ slice_get entries place) [
      | inl within ↦
          let entry = get_or entries place d in
          let at = entry_at entries place d within in
          let end : get_or words (2 * place) 0 ≡ entry.0 = leaf-ends items place ∙ ap (λ (item : NodeItem). item.end) at in
          let word : get_or words (2 * place + 1) 0 ≡ slot_word entry.1 = leaf-words items place ∙ ap (λ (item : NodeItem). item.word) at in
          let past = ends_past 0 items place unused fits.ascends (omega (arith, length-map entries entry_item)) in
          let some : 0 < entry.0 = subst (λ (item : NodeItem). 0 < item.end) at past in
          leaf_reads words place entry (omega (arith, fits.few)) end word some (fits.slots place d within)
          ∙ sym (slice_get-get_or entries place d within)
      | inr past ↦ leaf_unused words place (leaf-ends items place ∙ ap (λ (item : NodeItem). item.end) (none_past entries place past))
          ∙ sym (slice_get-past entries place past)
    ]

-- what holds of a word at each of the two places
each_word : (P : ℕ → Type 0) (index : ℕ) → P (2 * (index / 2)) → P (2 * (index / 2) + 1) → P index
each_word P index first second = elim (cases_lt (index % 2) 1) as (λ _. P index) [
  | inl even ↦ let at : 2 * (index / 2) ≡ index = omega arith in subst P at first
  | inr odd ↦ let at : 2 * (index / 2) + 1 ≡ index = omega arith in subst P at second
]

-- the words after the last entry are 0
behind : (entries : List Entry) (index : ℕ) → 2 * length entries ≤ index → get_or (words_of_items true (map entry_item entries)) index 0 ≡ 0
behind entries index past =
    let items = map entry_item entries in
    let none : get_or items (index / 2) unused ≡ unused = none_past entries (index / 2) (omega arith) in
    each_word (λ j. get_or (words_of_items true items) j 0 ≡ 0) index
    (leaf-ends items (index / 2) ∙ ap (λ (item : NodeItem). item.end) none)
    (leaf-words items (index / 2) ∙ ap (λ (item : NodeItem). item.word) none)

-- they read as the entries in the first places, and are 0 after them
pub leaf_shown : (entries : List Entry) → FitsLeaf entries → IsLeafOf (words_of_items true (map entry_item entries)) entries
leaf_shown entries fits = record {
  sized = length-words_of true (map entry_item entries)
      (omega (arith, fits.few, length-leaf_words (map entry_item entries), length-map entries entry_item));
  used = λ place within. leaf_read_back entries place fits;
  unused = λ index past within. behind entries index past;
}

-- words that read as entries, and are 0 after them, are their words
word_there : (words : List ℕ) (entries : List Entry) → IsLeafOf words entries → (k : ℕ) → k / 2 < length entries
    → get_or (words_of_items true (map entry_item entries)) k 0 ≡ get_or words k 0
word_there words entries leaf k there =
    let i = k / 2 in
    let d : Entry = (0, None) in
    let items = map entry_item entries in
    let at = entry_at entries i d there in
    let told = leaf_told words i (get_or entries i d) (leaf.used i there ∙ slice_get-get_or entries i d there) in
    each_word (λ j. get_or (words_of_items true items) j 0 ≡ get_or words j 0) k
    (leaf-ends items i ∙ ap (λ (item : NodeItem). item.end) at ∙ sym told.end)
    (leaf-words items i ∙ ap (λ (item : NodeItem). item.word) at ∙ sym told.word)

-- there are at most 16 of them
few_entries : (words : List ℕ) (entries : List Entry) → IsLeafOf words entries → length entries ≤ 16
few_entries words entries leaf = let d : Entry = (0, None) in let last = length entries - 1 in
    elim (cases_lt 0 (length entries)) as (λ _. length entries ≤ 16) [
      | inl some ↦ let there = leaf.used last (omega arith) ∙ slice_get-get_or entries last d (omega arith) in
          let told = leaf_told words last (get_or entries last d) there in
          omega (arith, told.within)
      | inr none ↦ omega arith
    ]

pub leaf_written_back : (words : List ℕ) (entries : List Entry) → IsLeafOf words entries → words_of_items true (map entry_item entries) ≡ words
leaf_written_back words entries leaf =
    let few = few_entries words entries leaf in
    let packed = words_of_items true (map entry_item entries) in
    let long : length packed ≡ 32 = length-words_of true (map entry_item entries)
    (omega (arith, few, length-leaf_words (map entry_item entries), length-map entries entry_item)) in
    ext_get_or 0 packed words (omega (arith, leaf.sized)) (λ k within.
    elim (cases_lt (k / 2) (length entries)) as (λ _. get_or packed k 0 ≡ get_or words k 0) [
      | inl there ↦ word_there words entries leaf k there
      | inr past ↦ behind entries k (omega arith) ∙ sym (leaf.unused k (omega arith) (omega arith))
    ])

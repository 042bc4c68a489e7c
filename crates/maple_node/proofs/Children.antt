-- For the law `inner_packing_is_undone`: the words of inner nodes.
use Rattle.std.proofs.Common.{ℕ, zero, suc, ◌≡◌, ◌<◌, ◌≤◌, ◌+◌, ◌-◌, ◌*◌, ◌/◌, ◌%◌, ◌^◌, Bool, true, false, ◌&&◌, if◌then◌else◌, nat_lt, List, [], ◌∷◌, length, map, get_or, Some, None, refl, sym, ap, subst, ◌∙◌, arith, inl, inr}
use Rattle.std.proofs.lemmas.List.{length-map, get_or_past, get_or-map, ext_get_or}
use Rattle.std.proofs.lemmas.Option.{slice_get-get_or}
use Rattle.std.proofs.lemmas.Bool.{cases_lt}
use Rattle.std.proofs.lemmas.Bool.Decides.{nat_tests}
use Rattle.std.specs.List.{slice_get}
use Rattle.mm_types.specs.declared.slot.Row.{Row}
use Rattle.maple_node.specs.declared.item.NodeItem.{NodeItem}
use Rattle.maple_node.specs.Nodes.{words_of_items, KeepsNoGap}
use Rattle.maple_node.specs.Words.{Child, child_item, inner_child, FitsInner, IsInnerOf}
use Rattle.maple_node.proofs.Packing.{length-inner_words}
use Rattle.maple_node.proofs.Places.{unused, length-words_of, ends_past, inner-ends, inner-words, inner-gaps}

-- a child may keep any gap
pub children-plain : (children : List Child) → KeepsNoGap false (map child_item children)
children-plain [] = tt
children-plain (child ∷ children) = children-plain children

-- what is given where a test holds
if_child : (test : Bool) (given child : Child) → (if test then Some given else None) ≡ Some child → (test ≡ true) × (given ≡ child)
if_child true given child is = (refl, cc)
if_child false given child is = absurd (cc)

-- what the words of a place are that reads as a child
record Told (words : List ℕ) (place : ℕ) (child : Child) : Type 0 where
  within : place < 10
  end : get_or words (3 * place) 0 ≡ child.0
  word : get_or words (3 * place + 1) 0 ≡ child.1.0
  gap : get_or words (3 * place + 2) 0 ≡ child.2

inner_told : (words : List ℕ) (place : ℕ) (child : Child) → inner_child words place ≡ Some child → Told words place child
unfolding inner_child
inner_told words place child is =
    let first = get_or words (3 * place) 0 in
    let second = get_or words (3 * place + 1) 0 in
    let row : Row = record { 0 = second } in
    let given = if_child (nat_lt place 10 && (nat_lt 0 first && nat_lt second (2 ^ 32))) (first, row, get_or words (3 * place + 2) 0) child is in
    record {
      within = grind (arith, nat_tests, given.0);
      end = ap (λ (e : Child). e.0) given.1;
      word = ap (λ (e : Child). e.1.0) given.1;
      gap = ap (λ (e : Child). e.2) given.1;
    }

-- a place that has the words of a child reads as it
pub inner_reads : (words : List ℕ) (place : ℕ) (child : Child) → place < 10 → get_or words (3 * place) 0 ≡ child.0
    → get_or words (3 * place + 1) 0 ≡ child.1.0
    → get_or words (3 * place + 2) 0 ≡ child.2 → 0 < child.0 → child.1.0 < 2 ^ 32 → inner_child words place ≡ Some child
unfolding inner_child
inner_reads words place child within end word gap some small =
    let a : nat_lt place 10 ≡ true = grind (arith, nat_tests) in
    let b : nat_lt 0 child.0 ≡ true = grind (arith, nat_tests) in
    let e : nat_lt child.1.0 4294967296 ≡ true = grind (arith, nat_tests) in
    rw (end, word, gap, a, b, e)

-- a place whose first word is 0 reads as no child
none_if : (a b : Bool) (given : Child) → (if a && (false && b) then Some given else None) ≡ None
none_if true b given = refl
none_if false b given = refl

pub inner_unused : (words : List ℕ) (place : ℕ) → get_or words (3 * place) 0 ≡ 0 → inner_child words place ≡ None
unfolding inner_child
inner_unused words place none =
    let first = get_or words (3 * place) 0 in
    let second = get_or words (3 * place + 1) 0 in
    let row : Row = record { 0 = second } in
    let b : nat_lt 0 first ≡ false = grind (arith, nat_tests) in
    rw b (none_if (nat_lt place 10) (nat_lt second 4294967296) (first, row, get_or words (3 * place + 2) 0))

-- a child, where none is
no_child : Child
no_child = (0, record { 0 = 0 }, 0)

-- the item of a child at a place
child_at : (children : List Child) (i : ℕ) (d : Child) → i < length children
    → get_or (map child_item children) i unused ≡ child_item (get_or children i d)
child_at children i d within = get_or-map child_item children i d unused within

-- no child past the last
none_past : (children : List Child) (i : ℕ) → length children ≤ i → get_or (map child_item children) i unused ≡ unused
none_past children i past = get_or_past (map child_item children) i unused (omega (arith, length-map children child_item))

slice_get-past : (children : List Child) (i : ℕ) → length children ≤ i → slice_get children i ≡ None
slice_get-past [] i past = refl
slice_get-past (child ∷ children) zero past = absurd (omega arith)
slice_get-past (child ∷ children) (suc i) past = slice_get-past children i (omega arith)

-- what was packed in an inner node is read at each place
pub inner_read_back : (children : List Child) (place : ℕ) → FitsInner children
    → inner_child (words_of_items false (map child_item children)) place ≡ slice_get children place
inner_read_back children place fits =
    let items = map child_item children in
    let words = words_of_items false items in
    let d = no_child in
    elim (cases_lt place (length children)) as (λ _. inner_child words place ≡ slice_get children place) [
      | inl within ↦
          let child = get_or children place d in
          let at = child_at children place d within in
          let end : get_or words (3 * place) 0 ≡ child.0 = inner-ends items place ∙ ap (λ (item : NodeItem). item.end) at in
          let word : get_or words (3 * place + 1) 0 ≡ child.1.0 = inner-words items place ∙ ap (λ (item : NodeItem). item.word) at in
          let gap : get_or words (3 * place + 2) 0 ≡ child.2 = inner-gaps items place ∙ ap (λ (item : NodeItem). item.gap) at in
          let past = ends_past 0 items place unused fits.ascends (omega (arith, length-map children child_item)) in
          let some : 0 < child.0 = subst (λ (item : NodeItem). 0 < item.end) at past in
          inner_reads words place child (omega (arith, fits.few)) end word gap some (fits.rows place d within)
          ∙ sym (slice_get-get_or children place d within)
      | inr past ↦ inner_unused words place (inner-ends items place ∙ ap (λ (item : NodeItem). item.end) (none_past children place past))
          ∙ sym (slice_get-past children place past)
    ]

-- what holds of a word at each of the three places
each_word : (P : ℕ → Type 0) (index : ℕ) → P (3 * (index / 3)) → P (3 * (index / 3) + 1) → P (3 * (index / 3) + 2) → P index
each_word P index first second third = elim (cases_lt (index % 3) 1) as (λ _. P index) [
  | inl first_word ↦ let at : 3 * (index / 3) ≡ index = omega arith in subst P at first
  | inr some ↦ elim (cases_lt (index % 3) 2) as (λ _. P index) [
    | inl second_word ↦ let at : 3 * (index / 3) + 1 ≡ index = omega arith in subst P at second
    | inr third_word ↦ let at : 3 * (index / 3) + 2 ≡ index = omega arith in subst P at third
  ]
]

-- the words after the last child are 0
behind : (children : List Child) (index : ℕ) → 3 * length children ≤ index → get_or (words_of_items false (map child_item children)) index 0 ≡ 0
behind children index past =
    let items = map child_item children in
    let none : get_or items (index / 3) unused ≡ unused = none_past children (index / 3) (omega arith) in
    each_word (λ j. get_or (words_of_items false items) j 0 ≡ 0) index
    (inner-ends items (index / 3) ∙ ap (λ (item : NodeItem). item.end) none)
    (inner-words items (index / 3) ∙ ap (λ (item : NodeItem). item.word) none)
    (inner-gaps items (index / 3) ∙ ap (λ (item : NodeItem). item.gap) none)

-- they read as the children in the first places, and are 0 after them
pub inner_shown : (children : List Child) → FitsInner children → IsInnerOf (words_of_items false (map child_item children)) children
inner_shown children fits = record {
  sized = length-words_of false (map child_item children)
      (omega (arith, fits.few, length-inner_words (map child_item children), length-map children child_item));
  used = λ place within. inner_read_back children place fits;
  unused = λ index past within. behind children index past;
}

-- words that read as children, and are 0 after them, are their words
word_there : (words : List ℕ) (children : List Child) → IsInnerOf words children → (k : ℕ) → k / 3 < length children
    → get_or (words_of_items false (map child_item children)) k 0 ≡ get_or words k 0
word_there words children inner k there =
    let i = k / 3 in
    let d = no_child in
    let items = map child_item children in
    let at = child_at children i d there in
    let told = inner_told words i (get_or children i d) (inner.used i there ∙ slice_get-get_or children i d there) in
    each_word (λ j. get_or (words_of_items false items) j 0 ≡ get_or words j 0) k
    (inner-ends items i ∙ ap (λ (item : NodeItem). item.end) at ∙ sym told.end)
    (inner-words items i ∙ ap (λ (item : NodeItem). item.word) at ∙ sym told.word)
    (inner-gaps items i ∙ ap (λ (item : NodeItem). item.gap) at ∙ sym told.gap)

-- there are at most 10 of them
few_children : (words : List ℕ) (children : List Child) → IsInnerOf words children → length children ≤ 10
few_children words children inner = let last = length children - 1 in
    elim (cases_lt 0 (length children)) as (λ _. length children ≤ 10) [
      | inl some ↦ let there = inner.used last (omega arith) ∙ slice_get-get_or children last no_child (omega arith) in
          let told = inner_told words last (get_or children last no_child) there in
          omega (arith, told.within)
      | inr none ↦ omega arith
    ]

pub inner_written_back : (words : List ℕ) (children : List Child) → IsInnerOf words children → words_of_items false (map child_item children) ≡ words
inner_written_back words children inner =
    let few = few_children words children inner in
    let packed = words_of_items false (map child_item children) in
    let long : length packed ≡ 32 = length-words_of false (map child_item children)
    (omega (arith, few, length-inner_words (map child_item children), length-map children child_item)) in
    ext_get_or 0 packed words (omega (arith, inner.sized)) (λ k within.
    elim (cases_lt (k / 3) (length children)) as (λ _. get_or packed k 0 ≡ get_or words k 0) [
      | inl there ↦ word_there words children inner k there
      | inr past ↦ behind children k (omega arith) ∙ sym (inner.unused k (omega arith) (omega arith))
    ])

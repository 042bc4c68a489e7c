-- For `item_word` and `walk`: what the words that were read so far say.
use Rattle.std.proofs.Common.{ℕ, ◌≡◌, ◌<◌, ◌≤◌, ◌+◌, ◌*◌, Bool, true, false, length, get_or, drop, Option, Some, None, refl, sym, ap, subst, ◌∙◌, arith, length-drop, drop-drop}
use Rattle.std.proofs.lemmas.List.{get_or-drop}
use Rattle.maple_node.specs.Levels.{at_of}
use Rattle.node_slots.specs.declared.view.ShownTree.{ShownTree}
use Rattle.node_slots.specs.declared.view.NodeView.{NodeView}
use Rattle.node_slots.specs.Views.{word_at}
use Rattle.maple_node.specs.Codec.{width_of}
use Rattle.maple_read.specs.Walks.{HasNode}
use Rattle.maple_read.proofs.Places.{word_in, short, zeroed, found, later}

-- so many words were read
abbrev pub read_at : NodeView → ℕ → NodeView
read_at view reads = record view { words = view.words + reads }

-- no word was read
pub read-none : (view : NodeView) → view ≡ read_at view 0
read-none view = let same : view.words ≡ view.words + 0 = omega arith in ap (λ n. let v : NodeView = record view { words = n } in v) same

-- more words were read
pub read-more : (old now new : NodeView) (reads more : ℕ) → now ≡ read_at old reads → new ≡ read_at now more → new ≡ read_at old (reads + more)
read-more old now new reads more was is =
    let sum : old.words + reads + more ≡ old.words + (reads + more) = omega arith in
    is ∙ ap (λ (v : NodeView). read_at v more) was ∙ ap (λ n. let v : NodeView = record old { words = n } in v) sum

stride-more : (leaf : Bool) (reads : ℕ) → width_of leaf * (reads + 1) ≡ width_of leaf * reads + width_of leaf
stride-more true reads = omega arith
stride-more false reads = omega arith

-- the places before this one do not have the page
pub record Passed (old now : NodeView) (leaf : Bool) (page row place : ℕ) : Type 0 where
  pub within : place ≤ 32
  pub word : (shown : ShownTree) → old.snapshot ≡ Some shown
      → word_in leaf page (at_of shown.words row) ≡ word_in leaf page (drop place (at_of shown.words row))
  pub reads : ℕ
  pub count : width_of leaf * reads ≡ place
  pub view : now ≡ read_at old reads

-- a snapshot is one tree
pub one_shown : (old : NodeView) (one other : ShownTree) → old.snapshot ≡ Some one → old.snapshot ≡ Some other → one ≡ other
one_shown old one other is also = cc

-- the words of a node from a place on, in the reader's snapshot
node_words : (old : NodeView) (row : ℕ) (shown : ShownTree) → HasNode old row → old.snapshot ≡ Some shown → length (at_of shown.words row) ≡ 32
node_words old row shown node is =
    subst (λ (s : ShownTree). length (at_of s.words row) ≡ 32) (one_shown old node.shown shown node.snapshot is) node.long

-- a word that was read, in the reader's snapshot
abbrev pub IsRead : NodeView → ℕ → ℕ → ℕ → Type 0
IsRead now row place word = (shown : ShownTree) → now.snapshot ≡ Some shown → word ≡ get_or (at_of shown.words row) place 0

-- it is the first of what is left from its place on
first_left : (old now : NodeView) (leaf : Bool) (page row place more there word : ℕ) (shown : ShownTree) → Passed old now leaf page row place
    → IsRead now row there word → there ≡ place + more → old.snapshot ≡ Some shown → get_or (drop place (at_of shown.words row)) more 0 ≡ word
first_left old now leaf page row place more there word shown passed read same is =
    get_or-drop place (at_of shown.words row) more 0 ∙ ap (λ n. get_or (at_of shown.words row) n 0) (sym same)
    ∙ sym (read shown (ap (λ (v : NodeView). v.snapshot) passed.view ∙ is))

-- the places from this one on have all words of an item
left : (old : NodeView) (leaf : Bool) (row place : ℕ) (shown : ShownTree) → HasNode old row → place + width_of leaf ≤ 32 → old.snapshot ≡ Some shown
    → width_of leaf ≤ length (drop place (at_of shown.words row))
left old leaf row place shown node room is =
    omega (arith, node_words old row shown node is, length-drop place (at_of shown.words row))

-- the place ends at the page or below
pub passed-more : (old now new : NodeView) (leaf : Bool) (page row place end next : ℕ) → HasNode old row → Passed old now leaf page row place
    → place + width_of leaf ≤ 32 → IsRead now row place end → (end ≡ 0 → ⊥) → end ≤ page → new ≡ word_at now → next ≡ place + width_of leaf
    → Passed old new leaf page row next
passed-more old now new leaf page row place end next node passed room read some past is step = record {
  within = omega arith;
  word = λ shown shows.
      let words = at_of shown.words row in
      let here = first_left old now leaf page row place 0 place end shown passed read (omega arith) shows in
      passed.word shown shows
      ∙ later leaf page (drop place words) (left old leaf row place shown node room shows) (λ none. some (sym here ∙ none))
      (subst (λ n. n ≤ page) (sym here) past)
      ∙ ap (word_in leaf page) (drop-drop (width_of leaf) place words) ∙ ap (λ n. word_in leaf page (drop n words)) (sym step);
  reads = passed.reads + 1;
  count = stride-more leaf passed.reads ∙ omega (arith, passed.count, step);
  view = read-more old now new passed.reads 1 passed.view is;
}

-- what `item_word` answers
pub record Answers (old new : NodeView) (leaf : Bool) (page row : ℕ) (result : Option ℕ) : Type 0 where
  pub word : (shown : ShownTree) → old.snapshot ≡ Some shown → word_in leaf page (at_of shown.words row) ≡ result
  pub view : (reads : ℕ) × (width_of leaf * reads ≤ 32 + width_of leaf) × (new ≡ read_at old reads)

-- none where no place is left
pub answers-past : (old now : NodeView) (leaf : Bool) (page row place : ℕ) → HasNode old row → Passed old now leaf page row place
    → 32 < place + width_of leaf → Answers old now leaf page row None
answers-past old now leaf page row place node passed full = record {
  word = λ shown shows.
      let words = at_of shown.words row in
      passed.word shown shows ∙ short leaf page (drop place words)
      (omega (arith, node_words old row shown node shows, length-drop place words));
  view = (passed.reads, omega (arith, passed.count, passed.within), passed.view);
}

-- none where the place is 0
pub answers-none : (old now new : NodeView) (leaf : Bool) (page row place end : ℕ) → HasNode old row → Passed old now leaf page row place
    → place + width_of leaf ≤ 32 → IsRead now row place end → end ≡ 0 → new ≡ word_at now → Answers old new leaf page row None
answers-none old now new leaf page row place end node passed room read none is = record {
  word = λ shown shows.
      let here = first_left old now leaf page row place 0 place end shown passed read (omega arith) shows in
      passed.word shown shows ∙ zeroed leaf page (drop place (at_of shown.words row)) (here ∙ none);
  view = (passed.reads + 1, omega (arith, stride-more leaf passed.reads, passed.count), read-more old now new passed.reads 1 passed.view is);
}

-- the second word of a place that ends above the page
pub answers-some : (old now next new : NodeView) (leaf : Bool) (page row place end word : ℕ) → HasNode old row
    → Passed old now leaf page row place → place + width_of leaf ≤ 32 → IsRead now row place end → page < end → next ≡ word_at now
    → IsRead next row (place + 1) word → new ≡ word_at next → Answers old new leaf page row (Some word)
answers-some old now next new leaf page row place end word node passed room read within is read_next is_next = record {
  word = λ shown shows.
      let words = at_of shown.words row in
      let here = first_left old now leaf page row place 0 place end shown passed read (omega arith) shows in
      let then : IsRead now row (place + 1) word = λ s found. read_next s (ap (λ (v : NodeView). v.snapshot) is ∙ found) in
      let there = first_left old now leaf page row place 1 (place + 1) word shown passed then refl shows in
      passed.word shown shows
      ∙ found leaf page (drop place words) (left old leaf row place shown node room shows) (subst (λ n. page < n) (sym here) within)
      ∙ ap (λ n. Some n) there;
  view = (
    passed.reads + 1 + 1,
    omega (arith, stride-more leaf passed.reads, stride-more leaf (passed.reads + 1), passed.count),
    read-more old next new (passed.reads + 1) 1 (read-more old now next passed.reads 1 passed.view is) is_next,
  );
}

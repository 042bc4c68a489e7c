-- For `push_part`: the item at the place is added, or left out.
use Rattle.std.proofs.Common.{◌≡◌, ◌≤◌, ◌+◌, ℕ, Bool, true, false, List, [], ◌∷◌, ◌++◌, length, refl, sym, ap, subst, ◌∙◌, arith}
use Rattle.arrayvec.specs.ArrayVec.{ArrayVec}
use Rattle.maple_node.specs.declared.item.NodeItem.{NodeItem}
use Rattle.maple_node.specs.Codec.{width_of, listed_at}
use Rattle.maple_node.specs.Parts.{keeps}
use Rattle.maple_node.proofs.Parts.{Lists, room_there, listed_none, listed_past, few_items, lists_more, lists_less, lists_all}
use Rattle.maple_node.proofs.part.push_part.Goals as goal
use Rattle.maple_node.proofs.part.push_part.Goals.{then-keeps, else-keeps}

-- an item has three words at most, and some
few_words : (leaf : Bool) → width_of leaf ≤ 3
few_words true = omega arith
few_words false = omega arith

some_words : (leaf : Bool) → 1 ≤ width_of leaf
some_words true = omega arith
some_words false = omega arith

-- the place as the width tells it
room_of : (leaf : Bool) (place width : ℕ) → width ≡ width_of leaf → place + width ≤ 32 → (words : List ℕ) → length words ≡ 32
    → place + width_of leaf ≤ length words
room_of leaf place width wide fits words sized = omega (arith, wide, fits, sized)

pub loop-place-init : goal.loop-place-init
loop-place-init c = record {
  within = omega arith;
  width = c.width_of-width.ensures;
  lists = record {
    whole = refl;
    room = omega (arith, few_items c.args.leaf c.args.words.now c.told-words);
  };
}

pub overflow_add-place : goal.overflow_add-place
overflow_add-place c =
    let is = c.loop-place.invariant in
    omega (arith, is.within, is.width, few_words c.args.leaf)

pub push-requires : goal.push-requires
push-requires c =
    let is = c.loop-place.invariant in (
      omega arith,
      room_there c.args.part c.args.leaf c.args.words.now c.loop-place.place c.args.list.now.items c.loop-place.list.items is.lists
          (room_of c.args.leaf c.loop-place.place c.width_of-width.result is.width c.loop-place-test.true c.args.words.now c.told-words)
          c.if-words-place-ne0.true c.requires,
    )

pub loop-place-preserved : goal.loop-place-preserved
loop-place-preserved c =
    let is = c.loop-place.invariant in
    let leaf = c.args.leaf in
    let words = c.args.words.now in
    let place = c.loop-place.place in
    let before = c.args.list.now.items in
    let list = c.loop-place.list.items in
    let item = listed_at leaf words place in
    let room = room_of leaf place c.width_of-width.result is.width c.loop-place-test.true words c.told-words in
    let kept : c.keeps.result ≡ keeps c.args.part item.end = c.keeps.ensures ∙ ap (λ (x : NodeItem). keeps c.args.part x.end) c.listed_at-item.ensures in
    let Next : ℕ → Type 0 = λ n. Lists c.args.part leaf words (place + n) before c.if-keeps.list.items in
    record {
      within = c.loop-place-test.true;
      width = is.width;
      lists = subst Next (sym is.width) (elim c.if-keeps.branch [
        | then-keeps w ↦ lists_more c.args.part leaf words place before list c.if-keeps.list.items is.lists room c.if-words-place-ne0.true
            (sym kept ∙ w.if-keeps.true) (ap (λ (xs : ArrayVec NodeItem). xs.items) w.list-is ∙ w.push.ensures.items ∙ ap (λ (x : NodeItem). list ++ x ∷ []) c.listed_at-item.ensures)
        | else-keeps w ↦ subst (λ (xs : List NodeItem). Lists c.args.part leaf words (place + width_of leaf) before xs) (sym (ap (λ (xs : ArrayVec NodeItem). xs.items) w.list-is))
            (lists_less c.args.part leaf words place before list is.lists room c.if-words-place-ne0.true (sym kept ∙ w.if-keeps.false))
      ]);
    }

pub returns-else-words-place-ne0-clause-items : goal.returns-else-words-place-ne0-clause-items
returns-else-words-place-ne0-clause-items c =
    let is = c.loop-place.invariant in
    lists_all c.args.part c.args.leaf c.args.words.now c.loop-place.place c.args.list.now.items c.loop-place.list.items is.lists
    (listed_none c.args.leaf c.args.words.now c.loop-place.place (omega (arith, c.loop-place-test.true, is.width, c.told-words, some_words c.args.leaf)) c.if-words-place-ne0.false)

pub returns-after-loop-place-clause-items : goal.returns-after-loop-place-clause-items
returns-after-loop-place-clause-items c =
    let is = c.loop-place.invariant in
    lists_all c.args.part c.args.leaf c.args.words.now c.loop-place.place c.args.list.now.items c.loop-place.list.items is.lists
    (listed_past c.args.leaf c.args.words.now c.loop-place.place (omega (arith, c.loop-place-test.false, is.width, c.told-words)))

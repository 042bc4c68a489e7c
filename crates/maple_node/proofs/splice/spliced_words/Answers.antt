-- For `spliced_words`: the words that are added are those of the items in order.
use Rattle.std.proofs.Common.{ℕ, ◌≡◌, refl, inl, inr, List, length, take, drop, ◌++◌, ◌-◌, ◌+◌, ◌*◌, ap, ◌∙◌, arith, length-append}
use Rattle.std.proofs.lemmas.List.{length-take-le, length-drop}
use Rattle.std.specs.List.{flat_map}
use Rattle.maple_node.specs.Nodes.{item_words, node_items, most}
use Rattle.maple_node.specs.Splices.{ending_by, spliced}
use Rattle.maple_node.specs.Codec.{width_of}
use Rattle.maple_node.specs.Padding.{padded_node}
use Rattle.maple_node.proofs.Padded.{length-words}
use Rattle.maple_node.proofs.Spliced.{count_is, spliced_is, fits_of, misfits_of, most_words}
use Rattle.maple_node.proofs.splice.spliced_words.Goals as goal
use Rattle.maple_node.proofs.splice.spliced_words.Goals.{then-count-width-via-then-count-width, then-count-width-via-else-count-width+then-width-most}

pub push_words-requires-2 : goal.push_words-requires-2
push_words-requires-2 c =
    let leaf = c.args.leaf in
    let words = c.args.words.now in
    let new = c.args.new.now in
    let parts = c.parts_of-before.result in
    let told = c.parts_of-before.ensures in
    let wide = ap (λ (n : ℕ). n * length new) c.width_of-width.ensures in
    let bound = ap (λ (n : ℕ). n * c.most.result) c.width_of-width.ensures ∙ ap (λ (n : ℕ). width_of leaf * n) c.most.ensures in
    let room = most_words leaf in
    let under = c.if-width-most.false in
    let first = ap (λ (ws : List ℕ). length ws) c.push_words.ensures ∙ length-append c.args.made.now (take parts.before words) in
    let none = ap (λ (ws : List ℕ). length ws) c.requires.none in
    let front = length-take-le parts.before words (omega (arith, told.before, told.within, c.told-words)) in
    let second = ap (λ (ws : List ℕ). length ws) c.push_items.ensures ∙ length-append c.push_words.new.self (flat_map (item_words leaf) new) in
    let items = length-words leaf new in
    let rest = length-drop parts.past words in
    let back = length-take-le (parts.used - parts.past) (drop parts.past words) (omega (arith, told.past, told.within, c.told-words, rest)) in
    omega (arith, wide, bound, room, under, first, none, front, second, items, back)

pub returns-clause-words : goal.returns-clause-words
returns-clause-words c done =
    let leaf = c.args.leaf in
    let words = c.args.words.now in
    let new = c.args.new.now in
    let items = node_items leaf words in
    let F = flat_map (item_words leaf) in
    let parts = c.parts_of-before.result in
    let told = c.parts_of-before.ensures in
    let mid = take (parts.used - parts.past) (drop parts.past words) in
    ap padded_node (c.push_words-2.ensures
    ∙ ap (λ (ws : List ℕ). ws ++ mid) (c.push_items.ensures
    ∙ ap (λ (ws : List ℕ). ws ++ F new) (c.push_words.ensures
    ∙ ap (λ (ws : List ℕ). ws ++ take parts.before words) c.requires.none ∙ told.front))
    ∙ ap (λ (ws : List ℕ). (F (ending_by c.args.lo items) ++ F new) ++ ws) told.back)
    ∙ spliced_is leaf c.args.lo c.args.hi new items

pub returns-clause-most : goal.returns-clause-most
returns-clause-most c done =
    let leaf = c.args.leaf in
    let words = c.args.words.now in
    let new = c.args.new.now in
    let parts = c.parts_of-before.result in
    let told = c.parts_of-before.ensures in
    let wide = ap (λ (n : ℕ). n * length new) c.width_of-width.ensures in
    let count = count_is leaf c.args.lo c.args.hi parts.before parts.past parts.used words new (omega (arith, told.before, told.within, c.told-words))
    (omega (arith, told.within, c.told-words)) told.past told.front told.back in
    (fits_of leaf c.args.fewest (length (spliced c.args.lo c.args.hi new (node_items leaf words)))
    (parts.before + c.width_of-width.result * length new + (parts.used - parts.past)) c.width_of-width.result c.most.result
    (omega (arith, wide, count)) c.width_of-width.ensures c.most.ensures c.if-count-width.false c.if-width-most.false).most

pub returns-clause-least : goal.returns-clause-least
returns-clause-least c done =
    let leaf = c.args.leaf in
    let words = c.args.words.now in
    let new = c.args.new.now in
    let parts = c.parts_of-before.result in
    let told = c.parts_of-before.ensures in
    let wide = ap (λ (n : ℕ). n * length new) c.width_of-width.ensures in
    let count = count_is leaf c.args.lo c.args.hi parts.before parts.past parts.used words new (omega (arith, told.before, told.within, c.told-words))
    (omega (arith, told.within, c.told-words)) told.past told.front told.back in
    (fits_of leaf c.args.fewest (length (spliced c.args.lo c.args.hi new (node_items leaf words)))
    (parts.before + c.width_of-width.result * length new + (parts.used - parts.past)) c.width_of-width.result c.most.result
    (omega (arith, wide, count)) c.width_of-width.ensures c.most.ensures c.if-count-width.false c.if-width-most.false).least

pub returns-then-count-width-clause-none : goal.returns-then-count-width-clause-none
returns-then-count-width-clause-none c not_done =
    let leaf = c.args.leaf in
    let words = c.args.words.now in
    let new = c.args.new.now in
    let parts = c.parts_of-before.result in
    let told = c.parts_of-before.ensures in
    let wide = ap (λ (n : ℕ). n * length new) c.width_of-width.ensures in
    let count = count_is leaf c.args.lo c.args.hi parts.before parts.past parts.used words new (omega (arith, told.before, told.within, c.told-words))
    (omega (arith, told.within, c.told-words)) told.past told.front told.back in
    let all : ℕ = parts.before + c.width_of-width.result * length new + (parts.used - parts.past) in
    let items : ℕ = length (spliced c.args.lo c.args.hi new (node_items leaf words)) in
    let is : all ≡ width_of leaf * items = omega (arith, wide, count) in
    elim c.then-count-width.branch [
      | then-count-width-via-then-count-width w ↦
          misfits_of leaf c.args.fewest items all c.width_of-width.result (most leaf) is c.width_of-width.ensures refl (inl w.if-count-width.true)
      | then-count-width-via-else-count-width+then-width-most w ↦
          misfits_of leaf c.args.fewest items all c.width_of-width.result w.most.result is c.width_of-width.ensures w.most.ensures (inr w.if-width-most.true)
    ]

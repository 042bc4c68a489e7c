-- For `gap_by`: the gap of the item at the place.
use Rattle.std.proofs.Common.{ℕ, ◌+◌, max, sym, ap, subst, ◌∙◌, arith}
use Rattle.maple_node.specs.declared.item.NodeItem.{NodeItem}
use Rattle.maple_node.specs.Nodes.{item_gap}
use Rattle.maple_node.specs.Codec.{width_of}
use Rattle.maple_node.proofs.Parts.{listed_none, listed_past}
use Rattle.maple_node.proofs.Spliced.{Gapped, gapped_more, gapped_all, some_words}
use Rattle.maple_node.proofs.splice.gap_by.Goals as goal

pub loop-place-preserved : goal.loop-place-preserved
loop-place-preserved c =
    let is = c.loop-place.invariant in
    let leaf = c.args.leaf in
    let words = c.args.words.now in
    let place = c.loop-place.place in
    let end = ap (λ (x : NodeItem). x.end) c.listed_at-item.ensures in
    let told = c.max-largest.ensures
    ∙ ap (λ (g : ℕ). max g c.loop-place.largest) (c.item_gap.ensures ∙ ap (λ (x : NodeItem). item_gap leaf c.loop-place.start x) c.listed_at-item.ensures) in
    let Wide : ℕ → Type 0 = λ n. Gapped leaf c.args.start (place + n) c.listed_at-item.result.end c.max-largest.result words in
    let Ends : ℕ → Type 0 = λ n. Gapped leaf c.args.start (place + width_of leaf) n c.max-largest.result words in
    record {
      within = c.loop-place-test.true;
      width = is.width;
      gap = subst Wide (sym is.width) (subst Ends (sym end) (gapped_more leaf c.args.start place c.loop-place.start c.loop-place.largest
          c.max-largest.result words is.gap (omega (arith, c.loop-place-test.true, is.width, c.told-words)) c.if-words-place-ne0.true told));
    }

pub returns-else-words-place-ne0 : goal.returns-else-words-place-ne0
returns-else-words-place-ne0 c =
    let is = c.loop-place.invariant in
    gapped_all c.args.leaf c.args.start c.loop-place.place c.loop-place.start c.loop-place.largest c.args.words.now is.gap
    (listed_none c.args.leaf c.args.words.now c.loop-place.place
    (omega (arith, c.loop-place-test.true, is.width, c.told-words, some_words c.args.leaf)) c.if-words-place-ne0.false)

pub returns-after-loop-place : goal.returns-after-loop-place
returns-after-loop-place c =
    let is = c.loop-place.invariant in
    gapped_all c.args.leaf c.args.start c.loop-place.place c.loop-place.start c.loop-place.largest c.args.words.now is.gap
    (listed_past c.args.leaf c.args.words.now c.loop-place.place (omega (arith, c.loop-place-test.false, is.width, c.told-words)))

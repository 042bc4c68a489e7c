-- For `words_ending_by`: the item at the place ends up to the page, or no item from there on does.
use Rattle.std.proofs.Common.{ℕ, ◌+◌, sym, ap, subst, arith}
use Rattle.maple_node.specs.Splices.{ending_by}
use Rattle.maple_node.specs.Internal.Counts.{IsCounted}
use Rattle.maple_node.proofs.Parts.{listed_none, listed_past}
use Rattle.maple_node.proofs.Spliced.{ending_by_more, ending_by_done, ending_by_past, some_words}
use Rattle.maple_node.proofs.splice.words_ending_by.Goals as goal

pub loop-place-preserved : goal.loop-place-preserved
loop-place-preserved c =
    let is = c.loop-place.invariant in
    let end = c.if-words-place.true in
    record {
      within = c.loop-place-test.true;
      width = is.width;
      counts = λ later order. subst (λ (n : ℕ). IsCounted c.args.leaf later (c.loop-place.place + n) c.args.words.now) (sym is.width)
          (ending_by_more c.args.leaf later c.loop-place.place c.args.words.now (is.counts later order)
          (omega (arith, c.loop-place-test.true, is.width, c.told-words)) c.if-words-place-ne0.true (omega (arith, end, order)));
    }

pub returns-else-words-place-clause-count : goal.returns-else-words-place-clause-count
returns-else-words-place-clause-count c =
    let is = c.loop-place.invariant in
    let counted = is.counts c.args.page (omega arith) in
    ending_by_done c.args.leaf c.args.page c.loop-place.place c.args.words.now counted
    (ending_by_past c.args.leaf c.args.page c.loop-place.place c.args.words.now counted
    (omega (arith, c.loop-place-test.true, is.width, c.told-words)) c.if-words-place-ne0.true c.if-words-place.false)

pub returns-else-words-place-ne0-clause-count : goal.returns-else-words-place-ne0-clause-count
returns-else-words-place-ne0-clause-count c =
    let is = c.loop-place.invariant in
    ending_by_done c.args.leaf c.args.page c.loop-place.place c.args.words.now (is.counts c.args.page (omega arith))
    (ap (ending_by c.args.page) (listed_none c.args.leaf c.args.words.now c.loop-place.place
    (omega (arith, c.loop-place-test.true, is.width, c.told-words, some_words c.args.leaf)) c.if-words-place-ne0.false))

pub returns-after-loop-place-clause-count : goal.returns-after-loop-place-clause-count
returns-after-loop-place-clause-count c =
    let is = c.loop-place.invariant in
    ending_by_done c.args.leaf c.args.page c.loop-place.place c.args.words.now (is.counts c.args.page (omega arith))
    (ap (ending_by c.args.page) (listed_past c.args.leaf c.args.words.now c.loop-place.place
    (omega (arith, c.loop-place-test.false, is.width, c.told-words))))

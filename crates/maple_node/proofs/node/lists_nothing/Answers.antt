-- For `lists_nothing`: the first place is used, or none is.
use Rattle.std.proofs.Common.{◌≡◌, ◌≢◌, List, length, get_or, ap, arith}
use Rattle.std.proofs.lemmas.Bool.Decides.{nat_tests}
use Rattle.maple_node.specs.declared.item.NodeItem.{NodeItem}
use Rattle.maple_node.proofs.Parts.{listed_there, listed_none}
use Rattle.maple_node.proofs.Spliced.{three_words}
use Rattle.maple_node.proofs.node.lists_nothing.Goals as goal

pub returns-clause-none : goal.returns-clause-none
returns-clause-none c leaf is =
    let first : get_or c.args.words.now 0 0 ≡ 0 = grind (arith, nat_tests) in
    listed_none leaf c.args.words.now 0 (omega (arith, c.told-words)) first

pub returns-clause-some : goal.returns-clause-some
returns-clause-some c leaf is =
    let first : get_or c.args.words.now 0 0 ≢ 0 = grind (arith, nat_tests) in
    let there = ap (λ (xs : List NodeItem). length xs)
    (listed_there leaf c.args.words.now 0 (omega (arith, c.told-words, three_words leaf)) first) in
    omega arith

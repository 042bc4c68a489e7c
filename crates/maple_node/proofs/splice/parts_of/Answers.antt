-- For `parts_of`: each part is where its items' words stand.
use Rattle.std.proofs.Common.{arith}
use Rattle.maple_node.proofs.Spliced.{Parted, parted}
use Rattle.maple_node.proofs.splice.parts_of.Goals as goal
use Rattle.maple_node.proofs.splice.parts_of.Goals.{After-words_ending_by-used}

-- the parts up to `lo`, from `hi` on, and to the end, which no item passes
parts_there : (c : After-words_ending_by-used) → Parted c.args.leaf c.args.lo c.args.hi c.words_ending_by-before.result c.words_ending_by-past.result
    c.words_ending_by-used.result c.args.words.now
parts_there c =
    let ends = c.requires.end in
    let most = c.max.ensures in
    parted c.args.leaf c.args.lo c.args.hi c.max.result c.words_ending_by-before.result c.words_ending_by-past.result c.words_ending_by-used.result c.args.words.now
    c.requires.ascends c.requires.whole (omega (arith, ends, most)) c.words_ending_by-before.ensures.count c.words_ending_by-past.ensures.count
    c.words_ending_by-used.ensures.count

pub returns-clause-before : goal.returns-clause-before
returns-clause-before c = (parts_there (goal.at.returns-clause-before c).After-words_ending_by-used).before_used

pub returns-clause-past : goal.returns-clause-past
returns-clause-past c = (parts_there (goal.at.returns-clause-past c).After-words_ending_by-used).past_used

pub returns-clause-front : goal.returns-clause-front
returns-clause-front c = (parts_there (goal.at.returns-clause-front c).After-words_ending_by-used).front

pub returns-clause-back : goal.returns-clause-back
returns-clause-back c = (parts_there (goal.at.returns-clause-back c).After-words_ending_by-used).back

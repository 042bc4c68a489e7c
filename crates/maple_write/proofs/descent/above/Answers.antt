-- For `above`: the root has each page.
use Rattle.std.proofs.Common.{arith}
use Rattle.maple_write.proofs.Finding.{at_top_of}
use Rattle.maple_write.proofs.descent.above.Goals as goal

pub returns-clause-begins : goal.returns-clause-begins
returns-clause-begins c at page less =
    let is = at_top_of at c.args.tree.height page c.args.tree.top less in
    record { item = is.found; start = is.begins; above = omega arith }

-- For `entry_near`: the entry of the part is that of the branch.
use Rattle.std.proofs.Common.{◌≡◌, Some, sym, ap, ◌∙◌, arith}
use Rattle.maple_node.specs.Levels.{item_at}
use Rattle.node_slots.specs.Built.{words_at}
use Rattle.maple_gap.specs.declared.branch.Branch.{Branch}
use Rattle.maple_gap.specs.Internal.Searches.{entries_under}
use Rattle.maple_gap.proofs.Finding.{whole_item}
use Rattle.maple_gap.proofs.branch.entry_near.Goals as goal
use Rattle.maple_gap.proofs.branch.entry_near.Goals.{then-page-part, else-page-part}

pub returns-clause-item : goal.returns-clause-item
returns-clause-item c =
    let at = words_at c.args.writer.now in
    let root = c.args.root in
    let part = c.args.part in
    let page = c.args.page in
    let item = c.entry_at.result.item in
    let found = c.entry_at.ensures.item in
    let whole : item_at page (entries_under at root) ≡ Some item = elim c.if-page-part.branch as (λ _. item_at page (entries_under at root) ≡ Some item) [
      | then-page-part w ↦
          let within = w.if-page-part.true in
          let near = ap (λ (b : Branch). item_at page (entries_under at b)) (sym w.near-is) ∙ found in
          whole_item at root part page item c.requires.same c.requires.ending_after within near
      | else-page-part w ↦ ap (λ (b : Branch). item_at page (entries_under at b)) (sym w.near-is) ∙ found
    ] in
    whole

pub returns-clause-reads : goal.returns-clause-reads
returns-clause-reads c = elim c.if-page-part.branch [
  | then-page-part w ↦ omega (arith, c.entry_at.ensures.reads, ap (λ (b : Branch). b.level) w.near-is)
  | else-page-part w ↦ omega (arith, c.entry_at.ensures.reads, ap (λ (b : Branch). b.level) w.near-is)
]

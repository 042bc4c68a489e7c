-- For `MmState::facts`: what the fields keep of the tree.
use Rattle.std.proofs.Common.{◌≡◌, ◌≤◌, ◌%◌, None, List, All, length, sym, ap, subst, ◌∙◌}
use Rattle.mm_types.specs.declared.area.Record.{Record}
use Rattle.area_rules.specs.Tables.{AddressSpace}
use Rattle.lock_core.specs.Rows.{Exactly}
use Rattle.maple_node.specs.Trees.{Pair}
use Rattle.vma_lock.specs.Seats.{slots}
use Rattle.area_tree.specs.AreaTrees.{areas_of}
use Rattle.mm_state.specs.States.{StateView, list_of, ArePairsOf}
use Rattle.mm_state.proofs.Telling.{rows_are}
use Rattle.mm_state.proofs.state.MmState.facts.Goals as goal

pub returns-clause-tree : goal.returns-clause-tree
returns-clause-tree c =
    let i = c.self.invariant in
    subst (λ (v : StateView). v.number ≡ length v.journal) c.self.view_is (i.rest.tree.number ∙ ap length i.journal)

pub returns-clause-pairs : goal.returns-clause-pairs
returns-clause-pairs c =
    let s = c.self.inside in
    let i = c.self.invariant in
    let rows = rows_are (slots s.store.writer) s.store.areas.records s.store.areas.tree.pairs i.rest.hangs.rows in
    subst (λ (v : StateView). ArePairsOf v.slots (list_of v) v.pairs) c.self.view_is
    (subst (λ (areas : List Record). ArePairsOf (slots s.store.writer) areas s.store.areas.tree.shown) (ap (λ (space : AddressSpace). space.areas) i.space)
    (subst (λ (pairs : List Pair). ArePairsOf (slots s.store.writer) (areas_of s.store.areas) pairs) (sym i.rest.tree.shown)
    record { spans = c.facts.ensures.spans; rows = rows }))

pub returns-clause-even : goal.returns-clause-even
returns-clause-even c = subst (λ (v : StateView). v.seq % 2 ≡ 0) c.self.view_is c.self.invariant.rest.closed

pub returns-clause-turn : goal.returns-clause-turn
returns-clause-turn c = subst (λ (v : StateView). v.turn ≡ None) c.self.view_is c.self.invariant.turn

pub returns-clause-rows : goal.returns-clause-rows
returns-clause-rows c =
    let s = c.self.inside in
    let i = c.self.invariant in
    subst (λ (v : StateView). Exactly v.slots (list_of v)) c.self.view_is
    (subst (Exactly (slots s.store.writer)) (ap (λ (space : AddressSpace). space.areas) i.space) i.rest.hangs.exactly)

pub returns-clause-left : goal.returns-clause-left
returns-clause-left c = subst (λ (v : StateView). All (λ leaving. leaving.tree ≤ v.number) v.left) c.self.view_is c.self.invariant.rest.tree.leaving

-- For `AreaStore::detach`: the slot of an area of the tree is taken, and leaves.
use Rattle.std.proofs.Common.{refl, sym, ap, subst, arith}
use Rattle.split_merge.specs.declared.plan.Change.TheVariants.{Detach}
use Rattle.vma_lock.specs.Seats.{slots}
use Rattle.area_tree.specs.AreaTrees.{shown_of}
use Rattle.mm_state.specs.declared.store.AreaStore.{AreaStore}
use Rattle.mm_state.specs.Internal.AreaStores.{Carries, HasSameAreaTree}
use Rattle.mm_state.proofs.Hanging.{taken_in}
use Rattle.mm_state.proofs.LettingGo.{carries}
use Rattle.mm_state.proofs.store.AreaStore.detach.Goals as goal

pub let_go-requires-clause-slot : goal.let_go-requires-clause-slot
let_go-requires-clause-slot g c =
    let store = c.args.self.now in
    omega (
      arith,
      (taken_in (slots store.writer) (shown_of store.areas) store.moved.items store.slots _ c.requires.can.hangs c.slot_of-slot.ensures).below,
      c.requires.can.count,
    )

pub let_go-requires-clause-taken : goal.let_go-requires-clause-taken
let_go-requires-clause-taken g c =
    let store = c.args.self.now in
    taken_in (slots store.writer) (shown_of store.areas) store.moved.items store.slots _ c.requires.can.hangs c.slot_of-slot.ensures

pub returns : goal.returns
returns g c =
    let store = c.let_go.new.self in
    subst (λ (b : AreaStore). Carries c.args.self.now b (Detach c.args.old.now) c.args.tree) (ap (λ (b : AreaStore). record store { areas = b.areas }) (sym c.let_go.ensures.same))
    (carries (record c.args.self.now { areas = c.remove.new.self }) store c.args.self.now.areas c.remove.new.self (record { slot = c.slot_of-slot.result.0; area = c.args.old.now }) c.args.tree
    c.let_go.ensures
    (subst (HasSameAreaTree c.args.self.now.areas) (sym c.remove.ensures.same) refl) (c.remove.ensures.shown c.slot_of-slot.result.0 c.slot_of-slot.ensures))

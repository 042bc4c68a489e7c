-- What threads share of a space, and what each takes with it: a pass, or an area that it holds.
use denote.RattleType.{RattleType}
use denote.Ref.{NamedLft}
use denote.Param.Send.{IsSend, IsSync, sendable}
use Rattle.std.proofs.Crossing as heap
use Rattle.std.proofs.Crossing.{crosses}
use Rattle.atomic_table.proofs.shared.Seat.TheSendSync.{the_send as seat_send}
use Rattle.atomic_table.proofs.shared.Shared.TheSendSync.{the_send as shared_send, the_sync as shared_sync}
use Rattle.atomic_table.proofs.send_lease.SendLease.TheSendSync.{the_send as lease_send, the_sync as lease_sync}
use Rattle.node_slots.specs.contracts.seats.NodeTable as NodeTable
use Rattle.node_slots.specs.contracts.seats.NodeWriterSeat as NodeWriterSeat
use Rattle.node_slots.specs.contracts.seats.NodeWriter as NodeWriter
use Rattle.mm_types.specs.contracts.slot.Row as Row
use Rattle.node_slots.specs.contracts.left.Left as Left
use Rattle.node_slots.specs.contracts.note.RowNote as RowNote
use Rattle.node_slots.specs.contracts.reads.MayCount as MayCount
use Rattle.area_tree.specs.contracts.tally.Tally as Tally
use Rattle.vma_lock.specs.contracts.seats.VmaTable as VmaTable
use Rattle.vma_lock.specs.contracts.seats.WriterSeat as WriterSeat
use Rattle.area_slots.specs.contracts.slots.AreaSlots as AreaSlots
use Rattle.split_merge.specs.contracts.plan.Plan as Plan
use Rattle.mm_types.specs.contracts.call.Entry as Entry
use Rattle.mm_state.specs.contracts.store.AreaStore as AreaStore
use Rattle.mm_state.specs.contracts.state.MmState as MmState
use Rattle.fault_path.specs.contracts.view.FaultView as FaultView
use Rattle.mm_types.specs.contracts.call.Seen as Seen
use Rattle.mm_types.specs.contracts.area.Record as Record
use Rattle.vma_lock.specs.contracts.seats.ReaderSeat as ReaderSeat
use Rattle.node_slots.specs.contracts.seats.NodeSeat as NodeSeat
use Rattle.fault_path.specs.contracts.pass.Unlocked as Unlocked
use Rattle.fault_path.specs.contracts.pass.Rest as Rest
use Rattle.fault_path.specs.contracts.pass.Pass as Pass
use Rattle.fault_path.specs.contracts.held.Held as Held
use Rattle.mm_space.specs.declared.name.SpaceName.{Ghosts}
use Rattle.mm_space.specs.contracts.named.Named as Named
use Rattle.mm_space.specs.contracts.space.Space as Space
use Rattle.area_tree.specs.contracts.spans.SpanTree as SpanTree
use Rattle.area_tree.specs.contracts.tree.AreaTree as AreaTree

pub tally_send : IsSend (Tally.the_field).row
tally_send = search (sendable, crosses) depth 60

pub node_table_send : IsSend (NodeTable.the_field).row
node_table_send = search (heap.frees, heap.send, heap.sync, shared_send, shared_sync, lease_send, lease_sync, sendable, crosses) depth 60

pub node_seat_send : IsSend (NodeWriterSeat.the_field).row
node_seat_send = search (node_table_send, seat_send, sendable, crosses) depth 60

pub row_send : IsSend (Row.the_field).row
row_send = search (sendable, crosses) depth 60

pub left_send : IsSend (Left.the_field).row
left_send = search (sendable, crosses) depth 60

pub note_send : IsSend (RowNote.the_field).row
note_send = search (sendable, crosses) depth 60

pub node_writer_send : IsSend (NodeWriter.the_field).row
node_writer_send = search (row_send, left_send, note_send, node_seat_send, sendable, crosses) depth 60

pub span_tree_send : IsSend (SpanTree.the_field).row
span_tree_send = search (tally_send, node_table_send, node_writer_send, sendable, crosses) depth 60

pub may_count_send : IsSend (MayCount.the_field).row
may_count_send = search (sendable, crosses) depth 60

pub area_tree_send : IsSend (AreaTree.the_field).row
area_tree_send = search (may_count_send, span_tree_send, sendable, crosses) depth 60

pub entry_send : IsSend (Entry.the_field).row
entry_send = search (sendable, crosses) depth 60 fits 50000

pub vma_table_send : IsSend (VmaTable.the_field).row
vma_table_send = search (entry_send, heap.frees, heap.send, heap.sync, shared_send, shared_sync, lease_send, lease_sync, sendable, crosses) depth 60

pub writer_seat_send : IsSend (WriterSeat.the_field).row
writer_seat_send = search (entry_send, vma_table_send, seat_send, sendable, crosses) depth 60

pub area_slots_send : IsSend (AreaSlots.the_field).row
area_slots_send = search (sendable, crosses) depth 60

pub area_store_send : IsSend (AreaStore.the_field).row
area_store_send = search (vma_table_send, writer_seat_send, area_slots_send, area_tree_send, sendable, crosses) depth 60

pub plan_send : IsSend (Plan.the_field).row
plan_send = search (sendable, crosses) depth 60 fits 50000

pub state_send : IsSend (MmState.the_field).row
state_send = search (entry_send, area_store_send, plan_send, sendable, crosses) depth 60

pub vma_table_sync : IsSync (VmaTable.the_field).row
vma_table_sync = search (entry_send, heap.frees, heap.send, heap.sync, shared_send, shared_sync, lease_send, lease_sync, sendable, crosses) depth 60

pub node_table_sync : IsSync (NodeTable.the_field).row
node_table_sync = search (heap.frees, heap.send, heap.sync, shared_send, shared_sync, lease_send, lease_sync, sendable, crosses) depth 60

pub view_sync : IsSync (FaultView.the_field).row
view_sync = search (vma_table_sync, node_table_sync, sendable, crosses) depth 60

pub named_send : (N : RattleType) (g : Ghosts N.Denot) → IsSend N → IsSend (Named.the_field N g).row
named_send N g s = search (state_send, sendable, crosses) depth 60

pub space_row_sync : (N : RattleType) (g : Ghosts N.Denot) → IsSend N → IsSync N → IsSync (Space.the_row N g)
space_row_sync N g s y = search (named_send, view_sync, sendable, crosses) depth 60 fits 50000

pub reader_send : IsSend (ReaderSeat.the_field).row
reader_send = search (entry_send, seat_send, sendable, crosses) depth 60

pub node_reader_send : IsSend (NodeSeat.the_field).row
node_reader_send = search (seat_send, sendable, crosses) depth 60

pub seen_send : IsSend (Seen.the_field).row
seen_send = search (sendable, crosses) depth 60

pub unlocked_send : IsSend (Unlocked.the_field).row
unlocked_send = search (sendable, crosses) depth 60

pub rest_send : IsSend (Rest.the_field).row
rest_send = search (node_reader_send, seen_send, sendable, crosses) depth 60

pub pass_send : IsSend (Pass.the_field).row
pass_send = search (reader_send, unlocked_send, rest_send, sendable, crosses) depth 60

pub record_send : IsSend (Record.the_field).row
record_send = search (sendable, crosses) depth 60

pub held_send : (a : NamedLft) → IsSend (Held.the_row a)
held_send a = search (vma_table_sync, record_send, reader_send, unlocked_send, rest_send, sendable, crosses) depth 60

-- For `note_spot`: the other parts of the note stay.
use Rattle.std.proofs.Common.{refl}
use Rattle.std.proofs.lemmas.List.{map-set}
use Rattle.node_slots.specs.declared.note.RowNote.{RowNote}
use Rattle.node_slots.proofs.Notes.{note_same, replaced_same}
use Rattle.node_slots.proofs.choosing.note_spot.Goals as goal

pub returns-in-Some-clause-spots : goal.returns-in-Some-clause-spots
returns-in-Some-clause-spots c = map-set (λ (n : RowNote). n.spot) c.args.notes.now.items c.args.row.0 _

pub returns-in-Some-clause-firsts : goal.returns-in-Some-clause-firsts
returns-in-Some-clause-firsts c = note_same c.args.notes.now.items c.args.row.0 c.in-Some.note.now _ c.in-Some.ensures.value refl

pub returns-in-Some-clause-replaced : goal.returns-in-Some-clause-replaced
returns-in-Some-clause-replaced c = replaced_same c.args.notes.now.items c.args.row.0 c.in-Some.note.now _ c.in-Some.ensures.value refl

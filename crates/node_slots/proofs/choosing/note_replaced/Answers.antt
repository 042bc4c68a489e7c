-- For `note_replaced`: the other parts of the note stay.
use Rattle.std.proofs.Common.{ℕ, ◌∙◌, List, set, refl, sym, arith}
use Rattle.std.proofs.lemmas.List.{map-set}
use Rattle.std.proofs.lemmas.Bool.{cond-false}
use Rattle.std.proofs.lemmas.Bool.Decides.{eqb_tells}
use Rattle.node_slots.specs.declared.note.RowNote.{RowNote}
use Rattle.node_slots.specs.Kept.{replaced_of}
use Rattle.node_slots.proofs.Notes.{note_same, spots_same}
use Rattle.node_slots.proofs.choosing.note_replaced.Goals as goal

pub returns-in-Some-clause-firsts : goal.returns-in-Some-clause-firsts
returns-in-Some-clause-firsts c = note_same c.args.notes.now.items c.args.row.0 c.in-Some.note.now _ c.in-Some.ensures.value refl

pub returns-in-Some-clause-spots : goal.returns-in-Some-clause-spots
returns-in-Some-clause-spots c = spots_same c.args.notes.now.items c.args.row.0 c.in-Some.note.now _ c.in-Some.ensures.value refl

pub returns-in-Some-clause-replaced : goal.returns-in-Some-clause-replaced
returns-in-Some-clause-replaced c =
    map-set (λ (n : RowNote). n.replaced.0) c.args.notes.now.items c.args.row.0 _
    ∙ sym (cond-false _ (replaced_of c.args.notes.now.items) (set (replaced_of c.args.notes.now.items) c.args.row.0 c.args.replaced.0) (grind arith))

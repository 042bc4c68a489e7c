-- For `without_note`: its goals.
use Rattle.std.proofs.Common.{◌≡◌, ◌<◌, ◌-◌, ◌∙◌, sym, ap, ℕ, List, length, map, take, option_copied, Some, Bor, arith}
use Rattle.std.proofs.lemmas.List.{length-map, take-map}
use Rattle.trace_reader.specs.Operations.{read_note}
use Rattle.trace_reader.proofs.Notes.{note_of-length, without_note-named}
use Rattle.trace_reader.proofs.operations.without_note.Goals as goal

pub slice_bounds-result-count : goal.slice_bounds-result-count
slice_bounds-result-count c =
    let named : read_note (map (λ word. word.now) c.args.words.now) ≡ Some c.in-Some.field-0.now = sym c.note_of.ensures ∙ ap option_copied c.in-Some.is in
    omega (
      arith,
      note_of-length (map (λ word. word.now) c.args.words.now) c.in-Some.field-0.now named,
      length-map c.args.words.now (λ (word : Bor (List ℕ)). word.now),
    )

pub returns-in-Some : goal.returns-in-Some
returns-in-Some c =
    let named : read_note (map (λ word. word.now) c.args.words.now) ≡ Some c.in-Some.field-0.now = sym c.note_of.ensures ∙ ap option_copied c.in-Some.is in
    sym (take-map (λ (word : Bor (List ℕ)). word.now) (length c.args.words.now - 1) c.args.words.now)
    ∙ ap (λ (n : ℕ). take (n - 1) (map (λ (word : Bor (List ℕ)). word.now) c.args.words.now))
    (sym (length-map c.args.words.now (λ (word : Bor (List ℕ)). word.now)))
    ∙ sym (without_note-named (map (λ word. word.now) c.args.words.now) c.in-Some.field-0.now named)

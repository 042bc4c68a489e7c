-- For `free_passed`: one row more, and at the end no row is left.
use Rattle.std.proofs.Common.{ℕ, ◌≡◌, ◌+◌, ◌∙◌, List, [], ◌∷◌, ◌++◌, length, refl, sym, ap, arith}
use Rattle.std.proofs.lemmas.List.{append_assoc, append-nil, length_push, length-append, length-map}
use Rattle.node_slots.specs.declared.left.Left.{Left}
use Rattle.node_slots.specs.Seats.{writer_state, free_of, retired_rows}
use Rattle.node_slots.specs.Kept.{firsts_of}
use Rattle.node_slots.proofs.Listing.{waiting_after, gone_few}
use Rattle.node_slots.proofs.seats.NodeWriter.free_passed.Goals as goal

pub overflow_cast-waiting : goal.overflow_cast-waiting
overflow_cast-waiting c =
    let writer = c.args.self.now in
    let all = gone_few writer.writer_state.table.size.rows writer.free.items writer.left.items (firsts_of writer.notes.items) (writer_state writer) writer.rows in
    omega (arith, all, c.len-waiting.ensures, writer.left.ok, writer.writer_state.table.sized.fits.few_rows)

pub loop-count-init : goal.loop-count-init
loop-count-init c = record {
  writer_state = refl;
  freed = ([], refl, sym (append-nil (free_of c.args.self.now)), refl);
}

pub loop-count-preserved : goal.loop-count-preserved
loop-count-preserved c =
    let before = c.loop-count.invariant.freed in
    let rows : List ℕ = before.0 in
    let one = c.free_first.ensures.freed c.if-not-free_first.false in
    record {
      writer_state = c.free_first.ensures.writer_state ∙ c.loop-count.invariant.writer_state;
      freed = (
        rows ++ one.0 ∷ [],
        omega (arith, length_push rows one.0, before.1),
        one.1 ∙ ap (λ (l : List ℕ). l ++ one.0 ∷ []) before.2 ∙ append_assoc (free_of c.args.self.now) rows (one.0 ∷ []),
        before.3 ∙ ap (λ (l : List ℕ). rows ++ l) one.2 ∙ sym (append_assoc rows (one.0 ∷ []) (retired_rows c.free_first.new.self)),
      );
    }

pub returns-then-not-free_first-clause-freed : goal.returns-then-not-free_first-clause-freed
returns-then-not-free_first-clause-freed c =
    let before = c.loop-count.invariant.freed in
    let same = c.free_first.ensures.rest c.if-not-free_first.true in
    (before.0, before.1, same.0 ∙ before.2, before.3 ∙ ap (λ (l : List ℕ). before.0 ++ l) (sym same.1))

pub returns-then-not-free_first-clause-rest : goal.returns-then-not-free_first-clause-rest
returns-then-not-free_first-clause-rest c = (c.free_first.ensures.rest c.if-not-free_first.true).2

pub returns-clause-freed : goal.returns-clause-freed
returns-clause-freed c =
    let before = c.loop-count.invariant.freed in
    (before.0, omega (arith, before.1, c.loop-count-test.false, c.loop-count.auto.count-end), before.2, before.3)

pub returns-clause-rest : goal.returns-clause-rest
returns-clause-rest c =
    let writer = c.loop-count.self in
    let before = c.loop-count.invariant.freed in
    let all : length (retired_rows c.args.self.now) ≡ length before.0 + length (retired_rows writer) = ap (λ (l : List ℕ). length l) before.3
    ∙ length-append before.0 (retired_rows writer) in
    let old = length-map c.args.self.now.left.items (λ (l : Left). l.row.0) in
    let now = length-map writer.left.items (λ (l : Left). l.row.0) in
    waiting_after writer.writer_state.table.size.rows c.args.passed writer.free.items writer.left.items (firsts_of writer.notes.items) (writer_state writer) writer.rows
    (λ some. absurd (omega (
      arith,
      some,
      all,
      old,
      now,
      before.1,
      c.loop-count-test.false,
      c.loop-count.auto.count-end,
      c.len-waiting.ensures,
      c.args.self.now.left.ok,
    )))

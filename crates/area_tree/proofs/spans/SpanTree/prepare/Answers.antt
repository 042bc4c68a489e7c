-- For `SpanTree::prepare`: the rows are there, and a tree is built.
use Rattle.std.proofs.Common.{◌≡◌, ◌<◌, ◌+◌, ◌*◌, ◌++◌, ◌∷◌, ◌∙◌, true, false, All, length, map, arith, sym, ap, subst}
use Rattle.area_tree.specs.declared.spans.SpanTree.TheInside.{Inside}
use Rattle.grace_core.specs.declared.clearing.Clearing.{Clearing}
use Rattle.node_slots.specs.declared.view.NodeView.{NodeView}
use Rattle.node_slots.specs.Seats.{node_sight, pins_of}
use Rattle.area_tree.specs.SpanTrees.{SpanView, enough}
use Rattle.area_tree.specs.SpanKept.{IsSpanTree}
use Rattle.area_tree.specs.Rows.{elapsed_of}
use Rattle.area_tree.proofs.Counts.{writers_low}
use Rattle.area_tree.proofs.SpanStoring.{stored_elapsed}
use Rattle.area_tree.proofs.Scanning.{pins_same}
use Rattle.area_tree.proofs.SpanFacts.{scanned_kept, scanned_elapsed, scanned_free}
use Rattle.area_tree.proofs.Preparing.{later_kept, first_kept}
use Rattle.area_tree.proofs.spans.SpanTree.prepare.Goals as goal
use Rattle.area_tree.proofs.spans.SpanTree.prepare.Goals.{then-self-eq0, else-self-eq0}

pub wait_for_rows-requires-clause-comes : goal.wait_for_rows-requires-clause-comes
wait_for_rows-requires-clause-comes g c =
    scanned_free c.self.inside c.self.invariant (ap (λ v. v.changed) c.self.view_is ∙ c.requires)

pub store-requires-clause-free : goal.store-requires-clause-free
store-requires-clause-free g c =
    let fields = c.self.inside in
    let kept = scanned_kept fields c.wait_for_rows.new.writer c.wait_for_rows.new.tally c.wait_for_rows.ensures.table c.wait_for_rows.ensures.scans c.self.invariant in
    let low = writers_low c.wait_for_rows.new.writer fields.tree fields.areas kept.tree kept.few_pairs kept.few_areas in
    omega (arith, low, c.wait_for_rows.ensures.free)

pub invariant_of-self : goal.invariant_of-self
invariant_of-self g c =
    let fields : Inside = record c.self.inside { writer = c.wait_for_rows.new.writer; tally = c.wait_for_rows.new.tally } in
    let kept : IsSpanTree fields =
    scanned_kept c.self.inside fields.writer fields.tally c.wait_for_rows.ensures.table c.wait_for_rows.ensures.scans c.self.invariant in
    let still : fields.changed ≡ false = ap (λ v. v.changed) c.self.view_is ∙ c.requires in
    let free = c.wait_for_rows.ensures.free in
    elim c.if-self-eq0.branch [
      | then-self-eq0 w ↦
          let told = w.store.ensures in
          let some = kept.some_pages in
          subst (λ (f : Inside). IsSpanTree (record f { roomy = true })) (sym w.self-inside-is)
          (first_kept fields w.store.new.writer w.store.new.tree 0 fields.tree.limit.0 kept w.if-self-eq0.true still free told.table told.same
          (told.built some) told.limit (told.pairs some))
      | else-self-eq0 w ↦
          subst (λ (f : Inside). IsSpanTree (record f { roomy = true })) (sym w.self-inside-is) (later_kept fields kept w.if-self-eq0.false free)
    ]

pub returns-clause-elapsed : goal.returns-clause-elapsed
returns-clause-elapsed g c =
    let more = scanned_elapsed c.self.inside.writer c.wait_for_rows.new.writer c.wait_for_rows.ensures.scans in
    let was = ap (λ v. v.elapsed) c.self.view_is in
    elim c.if-self-eq0.branch [
      | then-self-eq0 w ↦
          let same = stored_elapsed c.wait_for_rows.new.writer w.store.new.writer w.store.ensures.same in
          omega (arith, more, was, same, ap (λ (f : Inside). elapsed_of f.writer) w.self-inside-is)
      | else-self-eq0 w ↦ omega (arith, more, was, ap (λ (f : Inside). elapsed_of f.writer) w.self-inside-is)
    ]

pub returns-clause-scans : goal.returns-clause-scans
returns-clause-scans g c =
    let tries = c.wait_for_rows.ensures.tries in
    let was = ap (λ (v : SpanView). v.scans) c.self.view_is in
    let pins = ap (λ (v : SpanView). (length tries.0 + 1) * length v.pins) c.self.view_is in
    let areas = ap (λ (v : SpanView). v.areas) c.self.view_is in
    let noted = tries.1 ∙ ap (λ (v : SpanView). v.found ++ v.free ∷ tries.0) c.self.view_is in
    let few = subst (λ n. All (λ free. free < enough n) tries.0) areas tries.2 in (
      tries.0,
      elim c.if-self-eq0.branch [
        | then-self-eq0 w ↦
            let looks = ap (λ (v : NodeView). v.scans) w.store.ensures.same.seen in
            record {
              found = ap (λ (f : Inside). f.tally) w.self-inside-is ∙ noted;
              few = few;
              looks = omega (arith, tries.3, was, pins, looks, ap (λ (f : Inside). (node_sight f.writer).scans) w.self-inside-is);
            }
        | else-self-eq0 w ↦ record {
          found = ap (λ (f : Inside). f.tally) w.self-inside-is ∙ noted;
          few = few;
          looks = omega (arith, tries.3, was, pins, ap (λ (f : Inside). (node_sight f.writer).scans) w.self-inside-is);
        }
      ],
    )

pub returns-clause-once : goal.returns-clause-once
returns-clause-once g c = λ enough.
    let free = ap (λ (v : SpanView). v.free) c.self.view_is in
    let areas = ap (λ (v : SpanView). v.areas) c.self.view_is in
    let once = c.wait_for_rows.ensures.once (omega (arith, enough, free, areas)) in
    let was = ap (λ (v : SpanView). v.scans) c.self.view_is in
    let pins = ap (λ (v : SpanView). length v.pins) c.self.view_is in
    elim c.if-self-eq0.branch [
      | then-self-eq0 w ↦
          let looks = ap (λ (v : NodeView). v.scans) w.store.ensures.same.seen in
          omega (arith, once, was, pins, looks, ap (λ (f : Inside). (node_sight f.writer).scans) w.self-inside-is)
      | else-self-eq0 w ↦ omega (arith, once, was, pins, ap (λ (f : Inside). (node_sight f.writer).scans) w.self-inside-is)
    ]

pub returns-clause-readers : goal.returns-clause-readers
returns-clause-readers g c =
    let was = ap (λ (v : SpanView). length v.pins) c.self.view_is in
    let same = pins_same c.self.inside.writer c.wait_for_rows.new.writer c.wait_for_rows.ensures.scans in
    elim c.if-self-eq0.branch [
      | then-self-eq0 w ↦
          let looks = ap (λ (v : NodeView). length (map (λ (found : Clearing). found.pin) v.known.writer_state.clearings)) w.store.ensures.same.seen in
          omega (arith, was, same, looks, ap (λ (f : Inside). length (pins_of f.writer)) w.self-inside-is)
      | else-self-eq0 w ↦ omega (arith, was, same, ap (λ (f : Inside). length (pins_of f.writer)) w.self-inside-is)
    ]

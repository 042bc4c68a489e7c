-- The proof of `AnsweredLines::next`: the next place of the item's caller is that of the line that it answers.
use Rattle.std.proofs.Common.{arith, refl, sym}
use Rattle.std.proofs.lemmas.Option.{get_or_from_slice_get, slice_get_within}
use Rattle.output.proofs.Answering.{answered_next, found_next}
use Rattle.output.proofs.answered.AnsweredLines.next.Goals as goal

pub index-requires : goal.index-requires
index-requires c = omega (arith, c.args.self.now.places.ok.0, (found_next c.args.self.now c.args.item.now c.requires).caller)

pub index-requires-2 : goal.index-requires-2
index-requires-2 c = omega (arith, c.args.self.now.answered.ok.0, (found_next c.args.self.now c.args.item.now c.requires).counted)

pub index-place-requires : goal.index-place-requires
index-place-requires c = omega (
  arith,
  c.index.result.now.ok.0,
  (found_next c.args.self.now c.args.item.now c.requires).within c.index.result.now c.index-2.result.now c.index.ensures c.index-2.ensures,
)

pub index_mut-requires : goal.index_mut-requires
index_mut-requires c = omega (arith, c.args.self.now.answered.ok.0, (found_next c.args.self.now c.args.item.now c.requires).counted)

pub overflow_add-index_mut : goal.overflow_add-index_mut
overflow_add-index_mut c = omega (
  arith,
  c.index.result.now.small,
  c.index.result.now.ok.0,
  (found_next c.args.self.now c.args.item.now c.requires).within c.index.result.now c.index_mut.result.now c.index.ensures
      c.index_mut.ensures.value,
)

pub bounds-lines-place : goal.bounds-lines-place
bounds-lines-place c = slice_get_within c.args.self.now.lines.now c.index-place.result.now c.requires.3
    ((found_next c.args.self.now c.args.item.now c.requires).place c.index.result.now c.index-2.result.now c.index-place.result.now c.index.ensures
    c.index-2.ensures c.index-place.ensures)

pub returns : goal.returns
returns c = answered_next c.args.self.now _ c.args.item.now c.requires _ c.index_mut.result.now
    (sym (get_or_from_slice_get c.args.self.now.lines.now c.index-place.result.now c.requires.3 _
    ((found_next c.args.self.now c.args.item.now c.requires).place c.index.result.now c.index-2.result.now c.index-place.result.now c.index.ensures
    c.index-2.ensures c.index-place.ensures))) c.index_mut.ensures.value refl refl refl

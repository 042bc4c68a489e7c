-- For `insert_news` of changing.rt: its goals.
use Rattle.std.proofs.Common.{◌≡◌, ◌≤◌, ◌<◌, ◌+◌, ℕ, [], ◌∷◌, List, length, drop, get_or, sym, ap, ◌∙◌, arith, length-append}
use Rattle.mm_types.specs.declared.area.Record.{Record}
use Rattle.split_merge.specs.declared.plan.Change.{Change}
use Rattle.split_merge.specs.Plans.{news_of, with_all}
use Rattle.split_merge.proofs.Counting.{length-with_all}
use Rattle.split_merge.proofs.Editing.{news_from}
use Rattle.split_merge.proofs.Going.{with_all-append}
use Rattle.plain_space.proofs.changing.insert_news.Goals as goal

-- with the areas of one change more, the list with what the later ones bring is the same
come_in : (changes : List Change) (place : ℕ) (d : Change) (areas after whole : List Record) → place < length changes
    → after ≡ with_all (news_of (get_or changes place d ∷ [])) areas → with_all (news_of (drop place changes)) areas ≡ whole
    → with_all (news_of (drop (place + 1) changes)) after ≡ whole
come_in changes place d areas after whole within is before =
    let later = news_of (drop (place + 1) changes) in
    ap (with_all later) is
    ∙ sym (with_all-append (news_of (get_or changes place d ∷ [])) later areas)
    ∙ ap (λ news. with_all news areas) (sym (news_from changes place d within))
    ∙ before

still_few : (changes : List Change) (place : ℕ) (d : Change) (areas after : List Record) (room : ℕ) → place < length changes
    → after ≡ with_all (news_of (get_or changes place d ∷ [])) areas → length areas + length (news_of (drop place changes)) ≤ room
    → length after + length (news_of (drop (place + 1) changes)) ≤ room
still_few changes place d areas after room within is few = omega (
  arith,
  ap length is,
  length-with_all (news_of (get_or changes place d ∷ [])) areas,
  ap length (news_from changes place d within),
  length-append (news_of (get_or changes place d ∷ [])) (news_of (drop (place + 1) changes)),
  few,
)

pub loop-change-preserved : goal.loop-change-preserved
loop-change-preserved c =
    let few = still_few c.args.changes.now c.loop-change.change-index _ _ _ _ c.loop-change-test.true c.insert_new.ensures.areas c.loop-change.invariant.few in
    record {
      sane = c.insert_new.ensures.stays.sane;
      rise = c.insert_new.ensures.rise;
      few = omega (arith, few, c.insert_new.ensures.stays.room);
      room = c.insert_new.ensures.stays.room ∙ c.loop-change.invariant.room;
      coming = come_in c.args.changes.now c.loop-change.change-index _ _ _ _ c.loop-change-test.true c.insert_new.ensures.areas c.loop-change.invariant.coming;
    }

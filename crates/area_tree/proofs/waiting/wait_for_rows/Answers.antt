-- For `wait_for_rows`: a scan after others, of which each found too few.
use Rattle.std.proofs.Common.{ℕ, ◌≡◌, ◌<◌, ◌+◌, ◌*◌, ◌++◌, ◌∷◌, [], ◌∙◌, List, length, length-append, append_assoc, refl, ap, sym, arith}
use Rattle.std.proofs.lemmas.List.Elements.{All-nil, All-cons, All-append}
use Rattle.node_slots.specs.Seats.{node_sight, free_of, pins_of}
use Rattle.area_tree.proofs.Scanning.{scans_none, scans_more, pins_same, tries_more}
use Rattle.area_tree.proofs.waiting.wait_for_rows.Goals as goal

-- one note more, after those that stood
one_noted : (tally later before : List ℕ) (first free more : ℕ) (tries : List ℕ) → later ≡ tally ++ free ∷ [] → tally ++ free ∷ [] ≡ before ++ first ∷ tries
    → later ++ more ∷ [] ≡ before ++ first ∷ (tries ++ more ∷ [])
one_noted tally later before first free more tries noted so_far = ap (λ (l : List ℕ). l ++ more ∷ []) (noted ∙ so_far) ∙ append_assoc before (first ∷ tries) (more ∷ [])

pub loop-init : goal.loop-init
loop-init g c = record {
  table = c.requires.table;
  scans = scans_none c.args.writer.now;
  tries = ([], refl, All-nil (λ free. free < c.args.rows), omega arith);
  more = omega arith;
  first = λ _. omega arith;
}

pub try_for_rows-requires-clause-comes : goal.try_for_rows-requires-clause-comes
try_for_rows-requires-clause-comes g c = λ later scans none. c.requires.comes later (scans_more _ _ _ c.loop.invariant.scans scans) none

pub loop-preserved : goal.loop-preserved
loop-preserved g c =
    let so_far = c.loop.invariant in
    let tried = c.try_for_rows.ensures in
    let few = tried.few c.if-try_for_rows.false in
    record {
      table = tried.table;
      scans = scans_more c.args.writer.now c.loop.writer c.try_for_rows.new.writer so_far.scans tried.scans;
      tries = (
        so_far.tries.0 ++ length (free_of c.try_for_rows.new.writer) ∷ [],
        one_noted c.loop.tally c.try_for_rows.new.tally c.args.tally.now (length (free_of c.args.writer.now)) (length (free_of c.loop.writer))
            (length (free_of c.try_for_rows.new.writer)) so_far.tries.0 tried.noted so_far.tries.1,
        All-append (λ free. free < c.args.rows) so_far.tries.0 (length (free_of c.try_for_rows.new.writer) ∷ []) so_far.tries.2
            (All-cons (λ free. free < c.args.rows) (length (free_of c.try_for_rows.new.writer)) [] few (All-nil (λ free. free < c.args.rows))),
        tries_more c.args.writer.now c.loop.writer c.try_for_rows.new.writer (length so_far.tries.0) so_far.scans tried.scanned so_far.tries.3
            ∙ ap (λ n. (node_sight c.args.writer.now).scans + n * length (pins_of c.args.writer.now)) (sym (length-append so_far.tries.0 (length (free_of c.try_for_rows.new.writer) ∷ []))),
      );
      more = omega (arith, so_far.more, tried.more);
      first = λ enough. absurd (omega (arith, enough, few, so_far.more, tried.more));
    }

pub returns-then-try_for_rows-clause-scans : goal.returns-then-try_for_rows-clause-scans
returns-then-try_for_rows-clause-scans g c = scans_more _ _ _ c.loop.invariant.scans c.try_for_rows.ensures.scans

pub returns-then-try_for_rows-clause-tries : goal.returns-then-try_for_rows-clause-tries
returns-then-try_for_rows-clause-tries g c =
    let so_far = c.loop.invariant in (
      so_far.tries.0,
      c.try_for_rows.ensures.noted ∙ so_far.tries.1,
      so_far.tries.2,
      tries_more c.args.writer.now c.loop.writer c.try_for_rows.new.writer (length so_far.tries.0) so_far.scans c.try_for_rows.ensures.scanned so_far.tries.3,
    )

pub returns-then-try_for_rows-clause-once : goal.returns-then-try_for_rows-clause-once
returns-then-try_for_rows-clause-once g c = λ enough.
    let same = pins_same c.args.writer.now c.loop.writer c.loop.invariant.scans in
    omega (arith, c.loop.invariant.first enough, c.try_for_rows.ensures.scanned, same)

-- For `wait_for_slots`: what has elapsed is freed once more, by one round of scans more.
use Rattle.std.proofs.Common.{◌<◌, ◌∙◌, [], refl, length, sym, ap, arith, length-append, append-nil}
use Rattle.std.proofs.lemmas.Bool.Decides.{nat_tests}
use Rattle.std.proofs.lemmas.List.{length-map}
use Rattle.std.proofs.lemmas.List.Elements.{All-nil}
use Rattle.area_slots.specs.declared.leaving.Leaving.{Leaving}
use Rattle.area_slots.specs.Slots.{SlotSet, gone_by, slots_left}
use Rattle.area_tree.specs.AreaTrees.{AreaTreeView}
use Rattle.mm_state.proofs.Hanging.{freed_freed, seen_freed}
use Rattle.mm_state.proofs.Readying.{can_free}
use Rattle.mm_state.proofs.Scanning.{scanned_more, round_more}
use Rattle.mm_state.proofs.spans.wait_for_slots.Goals as goal

pub returns-then-count_free-wanted-clause-scans : goal.returns-then-count_free-wanted-clause-scans
returns-then-count_free-wanted-clause-scans g c = ([], sym (append-nil c.args.areas.now.tree.found), All-nil (λ free. free < c.args.wanted), omega arith)

pub returns-then-count_free-wanted-clause-slots : goal.returns-then-count_free-wanted-clause-slots
returns-then-count_free-wanted-clause-slots g c = seen_freed c.args.slots.now c.free_elapsed.new.slots c.args.areas.now.tree.elapsed c.free_elapsed.ensures

pub loop-init : goal.loop-init
loop-init g c =
    let freed = seen_freed c.args.slots.now c.free_elapsed.new.slots c.args.areas.now.tree.elapsed c.free_elapsed.ensures in
    let test = c.if-count_free-wanted.false in
    let few : c.count_free.result < c.args.wanted = grind (arith, nat_tests, test) in
    let gone = gone_by c.args.areas.now.tree.elapsed c.args.slots.now.left in
    record {
      can = can_free c.args.areas.now c.args.areas.now c.args.slots.now c.free_elapsed.new.slots c.args.areas.now.tree.elapsed c.args.wanted c.requires refl freed;
      areas = refl;
      elapsed = omega arith;
      slots = freed;
      few = omega (arith, few, c.count_free.ensures);
      short = omega (
        arith,
        few,
        c.count_free.ensures,
        ap (λ (s : SlotSet). length s.free) c.free_elapsed.ensures,
        length-append c.args.slots.now.free (slots_left gone),
        length-map gone (λ (l : Leaving). l.slot),
      );
      rounds = ([], sym (append-nil c.args.areas.now.tree.found), All-nil (λ free. free < c.args.wanted), omega arith);
      readers = refl;
    }

pub loop-preserved : goal.loop-preserved
loop-preserved g c =
    let tried = c.scan_for.ensures in
    let was = c.loop.invariant in
    record {
      can = can_free c.loop.areas c.scan_for.new.areas c.loop.slots c.scan_for.new.slots c.scan_for.new.areas.tree.elapsed c.args.wanted was.can
          (ap (λ (t : AreaTreeView). t.tree.number) tried.areas) tried.slots;
      areas = scanned_more c.args.areas.now c.loop.areas c.scan_for.new.areas was.areas tried.areas;
      elapsed = omega (arith, was.elapsed, tried.elapsed);
      slots = freed_freed c.args.slots.now c.loop.slots c.scan_for.new.slots c.loop.areas.tree.elapsed c.scan_for.new.areas.tree.elapsed
          was.slots tried.slots tried.elapsed;
      few = tried.few c.if-scan_for.false;
      short = was.short;
      rounds = round_more c.args.areas.now c.loop.areas c.scan_for.new.areas c.args.wanted (length c.loop.slots.free) was.rounds.0 was.rounds.1 was.rounds.2 was.rounds.3
          was.few tried.found tried.scans was.readers;
      readers = tried.readers ∙ was.readers;
    }

pub returns-then-scan_for-clause-slots : goal.returns-then-scan_for-clause-slots
returns-then-scan_for-clause-slots g c =
    freed_freed c.args.slots.now c.loop.slots c.scan_for.new.slots c.loop.areas.tree.elapsed c.scan_for.new.areas.tree.elapsed
    c.loop.invariant.slots c.scan_for.ensures.slots c.scan_for.ensures.elapsed

pub returns-then-scan_for-clause-scans : goal.returns-then-scan_for-clause-scans
returns-then-scan_for-clause-scans g c =
    let tried = c.scan_for.ensures in
    let was = c.loop.invariant in
    round_more c.args.areas.now c.loop.areas c.scan_for.new.areas c.args.wanted (length c.loop.slots.free) was.rounds.0 was.rounds.1 was.rounds.2 was.rounds.3
    was.few tried.found tried.scans was.readers

pub returns-then-scan_for-clause-still : goal.returns-then-scan_for-clause-still
returns-then-scan_for-clause-still g c = λ enough. let short = c.loop.invariant.short in absurd (omega (arith, enough, short))

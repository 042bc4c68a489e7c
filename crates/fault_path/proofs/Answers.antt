-- For `fault_fast`: an answer from the area that is locked.
use Rattle.std.proofs.Common.{ℕ, ◌≡◌, ◌∙◌, List, length, Contains, sym, ap, subst}
use Rattle.mm_types.specs.declared.area.Access.{Access}
use Rattle.mm_types.specs.declared.area.Record.{Record}
use Rattle.mm_types.specs.declared.area.Verdict.{Verdict}
use Rattle.mm_types.specs.declared.files.FileRow.{FileRow}
use Rattle.area_list.specs.Areas.{IsSound}
use Rattle.area_rules.specs.Verdicts.{area_verdict}
use Rattle.lock_core.specs.Facts.{list_after}
use Rattle.vma_lock.specs.declared.view.View.{View}
use Rattle.vma_lock.specs.Seats.{lock_view}
use Rattle.vma_lock.specs.Views.{sub_at}
use Rattle.node_slots.specs.declared.view.NodeView.{NodeView}
use Rattle.fault_path.specs.Passes.{PassView, pass_config, seen_by, walker}
use Rattle.fault_path.specs.Faults.{IsFound, IsAnswer}
use Rattle.fault_path.specs.Locking.{GoesOn, IsLocked}
use Rattle.fault_path.proofs.Members.{member_still, member_verdict, verdict_mapped, verdict_serves}

-- the slot was given back
pub sub_goes : (old held new : View) → GoesOn old held → new ≡ sub_at held → GoesOn old new
sub_goes old held new on sub = subst (λ (v : View). GoesOn old v) (sym sub) (record {
  caller = on.caller;
  config = on.config;
  turn = on.turn;
  legal = on.legal;
  later = on.later;
  own = on.own;
})

-- what was found there was found in the call
pub sub_found : (page : ℕ) (area : Record) (old held new : View) (walked : NodeView) → IsFound page area old held walked → new ≡ sub_at held
    → IsFound page area old new walked
sub_found page area old held new walked found sub = subst (λ (v : View). IsFound page area old v walked) (sym sub) (record {
  slot = found.slot;
  row = found.row;
  paired = found.paired;
  reads = record {
    lock_seq = found.reads.lock_seq;
    seq = found.reads.seq;
    tries = record {
      added = found.reads.tries.added;
      first = found.reads.tries.first;
      adds = found.reads.tries.adds;
      looks = found.reads.tries.looks;
      fields = found.reads.tries.fields;
    };
    apart = found.reads.apart;
    words = found.reads.words;
  };
  holds = found.holds;
})

-- the verdict of the area that was locked is that over the list
pub answered : (page : ℕ) (access : Access) (answer : Verdict) (version : ℕ) (area : Record) (files : List FileRow) (old new : PassView) (held : View)
    → IsLocked area held → IsFound page area (lock_view old.reader) held (walker new) → lock_view new.reader ≡ sub_at held
    → answer ≡ area_verdict files page access area → files ≡ (pass_config new).files → version ≡ length (seen_by new)
    → IsAnswer page access answer version old new
answered page access answer version area files old new held locked found sub gives files_are version_is =
    let gives' : answer ≡ area_verdict (pass_config new).files page access area = gives ∙ ap (λ fs. area_verdict fs page access area) files_are in
    record {
      area = area;
      found = sub_found page area (lock_view old.reader) held (lock_view new.reader) (walker new) found sub;
      gives = gives';
      version_is = version_is;
      right = gives' ∙ member_verdict (pass_config new) (list_after (pass_config new) (seen_by new)) area page access
          (subst (λ (v : View). IsSound v.config (list_after v.config v.seen)) (sym sub) locked.sound)
          (subst (λ (v : View). Contains (list_after v.config v.seen) area) (sym sub) locked.member)
          found.holds.has;
      still = member_still (pass_config new) (list_after (pass_config new) (seen_by new)) area page access
          (subst (λ (v : View). IsSound v.config (list_after v.config v.seen)) (sym sub) locked.sound)
          (subst (λ (v : View). Contains (list_after v.config v.seen) area) (sym sub) locked.member)
          found.holds.has;
      mapped = λ is. verdict_mapped (pass_config new).files page access area (sym gives' ∙ is);
      serves = λ other index is. verdict_serves (pass_config new).files page access area other index (sym gives' ∙ is);
    }

-- For `Pass::note`, `passes_of`, `fault_fast` and `Held::unlock`: fresh passes, one with one read more, and one whose seats went on.
use Rattle.std.proofs.Common.{ℕ, ◌≡◌, ◌≤◌, ◌+◌, List, [], ◌∷◌, ◌++◌, length, take, get_or, All, Some, refl, sym, ap, subst, arith, ◌∙◌}
use Rattle.std.specs.Prelude.{AllPairs, nat_lt}
use Rattle.std.proofs.lemmas.Bool.{cond_both}
use Rattle.std.proofs.lemmas.List.{length-append, length-take, take-take}
use Rattle.std.proofs.lemmas.List.Elements.{All-push, All-weaker}
use Rattle.std.proofs.lemmas.List.Quantifiers.{all_pairs_push}
use Rattle.mm_types.specs.declared.call.Entry.{Entry}
use Rattle.mm_types.specs.declared.call.Seen.{Seen}
use Rattle.mm_types.specs.declared.config.Config.{Config}
use Rattle.area_rules.specs.Journals.{calls_by, version_of, IsReadAfter, IsReadRight}
use Rattle.lock_core.specs.declared.stage.Stage.TheVariants.{Out}
use Rattle.lock_core.specs.Core.{StartsWith}
use Rattle.vma_lock.specs.declared.seats.ReaderSeat.{ReaderSeat}
use Rattle.vma_lock.specs.Seats.{lock_view, stage}
use Rattle.vma_lock.specs.declared.view.View.{View}
use Rattle.vma_lock.specs.Views.{lock_joined_at, new_lock_reader, opened_lock_view}
use Rattle.area_rules.specs.Steps.{IsLegalJournal}
use Rattle.node_slots.specs.declared.seats.NodeSeat.{NodeSeat}
use Rattle.node_slots.specs.declared.view.Size.{Size}
use Rattle.node_slots.specs.Views.{reader_view}
use Rattle.node_slots.specs.Seats as node_seats
use Rattle.fault_path.specs.Passes.{PassView, ViewedTable, SitsAtTables, KeepsPass, IsPass, IsTablePass, IsFreshPass, caller, pass_config, seen_by, made_by, looks_of, walks_of, node_size}
use Rattle.fault_path.specs.Locking.{GoesOn}

-- a pass after a read, for which an operation was taken
pub noted : (pass : PassView) (reserved : ℕ) (read : Seen) → IsPass pass reserved
    → length (made_by pass) + length pass.log + pass.left + 1 ≤ pass.operations
    → IsReadRight (pass_config pass) (seen_by pass) read → All (λ earlier. version_of earlier ≤ version_of read) pass.log
    → IsPass (record { reader = pass.reader; nodes = pass.nodes; log = pass.log ++ read ∷ []; left = pass.left; operations = pass.operations; takes = pass.takes }) reserved
noted pass reserved read kept room right rises = record {
  keeps = record {
    legal = kept.keeps.legal;
    turn = kept.keeps.turn;
    closed = kept.keeps.closed;
    right = All-push (IsReadRight (pass_config pass) (seen_by pass)) pass.log read kept.keeps.right right;
    rises = all_pairs_push (λ earlier later. version_of earlier ≤ version_of later) pass.log read kept.keeps.rises rises;
    few = let more = length-append pass.log (read ∷ []) in omega (arith, room, more);
    room = kept.keeps.room;
  };
  free = kept.free;
}

-- a pass that new seats begin
pub fresh_pass : (viewed : ViewedTable) (most : List ℕ) (place count : ℕ) (seat : ReaderSeat) (walker : NodeSeat) (pass : PassView)
    → pass ≡ record { reader = seat; nodes = walker; log = []; left = count; operations = count; takes = 0 }
    → seat.seat.table_id ≡ viewed.table → lock_view seat ≡ new_lock_reader (opened_lock_view viewed.config place)
    → walker.seat.table_id ≡ viewed.nodes → node_seats.node_view walker ≡ reader_view (node_size viewed.config viewed.callers) place
    → count ≡ get_or most place 0
    → (IsTablePass viewed most pass × (caller pass ≡ place)) × IsFreshPass pass
fresh_pass viewed most place count seat walker pass is table view_is walked_is walks_is count_is = subst
    (λ (p : PassView). (IsTablePass viewed most p × (caller p ≡ place)) × IsFreshPass p) (sym is) (
      (
        record {
          sits = record {
            table = table;
            nodes = walked_is;
            size = ap (λ v. v.size) walks_is;
            config_is = ap (λ v. v.config) view_is;
          };
          operations = count_is ∙ ap (λ at. get_or most at 0) (sym (ap (λ v. v.caller) view_is));
        },
        ap (λ v. v.caller) view_is,
      ),
      record { seen = ap (λ v. v.seen) view_is; log = refl; left = refl },
    )

-- it never looked, nor walked
pub unused_pass : (settings : Config) (size : Size) (place number count : ℕ) (seat : ReaderSeat) (walker : NodeSeat) (pass : PassView)
    → pass ≡ record { reader = seat; nodes = walker; log = []; left = count; operations = count; takes = 0 }
    → lock_view seat ≡ new_lock_reader (opened_lock_view settings place) → node_seats.node_view walker ≡ reader_view size number → (looks_of pass ≡ 0) × (walks_of pass ≡ 0)
unused_pass settings size place number count seat walker pass is view_is walks_is = (
  ap (λ (p : PassView). looks_of p) is ∙ ap (λ v. v.trace.looks) view_is,
  ap (λ (p : PassView). walks_of p) is ∙ ap (λ v. v.walks) walks_is,
)

-- a read that is right in a journal is right in one that begins with it
right_later : (settings : Config) (new old : List Entry) (read : Seen) → StartsWith new old → IsReadRight settings old read → IsReadRight settings new read
right_later settings new old read later right =
    let within = right.within in
    let longer : length old ≤ length new =
    let cut = ap (λ (l : List Entry). length l) later in
    let most = length-take (length old) new in
    omega (arith, cut, most) in
    let same : take (version_of read) new ≡ take (version_of read) old =
    sym (take-take (version_of read) (length old) new within) ∙ ap (take (version_of read)) later in
    record {
      right = subst (λ (j : List Entry). IsReadAfter settings j read) (sym same) right.right;
      within = omega (arith, within, longer);
    }

-- what is kept of a pass whose seats went on
pub keeps_on : (old new : PassView) (reserved : ℕ) → KeepsPass old reserved → GoesOn (lock_view old.reader) (lock_view new.reader)
    → node_seats.IsClosed new.nodes → new.log ≡ old.log → new.left ≡ old.left → new.operations ≡ old.operations → KeepsPass new reserved
keeps_on old new reserved kept on closed log left operations =
    let own : made_by new ≡ made_by old =
    ap (λ c. calls_by c (seen_by new)) on.caller ∙ on.own (caller old) kept.turn in
    record {
      legal = on.legal kept.legal;
      turn = on.turn ∙ kept.turn ∙ ap Some (sym on.caller);
      closed = closed;
      right = subst (All (IsReadRight (pass_config new) (seen_by new))) (sym log)
          (subst (λ (s : Config). All (IsReadRight s (seen_by new)) old.log) (sym on.config)
          (All-weaker (IsReadRight (pass_config old) (seen_by old)) (IsReadRight (pass_config old) (seen_by new))
          (λ read. right_later (pass_config old) (seen_by new) (seen_by old) read on.later) old.log kept.right));
      rises = subst (AllPairs (λ earlier later. version_of earlier ≤ version_of later)) (sym log) kept.rises;
      few =
          let made = ap (λ (l : List Entry). length l) own in
          let reads = ap (λ (l : List Seen). length l) log in
          let some = kept.few in
          omega (arith, made, reads, some, left, operations);
      room = let some = kept.room in omega (arith, some, operations);
    }

-- a pass whose seats went on, and came to hold nothing again
pub gone_on : (old new : PassView) (reserved : ℕ) → IsPass old reserved → GoesOn (lock_view old.reader) (lock_view new.reader) → stage new.reader ≡ Out
    → node_seats.IsClosed new.nodes → new.log ≡ old.log → new.left ≡ old.left → new.operations ≡ old.operations → IsPass new reserved
gone_on old new reserved kept on free closed log left operations =
    record { keeps = keeps_on old new reserved kept.keeps on closed log left operations; free = free }

-- where a pass sits, by equal things
pub sits_in : (viewed shown : ViewedTable) (pass given : PassView) → shown ≡ viewed → given ≡ pass → SitsAtTables viewed pass → SitsAtTables shown given
sits_in viewed shown pass given shown_is given_is sits =
    subst (λ (v : ViewedTable). SitsAtTables v given) (sym shown_is) (subst (λ (p : PassView). SitsAtTables viewed p) (sym given_is) sits)

-- a reader into which another was joined, which had seen a legal journal too
pub joined_goes : (old other new : View) → new ≡ lock_joined_at old other → StartsWith new.seen old.seen
    → ((caller : ℕ) → old.turn ≡ Some caller → calls_by caller new.seen ≡ calls_by caller old.seen) → IsLegalJournal old.config other.seen
    → GoesOn old new
joined_goes old other new joined later own legal = record {
  caller = ap (λ (v : View). v.caller) joined;
  config = ap (λ (v : View). v.config) joined;
  turn = ap (λ (v : View). v.turn) joined;
  legal = λ first. subst (λ (v : View). IsLegalJournal v.config v.seen) (sym joined)
      (cond_both (nat_lt (length old.seen) (length other.seen)) other.seen old.seen (IsLegalJournal old.config) (λ less. legal) (λ more. first));
  later = later;
  own = own;
}

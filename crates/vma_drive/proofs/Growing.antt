-- What a pass did more, item by item: each item is of a version at which all was seen that the pass had seen before.
use Rattle.std.proofs.Common.{ℕ, ◌≡◌, ◌+◌, ◌≤◌, ◌∙◌, refl, sym, ap, subst, cond, Bool, true, false, nat_eq, List, [], ◌∷◌, ◌++◌, append_assoc, length, length-append, drop, All, arith, inl, inr}
use Rattle.std.proofs.lemmas.Bool.{eq-eqb}
use Rattle.std.proofs.lemmas.List.{append-nil, length-take}
use Rattle.std.proofs.lemmas.List.Elements.{All-nil, All-cons, All-append, All-weaker, All-map, All-filter}
use Rattle.mm_types.specs.declared.area.Access.{Access}
use Rattle.mm_types.specs.declared.area.Page.{Page}
use Rattle.mm_types.specs.declared.call.Call.{Call}
use Rattle.mm_types.specs.declared.call.Call.TheVariants.{Mmap, Munmap, Mprotect, Mremap, Touch, Brk, Mseal}
use Rattle.mm_types.specs.declared.call.Entry.{Entry}
use Rattle.mm_types.specs.declared.call.Reply.{Reply}
use Rattle.mm_types.specs.declared.call.Reply.TheVariants.{Grown}
use Rattle.mm_types.specs.declared.call.Seen.{Seen}
use Rattle.mm_types.specs.declared.call.Seen.TheVariants as reads
use Rattle.mm_types.specs.declared.config.Config.{Config}
use Rattle.trace_reader.specs.declared.trace.Op.{Op}
use Rattle.trace_reader.specs.declared.trace.Op.TheVariants as ops
use Rattle.area_rules.specs.Journals.{calls_by, version_of, IsReadRight}
use Rattle.history.specs.declared.items.Item.{Item}
use Rattle.history.specs.Histories.{items_of, is_call, op_asked, read_as, asks_for, AsksItself}
use Rattle.history.specs.Runs.{entry_items, log_items, read_item, content_of, own_of, HasGrown}
use Rattle.history.proofs.Gathers.{all_gather}
use Rattle.history.proofs.Steps.{entry_item, own_call, own_read, own_same, read_is_no_call, entries_stand, Stands}
use Rattle.fault_path.specs.Passes.{PassView, caller, seen_by, made_by, IsLater}
use Rattle.mm_space.specs.declared.space.Faulted.{Faulted}
use Rattle.mm_space.specs.Spaces.{Calls, Reads, IsFaultDone, entry_by}
use Rattle.vma_drive.specs.Hearing.{own_by, IsLate, Grew, HaveGrown, DoesItem}
use Rattle.vma_drive.proofs.Operations.{split, nothing, calls_append}

late_call : (seen : ℕ) (item : Item) → is_call item.content ≡ true → seen + 1 ≤ item.version → IsLate seen item
late_call seen item call late = subst (λ (t : Bool). seen + cond t 1 0 ≤ item.version) (sym call) late

late_read : (seen : ℕ) (item : Item) → is_call item.content ≡ false → seen ≤ item.version → IsLate seen item
late_read seen item read late = subst (λ (t : Bool). seen + cond t 1 0 ≤ item.version) (sym read) (omega (arith, late))

calls_own : (c : ℕ) (e : Entry) → e.caller ≡ c → length (calls_by c (e ∷ [])) ≡ 1
calls_own c e own = (ap (λ (t : Bool). length (cond t (e ∷ []) [])) (eq-eqb e.caller c own))

-- what asks for itself is no touch
own_grown : (by : ℕ) (call : Call) (reply : Reply) → AsksItself (ops.Call call)
    → HasGrown (record { caller = by; call = call; reply = reply })
unfolding asks_for
own_grown by (Mmap args) reply asks = tt
own_grown by (Munmap addr len) reply asks = tt
own_grown by (Mprotect addr len prot) reply asks = tt
own_grown by (Mremap old old_len new_len flags new) reply asks = tt
own_grown by (Touch page access) reply asks = absurd (cc)
own_grown by (Brk addr) reply asks = tt
own_grown by (Mseal addr len flags) reply asks = tt

-- a touch is asked for by a fault
touch_asked : (page : Page) (access : Access) → asks_for (Touch page access) ≡ ops.Fault page access
unfolding asks_for
touch_asked page access = refl

module _ (settings : Config) (old new : PassView) (later : IsLater old new) where
  by_old : (seen : List Entry) (log : List Seen) → seen_by new ≡ seen → new.log ≡ log → own_by new ≡ own_of (caller old) seen log
  by_old seen log seen_is log_is =
      ap (λ (c : ℕ). own_of c (seen_by new) new.log) later.by
      ∙ ap (λ (s : List Entry). own_of (caller old) s new.log) seen_is
      ∙ ap (λ (l : List Seen). own_of (caller old) seen l) log_is

  grew_entry : (call : Call) (reply : Reply) (place : ℕ) (op : Op) → All (IsReadRight settings (seen_by old)) old.log
      → Calls old new call reply place → asks_for call ≡ read_as op → HasGrown (entry_by old call reply) → DoesItem old new op
  grew_entry call reply place op right calls asked has_grown =
      let c : ℕ = caller old in
      let entry : Entry = entry_by old call reply in
      let rest : List Entry = drop (length (seen_by old)) calls.before in
      let seen_is : seen_by new ≡ (seen_by old ++ rest) ++ entry ∷ [] = calls.seen
      ∙ ap (λ (l : List Entry). l ++ entry ∷ []) (split calls.before (seen_by old) calls.later) in
      let made : length (calls_by c ((seen_by old ++ rest) ++ entry ∷ [])) ≡ length (made_by old) + 1 =
      ap (λ (l : List Entry). length (calls_by c l)) (sym seen_is) ∙ ap (λ (k : ℕ). length (calls_by k (seen_by new))) (sym later.by)
      ∙ ap length calls.own ∙ length-append (made_by old) (entry ∷ []) in
      let none : calls_by c rest ≡ [] = nothing (calls_by c rest)
      (omega (arith, made, calls_append c (seen_by old ++ rest) (entry ∷ []), calls_append c (seen_by old) rest, calls_own c entry refl)) in
      let item : Item = entry_item (0 + length (seen_by old ++ rest)) entry in
      record {
        item = item;
        grew = record {
          own = by_old ((seen_by old ++ rest) ++ entry ∷ []) old.log seen_is calls.log
              ∙ own_call c (seen_by old) rest old.log entry none (λ i d within. (right i d within).within) refl;
          late = All-cons (IsLate (length (seen_by old))) item [] (late_call (length (seen_by old)) item refl (omega (arith, length-append (seen_by old) rest)))
              (All-nil (IsLate (length (seen_by old))));
          grown = λ before. subst (λ (l : List Entry). All HasGrown l) (sym calls.own)
              (All-append HasGrown (made_by old) (entry ∷ []) before (All-cons HasGrown entry [] has_grown (All-nil HasGrown)));
        };
        asked = asked;
        left = calls.left;
      }

  pub grew_call : (call : Call) (reply : Reply) (place : ℕ) → All (IsReadRight settings (seen_by old)) old.log → Calls old new call reply place
      → AsksItself (ops.Call call) → DoesItem old new (ops.Call call)
  grew_call call reply place right calls asks =
      grew_entry call reply place (ops.Call call) right calls asks (own_grown (caller old) call reply asks)

  beside : made_by new ≡ made_by old → calls_by (caller old) (drop (length (seen_by old)) (seen_by new)) ≡ []
  beside same =
      let c : ℕ = caller old in
      let rest : List Entry = drop (length (seen_by old)) (seen_by new) in
      let made : length (calls_by c (seen_by old ++ rest)) ≡ length (made_by old) =
      ap (λ (l : List Entry). length (calls_by c l)) (sym (split (seen_by new) (seen_by old) later.later))
      ∙ ap (λ (k : ℕ). length (calls_by k (seen_by new))) (sym later.by) ∙ ap length same in
      nothing (calls_by c rest) (omega (arith, made, calls_append c (seen_by old) rest))

  same_grown : made_by new ≡ made_by old → HaveGrown old → HaveGrown new
  same_grown same before = subst (λ (l : List Entry). All HasGrown l) (sym same) before

  pub grew_read : (read : Seen) (op : Op) → op_asked (content_of read) ≡ read_as op → All (IsReadRight settings (seen_by old)) old.log
      → Reads old new read → DoesItem old new op
  grew_read read op asked right reads =
      let rest : List Entry = drop (length (seen_by old)) (seen_by new) in
      let seen_is : seen_by new ≡ seen_by old ++ rest = split (seen_by new) (seen_by old) later.later in
      let item : Item = read_item (caller old) read in
      let long = ap length seen_is ∙ length-append (seen_by old) rest in
      record {
        item = item;
        grew = record {
          own = by_old (seen_by old ++ rest) (old.log ++ read ∷ []) seen_is reads.log
              ∙ own_read (caller old) (seen_by old) rest old.log read (beside reads.own) (λ i d within. (right i d within).within)
              (reads.version ∙ ap length seen_is);
          late = All-cons (IsLate (length (seen_by old))) item []
              (late_read (length (seen_by old)) item (read_is_no_call read) (omega (arith, reads.version, long)))
              (All-nil (IsLate (length (seen_by old))));
          grown = same_grown reads.own;
        };
        asked = asked;
        left = reads.left;
      }

  -- a fault is a read of its own, or its touch is entered
  pub grew_fault : (page : Page) (access : Access) (done : Faulted) → All (IsReadRight settings (seen_by old)) old.log
      → IsFaultDone page access old new done → DoesItem old new (ops.Fault page access)
  grew_fault page access done right is = elim is [
    | inl read ↦ grew_read (reads.Fault done.version page access done.verdict) (ops.Fault page access) refl right read
    | inr grows ↦
        grew_entry (Touch page access) (Grown grows.area 0) done.version (ops.Fault page access) right grows.call (touch_asked page access) tt
  ]

  -- a note told or heard, or a read refused, does nothing more
  pub grew_none : new.log ≡ old.log → made_by new ≡ made_by old → Grew old new []
  grew_none log own =
      let rest : List Entry = drop (length (seen_by old)) (seen_by new) in
      record {
        own = by_old (seen_by old ++ rest) old.log (split (seen_by new) (seen_by old) later.later) log
            ∙ own_same (caller old) (seen_by old) rest old.log (beside own) ∙ sym (append-nil (own_by old));
        late = All-nil (IsLate (length (seen_by old)));
        grown = same_grown own;
      }

pub longer_seen : (old new : PassView) → IsLater old new → length (seen_by old) ≤ length (seen_by new)
longer_seen old new later = omega (arith, sym (ap length later.later) ∙ length-take (length (seen_by old)) (seen_by new))

pub grew_on : (old mid new : PassView) (first next : List Item) → IsLater old mid → Grew old mid first → Grew mid new next → Grew old new (first ++ next)
grew_on old mid new first next later one two =
    let longer = longer_seen old mid later in
    record {
      own = two.own ∙ ap (λ (l : List Item). l ++ next) one.own ∙ append_assoc (own_by old) first next;
      late = All-append (IsLate (length (seen_by old))) first next one.late
          (All-weaker (IsLate (length (seen_by mid))) (IsLate (length (seen_by old))) (λ item late. omega (arith, late, longer)) next two.late);
      grown = λ before. two.grown (one.grown before);
    }

-- all that a pass did is of versions that it has seen
pub own_within : (c : ℕ) (seen : List Entry) (log : List Seen) → All (λ read. version_of read ≤ length seen) log
    → All (λ (item : Item). item.version ≤ length seen) (own_of c seen log)
unfolding own_of items_of log_items
own_within c seen log within =
    let P = λ (item : Item). item.version ≤ length seen in
    all_gather P (items_of (entry_items 0 seen) c ++ log_items c log)
    (All-append P (items_of (entry_items 0 seen) c) (log_items c log)
    (All-filter (λ (item : Item). nat_eq item.caller c) P (entry_items 0 seen)
    (All-weaker (Stands (length seen)) P (λ item stands. stands.0) (entry_items 0 seen) (entries_stand 0 (length seen) seen (omega arith))))
    (All-map P (read_item c) log within))

-- nothing done
pub grew_still : (pass : PassView) → Grew pass pass []
grew_still pass = record { own = sym (append-nil (own_by pass)); late = All-nil (IsLate (length (seen_by pass))); grown = λ before. before }

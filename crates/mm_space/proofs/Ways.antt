-- For `fault`, `find` and `find_locked`: what was found for a fault is what it left; a fault that missed took the lock, and the way of a fault is as it was once the fault is in the log.
use Rattle.std.proofs.Common.{ℕ, ◌≡◌, ◌<◌, ◌≤◌, ◌+◌, ◌-◌, ◌∙◌, true, false, nat_eq, List, [], ◌∷◌, ◌++◌, length, take, Option, Some, None, refl, sym, ap, subst, arith, inl, inr}
use Rattle.std.specs.Option.{option_map_or}
use Rattle.std.proofs.lemmas.Bool.{cond-true, eq-eqb}
use Rattle.std.proofs.lemmas.List.{length-take, take-take, take_all}
use Rattle.std.proofs.lemmas.List.Elements.{filter-append}
use Rattle.std.proofs.lemmas.Option.{same_Some}
use Rattle.mm_types.specs.declared.area.Access.{Access}
use Rattle.mm_types.specs.declared.area.Page.{Page}
use Rattle.mm_types.specs.declared.area.Record.{Record}
use Rattle.mm_types.specs.declared.area.Verdict.{Verdict}
use Rattle.mm_types.specs.declared.area.Verdict.TheVariants.{Served}
use Rattle.mm_types.specs.declared.call.Call.{Call}
use Rattle.mm_types.specs.declared.call.Call.TheVariants.{Touch}
use Rattle.mm_types.specs.declared.call.Entry.{Entry}
use Rattle.mm_types.specs.declared.call.Reply.{Reply}
use Rattle.mm_types.specs.declared.call.Reply.TheVariants.{Grown}
use Rattle.mm_types.specs.declared.call.Seen.{Seen}
use Rattle.mm_types.specs.declared.call.Seen.TheVariants.{Fault}
use Rattle.mm_types.specs.declared.config.Config.{Config}
use Rattle.area_rules.specs.Accesses.{permits}
use Rattle.area_rules.specs.Growing.{grower, grows, grown as grown_space, grown_to, touch}
use Rattle.area_rules.specs.Journals.{calls_by, IsReadAfter, IsReadRight}
use Rattle.area_rules.specs.Steps.{step, IsLegalJournal}
use Rattle.area_rules.specs.Tables.{AddressSpace, Outcome}
use Rattle.area_rules.proofs.Touching.{step-touch}
use Rattle.lock_core.specs.Core.{StartsWith}
use Rattle.lock_core.specs.Facts.{list_after}
use Rattle.lock_core.specs.declared.stage.Stage.TheVariants.{Out}
use Rattle.vma_lock.specs.declared.seats.ReaderSeat.{ReaderSeat}
use Rattle.vma_lock.specs.Seats.{seen, stage, HasTurn}
use Rattle.vma_lock.specs.Seats as areas
use Rattle.vma_lock.specs.Views.{look_at}
use Rattle.node_slots.specs.Seats.{node_view}
use Rattle.fault_path.specs.declared.fast.Miss.{Miss}
use Rattle.fault_path.specs.Passes.{PassView, IsPass, IsLater, caller, pass_config, seen_by, made_by}
use Rattle.fault_path.proofs.Passes.{gone_on}
use Rattle.fault_path.specs.Faults.{IsAnswer, Misses}
use Rattle.mm_space.specs.Names.{SpaceId}
use Rattle.mm_space.specs.declared.space.Faulted.{Faulted}
use Rattle.mm_space.specs.declared.space.Found.{Found}
use Rattle.mm_space.specs.declared.space.Found.TheVariants.{Answered, Entered}
use Rattle.mm_space.specs.declared.space.Path.{Path}
use Rattle.mm_space.specs.declared.space.Path.TheVariants.{Fast, Slow}
use Rattle.mm_space.specs.Spaces.{Answers, Calls, FindsPage, Hears, Grows, IsFaultDone, IsWay, LooksOnce, MeetsState, entry_by}

-- a pass with another log, and another number of operations left
abbrev pub relogged : PassView → List Seen → ℕ → PassView
relogged pass log left = record pass { log = log; left = left }

way_relogged : (page : ℕ) (access : Access) (old new : PassView) (log : List Seen) (left : ℕ) (answer : Verdict) (version : ℕ) (path : Path)
    → IsWay page access old new answer version path → IsWay page access old (relogged new log left) answer version path
way_relogged page access old new log left answer version Fast way = record {
  area = way.area;
  found = way.found;
  gives = way.gives;
  version_is = way.version_is;
  right = way.right;
  still = way.still;
  mapped = way.mapped;
  serves = way.serves;
}
way_relogged page access old new log left answer version (Slow miss) way = record {
  between = way.between;
  missed = way.missed;
  later = record {
    by = way.later.by;
    table = way.later.table;
    nodes = way.later.nodes;
    size = way.later.size;
    config_is = way.later.config_is;
    operations = way.later.operations;
    later = way.later.later;
  };
  look = way.look;
  walker = way.walker;
}

pub way_noted : (page : ℕ) (access : Access) (old new noted : PassView) (log : List Seen) (left : ℕ) (answer : Verdict) (version : ℕ) (path : Path)
    → noted ≡ relogged new log left → IsWay page access old new answer version path → IsWay page access old noted answer version path
way_noted page access old new noted log left answer version path is way =
    subst (λ pass. IsWay page access old pass answer version path) (sym is) (way_relogged page access old new log left answer version path way)

-- a fault that missed, and then looked once under the lock
pub missed_first : (page : ℕ) (access : Access) (old between new : PassView) (miss : Miss) (answer : Verdict) (version : ℕ) (path : Path)
    → Misses page old between miss → IsLater between new → LooksOnce between.reader new.reader → new.nodes ≡ between.nodes
    → path ≡ Slow miss → IsWay page access old new answer version path
missed_first page access old between new miss answer version path missed later look same is = subst (λ p. IsWay page access old new answer version p) (sym is) (record {
  between = between;
  missed = missed;
  later = later;
  look = look;
  walker = ap node_view same;
})

-- a verdict without the lock
pub fast_answers : (page : Page) (access : Access) (old new : PassView) (answer : Verdict) (version : ℕ)
    → new ≡ record old { reader = new.reader; nodes = new.nodes } → made_by new ≡ made_by old → IsAnswer page.0 access answer version old new
    → Answers page access old new (record { verdict = answer; path = Fast; version = version })
fast_answers page access old new answer version same own is = record {
  same = same ∙ ap (λ (t : ℕ). record old { reader = new.reader; nodes = new.nodes; takes = t }) (sym (ap (λ (p : PassView). p.takes) same));
  own = own;
  version = is.version_is;
  still = is.still;
  verdict = is.right;
}

starts_later : (long middle short : List Entry) → StartsWith long middle → StartsWith middle short → StartsWith long short
starts_later long middle short first second =
    let within : length short ≤ length middle = omega (arith, sym (ap length second) ∙ length-take (length short) middle) in
    sym (take-take (length short) (length middle) long within) ∙ ap (take (length short)) first ∙ second

-- the same of a call
abbrev called_after : (old between new : PassView) (made : Call) (answer : Reply) (place : ℕ)
    → between ≡ record old { reader = between.reader; nodes = between.nodes } → made_by between ≡ made_by old → IsLater old between
    → Calls between new made answer place → Calls old new made answer place
called_after old between new made answer place same own later is =
    let entry : entry_by between made answer ≡ entry_by old made answer = ap (λ c. record { caller = c; call = made; reply = answer }) later.by in
    record {
      before = is.before;
      later = starts_later is.before (seen_by between) (seen_by old) is.later later.later;
      seen = is.seen ∙ ap (λ (e : Entry). is.before ++ e ∷ []) entry;
      version = is.version;
      own = is.own ∙ ap (λ (l : List Entry). l ++ entry_by between made answer ∷ []) own ∙ ap (λ (e : Entry). made_by old ++ e ∷ []) entry;
      log = is.log ∙ ap (λ (p : PassView). p.log) same;
      left = is.left ∙ ap (λ (p : PassView). p.left) same;
    }

-- what was found under the lock was found by the fault that missed before
pub found_after : (page : Page) (access : Access) (old between new : PassView) (found : Found)
    → between ≡ record old { reader = between.reader; nodes = between.nodes } → made_by between ≡ made_by old → IsLater old between
    → FindsPage page access between new found → FindsPage page access old new found
found_after page access old between new (Answered done) same own later is = record {
  same = is.same ∙ ap (λ (p : PassView). record p { reader = new.reader; nodes = new.nodes; takes = new.takes }) same;
  own = is.own ∙ own;
  version = is.version;
  still = is.still;
  verdict = is.verdict;
}
found_after page access old between new (Entered done) same own later is = record {
  area = is.area;
  call = called_after old between new (Touch page access) (Grown is.area 0) done.version same own later is.call;
  grows = subst (λ (c : Config). grows c (list_after c is.call.before) page.0 access ≡ true) later.config_is is.grows;
  verdict = is.verdict;
  slow = is.slow;
}

-- the last entry of a journal is one more of its caller
pub own_last : (journal : List Entry) (entry : Entry) → calls_by entry.caller (journal ++ entry ∷ []) ≡ calls_by entry.caller journal ++ entry ∷ []
own_last journal entry = filter-append (λ (e : Entry). nat_eq e.caller entry.caller) journal (entry ∷ [])
    ∙ ap (λ (l : List Entry). calls_by entry.caller journal ++ l) (rw (eq-eqb entry.caller entry.caller refl) refl)

-- a call that was entered behind a journal
abbrev pub entered : (old new : PassView) (journal : List Entry) (made : Call) (answer : Reply) (place : ℕ)
    → seen_by new ≡ journal ++ entry_by old made answer ∷ [] → StartsWith journal (seen_by old)
    → calls_by (caller old) journal ≡ made_by old → caller new ≡ caller old → place ≡ length (seen_by new) → new.log ≡ old.log → new.left + 1 ≡ old.left
    → Calls old new made answer place
entered old new journal made answer place seen later own by version log left = record {
  before = journal;
  later = later;
  seen = seen;
  version = version;
  own = ap (λ c. calls_by c (seen_by new)) by ∙ ap (calls_by (caller old)) seen ∙ own_last journal (entry_by old made answer)
      ∙ ap (λ (l : List Entry). l ++ entry_by old made answer ∷ []) own;
  log = log;
  left = left;
}

-- the answer is right at the end of what the pass has seen
pub answered_right : (page : Page) (access : Access) (old new : PassView) (done : Faulted) → Answers page access old new done
    → IsReadRight (pass_config new) (seen_by new) (Fault done.version page access done.verdict)
answered_right page access old new done is =
    let all : take done.version (seen_by new) ≡ seen_by new = take_all done.version (seen_by new) (omega (arith, is.version)) in
    record {
      right = subst (λ (j : List Entry). IsReadAfter (pass_config new) j (Fault done.version page access done.verdict)) (sym all) (is.still, is.verdict);
      within = omega (arith, is.version);
    }

-- and once it is in the log, the fault is done
pub answered_done : (page : Page) (access : Access) (old between new : PassView) (done : Faulted) → Answers page access old between done
    → 0 < old.left
    → new ≡ relogged between (between.log ++ Fault done.version page access done.verdict ∷ []) (between.left - 1)
    → IsFaultDone page access old new done
answered_done page access old between new done is some noted =
    let read : Seen = Fault done.version page access done.verdict in
    let left = ap (λ (p : PassView). p.left) is.same in
    let less = ap (λ (p : PassView). p.left) noted in
    inl (record {
      log = ap (λ (p : PassView). p.log) noted ∙ ap (λ (p : PassView). p.log ++ read ∷ []) is.same;
      version = is.version ∙ sym (ap (λ (p : PassView). length (seen_by p)) noted);
      right = subst (λ (p : PassView). IsReadRight (pass_config p) (seen_by p) read) (sym noted) (answered_right page access old between done is);
      own = ap made_by noted ∙ is.own;
      left = omega (arith, left, less, some);
    })

-- the reply of a touch that grows
pub touch_replies : (settings : Config) (space : AddressSpace) (page : Page) (access : Access) → grows settings space.areas page.0 access ≡ true
    → (area : Record) × ((step settings space (Touch page access)).reply ≡ Grown area 0)
unfolding grows touch
touch_replies settings space page access does = at (grower settings space.areas page.0) refl does
  where
    at : (found : Option Record) → grower settings space.areas page.0 ≡ found
        → option_map_or (λ (a : Record). permits a.attr.prot access) found false ≡ true
        → (area : Record) × ((step settings space (Touch page access)).reply ≡ Grown area 0)
    at None is allowed = absurd (cc)
    at (Some above) is allowed = (
      grown_to page.0 above,
      ap (λ (o : Outcome). o.reply) (step-touch settings space page access ∙ cond-true (grows settings space.areas page.0 access) _ _ does
          ∙ ap (grown_space space page.0) is),
    )

-- a fault after a heard note lies behind what was told
pub behind_told : (told : List Entry) (before old new : PassView) (page : Page) (access : Access) (done : Faulted) → Hears before told old
    → IsLater old new → IsFaultDone page access old new done
    → (length told ≤ done.version) × StartsWith (take done.version (seen_by new)) told
behind_told told before old new page access done heard later is =
    let version : done.version ≡ length (seen_by new) = elim is [ inl read ↦ read.version | inr grown ↦ grown.call.version ] in
    let begins : StartsWith (seen_by new) told = starts_later (seen_by new) (seen_by old) told later.later heard.begins in
    let within : length told ≤ length (seen_by new) = omega (arith, sym (ap length begins) ∙ length-take (length told) (seen_by new)) in
    let all : take done.version (seen_by new) ≡ seen_by new = take_all done.version (seen_by new) (omega (arith, version)) in
    (omega (arith, within, version), subst (λ (j : List Entry). StartsWith j told) (sym all) begins)

-- so it lies behind a call that the caller who told it had seen
pub behind_call : (told : List Entry) (asked made before old new : PassView) (call : Call) (reply : Reply) (place : ℕ) (page : Page) (access : Access) (done : Faulted)
    → Calls asked made call reply place → StartsWith told (seen_by made) → Hears before told old → IsLater old new → IsFaultDone page access old new done
    → place ≤ done.version
behind_call told asked made before old new call reply place page access done called starts heard later is =
    let within : length (seen_by made) ≤ length told = omega (arith, sym (ap length starts) ∙ length-take (length (seen_by made)) told) in
    let behind = behind_told told before old new page access done heard later is in
    omega (arith, called.version, within, behind.0)

-- so the reply of a touch that grew has index 0
pub grown_first : (reply : Reply) (area grown : Record) (index : ℕ) → reply ≡ Grown area 0 → reply ≡ Grown grown index → reply ≡ Grown grown 0
grown_first reply area grown index is shown = let same : Grown area 0 ≡ Grown grown index = sym is ∙ shown in cc

-- a seat that saw the whole journal by a look has met the state
pub met_by_look : (name : SpaceId) (before journal : List Entry) (old new : ReaderSeat) → IsLegalJournal name.config journal → new.seat.table_id ≡ name.table
    → (found : ℕ) → areas.lock_view new ≡ look_at (areas.lock_view old) found journal Out → HasTurn old → StartsWith before (seen old)
    → calls_by (areas.lock_view old).caller before ≡ calls_by (areas.lock_view old).caller (seen old) → MeetsState name before journal old new
met_by_look name before journal old new legal table found is turn later own = record {
  table = table;
  legal = legal;
  all = ap (λ v. v.seen) is;
  same = (ap (λ v. v.caller) is, ap (λ v. v.config) is);
  turn = ap (λ v. v.turn) is ∙ turn ∙ ap Some (sym (ap (λ v. v.caller) is));
  free = ap (λ v. v.stage) is;
  looks = ap (λ v. v.trace.looks) is;
  look = (found, is ∙ ap (λ (j : List Entry). look_at (areas.lock_view old) found j Out) (sym (ap (λ v. v.seen) is)));
  later = later;
  own = own;
}

-- a pass that looked under the lock and holds nothing
pub met_pass : (old shown : PassView) (seat : ReaderSeat) (takes reserved : ℕ) (settings : Config) (now before : List Entry) → IsPass old reserved → old ≡ shown
    → pass_config shown ≡ settings → IsLegalJournal settings now → seen seat ≡ now → now ≡ before → HasTurn seat → stage seat ≡ Out
    → ((areas.lock_view seat).caller ≡ caller old) × ((areas.lock_view seat).config ≡ pass_config old) → StartsWith before (seen_by old)
    → calls_by (caller old) before ≡ calls_by (caller old) (seen_by old) → IsPass (record old { reader = seat; takes = takes }) reserved
met_pass old shown seat takes reserved settings now before kept shown_is settings_is legal seen_is now_is turn free same later own =
    let config_is : (areas.lock_view seat).config ≡ settings = same.1 ∙ ap pass_config shown_is ∙ settings_is in
    let all : seen seat ≡ before = seen_is ∙ now_is in
    gone_on old (record old { reader = seat; takes = takes }) reserved kept
    (record {
      caller = same.0;
      config = same.1;
      turn = turn ∙ ap Some same.0 ∙ sym kept.keeps.turn;
      legal = λ was. subst (λ (j : List Entry). IsLegalJournal (areas.lock_view seat).config j) (sym seen_is)
          (subst (λ (c : Config). IsLegalJournal c now) (sym config_is) legal);
      later = subst (λ (j : List Entry). StartsWith j (seen_by old)) (sym all) later;
      own = λ by has. subst (λ (k : ℕ). calls_by k (seen seat) ≡ calls_by k (seen_by old)) (same_Some (caller old) by (sym kept.keeps.turn ∙ has))
          (ap (calls_by (caller old)) all ∙ own);
    }) free kept.keeps.closed refl refl refl

-- a fault that grew an area under the lock, of a pass that one operation was taken from
pub grew : (page : Page) (access : Access) (old kept : PassView) (seat : ReaderSeat) (takes : ℕ) (settings : Config) (before now : List Entry) (area : Record)
    (miss : Miss) (version : ℕ) → kept ≡ record old { left = old.left - 1 } → 0 < old.left → pass_config old ≡ settings
    → grows settings (list_after settings before) page.0 access ≡ true
    → now ≡ before ++ entry_by kept (Touch page access) (Grown area 0) ∷ [] → seen seat ≡ now
    → ((areas.lock_view seat).caller ≡ caller kept) × ((areas.lock_view seat).config ≡ pass_config kept) → StartsWith before (seen_by kept)
    → calls_by (caller kept) before ≡ calls_by (caller kept) (seen_by kept) → version ≡ length (seen seat)
    → Grows page access old (record kept { reader = seat; takes = takes }) (record { verdict = Served area 0; path = Slow miss; version = version })
grew page access old kept seat takes settings before now area miss version is some settings_is does now_is seen_is same later own version_is =
    let entry : entry_by kept (Touch page access) (Grown area 0) ≡ entry_by old (Touch page access) (Grown area 0) =
    ap (λ (p : PassView). entry_by p (Touch page access) (Grown area 0)) is in
    let by : caller kept ≡ caller old = ap caller is in
    let left : kept.left ≡ old.left - 1 = ap (λ (p : PassView). p.left) is in
    record {
      area = area;
      call = entered old (record kept { reader = seat; takes = takes }) before (Touch page access) (Grown area 0) version
          (seen_is ∙ now_is ∙ ap (λ (e : Entry). before ++ e ∷ []) entry)
          (subst (λ (l : List Entry). StartsWith before l) (ap seen_by is) later)
          (sym (ap (λ (c : ℕ). calls_by c before) by) ∙ own ∙ ap made_by is) (same.0 ∙ by) version_is (ap (λ (p : PassView). p.log) is)
          (omega (arith, left, some));
      grows = subst (λ (c : Config). grows c (list_after c before) page.0 access ≡ true) (sym settings_is) does;
      verdict = refl;
      slow = (miss, refl);
    }

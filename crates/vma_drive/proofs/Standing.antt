-- Serves `drive`: where passes stand before a round.
use Rattle.std.proofs.Common.{ℕ, ◌≡◌, ◌+◌, ◌<◌, ◌≤◌, ◌∙◌, refl, sym, ap, subst, cond, Bool, nat_eq, nat_le, ◌&&◌, List, [], ◌∷◌, length, take, get_or, slice_get, All, count_by, Some, arith, inl, inr}
use Rattle.std.specs.Prelude.{Vec}
use Rattle.std.specs.declared.alloc.Global.{Global}
use Rattle.std.proofs.lemmas.Bool.{cases_lt}
use Rattle.std.proofs.lemmas.Bool.Decides.{nat_tests}
use Rattle.std.proofs.lemmas.List.{take_all, append-nil}
use Rattle.std.proofs.lemmas.List.Sums.{sum_by-cons}
use Rattle.std.proofs.lemmas.Option.{slice_get_within, slice_get-get_or}
use Rattle.trace_reader.specs.declared.trace.TraceLine.{TraceLine}
use Rattle.trace_reader.specs.Values.{AreNumbered}
use Rattle.history.proofs.LineAnswers.{told_from}
use Rattle.history.specs.declared.items.Item.{Item}
use Rattle.history.specs.Histories.{lines_of}
use Rattle.history.specs.Runs.{ops_of, asked}
use Rattle.history.specs.CallerPlaces.{callers_of, ArePlaces, StandAt}
use Rattle.fault_path.specs.Passes.{PassView, seen_by, IsLater}
use Rattle.mm_space.specs.Names.{SpaceId, ArePasses}
use Rattle.vma_drive.specs.declared.rounds.Telling.{Telling}
use Rattle.vma_drive.specs.Hearing.{own_by, done_by, HasRun, HaveGrown, AreFreshPasses}
use Rattle.vma_drive.specs.Naming.{tells}
use Rattle.vma_drive.specs.Internal.Rounds.{AreRounds, AreTellings, RanLowerRounds, RanRound, IsMoved, HasLineByRound, HasNoLineNext, Settled, AtRound, tells_from}
use Rattle.vma_drive.specs.Sharing.{AreEnough}
use Rattle.vma_drive.proofs.Operations.{unused_own, unused_grown}
use Rattle.vma_drive.proofs.OwnLines.{OwnAt, own_at, same_length, has_same}
use Rattle.vma_drive.proofs.Following.{cut_next, told_on}

abbrev Bit : Bool → ℕ
Bit t = cond t 1 0

all_from : (caller : ℕ) (ts : List Telling) → tells_from 0 caller ts ≡ count_by (λ t. nat_eq t.teller caller) ts
all_from caller [] = refl
all_from caller (t ∷ ts) =
    sum_by-cons (λ (t : Telling). Bit (nat_le 0 t.round && nat_eq t.teller caller)) t ts
    ∙ ap (λ (n : ℕ). Bit (nat_le 0 t.round && nat_eq t.teller caller) + n) (all_from caller ts)
    ∙ ap (λ (n : ℕ). n + count_by (λ t. nat_eq t.teller caller) ts) (one t)
    ∙ sym (sum_by-cons (λ (t : Telling). Bit (nat_eq t.teller caller)) t ts)
  where
    one : (t : Telling) → Bit (nat_le 0 t.round && nat_eq t.teller caller) ≡ Bit (nat_eq t.teller caller)
    one t = grind (arith, nat_tests)

-- as the slices show it
pub settle : (name : SpaceId) (lines shown : List TraceLine) (places places_shown : List (Vec ℕ Global)) (rounds rounds_shown : List ℕ)
    (tellings tellings_shown : List Telling)
    → shown ≡ lines → places_shown ≡ places → rounds_shown ≡ rounds → tellings_shown ≡ tellings → AreNumbered lines
    → ArePlaces shown (callers_of shown) places → AreRounds shown rounds → AreTellings shown rounds_shown tellings
    → length name.operations ≡ callers_of lines → Settled name shown places_shown rounds_shown tellings_shown
settle name lines shown places places_shown rounds rounds_shown tellings tellings_shown lines_are places_are rounds_are tellings_are
    numbered are_places are_rounds are_tellings callers = record {
      numbered = subst (λ (l : List TraceLine). AreNumbered l) (sym lines_are) numbered;
      places_are = subst (λ (l : List (Vec ℕ Global)). ArePlaces shown (callers_of shown) l) (sym places_are) are_places;
      rounds_are = subst (λ (l : List ℕ). AreRounds shown l) (sym rounds_are) are_rounds;
      tellings_are = subst (λ (l : List Telling). AreTellings shown rounds_shown l) (sym tellings_are) are_tellings;
      callers = callers ∙ ap callers_of (sym lines_are);
    }

pub begun_fresh : (lines : List TraceLine) (passes : List PassView) → AreFreshPasses passes
    → (caller : ℕ) (pass : PassView) → slice_get passes caller ≡ Some pass → (count : ℕ) × (done_by pass ≡ asked (take count (lines_of lines caller)))
unfolding ops_of
begun_fresh lines passes unused caller pass found = (0, ap ops_of (unused_own pass (unused caller pass found)))

pub grown_fresh : (passes : List PassView) → AreFreshPasses passes → (caller : ℕ) (pass : PassView) → slice_get passes caller ≡ Some pass
    → HaveGrown pass
grown_fresh passes unused caller pass found = unused_grown pass (unused caller pass found)

module _ (name : SpaceId) (lines : List TraceLine)
    (places : List (Vec ℕ Global)) (rounds : List ℕ) (tellings : List Telling)
    (settled : Settled name lines places rounds tellings) where
  pub callers_are : (passes : List PassView) → ArePasses name passes → length passes ≡ callers_of lines
  callers_are passes are = are.all ∙ settled.callers

  pub places_at : (passes : List PassView) → ArePasses name passes → ArePlaces lines (length passes) places
  places_at passes are = subst (λ (n : ℕ). ArePlaces lines n places) (sym (callers_are passes are)) settled.places_are

  -- with passes with which nothing was done
  pub at_first : (passes : List PassView) (owed : List ℕ) → ArePasses name passes → AreFreshPasses passes → AreEnough lines passes → length owed ≡ length passes
      → ((caller : ℕ) (pass : PassView) → slice_get passes caller ≡ Some pass → get_or owed caller 0 ≡ pass.left)
      → AtRound name lines places rounds tellings passes owed 0
  unfolding ops_of
  at_first passes owed are unused enough all each =
      let none : (caller : ℕ) (pass : PassView) → slice_get passes caller ≡ Some pass → own_by pass ≡ [] =
      λ caller pass found. unused_own pass (unused caller pass found) in
      record {
        passes_are = are;
        owed_all = all;
        has = λ caller pass found.
            let short : length (own_by pass) ≡ 0 = ap length (none caller pass found) in
            record {
              few = omega (arith, short);
              ops = ap ops_of (none caller pass found) ∙ ap (λ (l : List Item). asked (take (length l) (lines_of lines caller))) (sym (none caller pass found));
              left = omega (arith, short, each caller pass found);
              grown = unused_grown pass (unused caller pass found);
            };
        cut = λ caller pass own found its.
            let short : length (own_by pass) ≡ 0 = ap length (none caller pass found) in
            record { before = λ index within. absurd (omega (arith, short)); from = λ index past within. omega arith };
        enough = λ caller within.
            let pass : PassView = get_or passes caller (some passes caller within) in
            let found : slice_get passes caller ≡ Some pass = slice_get-get_or passes caller (some passes caller within) within in
            let left : length (lines_of lines caller) + tells lines caller ≤ pass.left = enough.each caller pass found in
            omega (arith, left, each caller pass found, all_from caller tellings, settled.tellings_are.told caller);
        told = told_from (λ place pass. own_by pass) lines passes
            (λ caller place pass item line number found item_is stands after teller there other said named other_is said_is.
            absurd (omega (arith, slice_get_within (own_by pass) place item item_is, ap length (none caller pass found))));
      }
    where
      some : (passes : List PassView) (caller : ℕ) → caller < length passes → PassView
      some [] caller none = absurd (omega arith)
      some (pass ∷ rest) caller within = pass

  pub begun_at : (passes : List PassView) (owed : List ℕ) (round : ℕ)
      → AtRound name lines places rounds tellings passes owed round
      → (caller : ℕ) (pass : PassView) → slice_get passes caller ≡ Some pass → (count : ℕ) × (done_by pass ≡ asked (take count (lines_of lines caller)))
  begun_at passes owed round at caller pass found = (length (own_by pass), (at.has caller pass found).ops)

  pub grown_at : (passes : List PassView) (owed : List ℕ) (round : ℕ)
      → AtRound name lines places rounds tellings passes owed round
      → (caller : ℕ) (pass : PassView) → slice_get passes caller ≡ Some pass → HaveGrown pass
  grown_at passes owed round at caller pass found = (at.has caller pass found).grown

  -- past the last round
  pub done_at : (passes : List PassView) (owed : List ℕ) (round : ℕ)
      → AtRound name lines places rounds tellings passes owed round → All (λ (r : ℕ). r < round) rounds
      → (caller : ℕ) (pass : PassView) → slice_get passes caller ≡ Some pass → done_by pass ≡ asked (lines_of lines caller)
  done_at passes owed round at low caller pass found =
      let within : caller < length passes = slice_get_within passes caller pass found in
      let are : ArePlaces lines (length passes) places = places_at passes at.passes_are in
      let inside : caller < length places = omega (arith, are.all, within) in
      let own : Vec ℕ Global = get_or places caller (some places caller inside) in
      let its : slice_get places caller ≡ Some own = slice_get-get_or places caller (some places caller inside) inside in
      let stand : StandAt lines own.items (lines_of lines caller) = are.stand caller own its in
      let cut : RanLowerRounds rounds own.items round pass = at.cut caller pass own found its in
      let all : length own.items ≤ length (own_by pass) = elim (cases_lt (length (own_by pass)) (length own.items)) [
        | inl early ↦
            let place : ℕ = get_or own.items (length (own_by pass)) 0 in
            let one : OwnAt lines (lines_of lines caller) own.items (length (own_by pass)) =
            own_at lines (lines_of lines caller) own.items (length (own_by pass)) stand early in
            let high = cut.from (length (own_by pass)) (omega arith) early in
            let below : get_or rounds place 0 < round = low place 0
            (omega (arith, settled.rounds_are.all, slice_get_within lines place one.line one.stands)) in
            absurd (omega (arith, high, below))
        | inr late ↦ late
      ] in
      (at.has caller pass found).ops ∙ ap asked (take_all (length (own_by pass)) (lines_of lines caller)
      (omega (arith, all, same_length lines (lines_of lines caller) own.items stand)))
    where
      some : (places : List (Vec ℕ Global)) (caller : ℕ) → caller < length places → Vec ℕ Global
      some [] caller none = absurd (omega arith)
      some (own ∷ rest) caller within = own

  -- before a round there are enough operations to tell with
  pub may_tell_at : (passes : List PassView) (owed : List ℕ) (round : ℕ)
      → AtRound name lines places rounds tellings passes owed round
      → (caller : ℕ) (pass : PassView) → slice_get passes caller ≡ Some pass → (pass.left ≤ get_or owed caller 0) × (tells_from round caller tellings ≤ pass.left)
  may_tell_at passes owed round at caller pass found =
      let has = at.has caller pass found in
      let enough = at.enough caller (slice_get_within passes caller pass found) in
      (omega (arith, has.left), omega (arith, has.left, has.few, enough))

  -- after it was told
  module _ (olds mids : List PassView) (before owed : List ℕ) (round : ℕ)
      (at : AtRound name lines places rounds tellings olds before round)
      (mids_are : ArePasses name mids)
      (owed_all : length owed ≡ length before)
      (moved : (caller : ℕ) (old mid : PassView) → slice_get olds caller ≡ Some old → slice_get mids caller ≡ Some mid
      → IsMoved old mid × (mid.left + get_or before caller 0 ≡ old.left + get_or owed caller 0))
      (paid : (caller : ℕ) → caller < length olds
      → get_or owed caller 0 + tells_from round caller tellings ≡ get_or before caller 0 + tells_from (round + 1) caller tellings) where
    mids_all : length mids ≡ length olds
    mids_all = mids_are.all ∙ sym at.passes_are.all

    pub has_mid : (caller : ℕ) (mid : PassView) → slice_get mids caller ≡ Some mid
        → HasRun (lines_of lines caller) mid (get_or owed caller 0) × (length (lines_of lines caller) ≤ get_or owed caller 0)
    has_mid caller mid found =
        let within : caller < length olds = omega (arith, slice_get_within mids caller mid found, mids_all) in
        let old : PassView = get_or olds caller mid in
        let was : slice_get olds caller ≡ Some old = slice_get-get_or olds caller mid within in
        let move = moved caller old mid was found in (
          has_same (lines_of lines caller) old mid (get_or before caller 0) (get_or owed caller 0) (at.has caller old was) move.0.grew move.1,
          omega (arith, at.enough caller within, paid caller within),
        )

    -- and the lines of the round were run
    module _ (news : List PassView)
        (heard : (index : ℕ) (telling : Telling) (teller hearer : PassView) → slice_get tellings index ≡ Some telling → telling.round ≡ round
        → slice_get olds telling.teller ≡ Some teller → slice_get mids telling.hearer ≡ Some hearer
        → All (λ (said : Item). said.version ≤ length (seen_by hearer)) (own_by teller))
        (news_are : ArePasses name news)
        (ran : (caller : ℕ) (mid new : PassView) (own : Vec ℕ Global) → slice_get mids caller ≡ Some mid → slice_get news caller ≡ Some new
        → slice_get places caller ≡ Some own → IsLater mid new × RanRound (lines_of lines caller) rounds own.items round (get_or owed caller 0) mid new) where
      news_all : length news ≡ length olds
      news_all = news_are.all ∙ sym at.passes_are.all

      -- what a caller's pass did
      record Went (caller : ℕ) (new : PassView) : Type 0 where
        old : PassView
        mid : PassView
        own : Vec ℕ Global
        old_is : slice_get olds caller ≡ Some old
        mid_is : slice_get mids caller ≡ Some mid
        own_is : slice_get places caller ≡ Some own
        run : RanRound (lines_of lines caller) rounds own.items round (get_or owed caller 0) mid new

      went : (caller : ℕ) (new : PassView) → slice_get news caller ≡ Some new → Went caller new
      went caller new found =
          let within : caller < length olds = omega (arith, slice_get_within news caller new found, news_all) in
          let are : ArePlaces lines (length olds) places = places_at olds at.passes_are in
          let inside : caller < length places = omega (arith, are.all, within) in
          let mid_is : slice_get mids caller ≡ Some (get_or mids caller new) = slice_get-get_or mids caller new (omega (arith, within, mids_all)) in
          let own_is : slice_get places caller ≡ Some (get_or places caller (some places inside)) = slice_get-get_or places caller (some places inside) inside in
          record {
            old = get_or olds caller new;
            mid = get_or mids caller new;
            own = get_or places caller (some places inside);
            old_is = slice_get-get_or olds caller new within;
            mid_is = mid_is;
            own_is = own_is;
            run = (ran caller (get_or mids caller new) new (get_or places caller (some places inside)) mid_is found own_is).1;
          }
        where
          some : (places : List (Vec ℕ Global)) → caller < length places → Vec ℕ Global
          some [] none = absurd (omega arith)
          some (own ∷ rest) within = own

      pub has_new : (caller : ℕ) (new : PassView) → slice_get news caller ≡ Some new → HasRun (lines_of lines caller) new (get_or owed caller 0)
      has_new caller new found = (went caller new found).run.has

      pub begun_new : (caller : ℕ) (new : PassView) → slice_get news caller ≡ Some new
          → (count : ℕ) × (done_by new ≡ asked (take count (lines_of lines caller)))
      begun_new caller new found = (length (own_by new), (has_new caller new found).ops)

      pub grown_new : (caller : ℕ) (new : PassView) → slice_get news caller ≡ Some new → HaveGrown new
      grown_new caller new found = (has_new caller new found).grown

      past : (own : List ℕ) (pass : PassView) → ¬ HasLineByRound own rounds round pass → length (own_by pass) < length own
          → round < get_or rounds (get_or own (length (own_by pass)) 0) 0
      past own pass none more = elim (cases_lt round (get_or rounds (get_or own (length (own_by pass)) 0) 0)) [
        | inl less ↦ less
        | inr low ↦ absurd (none (more, low))
      ]

      pub at_next : HasNoLineNext places rounds round news → AtRound name lines places rounds tellings news owed (round + 1)
      at_next whole = record {
        passes_are = news_are;
        owed_all = owed_all ∙ at.owed_all ∙ sym news_all;
        has = has_new;
        cut = λ caller new own found its.
            let its_went = went caller new found in
            let own_run = (ran caller its_went.mid new own its_went.mid_is found its).1 in
            let move = (moved caller its_went.old its_went.mid its_went.old_is its_went.mid_is).0 in
            cut_next lines rounds caller own.items round (get_or owed caller 0) its_went.old its_went.mid new settled.numbered settled.rounds_are
            ((places_at olds at.passes_are).stand caller own its) (move.grew.own ∙ append-nil (own_by its_went.old))
            (at.cut caller its_went.old own its_went.old_is its) own_run (past own.items new (λ has. whole caller (new, own, found, its, has)));
        enough = λ caller within.
            let inside : caller < length olds = omega (arith, within, news_all) in
            omega (arith, at.enough caller inside, paid caller inside);
        told = told_on lines rounds tellings places owed round olds mids news settled.rounds_are settled.tellings_are
            (places_at olds at.passes_are) mids_all news_all at.cut (λ caller old mid was is. (moved caller old mid was is).0) heard ran at.told;
      }

-- Serves `run_own` and `drive`: the lines of a caller, the places at which they stand, and what its pass did of them.
use Rattle.std.proofs.Common.{ℕ, ◌≡◌, ◌+◌, ◌<◌, ◌≤◌, ◌∙◌, refl, sym, ap, subst, List, [], ◌∷◌, ◌++◌, length, map, take, get_or, slice_get, All, Option, Some, arith, inl, inr}
use Rattle.std.specs.Prelude.{Vec}
use Rattle.std.specs.Option.{option_map}
use Rattle.std.specs.declared.alloc.Global.{Global}
use Rattle.std.proofs.lemmas.Bool.{cases_lt}
use Rattle.std.proofs.lemmas.List.{take_more, length-append, length-map, map-append, append-nil}
use Rattle.std.proofs.lemmas.Option.{same_Some, slice_get-map, slice_get_within, slice_get_read, slice_get-get_or, get_or_from_slice_get}
use Rattle.trace_reader.specs.declared.trace.Op.{Op}
use Rattle.trace_reader.specs.declared.trace.TraceLine.{TraceLine}
use Rattle.history.specs.declared.items.Item.{Item}
use Rattle.history.specs.CallerPlaces.{ArePlaces, StandAt}
use Rattle.history.specs.Histories.{lines_of, read_as}
use Rattle.history.specs.Runs.{ops_of, asked}
use Rattle.history.proofs.Steps.{ops_more}
use Rattle.fault_path.specs.Passes.{PassView, IsLater}
use Rattle.vma_drive.specs.Hearing.{own_by, Grew, GrewNone, DoesItem, HasRun}
use Rattle.vma_drive.specs.Internal.Rounds.{RanRound}
use Rattle.vma_drive.proofs.Operations.{later_on, no_later}
use Rattle.vma_drive.proofs.Growing.{grew_on, grew_still}

-- the line at an index of a caller's places
pub record OwnAt (lines own : List TraceLine) (places : List ℕ) (index : ℕ) : Type 0 where
  pub line : TraceLine
  pub own_is : slice_get own index ≡ Some line
  pub stands : slice_get lines (get_or places index 0) ≡ Some line

pub same_length : (lines own : List TraceLine) (places : List ℕ) → StandAt lines places own → length places ≡ length own
same_length lines own places stand = sym (length-map places (slice_get lines)) ∙ ap length stand ∙ length-map own Some

pub own_at : (lines own : List TraceLine) (places : List ℕ) (index : ℕ) → StandAt lines places own → index < length places → OwnAt lines own places index
own_at lines own places index stand within =
    let many = same_length lines own places stand in
    let line : TraceLine = get_or own index (first own (omega (arith, many))) in
    let mine : slice_get own index ≡ Some line = slice_get-get_or own index (first own (omega (arith, many))) (omega (arith, many)) in
    let there : slice_get (map (slice_get lines) places) index ≡ Some (slice_get lines (get_or places index 0)) =
    slice_get-map (slice_get lines) places index ∙ ap (option_map (slice_get lines)) (slice_get-get_or places index 0 within) in
    let here : slice_get (map Some own) index ≡ Some (Some line) = slice_get-map Some own index ∙ ap (option_map Some) mine in
    let both : slice_get (map (slice_get lines) places) index ≡ slice_get (map Some own) index = ap (λ (l : List (Option TraceLine)). slice_get l index) stand in
    record {
      line = line;
      own_is = mine;
      stands = same_Some (slice_get lines (get_or places index 0)) (Some line) (sym there ∙ both ∙ here);
    }
  where
    first : (own : List TraceLine) → index < length own → TraceLine
    first [] count = absurd (omega arith)
    first (line ∷ rest) count = line

pub grew_length : (old new : PassView) (more : List Item) → Grew old new more → length (own_by new) ≡ length (own_by old) + length more
grew_length old new more grew = ap length grew.own ∙ length-append (own_by old) more

pub has_more : (own : List TraceLine) (old new : PassView) (owed : ℕ) (line : TraceLine) → HasRun own old owed
    → slice_get own (length (own_by old)) ≡ Some line → DoesItem old new line.op → HasRun own new owed
has_more own old new owed line has found does =
    let n : ℕ = length (own_by old) in
    let within : n < length own = slice_get_within own n line found in
    let long : length (own_by new) ≡ n + 1 = grew_length old new (does.item ∷ []) does.grew in
    let more : take (n + 1) own ≡ take n own ++ line ∷ [] =
    take_more own n line within ∙ ap (λ (l : TraceLine). take n own ++ l ∷ []) (get_or_from_slice_get own n line line found) in
    record {
      few = omega (arith, long, within);
      ops = ap ops_of does.grew.own ∙ ops_more (own_by old) does.item ∙ ap (λ (op : Op). ops_of (own_by old) ++ op ∷ []) does.asked
          ∙ ap (λ (l : List Op). l ++ read_as line.op ∷ []) has.ops
          ∙ sym (map-append (λ (l : TraceLine). read_as l.op) (take n own) (line ∷ [])) ∙ ap asked (sym more)
          ∙ ap (λ (k : ℕ). asked (take k own)) (sym long);
      left = omega (arith, long, has.left, does.left);
      grown = does.grew.grown has.grown;
    }

-- a pass that did nothing
pub has_same : (own : List TraceLine) (old new : PassView) (before owed : ℕ) → HasRun own old before → Grew old new []
    → new.left + before ≡ old.left + owed → HasRun own new owed
has_same own old new before owed has grew left =
    let same : own_by new ≡ own_by old = grew.own ∙ append-nil (own_by old) in
    let long : length (own_by new) ≡ length (own_by old) = ap length same in
    record {
      few = omega (arith, long, has.few);
      ops = ap ops_of same ∙ has.ops ∙ ap (λ (k : ℕ). asked (take k own)) (sym long);
      left = omega (arith, long, has.left, left);
      grown = grew.grown has.grown;
    }

-- so far
pub record RunTo (own : List TraceLine) (rounds places : List ℕ) (round owed : ℕ) (old new : PassView) (index : ℕ) : Type 0 where
  pub later : IsLater old new
  pub ran : RanRound own rounds places round owed old new
  pub at : length (own_by new) ≡ index

pub run_none : (own : List TraceLine) (rounds places : List ℕ) (round owed index : ℕ) (pass : PassView) → HasRun own pass owed
    → length (own_by pass) ≡ index → RunTo own rounds places round owed pass pass index
run_none own rounds places round owed index pass has at = record {
  later = no_later pass;
  ran = record { has = has; more = []; grew = grew_still pass; within = λ k low high. absurd (omega arith) };
  at = at;
}

run_more : (own : List TraceLine) (rounds places : List ℕ) (round owed index : ℕ) (old mid new : PassView) (line : TraceLine)
    → RunTo own rounds places round owed old mid index → IsLater mid new → slice_get own index ≡ Some line → DoesItem mid new line.op
    → get_or rounds (get_or places index 0) 0 ≤ round → RunTo own rounds places round owed old new (index + 1)
run_more own rounds places round owed index old mid new line to later found does low =
    let long : length (own_by new) ≡ length (own_by mid) + 1 = grew_length mid new (does.item ∷ []) does.grew in
    record {
      later = later_on old mid new to.later later;
      ran = record {
        has = has_more own mid new owed line to.ran.has (ap (slice_get own) to.at ∙ found) does;
        more = to.ran.more ++ does.item ∷ [];
        grew = grew_on old mid new to.ran.more (does.item ∷ []) to.later to.ran.grew does.grew;
        within = λ k past high. elim (cases_lt k index) [
          | inl early ↦ to.ran.within k past (omega (arith, early, to.at))
          | inr late ↦
              let here : index ≡ k = omega (arith, late, high, long, to.at) in
              subst (λ (n : ℕ). get_or rounds (get_or places n 0) 0 ≤ round) here low
        ];
      };
      at = omega (arith, long, to.at);
    }

pub run_stop : (own : List TraceLine) (rounds places : List ℕ) (round owed index : ℕ) (old mid new : PassView)
    → RunTo own rounds places round owed old mid index → IsLater mid new → GrewNone mid new → RunTo own rounds places round owed old new index
run_stop own rounds places round owed index old mid new to later none =
    let same : own_by new ≡ own_by mid = none.grew.own ∙ append-nil (own_by mid) in
    let long : length (own_by new) ≡ length (own_by mid) = ap length same in
    record {
      later = later_on old mid new to.later later;
      ran = record {
        has = has_same own mid new owed owed to.ran.has none.grew (ap (λ (n : ℕ). n + owed) none.left);
        more = to.ran.more ++ [];
        grew = grew_on old mid new to.ran.more [] to.later to.ran.grew none.grew;
        within = λ k past high. to.ran.within k past (omega (arith, high, long));
      };
      at = omega (arith, long, to.at);
    }

-- the places of a caller, as its worker sees them
pub shown_stand : (lines : List TraceLine) (places : List (Vec ℕ Global)) (by : ℕ) (own : Vec ℕ Global) (shown : List ℕ)
    → ArePlaces lines (length places) places → by < length places → own ≡ get_or places by own → shown ≡ own.items → StandAt lines shown (lines_of lines by)
shown_stand lines places by own shown are within its same =
    ap (map (slice_get lines)) same ∙ are.stand by own (slice_get_read places (length places) by own refl within its)

pub shown_is : (places : List (Vec ℕ Global)) (by : ℕ) (own got : Vec ℕ Global) (shown : List ℕ) → slice_get places by ≡ Some own
    → got ≡ get_or places by got → shown ≡ got.items → shown ≡ own.items
shown_is places by own got shown found its same = same ∙ ap (λ (v : Vec ℕ Global). v.items) (its ∙ get_or_from_slice_get places by own got found)

-- the line at the next place is run
pub run_line : (lines own : List TraceLine) (rounds places : List ℕ) (round owed index : ℕ) (old mid new : PassView) (e : TraceLine)
    → StandAt lines places own → index < length places
    → RunTo own rounds places round owed old mid index → IsLater mid new → DoesItem mid new (get_or lines (get_or places index 0) e).op
    → get_or rounds (get_or places index 0) 0 ≤ round → RunTo own rounds places round owed old new (index + 1)
run_line lines own rounds places round owed index old mid new e stand within to later does low =
    let at : OwnAt lines own places index = own_at lines own places index stand within in
    run_more own rounds places round owed index old mid new at.line to later at.own_is
    (subst (λ (l : TraceLine). DoesItem mid new l.op) (get_or_from_slice_get lines (get_or places index 0) at.line e at.stands) does) low

pub place_in : (lines own : List TraceLine) (places : List ℕ) (index : ℕ) → StandAt lines places own → index < length places
    → get_or places index 0 < length lines
place_in lines own places index stand within =
    let at : OwnAt lines own places index = own_at lines own places index stand within in
    slice_get_within lines (get_or places index 0) at.line at.stands

-- the places of callers are those of lines, which have rounds
pub places_in : (lines : List TraceLine) (callers : ℕ) (places : List (Vec ℕ Global)) (rounds : List ℕ) → ArePlaces lines callers places
    → length rounds ≡ length lines → All (λ (own : Vec ℕ Global). All (λ (place : ℕ). place < length rounds) own.items) places
places_in lines callers places rounds are all k d within i e inside =
    let own : Vec ℕ Global = get_or places k d in
    let stand : StandAt lines own.items (lines_of lines k) = are.stand k own (slice_get-get_or places k d within) in
    let read : get_or own.items i e ≡ get_or own.items i 0 =
    get_or_from_slice_get own.items i (get_or own.items i 0) e (slice_get-get_or own.items i 0 inside) in
    omega (arith, read, all, place_in lines (lines_of lines k) own.items i stand inside)

pub some_left : (lines own : List TraceLine) (rounds places : List ℕ) (round owed index : ℕ) (old mid : PassView) → StandAt lines places own
    → index < length places → RunTo own rounds places round owed old mid index → length own ≤ owed → 1 ≤ mid.left
some_left lines own rounds places round owed index old mid stand within to enough =
    omega (arith, to.ran.has.left, to.at, same_length lines own places stand, within, enough)

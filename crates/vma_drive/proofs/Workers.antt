-- Serves `run_workers`: passes that each ran the lines of a round.
use Rattle.std.proofs.Common.{ℕ, ◌≡◌, ◌<◌, ◌≤◌, ◌∙◌, refl, subst, List, length, get_or, slice_get, Some, arith}
use Rattle.std.specs.Prelude.{Vec}
use Rattle.std.specs.declared.alloc.Global.{Global}
use Rattle.std.proofs.lemmas.Option.{slice_get_within, slice_get_read, slice_get-get_or, get_or_from_slice_get}
use Rattle.trace_reader.specs.declared.trace.TraceLine.{TraceLine}
use Rattle.history.specs.Histories.{lines_of, AskThemselves}
use Rattle.history.specs.CallerPlaces.{ArePlaces}
use Rattle.fault_path.specs.Passes.{PassView, IsLater}
use Rattle.mm_space.specs.Names.{SpaceId, IsPassOf, ArePasses}
use Rattle.vma_drive.specs.Hearing.{HasRun}
use Rattle.vma_drive.specs.Internal.Rounds.{RanRound}

module _ (name : SpaceId) (lines : List TraceLine) (places : List (Vec ℕ Global)) (rounds owed : List ℕ) (round : ℕ) where
  -- what a worker does with the pass of a caller
  pub record Works (caller : ℕ) (old new : PassView) : Type 0 where
    pub pass : IsPassOf name new
    pub later : IsLater old new
    pub ran : (own : Vec ℕ Global) → slice_get places caller ≡ Some own → RanRound (lines_of lines caller) rounds own.items round (get_or owed caller 0) old new

  pub passes_worked : (olds news : List PassView) → ArePasses name olds
      → length news ≡ length olds → ((i : ℕ) (d : PassView) → i < length olds → Works i (get_or olds i d) (get_or news i d))
      → ArePasses name news
  passes_worked olds news passes many works = record {
    all = many ∙ passes.all;
    each = λ place new found.
        let within : place < length olds = omega (arith, many, slice_get_within news place new found) in
        let old : PassView = get_or olds place new in
        let work : Works place old new =
        subst (λ (p : PassView). Works place old p) (get_or_from_slice_get news place new new found) (works place new within) in
        (work.pass, work.later.by ∙ (passes.each place old (slice_get-get_or olds place new within)).1);
  }

  pub each_ran : (olds news : List PassView) → length news ≡ length olds
      → ((i : ℕ) (d : PassView) → i < length olds → Works i (get_or olds i d) (get_or news i d))
      → (caller : ℕ) (old new : PassView) (own : Vec ℕ Global) → slice_get olds caller ≡ Some old → slice_get news caller ≡ Some new
      → slice_get places caller ≡ Some own
      → IsLater old new × RanRound (lines_of lines caller) rounds own.items round (get_or owed caller 0) old new
  each_ran olds news many works place old new own before after its =
      let within : place < length olds = slice_get_within olds place old before in
      let work : Works place old new =
      subst (λ (p : PassView). Works place p new) (get_or_from_slice_get olds place old new before)
      (subst (λ (p : PassView). Works place (get_or olds place new) p) (get_or_from_slice_get news place new new after)
      (works place new within)) in
      (work.later, work.ran own its)

  -- a worker may run its pass
  pub may_work : (passes : List PassView) → AskThemselves lines → ArePlaces lines (length passes) places → length rounds ≡ length lines
      → length owed ≡ length passes → ArePasses name passes
      → ((place : ℕ) (pass : PassView) → slice_get passes place ≡ Some pass
      → HasRun (lines_of lines place) pass (get_or owed place 0) × (length (lines_of lines place) ≤ get_or owed place 0))
      → (i : ℕ) (pass : PassView) → i < length passes → pass ≡ get_or passes i pass
      → (i < length places) × (i < length owed) × AskThemselves lines × ArePlaces lines (length places) places × (length rounds ≡ length lines)
      × IsPassOf name pass × HasRun (lines_of lines i) pass (get_or owed i 0) × (length (lines_of lines i) ≤ get_or owed i 0)
  may_work passes asks are rounds_all owed_all is has i pass within read =
      let found : slice_get passes i ≡ Some pass = slice_get_read passes (length passes) i pass refl within read in (
        omega (arith, are.all),
        omega (arith, owed_all),
        asks,
        record { all = refl; stand = are.stand; no_lines = λ k past. are.no_lines k (omega (arith, are.all)) },
        rounds_all,
        (is.each i pass found).0,
        (has i pass found).0,
        (has i pass found).1,
      )

  -- what a worker did with the pass that it was lent
  pub worked : (place : ℕ) (lent back old new : PassView) → lent ≡ old → back ≡ new
      → IsPassOf name back × IsLater lent back
      × ((own : Vec ℕ Global) → slice_get places place ≡ Some own → RanRound (lines_of lines place) rounds own.items round (get_or owed place 0) lent back)
      → Works place old new
  worked place lent back old new before after did =
      subst (λ (p : PassView). Works place p new) before
      (subst (λ (p : PassView). Works place lent p) after
      (record { pass = did.0; later = did.1; ran = did.2 }))

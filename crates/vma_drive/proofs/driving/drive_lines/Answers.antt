-- The proof of `drive_lines`: with unused passes the first round can begin.
use Rattle.std.proofs.Common.{ℕ, ◌≡◌, ◌∙◌, ap, refl, subst, sym, List, length, get_or}
use Rattle.std.specs.Prelude.{OnOk, Vec}
use Rattle.std.specs.declared.alloc.Global.{Global}
use Rattle.history.specs.CallerPlaces.{callers_of, ArePlaces}
use Rattle.history.specs.SpaceLines.{AreSpaceLines}
use Rattle.trace_reader.specs.declared.trace.TraceLine.{TraceLine}
use Rattle.fault_path.specs.Passes.{PassView}
use Rattle.vma_drive.specs.Hearing.{AreToldBy}
use Rattle.vma_drive.specs.Internal.Rounds.{AreRounds, AreTellings}
use Rattle.vma_drive.specs.Sharing.{AreEnough}
use Rattle.vma_drive.specs.declared.rounds.Telling.{Telling}
use Rattle.vma_drive.proofs.Standing.{settle, begun_fresh, grown_fresh, at_first}
use Rattle.vma_drive.proofs.driving.drive_lines.Goals as goal

pub returns-in_err-places-clause-begun : goal.returns-in_err-places-clause-begun
returns-in_err-places-clause-begun g c = begun_fresh _ _ c.requires.unused

pub returns-in_err-places-clause-grown : goal.returns-in_err-places-clause-grown
returns-in_err-places-clause-grown g c = grown_fresh _ c.requires.unused

pub returns-in_err-rounds-clause-begun : goal.returns-in_err-rounds-clause-begun
returns-in_err-rounds-clause-begun g c = begun_fresh _ _ c.requires.unused

pub returns-in_err-rounds-clause-grown : goal.returns-in_err-rounds-clause-grown
returns-in_err-rounds-clause-grown g c = grown_fresh _ c.requires.unused

pub returns-in_err-tellings-clause-begun : goal.returns-in_err-tellings-clause-begun
returns-in_err-tellings-clause-begun g c = begun_fresh _ _ c.requires.unused

pub returns-in_err-tellings-clause-grown : goal.returns-in_err-tellings-clause-grown
returns-in_err-tellings-clause-grown g c = grown_fresh _ c.requires.unused

pub returns-in_err-owed-clause-begun : goal.returns-in_err-owed-clause-begun
returns-in_err-owed-clause-begun g c = begun_fresh _ _ c.requires.unused

pub returns-in_err-owed-clause-grown : goal.returns-in_err-owed-clause-grown
returns-in_err-owed-clause-grown g c = grown_fresh _ c.requires.unused

-- what was made of the lines is of those that are shown
places_shown : (lines shown : List TraceLine) (places : List (Vec ℕ Global)) → shown ≡ lines → ArePlaces lines (callers_of lines) places
    → ArePlaces shown (callers_of shown) places
places_shown lines shown places same are = subst (λ (l : List TraceLine). ArePlaces l (callers_of l) places) (sym same) are

rounds_shown : (lines shown : List TraceLine) (rounds : List ℕ) → shown ≡ lines → AreRounds lines rounds → AreRounds shown rounds
rounds_shown lines shown rounds same are = subst (λ (l : List TraceLine). AreRounds l rounds) (sym same) are

tellings_shown : (lines shown : List TraceLine) (rounds : List ℕ) (tellings : List Telling) → shown ≡ lines → AreTellings lines rounds tellings
    → AreTellings shown rounds tellings
tellings_shown lines shown rounds tellings same are = subst (λ (l : List TraceLine). AreTellings l rounds tellings) (sym same) are

enough_shown : (lines shown : List TraceLine) (passes : List PassView) → shown ≡ lines → AreEnough lines passes → AreEnough shown passes
enough_shown lines shown passes same are = subst (λ (l : List TraceLine). AreEnough l passes) (sym same) are

pub run_rounds-requires-clause-lines : goal.run_rounds-requires-clause-lines
run_rounds-requires-clause-lines g c lifetimes outlives = c.items-own.ensures.ask

pub run_rounds-requires-clause-settled : goal.run_rounds-requires-clause-settled
run_rounds-requires-clause-settled g c lifetimes outlives =
    let same = c.items-own.ensures.lines in
    settle g.N.SpaceName.name c.items-own.result.now c.items-own.result.now _ c.as_slice-places.result.now _ c.as_slice-rounds.result.now
    _ c.as_slice-tellings.result.now refl c.as_slice-places.ensures.value c.as_slice-rounds.ensures.value
    c.as_slice-tellings.ensures.value c.items-own.ensures.kept.numbered (places_shown _ _ _ same c.in_ok-places.ensures) (rounds_shown _ _ _ same c.in_ok-rounds.ensures)
    (tellings_shown _ _ _ _ same c.in_ok-tellings.ensures)
    (sym c.requires.passes.all ∙ (enough_shown _ _ _ same c.requires.enough).all)

pub run_rounds-requires-clause-first : goal.run_rounds-requires-clause-first
run_rounds-requires-clause-first g c lifetimes outlives =
    let same = c.items-own.ensures.lines in
    at_first g.N.SpaceName.name c.items-own.result.now c.as_slice-places.result.now c.as_slice-rounds.result.now c.as_slice-tellings.result.now
    (settle g.N.SpaceName.name c.items-own.result.now c.items-own.result.now _ c.as_slice-places.result.now _ c.as_slice-rounds.result.now
    _ c.as_slice-tellings.result.now refl c.as_slice-places.ensures.value c.as_slice-rounds.ensures.value
    c.as_slice-tellings.ensures.value c.items-own.ensures.kept.numbered (places_shown _ _ _ same c.in_ok-places.ensures) (rounds_shown _ _ _ same c.in_ok-rounds.ensures)
    (tellings_shown _ _ _ _ same c.in_ok-tellings.ensures)
    (sym c.requires.passes.all ∙ (enough_shown _ _ _ same c.requires.enough).all))
    c.args.passes.now c.as_mut_slice-owed.result.now c.requires.passes c.requires.unused
    (enough_shown _ _ _ same c.requires.enough)
    (ap (λ (l : List ℕ). length l) c.as_mut_slice-owed.ensures.value ∙ c.in_ok-owed.ensures.count)
    (λ caller pass found. ap (λ (l : List ℕ). get_or l caller 0) c.as_mut_slice-owed.ensures.value ∙ c.in_ok-owed.ensures.each caller pass found)

pub returns-clause-told : goal.returns-clause-told
returns-clause-told g c =
    subst (λ (l : List TraceLine). OnOk c.run_rounds.result (AreToldBy l c.run_rounds.new.passes)) c.items-own.ensures.lines c.run_rounds.ensures.told

pub returns-clause-kept : goal.returns-clause-kept
returns-clause-kept g c = subst AreSpaceLines c.items-own.ensures.lines c.items-own.ensures.kept

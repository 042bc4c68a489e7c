-- Serves the functions that do a piece of work: what giving its text leaves, by the answer.
use Rattle.std.proofs.Common.{ℕ, ◌≡◌, ◌<◌, ◌∙◌, refl, sym, ap, subst, List, [], ◌++◌, length, take, take_at, length-append, Option, Some, None, Result, Ok, Err, arith, inl, inr}
use Rattle.std.specs.Prelude.{IsErrAnd, MatchResult}
use Rattle.std.specs.Io.KnownBytes.{Appends, Keeps}
use Rattle.io_edge.specs.Edge.{SinkView}
use Rattle.mm_space.specs.Closing.{ClosedView}
use Rattle.output.specs.declared.error.PrintError.{PrintError}
use Rattle.vma_replay.specs.declared.status.Status.{Status}
use Rattle.vma_replay.specs.declared.status.Status.TheVariants as statuses
use Rattle.output.specs.Giving.{IsCutOff}
use Rattle.vma_replay.specs.Statuses.{status_of_print}
use Rattle.vma_replay.specs.Internal.Giving.{IsCutShort, IsDoing, IsRunPrinted}

-- a beginning was given
front_given : (old new : Option (List ℕ)) (given lost text : List ℕ) → text ≡ given ++ lost → Appends old new given
    → Appends old new (take (length given) text)
front_given old new given lost text all moved =
    subst (λ (t : List ℕ). Appends old new t) (sym (ap (take (length given)) all ∙ take_at given lost (length given) refl)) moved

keeps : (bytes : Option (List ℕ)) → Keeps bytes bytes
keeps None = tt
keeps (Some bytes) = refl

done_cut : (gives : List ClosedView → List ℕ → Type 0) (old new : SinkView) (status : Status) (runs made : List ClosedView)
    (text : List ℕ) (error : PrintError) → gives made text → status ≡ status_of_print error → IsCutOff old new [] text error → runs ≡ []
    → IsRunPrinted gives old new status runs
done_cut gives old new status runs made text error gave is cut none =
    let front : Appends old.written new.written (take (length cut.given) text) = front_given old.written new.written cut.given cut.lost text cut.split cut.moved in
    elim cut.why [
      | inl fault ↦
          let less : length cut.given < length text = omega (arith, ap length cut.split, length-append cut.given cut.lost, fault.3) in
          subst (λ (s : Status). IsRunPrinted gives old new s runs) (sym (is ∙ ap status_of_print fault.0)) (fault.1, fault.2, none, made, text, gave, length cut.given, less, front)
      | inr wanted ↦
          subst (λ (s : Status). IsRunPrinted gives old new s runs) (sym (is ∙ ap status_of_print wanted.0)) (wanted.1, none, inr (made, text, gave, length cut.given, front))
    ]

done_short : (gives : List ClosedView → List ℕ → Type 0) (old new : SinkView) (status : Status) (runs : List ClosedView)
    → IsCutShort gives old new status → runs ≡ [] → IsRunPrinted gives old new status runs
done_short gives old new status runs (inl wanted) none =
    subst (λ (s : Status). IsRunPrinted gives old new s runs) (sym wanted.0)
    (ap (λ (v : SinkView). v.faults) wanted.1, none, inl (subst (λ (v : SinkView). Keeps old.written v.written) (sym wanted.1) (keeps old.written)))
done_short gives old new status runs (inr cut) none = done_cut gives old new status runs cut.0 cut.1 cut.3 cut.2 cut.4 cut.5 none

-- what doing a piece of work results in, by the answer and the runs that are kept
pub done_of : (gives : List ClosedView → List ℕ → Type 0) (old new : SinkView) (result : Result (List ClosedView) Status)
    (status : Status) (runs : List ClosedView) → IsDoing gives old new result
    → MatchResult result (λ kept. (status ≡ statuses.Done) × (runs ≡ kept)) (λ error. (status ≡ error) × (runs ≡ []))
    → IsRunPrinted gives old new status runs
done_of gives old new (Ok kept) status runs doing is =
    subst (λ (s : Status). IsRunPrinted gives old new s runs) (sym is.0)
    (doing.2.calm, doing.0, subst (λ (r : List ClosedView). gives r doing.0) (sym is.1) doing.1, doing.2.moved)
done_of gives old new (Err error) status runs doing is =
    subst (λ (s : Status). IsRunPrinted gives old new s runs) (sym is.0) (done_short gives old new error runs doing is.1)

-- memory ran out before anything was given
pub wants_memory : (gives : List ClosedView → List ℕ → Type 0) (old : SinkView) (result : Result (List ClosedView) Status)
    (status : Status) → IsErrAnd result (λ error. error ≡ status) → status ≡ statuses.NoMemory → IsDoing gives old old result
wants_memory gives old (Ok kept) status is none = absurd is
wants_memory gives old (Err error) status is none = inl (is ∙ none, refl)

-- a beginning of the text was given
pub doing_cut : (gives : List ClosedView → List ℕ → Type 0) (old new : SinkView) (result : Result (List ClosedView) Status)
    (error : PrintError) (made : List ClosedView) (text : List ℕ) → gives made text
    → IsErrAnd result (λ status. status ≡ status_of_print error) → IsCutOff old new [] text error → IsDoing gives old new result
doing_cut gives old new (Ok kept) error made text gave is cut = absurd is
doing_cut gives old new (Err status) error made text gave is cut = inr (made, text, gave, error, is, cut)

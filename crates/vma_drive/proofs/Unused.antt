-- What a pass did with which nothing had been done before it ran lines.
use Rattle.std.proofs.Common.{ℕ, ◌≡◌, ◌≤◌, ◌∙◌, sym, ap, subst, List, [], ◌++◌, length, take, All}
use Rattle.std.proofs.lemmas.List.{take_all}
use Rattle.std.proofs.lemmas.List.Elements.{All-nil}
use Rattle.trace_reader.specs.declared.trace.TraceLine.{TraceLine}
use Rattle.history.specs.declared.items.Item.{Item}
use Rattle.history.specs.Runs.{own_of, ops_of, asked, HasGrown}
use Rattle.history.proofs.Steps.{own_none, own_same}
use Rattle.fault_path.specs.Passes.{PassView, caller, seen_by}
use Rattle.vma_drive.specs.Hearing.{own_by, done_by, IsLate, HaveGrown, IsUnused}
use Rattle.vma_drive.proofs.Operations.{unused_own}
use Rattle.vma_drive.proofs.RanLines.{RanTo}

ran_own : (old new : PassView) (lines : List TraceLine) (count : ℕ) → IsUnused old → (ran : RanTo old new lines count) → own_by new ≡ ran.more
ran_own old new lines count unused ran = ran.grew.own ∙ ap (λ (l : List Item). l ++ ran.more) (unused_own old unused)

pub begun_alone : (old new : PassView) (lines : List TraceLine) (count : ℕ) → IsUnused old → RanTo old new lines count
    → done_by new ≡ asked (take count lines)
begun_alone old new lines count unused ran = ap ops_of (ran_own old new lines count unused ran) ∙ ran.ops

pub done_alone : (old new : PassView) (lines : List TraceLine) (count : ℕ) → IsUnused old → RanTo old new lines count → length lines ≤ count
    → done_by new ≡ asked lines
done_alone old new lines count unused ran past = begun_alone old new lines count unused ran ∙ ap asked (take_all count lines past)

pub late_alone : (old new : PassView) (lines : List TraceLine) (count : ℕ) → IsUnused old → RanTo old new lines count
    → All (IsLate (length (seen_by old))) (own_by new)
late_alone old new lines count unused ran = subst (λ (l : List Item). All (IsLate (length (seen_by old))) l)
    (sym (ran_own old new lines count unused ran)) ran.grew.late

pub grown_alone : (old new : PassView) (lines : List TraceLine) (count : ℕ) → IsUnused old → RanTo old new lines count → HaveGrown new
grown_alone old new lines count unused ran = ran.grew.grown (subst (λ l. All HasGrown l) (sym unused.made) (All-nil HasGrown))

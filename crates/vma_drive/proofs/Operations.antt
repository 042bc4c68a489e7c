-- What passes did, and later passes.
use Rattle.std.proofs.Common.{ℕ, ◌≡◌, subst, All, ◌+◌, ◌≤◌, ◌∙◌, refl, sym, ap, nat_eq, List, [], ◌∷◌, ◌++◌, length, get_or, take, drop, arith}
use Rattle.std.specs.Prelude.{Result, Ok, Err, OnErr}
use Rattle.std.proofs.lemmas.List.{take-append-drop, take-append-le, take_all, length-take, length-append}
use Rattle.std.proofs.lemmas.Option.{slice_get_within}
use Rattle.std.proofs.lemmas.List.Elements.{filter-append, All-nil}
use Rattle.mm_types.specs.declared.call.Entry.{Entry}
use Rattle.area_rules.specs.Journals.{calls_by}
use Rattle.lock_core.specs.Core.{StartsWith}
use Rattle.trace_reader.specs.declared.trace.TraceLine.{TraceLine}
use Rattle.history.specs.Histories.{lines_of}
use Rattle.history.specs.Runs.{own_of, HasGrown}
use Rattle.history.proofs.Steps.{own_none, own_same}
use Rattle.fault_path.specs.Passes.{PassView, caller, seen_by, made_by, IsLater}
use Rattle.mm_space.specs.Names.{SpaceId}
use Rattle.mm_space.specs.Opening.{AreOpened}
use Rattle.vma_drive.specs.Hearing.{own_by, HaveGrown, IsUnused, AreFreshPasses}
use Rattle.vma_drive.specs.Naming.{tells}
use Rattle.vma_drive.specs.Sharing.{AreShares, AreEnough}

pub nothing : {X : Type 0} (xs : List X) → length xs ≡ 0 → xs ≡ []
nothing [] none = refl
nothing (x ∷ xs) none = absurd (omega arith)

-- a list is what it begins with and the rest
pub split : (long short : List Entry) → StartsWith long short → long ≡ short ++ drop (length short) long
split long short starts = sym (ap (λ (l : List Entry). l ++ drop (length short) long) (sym starts) ∙ take-append-drop (length short) long)

pub calls_append : (c : ℕ) (xs ys : List Entry) → length (calls_by c (xs ++ ys)) ≡ length (calls_by c xs) + length (calls_by c ys)
calls_append c xs ys = ap length (filter-append (λ (e : Entry). nat_eq e.caller c) xs ys) ∙ length-append (calls_by c xs) (calls_by c ys)

-- with an unused pass nothing was done
pub unused_own : (pass : PassView) → IsUnused pass → own_by pass ≡ []
unused_own pass unused = ap (λ l. own_of (caller pass) (seen_by pass) l) unused.log
    ∙ own_same (caller pass) [] (seen_by pass) [] unused.made ∙ own_none (caller pass)

-- and its caller entered nothing
pub unused_grown : (pass : PassView) → IsUnused pass → HaveGrown pass
unused_grown pass unused = subst (λ l. All HasGrown l) (sym unused.made) (All-nil HasGrown)

-- so it is of the passes of a space that was opened with nothing before
pub opened_unused : (name : SpaceId) (passes : List PassView) → name.before ≡ [] → AreOpened name passes → AreFreshPasses passes
opened_unused name passes none opened place pass found =
    let is = opened.opened place pass found in
    record { made = ap (λ (l : List Entry). calls_by (caller pass) l) (is.seen ∙ none); log = is.log }

-- and each of these has enough operations, where its caller may make as many as it has
pub opened_enough : (name : SpaceId) (lines : List TraceLine) (passes : List PassView) → AreOpened name passes → AreShares lines name.operations
    → AreEnough lines passes
opened_enough name lines passes opened shares = record {
  all = opened.passes_are.all ∙ shares.all;
  each = λ place pass found.
      let is = opened.passes_are.each place pass found in
      let left : pass.left ≡ length (lines_of lines place) + tells lines place =
      (opened.opened place pass found).left ∙ is.0.operations ∙ ap (λ (k : ℕ). get_or name.operations k 0) is.1
      ∙ shares.each place (omega (arith, slice_get_within passes place pass found, opened.passes_are.all, shares.all)) in
      omega (arith, left);
}

-- a pass that is later than one that is later than a pass is later than that
starts_later : (xs ys zs : List Entry) → StartsWith xs ys → StartsWith ys zs → StartsWith xs zs
starts_later xs ys zs long short =
    let shorter : length zs ≤ length ys = omega (arith, sym (ap length short) ∙ length-take (length zs) ys) in
    ap (take (length zs)) (split xs ys long) ∙ take-append-le (length zs) ys (drop (length ys) xs) shorter ∙ short

pub later_on : (old mid new : PassView) → IsLater old mid → IsLater mid new → IsLater old new
later_on old mid new first next = record {
  by = next.by ∙ first.by;
  table = next.table ∙ first.table;
  nodes = next.nodes ∙ first.nodes;
  size = next.size ∙ first.size;
  config_is = next.config_is ∙ first.config_is;
  operations = next.operations ∙ first.operations;
  later = starts_later (seen_by new) (seen_by mid) (seen_by old) next.later first.later;
}

pub no_later : (pass : PassView) → IsLater pass pass
no_later pass = record {
  by = refl;
  table = refl;
  nodes = refl;
  size = refl;
  config_is = refl;
  operations = refl;
  later =
      take_all (length (seen_by pass)) (seen_by pass) (omega arith);
}

-- what is so is so on an error
pub on_err : {X E : Type 0} (result : Result X E) (P : Type 0) → P → OnErr result P
on_err (Ok x) P holds = tt
on_err (Err e) P holds = holds

-- what is no success is an error
pub stopped : {X E : Type 0} (result : Result X E) (P : Type 0) → ((x : X) → result ≡ Ok x → ⊥) → OnErr result P → P
stopped (Ok x) P fails holds = absurd (fails x refl)
stopped (Err e) P fails holds = holds

-- For `Space::close` and `gather_logs`: the logs of the passes, and the passes in the journal.
use Rattle.std.proofs.Common.{ℕ, ◌≡◌, ◌≤◌, ◌<◌, List, [], ◌∷◌, ◌++◌, length, map, All, refl, sym, ap, subst, arith, ◌∙◌}
use Rattle.std.specs.Prelude.{slice_index_or}
use Rattle.std.proofs.lemmas.List.{length-append, length-map, map-append, get_or_past}
use Rattle.std.proofs.lemmas.Option.{slice_get_within, get_or_from_slice_get}
use Rattle.mm_types.specs.declared.area.Record.{Record}
use Rattle.mm_types.specs.declared.call.Entry.{Entry}
use Rattle.mm_types.specs.declared.call.Seen.{Seen}
use Rattle.area_rules.specs.Journals.{calls_by}
use Rattle.area_rules.specs.Steps.{IsLegalJournal}
use Rattle.lock_core.specs.Facts.{list_after}
use Rattle.fault_path.specs.Passes.{PassView, ViewedTable, SitsAtTables, IsLater, node_size}
use Rattle.mm_space.specs.Closing.{IsIn, Closes}
use Rattle.lock_core.specs.Core.{StartsWith}
use Rattle.mm_space.specs.Names.{SpaceId, viewed_of, IsViewOf, IsPassOf, ArePasses, MadeWithin, since}

-- a pass of a space, later, sits at the space's tables
pub sits_later : (name : SpaceId) (viewed : ViewedTable) (old new : PassView) → IsViewOf name viewed → IsPassOf name old → IsLater old new
    → SitsAtTables viewed new
sits_later name viewed old new view of later = record {
  table = later.table ∙ of.sits.table ∙ sym view.0;
  nodes = later.nodes ∙ of.sits.nodes ∙ sym view.1;
  size = later.size ∙ of.sits.size ∙ ap (node_size name.config) (sym view.3) ∙ ap (λ c. node_size c viewed.callers) (sym view.2);
  config_is = later.config_is ∙ of.sits.config_is ∙ sym view.2;
}

-- and stays there
pub sits_on : (viewed : ViewedTable) (old new : PassView) → SitsAtTables viewed old → IsLater old new → SitsAtTables viewed new
sits_on viewed old new sits later = record {
  table = later.table ∙ sits.table;
  nodes = later.nodes ∙ sits.nodes;
  size = later.size ∙ sits.size;
  config_is = later.config_is ∙ sits.config_is;
}

-- so it is a pass of the space still
pub still : (name : SpaceId) (old new : PassView) → IsPassOf name old → IsLater old new → IsPassOf name new
still name old new of later = record {
  sits = sits_on (viewed_of name) old new of.sits later;
  operations = later.operations ∙ of.operations ∙ ap (λ c. slice_index_or name.operations c 0) (sym later.by);
}

-- there are no more logs than passes so far
pub few_logs : {X : Type 0} (logs : List X) (f : X → List Seen) (last passes : List PassView)
    → map f logs ++ map (λ pass. pass.log) last ≡ map (λ pass. pass.log) passes → length logs ≤ length passes
few_logs logs f last passes is =
    let total = ap (λ all. length all) is in
    let parts = length-append (map f logs) (map (λ pass. pass.log) last) in
    let first = length-map logs f in
    let whole = length-map passes (λ (pass : PassView). pass.log) in
    omega (arith, total, parts, first, whole)

-- one pass more of a list in parts
pub fewer : {X : Type 0} (xs ys zs : List X) (x : X) → xs ++ x ∷ ys ≡ zs → length xs < length zs
fewer xs ys zs x is = let total = ap (λ all. length all) is in let parts = length-append xs (x ∷ ys) in omega (arith, total, parts)

-- the logs after the last pass gave its own
pub regathered : (later logs : List (List Seen)) (last passes : List PassView) (pass next : PassView) → later ≡ logs ++ map (λ p. p.log) last
    → logs ++ map (λ p. p.log) last ≡ map (λ p. p.log) passes → next.log ≡ pass.log
    → later ++ next.log ∷ [] ≡ map (λ p. p.log) (passes ++ pass ∷ [])
regathered later logs last passes pass next gives is same =
    ap (λ all. all ++ next.log ∷ []) (gives ∙ is) ∙ ap (λ log. map (λ p. p.log) passes ++ log ∷ []) same
    ∙ sym (map-append (λ (p : PassView). p.log) passes (pass ∷ []))

-- what closing all passes results in
pub closes : (name : SpaceId) (passes : List PassView) (journal kept : List Entry) (logs : List (List Seen)) (list : List Record)
    → ArePasses name passes → journal ≡ kept → IsLegalJournal name.config kept → list ≡ list_after name.config kept
    → logs ≡ map (λ p. p.log) passes → All (IsIn name.config kept) passes → StartsWith kept name.before → MadeWithin name.operations (since name.before kept)
    → Closes name passes (record { journal = journal; logs = logs; list = list })
closes name passes journal kept logs list are journal_is legal list_is logs_are lie begins within = subst
    (λ (entries : List Entry). Closes name passes (record { journal = entries; logs = logs; list = list }))
    (sym journal_is)
    (record {
      begins = begins;
      legal = legal;
      list = list_is;
      logs = logs_are;
      each = λ place pass at.
          subst (IsIn name.config kept) (get_or_from_slice_get passes place pass pass at) (lie place pass (slice_get_within passes place pass at));
      others = λ other past. nobody other past;
    })
  where
    empty : {X : Type 0} (xs : List X) → length xs ≡ 0 → xs ≡ []
    empty [] none = refl
    empty (x ∷ xs) none = absurd (omega (arith, none))

    nobody : (other : ℕ) → length passes ≤ other → calls_by other (since name.before kept) ≡ []
    nobody other past =
        let all = are.all in
        let none = get_or_past name.operations other 0 (omega (arith, all, past)) in
        let count = within other in
        empty (calls_by other (since name.before kept)) (omega (arith, none, count))

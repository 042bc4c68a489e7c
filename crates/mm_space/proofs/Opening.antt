-- For `Ready::make`, `make_after` and `Space::open`: fresh passes have the operations that they were made with, so a new space can be opened.
use Rattle.std.proofs.Common.{ℕ, ◌≡◌, ◌<◌, ◌≤◌, ◌+◌, refl, List, [], ◌∷◌, ◌++◌, length, sum, take, drop, get_or, set, slice_get, Some, sym, ap, subst, ◌∙◌, arith, inl, inr}
use Rattle.std.proofs.lemmas.Bool.{cases_eq}
use Rattle.std.proofs.lemmas.List.{take_all, take_more, length-map, length-set, ext_get_or, get_or-map, get_or-set_same, get_or-set_other}
use Rattle.std.proofs.lemmas.Option.{slice_get-get_or, slice_get_within, get_or_from_slice_get}
use Rattle.mm_types.specs.declared.call.Entry.{Entry}
use Rattle.mm_types.specs.declared.config.Config.{Config}
use Rattle.mm_types.specs.declared.call.Reply.{Reply}
use Rattle.area_rules.specs.Steps.{step, after, IsLegalJournal}
use Rattle.fault_path.specs.Passes.{PassView, ViewedTable, IsLater, AreFresh, AreUnused, caller, seen_by, looks_of, walks_of}
use Rattle.fault_path.specs.Passes as tables
use Rattle.mm_state.specs.States.{StateView}
use Rattle.mm_space.specs.Names.{SpaceId, viewed_of, MadeWithin, AreStrangers, IsPassOf, IsNamed}
use Rattle.mm_space.specs.Opening.{operations_of, viewed_space, met_space, CanBeOpened, AreOpened}
use Rattle.mm_space.proofs.Settling.{still}

pub operations_are : (viewed : ViewedTable) (most : List ℕ) (passes : List PassView) → tables.AreTablePasses viewed most passes → operations_of passes ≡ most
operations_are viewed most passes are = ext_get_or 0 (operations_of passes) most
    (length-map passes (λ (p : PassView). p.operations) ∙ are.all) (λ place within. at passes are place within)
  where
    at : (passes : List PassView) → tables.AreTablePasses viewed most passes → (place : ℕ) → place < length (operations_of passes)
        → get_or (operations_of passes) place 0 ≡ get_or most place 0
    at [] are place within = absurd (omega (arith, within))
    at (first ∷ rest) are place within =
        let all = first ∷ rest in
        let count = length-map all (λ (p : PassView). p.operations) in
        let inside : place < length all = omega (arith, within, count) in
        let pass = get_or all place first in
        let of = are.each place pass (slice_get-get_or all place first inside) in
        get_or-map (λ (p : PassView). p.operations) all place first 0 inside ∙ of.0.operations ∙ ap (λ c. get_or most c 0) of.1

-- the space that a state and passes make, at these tables, is this one
pub space_is : (name : SpaceId) (viewed : ViewedTable) (state : StateView) (passes : List PassView)
    → viewed ≡ viewed_of name → state.journal ≡ name.before → operations_of passes ≡ name.operations → viewed_space viewed state passes ≡ name
space_is name viewed state passes viewed_is journal operations = λ i. record {
  table = ap (λ (v : ViewedTable). v.table) viewed_is i;
  nodes = ap (λ (v : ViewedTable). v.nodes) viewed_is i;
  config = ap (λ (v : ViewedTable). v.config) viewed_is i;
  before = journal i;
  operations = operations i;
}

-- so is the space that a state makes with passes that meet it
pub met_is : (name : SpaceId) (state : StateView) (passes : List PassView) → state.table ≡ name.table → state.nodes ≡ name.nodes
    → state.config ≡ name.config → state.journal ≡ name.before → operations_of passes ≡ name.operations → met_space state passes ≡ name
met_is name state passes table nodes config journal operations = λ i. record {
  table = table i;
  nodes = nodes i;
  config = config i;
  before = journal i;
  operations = operations i;
}

-- a new space can be opened
pub ready : (name : SpaceId) (passes : List PassView) (viewed : ViewedTable) (state : StateView) (logs reserved : ℕ)
    → viewed ≡ viewed_of name → state.table ≡ name.table → state.nodes ≡ name.nodes → state.config ≡ name.config → state.journal ≡ name.before
    → AreStrangers name.before → length name.operations ≤ 64
    → state.room ≡ length name.before + sum name.operations + 1 → length name.before + sum name.operations ≤ 16777216
    → AreOpened name passes → logs ≡ 0 → reserved ≡ length name.operations → CanBeOpened viewed state passes logs reserved
ready name passes viewed state logs reserved viewed_is table nodes config journal strangers callers room few opened empty reserve =
    let same : operations_of passes ≡ name.operations = operations_are _ _ _ opened.passes_are in
    let count = ap (λ (j : List Entry). length j) journal in
    let total = ap (λ ops. sum ops) same in
    record {
      table = table ∙ sym (ap (λ (v : ViewedTable). v.table) viewed_is);
      nodes = nodes ∙ sym (ap (λ (v : ViewedTable). v.nodes) viewed_is);
      config = config ∙ sym (ap (λ (v : ViewedTable). v.config) viewed_is);
      strangers = subst AreStrangers (sym journal) strangers;
      opened = subst (λ (n : SpaceId). AreOpened n passes) (sym (space_is name viewed state passes viewed_is journal same)) opened;
      callers = ap (λ (v : ViewedTable). v.callers) viewed_is ∙ sym opened.passes_are.all;
      most = omega (arith, opened.passes_are.all, callers);
      few = omega (arith, few, count, total);
      room = omega (arith, room, count, total);
      empty = empty;
      reserve = reserve ∙ sym opened.passes_are.all;
    }

-- fresh passes have seen nothing
pub opened_at_once : (name : SpaceId) (viewed : ViewedTable) (passes : List PassView) → viewed ≡ viewed_of name → name.before ≡ []
    → AreFresh viewed name.operations passes → AreUnused passes → AreOpened name passes
opened_at_once name viewed passes viewed_is before fresh unused = record {
  passes_are = subst (λ (v : ViewedTable). tables.AreTablePasses v name.operations passes) viewed_is fresh.passes_are;
  opened = λ place pass found.
      let f = fresh.fresh place pass found in
      let never = unused place pass found in
      record { seen = f.seen ∙ sym before; log = f.log; left = f.left; looks = omega (arith, never.0); walks = never.1 };
}

-- A pass of passes that meet a state one after another: those before this place have seen its journal.
pub record IsMet (name : SpaceId) (done place : ℕ) (pass : PassView) : Type 0 where
  pub of : IsPassOf name pass
  pub by : caller pass ≡ place
  pub log : pass.log ≡ []
  pub left : pass.left ≡ pass.operations
  pub seen : place < done → seen_by pass ≡ name.before
  pub looks : looks_of pass ≤ 1
  pub unmet : done ≤ place → looks_of pass ≡ 0
  pub walks : walks_of pass ≡ 0

abbrev pub AreMet : SpaceId → ℕ → List PassView → Type 0
AreMet name done passes = (length passes ≡ length name.operations)
    × ((place : ℕ) (pass : PassView) → slice_get passes place ≡ Some pass → IsMet name done place pass)

pub met_none : (name : SpaceId) (passes : List PassView) → AreFresh (viewed_of name) name.operations passes → AreUnused passes → AreMet name 0 passes
met_none name passes fresh unused = (
  fresh.passes_are.all,
  λ place pass found.
      let f = fresh.fresh place pass found in
      let e = fresh.passes_are.each place pass found in
      let never = unused place pass found in
      record {
        of = e.0;
        by = e.1;
        log = f.log;
        left = f.left;
        seen = λ before. absurd (omega (arith, before));
        looks = omega (arith, never.0);
        unmet = λ after. never.0;
        walks = never.1;
      },
)

pub met_all : (name : SpaceId) (done : ℕ) (passes : List PassView) → AreMet name done passes → length passes ≤ done → AreOpened name passes
met_all name done passes are all = record {
  passes_are = record { all = are.0; each = λ place pass found. let m = are.1 place pass found in (m.of, m.by) };
  opened = λ place pass found.
      let m = are.1 place pass found in
      record { seen = m.seen (omega (arith, slice_get_within passes place pass found, all)); log = m.log; left = m.left; looks = m.looks; walks = m.walks };
}

pub met_more : (name : SpaceId) (done : ℕ) (passes : List PassView) (old new : PassView)
    → AreMet name done passes → done < length passes → slice_get passes done ≡ Some old → IsLater old new → seen_by new ≡ name.before
    → new.log ≡ old.log → new.left ≡ old.left → looks_of new ≡ looks_of old + 1 → walks_of new ≡ walks_of old → AreMet name (done + 1) (set passes done new)
met_more name done passes old new are within found later seen log left looks walks = (
  length-set passes done new ∙ are.0,
  λ place pass there. elim (cases_eq done place) [
    | inl here ↦
        let m = are.1 done old found in
        let is : new ≡ pass = sym (get_or-set_same passes done new pass within) ∙ ap (λ (k : ℕ). get_or (set passes done new) k pass) here
        ∙ get_or_from_slice_get (set passes done new) place pass pass there in
        subst (λ (k : ℕ). IsMet name (done + 1) k pass) here
        (subst (λ (p : PassView). IsMet name (done + 1) done p) is record {
          of = still name old new m.of later;
          by = later.by ∙ m.by;
          log = log ∙ m.log;
          left = left ∙ m.left ∙ sym later.operations;
          seen = λ before. seen;
          looks = omega (arith, looks, m.unmet (omega arith));
          unmet = λ after. absurd (omega (arith, after));
          walks = walks ∙ m.walks;
        })
    | inr other ↦
        let inside : place < length passes = omega (arith, slice_get_within (set passes done new) place pass there, length-set passes done new) in
        let same : get_or passes place pass ≡ pass = sym (get_or-set_other passes done place new pass (λ same. other (sym same)))
        ∙ get_or_from_slice_get (set passes done new) place pass pass there in
        let m = are.1 place pass (slice_get-get_or passes place pass inside ∙ ap Some same) in
        record {
          of = m.of;
          by = m.by;
          log = m.log;
          left = m.left;
          seen = λ before. m.seen (omega (arith, before, other));
          looks = m.looks;
          unmet = λ after. m.unmet (omega (arith, after));
          walks = m.walks;
        }
  ],
)

nothing_since : (journal : List Entry) → drop (length journal) journal ≡ []
nothing_since [] = refl
nothing_since (entry ∷ journal) = nothing_since journal

-- the state of a space that is opened
pub named_at_once : (name : SpaceId) (viewed : ViewedTable) (state : StateView) (passes : List PassView) (logs reserved : ℕ)
    → CanBeOpened viewed state passes logs reserved → viewed_space viewed state passes ≡ name → IsNamed name state
named_at_once name viewed state passes logs reserved is same = subst (λ (n : SpaceId). IsNamed n state) same record {
  table = is.table;
  nodes = is.nodes;
  config = is.config;
  begins = take_all (length state.journal) state.journal (omega arith);
  strangers = is.strangers;
  callers = omega (arith, is.most, length-map passes (λ (p : PassView). p.operations));
  within = subst (MadeWithin (operations_of passes)) (sym (nothing_since state.journal)) (λ caller. omega arith);
  few = is.few;
  room = is.room;
}

pub met_at : (name : SpaceId) (done : ℕ) (passes : List PassView) (d : PassView) → AreMet name done passes → done < length passes
    → IsMet name done done (get_or passes done d)
met_at name done passes d are within = are.1 done (get_or passes done d) (slice_get-get_or passes done d within)

-- the same of equal things
pub fresh_as : (viewed same : ViewedTable) (most : List ℕ) (passes shown : List PassView) → same ≡ viewed → shown ≡ passes
    → AreFresh viewed most passes → AreFresh same (operations_of shown) shown
fresh_as viewed same most passes shown same_is shown_is fresh =
    subst (λ (v : ViewedTable). AreFresh v (operations_of shown) shown) (sym same_is)
    (subst (λ (p : List PassView). AreFresh viewed (operations_of p) p) (sym shown_is)
    (subst (λ (ops : List ℕ). AreFresh viewed ops passes) (sym (operations_are viewed most passes fresh.passes_are)) fresh))

pub unused_as : (passes shown : List PassView) → shown ≡ passes → AreUnused passes → AreUnused shown
unused_as passes shown same unused = subst AreUnused (sym same) unused

pub opened_as : (name one : SpaceId) (passes back : List PassView) → one ≡ name → back ≡ passes → AreOpened one passes → AreOpened name back
opened_as name one passes back is back_is opened =
    subst (λ (n : SpaceId). AreOpened n back) is (subst (λ (p : List PassView). AreOpened one p) (sym back_is) opened)

-- an entry of a legal journal, made again
pub repeated : (config : Config) (before : List Entry) (place : ℕ) (d : Entry) (journal : List Entry) (reply : Reply) → IsLegalJournal config before
    → place < length before → journal ≡ take place before → reply ≡ (step config (after config journal) (get_or before place d).call).reply
    → journal ++ record { caller = (get_or before place d).caller; call = (get_or before place d).call; reply = reply } ∷ [] ≡ take (place + 1) before
repeated config before place d journal reply legal within journal_is is =
    let entry : Entry = get_or before place d in
    let same : reply ≡ entry.reply = is ∙ ap (λ (j : List Entry). (step config (after config j) entry.call).reply) journal_is
    ∙ sym (legal.replies place entry (slice_get-get_or before place d within)) in
    ap (λ (r : Reply). journal ++ record { caller = entry.caller; call = entry.call; reply = r } ∷ []) same
    ∙ ap (λ (j : List Entry). j ++ entry ∷ []) journal_is ∙ sym (take_more before place d within)

-- For `plan_mprotect`: mprotect(2) where its tests pass.
use Rattle.std.proofs.Common.{◌≡◌, ℕ, Bool, true, false, if◌then◌else◌, nat_lt, List, [], ◌∷◌, ◌++◌, length, Option, Some, None, ap, ◌∙◌, sym, arith}
use Rattle.std.proofs.lemmas.Bool.{ltb-false, eqb-false}
use Rattle.mm_types.specs.declared.area.Span.{Span}
use Rattle.mm_types.specs.declared.area.Prot.{Prot}
use Rattle.mm_types.specs.declared.area.Record.{Record}
use Rattle.mm_types.specs.declared.call.Counters.{Counters}
use Rattle.mm_types.specs.declared.call.Errno.{Errno}
use Rattle.mm_types.specs.declared.call.Reply.{Reply}
use Rattle.mm_types.specs.declared.config.Config.{Config}
use Rattle.area_rules.specs.declared.placement.Bounds.{Bounds}
use Rattle.area_list.specs.Areas.{area_at, page_of, IsSound}
use Rattle.area_rules.specs.Mprotect.{stop_of, stop_error, stopped_reply, protected_prefix, protect_request_rows, mprotect_unsealed_rows, mprotect_unsealed}
use Rattle.area_rules.specs.Munmap.{range_of}
use Rattle.area_rules.specs.Tables.{space_of}
use Rattle.mm_types.specs.Rows.{first_row}
use Rattle.area_rules.specs.Tables.{has_too_many_areas}
use Rattle.area_rules.proofs.ProtectLaws.{prefix_canonical}
use Rattle.area_rules.proofs.Rows.{NoneHolds, rows_false}
use Rattle.split_merge.specs.declared.plan.Change.{Change}
use Rattle.split_merge.specs.Calls.{IsPrepared, IsPlannedCall}
use Rattle.split_merge.specs.Plans.{PlanView, applied, Makes}
use Rattle.split_merge.proofs.Calling.{done, unchanged}
use Rattle.split_merge.proofs.Refusing.{range_some}

some_or : {A : Type 0} (test : Bool) (answer : A) (rest more : Option A) (found : A)
    → (rest ≡ Some found → more ≡ Some found) → (if test then Some answer else rest) ≡ Some found → (if test then Some answer else more) ≡ Some found
some_or true answer rest more found step h = h
some_or false answer rest more found step h = step h

-- the answer of a table is that of a longer one
first_row-more : {A : Type 0} (rows more : List (Bool × A)) (found : A) → first_row rows ≡ Some found → first_row (rows ++ more) ≡ Some found
first_row-more [] more found h = cc
first_row-more (row ∷ rows) more found h =
    some_or row.0 row.1 (first_row rows) (first_row (rows ++ more)) found (first_row-more rows more found) h

-- the request of a call that its tests do not answer has some bytes
pub request_some : (addr len : ℕ) → first_row (protect_request_rows addr len) ≡ None → len ≡ 0 → ⊥
unfolding protect_request_rows
request_some addr len none = eqb-false len 0 (rows_false (protect_request_rows addr len) none).1.0

-- a call with this range that no test answers
pub record Passes (config : Config) (areas : List Record) (addr len : ℕ) (prot : Prot) (range : Span) : Type 0 where
  pub pages : range ≡ range_of addr len
  pub request : first_row (protect_request_rows addr len) ≡ None
  pub fits : has_too_many_areas config (protected_prefix prot range areas) ≡ false

-- the answer of a test of the request is planned
pub answered_call : (config : Config) (areas : List Record) (addr len : ℕ) (prot : Prot) {bounds : Bounds} {most : ℕ} {old : PlanView} (new : PlanView)
    (counters : Counters) (reply : Reply)
    → IsPrepared config bounds most old → new.room ≡ old.room → IsSound config areas → new.changes ≡ []
    → first_row (protect_request_rows addr len) ≡ Some reply
    → IsPlannedCall bounds most areas (mprotect_unsealed config (space_of areas counters) addr len prot) reply old new
unfolding mprotect_unsealed mprotect_unsealed_rows
answered_call config areas addr len prot new counters reply prepared room sound none answer =
    unchanged prepared new room (space_of areas counters) (mprotect_unsealed config (space_of areas counters) addr len prot) reply
    (rw (first_row-more (protect_request_rows addr len) _ reply answer)) none sound

module _ (config : Config) (areas : List Record) (addr len : ℕ) (prot : Prot) (range : Span) (p : Passes config areas addr len prot range) where
  pub none_answers : first_row (mprotect_unsealed_rows config areas addr len prot) ≡ None
  unfolding mprotect_unsealed_rows protect_request_rows
  none_answers = let failed : NoneHolds (protect_request_rows addr len) = rows_false (protect_request_rows addr len) p.request in
      rw (failed.0, failed.1.0, failed.1.1.0, ← p.pages, p.fits)

  -- the protection is planned, and the reply is that of the error at its stop
  pub passing_call : {bounds : Bounds} {most : ℕ} {old : PlanView} (new : PlanView) (counters : Counters) (error : Option Errno) (result : Reply)
      → IsPrepared config bounds most old → new.room ≡ old.room → IsSound config areas → result ≡ stopped_reply error
      → error ≡ stop_error range (stop_of prot range areas) (area_at areas (stop_of prot range areas))
      → Makes new.changes areas (protected_prefix prot range areas)
      → IsPlannedCall bounds most areas (mprotect_unsealed config (space_of areas counters) addr len prot) result old new
  unfolding mprotect_unsealed
  passing_call new counters error result prepared room sound is stops made =
      done prepared new room areas (protected_prefix prot range areas) counters (mprotect_unsealed config (space_of areas counters) addr len prot) result
      (rw (none_answers, ← p.pages) (ap (λ reply. record { space = space_of (protected_prefix prot range areas) counters; reply = reply })
      (sym (is ∙ ap stopped_reply stops)))) made (record {
        canonical = prefix_canonical (page_of config.limit) prot range areas (omega (arith, range_some addr len range (request_some addr len p.request) p.pages)) sound.canonical;
        few = ltb-false config.areas (length (protected_prefix prot range areas)) p.fits;
      })

-- the test on the length of the list, by a plan that makes the list
pub same_length_test : (config : Config) (plan : List Change) (areas list : List Record) (result test : Bool) → Makes plan areas list
    → result ≡ nat_lt config.areas (length (applied plan areas)) → result ≡ test → has_too_many_areas config list ≡ test
same_length_test config plan areas list result test made is outcome =
    ap (λ (xs : List Record). nat_lt config.areas (length xs)) (sym made.result) ∙ sym is ∙ outcome

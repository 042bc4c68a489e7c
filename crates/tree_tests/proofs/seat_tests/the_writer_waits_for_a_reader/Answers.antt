-- For the scenario: the reply and the list are the model's.
use Rattle.std.proofs.Common.{◌≡◌, ◌∙◌, refl, sym, ap, subst, [], Some}
use Rattle.area_model.specs.Stepped.{outcome_of}
use Rattle.tree_tests.specs.Small.{ShowsOne}
use Rattle.vma_lock.specs.Seats.{lock_sight}
use Rattle.vma_lock.specs.declared.view.View.{View}
use Rattle.tree_tests.proofs.Small.{opened_is_small, small_after, small_reply}
use Rattle.tree_tests.proofs.seat_tests.the_writer_waits_for_a_reader.Goals as goal

pub enter_held-left-requires-clause-turn : goal.enter_held-left-requires-clause-turn
enter_held-left-requires-clause-turn g c =
    let fresh = c.in_ok-table.ensures.fresh 0 c.in-Some.seat c.in-Some.ensures in
    let turn = ap (λ (v : View). v.turn) c.add.ensures.view ∙ ap (λ (v : View). v.turn) fresh.1 in
    let caller = ap (λ (v : View). v.caller) c.add.ensures.view ∙ ap (λ (v : View). v.caller) fresh.1 in
    (turn ∙ ap (λ n. Some n) (sym caller), sym caller)

pub enter_held-left-requires-clause-reply : goal.enter_held-left-requires-clause-reply
enter_held-left-requires-clause-reply g c =
    let opened = c.in_ok-table.ensures.writer.1 in
    let empty : c.of-empty.result ≡ [] = cc in
    small_reply _ (lock_sight c.in_ok-table.writer) _ _ _ (outcome_of c.in_ok-stepped.stepped)
    (opened_is_small _ 1 _ _ _ c.opening-counters.ensures opened empty) (sym (ap (λ (v : View). v.config) opened)) c.in_ok-stepped.ensures

pub enter_held-left-requires-clause-shows : goal.enter_held-left-requires-clause-shows
enter_held-left-requires-clause-shows g c =
    let opened = c.in_ok-table.ensures.writer.1 in
    let empty : c.of-empty.result ≡ [] = cc in
    let stepped = c.in_ok-stepped.stepped in
    subst (λ list. ShowsOne list c.in-Some-row_of.row)
    (sym (ap (λ space. space.areas)
    (small_after _ (lock_sight c.in_ok-table.writer) (record { caller = 0; call = c.mapping-call.result; reply = stepped.reply }) _ _ _ _ (outcome_of stepped)
    (opened_is_small _ 1 _ _ _ c.opening-counters.ensures opened empty) (sym (ap (λ (v : View). v.config) opened)) refl c.in_ok-stepped.ensures)))
    c.in-Some-row_of.ensures

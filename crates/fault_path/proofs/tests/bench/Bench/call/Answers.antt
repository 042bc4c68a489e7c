-- For the test's `Bench::call`: the list after the call is the model's.
use Rattle.std.proofs.Common.{◌≡◌, ◌∙◌, ◌++◌, ◌∷◌, [], List, refl, sym, ap, subst}
use Rattle.mm_types.specs.declared.call.Entry.{Entry}
use Rattle.area_rules.specs.Tables.{space_of}
use Rattle.area_model.specs.Stepped.{outcome_of}
use Rattle.area_rules.specs.Steps.{after}
use Rattle.vma_lock.specs.Seats.{lock_sight}
use Rattle.fault_path.specs.Internal.Small.{ShowsOneArea}
use Rattle.fault_path.proofs.Small.{small_after}
use Rattle.fault_path.proofs.tests.bench.Bench.call.Goals as goal

pub enter-requires-clause-shows : goal.enter-requires-clause-shows
enter-requires-clause-shows c =
    let stepped = c.in_ok-stepped.stepped in
    subst (λ list. ShowsOneArea list c.in-Some.row)
    (sym (ap (λ space. space.areas)
    (small_after _ _ _ _ _ _ _ (outcome_of stepped) c.args.self.kept c.args.self.config_is refl c.in_ok-stepped.ensures)))
    c.in-Some.ensures

pub invariant_of-bench : goal.invariant_of-bench
invariant_of-bench c =
    let stepped = c.in_ok-stepped.stepped in
    let entered = c.in-Some-enter.ensures.entered in
    let old = lock_sight c.args.self.writer in
    let entry : Entry = record { caller = 64; call = c.args.call; reply = stepped.reply } in
    let space = small_after _ _ entry _ _ _ _ (outcome_of stepped) c.args.self.kept c.args.self.config_is refl c.in_ok-stepped.ensures in
    record {
      sits = c.in-Some-enter.ensures.pass;
      table_is = c.in-Some-enter.ensures.table;
      config_is = c.args.self.config_is ∙ sym entered.config;
      kept = record {
        closed = entered.closed;
        turn = entered.turn;
        space = subst (λ (j : List Entry). after (lock_sight c.enter.new.writer).config j ≡ space_of stepped.list stepped.counters) (sym entered.journal)
            (subst (λ config. after config (old.seen ++ entry ∷ []) ≡ space_of stepped.list stepped.counters) (sym entered.config) space);
        free = entered.free;
      };
    }

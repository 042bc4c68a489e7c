-- For `add`: its goals.
use Rattle.std.proofs.Common.{◌≡◌, ◌<◌, ◌∙◌, true, false, nat_eq, [], length, Err, unwrap_or, sym, ap, arith}
use Rattle.std.proofs.lemmas.Bool.Decides.{nat_tests}
use Rattle.std.proofs.lemmas.Option.{slice_get-get_or}
use Rattle.std.proofs.lemmas.Grind.{common_steps}
use Rattle.text_lexer.specs.declared.error.CallError.TheVariants as calls
use Rattle.maps_read.specs.Retracing.{file_at}
use Rattle.maps_read.specs.Internal.Taking.{what_taken}
use Rattle.maps_read.proofs.Kept.{file_kept}
use Rattle.maps_read.proofs.Steps.{length_map, line_of_file, area_given}
use Rattle.maps_read.proofs.TakenMemory.{same_error, may_take_unnamed, may_take_next, may_take_found}
use Rattle.maps_read.proofs.taking.Taken.add.Goals as goal

pub overflow_cast-object : goal.overflow_cast-object
overflow_cast-object c =
    let kept = file_kept (what_taken c.args.self.now) (what_taken c.place_of.new.self, c.in_ok-place.place) c.args.line.now c.requires c.in_ok-place.ensures.place in
    let within = kept.1 in let both = kept.0.both in let few = kept.0.few in omega arith

pub overflow_add-object : goal.overflow_add-object
overflow_add-object c =
    let kept = file_kept (what_taken c.args.self.now) (what_taken c.place_of.new.self, c.in_ok-place.place) c.args.line.now c.requires c.in_ok-place.ensures.place in
    let within = kept.1 in let both = kept.0.both in let few = kept.0.few in omega arith

pub index-requires : goal.index-requires
index-requires c =
    let kept = file_kept (what_taken c.args.self.now) (what_taken c.place_of.new.self, c.in_ok-place.place) c.args.line.now c.requires c.in_ok-place.ensures.place in
    let within : c.in_ok-place.place < length c.place_of.new.self.opened.items = kept.1 in grind (arith, common_steps)

pub push_area-requires-2-clause-files : goal.push_area-requires-2-clause-files
push_area-requires-2-clause-files c =
    let kept = file_kept (what_taken c.args.self.now) (what_taken c.place_of.new.self, c.in_ok-place.place) c.args.line.now c.requires c.in_ok-place.ensures.place in
    let one = kept.0.one c.in_ok-place.place c.index.result.now kept.1 in
    omega (arith, ap length c.index.ensures, one)

pub push_area-requires-2-clause-object : goal.push_area-requires-2-clause-object
push_area-requires-2-clause-object c =
    let kept = file_kept (what_taken c.args.self.now) (what_taken c.place_of.new.self, c.in_ok-place.place) c.args.line.now c.requires c.in_ok-place.ensures.place in
    let within = kept.1 in let both = kept.0.both in let few = kept.0.few in omega arith

pub returns-clause-line : goal.returns-clause-line
returns-clause-line c =
    let kept = file_kept (what_taken c.args.self.now) (what_taken c.place_of.new.self, c.in_ok-place.place) c.args.line.now c.requires c.in_ok-place.ensures.place in
    let some : nat_eq (length c.args.line.now.name) 0 ≡ false = grind (arith, common_steps, nat_tests) in
    let file : file_at (what_taken c.place_of.new.self) c.in_ok-place.place ≡ c.index.result.now =
    ap (λ o. unwrap_or o []) (slice_get-get_or c.place_of.new.self.opened.items c.in_ok-place.place c.index.result.now kept.1) ∙ sym c.index.ensures in
    rw (line_of_file (what_taken c.args.self.now) (what_taken c.place_of.new.self) c.in_ok-place.place c.args.line.now c.args.text.now some c.in_ok-place.ensures.place, file)
    (area_given c.push_area-2.result _ (what_taken c.place_of.new.self) _ c.push_area-2.ensures.area)

pub returns-then-is_empty-clause-memory : goal.returns-then-is_empty-clause-memory
returns-then-is_empty-clause-memory c = λ lacks.
    let none : nat_eq (length c.args.line.now.name) 0 ≡ true = grind (arith, common_steps, nat_tests) in
    may_take_unnamed (what_taken c.args.self.now) c.args.line.now none (c.push_area.ensures.memory lacks)

pub returns-in_err-place-clause-memory : goal.returns-in_err-place-clause-memory
returns-in_err-place-clause-memory c = λ lacks.
    let some : nat_eq (length c.args.line.now.name) 0 ≡ false = grind (arith, common_steps, nat_tests) in
    let error = c.in_err-place.field-0.0 in
    let same : error ≡ calls.NoMemory = same_error c.from_residual.result error calls.NoMemory c.from_residual.ensures.1 lacks in
    may_take_next (what_taken c.args.self.now) c.args.line.now some c.in_err-place.ensures.known
    (omega (arith, length_map (λ line. line.now) c.args.self.now.named.items, c.in_err-place.ensures.memory (ap Err same)))

pub returns-clause-memory : goal.returns-clause-memory
returns-clause-memory c = λ lacks.
    let some : nat_eq (length c.args.line.now.name) 0 ≡ false = grind (arith, common_steps, nat_tests) in
    may_take_found (what_taken c.args.self.now) (what_taken c.place_of.new.self, c.in_ok-place.place) c.args.line.now some c.in_ok-place.ensures.place
    (c.push_area-2.ensures.memory lacks)

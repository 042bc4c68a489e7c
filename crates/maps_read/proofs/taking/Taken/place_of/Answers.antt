-- For `place_of`: its goals.
use Rattle.std.proofs.Common.{◌≡◌, ◌∙◌, ℕ, Some, None, is_some, Ok, position, length, sym, ap, arith}
use Rattle.maps_read.specs.declared.maps.MapsLine.{MapsLine}
use Rattle.maps_read.specs.FileLines.{same_file, first_line_of_file}
use Rattle.maps_read.specs.Internal.Taking.{what_taken}
use Rattle.maps_read.proofs.Steps.{position_map, length_map, file_so_far, file_next, file_fails}
use Rattle.maps_read.proofs.taking.Taken.place_of.Goals as goal

pub returns-in-Some-clause-place : goal.returns-in-Some-clause-place
returns-in-Some-clause-place c =
    let at : first_line_of_file (what_taken c.args.self.now).named c.args.line.now ≡ Some c.in-Some.place =
    position_map (λ (other : MapsLine). same_file other c.args.line.now) (λ line. line.now) c.args.self.now.named.items
    ∙ ap (position (λ other. same_file other.now c.args.line.now)) (sym c.deref.ensures.value) ∙ sym c.file_place.ensures ∙ c.in-Some.is in
    file_so_far (what_taken c.args.self.now) c.args.line.now c.in-Some.place at

pub returns-in-Ok-clause-place : goal.returns-in-Ok-clause-place
returns-in-Ok-clause-place c =
    let at : first_line_of_file (what_taken c.args.self.now).named c.args.line.now ≡ None =
    position_map (λ (other : MapsLine). same_file other c.args.line.now) (λ line. line.now) c.args.self.now.named.items
    ∙ ap (position (λ other. same_file other.now c.args.line.now)) (sym c.deref.ensures.value) ∙ sym c.file_place.ensures ∙ c.in-None.is in
    let count : length (what_taken c.args.self.now).named ≡ c.len-place.result =
    omega (arith, length_map (λ line. line.now) c.args.self.now.named.items, ap length c.deref.ensures.value, c.deref.ensures.len, c.len-place.ensures) in
    file_next (what_taken c.args.self.now) (what_taken c.add_file.new.self) c.args.line.now at c.in-Ok.ensures.file
    ∙ ap (λ (n : ℕ). Ok (what_taken c.add_file.new.self, n)) count

pub returns-in-Err-clause-place : goal.returns-in-Err-clause-place
returns-in-Err-clause-place c =
    let at : first_line_of_file (what_taken c.args.self.now).named c.args.line.now ≡ None =
    position_map (λ (other : MapsLine). same_file other c.args.line.now) (λ line. line.now) c.args.self.now.named.items
    ∙ ap (position (λ other. same_file other.now c.args.line.now)) (sym c.deref.ensures.value) ∙ sym c.file_place.ensures ∙ c.in-None.is in
    file_fails (what_taken c.args.self.now) c.args.line.now c.in-Err.error at c.in-Err.ensures.file

pub returns-in-Err-clause-known : goal.returns-in-Err-clause-known
returns-in-Err-clause-known c =
    let at : first_line_of_file (what_taken c.args.self.now).named c.args.line.now ≡ None =
    position_map (λ (other : MapsLine). same_file other c.args.line.now) (λ line. line.now) c.args.self.now.named.items
    ∙ ap (position (λ other. same_file other.now c.args.line.now)) (sym c.deref.ensures.value) ∙ sym c.file_place.ensures ∙ c.in-None.is in
    λ known. absurd (cc (sym (ap is_some at) ∙ known))

-- The proof of `Progress::is_answered`: no line has the number, and so none is answered; its caller has no line left, or the next one has a higher number.
use Rattle.std.proofs.Common.{List, refl, nat_lt}
use Rattle.std.specs.Prelude.{◌↔◌, IsTrue, true, false}
use Rattle.std.proofs.lemmas.Bool.{lt-ltb, ltb-true, false≢true}
use Rattle.trace_reader.specs.declared.trace.TraceLine.{TraceLine}
use Rattle.history.specs.Histories.{StandsAmong}
use Rattle.history.proofs.Advances.{of_fields, own_view}
use Rattle.history.proofs.Told.{none_numbered, all_told, next_later, next_not_later}
use Rattle.history.proofs.progress.Progress.is_answered.Goals as goal

pub returns-in_default : goal.returns-in_default
returns-in_default c = λ lines before is.
    of_fields (λ (l : List TraceLine). IsTrue false ↔ StandsAmong l before c.args.number) lines before c.self.inside c.args.self.now c.self.view_is
    c.self.invariant is (λ at. (
      λ yes. absurd (false≢true yes),
      λ stands. absurd (none_numbered c.self.inside.lines.now before c.args.number c.in_default.ensures.none stands),
    ))

pub returns-in-Some-next_line : goal.returns-in-Some-next_line
returns-in-Some-next_line c = λ lines before is.
    of_fields (λ (l : List TraceLine). IsTrue (nat_lt c.args.number c.in-Some-next_line.next.number) ↔ StandsAmong l before c.args.number) lines before
    c.self.inside c.args.self.now c.self.view_is c.self.invariant is (λ at.
    let told = c.in-Some-next_line.ensures c.self.inside.lines.now before (own_view before c.self.inside c.args.self.now c.self.view_is at) in
    let owner = c.caller-caller.ensures.caller c.self.inside.lines.now at.placed.counted in (
      λ yes. next_later c.self.inside.lines.now before c.in-Some.line c.in-Some-next_line.next c.args.number c.caller-caller.result
          at.placed.numbered c.in-Some.ensures.found.0 c.in-Some.ensures.found.1 owner told
          (ltb-true c.args.number c.in-Some-next_line.next.number yes),
      λ stands. lt-ltb c.args.number c.in-Some-next_line.next.number
          (next_not_later c.self.inside.lines.now before c.in-Some.line c.in-Some-next_line.next c.args.number c.caller-caller.result
          at.placed.numbered c.in-Some.ensures.found.0 c.in-Some.ensures.found.1 owner told stands),
    ))

pub returns-in-None : goal.returns-in-None
returns-in-None c = λ lines before is.
    of_fields (λ (l : List TraceLine). IsTrue true ↔ StandsAmong l before c.args.number) lines before c.self.inside c.args.self.now c.self.view_is
    c.self.invariant is (λ at. (
      λ yes. all_told c.self.inside.lines.now before c.in-Some.line c.args.number c.caller-caller.result
          c.in-Some.ensures.found.0 c.in-Some.ensures.found.1 (c.caller-caller.ensures.caller c.self.inside.lines.now at.placed.counted)
          (c.in-None.ensures c.self.inside.lines.now before (own_view before c.self.inside c.args.self.now c.self.view_is at)),
      λ stands. refl,
    ))

-- The proof of `Progress::line_to_come`: no line has the number, its caller has no line left, another comes next, or that one does.
use Rattle.std.proofs.Common.{ℕ, List, refl, sym, subst, Option}
use Rattle.std.specs.Prelude.{MatchOption}
use Rattle.std.proofs.lemmas.Bool.{false≢true}
use Rattle.trace_reader.specs.declared.trace.TraceLine.{TraceLine}
use Rattle.history.specs.declared.items.Item.{Item}
use Rattle.history.specs.Coming.{IsToCome, NoneIsToCome}
use Rattle.history.proofs.Advances.{of_fields, own_view}
use Rattle.history.proofs.Coming.{none_numbered, none_left, another, comes}
use Rattle.history.proofs.progress.Progress.line_to_come.Goals as goal

-- what is to be shown of a line that was found, or of none
abbrev Told : ℕ → Option (TraceLine × ℕ) → List Item → List TraceLine → Type 0
Told number found before lines = MatchOption found (NoneIsToCome lines before number) (λ found. IsToCome lines before number found.0 found.1)

pub returns-in_err-line : goal.returns-in_err-line
returns-in_err-line c = λ lines before is.
    of_fields (Told c.args.number c.from_residual.result before) lines before c.self.inside c.args.self.now c.self.view_is c.self.invariant is (λ at.
    subst (λ (o : Option (TraceLine × ℕ)). Told c.args.number o before c.self.inside.lines.now) (sym c.from_residual.ensures)
    (none_numbered c.self.inside.lines.now before c.args.number c.in_err-line.ensures.none))

pub returns-in_err-next : goal.returns-in_err-next
returns-in_err-next c = λ lines before is.
    of_fields (Told c.args.number c.from_residual-in_err-next.result before) lines before c.self.inside c.args.self.now c.self.view_is c.self.invariant is
    (λ at. subst (λ (o : Option (TraceLine × ℕ)). Told c.args.number o before c.self.inside.lines.now) (sym c.from_residual-in_err-next.ensures)
    (none_left c.self.inside.lines.now before c.args.number c.in_ok-line.line c.caller-caller.result at.placed.numbered
    c.in_ok-line.ensures.found.0 c.in_ok-line.ensures.found.1 (c.caller-caller.ensures.caller c.self.inside.lines.now at.placed.counted)
    (c.in_err-next.ensures c.self.inside.lines.now before (own_view before c.self.inside c.args.self.now c.self.view_is at))))

pub returns-then-next-number : goal.returns-then-next-number
returns-then-next-number c = λ lines before is.
    of_fields (λ (l : List TraceLine). NoneIsToCome l before c.args.number) lines before c.self.inside c.args.self.now c.self.view_is c.self.invariant is
    (λ at. another c.self.inside.lines.now before c.args.number c.in_ok-line.line c.in_ok-next.next c.caller-caller.result at.placed.numbered
    c.in_ok-line.ensures.found.0 c.in_ok-line.ensures.found.1 (c.caller-caller.ensures.caller c.self.inside.lines.now at.placed.counted)
    (c.in_ok-next.ensures c.self.inside.lines.now before (own_view before c.self.inside c.args.self.now c.self.view_is at))
    (λ same told. c.if-next-number.true same))

pub returns-then-not-is_told : goal.returns-then-not-is_told
returns-then-not-is_told c = λ lines before is.
    of_fields (λ (l : List TraceLine). NoneIsToCome l before c.args.number) lines before c.self.inside c.args.self.now c.self.view_is c.self.invariant is
    (λ at.
    let own = own_view before c.self.inside c.args.self.now c.self.view_is at in
    another c.self.inside.lines.now before c.args.number c.in_ok-line.line c.in_ok-next.next c.caller-caller.result at.placed.numbered
    c.in_ok-line.ensures.found.0 c.in_ok-line.ensures.found.1 (c.caller-caller.ensures.caller c.self.inside.lines.now at.placed.counted)
    (c.in_ok-next.ensures c.self.inside.lines.now before own)
    (λ same told. false≢true ((c.if-not-is_told.ensures c.self.inside.lines.now before own).1 told)))

pub returns : goal.returns
returns c = λ lines before is.
    of_fields (λ (l : List TraceLine). IsToCome l before c.args.number c.in_ok-next.next c.caller-caller.result) lines before c.self.inside
    c.args.self.now c.self.view_is c.self.invariant is (λ at.
    let own = own_view before c.self.inside c.args.self.now c.self.view_is at in
    comes c.self.inside.lines.now before c.args.number c.in_ok-next.next c.caller-caller.result
    (c.in_ok-next.ensures c.self.inside.lines.now before own) c.if-next-number.false
    ((c.if-not-is_told.ensures c.self.inside.lines.now before own).0 refl))

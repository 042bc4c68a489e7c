-- The proof of `Progress::next_line`: where each look-up leads.
use Rattle.std.proofs.Common.{◌≡◌, ◌∙◌, List}
use Rattle.trace_reader.specs.declared.trace.TraceLine.{TraceLine}
use Rattle.history.specs.Checking.{next_line}
use Rattle.history.proofs.Advances.{of_fields, read_at, option_copied-slice_get, next_found}
use Rattle.history.proofs.progress.Progress.next_line.Goals as goal

pub returns : goal.returns
returns c = λ lines before is.
    of_fields (λ (l : List TraceLine). c.copied.result ≡ next_line l before c.args.caller) lines before c.self.inside c.args.self.now c.self.view_is
    c.self.invariant is (λ at.
    c.copied.ensures ∙ option_copied-slice_get c.self.inside.lines.now c.in_ok-place.place.now c.get-4.result c.get-4.ensures.lookup.3
    ∙ next_found before c.self.inside c.args.caller c.in_ok-own.own.now c.in_ok-answered.answered.now c.in_ok-place.place.now at
    (read_at _ _ _ _ c.deref.ensures.value c.in_ok-own.ensures.lookup.3.0 c.in_ok-own.ensures.lookup.1)
    (read_at _ _ _ _ c.deref-2.ensures.value c.in_ok-answered.ensures.lookup.3.0 c.in_ok-answered.ensures.lookup.1)
    (read_at _ _ _ _ c.deref-3.ensures.value c.in_ok-place.ensures.lookup.3.0 c.in_ok-place.ensures.lookup.1))

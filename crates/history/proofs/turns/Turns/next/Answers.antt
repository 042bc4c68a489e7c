-- For `Turns::next`: its goals.
use Rattle.std.proofs.Common.{◌∙◌, refl, sym}
use Rattle.history.proofs.Turning.{call_taken, none_told, pairs_taken, read_taken}
use Rattle.history.proofs.turns.Turns.next.Goals as goal

pub invariant_of-self : goal.invariant_of-self
invariant_of-self c = record {
  pairs = pairs_taken c.self.inside.log.now c.in-Some.read.now c.in-Some.rest.now c.in-Some.ensures.0 c.self.invariant.pairs;
  counted = c.self.invariant.counted;
}

pub returns-in-Some : goal.returns-in-Some
returns-in-Some c =
    sym c.self.view_is ∙ read_taken c.self.inside.version c.self.inside.journal.now c.self.inside.log.now c.in-Some.read.now c.in-Some.rest.now
    c.in-Some.ensures.0 c.self.invariant.pairs c.in-Some.ensures.1

pub returns : goal.returns
returns c =
    sym c.self.view_is ∙ call_taken c.self.inside.version c.self.inside.journal.now c.self.inside.log.now c.in-Some-split_first.entry.now c.in-Some-split_first.rest.now
    c.in-Some-split_first.ensures.cases.0 c.self.invariant.pairs c.in_default.ensures.0

pub returns-in_default-split_first : goal.returns-in_default-split_first
returns-in_default-split_first c =
    let none = sym c.self.view_is ∙ none_told c.self.inside.version c.self.inside.journal.now c.self.inside.log.now c.in_default-split_first.ensures.cases
    c.in_default.ensures.1 in (none, none)

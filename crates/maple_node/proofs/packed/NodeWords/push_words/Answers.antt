-- For `push_words`: zeros stood where the words are put.
use Rattle.std.proofs.Common.{◌++◌, length, List, ℕ, ap, ◌∙◌, arith}
use Rattle.std.proofs.lemmas.List.{length-take-le}
use Rattle.maple_node.proofs.Padded.{added_words}
use Rattle.maple_node.proofs.packed.NodeWords.push_words.Goals as goal

pub invariant_of-self : goal.invariant_of-self
invariant_of-self c =
    let inside = c.self.inside in
    let fits = c.self.invariant.fits in
    let long = length-take-le inside.used inside.words (omega (arith, c.self.told, fits)) in
    let view = ap (λ (ws : List ℕ). length ws) c.self.view_is in
    let same = ap (λ (ws : List ℕ). length ws) c.copy_from_slice.ensures.after in
    (added_words inside.used (length c.args.words.now) inside.words c.copy_from_slice.new.self c.self.invariant c.self.told same (omega arith)).padded_so

pub returns : goal.returns
returns c =
    let inside = c.self.inside in
    let fits = c.self.invariant.fits in
    let long = length-take-le inside.used inside.words (omega (arith, c.self.told, fits)) in
    let view = ap (λ (ws : List ℕ). length ws) c.self.view_is in
    let same = ap (λ (ws : List ℕ). length ws) c.copy_from_slice.ensures.after in
    (added_words inside.used (length c.args.words.now) inside.words c.copy_from_slice.new.self c.self.invariant c.self.told same (omega arith)).view
    ∙ ap (λ (ws : List ℕ). ws ++ c.copy_from_slice.new.self) c.self.view_is
    ∙ ap (λ (ws : List ℕ). c.args.self.now ++ ws) c.copy_from_slice.ensures.after

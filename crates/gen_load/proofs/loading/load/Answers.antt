-- The proof of `load`: the text grows line by line to that of the load.
use Rattle.std.proofs.Common.{◌≡◌, ◌++◌, ℕ, arith, codes, subst, sym}
use Rattle.std.proofs.lemmas.Grind.{common_steps}
use Rattle.trace_reader.specs.LineTexts.{line_text}
use Rattle.gen_load.specs.Loads.{draw_of, drawn_line}
use Rattle.gen_load.proofs.Written.{IsLoading, loading_none, loading_more, loading_all}
use Rattle.gen_load.proofs.loading.load.Goals as goal

pub loop-init : goal.loop-init
loop-init c =
    let header : c.extend_from_slice.new.self.items ≡ codes "vmatrace 1\n" = grind (arith, common_steps) in
    subst (λ (draws : ℕ). IsLoading c.extend_from_slice.new.self.items 0 c.args.count draws c.args.seed) (sym c.new-draws.ensures) (loading_none _ _ _ header)

pub loop-preserved : goal.loop-preserved
loop-preserved c =
    let next = c.below-draw.new.self in
    let adds : c.push_line.new.text.items ≡ c.loop.text.items ++ line_text (drawn_line 0 (draw_of next)) =
    grind (arith, common_steps) in
    loading_more _ _ _ _ c.loop.draws _ _ c.loop.invariant c.loop-test.true c.below-draw.ensures.state adds

pub returns : goal.returns
returns c = loading_all _ _ _ _ _ c.loop.invariant c.loop-test.false

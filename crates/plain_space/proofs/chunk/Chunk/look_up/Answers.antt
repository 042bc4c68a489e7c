-- For `Chunk::look_up` of chunk.rt: its goals.
use Rattle.std.proofs.Common.{◌≤◌, ◌<◌, ◌+◌, ap, arith}
use Rattle.std.proofs.lemmas.Bool.{false≢true}
use Rattle.std.proofs.lemmas.List.Elements.{All-from_recursion}
use Rattle.mm_types.specs.declared.area.Record.{Record}
use Rattle.area_list.proofs.Elements.{Each-weaker}
use Rattle.plain_space.specs.Internal.Chunks.{chunk_low, chunk_high}
use Rattle.plain_space.specs.Internal.Gaps.{widest_gap}
use Rattle.plain_space.proofs.Parting.{below_high, rise_pairs}
use Rattle.plain_space.proofs.Searching.{rise_by}
use Rattle.plain_space.proofs.Skipping.{skipped_up}
use Rattle.plain_space.proofs.chunk.Chunk.look_up.Goals as goal

pub returns-then-saturating_sub-pages : goal.returns-then-saturating_sub-pages
returns-then-saturating_sub-pages c =
    let areas = c.args.self.now in
    let narrow : widest_gap areas < c.args.pages = omega (arith, c.if-self-pages.true, c.self.invariant.gap, ap widest_gap c.self.view_is) in
    let below : chunk_low areas < c.args.start + c.args.pages = omega (arith, c.low.ensures, c.saturating_sub.ensures, c.if-saturating_sub-pages.true) in
    record {
      within = omega (arith, c.max.ensures);
      none = λ other from before. skipped_up c.args.pages areas c.args.start other narrow c.requires.some below from
          (omega (arith, c.max.ensures, c.high.ensures, from, before));
      passed = λ not. All-from_recursion (λ area. area.span.hi ≤ c.max.result) areas
          (Each-weaker (λ area. area.span.hi ≤ chunk_high areas) (λ area. area.span.hi ≤ c.max.result)
          (λ area order. omega (arith, order, c.max.ensures, c.high.ensures)) areas
          (below_high areas (rise_pairs (λ (a : Record). a.span.hi) areas (rise_by (λ (a : Record). a.span.hi) areas c.requires.ascend.ends))));
      found = λ is. absurd (false≢true is);
    }

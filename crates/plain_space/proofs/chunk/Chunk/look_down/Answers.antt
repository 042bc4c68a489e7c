-- For `Chunk::look_down` of chunk.rt: its goals.
use Rattle.std.proofs.Common.{◌≤◌, ◌<◌, ◌+◌, ap, arith}
use Rattle.std.proofs.lemmas.Bool.{false≢true}
use Rattle.std.proofs.lemmas.List.Elements.{All-from_recursion}
use Rattle.mm_types.specs.declared.area.Record.{Record}
use Rattle.area_list.proofs.Elements.{Each-weaker}
use Rattle.plain_space.specs.Internal.Chunks.{chunk_low, chunk_high}
use Rattle.plain_space.specs.Internal.Gaps.{widest_gap}
use Rattle.plain_space.proofs.Parting.{above_low, rise_pairs}
use Rattle.plain_space.proofs.Ranging.{rise_from_ascend}
use Rattle.plain_space.proofs.Skipping.{skipped_down}
use Rattle.plain_space.proofs.chunk.Chunk.look_down.Goals as goal

pub returns-then-saturating_sub-pages : goal.returns-then-saturating_sub-pages
returns-then-saturating_sub-pages c =
    let areas = c.args.self.now in
    let narrow : widest_gap areas < c.args.pages = omega (arith, c.if-self-pages.true, c.self.invariant.gap, ap widest_gap c.self.view_is) in
    let above : c.args.end < chunk_high areas + c.args.pages = omega (arith, c.high.ensures, c.saturating_sub.ensures, c.if-saturating_sub-pages.true) in
    record {
      within = omega (arith, c.min.ensures);
      none = λ start past within. skipped_down c.args.pages areas c.args.end start narrow c.requires.some above
          (omega (arith, c.min.ensures, c.low.ensures, past, within)) within;
      passed = λ not. All-from_recursion (λ area. c.min.result ≤ area.span.lo) areas
          (Each-weaker (λ area. chunk_low areas ≤ area.span.lo) (λ area. c.min.result ≤ area.span.lo)
          (λ area order. omega (arith, order, c.min.ensures, c.low.ensures)) areas
          (above_low areas (rise_pairs (λ (a : Record). a.span.lo) areas (rise_from_ascend areas c.requires.ascend.begins))));
      found = λ is. absurd (false≢true is);
    }

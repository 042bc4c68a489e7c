-- For `Store::insert` of store.rt: its goals.
use Rattle.std.proofs.Common.{◌≡◌, ◌<◌, ◌-◌, ◌==◌, false, ℕ, [], nat_lt, List, length, get_or, sym, ap, ◌∙◌, arith}
use Rattle.std.specs.List.{prefix_len}
use Rattle.std.proofs.lemmas.Bool.Decides.{nat_tests}
use Rattle.mm_types.specs.declared.area.Record.{Record}
use Rattle.plain_space.specs.Internal.Chunks.{areas_in_chunks, chunk_low}
use Rattle.plain_space.proofs.Locating.{comes_into, come_into, pairs_within}
use Rattle.plain_space.proofs.Parting.{rise_pairs, pairs_rise, NotAbove}
use Rattle.plain_space.proofs.store.Store.insert.Goals as goal

some_chunks : (count : ℕ) → (count == 0) ≡ false → 0 < count
some_chunks count is = grind (arith, nat_tests)

pub insert_at-requires-clause-rise : goal.insert_at-requires-clause-rise
insert_at-requires-clause-rise c =
    let chunks : List (List Record) = c.args.self.now.chunks.items in
    let new = c.args.new in
    let len : c.args.self.now.chunks.len ≡ length chunks = c.args.self.now.chunks.ok.0 in
    let some = some_chunks c.args.self.now.chunks.len (sym c.is_empty.ensures ∙ c.if-is_empty.false) in
    let is = c.beginning_below-count.ensures.value ∙ ap (λ (list : List (List Record)). prefix_len (λ chunk. nat_lt (chunk_low chunk) new.span.lo) list) c.as_slice.ensures.value in
    let at = comes_into chunks new.span.lo c.saturating_sub.result (λ k d within. (c.requires.sane.filled k d within).0) c.requires.rise (omega (arith, len, some))
    (c.saturating_sub.ensures ∙ ap (λ n. n - 1) is) in
    pairs_rise (λ (a : Record). a.span.lo) (get_or chunks c.saturating_sub.result [])
    (pairs_within NotAbove chunks c.saturating_sub.result at.within (rise_pairs (λ (a : Record). a.span.lo) (areas_in_chunks chunks) c.requires.rise))

pub returns-else-is_empty-clause-areas : goal.returns-else-is_empty-clause-areas
returns-else-is_empty-clause-areas c =
    let chunks : List (List Record) = c.args.self.now.chunks.items in
    let new = c.args.new in
    let len : c.args.self.now.chunks.len ≡ length chunks = c.args.self.now.chunks.ok.0 in
    let some = some_chunks c.args.self.now.chunks.len (sym c.is_empty.ensures ∙ c.if-is_empty.false) in
    let is = c.beginning_below-count.ensures.value ∙ ap (λ (list : List (List Record)). prefix_len (λ chunk. nat_lt (chunk_low chunk) new.span.lo) list) c.as_slice.ensures.value in
    let at = comes_into chunks new.span.lo c.saturating_sub.result (λ k d within. (c.requires.sane.filled k d within).0) c.requires.rise (omega (arith, len, some))
    (c.saturating_sub.ensures ∙ ap (λ n. n - 1) is) in
    c.insert_at.ensures.areas ∙ come_into chunks new c.saturating_sub.result at

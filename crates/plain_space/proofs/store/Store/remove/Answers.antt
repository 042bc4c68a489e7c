-- For `Store::remove` of store.rt: its goals.
use Rattle.std.proofs.Common.{◌-◌, nat_le, List, ap, ◌∙◌, arith}
use Rattle.std.specs.List.{prefix_len}
use Rattle.mm_types.specs.declared.area.Record.{Record}
use Rattle.plain_space.specs.Internal.Chunks.{chunk_low}
use Rattle.plain_space.proofs.Locating.{some_begins, goes_from, ascends_within, member_within, go_from}
use Rattle.plain_space.proofs.store.Store.remove.Goals as goal

pub overflow_sub-count : goal.overflow_sub-count
overflow_sub-count c =
    let chunks = c.args.self.now.chunks.items in
    let old = c.args.old.now in
    let is = c.beginning_by-count.ensures.value ∙ ap (λ (list : List (List Record)). prefix_len (λ chunk. nat_le (chunk_low chunk) old.span.lo) list) c.as_slice.ensures.value in
    omega (arith, is, some_begins chunks old (λ k d within. (c.requires.sane.filled k d within).0) c.requires.ascend c.requires.member)

pub remove_at-requires-clause-ascend : goal.remove_at-requires-clause-ascend
remove_at-requires-clause-ascend c =
    let chunks = c.args.self.now.chunks.items in
    let old = c.args.old.now in
    let is = c.beginning_by-count.ensures.value ∙ ap (λ (list : List (List Record)). prefix_len (λ chunk. nat_le (chunk_low chunk) old.span.lo) list) c.as_slice.ensures.value in
    let at = goes_from chunks old (λ k d within. (c.requires.sane.filled k d within).0) c.requires.ascend c.requires.member
    (c.beginning_by-count.result - 1) (ap (λ n. n - 1) is) in
    ascends_within chunks old (λ k d within. (c.requires.sane.filled k d within).0) c.requires.ascend c.requires.member (c.beginning_by-count.result - 1) at.within

pub remove_at-requires-clause-member : goal.remove_at-requires-clause-member
remove_at-requires-clause-member c =
    let chunks = c.args.self.now.chunks.items in
    let old = c.args.old.now in
    let is = c.beginning_by-count.ensures.value ∙ ap (λ (list : List (List Record)). prefix_len (λ chunk. nat_le (chunk_low chunk) old.span.lo) list) c.as_slice.ensures.value in
    let at = goes_from chunks old (λ k d within. (c.requires.sane.filled k d within).0) c.requires.ascend c.requires.member
    (c.beginning_by-count.result - 1) (ap (λ n. n - 1) is) in
    member_within chunks old (λ k d within. (c.requires.sane.filled k d within).0) c.requires.ascend c.requires.member (c.beginning_by-count.result - 1) at

pub returns-clause-areas : goal.returns-clause-areas
returns-clause-areas c =
    let chunks = c.args.self.now.chunks.items in
    let old = c.args.old.now in
    let is = c.beginning_by-count.ensures.value ∙ ap (λ (list : List (List Record)). prefix_len (λ chunk. nat_le (chunk_low chunk) old.span.lo) list) c.as_slice.ensures.value in
    let at = goes_from chunks old (λ k d within. (c.requires.sane.filled k d within).0) c.requires.ascend c.requires.member
    (c.beginning_by-count.result - 1) (ap (λ n. n - 1) is) in
    c.remove_at.ensures.areas
    ∙ go_from chunks old (λ k d within. (c.requires.sane.filled k d within).0) c.requires.ascend c.requires.member (c.beginning_by-count.result - 1) at

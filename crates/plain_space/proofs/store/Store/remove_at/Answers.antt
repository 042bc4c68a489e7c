-- For `Store::remove_at` of store.rt: its goals.
use Rattle.std.proofs.Common.{◌≡◌, ◌≤◌, ◌<◌, [], ◌∷◌, List, length, set, not, refl, sym, ap, ◌∙◌, arith}
use Rattle.std.proofs.lemmas.Bool.{leb-true, leb-false}
use Rattle.std.proofs.lemmas.List.{get_or_read, get_or-set_same, length-set}
use Rattle.std.proofs.lemmas.List.Elements.{All-set}
use Rattle.mm_types.specs.declared.area.Record.{Record}
use Rattle.split_merge.specs.Plans.{starts_alike, without}
use Rattle.split_merge.proofs.Lists.{length-filter_at_most}
use Rattle.plain_space.specs.Internal.Chunks.{areas_in_chunks, IsFilled}
use Rattle.plain_space.proofs.Filling.{emptied_areas}
use Rattle.plain_space.proofs.store.Store.remove_at.Goals as goal

pub returns-then-is_empty-clause-areas : goal.returns-then-is_empty-clause-areas
returns-then-is_empty-clause-areas c =
    let chunks : List (List Record) = c.args.self.now.chunks.items in
    let place = c.args.place in
    let len : c.args.self.now.chunks.len ≡ length chunks = c.args.self.now.chunks.ok.0 in
    let within : place < length chunks = omega (arith, len, c.requires.within) in
    let read = get_or_read chunks place c.index_mut-chunk.result.now within c.index_mut-chunk.ensures.value [] in
    let changed : List (List Record) = set chunks place c.remove.new.self in
    let inside : place < length changed = omega (arith, within, length-set chunks place c.remove.new.self) in
    let empty : length c.remove.new.self ≤ 0 = leb-true (length c.remove.new.self) 0 (sym c.is_empty.ensures ∙ c.if-is_empty.true) in
    ap areas_in_chunks c.remove-empty.ensures.by_index.2
    ∙ emptied_areas changed place inside (omega (arith, empty, ap length (get_or-set_same chunks place c.remove.new.self [] within)))
    ∙ ap (λ chunk. areas_in_chunks (set chunks place chunk)) (c.remove.ensures ∙ ap (without (c.args.old.now ∷ [])) read)

pub returns-else-is_empty-clause-stays : goal.returns-else-is_empty-clause-stays
returns-else-is_empty-clause-stays c =
    let chunks : List (List Record) = c.args.self.now.chunks.items in
    let place = c.args.place in
    let len : c.args.self.now.chunks.len ≡ length chunks = c.args.self.now.chunks.ok.0 in
    let within : place < length chunks = omega (arith, len, c.requires.within) in
    let read = get_or_read chunks place c.index_mut-chunk.result.now within c.index_mut-chunk.ensures.value [] in
    let some : 0 < length c.remove.new.self = leb-false (length c.remove.new.self) 0 (sym c.is_empty.ensures ∙ c.if-is_empty.false) in
    let shorter = length-filter_at_most (λ area. not (starts_alike area c.args.old.now)) c.index_mut-chunk.result.now in
    let full = (c.requires.sane.filled place [] within).1 in
    record {
      sane = record {
        roomy = record { chunks = c.requires.sane.roomy.chunks; spares = c.requires.sane.roomy.spares; enough = c.requires.sane.roomy.enough };
        filled = All-set IsFilled chunks place c.remove.new.self (some, omega (arith, ap length c.remove.ensures, shorter, ap length read, full)) c.requires.sane.filled;
      };
      room = refl;
    }
